-- What callers may count on in each input that a text says. Key law: `inputs_are_valid`.
use Rattle.std.specs.Prelude.{◌≡◌, ◌≢◌, ◌⊎◌, ℕ, ◌+◌, ◌<◌, ◌≤◌, Bool, true, false, List, [], ◌∷◌, length, All, slice_index, slice_index_or}
use Rattle.net_graph.specs.Network.{IsEdge}
use Rattle.net_graph.specs.Walks.{IsReached, everywhere}
use Rattle.net_reader.specs.declared.said.Call.{Call}
use Rattle.net_reader.specs.declared.said.Call.TheVariants as calls
use Rattle.net_reader.specs.Input.{Contents}
use Rattle.net_reader.specs.Table.{most_nodes, most_calls}

-- the script of a subscriber that is here, and off or not, among n nodes: moves go to another node
-- of the network and are made while it is on; switches come in the second format alone, each turns
-- it round, and it looks for nobody
abbrev pub IsCourse : ℕ → ℕ → ℕ → Bool → List Call → Type 0
IsCourse format n here off [] = Unit {0}
IsCourse format n here off (calls.Move to ∷ script) =
    (off ≡ false) × (to < n) × (to ≢ here) × IsCourse format n to off script
IsCourse format n here off (calls.Find from sub ∷ script) = ⊥
IsCourse format n here off (calls.Off ∷ script) =
    (format ≡ 2) × (off ≡ false) × IsCourse format n here true script
IsCourse format n here off (calls.On ∷ script) =
    (format ≡ 2) × (off ≡ true) × IsCourse format n here false script

-- the call of a caller: it looks from a node of the network for one of so many subscribers
abbrev pub IsSearch : ℕ → ℕ → Call → Type 0
IsSearch n subs (calls.Move to) = ⊥
IsSearch n subs (calls.Find from sub) = (from < n) × (sub < subs)
IsSearch n subs calls.Off = ⊥
IsSearch n subs calls.On = ⊥

-- how many calls scripts have
abbrev pub count_calls : List (List Call) → ℕ
count_calls [] = 0
count_calls (script ∷ scripts) = length script + count_calls scripts

-- the measures are within the format's limits, and what names a node, a subscriber or an actor
-- names one that there is; each actor has one script, subscribers move and switch alone, callers
-- find alone, and the network is connected
pub record IsValid (input : Contents) : Type 0 where
  pub format : (input.format ≡ 1) ⊎ (input.format ≡ 2)
  pub some : 1 ≤ input.nodes
  pub few : input.nodes ≤ most_nodes input.format
  pub k_some : 1 ≤ input.k
  pub k_few : input.k ≤ 8
  pub k_wide : 256 < input.nodes → 2 ≤ input.k
  pub edges : All (IsEdge input.nodes) input.edges
  pub few_edges : length input.edges ≤ 32768
  pub homes : All (λ home. home < input.nodes) input.homes
  pub some_homes : 1 ≤ length input.homes
  pub few_homes : length input.homes ≤ 64
  pub callers : input.callers ≤ 64
  pub scripts : length input.scripts ≡ length input.homes + input.callers
  pub courses : (s : ℕ) → s < length input.homes
      → IsCourse input.format input.nodes (slice_index input.homes s) false
      (slice_index_or input.scripts s [])
  pub searches : (a : ℕ) → length input.homes ≤ a → a < length input.scripts
      → All (IsSearch input.nodes (length input.homes)) (slice_index_or input.scripts a [])
  pub few_calls : count_calls input.scripts ≤ most_calls input.format
  pub order : All (λ actor. actor < length input.scripts) input.order
  pub connected : (v : ℕ) → v < input.nodes → IsReached input.edges everywhere 0 v
