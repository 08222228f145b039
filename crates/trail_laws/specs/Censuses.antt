-- Whom a census lists, after every legal history: subscribers that stand at its node and are on; of
-- those that rest, each one; so that when an order is played to its end the censuses list just
-- where everybody stands, which the scripts tell alone. Key law: `censuses_are_right`.
use Rattle.std.specs.Prelude.{◌≡◌, ◌↔◌, ℕ, ◌<◌, ◌≤◌, ◌^◌, ◌==◌, ◌&&◌, Bool, true, false, not, List, length, slice_index}
use Rattle.node_set.specs.Ascending.{has, sift}
use Rattle.directory.specs.Settings.{Setting, subs}
use Rattle.directory.specs.Places.{Place, place_at_end}
use Rattle.directory.specs.Census.{census}
use Rattle.directory.specs.Histories.{History}
use Rattle.directory.specs.Legal.{IsLegal}
use Rattle.directory.specs.Orders.{AreValid, history_of, Scripts, steps_of}
use Rattle.directory.specs.Standing.{off, standing}
use Rattle.trail_laws.specs.Phases.{IsAtRest}

-- a subscriber stands at a node, and is on
abbrev pub IsOnAt : Setting → ℕ → History → ℕ → Type 0
IsOnAt setting sub history node =
    (node ≡ standing setting sub history) × (off sub history ≡ false)

-- who is listed at a node stands there and is on (`censuses_are_right`)
abbrev pub ListedStandThere : Type 0
ListedStandThere =
    (setting : Setting) (sub : ℕ) (history : History) (node : ℕ) → setting.nodes ≤ 2 ^ 16
    → node < setting.nodes → IsLegal setting sub history
    → has sub (census setting history node) ≡ true → IsOnAt setting sub history node

-- who rests at a node and is on is listed there (`censuses_are_right`)
abbrev pub RestingAreListed : Type 0
RestingAreListed =
    (setting : Setting) (sub : ℕ) (history : History) (node : ℕ) → setting.nodes ≤ 2 ^ 16
    → node < setting.nodes → IsLegal setting sub history → IsAtRest setting sub history
    → IsOnAt setting sub history node → has sub (census setting history node) ≡ true

-- after a history a census lists a subscriber just where it stands and is on
abbrev pub IsCounted : Setting → History → ℕ → ℕ → Type 0
IsCounted setting history sub node =
    (has sub (census setting history node) ≡ true) ↔ IsOnAt setting sub history node

-- at the end of an order the censuses list just that (`censuses_are_right`)
abbrev pub CensusesEndRight : Type 0
CensusesEndRight =
    (setting : Setting) (scripts : Scripts) (order : List ℕ) (sub node : ℕ)
    → setting.nodes ≤ 2 ^ 16 → AreValid setting scripts → sub < subs setting
    → node < setting.nodes → IsCounted setting (history_of setting scripts order) sub node

-- whether it is at a node, and on
abbrev pub is_on_at : ℕ → Place → Bool
is_on_at node place = not place.is_off && place.node == node

-- the subscribers that are at a node, and on, where all steps are made from these start nodes on
abbrev pub who_ends_at : List ℕ → Scripts → ℕ → List ℕ
who_ends_at starts scripts node =
    sift (λ sub. is_on_at node (place_at_end (slice_index starts sub) (steps_of scripts sub)))
    0 (length starts)

-- those are whom the census lists at the end of an order (`censuses_are_right`)
abbrev pub CensusesEndByScripts : Type 0
CensusesEndByScripts =
    (setting : Setting) (scripts : Scripts) (order : List ℕ) (node : ℕ)
    → setting.nodes ≤ 2 ^ 16 → AreValid setting scripts → node < setting.nodes
    → census setting (history_of setting scripts order) node
    ≡ who_ends_at setting.starts scripts node
