-- What callers see of a reader: the bytes that it stands for. They are a relation, since the reader
-- keeps none of them. Key law: `feed` and `end`, by which every way of cutting a text gives the
-- same answer.
use Rattle.std.specs.Prelude.{◌≡◌, ◌⊎◌, ◌+◌, ◌^◌, ◌<◌, ℕ, Bool, true, false, List, length, Result, Ok, Err}
use Rattle.net_graph.specs.Network.{IsGraphOf, Network}
use Rattle.net_reader.specs.declared.fault.ReadRefusal.{ReadRefusal}
use Rattle.net_reader.specs.declared.fault.ReadRefusal.TheVariants as refusals
use Rattle.net_reader.specs.declared.scan.Scan.{Scan}
use Rattle.net_reader.specs.declared.input.Input.{Input}
use Rattle.net_reader.specs.Input.{IsInput}
use Rattle.net_reader.specs.Seen.{IsWell, seen_input, seen_scan}
use Rattle.net_reader.specs.Steps.{ReaderState, after_bytes, fresh_reader}

-- how many bytes an input may have
abbrev pub most_bytes : ℕ
most_bytes = 4194304

-- a reader: whether it has failed, and else what it has read
pub record ReaderValue : Type 0 where
  pub failed : Bool
  pub state : ReaderState

-- the reader stands for these bytes
pub record StandsFor (reader : ReaderValue) (bytes : List ℕ) : Type 0 where
  pub going : reader.failed ≡ false
  pub read : reader.state ≡ after_bytes fresh_reader bytes

-- the reader has failed, or it stands for bytes that with so many more are fewer than 2^32
abbrev pub HasRoom : ReaderValue → ℕ → Type 0
HasRoom reader more =
    (reader.failed ≡ true)
    ⊎ ((bytes : List ℕ) × StandsFor reader bytes × (length bytes + more < 2 ^ 32))

-- a reader has failed, or it has read some bytes
abbrev pub IsSoundReader : Bool → Scan → Type 0
IsSoundReader failed scan =
    (failed ≡ true)
    ⊎ ((bytes : List ℕ) × IsWell scan.fault scan.known
    × (seen_scan scan ≡ after_bytes fresh_reader bytes))

-- what was answered is what the bytes say, unless memory ran out
abbrev pub IsRead : List ℕ → Result Input ReadRefusal → Type 0
IsRead bytes (Ok input) = IsInput bytes (Ok (seen_input input))
IsRead bytes (Err (refusals.Fault fault)) = IsInput bytes (Err fault)
IsRead bytes (Err refusals.OutOfMemory) = Unit {0}

-- the same of an input with the graph of its network
abbrev pub IsReadWithGraph : List ℕ → Result (Input × Network) ReadRefusal → Type 0
IsReadWithGraph bytes (Ok found) =
    IsInput bytes (Ok (seen_input found.0)) × IsGraphOf found.0.nodes found.0.edges.items found.1
IsReadWithGraph bytes (Err (refusals.Fault fault)) = IsInput bytes (Err fault)
IsReadWithGraph bytes (Err refusals.OutOfMemory) = Unit {0}
