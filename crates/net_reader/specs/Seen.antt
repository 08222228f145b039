-- What the code keeps, as the steps see it.
-- Key law: `Scan::read` takes what it keeps from byte to byte as the steps do.
use Rattle.std.specs.Prelude.{◌≡◌, ℕ, ◌<◌, ◌≤◌, Bool, false, List, length, map, Option, Some, None, Result, Ok, Err, slice_index, slice_index_or}
use Rattle.net_graph.specs.Network.{IsGraphOf, Network}
use Rattle.net_reader.specs.declared.fault.InputCause.{InputCause}
use Rattle.net_reader.specs.declared.fault.InputFault.{InputFault}
use Rattle.net_reader.specs.declared.fault.ReadRefusal.{ReadRefusal}
use Rattle.net_reader.specs.declared.fault.ReadRefusal.TheVariants as refusals
use Rattle.net_reader.specs.declared.known.Known.{Known}
use Rattle.net_reader.specs.declared.line.Line.{Line}
use Rattle.net_reader.specs.declared.scan.Scan.{Scan}
use Rattle.net_reader.specs.declared.said.Spoken.{Spoken}
use Rattle.net_reader.specs.declared.stop.Stop.{Stop}
use Rattle.net_reader.specs.declared.stop.Stop.TheVariants as stops
use Rattle.net_reader.specs.declared.input.Input.{Input}
use Rattle.net_reader.specs.Input.{Contents, IsAnswer}
use Rattle.net_reader.specs.Said.{Said, script_of, place_after, off_after}
use Rattle.net_reader.specs.Steps.{LineState, ReaderState, number_of_place}

-- a line, and what was said, as the steps see them
abbrev pub seen_line : Line → LineState
seen_line line = record { open_field = line.field; word = line.word; numbers = line.numbers.items }

-- what was said, as the code keeps it
abbrev pub seen_known : Known → Said
seen_known known =
    record {
      place = number_of_place known.place;
      format = known.format;
      nodes = known.nodes;
      k = known.k;
      edges = known.edges.items;
      homes = known.homes.items;
      callers = known.callers;
      calls = known.calls.items;
      order = known.order.items;
    }

-- where each subscriber is and whether it is off are kept beside where it starts and the calls, and
-- no other actor moves
pub record Stands (homes : List ℕ) (calls : List Spoken) (places : List ℕ)
    (off : List Bool) : Type 0 where
  pub places_count : length places ≡ length homes
  pub off_count : length off ≡ length homes
  pub place : (s : ℕ) → s < length homes
      → slice_index places s ≡ place_after (slice_index homes s) (script_of s calls)
  pub is_off : (s : ℕ) → s < length homes
      → slice_index_or off s false ≡ off_after false (script_of s calls)
  pub no_moves : (s here : ℕ) → length homes ≤ s → place_after here (script_of s calls) ≡ here
  pub no_switches : (s : ℕ) → length homes ≤ s → off_after false (script_of s calls) ≡ false

-- what is kept is within limits, and places and states go with the calls
pub record KeepsLimits (known : Known) : Type 0 where
  pub few : length known.homes.items ≤ 64
  pub few_callers : known.callers ≤ 64
  pub stands : Stands known.homes.items known.calls.items known.places.items known.off.items

-- what the code made of a line is what the table says, unless memory ran out
abbrev pub Judges : Result (Unit {0}) Stop → Known → Result Said InputCause → Type 0
Judges (Ok done) known verdict = (verdict ≡ Ok (seen_known known)) × KeepsLimits known
Judges (Err (stops.Fault cause)) known verdict = verdict ≡ Err cause
Judges (Err stops.Memory) known verdict = Unit {0}

-- what was said, or the first fault
abbrev pub said_or_fault : Option InputFault → Said → Result Said InputFault
said_or_fault None said = Ok said
said_or_fault (Some fault) said = Err fault

-- the state of a reader, as the code keeps it
abbrev pub seen_scan : Scan → ReaderState
seen_scan scan =
    record {
      said = said_or_fault scan.fault (seen_known scan.known);
      lines = scan.lines;
      begun = scan.begun;
      held = scan.held;
      line = seen_line scan.line;
    }

-- what is kept is sound unless there is a fault
abbrev pub IsWell : Option InputFault → Known → Type 0
IsWell None known = KeepsLimits known
IsWell (Some fault) known = Unit {0}

-- what the code answers is what was said or the first fault, unless memory ran out
abbrev pub Finishes : Result (Known × ℕ) ReadRefusal → Result (Said × ℕ) InputFault → Type 0
Finishes (Ok found) read = (read ≡ Ok (seen_known found.0, found.1)) × KeepsLimits found.0
Finishes (Err (refusals.Fault fault)) read = read ≡ Err fault
Finishes (Err refusals.OutOfMemory) read = Unit {0}

-- the contents of an input
abbrev pub seen_input : Input → Contents
seen_input input =
    record {
      format = input.format;
      nodes = input.nodes;
      k = input.k;
      edges = input.edges.items;
      homes = input.homes.items;
      callers = input.callers;
      scripts = map (λ script. script.items) input.scripts.items;
      order = input.order.items;
    }

-- what the code answers is what the text says, with the graph of the network, unless memory ran out
abbrev pub Answers : Result (Input × Network) ReadRefusal → Result (Said × ℕ) InputFault → Type 0
Answers (Ok found) read =
    IsAnswer read (Ok (seen_input found.0))
    × IsGraphOf found.0.nodes found.0.edges.items found.1
Answers (Err (refusals.Fault fault)) read = IsAnswer read (Err fault)
Answers (Err refusals.OutOfMemory) read = Unit {0}
