use Rattle.std.proofs.Common.{◌≡◌, map, take}
use Rattle.net_reader.specs.Said.{script_of}
use Rattle.net_reader.specs.Input.{numbers_from}
use Rattle.input_text.specs.Listing.{spoken_of}
use Rattle.input_text.proofs.scripts.scripts_of.Given as goal

abbrev pub invariant-loop-call : goal.invariant-loop-call
invariant-loop-call l =
    map (λ script. script.items) l.scripts.items
    ≡ map (λ actor. script_of actor (map spoken_of (take l.call-index l.calls))) (numbers_from 0 l.actors)
