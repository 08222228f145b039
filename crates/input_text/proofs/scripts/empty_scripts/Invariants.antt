use Rattle.std.proofs.Common.{◌≡◌, ◌++◌, ◌-◌, [], map}
use Rattle.net_reader.specs.Said.{script_of}
use Rattle.net_reader.specs.Input.{numbers_from}
use Rattle.input_text.proofs.scripts.empty_scripts.Given as goal

abbrev pub invariant-loop : goal.invariant-loop
invariant-loop l =
    map (λ script. script.items) l.scripts.items
    ++ map (λ actor. script_of actor []) (numbers_from l.counter (l.actors - l.counter))
    ≡ map (λ actor. script_of actor []) (numbers_from 0 l.actors)
