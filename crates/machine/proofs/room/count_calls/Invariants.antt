use Rattle.std.proofs.Common.{◌≡◌, take, map}
use Rattle.net_reader.specs.Valid.{count_calls}
use Rattle.machine.proofs.room.count_calls.Given as goal

abbrev pub invariant-loop-script : goal.invariant-loop-script
invariant-loop-script l = l.count ≡ count_calls (map (λ script. script.items) (take l.script-index l.scripts))
