use Rattle.std.proofs.Common.{◌≡◌, ◌+◌, List, length, map, arith}
use Rattle.net_reader.specs.declared.said.Call.{Call}
use Rattle.net_reader.specs.Said.{script_of}
use Rattle.net_reader.specs.Input.{Contents, numbers_from}
use Rattle.net_reader.proofs.input.input_of.Goals as goal

pub returns : goal.returns
returns c =
    let known = c.args.known in
    let count : c.len.result + known.callers ≡ length known.homes.items + known.callers = omega arith in
    let scripts : map (λ script. script.items) c.in_ok-scripts.scripts.items
    ≡ map (λ actor. script_of actor known.calls.items) (numbers_from 0 (length known.homes.items + known.callers)) =
    grind arith in
    let same : Contents → List (List Call) → Contents = λ contents scripts. record contents { scripts = scripts } in
    grind arith
