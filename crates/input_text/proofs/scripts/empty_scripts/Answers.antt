use Rattle.std.proofs.Common.{ℕ, [], arith}
use Rattle.std.proofs.lemmas.List.{map-append}
use Rattle.net_reader.specs.Said.{script_of}
use Rattle.net_reader.specs.CallLaws.{scripts-step}
use Rattle.input_text.proofs.scripts.empty_scripts.Goals as goal

pub loop-preserved : goal.loop-preserved
loop-preserved c =
    let n = c.loop.counter in
    let m = c.args.actors in
    let f = λ (actor : ℕ). script_of actor [] in
    grind (arith, map-append, scripts-step)
