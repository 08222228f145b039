use Rattle.std.proofs.Common.{◌∙◌, eqb, ap, sym, map}
use Rattle.report_check.specs.ReadLines.{done_of}
use Rattle.report_check.specs.Parts.{weight_holds}
use Rattle.report_check.proofs.judge.weight_holds.Goals as goal

pub returns-in-Move : goal.returns-in-Move
returns-in-Move c = λ plan is.
    ap (λ d. eqb d c.in-Move.weight) (c.distance.ensures plan c.args.ground.now.homes.now is)
    ∙ sym (ap (λ line. weight_holds plan c.args.ground.now.homes.now (map done_of c.args.lines.now.calls.now)
    c.args.order.now
    (done_of line)) c.in-Move.is)
