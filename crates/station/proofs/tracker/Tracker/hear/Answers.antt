use Rattle.std.proofs.Common.{arith, sym, ap, ◌∙◌, length}
use Rattle.station.proofs.Joining.{longer_other, pass_heard}
use Rattle.station.proofs.tracker.Tracker.hear.Goals as goal

pub invariant_of-pass : goal.invariant_of-pass
invariant_of-pass c =
    let old = c.pass.inside.seat.me.0 in
    let note = c.note.inside.seat.me.0 in
    let more = longer_other old.seen note.seen (grind arith) in
    pass_heard note c.pass.invariant c.learn.ensures.heard c.learn.ensures.learned
    (c.note.invariant.seen_is ∙ sym (ap length more))
