use Rattle.std.proofs.Common.{[]}
use Rattle.track.proofs.Replaying.{play-began, play-over}
use Rattle.track.proofs.answer.play.Goals as goal

pub returns-clause-stands : goal.returns-clause-stands
returns-clause-stands c =
    play-began c.args.machine.now c.play.new.self c.args.order.now c.play.ensures.same
    (c.finish.ensures.order c.args.order.now (play-over c.args.machine.now c.args.order.now c.play.ensures.same
    (c.play.ensures.stands [] c.requires.stands)))
