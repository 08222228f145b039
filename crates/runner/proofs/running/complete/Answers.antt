use Rattle.std.proofs.Common.{[], ◌∙◌}
use Rattle.directory.specs.Orders.{history_of}
use Rattle.machine.specs.Machines.{scripts_at, setting_at}
use Rattle.runner.proofs.Playing.{play-ended, play-outcome}
use Rattle.runner.proofs.running.complete.Goals as goal

pub finish-requires : goal.finish-requires
finish-requires c = record { stands = (_, c.play.ensures.stands [] c.in_ok-machine.ensures.stands) }

pub outcome-requires : goal.outcome-requires
outcome-requires c =
    let last = c.finish.new.self in record {
      stands = (
        history_of (setting_at last) (scripts_at last) c.args.order.now,
        play-ended c.in_ok-machine.machine c.args.order.now c.play.ensures.same c.finish.ensures.same
            (c.play.ensures.stands [] c.in_ok-machine.ensures.stands) c.finish.ensures.order,
        c.all_scripts_done.ensures.done (setting_at last) (scripts_at last) c.args.order.now,
      );
    }

pub returns : goal.returns
returns c =
    let last = c.finish.new.self in
    c.outcome.ensures.result (history_of (setting_at last) (scripts_at last) c.args.order.now)
    (play-ended c.in_ok-machine.machine c.args.order.now c.play.ensures.same c.finish.ensures.same
    (c.play.ensures.stands [] c.in_ok-machine.ensures.stands) c.finish.ensures.order)
    (c.all_scripts_done.ensures.done (setting_at last) (scripts_at last) c.args.order.now)
    ∙ play-outcome c.in_ok-machine.machine c.play.new.self last c.args.order.now c.play.ensures.same
    c.finish.ensures.same c.in_ok-machine.ensures.made.0 c.in_ok-machine.ensures.made.1
