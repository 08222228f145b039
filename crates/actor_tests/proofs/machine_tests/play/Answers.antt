use Rattle.std.proofs.Common.{ℕ, List, []}
use Rattle.directory.specs.Histories.{History}
use Rattle.directory.specs.Orders.{IsDone, after_turns, history_of}
use Rattle.machine.specs.declared.machine.Machine.{Machine}
use Rattle.machine.specs.Machines.{HasHistory, scripts_at, setting_at}
use Rattle.machine.specs.RestLaws.{of_same}
use Rattle.actor_tests.proofs.machine_tests.play.Goals as goal

pub returns : goal.returns
returns c =
    let played : Machine = c.play.new.self in
    let order : List ℕ = c.args.order.now in
    let history : History = history_of (setting_at played) (scripts_at played) order in (
      history,
      c.finish.ensures.order order
          (of_same (λ setting scripts. HasHistory played (after_turns setting scripts [] order)) c.args.machine.now
          played c.play.ensures.same (c.play.ensures.stands [] c.requires)),
      λ actor. of_same (λ setting scripts. IsDone setting scripts history actor) played c.finish.new.self
          c.finish.ensures.same (c.all_scripts_done.ensures.done (setting_at played) (scripts_at played) order actor),
    )
