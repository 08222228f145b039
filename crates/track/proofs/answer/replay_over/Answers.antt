use Rattle.std.proofs.Common.{ap, ◌∙◌}
use Rattle.directory.specs.Orders.{history_of}
use Rattle.directory.specs.Outcomes.{outcome_of}
use Rattle.machine.specs.Machines.{scripts_at, setting_at, HasHistory}
use Rattle.track.proofs.Replaying.{play-ended, play-outcome}
use Rattle.track.proofs.answer.replay_over.Goals as goal

pub outcome-requires : goal.outcome-requires
outcome-requires c = record {
  stands = (
    history_of (setting_at c.play.new.machine) (scripts_at c.play.new.machine) c.deref.result.now,
    play-ended c.in_ok-machine.machine c.deref.result.now c.play.ensures.same c.play.ensures.stands,
    c.all_scripts_done.ensures.done (setting_at c.play.new.machine) (scripts_at c.play.new.machine)
        c.deref.result.now,
  );
}

pub returns : goal.returns
returns c =
    let last = c.play.new.machine in
    let order = c.deref.result.now in
    let history = history_of (setting_at last) (scripts_at last) order in
    let stands : HasHistory last history =
    play-ended c.in_ok-machine.machine order c.play.ensures.same c.play.ensures.stands in
    let done = c.all_scripts_done.ensures.done (setting_at last) (scripts_at last) order in (
      c.outcome.ensures.result history stands done
          ∙ (ap (λ xs. outcome_of (setting_at last) (scripts_at last) xs) c.deref.ensures.value
          ∙ play-outcome last (c.play.ensures.same.0 ∙ c.in_ok-machine.ensures.made.0)
          (c.play.ensures.same.1 ∙ c.in_ok-machine.ensures.made.1)),
      c.outcome.ensures.in_turn history stands done,
    )
