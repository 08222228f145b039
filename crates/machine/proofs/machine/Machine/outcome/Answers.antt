use Rattle.std.proofs.Common.{length, ap, arith, length-append}
use Rattle.directory.specs.Outcomes.{Outcome}
use Rattle.machine.specs.Machines.{scripts_at, setting_at}
use Rattle.machine.proofs.Ending.{of_finds, of_steps, right-outcome, rising-outcome, lines-all, room-for_both}
use Rattle.machine.proofs.machine.Machine.outcome.Goals as goal

pub push_steps-requires : goal.push_steps-requires
push_steps-requires c =
    let is = c.requires.stands.1 in
    record {
      room = omega (
        arith,
        ap length is.calls,
        ap (λ xs. length (of_steps xs)) c.deref.ensures.value,
        room-for_both is,
      );
    }

pub push_finds-requires : goal.push_finds-requires
push_finds-requires c =
    let is = c.requires.stands.1 in
    record {
      room = omega (
        arith,
        ap length is.calls,
        ap (λ xs. length (of_steps xs)) c.deref.ensures.value,
        ap (λ xs. length (of_finds xs)) c.deref-2.ensures.value,
        ap length c.push_steps.ensures.items,
        length-append c.args.self.calls.items (of_steps c.deref.result.now),
        c.push_steps.ensures.capacity,
        room-for_both is,
      );
    }

pub returns-clause-result : goal.returns-clause-result
returns-clause-result c history is done =
    rw (
      c.push_finds.ensures.items,
      c.push_steps.ensures.items,
      is.calls,
      c.deref.ensures.value,
      c.deref-2.ensures.value,
      lines-all is done,
      is.order,
    )

pub returns-clause-right : goal.returns-clause-right
returns-clause-right c history is done =
    rw (ap (λ (o : Outcome). o.calls) (returns-clause-result c history is done))
    (right-outcome c.outcomes_are_right.ensures.lines c.order_of_history.ensures.done c.scripts_are_valid.ensures
    c.plan_is_sound.ensures.matched is done)

pub returns-clause-numbers : goal.returns-clause-numbers
returns-clause-numbers c history is done =
    rw (ap (λ (o : Outcome). o.calls) (returns-clause-result c history is done))
    (rising-outcome c.outcomes_are_right.ensures.numbers c.order_of_history.ensures.done c.scripts_are_valid.ensures is
    done)

pub returns-clause-in_turn : goal.returns-clause-in_turn
returns-clause-in_turn c history is done =
    rw (ap (λ (o : Outcome). o.calls) (returns-clause-result c history is done))
    (c.lines_are_in_turn.ensures (setting_at c.args.self) (scripts_at c.args.self) history is.sees.played)
