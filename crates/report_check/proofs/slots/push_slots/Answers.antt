use Rattle.report_check.proofs.Steps.{number-step, slots-done, slots-step}
use Rattle.report_check.proofs.slots.push_slots.Goals as goal

pub calls-preserved : goal.calls-preserved
calls-preserved c = record {
  few = number-step _ _ c.calls.call-index c.calls.invariant.few c.number_after-number.ensures;
  same = slots-step _ _ _ _ _ c.calls.call-index _ c.calls-test.true (c.in_ok-push.ensures.items) c.slot_of.ensures
      c.place_after-place.ensures c.number_after-number.ensures c.calls.invariant.same;
}

pub returns : goal.returns
returns c = slots-done _ _ _ _ _ c.calls.call-index c.calls-test.false c.calls.invariant.same
