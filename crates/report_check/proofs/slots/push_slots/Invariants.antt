use Rattle.std.proofs.Common.{◌≡◌, ◌≤◌, ◌++◌, drop}
use Rattle.report_check.specs.Slots.{slots_in}
use Rattle.report_check.proofs.slots.push_slots.Given as goal

abbrev pub invariant-calls : goal.invariant-calls
invariant-calls l =
    record {
      few : l.number ≤ l.call-index;
      same : l.slots.items ++ slots_in l.actor l.place l.number (drop l.call-index l.script)
          ≡ l.fn.slots.items ++ slots_in l.actor l.start 0 l.script;
    }
