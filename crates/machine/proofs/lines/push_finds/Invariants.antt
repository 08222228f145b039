use Rattle.std.proofs.Common.{◌≡◌, ◌++◌, ◌+◌, ◌≤◌, take, drop, length}
use Rattle.std.specs.Prelude.{flat_map, vec_capacity}
use Rattle.machine.specs.declared.caller.Caller.{Caller}
use Rattle.machine.proofs.lines.push_finds.Given as goal

abbrev pub invariant-callers : goal.invariant-callers
invariant-callers l = record {
  items : l.calls.items
      ≡ l.fn.calls.items ++ flat_map (λ (one : Caller). one.lines.items) (take l.caller-index l.callers);
  room : length l.calls.items + length (flat_map (λ (one : Caller). one.lines.items) (drop l.caller-index l.callers))
      ≤ vec_capacity l.calls;
  capacity : vec_capacity l.fn.calls ≤ vec_capacity l.calls;
}
