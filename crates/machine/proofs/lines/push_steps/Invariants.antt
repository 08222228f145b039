use Rattle.std.proofs.Common.{◌≡◌, ◌++◌, ◌+◌, ◌≤◌, take, drop, length}
use Rattle.std.specs.Prelude.{flat_map, vec_capacity}
use Rattle.machine.specs.declared.subscriber.Subscriber.{Subscriber}
use Rattle.machine.proofs.lines.push_steps.Given as goal

abbrev pub invariant-subscribers : goal.invariant-subscribers
invariant-subscribers l = record {
  items : l.calls.items
      ≡ l.fn.calls.items ++ flat_map (λ (one : Subscriber). one.lines.items) (take l.subscriber-index l.subscribers);
  room : length l.calls.items + length
      (flat_map (λ (one : Subscriber). one.lines.items) (drop l.subscriber-index l.subscribers)) ≤ vec_capacity l.calls;
  capacity : vec_capacity l.fn.calls ≤ vec_capacity l.calls;
}
