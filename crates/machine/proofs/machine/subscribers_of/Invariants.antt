use Rattle.std.proofs.Common.{◌≡◌, ◌<◌, ℕ, [], get_or, length}
use Rattle.std.specs.Prelude.{vec_capacity, vec_len}
use Rattle.net_reader.specs.Seen.{seen_input}
use Rattle.machine.specs.declared.subscriber.Subscriber.{Subscriber}
use Rattle.machine.specs.Subscribers.{IsSubscriber}
use Rattle.machine.proofs.machine.subscribers_of.Given as goal

abbrev pub invariant-loop-sub : goal.invariant-loop-sub
invariant-loop-sub l = record {
  count : vec_len l.subscribers ≡ l.sub;
  room : vec_capacity l.subscribers ≡ length l.input.homes.items;
  each : (s : ℕ) (d : Subscriber) → s < l.sub
      → IsSubscriber (seen_input l.input) l.plan [] s (get_or l.subscribers.items s d);
}
