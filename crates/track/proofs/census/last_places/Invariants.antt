use Rattle.std.proofs.Common.{◌≡◌, ◌<◌, ℕ, length}
use Rattle.std.specs.Prelude.{None, slice_index, slice_index_or}
use Rattle.net_reader.specs.Seen.{seen_input}
use Rattle.scripts.specs.Scripts.{scripts_of}
use Rattle.directory.specs.Orders.{steps_of}
use Rattle.directory.specs.Places.{place_at_end}
use Rattle.track.specs.Places.{node_if_on}
use Rattle.track.proofs.census.last_places.Given as goal

abbrev pub invariant-loop-sub : goal.invariant-loop-sub
invariant-loop-sub l = record {
  count : length l.places.items ≡ l.sub;
  each : (sub : ℕ) → sub < l.sub → slice_index_or l.places.items sub None
      ≡ node_if_on (place_at_end (slice_index (seen_input l.input).homes sub)
      (steps_of (scripts_of (seen_input l.input)) sub));
}
