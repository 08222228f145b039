use Rattle.std.proofs.Common.{◌≡◌}
use Rattle.std.specs.Prelude.{None, slice_index_or}
use Rattle.node_set.specs.Ascending.{sift}
use Rattle.census_text.specs.CensusText.{is_place}
use Rattle.census_text.proofs.lines.list_by_places.Given as goal

abbrev pub invariant-loop-sub : goal.invariant-loop-sub
invariant-loop-sub l = l.who.items ≡ sift (λ sub. is_place l.node (slice_index_or l.places sub None)) 0 l.sub
