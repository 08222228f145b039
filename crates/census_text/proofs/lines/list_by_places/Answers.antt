use Rattle.std.proofs.Common.{sym, ◌∙◌}
use Rattle.std.specs.Prelude.{None, slice_index_or}
use Rattle.census_text.specs.CensusText.{is_place}
use Rattle.census_text.proofs.Steps.{list-skips, list-takes}
use Rattle.census_text.proofs.lines.list_by_places.Goals as goal
use Rattle.census_text.proofs.lines.list_by_places.Goals.{then-is_place+in_ok-push, else-is_place}

-- src/lines.rt:65:5
pub loop-sub-preserved : goal.loop-sub-preserved
loop-sub-preserved c =
    elim c.if-is_place.branch [
      | then-is_place+in_ok-push w ↦
          rw w.who-is (list-takes (λ sub. is_place c.args.node (slice_index_or c.args.places.now sub None))
          c.loop-sub.sub c.loop-sub.who.items w.push.new.self.items (sym c.is_place.ensures ∙ w.if-is_place.true)
          c.loop-sub.invariant w.in_ok-push.ensures.items)
      | else-is_place w ↦
          rw w.who-is (list-skips (λ sub. is_place c.args.node (slice_index_or c.args.places.now sub None))
          c.loop-sub.sub c.loop-sub.who.items (sym c.is_place.ensures ∙ w.if-is_place.false) c.loop-sub.invariant)
    ]
