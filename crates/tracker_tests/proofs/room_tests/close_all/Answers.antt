use Rattle.std.proofs.Common.{List, get_or, ap, subst, sym}
use Rattle.std.specs.Prelude.{All}
use Rattle.std.proofs.lemmas.List.Elements.{All-from_get_or, All-push}
use Rattle.std.proofs.lemmas.Option.{slice_get-get_or}
use Rattle.station.specs.Passes.{AreFresh, IsPassOf, PassData, TrackerData, fresh_view}
use Rattle.station.specs.declared.view.View.{View}
use Rattle.tracker_tests.proofs.room_tests.close_all.Goals as goal

-- fresh passes are of their tracker
fresh-of : (tracker : TrackerData) (passes : List PassData) → AreFresh tracker passes → All (IsPassOf tracker) passes
fresh-of tracker passes fresh =
    let none : PassData = record { table = tracker.table; seat = 0; view = fresh_view tracker.setup 0; spare = 0 } in
    All-from_get_or (IsPassOf tracker) passes none (λ i below.
    let pass = fresh i (get_or passes i none) (slice_get-get_or passes i none below) in
    record { table = pass.table; setup = ap (λ (v : View). v.setup) pass.view })

pub order_of-requires : goal.order_of-requires
order_of-requires g c =
    let is_pass = IsPassOf c.args.tracker in
    subst (All is_pass) (sym c.push_reserved-2.ensures.items)
    (All-push is_pass _ c.args.crowd.last
    (subst (All is_pass) (sym c.push_reserved.ensures.items)
    (All-push is_pass _ c.args.crowd.one
    (subst (All is_pass) (sym c.reserve.ensures.items) (fresh-of c.args.tracker _ c.requires.fresh))
    c.requires.one))
    c.requires.last)
