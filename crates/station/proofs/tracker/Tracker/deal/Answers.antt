use Rattle.std.proofs.Common.{arith, ◌≡◌, ◌∙◌, ◌+◌, ◌-◌, [], ◌∷◌, ap, add-one, length, length-append}
use Rattle.station.proofs.Forking.{deals}
use Rattle.station.proofs.Fresh.{dealt_fresh, fresh_own, fresh_push, last_fresh, rest_view}
use Rattle.station.proofs.tracker.Tracker.deal.Goals as goal

pub split_seat-next-requires : goal.split_seat-next-requires
split_seat-next-requires c = grind (arith, deals)

pub of-requires : goal.of-requires
of-requires c = grind (arith, dealt_fresh, fresh_own)

pub loop-actor-preserved : goal.loop-actor-preserved
loop-actor-preserved c =
    let d = c.loop-actor.invariant in
    let items = c.push_reserved.ensures.items in
    let told = c.split_seat-next.ensures in
    record {
      table = told.0 ∙ d.table;
      view = grind (arith, rest_view, add-one);
      fresh = fresh_push c.loop-actor.passes.items c.split_seat-next.result.id d.fresh d.count (told.3 ∙ d.table)
          (dealt_fresh _ _ d.view told.4) c.of.ensures items;
      count = ap length items ∙ (length-append c.loop-actor.passes.items (c.of.result ∷ []) ∙ ap (λ n. n + 1) d.count);
      room = omega (arith, d.room, c.push_reserved.ensures.capacity);
    }

pub of-requires-2 : goal.of-requires-2
of-requires-2 c = grind (arith, last_fresh, fresh_own)

pub returns-clause-fresh : goal.returns-clause-fresh
returns-clause-fresh c =
    let d = c.loop-actor.invariant in
    let actors = ap (λ t. t.setup.actors) c.self.view_is in
    let end = c.loop-actor.auto.actor-end in
    let at : c.loop-actor.actor ≡ c.self.inside.actors - 1 = omega (arith, end, c.loop-actor-test.false) in
    fresh_push c.loop-actor.passes.items c.loop-actor.seat.id d.fresh (d.count ∙ at) d.table
    (last_fresh _ d.view at (omega (arith, actors, c.self.invariant.actors_are, c.self.invariant.some_actors)))
    c.of-2.ensures c.push_reserved-2.ensures.items

pub returns-clause-count : goal.returns-clause-count
returns-clause-count c = grind (arith, length-append)
