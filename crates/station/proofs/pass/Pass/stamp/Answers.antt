use Rattle.std.proofs.Common.{arith, ap, sym, ◌∙◌, ◌≡◌, ◌<◌, ◌+◌, ℕ, List, get_or, set, length, take, get_or-set_same, get_or-set_other, length-set}
use Rattle.std.specs.Prelude.{slice_index, if◌then◌else◌}
use Rattle.node_set.specs.Ascending.{has}
use Rattle.directory.specs.Histories.{tickets}
use Rattle.station.proofs.Ticketing.{tickets-below, has-taken}
use Rattle.station.proofs.pass.Pass.stamp.Goals as goal

-- the ticket that is stamped is one of the pass's own, and of a visit that it has seen
kept : (c : goal.After-row_known-1) → (c.loop-k.k < length (tickets c.self.inside.actor c.self.inside.seat.me.0.seen))
    × (c.index.result.now
    ≡ get_or (tickets c.self.inside.actor c.self.inside.seat.me.0.seen) c.loop-k.k c.index.result.now)
    × (c.index.result.now < length c.loop-k.order)
kept c = grind (arith, tickets-below)

pub write_at-requires : goal.write_at-requires
write_at-requires c = (kept c).2

stamped : (order list : List ℕ) (old : ℕ → ℕ) {at : ℕ} (actor k : ℕ) (d : ℕ) → at ≡ get_or list k d → k < length list
    → at < length order → ((i : ℕ) → slice_index order i ≡ (if has i (take k list) then actor else old i)) → (i : ℕ)
    → slice_index (set order at actor) i ≡ (if has i (take (k + 1) list) then actor else old i)
stamped order list old {at} actor k d is near inside all i =
    grind (arith, has-taken i k list d near, get_or-set_same order, get_or-set_other order)

pub loop-k-preserved : goal.loop-k-preserved
loop-k-preserved c =
    let k = c.loop-k.k in
    let list = tickets c.self.inside.actor c.self.inside.seat.me.0.seen in
    let at = kept c.before.before.before.before in
    let told = c.self.view_is in
    let low : c.args.self.now.view.low ≡ c.self.inside.actor = sym (ap (λ q. q.view.low) told) ∙ c.self.invariant.low in
    let lists : tickets c.args.self.now.view.low c.args.self.now.view.seen ≡ list = grind arith in
    let was = rw (lists, low) at c.loop-k.invariant.stamped in
    let next = stamped c.loop-k.order list (λ i. slice_index c.args.order.now i) c.self.inside.actor k
    c.index.result.now at.1 at.0 at.2 was in
    record {
      size = grind (arith, length-set);
      stamped = rw (lists, low, c.write_at.ensures) next;
    }
