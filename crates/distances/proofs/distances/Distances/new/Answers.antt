use Rattle.std.proofs.Common.{Global, Vec, ℕ, ap, rules}
use Rattle.distances.proofs.Filling.{distances, kept}
use Rattle.distances.proofs.distances.Distances.new.Goals as goal

pub invariant_of-result : goal.invariant_of-result
invariant_of-result c =
    rw (ap (λ (v : Vec ℕ Global). v.items) c.in_ok-new.ensures.ok, c.nodes.ensures.count)
    (kept c.args.graph.now c.nodes.ensures.sound c.in_ok-table.table.items c.in_ok-table.ensures
    c.greatest_weight-diameter.result
    (rw c.deref.ensures.value at c.greatest_weight-diameter.ensures.bound)
    (rw c.deref.ensures.value at c.greatest_weight-diameter.ensures.attained))

pub returns : goal.returns
returns c = search (rules, distances)
