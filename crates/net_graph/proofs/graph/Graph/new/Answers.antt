use Rattle.std.proofs.lemmas.Grind.{common_steps}
use Rattle.std.proofs.Common.{◌≡◌, true, replicate, arith, rules}
use Rattle.net_graph.proofs.Connecting.{connected, made, first_is_apart}
use Rattle.net_graph.proofs.graph.Graph.new.Goals as goal

pub invariant_of-result : goal.invariant_of-result
invariant_of-result c =
    let all : c.in_ok-allowed.allowed.items ≡ replicate c.args.n true = search rules in
    connected c.args.edges.now c.in_ok-neighbours.ensures.nodes c.in_ok-neighbours.ensures.limits
    c.in_ok-neighbours.ensures.same all
    (rw c.deref.ensures.value at c.in_ok-weights.ensures)
    (rw c.deref-2.ensures.value at c.in-None.ensures.none)

pub returns-in-Some-clause-fault : goal.returns-in-Some-clause-fault
returns-in-Some-clause-fault c =
    let weights = rw c.deref.ensures.value at c.in_ok-weights.ensures in
    let apart = rw c.deref-2.ensures.value at c.in-Some.ensures.apart in
    let all : c.in_ok-allowed.allowed.items ≡ replicate c.args.n true = search rules in
    first_is_apart c.args.edges.now c.in_ok-neighbours.ensures.nodes c.in_ok-neighbours.ensures.limits
    c.in_ok-neighbours.ensures.same all weights c.in-Some.node
    (omega (arith, apart.0, weights.count, c.in_ok-neighbours.ensures.nodes)) apart.1
    (rw c.deref-2.ensures.value at c.in-Some.ensures.first)

pub returns-in-None-clause-graph : goal.returns-in-None-clause-graph
returns-in-None-clause-graph c = grind (arith, made)

pub search_from-requires : goal.search_from-requires
search_from-requires c = grind (arith, common_steps)
