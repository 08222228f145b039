use Rattle.std.proofs.lemmas.Grind.{common_steps}
use Rattle.std.proofs.lemmas.Bool.Decides.{nat_tests}
use Rattle.std.proofs.Common.{◌≡◌, ◌∙◌, ℕ, List, None, ◌∷◌, ap, subst, arith, rules, length, drop, replicate}
use Rattle.std.specs.Prelude.{IsPermutation}
use Rattle.std.specs.BinaryHeap.{heap_items}
use Rattle.net_graph.specs.Queue.{Waiting, make_waiting}
use Rattle.net_graph.proofs.Rooted.{light_enough, way_begins, way_ends, way_goes_on}
use Rattle.net_graph.proofs.Searching.{next_is_lightest}
use Rattle.net_graph.proofs.search.search_from.Goals as goal

pub loop-lightest-init : goal.loop-lightest-init
loop-lightest-init c =
    let copied : c.in_ok-unsettled.unsettled.items ≡ c.args.allowed.now = search rules in
    let filled : c.in_ok-weights.weights.items ≡ replicate c.nodes.result None = search rules in
    let weights : c.in_ok-weights.weights.items ≡ replicate c.args.neighbours.now.nodes None =
    filled ∙ ap (λ (n : ℕ). replicate n None) c.nodes.ensures.count in
    rw (copied, weights)
    (way_begins c.args.neighbours.now c.args.allowed.now c.args.root c.nodes.ensures.limits.positive c.requires.count c.requires.root
    (subst (λ (xs : List Waiting). IsPermutation (make_waiting 0 c.args.root ∷ xs)
    (heap_items c.push.new.self.heap)) c.new-queue.ensures c.in_ok-push.ensures))

pub next_unsettled-requires : goal.next_unsettled-requires
next_unsettled-requires c = rw c.deref.ensures.value c.loop-lightest.invariant.queue.below

pub relax-requires-clause-weight : goal.relax-requires-clause-weight
relax-requires-clause-weight c = grind (arith, nat_tests, next_is_lightest, light_enough)

pub loop-lightest-preserved : goal.loop-lightest-preserved
loop-lightest-preserved c =
    way_goes_on c.loop-lightest.invariant c.nodes.ensures.limits.few
    (rw c.deref.ensures.value at c.in-Some.ensures.next) c.arcs_of-arcs.ensures
    (drop (length c.relax.new.weights) c.loop-lightest.weights.items)
    (rw (c.deref-in-Some.ensures.value, c.deref_mut.ensures.value) at c.in_ok-relax.ensures)
    (omega (arith, c.relax.auto.weights, c.deref_mut.ensures.len))

pub returns : goal.returns
returns c =
    way_ends c.loop-lightest.invariant (rw c.deref.ensures.value at c.in_default.ensures.none)

pub index_mut-requires : goal.index_mut-requires
index_mut-requires c = grind (arith, common_steps)

pub loop-lightest-smaller : goal.loop-lightest-smaller
loop-lightest-smaller c = grind (arith, common_steps)
