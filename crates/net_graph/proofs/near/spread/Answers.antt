use Rattle.std.proofs.Common.{arith, ◌≡◌, drop, length}
use Rattle.std.proofs.lemmas.Grind.{common_steps}
use Rattle.net_graph.proofs.Nearing.{light_enough, nearing_ends, spread_begins, spread_goes_on}
use Rattle.net_graph.proofs.near.spread.Goals as goal

pub loop-lightest-init : goal.loop-lightest-init
loop-lightest-init c =
    let count : length c.push_sources.new.weights ≡ length c.args.marks.now.weights.items =
    grind (arith, common_steps) in
    spread_begins c.args.neighbours.now c.args.radius
    (drop (length c.push_sources.new.weights) c.args.marks.now.weights.items) c.requires.blank.none
    c.in_ok-push_sources.ensures c.requires.sources c.requires.blank.unsettled
    (omega (arith, count, c.requires.blank.weights)) c.requires.blank.waits
    (omega (arith, c.push_sources.auto.weights, c.deref_mut.ensures.len))

pub next_unsettled-requires : goal.next_unsettled-requires
next_unsettled-requires c = rw c.deref.ensures.value c.loop-lightest.invariant.queue.below

pub overflow_cast-node : goal.overflow_cast-node
overflow_cast-node c =
    let next = rw c.deref.ensures.value at c.in-Some.ensures.next in
    omega (arith, next.below, c.loop-lightest.invariant.so_far.nodes, c.requires.few)

pub relax-requires-clause-weight : goal.relax-requires-clause-weight
relax-requires-clause-weight c = omega (
  arith,
  light_enough c.loop-lightest.invariant (rw c.deref.ensures.value at c.in-Some.ensures.next),
  c.requires.radius,
)

pub loop-lightest-preserved : goal.loop-lightest-preserved
loop-lightest-preserved c =
    spread_goes_on c.loop-lightest.invariant (rw c.deref.ensures.value at c.in-Some.ensures.next)
    c.arcs_of-arcs.ensures (drop (length c.relax.new.weights) c.loop-lightest.marks.weights.items)
    (rw (c.deref-in-Some.ensures.value, c.deref_mut-in-Some.ensures.value) at c.in_ok-relax.ensures)
    c.in_ok-push.ensures.items
    (omega (arith, c.relax.auto.weights, c.deref_mut-in-Some.ensures.len))

pub returns-clause-ended : goal.returns-clause-ended
returns-clause-ended c =
    nearing_ends c.loop-lightest.marks c.loop-lightest.invariant
    (rw c.deref.ensures.value at c.in_default.ensures.none)
