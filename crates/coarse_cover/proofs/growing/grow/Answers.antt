use Rattle.std.proofs.Common.{◌≡◌, length, filter, ap, arith, refl, sym, add-one}
use Rattle.std.proofs.lemmas.Bool.{false≢true}
use Rattle.node_set.specs.Nodes.{Nodes}
use Rattle.coarse_cover.specs.Coarsening.{is_enough}
use Rattle.node_set.specs.LeadLaws.{nodes_from}
use Rattle.node_set.specs.TurnLaws.{touched_grown}
use Rattle.coarse_cover.proofs.Growth.{cluster_homed, cluster_members, some_enough, stops, goes_on}
use Rattle.node_set.specs.GrowthLaws.{growth_fits, next_union, reached}
use Rattle.coarse_cover.proofs.growing.grow.Goals as goal
use Rattle.node_set.specs.Balls.{growth, least, touches, union_of, sets}
use Rattle.node_set.specs.BallLaws.{ball_at, growth_first, union_first}
use Rattle.node_set.specs.FilterLaws.{filter_fewer}
use Rattle.coarse_cover.proofs.growing.grow.Goals.{Then-at_most, After-count-more}

-- the first growth
pub loop-step-init : goal.loop-step-init
loop-step-init c =
    let first = growth_first (sets c.args.balls.now) c.args.waiting.now.members c.args.first in
    record {
      taken = grind arith;
      members = grind (arith, union_first, ball_at);
      size = sym (ap length first);
      none = λ i h. absurd (omega arith);
      taken_room = grind arith;
      touched_room = c.requires.touched;
      spare_rooms = c.in_ok-members.ensures.spare;
      spare = c.in_ok-members.ensures.taken;
    }

-- the balls that touch the union so far
touched_are : (c : After-count-more) → c.touch.new.touched.members
    ≡ filter (touches (sets c.args.balls.now) c.loop-step.members.members) c.args.waiting.now.members
touched_are c =
    touched_grown c.args.balls.now c.args.rows.now c.loop-step.members c.args.waiting.now c.touch.new.touched.members
    c.requires.turned (ap (λ (s : Nodes). s.room) c.loop-step.invariant.members) c.requires.waiting
    c.touch.ensures.sound c.touch.ensures.waits c.touch.ensures.members

pub at_most-requires-clause-z_small : goal.at_most-requires-clause-z_small
at_most-requires-clause-z_small c =
    omega (
      arith,
      c.count-more.ensures,
      ap length (touched_are c),
      filter_fewer (touches (sets c.args.balls.now) c.loop-step.members.members) c.args.waiting.now.members,
      c.requires.ready.fits,
    )

pub at_most-requires-clause-y_small : goal.at_most-requires-clause-y_small
at_most-requires-clause-y_small c =
    omega (
      arith,
      growth_fits (sets c.args.balls.now) c.args.first c.args.waiting.now.members c.requires.leads.0
          c.requires.leads.1
          c.loop-step._step,
      c.requires.ready.fits,
      c.loop-step.invariant.size,
    )

growths : (c : Then-at_most)
    → least (is_enough (sets c.args.balls.now) c.args.k c.args.r c.args.waiting.now.members c.args.first) c.args.k
    ≡ c.loop-step._step
growths c =
    let so_far = c.loop-step.invariant in
    stops (sets c.args.balls.now) c.args.k c.args.r c.args.first c.args.waiting.now.members c.loop-step._step
    c.count-more.result c.loop-step.size c.loop-step.members.members c.touch.new.touched.members
    (ap (λ (s : Nodes). s.members) so_far.members) (touched_are c.before.before) c.count-more.ensures so_far.size
    c.loop-step-test.true so_far.none (c.at_most.ensures.0 c.if-at_most.true)

pub returns-then-at_most-clause-members : goal.returns-then-at_most-clause-members
returns-then-at_most-clause-members c =
    rw (cluster_members (sets c.args.balls.now) c.args.k c.args.r c.args.first c.args.waiting.now.members, growths c)
    c.loop-step.invariant.members

pub returns-then-at_most-clause-taken : goal.returns-then-at_most-clause-taken
returns-then-at_most-clause-taken c =
    rw (cluster_homed (sets c.args.balls.now) c.args.k c.args.r c.args.first c.args.waiting.now.members, growths c)
    c.loop-step.invariant.taken

pub returns-then-at_most-clause-touched : goal.returns-then-at_most-clause-touched
returns-then-at_most-clause-touched c =
    rw (
      cluster_members (sets c.args.balls.now) c.args.k c.args.r c.args.first c.args.waiting.now.members,
      growths c,
      ← ap (λ (s : Nodes). s.members) c.loop-step.invariant.members,
    ) (touched_are c.before.before)

pub loop-step-preserved : goal.loop-step-preserved
loop-step-preserved c =
    let balls = sets c.args.balls.now in
    let waiting = c.args.waiting.now.members in
    let j = c.loop-step._step in
    let so_far = c.loop-step.invariant in
    let marks = c.touch.new.touched.members in
    let touched = touched_grown c.args.balls.now c.args.rows.now c.loop-step.members c.args.waiting.now marks
    c.requires.turned (ap (λ (s : Nodes). s.room) so_far.members) c.requires.waiting c.touch.ensures.sound
    c.touch.ensures.waits c.touch.ensures.members in
    let members : c.loop-step.members.members ≡ union_of balls (growth balls waiting c.args.first j) =
    ap (λ (s : Nodes). s.members) so_far.members in
    let next = reached balls c.args.first waiting j c.loop-step.members.members marks members touched in
    let union_is = next_union balls c.args.first waiting c.requires.leads.0 c.requires.leads.1
    c.requires.ready.centred j c.absorb_balls.new.nodes.members
    (c.absorb_balls.ensures.order c.touch.ensures.sound.ascending)
    (λ x. rw (c.absorb_balls.ensures.members x, next, members) refl) in
    grind (arith, add-one, nodes_from, goes_on, false≢true)

pub unreachable-requires : goal.unreachable-requires
unreachable-requires c =
    some_enough (sets c.args.balls.now) c.args.k c.args.r c.args.first c.args.waiting.now.members c.requires.leads.0
    c.requires.leads.1 c.requires.ready.some c.requires.ready.fits (λ i h. c.loop-step.invariant.none i (omega arith))
