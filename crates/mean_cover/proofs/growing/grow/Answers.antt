use Rattle.std.proofs.Common.{◌≡◌, ◌||◌, ◌+◌, ℕ, List, length, suc, ap, arith, refl, ◌∙◌, add-one}
use Rattle.std.proofs.lemmas.Bool.{false≢true}
use Rattle.node_set.specs.Ascending.{has}
use Rattle.node_set.specs.Balls.{growth, least, union_of, sets}
use Rattle.node_set.specs.BallLaws.{ball_at, growth_first, length-sets, union_first, union_size}
use Rattle.node_set.specs.GrowthLaws.{next_union, reached}
use Rattle.node_set.specs.LeadLaws.{nodes_from}
use Rattle.node_set.specs.Nodes.{Nodes}
use Rattle.node_set.specs.TurnLaws.{touched_grown}
use Rattle.mean_cover.specs.Covering.{is_last, size_after}
use Rattle.mean_cover.proofs.Growth.{cluster_homed, cluster_members, goes_on, some_last, stops}
use Rattle.mean_cover.proofs.growing.grow.Goals as goal
use Rattle.mean_cover.proofs.growing.grow.Goals.{Then-at_most, After-count-more}

-- the ball of the leader
pub loop-step-init : goal.loop-step-init
loop-step-init c =
    let members : c.absorb.new.self ≡ record {
      room = length c.args.balls.now;
      members = union_of (sets c.args.balls.now)
          (growth (sets c.args.balls.now) c.args.waiting.now.members c.args.first 0);
    } = grind (arith, growth_first, union_first, ball_at) in
    record {
      members = members;
      size = c.count-size.ensures ∙ ap (λ (s : Nodes). length s.members) members;
      none = λ i h. absurd (omega arith);
      taken_room = refl;
      touched_room = c.requires.touched;
      spare_rooms = c.in_ok-members.ensures.spare;
      spare = c.in_ok-members.ensures.taken;
    }

-- the balls that touch the union so far are those of the next growth
next_growth : (c : After-count-more) → c.touch.new.touched.members
    ≡ growth (sets c.args.balls.now) c.args.waiting.now.members c.args.first (suc c.loop-step._step)
next_growth c =
    reached (sets c.args.balls.now) c.args.first c.args.waiting.now.members c.loop-step._step
    c.loop-step.members.members c.touch.new.touched.members
    (ap (λ (s : Nodes). s.members) c.loop-step.invariant.members)
    (touched_grown c.args.balls.now c.args.rows.now c.loop-step.members c.args.waiting.now c.touch.new.touched.members
    c.requires.turned
    (ap (λ (s : Nodes). s.room) c.loop-step.invariant.members) c.requires.waiting c.touch.ensures.sound
    c.touch.ensures.waits
    c.touch.ensures.members)

-- and the union has their nodes then
next_members : (c : After-count-more) → c.absorb_balls.new.nodes ≡ record {
  room = length c.args.balls.now;
  members = union_of (sets c.args.balls.now)
      (growth (sets c.args.balls.now) c.args.waiting.now.members c.args.first (suc c.loop-step._step));
}
next_members c =
    let members : c.loop-step.members.members
    ≡ union_of (sets c.args.balls.now) (growth (sets c.args.balls.now) c.args.waiting.now.members c.args.first
    c.loop-step._step) =
    ap (λ (s : Nodes). s.members) c.loop-step.invariant.members
    in
    nodes_from c.absorb_balls.new.nodes (length c.args.balls.now)
    (union_of (sets c.args.balls.now)
    (growth (sets c.args.balls.now) c.args.waiting.now.members c.args.first (suc c.loop-step._step)))
    (c.absorb_balls.ensures.room ∙ ap (λ (s : Nodes). s.room) c.loop-step.invariant.members)
    (next_union (sets c.args.balls.now) c.args.first c.args.waiting.now.members c.requires.leads.0
    c.requires.leads.1
    c.requires.ready.centred c.loop-step._step c.absorb_balls.new.nodes.members
    (c.absorb_balls.ensures.order c.touch.ensures.sound.ascending)
    (λ x. c.absorb_balls.ensures.members x
    ∙ ap (λ (vs : List ℕ). has x (union_of (sets c.args.balls.now) vs) || has x c.loop-step.members.members)
    (next_growth c)
    ∙ ap (λ (l : List ℕ). has x (union_of (sets c.args.balls.now)
    (growth (sets c.args.balls.now) c.args.waiting.now.members c.args.first (suc c.loop-step._step))) || has x l)
    members))

next_size : (c : After-count-more) → c.count-more.result
    ≡ size_after (sets c.args.balls.now) c.args.waiting.now.members c.args.first (suc c.loop-step._step)
next_size c = c.count-more.ensures ∙ ap (λ (s : Nodes). length s.members) (next_members c)

pub at_most-requires-clause-z_small : goal.at_most-requires-clause-z_small
at_most-requires-clause-z_small c =
    omega (
      arith,
      next_size c,
      union_size (sets c.args.balls.now)
          (growth (sets c.args.balls.now) c.args.waiting.now.members c.args.first (suc c.loop-step._step))
          c.requires.inside,
      length-sets c.args.balls.now,
      c.requires.small,
    )

pub at_most-requires-clause-y_small : goal.at_most-requires-clause-y_small
at_most-requires-clause-y_small c =
    omega (
      arith,
      c.loop-step.invariant.size,
      union_size (sets c.args.balls.now)
          (growth (sets c.args.balls.now) c.args.waiting.now.members c.args.first c.loop-step._step)
          c.requires.inside,
      length-sets c.args.balls.now,
      c.requires.small,
    )

growths : (c : Then-at_most)
    → least (is_last (sets c.args.balls.now) c.args.k c.args.waiting.now.members c.args.first) c.args.k
    ≡ c.loop-step._step
growths c =
    stops (sets c.args.balls.now) c.args.k c.args.first c.args.waiting.now.members c.loop-step._step c.count-more.result
    c.loop-step.size (next_size c.before.before) c.loop-step.invariant.size c.loop-step-test.true
    c.loop-step.invariant.none (rw (length-sets c.args.balls.now) (c.at_most.ensures.0 c.if-at_most.true))

pub returns-then-at_most-clause-members : goal.returns-then-at_most-clause-members
returns-then-at_most-clause-members c =
    rw (cluster_members (sets c.args.balls.now) c.args.k c.args.first c.args.waiting.now.members, growths c)
    (next_members c.before.before)

pub returns-then-at_most-clause-touched : goal.returns-then-at_most-clause-touched
returns-then-at_most-clause-touched c =
    rw (cluster_homed (sets c.args.balls.now) c.args.k c.args.first c.args.waiting.now.members, growths c)
    (next_growth c.before.before)

pub loop-step-preserved : goal.loop-step-preserved
loop-step-preserved c =
    let e : c.loop-step._step + 1 ≡ suc c.loop-step._step = add-one c.loop-step._step in
    grind (arith, next_members, next_size, goes_on, false≢true, length-sets)

pub unreachable-requires : goal.unreachable-requires
unreachable-requires c =
    some_last (sets c.args.balls.now) c.args.k c.args.first c.args.waiting.now.members c.requires.leads.0
    c.requires.leads.1 c.requires.low c.requires.ready.centred c.requires.inside
    (λ i h. c.loop-step.invariant.none i (omega (arith, c.loop-step-test.false)))
