use Rattle.std.proofs.Common.{◌≡◌, ℕ, length, ap, arith, refl, sym, ◌∙◌, subst, add-one, ◌+◌, ◌-◌, length-append}
use Rattle.coarse_cover.specs.Coarsening.{cluster_of}
use Rattle.coarse_cover.specs.HalfMade.{IsAdded}
use Rattle.node_set.specs.Workspaces.{SpareTaken}
use Rattle.node_set.specs.WorkspaceLaws.{left_on, none_taken, taken_on}
use Rattle.node_set.specs.LeadLaws.{lead, nothing_at, members_few, none_waits}
use Rattle.node_set.specs.Nodes.{Nodes}
use Rattle.std.proofs.lemmas.Bool.{cases_lt}
use Rattle.coarse_cover.proofs.Steps.{in_phase_start, in_phase_next, in_phase_end, in_phase_bounds, none_next}
use Rattle.coarse_cover.proofs.phasing.make_phase.Goals as goal
use Rattle.node_set.specs.Balls.{GrownCluster, sets}
use Rattle.node_set.specs.BallLaws.{length-sets}

pub first-init : goal.first-init
first-init c =
    let copied = ap (λ (s : Nodes). s.members) c.assign.ensures in
    record {
      in_phase = in_phase_start c.requires.between c.requires.some copied c.count-r.ensures;
      none_before = λ v h. absurd (omega arith);
      sized = record {
        left = c.requires.sized.left;
        waiting = ap (λ (s : Nodes). s.room) c.assign.ensures ∙ c.requires.sized.left;
        taken = c.requires.sized.taken;
        touched = c.requires.sized.touched;
        spare = c.requires.sized.spare;
      };
      home_count = c.requires.home_count;
      phases_kept = refl;
      small = omega (
        arith,
        c.count-r.ensures,
        members_few c.args.work.now.left c.set_is_sound.ensures,
        c.set_is_sound.ensures.small,
      );
      more = omega arith;
      spare = subst (λ (n : ℕ). SpareTaken n c.args.work.now.growth.spare.items c.args.work.now.growth.spare.items)
          (omega arith) (none_taken c.args.work.now.growth.spare.items);
    }

pub add_cluster-requires-clause-numbers : goal.add_cluster-requires-clause-numbers
add_cluster-requires-clause-numbers c =
    let bounds = in_phase_bounds c.requires.low c.requires.centred c.first.invariant.in_phase in
    omega (arith, bounds.0, length-sets c.args.balls.now)

pub add_cluster-requires-clause-leads : goal.add_cluster-requires-clause-leads
add_cluster-requires-clause-leads c =
    lead c.first.work.waiting.members c.in-Some.first c.first.invariant.in_phase.ready.ascending
    c.in-Some.ensures.some.member
    (grind (arith, none_waits))

pub first-preserved : goal.first-preserved
first-preserved c =
    let waiting = c.first.work.waiting.members in
    let before = none_waits waiting c.first.from c.in-Some.first c.first.invariant.none_before c.in-Some.ensures.some in
    let leads = lead waiting c.in-Some.first c.first.invariant.in_phase.ready.ascending c.in-Some.ensures.some.member
    before in
    let cluster : GrownCluster = cluster_of (sets c.args.balls.now) c.args.k c.count-r.result
    c.first.work.waiting.members c.in-Some.first in
    let added = c.in_ok-add_cluster.ensures.added in
    let one_more : length c.add_cluster.new.cover.clusters.items ≡ length c.first.cover.clusters.items + 1 =
    ap length added.clusters ∙ length-append c.first.cover.clusters.items _ in
    record {
      in_phase = in_phase_next leads.1 c.first.invariant.in_phase
          (subst (λ (n : ℕ). IsAdded n (sets c.args.balls.now) cluster c.first.work c.add_cluster.new.work c.first.cover
          c.add_cluster.new.cover) (sym (length-sets c.args.balls.now)) added);
      none_before = none_next leads.1 c.first.invariant.in_phase.ready added.waiting before;
      sized = c.add_cluster.ensures.sized;
      home_count = added.home_count;
      phases_kept = added.phases ∙ c.first.invariant.phases_kept;
      small = c.first.invariant.small;
      more = omega (arith, one_more, c.first.invariant.more);
      spare = subst
          (λ (n : ℕ). SpareTaken n c.args.work.now.growth.spare.items c.add_cluster.new.work.growth.spare.items)
          (omega (arith, one_more, c.first.invariant.more))
          (taken_on (length c.first.cover.clusters.items - length c.args.cover.now.clusters.items) 1
          c.args.work.now.growth.spare.items c.first.work.growth.spare.items
          c.add_cluster.new.work.growth.spare.items c.first.invariant.spare c.add_cluster.ensures.spare);
    }

pub overflow_add-cover : goal.overflow_add-cover
overflow_add-cover c =
    let bounds = in_phase_bounds c.requires.low c.requires.centred c.first.invariant.in_phase in
    omega (arith, bounds.1, length-sets c.args.balls.now)

pub returns-clause-between : goal.returns-clause-between
returns-clause-between c =
    let none = nothing_at c.first.work.waiting.members (λ v. grind (arith, cases_lt)) in
    search (add-one, in_phase_end)

pub returns-clause-spare_left : goal.returns-clause-spare_left
returns-clause-spare_left c =
    (length c.first.cover.clusters.items - length c.args.cover.now.clusters.items, c.first.invariant.spare)

pub returns-in_err-add_cluster-clause-spare_left : goal.returns-in_err-add_cluster-clause-spare_left
returns-in_err-add_cluster-clause-spare_left c =
    left_on (length c.first.cover.clusters.items - length c.args.cover.now.clusters.items)
    c.args.work.now.growth.spare.items c.first.work.growth.spare.items c.add_cluster.new.work.growth.spare.items
    c.first.invariant.spare (1, c.add_cluster.ensures.spare)
