use Rattle.std.proofs.lemmas.Grind.{common_steps}
use Rattle.std.proofs.Common.{◌≡◌, inl, inr, ◌<◌, ◌≤◌, ℕ, List, [], ◌∷◌, false, length, length-append, ap, arith, sym, ◌∙◌, subst}
use Rattle.std.proofs.lemmas.Bool.{cases_lt}
use Rattle.node_set.specs.Ascending.{has}
use Rattle.node_set.specs.Balls.{centres, sets}
use Rattle.node_set.specs.BallLaws.{length-sets}
use Rattle.node_set.specs.LeadLaws.{lead, none_waits, nothing_at}
use Rattle.node_set.specs.Nodes.{Nodes}
use Rattle.node_set.specs.Workspaces.{SpareTaken}
use Rattle.node_set.specs.WorkspaceLaws.{left_on, none_taken, taken_on}
use Rattle.mean_cover.specs.Covering.{mean_cluster, mean_covering}
use Rattle.mean_cover.specs.MeanCovers.{IsMeanCover}
use Rattle.mean_cover.specs.HalfMade.{IsAdded, IsUnderWay}
use Rattle.mean_cover.specs.declared.cover.MeanCover.{MeanCover}
use Rattle.mean_cover.proofs.Results.{is_mean_cover}
use Rattle.mean_cover.proofs.Steps.{none_next, numbers_few, under_way_next, under_way_start}
use Rattle.mean_cover.proofs.covering.coarsen_mean_by_rows.Goals as goal

pub first-init : goal.first-init
first-init c =
    let all : c.fill_all.new.set.members ≡ centres (length (sets c.args.balls.now)) =
    grind (arith, length-sets) in
    record {
      under_way = rw c.new.ensures.items (under_way_start (sets c.args.balls.now) c.args.k c.fill_all.new.set.members
          c.in_ok-vec.field-0.items c.requires.centred all);
      none_before = λ v h. absurd (omega arith);
      sized = record {
        left = c.requires.work.left;
        waiting = ap (λ (s : Nodes). s.room) c.fill_all.ensures ∙ c.requires.work.waiting;
        taken = c.requires.work.taken;
        touched = c.requires.work.touched;
        spare = c.requires.work.spare;
      };
      home_count = sym c.in_ok-vec.field-0.ok.0 ∙ c.in_ok-vec.ensures.len;
      spare = rw c.new.ensures.items (none_taken c.args.work.now.growth.spare.items);
    }

pub add_cluster-requires-clause-numbers : goal.add_cluster-requires-clause-numbers
add_cluster-requires-clause-numbers c =
    omega (
      arith,
      numbers_few (sets c.args.balls.now) c.args.k c.first.work.waiting.members c.first.cover.clusters.items
          c.first.cover.home.items c.requires.low c.requires.centred c.requires.inside c.first.invariant.under_way,
      length-sets c.args.balls.now,
      c.requires.small,
    )

pub add_cluster-requires-clause-leads : goal.add_cluster-requires-clause-leads
add_cluster-requires-clause-leads c =
    lead c.first.work.waiting.members c.in-Some.first c.first.invariant.under_way.ready.ascending
    c.in-Some.ensures.some.member
    (grind (arith, none_waits))

pub first-preserved : goal.first-preserved
first-preserved c =
    let before : (v : ℕ) → v < c.in-Some.first → has v c.first.work.waiting.members ≡ false =
    grind (arith, none_waits) in
    let leads : (rest : List ℕ) × (c.first.work.waiting.members ≡ c.in-Some.first ∷ rest) =
    grind (arith, lead) in
    let added : IsAdded (length c.args.balls.now)
    (mean_cluster (sets c.args.balls.now) c.args.k c.first.work.waiting.members c.in-Some.first) c.first.work
    c.add_cluster.new.work c.first.cover c.add_cluster.new.cover = c.in_ok-add_cluster.ensures.added in
    record {
      under_way = under_way_next (sets c.args.balls.now) c.args.k c.in-Some.first leads.0
          c.first.work c.add_cluster.new.work c.first.cover c.add_cluster.new.cover c.requires.low c.requires.inside
          leads.1 c.first.invariant.under_way (subst
          (λ (n : ℕ). IsAdded n (mean_cluster (sets c.args.balls.now) c.args.k c.first.work.waiting.members
          c.in-Some.first) c.first.work c.add_cluster.new.work
          c.first.cover c.add_cluster.new.cover) (sym (length-sets c.args.balls.now)) added);
      none_before = none_next (sets c.args.balls.now) c.args.k c.requires.low c.requires.inside c.in-Some.first
          c.first.work.waiting.members leads.0 leads.1 c.first.invariant.under_way.ready
          c.add_cluster.new.work.waiting.members added.waiting before;
      sized = c.add_cluster.ensures.sized;
      home_count = added.home_count;
      spare = subst
          (λ (n : ℕ). SpareTaken n c.args.work.now.growth.spare.items c.add_cluster.new.work.growth.spare.items)
          (sym (ap length added.clusters ∙ length-append c.first.cover.clusters.items _))
          (taken_on (length c.first.cover.clusters.items) 1 c.args.work.now.growth.spare.items
          c.first.work.growth.spare.items c.add_cluster.new.work.growth.spare.items c.first.invariant.spare
          c.add_cluster.ensures.spare);
    }

-- no ball waits
cover_is : (balls : List Nodes) (k from : ℕ) (waiting : List ℕ) (cover : MeanCover)
    → ((v : ℕ) → v < from → has v waiting ≡ false) → ((v : ℕ) → from ≤ v → has v waiting ≡ false)
    → IsUnderWay (sets balls) k waiting cover.clusters.items cover.home.items
    → length cover.home.items ≡ length balls → IsMeanCover (length balls) (mean_covering (sets balls) k) cover
cover_is balls k from waiting cover before past under_way home_count =
    let none : waiting ≡ [] = nothing_at waiting (λ v. elim (cases_lt v from) [
      | inl below ↦ before v below
      | inr over ↦ past v over
    ])
    in
    subst (λ (n : ℕ). IsMeanCover n (mean_covering (sets balls) k) cover) (length-sets balls)
    (is_mean_cover (sets balls) k waiting cover under_way none (home_count ∙ sym (length-sets balls)))

pub returns-clause-exact : goal.returns-clause-exact
returns-clause-exact c =
    cover_is c.args.balls.now c.args.k c.first.from c.first.work.waiting.members c.first.cover
    c.first.invariant.none_before c.in_default.ensures.none c.first.invariant.under_way c.first.invariant.home_count

pub returns-clause-few : goal.returns-clause-few
returns-clause-few c =
    omega (
      arith,
      length-sets c.args.balls.now,
      numbers_few (sets c.args.balls.now) c.args.k c.first.work.waiting.members c.first.cover.clusters.items
          c.first.cover.home.items c.requires.low c.requires.centred c.requires.inside c.first.invariant.under_way,
    )

pub returns-clause-spare_left : goal.returns-clause-spare_left
returns-clause-spare_left c = (length c.first.cover.clusters.items, c.first.invariant.spare)

pub returns-in_err-add_cluster-clause-spare_left : goal.returns-in_err-add_cluster-clause-spare_left
returns-in_err-add_cluster-clause-spare_left c =
    left_on (length c.first.cover.clusters.items) c.args.work.now.growth.spare.items
    c.first.work.growth.spare.items c.add_cluster.new.work.growth.spare.items c.first.invariant.spare
    (1, c.add_cluster.ensures.spare)

pub returns-in_err-vec : goal.returns-in_err-vec
returns-in_err-vec c = grind (arith, common_steps)
