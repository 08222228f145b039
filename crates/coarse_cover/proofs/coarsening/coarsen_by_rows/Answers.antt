use Rattle.std.proofs.lemmas.Grind.{common_steps}
use Rattle.std.proofs.Common.{◌≡◌, ◌-◌, ℕ, length, ap, arith, sym, ◌∙◌, subst}
use Rattle.coarse_cover.specs.Coarsening.{coarsening}
use Rattle.coarse_cover.specs.Covers.{IsCover}
use Rattle.coarse_cover.proofs.Results.{is_cover, clusters_few, nothing_in, overlap, phases_bounded}
use Rattle.coarse_cover.proofs.Steps.{between_start}
use Rattle.coarse_cover.proofs.coarsening.coarsen_by_rows.Goals as goal
use Rattle.node_set.specs.Nodes.{Nodes}
use Rattle.node_set.specs.Balls.{centres, sets}
use Rattle.node_set.specs.Workspaces.{SpareTaken}
use Rattle.node_set.specs.WorkspaceLaws.{left_on, none_taken, taken_on}
use Rattle.node_set.specs.BallLaws.{length-sets}

pub phase-init : goal.phase-init
phase-init c =
    let full : c.fill_all.new.set.members ≡ centres (length c.args.balls.now) =
    ap (λ (s : Nodes). s.members) c.fill_all.ensures ∙ ap (λ (n : ℕ). centres n) c.requires.work.left in
    let all : c.fill_all.new.set.members ≡ centres (length (sets c.args.balls.now)) =
    full ∙ ap (λ (n : ℕ). centres n) (sym (length-sets c.args.balls.now))
    in
    record {
      between = rw c.new.ensures.items (search between_start);
      sized = record {
        left = ap (λ (s : Nodes). s.room) c.fill_all.ensures ∙ c.requires.work.left;
        waiting = c.requires.work.waiting;
        taken = c.requires.work.taken;
        touched = c.requires.work.touched;
        spare = c.requires.work.spare;
      };
      home_count = sym c.in_ok-vec.field-0.ok.0 ∙ c.in_ok-vec.ensures.len;
      spare = rw c.new.ensures.items (none_taken c.args.work.now.growth.spare.items);
    }

pub phase-preserved : goal.phase-preserved
phase-preserved c = record {
  between = c.in_ok-make_phase.ensures.between;
  sized = c.make_phase.ensures.sized;
  home_count = c.in_ok-make_phase.ensures.home_count;
  spare = subst
      (λ (n : ℕ). SpareTaken n c.args.work.now.growth.spare.items c.make_phase.new.work.growth.spare.items)
      (omega (arith, c.in_ok-make_phase.ensures.more))
      (taken_on (length c.phase.cover.clusters.items)
      (length c.make_phase.new.cover.clusters.items - length c.phase.cover.clusters.items)
      c.args.work.now.growth.spare.items c.phase.work.growth.spare.items c.make_phase.new.work.growth.spare.items
      c.phase.invariant.spare c.in_ok-make_phase.ensures.spare);
}

-- no ball is left
pub returns-clause-exact : goal.returns-clause-exact
returns-clause-exact c =
    subst (λ (n : ℕ). IsCover n (coarsening (sets c.args.balls.now) c.args.k) c.phase.cover)
    (length-sets c.args.balls.now) (grind (arith, is_cover, nothing_in, length-sets))

pub returns-clause-few : goal.returns-clause-few
returns-clause-few c =
    rw (length-sets c.args.balls.now) at (clusters_few (sets c.args.balls.now) c.args.k c.requires.low
    c.requires.centred (returns-clause-exact c))

pub returns-clause-phases : goal.returns-clause-phases
returns-clause-phases c =
    phases_bounded c.covers_are_sparse.ensures (sets c.args.balls.now) c.args.k c.requires.low c.requires.centred
    (sym (length-sets c.args.balls.now)) (returns-clause-exact c)

pub returns-clause-overlap : goal.returns-clause-overlap
returns-clause-overlap c = λ x. overlap c.covers_are_sparse.ensures (sets c.args.balls.now) c.args.k x c.requires.low
    c.requires.centred (returns-clause-exact c)

pub returns-clause-spare_left : goal.returns-clause-spare_left
returns-clause-spare_left c = (length c.phase.cover.clusters.items, c.phase.invariant.spare)

pub returns-in_err-make_phase-clause-spare_left : goal.returns-in_err-make_phase-clause-spare_left
returns-in_err-make_phase-clause-spare_left c =
    left_on (length c.phase.cover.clusters.items) c.args.work.now.growth.spare.items c.phase.work.growth.spare.items
    c.make_phase.new.work.growth.spare.items c.phase.invariant.spare c.make_phase.ensures.spare_left

pub make_phase-requires : goal.make_phase-requires
make_phase-requires c = grind (arith, common_steps)

pub returns-in_err-vec : goal.returns-in_err-vec
returns-in_err-vec c = grind (arith, common_steps)
