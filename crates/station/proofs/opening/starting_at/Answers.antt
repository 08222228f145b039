use Rattle.std.proofs.Common.{rules, arith, ◌≡◌, ◌≢◌, ◌+◌, ◌<◌, ◌==◌, cond, ℕ, List, [], refl, sym, ap, ◌∙◌, subst, eq-eqb, ne_eqb, length}
use Rattle.std.specs.Prelude.{slice_index}
use Rattle.node_set.specs.Ascending.{sift}
use Rattle.entry_word.specs.Marks.{mark_in, says_here}
use Rattle.entry_word.specs.declared.visit.Key.TheVariants.{Presence}
use Rattle.directory.specs.Histories.{cell}
use Rattle.region_plan.specs.Settings.{setting_of}
use Rattle.station.proofs.Laying.{count-more}
use Rattle.station.proofs.opening.starting_at.Goals as goal
use Rattle.station.proofs.opening.starting_at.Goals.{then-node-homes, else-node-homes}

pub loop-sub-preserved : goal.loop-sub-preserved
loop-sub-preserved c =
    let home = slice_index c.args.homes.now c.loop-sub.sub in
    let e : c.if-node-homes.count ≡ c.loop-sub.count + cond (c.args.node == home) 1 0 =
    grind (arith, then-node-homes, else-node-homes) in (
      (λ plan. e ∙ count-more (setting_of plan c.args.homes.now) c.args.node c.loop-sub.sub c.loop-sub-test.true
          (c.loop-sub.invariant.0 plan)),
      bound (c.args.node == home) c.loop-sub.count c.loop-sub.sub c.if-node-homes.count e c.loop-sub.invariant.1,
    )
  where
    bound : (b : Rattle.std.proofs.Common.Bool) → (count sub new : ℕ) → new ≡ count + cond b 1 0
        → Rattle.std.proofs.Common.◌≤◌ count sub → Rattle.std.proofs.Common.◌≤◌ new (sub + 1)
    bound b count sub new e h = grind arith

pub returns : goal.returns
returns c =
    let all : c.loop-sub.sub ≡ length c.args.homes.now = grind arith in record {
      count = λ plan. c.loop-sub.invariant.0 plan
          ∙ ap {B = ℕ} (λ (k : ℕ). length (sift (λ s. says_here (mark_in (cell
          (setting_of plan c.args.homes.now) [] (Presence c.args.node s)))) 0 k)) all;
    }
