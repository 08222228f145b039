use Rattle.std.proofs.Common.{◌≡◌, ℕ, ◌+◌, ◌*◌, ◌<◌, ◌≤◌, List, [], ◌∷◌, ◌++◌, length, get_or, arith}
use Rattle.std.proofs.Math.Nat.{le_antisymm}
use Rattle.std.proofs.lemmas.List.{take_all}
use Rattle.std.proofs.lemmas.List.Sums.{sum_by_more}
use Rattle.region_plan.specs.Kept.{IsKept}
use Rattle.region_plan.specs.Plan.{PlanData, clusters_of, levels_of, no_level, nodes_of}
use Rattle.visit_log.specs.Numbers.{clusters_below}
use Rattle.visit_log.proofs.Adding.{pushed}
use Rattle.visit_log.proofs.Apart.{size}
use Rattle.visit_log.proofs.places.Places.new.Goals as goal

-- the first place of one level more
record HaveFirsts (plan : PlanData) (firsts : List ℕ) (level first : ℕ) : Type 0 where
  count : length firsts ≡ level
  each : (k : ℕ) → k < level → get_or firsts k 0 ≡ nodes_of plan + clusters_below plan k
  next : first ≡ nodes_of plan + clusters_below plan level
  few : first ≤ 1024 * (level + 1)

more-firsts : {plan : PlanData} {old new : List ℕ} {level first : ℕ} → IsKept plan → level < levels_of plan
    → HaveFirsts plan old level first → new ≡ old ++ first ∷ []
    → HaveFirsts plan new (level + 1) (first + clusters_of plan level)
more-firsts {plan} {level = level} kept low have items =
    let row = pushed items in
    grind (arith, sum_by_more, kept.levels level no_level low)

pub loop-level-preserved : goal.loop-level-preserved
loop-level-preserved c = grind (arith, more-firsts)

pub returns : goal.returns
returns c = grind (arith, le_antisymm, size, take_all)
