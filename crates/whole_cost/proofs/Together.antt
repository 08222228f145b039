-- Each caller's finds are within the bound of finds in turn, and all that is written within the rate.
use Rattle.std.proofs.Common.{◌≡◌, ℕ, suc, ◌+◌, ◌*◌, ◌≤◌, List, [], ◌∷◌, length, ap, subst, arith}
use Rattle.std.proofs.Math.Nat.{mul_assoc}
use Rattle.std.proofs.lemmas.List.Elements.{All-head, All-tail}
use Rattle.std.proofs.lemmas.List.Sums.{sum_by-cons}
use Rattle.busy_finds.specs.Altogether.{AreInTurn, distance_in_all, FindsInTurnAreBounded, MadeFind, passages_in_all, weigh_in_all}
use Rattle.busy_finds.specs.Plans.{PlanFindsInTurnAreBounded}
use Rattle.directory.specs.Histories.{History, puts_to}
use Rattle.directory.specs.Puts.{steps_in}
use Rattle.directory.specs.Settings.{levels, Setting}
use Rattle.move_cost.specs.Pace.{WrittenIsBounded}
use Rattle.move_cost.specs.Plans.{PlansArePaced}
use Rattle.move_cost.specs.Rate.{writing_rate}
use Rattle.region_plan.specs.Measures.{stretch_of}
use Rattle.region_plan.specs.Plan.{levels_of}
use Rattle.region_plan.specs.Settings.{setting_of}
use Rattle.stretch_laws.specs.Tracking.{stretch}
use Rattle.whole_cost.specs.WholeRuns.{AreMade, distance_by_all, most_in_all, passages_by_all, PlanRunsAreBounded, way_in, weigh_by_all, WholeRunsAreBounded, written_in}

-- one caller more
shares : (c m d p n e q : ℕ) → c * (d + m) + 2 * p + (c * e + n * c * m + 2 * q)
    ≡ c * (d + e) + suc n * c * m + 2 * (p + q)
shares c m d p n e q = grind arith

-- and what is written
joined : (c m w n d p : ℕ) → c * d + n * c * m + 2 * p + (16 * w + 4) * m
    ≡ c * d + (n * c + 16 * w + 4) * m + 2 * p
joined c m w n d p = grind arith

module _ (setting : Setting) (history : History) (sub times most : ℕ)
    (each : (finds : List MadeFind) → AreInTurn setting history sub 0 finds
    → weigh_in_all finds ≤ times * (distance_in_all setting history finds + most)
    + 2 * passages_in_all setting history finds) where
  all-weigh : (callers : List (List MadeFind)) → AreMade setting history sub callers
      → weigh_by_all callers ≤ times * distance_by_all setting history callers + length callers * times * most
      + 2 * passages_by_all setting history callers
  all-weigh [] made = omega arith
  all-weigh (finds ∷ callers) made = omega (
    arith,
    each finds (All-head (AreInTurn setting history sub 0) finds callers made),
    all-weigh callers (All-tail (AreInTurn setting history sub 0) finds callers made),
    sum_by-cons weigh_in_all finds callers,
    ap (λ n. times * n) (sum_by-cons (distance_in_all setting history) finds callers),
    sum_by-cons (passages_in_all setting history) finds callers,
    shares times most (distance_in_all setting history finds) (passages_in_all setting history finds)
        (length callers) (distance_by_all setting history callers) (passages_by_all setting history callers),
  )

-- both sums
pub together : (setting : Setting) (history : History) (sub times width : ℕ)
    → ((finds : List MadeFind) → AreInTurn setting history sub 0 finds
    → weigh_in_all finds
    ≤ times * (distance_in_all setting history finds + levels setting * way_in setting sub history)
    + 2 * passages_in_all setting history finds)
    → written_in setting sub history ≤ writing_rate width (levels setting) * way_in setting sub history
    → (callers : List (List MadeFind)) → AreMade setting history sub callers
    → weigh_by_all callers + written_in setting sub history
    ≤ most_in_all times width setting history sub callers
together setting history sub times width each writes callers made =
    let most : ℕ = levels setting * way_in setting sub history in
    omega (
      arith,
      all-weigh setting history sub times most each callers made,
      writes,
      mul_assoc (16 * width + 4) (levels setting) (way_in setting sub history),
      joined times most width (length callers) (distance_by_all setting history callers)
          (passages_by_all setting history callers),
    )

pub whole-bounded : FindsInTurnAreBounded → WrittenIsBounded → WholeRunsAreBounded
whole-bounded finds writing setting width most_readers history sub callers few tracking paced legal made =
    together setting history sub (stretch width most_readers + 1) width
    (λ its turns. finds setting width most_readers history sub its few tracking paced.gathers legal turns)
    (writing setting width sub (steps_in (puts_to sub history)) paced legal.script) callers made

pub plan-bounded : PlanFindsInTurnAreBounded → PlansArePaced → WrittenIsBounded → PlanRunsAreBounded
plan-bounded finds paced writing plan starts history sub callers few bounds legal made =
    let setting : Setting = setting_of plan starts in
    let whole : levels_of plan ≡ levels setting = omega (arith, bounds.matched.some) in
    together setting history sub (stretch_of plan) plan.reach
    (λ its turns. subst (λ n. weigh_in_all its ≤ stretch_of plan
    * (distance_in_all setting history its + n * way_in setting sub history)
    + 2 * passages_in_all setting history its) whole
    (finds plan starts history sub its few bounds legal turns))
    (writing setting plan.reach sub (steps_in (puts_to sub history)) (paced plan starts bounds) legal.script)
    callers made
