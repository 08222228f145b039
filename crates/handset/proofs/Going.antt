-- A handset goes with its plan after each of its writes.
use Rattle.std.proofs.Common.{◌≡◌, ℕ, suc, ◌+◌, ◌*◌, ◌-◌, ◌^◌, ◌<◌, ◌≤◌, Bool, true, false, cond, List, [], ◌++◌, length, drop, replicate, refl, ap, ◌∙◌, subst, arith, length-append}
use Rattle.std.specs.Prelude.{get_or, nat_lt, slice_set}
use Rattle.std.proofs.lemmas.List.{length-map, length-set, length-drop, length-replicate, get_or_append_left, get_or-replicate, get_or-append_right, get_or-drop}
use Rattle.directory.specs.Courses.{Move}
use Rattle.directory.specs.Writes.{numbers_from}
use Rattle.region_plan.specs.Plan.{PlanData, nodes_of, levels_of}
use Rattle.region_plan.specs.Kept.{IsKept}
use Rattle.region_plan.specs.Settings.{setting_of}
use Rattle.handset.specs.declared.stage.Stage.{Stage}
use Rattle.handset.specs.declared.stage.Stage.TheVariants.{Resting, Erasing, Purging}
use Rattle.handset.specs.Condition.{HandsetData, GoesWith, IsMoveStage, begun_at}
use Rattle.handset.specs.StepWrites.{first_with, is_behind, purging_at, purging_from, erasing_from, settle, go_on}
use Rattle.handset.specs.Beginning.{gathered_then, gathered_after, journey_to, begin_move}
use Rattle.handset.proofs.Lists.{first-inside, numbers-from-zero}
use Rattle.directory.specs.StepLaws.{highest-low}
use Rattle.node_set.specs.SetLaws.{length-passing_all}

-- a stage behind the confirm, or rest
abbrev pub IsLate : ℕ → Move → Stage → Type 0
IsLate nodes move Resting = Unit {0}
IsLate nodes move (Erasing level) = level ≤ move.renewed
IsLate nodes move (Purging node) = node < nodes
IsLate nodes move stage = ⊥

pub purging-is-late : (plan : PlanData) (handset : HandsetData) (node : ℕ) → IsLate (nodes_of plan) handset.last
    (purging_from (setting_of plan []) handset node)
purging-is-late plan handset node = grind (arith, first-inside)

pub erasing-is-late : (plan : PlanData) (handset : HandsetData) (level : ℕ) → IsLate (nodes_of plan) handset.last
    (erasing_from (setting_of plan []) handset level)
erasing-is-late plan handset level = grind (arith, first-inside, purging-is-late plan handset 0)

-- the addresses after a move
pub readdressed : (xs : List ℕ) (renewed to level : ℕ) → level < length xs
    → get_or (replicate (suc renewed) to ++ drop (suc renewed) xs) level 0 ≡ cond (nat_lt renewed level)
    (get_or xs level 0) to
readdressed xs renewed to level h =
    grind (arith, length-replicate, get_or_append_left, get_or-replicate, get_or-append_right, get_or-drop)

trail-length : (b : Bool) (trail : List Bool) (to : ℕ) → length (slice_set (cond b (replicate
    (length trail) false) trail) to true) ≡ length trail
trail-length true trail to = grind (arith, length-set, length-replicate)
trail-length false trail to = length-set trail to true

pub goes-settled : {plan : PlanData} {handset : HandsetData} → GoesWith plan handset
    → handset.last.number ≡ handset.number → GoesWith plan (settle (setting_of plan []) handset)
goes-settled {plan} {handset} goes done =
    grind (arith, length-append, length-replicate, length-drop, trail-length, readdressed)

pub goes-late : {plan : PlanData} {handset : HandsetData} (next : Stage) → GoesWith plan handset
    → handset.last.number ≡ begun_at next handset.number → IsMoveStage (nodes_of plan) handset.last next
    → GoesWith plan (record handset { stage = next })
goes-late next goes counted within = assumption

pub goes-on : {plan : PlanData} {handset : HandsetData} (next : Stage) → GoesWith plan handset
    → handset.last.number ≡ handset.number → IsLate (nodes_of plan) handset.last next
    → GoesWith plan (go_on (setting_of plan []) handset next)
goes-on Resting goes done late = goes-settled goes done
goes-on (Erasing level) goes done late = goes-late (Erasing level) goes done late
goes-on (Purging node) goes done late = goes-late (Purging node) goes done late
goes-on stage goes done late = absurd late

-- a handset that goes on from a stage behind the commit
pub goes-next : {plan : PlanData} {handset after : HandsetData} {stage : Stage} (next : Stage) → GoesWith plan handset
    → handset.stage ≡ stage → begun_at stage handset.number ≡ handset.number
    → IsLate (nodes_of plan) handset.last next → after ≡ go_on (setting_of plan []) handset next → GoesWith plan after
goes-next {plan} {handset} next goes at committed late same = grind (arith, goes-on)

pub purging-by-count : (plan : PlanData) (handset : HandsetData) (node : ℕ) {count : ℕ} → count ≡ nodes_of plan
    → IsLate (nodes_of plan) handset.last (purging_at (first_with (is_behind handset) node (count - node)))
purging-by-count plan handset node same = grind (arith, purging-is-late)

-- what the levels have gathered stays light
pub light-after : (xs : List ℕ) {ys : List ℕ} {levels : ℕ} (n : ℕ) {more : ℕ} (renewed weight : ℕ) → length xs ≡ levels
    → ((level : ℕ) → level < levels → get_or xs level 0 ≤ n * 2 ^ 30) → weight ≤ 2 ^ 30 → more ≡ n + 1
    → ys ≡ gathered_after xs renewed weight → (level : ℕ) → level < levels → get_or ys level 0 ≤ more * 2 ^ 30
light-after xs {ys} n {more} renewed weight count light small next same level h = grind (arith, numbers-from-zero)

-- a handset that begins a move goes with its plan
light-weight : {plan : PlanData} (u v : ℕ) → IsKept plan → (setting_of plan []).distance u v ≤ 2 ^ 30
light-weight {plan} u v kept = grind (arith, kept.metric.bounded u v, kept.metric.few)

pub goes-begun : {plan : PlanData} {handset : HandsetData} (to : ℕ) → IsKept plan → GoesWith plan handset
    → to < nodes_of plan → handset.stage ≡ Resting → suc handset.number < 2 ^ 32
    → GoesWith plan (begin_move (setting_of plan []) handset to)
goes-begun {plan} {handset} to kept goes inside rests few =
    let done : handset.last.number ≡ handset.number = goes.counted ∙ ap (λ s. begun_at s handset.number) rests in
    let gathered = length-map (numbers_from 0 (length handset.gathered)) (λ k. gathered_then
    (get_or handset.gathered k 0) move.renewed move.weight k) ∙ (length-passing_all 0 (length handset.gathered)
    ∙ goes.gathered) in
    let renewed : move.renewed < levels_of plan = grind (arith, highest-low) in
    let after = begin_move (setting_of plan []) handset to in
    let light : (level : ℕ) → level < levels_of plan → get_or after.gathered level 0 ≤ after.last.number * 2 ^ 30 =
    light-after handset.gathered handset.number move.renewed move.weight goes.gathered
    (λ level h. subst (λ n. get_or handset.gathered level 0 ≤ n * 2 ^ 30) done (goes.light level h))
    (light-weight handset.place to kept) (omega arith) refl in
    assumption
  where
    move : Move
    move = journey_to (setting_of plan []) handset to
