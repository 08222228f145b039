use Rattle.std.proofs.Common.{◌≡◌, ℕ, ◌+◌, ◌*◌, ◌<◌, [], ◌∷◌, ◌++◌, refl, ◌∙◌, inl, inr, arith}
use Rattle.std.proofs.lemmas.Bool.{cases_lt}
use Rattle.region_plan.specs.Plan.{PlanData, home, levels_of}
use Rattle.visit_log.specs.Homes.{HaveHomes, HomeData, home_place}
use Rattle.entry_word.specs.declared.visit.Key.TheVariants.{Entry}
use Rattle.visit_log.proofs.Adding.{pushed}
use Rattle.visit_log.proofs.Apart.{place-below, same-part}
use Rattle.visit_log.proofs.homes.Homes.push_node.Goals as goal

-- one home more
home-more : {plan : PlanData} {old : HomeData} (new : HomeData) (node level : ℕ) {place : ℕ} → level < levels_of plan
    → HaveHomes plan old (node * levels_of plan + level) → new.levels ≡ old.levels
    → new.places ≡ old.places ++ place ∷ [] → place ≡ home_place plan node level
    → HaveHomes plan new (node * levels_of plan + (level + 1))
home-more {plan} {old} new node level {place} low have levels places is =
    let count : ℕ = node * levels_of plan + level in
    let row = pushed places in
    record {
      levels = levels ∙ have.levels;
      count_is = omega (arith, row.size, have.count_is);
      places = λ other above high before. elim (cases_lt (other * levels_of plan + above) count) [
        | inl less ↦
            row.before (other * levels_of plan + above) (omega (arith, less, have.count_is))
            ∙ have.places other above high less
        | inr over ↦
            let both = same-part (levels_of plan) node level other above low high (omega (arith, before, over)) in
            rw (both.0, both.1) (row.last count (omega (arith, have.count_is)) ∙ is)
      ];
    }

pub loop-level-preserved : goal.loop-level-preserved
loop-level-preserved c =
    let plan = c.args.plan.now in
    let low : c.loop-level.level < levels_of plan = grind arith in
    home-more
    (record { levels = c.loop-level.self-inside.levels; places = c.push.new.self.items }) c.args.node c.loop-level.level
    low c.loop-level.invariant refl c.in_ok-push.ensures.items
    (omega (arith, c.first.ensures, c.requires.places.firsts c.loop-level.level low, c.home.ensures))

pub overflow_add-place : goal.overflow_add-place
overflow_add-place c =
    let level : ℕ = c.loop-level.level in
    grind (arith, place-below c.args.plan.now (Entry level (home c.args.plan.now level c.args.node) 0))
