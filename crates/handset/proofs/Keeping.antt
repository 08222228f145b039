-- What a handset stands for at a stage, and at the stages that follow it.
use Rattle.std.proofs.Common.{◌≡◌, ℕ, suc, ◌∷◌, ◌^◌, ◌<◌, ◌≤◌, List, length, map, take, drop, refl, arith}
use Rattle.directory.specs.Settings.{Setting, levels}
use Rattle.directory.specs.Courses.{Step, Move, Course}
use Rattle.directory.specs.Writes.{Write, visit_of, visits}
use Rattle.entry_word.specs.declared.visit.Visit.{Visit}
use Rattle.handset.proofs.Lists.{drop-inside, drop-tail}
use Rattle.handset.specs.declared.stage.Stage.{Stage}
use Rattle.handset.specs.Condition.{HandsetData}
use Rattle.handset.specs.StepWrites.{left_at}
use Rattle.handset.specs.Stands.{ComesNext, Shows, StandsAt, StandsForSteps, number_at, place_at, under_way}

-- what a handset and its setting have in common
pub record Fits (setting : Setting) (handset : HandsetData) : Type 0 where
  pub addresses : length handset.addresses ≡ levels setting
  pub trail : length handset.trail ≡ setting.nodes
  pub to : handset.last.to < setting.nodes
  pub renewed : handset.last.renewed ≤ setting.top
  pub low : setting.nodes ≤ 2 ^ 16
  pub from : handset.last.from < setting.nodes
  pub numbered : handset.last.number < 2 ^ 32
  pub number : handset.number < 2 ^ 32

-- at two stages a step is as far, but for its visits
abbrev pub AreAlike : Setting → Move → Stage → Stage → Type 0
AreAlike setting move stage next =
    (under_way move stage ≡ under_way move next)
    × ((course : Course) → ComesNext setting course move stage → ComesNext setting course move next)
    × ((course : Course) → place_at course move stage ≡ place_at course move next)
    × ((course : Course) → number_at course move stage ≡ number_at course move next)

pub alike : (setting : Setting) (move : Move) (stage : Stage) → AreAlike setting move stage stage
alike setting move stage = (refl, λ c m. m, λ c. refl, λ c. refl)

-- so a handset that stands for something at one stands for it at the other, when it has made the visit that came next
pub stands-of : {setting : Setting} {handset : HandsetData} {stage : Stage} (next : Stage) {steps : List Step}
    {made : ℕ} {visit : Visit} {rest : List Write} → AreAlike setting handset.last stage next
    → StandsAt setting handset stage steps made
    → Shows setting handset (take (suc made) (visits setting handset.sub steps))
    → drop made (visits setting handset.sub steps) ≡ visit ∷ map (visit_of handset.sub) rest
    → rest ≡ left_at setting (record handset { stage = next }) next
    → StandsForSteps setting (record handset { stage = next }) steps (suc made)
stands-of {setting} {handset} next {made = made} same f shows due on = grind (arith, drop-inside, drop-tail)
