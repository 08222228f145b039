use Rattle.std.proofs.Common.{◌≡◌, ℕ, zero, suc, ◌<◌, ◌≤◌, ◌⊎◌, arith, List, [], ◌++◌, refl, subst, sym, ◌∙◌, inl, inr}
use Rattle.atomic_table.proofs.Lists.{set_else}
use Rattle.atomic_table.specs.Table.{State}
use Rattle.entry_word.specs.declared.visit.Act.{Act}
use Rattle.station.specs.Moments.{EventsComeNow, HasLocks, IsStepBeside, IsStepOf}
use Rattle.station.specs.Rule.{IsViewOf, KeepsRule}
use Rattle.station.specs.Setup.{Setup}
use Rattle.station.specs.Turns.{IsInTurn}
use Rattle.station.specs.declared.view.TurnEvent.TheVariants.{Lost, Won}
use Rattle.station.specs.declared.view.View.{View}
use Rattle.worked_examples.specs.Moments.{Brings, one_step}
use Rattle.worked_examples.proofs.moments.told_moments.Goals as goal

-- the locks before the step, and that the event may come then
locks-of : EventsComeNow → (setup : Setup) (old new : State Act View) (node word : ℕ)
    (brings : Brings setup old new (Lost 0 node word))
    → HasLocks setup old (brings.before.turns ++ brings.logs.later)
    × IsInTurn (brings.before.turns ++ brings.logs.later) (Lost 0 node word)
locks-of law setup old new node word brings = (
  law setup old new 1 brings.before brings.after (Lost 0 node word) brings.kept brings.keeps
      brings.was brings.views brings.alone brings.low brings.high (sym brings.own) brings.logs,
  brings.logs.in_turn (brings.before.turns ++ brings.logs.later) (Lost 0 node word) []
      brings.logs.goes_on,
)

pub returns-clause-word : goal.returns-clause-word
returns-clause-word c = λ law setup old new brings known.
    let both = locks-of law setup old new 2 6 brings in both.0.words 2 known ∙ both.1.0

pub returns-clause-holder : goal.returns-clause-holder
returns-clause-holder c = λ law setup old new brings known alone.
    let both = locks-of law setup old new 2 6 brings in
    let here = both.0.inside 2 5 known both.1.0 in alone here.0 here.1 here.2 here.3 here.4

pub returns-clause-free : goal.returns-clause-free
returns-clause-free c = λ law setup old new brings known.
    (law setup old new 1 brings.before brings.after (Won 0 2) brings.kept brings.keeps brings.was
    brings.views brings.alone brings.low brings.high (sym brings.own) brings.logs).words 2 known
    ∙ brings.logs.in_turn (brings.before.turns ++ brings.logs.later) (Won 0 2) []
    brings.logs.goes_on

pub returns-clause-lost_free : goal.returns-clause-lost_free
returns-clause-lost_free c = λ setup state known free moment.
    let e : ◌≡◌ {A = ℕ} 0 6 = sym free ∙ (moment known).1 in omega (arith, e)

pub returns-clause-lost_alone : goal.returns-clause-lost_alone
returns-clause-lost_alone c = λ setup state known alone moment.
    let here = moment known in alone here.2 here.3 here.4 here.5 (omega (arith, here.6))

pub returns-clause-lost_own : goal.returns-clause-lost_own
returns-clause-lost_own c = λ setup state known moment. (moment known).0 refl

pub returns-clause-moment : goal.returns-clause-moment
returns-clause-moment c = λ setup seat old new earlier event comes. comes.moment

pub returns-clause-own : goal.returns-clause-own
returns-clause-own c = λ setup old new brings. record {
  before = brings.before;
  after = brings.after;
  was = brings.was;
  views = brings.views;
  alone = brings.alone;
  low = brings.low;
  high = brings.high;
}

pub returns-clause-others : goal.returns-clause-others
returns-clause-others c = λ seat other view old new away views shown there.
    sym (set_else old.views other seat view away) ∙ subst (λ (vs : List View). IsViewOf vs seat shown) views there

-- the rule holds of both states of a call of one step
both-keep : (setup : Setup) (old new : State Act View) → KeepsRule setup old → KeepsRule setup new
    → (step : ℕ) → step ≤ 1 → KeepsRule setup (one_step old new step)
both-keep setup old new kept keeps zero few = kept
both-keep setup old new kept keeps (suc step) few = keeps

-- and its one step is that from the one to the other
step-is : (seat : ℕ) (old new : State Act View) → IsStepOf seat old new ⊎ IsStepBeside seat old new
    → (step : ℕ) → step < 1 → IsStepOf seat (one_step old new step) (one_step old new (suc step))
    ⊎ IsStepBeside seat (one_step old new step) (one_step old new (suc step))
step-is seat old new is zero few = is
step-is seat old new is (suc step) few = absurd (omega (arith, few))

pub returns-clause-step : goal.returns-clause-step
returns-clause-step c = λ setup seat old new kept keeps is.
    record { keeps = both-keep setup old new kept keeps; steps = step-is seat old new (inl is) }

pub returns-clause-beside : goal.returns-clause-beside
returns-clause-beside c = λ setup seat old new kept keeps is.
    record { keeps = both-keep setup old new kept keeps; steps = step-is seat old new (inr is) }
