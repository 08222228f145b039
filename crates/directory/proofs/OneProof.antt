-- Being legal has one proof.
use Rattle.std.proofs.Common.{ℕ, List, [], ◌∷◌}
use Rattle.std.proofs.Props.{props}
use mathlib.Core.Sum.{⊎_set}
use mathlib.Core.List.{is_set}
use native.Mathlib.Nat.{ℕ_set}
use Rattle.entry_word.specs.declared.visit.Visit.{Visit}
use Rattle.directory.specs.Settings.{Setting}
use Rattle.directory.specs.Courses.{Step, move_to, switch_off, switch_on, Course, after_step, MayMove, MayStep, MaySteps}
use Rattle.directory.specs.Legal.{IsScript, ArePuts}

may_move-prop : (setting : Setting) (course : Course) (node : ℕ) → IsProp (MayMove setting course node)
may_move-prop setting course node = hlevel (props)

may_step-prop : (setting : Setting) (course : Course) (step : Step) → IsProp (MayStep setting course step)
may_step-prop setting course (move_to node) = may_move-prop setting course node
may_step-prop setting course switch_off = hlevel (props)
may_step-prop setting course switch_on = hlevel (props)

may_steps-prop : (setting : Setting) (course : Course) (steps : List Step) → IsProp (MaySteps setting course steps)
unfolding MaySteps
may_steps-prop setting course [] = hlevel (props)
may_steps-prop setting course (step ∷ steps) = hlevel (
  props,
  may_step-prop setting course step,
  may_steps-prop setting (after_step setting course step) steps,
)

script-prop : (setting : Setting) (sub : ℕ) (steps : List Step) → IsProp (IsScript setting sub steps)
script-prop setting sub steps = hlevel (props, may_steps-prop)

visits-set : IsSet (List Visit)
visits-set = hlevel (props, ⊎_set, ℕ_set, is_set)

pub puts-prop : (setting : Setting) (sub : ℕ) (puts : List Visit) → IsProp (ArePuts setting sub puts)
puts-prop setting sub puts = hlevel (props, script-prop, visits-set)
