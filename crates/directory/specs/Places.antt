-- Where a subscriber's steps lead: the node where it then is, and whether it is off. They tell it
-- alone, without weights, levels or addresses.
-- Key law: `place-after_steps` of `StepLaws` (its course says the same).
use Rattle.std.specs.Prelude.{ℕ, Bool, true, false, List, fold}
use Rattle.directory.specs.Courses.{Step, move_to, switch_off, switch_on, Course, last_stop}

-- where a subscriber is, and whether it is off
pub record Place : Type 0 where
  pub node : ℕ
  pub is_off : Bool

-- after one step more
abbrev pub place_after_step : Place → Step → Place
place_after_step place (move_to node) = record place { node = node }
place_after_step place switch_off = record place { is_off = true }
place_after_step place switch_on = record place { is_off = false }

-- after all steps from a node on, where it was on
abbrev pub place_at_end : ℕ → List Step → Place
place_at_end first steps = fold place_after_step (record { node = first; is_off = false }) steps

-- the place of a course
abbrev pub place_of : Course → Place
place_of course = record { node = last_stop course; is_off = course.is_off }
