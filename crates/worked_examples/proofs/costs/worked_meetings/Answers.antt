use Rattle.std.proofs.Common.{◌≡◌, ℕ, ◌≤◌, true, Option, Some, [], refl, arith}
use Rattle.node_set.specs.Ascending.{has}
use Rattle.entry_word.specs.declared.address.Address.{Address}
use Rattle.directory.specs.Courses.{MaySteps, highest}
use Rattle.directory.specs.Legal.{IsLegal}
use Rattle.directory.specs.Puts.{steps_from}
use Rattle.directory.specs.Writes.{writes}
use Rattle.plan_laws.specs.Examples.{line_setting}
use Rattle.stretch_laws.specs.Costs.{IsMet}
use Rattle.stretch_laws.specs.Tracking.{IsTracking}
use Rattle.trail_laws.specs.Trail.{entry_seen}
use Rattle.worked_examples.proofs.costs.worked_meetings.Goals as goal

-- no visit of the subscriber is legal
starts : IsLegal line_setting 0 []
unfolding MaySteps writes highest steps_from
starts = record {
  script = record { known = omega arith; begins = omega arith; allowed = tt };
  front = refl;
}

-- its first address
abbrev first : Address
first = record { number = 0; node = 3 }

held-lowest : ◌≡◌ {A = Option Address} (entry_seen line_setting 0 [] 0 1) (Some first)
unfolding writes highest steps_from
held-lowest = refl

held-highest : ◌≡◌ {A = Option Address} (entry_seen line_setting 0 [] 2 0) (Some first)
unfolding writes highest steps_from
held-highest = refl

-- it is met at a cluster that node 2 reads and that has it
met : IsTracking line_setting 3 2 → (level cluster : ℕ) → level ≤ 2
    → has cluster (line_setting.readers level 2) ≡ true
    → ◌≡◌ {A = Option Address} (entry_seen line_setting 0 [] level cluster) (Some first)
    → IsMet line_setting 3 2 0 [] 2 level cluster first
met tracking level cluster low read held =
    record {
      few = omega arith;
      tracking = tracking;
      legal = starts;
      inside = omega arith;
      low = low;
      read = read;
      held = held;
    }

pub returns-clause-lowest : goal.returns-clause-lowest
returns-clause-lowest c = met c.line_tracks.ensures.tracks 0 1 (omega arith) refl held-lowest

pub returns-clause-highest : goal.returns-clause-highest
returns-clause-highest c = met c.line_tracks.ensures.tracks 2 0 (omega arith) refl held-highest
