use Rattle.std.proofs.Common.{◌≡◌, ◌≤◌, [], length}
use Rattle.node_set.specs.Ascending.{sift}
use Rattle.entry_word.specs.Marks.{mark_in, says_here}
use Rattle.entry_word.specs.declared.visit.Key.TheVariants.{Presence}
use Rattle.directory.specs.Histories.{cell}
use Rattle.region_plan.specs.Plan.{PlanData}
use Rattle.region_plan.specs.Settings.{setting_of}
use Rattle.station.proofs.opening.starting_at.Given as goal

abbrev pub invariant-loop-sub : goal.invariant-loop-sub
invariant-loop-sub l =
    ((plan : PlanData) → l.count ≡ length (sift (λ s. says_here (mark_in (cell (setting_of plan l.homes) []
    (Presence l.node s)))) 0 l.sub)) × (l.count ≤ l.sub)
