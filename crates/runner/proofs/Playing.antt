-- A machine that has played an order: it stands for the history of its turns.
use Rattle.std.proofs.Common.{◌≡◌, ℕ, List, [], ap, ◌∙◌}
use Rattle.directory.specs.Orders.{after_turns, history_of}
use Rattle.directory.specs.Outcomes.{outcome_of}
use Rattle.net_reader.specs.Seen.{seen_input}
use Rattle.machine.specs.Stands.{setting_over}
use Rattle.net_reader.specs.declared.input.Input.{Input}
use Rattle.region_plan.specs.Plan.{PlanData}
use Rattle.machine.specs.declared.machine.Machine.{Machine}
use Rattle.machine.specs.Machines.{HasHistory, IsSame, scripts_at, setting_at}
use Rattle.scripts.specs.Scripts.{scripts_of}
use Rattle.machine.specs.RestLaws.{of_same}

-- the end of an order
pub play-ended : (old : Machine) {mid new : Machine} (order : List ℕ) → IsSame old mid → IsSame mid new
    → HasHistory mid (after_turns (setting_at old) (scripts_at old) [] order)
    → ((orders : List ℕ) → HasHistory mid (after_turns (setting_at mid) (scripts_at mid) [] orders)
    → HasHistory new (history_of (setting_at mid) (scripts_at mid) orders))
    → HasHistory new (history_of (setting_at new) (scripts_at new) order)
play-ended old {mid} {new} order same last goes ends =
    of_same (λ setting scripts. HasHistory new (history_of setting scripts order)) mid new last
    (ends order (of_same (λ setting scripts. HasHistory mid (after_turns setting scripts [] order)) old mid same goes))

-- what becomes of the calls, told by the input and the plan
pub play-outcome : (old mid new : Machine) {input : Input} {plan : PlanData} (order : List ℕ) → IsSame old mid
    → IsSame mid new → old.input.now ≡ input → old.plan.now ≡ plan → outcome_of (setting_at new) (scripts_at new)
    order ≡ outcome_of (setting_over (seen_input input) plan) (scripts_of (seen_input input)) order
play-outcome old mid new {input} order one two is over =
    ap (λ i. outcome_of (setting_over (seen_input i) new.plan.now) (scripts_of (seen_input i)) order)
    (two.0 ∙ (one.0 ∙ is))
    ∙ ap (λ p. outcome_of (setting_over (seen_input input) p) (scripts_of (seen_input input)) order)
    (two.1 ∙ (one.1 ∙ over))
