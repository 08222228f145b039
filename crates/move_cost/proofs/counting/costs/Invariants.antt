use Rattle.std.proofs.Common.{◌≡◌}
use Rattle.net_reader.specs.Seen.{seen_input}
use Rattle.region_plan.specs.Settings.{setting_of}
use Rattle.scripts.specs.Scripts.{scripts_of}
use Rattle.move_cost.proofs.Opening.{first_lines}
use Rattle.move_cost.proofs.counting.costs.Given as goal

abbrev pub invariant-loop-sub : goal.invariant-loop-sub
invariant-loop-sub l =
    l.lines.items ≡ first_lines (setting_of l.plan l.input.homes.items) (scripts_of (seen_input l.input)) l.sub
