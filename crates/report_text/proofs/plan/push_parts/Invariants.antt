use Rattle.std.proofs.Common.{◌≡◌, ◌++◌, length}
use Rattle.report_text.proofs.plan.push_parts.Given as goal

abbrev pub invariant-parts : goal.invariant-parts
invariant-parts l = l.text.items ++ l.parts.left ≡ l.fn.text.items ++ l.fn.parts.left

abbrev pub decreases-parts : goal.decreases-parts
decreases-parts l = length l.parts.left
