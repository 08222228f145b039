use Rattle.std.proofs.Common.{rules, ◌∙◌}
use Rattle.census_text.proofs.Steps.{same-text}
use Rattle.census_text.proofs.lines.census.Goals as goal

-- src/lines.rt:113:1
pub returns-clause-text : goal.returns-clause-text
returns-clause-text c = search rules

-- src/lines.rt:113:1
pub returns-clause-history : goal.returns-clause-history
returns-clause-history c starts history hold =
    returns-clause-text c ∙ same-text c.args.plan.now starts c.args.cells.now history hold
