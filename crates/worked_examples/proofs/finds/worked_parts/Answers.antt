use Rattle.std.proofs.Common.{refl}
use Rattle.directory.specs.Parts.{LeadOn}
use Rattle.worked_examples.proofs.finds.worked_parts.Goals as goal

pub returns-clause-leads : goal.returns-clause-leads
unfolding LeadOn
returns-clause-leads c = (0, 2, refl, refl, (2, 0, refl, refl, (refl, refl, refl)))

pub returns-clause-nothing : goal.returns-clause-nothing
returns-clause-nothing c = (refl, (refl, tt))
