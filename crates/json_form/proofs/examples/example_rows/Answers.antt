use Rattle.std.proofs.Common.{refl}
use Rattle.json_form.proofs.examples.example_rows.Goals as goal

pub returns-clause-edges : goal.returns-clause-edges
returns-clause-edges c = refl

pub returns-clause-shorter : goal.returns-clause-shorter
returns-clause-shorter c = refl

pub returns-clause-longer : goal.returns-clause-longer
returns-clause-longer c = refl

pub returns-clause-words : goal.returns-clause-words
returns-clause-words c = refl

pub returns-clause-keys : goal.returns-clause-keys
returns-clause-keys c = refl
