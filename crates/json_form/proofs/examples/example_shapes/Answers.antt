use Rattle.std.proofs.Common.{refl}
use Rattle.json_form.proofs.examples.example_shapes.Goals as goal

pub returns-clause-lone : goal.returns-clause-lone
returns-clause-lone c = refl

pub returns-clause-most : goal.returns-clause-most
returns-clause-most c = refl

pub returns-clause-none : goal.returns-clause-none
returns-clause-none c = refl

pub returns-clause-more : goal.returns-clause-more
returns-clause-more c = refl

pub returns-clause-long : goal.returns-clause-long
returns-clause-long c = refl
