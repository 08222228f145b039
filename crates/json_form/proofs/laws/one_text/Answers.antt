use Rattle.json_form.proofs.Told.{not-refused, one-listing}
use Rattle.json_form.proofs.laws.one_text.Goals as goal

pub returns-clause-listing : goal.returns-clause-listing
returns-clause-listing c = one-listing

pub returns-clause-right : goal.returns-clause-right
returns-clause-right c = not-refused
