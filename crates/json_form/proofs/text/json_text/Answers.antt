use Rattle.json_form.proofs.Listings.{answer-is, no-keys}
use Rattle.json_form.proofs.text.json_text.Goals as goal

pub returns-in-Some : goal.returns-in-Some
returns-in-Some c =
    answer-is c.text_of_values.result c.in_ok-value.ensures.ok c.in-Some.ensures.some c.text_of_values.ensures.ok
    c.text_of_values.ensures.err

pub returns-in-None : goal.returns-in-None
returns-in-None c = no-keys c.in_ok-value.ensures.ok c.in-None.ensures.none
