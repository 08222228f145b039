use Rattle.json_form.proofs.input.push_to_calls.Goals as goal

pub returns-clause-text : goal.returns-clause-text
returns-clause-text c = rw (
  c.in_ok-push_line.ensures.text,
  c.word.ensures.text,
  c.write_small.ensures.text,
  c.requires,
) at c.push_calls.ensures.text
