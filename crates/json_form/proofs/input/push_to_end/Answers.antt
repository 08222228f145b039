use Rattle.json_form.proofs.input.push_to_end.Goals as goal

pub returns : goal.returns
returns c = rw (
  c.word-2.ensures.text,
  c.write_small.ensures.text,
  c.in_ok-push_numbers.ensures.clear,
  c.in_ok-push_numbers.ensures.text,
  c.deref.ensures.value,
  c.in_ok-push_line.ensures.text,
  c.word.ensures.text,
  c.requires,
) at c.push_line-2.ensures.text
