use Rattle.json_form.proofs.input.push_to_order.Goals as goal

pub returns-clause-text : goal.returns-clause-text
returns-clause-text c = rw (
  c.in_ok-push_line-2.ensures.text,
  c.word-2.ensures.text,
  c.write_small-2.ensures.text,
  c.write_small.ensures.text,
  c.in_ok-push_edges.ensures.clear,
  c.in_ok-push_edges.ensures.text,
  c.deref.ensures.value,
  c.in_ok-push_line.ensures.text,
  c.word.ensures.text,
  c.requires,
  c.deref-2.ensures.value,
) at c.push_numbers.ensures.text
