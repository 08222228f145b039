use Rattle.report_text.proofs.sums.push_sums.Goals as goal

pub returns : goal.returns
returns c = rw (
  c.in_ok-push_field-4.ensures,
  c.in_ok-push_field-3.ensures,
  c.in_ok-push_field-2.ensures,
  c.in_ok-push_field.ensures,
  c.from.ensures,
  c.from-2.ensures,
  c.from-3.ensures,
) at c.push_field-5.ensures
