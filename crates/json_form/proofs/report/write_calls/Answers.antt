use Rattle.json_form.proofs.Texts.{call-step}
use Rattle.json_form.proofs.report.write_calls.Goals as goal

pub returns-in-len1-up-clause-text : goal.returns-in-len1-up-clause-text
returns-in-len1-up-clause-text c =
    call-step c.args.begun c.args.left.now.calls.now _ c.args.left.now.order.now c.args.left.now.visits
    c.in-len1-up.len_at_least c.write_opening.ensures.text c.write_done.ensures
