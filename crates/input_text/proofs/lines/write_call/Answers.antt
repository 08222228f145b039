use Rattle.std.proofs.Common.{ap, sym, ◌∙◌}
use Rattle.input_text.specs.Listing.{line_of_call}
use Rattle.input_text.proofs.lines.write_call.Goals as goal

pub returns-in-Find : goal.returns-in-Find
returns-in-Find c =
    c.write_line-in-Find.ensures ∙ sym (ap (line_of_call c.args.call.now.actor) c.in-Find.is)
