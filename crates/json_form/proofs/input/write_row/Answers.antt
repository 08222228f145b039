use Rattle.std.proofs.Common.{append_assoc, ◌∙◌, ap, List, ℕ, ◌++◌, true}
use Rattle.json_form.specs.Left.{list_left}
use Rattle.json_form.specs.Values.{whole}
use Rattle.json_form.proofs.Pieces.{row-end}
use Rattle.json_form.proofs.input.write_row.Goals as goal

pub returns : goal.returns
returns c =
    row-end c.args.numbers.now c.word.new.self c.write_others.ensures.text c.word-2.ensures.text
    ∙ ap (λ (l : List ℕ). l ++ list_left true whole c.args.numbers.now) c.word.ensures.text
    ∙ append_assoc c.args.line.now c.args.word.now (list_left true whole c.args.numbers.now)
