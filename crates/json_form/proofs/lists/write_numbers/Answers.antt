use Rattle.json_form.proofs.Pieces.{numbers-step}
use Rattle.json_form.proofs.lists.write_numbers.Goals as goal

pub returns-clause-text : goal.returns-clause-text
returns-clause-text c =
    numbers-step c.args.begun c.args.numbers.now c.min.result c.requires.some c.split_at.ensures.front
    c.split_at.ensures.back c.from.ensures c.opening_byte.ensures c.requires.empty c.number_after.ensures.text
    c.split_at-2.ensures.front c.split_at-2.ensures.back c.write_others.ensures.text
