use Rattle.std.proofs.Common.{refl}
use Rattle.json.specs.Print.{escape_byte}
use Rattle.json_form.proofs.input.write_call.Goals as goal

pub returns-in-Move : goal.returns-in-Move
unfolding escape_byte
returns-in-Move c = rw (c.in-Move.is, c.write_row.ensures, c.write_opening.ensures.text) refl

pub returns-in-Find : goal.returns-in-Find
unfolding escape_byte
returns-in-Find c = rw (c.in-Find.is, c.write_row-in-Find.ensures, c.write_opening.ensures.text) refl

pub returns-in-Off : goal.returns-in-Off
unfolding escape_byte
returns-in-Off c = rw (c.in-Off.is, c.write_row-in-Off.ensures, c.write_opening.ensures.text) refl

pub returns-in-On : goal.returns-in-On
unfolding escape_byte
returns-in-On c = rw (c.in-On.is, c.write_row-in-On.ensures, c.write_opening.ensures.text) refl
