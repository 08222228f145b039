use Rattle.std.proofs.Common.{◌+◌, ◌-◌, ◌∙◌, ap, drop, get_or, length, length-drop, take, arith}
use Rattle.std.proofs.lemmas.List.{length-take}
use borrow.Rule.Slice.PartMut.{put_mid}
use Rattle.text_line.proofs.Fields.{front_written}
use Rattle.text_line.proofs.line.put_short.Goals as goal

pub returns-clause-text : goal.returns-clause-text
returns-clause-text c =
    ap (λ text. take (c.args.at + get_or c.args.short 7 0) (put_mid c.args.at (c.args.at + 8 - c.args.at)
    c.args.bytes.now text)) c.copy_from_slice.ensures.after
    ∙ front_written c.args.bytes.now c.args.short c.args.at (c.args.at + 8 - c.args.at) (get_or c.args.short 7 0)
    (omega (arith, c.requires.room))
    (omega (
      arith,
      c.requires.few,
      c.requires.room,
      ap length c.copy_from_slice.ensures.after,
      c.copy_from_slice.ensures.len,
      length-take (c.args.at + 8 - c.args.at) (drop c.args.at c.args.bytes.now),
      length-drop c.args.at c.args.bytes.now,
    ))
