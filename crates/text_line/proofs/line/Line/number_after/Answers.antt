use Rattle.std.proofs.Common.{◌≡◌, ◌+◌, ◌<◌, length, ap, ◌∙◌, arith}
use Rattle.std.proofs.lemmas.List.{length-append, length-take}
use Rattle.std.specs.Fmt.{decimal}
use Rattle.outside.specs.Texts.{field}
use Rattle.text_line.proofs.Fields.{other_byte}
use Rattle.text_line.proofs.line.Line.number_after.Goals as goal

pub returns-clause-text : goal.returns-clause-text
returns-clause-text c =
    let before = c.self.inside in
    let now = c.self-2.inside in
    let at : length c.args.self.now ≡ before.end =
    omega (
      arith,
      ap length c.self.view_is,
      length-take before.end before.bytes.items,
      c.self.invariant.0,
      c.self.invariant.1,
    ) in
    let longer : length c.number.new.self ≡ length c.args.self.now + length (field c.args.number) =
    ap length c.number.ensures.text ∙ length-append c.args.self.now (field c.args.number) in
    let below : before.end < now.end =
    omega (arith, at, longer, ap length c.self-2.view_is, length-take now.end now.bytes.items) in
    other_byte c.args.self.now now.bytes.items (decimal c.args.number) before.end now.end c.args.byte at below
    (c.self-2.view_is ∙ c.number.ensures.text)
