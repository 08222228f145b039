use Rattle.std.proofs.Common.{◌≡◌, ℕ, ◌+◌, ◌*◌, ◌<◌, ap, arith, get_or, length, ◌∙◌}
use Rattle.visit_log.specs.Cells.{CellData}
use Rattle.visit_log.proofs.Apart.{number-below}
use Rattle.visit_log.proofs.cells.PlainCells.count_empty.Goals as goal

-- a place of a subscriber is one of the words
word-within : (cells : CellData) (sub place : ℕ) {width total : ℕ} → total ≡ cells.subs * width → cells.width ≡ width
    → sub < cells.subs → place < cells.width → sub * cells.width + place < total
word-within cells sub place {width} words wide known low = grind (arith, number-below)

pub is_zero-requires : goal.is_zero-requires
is_zero-requires c =
    omega (
      arith,
      ap (λ (k : CellData). length k.words) c.self.view_is,
      ap (λ w. c.args.sub * w) (c.width.ensures ∙ ap (λ (k : CellData). k.width) c.self.view_is),
      word-within c.args.self.now c.args.sub (get_or c.args.places.now c.loop-i.i 0) c.requires.goes.1.words
          c.requires.goes.1.width c.requires.known (c.requires.inside c.loop-i.i 0 c.loop-i-test.true),
    )

pub returns-then-not-is_zero-clause-held : goal.returns-then-not-is_zero-clause-held
returns-then-not-is_zero-clause-held c = grind (arith, word-within)
