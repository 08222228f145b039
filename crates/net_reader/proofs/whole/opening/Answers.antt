use Rattle.std.proofs.Common.{◌<◌, ℕ, [], ◌∷◌, get_or, refl, arith}
use Rattle.net_reader.specs.declared.word.Word.TheVariants.{Edge, Find, Move}
use Rattle.net_reader.proofs.WholeLine.{opened}
use Rattle.net_reader.specs.Steps.{close_as, more, pack, put, word_in}
use Rattle.net_reader.proofs.whole.opening.Goals as goal

pub returns-in-1702260589 : goal.returns-in-1702260589
unfolding put close_as more pack word_in
returns-in-1702260589 c =
    let piece = c.args.piece.now in
    let fits : (i : ℕ) → get_or piece i 0 < 256 = λ i. (c.type_inv.piece i).fits in
    opened Move 0x1_6d6f_7665 (109 ∷ 111 ∷ 118 ∷ 101 ∷ 32 ∷ []) piece (omega arith) c.in-len5-up.len_at_least
    (omega (arith, fits 0, fits 1, fits 2, fits 3)) refl refl refl

pub returns-in-1684957542 : goal.returns-in-1684957542
unfolding put close_as more pack word_in
returns-in-1684957542 c =
    let piece = c.args.piece.now in
    let fits : (i : ℕ) → get_or piece i 0 < 256 = λ i. (c.type_inv.piece i).fits in
    opened Find 0x1_6669_6e64 (102 ∷ 105 ∷ 110 ∷ 100 ∷ 32 ∷ []) piece (omega arith) c.in-len5-up.len_at_least
    (omega (arith, fits 0, fits 1, fits 2, fits 3)) refl refl refl

pub returns-in-1701274725 : goal.returns-in-1701274725
unfolding put close_as more pack word_in
returns-in-1701274725 c =
    let piece = c.args.piece.now in
    let fits : (i : ℕ) → get_or piece i 0 < 256 = λ i. (c.type_inv.piece i).fits in
    opened Edge 0x1_6564_6765 (101 ∷ 100 ∷ 103 ∷ 101 ∷ 32 ∷ []) piece (omega arith) c.in-len5-up.len_at_least
    (omega (arith, fits 0, fits 1, fits 2, fits 3)) refl refl refl
