use Rattle.std.proofs.Common.{[], ◌∷◌, refl, arith}
use Rattle.net_reader.specs.declared.word.Word.TheVariants.{Order}
use Rattle.net_reader.specs.Steps.{close_as, more, pack, put, word_in}
use Rattle.net_reader.proofs.WholeLine.{opened}
use Rattle.net_reader.proofs.whole.opening_of_order.Goals as goal

pub returns-in-111 : goal.returns-in-111
unfolding put close_as more pack word_in
returns-in-111 c =
    opened Order 0x1_6f72_6465_72 (111 ∷ 114 ∷ 100 ∷ 101 ∷ 114 ∷ 32 ∷ []) c.args.piece.now (omega arith)
    c.in-111.len_at_least (omega arith) refl refl refl
