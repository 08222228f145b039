use Rattle.std.proofs.Common.{◌*◌, arith, refl, inl, inr}
use Rattle.std.proofs.lemmas.Bool.{cases_lt}
use Rattle.node_set.proofs.Scans.{found_later, none_more, none_past}
use Rattle.node_set.proofs.scan.next_word.Goals as goal

pub returns-then-words-i-ne0-clause-some : goal.returns-then-words-i-ne0-clause-some
returns-then-words-i-ne0-clause-some c =
    found_later c.args.words.now c.args.from c.loop-i.i refl (omega (arith, c.type_inv.words c.loop-i.i))
    (omega (arith, c.if-words-i-ne0.true)) (omega (arith, c.requires.first, c.loop-i.auto.i)) c.loop-i.invariant

pub loop-i-preserved : goal.loop-i-preserved
loop-i-preserved c =
    none_more c.args.words.now c.args.from c.loop-i.i refl (omega (arith, c.if-words-i-ne0.false)) c.loop-i.invariant

pub returns-clause-none : goal.returns-clause-none
returns-clause-none c = λ x low. elim (cases_lt x (64 * c.loop-i.i)) [
  | inl before ↦ c.loop-i.invariant x low before
  | inr late ↦ none_past c.args.words.now x x (omega (arith, c.loop-i-test.false)) (omega arith)
]
