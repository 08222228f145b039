use Rattle.std.proofs.Common.{arith, ◌≡◌, [], refl, sym, ap, ◌∙◌, Some}
use Rattle.entry_word.specs.Marks.{mark_word}
use Rattle.entry_word.specs.declared.mark.PresenceMark.TheVariants.{Here}
use Rattle.entry_word.specs.declared.visit.Key.{Key}
use Rattle.entry_word.specs.declared.visit.Key.TheVariants.{Presence}
use Rattle.directory.specs.Finds.{at_origin, key_of}
use Rattle.directory.specs.Histories.{cell}
use Rattle.plan_laws.specs.Examples.{line_setting}
use Rattle.store_laws.specs.Stepping.{AreToldLooks, pursuit_told}
use Rattle.store_laws.proofs.examples.example_told_looks.Goals as goal

-- the cell that a find looks at first holds another word than 0 where its subscriber starts
wrong-word : (key : Key) → key_of (record { from = 3; sub = 0 }) at_origin ≡ Some key
    → 0 ≡ cell line_setting [] key → ⊥
wrong-word key wanted word =
    let same : Presence 3 0 ≡ key = cc in
    let there : 0 ≡ mark_word (Here 0) = word ∙ sym (ap (cell line_setting []) same) in
    absurd (omega (arith, there))

pub returns-clause-told : goal.returns-clause-told
unfolding AreToldLooks
returns-clause-told c = (omega arith, (Presence 3 0, refl, refl, refl, tt))

pub returns-clause-answer : goal.returns-clause-answer
unfolding pursuit_told
returns-clause-answer c = refl

pub returns-clause-wrong : goal.returns-clause-wrong
unfolding AreToldLooks
returns-clause-wrong c = λ looks. wrong-word looks.1.0 looks.1.1 looks.1.3
