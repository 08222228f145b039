use Rattle.std.proofs.Common.{◌≡◌, List, [], ◌∷◌, ◌++◌, subst, sym, ◌∙◌}
use Rattle.entry_word.specs.declared.visit.Visit.{Visit}
use Rattle.directory.specs.Histories.{own}
use Rattle.station.specs.Setup.{setting_in}
use Rattle.tracker_calls.specs.WholeMoves.{puts_of_move}
use Rattle.worked_examples.specs.Passes.{count_by}
use Rattle.worked_examples.proofs.moves.wrong_moves.Goals as goal

some-no : (x : Visit) (xs : List Visit) → ◌≡◌ {A = List Visit} (x ∷ xs) [] → ⊥
some-no x xs e = cc

pub returns-clause-forgotten : goal.returns-clause-forgotten
returns-clause-forgotten c = λ setup old new handset after to moved made is none.
    let puts = puts_of_move (setting_in setup) 0 made.steps to in
    let own_visits : own 0 new.view.seen ≡ own 0 old.view.seen ++ puts =
    subst (λ n. own n new.view.seen ≡ own n old.view.seen
    ++ puts_of_move (setting_in setup) n made.steps to) is.low made.visits in
    let kept : own 0 new.view.seen ≡ count_by 0 0 ∷ puts =
    subst (λ s. own 0 new.view.seen ≡ own 0 s ++ puts) is.seen_is own_visits in
    some-no (count_by 0 0) puts (sym kept ∙ none)
