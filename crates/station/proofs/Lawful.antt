-- A put that its actor may do keeps the history legal for all.
use Rattle.std.proofs.Common.{◌≡◌, ℕ, ne_eqb, false, [], ◌∷◌, ◌++◌, refl, sym, ◌∙◌, arith}
use Rattle.std.proofs.lemmas.List.{append-nil}
use mathlib.Core.Logic.{dite}
use native.Mathlib.Decide.{ℕ_discrete}
use Rattle.entry_word.specs.declared.visit.Act.{Act}
use Rattle.entry_word.specs.declared.visit.Act.TheVariants.{Put}
use Rattle.entry_word.specs.declared.visit.Visit.{Visit}
use Rattle.directory.specs.Settings.{Setting}
use Rattle.directory.specs.Keys.{key_sub}
use Rattle.directory.specs.Histories.{History, IsFront, is_put_for, own}
use Rattle.directory.specs.Legal.{IsLegal}
use Rattle.station.specs.Setup.{setting_in}
use Rattle.station.specs.Plays.{MayDo, visit_by}
use Rattle.station.specs.declared.view.View.{View}
use Rattle.station.specs.PutLaws.{puts-append, puts-seen}

unput : (setting : Setting) (sub : ℕ) (history : History) (visit : Visit) → is_put_for sub visit.act ≡ false
    → IsLegal setting sub history → IsLegal setting sub (history ++ visit ∷ [])
unput setting sub history visit away legal = grind (arith, puts-append, append-nil)

pub legal_more : (view : View) (sub : ℕ) (history : History) (act : Act) → MayDo view act → IsFront view.seen history
    → own view.low history ≡ own view.low view.seen → IsLegal (setting_in view.setup) sub history
    → IsLegal (setting_in view.setup) sub (history ++ visit_by view act ∷ [])
legal_more view sub history (Put key word) may front same legal =
    let visit = visit_by view (Put key word) in
    let setting = setting_in view.setup in
    dite (ℕ_discrete view.low sub)
    (λ e. grind (arith, puts-seen setting sub view.seen history front (rw (← e) same) legal, puts-append))
    (λ ne. unput setting sub history visit (ne_eqb (key_sub key) sub (λ e. ne (sym may.0 ∙ e))) legal)
legal_more view sub history act may front same legal =
    unput (setting_in view.setup) sub history (visit_by view act) refl legal
