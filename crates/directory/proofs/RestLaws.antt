-- Where nobody moves; and that finds are short.
use Rattle.std.proofs.Common.{◌≡◌, ℕ, suc, ◌<◌, ◌≤◌, List, [], ◌∷◌, Some, length, take, refl, ap, ◌∙◌, arith, inl, inr, ◌⊎◌}
use Rattle.entry_word.specs.declared.visit.Visit.{Visit}
use Rattle.directory.specs.Settings.{Setting, subs}
use Rattle.directory.specs.Keys.{opening}
use Rattle.directory.specs.Histories.{History, word_after, cell, before}
use Rattle.directory.specs.Writes.{writes}
use Rattle.directory.specs.Finds.{FindCall, Pursuit, after_word, looks_left}
use Rattle.directory.specs.Looks.{AreLooks}
use Rattle.directory.specs.Orders.{next}
use Rattle.directory.proofs.HistoryLaws.{cell-after}
use Rattle.directory.proofs.CallerLaws.{caller-look}
use Rattle.directory.proofs.FindLaws.{looks-fall}
use Rattle.directory.specs.Statements.{RestKeepsOpening}
use Rattle.directory.specs.StepLaws.{by_fronts}
use Rattle.directory.specs.HistoryLaws.{next-sub}
use Rattle.std.proofs.lemmas.Bool.{cases_lt}

-- where nobody moves each cell holds its opening word
pub rest-keeps : RestKeepsOpening
unfolding writes
rest-keeps setting scripts history key still played =
    by_fronts (λ front. cell setting front key ≡ opening setting key) history refl
    (λ t visit h same. cell-after setting (take t history) visit key
    ∙ (ap (λ w. word_after key w visit.act) same ∙ a_look (take t history) visit
    (cases_lt visit.actor (subs setting)) (played t visit h)))
  where
    a_look : (front : History) (visit : Visit) → (visit.actor < subs setting) ⊎ (subs setting ≤ visit.actor)
        → next setting scripts front visit.actor ≡ Some visit
        → word_after key (opening setting key) visit.act ≡ opening setting key
    a_look front visit (inl low) h = grind (arith, next-sub)
    a_look front visit (inr high) h = grind (arith, caller-look)

-- a find has no look more than its pursuit leaves
pub looks-short : (setting : Setting) (history : History) (actor : ℕ) (call : FindCall) (earliest : ℕ)
    (pursuit : Pursuit)
    (tickets : List ℕ)
    → AreLooks setting history actor call earliest pursuit tickets → length tickets ≤ looks_left setting call pursuit
unfolding AreLooks
looks-short setting history actor call earliest pursuit [] looks = omega arith
looks-short setting history actor call earliest pursuit (ticket ∷ later) (first, (key, wanted, is_look, rest)) = grind (
  arith,
  looks-short setting history actor call (suc ticket)
      (after_word setting call pursuit (cell setting (before ticket history) key)) later rest,
  looks-fall,
)
