use Rattle.std.proofs.Common.{suc, ◌∙◌, ◌≡◌, Option, Some, None, refl, subst, sym}
use Rattle.std.specs.Prelude.{IfSome, IsSome}
use Rattle.region_plan.specs.Settings.{setting_of}
use Rattle.handset.specs.Entries.{at_entry}
use Rattle.handset.specs.Stands.{StandsForSteps}
use Rattle.handset.proofs.Following.{IsNextEntry, next-entry}
use Rattle.handset.proofs.Made.{made-stands, next-stands}
use Rattle.handset.proofs.entries.entry_writes_are_next.Goals as goal

pub returns : goal.returns
returns c = λ plan handset at write kept goes is.
    let entry = subst (λ o. IfSome o (IsNextEntry plan handset at)) is (next-entry handset at goes) in
    record {
      due = entry.due;
      visit = λ starts steps made stands.
          sym (next-stands (setting_of plan starts) (at_entry handset at) steps made stands) ∙ entry.due;
      stands = λ starts steps made stands.
          subst (λ h. StandsForSteps (setting_of plan starts) h steps (suc made)) (sym entry.after)
          (made-stands starts steps made c.mark_words.ensures.unpacked
          (c.levels_after_move.ensures.address (setting_of plan starts)) kept goes (is-some _ _ entry.due) stands);
      goes = entry.goes;
    }
  where
    is-some : {A : Type 0} (o : Option A) (x : A) → o ≡ Some x → IsSome o
    is-some None x h = cc
    is-some (Some y) x h = refl
