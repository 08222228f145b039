-- The phases of a move cover all that a legal history leaves; in the first one its Coming stands where it goes.
use Rattle.std.proofs.Common.{◌≡◌, suc, List, [], ◌∷◌, ◌++◌, Some, None, length, sym, ◌∙◌, arith, eq-eqb}
use Rattle.std.specs.List.{last_or}
use Rattle.entry_word.specs.declared.mark.PresenceMark.TheVariants.{Coming}
use Rattle.directory.specs.Settings.{Setting}
use Rattle.directory.specs.Courses.{Move}
use Rattle.directory.specs.Standing.{standing}
use Rattle.trail_laws.specs.Trail.{MarksTell}
use Rattle.trail_laws.specs.Phases.{ComingStands, PhasesCover}
use Rattle.trail_laws.specs.Ways.{StandsInside}
use Rattle.trail_laws.proofs.ClosedViews.{Shown, View}
use Rattle.trail_laws.proofs.Tells.{all-committed, count-told}
use Rattle.trail_laws.proofs.Stops.{view-counts}
use Rattle.trail_laws.proofs.Laws.{HistoryView, Laws, view}
use Rattle.directory.specs.ListLaws.{last_or-push}
use Rattle.std.proofs.lemmas.Option.{same_Some}

pub covers : Laws → MarksTell → StandsInside → PhasesCover
unfolding HistoryView
covers laws marks inside setting sub history low legal =
    grind (
      arith,
      view-counts (view laws history low legal),
      marks setting sub history low legal (standing setting sub history) (inside setting sub history low legal),
    )

-- a move that isn't committed has its Coming where it goes
last-is : (xs : List Move) (x y : Move) → last_or None (xs ++ x ∷ []) ≡ Some y → x ≡ y
last-is xs x y h = same_Some x y (sym (last_or-push None xs x) ∙ h)

begun-shown : {setting : Setting} {shown : Shown} (move : Move) → View setting shown
    → length shown.moves ≡ suc (length shown.commits) → last_or None shown.moves ≡ Some move
    → shown.marks move.to ≡ Coming move.number move.from
begun-shown move view early last = grind (arith, count-told, last-is, eq-eqb, all-committed)

pub coming-stands : Laws → ComingStands
unfolding HistoryView
coming-stands laws setting sub history move low legal early last =
    begun-shown move (view laws history low legal) early last
