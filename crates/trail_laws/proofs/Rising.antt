-- Where a subscriber was after so many commits, the number is no lower: so the marks of a trail rise from hop to hop.
use Rattle.std.proofs.lemmas.Bool.{cases_Bool, cases_cond, eqb-false, cases_eq, cases_lt}
use Rattle.std.proofs.Common.{◌≡◌, ◌≢◌, inl, inr, ℕ, ◌+◌, ◌-◌, ◌<◌, ◌≤◌, ◌^◌, List, [], ◌∷◌, ◌++◌, length, map, drop, sym, ◌∙◌, arith, eqb-true}
use Rattle.std.proofs.lemmas.Option.{slice_get_within}
use Rattle.entry_word.specs.declared.mark.PresenceMark.{PresenceMark}
use Rattle.entry_word.specs.declared.mark.PresenceMark.TheVariants.{Empty, Gone}
use Rattle.directory.specs.Settings.{Setting, start}
use Rattle.directory.specs.Courses.{Course, Move, last_stop}
use Rattle.directory.specs.Histories.{History}
use Rattle.directory.specs.Legal.{IsLegal}
use Rattle.directory.specs.Standing.{commit_by, commits, number}
use Rattle.trail_laws.specs.Trail.{GoesUp, MarksTell, NumbersGoUp, mark_seen}
use Rattle.trail_laws.proofs.Links.{AreLinked, IsSound, base-low}
use Rattle.trail_laws.proofs.ClosedMarks.{IsNext, mark_erasing, mark_passing, rest_mark, since_top, sound-with, stop-with, trail_mark, trail_mark-push}
use Rattle.trail_laws.proofs.ClosedViews.{IsMoving, Phase, View, coming, passage, clearing, Shown}
use Rattle.trail_laws.proofs.LinkedStops.{last-left, stop_at}
use Rattle.trail_laws.proofs.Leads.{low-with, trail-count, trail-ends, trail-linked, trail-stops, trail-with}
use Rattle.trail_laws.proofs.Tells.{count-told}
use Rattle.trail_laws.proofs.Laws.{HistoryView, Laws, view}
use Rattle.trail_laws.proofs.Stops.{stop_after, stop-listed, stops-told}

-- at rest, and in each phase of a move
rest-gone : (setting : Setting) (course : Course) (v p w : ℕ) → rest_mark setting course v ≡ Gone p w
    → (trail_mark (since_top setting course) v Empty ≡ Gone p w) × (v ≢ last_stop course)
rest-gone setting course v p w h = grind (arith, cases_Bool, cases_cond, eqb-false)

passing-gone : {setting : Setting} {course : Course} {move : Move} (v p w : ℕ) → IsNext setting course move
    → mark_passing setting course move v ≡ Gone p w
    → (trail_mark (since_top setting course ++ move ∷ []) v Empty ≡ Gone p w) × (v ≢ move.to)
passing-gone {setting} {course} {move} v p w next h =
    grind (arith, cases_Bool, since_top, trail_mark-push, eqb-true, rest-gone, eqb-false)

clearing-gone : {setting : Setting} {course : Course} {move : Move} (purged : List ℕ) (v p w : ℕ)
    → IsNext setting course move → mark_erasing setting course move purged v ≡ Gone p w
    → (trail_mark (since_top setting course ++ move ∷ []) v Empty ≡ Gone p w) × (v ≢ move.to)
clearing-gone {setting} {course} {move} purged v p w next h = grind (arith, passing-gone)

-- each Gone is that of the last of these moves that left its node, and there is none at this node
abbrev AreLast : Setting → (ℕ → PresenceMark) → List Move → ℕ → Type 0
AreLast setting marks moves end = (v p w : ℕ) → v < setting.nodes → marks v ≡ Gone p w
    → (trail_mark moves v Empty ≡ Gone p w) × (v ≢ end)

-- the trail of a view, which ends the commits
record HasTrail (setting : Setting) (shown : Shown) : Type 0 where
  from : ℕ
  number : ℕ
  moves : List Move
  linked : AreLinked setting from number moves
  last : AreLast setting shown.marks moves (stop_at from moves (length moves))
  count : length shown.commits ≡ number + length moves
  stops : (j : ℕ) → number ≤ j → stop_at from moves (j - number) ≡ stop_after shown.from shown.commits j

-- a Gone where the subscriber had stopped is that of a later move
later : {setting : Setting} {shown : Shown} (trail : HasTrail setting shown) (j w q x : ℕ) → w < setting.nodes
    → j ≤ length shown.commits → stop_after shown.from shown.commits j ≡ w → shown.marks w ≡ Gone q x → j < q
later {setting} trail j w q x low few stop at_w =
    let gone = trail.last w q x low at_w in
    elim (last-left setting trail.from trail.number trail.moves w Empty trail.linked) [
      | inl none ↦ let clash : Empty ≡ Gone q x = sym none.0 ∙ gone.0 in cc
      | inr left ↦
          grind (arith, cases_lt, cases_eq)
    ]

-- the moves of a course from a number on
trail-of : {setting : Setting} (shown : Shown) {course : Course} (b : ℕ) → IsSound setting course
    → b ≤ length course.moves → course.start ≡ shown.from → shown.commits ≡ map commit_by course.moves
    → AreLast setting shown.marks (drop b course.moves) (last_stop course) → HasTrail setting shown
trail-of shown {course} b sound low begins are told = record {
  from = stop_at course.start course.moves b;
  number = b;
  moves = drop b course.moves;
  linked = trail-linked sound b low;
  last = rw (trail-ends sound b low) told;
  count = omega (arith, count-told course.moves are, trail-count sound b low);
  stops = λ j h.
      let placed : b + (j - b) ≡ j = omega (arith, h) in
      trail-stops sound b low (j - b) ∙ (grind (arith, stop_at, stops-told));
}

-- that of a course with one move more
long-trail : {setting : Setting} {shown : Shown} {phase : Phase} (h : IsMoving setting shown phase)
    → shown.commits ≡ map commit_by (h.course.moves ++ h.move ∷ [])
    → AreLast setting shown.marks (since_top setting h.course ++ h.move ∷ []) h.move.to → HasTrail setting shown
long-trail {shown} h are told = trail-of shown _ (sound-with h.sound h.next) (low-with h.move h.sound) h.begins are
    (rw (trail-with h.move h.sound, stop-with h.course h.move) told)

has-trail : {setting : Setting} {shown : Shown} → View setting shown → HasTrail setting shown
has-trail {setting} {shown} (inl h) =
    trail-of shown _ h.sound (base-low setting.top h.sound) h.begins h.commits_are
    (λ v p w low is. rest-gone setting h.course v p w (sym (h.marks_are v low) ∙ is))
has-trail {setting} {shown} (inr (coming written, h)) =
    trail-of shown _ h.sound (base-low setting.top h.sound) h.begins h.commits_are
    (grind (arith, cases_Bool, rest-gone, eqb-false))
has-trail (inr (passage, h)) = long-trail h h.commits_are
    (λ v p w low is. passing-gone v p w h.next (sym (h.marks_are v low) ∙ is))
has-trail (inr (clearing erased purged, h)) = long-trail h h.commits_are
    (λ v p w low is. clearing-gone purged v p w h.next (sym (h.marks_are v low) ∙ is))

-- where a subscriber was after so many commits, the number is no lower, and that of a Gone is higher
pub stop-goes_up : Laws → MarksTell → {setting : Setting} {sub : ℕ} (history : History) → setting.nodes ≤ 2 ^ 16
    → IsLegal setting sub history → (j w : ℕ) → j ≤ number sub history
    → stop_after (start setting sub) (commits sub history) j ≡ w → w < setting.nodes
    → GoesUp j (mark_seen setting sub history w)
unfolding HistoryView
stop-goes_up laws tells {setting} {sub} history low legal j w few stop inside =
    grind (arith, tells setting sub history low legal w inside, later (has-trail (view laws history low legal)))

pub numbers-go_up : Laws → MarksTell → NumbersGoUp
numbers-go_up laws tells setting sub history low legal node p to inside is =
    grind (arith, stop-listed, stop-goes_up, number, slice_get_within)
