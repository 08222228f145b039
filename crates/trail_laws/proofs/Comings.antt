-- A Coming stands at one node, and leads to where the subscriber stands.
use Rattle.std.proofs.lemmas.Bool.{cases_Bool, cases_cond, eqb-true}
use Rattle.std.proofs.Common.{◌≡◌, inl, inr, ℕ, ◌+◌, ◌<◌, ◌≤◌, Bool, true, cond, Option, refl, sym, ◌∙◌, arith}
use Rattle.std.proofs.lemmas.Bool.Decides.{nat_tests}
use Rattle.entry_word.specs.declared.mark.PresenceMark.TheVariants.{Empty, Here, Gone, Coming}
use Rattle.directory.specs.Settings.{Setting}
use Rattle.directory.specs.Courses.{Move, Course, last_stop}
use Rattle.trail_laws.proofs.Links.{IsSound, base-low}
use Rattle.trail_laws.proofs.ClosedMarks.{rest_mark, since_top, there, trail_mark}
use Rattle.trail_laws.proofs.ClosedViews.{clearing, coming, passage, Shown, View}
use Rattle.trail_laws.proofs.Chases.{Arrival, arrived, left-leads, longer}
use Rattle.trail_laws.proofs.LinkedStops.{last-left}
use Rattle.trail_laws.proofs.Tells.{next-stands, rest-stands, standing_of}
use Rattle.trail_laws.proofs.Leads.{coming-there, passing-at_to, passing-gone, trail-linked}

trail-not_coming : {setting : Setting} {course : Course} (v p u : ℕ) → IsSound setting course
    → trail_mark (since_top setting course) v Empty ≡ Coming p u → ⊥
trail-not_coming {setting} {course} v p u sound h =
    elim (last-left setting _ _ (since_top setting course) v Empty
    (trail-linked sound _ (base-low setting.top sound))) [
      | inl none ↦ let clash : Empty ≡ Coming p u = sym none.0 ∙ h in cc
      | inr left ↦ let clash : Gone left.move.number left.move.to ≡ Coming p u = sym left.mark_is ∙ h in cc
    ]

pub there-not_coming : (course : Course) (p u : ℕ) → there course ≡ Coming p u → ⊥
there-not_coming course p u h = grind (arith, cases_cond)

rest-not_coming : {setting : Setting} {course : Course} (v p u : ℕ) → IsSound setting course
    → rest_mark setting course v ≡ Coming p u → ⊥
rest-not_coming {setting} {course} v p u sound h = grind (arith, cases_Bool, there-not_coming, trail-not_coming)

-- in each phase of a move a Coming is its own, where it goes, and once it is confirmed there is none
module _ {setting : Setting} {course : Course} (move : Move) (v p u : ℕ) (sound : IsSound setting course) where
  coming-not : (t : Bool) → cond t (Coming move.number move.from) (rest_mark setting course v) ≡ Coming p u
      → (t ≡ true) × (u ≡ move.from)
  coming-not t h = grind (arith, rest-not_coming)

  passing-not : (f t : Bool) → cond f (Gone move.number move.to)
      (cond t (Coming move.number move.from) (rest_mark setting course v)) ≡ Coming p u
      → (t ≡ true) × (u ≡ move.from)
  passing-not f t h = grind (arith, coming-not)

  clearing-not : (a t f : Bool) → cond a Empty (cond t (Here move.number) (cond f (Gone move.number move.to)
      (cond t (Coming move.number move.from) (rest_mark setting course v)))) ≡ Coming p u → ⊥
  clearing-not a t f h = grind (arith, passing-not)

-- where a view has a Coming
pub coming_node : (setting : Setting) (shown : Shown) → View setting shown → ℕ
coming_node setting shown (inl h) = 0
coming_node setting shown (inr h) = h.1.move.to

pub coming-one : {setting : Setting} {shown : Shown} (v p u : ℕ) → v < setting.nodes → (view : View setting shown)
    → shown.marks v ≡ Coming p u → v ≡ coming_node setting shown view
unfolding coming_node
coming-one v p u low view comes =
    grind (arith, nat_tests, cases_Bool, rest-not_coming, eqb-true, coming-not, passing-not, clearing-not)

-- from the node that it names the marks lead on
pub coming-leads_on : {setting : Setting} {shown : Shown} (v p u : ℕ) (known : Option ℕ) → v < setting.nodes
    → View setting shown → shown.marks v ≡ Coming p u → (way : ℕ)
    × (way ≤ setting.distance u (standing_of shown))
    × Arrival setting shown.marks known u (standing_of shown) setting.nodes way
coming-leads_on v p u known low (inl h) comes =
    absurd (rest-not_coming v p u h.sound (sym (h.marks_are v low) ∙ comes))
coming-leads_on {setting} {shown} v p u known low (inr (coming written, h)) comes =
    rw (
      (coming-not h.move v p u h.sound _ (sym (h.marks_are v low) ∙ comes)).1 ∙ h.next.from,
      rest-stands shown h.course h.begins h.commits_are,
    ) (
      0,
      omega arith,
      arrived setting shown.marks known _ (last_stop h.course) setting.nodes 0 refl (coming-there h known),
    )
coming-leads_on {setting} {shown} v p u known low (inr (passage, h)) comes =
    rw ((passing-not h.move v p u h.sound _ _ (sym (h.marks_are v low) ∙ comes)).1, next-stands h h.commits_are) (
      setting.distance h.move.from h.move.to + 0,
      omega arith,
      longer setting shown.marks known h.move.from h.move.to 1 setting.nodes _ _ (omega (arith, h.next.inside))
          (λ metric. omega arith) (left-leads setting shown.marks h.move.from h.move.number h.move.to known
          (passing-gone h) (passing-at_to h)),
    )
coming-leads_on v p u known low (inr (clearing erased purged, h)) comes =
    absurd (clearing-not h.move v p u h.sound _ _ _ (sym (h.marks_are v low) ∙ comes))
