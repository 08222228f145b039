-- Where the marks lead from the nodes of a course, in each phase.
use Rattle.std.proofs.Math.Seq.{drop-nil}
use Rattle.std.proofs.lemmas.Bool.{cases_Bool, cond_both, eq-eqb, ne_eqb}
use Rattle.trail_laws.proofs.ClosedMarks.{from-inside, rest_mark, since_top, sound-with, stop-with, there, trail_mark, trail_mark-push, with_move}
use Rattle.std.proofs.Common.{◌≡◌, ◌≢◌, ℕ, zero, suc, ◌+◌, ◌-◌, ◌*◌, ◌<◌, ◌≤◌, true, List, [], ◌∷◌, ◌++◌, Option, length, drop, fold, refl, sym, ap, ◌∙◌, arith}
use Rattle.std.specs.Prelude.{if◌then◌else◌, nat_le}
use Rattle.std.proofs.lemmas.List.{drop-append-le, length-drop}
use Rattle.entry_word.specs.declared.mark.PresenceMark.{PresenceMark}
use Rattle.entry_word.specs.declared.mark.PresenceMark.TheVariants.{Empty, Here, Gone, Coming}
use Rattle.directory.specs.Settings.{Setting}
use Rattle.directory.specs.Courses.{Move, Course, address_node, base, last_stop}
use Rattle.trail_laws.specs.Trail.{answers, KnowsAtMost}
use Rattle.trail_laws.proofs.Links.{AreLinked, IsSound, base-low, moves-count, stop-inside}
use Rattle.trail_laws.proofs.GoneCounts.{above}
use Rattle.trail_laws.proofs.ClosedViews.{clearing, coming, IsMoving, IsResting, passage, Shown}
use Rattle.trail_laws.proofs.Chases.{Arrival, back-leads, coming-exits, Exits, leads, passing-exits, passing-leads, rest-exits}
use Rattle.trail_laws.proofs.LinkedStops.{old-inside, stop_at, stops-inside, weight_from}
use Rattle.trail_laws.proofs.Tells.{linked-drop, stop-drop}

-- the end of linked moves
pub stop-end : (from : ℕ) (moves : List Move) → stop_at from moves (length moves)
    ≡ fold (λ node (m : Move). m.to) from moves
stop-end from [] = refl
stop-end from (m ∷ later) = stop-end m.to later

drop-more : (b i : ℕ) (xs : List Move) → drop i (drop b xs) ≡ drop (b + i) xs
drop-more zero i xs = let e : 0 + i ≡ i = omega arith in rw e refl
drop-more (suc b) i [] = drop-nil i ∙ sym (drop-nil (suc b + i))
drop-more (suc b) i (x ∷ xs) = let e : suc b + i ≡ suc (b + i) = omega arith in rw e (drop-more b i xs)

-- the last renewal of a lower level is no earlier than that of the top level
base-order : (setting : Setting) (level low high from number : ℕ) (moves : List Move) → level ≤ setting.top
    → AreLinked setting from number moves → high ≤ low → low ≤ number → high ≤ number
    → fold (λ l (m : Move). if nat_le setting.top m.renewed then m.number else l) high moves ≤ fold
    (λ l (m : Move). if nat_le level m.renewed then m.number else l) low moves
base-order setting level low high from number [] below linked order l h = order
base-order setting level low high from number (m ∷ later) below (link, linked) order l h = grind (
  arith,
  base-order setting level m.number m.number m.to (suc number) later below linked (omega arith)
      (omega (arith, link.its_number)) (omega (arith, link.its_number)),
  base-order setting level m.number high m.to (suc number) later below linked (omega (arith, link.its_number, h))
      (omega (arith, link.its_number)) (omega (arith, h)),
  base-order setting level low high m.to (suc number) later below linked order (omega (arith, l)) (omega (arith, h)),
  cases_Bool,
)

pub base-top : {setting : Setting} {course : Course} (level : ℕ) → IsSound setting course → level ≤ setting.top
    → base setting.top course.moves ≤ base level course.moves
base-top {setting} {course} level sound below = base-order setting level 0 0 course.start 0 course.moves below
    sound.linked (omega arith) (omega arith) (omega arith)

-- ---- the trail of a course, from a number on
-- from the stops of a course from a number on the marks lead to the end
abbrev pub StopsLead : Setting → (ℕ → PresenceMark) → Course → ℕ → ℕ → ℕ → ℕ → ℕ → Type 0
StopsLead setting marks course b last most more_hops more_way =
    (q v : ℕ) (known : Option ℕ) → b ≤ q → q ≤ length course.moves → v < setting.nodes
    → stop_at course.start course.moves q ≡ v → KnowsAtMost most known
    → Arrival setting marks known v last (more_hops + above setting marks q) (weight_from course.moves q + more_way)

module _ {setting : Setting} {course : Course} (sound : IsSound setting course) (b : ℕ)
    (low : b ≤ length course.moves) where
  pub trail-linked : AreLinked setting (stop_at course.start course.moves b) b (drop b course.moves)
  trail-linked = grind (arith, linked-drop setting course.start 0 course.moves b sound.linked low)

  pub trail-stops : (i : ℕ) → stop_at (stop_at course.start course.moves b) (drop b course.moves) i
      ≡ stop_at course.start course.moves (b + i)
  trail-stops i = stop-drop course.start course.moves b i low

  pub trail-count : b + length (drop b course.moves) ≡ length course.moves
  trail-count = omega (arith, length-drop b course.moves)

  pub trail-ends : stop_at (stop_at course.start course.moves b) (drop b course.moves) (length (drop b course.moves))
      ≡ last_stop course
  trail-ends = grind (arith, trail-stops, trail-count, stop-end)

  -- whatever the exits
  stops-lead : (marks : ℕ → PresenceMark) (last most more_hops more_way : ℕ) → length course.moves ≤ most
      → Exits setting marks (stop_at course.start course.moves b) b last (drop b course.moves) most more_hops more_way
      → StopsLead setting marks course b last most more_hops more_way
  stops-lead marks last most more_hops more_way within exits q v known from_low to_end inside is_stop knows =
      let placed : b + (q - b) ≡ q = omega (arith, from_low) in
      rw (drop-more b (q - b) course.moves, placed) at (leads setting marks (stop_at course.start course.moves b) b last
      (drop b course.moves) most more_hops more_way trail-linked (omega (arith, trail-count, within)) exits
      (length (drop b course.moves)) (q - b) v known (omega arith) (omega (arith, trail-count, to_end, from_low)) inside
      (trail-stops (q - b) ∙ (ap (stop_at course.start course.moves) placed ∙ is_stop)) knows)

-- where it was purged last
abbrev pub low_of : Setting → Course → ℕ
low_of setting course = base setting.top course.moves

-- so they lead from the node of an old address
pub old-leads : {setting : Setting} {course : Course} {marks : ℕ → PresenceMark} {last most : ℕ}
    (hops way level : ℕ) → IsSound setting course → level ≤ setting.top
    → StopsLead setting marks course (low_of setting course) last most hops way
    → (known : Option ℕ) → KnowsAtMost most known → Arrival setting marks known (address_node course level) last
    (hops + above setting marks (base level course.moves)) (weight_from course.moves (base level course.moves) + way)
old-leads hops way level sound below lead known knows =
    lead _ _ known (base-top level sound below) (base-low level sound) (old-inside level sound) refl knows

-- ---- at rest
pub rest-there : (setting : Setting) (course : Course) → rest_mark setting course (last_stop course) ≡ there course
rest-there setting course = rw (eq-eqb (last_stop course) (last_stop course) refl)

rest-other : (setting : Setting) (course : Course) (v : ℕ) → v ≢ last_stop course
    → rest_mark setting course v ≡ trail_mark (since_top setting course) v Empty
rest-other setting course v other = rw (ne_eqb v (last_stop course) other)

pub rest-leads : {setting : Setting} {shown : Shown} (h : IsResting setting shown)
    → StopsLead setting shown.marks h.course (low_of setting h.course) (last_stop h.course) (length h.course.moves) 0 0
rest-leads {setting} {shown} h = stops-lead h.sound _ (base-low setting.top h.sound) shown.marks _ _ 0 0 (omega arith)
    (rest-exits setting shown.marks _ _ (last_stop h.course) (since_top setting h.course) _
    (trail-ends h.sound _ (base-low setting.top h.sound))
    (grind (arith, stop-inside, rest-there, cond_both))
    (λ w low other. h.marks_are w low ∙ rest-other setting h.course w other))

-- ---- before the commit
module _ {setting : Setting} {shown : Shown} {written : List ℕ} (h : IsMoving setting shown (coming written)) where
  pub coming-there : (k : Option ℕ) → answers k (shown.marks (last_stop h.course)) ≡ true
  coming-there k = grind (arith, stop-inside, ne_eqb, rest-there, cond_both)

  pub coming-at_to : shown.marks h.move.to ≡ Coming h.move.number (last_stop h.course)
  coming-at_to = h.marks_are h.move.to h.next.inside ∙ rw (eq-eqb h.move.to h.move.to refl, h.next.from)

  pub coming-leads : StopsLead setting shown.marks h.course (low_of setting h.course) (last_stop h.course)
      (length h.course.moves) 1 0
  coming-leads =
      stops-lead h.sound _ (base-low setting.top h.sound) shown.marks _ _ 1 0 (omega arith)
      (coming-exits setting shown.marks _ _ (last_stop h.course) (since_top setting h.course) _ h.move.number h.move.to
      (trail-linked h.sound _ (base-low setting.top h.sound))
      (grind (arith, stops-inside, base-low))
      (trail-ends h.sound _ (base-low setting.top h.sound)) (omega (arith, h.next.number)) coming-at_to coming-there
      (grind (arith, ne_eqb, rest-other)))

  -- from the new node one hop leads back
  pub coming-back : (known : Option ℕ) → KnowsAtMost (length h.course.moves) known
      → Arrival setting shown.marks known h.move.to (last_stop h.course) 1
      (setting.distance h.move.to (last_stop h.course) + 0)
  coming-back known knows = back-leads setting shown.marks (last_stop h.course) (length h.course.moves) h.move.number
      h.move.to known (omega (arith, h.next.number)) knows coming-at_to coming-there

-- ---- between commit and confirm
module _ {setting : Setting} {shown : Shown} (h : IsMoving setting shown passage) where
  pub passing-gone : shown.marks h.move.from ≡ Gone h.move.number h.move.to
  passing-gone = h.marks_are h.move.from (from-inside h.sound h.next) ∙ rw (eq-eqb h.move.from h.move.from refl)

  pub passing-at_to : shown.marks h.move.to ≡ Coming h.move.number h.move.from
  passing-at_to = grind (arith, ne_eqb, eq-eqb)

  pub passage-leads : StopsLead setting shown.marks h.course (low_of setting h.course) h.move.to
      (suc (length h.course.moves)) 1 (2 * setting.distance h.move.from h.move.to)
  passage-leads =
      stops-lead h.sound _ (base-low setting.top h.sound) shown.marks _ _ 1 _ (omega arith)
      (passing-exits setting shown.marks _ _ h.move.from (since_top setting h.course) _ h.move.number h.move.to
      (trail-ends h.sound _ (base-low setting.top h.sound) ∙ sym h.next.from)
      (omega (arith, trail-count h.sound _ (base-low setting.top h.sound), h.next.number))
      (from-inside h.sound h.next) h.next.inside passing-gone passing-at_to
      (grind (arith, ne_eqb, rest-other)))

  -- from the new node at most there and back
  pub passage-new : (known : Option ℕ) → Arrival setting shown.marks known h.move.to h.move.to 2
      (setting.distance h.move.to h.move.from + (setting.distance h.move.from h.move.to + 0))
  passage-new known =
      passing-leads setting shown.marks h.move.from h.move.number h.move.to known passing-gone passing-at_to

-- ---- after the confirm
pub clearing-here : {setting : Setting} {shown : Shown} {erased purged : List ℕ}
    (h : IsMoving setting shown (clearing erased purged)) → shown.marks h.move.to ≡ Here h.move.number
clearing-here h =
    h.marks_are h.move.to h.next.inside ∙ rw (h.is_phase.stays, eq-eqb h.move.to h.move.to refl)

-- the trail with one move more
pub trail-with : {setting : Setting} {course : Course} (move : Move) → IsSound setting course
    → drop (low_of setting course) (course.moves ++ move ∷ []) ≡ since_top setting course ++ move ∷ []
trail-with {setting} {course} move sound =
    drop-append-le (low_of setting course) course.moves (move ∷ []) (base-low setting.top sound)

pub low-with : {setting : Setting} {course : Course} (move : Move) → IsSound setting course
    → low_of setting course ≤ length (course.moves ++ move ∷ [])
low-with {setting} {course} move sound = omega (arith, moves-count course move, base-low setting.top sound)

-- from a stop of the course, and from the new node, while no node is purged
pub clearing-leads : {setting : Setting} {shown : Shown} {erased purged : List ℕ}
    (h : IsMoving setting shown (clearing erased purged)) → purged ≡ []
    → StopsLead setting shown.marks (with_move h.course h.move) (low_of setting h.course) h.move.to
    (suc (length h.course.moves)) 0 0
clearing-leads {setting} {shown} h none =
    stops-lead (sound-with h.sound h.next) _ (low-with h.move h.sound) shown.marks _ _ 0 0
    (omega (arith, moves-count h.course h.move)) (rest-exits setting shown.marks _ _ h.move.to _ _
    (trail-ends (sound-with h.sound h.next) _ (low-with h.move h.sound) ∙ stop-with h.course h.move)
    (λ k. ap (answers k) (clearing-here h)) others)
  where
    others : (v : ℕ) → v < setting.nodes → v ≢ h.move.to → shown.marks v
        ≡ trail_mark (drop (low_of setting h.course) (h.course.moves ++ h.move ∷ [])) v Empty
    others v low off_to = grind (arith, ne_eqb, trail-with, trail_mark-push)
