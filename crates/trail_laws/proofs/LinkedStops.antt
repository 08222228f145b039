-- The stops of linked moves: the weight from one on, the last move that left a node, and the way to the end.
use Rattle.std.proofs.Common.{◌≡◌, ◌⊎◌, inl, inr, ℕ, zero, suc, ◌+◌, ◌<◌, ◌≤◌, Bool, true, false, cond, ◌==◌, List, [], ◌∷◌, Some, length, map, drop, refl, sym, ap, ◌∙◌, arith}
use Rattle.std.specs.Prelude.{slice_get, slice_index, sum_by}
use Rattle.std.proofs.Math.Seq.{drop-nil}
use Rattle.std.proofs.lemmas.Bool.{eqb-true, eq-eqb}
use Rattle.std.proofs.lemmas.List.Sums.{sum_by-cons}
use Rattle.entry_word.specs.declared.mark.PresenceMark.{PresenceMark}
use Rattle.entry_word.specs.declared.mark.PresenceMark.TheVariants.{Gone}
use Rattle.directory.specs.Settings.{Setting}
use Rattle.directory.specs.Courses.{Move, Course, address_node, base}
use Rattle.trail_laws.specs.Trail.{HasMetric}
use Rattle.trail_laws.proofs.Links.{AreLinked, base-low, IsLink, IsSound}
use Rattle.trail_laws.proofs.ClosedMarks.{trail_mark}

abbrev pub stop_at : ℕ → List Move → ℕ → ℕ
stop_at from moves i = slice_index (from ∷ map (λ (move : Move). move.to) moves) i

-- the weight of the moves from one on
abbrev pub weight_from : List Move → ℕ → ℕ
weight_from moves i = sum_by (λ (move : Move). move.weight) (drop i moves)

pub weight-step : (moves : List Move) (i : ℕ) (move : Move) → slice_get moves i ≡ Some move
    → weight_from moves i ≡ move.weight + weight_from moves (suc i)
weight-step [] i move h = cc
weight-step (m ∷ moves) zero move h = let e : m ≡ move = cc in sum_by-cons (λ (x : Move). x.weight) m moves
    ∙ ap (λ (x : Move). x.weight + sum_by (λ (y : Move). y.weight) moves) e
weight-step (m ∷ moves) (suc i) move h = weight-step moves i move h

pub weight-mono : (moves : List Move) (i j : ℕ) → i ≤ j → weight_from moves j ≤ weight_from moves i
weight-mono [] i j h = rw (drop-nil i, drop-nil j) (omega arith)
weight-mono (m ∷ moves) zero zero h = omega arith
weight-mono (m ∷ moves) zero (suc j) h =
    omega (arith, sum_by-cons (λ (x : Move). x.weight) m moves, weight-mono moves 0 j (omega arith))
weight-mono (m ∷ moves) (suc i) zero h = absurd (omega arith)
weight-mono (m ∷ moves) (suc i) (suc j) h = weight-mono moves i j (omega (arith, h))

-- the last move that left a node
pub record IsLeft (setting : Setting) (from number : ℕ) (moves : List Move) (v : ℕ)
    (mark : PresenceMark) : Type 0 where
  pub place : ℕ
  pub move : Move
  pub is_move : slice_get moves place ≡ Some move
  pub within : place < length moves
  pub link : IsLink setting v (number + place) move
  pub mark_is : mark ≡ Gone move.number move.to
  pub goes_on : stop_at from moves (suc place) ≡ move.to
  pub last : (i : ℕ) → i < length moves → stop_at from moves i ≡ v → i ≤ place

-- no move left the node, whose mark is the one before them, or one was the last to leave it
abbrev pub LeavesMark : Setting → ℕ → ℕ → List Move → ℕ → PresenceMark → Type 0
LeavesMark setting from number moves v mark =
    ((trail_mark moves v mark ≡ mark) × ((i : ℕ) → i < length moves → stop_at from moves i ≡ v → ⊥))
    ⊎ IsLeft setting from number moves v (trail_mark moves v mark)

pub last-left : (setting : Setting) (from number : ℕ) (moves : List Move) (v : ℕ) (mark : PresenceMark)
    → AreLinked setting from number moves → LeavesMark setting from number moves v mark
unfolding trail_mark
last-left setting from number [] v mark linked = inl (refl, λ i low same. omega arith)
last-left setting from number (m ∷ later) v mark linked =
    at_test (v == m.from) refl (last-left setting m.to (suc number) later v (its_mark (v == m.from)) linked.1)
  where
    its_mark : Bool → PresenceMark
    its_mark b = cond b (Gone m.number m.to) mark

    -- what holds of the first stop and of those behind it
    at_first : (P : ℕ → Type 0) → (from ≡ v → P 0)
        → ((i : ℕ) → i < length later → stop_at m.to later i ≡ v → P (suc i))
        → (i : ℕ) → i < length (m ∷ later) → stop_at from (m ∷ later) i ≡ v → P i
    at_first P first more i low same = grind arith

    at_test : (b : Bool) → (v == m.from) ≡ b
        → LeavesMark setting m.to (suc number) later v (its_mark (v == m.from))
        → ((trail_mark later v (its_mark (v == m.from)) ≡ mark)
        × ((i : ℕ) → i < length (m ∷ later) → stop_at from (m ∷ later) i ≡ v → ⊥))
        ⊎ IsLeft setting from number (m ∷ later) v (trail_mark later v (its_mark (v == m.from)))
    at_test b e (inr h) = inr (record {
      place = suc h.place;
      move = h.move;
      is_move = h.is_move;
      within = omega (arith, h.within);
      link = let n : suc number + h.place ≡ number + suc h.place = omega arith in rw n at h.link;
      mark_is = h.mark_is;
      goes_on = h.goes_on;
      last = at_first (λ i. i ≤ suc h.place) (λ same. omega arith) (λ i low same. omega (arith, h.last i low same));
    })
    at_test true e (inl h) = inr (record {
      place = 0;
      move = m;
      is_move = refl;
      within = omega arith;
      link = grind (arith, eqb-true);
      mark_is = h.0 ∙ ap its_mark e;
      goes_on = refl;
      last = at_first (λ i. i ≤ 0) (λ same. omega arith) (λ i low same. absurd (h.1 i low same));
    })
    at_test false e (inl h) = inl (
      h.0 ∙ ap its_mark e,
      at_first (λ i. ⊥)
          (λ same. let clash : (v == m.from) ≡ true = eq-eqb v m.from (sym same ∙ sym linked.0.its_from) in cc) h.1,
    )

pub stops-inside : (setting : Setting) (from number : ℕ) (moves : List Move) (i : ℕ)
    → AreLinked setting from number moves → from < setting.nodes → i ≤ length moves
    → stop_at from moves i < setting.nodes
stops-inside setting from number moves zero linked begins low = begins
stops-inside setting from number [] (suc i) linked begins low = absurd (omega arith)
stops-inside setting from number (m ∷ later) (suc i) linked begins low =
    stops-inside setting m.to (suc number) later i linked.1 linked.0.inside (omega arith)

-- the way to the end is no longer than the moves to it
pub way-short : {setting : Setting} (from number : ℕ) (moves : List Move) (i : ℕ)
    → AreLinked setting from number moves → from < setting.nodes → HasMetric setting → i ≤ length moves
    → setting.distance (stop_at from moves i) (stop_at from moves (length moves)) ≤ weight_from moves i
way-short from number [] zero linked begins metric low = omega (arith, metric.none from begins)
way-short from number [] (suc i) linked begins metric low = absurd (omega arith)
way-short {setting} from number (m ∷ later) zero (link, linked) begins metric low = omega (
  arith,
  metric.detour from m.to (stop_at m.to later (length later)) begins link.inside
      (stops-inside setting m.to (suc number) later (length later) linked link.inside (omega arith)),
  way-short m.to (suc number) later 0 linked link.inside metric (omega arith),
  link.its_weight,
  sum_by-cons (λ (x : Move). x.weight) m later,
)
way-short from number (m ∷ later) (suc i) linked begins metric low =
    way-short m.to (suc number) later i linked.1 linked.0.inside metric (omega arith)

-- the node of the address of a level is one
pub old-inside : {setting : Setting} {course : Course} (level : ℕ) → IsSound setting course
    → address_node course level < setting.nodes
old-inside {setting} {course} level sound = stops-inside setting course.start 0 course.moves
    (base level course.moves) sound.linked sound.begins (base-low level sound)
