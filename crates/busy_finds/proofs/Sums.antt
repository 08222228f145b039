-- How far a subscriber has travelled after so many of its moves, and that no level has gathered its threshold.
use Rattle.std.proofs.Common.{◌≡◌, inl, inr, ℕ, zero, suc, ◌+◌, ◌<◌, ◌≤◌, Bool, true, false, List, [], ◌∷◌, ◌++◌, Some, length, take, drop, refl, sym, ap, ◌∙◌, subst, arith, length-append}
use Rattle.std.specs.Prelude.{nat_le, slice_get, sum_by}
use Rattle.std.proofs.lemmas.Bool.{cases_Bool, cases_eq, cases_lt}
use Rattle.std.proofs.lemmas.Bool.Decides.{nat_tests}
use Rattle.std.proofs.lemmas.List.{take-append-drop, take-append-le, take_all}
use Rattle.std.proofs.lemmas.List.Sums.{sum_by-append, sum_by-cons, sum_by_push}
use Rattle.directory.specs.Settings.{levels, Setting}
use Rattle.directory.specs.Courses.{after_step, after_steps, base, Course, gathered_weight, highest, MaySteps, Move, move_to, next_move, Step, switch_off, switch_on}
use Rattle.directory.specs.ListLaws.{slice_get-right}
use Rattle.directory.specs.StepLaws.{slice_get-within, take-more}
use Rattle.trail_laws.specs.Trail.{HasMetric}
use Rattle.busy_finds.proofs.Moves.{AreInPlace, base-more, base-within, place-step, stop-after, stop-inside, stop_of}

-- the weight of the first moves
abbrev pub travelled : List Move → ℕ → ℕ
travelled moves n = sum_by (λ (m : Move). m.weight) (take n moves)

pub travelled-step : (moves : List Move) (i : ℕ) (move : Move) → slice_get moves i ≡ Some move
    → travelled moves (suc i) ≡ travelled moves i + move.weight
travelled-step moves i move h =
    ap (sum_by (λ (m : Move). m.weight)) (take-more moves i move h)
    ∙ sum_by_push (λ (m : Move). m.weight) (take i moves) move

pub travelled-more : (moves : List Move) (a b : ℕ) → a ≤ b → travelled moves a ≤ travelled moves b
travelled-more [] zero b h = omega arith
travelled-more [] (suc a) zero h = absurd (omega arith)
travelled-more [] (suc a) (suc b) h = omega arith
travelled-more (m ∷ moves) zero b h = omega arith
travelled-more (m ∷ moves) (suc a) zero h = absurd (omega arith)
travelled-more (m ∷ moves) (suc a) (suc b) h = omega (
  arith,
  travelled-more moves a b (omega arith),
  sum_by-cons (λ (x : Move). x.weight) m (take a moves),
  sum_by-cons (λ (x : Move). x.weight) m (take b moves),
)

-- the way from a stop to a later one is no longer than the moves between
pub way-within : {setting : Setting} {begin : ℕ} (moves : List Move) → AreInPlace setting begin moves
    → HasMetric setting → (a b : ℕ) → a ≤ b → b ≤ length moves
    → setting.distance (stop_of begin moves a) (stop_of begin moves b) + travelled moves a ≤ travelled moves b
way-within {setting} {begin} moves are metric a zero h low =
    let e : a ≡ 0 = omega arith in rw e (omega (arith, metric.none begin are.begins))
way-within {setting} {begin} moves are metric a (suc b) h low = elim (cases_eq a (suc b)) [
  | inl same ↦ rw same (omega (arith, metric.none (stop_of begin moves (suc b)) (stop-inside moves are (suc b) low)))
  | inr apart ↦
      let found = slice_get-within moves b (omega arith) in
      let its = are.each b found.0 found.1 in
      omega (
        arith,
        way-within moves are metric a b (omega arith) (omega arith),
        travelled-step moves b found.0 found.1,
        its.weight,
        ap (setting.distance (stop_of begin moves a)) (stop-after begin moves b found.0 found.1),
        metric.detour (stop_of begin moves a) (stop_of begin moves b) found.0.to
            (stop-inside moves are a (omega arith)) (stop-inside moves are b (omega arith)) its.inside,
      )
]

-- ---- no level has gathered its threshold
abbrev pub StayBelow : Setting → List Move → Type 0
StayBelow setting moves =
    (k level : ℕ) → k ≤ length moves → level ≤ setting.top
    → travelled moves k < travelled moves (base level (take k moves)) + setting.threshold level

highest-reaches : (test : ℕ → Bool) (limit level : ℕ) → level < limit → test level ≡ true
    → level ≤ highest test limit
unfolding highest
highest-reaches test zero level below h = absurd (omega arith)
highest-reaches test (suc limit) level below h =
    grind (arith, cases_Bool (test limit), cases_eq level limit, highest-reaches test limit level)

-- what the first moves come to stays
pub travelled-front : (moves : List Move) (move : Move) (k : ℕ) → k ≤ length moves
    → travelled (moves ++ move ∷ []) k ≡ travelled moves k
travelled-front moves move k low =
    ap (sum_by (λ (m : Move). m.weight)) (take-append-le k moves (move ∷ []) low)

pub gathered-is : (moves : List Move) (b : ℕ) → travelled moves (length moves)
    ≡ travelled moves b + sum_by (λ (m : Move). m.weight) (drop b moves)
gathered-is moves b =
    ap (sum_by (λ (m : Move). m.weight)) (take_all (length moves) moves (omega arith) ∙ sym (take-append-drop b moves))
    ∙ sum_by-append (λ (m : Move). m.weight) (take b moves) (drop b moves)

module _ (setting : Setting) (course : Course) (node : ℕ) (are : AreInPlace setting course.start course.moves)
    (some : (i : ℕ) → i ≤ setting.top → 1 ≤ setting.threshold i) (below : StayBelow setting course.moves) where
  abbrev next : Move
  next = next_move setting course node

  abbrev more : List Move
  more = course.moves ++ next ∷ []

  at-end : (level : ℕ) → level ≤ setting.top
      → travelled more (suc (length course.moves)) < travelled more (base level more) + setting.threshold level
  at-end level low = at_test (nat_le level next.renewed) refl
    where
      whole : travelled more (suc (length course.moves)) ≡ travelled course.moves (length course.moves) + next.weight
      whole = travelled-step more (length course.moves) next (slice_get-right course.moves (next ∷ []) (length course.moves) 0
          (omega arith)) ∙ ap (λ n. n + next.weight) (travelled-front course.moves next (length course.moves) (omega arith))

      based : base level course.moves ≤ length course.moves
      based = rw (take_all (length course.moves) course.moves (omega arith)) at
          (base-within level course.moves are (length course.moves) (omega arith))

      at_test : (b : Bool) → nat_le level next.renewed ≡ b
          → travelled more (suc (length course.moves)) < travelled more (base level more) + setting.threshold level
      at_test true e =
          rw (base-more level course.moves next, e) (omega (arith, some level low))
      at_test false e = rw (base-more level course.moves next, e) (omega (
        arith,
        whole,
        travelled-front course.moves next (base level course.moves) based,
        gathered-is course.moves (base level course.moves),
        untested (nat_le (setting.threshold level) (gathered_weight course level + next.weight)) refl,
      ))
        where
          untested : (t : Bool) → nat_le (setting.threshold level) (gathered_weight course level + next.weight) ≡ t
              → gathered_weight course level + next.weight < setting.threshold level
          untested true is =
              let reached : level ≤ next.renewed = highest-reaches
              (λ l. nat_le (setting.threshold l) (gathered_weight course l + next.weight)) (levels setting) level
              (omega (arith, low)) is in grind (arith, nat_tests, e, reached)
          untested false is = grind (arith, nat_tests, is)

  below-move : StayBelow setting more
  below-move k level within low = elim (cases_lt (length course.moves) k) [
    | inl whole ↦
        let e : k ≡ suc (length course.moves) =
        omega (arith, within, length-append course.moves (next ∷ []), whole) in
        rw e (subst (λ ms. travelled more (suc (length course.moves)) < travelled more (base level ms)
        + setting.threshold level)
        (sym (take_all (suc (length course.moves)) more (omega (arith, length-append course.moves (next ∷ [])))))
        (at-end level low))
    | inr front ↦
        rw (take-append-le k course.moves (next ∷ []) front)
        (omega (
          arith,
          below k level front low,
          travelled-front course.moves next (base level (take k course.moves))
              (omega (arith, front, base-within level course.moves are k front)),
        ))
  ]

pub below-steps : (setting : Setting) (course : Course) (steps : List Step)
    → AreInPlace setting course.start course.moves → MaySteps setting course steps
    → ((i : ℕ) → i ≤ setting.top → 1 ≤ setting.threshold i) → StayBelow setting course.moves
    → StayBelow setting (after_steps setting course steps).moves
unfolding MaySteps
below-steps setting course [] are may some below = below
below-steps setting course (move_to node ∷ steps) are may some below =
    below-steps setting (after_step setting course (move_to node)) steps (place-step setting course (move_to node) are may.0)
    may.1 some (below-move setting course node are some below)
below-steps setting course (switch_off ∷ steps) are may some below =
    below-steps setting (after_step setting course switch_off) steps are may.1 some below
below-steps setting course (switch_on ∷ steps) are may some below =
    below-steps setting (after_step setting course switch_on) steps are may.1 some below
