-- The moves of a course by their places: which number each has, and where it begins and leads.
use Rattle.std.proofs.Common.{◌≡◌, ◌≢◌, ◌⊎◌, inl, inr, ℕ, zero, suc, ◌+◌, ◌<◌, ◌≤◌, true, false, List, [], ◌∷◌, ◌++◌, Some, length, map, take, fold, refl, sym, ap, ◌∙◌, subst, append_assoc, arith, Bool}
use Rattle.std.specs.Prelude.{cond, nat_le, slice_get, slice_index}
use Rattle.std.proofs.lemmas.Bool.Decides.{nat_tests}
use Rattle.std.proofs.lemmas.List.{append-nil, get_or_append_left, length-map, map-append}
use Rattle.std.proofs.lemmas.List.Sums.{fold-append}
use Rattle.std.proofs.lemmas.Option.{slice_get_within}
use Rattle.std.proofs.lemmas.Bool.{cases_eq}
use Rattle.directory.specs.Settings.{Setting}
use Rattle.directory.specs.Courses.{after_step, after_steps, base, Course, MayStep, MaySteps, Move, move_to, next_move, Step, switch_off, switch_on}
use Rattle.directory.specs.StepLaws.{highest-low, slice_get-within, take-more}

-- the stop after so many moves
abbrev pub stop_of : ℕ → List Move → ℕ → ℕ
stop_of begin moves i = slice_index (begin ∷ map (λ (m : Move). m.to) moves) i

-- a move at a place: numbered by it, from where the moves before lead
pub record IsAt (setting : Setting) (begin : ℕ) (moves : List Move) (i : ℕ) (move : Move) : Type 0 where
  pub its_number : move.number ≡ suc i
  pub from : move.from ≡ stop_of begin moves i
  pub weight : move.weight ≡ setting.distance (stop_of begin moves i) move.to
  pub low : move.renewed ≤ setting.top
  pub inside : move.to < setting.nodes
  pub apart : move.to ≢ stop_of begin moves i

-- moves that are each at their place
pub record AreInPlace (setting : Setting) (begin : ℕ) (moves : List Move) : Type 0 where
  pub begins : begin < setting.nodes
  pub each : (i : ℕ) (move : Move) → slice_get moves i ≡ Some move → IsAt setting begin moves i move

-- an earlier stop stays
pub stop-kept : (begin : ℕ) (xs ys : List Move) (i : ℕ) → i ≤ length xs
    → stop_of begin (xs ++ ys) i ≡ stop_of begin xs i
stop-kept begin xs ys i low = grind (arith, map-append, length-map, get_or_append_left)

-- a move leads to its node
pub stop-after : (begin : ℕ) (moves : List Move) (i : ℕ) (move : Move) → slice_get moves i ≡ Some move
    → stop_of begin moves (suc i) ≡ move.to
stop-after begin [] i move h = cc
stop-after begin (m ∷ moves) zero move h = let e : m ≡ move = cc in ap (λ (x : Move). x.to) e
stop-after begin (m ∷ moves) (suc i) move h = stop-after m.to moves i move h

pub stop-whole : (begin : ℕ) (moves : List Move)
    → fold (λ node (m : Move). m.to) begin moves ≡ stop_of begin moves (length moves)
stop-whole begin [] = refl
stop-whole begin (m ∷ moves) = stop-whole m.to moves

-- what stands in a list that one more was pushed to
pub in-pushed : {A : Type 0} (xs : List A) (x y : A) (i : ℕ) → slice_get (xs ++ x ∷ []) i ≡ Some y
    → (slice_get xs i ≡ Some y) ⊎ ((i ≡ length xs) × (x ≡ y))
in-pushed [] x y zero h = let e : x ≡ y = cc in inr (refl, e)
in-pushed [] x y (suc i) h = cc
in-pushed (z ∷ xs) x y zero h = inl h
in-pushed (z ∷ xs) x y (suc i) h = elim (in-pushed xs x y i h) [
  | inl there ↦ inl there
  | inr last ↦ inr (ap suc last.0, last.1)
]

-- one more move
pub place-push : (setting : Setting) (begin : ℕ) (moves : List Move) (move : Move) → AreInPlace setting begin moves
    → IsAt setting begin moves (length moves) move → AreInPlace setting begin (moves ++ move ∷ [])
place-push setting begin moves move are is = record {
  begins = are.begins;
  each = λ i other h. elim (in-pushed moves move other i h) [
    | inl there ↦
        let its = are.each i other there in
        let same : stop_of begin (moves ++ move ∷ []) i ≡ stop_of begin moves i =
        stop-kept begin moves (move ∷ []) i (omega (arith, slice_get_within moves i other there)) in record {
          its_number = its.its_number;
          from = its.from ∙ sym same;
          weight = its.weight ∙ ap (λ n. setting.distance n other.to) (sym same);
          low = its.low;
          inside = its.inside;
          apart = λ h. its.apart (h ∙ same);
        }
    | inr last ↦
        let same : stop_of begin (moves ++ move ∷ []) i ≡ stop_of begin moves i =
        stop-kept begin moves (move ∷ []) i (omega (arith, last.0)) in
        let its : IsAt setting begin moves i other =
        subst (λ m. IsAt setting begin moves i m) last.1
        (subst (λ n. IsAt setting begin moves n move) (sym last.0) is) in record {
          its_number = its.its_number;
          from = its.from ∙ sym same;
          weight = its.weight ∙ ap (λ n. setting.distance n other.to) (sym same);
          low = its.low;
          inside = its.inside;
          apart = λ h. its.apart (h ∙ same);
        }
  ];
}

pub place-step : (setting : Setting) (course : Course) (step : Step) → AreInPlace setting course.start course.moves
    → MayStep setting course step
    → AreInPlace setting (after_step setting course step).start (after_step setting course step).moves
place-step setting course (move_to node) are may =
    place-push setting course.start course.moves (next_move setting course node) are (record {
      its_number = refl;
      from = stop-whole course.start course.moves;
      weight = ap (λ n. setting.distance n node) (stop-whole course.start course.moves);
      low = highest-low _ setting.top;
      inside = may.inside;
      apart = λ h. may.moving (h ∙ sym (stop-whole course.start course.moves));
    })
place-step setting course switch_off are may = are
place-step setting course switch_on are may = are

pub place-steps : (setting : Setting) (course : Course) (steps : List Step)
    → AreInPlace setting course.start course.moves → MaySteps setting course steps
    → AreInPlace setting (after_steps setting course steps).start (after_steps setting course steps).moves
unfolding MaySteps
place-steps setting course [] are may = are
place-steps setting course (step ∷ steps) are may =
    place-steps setting (after_step setting course step) steps (place-step setting course step are may.0) may.1

-- steps only add moves
pub moves-added : (setting : Setting) (course : Course) (steps : List Step)
    → (more : List Move) × ((after_steps setting course steps).moves ≡ course.moves ++ more)
moves-added setting course [] = ([], sym (append-nil course.moves))
moves-added setting course (move_to node ∷ steps) =
    let rest = moves-added setting (after_step setting course (move_to node)) steps in (
      next_move setting course node ∷ rest.0,
      rest.1 ∙ append_assoc course.moves (next_move setting course node ∷ []) rest.0,
    )
moves-added setting course (switch_off ∷ steps) = moves-added setting (after_step setting course switch_off) steps
moves-added setting course (switch_on ∷ steps) = moves-added setting (after_step setting course switch_on) steps

-- the base of a level with one more move
module _ (level : ℕ) (moves : List Move) (move : Move) where
  pub base-more : base level (moves ++ move ∷ []) ≡ cond (nat_le level move.renewed) move.number (base level moves)
  base-more = fold-append _ 0 moves (move ∷ [])

-- it is no later than the last move
pub base-within : {setting : Setting} {begin : ℕ} (level : ℕ) (moves : List Move) → AreInPlace setting begin moves
    → (n : ℕ) → n ≤ length moves → base level (take n moves) ≤ n
base-within level moves are zero low = omega arith
base-within level moves are (suc n) low =
    let found = slice_get-within moves n (omega arith) in
    let its = are.each n found.0 found.1 in
    let before : base level (take n moves) ≤ n = base-within level moves are n (omega arith) in
    rw (take-more moves n found.0 found.1, base-more level (take n moves) found.0)
    (at_test (nat_le level found.0.renewed) (omega (arith, its.its_number)) (omega (arith, before)))
  where
    at_test : {x y z : ℕ} (b : Bool) → x ≤ z → y ≤ z → cond b x y ≤ z
    at_test true h g = h
    at_test false h g = g

-- where a base has changed, one of the moves since then has renewed the level
pub record IsRenewedSince (moves : List Move) (level first last : ℕ) : Type 0 where
  pub place : ℕ
  pub move : Move
  pub since : first ≤ place
  pub by : place < last
  pub is_move : slice_get moves place ≡ Some move
  pub renews : level ≤ move.renewed

pub base-changed : (level : ℕ) (moves : List Move) (first count : ℕ) → first + count ≤ length moves
    → (base level (take (first + count) moves) ≡ base level (take first moves))
    ⊎ IsRenewedSince moves level first (first + count)
base-changed level moves first zero low = inl (let e : first + 0 ≡ first = omega arith in rw e refl)
base-changed level moves first (suc count) low =
    let found = slice_get-within moves (first + count) (omega arith) in
    let e : first + suc count ≡ suc (first + count) = omega arith in
    rw (e, take-more moves (first + count) found.0 found.1, base-more level (take (first + count) moves) found.0)
    (at_test found.0 found.1 (nat_le level found.0.renewed) refl (base-changed level moves first count (omega arith)))
  where
    at_test : (move : Move) → slice_get moves (first + count) ≡ Some move → (b : Bool)
        → nat_le level move.renewed ≡ b
        → (base level (take (first + count) moves) ≡ base level (take first moves))
        ⊎ IsRenewedSince moves level first (first + count)
        → (cond b move.number (base level (take (first + count) moves)) ≡ base level (take first moves))
        ⊎ IsRenewedSince moves level first (suc (first + count))
    at_test move is b e (inr so) = inr (record {
      place = so.place;
      move = so.move;
      since = so.since;
      by = omega (arith, so.by);
      is_move = so.is_move;
      renews = so.renews;
    })
    at_test move is true e (inl so) = inr (record {
      place = first + count;
      move = move;
      since = omega arith;
      by = omega arith;
      is_move = is;
      renews = grind (arith, nat_tests, e);
    })
    at_test move is false e (inl so) = inl so

-- the stops of moves are nodes
pub stop-inside : {setting : Setting} {begin : ℕ} (moves : List Move) → AreInPlace setting begin moves → (i : ℕ)
    → i ≤ length moves → stop_of begin moves i < setting.nodes
stop-inside moves are zero low = are.begins
stop-inside {setting} {begin} moves are (suc i) low =
    let found = slice_get-within moves i (omega arith) in
    rw (stop-after begin moves i found.0 found.1) ((are.each i found.0 found.1).inside)

-- a base never falls
pub base-grows : {setting : Setting} {begin : ℕ} (level : ℕ) (moves : List Move) → AreInPlace setting begin moves
    → (m n : ℕ) → m ≤ n → n ≤ length moves → base level (take m moves) ≤ base level (take n moves)
base-grows level moves are m zero h low = let e : m ≡ 0 = omega arith in rw e (omega arith)
base-grows level moves are m (suc n) h low = elim (cases_eq m (suc n)) [
  | inl same ↦ rw same (omega arith)
  | inr apart ↦
      let found = slice_get-within moves n (omega arith) in
      let its = are.each n found.0 found.1 in
      let before : base level (take m moves) ≤ base level (take n moves) =
      base-grows level moves are m n (omega arith) (omega arith) in
      let within : base level (take m moves) ≤ m = base-within level moves are m (omega arith) in
      subst (λ x. base level (take m moves) ≤ x)
      (sym (ap (base level) (take-more moves n found.0 found.1) ∙ base-more level (take n moves) found.0))
      (at_test (base level (take m moves)) (nat_le level found.0.renewed)
      (omega (arith, its.its_number, within)) before)
]
  where
    at_test : {y z : ℕ} (x : ℕ) (b : Bool) → x ≤ y → x ≤ z → x ≤ cond b y z
    at_test x true h g = h
    at_test x false h g = g
