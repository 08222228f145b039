-- What moves gather: each at least what it weighs, and the threshold of the highest level that it renews.
use Rattle.std.proofs.Common.{◌≡◌, ◌≢◌, ◌⊎◌, inl, inr, ℕ, zero, suc, ◌+◌, ◌-◌, ◌≤◌, max, Bool, true, false, cond, List, [], ◌∷◌, ◌++◌, Some, length, take, drop, fold, refl, sym, ap, ◌∙◌, subst, arith}
use Rattle.std.specs.Prelude.{nat_le, slice_get, sum_by}
use Rattle.std.proofs.lemmas.Bool.Decides.{nat_tests}
use Rattle.std.proofs.lemmas.List.{take-append-drop, take-append-le, take-take, take_all, take_at}
use Rattle.std.proofs.lemmas.List.Sums.{sum_by-append, sum_by-cons}
use Rattle.std.proofs.lemmas.Option.{slice_get_within}
use Rattle.directory.specs.Settings.{levels, Setting}
use Rattle.directory.specs.Courses.{after_step, after_steps, base, Course, gathered_weight, highest, MaySteps, Move, move_to, next_move, Step, switch_off, switch_on}
use Rattle.directory.specs.ListLaws.{slice_get-right}
use Rattle.busy_finds.specs.Prices.{gathered_by}
use Rattle.busy_finds.proofs.Moves.{AreInPlace, base-within, in-pushed, place-step, stop-kept, stop-whole, stop_of}
use Rattle.busy_finds.proofs.Sums.{gathered-is, travelled, travelled-front, travelled-step}

-- each move goes somewhere, and the highest level that it renews has reached its threshold, or is the lowest
pub record HasReached (setting : Setting) (begin : ℕ) (moves : List Move) (i : ℕ) (move : Move) : Type 0 where
  pub goes : move.to ≢ stop_of begin moves i
  pub reached : (travelled moves (base move.renewed (take i moves)) + setting.threshold move.renewed
      ≤ travelled moves (suc i)) ⊎ (move.renewed ≡ 0)

abbrev pub AllReach : Setting → ℕ → List Move → Type 0
AllReach setting begin moves =
    (i : ℕ) (move : Move) → slice_get moves i ≡ Some move → HasReached setting begin moves i move

module _ (test : ℕ → Bool) where
  highest-or-none : (limit : ℕ) → (test (highest test limit) ≡ true) ⊎ (highest test limit ≡ 0)
  unfolding highest
  highest-or-none zero = inr refl
  highest-or-none (suc limit) = at_test (test limit) refl (highest-or-none limit)
    where
      at_test : (b : Bool) → test limit ≡ b → (test (highest test limit) ≡ true) ⊎ (highest test limit ≡ 0)
          → (test (cond b limit (highest test limit)) ≡ true) ⊎ (cond b limit (highest test limit) ≡ 0)
      at_test true e more = inl e
      at_test false e more = more

module _ (setting : Setting) (course : Course) (node : ℕ) (are : AreInPlace setting course.start course.moves)
    (moving : node ≢ stop_of course.start course.moves (length course.moves))
    (all : AllReach setting course.start course.moves) where
  abbrev next : Move
  next = next_move setting course node

  abbrev more : List Move
  more = course.moves ++ next ∷ []

  reach-next : HasReached setting course.start more (length course.moves) next
  reach-next = record {
    goes = subst (λ n. node ≢ n) (sym (stop-kept course.start course.moves (next ∷ []) (length course.moves) (omega arith)))
        moving;
    reached = elim (highest-or-none (λ l. nat_le (setting.threshold l) (gathered_weight course l + next.weight))
        (levels setting)) [
          | inl passed ↦
              let reaches : setting.threshold next.renewed ≤ gathered_weight course next.renewed + next.weight =
              grind (arith, nat_tests, passed) in
              let front : take (length course.moves) more ≡ course.moves =
              take_at course.moves (next ∷ []) (length course.moves) refl in
              let low : base next.renewed course.moves ≤ length course.moves =
              rw (take_all (length course.moves) course.moves (omega arith)) at
              (base-within next.renewed course.moves are (length course.moves) (omega arith)) in
              inl (subst (λ ms. travelled more (base next.renewed ms) + setting.threshold next.renewed
              ≤ travelled more (suc (length course.moves))) (sym front) (omega (
                arith,
                reaches,
                travelled-step more (length course.moves) next
                    (slice_get-right course.moves (next ∷ []) (length course.moves) 0 (omega arith)),
                travelled-front course.moves next (length course.moves) (omega arith),
                travelled-front course.moves next (base next.renewed course.moves) low,
                gathered-is course.moves (base next.renewed course.moves),
              )))
          | inr none ↦ inr none
        ];
  }

  reach-push : AllReach setting course.start more
  reach-push i move h = elim (in-pushed course.moves next move i h) [
    | inl there ↦
        let low : suc i ≤ length course.moves = omega (arith, slice_get_within course.moves i move there) in
        let its = all i move there in
        let front : take i more ≡ take i course.moves = take-append-le i course.moves (next ∷ []) (omega (arith, low)) in
        let based : base move.renewed (take i course.moves) ≤ i =
        base-within move.renewed course.moves are i (omega (arith, low)) in record {
          goes = subst (λ n. move.to ≢ n) (sym (stop-kept course.start course.moves (next ∷ []) i (omega (arith, low))))
              its.goes;
          reached = elim its.reached [
            | inl passed ↦ inl (subst (λ ms. travelled more (base move.renewed ms) + setting.threshold move.renewed
                ≤ travelled more (suc i)) (sym front) (omega (
                  arith,
                  passed,
                  travelled-front course.moves next (suc i) low,
                  travelled-front course.moves next (base move.renewed (take i course.moves)) (omega (arith, based, low)),
                )))
            | inr none ↦ inr none
          ];
        }
    | inr last ↦
        subst (λ m. HasReached setting course.start more i m) last.1
        (subst (λ n. HasReached setting course.start more n next) (sym last.0) reach-next)
  ]

pub reach-steps : (setting : Setting) (course : Course) (steps : List Step)
    → AreInPlace setting course.start course.moves → MaySteps setting course steps
    → AllReach setting course.start course.moves
    → AllReach setting (after_steps setting course steps).start (after_steps setting course steps).moves
unfolding MaySteps
reach-steps setting course [] are may all = all
reach-steps setting course (move_to node ∷ steps) are may all =
    reach-steps setting (after_step setting course (move_to node)) steps (place-step setting course (move_to node) are may.0)
    may.1 (reach-push setting course node are
    (λ same. may.0.moving (same ∙ sym (stop-whole course.start course.moves))) all)
reach-steps setting course (switch_off ∷ steps) are may all =
    reach-steps setting (after_step setting course switch_off) steps are may.1 all
reach-steps setting course (switch_on ∷ steps) are may all =
    reach-steps setting (after_step setting course switch_on) steps are may.1 all

-- what a move has gathered, by how far it was
pub gathered-is-way : (moves : List Move) (i : ℕ) (move : Move) → move.number ≡ suc i
    → base move.renewed (take i moves) ≤ suc i
    → travelled moves (suc i) ≡ travelled moves (base move.renewed (take i moves)) + gathered_by moves move
gathered-is-way moves i move numbered low =
    let e : move.number - 1 ≡ i = omega (arith, numbered) in
    let b : ℕ = base move.renewed (take i moves) in
    let front : take b (take (suc i) moves) ≡ take b moves = take-take b (suc i) moves low in
    let its : gathered_by moves move ≡ sum_by (λ (m : Move). m.weight) (drop b (take (suc i) moves)) =
    ap (λ n. sum_by (λ (m : Move). m.weight) (drop (base move.renewed (take n moves)) (take move.number moves))) e
    ∙ ap (λ n. sum_by (λ (m : Move). m.weight) (drop b (take n moves))) numbered in
    ap (sum_by (λ (m : Move). m.weight)) (sym (take-append-drop b (take (suc i) moves)))
    ∙ (sum_by-append (λ (m : Move). m.weight) (take b (take (suc i) moves)) (drop b (take (suc i) moves))
    ∙ (ap (λ xs. sum_by (λ (m : Move). m.weight) xs + sum_by (λ (m : Move). m.weight) (drop b (take (suc i) moves))) front
    ∙ ap (λ n. travelled moves b + n) (sym its)))

-- sums of what is no more, one by one
pub sum-no-more : (f g : Move → ℕ) (xs : List Move)
    → ((i : ℕ) (move : Move) → slice_get xs i ≡ Some move → f move ≤ g move) → sum_by f xs ≤ sum_by g xs
sum-no-more f g [] each = omega arith
sum-no-more f g (x ∷ xs) each = omega (
  arith,
  each 0 x refl,
  sum-no-more f g xs (λ i move h. each (suc i) move h),
  sum_by-cons f x xs,
  sum_by-cons g x xs,
)

-- the greatest is no more than the sum
pub greatest-no-more : (setting : Setting) (g : Move → ℕ) (xs : List Move) (most : ℕ)
    → ((i : ℕ) (move : Move) → slice_get xs i ≡ Some move → setting.threshold move.renewed ≤ g move)
    → fold (λ most (move : Move). max most (setting.threshold move.renewed)) most xs ≤ most + sum_by g xs
greatest-no-more setting g [] most each = omega arith
greatest-no-more setting g (x ∷ xs) most each = omega (
  arith,
  each 0 x refl,
  greatest-no-more setting g xs (max most (setting.threshold x.renewed)) (λ i move h. each (suc i) move h),
  sum_by-cons g x xs,
)
