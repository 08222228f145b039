-- What finds that follow one another weigh in all.
use Rattle.std.proofs.Common.{◌≡◌, inl, inr, ℕ, zero, suc, ◌+◌, ◌*◌, ◌<◌, ◌≤◌, ◌^◌, true, cond, List, [], ◌∷◌, ◌++◌, length, take, drop, sym, ap, ◌∙◌, subst, arith}
use Rattle.std.specs.Prelude.{nat_le, sum_by}
use Rattle.std.proofs.Math.Nat.{mul-le-mul_left}
use Rattle.std.proofs.lemmas.Bool.{cases_eq}
use Rattle.std.proofs.lemmas.Bool.Decides.{nat_tests}
use Rattle.std.proofs.lemmas.List.{take-append-drop, take-take, take_all}
use Rattle.std.proofs.lemmas.List.Sums.{sum_by-append, sum_by-cons, sum_by_push}
use Rattle.directory.specs.Settings.{levels, Setting, start}
use Rattle.directory.specs.Courses.{base, Move}
use Rattle.directory.specs.Finds.{found_weight}
use Rattle.directory.specs.Histories.{before, History}
use Rattle.directory.specs.Legal.{IsLegal}
use Rattle.directory.specs.Looks.{first_of, last_of}
use Rattle.directory.specs.Standing.{number}
use Rattle.directory.specs.StepLaws.{slice_get-within, take-more}
use Rattle.region_plan.specs.Measures.{degree_of}
use Rattle.region_plan.specs.Plan.{levels_of}
use Rattle.region_plan.specs.Settings.{setting_of}
use Rattle.stretch_laws.specs.Plans.{PlansTrack}
use Rattle.stretch_laws.specs.Tracking.{IsTracking, stretch}
use Rattle.busy_finds.specs.Altogether.{AreInTurn, distance_before, distance_in_all, FindsInTurnAreBounded, MadeFind, passage_before, passages_in_all, weigh_in_all}
use Rattle.busy_finds.specs.Plans.{PlanFindsInTurnAreBounded}
use Rattle.busy_finds.specs.Prices.{EveryFindIsBounded, gathered_by, gathered_within, GathersHalf, weight_of}
use Rattle.busy_finds.specs.Within.{moves_of}
use Rattle.busy_finds.proofs.Bounded.{and-one, gather-half}
use Rattle.busy_finds.proofs.Fronts.{moves-in-place, number-more}
use Rattle.busy_finds.proofs.Gathered.{gathered-is-way}
use Rattle.busy_finds.proofs.Moves.{AreInPlace, base-grows, base-more, base-within}
use Rattle.busy_finds.proofs.ByStretch.{in-order}
use Rattle.busy_finds.proofs.Sums.{travelled, travelled-more}

-- a sum over the numbers below one
sum_below : (ℕ → ℕ) → ℕ → ℕ
sum_below f zero = 0
sum_below f (suc count) = sum_below f count + f count

sum-below-more : (f g : ℕ → ℕ) (count : ℕ) → ((i : ℕ) → i < count → f i ≤ g i) → sum_below f count ≤ sum_below g count
unfolding sum_below
sum-below-more f g zero each = omega arith
sum-below-more f g (suc count) each =
    omega (arith, each count (omega arith), sum-below-more f g count (λ i low. each i (omega (arith, low))))

-- one of them is more by so much
sum-below-one : (f g : ℕ → ℕ) (count k d : ℕ) → ((i : ℕ) → i < count → f i ≤ g i) → k < count → f k + d ≤ g k
    → sum_below f count + d ≤ sum_below g count
unfolding sum_below
sum-below-one f g zero k d each low more = absurd (omega (arith, low))
sum-below-one f g (suc count) k d each low more = elim (cases_eq k count) [
  | inl same ↦ omega (
    arith,
    sum-below-more f g count (λ i below. each i (omega (arith, below))),
    ap f same,
    ap g same,
    more,
  )
  | inr apart ↦ omega (
    arith,
    sum-below-one f g count k d (λ i below. each i (omega (arith, below))) (omega (arith, low, apart)) more,
    each count (omega arith),
  )
]

sum-below-most : (f : ℕ → ℕ) (count most : ℕ) → ((i : ℕ) → i < count → f i ≤ most) → sum_below f count ≤ count * most
unfolding sum_below
sum-below-most f zero most each = omega arith
sum-below-most f (suc count) most each = omega (
  arith,
  each count (omega arith),
  sum-below-most f count most (λ i low. each i (omega (arith, low))),
  (let e : suc count * most ≡ count * most + most = grind arith in e),
)

module _ (setting : Setting) (begin : ℕ) (moves : List Move) (are : AreInPlace setting begin moves) where
  -- what the first moves gathered, and how far the last renewals of the levels were
  abbrev gathered_first : ℕ → ℕ
  gathered_first n = sum_by (gathered_by moves) (take n moves)

  abbrev renewals : ℕ → ℕ → ℕ
  renewals n level = travelled moves (base level (take n moves))

  -- what moves gather is spent at renewals
  spent-at-renewals : (n : ℕ) → n ≤ length moves → gathered_first n ≤ sum_below (renewals n) (levels setting)
  spent-at-renewals zero low = omega arith
  spent-at-renewals (suc n) low =
      let found = slice_get-within moves n (omega arith) in
      let its = are.each n found.0 found.1 in
      let more : take (suc n) moves ≡ take n moves ++ found.0 ∷ [] = take-more moves n found.0 found.1 in
      let based : base found.0.renewed (take n moves) ≤ n = base-within found.0.renewed moves are n (omega arith) in
      let way : travelled moves (suc n) ≡ travelled moves (base found.0.renewed (take n moves))
      + gathered_by moves found.0 = gathered-is-way moves n found.0 its.its_number (omega (arith, based)) in
      let renews : base found.0.renewed (take (suc n) moves) ≡ suc n =
      ap (base found.0.renewed) more ∙ (base-more found.0.renewed (take n moves) found.0
      ∙ (ap (λ b. cond b found.0.number (base found.0.renewed (take n moves)))
      (let e : nat_le found.0.renewed found.0.renewed ≡ true = grind (arith, nat_tests) in e) ∙ its.its_number)) in
      omega (
        arith,
        ap (sum_by (gathered_by moves)) more ∙ sum_by_push (gathered_by moves) (take n moves) found.0,
        spent-at-renewals n (omega arith),
        sum-below-one (renewals n) (renewals (suc n)) (levels setting) found.0.renewed (gathered_by moves found.0)
            (λ i below. travelled-more moves (base i (take n moves)) (base i (take (suc n) moves))
            (base-grows i moves are n (suc n) (omega arith) low))
            (omega (arith, its.low)) (omega (arith, way, ap (travelled moves) renews)),
      )

  pub gathered-in-all : gathered_first (length moves) ≤ levels setting * weight_of moves
  gathered-in-all = omega (
    arith,
    spent-at-renewals (length moves) (omega arith),
    sum-below-most (renewals (length moves)) (levels setting) (weight_of moves) (λ i below. omega (
      arith,
      travelled-more moves (base i (take (length moves) moves)) (length moves)
          (base-within i moves are (length moves) (omega arith)),
      ap (sum_by (λ (m : Move). m.weight)) (take_all (length moves) moves (omega arith)),
    )),
  )

-- sums of first elements
pub sum-front : (f : Move → ℕ) (xs : List Move) (n m : ℕ) → n ≤ m
    → sum_by f (take m xs) ≡ sum_by f (take n xs) + sum_by f (drop n (take m xs))
sum-front f xs n m h =
    ap (sum_by f) (sym (take-append-drop n (take m xs)))
    ∙ (sum_by-append f (take n (take m xs)) (drop n (take m xs))
    ∙ ap (λ ys. sum_by f ys + sum_by f (drop n (take m xs))) (take-take n m xs h))

shares : (c a b d e : ℕ) → c * (a + b) + c * (d + e) ≡ c * (a + d + (b + e))
shares c a b d e = grind arith

module _ (bounded : EveryFindIsBounded) (setting : Setting) (width most_readers : ℕ)
    (history : History) (sub : ℕ) (few : setting.nodes ≤ 2 ^ 16) (tracking : IsTracking setting width most_readers)
    (half : GathersHalf setting) (legal : IsLegal setting sub history) where
  abbrev its : List Move
  its = moves_of setting sub history

  abbrev gathers : MadeFind → ℕ
  gathers find = gathered_within setting sub history (first_of find.tickets) (last_of find.tickets)

  abbrev spent : ℕ → ℕ
  spent t = sum_by (gathered_by its) (take (number sub (before t history)) its)

  -- each find is charged with what is gathered within it
  charged : (earliest : ℕ) (finds : List MadeFind) → AreInTurn setting history sub earliest finds
      → weigh_in_all finds ≤ (stretch width most_readers + 1)
      * (distance_in_all setting history finds + sum_by gathers finds) + 2 * passages_in_all setting history finds
  charged earliest [] turns = omega arith
  charged earliest (find ∷ later) (same, inside, is, since, turns) =
      let c : ℕ = stretch width most_readers + 1 in
      let one : found_weight find.found ≤ c * (distance_before setting history find
      + gathered_within setting find.call.sub history (first_of find.tickets) (last_of find.tickets))
      + 2 * passage_before setting history find =
      bounded setting width most_readers history find.actor find.call find.found find.tickets (first_of find.tickets) few
      tracking half inside (subst (λ s. IsLegal setting s history) (sym same) legal) is (omega arith) (in-order is) in
      omega (
        arith,
        subst (λ s. found_weight find.found ≤ c * (distance_before setting history find
            + gathered_within setting s history (first_of find.tickets) (last_of find.tickets))
            + 2 * passage_before setting history find) same one,
        charged (last_of find.tickets) later turns,
        sum_by-cons (λ (f : MadeFind). found_weight f.found) find later,
        sum_by-cons (distance_before setting history) find later,
        sum_by-cons (passage_before setting history) find later,
        ap (λ n. c * n) (sum_by-cons gathers find later),
        shares c (distance_before setting history find) (gathers find) (distance_in_all setting history later)
            (sum_by gathers later),
        ap (λ n. c * (n + (gathers find + sum_by gathers later))) (sum_by-cons (distance_before setting history) find later),
        ap (λ n. c * (distance_in_all setting history (find ∷ later) + n)) (sum_by-cons gathers find later),
      )

  -- and no move is charged twice
  once : (earliest : ℕ) (finds : List MadeFind) → AreInTurn setting history sub earliest finds
      → spent earliest + sum_by gathers finds ≤ sum_by (gathered_by its) its
  once earliest [] turns = omega (
    arith,
    ap (sum_by (gathered_by its)) (take-append-drop (number sub (before earliest history)) its),
    sum_by-append (gathered_by its) (take (number sub (before earliest history)) its)
        (drop (number sub (before earliest history)) its),
  )
  once earliest (find ∷ later) (same, inside, is, since, turns) = omega (
    arith,
    once (last_of find.tickets) later turns,
    sum_by-cons gathers find later,
    sum-front (gathered_by its) its (number sub (before earliest history)) (number sub (before (first_of find.tickets) history))
        (number-more sub earliest (first_of find.tickets) history since),
    sum-front (gathered_by its) its (number sub (before (first_of find.tickets) history))
        (number sub (before (last_of find.tickets) history))
        (number-more sub (first_of find.tickets) (last_of find.tickets) history (in-order is)),
  )

  pub in-turn-bounded : (finds : List MadeFind) → AreInTurn setting history sub 0 finds
      → weigh_in_all finds ≤ (stretch width most_readers + 1)
      * (distance_in_all setting history finds + levels setting * weight_of its) + 2 * passages_in_all setting history finds
  in-turn-bounded finds turns =
      let all : sum_by (gathered_by its) its ≤ levels setting * weight_of its =
      subst (λ ms. sum_by (gathered_by its) ms ≤ levels setting * weight_of its) (take_all (length its) its (omega arith))
      (gathered-in-all setting (start setting sub) its (moves-in-place history legal)) in
      let low : distance_in_all setting history finds + sum_by gathers finds
      ≤ distance_in_all setting history finds + levels setting * weight_of its = omega (arith, all, once 0 finds turns) in
      omega (arith, charged 0 finds turns, mul-le-mul_left (stretch width most_readers + 1) low)

pub finds-in-turn : EveryFindIsBounded → FindsInTurnAreBounded
finds-in-turn bounded setting width most_readers history sub finds few tracking half legal turns =
    in-turn-bounded bounded setting width most_readers history sub few tracking half legal finds turns

pub plan-in-turn : PlansTrack → FindsInTurnAreBounded → PlanFindsInTurnAreBounded
plan-in-turn tracks all plan starts history sub finds few bounds legal turns =
    let whole : levels (setting_of plan starts) ≡ levels_of plan = omega (arith, bounds.matched.some) in
    omega (
      arith,
      subst (λ n. weigh_in_all finds ≤ (stretch plan.reach (degree_of plan) + 1)
          * (distance_in_all (setting_of plan starts) history finds
          + n * weight_of (moves_of (setting_of plan starts) sub history))
          + 2 * passages_in_all (setting_of plan starts) history finds) whole
          (all (setting_of plan starts) plan.reach (degree_of plan) history sub finds few (tracks plan starts bounds)
          (gather-half plan starts bounds) legal turns),
      and-one (degree_of plan) plan.reach (distance_in_all (setting_of plan starts) history finds
          + levels_of plan * weight_of (moves_of (setting_of plan starts) sub history)),
    )
