-- A sum over the writes of a move, part by part: what they weigh, and how many of them are purges.
use Rattle.std.proofs.Common.{◌≡◌, ℕ, suc, ◌+◌, ◌*◌, Bool, true, false, cond, List, [], ◌∷◌, ◌++◌, length, map, refl, ap, ◌∙◌, arith}
use Rattle.std.specs.Prelude.{◌==◌, None, filter, sum_by}
use Rattle.std.proofs.lemmas.List.{append-nil}
use Rattle.std.proofs.lemmas.List.Elements.{filter-append}
use Rattle.std.proofs.lemmas.List.Sums.{sum_by-append, sum_by-cons}
use Rattle.entry_word.specs.declared.mark.PresenceMark.TheVariants.{Empty, Here, Gone, Coming}
use Rattle.directory.specs.Settings.{Setting}
use Rattle.directory.specs.Courses.{Course, Move, next_move}
use Rattle.directory.specs.Writes.{Write, entry_at, erasure_writes, mark_at, move_writes, new_address, numbers_from, old_home, purge_writes}
use Rattle.move_cost.specs.Costs.{erased_levels, is_erasure, is_purge, write_weight}
use Rattle.move_cost.specs.Pace.{ErasuresAreWritten, MoveWeighs, PurgesAreCounted}
use Rattle.move_cost.proofs.Sums.{sum-mapped, sum-none}
use Rattle.directory.specs.StepLaws.{last_stop-moved}

module _ (setting : Setting) (course : Course) (move : Move) where
  -- the parts of a sum over the writes of a move
  pub parts-of-sum : (f : Write → ℕ) → sum_by f (move_writes setting course move)
      ≡ f (mark_at move.to (Coming move.number move.from))
      + (sum_by (λ level. f (new_address setting move level)) (numbers_from 0 (suc move.renewed))
      + (f (mark_at move.from (Gone move.number move.to)) + (f (mark_at move.to (Here move.number))
      + (sum_by (λ level. f (entry_at level (old_home setting course level) None)) (erased_levels setting course move)
      + sum_by f (purge_writes setting course move)))))
  parts-of-sum f =
      let new : List Write = map (new_address setting move) (numbers_from 0 (suc move.renewed)) in
      let old : List Write = erasure_writes setting course move in
      let late : List Write = purge_writes setting course move in
      omega (
        arith,
        sum_by-cons f (mark_at move.to (Coming move.number move.from)) (new ++ (mark_at move.from
            (Gone move.number move.to) ∷ (mark_at move.to (Here move.number) ∷ (old ++ late)))),
        sum_by-append f new (mark_at move.from (Gone move.number move.to) ∷ (mark_at move.to (Here move.number) ∷ (old
            ++ late))),
        sum_by-cons f (mark_at move.from (Gone move.number move.to)) (mark_at move.to (Here move.number) ∷ (old ++
            late)),
        sum_by-cons f (mark_at move.to (Here move.number)) (old ++ late),
        sum_by-append f old late,
        sum-mapped f (new_address setting move) (numbers_from 0 (suc move.renewed)),
        sum-mapped f (λ level. entry_at level (old_home setting course level) None)
            (erased_levels setting course move),
      )

  -- each purge has this weight
  pub sum-of-purges : (f : Write → ℕ) (w : ℕ) → ((node : ℕ) → f (mark_at node Empty) ≡ w)
      → sum_by f (purge_writes setting course move) ≡ length (purge_writes setting course move) * w
  sum-of-purges f w each = at_test (move.renewed == setting.top) _
    where
      all : (xs : List ℕ) → sum_by f (map (λ node. mark_at node Empty) xs)
          ≡ length (map (λ node. mark_at node Empty) xs) * w
      all [] = omega arith
      all (x ∷ xs) =
          let e : suc (length (map (λ node. mark_at node Empty) xs)) * w
          ≡ w + length (map (λ node. mark_at node Empty) xs) * w = omega arith in
          omega (arith, sum_by-cons f (mark_at x Empty) (map (λ node. mark_at node Empty) xs), each x, all xs, e)

      at_test : (b : Bool) (xs : List ℕ) → sum_by f (cond b (map (λ node. mark_at node Empty) xs) [])
          ≡ length (cond b (map (λ node. mark_at node Empty) xs) []) * w
      at_test true xs = all xs
      at_test false xs = omega arith

pub move-weighs : MoveWeighs
move-weighs setting course node =
    let move : Move = next_move setting course node in
    let f : Write → ℕ = write_weight setting node in
    ap (λ (to : ℕ). sum_by (write_weight setting to) (move_writes setting course move))
    (last_stop-moved setting course node)
    ∙ omega (
      arith,
      parts-of-sum setting course move f,
      sum-of-purges setting course move f 0 (λ n. refl),
    )

pub purges-counted : PurgesAreCounted
purges-counted setting course node =
    let move : Move = next_move setting course node in
    let f : Write → ℕ = λ x. cond (is_purge x) 1 0 in
    omega (
      arith,
      parts-of-sum setting course move f,
      sum-of-purges setting course move f 1 (λ n. refl),
      sum-none (numbers_from 0 (suc move.renewed)),
      sum-none (erased_levels setting course move),
    )

pub erasures-written : ErasuresAreWritten
erasures-written setting course node =
    let move : Move = next_move setting course node in
    let new : List Write = map (new_address setting move) (numbers_from 0 (suc move.renewed)) in
    let old : List Write = erasure_writes setting course move in
    let late : List Write = purge_writes setting course move in
    filter-append is_erasure new (mark_at move.from (Gone move.number move.to) ∷ (mark_at move.to (Here move.number)
    ∷ (old ++ late)))
    ∙ (ap (λ ws. ws ++ filter is_erasure (old ++ late)) (none_new (numbers_from 0 (suc move.renewed)))
    ∙ (filter-append is_erasure old late
    ∙ (ap (λ ws. filter is_erasure old ++ ws) (none_late (move.renewed == setting.top) _)
    ∙ (ap (λ ws. ws ++ []) (all_old (erased_levels setting course move)) ∙ append-nil old))))
  where
    none_new : (xs : List ℕ) → filter is_erasure (map (new_address setting (next_move setting course node)) xs) ≡ []
    none_new [] = refl
    none_new (x ∷ xs) = none_new xs

    all_late : (xs : List ℕ) → filter is_erasure (map (λ n. mark_at n Empty) xs) ≡ []
    all_late [] = refl
    all_late (x ∷ xs) = all_late xs

    none_late : (b : Bool) (xs : List ℕ) → filter is_erasure (cond b (map (λ n. mark_at n Empty) xs) []) ≡ []
    none_late true xs = all_late xs
    none_late false xs = refl

    all_old : (xs : List ℕ) → filter is_erasure (map (λ level. entry_at level (old_home setting course level) None) xs)
        ≡ map (λ level. entry_at level (old_home setting course level) None) xs
    all_old [] = refl
    all_old (x ∷ xs) = ap (λ ws. entry_at x (old_home setting course x) None ∷ ws) (all_old xs)
