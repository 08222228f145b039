-- What is purged was passed since the purge before, so that no more is purged than moves are made.
use Rattle.std.proofs.Common.{◌≡◌, ◌⊎◌, inl, inr, ℕ, zero, suc, ◌+◌, ◌-◌, ◌<◌, ◌≤◌, Bool, true, false, cond, List, [], ◌∷◌, ◌++◌, length, map, drop, refl, sym, ap, ◌∙◌, subst, arith}
use Rattle.std.specs.Prelude.{◌==◌, ◌&&◌, ◌||◌, nat_le, not, count_by}
use Rattle.std.proofs.lemmas.Bool.Decides.{nat_tests}
use Rattle.std.proofs.lemmas.List.{append_assoc, append-nil, length-map, length-drop, length_push}
use Rattle.std.proofs.lemmas.List.Sums.{fold-append, sum_by-append}
use Rattle.node_set.specs.Ascending.{has, sift}
use Rattle.node_set.specs.SetLaws.{length-cond}
use Rattle.directory.specs.Settings.{Setting, start}
use Rattle.directory.specs.Courses.{Course, Move, Step, after_step, after_steps, base, course_at, move_to, next_move, switch_off, switch_on}
use Rattle.directory.specs.StepLaws.{highest-low, writes-more}
use Rattle.directory.specs.Writes.{mark_at, purge_writes, step_writes, trail, writes}
use Rattle.entry_word.specs.declared.mark.PresenceMark.TheVariants.{Empty}
use Rattle.move_cost.specs.Costs.{is_purge}
use Rattle.move_cost.specs.Pace.{PurgedIsBounded, PurgesAreCounted}
use Rattle.move_cost.proofs.Sums.{sum_from, sum-add, sum-le, sum-same}

-- how many of so many numbers from one on pass a test
sift-count : (test : ℕ → Bool) (first k : ℕ)
    → length (sift test first k) ≡ sum_from (λ i. cond (test i) 1 0) first k
sift-count test first zero = refl
sift-count test first (suc k) =
    omega (arith, length-cond (test first) first (sift test (suc first) k), sift-count test (suc first) k)

-- one number is there once, and not past itself
past-one : (x first k : ℕ) → x < first → sum_from (λ i. cond (i == x) 1 0) first k ≤ 0
past-one x first k past = omega (
  arith,
  sum-le (λ i. cond (i == x) 1 0) (λ i. 0) first k (λ i low high. other i x (omega (arith, past, low))),
  sum-same 0 first k,
)
  where
    other : (i x : ℕ) → x < i → cond (i == x) 1 0 ≤ 0
    other i x h = grind (arith, nat_tests)

count-one : (x first k : ℕ) → sum_from (λ i. cond (i == x) 1 0) first k ≤ 1
count-one x first zero = omega arith
count-one x first (suc k) =
    at_place (cases first x) (λ past. past-one x (suc first) k past) (count-one x (suc first) k)
  where
    cases : (a b : ℕ) → ((cond (a == b) 1 0 ≤ 1) × (b < suc a)) ⊎ (cond (a == b) 1 0 ≤ 0)
    cases a b = grind (arith, nat_tests)

    at_place : ((cond (first == x) 1 0 ≤ 1) × (x < suc first)) ⊎ (cond (first == x) 1 0 ≤ 0)
        → (x < suc first → sum_from (λ i. cond (i == x) 1 0) (suc first) k ≤ 0)
        → sum_from (λ i. cond (i == x) 1 0) (suc first) k ≤ 1
        → cond (first == x) 1 0 + sum_from (λ i. cond (i == x) 1 0) (suc first) k ≤ 1
    at_place (inl here) none later = omega (arith, here.0, none here.1)
    at_place (inr other) none later = omega (arith, other, later)

-- at most as many numbers are in a list as it is long
count-listed : (xs : List ℕ) (first k : ℕ) → sum_from (λ i. cond (has i xs) 1 0) first k ≤ length xs
count-listed [] first k = omega (arith, sum-same 0 first k)
count-listed (x ∷ xs) first k = omega (
  arith,
  sum-le (λ i. cond (has i (x ∷ xs)) 1 0) (λ i. cond (i == x) 1 0 + cond (has i xs) 1 0) first k
      (λ i low high. either (i == x) (has i xs)),
  sum-add (λ i. cond (i == x) 1 0) (λ i. cond (has i xs) 1 0) first k,
  count-one x first k,
  count-listed xs first k,
)
  where
    either : (a b : Bool) → cond (a || b) 1 0 ≤ cond a 1 0 + cond b 1 0
    either true b = omega arith
    either false b = omega arith

few-listed : (xs : List ℕ) (test : ℕ → Bool) (n : ℕ) → length (sift (λ i. has i xs && test i) 0 n) ≤ length xs
few-listed xs test n = omega (
  arith,
  sift-count (λ i. has i xs && test i) 0 n,
  sum-le (λ i. cond (has i xs && test i) 1 0) (λ i. cond (has i xs) 1 0) 0 n
      (λ i low high. both (has i xs) (test i)),
  count-listed xs 0 n,
)
  where
    both : (a b : Bool) → cond (a && b) 1 0 ≤ cond a 1 0
    both true true = omega arith
    both true false = omega arith
    both false b = omega arith

-- a course has purged so many marks: no more than moves before the top level's last renewal
record IsPurged (setting : Setting) (count : ℕ) (course : Course) : Type 0 where
  few : count ≤ base setting.top course.moves
  low : base setting.top course.moves ≤ length course.moves

-- what the last renewal of a level is after a move
abbrev pub BaseAfter : Type 0
BaseAfter = (level : ℕ) (moves : List Move) (move : Move) → base level (moves ++ move ∷ [])
    ≡ cond (nat_le level move.renewed) move.number (base level moves)

move-purged : BaseAfter → {setting : Setting} {count : ℕ} {course : Course} (node : ℕ) → IsPurged setting count course
    → IsPurged setting (count + length (purge_writes setting course (next_move setting course node)))
    (after_step setting course (move_to node))
move-purged base_law {setting} {course} node before =
    elim (cases move.renewed setting.top (highest-low _ setting.top)) [
      | inl (same, reached) ↦
          let marks : length (purge_writes setting course move) ≤ length (trail setting course move) =
          subst (λ b. length (cond b (map (λ n. mark_at n Empty) (sift kept 0 setting.nodes)) [])
          ≤ length (trail setting course move)) (sym same)
          (omega (
            arith,
            length-map (sift kept 0 setting.nodes) (λ n. mark_at n Empty),
            few-listed (trail setting course move) (λ n. not (n == node)) setting.nodes,
          )) in
          let passed : length (trail setting course move)
          ≡ suc (length course.moves) - base setting.top course.moves =
          length-map (drop (base setting.top course.moves) (course.moves ++ move ∷ [])) (λ (m : Move). m.from)
          ∙ (length-drop (base setting.top course.moves) (course.moves ++ move ∷ [])
          ∙ ap (λ n. n - base setting.top course.moves) grown) in
          let renewed : base setting.top (course.moves ++ move ∷ []) ≡ suc (length course.moves) =
          base_law setting.top course.moves move
          ∙ ap (λ b. cond b move.number (base setting.top course.moves)) reached in
          record {
            few = omega (arith, marks, passed, renewed, before.few, before.low);
            low = omega (arith, renewed, grown);
          }
      | inr (other, below) ↦
          let none : length (purge_writes setting course move) ≡ 0 =
          ap (λ b. length (cond b (map (λ n. mark_at n Empty) (sift kept 0 setting.nodes)) [])) other in
          let same : base setting.top (course.moves ++ move ∷ []) ≡ base setting.top course.moves =
          base_law setting.top course.moves move
          ∙ ap (λ b. cond b move.number (base setting.top course.moves)) below in
          record {
            few = omega (arith, none, same, before.few);
            low = omega (arith, same, grown, before.low);
          }
    ]
  where
    move : Move
    move = next_move setting course node

    kept : ℕ → Bool
    kept n = has n (trail setting course move) && not (n == node)

    grown : length (course.moves ++ move ∷ []) ≡ suc (length course.moves)
    grown = length_push course.moves move ∙ omega arith

    cases : (renewed top : ℕ) → renewed ≤ top
        → (((renewed == top) ≡ true) × (nat_le top renewed ≡ true))
        ⊎ (((renewed == top) ≡ false) × (nat_le top renewed ≡ false))
    cases renewed top h = grind (arith, nat_tests)

-- the purges of one step more
pub purges-more : (setting : Setting) (course : Course) (steps : List Step) (step : Step)
    → count_by is_purge (writes setting course (steps ++ step ∷ []))
    ≡ count_by is_purge (writes setting course steps)
    + count_by is_purge (step_writes setting (after_steps setting course steps) step)
purges-more setting course steps step =
    grind (arith, writes-more, sum_by-append)

step-purged : PurgesAreCounted → BaseAfter → {setting : Setting} {count : ℕ} {course : Course} (step : Step)
    → IsPurged setting count course → IsPurged setting (count + count_by is_purge (step_writes setting course step))
    (after_step setting course step)
step-purged counted base_law {setting} {count} {course} (move_to node) before =
    subst (λ n. IsPurged setting (count + n) (after_step setting course (move_to node)))
    (sym (counted setting course node)) (move-purged base_law node before)
step-purged counted base_law switch_off before =
    record { few = omega (arith, before.few); low = before.low }
step-purged counted base_law switch_on before =
    record { few = omega (arith, before.few); low = before.low }

steps-purged : PurgesAreCounted → BaseAfter → {setting : Setting} (start : Course) (done later : List Step)
    → IsPurged setting (count_by is_purge (writes setting start done)) (after_steps setting start done)
    → IsPurged setting (count_by is_purge (writes setting start (done ++ later)))
    (after_steps setting start (done ++ later))
steps-purged counted base_law {setting} start done [] before =
    grind (arith, append-nil)
steps-purged counted base_law {setting} start done (step ∷ later) before =
    subst (λ ss. IsPurged setting (count_by is_purge (writes setting start ss)) (after_steps setting start ss))
    (append_assoc done (step ∷ []) later)
    (steps-purged counted base_law start (done ++ step ∷ []) later
    (subst (λ n. IsPurged setting n (after_steps setting start (done ++ step ∷ [])))
    (sym (purges-more setting start done step)) (subst (IsPurged setting
    (count_by is_purge (writes setting start done) + count_by is_purge
    (step_writes setting (after_steps setting start done) step)))
    (sym (fold-append (after_step setting) start done (step ∷ []))) (step-purged counted base_law step before))))

pub purged-bounded : PurgesAreCounted → BaseAfter → PurgedIsBounded
unfolding writes
purged-bounded counted base_law setting sub steps =
    let all : IsPurged setting (count_by is_purge (writes setting (course_at (start setting sub)) steps))
    (after_steps setting (course_at (start setting sub)) steps) =
    steps-purged counted base_law (course_at (start setting sub)) [] steps
    (record { few = omega arith; low = omega arith }) in
    omega (arith, all.few, all.low)
