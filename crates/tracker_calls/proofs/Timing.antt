-- Where a handset is in its move: until the commit its stage tells how many puts are made.
use Rattle.std.proofs.Common.{◌≡◌, ℕ, suc, ◌-◌, ◌<◌, ◌≤◌, Bool, true, false, true≢false, List, [], ◌∷◌, ◌++◌, Option, Some, None, length, refl, sym, ap, ◌∙◌, arith, length-append}
use Rattle.std.specs.Prelude.{slice_index, if◌then◌else◌}
use Rattle.std.proofs.lemmas.List.{get_or_append_left, get_or_push}
use Rattle.std.proofs.lemmas.Bool.Decides.{nat_tests}
use Rattle.directory.specs.Courses.{Move}
use Rattle.directory.specs.Settings.{Setting}
use Rattle.directory.specs.Writes.{commit_place}
use Rattle.handset.specs.Beginning.{begin_move, is_rest, journey_to}
use Rattle.handset.specs.Condition.{HandsetData, IsMoveStage}
use Rattle.handset.specs.StepWrites.{after_write, erasing_at, first_with, go_on, is_behind, purging_at}
use Rattle.handset.specs.declared.stage.Stage.{Stage}
use Rattle.handset.specs.declared.stage.Stage.TheVariants.{Resting, Coming, Renewing, Committing, Confirming, Erasing, Purging, Switching}

-- whether a move is under way that isn't committed, and how many puts of it are then made
abbrev pub is_early : Stage → Bool
is_early Coming = true
is_early (Renewing level) = true
is_early Committing = true
is_early stage = false

abbrev pub place_of : Move → Stage → ℕ
place_of move (Renewing level) = suc level
place_of move Committing = commit_place move
place_of move stage = 0

-- the number of a handset and the ticket of its commit, when puts of a move are made
abbrev pub IsEarly : Move → ℕ → HandsetData → Stage → List ℕ → Type 0
IsEarly move number handset stage made = (length made ≡ place_of move stage) × (handset.number ≡ number)

abbrev pub IsLate : Move → ℕ → HandsetData → List ℕ → ℕ → Type 0
IsLate move number handset made commit =
    (commit ≡ slice_index made (commit_place move)) × (commit_place move < length made)
    × (handset.number ≡ suc number)

pub record IsTimed (move : Move) (number : ℕ) (handset : HandsetData) (made : List ℕ) (commit : ℕ) : Type 0 where
  pub last : handset.last ≡ move
  pub early : is_early handset.stage ≡ true → IsEarly move number handset handset.stage made
  pub late : is_early handset.stage ≡ false → IsLate move number handset made commit

-- behind the commit a handset stays there
late-purging : (o : Option ℕ) → is_early (purging_at o) ≡ false
late-purging None = refl
late-purging (Some node) = refl

late-erasing : (setting : Setting) (handset : HandsetData) (o : Option ℕ)
    → is_early (erasing_at setting handset o) ≡ false
late-erasing setting handset None = grind (arith, late-purging (first_with (is_behind handset) 0 (setting.nodes - 0)))
late-erasing setting handset (Some level) = refl

-- behind the commit, what a put leaves of it
abbrev Stays : HandsetData → HandsetData → Type 0
Stays old new = (new.last ≡ old.last) × (new.number ≡ old.number) × (is_early new.stage ≡ false)

stays-on : (setting : Setting) (handset : HandsetData) (stage : Stage) → is_early stage ≡ false
    → Stays handset (go_on setting handset stage)
stays-on setting handset Resting late = (refl, refl, refl)
stays-on setting handset stage late = grind arith

late-timed : {move : Move} (number : ℕ) (handset after : HandsetData) (made : List ℕ) (commit ticket : ℕ)
    → handset.last ≡ move → IsLate move number handset made commit → Stays handset after
    → IsTimed move number after (made ++ ticket ∷ []) commit
late-timed {move} number handset after made commit ticket last late stays =
    record {
      last = stays.0 ∙ last;
      early = λ e. absurd (true≢false (sym e ∙ stays.2));
      late = λ e. grind (arith, late, get_or_append_left, length-append);
    }

-- before the first put
pub timed-first : (setting : Setting) (from : HandsetData) (to : ℕ)
    → IsTimed (journey_to setting from to) from.number (begin_move setting from to) [] 0
timed-first setting from to = record { last = refl; early = λ e. (refl, refl); late = λ e. cc }

-- one put more
timed-by : (setting : Setting) (nodes : ℕ) {move : Move} {number : ℕ} (handset : HandsetData) (made : List ℕ)
    (commit ticket : ℕ) → move.number ≡ suc number → handset.last ≡ move → (stage : Stage)
    → IsMoveStage nodes handset.last stage → is_rest stage ≡ false
    → (is_early stage ≡ true → IsEarly move number handset stage made)
    → (is_early stage ≡ false → IsLate move number handset made commit)
    → IsTimed move number (after_write setting handset stage) (made ++ ticket ∷ [])
    (if is_early stage then ticket else commit)
timed-by setting nodes handset made commit ticket next last Resting within busy early late = cc
timed-by setting nodes handset made commit ticket next last Coming within busy early late =
    grind (arith, early refl, length-append made (ticket ∷ []))
timed-by setting nodes {move} {number} handset made commit ticket next last (Renewing level) within busy early late =
    grind (arith, nat_tests, early refl, length-append made (ticket ∷ []), ap (λ (m : Move). m.renewed) last)
timed-by setting nodes {move} handset made commit ticket next last Committing within busy early late =
    grind (arith, get_or_push, early, length-append, last)
timed-by setting nodes {number} handset made commit ticket next last Confirming within busy early late =
    search (late-timed, last, late, stays-on, late-erasing)
timed-by setting nodes {number} handset made commit ticket next last (Erasing level) within busy early late =
    search (late-timed, last, late, stays-on, late-erasing)
timed-by setting nodes {number} handset made commit ticket next last (Purging node) within busy early late =
    search (late-timed, last, late, stays-on, late-purging)
timed-by setting nodes {number} handset made commit ticket next last (Switching off) within busy early late =
    late-timed number handset _ made commit ticket last (late refl) (refl, refl, refl)

-- the same, by what is told of the stage
pub timed-as : (setting : Setting) (nodes : ℕ) {move : Move} {number : ℕ} {handset : HandsetData} {made : List ℕ}
    {commit : ℕ} (ticket : ℕ) → move.number ≡ suc number → IsMoveStage nodes handset.last handset.stage
    → is_rest handset.stage ≡ false → IsTimed move number handset made commit → {b : Bool} → is_early handset.stage ≡ b
    → IsTimed move number (after_write setting handset handset.stage) (made ++ ticket ∷ [])
    (if b then ticket else commit)
timed-as setting nodes {move} {number} {handset} {made} {commit} ticket next within busy timed is =
    rw (← is)
    (timed-by setting nodes handset made commit ticket next timed.last handset.stage within busy timed.early timed.late)

-- the put whose number is one more is the commit
pub timed-next : (setting : Setting) (nodes : ℕ) {move : Move} {number : ℕ} {handset : HandsetData} {made : List ℕ}
    {commit : ℕ} (ticket : ℕ) → move.number ≡ suc number → IsMoveStage nodes handset.last handset.stage
    → is_rest handset.stage ≡ false → IsTimed move number handset made commit → (commits : Bool)
    → (after_write setting handset handset.stage).number ≡ (if commits then suc handset.number else handset.number)
    → IsTimed move number (after_write setting handset handset.stage) (made ++ ticket ∷ [])
    (if commits then ticket else commit)
timed-next setting nodes {move} {number} {handset} {made} {commit} ticket next within busy timed =
    go (is_early handset.stage) refl
  where
    after : HandsetData
    after = after_write setting handset handset.stage

    by : (b : Bool) → is_early handset.stage ≡ b
        → IsTimed move number after (made ++ ticket ∷ []) (if b then ticket else commit)
    by b is = timed-as setting nodes ticket next within busy timed is

    low : (commit : ℕ) → IsTimed move number after (made ++ ticket ∷ []) commit → (b : Bool)
        → is_early after.stage ≡ b → after.number ≤ suc number
    low commit t b e = grind (arith, t.early, t.late)

    go : (b : Bool) → is_early handset.stage ≡ b → (commits : Bool)
        → after.number ≡ (if commits then suc handset.number else handset.number)
        → IsTimed move number after (made ++ ticket ∷ []) (if commits then ticket else commit)
    go true is true counted = by true is
    go true is false counted =
        let t = by true is in
        record {
          last = t.last;
          early = t.early;
          late = λ e. absurd (omega (arith, counted, (timed.early is).1, (t.late e).2));
        }
    go false is false counted = by false is
    go false is true counted = absurd (omega (
      arith,
      counted,
      (timed.late is).2,
      low commit (by false is) (is_early after.stage) refl,
    ))
