-- Short facts of tests and of lists that the proofs share: what a checker's test says where the
-- parts are what they should be.
use Rattle.std.proofs.Common.{◌≡◌, ℕ, zero, suc, ◌+◌, ◌*◌, ◌<◌, ◌≤◌, ◌==◌, ◌&&◌, ◌||◌, Bool, true, false, not, eqb, leb, ltb, cond, List, [], ◌∷◌, take, map, Option, Some, None, refl, ap, ◌∙◌, arith}
use Rattle.std.specs.Prelude.{slice_get, slice_index}
use Rattle.std.specs.List.{list_any}
use Rattle.std.proofs.lemmas.Bool.Decides.{nat_tests}
use Rattle.directory.specs.Finds.{FindCall}
use Rattle.directory.specs.Orders.{Answer}
use Rattle.directory.specs.Outcomes.{answer_line, found_line}
use Rattle.directory.specs.Standing.{number}
use Rattle.directory.specs.declared.answers.Done.{Done}
use Rattle.directory.specs.declared.answers.Found.{Found}
use Rattle.directory.specs.declared.answers.Found.TheVariants.{At}
use Rattle.report_check.specs.Parts.{is_switch_at, next_ticket, open_passage, told_before, unconfirmed}

pub same-true : (a b : ℕ) → a ≡ b → (a == b) ≡ true
same-true a b e = grind (arith, nat_tests)

pub lt-true : (n m : ℕ) → n < m → ltb n m ≡ true
lt-true n m e = grind (arith, nat_tests)

-- ---- no line of a find is that of a switch

pub found-no-switch : (t caller : ℕ) (call : FindCall) (found : Found) (first last : ℕ)
    → is_switch_at t (found_line caller call found first last) ≡ false
found-no-switch t caller call (At node number level weight) first last = refl
found-no-switch t caller call _ first last = refl

pub finds-no-switch : (t caller : ℕ) (seen : List ℕ) (answers : List Answer)
    → list_any (is_switch_at t) (map (answer_line caller seen) answers) ≡ false
finds-no-switch t caller seen [] = refl
finds-no-switch t caller seen (answer ∷ answers) =
    ap (λ b. b || list_any (is_switch_at t) (map (answer_line caller seen) answers))
    (found-no-switch t caller answer.call answer.found (slice_index seen answer.first) (slice_index seen answer.last))
    ∙ finds-no-switch t caller seen answers

-- what is told is a node, a number and a state
pub told-true : (off : Bool) (n node q number : ℕ) (o : Bool) → n ≡ node → q ≡ number → o ≡ off
    → (eqb n node && (eqb q number && cond off o (not o))) ≡ true
told-true off n node q number o a b c = grind (arith, nat_tests)

pub get-take : {A : Type 0} (xs : List A) (k i : ℕ) → i < k → slice_get (take k xs) i ≡ slice_get xs i
get-take xs zero i low = absurd (omega (arith, low))
get-take [] (suc k) i low = refl
get-take (x ∷ xs) (suc k) zero low = refl
get-take (x ∷ xs) (suc k) (suc i) low = get-take xs k i (omega (arith, low))

-- ---- the open passage

-- the weight of the passage that is open at a ticket, by the weight of the last move
abbrev pub open_by : List ℕ → ℕ → ℕ → ℕ → Option ℕ → ℕ
open_by order sub last weight None = 0
open_by order sub last weight (Some commit) = unconfirmed last weight (next_ticket order sub (Some commit))

pub open-same : (homes order : List ℕ) (lines : List Done) (sub last : ℕ) (commit : Option ℕ)
    → open_passage order sub last (told_before homes lines sub last) commit
    ≡ open_by order sub last (told_before homes lines sub last).weight commit
open-same homes order lines sub last None = refl
open-same homes order lines sub last (Some commit) = refl

pub at-most : (b : Bool) (d : ℕ) → cond b 0 d ≤ d
at-most true d = omega arith
at-most false d = omega arith

pub still-open : (last weight confirm : ℕ) → last < confirm → unconfirmed last weight (Some confirm) ≡ weight
still-open last weight confirm low = grind (arith, nat_tests)

pub both-same : (a b : ℕ) → (eqb a a && eqb b b) ≡ true
both-same a b = grind (arith, nat_tests)

pub light : (stretch distance paid still weight : ℕ) → weight ≤ stretch * distance + 2 * paid → paid ≤ still
    → leb weight (stretch * distance + 2 * still) ≡ true
light stretch distance paid still weight most le =
    small weight (stretch * distance) paid still most le
  where
    small : (w a p q : ℕ) → w ≤ a + 2 * p → p ≤ q → leb w (a + 2 * q) ≡ true
    small w a p q h k = let m : w ≤ a + 2 * q = omega (arith, h, k) in grind (arith, nat_tests)

pub or-true : (a b : Bool) → (a ≡ false → b ≡ true) → (a || b) ≡ true
or-true true b e = refl
or-true false b e = e refl
