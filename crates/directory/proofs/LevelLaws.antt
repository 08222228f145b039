-- Moves are numbered, and the last that renewed a level is one of them; and no move has more writes than the most.
use Rattle.std.proofs.Common.{◌≡◌, ℕ, suc, ◌+◌, ◌≤◌, cond, List, [], ◌∷◌, ◌++◌, length, fold, ◌∙◌, arith, length-append}
use Rattle.std.specs.Prelude.{nat_le}
use Rattle.std.proofs.lemmas.List.{length-map}
use Rattle.directory.specs.Settings.{Setting}
use Rattle.directory.specs.Courses.{Step, move_to, Move, Course, base, after_step, after_steps}
use Rattle.directory.specs.StepLaws.{highest-low}
use Rattle.node_set.specs.SetLaws.{length-passing-le}
use Rattle.directory.specs.Statements.{MovesAreShort}
use Rattle.directory.proofs.Tests.{both_ways}

-- moves are numbered one after another
abbrev pub AreNumbered : ℕ → List Move → Type 0
AreNumbered n [] = Unit {0}
AreNumbered n (move ∷ later) = (move.number ≡ suc n) × AreNumbered (suc n) later

numbered-append : (n : ℕ) (moves : List Move) (move : Move) → move.number ≡ suc (n + length moves)
    → AreNumbered n moves → AreNumbered n (moves ++ move ∷ [])
numbered-append n [] move h f = (h ∙ (let e : suc (n + 0) ≡ suc n = omega arith in e), tt)
numbered-append n (first ∷ later) move h f = (f.0, numbered-append (suc n) later move (omega arith) f.1)

pub numbered-steps : (setting : Setting) (course : Course) (steps : List Step) → AreNumbered 0 course.moves
    → AreNumbered 0 (after_steps setting course steps).moves
numbered-steps setting course [] f = f
numbered-steps setting course (move_to node ∷ steps) f = numbered-steps setting
    (after_step setting course (move_to node)) steps (grind (arith, numbered-append))
numbered-steps setting course (step ∷ steps) f = numbered-steps setting (after_step setting course step) steps f

base-low : (level n low : ℕ) (moves : List Move) → low ≤ n → AreNumbered n moves
    → fold (λ last (m : Move). cond (nat_le level m.renewed) m.number last) low moves ≤ n + length moves
base-low level n low [] h f = omega (arith, h)
base-low level n low (move ∷ later) h f =
    let step : fold (λ last (m : Move). cond (nat_le level m.renewed) m.number last)
    (cond (nat_le level move.renewed) move.number low) later ≤ suc n + length later =
    base-low level (suc n) (cond (nat_le level move.renewed) move.number low) later
    (both_ways (λ k. k ≤ suc n) (nat_le level move.renewed) (omega (arith, f.0)) (omega (arith, h))) f.1 in
    omega (arith, step)

pub base-few : (level : ℕ) (course : Course) → AreNumbered 0 course.moves
    → base level course.moves ≤ length course.moves
base-few level course numbered = grind (arith, base-low level 0 0 course.moves (omega arith) numbered)

pub move-short : MovesAreShort
move-short setting course node = grind (arith, highest-low, length-map, length-passing-le, both_ways, length-append)
