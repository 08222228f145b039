-- Laws of the spare sets of a workspace.
-- Key laws: `none_taken` (as they were, none was taken), `taken_on` (some were taken, and then
-- more), `left_on` (some are left of those that were left).
use Rattle.std.proofs.Common.{◌≡◌, ℕ, ◌+◌, ◌-◌, List, length, length-take-le, take, take-take, take_all, ap, arith, sym, ◌∙◌}
use Rattle.node_set.specs.Nodes.{Nodes}
use Rattle.node_set.specs.Workspaces.{AreSpareLeft, SpareTaken}

pub none_taken : (sets : List Nodes) → SpareTaken 0 sets sets
none_taken sets = sym (take_all (length sets - 0) sets (omega arith))

pub taken_on : (a b : ℕ) (old mid new : List Nodes) → SpareTaken a old mid → SpareTaken b mid new
    → SpareTaken (a + b) old new
taken_on a b old mid new first next =
    let left : length mid ≡ length old - a =
    ap length first ∙ length-take-le (length old - a) old (omega arith)
    in
    next ∙ ap (λ (l : List Nodes). take (length mid - b) l) first
    ∙ take-take (length mid - b) (length old - a) old (omega (arith, left))
    ∙ ap (λ (n : ℕ). take n old) (omega (arith, left))

pub left_on : (a : ℕ) (old mid new : List Nodes) → SpareTaken a old mid → AreSpareLeft mid new
    → AreSpareLeft old new
left_on a old mid new first next =
    (a + next.0, taken_on a next.0 old mid new first next.1)
