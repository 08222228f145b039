-- What coarsening writes over, and for how many balls; and how many of its spare sets it takes.
-- Key laws: `Workspace::new` makes a workspace for n balls, and `coarsen_by_rows` of as many leaves
-- it one for n, after want of memory too; `empty_set` takes one spare set.
use Rattle.std.specs.Prelude.{◌≡◌, ℕ, ◌-◌, List, All, length, take}
use Rattle.node_set.specs.Nodes.{Nodes}
use Rattle.node_set.specs.declared.workspace.Workspace.{Workspace}

-- the workspace is for n balls: each of its sets has room for all of them
pub record IsWorkspace (n : ℕ) (work : Workspace) : Type 0 where
  pub left : work.left.room ≡ n
  pub waiting : work.waiting.room ≡ n
  pub taken : work.growth.taken.room ≡ n
  pub touched : work.growth.touched.room ≡ n
  pub spare : All (λ (s : Nodes). s.room ≡ n) work.growth.spare.items

-- of the old spare sets so many were taken, the last ones first, or all, where there were fewer
abbrev pub SpareTaken : ℕ → List Nodes → List Nodes → Type 0
SpareTaken count old new = new ≡ take (length old - count) old

-- some of the old spare sets were taken, the last ones first
abbrev pub AreSpareLeft : List Nodes → List Nodes → Type 0
AreSpareLeft old new = (count : ℕ) × SpareTaken count old new
