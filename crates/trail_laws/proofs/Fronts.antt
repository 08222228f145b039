-- The fronts of what a move writes: by phases.
use Rattle.std.proofs.Common.{◌≡◌, ◌⊎◌, ℕ, suc, ◌-◌, List, [], ◌∷◌, ◌++◌, length, take, arith}
use Rattle.std.proofs.lemmas.List.{take_all, take-append-le}
use Rattle.directory.specs.Writes.{Write}
use Rattle.directory.specs.StepLaws.{take-append}
use Rattle.std.proofs.lemmas.Bool.{cases_lt}

-- what holds of a Coming with a front of the addresses, of all up to a Gone, and of all up to a Here with fronts of the
-- erasures and the purges, holds of each front
module _ (coming gone here : Write) (addresses erasures purges : List Write) (P : List Write → Type 0)
    (is_coming : (j : ℕ) → P (coming ∷ take j addresses)) (is_passing : P (coming ∷ (addresses ++ gone ∷ [])))
    (is_erasing : (e p : ℕ) → (p ≡ 0) ⊎ (take e erasures ≡ erasures)
    → P (coming ∷ (addresses ++ (gone ∷ (here ∷ (take e erasures ++ take p purges)))))) where
  ends : (d : ℕ) → P (coming ∷ (addresses ++ take (suc d) (gone ∷ (here ∷ (erasures ++ purges)))))
  ends d = grind (arith, take-append, cases_lt, take_all)

  pub fronts : (k : ℕ) → P (coming ∷ take k (addresses ++ (gone ∷ (here ∷ (erasures ++ purges)))))
  fronts k = grind (
    arith,
    cases_lt (length addresses) k,
    take-append k addresses (gone ∷ (here ∷ (erasures ++ purges))),
    ends (k - length addresses - 1),
    take-append-le,
    take_all,
  )
