-- Short laws of valid scripts, for the proofs of the crates above. Key law: `call_of_valid` (each
-- call of an actor that valid scripts have is one that a find may make).
use Rattle.std.proofs.Common.{◌≡◌, ℕ, zero, suc, ◌-◌, List, [], ◌∷◌, ◌++◌, subst}
use Rattle.std.specs.Prelude.{All, slice_index_or}
use Rattle.std.proofs.lemmas.List.Elements.{All-head, All-nil, All-tail}
use Rattle.directory.specs.Settings.{Setting, subs}
use Rattle.directory.specs.Finds.{FindCall}
use Rattle.directory.specs.Orders.{AreValid, IsFindCall, Scripts, finds_of}

-- what holds of all lists of a table holds of each, and of none
each_list : {A : Type 0} (P : A → Type 0) (rows : List (List A)) (i : ℕ)
    → All (λ row. All P row) rows
    → All P (slice_index_or rows i [])
each_list P [] i all = All-nil P
each_list P (row ∷ rows) zero all = All-head (λ r. All P r) row rows all
each_list P (row ∷ rows) (suc i) all = each_list P rows i (All-tail (λ r. All P r) row rows all)

-- and of the one in the middle
of_middle : {A : Type 0} (P : A → Type 0) (xs : List A) (x : A) (ys : List A) → All P (xs ++ x ∷ ys)
    → P x
of_middle P [] x ys all = All-head P x ys all
of_middle P (y ∷ xs) x ys all = of_middle P xs x ys (All-tail P y (xs ++ x ∷ ys) all)

-- a call of an actor of valid scripts is one that a find may make
pub call_of_valid : (setting : Setting) (scripts : Scripts) (actor : ℕ) (before : List FindCall)
    (call : FindCall)
    (later : List FindCall) → AreValid setting scripts
    → finds_of setting scripts actor ≡ before ++ call ∷ later
    → IsFindCall setting call
call_of_valid setting scripts actor before call later valid script =
    of_middle (IsFindCall setting) before call later
    (subst (All (IsFindCall setting)) script
    (each_list (IsFindCall setting) scripts.finds (actor - subs setting) valid.finds))
