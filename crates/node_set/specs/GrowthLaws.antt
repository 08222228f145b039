-- Laws of growing clusters, for proofs of covers: a cluster grows from the first of the balls that
-- wait. Key laws: `growth_waiting` (each of its balls waited), `growth_kept` (and stays),
-- `next_union` (the nodes of one growth more, from those before), `reached`, `touching_below`.
use Rattle.std.proofs.Common.{◌≡◌, inl, inr, ℕ, suc, ◌<◌, ◌≤◌, Bool, true, false, ◌||◌, List, [], ◌∷◌, length, filter, refl, sym, ◌∙◌, ap, subst}
use Rattle.std.proofs.lemmas.Bool.{cases_lt, false≢true}
use Rattle.std.proofs.lemmas.List.{get_or_past}
use Rattle.node_set.specs.Ascending.{has, IsAscending}
use Rattle.node_set.specs.Balls.{ball, union_of, touches, growth}
use Rattle.node_set.specs.BallLaws.{HoldCentres, union_more, ascending-union_of, touches_own, growth_waits, growth_size, growth_next}
use Rattle.node_set.specs.FilterLaws.{filter-has}
use Rattle.node_set.specs.SetLaws.{same_members, share_gives}

-- a ball that touches others is there
pub touching_below : (balls : List (List ℕ)) (nodes : List ℕ) (v : ℕ) → touches balls nodes v ≡ true
    → v < length balls
touching_below balls nodes v h = elim (cases_lt v (length balls)) [
  | inl below ↦ below
  | inr past ↦
      let x = share_gives (ball balls v) nodes h in
      absurd (false≢true (sym (ap (has x.0) (get_or_past balls v [] past)) ∙ x.1))
]

module _ (balls : List (List ℕ)) (a : ℕ) (waiting rest : List ℕ) (leads : waiting ≡ a ∷ rest) where
  -- no growth has more balls than wait
  pub growth_fits : (j : ℕ) → length (growth balls waiting a j) ≤ length waiting
  growth_fits j = subst (λ (l : List ℕ). length (growth balls l a j) ≤ length l) (sym leads)
      (growth_size balls a rest j)

  -- each ball of a growth waited
  pub growth_waiting : (j v : ℕ) → has v (growth balls waiting a j) ≡ true → has v waiting ≡ true
  growth_waiting j v = subst (λ (l : List ℕ). has v (growth balls l a j) ≡ true
      → has v l ≡ true) (sym leads)
      (growth_waits balls a rest j v)

  -- and is in the next growth
  pub growth_kept : HoldCentres balls waiting → (j v : ℕ) → has v (growth balls waiting a j) ≡ true
      → has v (growth balls waiting a (suc j)) ≡ true
  growth_kept hold j v h =
      let waits : has v waiting ≡ true = growth_waiting j v h in
      subst (λ (l : List ℕ). has v l ≡ true) (sym (growth_next balls waiting a j))
      (filter-has (touches balls (union_of balls (growth balls waiting a j))) v waiting waits
      (touches_own balls v (growth balls waiting a j) h (hold v waits)))

  -- the union of one growth more, from the one before
  pub next_union : HoldCentres balls waiting → (j : ℕ) (nodes : List ℕ) → IsAscending nodes →
      ((x : ℕ) → has x nodes ≡ (has x (union_of balls (growth balls waiting a (suc j))) || has x
      (union_of balls (growth balls waiting a j))))
      → nodes ≡ union_of balls (growth balls waiting a (suc j))
  next_union hold j nodes ascending either =
      same_members nodes (union_of balls (growth balls waiting a (suc j))) ascending
      (ascending-union_of balls (growth balls waiting a (suc j)))
      (λ x. either x ∙ at (has x (union_of balls (growth balls waiting a (suc j))))
      (has x (union_of balls (growth balls waiting a j)))
      (union_more balls x (growth balls waiting a j) (growth balls waiting a (suc j))
      (growth_kept hold j)))
    where
      at : (b c : Bool) → (c ≡ true → b ≡ true) → (b || c) ≡ b
      at true c follows = refl
      at false true follows = sym (follows refl)
      at false false follows = refl

-- the balls that touch the union so far are those of the next growth
pub reached : (balls : List (List ℕ)) (a : ℕ) (waiting : List ℕ) (j : ℕ) (nodes marks : List ℕ)
    → nodes ≡ union_of balls (growth balls waiting a j)
    → marks ≡ filter (touches balls nodes) waiting → marks ≡ growth balls waiting a (suc j)
reached balls a waiting j nodes marks union touched =
    touched ∙ (ap (λ (l : List ℕ). filter (touches balls l) waiting) union
    ∙ sym (growth_next balls waiting a j))
