-- Which nodes wait, as the queue goes on.
use Rattle.std.proofs.Common.{rules, ◌≡◌, ◌⊎◌, ℕ, ◌<◌, ◌≤◌, Bool, true, false, List, [], ◌∷◌, length, ◌∙◌, ap, subst, inl, inr, arith}
use Rattle.std.specs.Prelude.{Contains, IsPermutation}
use Rattle.std.specs.BinaryHeap.{IsUpperBound}
use Rattle.std.proofs.lemmas.List.Sorted.{Contains-permutation, IsPermutation-sym}
use Rattle.net_graph.specs.declared.queue.Candidate.{Candidate}
use Rattle.std.specs.Ordering.{is_lt, nat_cmp, ordering_then}
use Rattle.std.specs.declared.cmp.Ordering.{Ordering}
use Rattle.std.proofs.lemmas.Bool.{cases_lt}
use Rattle.net_graph.specs.Walks.{among}
use Rattle.net_graph.specs.Queue.{Waiting, make_waiting, lighter_first, AreSettled, IsNextUnsettled}
use Rattle.net_graph.proofs.Elements.{first, first_or_later, later}

-- the unsettled nodes wait still, and no new ones
pub record StillWait (unsettled : List Bool) (old now : List Waiting) : Type 0 where
  pub kept : (w v : ℕ) → Contains old (make_waiting w v) → among unsettled v ≡ true → Contains now (make_waiting w v)
  pub fewer : (w v : ℕ) → Contains now (make_waiting w v) → Contains old (make_waiting w v)

no_less : (a b : ℕ) (o : Ordering) → is_lt (ordering_then (nat_cmp b a) o) ≡ false → a ≤ b
no_less a b o h = grind (arith, cases_lt b a)

-- nothing is lighter than the greatest of a queue
no_lighter : (x : Waiting) (xs : List Waiting) → IsUpperBound lighter_first x xs → (y : Waiting) → Contains xs y
    → x.0.0 ≤ y.0.0
no_lighter x [] bound y has = absurd (omega (arith, has.1))
no_lighter x (z ∷ zs) bound y has = elim (first_or_later y z zs has) [
  | inl is ↦ subst (λ (u : Waiting). x.0.0 ≤ u.0.0) is (no_less x.0.0 z.0.0 (nat_cmp z.0.1 x.0.1) bound.0)
  | inr after ↦ no_lighter x zs bound.1 y after
]

module _ {unsettled : List Bool} {old now : List Waiting} (rest : List Waiting) (so_far : StillWait unsettled old now)
    (weight node : ℕ) (taken : IsPermutation now (make_waiting weight node ∷ rest)) where
  taken_or_rest : (w v : ℕ) → Contains now (make_waiting w v) → (node ≡ v) ⊎ Contains rest (make_waiting w v)
  taken_or_rest w v has = elim (first_or_later (make_waiting w v) (make_waiting weight node) rest
      (Contains-permutation now (make_waiting weight node ∷ rest) (make_waiting w v) taken has)) [
        | inl is ↦ inl (ap (λ (u : Waiting). u.0.1) is)
        | inr there ↦ inr there
      ]

  back : (x : Waiting) → Contains (make_waiting weight node ∷ rest) x → Contains now x
  back x has = search (rules, Contains-permutation, IsPermutation-sym)

  rest_fewer : (w v : ℕ) → Contains rest (make_waiting w v) → Contains old (make_waiting w v)
  rest_fewer w v has = so_far.fewer w v (back (make_waiting w v)
      (later (make_waiting w v) (make_waiting weight node) rest has))

  pub taken_waited : Contains old (make_waiting weight node)
  taken_waited = so_far.fewer weight node (back (make_waiting weight node) (first (make_waiting weight node) rest))

  -- a settled node goes
  pub settled_goes : among unsettled node ≡ false → StillWait unsettled old rest
  settled_goes gone = record {
    kept = λ w v has waits. grind (arith, so_far.kept w v has waits, taken_or_rest w v (so_far.kept w v has waits));
    fewer = rest_fewer;
  }

  -- an unsettled node is the next
  pub next_is : (best : Candidate) → best.node ≡ node → best.weight ≡ weight → node < length unsettled
      → among unsettled node ≡ true → IsUpperBound lighter_first (make_waiting weight node) now
      → IsNextUnsettled unsettled old rest best
  next_is best node_is weight_is below waits bound = record {
    below = omega (arith, node_is);
    waits = ap (among unsettled) node_is ∙ waits;
    there = rw (weight_is, node_is) taken_waited;
    lightest = λ w v has v_waits.
        let light : weight ≤ w = no_lighter (make_waiting weight node) now bound (make_waiting w v)
        (so_far.kept w v has v_waits) in
        omega (arith, weight_is);
    kept = λ w v has v_waits other.
        grind (arith, so_far.kept w v has v_waits, taken_or_rest w v (so_far.kept w v has v_waits));
    fewer = rest_fewer;
  }

-- none is left that waits
pub none_waits : {unsettled : List Bool} {old now : List Waiting} → StillWait unsettled old now → length now ≡ 0
    → AreSettled unsettled old
none_waits so_far none w v has waits = absurd (omega (arith, (so_far.kept w v has waits).1))
