-- Lists of edges with the same walks, and two more laws of walks.
use Rattle.std.proofs.Common.{rules, ◌≡◌, ◌≢◌, ℕ, ◌+◌, ◌≤◌, Bool, true, List, [], ◌∷◌, refl, inl, inr, arith}
use Rattle.std.proofs.lemmas.Bool.{cases_eq}
use Rattle.net_graph.specs.declared.edge.Edge.{Edge}
use Rattle.net_graph.specs.Walks.{Joins, Step, IsWalk, weight_of, IsLeastWeight, IsUnreached, IsReached}
use Rattle.net_graph.specs.Network.{SameWalks}
use Rattle.net_graph.specs.WalkLaws.{walk_turned, IsNoHeavier}

pub unreached_back : (edges : List Edge) (inside : ℕ → Bool) (u v : ℕ)
    → IsUnreached edges inside u v → IsUnreached edges inside v u
unreached_back edges inside u v none steps walk =
    let there = walk_turned edges inside v steps u walk in none there.steps there.walk

pub least_of_step : (edges : List Edge) (inside : ℕ → Bool) (u v w x : ℕ) → inside u ≡ true → inside v ≡ true
    → Joins edges u v x → IsLeastWeight edges inside u v w → w ≤ x
least_of_step edges inside u v w x at_u at_v joined p =
    omega (arith, p.least (record { node = v; weight = x } ∷ []) (at_u, joined, (at_v, refl)))

-- each edge of the one list that isn't a loop has one of the other list between its ends that is no heavier
abbrev pub Covers : List Edge → List Edge → Type 0
Covers old new = (u v w : ℕ) → u ≢ v → Joins old u v w → (x : ℕ) × Joins new u v x × (x ≤ w)

walk_skipped : {edges : List Edge} {inside : ℕ → Bool} {u y v w : ℕ} (c : ℕ) → u ≡ y → IsNoHeavier edges inside y v w
    → IsNoHeavier edges inside u v (c + w)
walk_skipped {edges} {inside} {v} c e rest = search rules

walk_replaced : {edges : List Edge} {inside : ℕ → Bool} (u : ℕ) {y v w : ℕ} (c x : ℕ) → inside u ≡ true
    → Joins edges u y x → x ≤ c → IsNoHeavier edges inside y v w → IsNoHeavier edges inside u v (c + w)
walk_replaced u {y} c x at_u joined light rest =
    record {
      steps = record { node = y; weight = x } ∷ rest.steps;
      walk = (at_u, joined, rest.walk);
      light = omega (arith, rest.light, light);
    }

pub walk_covered : (old new : List Edge) → Covers old new → (inside : ℕ → Bool) (u : ℕ) (steps : List Step) (v : ℕ)
    → IsWalk old inside u steps v → IsNoHeavier new inside u v (weight_of steps)
walk_covered old new covers inside u [] v walk = record { steps = []; walk = walk; light = omega arith }
walk_covered old new covers inside u (step ∷ steps) v walk =
    let rest = walk_covered old new covers inside step.node steps v walk.2 in
    elim (cases_eq u step.node) [
      | inl same ↦ walk_skipped step.weight same rest
      | inr other ↦
          let found = covers u step.node step.weight other walk.1 in
          walk_replaced u step.weight found.0 walk.0 found.1 found.2 rest
    ]

least_kept : {old : List Edge} (new : List Edge) → Covers old new → Covers new old → {inside : ℕ → Bool} {u v w : ℕ}
    → IsLeastWeight old inside u v w → IsLeastWeight new inside u v w
least_kept {old} new there back {inside} {u} {v} p =
    let found = walk_covered old new there inside u p.attained.steps v p.attained.walk in
    let again = walk_covered new old back inside u found.steps v found.walk in
    record {
      attained = record {
        steps = found.steps;
        walk = found.walk;
        sum = omega (arith, found.light, again.light, p.attained.sum, p.least again.steps again.walk);
      };
      least = λ steps walk.
          let over = walk_covered new old back inside u steps v walk in
          omega (arith, p.least over.steps over.walk, over.light);
    }

reached_kept : {old : List Edge} (new : List Edge) → Covers old new → {inside : ℕ → Bool} {u v : ℕ}
    → IsReached old inside u v → IsReached new inside u v
reached_kept {old} new there {inside} {u} {v} p =
    grind (arith, walk_covered old new there inside u p.steps v p.walk)

unreached_kept : (old new : List Edge) → Covers new old → (inside : ℕ → Bool) (u v : ℕ)
    → IsUnreached old inside u v → IsUnreached new inside u v
unreached_kept old new back inside u v none steps walk =
    let found = walk_covered new old back inside u steps v walk in none found.steps found.walk

pub same_walks : (old new : List Edge) → Covers old new → Covers new old → SameWalks old new
same_walks old new there back = search (rules, least_kept, reached_kept, unreached_kept)
