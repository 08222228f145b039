-- Which nodes of the square lead to which: all its edges weigh 1.
use Rattle.std.proofs.Common.{◌≡◌, ℕ, zero, suc, ◌+◌, ◌<◌, Option, Some, refl, sym, ap, inl, inr, arith}
use Rattle.std.specs.Prelude.{slice_index_or}
use Rattle.net_graph.specs.declared.edge.Edge.{Edge}
use Rattle.net_graph.specs.Trees.{IsLeastJoin, LeadsTo}
use Rattle.net_graph.specs.Walks.{Joins, make_edge}
use Rattle.worked_examples.specs.Trees.{square, square_weights}

-- what stands at a place among the edges weighs 1
weighs : (edge : Edge) (k : ℕ) → k < 4 → slice_index_or square.edges k edge ≡ edge → edge.weight ≡ 1
weighs edge zero low is = sym (ap (λ (e : Edge). e.weight) is)
weighs edge (suc zero) low is = sym (ap (λ (e : Edge). e.weight) is)
weighs edge (suc (suc zero)) low is = sym (ap (λ (e : Edge). e.weight) is)
weighs edge (suc (suc (suc zero))) low is = sym (ap (λ (e : Edge). e.weight) is)
weighs edge (suc (suc (suc (suc k)))) low is = absurd (omega (arith, low))

-- and so does whatever joins two nodes
pub join-weighs : (u v w : ℕ) → Joins square.edges u v w → w ≡ 1
join-weighs u v w (inl there) = weighs (make_edge u v w) there.0 there.1 there.2
join-weighs u v w (inr there) = weighs (make_edge v u w) there.0 there.1 there.2

-- a number in hand is one number
pub same : (one other : ℕ) → ◌≡◌ {A = Option ℕ} (Some one) (Some other) → one ≡ other
same one other e = cc

-- an edge of weight 1 is the least between its ends
pub least : (u v : ℕ) → Joins square.edges u v 1 → IsLeastJoin square.edges u v 1
least u v joined = record {
  joined = joined;
  least = λ x other. let one = join-weighs u v x other in omega (arith, one);
}

pub leads-0-1 : LeadsTo square.edges square_weights 0 1
leads-0-1 = record {
  before = 0;
  edge = 1;
  comes_from = refl;
  joined = least 0 1 (inl (0, omega arith, refl));
  sum = refl;
}

pub leads-0-2 : LeadsTo square.edges square_weights 0 2
leads-0-2 = record {
  before = 0;
  edge = 1;
  comes_from = refl;
  joined = least 0 2 (inl (1, omega arith, refl));
  sum = refl;
}

pub leads-1-3 : LeadsTo square.edges square_weights 1 3
leads-1-3 = record {
  before = 1;
  edge = 1;
  comes_from = refl;
  joined = least 1 3 (inr (2, omega arith, refl));
  sum = refl;
}

-- node 0 doesn't lead to node 3
pub no-lead : LeadsTo square.edges square_weights 0 3 → ⊥
no-lead leads =
    let from : 0 ≡ leads.before = same 0 leads.before leads.comes_from in
    let sum : 2 ≡ leads.before + leads.edge = same 2 (leads.before + leads.edge) leads.sum in
    let one = join-weighs 0 3 leads.edge leads.joined.joined in omega (arith, from, sum, one)
