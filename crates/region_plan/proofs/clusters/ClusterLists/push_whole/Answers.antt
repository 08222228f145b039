use Rattle.std.proofs.Common.{◌∙◌, ◌∷◌, ◌++◌, ◌≤◌, [], ℕ, List, ap, subst, sym, arith}
use Rattle.std.specs.Prelude.{All}
use Rattle.distances.specs.Table.{IsRowOf}
use Rattle.node_set.specs.Balls.{centres}
use Rattle.region_plan.specs.Flat.{IsWholeAlone}
use Rattle.region_plan.specs.Laid.{AreLaid, clusters_of_lists}
use Rattle.region_plan.specs.declared.clusters.ClusterHead.{ClusterHead}
use Rattle.region_plan.specs.declared.clusters.ClusterLists.{ClusterLists}
use Rattle.region_plan.proofs.Laying.{whole_made}
use Rattle.region_plan.proofs.clusters.ClusterLists.push_whole.Goals as goal
use Rattle.region_plan.proofs.clusters.ClusterLists.push_whole.Goals.{In_ok-push}

-- the lists, and what they are
abbrev lists : (c : In_ok-push) → ClusterLists
lists c = record { heads = c.push.new.self; nodes = c.push_numbers.new.list; weights = c.extend_from_slice.new.self }

whole : (c : In_ok-push) → AreLaid (lists c) × IsWholeAlone c.args.distances.now (clusters_of_lists (lists c))
whole c =
    whole_made c.nodes.ensures.metric (lists c)
    (c.in_ok-push.ensures.items ∙ ap (λ (hs : List ClusterHead). hs ++ record {
      leader = 0;
      phase = 0;
      depth = c.greatest_weight.result;
      start = 0;
      end = c.len.result;
    } ∷ []) c.requires.heads)
    (c.in_ok-push_numbers.ensures ∙ ap (λ (xs : List ℕ). xs ++ centres c.nodes.result) c.requires.nodes
    ∙ ap centres c.nodes.ensures.count)
    (subst (IsRowOf c.args.distances.now 0) (sym (c.in_ok-extend_from_slice.ensures.items
    ∙ ap (λ (xs : List ℕ). xs ++ c.row.result.now) c.requires.weights)) c.row.ensures)
    (omega (arith, c.len.ensures, c.push_numbers.new.list.ok.0))
    (subst (All (λ x. x ≤ c.greatest_weight.result)) c.deref.ensures.value c.greatest_weight.ensures.bound)
    (rw c.deref.ensures.value at c.greatest_weight.ensures.attained)

pub returns-clause-laid : goal.returns-clause-laid
returns-clause-laid c = (whole c).0

pub returns-clause-whole : goal.returns-clause-whole
returns-clause-whole c = (whole c).1
