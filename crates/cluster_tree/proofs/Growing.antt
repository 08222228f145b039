-- From the weights of the members to the tree of the cluster.
use Rattle.std.proofs.Common.{◌≡◌, ℕ, ◌^◌, ◌<◌, ◌≤◌, Bool, true, List, Option, Some, length, get_or, refl, sym, ◌∙◌, subst, arith}
use Rattle.std.specs.Prelude.{All, Contains, IfErr, IsErrAnd, Result, Ok, Err}
use Rattle.std.proofs.lemmas.List.{get_or_default}
use Rattle.net_graph.specs.Walks.{IsLeastWeight, among}
use Rattle.net_graph.specs.Network.{Network, IsNetwork}
use Rattle.net_graph.specs.Trees.{at_node, AreLeastWeights}
use Rattle.net_graph.specs.WalkLaws.{walk_widened, least_widened}
use Rattle.node_set.specs.Nodes.{Nodes, AreNodes}
use Rattle.node_set.specs.Ascending.{has, IsAscending}
use Rattle.node_set.specs.SetLaws.{below-has, all_members}
use Rattle.cluster_tree.specs.declared.fault.TreeFault.{TreeFault}
use Rattle.cluster_tree.specs.declared.fault.TreeFault.TheVariants.{Outside, OutOfMemory}
use Rattle.cluster_tree.specs.declared.weighing.Weighed.{Weighed}
use Rattle.cluster_tree.specs.Tree.{weight_beside, within, IsTreeOf, IsSoundTree}
use Rattle.cluster_tree.specs.Faults.{IsFirstOutside, IsTreeFault}
use Rattle.cluster_tree.specs.Weighing.{AreFlagsBelow, AreWeighedBelow, IsFirstMissing, IsMissing}
use Rattle.cluster_tree.specs.PlaceLaws.{has_place, member_place, beside_place}
use Rattle.cluster_tree.proofs.Places.{beside_contained}

-- an error that is handed on
pub err_passed : {T E : Type 0} (result : Result T E) (e : E) (P : E → Type 0) → IsErrAnd result (λ x. x ≡ e) → P e
    → IfErr result P
err_passed (Ok x) e P h p = tt
err_passed (Err x) e P h p = subst P (sym h) p

-- weights that stand beside members, and the greatest of them
pub sound_tree : (leader : ℕ) (members weights : List ℕ) → IsAscending members → length weights ≡ length members
    → has leader members ≡ true → (depth : ℕ) → All (λ x. x ≤ depth) weights
    → (0 < length weights → Contains weights depth)
    → IsSoundTree (record { leader = leader; members = members; weights = weights }) depth
sound_tree leader members weights ascending count leads depth bound attained =
    let some = member_place leader members leads in
    let at = attained (omega (arith, some.1, count)) in
    let short : at.0 < length members = omega (arith, at.1, count) in
    record {
      ascending = ascending;
      count = count;
      leads = leads;
      depth_is = record {
        greatest = λ v member.
            grind (arith, beside_contained);
        attained = record {
          node = get_or members at.0 0;
          member = has_place members at.0 short;
          far = grind (arith, beside_place, get_or_default);
        };
      };
    }

module _ {network : Network} (sound : IsNetwork network) {set : Nodes} (nodes : AreNodes set)
    (room : set.room ≡ network.nodes) {leader : ℕ} (leads : has leader set.members ≡ true) {flags : List Bool}
    (are_flags : AreFlagsBelow set.room set.members flags) where
  leader_below : leader < network.nodes
  leader_below = omega (arith, below-has set.room leader set.members nodes.below leads, room)

  module _ {weights : List (Option ℕ)} (least : AreLeastWeights network (among flags) leader weights) where
    to_within : (x : ℕ) → x < network.nodes → among flags x ≡ true → within set.members x ≡ true
    to_within x below h = sym (are_flags.each x (omega (arith, room))) ∙ h

    from_within : (x : ℕ) → x < network.nodes → within set.members x ≡ true → among flags x ≡ true
    from_within x below h = are_flags.each x (omega (arith, room)) ∙ h

    least_within : (v w : ℕ) → v < network.nodes → at_node weights v ≡ Some w
        → IsLeastWeight network.edges (within set.members) leader v w
    least_within v w below is =
        least_widened network.nodes network.edges (among flags) (within set.members) sound.limits.edges to_within
        from_within leader v w leader_below
        (least.least v w below is)

    pub is_light : (v w : ℕ) → v < set.room → at_node weights v ≡ Some w → w < 2 ^ 32
    is_light v w below is = omega (arith, least.bounded v w (omega (arith, room)) is, sound.limits.few)

    pub is_outside : (node : ℕ) → IsFirstMissing set weights node → IsFirstOutside network set.members leader node
    is_outside node missing = record {
      member = missing.member;
      unreached = λ steps walk. least.unreached node (omega (arith, missing.below, room)) missing.missing steps
          (walk_widened network.nodes network.edges (within set.members) (among flags) sound.limits.edges from_within
          leader steps node leader_below walk);
      first = λ v less member.
          let w = missing.first v less member in
          let reached = least_within v w.0 (omega (arith, below-has set.room v set.members nodes.below member, room))
          w.1 in
          record { steps = reached.attained.steps; walk = reached.attained.walk };
    }

    pub is_fault : (fault : TreeFault) → IsMissing set weights fault → IsTreeFault network set.members leader fault
    is_fault (Outside node) missing = is_outside node missing
    is_fault OutOfMemory missing = tt

    module _ {weighed : Weighed} (are_weighed : AreWeighedBelow set.room set.members weights weighed) where
      pub members_are : weighed.nodes.items ≡ set.members
      members_are = are_weighed.nodes ∙ all_members set nodes

      pub is_tree : IsTreeOf network set.members leader
          (record { leader = leader; members = weighed.nodes.items; weights = weighed.weights.items })
      is_tree = record {
        leader_is = refl;
        members_are = members_are;
        each = λ v member.
            let below : v < set.room = below-has set.room v set.members nodes.below member in
            least_within v (weight_beside v weighed.nodes.items weighed.weights.items) (omega (arith, below, room))
            (are_weighed.each v below member);
      }

      pub is_kept : (depth : ℕ) → All (λ x. x ≤ depth) weighed.weights.items
          → (0 < length weighed.weights.items → Contains weighed.weights.items depth)
          → IsSoundTree (record { leader = leader; members = weighed.nodes.items; weights = weighed.weights.items })
          depth
      is_kept depth bound attained =
          sound_tree leader weighed.nodes.items weighed.weights.items (rw members_are nodes.ascending) are_weighed.count
          (rw members_are leads) depth bound attained
