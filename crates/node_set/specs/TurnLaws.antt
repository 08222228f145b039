-- Laws of rows: the waiting balls that touch a union are those in the rows of its nodes.
-- Key laws: `touches_turned` (of one ball), `touched_grown` (of all that wait, as sets).
use Rattle.std.proofs.Common.{◌≡◌, ℕ, ◌<◌, List, length, filter, sym, ◌∙◌, subst}
use Rattle.node_set.specs.Ascending.{has, AllBelow}
use Rattle.node_set.specs.Balls.{ball, sets, touches, union_of}
use Rattle.node_set.specs.BallLaws.{length-sets, union_has, union_from}
use Rattle.node_set.specs.FilterLaws.{filter_same}
use Rattle.node_set.specs.Nodes.{AreNodes, Nodes}
use Rattle.node_set.specs.SetLaws.{below-has, share_from, share_gives}
use Rattle.node_set.specs.Turned.{AreTurned}
use Rattle.std.specs.Cmp.{both_ways}

-- a ball touches nodes just where its centre is in the union of their rows
pub touches_turned : (balls rows : List (List ℕ)) (nodes : List ℕ) (v : ℕ) → AreTurned balls rows
    → AllBelow (length balls) nodes
    → v < length balls → touches balls nodes v ≡ has v (union_of rows nodes)
touches_turned balls rows nodes v turned within below =
    both_ways (touches balls nodes v) (has v (union_of rows nodes))
    (λ h.
    let x = share_gives (ball balls v) nodes h in
    union_has rows v x.0 nodes x.2
    (turned v x.0 below (below-has (length balls) x.0 nodes within x.2) ∙ x.1))
    (λ h.
    let x = union_from rows v nodes h in
    share_from x.0 (ball balls v) nodes
    (sym (turned v x.0 below (below-has (length balls) x.0 nodes within x.1)) ∙ x.2)
    x.1)

pub touched_balls : (balls rows : List (List ℕ)) (nodes waiting : List ℕ) → AreTurned balls rows
    → AllBelow (length balls) nodes
    → AllBelow (length balls) waiting
    → filter (λ v. has v (union_of rows nodes)) waiting ≡ filter (touches balls nodes) waiting
touched_balls balls rows nodes waiting turned within below =
    filter_same (λ v. has v (union_of rows nodes)) (touches balls nodes) waiting
    (λ v h. sym (touches_turned balls rows nodes v turned within
    (below-has (length balls) v waiting below h)))

-- the same of sets
pub touched_grown : (balls rows : List Nodes) (nodes waiting : Nodes) (touched : List ℕ)
    → AreTurned (sets balls) (sets rows)
    → nodes.room ≡ length balls → waiting.room ≡ length balls → AreNodes nodes → AreNodes waiting
    → touched ≡ filter (λ v. has v (union_of (sets rows) nodes.members)) waiting.members
    → touched ≡ filter (touches (sets balls) nodes.members) waiting.members
touched_grown balls rows nodes waiting touched turned room waits sound sound_waits is =
    is ∙ touched_balls (sets balls) (sets rows) nodes.members waiting.members turned
    (subst (λ n. AllBelow n nodes.members) (room ∙ sym (length-sets balls)) sound.below)
    (subst (λ n. AllBelow n waiting.members) (waits ∙ sym (length-sets balls)) sound_waits.below)
