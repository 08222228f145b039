use Rattle.std.proofs.Common.{◌≡◌, [], ap, arith}
use Rattle.node_set.specs.Balls.{sets, union_of}
use Rattle.node_set.specs.BallLaws.{ascending-union_of}
use Rattle.node_set.specs.Nodes.{Nodes}
use Rattle.node_set.specs.SetLaws.{same_members}
use Rattle.node_set.proofs.Leading.{same_filter}
use Rattle.node_set.proofs.marks.touch.Goals as goal
use Rattle.std.proofs.Math.Bool.{or-false}

pub returns-clause-members : goal.returns-clause-members
returns-clause-members c =
    let none : c.clear.new.self.members ≡ [] = ap (λ (s : Nodes). s.members) c.clear.ensures in
    let union = union_of (sets c.args.rows.now) c.args.nodes.now.members in
    let ascending = ascending-union_of (sets c.args.rows.now) c.args.nodes.now.members in
    let reached = same_members c.absorb_balls.new.nodes.members union (c.absorb_balls.ensures.order (rw none tt))
    ascending (λ x. rw (c.absorb_balls.ensures.members x, none, or-false)) in
    grind (arith, same_filter)
