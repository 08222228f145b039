use Rattle.std.proofs.Common.{ap, ◌∙◌, refl}
use Rattle.std.proofs.lemmas.Bool.{or_left, eq-eqb}
use Rattle.std.specs.Prelude.{◌==◌}
use Rattle.node_set.specs.Ascending.{has}
use Rattle.node_set.specs.Nodes.{Nodes}
use Rattle.node_set.specs.SetLaws.{has-inserted}
use Rattle.network_tests.proofs.cover_tests.ball_of.Goals as goal

pub returns-clause-centre : goal.returns-clause-centre
returns-clause-centre c =
    ap (λ (s : Nodes). has c.args.v s.members) c.insert-2.ensures
    ∙ has-inserted c.args.v c.args.v c.loop-node.ball.members
    ∙ or_left (c.args.v == c.args.v) (has c.args.v c.loop-node.ball.members) (eq-eqb c.args.v c.args.v refl)
