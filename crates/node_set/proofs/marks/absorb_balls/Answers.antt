use Rattle.std.proofs.Common.{◌≡◌, ◌∙◌, ◌||◌, ap, sym, arith, refl}
use Rattle.node_set.specs.Ascending.{has}
use Rattle.node_set.specs.Balls.{ball, sets, union_of}
use Rattle.node_set.specs.BallLaws.{ball_at}
use Rattle.node_set.specs.ScanLaws.{none_left}
use Rattle.node_set.specs.SetLaws.{ascending-union}
use Rattle.node_set.proofs.Leading.{absorb_next, union_nothing}
use Rattle.node_set.proofs.marks.absorb_balls.Goals as goal

pub ball-init : goal.ball-init
ball-init c = record {
  room_kept = refl;
  order = λ ascending. ascending;
  so_far = λ x. sym (ap (λ b. b || has x c.args.nodes.now.members) (union_nothing (sets c.args.balls.now) x));
}

pub ball-preserved : goal.ball-preserved
ball-preserved c =
    let at : ball (sets c.args.balls.now) c.in-Some.v ≡ c.index-balls-v.result.members =
    grind (arith, ball_at) in
    rw c.absorb.ensures (record {
      room_kept = c.ball.invariant.room_kept;
      order = λ ascending. grind (arith, ascending-union);
      so_far = absorb_next (sets c.args.balls.now) c.args.nodes.now.members c.ball.nodes.members c.in-Some.ensures.some
          at c.ball.invariant.so_far;
    })

pub returns-clause-members : goal.returns-clause-members
returns-clause-members c = λ x.
    c.ball.invariant.so_far x
    ∙ ap (λ l. has x (union_of (sets c.args.balls.now) l) || has x c.args.nodes.now.members)
    (none_left c.args.centres.now.members c.ball.from c.set_is_sound.ensures.ascending c.in_default.ensures.none)
