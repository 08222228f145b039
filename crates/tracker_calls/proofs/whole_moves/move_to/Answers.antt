use Rattle.std.proofs.lemmas.Grind.{common_steps}
use Rattle.std.proofs.Common.{ℕ, arith, subst}
use Rattle.tracker_calls.proofs.Adding.{added-none}
use Rattle.tracker_calls.proofs.Moving.{put-begun}
use Rattle.tracker_calls.proofs.WholeMove.{IsMoving, moving-by, moving-first, moving-out, none-due}
use Rattle.tracker_calls.proofs.whole_moves.move_to.Goals as goal

pub put_when_free-first-requires-clause-handset : goal.put_when_free-first-requires-clause-handset
put_when_free-first-requires-clause-handset g c =
    (put-begun c.moves_are_short.ensures c.requires.plan c.requires.handset c.in_ok-may_move_to.ensures.may
    c.in-Ok.ensures.exact c.begin.ensures.goes c.in-Ok.ensures.stands).its

pub puts-init : goal.puts-init
puts-init g c =
    let setup = c.args.tracker.now.setup in
    let put = c.put_when_free-first.ensures.put in
    let times = c.put_when_free-first.result in record {
      moving = subst (λ (k : ℕ). IsMoving setup c.args.pass.now c.args.handset.now c.args.to
          (record { number = k; first = times; commit = times; last = times }) c.put_when_free-first.new.pass
          c.put_when_free-first.new.handset) (omega (arith, c.number-number.ensures.kept))
          (moving-first c.histories_begin.ensures.longer c.histories_begin.ensures.through c.requires.of.setup
          (added-none c.histories_begin.ensures.itself setup c.args.pass.now c.requires.outside)
          (put-begun c.moves_are_short.ensures c.requires.plan c.requires.handset c.in_ok-may_move_to.ensures.may
          c.in-Ok.ensures.exact c.begin.ensures.goes c.in-Ok.ensures.stands)
          (rw (← c.requires.plan) c.in-Ok.ensures.exact) put.1 put.2);
    }

pub puts-preserved-then-commits : goal.puts-preserved-then-commits
puts-preserved-then-commits g c =
    let put = c.put_when_free.ensures.put in
    record {
      moving = moving-by c.histories_begin.ensures.longer c.histories_begin.ensures.through c.requires.of.setup
          c.puts.invariant.moving put.1 put.2
          (rw (← c.requires.plan) (omega (arith, c.plan_is_sound.ensures.sound.metric.few)))
          c.commits-commits.ensures.commit c.if-commits.true;
    }

pub puts-preserved : goal.puts-preserved
puts-preserved g c =
    let put = c.put_when_free.ensures.put in
    record {
      moving = moving-by c.histories_begin.ensures.longer c.histories_begin.ensures.through c.requires.of.setup
          c.puts.invariant.moving put.1 put.2
          (rw (← c.requires.plan) (omega (arith, c.plan_is_sound.ensures.sound.metric.few)))
          c.commits-commits.ensures.commit c.if-commits.false;
    }

pub returns : goal.returns
returns g c = record {
  moved = grind (arith, moving-out, none-due);
}

pub overflow_add-moved : goal.overflow_add-moved
overflow_add-moved c = grind (arith, common_steps)

pub put_when_free-requires : goal.put_when_free-requires
put_when_free-requires c = grind (arith, common_steps)

pub puts-smaller : goal.puts-smaller
puts-smaller c = grind (arith, common_steps)

pub puts-smaller-then-commits : goal.puts-smaller-then-commits
puts-smaller-then-commits c = grind (arith, common_steps)

pub unreachable-requires : goal.unreachable-requires
unreachable-requires c = grind (arith, common_steps)
