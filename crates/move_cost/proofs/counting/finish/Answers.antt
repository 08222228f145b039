use Rattle.std.proofs.lemmas.Grind.{common_steps}
use Rattle.std.proofs.Common.{◌≡◌, Bool, true, false, cond, ap, refl, ◌∙◌, arith, sym}
use Rattle.move_cost.proofs.Following.{IsCost, Makes, finished, follows-on, left-falls, next-fits, room-on}
use Rattle.move_cost.proofs.counting.finish.Goals as goal
use Rattle.move_cost.proofs.counting.finish.Goals.{After-made}
use Rattle.handset.specs.StageLaws.{write-sub}

bool-is : (b : Bool) → mir.Val.bool_byte b ≡ cond b 1 0
bool-is true = refl
bool-is false = refl

makes : (c : After-made) → Makes c.args.plan.now c.writes.handset c.made.new.self c.in-Some.visit
makes c = record {
  next = λ starts steps made stands. sym c.in-Some.is ∙ c.next.ensures.stands starts steps made stands;
  same = grind (arith, write-sub);
  stands = c.made.ensures.stands;
}

cost : (c : After-made)
    → IsCost c.args.plan.now c.args.node c.in-Some.visit c.act_weight.result c.from.result
cost c = record {
  weight_is = c.act_weight.ensures.weight;
  small = c.act_weight.ensures.small;
  purges_is = c.from.ensures ∙ (ap (λ b. mir.Val.bool_byte b) c.is_purge.ensures ∙ bool-is _);
}

pub act_weight-requires-clause-fit : goal.act_weight-requires-clause-fit
act_weight-requires-clause-fit c =
    (next-fits c.mark_words.ensures.unpacked c.address_words.ensures.unpacked c.args.plan.now
    (omega (arith, c.plan_is_sound.ensures.sound.metric.few)) c.args.node c.writes.handset c.writes.line c.in-Some.visit
    (λ starts steps made stands. sym c.in-Some.is ∙ c.next.ensures.stands starts steps made stands)
    c.writes.invariant.room).0

pub writes-smaller : goal.writes-smaller
writes-smaller c =
    left-falls c.mark_words.ensures.unpacked c.address_words.ensures.unpacked c.args.plan.now
    (omega (arith, c.plan_is_sound.ensures.sound.metric.few)) c.writes.handset c.made.new.self c.writes.line
    c.in-Some.visit (makes c) c.writes.invariant.room

pub writes-preserved : goal.writes-preserved
writes-preserved c = record {
  goes = c.made.ensures.goes;
  its = (makes c).same ∙ c.writes.invariant.its;
  room = room-on c.mark_words.ensures.unpacked c.address_words.ensures.unpacked c.args.plan.now
      (omega (arith, c.plan_is_sound.ensures.sound.metric.few)) c.args.node c.writes.handset c.made.new.self
      c.writes.line c.in-Some.visit c.act_weight.result c.from.result (makes c) (cost c) c.writes.invariant.room;
  follows = follows-on c.mark_words.ensures.unpacked c.address_words.ensures.unpacked c.args.plan.now
      (omega (arith, c.plan_is_sound.ensures.sound.metric.few)) c.args.node c.args.handset.now c.args.line.now
      c.writes.handset c.made.new.self c.writes.line
      c.in-Some.visit c.act_weight.result c.from.result (makes c) (cost c) c.writes.invariant.follows;
}

pub returns-clause-stands : goal.returns-clause-stands
returns-clause-stands c = λ starts steps made later its.
    (finished c.writes.invariant.follows its (λ now stands. sym c.in_default.is
    ∙ c.next.ensures.stands starts steps now stands)).stands

pub returns-clause-line : goal.returns-clause-line
returns-clause-line c = λ starts steps made later its.
    (finished c.writes.invariant.follows its (λ now stands. sym c.in_default.is
    ∙ c.next.ensures.stands starts steps now stands)).told

pub returns-clause-small : goal.returns-clause-small
returns-clause-small c = λ starts steps made later its.
    (finished c.writes.invariant.follows its (λ now stands. sym c.in_default.is
    ∙ c.next.ensures.stands starts steps now stands)).few

pub overflow_add-line : goal.overflow_add-line
overflow_add-line c = grind (arith, common_steps)

pub overflow_add-line-in-Some : goal.overflow_add-line-in-Some
overflow_add-line-in-Some c = grind (arith, common_steps)
