use Rattle.std.proofs.Common.{length, arith}
use Rattle.std.specs.Prelude.{vec_capacity}
use Rattle.std.proofs.lemmas.List.{take_all}
use Rattle.machine.specs.declared.subscriber.Subscriber.{Subscriber}
use Rattle.machine.proofs.Ending.{part-fits, part-more}
use Rattle.machine.proofs.lines.push_steps.Goals as goal

pub push_lines-requires : goal.push_lines-requires
push_lines-requires c = record {
  room = part-fits (λ (one : Subscriber). one.lines.items) c.args.subscribers.now c.subscribers.subscriber-index
      c.subscriber-item.result
      c.deref.result.now c.subscribers-test.true c.subscriber-item.is c.deref.ensures.value
      (length c.subscribers.calls.items) (vec_capacity c.subscribers.calls) c.subscribers.invariant.room;
}

pub subscribers-preserved : goal.subscribers-preserved
subscribers-preserved c =
    let more = part-more (λ (one : Subscriber). one.lines.items) c.args.subscribers.now c.subscribers.subscriber-index
    c.subscriber-item.result c.deref.result.now c.subscribers-test.true c.subscriber-item.is c.deref.ensures.value
    c.args.calls.now.items (vec_capacity c.subscribers.calls) (vec_capacity c.push_lines.new.calls)
    c.subscribers.invariant.items c.push_lines.ensures.items c.subscribers.invariant.room
    c.push_lines.ensures.capacity in record {
      items = more.0;
      room = more.1;
      capacity = omega (arith, c.subscribers.invariant.capacity, c.push_lines.ensures.capacity);
    }

pub returns-clause-items : goal.returns-clause-items
returns-clause-items c = grind (arith, take_all)
