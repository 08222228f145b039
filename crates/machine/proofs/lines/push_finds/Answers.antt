use Rattle.std.proofs.Common.{length, arith}
use Rattle.std.specs.Prelude.{vec_capacity}
use Rattle.std.proofs.lemmas.List.{take_all}
use Rattle.machine.specs.declared.caller.Caller.{Caller}
use Rattle.machine.proofs.Ending.{part-fits, part-more}
use Rattle.machine.proofs.lines.push_finds.Goals as goal

pub push_lines-requires : goal.push_lines-requires
push_lines-requires c = record {
  room = part-fits (λ (one : Caller). one.lines.items) c.args.callers.now c.callers.caller-index c.caller-item.result
      c.deref.result.now c.callers-test.true c.caller-item.is c.deref.ensures.value
      (length c.callers.calls.items) (vec_capacity c.callers.calls) c.callers.invariant.room;
}

pub callers-preserved : goal.callers-preserved
callers-preserved c =
    let more = part-more (λ (one : Caller). one.lines.items) c.args.callers.now c.callers.caller-index
    c.caller-item.result c.deref.result.now c.callers-test.true c.caller-item.is c.deref.ensures.value
    c.args.calls.now.items (vec_capacity c.callers.calls) (vec_capacity c.push_lines.new.calls)
    c.callers.invariant.items c.push_lines.ensures.items c.callers.invariant.room c.push_lines.ensures.capacity in
    grind arith

pub returns-clause-items : goal.returns-clause-items
returns-clause-items c = grind (arith, take_all)
