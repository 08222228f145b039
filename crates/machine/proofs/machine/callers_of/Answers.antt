use Rattle.std.proofs.Common.{◌≡◌, ◌<◌, ◌+◌, ◌∙◌, [], get_or, arith, length}
use Rattle.net_reader.specs.Seen.{seen_input}
use Rattle.machine.specs.Callers.{IsCaller}
use Rattle.machine.proofs.Turning.{caller-opens, each-more}
use Rattle.machine.proofs.machine.callers_of.Goals as goal
use Rattle.machine.specs.ScriptVisits.{script-searches, script-is}

pub new-requires : goal.new-requires
new-requires c =
    let low : c.len-subs.result + c.loop-caller.caller < length (seen_input c.args.input.now).scripts = omega arith in
    record {
      searches = script-searches c.args.plan.now (c.len-subs.result + c.loop-caller.caller) c.requires.together.valid
          c.requires.together.nodes (omega (arith, c.len-subs.ensures)) low
          (script-is c.args.input.now.scripts.items (c.len-subs.result + c.loop-caller.caller) low c.index.ensures
          c.as_slice-script.ensures.value) (omega (arith, c.len-subs.ensures));
    }

pub loop-caller-preserved : goal.loop-caller-preserved
loop-caller-preserved c =
    let low : c.len-subs.result + c.loop-caller.caller < length (seen_input c.args.input.now).scripts = omega arith in
    let count : c.len-subs.result ≡ length c.args.input.now.homes.items = omega (arith, c.len-subs.ensures) in
    let script : c.as_slice-script.result.now
    ≡ get_or (seen_input c.args.input.now).scripts (c.len-subs.result + c.loop-caller.caller) [] =
    script-is c.args.input.now.scripts.items (c.len-subs.result + c.loop-caller.caller) low c.index.ensures
    c.as_slice-script.ensures.value in
    record {
      count = omega (arith, c.push_reserved.new.self.ok.0, c.push_reserved.ensures.len, c.loop-caller.invariant.count);
      room = c.push_reserved.ensures.capacity ∙ c.loop-caller.invariant.room;
      each = each-more (λ i x. IsCaller (seen_input c.args.input.now) c.args.plan.now []
          (length c.args.input.now.homes.items + i) x) c.loop-caller.callers.items c.push_reserved.ensures.items
          (omega (arith, c.loop-caller.invariant.count)) c.loop-caller.invariant.each
          (rw count at (caller-opens (seen_input c.args.input.now) c.args.plan.now
          (c.len-subs.result + c.loop-caller.caller) c.in_ok-new.field-0 (omega (arith, c.len-subs.ensures)) low script
          c.in_ok-new.ensures.walk c.in_ok-new.ensures.first c.in_ok-new.ensures.lines c.in_ok-new.ensures.room));
    }
