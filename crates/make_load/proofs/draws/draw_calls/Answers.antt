use Rattle.std.proofs.Common.{length, ap, ◌∙◌}
use Rattle.make_load.specs.Load.{drawn_calls}
use Rattle.make_load.proofs.Lists.{next-calls, next-calls-left, same-places}
use Rattle.make_load.proofs.draws.draw_calls.Goals as goal

pub loop-j-preserved : goal.loop-j-preserved
loop-j-preserved c =
    let load = c.args.load.now in
    let loop = c.loop-j in
    let made = c.draw_call in
    let all = drawn_calls load 0 load.calls c.args.places.now c.args.generator.now in record {
      subs = ap length made.ensures.places ∙ same-places load loop.j loop.places loop.generator ∙ loop.invariant.subs;
      value = next-calls load loop.j load.calls loop.places made.new.places loop.generator made.new.generator
          loop.calls.items c.push.new.self.items all.value made.result c.loop-j-test.true made.ensures.call
          made.ensures.places made.ensures.left c.in_ok-push.ensures.items loop.invariant.value;
      left = next-calls-left load loop.j load.calls loop.places made.new.places loop.generator made.new.generator
          all.left
          c.loop-j-test.true made.ensures.places made.ensures.left loop.invariant.left;
    }
