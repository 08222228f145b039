use Rattle.std.proofs.Common.{◌≡◌, ◌<◌, [], sym, ap, ◌∙◌, arith, get_or, refl, length}
use Rattle.net_reader.specs.Seen.{seen_input}
use Rattle.machine.specs.Subscribers.{IsSubscriber}
use Rattle.machine.proofs.Rests.{script-of}
use Rattle.machine.proofs.Turning.{each-more, sub-opens}
use Rattle.std.proofs.lemmas.List.{get_or_default}
use Rattle.machine.proofs.machine.subscribers_of.Goals as goal

pub loop-sub-preserved : goal.loop-sub-preserved
loop-sub-preserved c =
    let low : c.loop-sub.sub < length c.args.input.now.homes.items = grind arith in
    let steps : c.len-steps.result ≡ length (get_or (seen_input c.args.input.now).scripts c.loop-sub.sub []) = omega (
      arith,
      c.len-steps.ensures,
      ap length (script-of c.args.input.now c.loop-sub.sub c.requires.together low c.index.ensures refl),
    ) in
    record {
      count = omega (arith, c.push_reserved.new.self.ok.0, c.push_reserved.ensures.len, c.loop-sub.invariant.count);
      room = c.push_reserved.ensures.capacity ∙ c.loop-sub.invariant.room;
      each = each-more (λ i x. IsSubscriber (seen_input c.args.input.now) c.args.plan.now [] i x)
          c.loop-sub.subscribers.items c.push_reserved.ensures.items (omega (arith, c.loop-sub.invariant.count))
          c.loop-sub.invariant.each (sub-opens c.in_ok-new.field-0 c.requires.together.valid low
          (c.in_ok-new.ensures.handset c.args.input.now.homes.items
          (get_or_default c.args.input.now.homes.items c.loop-sub.sub 0 c.index-home.result.now low
          ∙ sym c.index-home.ensures)) c.in_ok-new.ensures.goes c.in_ok-new.ensures.its c.in_ok-new.ensures.ahead.0
          c.in_ok-new.ensures.ahead.1 c.in_ok-new.ensures.space c.in_ok-new.ensures.lines
          (c.in_ok-new.ensures.room ∙ steps) c.in_ok-new.ensures.rests);
    }
