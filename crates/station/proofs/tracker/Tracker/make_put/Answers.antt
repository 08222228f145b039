use Rattle.std.proofs.lemmas.Grind.{common_steps}
use Rattle.std.proofs.Common.{subst, sym, ap, arith}
use Rattle.station.specs.Setup.{Setup}
use Rattle.station.specs.Handsets.{Moves}
use Rattle.station.specs.declared.view.View.{View}
use Rattle.station.proofs.Ticketing.{left_by}
use Rattle.station.proofs.Putting.{moves}
use Rattle.station.proofs.tracker.Tracker.make_put.Goals as goal

pub put_there-requires-clause-moves : goal.put_there-requires-clause-moves
put_there-requires-clause-moves c =
    let m = c.args.seat.now.me in
    let d = c.in_ok-ticket.ensures.drawn in
    let there : View = c.draw.new.seat.me.0 in
    subst (λ (s : Setup). Moves s there c.args.node c.args.key there.before c.args.word) c.requires.setup
    (moves m.0.setup there d.earlier c.args.word m.0.low c.args.key
    (rw c.requires.setup c.requires.cell.known) (rw c.requires.setup (sym c.requires.node))
    (ap (λ (v : View). v.seen) d.view) (ap (λ (v : View). v.owes) d.view) (ap (λ (v : View). v.tally) d.view)
    (ap (λ (v : View). v.before) d.view))

pub returns-clause-made : goal.returns-clause-made
returns-clause-made c =
    let there : View = c.draw.new.seat.me.0 in
    let new : View = c.give_back.new.seat.me.0 in
    let put = c.put_there.ensures.done in
    record {
      there = there;
      won = rw c.requires.low c.in_ok-ticket.ensures.logs;
      draws = c.in_ok-ticket.ensures.drawn;
      left = grind (arith, left_by);
      given_back = rw put at c.give_back.ensures.logs;
    }

pub put_there-requires-clause-turn : goal.put_there-requires-clause-turn
put_there-requires-clause-turn c = grind (arith, common_steps)

pub put_there-requires-clause-word : goal.put_there-requires-clause-word
put_there-requires-clause-word c = grind (arith, common_steps)
