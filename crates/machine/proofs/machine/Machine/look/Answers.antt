use Rattle.std.proofs.lemmas.Grind.{common_steps}
use Rattle.std.proofs.Common.{◌≡◌, ◌+◌, ◌-◌, arith, length, refl}
use Rattle.machine.specs.Machines.{input_at}
use Rattle.machine.proofs.Looked.{scripts-low}
use Rattle.machine.proofs.Turning.{caller-may, caller-still, caller-turned, rooms-left, stridden}
use Rattle.machine.proofs.machine.Machine.look.Goals as goal

pub look-count-requires-clause-stands : goal.look-count-requires-clause-stands
look-count-requires-clause-stands g c =
    caller-may (c.args.actor - c.len.result) c.requires.stands.1
    (omega (arith, c.requires.high, c.len.ensures, c.requires.stands.1.subscribers_count))
    (scripts-low c.args.self.now.input.now.scripts.items c.args.actor c.requires.known)
    (omega (arith, c.len-ticket.ensures)) c.index_mut.ensures.value

pub log_run-requires : goal.log_run-requires
log_run-requires g c =
    let may = caller-may (c.args.actor - c.len.result) c.requires.stands.1
    (omega (arith, c.requires.high, c.len.ensures, c.requires.stands.1.subscribers_count))
    (scripts-low c.args.self.now.input.now.scripts.items c.args.actor c.requires.known)
    (omega (arith, c.len-ticket.ensures)) c.index_mut.ensures.value in
    let made = (c.look-count.ensures.taken may.0 may.1 may.2 may.3).0 in
    record {
      room = omega (
        arith,
        rooms-left c.requires.stands.1 made c.visits_are_few.ensures,
        may.2,
        c.len-ticket.ensures,
      );
    }

pub returns-clause-stands : goal.returns-clause-stands
returns-clause-stands g c = λ history stands.
    let at : c.args.actor ≡ length (input_at c.args.self.now).homes + (c.args.actor - c.len.result) =
    omega (arith, c.requires.high, c.len.ensures, stands.subscribers_count) in
    let may = caller-may (c.args.actor - c.len.result) stands at
    (scripts-low c.args.self.now.input.now.scripts.items c.args.actor c.requires.known)
    (omega (arith, c.len-ticket.ensures)) c.index_mut.ensures.value in
    let taken = c.look-count.ensures.taken history may.1 may.2 may.3 in
    stridden stands taken.0 c.visits_are_few.ensures c.each_visit_is_next.ensures.more c.room_for-reach.result
    (caller-turned stands taken.0 c.own_after.ensures.visits c.own_after.ensures.tickets c.lines_grow.ensures.kept
    (c.args.actor - c.len.result) _ _ at taken.0.its refl refl c.log_run.ensures.items c.log_run.ensures.capacity)
    (λ empty. omega (arith, c.room_for-reach.ensures.full empty c.requires.some, may.2, c.len-ticket.ensures)) taken.1
    (λ none. caller-still c.args.self.now (c.args.actor - c.len.result) c.index_mut.ensures.value
    (c.look-count.ensures.still none) (c.log_run.ensures.still none))

pub index_mut-requires : goal.index_mut-requires
index_mut-requires c = grind (arith, common_steps)

pub look-count-requires-clause-fits : goal.look-count-requires-clause-fits
look-count-requires-clause-fits c = grind (arith, common_steps)

pub look-count-requires-clause-low : goal.look-count-requires-clause-low
look-count-requires-clause-low c = grind (arith, common_steps)
