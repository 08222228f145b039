use Rattle.std.proofs.lemmas.Grind.{common_steps}
use Rattle.std.proofs.Common.{arith, refl}
use Rattle.machine.proofs.Turning.{rooms-left, stridden, sub-may, sub-still, sub-turned}
use Rattle.machine.proofs.machine.Machine.write.Goals as goal

pub write-count-requires-clause-stands : goal.write-count-requires-clause-stands
write-count-requires-clause-stands g c =
    sub-may c.args.actor c.requires.stands.1 c.requires.known (omega (arith, c.len-ticket.ensures))
    c.index_mut.ensures.value

pub log_run-requires : goal.log_run-requires
log_run-requires g c =
    let may = sub-may c.args.actor c.requires.stands.1 c.requires.known (omega (arith, c.len-ticket.ensures))
    c.index_mut.ensures.value in
    let made = (c.write-count.ensures.taken may.0 may.1 may.2 may.3).0 in
    record {
      room = omega (
        arith,
        rooms-left c.requires.stands.1 made c.visits_are_few.ensures,
        may.2,
        c.len-ticket.ensures,
      );
    }

pub returns-clause-stands : goal.returns-clause-stands
returns-clause-stands g c = λ history stands.
    let may = sub-may c.args.actor stands c.requires.known (omega (arith, c.len-ticket.ensures))
    c.index_mut.ensures.value in
    let taken = c.write-count.ensures.taken history may.1 may.2 may.3 in
    stridden stands taken.0 c.visits_are_few.ensures c.each_visit_is_next.ensures.more c.room_for-reach.result
    (sub-turned stands taken.0 c.own_after.ensures.visits c.own_after.ensures.tickets c.lines_grow.ensures.kept _ _
    c.requires.known taken.0.its refl refl c.log_run.ensures.items c.log_run.ensures.capacity)
    (λ empty. omega (arith, c.room_for-reach.ensures.full empty c.requires.some, may.2, c.len-ticket.ensures)) taken.1
    (λ none. sub-still c.args.self.now c.args.actor c.index_mut.ensures.value (c.write-count.ensures.still none)
    (c.log_run.ensures.still none))

pub index_mut-requires : goal.index_mut-requires
index_mut-requires c = grind (arith, common_steps)

pub write-count-requires-clause-fits : goal.write-count-requires-clause-fits
write-count-requires-clause-fits c = grind (arith, common_steps)

pub write-count-requires-clause-low : goal.write-count-requires-clause-low
write-count-requires-clause-low c = grind (arith, common_steps)
