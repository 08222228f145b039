use Rattle.std.proofs.lemmas.Grind.{common_steps}
use Rattle.std.proofs.Common.{sym, ap, ◌∙◌, refl, arith, length, subst}
use Rattle.net_reader.specs.declared.said.Call.TheVariants as calls
use Rattle.machine.specs.Owed.{Owes}
use Rattle.machine.proofs.Rests.{all-written, first-cell, first-put, shown-now, first-ahead, ready, script-of}
use Rattle.machine.proofs.subscriber.Subscriber.begin.Goals as goal

pub returns-then-place-script : goal.returns-then-place-script
returns-then-place-script c = λ history sees place its. (
  all-written c.requires.low (shown-now c.requires.none its) c.requires.together.valid c.requires.rests (omega (
    arith,
    c.if-place-script.true,
    c.len-place.ensures,
    ap length (script-of c.args.input.now c.args.sub c.requires.together c.requires.low c.index.ensures
        c.as_slice-script.ensures.value),
  )),
  refl,
  refl,
)

pub offset_bounds-script-place : goal.offset_bounds-script-place
offset_bounds-script-place c =
    let at = ready c.scripts_are_valid.ensures c.args.input.now (calls.Move 0) c.requires.together c.requires.low
    c.requires.none c.requires.stands.3 c.requires.rests c.index.ensures c.as_slice-script.ensures.value
    (omega (arith, c.len-place.ensures)) c.if-place-script.false in
    omega (arith, at.short, at.few)

pub bounds-script-place : goal.bounds-script-place
bounds-script-place c =
    let at = ready c.scripts_are_valid.ensures c.args.input.now (calls.Move 0) c.requires.together c.requires.low
    c.requires.none c.requires.stands.3 c.requires.rests c.index.ensures c.as_slice-script.ensures.value
    (omega (arith, c.len-place.ensures)) c.if-place-script.false in
    at.short

pub begin_step-line-requires-clause-may : goal.begin_step-line-requires-clause-may
begin_step-line-requires-clause-may c =
    let at = ready c.scripts_are_valid.ensures c.args.input.now (calls.Move 0) c.requires.together c.requires.low
    c.requires.none c.requires.stands.3 c.requires.rests c.index.ensures c.as_slice-script.ensures.value
    (omega (arith, c.len-place.ensures)) c.if-place-script.false in
    at.begin.may

pub push_reserved-requires : goal.push_reserved-requires
push_reserved-requires c =
    let at = ready c.scripts_are_valid.ensures c.args.input.now (calls.Move 0) c.requires.together c.requires.low
    c.requires.none c.requires.stands.3 c.requires.rests c.index.ensures c.as_slice-script.ensures.value
    (omega (arith, c.len-place.ensures)) c.if-place-script.false in
    omega (arith, at.left, c.requires.stands.3.shown.room, c.args.self.now.lines.ok.0)

pub index-write-requires : goal.index-write-requires
index-write-requires c =
    let at = ready c.scripts_are_valid.ensures c.args.input.now (calls.Move 0) c.requires.together c.requires.low
    c.requires.none c.requires.stands.3 c.requires.rests c.index.ensures c.as_slice-script.ensures.value
    (omega (arith, c.len-place.ensures)) c.if-place-script.false in
    let some = first-ahead c.fill.new.ahead.items at c.begin_step-line.ensures.its
    (c.begin_step-line.ensures.stands c.args.input.now.homes.items _ _ at.shown.handset) c.fill.ensures.rests in
    omega (arith, some, c.fill.new.ahead.ok.0)

pub put_at-requires : goal.put_at-requires
put_at-requires c =
    let at = ready c.scripts_are_valid.ensures c.args.input.now (calls.Move 0) c.requires.together c.requires.low
    c.requires.none c.requires.stands.3 c.requires.rests c.index.ensures c.as_slice-script.ensures.value
    (omega (arith, c.len-place.ensures)) c.if-place-script.false in
    let some = first-ahead c.fill.new.ahead.items at c.begin_step-line.ensures.its
    (c.begin_step-line.ensures.stands c.args.input.now.homes.items _ _ at.shown.handset) c.fill.ensures.rests in
    let owes = c.fill.ensures.ahead.owes c.begin_step-line.new.handset
    (subst (Owes c.args.plan.now c.args.cells.now.subs c.begin_step-line.new.handset c.begin_step-line.new.handset)
    (sym c.clear.ensures.items) refl) in
    let cell = first-cell c.args.plan.now c.args.cells.now.subs c.begin_step-line.new.handset c.fill.new.handset
    c.fill.new.ahead.items some c.index-write.ensures owes (c.begin_step-line.ensures.its ∙ at.shown.its) in
    record { cell = (c.args.plan.now, cell.0, c.requires.stands.1.goes, cell.1) }

pub returns : goal.returns
returns c = λ history sees place its.
    let at = ready c.scripts_are_valid.ensures c.args.input.now (calls.Move 0) c.requires.together c.requires.low
    c.requires.none its c.requires.rests c.index.ensures c.as_slice-script.ensures.value
    (omega (arith, c.len-place.ensures)) c.if-place-script.false in
    let begun = c.begin_step-line.ensures.stands c.args.input.now.homes.items _ _ at.shown.handset in
    let some = first-ahead c.fill.new.ahead.items at c.begin_step-line.ensures.its
    (c.begin_step-line.ensures.stands c.args.input.now.homes.items _ _ at.shown.handset) c.fill.ensures.rests in
    let owes = c.fill.ensures.ahead.owes c.begin_step-line.new.handset
    (subst (Owes c.args.plan.now c.args.cells.now.subs c.begin_step-line.new.handset c.begin_step-line.new.handset)
    (sym c.clear.ensures.items) refl) in
    first-put c.own_after.ensures.visits c.own_after.ensures.tickets c.tickets_tell.ensures.visits c.args.self.now
    c.begin_step-line.new.handset c.fill.new.ahead c.push_reserved.new.self c.requires.low place sees at.shown at.begin
    begun c.begin_step-line.ensures.its owes c.fill.ensures.ahead.goes c.fill.ensures.ahead.its
    (omega (arith, its.space, c.clear.ensures.capacity, c.fill.ensures.ahead.room)) some c.index-write.ensures
    c.push_reserved.ensures.items c.push_reserved.ensures.capacity c.begin_step-line.ensures.line at.left
    (λ key cell. c.put_at.ensures.history c.args.plan.now key sees.goes cell)
    (c.put_at.ensures.goes c.args.plan.now sees.goes) c.fill.ensures.ends

pub index-requires : goal.index-requires
index-requires c = grind (arith, common_steps)
