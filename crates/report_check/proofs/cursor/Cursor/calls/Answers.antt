use Rattle.std.proofs.Common.{◌≡◌, ◌∙◌, ◌∷◌, [], ◌+◌, ap, sym, drop, map, Err, length, arith}
use Rattle.std.proofs.lemmas.List.{length-map, map-append}
use Rattle.report_check.specs.ReadLines.{done_of}
use Rattle.report_check.specs.Reading.{calls_in}
use Rattle.report_check.proofs.Turns.{calls-bad, calls-done, calls-more}
use Rattle.report_check.proofs.cursor.Cursor.calls.Goals as goal

pub returns-in-None : goal.returns-in-None
returns-in-None c =
    let count : length (map done_of c.slots.calls.items) ≡ c.len.result =
    omega (arith, c.len.ensures, length-map c.slots.calls.items done_of) in
    c.slots.invariant
    ∙ calls-bad c.args.bounds (map done_of c.slots.calls.items) c.args.slots.now c.slots.slot-index _
    c.slots.self.rest.now c.slots-test.true c.in-None.ensures.none
    ∙ ap Err count

pub slots-preserved : goal.slots-preserved
slots-preserved c =
    c.slots.invariant
    ∙ calls-more c.args.bounds (map done_of c.slots.calls.items) c.args.slots.now c.slots.slot-index _
    c.slots.self.rest.now c.call.new.self.rest.now (done_of c.in-Some.line) c.slots-test.true c.in-Some.ensures.some
    ∙ ap (λ before. calls_in c.args.bounds before (drop (c.slots.slot-index + 1) c.args.slots.now)
    c.call.new.self.rest.now)
    (sym (ap (map done_of) c.in_ok-push-in-Some.ensures.items
    ∙ map-append done_of c.slots.calls.items (c.in-Some.line ∷ [])))

pub returns : goal.returns
returns c =
    c.slots.invariant
    ∙ calls-done c.args.bounds (map done_of c.slots.calls.items) c.args.slots.now c.slots.slot-index
    c.slots.self.rest.now c.slots-test.false
