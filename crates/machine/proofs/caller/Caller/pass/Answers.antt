use Rattle.std.proofs.Common.{◌≡◌, ◌<◌, ◌∙◌, arith, subst}
use Rattle.net_reader.specs.Seen.{seen_input}
use Rattle.walk.specs.Climbs.{IsClimbOf}
use Rattle.machine.specs.Callers.{HasPassed}
use Rattle.machine.proofs.Passing.{ahead-cell, ahead-word, past-from, LooksAhead, behind-none, behind-some, passed-ahead, passed-none}
use Rattle.machine.proofs.Looked.{scripts-low, sub-known, walks-over}
use Rattle.machine.proofs.caller.Caller.pass.Goals as goal

pub returns-in_default-climb-clause-passed : goal.returns-in_default-climb-clause-passed
returns-in_default-climb-clause-passed g c = grind (arith, passed-none)

pub count_ahead-count-requires-clause-known : goal.count_ahead-count-requires-clause-known
count_ahead-count-requires-clause-known g c =
    let known = sub-known c.requires.stands.3 c.in-Some.is c.scripts_are_valid.ensures c.requires.together
    c.requires.high (scripts-low c.args.input.now.scripts.items c.args.actor c.requires.low) in
    omega (arith, c.sub.ensures, known, c.requires.stands.1.hold.subs)

pub count_ahead-count-requires-clause-over : goal.count_ahead-count-requires-clause-over
count_ahead-count-requires-clause-over g c = grind (arith, walks-over)

pub climb_past-requires-clause-over : goal.climb_past-requires-clause-over
climb_past-requires-clause-over g c = grind (arith, walks-over)

pub returns-then-count-gt0-clause-passed : goal.returns-then-count-gt0-clause-passed
returns-then-count-gt0-clause-passed g c = λ history sees place its.
    let plan = c.args.plan.now in
    let walk = c.in-Some.walk in
    let climb = c.in-Some-climb.climb in
    let count = c.count_ahead-count.result in
    let known = sub-known its c.in-Some.is c.scripts_are_valid.ensures c.requires.together c.requires.high
    (scripts-low c.args.input.now.scripts.items c.args.actor c.requires.low) in
    let at : IsClimbOf walk climb = c.in-Some-climb.ensures.is in
    let low : walk.sub < c.args.cells.now.subs = omega (arith, known, sees.hold.subs) in
    let ahead : LooksAhead (seen_input c.args.input.now) plan c.args.cells.now c.args.actor walk climb count = record {
      high = c.requires.high;
      each = λ i short.
          (c.climb_past.ensures.each i short).on.passes walk (past-from plan climb i ∙ at.from);
      cell = λ i short.
          ahead-cell c.args.cells.now.subs walk.sub c.plan_is_sound.ensures.matched
          (c.climb_past.ensures.each i short).over low;
      empty = λ i short.
          ahead-word climb walk.sub i sees.goes (rw c.sub.ensures at (c.count_ahead-count.ensures.empty i short));
    } in
    subst (HasPassed (seen_input c.args.input.now) plan c.args.cells.now history c.args.actor count)
    (behind-some walk c.args.self.now c.args.ticket c.climb_past.result count c.if-count-gt0.true c.resume.ensures.exact
    c.unwrap_or.ensures)
    (rw c.climb_past.ensures.exact (passed-ahead c.own_after.ensures.tickets c.lines_grow.ensures.read
    c.lines_grow.ensures.finds c.lines_grow.ensures.count c.each_visit_is_next.ensures.more c.args.self.now place ahead
    (rw (behind-none c.args.self.now c.args.ticket c.in-Some.is at) (passed-none sees its)) count (omega arith)))

pub returns-else-count-gt0-clause-passed : goal.returns-else-count-gt0-clause-passed
returns-else-count-gt0-clause-passed g c = λ history sees place its.
    let none : 0 ≡ c.count_ahead-count.result = omega (arith, c.if-count-gt0.false) in
    rw (← none) (rw c.in-Some.is at (passed-none sees its))
