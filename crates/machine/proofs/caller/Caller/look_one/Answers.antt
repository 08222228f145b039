use Rattle.std.proofs.Common.{◌≡◌, ◌<◌, ◌∙◌, [], drop, ap, subst, sym, refl, arith, length, get_or, map}
use Rattle.std.specs.Prelude.{Some}
use Rattle.std.proofs.lemmas.List.{length_push}
use Rattle.scripts.specs.Scripts.{find_of}
use Rattle.machine.specs.Stands.{setting_over, IsWalking}
use Rattle.machine.proofs.Looked.{room-left, wanted, scripts-low, place-low, call-at, looks, looked-on, looked-up}
use Rattle.net_reader.specs.Seen.{seen_input}
use Rattle.region_plan.specs.Plan.{nodes_of}
use Rattle.walk.specs.Walks.{IsWordBelow}
use Rattle.directory.specs.Finds.{at_origin}
use Rattle.scripts.specs.ScriptLaws.{calls-few, finds-are}
use Rattle.machine.proofs.caller.Caller.look_one.Goals as goal
use Rattle.machine.proofs.caller.Caller.look_one.Goals.{After-len}
use Rattle.machine.specs.ScriptVisits.{script-searches, script-is}

pub look-requires-clause-cell : goal.look-requires-clause-cell
look-requires-clause-cell c =
    (wanted c.marks_tell.ensures.marks c.entries_tell.ensures.entries c.every_order_is_legal.ensures
    c.scripts_are_valid.ensures c.requires.together c.plan_is_sound.ensures.matched c.requires.high
    (scripts-low c.args.input.now.scripts.items c.args.actor c.requires.low) c.requires.stands.1 c.requires.stands.3
    c.in-Some.is (sym c.next.ensures ∙ c.in-Some-next.is)).is_cell

pub saw-requires-clause-word : goal.saw-requires-clause-word
saw-requires-clause-word c =
    subst (IsWordBelow (nodes_of c.args.plan.now) c.in-Some.walk.progress)
    (sym (c.look.ensures.history c.args.input.now.homes.items c.requires.stands.0 c.requires.stands.1.hold))
    (wanted c.marks_tell.ensures.marks c.entries_tell.ensures.entries c.every_order_is_legal.ensures
    c.scripts_are_valid.ensures c.requires.together c.plan_is_sound.ensures.matched c.requires.high
    (scripts-low c.args.input.now.scripts.items c.args.actor c.requires.low) c.requires.stands.1 c.requires.stands.3
    c.in-Some.is (sym c.next.ensures ∙ c.in-Some-next.is)).is_below

pub returns-in_default-answer : goal.returns-in_default-answer
returns-in_default-answer c = λ history sees place its.
    looked-on c.lines_grow.ensures.read c.lines_grow.ensures.finds c.lines_grow.ensures.count c.requires.high sees place
    its (looks c.own_after.ensures.tickets c.saw.new.self c.requires.high its c.in-Some.is
    (sym c.next.ensures ∙ c.in-Some-next.is) (c.look.ensures.history c.args.input.now.homes.items history sees.hold)
    c.saw.ensures.call c.saw.ensures.pursuit) c.saw.ensures.goes
    (sym c.in_default-answer.is ∙ c.answer.ensures c.args.plan.now c.saw.ensures.goes)
    (ap (λ f. record c.args.self.now { walk = Some c.saw.new.self; first = Some f }) c.unwrap_or-first.ensures)

script-here : (c : After-len)
    → c.as_slice-script.result.now ≡ get_or (seen_input c.args.input.now).scripts c.args.actor []
script-here c = script-is c.args.input.now.scripts.items c.args.actor
    (scripts-low c.args.input.now.scripts.items c.args.actor c.requires.low) c.index.ensures
    c.as_slice-script.ensures.value

low-here : (c : After-len) → c.len.result < length c.as_slice-script.result.now
low-here c =
    let few = place-low c.requires.stands.3 c.in-Some.is c.requires.high
    (scripts-low c.args.input.now.scripts.items c.args.actor c.requires.low) in
    omega (arith, few, ap length (script-here c), c.len.ensures)

pub offset_bounds-script-len : goal.offset_bounds-script-len
offset_bounds-script-len c = grind (arith, calls-few, low-here, script-here)

pub bounds-script-len : goal.bounds-script-len
bounds-script-len c = low-here c

pub push_reserved-requires : goal.push_reserved-requires
push_reserved-requires c = room-left c.requires.stands.3 c.in-Some.is

pub walk_at-self-requires : goal.walk_at-self-requires
walk_at-self-requires c =
    let low = scripts-low c.args.input.now.scripts.items c.args.actor c.requires.low in
    record {
      searches = script-searches c.args.plan.now c.args.actor c.requires.together.valid c.requires.together.nodes
          c.requires.high low (script-is c.args.input.now.scripts.items c.args.actor low c.index.ensures
          c.as_slice-script.ensures.value) (omega (arith, c.len-3.ensures));
    }

pub returns : goal.returns
returns c = λ history sees place its.
    let low = scripts-low c.args.input.now.scripts.items c.args.actor c.requires.low in
    let script = script-is c.args.input.now.scripts.items c.args.actor low c.index.ensures
    c.as_slice-script.ensures.value in
    let count : length c.args.self.now.lines.items ≡ c.len.result = omega (arith, c.len.ensures) in
    looked-up c.lines_grow.ensures.read c.lines_grow.ensures.finds c.lines_grow.ensures.count _ c.requires.high sees
    place its (looks c.own_after.ensures.tickets c.saw.new.self c.requires.high its c.in-Some.is
    (sym c.next.ensures ∙ c.in-Some-next.is) (c.look.ensures.history c.args.input.now.homes.items history sees.hold)
    c.saw.ensures.call c.saw.ensures.pursuit) (sym c.in-Some-answer.is
    ∙ c.answer.ensures c.args.plan.now c.saw.ensures.goes)
    (λ call later left. rw (
      c.line_of-line.ensures,
      call-at (seen_input c.args.input.now) c.args.plan.now c.args.actor c.len.result _ c.requires.high low script
          (omega (arith, c.len.ensures, ap length script, place-low its c.in-Some.is c.requires.high low))
          (rw count at left),
      c.unwrap_or-first.ensures,
    )) c.push_reserved.ensures.items
    (omega (
      arith,
      c.len-2.ensures,
      ap length c.push_reserved.ensures.items,
      length_push c.args.self.now.lines.items
          c.line_of-line.result,
    ))
    c.push_reserved.ensures.capacity refl (subst
    (λ fs. IsWalking c.args.plan.now (drop c.len-2.result fs) at_origin c.walk_at-self.result)
    (ap (map find_of) script ∙ sym (finds-are (seen_input c.args.input.now)
    (setting_over (seen_input c.args.input.now) c.args.plan.now) c.args.actor refl c.requires.high low))
    c.walk_at-self.ensures)
