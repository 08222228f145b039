use Rattle.std.proofs.Common.{◌≡◌, ◌∙◌, ap, sym, get_or, ◌++◌, [], arith}
use Rattle.std.proofs.lemmas.List.{get_or-map, length-map}
use Rattle.net_reader.specs.Seen.{seen_input}
use Rattle.scripts.specs.ScriptLaws.{calls-few}
use Rattle.report_check.specs.Slots.{slots_in}
use Rattle.report_check.proofs.Steps.{scripts-done, scripts-step}
use Rattle.report_check.proofs.slots.slots_of.Goals as goal

pub push_slots-requires : goal.push_slots-requires
push_slots-requires c =
    let script : get_or (seen_input c.args.input.now).scripts c.actors.actor [] ≡ c.deref-in-actors.result.now =
    get_or-map (λ s. s.items) c.args.input.now.scripts.items c.actors.actor c.index.result.now []
    (omega (arith, c.actors-test.true, c.len-actor-end.ensures))
    ∙ ap (λ s. s.items) (sym c.index.ensures) ∙ sym c.deref-in-actors.ensures.value in record {
      few = rw script at (calls-few (seen_input c.args.input.now) c.actors.actor c.requires);
    }

pub actors-preserved : goal.actors-preserved
actors-preserved c =
    let script : get_or (seen_input c.args.input.now).scripts c.actors.actor [] ≡ c.deref-in-actors.result.now =
    get_or-map (λ s. s.items) c.args.input.now.scripts.items c.actors.actor c.index.result.now []
    (omega (arith, c.actors-test.true, c.len-actor-end.ensures))
    ∙ ap (λ s. s.items) (sym c.index.ensures) ∙ sym c.deref-in-actors.ensures.value in
    let home : c.start_of-start.result ≡ get_or c.args.input.now.homes.items c.actors.actor 0 =
    c.start_of-start.ensures ∙ ap (λ homes. get_or homes c.actors.actor 0) c.deref.ensures.value in
    scripts-step c.args.input.now.homes.items _ c.actors.actor (seen_input c.args.input.now).scripts (omega (
      arith,
      c.actors-test.true,
      c.len-actor-end.ensures,
      length-map c.args.input.now.scripts.items (λ s. s.items),
    )) script (c.in_ok-push_slots.ensures ∙ ap (λ h. c.actors.slots.items ++ slots_in c.actors.actor h 0
    c.deref-in-actors.result.now) home) c.actors.invariant

pub returns : goal.returns
returns c =
    scripts-done c.args.input.now.homes.items _ c.actors.actor (seen_input c.args.input.now).scripts (omega (
      arith,
      c.actors-test.false,
      c.len-actor-end.ensures,
      length-map c.args.input.now.scripts.items (λ s. s.items),
    )) c.actors.invariant
