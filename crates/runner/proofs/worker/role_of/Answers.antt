use Rattle.std.proofs.Common.{ℕ, List, [], sym, ap, ◌∙◌, arith, get_or}
use Rattle.std.proofs.lemmas.List.{get_or_default}
use Rattle.region_plan.specs.Settings.{setting_of}
use Rattle.scripts.specs.Scripts.{most_in}
use Rattle.runner.proofs.Starting.{begin-inside, finder-at, mover-at}
use Rattle.runner.proofs.worker.role_of.Goals as goal
use Rattle.machine.specs.ScriptVisits.{script-searches, script-is}

pub most_of_script-requires : goal.most_of_script-requires
most_of_script-requires c = record {
  inside = begin-inside c.requires.may (script-is c.args.input.now.scripts.items c.args.actor c.requires.may.known
      c.index.ensures c.as_slice-script.ensures.value);
}

pub returns-then-actor-len-clause-role : goal.returns-then-actor-len-clause-role
returns-then-actor-len-clause-role c =
    let its = c.in_ok-mover.ensures in
    let script = script-is c.args.input.now.scripts.items c.args.actor c.requires.may.known c.index.ensures
    c.as_slice-script.ensures.value in
    mover-at c.scripts_are_valid.ensures c.moves_are_short.ensures c.in_ok-mover.mover
    (omega (arith, c.if-actor-len.true, c.len.ensures)) (its.script ∙ script) its.begun its.its its.goes
    (λ starts same. its.stands starts (ap (λ (hs : List ℕ). get_or hs c.args.actor 0) same
    ∙ (get_or_default c.args.input.now.homes.items c.args.actor 0 c.index-then-actor-len.result.now
    (omega (arith, c.if-actor-len.true, c.len.ensures)) ∙ sym c.index-then-actor-len.ensures)))
    (λ starts. c.in_ok-visits.ensures.most starts ∙ ap (most_in (setting_of c.args.plan.now starts)) (sym its.script))

pub new-requires-2 : goal.new-requires-2
new-requires-2 c = record {
  searches = script-searches c.args.plan.now c.args.actor c.requires.may.together.valid c.requires.may.together.nodes
      (omega (arith, c.if-actor-len.false, c.len.ensures)) c.requires.may.known
      (script-is c.args.input.now.scripts.items c.args.actor c.requires.may.known c.index.ensures
      c.as_slice-script.ensures.value) (omega (arith, c.len-2.ensures));
}

pub returns-clause-role : goal.returns-clause-role
returns-clause-role c = λ setup view spare set is none bare enough.
    let its = c.in_ok-finder.ensures in
    let script = script-is c.args.input.now.scripts.items c.args.actor c.requires.may.known c.index.ensures
    c.as_slice-script.ensures.value in
    finder-at c.lines_grow.ensures.kept c.in_ok-finder.finder (omega (arith, c.if-actor-len.false, c.len.ensures))
    c.requires.may.known (its.script ∙ script) (omega (arith, its.subs, c.len-2.ensures)) its.done
    (rw its.script its.walk) (λ starts. c.in_ok-visits.ensures.most starts
    ∙ ap (most_in (setting_of c.args.plan.now starts)) (sym its.script)) view spare set is none enough

pub returns-then-actor-len-clause-most : goal.returns-then-actor-len-clause-most
returns-then-actor-len-clause-most c =
    c.in_ok-visits.ensures.most []
    ∙ ap (most_in (setting_of c.args.plan.now [])) (script-is c.args.input.now.scripts.items c.args.actor
    c.requires.may.known c.index.ensures c.as_slice-script.ensures.value)

pub returns-clause-most : goal.returns-clause-most
returns-clause-most c =
    c.in_ok-visits.ensures.most []
    ∙ ap (most_in (setting_of c.args.plan.now [])) (script-is c.args.input.now.scripts.items c.args.actor
    c.requires.may.known c.index.ensures c.as_slice-script.ensures.value)
