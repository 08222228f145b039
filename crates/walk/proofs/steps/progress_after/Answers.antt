use Rattle.std.proofs.Common.{None, ◌∙◌, sym, ap, subst, arith, []}
use Rattle.directory.specs.Finds.{after_word, FindCall}
use Rattle.region_plan.specs.Settings.{setting_of}
use Rattle.walk.specs.Walks.{IsProgressWithin, pursuit_at}
use Rattle.walk.proofs.Readers.{word-climbing}
use Rattle.walk.proofs.steps.progress_after.Goals as goal

pub returns-in-None-clause-pursuit : goal.returns-in-None-clause-pursuit
returns-in-None-clause-pursuit c = λ sub.
    let call : FindCall = record { from = c.args.from; sub = sub } in
    let within = subst (IsProgressWithin c.args.plan.now c.args.from) c.in-Climbing.is c.requires.within in
    c.past_entry.ensures.pursuit sub
    ∙ sym (ap (λ p. after_word (setting_of c.args.plan.now []) call (pursuit_at
    (setting_of c.args.plan.now []) c.args.from p) c.args.word) c.in-Climbing.is
    ∙ word-climbing c.args.plan.now c.args.from sub c.in-Climbing.known c.in-Climbing.weight c.in-Climbing.level
    c.in-Climbing.index c.args.word None within.1 (sym c.address_of.ensures ∙ c.in-None.is))

pub returns-in-Some-clause-pursuit : goal.returns-in-Some-clause-pursuit
returns-in-Some-clause-pursuit c = grind (arith, word-climbing)

pub returns-in-Some-clause-within : goal.returns-in-Some-clause-within
returns-in-Some-clause-within c = c.chase_from.ensures.within c.args.from

pub returns-in-Chasing-clause-within : goal.returns-in-Chasing-clause-within
returns-in-Chasing-clause-within c = c.at_mark.ensures.within c.args.from
