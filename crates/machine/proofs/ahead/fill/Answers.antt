use Rattle.std.proofs.lemmas.Grind.{common_steps}
use Rattle.std.proofs.Common.{◌≡◌, [], None, arith, refl, subst, sym}
use Rattle.region_plan.specs.Settings.{setting_of}
use Rattle.handset.specs.StepWrites.{due}
use Rattle.machine.specs.Owed.{HasNone, Owes}
use Rattle.machine.proofs.Owing.{ahead-joined, ahead-more, ahead-none}
use Rattle.machine.proofs.ahead.fill.Goals as goal

pub writes-init : goal.writes-init
writes-init c = grind (arith, ahead-none)

pub writes-preserved : goal.writes-preserved
writes-preserved c =
    let plan = c.args.plan.now in
    let subs = c.args.cells.now.subs in
    let old = c.args.handset.now in
    let one = ahead-more c.push_reserved.new.self c.writes.invariant.ahead c.in-Some.ensures.next
    c.push_reserved.ensures.items c.push_reserved.ensures.capacity in
    let all = ahead-joined one (c.push_entries.ensures subs (omega (arith, c.requires.known, one.its))) in
    record { goes = all.goes; its = all.its; ahead = all }

pub returns-in_default-clause-rests : goal.returns-in_default-clause-rests
returns-in_default-clause-rests c = λ none.
    let plan = c.args.plan.now in
    let subs = c.args.cells.now.subs in
    let old = c.args.handset.now in
    let same : c.writes.handset ≡ old =
    subst (Owes plan subs old c.writes.handset) none
    (c.writes.invariant.ahead.owes old (subst (Owes plan subs old old) (sym c.requires.none) refl)) in
    subst (HasNone plan) same c.in_default.ensures.rests

pub returns-in_default-clause-ends : goal.returns-in_default-clause-ends
returns-in_default-clause-ends c = λ room.
    subst (λ h. due (setting_of c.args.plan.now []) h ≡ None) (sym c.in_default.ensures.still)
    c.in_default.ensures.rests.due

pub writes-smaller : goal.writes-smaller
writes-smaller c = grind (arith, common_steps)
