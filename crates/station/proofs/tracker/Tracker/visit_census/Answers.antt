use Rattle.std.proofs.lemmas.Grind.{common_steps}
use Rattle.std.proofs.Common.{arith, ap, ◌∙◌, refl}
use Rattle.entry_word.specs.declared.visit.Act.TheVariants.{Census}
use Rattle.directory.specs.Census.{census}
use Rattle.directory.specs.Histories.{before}
use Rattle.station.specs.Setup.{setting_in}
use Rattle.station.proofs.Growing.{census-counted}
use Rattle.station.proofs.Steps.{no_some}
use Rattle.station.proofs.Ticketing.{looked, look_done, lost_pass, may_draw, pass_is}
use Rattle.station.proofs.tracker.Tracker.visit_census.Goals as goal

pub draw-requires-clause-may : goal.draw-requires-clause-may
draw-requires-clause-may c =
    λ log. may_draw (Census c.args.node) log c.pass.invariant
    (omega (arith, c.requires.spare, ap (λ q. q.spare) c.pass.view_is)) refl (λ key e. no_some e) tt

pub invariant_of-pass-2 : goal.invariant_of-pass-2
invariant_of-pass-2 c =
    let d = c.in_ok-ticket.ensures.drawn in
    let kept = c.keep_ticket.ensures in
    pass_is (look_done c.keep_ticket.new.spare c.pass.invariant kept.spare d refl (λ _. refl) c.draw.ensures.slots
    (c.count_here-count.ensures.same ∙ c.list_here-who.ensures.same) c.give_back.ensures.left) kept.seen kept.tickets
    kept.room

pub returns : goal.returns
returns c =
    let node = c.args.node in
    let setting = setting_in c.args.self.now.setup in
    let here = c.count_here-count.ensures in
    let list = c.list_here-who.ensures in
    let back = c.give_back.ensures in
    let t = c.in_ok-ticket.ensures in
    let made = looked c.pass.view_is c.pass.invariant.low t.drawn t.logs refl (λ _. refl) refl (here.same ∙ list.same)
    (ap (λ m. m.0) back.left) back.logs (back.table ∙ (here.table ∙ (list.table ∙ c.draw.ensures.table)))
    (back.id ∙ (here.id ∙ (list.id ∙ c.draw.ensures.id))) c.keep_ticket.ensures.spare in
    let seen = ap (λ h. census setting h node) made.1
    ∙ census-counted setting (before c.in_ok-ticket.ticket c.give_back.new.seat.me.0.seen) node _ node in
    record {
      seen = grind arith;
    }

pub invariant_of-pass : goal.invariant_of-pass
invariant_of-pass c =
    lost_pass _ _ c.pass.invariant c.in_err-ticket.ensures.drawn.2

pub count_here-count-requires : goal.count_here-count-requires
count_here-count-requires c = grind (arith, common_steps)

pub list_here-who-requires : goal.list_here-who-requires
list_here-who-requires c = grind (arith, common_steps)
