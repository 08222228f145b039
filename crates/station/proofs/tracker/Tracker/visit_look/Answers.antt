use Rattle.std.proofs.lemmas.Grind.{common_steps}
use Rattle.std.proofs.Common.{arith, refl, sym, ap, ◌∙◌}
use Rattle.station.proofs.Growing.{cell-push}
use Rattle.entry_word.specs.declared.visit.Act.TheVariants.{Look}
use Rattle.directory.specs.Keys.{key_node}
use Rattle.station.specs.Setup.{setting_in}
use Rattle.station.proofs.Steps.{no_some}
use Rattle.station.proofs.Ticketing.{looked, look_done, lost_pass, may_draw, pass_is}
use Rattle.station.proofs.tracker.Tracker.visit_look.Goals as goal

pub draw-requires-clause-may : goal.draw-requires-clause-may
draw-requires-clause-may c =
    let setup = ap (λ q. q.view.setup) c.pass.view_is ∙ c.requires.of.setup in
    λ log. may_draw (Look c.args.key) log c.pass.invariant
    (omega (arith, c.requires.spare, ap (λ q. q.spare) c.pass.view_is))
    (ap (λ s. key_node (setting_in s) c.args.key) setup ∙ sym c.node_of-node.ensures.node) (λ key e. no_some e) tt

pub invariant_of-pass-2 : goal.invariant_of-pass-2
invariant_of-pass-2 c =
    let d = c.in_ok-ticket.ensures.drawn in
    let kept = c.keep_ticket.ensures in
    pass_is (look_done c.keep_ticket.new.spare c.pass.invariant kept.spare d refl (λ _. refl) c.draw.ensures.slots
    c.read_cell-word.ensures.same c.give_back.ensures.left) kept.seen kept.tickets kept.room

pub returns : goal.returns
returns c =
    let key = c.args.key in
    let setting = setting_in c.args.self.now.setup in
    let read = c.read_cell-word.ensures in
    let back = c.give_back.ensures in
    let t = c.in_ok-ticket.ensures in
    let made = looked c.pass.view_is c.pass.invariant.low t.drawn t.logs refl (λ _. refl)
    (grind arith) read.same
    (ap (λ m. m.0) back.left) back.logs (back.table ∙ (read.table ∙ c.draw.ensures.table))
    (back.id ∙ (read.id ∙ c.draw.ensures.id)) c.keep_ticket.ensures.spare in
    record {
      looked = grind (arith, cell-push);
    }

pub invariant_of-pass : goal.invariant_of-pass
invariant_of-pass c =
    lost_pass _ _ c.pass.invariant c.in_err-ticket.ensures.drawn.2

pub read_cell-word-requires : goal.read_cell-word-requires
read_cell-word-requires c = grind (arith, common_steps)
