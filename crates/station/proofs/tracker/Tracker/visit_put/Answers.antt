use Rattle.std.proofs.Common.{arith, subst, sym, ap, ◌∙◌, ◌≡◌, ◌<◌, [], length, ℕ, Some}
use Rattle.entry_word.specs.declared.visit.Act.TheVariants.{Put}
use Rattle.entry_word.specs.declared.visit.Visit.{Visit}
use Rattle.directory.specs.Histories.{puts_to}
use Rattle.directory.specs.Keys.{key_node}
use Rattle.station.specs.Setup.{Setup, setting_in}
use Rattle.station.specs.Handsets.{HandsetGoesOn, IsHandsetOf, put_of}
use Rattle.station.specs.Passes.{PassData}
use Rattle.station.specs.Visits.{HasVisited, Makes}
use Rattle.station.specs.declared.view.View.{View}
use Rattle.station.proofs.Putting.{may_put, handset_after, put_due}
use Rattle.station.proofs.Ticketing.{lost_pass, own_few, pass_done, visit_done, pass_is, seen_done}
use Rattle.station.proofs.tracker.Tracker.visit_put.Goals as goal
use Rattle.handset.specs.StageLaws.{write-sub}

pub make_put-requires-clause-may : goal.make_put-requires-clause-may
make_put-requires-clause-may c =
    let v : View = c.pass.inside.seat.me.0 in
    let key = c.next_put-key.result.0 in
    let word = c.next_put-key.result.1 in
    let node = c.node_of-node.result in
    let told = c.pass.view_is in
    let setup : v.setup ≡ c.args.self.now.setup = ap (λ q. q.view.setup) told ∙ c.requires.of.setup in
    let sub : c.args.handset.now.sub ≡ v.low = c.requires.handset.sub ∙ sym (ap (λ q. q.view.low) told) in
    let spare : 0 < c.pass.inside.spare = omega (arith, c.requires.spare, ap (λ q. q.spare) told) in
    let h : IsHandsetOf c.args.self.now.setup v c.args.handset.now = rw (ap (λ q. q.view) told) c.requires.handset in
    let known = c.next_put-key.ensures.cell (rw h.sub h.script.known) in
    λ log. may_put v word log c.pass.invariant.undrawn c.pass.invariant.unwritten c.pass.invariant.clear
    (rw setup c.node_of-node.ensures.node)
    (own_few c.pass.invariant spare) (rw setup known) (c.next_put-key.ensures.sub ∙ sub)
    (rw setup (c.next_put-key.ensures.legal v h))

pub invariant_of-pass-2 : goal.invariant_of-pass-2
invariant_of-pass-2 c =
    let made = c.in_ok-ticket.ensures.made in
    let kept = c.keep_ticket.ensures in
    pass_is (pass_done (made.there, []) c.make_put.new.seat.me c.keep_ticket.new.spare c.pass.invariant kept.spare
    made.draws made.left c.make_put.ensures.slots) kept.seen kept.tickets kept.room

pub returns : goal.returns
returns c =
    let key = c.next_put-key.result.0 in
    let word = c.next_put-key.result.1 in
    let setup = c.args.self.now.setup in
    let old = c.args.pass.now in
    let told = c.pass.view_is in
    let h = c.requires.handset in
    let ticket = c.in_ok-ticket.ticket in
    let made = subst (λ (q : PassData). Makes q.view c.node_of-node.result (Put key word) ticket
    c.make_put.new.seat.me.0) told c.in_ok-ticket.ensures.made in
    let table = c.make_put.ensures.table ∙ ap (λ q. q.table) told in
    let seat = c.make_put.ensures.id ∙ ap (λ q. q.seat) told in
    let less = c.keep_ticket.ensures.spare ∙ ap (λ q. q.spare) told in
    let visited = visit_done old _ made.draws made.left
    (ap (λ (s : Setup). key_node (setting_in s) key) c.requires.of.setup ∙ sym c.node_of-node.ensures.node) made.won
    made.given_back table seat less in
    let made_count = length (puts_to old.view.low old.view.seen) in
    let puts = made.draws.puts (rw c.requires.of.setup h.script.known) in
    let made_by = λ (own : IsHandsetOf setup old.view c.args.handset.now).
    handset_after c.make_put.new.seat.me.0 key word made.draws.earlier own
    (c.next_put-key.ensures.next old.view own ∙ ap (λ (a : ℕ). Some (put_of a key word)) own.sub)
    (c.next_put-key.ensures.sub ∙ own.sub) visited.same.actor (seen_done old.view made.draws made.left) puts
    (rw (← c.requires.plan) c.made.ensures.goes)
    (grind (arith, write-sub))
    (rw (← c.requires.plan) (c.made.ensures.stands setup.homes own.steps made_count (rw c.requires.plan own.stands))) in
    let is_due = λ (P : Visit → Type 0). put_due key word P c.next_put-key.ensures.due h.sub in
    record {
      made = (
        is_due (λ (visit : Visit). HasVisited old visit.act ticket _) visited,
        c.made.ensures.exact,
        (made_by h).own,
      );
      goes_on = is_due (λ (visit : Visit). (own : IsHandsetOf setup old.view c.args.handset.now)
          → HandsetGoesOn setup old.view c.make_put.new.seat.me.0 c.made.new.self own.steps visit) made_by;
    }

pub invariant_of-pass : goal.invariant_of-pass
invariant_of-pass c =
    lost_pass _ _ c.pass.invariant c.in_err-ticket.ensures.made.0.2
