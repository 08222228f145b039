use Rattle.std.proofs.Common.{arith, subst, sym, ap, ◌∙◌, ◌≡◌, ◌≤◌, ◌^◌, length, Some}
use Rattle.std.specs.Prelude.{slice_get}
use Rattle.entry_word.specs.declared.visit.Visit.{Visit}
use Rattle.directory.specs.Keys.{key_sub}
use Rattle.directory.specs.Histories.{puts_to}
use Rattle.directory.specs.Writes.{visits}
use Rattle.region_plan.specs.Plan.{PlanData}
use Rattle.region_plan.specs.Settings.{setting_of}
use Rattle.handset.specs.Stands.{StandsForSteps}
use Rattle.visit_log.specs.Cells.{HasHomes}
use Rattle.station.specs.Setup.{nodes_in}
use Rattle.station.specs.Handsets.{put_of}
use Rattle.station.proofs.Putting.{due_is, due_legal}
use Rattle.station.proofs.tracker.Tracker.next_put.Goals as goal

pub returns-clause-legal : goal.returns-clause-legal
returns-clause-legal c = λ view own.
    let setup = c.args.self.now.setup in
    let handset = c.args.handset.now in
    let visit = c.in-Some.visit in
    let key = c.in-Put.key in
    let word = c.in-Put.word in
    let told = ap (λ t. t.setup) c.self.view_is in
    let homes : HasHomes c.args.plan.now = subst HasHomes (sym (c.requires.plan
    ∙ sym (ap (λ s. s.plan) told))) c.self.invariant.homes in
    let d = due_is c.requires.goes homes (sym c.next.ensures.exact ∙ c.in-Some.is) in
    let act = sym d.act ∙ c.in-Put.is in
    let same : d.key ≡ key = cc in
    let mine : key_sub key ≡ view.low = sym (ap key_sub same) ∙ (d.key_of ∙ own.sub) in
    let whole : visit ≡ put_of view.low key word = λ i. record { actor = (d.actor ∙ own.sub) i; act = c.in-Put.is i } in
    let made = length (puts_to view.low view.seen) in
    let next = subst (λ (p : PlanData). StandsForSteps (setting_of p setup.homes) handset own.steps made
    → c.next.result ≡ slice_get (visits (setting_of p setup.homes) handset.sub own.steps) made) c.requires.plan
    (c.next.ensures.stands setup.homes own.steps made) own.stands in
    let few : nodes_in setup ≤ 2 ^ 16 =
    omega (arith, c.self.invariant.nodes_are, c.self.invariant.few_nodes, ap nodes_in told) in
    due_legal c.script_is_legal.ensures key word few own (sym next ∙ (c.in-Some.is ∙ ap (λ (v : Visit). Some v) whole))
    mine
