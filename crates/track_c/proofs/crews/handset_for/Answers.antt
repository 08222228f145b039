use Rattle.std.proofs.Common.{ap, subst, sym, refl, ◌∙◌, ◌≡◌, ◌<◌, ℕ, List}
use Rattle.std.specs.Prelude.{slice_index}
use Rattle.region_plan.specs.Plan.{PlanData, nodes_of}
use Rattle.station.specs.HandsetLaws.{new-handset}
use Rattle.station.specs.Handsets.{IsHandsetOf}
use Rattle.station.specs.Passes.{fresh_view}
use Rattle.station.specs.Setup.{Setup}
use Rattle.track_c.proofs.crews.handset_for.Goals as goal

pub returns-in-Ok-clause-own : goal.returns-in-Ok-clause-own
returns-in-Ok-clause-own c =
    let setup : Setup = c.args.shared.now.tracker.setup in
    let actor : ℕ = c.args.actor in
    let handset = c.in-Ok.handset in
    let plan : PlanData = c.deref.result.now.plan in
    let homes : List ℕ = c.args.starts.now in
    let is_plan : plan ≡ setup.plan =
    ap (λ network. network.plan) c.deref.ensures ∙ c.args.shared.now.plan_is in
    let same : Setup = record setup { plan = plan; homes = homes } in
    let inside : slice_index homes actor < nodes_of setup.plan =
    c.requires.inside actor 0 c.requires.sub in
    let own : IsHandsetOf same (fresh_view same actor) handset =
    new-handset same handset actor c.in-Ok.ensures.goes (ap (λ h. h.sub) c.in-Ok.ensures.exact)
    c.requires.sub
    (subst (λ (p : PlanData). slice_index homes actor < nodes_of p) (sym is_plan) inside)
    (c.in-Ok.ensures.stands homes refl) in
    let at_plan = subst (λ (p : PlanData).
    let s : Setup = record setup { plan = p; homes = homes } in
    IsHandsetOf s (fresh_view s actor) handset) is_plan own in
    subst (λ (hs : List ℕ).
    let s : Setup = record setup { homes = hs } in
    IsHandsetOf s (fresh_view s actor) handset) c.requires.starts at_plan
