use Rattle.std.proofs.Common.{arith, ap, ◌∷◌, [], refl, true}
use Rattle.station.specs.HandsetLaws.{new-handset, switched-handset}
use Rattle.station.specs.Opening.{setup_of}
use Rattle.station.specs.Passes.{fresh_view}
use Rattle.station.specs.Setup.{setting_in}
use Rattle.tracker_tests.proofs.parties.switching_handset.Goals as goal

pub returns : goal.returns
returns g c =
    let setup = setup_of c.args.plan.now (c.args.home ∷ []) 3 in
    let handset = c.in_ok-handset.handset in
    let new = new-handset setup handset 0 c.in_ok-handset.ensures.goes
    (ap (λ h. h.sub) c.in_ok-handset.ensures.exact) (omega arith) c.requires.inside
    (c.in_ok-handset.ensures.stands (c.args.home ∷ []) refl) in record {
      own = (switched-handset setup (fresh_view setup 0) handset c.switch.new.self true new
          c.in-Ok.ensures.faults c.in-Ok.ensures.exact
          (c.switch.ensures.goes c.args.plan.now c.in_ok-handset.ensures.goes)
          (c.in-Ok.ensures.stands (setting_in setup))).0;
    }
