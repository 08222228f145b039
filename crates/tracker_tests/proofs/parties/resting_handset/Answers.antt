use Rattle.std.proofs.Common.{arith, ap, ◌∷◌, [], refl}
use Rattle.station.specs.HandsetLaws.{new-handset}
use Rattle.station.specs.Opening.{setup_of}
use Rattle.tracker_tests.proofs.parties.resting_handset.Goals as goal

pub returns : goal.returns
returns c = record {
  own = new-handset (setup_of c.args.plan.now (c.args.home ∷ []) 3) c.in_ok-handset.handset 0
      c.in_ok-handset.ensures.goes (ap (λ h. h.sub) c.in_ok-handset.ensures.exact) (omega arith) c.requires.inside
      (c.in_ok-handset.ensures.stands (c.args.home ∷ []) refl);
}
