use Rattle.std.proofs.Common.{arith, ap, ◌∷◌, [], refl}
use Rattle.station.specs.HandsetLaws.{new-handset}
use Rattle.station.specs.Opening.{setup_of}
use Rattle.four_threads.proofs.crew.resting.Goals as goal

pub returns : goal.returns
returns c = record {
  own = new-handset (setup_of c.args.plan.now (3 ∷ []) 4) c.in_ok-handset.handset 0 c.in_ok-handset.ensures.goes
      (ap (λ h. h.sub) c.in_ok-handset.ensures.exact) (omega arith) (omega (arith, c.requires.nodes))
      (c.in_ok-handset.ensures.stands (3 ∷ []) refl);
}
