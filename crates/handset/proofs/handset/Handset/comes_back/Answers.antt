use Rattle.std.proofs.Common.{arith, refl}
use Rattle.handset.proofs.handset.Handset.comes_back.Goals as goal

pub returns : goal.returns
returns c = λ plan kept goes.
    c.states_come_back.ensures.back plan _ _ kept (record { same = refl; goes = goes; sub = omega (arith, c.sub.ensures, c.sub.type_inv) })
