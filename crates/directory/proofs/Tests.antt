-- What holds both ways of a test.
use Rattle.std.proofs.Common.{Bool, true, false, cond}

pub both_ways : {A : Type 0} (P : A → Type 0) (test : Bool) {x y : A} → P x → P y → P (cond test x y)
both_ways P true this other = this
both_ways P false this other = other
