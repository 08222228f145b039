use Rattle.std.proofs.Common.{◌∙◌, ap, ltb, List, Bool}
use Rattle.std.proofs.lemmas.Simd.{tops_compared}
use lib.Lanes.{sel_l}
use mir.Syntax.{w32}
use Rattle.distances.proofs.Chunks.{sel_min}
use Rattle.distances.proofs.weights.lesser_lanes.Goals as goal

pub returns : goal.returns
returns c = ap (λ (ms : List Bool). sel_l ms c.args.a c.args.b) (tops_compared w32 ltb c.args.a c.args.b)
    ∙ sel_min c.args.a c.args.b
