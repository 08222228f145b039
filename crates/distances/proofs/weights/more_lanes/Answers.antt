use Rattle.std.proofs.Common.{◌∙◌, ◌+◌, ◌^◌, ◌%◌, ◌≤◌, ℕ, arith}
use Rattle.std.proofs.lemmas.Simd.{zip2_splat}
use Rattle.distances.specs.declared.weights.TheConstants.{FAR}
use Rattle.distances.proofs.Chunks.{map_same}
use Rattle.distances.proofs.weights.more_lanes.Goals as goal

pub returns : goal.returns
returns c =
    zip2_splat (λ (x y : ℕ). (x + y) % 2 ^ 32) c.args.a 16 c.args.by c.fits-a.0
    ∙ map_same (λ x. (x + c.args.by) % 2 ^ 32) (λ x. c.args.by + x) (λ x. x ≤ FAR)
    (λ x light. omega (arith, c.requires.by)) c.args.a c.requires.light
