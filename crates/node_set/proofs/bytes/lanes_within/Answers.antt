use Rattle.std.proofs.Common.{ℕ, leb, false, map, ap, ◌∙◌, arith, w8}
use Rattle.std.specs.Prelude.{◌==◌}
use Rattle.std.specs.Int.{bit_at}
use Rattle.std.proofs.lemmas.Simd.{bitmask_splat}
use Rattle.std.proofs.lemmas.List.{get_or-map}
use Rattle.node_set.proofs.Limiting.{bit_of_mask}
use Rattle.node_set.proofs.bytes.lanes_within.Goals as goal

pub returns : goal.returns
returns c i h =
    let p = λ (x : ℕ). leb x c.args.limit in
    ap (λ n. bit_at n i == 1) (bitmask_splat w8 leb c.args.bytes 64 c.args.limit c.fits-bytes.0 (omega arith))
    ∙ bit_of_mask (map p c.args.bytes) i ∙ get_or-map p c.args.bytes i 0 false (omega (arith, c.fits-bytes.0))
