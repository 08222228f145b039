use Rattle.std.proofs.Common.{ℕ, leb, false, map, ap, ◌∙◌, arith, w32}
use Rattle.std.specs.Prelude.{◌==◌}
use Rattle.std.specs.Int.{bit_at}
use Rattle.std.proofs.lemmas.Simd.{bitmask_splat}
use Rattle.std.proofs.lemmas.List.{get_or-map}
use Rattle.node_set.proofs.Limiting.{bit_of_mask}
use Rattle.node_set.proofs.limit.lanes_within.Goals as goal

pub returns : goal.returns
returns c i h =
    let p = λ (x : ℕ). leb x c.args.limit in
    ap (λ n. bit_at n i == 1) (bitmask_splat w32 leb c.args.numbers 64 c.args.limit c.fits-numbers.0 (omega arith))
    ∙ bit_of_mask (map p c.args.numbers) i ∙ get_or-map p c.args.numbers i 0 false (omega (arith, c.fits-numbers.0))
