use Rattle.std.proofs.Common.{ℕ, ap, length, arith}
use Rattle.input_text.specs.Listing.{ListingValue}
use Rattle.make_load.specs.Draws.{draw}
use Rattle.make_load.specs.Load.{others_of}
use Rattle.make_load.proofs.Lists.{count-drawn}
use Rattle.make_load.proofs.workload.make_input.Goals as goal

pub into_input-requires : goal.into_input-requires
into_input-requires c =
    let load = c.args.load in omega (
      arith,
      c.requires.few_subs,
      c.requires.few_callers,
      ap (λ (l : ListingValue). length l.homes) c.in_ok-new.ensures,
      ap (λ (l : ListingValue). l.callers) c.in_ok-new.ensures,
      count-drawn (λ (i : ℕ). draw load.nodes) 0 load.subs (others_of load).left,
    )
