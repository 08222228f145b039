use Rattle.std.proofs.Common.{◌+◌, ◌^◌, ◌≤◌, length, subst, sym, arith}
use Rattle.directory.specs.Histories.{own}
use Rattle.tracker_tests.proofs.room_tests.has_reserved.Goals as goal

pub reserve-requires : goal.reserve-requires
reserve-requires c =
    let small : 0 + c.args.visits ≤ 2 ^ 56 = omega (arith, c.requires.few) in record {
      few = subst (λ history. length (own c.args.pass.now.view.low history) + c.args.visits ≤ 2 ^ 56)
          (sym c.requires.fresh) small;
    }
