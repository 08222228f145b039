use Rattle.node_set.proofs.Limiting.{one_more, one_less}
use Rattle.std.proofs.Common.{ℕ, ◌+◌, arith}
use Rattle.std.proofs.lemmas.Bool.{le-leb, lt-leb}
use Rattle.std.specs.Prelude.{nat_le, slice_index}
use Rattle.node_set.proofs.bytes.rest_within.Goals as goal
use Rattle.node_set.proofs.bytes.rest_within.Goals.{then-bytes-at, else-bytes-at}

pub loop-i-preserved : goal.loop-i-preserved
loop-i-preserved c =
    let test = λ (j : ℕ). nat_le (slice_index c.args.bytes.now (c.args.at + j)) c.args.limit in
    elim c.if-bytes-at.branch [
      | then-bytes-at w ↦
          rw w.word-is (one_more test c.loop-i.word c.loop-i.i (omega (arith, c.loop-i-test.true, c.requires.few))
          (le-leb _ _ w.if-bytes-at.true) c.loop-i.invariant)
      | else-bytes-at w ↦
          rw w.word-is (one_less test c.loop-i.word c.loop-i.i (lt-leb _ _ w.if-bytes-at.false) c.loop-i.invariant)
    ]
