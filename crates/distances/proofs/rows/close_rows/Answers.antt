use Rattle.std.proofs.Common.{rules, ◌≡◌, length, arith}
use Rattle.std.proofs.lemmas.Nat.{mul-le, row_fits}
use Rattle.distances.proofs.Closing.{closing_ends, closing_step}
use Rattle.distances.proofs.rows.close_rows.Goals as goal

pub copy_within-requires : goal.copy_within-requires
copy_within-requires c = search (rules, row_fits, mul-le)

pub loop-u-preserved : goal.loop-u-preserved
loop-u-preserved c =
    closing_step c.requires.wide c.loop-u-test.true (omega arith) c.loop-u.invariant
    (let e : length c.copy_within.new.self.items ≡ length c.loop-u.table.items =
    omega (arith, c.copy_within.ensures.len) in e) c.copy_within.ensures.by_index.0 c.copy_within.ensures.by_index.1
    c.copy_within.ensures.by_index.2

pub returns : goal.returns
returns c = closing_ends c.requires.wide c.loop-u-test.false c.loop-u.invariant c.truncate.ensures.items
