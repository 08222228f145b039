use Rattle.std.proofs.Common.{◌≡◌, arith}
use Rattle.visit_log.proofs.Apart.{slot-within, slot-at}
use Rattle.visit_log.proofs.Opening.{hold-after}
use Rattle.visit_log.proofs.cells.PlainCells.put_at.Goals as goal

pub replace-requires : goal.replace-requires
replace-requires c = grind (arith, slot-at, slot-within)

pub returns-clause-history : goal.returns-clause-history
returns-clause-history c = λ plan key goes its starts history actor hold.
    let wide : c.width.result ≡ c.args.self.now.width = grind arith in
    rw (c.replace.ensures, slot-at goes wide its)
    (hold-after c.same_key_means.ensures c.cell_after.ensures actor c.args.word goes its.cell hold)
