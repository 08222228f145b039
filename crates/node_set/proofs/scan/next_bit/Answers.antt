use Rattle.std.proofs.Common.{◌/◌, arith, refl}
use Rattle.node_set.proofs.Scans.{found_here, none_here, none_past}
use Rattle.node_set.proofs.scan.next_bit.Goals as goal
use Rattle.node_set.proofs.scan.next_bit.Goals.{then-first-words+else-rest-ne0, else-first-words}

pub returns-then-rest-ne0-clause-some : goal.returns-then-rest-ne0-clause-some
returns-then-rest-ne0-clause-some c =
    found_here c.args.words.now c.args.from refl (omega (arith, c.type_inv.words (c.args.from / 64)))
    (omega (arith, c.if-rest-ne0.true))

pub next_word-requires-clause-none : goal.next_word-requires-clause-none
next_word-requires-clause-none c = elim c.if-first-words.branch [
  | then-first-words+else-rest-ne0 w ↦
      none_here c.args.words.now c.args.from refl (omega (arith, w.if-rest-ne0.false))
  | else-first-words w ↦ λ x low high. none_past c.args.words.now c.args.from x
      (omega (arith, w.if-first-words.false)) low
]
