use Rattle.std.proofs.Common.{◌≡◌, ◌<◌, ◌∙◌, ap, arith, get_or, length, set, List, Vec, Global}
use Rattle.std.proofs.lemmas.List.{get_or_read}
use Rattle.report_check.specs.declared.blocks.Block.{Block}
use Rattle.report_check.specs.declared.calls.Line.TheVariants.{Move}
use Rattle.report_check.specs.Blocks.{grown, no_block}
use Rattle.report_check.proofs.Blocking.{blocks-line, blocks-other}
use Rattle.report_check.proofs.blocks.blocks_of.Goals as goal
use Rattle.report_check.proofs.blocks.blocks_of.Goals.{then-actor-len, else-actor-len}

pub lines-preserved : goal.lines-preserved
lines-preserved c =
    let blocks : List Block = c.lines.blocks.items in
    let actor = c.actor_of-actor.result in
    let place = c.lines.place in
    elim c.if-actor-len.branch [
      | then-actor-len w ↦
          let known : actor < length blocks = omega (arith, w.if-actor-len.true, c.len.ensures) in
          let block : w.index.result.now ≡ get_or blocks actor no_block =
          get_or_read blocks actor w.index.result.now known w.index.ensures no_block in
          let same : c.if-actor-len.blocks.items ≡ set blocks actor (grown (get_or blocks actor no_block) place) =
          ap (λ (v : Vec Block Global). v.items) w.blocks-is
          ∙ ap (set blocks actor) (w.with_line.ensures ∙ ap (λ b. grown b place) block) in
          blocks-line c.args.calls.now blocks (Move 0 0 0 0 0 0 0 0) c.lines-test.true c.actor_of-actor.ensures known
          same c.lines.invariant
      | else-actor-len w ↦
          rw w.blocks-is (blocks-other c.args.calls.now blocks (Move 0 0 0 0 0 0 0 0) c.lines-test.true
          c.actor_of-actor.ensures (omega (arith, w.if-actor-len.false, c.len.ensures)) c.lines.invariant)
    ]
