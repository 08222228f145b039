use Rattle.std.proofs.Common.{◌≡◌, ◌+◌, ◌++◌, ◌<◌, ◌^◌, length, ◌∙◌, ap, arith, string_bytes, subst}
use Rattle.census_text.specs.CensusText.{node_line}
use Rattle.census_text.specs.Presence.{presence_at}
use Rattle.census_text.proofs.Steps.{count-more, few-listed, lines-more}
use Rattle.census_text.proofs.lines.push_by_cells.Goals as goal

pub loop-node-preserved : goal.loop-node-preserved
loop-node-preserved c =
    let few : length c.list_by_cells.new.who.items < 2 ^ 32 = few-listed _ c.args.cells.now.subs
    c.list_by_cells.new.who.items (omega (arith, c.requires.subs, c.ranges.subs.fits)) c.in_ok-list_by_cells.ensures in
    record {
      total = ap (λ n. c.loop-node.total + n) (c.in_ok-total.ensures.count ∙ ap length c.deref.ensures.value)
          ∙ count-more (presence_at c.args.plan.now c.args.cells.now) c.loop-node.node c.loop-node.total
          c.list_by_cells.new.who.items
          c.loop-node.invariant.total c.in_ok-list_by_cells.ensures;
      few = omega (
        arith,
        few,
        c.in_ok-total.ensures.count,
        ap length c.deref.ensures.value,
        c.loop-node.invariant.few,
      );
      lines = lines-more (presence_at c.args.plan.now c.args.cells.now) c.loop-node.node (string_bytes c.args.text.now)
          (string_bytes c.loop-node.text)
          (string_bytes c.push_node.new.text) c.list_by_cells.new.who.items c.loop-node.invariant.lines
          (subst (λ listed. string_bytes c.push_node.new.text ≡ string_bytes c.loop-node.text
          ++ node_line c.loop-node.node listed) c.deref.ensures.value c.in_ok-total.ensures.line)
          c.in_ok-list_by_cells.ensures;
    }
