use Rattle.std.proofs.Common.{◌≡◌, ◌+◌, ◌++◌, ◌<◌, ◌^◌, length, ◌∙◌, ap, arith, string_bytes, subst}
use Rattle.census_text.specs.CensusText.{node_line, who_at}
use Rattle.census_text.proofs.Steps.{count-more, few-listed, lines-more}
use Rattle.census_text.proofs.lines.push_by_places.Goals as goal

pub loop-node-preserved : goal.loop-node-preserved
loop-node-preserved c =
    let few : length c.list_by_places.new.who.items < 2 ^ 32 = few-listed _ (length c.args.places.now)
    c.list_by_places.new.who.items c.requires.few c.in_ok-list_by_places.ensures in
    record {
      total = ap (λ n. c.loop-node.total + n) (c.in_ok-total.ensures.count ∙ ap length c.deref.ensures.value)
          ∙ count-more (who_at c.args.places.now) c.loop-node.node c.loop-node.total c.list_by_places.new.who.items
          c.loop-node.invariant.total c.in_ok-list_by_places.ensures;
      few = omega (
        arith,
        few,
        c.in_ok-total.ensures.count,
        ap length c.deref.ensures.value,
        c.loop-node.invariant.few,
      );
      lines = lines-more (who_at c.args.places.now) c.loop-node.node (string_bytes c.args.text.now)
          (string_bytes c.loop-node.text)
          (string_bytes c.push_node.new.text) c.list_by_places.new.who.items c.loop-node.invariant.lines
          (subst (λ listed. string_bytes c.push_node.new.text ≡ string_bytes c.loop-node.text
          ++ node_line c.loop-node.node listed) c.deref.ensures.value c.in_ok-total.ensures.line)
          c.in_ok-list_by_places.ensures;
    }

pub overflow_add-total : goal.overflow_add-total
overflow_add-total c =
    let few : length c.list_by_places.new.who.items < 2 ^ 32 = few-listed _ (length c.args.places.now)
    c.list_by_places.new.who.items c.requires.few c.in_ok-list_by_places.ensures in
    omega (
      arith,
      few,
      c.loop-node.invariant.few,
      c.loop-node.auto.node-end,
      c.ranges.nodes.fits,
      c.in_ok-total.ensures.count,
      ap length c.deref.ensures.value,
    )
