use Rattle.std.proofs.Common.{rules, ◌≡◌, ◌++◌, ◌≤◌, ◌*◌, ℕ, List, take, drop, length, ap, ◌∙◌, sym, arith}
use Rattle.std.specs.Prelude.{slice_index}
use Rattle.region_plan.proofs.Spreading.{row_short, row_small, row_written}
use Rattle.region_plan.proofs.spread.exponents_of.Goals as goal
use Rattle.std.proofs.lemmas.List.{take_at}
use Rattle.std.proofs.lemmas.List.Elements.{All-replicate}

pub loop-u-init : goal.loop-u-init
loop-u-init c = record {
  count = omega (
    arith,
    c.in_ok-exponents.ensures.len,
    c.in_ok-exponents.exponents.ok.0,
    ap (λ n. n * n) c.nodes-nodes.ensures.count,
  );
  few = rw (c.in_ok-exponents.ensures.items_if_clones_equal (λ y e. e))
      (All-replicate (λ e. e ≤ 30) (c.nodes-nodes.result * c.nodes-nodes.result) 0 (omega arith));
  each = λ u v none. absurd (omega arith);
}

pub write_exponents-requires-clause-small : goal.write_exponents-requires-clause-small
write_exponents-requires-clause-small c =
    row_small c.nodes-nodes.ensures.metric (omega (arith, c.loop-u-test.true, c.nodes-nodes.ensures.count))
    c.row.ensures

pub write_exponents-requires-clause-room : goal.write_exponents-requires-clause-room
write_exponents-requires-clause-room c = grind (arith, row_short)

pub loop-u-preserved : goal.loop-u-preserved
loop-u-preserved c =
    let kept : length c.write_exponents.new.exponents ≡ length c.loop-u.exponents.items =
    c.write_exponents.auto.exponents ∙ ap (length {A = ℕ}) c.deref_mut.ensures.value in
    let whole : take c.loop-u.exponents.len (c.write_exponents.new.exponents
    ++ drop (length c.write_exponents.new.exponents) c.loop-u.exponents.items) ≡ c.write_exponents.new.exponents =
    take_at c.write_exponents.new.exponents (drop (length c.write_exponents.new.exponents) c.loop-u.exponents.items)
    c.loop-u.exponents.len (kept ∙ sym c.loop-u.exponents.ok.0)
    in
    rw whole (record {
      count = kept ∙ c.loop-u.invariant.count;
      few = c.write_exponents.ensures.few (rw c.deref_mut.ensures.value c.loop-u.invariant.few);
      each = row_written c.loop-u.exponents.items c.write_exponents.new.exponents
          (ap (λ n. c.loop-u.u * n) c.nodes-nodes.ensures.count) c.row.ensures c.loop-u.invariant.each
          (λ x below. c.write_exponents.ensures.kept x below
          ∙ ap (λ (l : List ℕ). slice_index l x) c.deref_mut.ensures.value) c.write_exponents.ensures.each;
    })

pub returns : goal.returns
returns c = search rules
