use Rattle.std.proofs.lemmas.Grind.{common_steps}
use Rattle.std.proofs.Common.{rules, ◌++◌, length, take, drop, arith, ap, sym, ◌∙◌}
use Rattle.net_graph.specs.declared.neighbours.Arc.{Arc}
use Rattle.net_graph.specs.Notes.{AreRows, JoinsOther}
use Rattle.net_graph.proofs.Rows.{laid_out_limits}
use Rattle.net_graph.proofs.LayingOut.{all_rows, rows_same_joins, rows_same_walks}
use Rattle.net_graph.proofs.Placing.{room_made}
use Rattle.net_graph.proofs.neighbours.Neighbours.new.Goals as goal
use Rattle.std.proofs.lemmas.List.{take_at}

pub fill_arcs-requires-clause-room : goal.fill_arcs-requires-clause-room
fill_arcs-requires-clause-room c = grind (arith, room_made, take_at)

module _ (c : goal.After-arcs-3-1) where
  -- the rows of the network's nodes
  made : AreRows c.args.n (JoinsOther c.args.edges.now) c.in_ok-starts.starts.items
      (take c.in_ok-arcs.arcs.len (c.fill_arcs.new.arcs ++ drop (length c.fill_arcs.new.arcs) c.in_ok-arcs.arcs.items))
  made = grind (
    arith,
    take_at c.fill_arcs.new.arcs (drop (length c.fill_arcs.new.arcs) c.in_ok-arcs.arcs.items) c.in_ok-arcs.arcs.len
        (c.fill_arcs.auto.arcs ∙ ap (length {A = Arc}) c.deref_mut-3.ensures.value ∙ sym c.in_ok-arcs.arcs.ok.0),
  )

pub invariant_of-result : goal.invariant_of-result
invariant_of-result c =
    all_rows c.args.n c.args.edges.now c.requires.edges (made c) c.requires.positive c.requires.few

pub returns : goal.returns
returns c = search (rules, rows_same_joins, made, rows_same_walks, laid_out_limits, all_rows)

pub count_arcs-requires : goal.count_arcs-requires
count_arcs-requires c = grind (arith, common_steps)

pub fill_arcs-requires-clause-arcs : goal.fill_arcs-requires-clause-arcs
fill_arcs-requires-clause-arcs c = grind (arith, common_steps)

pub fill_arcs-requires-clause-limits : goal.fill_arcs-requires-clause-limits
fill_arcs-requires-clause-limits c = grind (arith, common_steps)

pub fill_arcs-requires-clause-none : goal.fill_arcs-requires-clause-none
fill_arcs-requires-clause-none c = grind (arith, common_steps)
