use Rattle.std.proofs.Common.{rules, length, drop, refl}
use Rattle.std.proofs.lemmas.List.{take_at}
use Rattle.distances.proofs.FirstTable.{rows_made}
use Rattle.distances.proofs.distances.all_distances.Goals as goal

pub returns : goal.returns
returns c =
    rows_made c.least_weight_is_found.ensures c.least_weight_is_bounded.ensures c.nodes-n.ensures.sound
    c.nodes-n.ensures.count c.width_for-width.ensures.wide
    (drop (length c.eliminate.new.table) c.in_ok-table.table.items) c.in_ok-table.ensures c.deref_mut.ensures.value
    c.deref_mut.ensures.len c.in_ok-eliminate.ensures refl c.close_rows.ensures

pub close_rows-requires-clause-count : goal.close_rows-requires-clause-count
close_rows-requires-clause-count c = search (rules, take_at)
