use Rattle.std.proofs.Common.{option_and_then, sym, ap, ◌∙◌}
use Rattle.serde_json.specs.View.{items_view}
use Rattle.json_form.specs.Taking.{each_in, edge_of, number_in}
use Rattle.json_form.proofs.Refused.{edge-none, none-of}
use Rattle.json_form.proofs.rows.write_edge.Goals as goal

pub returns-in-Some-clause-no : goal.returns-in-Some-clause-no
returns-in-Some-clause-no c = λ no.
    ap (λ o. option_and_then edge_of (option_and_then (each_in number_in) o)) (sym c.in-Some.ensures)
    ∙ none-of edge_of (each_in number_in (items_view c.in-Some.items.now.items))
    (λ ns is. c.write_row.ensures.no no ns (ap (λ vs. each_in number_in (items_view vs)) c.deref.ensures.value ∙ is))
    edge-none
