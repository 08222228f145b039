use Rattle.std.proofs.Common.{◌≡◌, ◌++◌, refl}
use Rattle.std.proofs.lemmas.Result.{on_ok_weaker}
use Rattle.input_text.specs.Listing.{ListingValue, listing_text}
use Rattle.json_form.proofs.Listings.{text-behind}
use Rattle.json_form.proofs.text.push_listing.Goals as goal

pub returns-clause-ok : goal.returns-clause-ok
returns-clause-ok c =
    let format = c.in_ok-push_number.ensures.ok in
    let nodes = c.in_ok-push_number-2.ensures.ok in
    let k = c.in_ok-push_number-3.ensures.ok in
    let edges = c.in_ok-push_items.ensures.ok in
    let homes = c.in_ok-push_items-2.ensures.ok in
    let callers = c.in_ok-push_number-4.ensures.ok in
    let calls = c.in_ok-push_items-3.ensures.ok in
    on_ok_weaker c.push_order.result (λ order.
    let listing : ListingValue = record {
      format = format.0;
      nodes = nodes.0;
      k = k.0;
      edges = edges.1.0;
      homes = homes.1.0;
      callers = callers.0;
      calls = calls.1.0;
      order = order.0;
    } in
    let text : c.push_order.new.text.items ≡ c.args.text.now.items ++ listing_text listing =
    rw (
      order.2,
      calls.2,
      calls.1.2,
      callers.2,
      homes.2,
      homes.1.2,
      edges.2,
      edges.1.2,
      k.2,
      nodes.2,
      format.2,
    ) (text-behind c.args.text.now.items listing) in (
      listing_text listing,
      rw (format.1, nodes.1, k.1, edges.1.1, homes.1.1, callers.1, calls.1.1, order.1) refl,
      text,
    )) c.push_order.ensures.ok
