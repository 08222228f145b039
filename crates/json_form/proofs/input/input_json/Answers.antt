use Rattle.net_reader.specs.Seen.{seen_input}
use Rattle.input_text.specs.Listing.{listing_of}
use Rattle.json_form.proofs.Texts.{input-is}
use Rattle.json_form.proofs.input.input_json.Goals as goal

pub returns : goal.returns
returns c = rw (
  c.in_ok-push_to_end.ensures,
  c.in_ok-push_to_order.ensures.text,
  c.in_ok-push_to_calls.ensures.text,
  c.deref-2.ensures.value,
  c.in_ok-calls.ensures,
  c.deref.ensures.value,
  c.new-text.ensures.items,
) (input-is (listing_of (seen_input c.args.input.now)))
