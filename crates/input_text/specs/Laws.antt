-- The laws of the texts of inputs, as named statements.
-- Key laws: `listings_read` (`ListingsRead`), `inputs_read` (`InputsRead`).
use Rattle.std.specs.Prelude.{◌≤◌, ◌<◌, ◌+◌, All, length, Ok}
use Rattle.net_reader.specs.Input.{Contents, IsInput}
use Rattle.net_reader.specs.Table.{most_calls}
use Rattle.net_reader.specs.Valid.{IsValid}
use Rattle.input_text.specs.Listing.{ListingValue, contents_in, input_text_of, listing_text}

-- the listed input is valid, and each listed call is made by an actor that there is
pub record IsListing (listing : ListingValue) : Type 0 where
  pub valid : IsValid (contents_in listing)
  pub actors : All (λ call. call.actor < length listing.homes + listing.callers) listing.calls
  pub few : length listing.calls ≤ most_calls listing.format

-- the text of a listing reads as the listed input, so without a fault
abbrev pub ListingsRead : Type 0
ListingsRead =
    (listing : ListingValue) → IsListing listing
    → IsInput (listing_text listing) (Ok (contents_in listing))

-- the text of each valid input reads as that input, so without a fault
abbrev pub InputsRead : Type 0
InputsRead =
    (contents : Contents) → IsValid contents → IsInput (input_text_of contents) (Ok contents)
