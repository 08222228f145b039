-- Which JSON values tell a listing: the value that `tojson` writes of it, and the one without the
-- key `order`, where that list is empty; no number has more than the eighteen digits that a field
-- of an input text may have. Nothing else is asked: whether a listing is an input is for the
-- grammar of its text. Key laws: `json_text` (it gives the text of this listing, and refuses what
-- tells none), `inputs_return` (the value of each input tells it), `shapes_are_taken` (which
-- listing a value tells is computed), `worked_shapes` (examples).
use Rattle.std.specs.Prelude.{◌≡◌, ◌⊎◌, ℕ, ◌≤◌, All, List, [], ◌∷◌, ◌++◌, map}
use Rattle.std.specs.List.{concat}
use Rattle.input_text.specs.Listing.{ListingValue}
use Rattle.serde_json.specs.Data.{Data}
use Rattle.json_form.specs.Inputs.{call_numbers, edge_numbers, listing_value, value_with}

-- the greatest number of eighteen digits
abbrev pub most_number : ℕ
most_number = 999999999999999999

-- all numbers of a listing
abbrev pub numbers_of : ListingValue → List ℕ
numbers_of listing =
    concat ((listing.format ∷ listing.nodes ∷ listing.k ∷ listing.callers ∷ []) ∷ listing.homes
    ∷ listing.order ∷ map edge_numbers listing.edges ++ map call_numbers listing.calls)

-- the value tells this listing
pub record TellsListing (value : Data) (listing : ListingValue) : Type 0 where
  pub short : All (λ n. n ≤ most_number) (numbers_of listing)
  pub tells : (value ≡ listing_value listing)
      ⊎ ((listing.order ≡ []) × (value ≡ value_with (λ members. members) listing))
