-- The laws of the JSON of inputs, as named statements.
-- Key laws: `inputs_return` (`InputsReturn`), `one_text` (`OneListing`), `shapes_are_taken`
-- (`ShapesAreTaken`).
use Rattle.std.specs.Prelude.{◌≡◌, ◌↔◌, ℕ, List, Ok, Some}
use Rattle.net_reader.specs.Input.{Contents, IsInput}
use Rattle.net_reader.specs.Valid.{IsValid}
use Rattle.input_text.specs.Listing.{ListingValue, input_text_of}
use Rattle.serde_json.specs.Data.{Data}
use Rattle.json_form.specs.Shapes.{TellsListing}
use Rattle.json_form.specs.Taking.{listing_in}
use Rattle.json_form.specs.TextOfJson.{IsListed, IsNoJson, IsShapeless, IsTextOfJson}
use Rattle.json_form.specs.Inputs.{input_json_of}

-- the JSON of a valid input makes the input's own text, and that text reads as the input
abbrev pub InputsReturn : Type 0
InputsReturn =
    (contents : Contents) → IsValid contents
    → IsTextOfJson (input_json_of contents) (input_text_of contents)
    × IsInput (input_text_of contents) (Ok contents)

-- bytes are the JSON of one listing at most
abbrev pub OneListing : Type 0
OneListing =
    (bytes : List ℕ) (one other : ListingValue) → IsListed bytes one → IsListed bytes other
    → one ≡ other

-- the JSON of a listing is refused for no cause
abbrev pub NotRefused : Type 0
NotRefused =
    (bytes : List ℕ) (listing : ListingValue) → IsListed bytes listing
    → (IsNoJson bytes → ⊥) × (IsShapeless bytes → ⊥)

-- and JSON without the shape is JSON
abbrev pub OneCause : Type 0
OneCause = (bytes : List ℕ) → IsShapeless bytes → IsNoJson bytes → ⊥

-- the listing that a value tells, if it tells one, is the one that the code takes out of it
abbrev pub ShapesAreTaken : Type 0
ShapesAreTaken =
    (value : Data) (listing : ListingValue)
    → (listing_in value ≡ Some listing) ↔ TellsListing value listing
