-- What is answered to bytes that should be the JSON of an input: the text of the listing that they
-- are, or why they are none.
-- Key laws: `json_text` (it answers so), `inputs_return`, `one_text` (there is one answer).
use Rattle.std.specs.Prelude.{◌≡◌, ℕ, List, Result, Ok, Err, Some, None, Vec, IsUtf8}
use Rattle.std.specs.Global.{Global}
use Rattle.input_text.specs.Listing.{ListingValue, listing_text}
use Rattle.serde_json.specs.Data.{Data}
use Rattle.serde_json.specs.Read.{read}
use Rattle.json_form.specs.declared.fault.JsonFault.{JsonFault}
use Rattle.json_form.specs.declared.fault.JsonFault.TheVariants as faults
use Rattle.json_form.specs.Shapes.{TellsListing}

-- the bytes are a text that `serde_json` reads as this value
pub record IsJson (bytes : List ℕ) (value : Data) : Type 0 where
  pub utf8 : IsUtf8 bytes
  pub reads : read bytes ≡ Some value

-- the bytes aren't UTF-8, or `serde_json` reads no value in them
abbrev pub IsNoJson : List ℕ → Type 0
IsNoJson bytes = IsUtf8 bytes → read bytes ≡ None

-- the bytes are the JSON of this listing
pub record IsListed (bytes : List ℕ) (listing : ListingValue) : Type 0 where
  pub value : Data
  pub json : IsJson bytes value
  pub shape : TellsListing value listing

-- the bytes are JSON that tells no listing
pub record IsShapeless (bytes : List ℕ) : Type 0 where
  pub value : Data
  pub json : IsJson bytes value
  pub shape : (listing : ListingValue) → TellsListing value listing → ⊥

-- the bytes are the JSON of a listing, and this is its text
pub record IsTextOfJson (bytes text : List ℕ) : Type 0 where
  pub listing : ListingValue
  pub listed : IsListed bytes listing
  pub is : text ≡ listing_text listing

-- what is answered to bytes; want of memory says nothing of them
abbrev pub IsJsonText : List ℕ → Result (Vec ℕ Global) JsonFault → Type 0
IsJsonText bytes (Ok text) = IsTextOfJson bytes text.items
IsJsonText bytes (Err faults.Json) = IsNoJson bytes
IsJsonText bytes (Err faults.Shape) = IsShapeless bytes
IsJsonText bytes (Err faults.OutOfMemory) = Unit {0}
