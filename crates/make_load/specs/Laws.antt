-- The laws of made workloads, as named statements.
-- Key laws: `loads_are_listings` (`LoadsAreListings`), `loads_read` (`LoadsRead`),
-- `loads_are_valid` (`LoadsAreValid`), `words_are_loads` (`WordsAreLoads`).
use Rattle.std.specs.Prelude.{◌≡◌, ◌⊎◌, ℕ, List, Some, Ok}
use Rattle.net_reader.specs.Input.{IsInput}
use Rattle.net_reader.specs.Valid.{IsValid}
use Rattle.word_line.specs.declared.command.Command.TheVariants.{Make, Trial}
use Rattle.word_line.specs.declared.load.Load.{Load}
use Rattle.word_line.specs.Forms.{command_of}
use Rattle.input_text.specs.Laws.{IsListing}
use Rattle.make_load.specs.Load.{IsLoad, listing_of, load_contents, load_text_of}

-- what a load makes is listed as an input is
abbrev pub LoadsAreListings : Type 0
LoadsAreListings = (load : Load) → IsLoad load → IsListing (listing_of load)

-- the text of a load reads as the input that it makes, so without a fault
abbrev pub LoadsRead : Type 0
LoadsRead = (load : Load) → IsLoad load → IsInput (load_text_of load) (Ok (load_contents load))

-- the input that a load makes is valid
abbrev pub LoadsAreValid : Type 0
LoadsAreValid = (load : Load) → IsLoad load → IsValid (load_contents load)

-- the load of each command that has one is within the limits
abbrev pub WordsAreLoads : Type 0
WordsAreLoads =
    (words : List (List ℕ)) (load : Load)
    → (command_of words ≡ Some (Make load)) ⊎ (command_of words ≡ Some (Trial load)) → IsLoad load
