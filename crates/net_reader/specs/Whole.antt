-- Lines that lie whole in a piece, as the steps from byte to byte see them.
-- Key law: `Scan::whole_lines` reads them as `Scan::read` does.
use Rattle.std.specs.Prelude.{◌≡◌, ◌⊎◌, ◌<◌, ◌≤◌, ◌^◌, ◌++◌, ℕ, List, [], ◌∷◌, false, true, fold, length, take, nat_le, Option, None, Ok, Some}
use Rattle.std.specs.List.{list_all, list_any}
use Rattle.net_reader.specs.declared.line.Open.TheVariants as opens
use Rattle.net_reader.specs.declared.fault.InputFault.{InputFault}
use Rattle.net_reader.specs.declared.known.Known.{Known}
use Rattle.net_reader.specs.declared.scan.Scan.{Scan}
use Rattle.net_reader.specs.declared.word.Word.{Word}
use Rattle.net_reader.specs.declared.word.Word.TheVariants.{Order}
use Rattle.net_reader.specs.Seen.{seen_known, seen_scan}
use Rattle.net_reader.specs.Rows.{judge_word}
use Rattle.net_reader.specs.Steps.{IsRun, LineState, close, fresh, is_plain, more, word_in}

-- a line after its word and these numbers, each with a blank after it
abbrev pub between : ℕ → List ℕ → LineState
between word numbers = record { open_field = opens.Between; word = word; numbers = numbers }

-- a reader that has read whole lines, without a fault
pub record Rests (scan : Scan) : Type 0 where
  pub going : scan.fault ≡ None
  pub seen : seen_scan scan ≡ record {
    said = Ok (seen_known scan.known);
    lines = scan.lines;
    begun = false;
    held = false;
    line = fresh;
  }

-- what is left to be read after a line: all that stands there, and nothing after a fault
abbrev pub IsLeft : Option InputFault → List ℕ → List ℕ → Type 0
IsLeft None behind left = left ≡ behind
IsLeft (Some fault) behind left = left ≡ []

-- the word of a line, and a blank
pub record Opens (word : Word) (piece rest : List ℕ) : Type 0 where
  pub packed : ℕ
  pub named : word_in packed ≡ Some word
  pub run : IsRun fresh (between packed []) piece rest
  pub shorter : length rest < length piece

-- so many digits at the front, and their number
pub record IsDigits (piece : List ℕ) (taken value : ℕ) : Type 0 where
  pub plain : list_all is_plain (take taken piece) ≡ true
  pub read : opens.Number taken value ≡ fold more (opens.Number 0 0) (take taken piece)
  pub small : value < 10 ^ taken

-- a number, and the byte after it, which ends it
pub record IsNumberTo (end value : ℕ) (piece rest : List ℕ) : Type 0 where
  pub count : ℕ
  pub run : (line : LineState) → line.open_field ≡ opens.Between
      → IsRun line (record line { open_field = opens.Number count value }) piece (end ∷ rest)

-- the end of a line that begins with this byte: a line feed, or a carriage return and one
abbrev pub IsEnd : ℕ → List ℕ → List ℕ → Type 0
IsEnd end after rest = ((end ≡ 10) × (rest ≡ after)) ⊎ ((end ≡ 13) × (after ≡ 10 ∷ rest))

-- a comment, up to the byte after it
pub record IsCommentTo (piece left : List ℕ) : Type 0 where
  pub run : IsRun fresh (record fresh { open_field = opens.Comment }) piece left
  pub shorter : length left < length piece

-- a comment, and the end of its line
abbrev pub IsComment : List ℕ → List ℕ → Type 0
IsComment piece rest = IsCommentTo piece (10 ∷ rest) ⊎ IsCommentTo piece (13 ∷ 10 ∷ rest)

-- a number, and the end of the line
abbrev pub IsLast : ℕ → List ℕ → List ℕ → Type 0
IsLast value piece rest = IsNumberTo 10 value piece rest ⊎ IsNumberTo 13 value piece (10 ∷ rest)

-- these numbers, up to the byte after the last of them
pub record IsUpTo (numbers piece left : List ℕ) : Type 0 where
  pub last : ℕ → LineState
  pub run : (word : ℕ) → IsRun (between word []) (last word) piece left
  pub closed : (word : ℕ) → close (last word) ≡ between word numbers

-- these numbers, and the end of the line
abbrev pub IsNumbers : List ℕ → List ℕ → List ℕ → Type 0
IsNumbers numbers piece rest =
    IsUpTo numbers piece (10 ∷ rest) ⊎ IsUpTo numbers piece (13 ∷ 10 ∷ rest)

-- the numbers of a line of the order so far, which are below the limit and few, after those before
pub record IsTaking (limit : ℕ) (before now piece rest : List ℕ) : Type 0 where
  pub numbers : List ℕ
  pub run : (word : ℕ) → IsRun (between word []) (between word numbers) piece rest
  pub added : now ≡ before ++ numbers
  pub below : list_any (λ number. nat_le limit number) numbers ≡ false

-- and all of them, up to the end of the line
pub record Takes (limit : ℕ) (before now piece rest : List ℕ) : Type 0 where
  pub numbers : List ℕ
  pub ends : IsNumbers numbers piece rest
  pub added : now ≡ before ++ numbers
  pub some : 0 < length numbers
  pub few : length numbers ≤ 64
  pub below : list_any (λ number. nat_le limit number) numbers ≡ false

-- what was read with a line of the order
pub record HearsOrder (before now : Known) (piece rest : List ℕ) : Type 0 where
  pub numbers : List ℕ
  pub ends : IsNumbers numbers piece rest
  pub heard : judge_word (seen_known before) (Some Order) (Some numbers) ≡ Ok (seen_known now)
