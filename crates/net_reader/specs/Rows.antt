-- The rows of the table as the code follows them: a row has the faults by their causes, whatever
-- line it is of. What these rows say of a line is what the table says of it. Key laws: `Known::hear`
-- judges a line by these rows; `rows_are_the_table` (as the table does).
use Rattle.std.specs.Prelude.{ℕ, Bool, true, false, not, List, [], ◌∷◌, ◌++◌, length, Option, Some, None, Result, Ok, Err, nat_lt, nat_le, ◌==◌, ◌&&◌, ◌||◌, if◌then◌else◌}
use Rattle.std.specs.List.{list_any}
use Rattle.net_reader.specs.declared.fault.InputCause.{InputCause}
use Rattle.net_reader.specs.declared.fault.InputCause.TheVariants as causes
use Rattle.net_reader.specs.declared.said.Call.{Call}
use Rattle.net_reader.specs.declared.said.Call.TheVariants as calls
use Rattle.net_reader.specs.declared.word.Word.{Word}
use Rattle.net_reader.specs.declared.word.Word.TheVariants as words
use Rattle.net_reader.specs.TextLines.{word_of, numbers_of, is_skipped}
use Rattle.net_reader.specs.Said.{Said, subs, actors, place_of, is_off}
use Rattle.net_reader.specs.Table.{may_stand, most_calls, most_nodes}

-- the place of a word's line: `track`, `nodes`, `k`, any edges, one or more subs, `callers`, any
-- calls, any orders
abbrev pub place_of_word : Word → ℕ
place_of_word words.Track = 1
place_of_word words.Nodes = 2
place_of_word words.K = 3
place_of_word words.Edge = 4
place_of_word words.Sub = 5
place_of_word words.Callers = 6
place_of_word words.Move = 7
place_of_word words.Find = 7
place_of_word words.Off = 7
place_of_word words.On = 7
place_of_word words.Order = 8

-- what the table says of a line that has a form: which faults it has, and what is read with it
pub record Row : Type 0 where
  pub too_large : Bool
  pub too_many : Bool
  pub unknown : Bool
  pub switched : Bool
  pub nowhere : Bool
  pub next : Said

-- a row without a fault
abbrev pub good : Said → Row
good next = record {
  too_large = false;
  too_many = false;
  unknown = false;
  switched = false;
  nowhere = false;
  next = next;
}

-- the row of a call's line
abbrev pub call_row : Said → ℕ → Call → Row
call_row said actor call =
    record (good (record said {
      place = 7;
      calls = said.calls ++ record { actor = actor; call = call } ∷ [];
    })) {
      too_many = nat_le (most_calls said.format) (length said.calls);
    }

-- the row of a line of the format
abbrev pub track_row : Said → List ℕ → Option Row
track_row said (format ∷ []) =
    if format == 1 || format == 2
    then Some (good (record said { place = 1; format = format })) else None
track_row said _ = None

-- the row of a line of nodes
abbrev pub nodes_row : Said → List ℕ → Option Row
nodes_row said (n ∷ []) =
    if n == 0 then None else
    Some (record (good (record said { place = 2; nodes = n })) {
      too_large = nat_lt (most_nodes said.format) n;
    })
nodes_row said _ = None

-- the row of a line of k
abbrev pub k_row : Said → List ℕ → Option Row
k_row said (k ∷ []) =
    if k == 0 then None else
    Some (record (good (record said { place = 3; k = k })) {
      too_large = nat_lt 8 k || (k == 1 && nat_lt 256 said.nodes);
    })
k_row said _ = None

-- the row of a line of an edge
abbrev pub edge_row : Said → List ℕ → Option Row
edge_row said (a ∷ b ∷ w ∷ []) =
    if w == 0 then None else
    Some (record (good (record said {
      place = 4;
      edges = said.edges ++ record { a = a; b = b; weight = w } ∷ [];
    })) {
      too_large = nat_lt 1048576 w;
      too_many = nat_le 32768 (length said.edges);
      unknown = nat_le said.nodes a || nat_le said.nodes b;
    })
edge_row said _ = None

-- the row of a line of a subscriber
abbrev pub sub_row : Said → List ℕ → Option Row
sub_row said (node ∷ []) =
    Some (record (good (record said { place = 5; homes = said.homes ++ node ∷ [] })) {
      too_many = nat_le 64 (subs said);
      unknown = nat_le said.nodes node;
    })
sub_row said _ = None

-- the row of a line of callers
abbrev pub callers_row : Said → List ℕ → Option Row
callers_row said (callers ∷ []) =
    Some (record (good (record said { place = 6; callers = callers })) {
      too_large = nat_lt 64 callers;
    })
callers_row said _ = None

-- the row of a line of a move
abbrev pub move_row : Said → List ℕ → Option Row
move_row said (sub ∷ to ∷ []) =
    Some (record (call_row said sub (calls.Move to)) {
      unknown = nat_le (subs said) sub || nat_le said.nodes to;
      switched = is_off said sub;
      nowhere = place_of said sub == to;
    })
move_row said _ = None

-- the row of a line of a find
abbrev pub find_row : Said → List ℕ → Option Row
find_row said (caller ∷ from ∷ sub ∷ []) =
    Some (record (call_row said caller (calls.Find from sub)) {
      unknown = nat_lt caller (subs said) || nat_le (actors said) caller
          || nat_le said.nodes from || nat_le (subs said) sub;
    })
find_row said _ = None

-- the row of a line that switches off
abbrev pub off_row : Said → List ℕ → Option Row
off_row said (sub ∷ []) =
    if said.format == 2 then Some (record (call_row said sub calls.Off) {
      unknown = nat_le (subs said) sub;
      switched = is_off said sub;
    }) else None
off_row said _ = None

-- the row of a line that switches on
abbrev pub on_row : Said → List ℕ → Option Row
on_row said (sub ∷ []) =
    if said.format == 2 then Some (record (call_row said sub calls.On) {
      unknown = nat_le (subs said) sub;
      switched = not (is_off said sub);
    }) else None
on_row said _ = None

-- the row of a switch off, or on
abbrev pub switch_row : Bool → Said → List ℕ → Option Row
switch_row true said numbers = off_row said numbers
switch_row false said numbers = on_row said numbers

-- the row of a line of the order
abbrev pub order_row : Said → List ℕ → Option Row
order_row said numbers =
    if length numbers == 0 then None else
    Some (record (good (record said { place = 8; order = said.order ++ numbers })) {
      too_many = nat_lt 64 (length numbers);
      unknown = list_any (λ actor. nat_le (actors said) actor) numbers;
    })

-- the row of a line by its word and its numbers; none where it has no form
abbrev pub row_of : Said → Word → List ℕ → Option Row
row_of said words.Track numbers = track_row said numbers
row_of said words.Nodes numbers = nodes_row said numbers
row_of said words.K numbers = k_row said numbers
row_of said words.Edge numbers = edge_row said numbers
row_of said words.Sub numbers = sub_row said numbers
row_of said words.Callers numbers = callers_row said numbers
row_of said words.Move numbers = move_row said numbers
row_of said words.Find numbers = find_row said numbers
row_of said words.Off numbers = off_row said numbers
row_of said words.On numbers = on_row said numbers
row_of said words.Order numbers = order_row said numbers

-- the first fault of a row, or what is read with it
abbrev pub verdict : Option Row → Result Said InputCause
verdict None = Err causes.Form
verdict (Some row) =
    if row.too_large then Err causes.TooLarge else
    (if row.too_many then Err causes.TooMany else
    (if row.unknown then Err causes.Unknown else
    (if row.switched then Err causes.Switched else
    (if row.nowhere then Err causes.Nowhere else Ok row.next))))

-- what a word and its numbers make of what was read before them
abbrev pub judge_word : Said → Option Word → Option (List ℕ) → Result Said InputCause
judge_word said None numbers = Err causes.Form
judge_word said (Some word) None = Err causes.Form
judge_word said (Some word) (Some numbers) =
    if may_stand said.place (place_of_word word)
    then verdict (row_of said word numbers) else Err causes.Form

-- what a line's fields make of what was read before them, by the rows
abbrev pub judge_by_rows : Said → List (List ℕ) → Result Said InputCause
judge_by_rows said [] = Ok said
judge_by_rows said (field ∷ fields) =
    if is_skipped (field ∷ fields) then Ok said
    else judge_word said (word_of field) (numbers_of fields)
