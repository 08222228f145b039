-- The laws of what texts say, as named statements.
-- Key laws: `text_says_one` (`TextSaysOne`), `inputs_are_valid` (`InputsAreValid`),
-- `rows_are_the_table` (`RowsAreTheTable`).
use Rattle.std.specs.Prelude.{◌≡◌, ℕ, List, Result, Ok}
use Rattle.net_reader.specs.declared.fault.InputFault.{InputFault}
use Rattle.net_reader.specs.Said.{Said}
use Rattle.net_reader.specs.Table.{judge}
use Rattle.net_reader.specs.Rows.{judge_by_rows}
use Rattle.net_reader.specs.Input.{Contents, IsInput}
use Rattle.net_reader.specs.Valid.{IsValid}

-- a text says one thing: one input, or one fault
abbrev pub TextSaysOne : Type 0
TextSaysOne =
    (bytes : List ℕ) (one other : Result Contents InputFault) → IsInput bytes one
    → IsInput bytes other → one ≡ other

-- each input that a text says is valid
abbrev pub InputsAreValid : Type 0
InputsAreValid =
    (bytes : List ℕ) (contents : Contents) → IsInput bytes (Ok contents) → IsValid contents

-- the rows that the code follows judge each line as the table does
abbrev pub RowsAreTheTable : Type 0
RowsAreTheTable =
    (said : Said) (fields : List (List ℕ)) → judge said fields ≡ judge_by_rows said fields
