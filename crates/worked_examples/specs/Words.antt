-- The words that make an input, and the load that they are. Key law: `worked_loads` (each measure
-- at its ends), `worked_names` (there are no other names).
use Rattle.std.specs.Prelude.{ℕ, List, [], ◌∷◌, codes, slice_set}
use Rattle.word_line.specs.declared.load.Load.{Load}

-- a load with every measure within its range
abbrev pub usual_load : Load
usual_load = record { start = 1; nodes = 2; k = 2; subs = 1; callers = 1; calls = 1 }

-- its numbers as words
abbrev pub usual_numbers : List (List ℕ)
usual_numbers =
    codes "1" ∷ codes "2" ∷ codes "2" ∷ codes "1" ∷ codes "1" ∷ codes "1" ∷ []

-- the names of the commands that are a name alone
abbrev pub names_alone : List (List ℕ)
names_alone =
    codes "cover" ∷ codes "replay" ∷ codes "census" ∷ codes "costs" ∷ codes "stretch"
    ∷ codes "check" ∷ codes "run" ∷ codes "tojson" ∷ codes "fromjson" ∷ codes "replayjson"
    ∷ codes "meancover" ∷ codes "meanreplay" ∷ codes "meanstretch" ∷ []

-- the words that make it, with another word in the place of one number
abbrev pub load_words : ℕ → List ℕ → List (List ℕ)
load_words place word = codes "make" ∷ slice_set usual_numbers place word
