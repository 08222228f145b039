-- What a line that is taken adds to what was said.
use Rattle.std.proofs.Common.{◌≡◌, ◌≢◌, ◌⊎◌, ℕ, ◌<◌, ◌≤◌, true, false, leb, List, [], ◌∷◌, ◌++◌, length, All, Ok, arith}
use Rattle.std.proofs.lemmas.Bool.Decides.{nat_tests}
use Rattle.std.proofs.lemmas.List.Elements.{All-cons, All-nil}
use Rattle.std.specs.List.{list_any}
use Rattle.net_graph.specs.declared.edge.Edge.{Edge}
use Rattle.net_graph.specs.Network.{IsEdge}
use Rattle.net_reader.specs.declared.said.Call.{Call}
use Rattle.net_reader.specs.declared.said.Call.TheVariants as calls
use Rattle.net_reader.specs.declared.word.Word.{Word}
use Rattle.net_reader.specs.declared.word.Word.TheVariants as words
use Rattle.net_reader.specs.Said.{Said, subs, actors, place_of, is_off}
use Rattle.net_reader.specs.Table.{most_nodes, most_calls}
use Rattle.net_reader.specs.Rows.{verdict, row_of}
use Rattle.std.proofs.lemmas.Bool.{or_parts, leb-false}

-- one call more
abbrev pub with_call : Said → ℕ → Call → Said
with_call said actor call = record said { place = 7; calls = said.calls ++ record { actor = actor; call = call } ∷ [] }

-- what a line with a word, after what was said, says where it is taken
abbrev pub Heard : Said → Word → Said → Type 0
Heard said words.Track found = (format : ℕ) × ((format ≡ 1) ⊎ (format ≡ 2)) × (record said {
  place = 1;
  format = format;
} ≡ found)
Heard said words.Nodes found = (n : ℕ) × (1 ≤ n) × (n ≤ most_nodes said.format) × (record said { place = 2; nodes = n }
    ≡ found)
Heard said words.K found = (k : ℕ) × ((1 ≤ k) × (k ≤ 8) × (256 < said.nodes
    → 2 ≤ k)) × (record said { place = 3; k = k } ≡ found)
Heard said words.Edge found = (edge : Edge) × IsEdge said.nodes edge × (length said.edges < 32768) × (record said {
  place = 4;
  edges = said.edges ++ edge ∷ [];
} ≡ found)
Heard said words.Sub found = (node : ℕ) × (node < said.nodes) × (subs said < 64) × (record said {
  place = 5;
  homes = said.homes ++ node ∷ [];
} ≡ found)
Heard said words.Callers found = (callers : ℕ) × (callers ≤ 64) × (record said { place = 6; callers = callers } ≡ found)
Heard said words.Move found = (sub : ℕ) × (to : ℕ) × ((length said.calls < most_calls said.format) × (sub < subs said)
    × (to < said.nodes) × (is_off said sub ≡ false) × (to ≢ place_of said sub)) × (with_call said sub (calls.Move to) ≡
    found)
Heard said words.Find found = (caller : ℕ) × (from : ℕ) × (sub : ℕ) × ((length said.calls < most_calls said.format) ×
    (subs said ≤ caller) × (caller < actors said) × (from < said.nodes) × (sub < subs said)) × (with_call said caller
    (calls.Find from sub) ≡ found)
Heard said words.Off found = (sub : ℕ) × ((length said.calls < most_calls said.format) × (sub < subs said) ×
    (said.format ≡ 2) × (is_off said sub ≡ false)) × (with_call said sub calls.Off ≡ found)
Heard said words.On found = (sub : ℕ) × ((length said.calls < most_calls said.format) × (sub < subs said) ×
    (said.format ≡ 2) × (is_off said sub ≡ true)) × (with_call said sub calls.On ≡ found)
Heard said words.Order found = (numbers : List ℕ) × All (λ actor. actor < actors said) numbers × (record said {
  place = 8;
  order = said.order ++ numbers;
} ≡ found)

-- numbers none of which is too large
all-below : (n : ℕ) (numbers : List ℕ) → list_any (λ actor. leb n actor) numbers ≡ false
    → All (λ actor. actor < n) numbers
all-below n [] e = All-nil (λ actor. actor < n)
all-below n (a ∷ numbers) e =
    let both = or_parts (leb n a) (list_any (λ actor. leb n actor) numbers) e in
    All-cons (λ actor. actor < n) a numbers (leb-false n a both.0) (all-below n numbers both.1)

-- what each word's line says
pub heard : (said : Said) {found : Said} (word : Word) (ns : List ℕ) → verdict (row_of said word ns) ≡ Ok found
    → Heard said word found
heard said words.Track (format ∷ []) h = (format, grind (arith, nat_tests), grind (arith, nat_tests))
heard said words.Nodes (n ∷ []) h = (n, grind (arith, nat_tests), grind (arith, nat_tests), grind (arith, nat_tests))
heard said words.K (k ∷ []) h = (k, grind (arith, nat_tests), grind (arith, nat_tests))
heard said words.Edge (a ∷ b ∷ w ∷ []) h =
    grind arith
heard said words.Sub (node ∷ []) h =
    (node, grind (arith, nat_tests), grind (arith, nat_tests), grind (arith, nat_tests))
heard said words.Callers (callers ∷ []) h = (callers, grind (arith, nat_tests), grind (arith, nat_tests))
heard said words.Move (sub ∷ to ∷ []) h = (sub, to, grind (arith, nat_tests), grind (arith, nat_tests))
heard said words.Find (caller ∷ from ∷ sub ∷ []) h =
    (caller, from, sub, grind (arith, nat_tests), grind (arith, nat_tests))
heard said words.Off (sub ∷ []) h = (sub, grind (arith, nat_tests), grind (arith, nat_tests))
heard said words.On (sub ∷ []) h = (sub, grind (arith, nat_tests), grind (arith, nat_tests))
heard said words.Order ns h =
    (ns, grind (arith, nat_tests, all-below (actors said) ns), grind (arith, nat_tests))
heard said _ _ h = cc
