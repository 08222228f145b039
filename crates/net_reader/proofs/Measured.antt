-- What was said is within its limits, line by line.
use Rattle.std.proofs.Common.{◌≡◌, ◌⊎◌, ℕ, zero, suc, ◌+◌, ◌-◌, ◌<◌, ◌≤◌, true, List, [], ◌∷◌, length, length-append, All, Ok, arith}
use Rattle.std.proofs.lemmas.Bool.Decides.{nat_tests}
use Rattle.std.proofs.lemmas.List.Elements.{All-nil, All-push}
use Rattle.net_graph.specs.Network.{IsEdge}
use Rattle.net_reader.specs.declared.word.Word.{Word}
use Rattle.net_reader.specs.declared.word.Word.TheVariants as words
use Rattle.net_reader.specs.Said.{Said, nothing}
use Rattle.net_reader.specs.Table.{may_lack, may_all_lack, may_stand, most_nodes}
use Rattle.net_reader.specs.Rows.{verdict, row_of, place_of_word}
use Rattle.net_reader.proofs.Heard.{Heard, heard}

-- ---- where the lines may stand

all-lack : (from count place : ℕ) → may_all_lack from count ≡ true → from ≤ place → place < from + count
    → may_lack place ≡ true
all-lack from zero place h low high = absurd (omega arith)
all-lack from (suc count) place h low high = grind (arith, nat_tests, all-lack (from + 1) count place)

-- the places between a line and the one before it have none
lack-between : (last next place : ℕ) → may_stand last next ≡ true → last < place → place < next
    → may_lack place ≡ true
lack-between last next place h low high =
    grind (arith, nat_tests, all-lack (last + 1) (next - (last + 1)) place)

-- ---- the limits

pub record IsMeasured (said : Said) : Type 0 where
  pub format : 1 ≤ said.place → (said.format ≡ 1) ⊎ (said.format ≡ 2)
  pub no_nodes : said.place ≤ 1 → said.nodes ≡ 0
  pub few : said.nodes ≤ most_nodes said.format
  pub some : 2 ≤ said.place → 1 ≤ said.nodes
  pub k : 3 ≤ said.place → (1 ≤ said.k) × (said.k ≤ 8) × (256 < said.nodes → 2 ≤ said.k)
  pub no_edges : said.place ≤ 3 → said.edges ≡ []
  pub edges : All (IsEdge said.nodes) said.edges
  pub few_edges : length said.edges ≤ 32768
  pub no_homes : said.place ≤ 4 → said.homes ≡ []
  pub homes : All (λ home. home < said.nodes) said.homes
  pub some_homes : 5 ≤ said.place → 1 ≤ length said.homes
  pub few_homes : length said.homes ≤ 64
  pub callers : said.callers ≤ 64

pub begins-measured : IsMeasured nothing
begins-measured = grind (arith, All-nil)

-- each line keeps the limits
measured-heard : {said : Said} (found : Said) (word : Word) → IsMeasured said
    → may_stand said.place (place_of_word word) ≡ true → Heard said word found → IsMeasured found
measured-heard found words.Track m p h = rw (← h.2) (grind (arith, nat_tests))
measured-heard found words.Nodes m p h =
    rw (← h.3) (grind (arith, nat_tests, All-nil (IsEdge h.0), All-nil (λ home. home < h.0)))
measured-heard {said} found words.K m p h = rw (← h.2) (grind (arith, nat_tests, lack-between said.place 3 2))
measured-heard {said} found words.Edge m p h = rw (← h.3) (grind (
  arith,
  nat_tests,
  lack-between said.place 4 2,
  lack-between said.place 4 3,
  All-push (IsEdge said.nodes) said.edges h.0,
  length-append said.edges (h.0 ∷ []),
))
measured-heard {said} found words.Sub m p h = rw (← h.3) (grind (
  arith,
  nat_tests,
  lack-between said.place 5 2,
  lack-between said.place 5 3,
  All-push (λ home. home < said.nodes) said.homes h.0,
  length-append said.homes (h.0 ∷ []),
))
measured-heard {said} found words.Callers m p h = rw (← h.2) (grind (arith, nat_tests, lack-between said.place 6 5))
measured-heard {said} found words.Move m p h = rw (← h.3) (grind (arith, nat_tests, lack-between said.place 7 6))
measured-heard {said} found words.Find m p h = rw (← h.4) (grind (arith, nat_tests, lack-between said.place 7 6))
measured-heard {said} found words.Off m p h = rw (← h.2) (grind (arith, nat_tests, lack-between said.place 7 6))
measured-heard {said} found words.On m p h = rw (← h.2) (grind (arith, nat_tests, lack-between said.place 7 6))
measured-heard {said} found words.Order m p h = rw (← h.2) (grind (arith, nat_tests, lack-between said.place 8 6))

pub keeps-measured : (said found : Said) (word : Word) (ns : List ℕ) → IsMeasured said
    → may_stand said.place (place_of_word word) ≡ true → verdict (row_of said word ns) ≡ Ok found → IsMeasured found
keeps-measured said found word ns m p e = measured-heard found word m p (heard said word ns e)
