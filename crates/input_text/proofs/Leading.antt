-- What lines of one kind make of what was said before them.
use Rattle.std.proofs.Common.{◌≡◌, ◌⊎◌, inl, inr, ℕ, ◌+◌, ◌<◌, ◌≤◌, Bool, true, false, leb, ltb, ◌&&◌, ◌||◌, List, [], ◌∷◌, ◌++◌, map, length, length-append, All, Option, Ok, codes, refl, sym, ap, subst, ◌∙◌, append-nil, append_assoc, arith}
use Rattle.std.proofs.lemmas.Bool.Decides.{nat_tests}
use Rattle.std.proofs.lemmas.List.Elements.{All-cons, All-head, All-nil, All-tail}
use Rattle.std.specs.List.{concat, list_any}
use Rattle.net_graph.specs.declared.edge.Edge.{Edge}
use Rattle.net_graph.specs.Network.{IsEdge}
use Rattle.net_reader.specs.Input.{after_line, read_from}
use Rattle.net_reader.specs.TextLines.{lines_of, fields_of}
use Rattle.net_reader.specs.Said.{Said, actors, nothing}
use Rattle.net_reader.specs.Table.{judge, may_stand, most_nodes}
use Rattle.net_reader.specs.RowLaws.{judge-rows}
use Rattle.net_reader.specs.Rows.{judge_by_rows, Row, verdict, track_row, nodes_row, k_row, edge_row, sub_row, callers_row, order_row}
use Rattle.outside.specs.Texts.{fields}
use Rattle.text_line.specs.OrderLines.{order_line}
use Rattle.input_text.specs.Listing.{edge_line, home_line, line_of}
use Rattle.input_text.proofs.LineRead.{IsSmall, IsWord, line-cut, line-fields, line-numbers}
use Rattle.std.proofs.lemmas.List.Folds.{concat-append}

-- ---- texts that lead from what was said to what is said then

-- the text leads from one to the other, whatever stands before it and after it
abbrev pub Leads : Said → List ℕ → Said → Type 0
Leads said text next = (before : ℕ) (rest : List ℕ)
    → (after : ℕ) × (read_from said before (lines_of (text ++ rest)) ≡ read_from next after (lines_of rest))

pub leads-none : (said : Said) → Leads said [] said
leads-none said = λ before rest. (before, refl)

pub leads-then : (said next last : Said) (a b : List ℕ) → Leads said a next → Leads next b last
    → Leads said (a ++ b) last
leads-then said next last a b one two = λ before rest.
    let first = one before (b ++ rest) in
    let second = two first.0 rest in
    (second.0, ap (λ l. read_from said before (lines_of l)) (append_assoc a b rest) ∙ first.1 ∙ second.1)

-- one line, then others
pub leads-line : (said next last : Said) (line : List ℕ) (lines : List (List ℕ)) → Leads said line next
    → Leads next (concat lines) last → Leads said (concat (line ∷ lines)) last
leads-line said next last line lines one two = leads-then said next last line (concat lines) one two

pub leads-both : (said next last : Said) (a b : List (List ℕ)) → Leads said (concat a) next
    → Leads next (concat b) last → Leads said (concat (a ++ b)) last
leads-both said next last a b one two =
    subst (λ l. Leads said l last) (sym (concat-append a b)) (leads-then said next last (concat a) (concat b) one two)

-- a line of a word that may stand there, and whose row has no fault
pub leads-word : (said : Said) {next : Said} {word : List ℕ} (numbers : List ℕ) {place : ℕ}
    {row : Said → List ℕ → Option Row} → IsWord word place row → All IsSmall numbers → may_stand said.place place ≡ true
    → verdict (row said numbers) ≡ Ok next → Leads said (line_of word numbers) next
leads-word said {next} {word} numbers known small stands good = λ before rest.
    let cut = line-cut word numbers rest known.some known.dense small in
    let judged : judge said (fields_of (word ++ fields numbers)) ≡ Ok next =
    judge-rows said (fields_of (word ++ fields numbers))
    ∙ ap (judge_by_rows said) (line-fields word numbers known.some known.dense small)
    ∙ rw (known.says, line-numbers numbers small, known.judged said numbers, stands, good) refl in (
      before + 1,
      ap (read_from said before) cut
          ∙ ap (λ r. after_line r (before + 1) (λ n. read_from n (before + 1) (lines_of rest))) judged,
    )

-- the words
pub is_track : IsWord (codes "track") 1 track_row
is_track = record { some = omega arith; dense = refl; says = refl; judged = λ said numbers. refl }

pub is_nodes : IsWord (codes "nodes") 2 nodes_row
is_nodes = record { some = omega arith; dense = refl; says = refl; judged = λ said numbers. refl }

pub is_k : IsWord (codes "k") 3 k_row
is_k = record { some = omega arith; dense = refl; says = refl; judged = λ said numbers. refl }

is_edge : IsWord (codes "edge") 4 edge_row
is_edge = record { some = omega arith; dense = refl; says = refl; judged = λ said numbers. refl }

is_sub : IsWord (codes "sub") 5 sub_row
is_sub = record { some = omega arith; dense = refl; says = refl; judged = λ said numbers. refl }

pub is_callers : IsWord (codes "callers") 6 callers_row
is_callers = record { some = omega arith; dense = refl; says = refl; judged = λ said numbers. refl }

is_order : IsWord (codes "order") 8 order_row
is_order = record { some = omega arith; dense = refl; says = refl; judged = λ said numbers. refl }

-- ---- small numbers

pub small-one : {a : ℕ} → IsSmall a → All IsSmall (a ∷ [])
small-one {a} h = All-cons IsSmall a [] h (All-nil IsSmall)

pub small-two : {a b : ℕ} → IsSmall a → IsSmall b → All IsSmall (a ∷ b ∷ [])
small-two {a} {b} h i = All-cons IsSmall a (b ∷ []) h (small-one i)

pub small-three : {a b c : ℕ} → IsSmall a → IsSmall b → IsSmall c → All IsSmall (a ∷ b ∷ c ∷ [])
small-three {a} {b} {c} h i j = All-cons IsSmall a (b ∷ c ∷ []) h (small-two i j)

pub small-all : (n : ℕ) (numbers : List ℕ) → n ≤ 10000000 → All (λ a. a < n) numbers → All IsSmall numbers
small-all n [] few h = All-nil IsSmall
small-all n (a ∷ numbers) few h =
    grind (arith, All-head, All-cons, IsSmall, few, All-tail)

-- ---- several lines of one place

-- the place after so many lines of a place
abbrev pub behind : {A : Type 0} → ℕ → ℕ → List A → ℕ
behind before place [] = before
behind before place (x ∷ xs) = place

pub behind-same : {A : Type 0} (place : ℕ) (xs : List A) → behind place place xs ≡ place
behind-same place [] = refl
behind-same place (x ∷ xs) = refl

-- ---- the first lines

pub track-good : {format : ℕ} → (format ≡ 1) ⊎ (format ≡ 2)
    → verdict (track_row nothing (format ∷ [])) ≡ Ok (record nothing { place = 1; format = format })
track-good (inl e) = rw e refl
track-good (inr e) = rw e refl

pub nodes-good : (said : Said) (n : ℕ) → 1 ≤ n → n ≤ most_nodes said.format
    → verdict (nodes_row said (n ∷ [])) ≡ Ok (record said { place = 2; nodes = n })
nodes-good said n some few =
    grind arith

or-and-false : (a b c : Bool) → (b ≡ true → c ≡ true → ⊥) → a ≡ false → (a || (b && c)) ≡ false
or-and-false true b c h e = e
or-and-false false true true h e = absurd (h refl refl)
or-and-false false true false h e = refl
or-and-false false false c h e = refl

pub k-good : (said : Said) (k : ℕ) → 1 ≤ k → k ≤ 8 → (256 < said.nodes → 2 ≤ k)
    → verdict (k_row said (k ∷ [])) ≡ Ok (record said { place = 3; k = k })
k-good said k some few wide =
    grind (arith, or-and-false)

pub callers-good : (said : Said) (callers : ℕ) → callers ≤ 64
    → verdict (callers_row said (callers ∷ [])) ≡ Ok (record said { place = 6; callers = callers })
callers-good said callers few =
    let a : ltb 64 callers ≡ false = grind (arith, nat_tests) in rw a refl

-- ---- the edges

edge-good : (said : Said) {edge : Edge} → IsEdge said.nodes edge → length said.edges < 32768
    → verdict (edge_row said (edge.a ∷ edge.b ∷ edge.weight ∷ []))
    ≡ Ok (record said { place = 4; edges = said.edges ++ edge ∷ [] })
edge-good said {edge} is few =
    grind arith

pub edges-lead : (said : Said) (edges : List Edge) → may_stand said.place 4 ≡ true → said.nodes ≤ 1024
    → All (IsEdge said.nodes) edges → length said.edges + length edges ≤ 32768
    → Leads said (concat (map edge_line edges))
    (record said { place = behind said.place 4 edges; edges = said.edges ++ edges })
edges-lead said [] stands nodes are few =
    subst (λ (es : List Edge). Leads said [] (record said { edges = es })) (sym (append-nil said.edges))
    (leads-none said)
edges-lead said (edge ∷ edges) stands nodes are few =
    let is = All-head (IsEdge said.nodes) edge edges are in
    let next : Said = record said { place = 4; edges = said.edges ++ edge ∷ [] } in
    let last : Said = record said { place = behind 4 4 edges; edges = (said.edges ++ edge ∷ []) ++ edges } in
    let same : last ≡ record said { place = 4; edges = said.edges ++ edge ∷ edges } =
    ap (λ p. record said { place = p; edges = (said.edges ++ edge ∷ []) ++ edges }) (behind-same 4 edges)
    ∙ ap (λ es. record said { place = 4; edges = es }) (append_assoc said.edges (edge ∷ []) edges) in
    subst (Leads said (concat (map edge_line (edge ∷ edges)))) same
    (leads-line said next last (edge_line edge) (map edge_line edges)
    (leads-word said (edge.a ∷ edge.b ∷ edge.weight ∷ []) is_edge
    (small-three (omega (arith, is.a_below, nodes)) (omega (arith, is.b_below, nodes)) (omega (
      arith,
      is.light,
    ))) stands (edge-good said is (omega (arith, few))))
    (edges-lead next edges refl nodes (All-tail (IsEdge said.nodes) edge edges are) (omega (
      arith,
      few,
      length-append said.edges (edge ∷ []),
    ))))

-- ---- the homes

home-good : (said : Said) (home : ℕ) → home < said.nodes → length said.homes < 64
    → verdict (sub_row said (home ∷ [])) ≡ Ok (record said { place = 5; homes = said.homes ++ home ∷ [] })
home-good said home below few =
    grind arith

pub homes-lead : (said : Said) (homes : List ℕ) → may_stand said.place 5 ≡ true → said.nodes ≤ 1024
    → All (λ home. home < said.nodes) homes → length said.homes + length homes ≤ 64
    → Leads said (concat (map home_line homes))
    (record said { place = behind said.place 5 homes; homes = said.homes ++ homes })
homes-lead said [] stands nodes are few =
    subst (λ (hs : List ℕ). Leads said [] (record said { homes = hs })) (sym (append-nil said.homes)) (leads-none said)
homes-lead said (home ∷ homes) stands nodes are few =
    let below : home < said.nodes = All-head (λ home. home < said.nodes) home homes are in
    let next : Said = record said { place = 5; homes = said.homes ++ home ∷ [] } in
    let last : Said = record said { place = behind 5 5 homes; homes = (said.homes ++ home ∷ []) ++ homes } in
    let same : last ≡ record said { place = 5; homes = said.homes ++ home ∷ homes } =
    ap (λ p. record said { place = p; homes = (said.homes ++ home ∷ []) ++ homes }) (behind-same 5 homes)
    ∙ ap (λ hs. record said { place = 5; homes = hs }) (append_assoc said.homes (home ∷ []) homes) in
    subst (Leads said (concat (map home_line (home ∷ homes)))) same
    (leads-line said next last (home_line home) (map home_line homes)
    (leads-word said (home ∷ []) is_sub (small-one (omega (arith, nodes))) stands
    (home-good said home below (omega (arith, few))))
    (homes-lead next homes refl nodes (All-tail (λ home. home < said.nodes) home homes are) (omega (
      arith,
      few,
      length-append said.homes (home ∷ []),
    ))))

-- ---- the order

-- the numbers of one line
pub record IsPiece (n : ℕ) (piece : List ℕ) : Type 0 where
  pub some : 0 < length piece
  pub few : length piece ≤ 64
  pub below : All (λ actor. actor < n) piece

none-past : (n : ℕ) (numbers : List ℕ) → All (λ actor. actor < n) numbers
    → list_any (λ actor. leb n actor) numbers ≡ false
none-past n [] h = refl
none-past n (a ∷ numbers) h =
    let here : a < n = All-head (λ actor. actor < n) a numbers h in
    let below : leb n a ≡ false = grind (arith, nat_tests) in
    rw (below, none-past n numbers (All-tail (λ actor. actor < n) a numbers h)) refl

order-good : (said : Said) {piece : List ℕ} → IsPiece (actors said) piece
    → verdict (order_row said piece) ≡ Ok (record said { place = 8; order = said.order ++ piece })
order-good said {piece} is =
    grind (arith, nat_tests, none-past (actors said) piece is.below, is.some, is.few, is.below)

pub orders-lead : (said : Said) (pieces : List (List ℕ)) → may_stand said.place 8 ≡ true → actors said ≤ 128
    → All (IsPiece (actors said)) pieces
    → Leads said (concat (map order_line pieces))
    (record said { place = behind said.place 8 pieces; order = said.order ++ concat pieces })
orders-lead said [] stands few are =
    subst (λ (ns : List ℕ). Leads said [] (record said { order = ns })) (sym (append-nil said.order)) (leads-none said)
orders-lead said (piece ∷ pieces) stands few are =
    let is = All-head (IsPiece (actors said)) piece pieces are in
    let next : Said = record said { place = 8; order = said.order ++ piece } in
    let last : Said = record said { place = behind 8 8 pieces; order = (said.order ++ piece) ++ concat pieces } in
    let same : last ≡ record said { place = 8; order = said.order ++ concat (piece ∷ pieces) } =
    ap (λ p. record said { place = p; order = (said.order ++ piece) ++ concat pieces }) (behind-same 8 pieces)
    ∙ ap (λ ns. record said { place = 8; order = ns }) (append_assoc said.order piece (concat pieces)) in
    subst (Leads said (concat (map order_line (piece ∷ pieces)))) same
    (leads-line said next last (order_line piece) (map order_line pieces)
    (leads-word said piece is_order (small-all (actors said) piece (omega (arith, few)) is.below) stands
    (order-good said is))
    (orders-lead next pieces refl few (All-tail (IsPiece (actors said)) piece pieces are)))
