-- The text of a listing reads as the listed input.
use Rattle.std.proofs.lemmas.Bool.Decides.{nat_tests}
use Rattle.std.proofs.Common.{◌≡◌, ◌⊎◌, ℕ, zero, suc, ◌+◌, ◌<◌, ◌≤◌, Bool, true, false, cond, eqb, ltb, List, [], ◌∷◌, ◌++◌, map, length, take, drop, All, Result, Ok, codes, refl, sym, ap, subst, ◌∙◌, append-nil, arith, length-drop, length-take}
use Rattle.std.proofs.lemmas.List.{take-append-drop, length-map}
use Rattle.std.proofs.lemmas.List.Elements.{All-cons, All-head, All-nil, All-tail}
use Rattle.std.specs.List.{concat}
use Rattle.net_graph.specs.declared.edge.Edge.{Edge}
use Rattle.net_reader.specs.declared.fault.InputFault.{InputFault}
use Rattle.net_reader.specs.declared.said.Call.{Call}
use Rattle.net_reader.specs.declared.said.Spoken.{Spoken}
use Rattle.net_reader.specs.Input.{IsAnswer, IsInput, read, read_from}
use Rattle.net_reader.specs.TextLines.{lines_of}
use Rattle.net_reader.specs.Said.{Said, nothing, script_of}
use Rattle.net_reader.specs.Table.{may_stand}
use Rattle.text_line.specs.OrderLines.{order_lines, pieces_within, pieces}
use Rattle.input_text.specs.declared.listing.ActorCall.{ActorCall}
use Rattle.input_text.specs.Listing.{ListingValue, actor_lines, call_line, call_lines, contents_in, edge_line, home_line, line_of, lines_from_k, lines_from_nodes, listing_text, network_lines, spoken_of}
use Rattle.net_reader.specs.CallLaws.{script-at, scripts_count}
use Rattle.input_text.specs.Laws.{IsListing}
use Rattle.input_text.proofs.Calls.{AreNext, calls-lead}
use Rattle.input_text.proofs.Leading.{IsPiece, Leads, behind, callers-good, edges-lead, homes-lead, is_callers, is_k, is_nodes, is_track, k-good, leads-both, leads-line, leads-word, nodes-good, orders-lead, small-one, track-good}

-- ---- the pieces of the order

All-behind : (n : ℕ) (xs ys : List ℕ) → All (λ a. a < n) (xs ++ ys) → All (λ a. a < n) ys
All-behind n [] ys h = h
All-behind n (x ∷ xs) ys h = All-behind n xs ys (All-tail (λ a. a < n) x (xs ++ ys) h)

All-front : (n : ℕ) (xs ys : List ℕ) → All (λ a. a < n) (xs ++ ys) → All (λ a. a < n) xs
All-front n [] ys h = All-nil (λ a. a < n)
All-front n (x ∷ xs) ys h = All-cons (λ a. a < n) x xs (All-head (λ a. a < n) x (xs ++ ys) h)
    (All-front n xs ys (All-tail (λ a. a < n) x (xs ++ ys) h))

record ArePieces (n : ℕ) (numbers : List ℕ) (pieces : List (List ℕ)) : Type 0 where
  pub sound : All (IsPiece n) pieces
  pub joined : concat pieces ≡ numbers

pieces-sound : (n most : ℕ) (numbers : List ℕ) → length numbers ≤ most → All (λ a. a < n) numbers
    → ArePieces n numbers (pieces_within most numbers)
pieces-sound n zero [] few h = record { sound = All-nil (IsPiece n); joined = refl }
pieces-sound n zero (a ∷ numbers) few h = absurd (omega arith)
pieces-sound n (suc most) [] few h = record { sound = All-nil (IsPiece n); joined = refl }
pieces-sound n (suc most) (a ∷ numbers) few h =
    let all = a ∷ numbers in
    let parts : take 64 all ++ drop 64 all ≡ all = take-append-drop 64 all in
    let both : All (λ b. b < n) (take 64 all ++ drop 64 all) = subst (All (λ b. b < n)) (sym parts) h in
    let rest = pieces-sound n most (drop 64 all) (omega (arith, few, length-drop 64 all))
    (All-behind n (take 64 all) (drop 64 all) both) in record {
      sound = All-cons (IsPiece n) (take 64 all) (pieces_within most (drop 64 all)) (record {
        some =
            omega (arith, length-take 64 all);
        few = omega (arith, length-take 64 all);
        below = All-front n (take 64 all) (drop 64 all) both;
      }) rest.sound;
      joined = ap (λ l. take 64 all ++ l) rest.joined ∙ parts;
    }

-- ---- what is said line by line

abbrev after_k : ListingValue → Said
after_k l = record nothing { place = 3; format = l.format; nodes = l.nodes; k = l.k }

abbrev after_network : ListingValue → Said
after_network l = record (after_k l) { place = behind 3 4 l.edges; edges = l.edges }

abbrev after_homes : ListingValue → Said
after_homes l = record (after_network l) { place = behind (behind 3 4 l.edges) 5 l.homes; homes = l.homes }

abbrev after_callers : ListingValue → Said
after_callers l = record (after_homes l) { place = 6; callers = l.callers }

abbrev after_calls : ListingValue → Said
after_calls l = record (after_callers l) { place = behind 6 7 l.calls; calls = map spoken_of l.calls }

abbrev after_order : ListingValue → Said
after_order l = record (after_calls l) { place = behind (behind 6 7 l.calls) 8 (pieces l.order); order = l.order }

most-few : {format : ℕ} (nodes : ℕ) → (format ≡ 1) ⊎ (format ≡ 2) → nodes ≤ cond (eqb format 2) 1024 256 → nodes ≤ 1024
most-few {format} nodes h few = go (eqb format 2) few
  where
    go : (b : Bool) → nodes ≤ cond b 1024 256 → nodes ≤ 1024
    go true e = e
    go false e = omega arith

homes-stand : (edges : List Edge) → may_stand (behind 3 4 edges) 5 ≡ true
homes-stand [] = refl
homes-stand (e ∷ edges) = refl

callers-stand : (p : ℕ) (homes : List ℕ) → 1 ≤ length homes → may_stand (behind p 5 homes) 6 ≡ true
callers-stand p [] some = absurd (omega arith)
callers-stand p (h ∷ homes) some = refl

order-stands : (calls : List ActorCall) → may_stand (behind 6 7 calls) 8 ≡ true
order-stands [] = refl
order-stands (c ∷ calls) = refl

finished : (calls : List ActorCall) (ps : List (List ℕ)) → ltb (behind (behind 6 7 calls) 8 ps) 6 ≡ false
finished [] [] = refl
finished (c ∷ calls) [] = refl
finished calls (p ∷ ps) = refl

spoken-actors : (n : ℕ) (listed : List ActorCall) → All (λ (c : ActorCall). c.actor < n) listed
    → All (λ (d : Spoken). d.actor < n) (map spoken_of listed)
spoken-actors n [] h = All-nil (λ (d : Spoken). d.actor < n)
spoken-actors n (c ∷ listed) h =
    All-cons (λ (d : Spoken). d.actor < n) (spoken_of c) (map spoken_of listed)
    (All-head (λ (c : ActorCall). c.actor < n) c listed h)
    (spoken-actors n listed (All-tail (λ (c : ActorCall). c.actor < n) c listed h))

-- the calls of the listing are those of a valid input
listed-next : {l : ListingValue} → IsListing l → AreNext (after_callers l) (map spoken_of l.calls)
listed-next {l} is =
    let valid = is.valid in
    let spoken : List Spoken = map spoken_of l.calls in
    let script : ℕ → List Call = λ actor. script_of actor spoken in
    let count : ℕ = length l.homes + l.callers in
    let scripts = scripts_count script 0 count in record {
      nodes = most-few l.nodes valid.format valid.few;
      subs = valid.few_homes;
      callers = valid.callers;
      courses = λ s below.
          grind (arith, script-at);
      searches = λ a above below.
          grind (arith, nat_tests, script-at script count a below, l.nodes, l.homes, valid.searches);
      actors = spoken-actors count l.calls is.actors;
      few = omega (arith, is.few, length-map l.calls spoken_of);
    }

calls-part : {l : ListingValue} → IsListing l → Leads (after_callers l) (concat (call_lines l)) (after_order l)
calls-part {l} is =
    let valid = is.valid in
    let count : ℕ = length l.homes + l.callers in
    let spoken : List Spoken = map spoken_of l.calls in
    let script : ℕ → List Call = λ actor. script_of actor spoken in
    let scripts = scripts_count script 0 count in
    let parts = pieces-sound count (length l.order) l.order (omega arith) (subst (λ n. All (λ a. a < n) l.order) scripts
    valid.order) in
    let few : count ≤ 128 = omega (arith, valid.few_homes, valid.callers) in
    let orders = orders-lead (after_calls l) (pieces l.order) (order-stands l.calls) few parts.sound in
    leads-both (after_callers l) (after_calls l) (after_order l) (map call_line l.calls) (order_lines l.order)
    (calls-lead l.calls refl (listed-next is))
    (subst (λ (ns : List ℕ). Leads (after_calls l) (concat (order_lines l.order))
    (record (after_order l) { order = ns }))
    parts.joined orders)

actors-part : {l : ListingValue} → IsListing l → Leads (after_network l) (concat (actor_lines l)) (after_order l)
actors-part {l} is =
    let valid = is.valid in
    let p = behind 3 4 l.edges in
    leads-both (after_network l) (after_homes l) (after_order l) (map home_line l.homes)
    (line_of (codes "callers") (l.callers ∷ []) ∷ call_lines l)
    (homes-lead (after_network l) l.homes (homes-stand l.edges) (most-few l.nodes valid.format valid.few)
    valid.homes (omega (arith, valid.few_homes)))
    (leads-line (after_homes l) (after_callers l) (after_order l) (line_of (codes "callers") (l.callers ∷ []))
    (call_lines l)
    (leads-word (after_homes l) (l.callers ∷ []) is_callers (small-one (omega (arith, valid.callers)))
    (callers-stand p l.homes valid.some_homes) (callers-good (after_homes l) l.callers valid.callers))
    (calls-part is))

network-part : {l : ListingValue} → IsListing l → Leads (after_k l) (concat (network_lines l)) (after_order l)
network-part {l} is =
    let valid = is.valid in
    leads-both (after_k l) (after_network l) (after_order l) (map edge_line l.edges) (actor_lines l)
    (edges-lead (after_k l) l.edges refl (most-few l.nodes valid.format valid.few) valid.edges
    (omega (arith, valid.few_edges)))
    (actors-part is)

format-small : {format : ℕ} → (format ≡ 1) ⊎ (format ≡ 2) → format < 10000000
format-small h = omega (arith, h)

whole : {l : ListingValue} → IsListing l → Leads nothing (listing_text l) (after_order l)
whole {l} is =
    let valid = is.valid in
    let one : Said = record nothing { place = 1; format = l.format } in
    let two : Said = record one { place = 2; nodes = l.nodes } in
    leads-line nothing one (after_order l) (line_of (codes "track") (l.format ∷ [])) (lines_from_nodes l)
    (leads-word nothing (l.format ∷ []) is_track (small-one (format-small valid.format)) refl (track-good valid.format))
    (leads-line one two (after_order l) (line_of (codes "nodes") (l.nodes ∷ [])) (lines_from_k l)
    (leads-word one (l.nodes ∷ []) is_nodes (small-one (omega (arith, most-few l.nodes valid.format valid.few))) refl
    (nodes-good one l.nodes valid.some valid.few))
    (leads-line two (after_k l) (after_order l) (line_of (codes "k") (l.k ∷ [])) (network_lines l)
    (leads-word two (l.k ∷ []) is_k (small-one (omega (arith, valid.k_few))) refl
    (k-good two l.k valid.k_some valid.k_few valid.k_wide))
    (network-part is)))

ends : (said : Said) (n : ℕ) → ltb said.place 6 ≡ false → read_from said n (lines_of []) ≡ Ok (said, n)
ends said n e = rw e refl

pub listings_read : (l : ListingValue) → IsListing l → IsInput (listing_text l) (Ok (contents_in l))
listings_read l is =
    let lead = whole is 0 [] in
    let found : read (listing_text l) ≡ Ok (after_order l, lead.0) =
    ap (λ t. read_from nothing 0 (lines_of t)) (sym (append-nil (listing_text l)))
    ∙ lead.1 ∙ ends (after_order l) lead.0 (finished l.calls (pieces l.order)) in
    subst (λ (r : Result (Said × ℕ) InputFault). IsAnswer r (Ok (contents_in l))) (sym found) (refl, is.valid.connected)
