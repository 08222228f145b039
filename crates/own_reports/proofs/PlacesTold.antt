-- What a line tells that keeps the checker's parts: an answer names a place, a find that is to be
-- made again has a cause, and moves and finds weigh what they may.
use Rattle.std.proofs.Common.{◌≡◌, ℕ, zero, suc, ◌+◌, ◌*◌, ◌<◌, ◌≤◌, ◌==◌, ◌&&◌, ◌||◌, not, eqb, leb, ltb, Bool, true, false, cond, List, [], ◌∷◌, ◌++◌, length, map, drop, Option, Some, None, refl, ap, sym, ◌∙◌, arith, subst, append_assoc, append-nil, length-append}
use Rattle.std.specs.Prelude.{filter_map, slice_get, slice_index}
use Rattle.std.specs.List.{cons_option, find, last_or, list_any}
use Rattle.std.proofs.lemmas.Bool.{and_parts}
use Rattle.std.proofs.lemmas.Bool.Decides.{nat_tests}
use Rattle.directory.specs.declared.answers.Done.{Done}
use Rattle.directory.specs.declared.answers.Done.TheVariants.{Moved, Switched, Found, Off, Again}
use Rattle.region_plan.specs.Measures.{stretch_of}
use Rattle.region_plan.specs.Plan.{PlanData}
use Rattle.region_plan.specs.Settings.{setting_of}
use Rattle.report_check.specs.Parts.{first_from, is_of, is_of_move, is_switch_at as checks_switch, meets_from, meets_move, next_ticket, open_passage as checked_passage, tell, told_before, unconfirmed}
use Rattle.own_reports.specs.Reports.{KeepsParts}
use Rattle.soundness.specs.Places.{HasCause, MeetsMove, NamesPlace, Passage, StandsAt, is_switch_at, move_before, moves_before, switch_before}
use Rattle.soundness.specs.Turns.{tickets_from, tickets_of}
use Rattle.soundness.specs.Weights.{IsLight, IsWeighed, open_passage, open_weight, weight_until}
use Rattle.own_reports.proofs.RowsTold.{told-push}
use Rattle.own_reports.proofs.Signs.{lt-true, open-same, open_by}
use Rattle.directory.specs.ListLaws.{last_or-push}
use Rattle.std.proofs.lemmas.List.{map-append}
use Rattle.std.proofs.lemmas.List.Elements.{filter_map-append}

-- ---- what lines tell of a subscriber before a ticket

-- the commit and the weight are those of the last move, if there is one
abbrev IsLast : Option Passage → Option ℕ → ℕ → Type 0
IsLast None commit weight = commit ≡ None
IsLast (Some move) commit weight = (commit ≡ Some move.commit) × (weight ≡ move.weight)

-- what lines tell is what their moves and switches make of the start
record AreTold (homes : List ℕ) (sub ticket : ℕ) (lines : List Done) : Type 0 where
  node : last_or (Some (slice_index homes sub)) (map (λ move. move.to) (moves_before lines sub ticket))
      ≡ Some (told_before homes lines sub ticket).node
  number : length (moves_before lines sub ticket) ≡ (told_before homes lines sub ticket).number
  off : last_or (Some false) (filter_map (switch_before sub ticket) lines)
      ≡ Some (told_before homes lines sub ticket).is_off
  passage : IsLast (last_or None (moves_before lines sub ticket)) (told_before homes lines sub ticket).commit
      (told_before homes lines sub ticket).weight

module _ (homes : List ℕ) (sub ticket : ℕ) where
  -- one line more
  told-still : (lines : List Done) (line : Done) → AreTold homes sub ticket lines
      → move_before sub ticket line ≡ None → switch_before sub ticket line ≡ None
      → tell sub ticket (told_before homes lines sub ticket) line ≡ told_before homes lines sub ticket
      → AreTold homes sub ticket (lines ++ line ∷ [])
  told-still lines line told no_move no_switch same =
      let moves : moves_before (lines ++ line ∷ []) sub ticket ≡ moves_before lines sub ticket =
      filter_map-append (move_before sub ticket) lines (line ∷ [])
      ∙ ap (λ o. moves_before lines sub ticket ++ cons_option o []) no_move
      ∙ append-nil (moves_before lines sub ticket) in
      let switches : filter_map (switch_before sub ticket) (lines ++ line ∷ [])
      ≡ filter_map (switch_before sub ticket) lines =
      filter_map-append (switch_before sub ticket) lines (line ∷ [])
      ∙ ap (λ o. filter_map (switch_before sub ticket) lines ++ cons_option o []) no_switch
      ∙ append-nil (filter_map (switch_before sub ticket) lines) in
      let joined = told-push homes sub ticket lines line ∙ same in
      record {
        node = rw (joined, moves) told.node;
        number = rw (joined, moves) told.number;
        off = rw (joined, switches) told.off;
        passage = rw (joined, moves) told.passage;
      }

  told-moved : (lines : List Done) (actor number from to weight first commit end : ℕ) → AreTold homes sub ticket lines
      → (actor == sub && ltb commit ticket) ≡ true
      → AreTold homes sub ticket (lines ++ Moved actor number from to weight first commit end ∷ [])
  told-moved lines actor number from to weight first commit end told now =
      let line : Done = Moved actor number from to weight first commit end in
      let move : Passage = record { to = to; weight = weight; commit = commit } in
      let moves : moves_before (lines ++ line ∷ []) sub ticket ≡ moves_before lines sub ticket ++ move ∷ [] =
      filter_map-append (move_before sub ticket) lines (line ∷ [])
      ∙ ap (λ b. moves_before lines sub ticket ++ cons_option (cond b (Some move) None) []) now in
      let switches : filter_map (switch_before sub ticket) (lines ++ line ∷ [])
      ≡ filter_map (switch_before sub ticket) lines =
      filter_map-append (switch_before sub ticket) lines (line ∷ [])
      ∙ append-nil (filter_map (switch_before sub ticket) lines) in
      let joined = told-push homes sub ticket lines line in
      record {
        node = rw (joined, now)
            (ap (λ ms. last_or (Some (slice_index homes sub)) (map (λ move. move.to) ms)) moves
            ∙ ap (last_or (Some (slice_index homes sub)))
            (map-append (λ (m : Passage). m.to) (moves_before lines sub ticket) (move ∷ []))
            ∙ last_or-push (Some (slice_index homes sub))
            (map (λ (m : Passage). m.to) (moves_before lines sub ticket)) to);
        number = rw (joined, now)
            (ap length moves ∙ length-append (moves_before lines sub ticket) (move ∷ [])
            ∙ omega (arith, told.number));
        off = rw (joined, now) (ap (last_or (Some false)) switches ∙ told.off);
        passage = rw (joined, now)
            (subst (λ o. IsLast o (Some commit) weight)
            (sym (ap (last_or None) moves ∙ last_or-push None (moves_before lines sub ticket) move)) (refl, refl));
      }

  told-turned : (lines : List Done) (actor : ℕ) (off : Bool) (node number at : ℕ) → AreTold homes sub ticket lines
      → (actor == sub && ltb at ticket) ≡ true
      → AreTold homes sub ticket (lines ++ Switched actor off node number at ∷ [])
  told-turned lines actor off node number at told now =
      let line : Done = Switched actor off node number at in
      let moves : moves_before (lines ++ line ∷ []) sub ticket ≡ moves_before lines sub ticket =
      filter_map-append (move_before sub ticket) lines (line ∷ [])
      ∙ append-nil (moves_before lines sub ticket) in
      let switches : filter_map (switch_before sub ticket) (lines ++ line ∷ [])
      ≡ filter_map (switch_before sub ticket) lines ++ off ∷ [] =
      filter_map-append (switch_before sub ticket) lines (line ∷ [])
      ∙ ap (λ b. filter_map (switch_before sub ticket) lines ++ cons_option (cond b (Some off) None) []) now in
      let joined = told-push homes sub ticket lines line in
      record {
        node = rw (joined, now, moves) told.node;
        number = rw (joined, now, moves) told.number;
        off = rw (joined, now)
            (ap (last_or (Some false)) switches
            ∙ last_or-push (Some false) (filter_map (switch_before sub ticket) lines) off);
        passage = rw (joined, now, moves) told.passage;
      }

  told-line : (lines : List Done) (line : Done) → AreTold homes sub ticket lines
      → AreTold homes sub ticket (lines ++ line ∷ [])
  told-line lines (Moved actor number from to weight first commit end) told =
      at_test (actor == sub && ltb commit ticket) refl
    where
      at_test : (b : Bool) → (actor == sub && ltb commit ticket) ≡ b
          → AreTold homes sub ticket (lines ++ Moved actor number from to weight first commit end ∷ [])
      at_test true now = told-moved lines actor number from to weight first commit end told now
      at_test false later =
          told-still lines (Moved actor number from to weight first commit end) told (rw later refl) refl (rw later refl)
  told-line lines (Switched actor off node number at) told =
      at_test (actor == sub && ltb at ticket) refl
    where
      at_test : (b : Bool) → (actor == sub && ltb at ticket) ≡ b
          → AreTold homes sub ticket (lines ++ Switched actor off node number at ∷ [])
      at_test true now = told-turned lines actor off node number at told now
      at_test false later =
          told-still lines (Switched actor off node number at) told refl (rw later refl) (rw later refl)
  told-line lines (Found actor from other node number level weight first end) told =
      told-still lines (Found actor from other node number level weight first end) told refl refl refl
  told-line lines (Off actor from other node number level weight first end) told =
      told-still lines (Off actor from other node number level weight first end) told refl refl refl
  told-line lines (Again actor from other why weight first end) told =
      told-still lines (Again actor from other why weight first end) told refl refl refl

  told-lines : (lines more : List Done) → AreTold homes sub ticket lines → AreTold homes sub ticket (lines ++ more)
  told-lines lines [] told = subst (AreTold homes sub ticket) (sym (append-nil lines)) told
  told-lines lines (line ∷ more) told =
      subst (AreTold homes sub ticket) (append_assoc lines (line ∷ []) more)
      (told-lines (lines ++ line ∷ []) more (told-line lines line told))

told-all : (homes : List ℕ) (lines : List Done) (sub ticket : ℕ) → AreTold homes sub ticket lines
told-all homes lines sub ticket =
    told-lines homes sub ticket [] lines (record { node = refl; number = refl; off = refl; passage = refl })

-- ---- places

state-is : (off is_off : Bool) → cond off is_off (not is_off) ≡ true → is_off ≡ off
state-is true true e = refl
state-is true false e = let bad : false ≡ true = e in absurd cc
state-is false true e = let bad : false ≡ true = e in absurd cc
state-is false false e = refl

stands : (homes : List ℕ) (lines : List Done) (sub last node number : ℕ) (off : Bool)
    → (eqb (told_before homes lines sub last).node node && (eqb (told_before homes lines sub last).number number
    && cond off (told_before homes lines sub last).is_off (not (told_before homes lines sub last).is_off))) ≡ true
    → StandsAt homes lines sub last node number off
stands homes lines sub last node number off e =
    let are = told-all homes lines sub last in
    let one = and_parts (eqb (told_before homes lines sub last).node node) _ e in
    let two = and_parts (eqb (told_before homes lines sub last).number number) _ one.1 in
    record {
      node_is = are.node ∙ ap Some (same (told_before homes lines sub last).node node one.0);
      number_is = are.number ∙ same (told_before homes lines sub last).number number two.0;
      off_is = are.off ∙ ap Some (state-is off (told_before homes lines sub last).is_off two.1);
    }
  where
    same : (a b : ℕ) → eqb a b ≡ true → a ≡ b
    same a b e = grind (arith, nat_tests)

-- ---- moves that are met

switch-same : (ticket : ℕ) (line : Done) → checks_switch ticket line ≡ is_switch_at ticket line
switch-same ticket (Moved a n from to w first commit last) = refl
switch-same ticket (Switched a off node n at) = refl
switch-same ticket (Found a from sub node n level w first last) = refl
switch-same ticket (Off a from sub node n level w first last) = refl
switch-same ticket (Again a from sub why w first last) = refl

switches-same : (ticket : ℕ) (lines : List Done)
    → list_any (checks_switch ticket) lines ≡ list_any (is_switch_at ticket) lines
switches-same ticket [] = refl
switches-same ticket (line ∷ lines) =
    ap (λ b. b || list_any (checks_switch ticket) lines) (switch-same ticket line)
    ∙ ap (λ b. is_switch_at ticket line || b) (switches-same ticket lines)

-- one of these later tickets, the first of which is this, is of a move and comes before the last
record IsMet (lines : List Done) (sub last ticket : ℕ) (later : List ℕ) : Type 0 where
  place : ℕ
  before : ticket + place < last
  own : slice_get later place ≡ Some sub
  moves : list_any (is_switch_at (ticket + place)) lines ≡ false

not-true : (b : Bool) → not b ≡ true → b ≡ false
not-true true e = let bad : false ≡ true = e in absurd cc
not-true false e = refl

met-from : (lines : List Done) (sub last ticket : ℕ) (later : List ℕ)
    → meets_from lines sub last ticket later ≡ true → IsMet lines sub last ticket later
unfolding meets_from
met-from lines sub last ticket [] e = let bad : false ≡ true = e in absurd cc
met-from lines sub last ticket (actor ∷ later) e =
    at_tests (ltb ticket last) (is_of_move lines sub ticket actor) refl refl e (met-from lines sub last (suc ticket) later)
  where
    at_tests : (b c : Bool) → ltb ticket last ≡ b → is_of_move lines sub ticket actor ≡ c
        → cond b (cond c true (meets_from lines sub last (suc ticket) later)) false ≡ true
        → (meets_from lines sub last (suc ticket) later ≡ true → IsMet lines sub last (suc ticket) later)
        → IsMet lines sub last ticket (actor ∷ later)
    at_tests true true low is e deeper =
        let parts = and_parts (actor == sub) _ is in
        let here : actor ≡ sub = let t : (actor == sub) ≡ true = parts.0 in grind (arith, nat_tests) in
        let same : ticket + 0 ≡ ticket = omega arith in
        record {
          place = 0;
          before = let t : ltb ticket last ≡ true = low in grind (arith, nat_tests);
          own = ap Some here;
          moves = subst (λ k. list_any (is_switch_at k) lines ≡ false) (sym same)
              (sym (switches-same ticket lines) ∙ not-true (list_any (checks_switch ticket) lines) parts.1);
        }
    at_tests true false low is e deeper =
        let deep = deeper e in
        let same : suc ticket + deep.place ≡ ticket + suc deep.place = omega arith in
        record {
          place = suc deep.place;
          before = omega (arith, deep.before);
          own = deep.own;
          moves = subst (λ k. list_any (is_switch_at k) lines ≡ false) same deep.moves;
        }
    at_tests false c low is e deeper = let bad : false ≡ true = e in absurd cc

get-drop : (n : ℕ) (xs : List ℕ) (i : ℕ) → slice_get (drop n xs) i ≡ slice_get xs (n + i)
get-drop zero xs i = ap (slice_get xs) (let e : i ≡ 0 + i = omega arith in e)
get-drop (suc n) [] i = refl
get-drop (suc n) (x ∷ xs) i =
    get-drop n xs i ∙ ap (slice_get (x ∷ xs)) (let e : suc (n + i) ≡ suc n + i = omega arith in e)

meets : (lines : List Done) (order : List ℕ) (sub first last : ℕ) → meets_move lines order sub first last ≡ true
    → MeetsMove lines order sub first last
meets lines order sub first last e =
    let met = met-from lines sub last (suc first) (drop (suc first) order)
    (and_parts (list_any (is_of sub) lines) _ e).1 in (
      suc first + met.place,
      omega arith,
      met.before,
      sym (get-drop (suc first) order met.place) ∙ met.own,
      met.moves,
    )

-- ---- the open passage

-- the first ticket of an actor from here on is the first of its tickets here that comes after an
-- earlier one
first-found : (actor commit ticket : ℕ) (order : List ℕ) → commit < ticket
    → first_from actor ticket order ≡ find (λ at. ltb commit at) (tickets_from actor ticket order)
unfolding tickets_from first_from
first-found actor commit ticket [] less = refl
first-found actor commit ticket (other ∷ order) less =
    at_test (other == actor) (first-found actor commit (suc ticket) order (omega (arith, less)))
  where
    at_test : (b : Bool) → first_from actor (suc ticket) order
        ≡ find (λ at. ltb commit at) (tickets_from actor (suc ticket) order)
        → cond b (Some ticket) (first_from actor (suc ticket) order)
        ≡ find (λ at. ltb commit at)
        (cond b (ticket ∷ tickets_from actor (suc ticket) order) (tickets_from actor (suc ticket) order))
    at_test true deep =
        sym (ap (λ b. cond b (Some ticket) (find (λ at. ltb commit at) (tickets_from actor (suc ticket) order)))
        (lt-true commit ticket less))
    at_test false deep = deep

not-after : (commit ticket : ℕ) → ticket ≤ commit → ltb commit ticket ≡ false
not-after commit ticket le = grind (arith, nat_tests)

next-found : (actor commit ticket past : ℕ) (order : List ℕ) → commit ≡ ticket + past
    → first_from actor (suc commit) (drop (suc past) order)
    ≡ find (λ at. ltb commit at) (tickets_from actor ticket order)
unfolding tickets_from first_from
next-found actor commit ticket past [] e = refl
next-found actor commit ticket past (other ∷ order) e =
    deeper past e (λ p. next-found actor commit (suc ticket) p order) ∙ skip (other == actor)
  where
    deeper : (past : ℕ) → commit ≡ ticket + past
        → ((p : ℕ) → commit ≡ suc ticket + p → first_from actor (suc commit) (drop (suc p) order)
        ≡ find (λ at. ltb commit at) (tickets_from actor (suc ticket) order))
        → first_from actor (suc commit) (drop past order)
        ≡ find (λ at. ltb commit at) (tickets_from actor (suc ticket) order)
    deeper zero e later =
        let same : commit ≡ ticket = omega (arith, e) in
        first-found actor commit (suc commit) order (omega arith)
        ∙ ap (λ t. find (λ at. ltb commit at) (tickets_from actor (suc t) order)) same
    deeper (suc past) e later = later past (omega (arith, e))

    skip : (b : Bool) → find (λ at. ltb commit at) (tickets_from actor (suc ticket) order)
        ≡ find (λ at. ltb commit at)
        (cond b (ticket ∷ tickets_from actor (suc ticket) order) (tickets_from actor (suc ticket) order))
    skip true =
        sym (ap (λ b. cond b (Some ticket) (find (λ at. ltb commit at) (tickets_from actor (suc ticket) order)))
        (not-after commit ticket (omega (arith, e))))
    skip false = refl

-- the checker's passage is the open one
passage-until : (last weight : ℕ) (confirm : Option ℕ)
    → unconfirmed last weight confirm ≡ weight_until confirm last weight
passage-until last weight None = refl
passage-until last weight (Some confirm) = refl

passage-by : (order : List ℕ) (sub last weight : ℕ) (commit : Option ℕ) (move : Option Passage)
    → IsLast move commit weight → open_by order sub last weight commit ≡ open_weight (tickets_of sub order) last move
passage-by order sub last weight commit None is = ap (open_by order sub last weight) is
passage-by order sub last weight commit (Some move) is =
    ap (open_by order sub last weight) is.0
    ∙ ap (λ w. unconfirmed last w (next_ticket order sub (Some move.commit))) is.1
    ∙ ap (unconfirmed last move.weight) (next-found sub move.commit 0 move.commit order (omega arith))
    ∙ passage-until last move.weight (find (λ at. ltb move.commit at) (tickets_of sub order))

passage-same : (homes : List ℕ) (lines : List Done) (order : List ℕ) (sub last : ℕ)
    → checked_passage order sub last (told_before homes lines sub last) (told_before homes lines sub last).commit
    ≡ open_passage lines order sub last
passage-same homes lines order sub last =
    open-same homes order lines sub last (told_before homes lines sub last).commit
    ∙ passage-by order sub last (told_before homes lines sub last).weight (told_before homes lines sub last).commit
    (last_or None (moves_before lines sub last)) (told-all homes lines sub last).passage

-- ---- weights

light : (homes : List ℕ) (lines : List Done) (order : List ℕ) (stretch far sub weight first last : ℕ)
    → (meets_move lines order sub first last
    || leb weight (stretch * far
    + 2 * checked_passage order sub last (told_before homes lines sub last) (told_before homes lines sub last).commit))
    ≡ true → IsLight stretch far lines order sub weight first last
light homes lines order stretch far sub weight first last e =
    at_test (meets_move lines order sub first last) refl e
  where
    at_test : (b : Bool) → meets_move lines order sub first last ≡ b
        → (b || leb weight (stretch * far + 2
        * checked_passage order sub last (told_before homes lines sub last) (told_before homes lines sub last).commit))
        ≡ true → IsLight stretch far lines order sub weight first last
    at_test true is e = λ quiet. absurd (quiet (meets lines order sub first last is))
    at_test false is e = λ quiet.
        subst (λ p. weight ≤ stretch * far + 2 * p) (passage-same homes lines order sub last)
        (within weight (stretch * far + 2 * checked_passage order sub last (told_before homes lines sub last)
        (told_before homes lines sub last).commit) e)
      where
        within : (w m : ℕ) → leb w m ≡ true → w ≤ m
        within w m e = grind (arith, nat_tests)

-- ---- lines

pub place-told : (plan : PlanData) (homes : List ℕ) (lines : List Done) (order : List ℕ) (line : Done)
    → KeepsParts plan homes lines order line → NamesPlace homes lines line
place-told plan homes lines order (Moved a n from to w first commit last) kept = tt
place-told plan homes lines order (Switched a off node n at) kept = tt
place-told plan homes lines order (Found a from sub node n level w first last) kept =
    stands homes lines sub last node n false kept.0
place-told plan homes lines order (Off a from sub node n level w first last) kept =
    stands homes lines sub last node n true kept.0
place-told plan homes lines order (Again a from sub why w first last) kept = tt

pub cause-told : (plan : PlanData) (homes : List ℕ) (lines : List Done) (order : List ℕ) (line : Done)
    → KeepsParts plan homes lines order line → HasCause lines order line
cause-told plan homes lines order (Moved a n from to w first commit last) kept = tt
cause-told plan homes lines order (Switched a off node n at) kept = tt
cause-told plan homes lines order (Found a from sub node n level w first last) kept = tt
cause-told plan homes lines order (Off a from sub node n level w first last) kept = tt
cause-told plan homes lines order (Again a from sub why w first last) kept =
    meets lines order sub first last kept.1

pub weight-told : (plan : PlanData) (homes : List ℕ) (lines : List Done) (order : List ℕ) (line : Done)
    → KeepsParts plan homes lines order line
    → IsWeighed (setting_of plan homes).distance (stretch_of plan) lines order line
weight-told plan homes lines order (Moved a n from to w first commit last) kept =
    same ((setting_of plan homes).distance from to) w kept.2
  where
    same : (d w : ℕ) → eqb d w ≡ true → w ≡ d
    same d w e = grind (arith, nat_tests)
weight-told plan homes lines order (Switched a off node n at) kept = tt
weight-told plan homes lines order (Found a from sub node n level w first last) kept =
    light homes lines order (stretch_of plan) ((setting_of plan homes).distance from node) sub w first last kept.2
weight-told plan homes lines order (Off a from sub node n level w first last) kept =
    light homes lines order (stretch_of plan) ((setting_of plan homes).distance from node) sub w first last kept.2
weight-told plan homes lines order (Again a from sub why w first last) kept = tt
