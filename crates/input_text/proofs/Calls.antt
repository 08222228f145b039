-- What the lines of calls make of what was said before them.
use Rattle.std.proofs.Common.{◌≡◌, ◌≢◌, inl, inr, ℕ, ◌+◌, ◌<◌, ◌≤◌, Bool, true, false, cond, eqb, List, [], ◌∷◌, ◌++◌, map, length, length-append, All, Ok, codes, refl, sym, ap, subst, ◌∙◌, append-nil, append_assoc, arith}
use Rattle.std.proofs.lemmas.Bool.{cases_lt}
use Rattle.std.proofs.lemmas.Bool.Decides.{nat_tests}
use Rattle.std.proofs.lemmas.List.Elements.{All-head, All-tail}
use Rattle.std.specs.List.{concat}
use Rattle.net_reader.specs.declared.said.Call.{Call}
use Rattle.net_reader.specs.declared.said.Call.TheVariants as calls
use Rattle.net_reader.specs.declared.said.Spoken.{Spoken}
use Rattle.net_reader.specs.Said.{Said, actors, is_off, off_after, place_after, place_of, script_of, subs}
use Rattle.net_reader.specs.Table.{may_stand, most_calls}
use Rattle.net_reader.specs.Rows.{find_row, move_row, off_row, on_row, verdict}
use Rattle.net_reader.specs.Valid.{IsCourse, IsSearch}
use Rattle.input_text.specs.declared.listing.ActorCall.{ActorCall}
use Rattle.input_text.specs.Listing.{call_line, line_of_call, spoken_of}
use Rattle.net_reader.specs.CallLaws.{script-append, script-cons}
use Rattle.input_text.proofs.LineRead.{IsWord}
use Rattle.input_text.proofs.Leading.{Leads, behind, behind-same, leads-line, leads-none, leads-word, small-one, small-two, small-three}

-- ---- the script of an actor, with one call more

place-append : (here : ℕ) (xs ys : List Call) → place_after here (xs ++ ys) ≡ place_after (place_after here xs) ys
place-append here [] ys = refl
place-append here (calls.Move to ∷ xs) ys = place-append to xs ys
place-append here (calls.Find from sub ∷ xs) ys = place-append here xs ys
place-append here (calls.Off ∷ xs) ys = place-append here xs ys
place-append here (calls.On ∷ xs) ys = place-append here xs ys

off-append : (off : Bool) (xs ys : List Call) → off_after off (xs ++ ys) ≡ off_after (off_after off xs) ys
off-append off [] ys = refl
off-append off (calls.Move to ∷ xs) ys = off-append off xs ys
off-append off (calls.Find from sub ∷ xs) ys = off-append off xs ys
off-append off (calls.Off ∷ xs) ys = off-append true xs ys
off-append off (calls.On ∷ xs) ys = off-append false xs ys

course-past : (format n here : ℕ) (off mine : Bool) (call : Call) (script : List Call)
    → IsCourse format n here off (cond mine (call ∷ []) [] ++ script)
    → IsCourse format n (place_after here (cond mine (call ∷ []) [])) (off_after off (cond mine (call ∷ []) [])) script
course-past format n here off true (calls.Move to) script h = h.3
course-past format n here off true (calls.Find from sub) script h = absurd h
course-past format n here off true calls.Off script h = h.2
course-past format n here off true calls.On script h = h.2
course-past format n here off false call script h = h

search-past : (n subs : ℕ) (mine : Bool) (call : Call) (script : List Call)
    → All (IsSearch n subs) (cond mine (call ∷ []) [] ++ script) → All (IsSearch n subs) script
search-past n subs true call script h = All-tail (IsSearch n subs) call script h
search-past n subs false call script h = h

own-go : (mine : Bool) (call : Call) (script : List Call) → mine ≡ true
    → cond mine (call ∷ []) [] ++ script ≡ call ∷ script
own-go true call script e = refl
own-go false call script e = cc

own-first : (d : Spoken) (rest : List Spoken) → script_of d.actor (d ∷ rest) ≡ d.call ∷ script_of d.actor rest
own-first d rest =
    grind (arith, script-cons, own-go)

-- ---- what is still to be said

-- the calls that are left make each script one of a valid input
pub record AreNext (said : Said) (left : List Spoken) : Type 0 where
  pub nodes : said.nodes ≤ 1024
  pub subs : subs said ≤ 64
  pub callers : said.callers ≤ 64
  pub courses : (s : ℕ) → s < length said.homes
      → IsCourse said.format said.nodes (place_of said s) (is_off said s) (script_of s left)
  pub searches : (a : ℕ) → length said.homes ≤ a → a < actors said
      → All (IsSearch said.nodes (length said.homes)) (script_of a left)
  pub actors : All (λ (d : Spoken). d.actor < actors said) left
  pub few : length said.calls + length left ≤ most_calls said.format

-- what is said with one call more
abbrev pub heard : Said → Spoken → Said
heard said d = record said { place = 7; calls = said.calls ++ d ∷ [] }

place-heard : (said : Said) (d : Spoken) (s : ℕ)
    → place_of (heard said d) s ≡ place_after (place_of said s) (cond (eqb d.actor s) (d.call ∷ []) [])
place-heard said d s =
    grind (arith, script-append, script-cons, append-nil, place-append)

off-heard : (said : Said) (d : Spoken) (s : ℕ)
    → is_off (heard said d) s ≡ off_after (is_off said s) (cond (eqb d.actor s) (d.call ∷ []) [])
off-heard said d s =
    grind (arith, script-append, script-cons, append-nil, off-append)

next-are : {said : Said} {d : Spoken} {left : List Spoken} → AreNext said (d ∷ left) → AreNext (heard said d) left
next-are {said} {d} {left} are = record {
  nodes = are.nodes;
  subs = are.subs;
  callers = are.callers;
  courses = λ s below.
      grind (arith, place-heard, off-heard, course-past, script-cons);
  searches = λ a above below.
      search-past said.nodes (length said.homes) (eqb d.actor a) d.call (script_of a left)
      (subst (All (IsSearch said.nodes (length said.homes))) (script-cons a d left) (are.searches a above below));
  actors = All-tail (λ (e : Spoken). e.actor < actors said) d left are.actors;
  few = omega (arith, are.few, length-append said.calls (d ∷ []));
}

-- ---- the lines

is_move : IsWord (codes "move") 7 move_row
is_move = record { some = omega arith; dense = refl; says = refl; judged = λ said numbers. refl }

is_find : IsWord (codes "find") 7 find_row
is_find = record { some = omega arith; dense = refl; says = refl; judged = λ said numbers. refl }

off_is : IsWord (codes "off") 7 off_row
off_is = record { some = omega arith; dense = refl; says = refl; judged = λ said numbers. refl }

on_is : IsWord (codes "on") 7 on_row
on_is = record { some = omega arith; dense = refl; says = refl; judged = λ said numbers. refl }

-- the lines of calls have room for one more
abbrev HasRoom : Said → Type 0
HasRoom said = length said.calls < most_calls said.format

move-good : (said : Said) (actor to : ℕ) → HasRoom said → actor < length said.homes → to < said.nodes
    → is_off said actor ≡ false → to ≢ place_of said actor
    → verdict (move_row said (actor ∷ to ∷ [])) ≡ Ok (heard said (record { actor = actor; call = calls.Move to }))
move-good said actor to room below inside here moves =
    grind arith

find-good : (said : Said) (actor from sub : ℕ) → HasRoom said → length said.homes ≤ actor → actor < actors said
    → from < said.nodes → sub < length said.homes
    → verdict (find_row said (actor ∷ from ∷ sub ∷ []))
    ≡ Ok (heard said (record { actor = actor; call = calls.Find from sub }))
find-good said actor from sub room above below inside there =
    grind (arith, actors)

off-good : (said : Said) (actor : ℕ) → HasRoom said → actor < length said.homes → said.format ≡ 2
    → is_off said actor ≡ false
    → verdict (off_row said (actor ∷ [])) ≡ Ok (heard said (record { actor = actor; call = calls.Off }))
off-good said actor room below switches here =
    grind arith

on-good : (said : Said) (actor : ℕ) → HasRoom said → actor < length said.homes → said.format ≡ 2
    → is_off said actor ≡ true
    → verdict (on_row said (actor ∷ [])) ≡ Ok (heard said (record { actor = actor; call = calls.On }))
on-good said actor room below switches here =
    grind arith

-- the line of a subscriber's call, and of a caller's
course-line : (said : Said) (actor : ℕ) (call : Call) (script : List Call) → may_stand said.place 7 ≡ true
    → HasRoom said → said.nodes ≤ 1024 → subs said ≤ 64 → actor < length said.homes
    → IsCourse said.format said.nodes (place_of said actor) (is_off said actor) (call ∷ script)
    → Leads said (line_of_call actor call) (heard said (record { actor = actor; call = call }))
course-line said actor (calls.Move to) script stands room nodes subs below h =
    leads-word said (actor ∷ to ∷ []) is_move (small-two (omega (arith, below, subs)) (omega (arith, h.1, nodes)))
    stands (move-good said actor to room below h.1 h.0 h.2)
course-line said actor (calls.Find from sub) script stands room nodes subs below h = absurd h
course-line said actor calls.Off script stands room nodes subs below h =
    leads-word said (actor ∷ []) off_is (small-one (omega (arith, below, subs))) stands
    (off-good said actor room below h.0 h.1)
course-line said actor calls.On script stands room nodes subs below h =
    leads-word said (actor ∷ []) on_is (small-one (omega (arith, below, subs))) stands
    (on-good said actor room below h.0 h.1)

search-line : (said : Said) (actor : ℕ) (call : Call) → may_stand said.place 7 ≡ true
    → HasRoom said → said.nodes ≤ 1024 → subs said ≤ 64 → said.callers ≤ 64 → length said.homes ≤ actor
    → actor < actors said → IsSearch said.nodes (length said.homes) call
    → Leads said (line_of_call actor call) (heard said (record { actor = actor; call = call }))
search-line said actor (calls.Move to) stands room nodes subs callers above below h = absurd h
search-line said actor (calls.Find from sub) stands room nodes subs callers above below h =
    leads-word said (actor ∷ from ∷ sub ∷ []) is_find (small-three (omega (arith, below, subs, callers)) (omega (
      arith,
      h.0,
      nodes,
    )) (omega (arith, h.1, subs))) stands (find-good said actor from sub room above below h.0 h.1)
search-line said actor calls.Off stands room nodes subs callers above below h = absurd h
search-line said actor calls.On stands room nodes subs callers above below h = absurd h

call-leads : {said : Said} (d : ActorCall) {left : List Spoken} → may_stand said.place 7 ≡ true
    → AreNext said (spoken_of d ∷ left) → Leads said (call_line d) (heard said (spoken_of d))
call-leads {said} d {left} stands are =
    let room : length said.calls < most_calls said.format = omega (arith, are.few) in
    let own = own-first (spoken_of d) left in
    elim (cases_lt d.actor (length said.homes)) [
      | inl below ↦ course-line said d.actor d.call (script_of d.actor left) stands room are.nodes are.subs below
          (subst (IsCourse said.format said.nodes (place_of said d.actor) (is_off said d.actor)) own
          (are.courses d.actor below))
      | inr above ↦
          let known : d.actor < actors said = All-head (λ (e : Spoken). e.actor < actors said) (spoken_of d) left
          are.actors in
          search-line said d.actor d.call stands room are.nodes are.subs are.callers above known
          (All-head (IsSearch said.nodes (length said.homes)) d.call (script_of d.actor left)
          (subst (All (IsSearch said.nodes (length said.homes))) own (are.searches d.actor above known)))
    ]

pub calls-lead : {said : Said} (listed : List ActorCall) → may_stand said.place 7 ≡ true
    → AreNext said (map spoken_of listed) → Leads said (concat (map call_line listed))
    (record said { place = behind said.place 7 listed; calls = said.calls ++ map spoken_of listed })
calls-lead {said} [] stands are =
    subst (λ (cs : List Spoken). Leads said [] (record said { calls = cs })) (sym (append-nil said.calls))
    (grind (arith, nat_tests, leads-none said))
calls-lead {said} (d ∷ listed) stands are =
    let next : Said = heard said (spoken_of d) in
    let all : List Spoken = map spoken_of listed in
    let last : Said = record said { place = behind 7 7 listed; calls = (said.calls ++ spoken_of d ∷ []) ++ all } in
    let same : last ≡ record said { place = 7; calls = said.calls ++ spoken_of d ∷ all } =
    ap (λ p. record said { place = p; calls = (said.calls ++ spoken_of d ∷ []) ++ all }) (behind-same 7 listed)
    ∙ ap (λ cs. record said { place = 7; calls = cs }) (append_assoc said.calls (spoken_of d ∷ []) all) in
    subst (Leads said (concat (map call_line (d ∷ listed)))) same
    (leads-line said next last (call_line d) (map call_line listed) (call-leads d stands are)
    (calls-lead listed refl (next-are are)))
