-- What a load makes is an input.
use Rattle.std.proofs.Common.{◌≡◌, ◌≢◌, ◌⊎◌, inl, inr, ℕ, zero, suc, ◌+◌, ◌-◌, ◌%◌, ◌<◌, ◌≤◌, Bool, true, false, cond, eqb, ltb, ◌&&◌, ◌||◌, List, [], ◌∷◌, ◌++◌, map, length, All, get_or, set, refl, sym, ap, subst, ◌∙◌, arith}
use Rattle.std.proofs.Math.ListN.{length-set}
use Rattle.std.proofs.Math.Nat.{add-mod_right, mod-eq_of_lt, mod-lt}
use Rattle.std.proofs.lemmas.Bool.{cases_lt}
use Rattle.std.proofs.lemmas.Bool.Decides.{nat_tests}
use Rattle.std.proofs.lemmas.List.{get_or-set_other, get_or-set_same}
use Rattle.std.proofs.lemmas.List.Elements.{All-cons, All-head, All-nil, All-tail}
use Rattle.rand_pcg.specs.Lcg.{Lcg}
use Rattle.rand_pcg.specs.Pcg.{pcg32}
use Rattle.net_reader.specs.declared.said.Call.{Call}
use Rattle.net_reader.specs.declared.said.Call.TheVariants as calls
use Rattle.net_reader.specs.declared.said.Spoken.{Spoken}
use Rattle.net_reader.specs.Said.{script_of}
use Rattle.net_reader.specs.Valid.{IsCourse, IsSearch}
use Rattle.word_line.specs.declared.load.Load.{Load}
use Rattle.input_text.specs.declared.listing.ActorCall.{ActorCall}
use Rattle.input_text.specs.Listing.{spoken_of}
use Rattle.net_reader.specs.CallLaws.{script-cons}
use Rattle.make_load.specs.Draws.{draw}
use Rattle.make_load.specs.Load.{DrawnCall, drawn_calls, drawn_find, drawn_move, is_move, target_of}

-- a draw below m
pub draw-below : (m : ℕ) (g : Lcg) → 1 ≤ m → (draw m g).value < m
unfolding draw
draw-below m g some = mod-lt (pcg32 g).0 (omega arith)

-- a move goes elsewhere
wrapped : (x n : ℕ) → n ≤ x → x < n + n → x % n ≡ x - n
wrapped x n above below =
    let back : x - n + n ≡ x = omega arith in
    ap (λ y. y % n) (sym back) ∙ add-mod_right (x - n) n ∙ mod-eq_of_lt (omega arith)

pub elsewhere : (n place far : ℕ) → place < n → far < n - 1 → target_of n place far ≢ place
elsewhere n place far here short same = elim (cases_lt (place + 1 + far) n) [
  | inl below ↦ omega (arith, same, mod-eq_of_lt {n = place + 1 + far} {m = n} below)
  | inr above ↦ omega (arith, same, wrapped (place + 1 + far) n above (omega arith))
]

-- ---- calls that make scripts of a valid input

pub record AreSound (format n subs callers : ℕ) (places : List ℕ) (listed : List ActorCall) : Type 0 where
  pub courses : (s : ℕ) → s < subs → IsCourse format n (get_or places s 0) false (script_of s (map spoken_of listed))
  pub searches : (a : ℕ) → subs ≤ a → All (IsSearch n subs) (script_of a (map spoken_of listed))
  pub actors : All (λ (c : ActorCall). c.actor < subs + callers) listed

none-sound : (format n subs callers : ℕ) (places : List ℕ) → AreSound format n subs callers places []
none-sound format n subs callers places = record {
  courses = λ s below. tt;
  searches = λ a above. All-nil (IsSearch n subs);
  actors = All-nil (λ (c : ActorCall). c.actor < subs + callers);
}

move-course : (format n here to : ℕ) (script : List Call) (places : List ℕ) (sub s : ℕ) (mine : Bool)
    → eqb sub s ≡ mine → sub < length places → to < n → to ≢ get_or places sub 0
    → IsCourse format n (get_or (set places sub to) s 0) false script
    → IsCourse format n (get_or places s 0) false (cond mine (calls.Move to ∷ []) [] ++ script)
move-course format n here to script places sub s true e inside below moves h =
    let same : sub ≡ s = grind (arith, nat_tests) in
    let there : get_or (set places sub to) s 0 ≡ to =
    ap (λ i. get_or (set places sub to) i 0) (sym same) ∙ get_or-set_same places sub to 0 inside in
    (refl, below, subst (λ i. to ≢ get_or places i 0) same moves, subst (λ p. IsCourse format n p false script) there h)
move-course format n here to script places sub s false e inside below moves h =
    let other : s ≢ sub = grind (arith, nat_tests) in
    subst (λ p. IsCourse format n p false script) (get_or-set_other places sub s to 0 other) h

move-sound : (format n subs callers sub to : ℕ) (places : List ℕ) (listed : List ActorCall) → length places ≡ subs
    → sub < subs → to < n → to ≢ get_or places sub 0 → AreSound format n subs callers (set places sub to) listed
    → AreSound format n subs callers places (record { actor = sub; call = calls.Move to } ∷ listed)
move-sound format n subs callers sub to places listed count here below moves are =
    let call : ActorCall = record { actor = sub; call = calls.Move to } in
    let rest : List Spoken = map spoken_of listed in record {
      courses = λ s inside.
          subst (IsCourse format n (get_or places s 0) false) (sym (script-cons s (spoken_of call) rest))
          (move-course format n (get_or places s 0) to (script_of s rest) places sub s (eqb sub s) refl (omega (
            arith,
            count,
            here,
          )) below moves (are.courses s inside));
      searches = λ a above.
          let other : eqb sub a ≡ false = grind (arith, nat_tests) in
          subst (All (IsSearch n subs)) (sym (script-cons a (spoken_of call) rest
          ∙ ap (λ b. cond b (calls.Move to ∷ []) [] ++ script_of a rest) other)) (are.searches a above);
      actors = All-cons (λ (c : ActorCall). c.actor < subs + callers) call listed (omega (arith, here)) are.actors;
    }

find-go : (n subs : ℕ) (call : Call) (script : List Call) (mine : Bool) → IsSearch n subs call
    → All (IsSearch n subs) script → All (IsSearch n subs) (cond mine (call ∷ []) [] ++ script)
find-go n subs call script true h all = All-cons (IsSearch n subs) call script h all
find-go n subs call script false h all = all

find-sound : (format n subs callers caller from sub : ℕ) (places : List ℕ) (listed : List ActorCall)
    → caller < callers → from < n → sub < subs → AreSound format n subs callers places listed
    → AreSound format n subs callers places (record { actor = subs + caller; call = calls.Find from sub } ∷ listed)
find-sound format n subs callers caller from sub places listed known below there are =
    let call : ActorCall = record { actor = subs + caller; call = calls.Find from sub } in
    let rest : List Spoken = map spoken_of listed in record {
      courses = λ s inside.
          let other : eqb (subs + caller) s ≡ false = grind (arith, nat_tests) in
          subst (IsCourse format n (get_or places s 0) false) (sym (script-cons s (spoken_of call) rest
          ∙ ap (λ b. cond b (calls.Find from sub ∷ []) [] ++ script_of s rest) other)) (are.courses s inside);
      searches = λ a above.
          subst (All (IsSearch n subs)) (sym (script-cons a (spoken_of call) rest))
          (find-go n subs (calls.Find from sub) (script_of a rest) (eqb (subs + caller) a) (below, there) (are.searches
          a above));
      actors = All-cons (λ (c : ActorCall). c.actor < subs + callers) call listed (omega (arith, known)) are.actors;
    }

-- ---- the calls that are drawn

-- what a load needs to have calls
pub record HasCalls (load : Load) : Type 0 where
  pub nodes : 1 ≤ load.nodes
  pub subs : 1 ≤ load.subs
  pub sound : (2 ≤ load.nodes) ⊎ (1 ≤ load.callers)

-- where subscribers are
pub record ArePlaces (load : Load) (places : List ℕ) : Type 0 where
  pub count : length places ≡ load.subs
  pub below : All (λ p. p < load.nodes) places

all-set : (n : ℕ) (places : List ℕ) (i to : ℕ) → to < n → All (λ p. p < n) places → All (λ p. p < n) (set places i to)
all-set n [] i to below h = h
all-set n (p ∷ places) zero to below h =
    All-cons (λ p. p < n) to places below (All-tail (λ p. p < n) p places h)
all-set n (p ∷ places) (suc i) to below h =
    All-cons (λ p. p < n) p (set places i to) (All-head (λ p. p < n) p places h)
    (all-set n places i to below (All-tail (λ p. p < n) p places h))

get-below : (n : ℕ) (places : List ℕ) (i : ℕ) → i < length places → All (λ p. p < n) places → get_or places i 0 < n
get-below n [] i inside h = absurd (omega arith)
get-below n (p ∷ places) zero inside h = All-head (λ p. p < n) p places h
get-below n (p ∷ places) (suc i) inside h = get-below n places i (omega arith) (All-tail (λ p. p < n) p places h)

has-move : (load : Load) (j : ℕ) → is_move load j ≡ true → 2 ≤ load.nodes
has-move load j e = go (ltb 1 load.nodes) (eqb (j % 2) 0 || eqb load.callers 0) refl e
  where
    go : (a b : Bool) → ltb 1 load.nodes ≡ a → (a && b) ≡ true → 2 ≤ load.nodes
    go true b f g = grind (arith, nat_tests)
    go false b f g = cc

has-find : (load : Load) (j : ℕ) → HasCalls load → is_move load j ≡ false → 1 ≤ load.callers
has-find load j has e = elim has.sound [
  | inl many ↦ go (ltb 1 load.nodes) (eqb (j % 2) 0) (eqb load.callers 0) refl refl many e
  | inr some ↦ some
]
  where
    go : (a b c : Bool) → ltb 1 load.nodes ≡ a → eqb load.callers 0 ≡ c → 2 ≤ load.nodes → (a && (b || c)) ≡ false
        → 1 ≤ load.callers
    go false b c f h many g = absurd (grind (arith, nat_tests))
    go true true c f h many g = cc
    go true false true f h many g = cc
    go true false false f h many g = grind (arith, nat_tests)

-- the calls behind one, wherever subscribers are then
abbrev AllSound : ℕ → Load → ℕ → ℕ → Type 0
AllSound format load j count = (places : List ℕ) (g : Lcg) → ArePlaces load places
    → AreSound format load.nodes load.subs load.callers places (drawn_calls load j count places g).value

move-step : (format : ℕ) (load : Load) (j count : ℕ) (places : List ℕ) (g : Lcg) → HasCalls load → 2 ≤ load.nodes
    → ArePlaces load places → AllSound format load (j + 1) count
    → AreSound format load.nodes load.subs load.callers places
    ((drawn_move load places g).call ∷ (drawn_calls load (j + 1)
    count (drawn_move load places g).places (drawn_move load places g).left).value)
move-step format load j count places g has many are rest =
    let sub = draw load.subs g in
    let far = draw (load.nodes - 1) sub.left in
    let here : sub.value < load.subs = draw-below load.subs g has.subs in
    let short : far.value < load.nodes - 1 = draw-below (load.nodes - 1) sub.left (omega arith) in
    let place : get_or places sub.value 0 < load.nodes =
    get-below load.nodes places sub.value (omega (arith, here, are.count)) are.below in
    let to = target_of load.nodes (get_or places sub.value 0) far.value in
    let below : to < load.nodes = mod-lt (get_or places sub.value 0 + 1 + far.value) (omega arith) in
    move-sound format load.nodes load.subs load.callers sub.value to places
    (drawn_calls load (j + 1) count (set places sub.value to) far.left).value are.count here below
    (elsewhere load.nodes (get_or places sub.value 0) far.value place short)
    (rest (set places sub.value to) far.left (record {
      count = length-set places sub.value to ∙ are.count;
      below =
          all-set load.nodes places sub.value to below are.below;
    }))

find-step : (format : ℕ) (load : Load) (j count : ℕ) (places : List ℕ) (g : Lcg) → HasCalls load → 1 ≤ load.callers
    → ArePlaces load places → AllSound format load (j + 1) count
    → AreSound format load.nodes load.subs load.callers places
    ((drawn_find load places g).call ∷ (drawn_calls load (j + 1)
    count (drawn_find load places g).places (drawn_find load places g).left).value)
find-step format load j count places g has some are rest =
    let caller = draw load.callers g in
    let from = draw load.nodes caller.left in
    let sub = draw load.subs from.left in
    find-sound format load.nodes load.subs load.callers caller.value from.value sub.value places
    (drawn_calls load (j + 1) count places sub.left).value (draw-below load.callers g some)
    (draw-below load.nodes caller.left has.nodes) (draw-below load.subs from.left has.subs) (rest places sub.left are)

-- what a call makes, and those behind it
abbrev with_rest : Load → ℕ → ℕ → DrawnCall → List ActorCall
with_rest load j count made = made.call ∷ (drawn_calls load (j + 1) count made.places made.left).value

call-step : (move : Bool) (format : ℕ) (load : Load) (j count : ℕ) (places : List ℕ) (g : Lcg) → is_move load j ≡ move
    → HasCalls load → ArePlaces load places → AllSound format load (j + 1) count
    → AreSound format load.nodes load.subs load.callers places
    (with_rest load j count (cond move (drawn_move load places
    g) (drawn_find load places g)))
call-step true format load j count places g e has are rest =
    move-step format load j count places g has (has-move load j e) are rest
call-step false format load j count places g e has are rest =
    find-step format load j count places g has (has-find load j has e) are rest

pub calls-sound : (format : ℕ) (load : Load) (j count : ℕ) (places : List ℕ) (g : Lcg) → (0 < count → HasCalls load)
    → ArePlaces load places
    → AreSound format load.nodes load.subs load.callers places (drawn_calls load j count places g).value
calls-sound format load j zero places g has are = none-sound format load.nodes load.subs load.callers places
calls-sound format load j (suc count) places g has are =
    let now : HasCalls load = has (omega arith) in
    call-step (is_move load j) format load j count places g refl now are
    (λ ps h there. calls-sound format load (j + 1) count ps h (λ some. now) there)
