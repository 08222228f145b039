-- What a list of calls says of one actor: its script, call by call, and with one call more at the
-- end; and how many calls all scripts have.
-- Key laws: `script-cons`, `script-append`, `script-at`, `scripts-few`, `call-taken`.
use Rattle.std.proofs.Common.{◌≡◌, ◌≢◌, ℕ, zero, suc, ◌+◌, ◌-◌, ◌<◌, ◌≤◌, Bool, true, false, cond, eqb, List, [], ◌∷◌, ◌++◌, append-nil, append_assoc, filter, length, map, get_or, set, refl, ap, sym, ◌∙◌, arith}
use Rattle.std.proofs.lemmas.Bool.Decides.{nat_tests}
use Rattle.std.proofs.lemmas.List.{map-set, length-map, get_or-map}
use Rattle.net_reader.specs.declared.said.Call.{Call}
use Rattle.net_reader.specs.declared.said.Spoken.{Spoken}
use Rattle.net_reader.specs.Input.{numbers_from}
use Rattle.net_reader.specs.Said.{script_of}
use Rattle.net_reader.specs.Valid.{count_calls}

cons-go : (mine : Bool) (d : Spoken) (rest : List Spoken)
    → map (λ (x : Spoken). x.call) (cond mine (d ∷ rest) rest)
    ≡ cond mine (d.call ∷ []) [] ++ map (λ (x : Spoken). x.call) rest
cons-go true d rest = refl
cons-go false d rest = refl

-- a script begins with a call that is its actor's
pub script-cons : (s : ℕ) (d : Spoken) (rest : List Spoken)
    → script_of s (d ∷ rest) ≡ cond (eqb d.actor s) (d.call ∷ []) [] ++ script_of s rest
script-cons s d rest =
    cons-go (eqb d.actor s) d (filter (λ (x : Spoken). eqb x.actor s) rest)

-- the script of a longer list goes on with what the rest says
pub script-append : (s : ℕ) (xs ys : List Spoken) → script_of s (xs ++ ys) ≡ script_of s xs
    ++ script_of s ys
script-append s [] ys = refl
script-append s (x ∷ xs) ys =
    script-cons s x (xs ++ ys)
    ∙ ap (λ l. cond (eqb x.actor s) (x.call ∷ []) [] ++ l) (script-append s xs ys)
    ∙ sym (append_assoc (cond (eqb x.actor s) (x.call ∷ []) []) (script_of s xs) (script_of s ys))
    ∙ ap (λ l. l ++ script_of s ys) (sym (script-cons s x xs))

-- one script for each actor
pub scripts_count : (f : ℕ → List Call) (from m : ℕ) → length (map f (numbers_from from m)) ≡ m
scripts_count f from zero = refl
scripts_count f from (suc m) = ap suc (scripts_count f (from + 1) m)

script-from : (f : ℕ → List Call) (from m i : ℕ) → i < m
    → get_or (map f (numbers_from from m)) i [] ≡ f (from + i)
script-from f from zero i lt = absurd (omega arith)
script-from f from (suc m) zero lt = ap f (omega arith)
script-from f from (suc m) (suc i) lt =
    let next : from + 1 + i ≡ from + suc i = omega arith in
    script-from f (from + 1) m i (omega arith) ∙ ap f next

-- and it is that actor's
pub script-at : (f : ℕ → List Call) (m i : ℕ) → i < m
    → get_or (map f (numbers_from 0 m)) i [] ≡ f i
script-at f m i lt =
    let none : 0 + i ≡ i = omega arith in script-from f 0 m i lt ∙ ap f none

-- how many calls the scripts of so many actors have
abbrev pub total : ℕ → ℕ → List Spoken → ℕ
total from m calls = count_calls (map (λ actor. script_of actor calls) (numbers_from from m))

-- whether an actor is among them, as a number
abbrev hits : ℕ → ℕ → ℕ → ℕ
hits actor from zero = 0
hits actor from (suc m) = cond (eqb actor from) 1 0 + hits actor (from + 1) m

hits-none : (actor from m : ℕ) → actor < from → hits actor from m ≡ 0
hits-none actor from zero lt = refl
hits-none actor from (suc m) lt =
    let rest = hits-none actor (from + 1) m (omega arith) in
    grind (arith, nat_tests, rest)

hits-go : (mine : Bool) (actor from m : ℕ) → eqb actor from ≡ mine → hits actor (from + 1) m ≤ 1
    → cond mine 1 0 + hits actor (from + 1) m ≤ 1
hits-go true actor from m e h =
    let less : actor < from + 1 = grind (arith, nat_tests) in
    omega (arith, hits-none actor (from + 1) m less)
hits-go false actor from m e h = omega (arith, h)

hits-few : (actor from m : ℕ) → hits actor from m ≤ 1
hits-few actor from zero = omega arith
hits-few actor from (suc m) =
    hits-go (eqb actor from) actor from m refl (hits-few actor (from + 1) m)

one-go : (mine : Bool) (call : Call) (script : List Call)
    → length (cond mine (call ∷ []) [] ++ script) ≡ cond mine 1 0 + length script
one-go true call script = omega arith
one-go false call script = omega arith

total-none : (from m : ℕ) → total from m [] ≡ 0
total-none from zero = refl
total-none from (suc m) = omega (arith, total-none (from + 1) m)

total-cons : (from m : ℕ) (d : Spoken) (calls : List Spoken)
    → total from m (d ∷ calls) ≡ hits d.actor from m + total from m calls
total-cons from zero d calls = refl
total-cons from (suc m) d calls = omega (
  arith,
  total-cons (from + 1) m d calls,
  ap length (script-cons from d calls),
  one-go (eqb d.actor from) d.call (script_of from calls),
)

-- the scripts of so many actors have no more calls than are listed
pub scripts-few : (from m : ℕ) (calls : List Spoken) → total from m calls ≤ length calls
scripts-few from m [] = omega (arith, total-none from m)
scripts-few from m (d ∷ calls) =
    omega (arith, total-cons from m d calls, hits-few d.actor from m, scripts-few from m calls)

-- ---- one call more

numbers-step : (n m : ℕ) → n < m → numbers_from n (m - n) ≡ n ∷ numbers_from (n + 1) (m - (n + 1))
numbers-step n m lt =
    let e : m - n ≡ suc (m - (n + 1)) = omega arith in
    ap (numbers_from n) e

pub scripts-step : (done : List (List Call)) (script : List Call) (f : ℕ → List Call) (n m : ℕ)
    (all : List (List Call)) → n < m → script ≡ f n → done ++ map f (numbers_from n (m - n)) ≡ all
    → (done ++ script ∷ []) ++ map f (numbers_from (n + 1) (m - (n + 1))) ≡ all
scripts-step done script f n m all lt e h =
    append_assoc done (script ∷ []) (map f (numbers_from (n + 1) (m - (n + 1))))
    ∙ ap (λ s. done ++ s ∷ map f (numbers_from (n + 1) (m - (n + 1)))) e
    ∙ ap (λ ns. done ++ map f ns) (sym (numbers-step n m lt))
    ∙ h

-- the scripts of so many actors from one on
abbrev pub scripts : List Spoken → ℕ → ℕ → List (List Call)
scripts calls from n = map (λ actor. script_of actor calls) (numbers_from from n)

-- another actor's script stays as it was, and this one's has the call at its end
push-go : (mine : Bool) (script : List Call) (call : Call) → mine ≡ true
    → script ++ (cond mine (call ∷ []) [] ++ []) ≡ script ++ call ∷ []
push-go true script call e = refl
push-go false script call e = cc

npush-go : (mine : Bool) (script : List Call) (call : Call) → mine ≡ false
    → script ++ (cond mine (call ∷ []) [] ++ []) ≡ script
npush-go true script call e = cc
npush-go false script call e = append-nil script

script-push : (s : ℕ) (calls : List Spoken) (d : Spoken)
    → script_of s (calls ++ d ∷ []) ≡ script_of s calls
    ++ (cond (eqb d.actor s) (d.call ∷ []) [] ++ [])
script-push s calls d =
    script-append s calls (d ∷ []) ∙ ap (λ l. script_of s calls ++ l) (script-cons s d [])

other-script : (s : ℕ) (calls : List Spoken) (d : Spoken) → d.actor ≢ s
    → script_of s (calls ++ d ∷ []) ≡ script_of s calls
other-script s calls d differs =
    let e : eqb d.actor s ≡ false = grind (arith, nat_tests) in
    script-push s calls d ∙ npush-go (eqb d.actor s) (script_of s calls) d.call e

own-script : (s : ℕ) (calls : List Spoken) (d : Spoken) → d.actor ≡ s
    → script_of s (calls ++ d ∷ []) ≡ script_of s calls ++ d.call ∷ []
own-script s calls d same =
    let e : eqb d.actor s ≡ true = grind (arith, nat_tests) in
    script-push s calls d ∙ push-go (eqb d.actor s) (script_of s calls) d.call e

-- a call of an actor below these, or of one above
scripts-below : (from n : ℕ) (calls : List Spoken) (d : Spoken) → d.actor < from
    → scripts calls from n ≡ scripts (calls ++ d ∷ []) from n
scripts-below from zero calls d below = refl
scripts-below from (suc n) calls d below =
    ap (λ s. s ∷ scripts calls (from + 1) n) (sym (other-script from calls d
    (omega (arith, below))))
    ∙ ap (λ ss. script_of from (calls ++ d ∷ []) ∷ ss)
    (scripts-below (from + 1) n calls d (omega (arith, below)))

scripts-above : (from n : ℕ) (calls : List Spoken) (d : Spoken) → from + n ≤ d.actor
    → scripts calls from n ≡ scripts (calls ++ d ∷ []) from n
scripts-above from zero calls d above = refl
scripts-above from (suc n) calls d above =
    ap (λ s. s ∷ scripts calls (from + 1) n) (sym (other-script from calls d
    (omega (arith, above))))
    ∙ ap (λ ss. script_of from (calls ++ d ∷ []) ∷ ss)
    (scripts-above (from + 1) n calls d (omega (arith, above)))

-- a call of the actor at this place among them
scripts-at : (from n at : ℕ) (calls : List Spoken) (d : Spoken) → at < n → d.actor ≡ from + at
    → set (scripts calls from n) at (get_or (scripts calls from n) at [] ++ d.call ∷ [])
    ≡ scripts (calls ++ d ∷ []) from n
scripts-at from zero at calls d below is = absurd (omega (arith, below))
scripts-at from (suc n) zero calls d below is =
    ap (λ s. s ∷ scripts calls (from + 1) n) (sym (own-script from calls d (omega (arith, is))))
    ∙ ap (λ ss. script_of from (calls ++ d ∷ []) ∷ ss)
    (scripts-below (from + 1) n calls d (omega (arith, is)))
scripts-at from (suc n) (suc at) calls d below is =
    ap (λ s. s ∷ set (scripts calls (from + 1) n) at
    (get_or (scripts calls (from + 1) n) at [] ++ d.call ∷ []))
    (sym (other-script from calls d (omega (arith, is))))
    ∙ ap (λ ss. script_of from (calls ++ d ∷ []) ∷ ss)
    (scripts-at (from + 1) n at calls d (omega (arith, below)) (omega (arith, is)))

-- the same over what the scripts are kept in
pub call-taken : {V : Type 0} (items : V → List Call) (made : List V) (was now : V) (n : ℕ)
    (calls : List Spoken)
    (d : Spoken) → map items made ≡ scripts calls 0 n → d.actor < length made
    → was ≡ get_or made d.actor was
    → items now ≡ items was ++ d.call ∷ [] → map items (set made d.actor now)
    ≡ scripts (calls ++ d ∷ []) 0 n
call-taken items made was now n calls d are below found is =
    let count = length-map made items in
    let script : items was ≡ get_or (map items made) d.actor [] =
    ap items found ∙ sym (get_or-map items made d.actor was [] below) in
    map-set items made d.actor now
    ∙ ap (set (map items made) d.actor) (is ∙ ap (λ s. s ++ d.call ∷ []) script)
    ∙ ap (λ ss. set ss d.actor (get_or ss d.actor [] ++ d.call ∷ [])) are
    ∙ scripts-at 0 n d.actor calls d (omega (
      arith,
      below,
      count,
      ap length are,
      scripts_count
          (λ actor. script_of actor calls) 0 n,
    )) (omega arith)

pub call-left_out : {V : Type 0} (items : V → List Call) (made : List V) (n : ℕ)
    (calls : List Spoken) (d : Spoken)
    → map items made ≡ scripts calls 0 n → length made ≤ d.actor
    → map items made ≡ scripts (calls ++ d ∷ []) 0 n
call-left_out items made n calls d are above =
    are ∙ scripts-above 0 n calls d
    (omega (
      arith,
      above,
      length-map made items,
      ap length are,
      scripts_count
          (λ actor. script_of actor calls) 0 n,
    ))
