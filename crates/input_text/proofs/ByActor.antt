-- The calls of scripts, listed by actor, are those scripts again.
use Rattle.std.proofs.Common.{◌≡◌, ℕ, zero, suc, ◌+◌, ◌<◌, ◌≤◌, Bool, true, false, cond, eqb, List, [], ◌∷◌, ◌++◌, map, length, length-append, get_or, drop, drop-cons, add-one, append_assoc, All, Ok, refl, sym, ap, subst, ◌∙◌, append-nil, arith}
use Rattle.std.proofs.lemmas.Bool.Decides.{nat_tests}
use Rattle.std.proofs.lemmas.List.{length-map, map-append}
use Rattle.std.proofs.lemmas.List.Elements.{All-append, All-cons, All-nil}
use Rattle.net_reader.specs.declared.said.Call.{Call}
use Rattle.net_reader.specs.declared.said.Spoken.{Spoken}
use Rattle.net_reader.specs.Input.{Contents, IsInput, numbers_from}
use Rattle.net_reader.specs.Said.{script_of}
use Rattle.net_reader.specs.Valid.{IsValid, count_calls}
use Rattle.input_text.specs.declared.listing.ActorCall.{ActorCall}
use Rattle.input_text.specs.Listing.{calls_from, calls_of, contents_in, input_text_of, listing_of, spoken_of}
use Rattle.input_text.specs.Laws.{IsListing}
use Rattle.net_reader.specs.CallLaws.{script-append, script-cons}
use Rattle.input_text.proofs.Whole.{listings_read}

-- the calls of one actor, as the reader keeps them
abbrev said_by : ℕ → List Call → List Spoken
said_by actor script = map spoken_of (calls_of actor script)

abbrev said_from : ℕ → List (List Call) → List Spoken
said_from actor scripts = map spoken_of (calls_from actor scripts)

said-cons : (actor : ℕ) (script : List Call) (scripts : List (List Call))
    → said_from actor (script ∷ scripts) ≡ said_by actor script ++ said_from (actor + 1) scripts
said-cons actor script scripts = map-append spoken_of (calls_of actor script) (calls_from (actor + 1) scripts)

one-go : (mine : Bool) (call : Call) → mine ≡ true → cond mine (call ∷ []) [] ≡ call ∷ []
one-go true call e = refl
one-go false call e = cc

none-go : (mine : Bool) (call : Call) → mine ≡ false → cond mine (call ∷ []) [] ≡ []
none-go true call e = cc
none-go false call e = refl

-- an actor's own calls are its script, and another's have none of them
own : (actor : ℕ) (script : List Call) → script_of actor (said_by actor script) ≡ script
own actor [] = refl
own actor (call ∷ script) =
    let mine : eqb actor actor ≡ true = grind (arith, nat_tests) in
    script-cons actor (record { actor = actor; call = call }) (said_by actor script)
    ∙ ap (λ l. l ++ script_of actor (said_by actor script)) (one-go (eqb actor actor) call mine)
    ∙ ap (λ l. call ∷ l) (own actor script)

other : (a actor : ℕ) (script : List Call) → eqb actor a ≡ false → script_of a (said_by actor script) ≡ []
other a actor [] differs = refl
other a actor (call ∷ script) differs =
    script-cons a (record { actor = actor; call = call }) (said_by actor script)
    ∙ ap (λ l. l ++ script_of a (said_by actor script)) (none-go (eqb actor a) call differs)
    ∙ other a actor script differs

none-below : (a actor : ℕ) (scripts : List (List Call)) → a < actor → script_of a (said_from actor scripts) ≡ []
none-below a actor [] below = refl
none-below a actor (script ∷ scripts) below =
    let differs : eqb actor a ≡ false = grind (arith, nat_tests) in
    ap (script_of a) (said-cons actor script scripts)
    ∙ script-append a (said_by actor script) (said_from (actor + 1) scripts)
    ∙ ap (λ l. l ++ script_of a (said_from (actor + 1) scripts)) (other a actor script differs)
    ∙ none-below a (actor + 1) scripts (omega arith)

-- one script more is listed
pub calls-step : (scripts : List (List Call)) (done : List ActorCall) {now all : List ActorCall} (actor : ℕ)
    {script : List Call} → actor < length scripts → get_or scripts actor [] ≡ script
    → now ≡ done ++ calls_of actor script → done ++ calls_from actor (drop actor scripts) ≡ all
    → now ++ calls_from (actor + 1) (drop (actor + 1) scripts) ≡ all
calls-step scripts done actor {script} below is grown so_far =
    let rest : List ActorCall = calls_from (actor + 1) (drop (actor + 1) scripts) in
    let here : drop actor scripts ≡ get_or scripts actor [] ∷ drop (actor + 1) scripts =
    rw add-one (drop-cons scripts actor [] below) in
    ap (λ l. l ++ rest) grown
    ∙ append_assoc done (calls_of actor script) rest
    ∙ ap (λ s. done ++ (calls_of actor s ++ rest)) (sym is)
    ∙ ap (λ ss. done ++ calls_from actor ss) (sym here)
    ∙ so_far

first : (actor : ℕ) (script : List Call) (scripts : List (List Call))
    → script_of actor (said_from actor (script ∷ scripts)) ≡ script
first actor script scripts =
    grind (arith, said-cons, script-append, own, none-below, append-nil)

later : (a actor : ℕ) (script : List Call) (scripts : List (List Call)) → actor < a
    → script_of a (said_from actor (script ∷ scripts)) ≡ script_of a (said_from (actor + 1) scripts)
later a actor script scripts above =
    grind (arith, said-cons, script-append, other)

maps-same : (f g : ℕ → List Call) (from n : ℕ) → ((a : ℕ) → from ≤ a → f a ≡ g a)
    → map f (numbers_from from n) ≡ map g (numbers_from from n)
maps-same f g from zero h = refl
maps-same f g from (suc n) h =
    grind (arith, nat_tests, maps-same f g (from + 1) n (λ a above. h a (omega arith)))

-- the scripts of the listed calls
back : (actor : ℕ) (scripts : List (List Call))
    → map (λ a. script_of a (said_from actor scripts)) (numbers_from actor (length scripts)) ≡ scripts
back actor [] = refl
back actor (script ∷ scripts) =
    ap (λ s. s ∷ map (λ a. script_of a (said_from actor (script ∷ scripts))) (numbers_from (actor + 1) (length
    scripts))) (first actor script scripts)
    ∙ ap (λ l. script ∷ l)
    (maps-same (λ a. script_of a (said_from actor (script ∷ scripts))) (λ a. script_of a (said_from (actor + 1)
    scripts)) (actor + 1) (length scripts) (λ a above. later a actor script scripts (omega arith))
    ∙ back (actor + 1) scripts)

pub listed-back : {contents : Contents} → IsValid contents → contents_in (listing_of contents) ≡ contents
listed-back {contents} valid =
    let scripts = contents.scripts in
    ap (λ n. record contents { scripts = map (λ a. script_of a (said_from 0 scripts)) (numbers_from 0 n) })
    (sym valid.scripts)
    ∙ ap (λ ss. record contents { scripts = ss }) (back 0 scripts)

-- ---- what a listing needs

own-actors : (n actor : ℕ) (script : List Call) → actor < n
    → All (λ (c : ActorCall). c.actor < n) (calls_of actor script)
own-actors n actor [] below = All-nil (λ (c : ActorCall). c.actor < n)
own-actors n actor (call ∷ script) below =
    All-cons (λ (c : ActorCall). c.actor < n) (record { actor = actor; call = call }) (calls_of actor script) below
    (own-actors n actor script below)

listed-actors : (n actor : ℕ) (scripts : List (List Call)) → actor + length scripts ≤ n
    → All (λ (c : ActorCall). c.actor < n) (calls_from actor scripts)
listed-actors n actor [] few = All-nil (λ (c : ActorCall). c.actor < n)
listed-actors n actor (script ∷ scripts) few =
    All-append (λ (c : ActorCall). c.actor < n) (calls_of actor script) (calls_from (actor + 1) scripts)
    (own-actors n actor script (omega arith)) (listed-actors n (actor + 1) scripts (omega arith))

listed-count : (actor : ℕ) (scripts : List (List Call)) → length (calls_from actor scripts) ≡ count_calls scripts
listed-count actor [] = refl
listed-count actor (script ∷ scripts) = omega (
  arith,
  length-append (calls_of actor script) (calls_from (actor + 1) scripts),
  length-map script (λ (call : Call). let c : ActorCall = record { actor = actor; call = call } in c),
  listed-count (actor + 1) scripts,
)

listed-is : {contents : Contents} → IsValid contents → IsListing (listing_of contents)
listed-is {contents} valid = record {
  valid = subst IsValid (sym (listed-back valid)) valid;
  actors = listed-actors (length contents.homes + contents.callers) 0 contents.scripts (omega (arith, valid.scripts));
  few = omega (arith, listed-count 0 contents.scripts, valid.few_calls);
}

pub inputs_read : (contents : Contents) → IsValid contents → IsInput (input_text_of contents) (Ok contents)
inputs_read contents valid =
    subst (λ (c : Contents). IsInput (input_text_of contents) (Ok c)) (listed-back valid)
    (listings_read (listing_of contents) (listed-is valid))
