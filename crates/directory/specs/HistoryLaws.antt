-- Short laws of histories, for the proofs of the crates above: fronts, the tickets of an actor, the
-- commits of a subscriber, and whose turn is next. Key laws: `front-through` (a front of a front is
-- one), `tickets-count` (an actor has as many tickets as visits), `commits-append` (more visits
-- only add commits), `next-sub` and `next-caller` (what the next visit of an actor is).
use Rattle.std.proofs.Common.{List, ℕ, length, [], sym, ◌∷◌, arith, ◌≡◌, suc, Bool, true, false, cond, ◌==◌, ◌++◌, take, refl, ap, ◌∙◌, ◌<◌, ◌≤◌}
use Rattle.directory.specs.Settings.{Setting, subs}
use Rattle.directory.specs.Histories.{tickets_from, History, IsFront, tickets, is_put_for, puts_to, own}
use Rattle.directory.specs.Orders.{Scripts, IsDone, IsPlayed, after_turn, script_visits, caller_in, next_key, next}
use Rattle.entry_word.specs.declared.visit.Visit.{Visit}
use Rattle.directory.specs.Standing.{commits, commit_of}
use Rattle.std.proofs.lemmas.List.{take_all, append-nil}
use Rattle.std.specs.Prelude.{filter_map, slice_get, option_map, option_to_list}
use Rattle.std.proofs.lemmas.List.Elements.{filter_map-append, filter-append}
use Rattle.directory.specs.Puts.{node_put, mark_put}
use Rattle.std.proofs.lemmas.Bool.{lt-ltb, le-ltb}
use Rattle.directory.specs.Looks.{look_by}

-- a history begins with itself
pub front-itself : (xs : List Visit) → IsFront xs xs
front-itself xs = sym (take_all (length xs) xs (omega arith))

-- what is longer begins with its front
pub front-append : (xs ys : List Visit) → IsFront xs (xs ++ ys)
front-append [] ys = refl
front-append (x ∷ xs) ys = ap (λ zs. x ∷ zs) (front-append xs ys)

-- a front of a front is one
pub front-through : (xs ys zs : List Visit) → IsFront xs ys → IsFront ys zs → IsFront xs zs
front-through [] ys zs f g = refl
front-through (x ∷ xs) [] zs f g = cc
front-through (x ∷ xs) (y ∷ ys) [] f g = cc
front-through (x ∷ xs) (y ∷ ys) (z ∷ zs) f g =
    let first : x ≡ z = cc in
    let one : xs ≡ take (length xs) ys = cc in
    let two : ys ≡ take (length ys) zs = cc in
    let rest : xs ≡ take (length xs) zs = front-through xs ys zs one two in cc

-- as many tickets as visits, from any ticket on
pub count_from : (actor ticket : ℕ) (history : History) → length (tickets_from actor ticket history)
    ≡ length (own actor history)
unfolding tickets_from
count_from actor ticket [] = refl
count_from actor ticket (visit ∷ later) =
    at_test (visit.actor == actor) (count_from actor (suc ticket) later)
  where
    at_test : (b : Bool) → length (tickets_from actor (suc ticket) later) ≡ length (own actor later)
        → length (cond b (ticket ∷ tickets_from actor (suc ticket) later)
        (tickets_from actor (suc ticket) later))
        ≡ length (cond b (visit ∷ own actor later) (own actor later))
    at_test true h = ap suc h
    at_test false h = h

-- an actor has as many tickets as visits
pub tickets-count : (actor : ℕ) (history : History)
    → length (tickets actor history) ≡ length (own actor history)
tickets-count actor history = count_from actor 0 history

-- more visits only add commits
pub commits-append : (sub : ℕ) (xs ys : History)
    → commits sub (xs ++ ys) ≡ commits sub xs ++ commits sub ys
commits-append sub xs ys =
    ap (filter_map (λ (v : Visit). commit_of (node_put v.act) (mark_put v.act)))
    (filter-append (λ (v : Visit). is_put_for sub v.act) xs ys)
    ∙ filter_map-append (λ (v : Visit). commit_of (node_put v.act) (mark_put v.act))
    (puts_to sub xs) (puts_to sub ys)

-- the next visit of a subscriber is the one of its script after those that it made
pub next-sub : (setting : Setting) (scripts : Scripts) (history : History) (actor : ℕ)
    → actor < subs setting
    → next setting scripts history actor ≡ slice_get (script_visits setting scripts actor)
    (length (own actor history))
next-sub setting scripts history actor low = rw (lt-ltb actor (subs setting) low) refl

-- and that of a caller is a look at the cell that it wants
pub next-caller : (setting : Setting) (scripts : Scripts) (history : History) (actor : ℕ)
    → subs setting ≤ actor
    → next setting scripts history actor ≡ option_map (look_by actor)
    (next_key (caller_in setting scripts history actor))
next-caller setting scripts history actor high = rw (le-ltb actor (subs setting) high) refl

-- in the empty history each visit was the next one
pub none-played : (setting : Setting) (scripts : Scripts) → IsPlayed setting scripts []
none-played setting scripts ticket visit h = cc

-- a turn of an actor that is done changes nothing
pub turn-none : (setting : Setting) (scripts : Scripts) (history : History) (actor : ℕ)
    → IsDone setting scripts history actor → after_turn setting scripts history actor ≡ history
turn-none setting scripts history actor h =
    ap (λ v. history ++ option_to_list v) h ∙ append-nil history
