-- The next visits of actors, and histories in which each visit was its actor's next one.
use Rattle.std.proofs.Common.{◌≡◌, ℕ, ◌+◌, ◌<◌, ◌==◌, List, [], ◌∷◌, ◌++◌, Some, length, take, refl, sym, ap, ◌∙◌, subst, arith, inl, inr}
use Rattle.std.specs.Prelude.{slice_get, option_to_list, All}
use Rattle.std.proofs.lemmas.Bool.{eqb-true, ne_eqb, cases_lt}
use Rattle.std.proofs.lemmas.List.{append-nil, take_all, take-append-le, length_push}
use Rattle.std.proofs.lemmas.Option.{slice_get-map, slice_get_within}
use Rattle.std.proofs.lemmas.List.Elements.{All-head, All-tail}
use Rattle.entry_word.specs.declared.visit.Visit.{Visit}
use Rattle.directory.specs.Settings.{Setting, subs}
use Rattle.directory.specs.Histories.{History, is_put_for, puts_to, own}
use Rattle.directory.specs.Writes.{Write, mark_at, entry_at, visit_of}
use Rattle.directory.specs.Legal.{ArePuts}
use Rattle.directory.specs.Orders.{Scripts, steps_of, script_visits, next, after_turn, after_turns, last_turns, IsPlayed, IsDone}
use Rattle.directory.proofs.StepLaws.{script-legal}
use Rattle.entry_word.specs.Marks.{MarksUnpack}
use Rattle.directory.specs.Statements.{OrdersArePlayed, OwnPutsAlone, ScriptsInOrder, PlayedIsLegal, MoreIsPlayed}
use Rattle.directory.specs.StepLaws.{by_fronts, own-push, puts-push, slice_get-within, take-more}
use Rattle.directory.specs.ListLaws.{option_map-some, same_some, slice_get-left, slice_get-right}
use Rattle.directory.specs.HistoryLaws.{next-sub, next-caller, none-played, turn-none}

-- a subscriber's write is a put for itself alone
write-puts : (sub s : ℕ) (write : Write) → is_put_for s (visit_of sub write).act ≡ (sub == s)
write-puts sub s (mark_at node mark) = refl
write-puts sub s (entry_at level cluster address) = refl

-- the next visit of an actor is its own, and a put into a cell of a subscriber just where that is the actor
next-own : (setting : Setting) (scripts : Scripts) (history : History) (actor : ℕ) (visit : Visit)
    → next setting scripts history actor ≡ Some visit → (visit.actor ≡ actor)
    × ((s : ℕ) → s < subs setting → is_put_for s visit.act ≡ (actor == s))
next-own setting scripts history actor visit h =
    grind (arith, cases_lt, next-sub, slice_get-map, write-puts, next-caller, option_map-some, ne_eqb)

pub next-actor : (setting : Setting) (scripts : Scripts) (history : History) (actor : ℕ) (visit : Visit)
    → next setting scripts history actor ≡ Some visit → visit.actor ≡ actor
next-actor setting scripts history actor visit h = (next-own setting scripts history actor visit h).0

pub turn-some : (setting : Setting) (scripts : Scripts) (history : History) (actor : ℕ) (visit : Visit)
    → next setting scripts history actor ≡ Some visit → after_turn setting scripts history actor
    ≡ history ++ visit ∷ []
turn-some setting scripts history actor visit h = ap (λ v. history ++ option_to_list v) h

-- what holds of a history and with each next visit holds after a turn, and after an order
kept_by_turn : (setting : Setting) (scripts : Scripts) (P : History → Type 0) (history : History) (actor : ℕ)
    → ((visit : Visit) → next setting scripts history actor ≡ Some visit → P (history ++ visit ∷ [])) → P history
    → P (after_turn setting scripts history actor)
kept_by_turn setting scripts P history actor more now = grind (arith, turn-none, turn-some)

pub kept_by_play : (setting : Setting) (scripts : Scripts) (P : History → Type 0)
    → ((history : History) (actor : ℕ) (visit : Visit) → next setting scripts history actor ≡ Some visit → P history
    → P (history ++ visit ∷ []))
    → (order : List ℕ) (history : History) → P history → P (after_turns setting scripts history order)
kept_by_play setting scripts P more [] history now = now
kept_by_play setting scripts P more (actor ∷ order) history now =
    kept_by_play setting scripts P more order _ (kept_by_turn setting scripts P history actor
    (λ visit e. more history actor visit e now) now)

-- a next visit keeps that each visit was its actor's next one
pub played-push : MoreIsPlayed
played-push setting scripts history actor visit e played ticket found h =
    elim (cases_lt ticket (length history)) [
      | inl low ↦
          let here = slice_get-within history ticket low in
          rw (take-append-le ticket history (visit ∷ []) (omega arith)) (grind (arith, slice_get-left))
      | inr high ↦
          let within : ticket < length (history ++ visit ∷ []) = grind (arith, slice_get_within) in
          let same : ticket ≡ length history + 0 = omega (arith, length_push history visit) in
          let is_found : visit ≡ found = same_some (sym (slice_get-right history (visit ∷ []) ticket 0 same) ∙ h) in
          rw (
            take-append-le ticket history (visit ∷ []) (omega arith),
            take_all ticket history (omega arith),
            ← is_found,
          ) (ap (next setting scripts history) (next-actor setting scripts history actor visit e) ∙ e)
    ]

-- each visit of the history of an order was its actor's next one
pub played-of_play : (setting : Setting) (scripts : Scripts) (order : List ℕ)
    → IsPlayed setting scripts (after_turns setting scripts [] order)
played-of_play setting scripts order = kept_by_play setting scripts (IsPlayed setting scripts)
    (played-push setting scripts) order [] (none-played setting scripts)

pub played-of_history : OrdersArePlayed
played-of_history setting scripts order = played-of_play setting scripts (order ++ last_turns setting scripts)

-- turns of actors that are done change nothing
pub after_turns-done : (setting : Setting) (scripts : Scripts) (history : History) (idle : List ℕ)
    → All (IsDone setting scripts history) idle → after_turns setting scripts history idle ≡ history
after_turns-done setting scripts history [] done = refl
after_turns-done setting scripts history (actor ∷ idle) done =
    rw (turn-none setting scripts history actor (All-head (IsDone setting scripts history) actor idle done))
    (after_turns-done setting scripts history idle (All-tail (IsDone setting scripts history) actor idle done))

-- in such a history what is put for a subscriber are its own visits, and these are the first of its script
pub played-puts : OwnPutsAlone
played-puts setting scripts history sub below played =
    by_fronts (λ front. puts_to sub front ≡ own sub front) history refl
    (λ t visit h same. puts-push sub (take t history) visit
    ∙ rw (same, (next-own setting scripts (take t history) visit.actor visit (played t visit h)).1 sub below)
    (sym (own-push sub (take t history) visit)))

front-push : (whole made : History) (visit : Visit) → slice_get whole (length made) ≡ Some visit
    → made ≡ take (length made) whole → made ++ visit ∷ [] ≡ take (length (made ++ visit ∷ [])) whole
front-push whole made visit next_one so_far = grind (arith, length_push, take-more)

pub played-own : ScriptsInOrder
played-own setting scripts history sub below played =
    by_fronts (λ front. own sub front ≡ take (length (own sub front)) (script_visits setting scripts sub)) history
    refl (λ t visit h so_far. grind (arith, own-push, front-push, next-sub, eqb-true, append-nil))

-- so it is legal for each subscriber
pub played-legal : MarksUnpack → PlayedIsLegal
played-legal unpacks setting scripts history sub low valid below played =
    subst (ArePuts setting sub) (sym (played-puts setting scripts history sub below played
    ∙ played-own setting scripts history sub below played))
    (script-legal unpacks setting sub (steps_of scripts sub) (length (own sub history)) low (valid.steps sub below))
