-- The histories of orders: turns of actors until they are done, and orders of the actors of histories.
use Rattle.std.proofs.Common.{◌≡◌, ℕ, zero, suc, ◌+◌, ◌≤◌, true, ◌==◌, List, [], ◌∷◌, ◌++◌, None, length, map, fold, refl, ap, ◌∙◌, arith, inl, inr, ◌⊎◌}
use Rattle.std.specs.Prelude.{flat_map, replicate, option_map}
use Rattle.std.proofs.lemmas.Bool.{eqb-true, or_cases, ne_eqb, cases_lt}
use Rattle.std.proofs.lemmas.List.{append-nil, length_push, get_or_past, map-append}
use Rattle.std.proofs.lemmas.List.Sums.{fold-append}
use Rattle.std.proofs.lemmas.Option.{slice_get_within}
use Rattle.node_set.specs.Ascending.{has}
use Rattle.node_set.specs.SetLaws.{has-passing}
use Rattle.entry_word.specs.declared.visit.Visit.{Visit}
use Rattle.directory.specs.Settings.{Setting}
use Rattle.directory.specs.Histories.{History, own}
use Rattle.directory.specs.Looks.{look_by}
use Rattle.directory.specs.Orders.{actors, Scripts, caller_at, after_read, caller_after, next_key, after_turn, after_turns, most_turns, last_turns, history_of, IsPlayed, IsDone}
use Rattle.directory.proofs.HistoryLaws.{words-push}
use Rattle.directory.specs.Statements.{OrdersAreDone, HistoriesAreOrdered, OrdersAreOwn, TurnsAreFew}
use Rattle.directory.specs.StepLaws.{by_fronts, own-push}
use Rattle.directory.proofs.NextLaws.{after_turns-done, kept_by_play, next-actor, played-of_play, played-push, turn-some}
use Rattle.directory.proofs.CallerLaws.{caller-look, read_left}
use Rattle.directory.proofs.UnderWay.{under_way}
use Rattle.directory.specs.HistoryLaws.{next-sub, next-caller, tickets-count, turn-none}

-- an actor that isn't done has made fewer visits than it may
pub next-few : TurnsAreFew
next-few setting scripts history actor visit played h =
    grind (arith, cases_lt, slice_get_within, next-sub, caller-look, under_way, tickets-count, read_left)

-- the visits of others don't change an actor's next visit, so an actor that is done stays done
pub done-kept : (setting : Setting) (scripts : Scripts) (actor : ℕ) (order : List ℕ) (history : History)
    → IsDone setting scripts history actor → IsDone setting scripts (after_turns setting scripts history order) actor
done-kept setting scripts actor order history done = kept_by_play setting scripts
    (λ h. IsDone setting scripts h actor)
    (λ h other visit e now. grind (arith, own-push, words-push, append-nil, ne_eqb, next-actor)) order history done

-- after so many turns an actor is done, or has made a visit at each
abbrev IsCounted : Setting → Scripts → ℕ → ℕ → History → History → Type 0
IsCounted setting scripts actor k history later =
    IsDone setting scripts later actor ⊎ (k + length (own actor history) ≤ length (own actor later))

counted : (setting : Setting) (scripts : Scripts) (actor k : ℕ) (history : History)
    → IsCounted setting scripts actor k history (after_turns setting scripts history (replicate k actor))
counted setting scripts actor zero history = inr (omega arith)
counted setting scripts actor (suc k) history =
    grind (arith, done-kept, turn-none, own-push, next-actor, length_push, turn-some, counted setting scripts actor k)

pub played-kept : (setting : Setting) (scripts : Scripts) (order : List ℕ) (history : History)
    → IsPlayed setting scripts history → IsPlayed setting scripts (after_turns setting scripts history order)
played-kept setting scripts order history played = kept_by_play setting scripts (IsPlayed setting scripts)
    (played-push setting scripts) order history played

pub done-after : (setting : Setting) (scripts : Scripts) (actor : ℕ) (history : History)
    → IsPlayed setting scripts history → IsDone setting scripts
    (after_turns setting scripts history (replicate (most_turns setting scripts actor) actor)) actor
done-after setting scripts actor history played = grind (arith, next-few, played-kept, counted)

pub after_turns-append : (setting : Setting) (scripts : Scripts) (history : History) (one other : List ℕ)
    → after_turns setting scripts history (one ++ other)
    ≡ after_turns setting scripts (after_turns setting scripts history one) other
after_turns-append setting scripts history one other = fold-append (after_turn setting scripts) history one other

-- after enough turns of each of some actors these are done
abbrev turns_of : Setting → Scripts → List ℕ → List ℕ
turns_of setting scripts actors = flat_map (λ actor. replicate (most_turns setting scripts actor) actor) actors

done-each : (setting : Setting) (scripts : Scripts) (actor : ℕ) (actors : List ℕ) (history : History)
    → has actor actors ≡ true → IsPlayed setting scripts history
    → IsDone setting scripts (after_turns setting scripts history (turns_of setting scripts actors)) actor
done-each setting scripts actor [] history inside played = cc
done-each setting scripts actor (first ∷ others) history inside played =
    rw (after_turns-append setting scripts history (replicate (most_turns setting scripts first) first)
    (turns_of setting scripts others))
    (elim (or_cases (actor == first) (has actor others) inside) [
      | inl e ↦ grind (arith, done-kept, eqb-true, done-after)
      | inr later ↦ done-each setting scripts actor others _ later
          (played-kept setting scripts (replicate (most_turns setting scripts first) first) history played)
    ])

-- one who is no actor has no visit
stranger-done : (setting : Setting) (scripts : Scripts) (history : History) (actor : ℕ)
    → actors setting scripts ≤ actor → IsDone setting scripts history actor
stranger-done setting scripts history actor high = grind (arith, next-caller, get_or_past, idle)
  where
    nothing_left : (words : List ℕ) → fold (after_read setting) (caller_at []) words ≡ caller_at []
    nothing_left [] = refl
    nothing_left (word ∷ words) = nothing_left words

    idle : (words : List ℕ) → option_map (look_by actor) (next_key (caller_after setting [] words)) ≡ None
    idle words = ap (λ c. option_map (look_by actor) (next_key c)) (nothing_left words)

-- when an order is played to its end all scripts are done
pub all-done : OrdersAreDone
all-done setting scripts order actor =
    grind (arith, cases_lt, after_turns-append, has-passing, played-of_play, done-each, stranger-done)

-- more turns after the end change nothing
pub history-longer : (setting : Setting) (scripts : Scripts) (order more : List ℕ)
    → after_turns setting scripts (history_of setting scripts order) more ≡ history_of setting scripts order
history-longer setting scripts order more = grind (arith, after_turns-done, all-done)

-- an order that names the actor of each of its visits, or one that is done, is its own
own-order : (setting : Setting) (scripts : Scripts) (history : History) → IsPlayed setting scripts history
    → after_turns setting scripts [] (map (λ (visit : Visit). visit.actor) history) ≡ history
own-order setting scripts history played =
    by_fronts (λ front. after_turns setting scripts [] (map (λ (visit : Visit). visit.actor) front) ≡ front) history
    refl
    (λ t visit h same. grind (arith, map-append, after_turns-append, turn-some))

-- a played history, whoever made it, becomes the history of the order of its actors
pub completed : HistoriesAreOrdered
completed setting scripts history played = grind (arith, after_turns-append, own-order)

-- the order of the actors of a history that is played to its end gives that history again
pub same-again : OrdersAreOwn
same-again setting scripts history played done =
    completed setting scripts history played ∙ after_turns-done setting scripts history
    (last_turns setting scripts) (λ k d low. done _)
