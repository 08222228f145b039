-- The order of an outcome is the one that was given, completed: a turn of an actor that is done is
-- left out, and what is left comes by actor.
use Rattle.std.proofs.Common.{◌≡◌, ◌⊎◌, inl, inr, ℕ, zero, suc, ◌+◌, ◌<◌, ◌≤◌, ◌==◌, ltb, Bool, true, false, cond, List, [], ◌∷◌, ◌++◌, length, fold, Option, Some, None, refl, ap, sym, ◌∙◌, arith, subst, append_assoc, append-nil, length-append}
use Rattle.std.specs.Prelude.{filter, flat_map, option_map, option_to_list, replicate, slice_get}
use Rattle.std.proofs.lemmas.Bool.{cases_lt}
use Rattle.std.proofs.lemmas.Bool.Decides.{nat_tests}
use Rattle.std.proofs.lemmas.List.{map-append}
use Rattle.std.proofs.lemmas.List.Elements.{filter-append}
use Rattle.std.proofs.lemmas.List.Sums.{fold-append}
use Rattle.entry_word.specs.declared.visit.Visit.{Visit}
use Rattle.directory.specs.Histories.{History, own}
use Rattle.directory.specs.HistoryLaws.{next-caller, next-sub, turn-none}
use Rattle.directory.specs.Looks.{look_by}
use Rattle.directory.specs.Orders.{Caller, IsDone, Scripts, actors, after_turn, after_turns, history_of, last_turns, most_turns, next, next_key, script_visits}
use Rattle.directory.specs.Settings.{Setting, subs}
use Rattle.directory.specs.Statements.{CallersKept, OwnGrow}
use Rattle.directory.specs.Writes.{numbers_from}
use Rattle.soundness.specs.Turns.{Follows, NeverFall, turns_of, with_turn}
use Rattle.own_reports.proofs.Order.{actors_of}
use Rattle.own_reports.proofs.Signs.{lt-true}

-- the laws of turns that are used
pub record TurnLaws : Type 0 where
  pub own : (setting : Setting) (scripts : Scripts) (history : History) (actor : ℕ) (visit : Visit)
      → next setting scripts history actor ≡ Some visit → visit.actor ≡ actor
  pub grow : OwnGrow
  pub kept : CallersKept

-- ---- how many turns an actor has

turns-append : (actor : ℕ) (xs ys : List ℕ) → turns_of actor (xs ++ ys) ≡ turns_of actor xs + turns_of actor ys
turns-append actor xs ys =
    ap length (filter-append (λ other. other == actor) xs ys)
    ∙ length-append (filter (λ other. other == actor) xs) (filter (λ other. other == actor) ys)

turns-one : (actor : ℕ) → turns_of actor (actor ∷ []) ≡ 1
turns-one actor = rw (same-self actor) refl
  where
    same-self : (n : ℕ) → (n == n) ≡ true
    same-self n = grind (arith, nat_tests)

-- ---- actors that are done stay so

module _ (laws : TurnLaws) (setting : Setting) (scripts : Scripts) where
  -- a visit of another changes nothing of whose turn it is
  next-kept : (history : History) (actor : ℕ) (visit : Visit) → (visit.actor == actor) ≡ false
      → next setting scripts (history ++ visit ∷ []) actor ≡ next setting scripts history actor
  next-kept history actor visit apart =
      elim (cases_lt actor (subs setting)) [
        | inl low ↦
            let same : own actor (history ++ visit ∷ []) ≡ own actor history =
            laws.grow actor history visit
            ∙ ap (λ b. own actor history ++ cond b (visit ∷ []) []) apart
            ∙ append-nil (own actor history) in
            next-sub setting scripts (history ++ visit ∷ []) actor low
            ∙ ap (λ (vs : List Visit). slice_get (script_visits setting scripts actor) (length vs)) same
            ∙ sym (next-sub setting scripts history actor low)
        | inr high ↦
            next-caller setting scripts (history ++ visit ∷ []) actor high
            ∙ ap (λ (c : Caller). option_map (look_by actor) (next_key c))
            (laws.kept setting scripts history actor visit apart).0
            ∙ sym (next-caller setting scripts history actor high)
      ]

  -- what a turn makes
  abbrev made_by : History → ℕ → List ℕ
  made_by history actor = actors_of (option_to_list (next setting scripts history actor))

  turn-actors : (history : History) (actor : ℕ)
      → actors_of (after_turn setting scripts history actor) ≡ actors_of history ++ made_by history actor
  turn-actors history actor =
      map-append (λ (v : Visit). v.actor) history (option_to_list (next setting scripts history actor))

  -- a turn of an actor makes a visit of it, or changes nothing
  record IsTurn (history : History) (actor : ℕ) : Type 0 where
    visit : Visit
    is : next setting scripts history actor ≡ Some visit
    actors_are : actors_of (after_turn setting scripts history actor) ≡ actors_of history ++ actor ∷ []
    grown : after_turn setting scripts history actor ≡ history ++ visit ∷ []
    own_is : visit.actor ≡ actor

  turn : (history : History) (actor : ℕ) (visit : Visit) → next setting scripts history actor ≡ Some visit
      → IsTurn history actor
  turn history actor visit is =
      record {
        visit = visit;
        is = is;
        actors_are = turn-actors history actor
            ∙ ap (λ o. actors_of history ++ actors_of (option_to_list o)) is
            ∙ ap (λ a. actors_of history ++ a ∷ []) (laws.own setting scripts history actor visit is);
        grown = ap (λ o. history ++ option_to_list o) is;
        own_is = laws.own setting scripts history actor visit is;
      }

  turned : (history : History) (actor : ℕ) → IsDone setting scripts history actor ⊎ IsTurn history actor
  turned history actor = at_next (next setting scripts history actor) refl
    where
      at_next : (o : Option Visit) → next setting scripts history actor ≡ o
          → IsDone setting scripts history actor ⊎ IsTurn history actor
      at_next None is = inl is
      at_next (Some visit) is = inr (turn history actor visit is)

  -- an actor that is done has no turn more, whatever comes
  done-stays : (history : History) (actor : ℕ) (order : List ℕ) → IsDone setting scripts history actor
      → turns_of actor (actors_of (after_turns setting scripts history order)) ≡ turns_of actor (actors_of history)
  done-stays history actor [] done = refl
  done-stays history actor (other ∷ order) done =
      elim (turned history other) [
        | inl idle ↦
            ap (λ (h : History). turns_of actor (actors_of (after_turns setting scripts h order)))
            (turn-none setting scripts history other idle)
            ∙ done-stays history actor order done
        | inr made ↦
            let apart : (made.visit.actor == actor) ≡ false = differ made.visit made.own_is made.is in
            let still : IsDone setting scripts (history ++ made.visit ∷ []) actor =
            next-kept history actor made.visit apart ∙ done in
            ap (λ (h : History). turns_of actor (actors_of (after_turns setting scripts h order))) made.grown
            ∙ done-stays (history ++ made.visit ∷ []) actor order still
            ∙ ap (turns_of actor) (map-append (λ (v : Visit). v.actor) history (made.visit ∷ []))
            ∙ turns-append actor (actors_of history) (made.visit.actor ∷ [])
            ∙ ap (λ b. turns_of actor (actors_of history) + length (cond b (made.visit.actor ∷ []) [])) apart
            ∙ omega arith
      ]
    where
      differ : (visit : Visit) → visit.actor ≡ other → next setting scripts history other ≡ Some visit
          → (visit.actor == actor) ≡ false
      differ visit own is = at_test (visit.actor == actor) refl
        where
          at_test : (b : Bool) → (visit.actor == actor) ≡ b → b ≡ false
          at_test false e = refl
          at_test true e =
              let same : visit.actor ≡ actor = grind (arith, nat_tests, e) in
              let bad : None ≡ Some visit =
              sym done ∙ ap (next setting scripts history) (sym same ∙ own) ∙ is in absurd cc

  -- turns only grow
  turns-grow : (history : History) (actor : ℕ) (order : List ℕ)
      → turns_of actor (actors_of history) ≤ turns_of actor (actors_of (after_turns setting scripts history order))
  turns-grow history actor [] = omega arith
  turns-grow history actor (other ∷ order) =
      omega (
        arith,
        turns-grow (after_turn setting scripts history other) actor order,
        ap (turns_of actor) (turn-actors history other),
        turns-append actor (actors_of history) (made_by history other),
      )

  -- the turns that were taken are those of which the whole has more
  taken : (history : History) (order later : List ℕ) (all : List ℕ)
      → all ≡ actors_of (after_turns setting scripts (after_turns setting scripts history order) later)
      → actors_of (after_turns setting scripts history order) ≡ fold (with_turn all) (actors_of history) order
  taken history [] later all is = refl
  taken history (actor ∷ order) later all is =
      elim (turned history actor) [
        | inl idle ↦
            let same : after_turn setting scripts history actor ≡ history = turn-none setting scripts history actor idle in
            let still : all ≡ actors_of (after_turns setting scripts (after_turns setting scripts history order) later) =
            is ∙ ap (λ (h : History). actors_of (after_turns setting scripts (after_turns setting scripts h order) later))
            same in
            let none : turns_of actor all ≡ turns_of actor (actors_of history) =
            ap (turns_of actor) still
            ∙ ap (λ (h : History). turns_of actor (actors_of h)) (sym (fold-append (after_turn setting scripts) history order later))
            ∙ done-stays history actor (order ++ later) idle in
            ap (λ (h : History). actors_of (after_turns setting scripts h order)) same
            ∙ taken history order later all still
            ∙ ap (λ (before : List ℕ). fold (with_turn all) before order) (sym (left-out (actors_of history) none))
        | inr made ↦
            let next_history : History = after_turn setting scripts history actor in
            let more : turns_of actor (actors_of next_history) ≡ turns_of actor (actors_of history) + 1 =
            ap (turns_of actor) made.actors_are ∙ turns-append actor (actors_of history) (actor ∷ [])
            ∙ ap (λ n. turns_of actor (actors_of history) + n) (turns-one actor) in
            let grows : turns_of actor (actors_of next_history) ≤ turns_of actor all =
            subst (λ (os : List ℕ). turns_of actor (actors_of next_history) ≤ turns_of actor os)
            (ap actors_of (fold-append (after_turn setting scripts) next_history order later) ∙ sym is)
            (turns-grow next_history actor (order ++ later)) in
            taken next_history order later all is
            ∙ ap (λ (before : List ℕ). fold (with_turn all) before order)
            (made.actors_are ∙ sym (put-in (actors_of history) (omega (arith, more, grows))))
      ]
    where
      left-out : (before : List ℕ) → turns_of actor all ≡ turns_of actor before → with_turn all before actor ≡ before
      left-out before none = rw (not-less (turns_of actor before) (turns_of actor all) none) refl
        where
          not-less : (a b : ℕ) → b ≡ a → ltb a b ≡ false
          not-less a b e = grind (arith, nat_tests)

      put-in : (before : List ℕ) → turns_of actor before < turns_of actor all
          → with_turn all before actor ≡ before ++ actor ∷ []
      put-in before less = rw (lt-true (turns_of actor before) (turns_of actor all) less) refl

  -- ---- the turns at the end

  -- turns that never fall
  weaker : (low high : ℕ) (order : List ℕ) → low ≤ high → NeverFall high order → NeverFall low order
  weaker low high [] le falls = tt
  weaker low high (actor ∷ order) le falls = (omega (arith, le, falls.0), falls.1)

  record IsRest (history : History) (least : ℕ) (order : List ℕ) : Type 0 where
    rest : List ℕ
    is : actors_of (after_turns setting scripts history order) ≡ actors_of history ++ rest
    never : NeverFall least rest

  rest-of : (history : History) (least : ℕ) (order : List ℕ) → NeverFall least order → IsRest history least order
  rest-of history least [] falls = record { rest = []; is = sym (append-nil (actors_of history)); never = tt }
  rest-of history least (actor ∷ order) falls =
      elim (turned history actor) [
        | inl idle ↦
            let deep = rest-of history actor order falls.1 in
            record {
              rest = deep.rest;
              is = ap (λ (h : History). actors_of (after_turns setting scripts h order))
                  (turn-none setting scripts history actor idle) ∙ deep.is;
              never = weaker least actor deep.rest falls.0 deep.never;
            }
        | inr made ↦
            let deep = rest-of (after_turn setting scripts history actor) actor order falls.1 in
            record {
              rest = actor ∷ deep.rest;
              is = deep.is ∙ ap (λ (os : List ℕ). os ++ deep.rest) made.actors_are
                  ∙ append_assoc (actors_of history) (actor ∷ []) deep.rest;
              never = (falls.0, deep.never);
            }
      ]

  again-falls : (count from : ℕ) (order : List ℕ) → NeverFall (suc from) order
      → NeverFall from (replicate count from ++ order)
  again-falls zero from order falls = weaker from (suc from) order (omega arith) falls
  again-falls (suc count) from order falls = (omega arith, again-falls count from order falls)

  last-falls : (many : ℕ → ℕ) (count from : ℕ)
      → NeverFall from (flat_map (λ actor. replicate (many actor) actor) (numbers_from from count))
  last-falls many zero from = tt
  last-falls many (suc count) from =
      again-falls (many from) from (flat_map (λ actor. replicate (many actor) actor) (numbers_from (suc from) count))
      (last-falls many count (suc from))

  -- the order of a history is the one that was given, completed
  pub followed : (order : List ℕ) → Follows order (actors_of (history_of setting scripts order))
  followed order =
      let front : History = after_turns setting scripts [] order in
      let whole : history_of setting scripts order ≡ after_turns setting scripts front (last_turns setting scripts) =
      fold-append (after_turn setting scripts) [] order (last_turns setting scripts) in
      let end = rest-of front 0 (last_turns setting scripts)
      (last-falls (most_turns setting scripts) (actors setting scripts) 0) in (
        end.rest,
        ap actors_of whole ∙ end.is
            ∙ ap (λ (os : List ℕ). os ++ end.rest)
            (taken [] order (last_turns setting scripts) (actors_of (history_of setting scripts order))
            (ap actors_of whole)),
        end.never,
      )
