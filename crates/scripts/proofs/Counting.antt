-- No history has more visits than the scripts have at most.
use Rattle.std.proofs.Common.{◌≡◌, inl, inr, ℕ, zero, suc, ◌+◌, ◌<◌, ◌≤◌, ◌==◌, Bool, true, false, cond, List, [], ◌∷◌, ◌++◌, length, map, take, get_or, refl, sym, ap, ◌∙◌, subst, arith}
use Rattle.std.specs.Prelude.{All, None, Some, slice_get, sum_by}
use Rattle.std.proofs.lemmas.Bool.{eqb-true, eq-eqb, ne_eqb, lt-ltb, le-ltb, cases_lt}
use Rattle.std.proofs.lemmas.Bool.Decides.{nat_tests}
use Rattle.std.proofs.lemmas.List.{append-nil, length_push, length-map}
use Rattle.std.proofs.lemmas.List.Sums.{sum_by-cons}
use Rattle.std.proofs.lemmas.List.Elements.{All-head, All-tail}
use Rattle.entry_word.specs.declared.visit.Visit.{Visit}
use Rattle.directory.specs.Settings.{Setting, start, subs}
use Rattle.directory.specs.Courses.{course_at}
use Rattle.directory.specs.Finds.{FindCall, most_looks}
use Rattle.directory.specs.Histories.{History, own}
use Rattle.directory.specs.Orders.{IsPlayed, Scripts, most_turns, next}
use Rattle.directory.specs.Statements.{TurnsAreFew, OwnGrow, MovesAreShort, MoreIsPlayed}
use Rattle.directory.specs.HistoryLaws.{none-played}
use Rattle.directory.specs.StepLaws.{by_fronts}
use Rattle.directory.specs.Writes.{visit_of, writes}
use Rattle.net_reader.specs.Input.{Contents}
use Rattle.net_reader.specs.Valid.{IsValid}
use Rattle.scripts.specs.Scripts.{IsSettingOf, most_in, scripts_of, step_of}
use Rattle.scripts.specs.Laws.{VisitsAreFew}
use Rattle.scripts.specs.MostLaws.{finds-most, steps-most}
use Rattle.scripts.specs.ScriptLaws.{finds-are, steps-are, stranger-done}
use Rattle.std.proofs.lemmas.Option.{slice_get-get_or}

-- sums over so many numbers from one on
total : (ℕ → ℕ) → ℕ → ℕ → ℕ
total f k zero = 0
total f k (suc n) = f k + total f (suc k) n

total-none : (f : ℕ → ℕ) (k n : ℕ) → ((a : ℕ) → f a ≡ 0) → total f k n ≡ 0
unfolding total
total-none f k zero h = refl
total-none f k (suc n) h = omega (arith, h k, total-none f (suc k) n h)

total-same : (f g : ℕ → ℕ) (x k n : ℕ) → ((a : ℕ) → (x == a) ≡ false → f a ≡ g a) → x < k → total f k n ≡ total g k n
unfolding total
total-same f g x k zero h low = refl
total-same f g x k (suc n) h low =
    omega (arith, h k (ne_eqb x k (λ e. absurd (omega (arith, e, low)))), total-same f g x (suc k) n h (omega arith))

total-one : (f g : ℕ → ℕ) (x k n : ℕ) → ((a : ℕ) → (x == a) ≡ false → f a ≡ g a) → f x ≡ suc (g x) → k ≤ x → x < k + n
    → total f k n ≡ suc (total g k n)
unfolding total
total-one f g x k zero h one low high = absurd (omega arith)
total-one f g x k (suc n) h one low high =
    at_test (x == k) refl (λ later. total-one f g x (suc k) n h one later (omega (arith, high)))
  where
    at_test : (b : Bool) → (x == k) ≡ b → (suc k ≤ x → total f (suc k) n ≡ suc (total g (suc k) n))
        → f k + total f (suc k) n ≡ suc (g k + total g (suc k) n)
    at_test true e rest =
        let same : x ≡ k = eqb-true x k e in
        let here : f k ≡ suc (g k) = subst (λ y. f y ≡ suc (g y)) same one in
        omega (arith, here, total-same f g x (suc k) n h (omega (arith, same)))
    at_test false e rest =
        let later : suc k ≤ x = grind (arith, nat_tests, e, low) in
        omega (arith, h k e, rest later)

-- the visits of a history are those of its actors
own-counts : (history : History) (n : ℕ) → All (λ (visit : Visit). visit.actor < n) history
    → length history ≡ total (λ a. length (own a history)) 0 n
own-counts [] n known = sym (total-none (λ a. 0) 0 n (λ a. refl))
own-counts (visit ∷ later) n known =
    omega (
      arith,
      own-counts later n (All-tail (λ (v : Visit). v.actor < n) visit later known),
      total-one (λ a. length (own a (visit ∷ later))) (λ a. length (own a later)) visit.actor 0 n
          (λ a e. ap (λ b. length (cond b (visit ∷ own a later) (own a later))) e)
          (ap (λ b. length (cond b (visit ∷ own visit.actor later) (own visit.actor later)))
          (eq-eqb visit.actor visit.actor refl))
          (omega arith) (omega (arith, All-head (λ (v : Visit). v.actor < n) visit later known)),
    )

total-most : (f g : ℕ → ℕ) (k n top : ℕ) → ((a : ℕ) → a < top → f a ≤ g a) → k + n ≤ top → total f k n ≤ total g k n
unfolding total
total-most f g k zero top h low = omega arith
total-most f g k (suc n) top h low =
    omega (arith, h k (omega (arith, low)), total-most f g (suc k) n top h (omega (arith, low)))

total-list : {A : Type 0} (f : A → ℕ) (d : A) (xs : List A) (g : ℕ → ℕ) (k : ℕ)
    → ((i : ℕ) → i < length xs → g (k + i) ≡ f (get_or xs i d)) → total g k (length xs) ≡ sum_by f xs
unfolding total
total-list f d [] g k h = refl
total-list f d (x ∷ xs) g k h =
    let first : g k ≡ f x = ap g (omega arith) ∙ h 0 (omega arith) in
    omega (
      arith,
      first,
      sum_by-cons f x xs,
      total-list f d xs g (suc k) (λ i l. ap g (omega arith) ∙ h (suc i) (omega (arith, l))),
    )

own-most : OwnGrow → TurnsAreFew
    → MoreIsPlayed
    → (setting : Setting) (scripts : Scripts) (history : History) (actor : ℕ)
    → IsPlayed setting scripts [] → IsPlayed setting scripts history
    → length (own actor history) ≤ most_turns setting scripts actor
own-most grow few more setting scripts history actor none played =
    (by_fronts (λ front. IsPlayed setting scripts front × (length (own actor front) ≤ most_turns setting scripts actor))
    history
    (none, omega arith) (λ t visit h at. step t visit h at (visit.actor == actor) refl)).1
  where
    step : (t : ℕ) (visit : Visit) → slice_get history t ≡ Some visit
        → IsPlayed setting scripts (take t history)
        × (length (own actor (take t history)) ≤ most_turns setting scripts actor)
        → (b : Bool) → (visit.actor == actor) ≡ b
        → IsPlayed setting scripts (take t history ++ visit ∷ [])
        × (length (own actor (take t history ++ visit ∷ [])) ≤ most_turns setting scripts actor)
    step t visit h at true e =
        let wants : next setting scripts (take t history) visit.actor ≡ Some visit = played t visit h in
        let less : length (own visit.actor (take t history)) < most_turns setting scripts visit.actor =
        few setting scripts (take t history) visit.actor visit at.0 wants in
        let mine : length (own actor (take t history)) < most_turns setting scripts actor =
        subst (λ a. length (own a (take t history)) < most_turns setting scripts a)
        (eqb-true visit.actor actor e) less in (
          more setting scripts (take t history) visit.actor visit wants at.0,
          omega (
            arith,
            mine,
            ap length (grow actor (take t history) visit
                ∙ ap (λ b. own actor (take t history) ++ cond b (visit ∷ []) []) e),
            length_push (own actor (take t history)) visit,
          ),
        )
    step t visit h at false e =
        let wants : next setting scripts (take t history) visit.actor ≡ Some visit = played t visit h in (
          more setting scripts (take t history) visit.actor visit wants at.0,
          omega (
            arith,
            at.1,
            ap length (grow actor (take t history) visit
                ∙ (ap (λ b. own actor (take t history) ++ cond b (visit ∷ []) []) e
                ∙ append-nil (own actor (take t history)))),
          ),
        )

turns-most : MovesAreShort → (input : Contents) (setting : Setting) (actor : ℕ) → IsValid input
    → IsSettingOf input setting → actor < length input.scripts
    → most_turns setting (scripts_of input) actor ≤ most_in setting (get_or input.scripts actor [])
turns-most short input setting actor valid over low =
    elim (cases_lt actor (subs setting)) as (λ _. most_turns setting (scripts_of input) actor
    ≤ most_in setting (get_or input.scripts actor [])) [
      | inl sub ↦ rw (lt-ltb actor (subs setting) sub)
          (omega (
            arith,
            steps-most short setting (course_at (start setting actor)) (get_or input.scripts actor []),
            length-map (writes setting (course_at (start setting actor))
                (map step_of (get_or input.scripts actor []))) (visit_of actor),
            ap (λ ss. length (map (visit_of actor) (writes setting (course_at (start setting actor)) ss)))
                (steps-are input actor valid (omega (arith, sub, count))),
          ))
      | inr high ↦ rw (le-ltb actor (subs setting) high)
          (omega (
            arith,
            finds-most setting input.nodes (length input.homes) (get_or input.scripts actor [])
                (valid.searches actor (omega (arith, high, count)) low),
            ap (λ fs. sum_by (λ (call : FindCall). most_looks setting call.from) fs)
                (finds-are input setting actor over.starts (omega (arith, high, count)) low),
          ))
    ]
  where
    count : subs setting ≡ length input.homes
    count = ap length over.starts

-- whoever made a visit is an actor of the input
known : (input : Contents) (setting : Setting) (history : History) → IsValid input → IsSettingOf input setting
    → IsPlayed setting (scripts_of input) history → All (λ (v : Visit). v.actor < length input.scripts) history
known input setting history valid over played t d low =
    let visit : Visit = get_or history t d in
    elim (cases_lt visit.actor (length input.scripts)) [
      | inl h ↦ h
      | inr high ↦
          let wants : next setting (scripts_of input) (take t history) visit.actor ≡ Some visit =
          played t visit (slice_get-get_or history t d low) in
          let none : next setting (scripts_of input) (take t history) visit.actor ≡ None =
          stranger-done input setting (take t history) visit.actor valid over.starts high in cc
    ]

pub visits-few : OwnGrow → TurnsAreFew → MovesAreShort → MoreIsPlayed → VisitsAreFew
visits-few grow few short more input setting history valid over played =
    let scripts : Scripts = scripts_of input in
    omega (
      arith,
      own-counts history (length input.scripts) (known input setting history valid over played),
      total-most (λ a. length (own a history)) (most_turns setting scripts) 0 (length input.scripts)
          (length input.scripts)
          (λ a l. own-most grow few more setting scripts history a (none-played setting scripts) played) (omega arith),
      total-most (most_turns setting scripts) (λ a. most_in setting (get_or input.scripts a [])) 0
          (length input.scripts) (length input.scripts)
          (λ a l. turns-most short input setting a valid over l) (omega arith),
      total-list (most_in setting) [] input.scripts (λ a. most_in setting (get_or input.scripts a [])) 0
          (λ i l. ap (λ a. most_in setting (get_or input.scripts a [])) (omega arith)),
    )
