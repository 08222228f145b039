-- What a subscriber has put before a ticket: the first writes of its script, as many as it has
-- tickets before it. They tell where it stands, and whether it is off.
use Rattle.std.proofs.Common.{◌≡◌, ℕ, zero, suc, ◌+◌, ◌^◌, ◌<◌, ◌≤◌, ◌==◌, Bool, true, false, cond, List, [], ◌∷◌, ◌++◌, length, take, drop, map, fold, Some, None, refl, ap, sym, ◌∙◌, arith}
use Rattle.std.specs.Prelude.{slice_get, slice_index, filter_map}
use Rattle.std.proofs.lemmas.List.{length-map, length-take, take-append-drop, take-append-le}
use Rattle.std.proofs.lemmas.List.Elements.{filter-append}
use Rattle.std.proofs.lemmas.Option.{slice_get-get_or}
use Rattle.entry_word.specs.Marks.{MarksUnpack, says_off}
use Rattle.entry_word.specs.declared.visit.Visit.{Visit}
use Rattle.directory.specs.Settings.{Setting, start, subs}
use Rattle.directory.specs.Courses.{Course, Step, after_steps, course_at}
use Rattle.directory.specs.Histories.{History, before, is_put_for, own, puts_to, tickets, tickets_from}
use Rattle.directory.specs.Legal.{IsLegal}
use Rattle.directory.specs.Orders.{AreValid, IsDone, IsPlayed, Scripts, next, steps_of}
use Rattle.directory.specs.Puts.{mark_put, steps_from, steps_in}
use Rattle.directory.specs.Standing.{commits, off}
use Rattle.directory.specs.States.{AreSmall, write_commit, write_off, writes_made}
use Rattle.directory.specs.Statements.{CommitsAreTold, DoneShowsScript, OffIsTold, OwnPutsAlone, PlayedIsLegal, ScriptsInOrder, TicketsAreOwn, TicketsAscend}
use Rattle.directory.specs.StepLaws.{steps-append, writes-append}
use Rattle.directory.specs.Writes.{Write, visit_of, writes}
use Rattle.own_reports.proofs.Order.{high}

-- the laws of the directory that are used
pub record Laws : Type 0 where
  pub ascend : TicketsAscend
  pub visits : TicketsAreOwn
  pub in_order : ScriptsInOrder
  pub alone : OwnPutsAlone
  pub legal : PlayedIsLegal
  pub shown : DoneShowsScript
  pub commits : CommitsAreTold
  pub off : OffIsTold
  pub small : (setting : Setting) (sub : ℕ) (history : History) → setting.nodes ≤ 2 ^ 16
      → IsLegal setting sub history → AreSmall (writes_made setting sub (puts_to sub history))
  pub unpack : MarksUnpack

-- a history of valid scripts that is played to its end
pub record IsOver (setting : Setting) (scripts : Scripts) (history : History) : Type 0 where
  pub nodes : setting.nodes ≤ 2 ^ 16
  pub valid : AreValid setting scripts
  pub played : IsPlayed setting scripts history
  pub done : (actor : ℕ) → IsDone setting scripts history actor

-- ---- fronts

record IsTaken {A : Type 0} (xs : List A) (t j : ℕ) (x : A) : Type 0 where
  there : slice_get xs j ≡ Some x
  front : take j (take t xs) ≡ take j xs

taken : {A : Type 0} (xs : List A) (t j : ℕ) (x : A) → slice_get (take t xs) j ≡ Some x → IsTaken xs t j x
taken xs zero j x is = let bad : None ≡ Some x = is in cc
taken [] (suc t) j x is = let bad : None ≡ Some x = is in cc
taken (y ∷ xs) (suc t) zero x is = record { there = is; front = refl }
taken (y ∷ xs) (suc t) (suc j) x is =
    let deep = taken xs t j x is in record { there = deep.there; front = ap (λ zs. y ∷ zs) deep.front }

-- a front of a played history is played
pub front-played : (setting : Setting) (scripts : Scripts) (history : History) (t : ℕ)
    → IsPlayed setting scripts history
    → IsPlayed setting scripts (before t history)
front-played setting scripts history t played ticket visit is =
    let deep = taken history t ticket visit is in
    ap (λ h. next setting scripts h visit.actor) deep.front ∙ played ticket visit deep.there

-- how many visits an actor has before a ticket
abbrev pub IsCutAt : ℕ → ℕ → ℕ → ℕ → ℕ → History → Type 0
IsCutAt actor t k i x history =
    (x < t + k → i < length (own actor (take k history)))
    × (t + k ≤ x → length (own actor (take k history)) ≤ i)

pub cut-at : (actor t k i x : ℕ) (history : History) → slice_get (tickets_from actor t history) i ≡ Some x
    → IsCutAt actor t k i x history
unfolding tickets_from
cut-at actor t k i x [] is = let bad : None ≡ Some x = is in cc
cut-at actor t zero i x (v ∷ h) is =
    (λ low. absurd (omega (arith, low, high actor t i x (v ∷ h) is)), λ far. omega arith)
cut-at actor t (suc k) i x (v ∷ h) is =
    at_test i (v.actor == actor) is (λ j. cut-at actor (suc t) k j x h)
  where
    at_test : (i : ℕ) (b : Bool)
        → slice_get (cond b (t ∷ tickets_from actor (suc t) h) (tickets_from actor (suc t) h)) i ≡ Some x
        → ((j : ℕ) → slice_get (tickets_from actor (suc t) h) j ≡ Some x → IsCutAt actor (suc t) k j x h)
        → (x < t + suc k → i < length (cond b (v ∷ own actor (take k h)) (own actor (take k h))))
        × (t + suc k ≤ x → length (cond b (v ∷ own actor (take k h)) (own actor (take k h))) ≤ i)
    at_test zero true is later = (λ low. omega arith, λ far. let e : t ≡ x = cc in absurd (omega (arith, e, far)))
    at_test (suc i) true is later =
        let deep = later i is in
        (λ low. omega (arith, deep.0 (omega (arith, low))), λ far. omega (arith, deep.1 (omega (arith, far))))
    at_test i false is later =
        let deep = later i is in
        (λ low. deep.0 (omega (arith, low)), λ far. deep.1 (omega (arith, far)))

-- ---- what is put before a ticket

module _ (laws : Laws) (setting : Setting) (scripts : Scripts) (history : History)
    (over : IsOver setting scripts history) (sub : ℕ) (known : sub < subs setting) where
  -- all writes of the subscriber's script
  abbrev pub all_writes : List Write
  all_writes = writes setting (course_at (start setting sub)) (steps_of scripts sub)

  -- how many it has made before a ticket
  abbrev pub made_before : ℕ → ℕ
  made_before ticket = length (own sub (before ticket history))

  -- the tickets below a ticket are those of the writes made before it
  pub cut-below : (ticket i : ℕ) → i < length (tickets sub history) → slice_index (tickets sub history) i < ticket
      → i < made_before ticket
  cut-below ticket i low less =
      (cut-at sub 0 ticket i (slice_index (tickets sub history) i) history
      (slice_get-get_or (tickets sub history) i 0 low)).0
      (omega (arith, less))

  pub cut-past : (ticket i : ℕ) → i < length (tickets sub history) → ticket ≤ slice_index (tickets sub history) i
      → made_before ticket ≤ i
  cut-past ticket i low far =
      (cut-at sub 0 ticket i (slice_index (tickets sub history) i) history
      (slice_get-get_or (tickets sub history) i 0 low)).1
      (omega (arith, far))

  -- the history before a ticket is legal
  pub legal-before : (ticket : ℕ) → IsLegal setting sub (before ticket history)
  legal-before ticket =
      laws.legal setting scripts (before ticket history) sub over.nodes over.valid known
      (front-played setting scripts history ticket over.played)

  -- what is put before a ticket is the subscriber's own
  pub puts-before : (ticket : ℕ) → puts_to sub (before ticket history)
      ≡ take (made_before ticket) (map (visit_of sub) all_writes)
  puts-before ticket =
      let played = front-played setting scripts history ticket over.played in
      laws.alone setting scripts (before ticket history) sub known played
      ∙ laws.in_order setting scripts (before ticket history) sub known played

  pub puts-count : (ticket : ℕ) → length (puts_to sub (before ticket history)) ≡ made_before ticket
  puts-count ticket =
      ap length (laws.alone setting scripts (before ticket history) sub known
      (front-played setting scripts history ticket over.played))

  -- the steps that are begun before a ticket are the first of the script
  steps-before : (ticket : ℕ) → (later : List Step)
      × (steps_of scripts sub ≡ steps_in (puts_to sub (before ticket history)) ++ later)
  steps-before ticket =
      let front : List Visit = puts_to sub (before ticket history) in
      let back : List Visit = puts_to sub (drop ticket history) in (
        steps_from (fold (λ o (visit : Visit). says_off (mark_put visit.act)) false front) back,
        sym (laws.shown setting scripts history sub over.nodes over.valid known over.played (over.done sub))
            ∙ ap (λ (h : History). steps_in (puts_to sub h)) (sym (take-append-drop ticket history))
            ∙ ap steps_in (filter-append (λ (v : Visit). is_put_for sub v.act) (before ticket history)
            (drop ticket history))
            ∙ steps-append false front back,
      )

  -- the writes made before a ticket are the first of all
  pub made-before : (ticket : ℕ) → writes_made setting sub (puts_to sub (before ticket history))
      ≡ take (made_before ticket) all_writes
  made-before ticket =
      let puts : List Visit = puts_to sub (before ticket history) in
      let begun : List Step = steps_in puts in
      let course : Course = course_at (start setting sub) in
      let more = steps-before ticket in
      let fits : length puts ≤ length (writes setting course begun) =
      omega (
        arith,
        ap length (legal-before ticket).front,
        length-take (length puts) (map (visit_of sub) (writes setting course begun)),
        length-map (writes setting course begun) (visit_of sub),
      ) in
      sym (take-append-le (length puts) (writes setting course begun)
      (writes setting (after_steps setting course begun) more.0) fits)
      ∙ ap (take (length puts)) (sym (writes-append setting course begun more.0))
      ∙ ap (λ steps. take (length puts) (writes setting course steps)) (sym more.1)
      ∙ ap (λ k. take k all_writes) (puts-count ticket)

  -- they tell the commits, and whether the subscriber is off
  pub commits-before : (ticket : ℕ) → commits sub (before ticket history)
      ≡ filter_map write_commit (take (made_before ticket) all_writes)
  commits-before ticket =
      laws.commits setting sub (before ticket history) over.nodes (legal-before ticket)
      ∙ ap (filter_map write_commit) (made-before ticket)

  pub off-before : (ticket : ℕ) → off sub (before ticket history)
      ≡ fold (λ last write. write_off write) false (take (made_before ticket) all_writes)
  off-before ticket =
      laws.off setting sub (before ticket history) over.nodes (legal-before ticket)
      ∙ ap (fold (λ last write. write_off write) false) (made-before ticket)
