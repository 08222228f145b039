-- What a legal history tells at each of its tickets, told by the moves of the whole: where the subscriber stands, and
-- which moves its marks are.
use Rattle.std.proofs.Common.{◌≡◌, ◌≢◌, ◌⊎◌, inl, inr, ℕ, zero, suc, ◌+◌, ◌-◌, ◌<◌, ◌≤◌, ◌^◌, Bool, true, false, cond, List, [], ◌∷◌, ◌++◌, Option, Some, None, length, map, take, refl, sym, ap, ◌∙◌, subst, arith, length-append}
use Rattle.std.specs.Prelude.{slice_get}
use Rattle.std.specs.List.{cons_option, last_or}
use Rattle.std.proofs.lemmas.Bool.{cases_eq, cases_lt, eq-eqb}
use Rattle.std.proofs.lemmas.List.{take_all}
use Rattle.std.proofs.lemmas.Option.{slice_get_within}
use Rattle.entry_word.specs.Marks.{mark_in}
use Rattle.entry_word.specs.declared.mark.PresenceMark.{PresenceMark}
use Rattle.entry_word.specs.declared.mark.PresenceMark.TheVariants.{Empty, Gone, Coming}
use Rattle.entry_word.specs.declared.visit.Act.{Act}
use Rattle.entry_word.specs.declared.visit.Act.TheVariants.{Look, Put, Census}
use Rattle.entry_word.specs.declared.visit.Key.TheVariants.{Presence}
use Rattle.entry_word.specs.declared.visit.Visit.{Visit}
use Rattle.directory.specs.Settings.{Setting, start}
use Rattle.directory.specs.Courses.{course_at, Move}
use Rattle.directory.specs.Histories.{before, cell, History, is_put_for, puts_to, word_after}
use Rattle.directory.specs.HistoryLaws.{commits-append}
use Rattle.directory.specs.Keys.{same_key}
use Rattle.directory.specs.Legal.{IsLegal}
use Rattle.directory.specs.ListLaws.{last_or-push, same_some, slice_get-left, slice_get-right}
use Rattle.directory.specs.Puts.{mark_put, node_put, steps_in}
use Rattle.directory.specs.Standing.{Commit, commit_by, commit_of, commits, number, standing}
use Rattle.directory.specs.StepLaws.{slice_get-within, start-kept, take-more}
use Rattle.directory.specs.Parts.{known_after}
use Rattle.trail_laws.specs.Phases.{moves_begun}
use Rattle.trail_laws.specs.Trail.{answers, IsLed, mark_seen, MarkTells}
use Rattle.busy_finds.specs.LawsBelow.{MarkLaws}
use Rattle.busy_finds.specs.Within.{moves_of}
use Rattle.busy_finds.proofs.Fronts.{committed-by, legal-at, more-moves, moves-in-place, number-more}
use Rattle.busy_finds.proofs.Moves.{AreInPlace, stop-after, stop-kept, stop_of}
use Rattle.busy_finds.proofs.Sums.{travelled, travelled-step}

-- what stands in a front stands in the whole
pub in-front : {A : Type 0} (n : ℕ) (xs : List A) (i : ℕ) (x : A) → slice_get (take n xs) i ≡ Some x
    → slice_get xs i ≡ Some x
in-front zero xs i x h = cc
in-front (suc n) [] i x h = cc
in-front (suc n) (y ∷ xs) zero x h = h
in-front (suc n) (y ∷ xs) (suc i) x h = in-front n xs i x h

-- what has an image in a list
module _ {A B : Type 0} (f : A → B) where
  pub mapped-at : (xs : List A) (i : ℕ) (y : B) → slice_get (map f xs) i ≡ Some y
      → (x : A) × (slice_get xs i ≡ Some x) × (f x ≡ y)
  mapped-at [] i y h = cc
  mapped-at (x ∷ xs) zero y h = (x, refl, same_some h)
  mapped-at (x ∷ xs) (suc i) y h = mapped-at xs i y h

-- the last one
last-one : {A : Type 0} (xs : List A) (n : ℕ) (x : A) → slice_get xs n ≡ Some x → length xs ≡ suc n
    → last_or None xs ≡ Some x
last-one xs n x h e =
    ap (last_or None) (sym (take_all (suc n) xs (omega (arith, e))) ∙ take-more xs n x h)
    ∙ last_or-push None (take n xs) x

-- marks that lead somewhere end at an answer
ends-answered : (setting : Setting) (marks : ℕ → PresenceMark) (known : Option ℕ) (node last hops way : ℕ)
    → IsLed setting marks known node last hops way → (p to : ℕ) → marks last ≢ Gone p to
unfolding IsLed
ends-answered setting marks known node last zero way led p to gone =
    let clash : false ≡ true = ap (answers known) (sym gone) ∙ (ap (λ n. answers known (marks n)) (sym led.0) ∙ led.1) in cc
ends-answered setting marks known node last (suc hops) way led p to gone =
    ends-answered setting marks (known_after known (marks node)) led.0 last hops led.1 led.4 p to gone

ends-marked : (setting : Setting) (marks : ℕ → PresenceMark) (known : Option ℕ) (node last hops way : ℕ)
    → IsLed setting marks known node last hops way → marks last ≢ Empty
unfolding IsLed
ends-marked setting marks known node last zero way led gone =
    let clash : false ≡ true = ap (answers known) (sym gone) ∙ (ap (λ n. answers known (marks n)) (sym led.0) ∙ led.1) in cc
ends-marked setting marks known node last (suc hops) way led gone =
    ends-marked setting marks (known_after known (marks node)) led.0 last hops led.1 led.4 gone

module _ (laws : MarkLaws) (setting : Setting) (sub : ℕ) (history : History) (few : setting.nodes ≤ 2 ^ 16)
    (legal : IsLegal setting sub history) where
  abbrev pub its_moves : List Move
  its_moves = moves_of setting sub history

  abbrev pub stop_at : ℕ → ℕ
  stop_at i = stop_of (start setting sub) its_moves i

  abbrev pub count : ℕ → ℕ
  count t = number sub (before t history)

  abbrev pub begun : ℕ → ℕ
  begun t = moves_begun setting sub (before t history)

  abbrev pub mark_at : ℕ → ℕ → PresenceMark
  mark_at t node = mark_seen setting sub (before t history) node

  pub placed : AreInPlace setting (start setting sub) its_moves
  placed = moves-in-place history legal

  pub its_legal : (t : ℕ) → IsLegal setting sub (before t history)
  its_legal t = legal-at laws.facts history few legal t

  -- the moves that are begun at a ticket are the first ones
  pub first-moves : (t : ℕ) → (more : List Move) × (its_moves ≡ moves_of setting sub (before t history) ++ more)
  first-moves t =
      let more = more-moves setting sub t (t + length history) history (omega arith) in
      (more.0, ap (moves_of setting sub) (sym (take_all (t + length history) history (omega arith))) ∙ more.1)

  pub begun-low : (t : ℕ) → begun t ≤ length its_moves
  begun-low t = let more = first-moves t in
      omega (arith, ap length more.1, length-append (moves_of setting sub (before t history)) more.0)

  pub begun-more : (t u : ℕ) → t ≤ u → begun t ≤ begun u
  begun-more t u h = let more = more-moves setting sub t u history h in
      omega (arith, ap length more.1, length-append (moves_of setting sub (before t history)) more.0)

  pub count-begun : (t : ℕ) → count t ≤ begun t
  count-begun t = committed-by laws.facts history few legal t

  -- the stop with a number that is begun
  pub stop-then : (t i : ℕ) → i ≤ begun t → stop_of (start setting sub) (moves_of setting sub (before t history)) i ≡ stop_at i
  stop-then t i low = let more = first-moves t in
      sym (ap (λ ms. stop_of (start setting sub) ms i) more.1
      ∙ stop-kept (start setting sub) (moves_of setting sub (before t history)) more.0 i low)

  -- where the subscriber stands
  pub stands-there : (t : ℕ) → standing setting sub (before t history) ≡ stop_at (count t)
  stands-there t =
      laws.stands setting sub (before t history) few (its_legal t)
      ∙ (ap (λ n. stop_of n (moves_of setting sub (before t history)) (count t))
      (start-kept setting (course_at (start setting sub)) (steps_in (puts_to sub (before t history))))
      ∙ stop-then t (count t) (count-begun t))

  pub stands-in : (t : ℕ) → standing setting sub (before t history) < setting.nodes
  stands-in t = laws.inside setting sub (before t history) few (its_legal t)

  -- at most one move is begun that isn't committed
  pub begun-few : (t : ℕ) → begun t ≤ suc (count t)
  begun-few t = elim (laws.phases setting sub (before t history) few (its_legal t)) [
    | inl early ↦ omega (arith, early)
    | inr (inl passing) ↦
        let tells : MarkTells setting sub (before t history) (standing setting sub (before t history))
        (Coming (count t) passing.0) =
        subst (MarkTells setting sub (before t history) (standing setting sub (before t history))) passing.1
        (laws.marks setting sub (before t history) few (its_legal t) _ (stands-in t)) in
        omega (arith, tells.0)
    | inr (inr settled) ↦ omega (arith, settled.0)
  ]

  -- no Gone stands where the subscriber does, and it isn't empty there
  pub none-gone : (t p to : ℕ) → mark_at t (standing setting sub (before t history)) ≢ Gone p to
  none-gone t p to gone =
      let there = laws.top setting sub (before t history) few (its_legal t) in
      let led = laws.addresses setting sub (before t history) few (its_legal t) setting.top
      (setting.home setting.top there.0) there.1 None (omega arith) there.3 tt in
      ends-answered setting _ _ _ _ _ _ led.3 p to gone

  pub none-empty : (t : ℕ) → mark_at t (standing setting sub (before t history)) ≢ Empty
  none-empty t gone =
      let there = laws.top setting sub (before t history) few (its_legal t) in
      let led = laws.addresses setting sub (before t history) few (its_legal t) setting.top
      (setting.home setting.top there.0) there.1 None (omega arith) there.3 tt in
      ends-marked setting _ _ _ _ _ _ led.3 gone

  -- a commit is that of a move
  pub commit-is : (t i : ℕ) (c : Commit) → slice_get (commits sub (before t history)) i ≡ Some c
      → (move : Move) × (slice_get its_moves i ≡ Some move) × (commit_by move ≡ c) × (i < count t)
  commit-is t i c h =
      let told : commits sub (before t history) ≡ map commit_by (take (count t) (moves_of setting sub (before t history))) =
      (laws.facts.commits_are setting sub (before t history) few (its_legal t)).1 in
      let found = mapped-at commit_by (take (count t) (moves_of setting sub (before t history))) i c
      (ap (λ cs. slice_get cs i) (sym told) ∙ h) in
      let more = first-moves t in (
        found.0,
        ap (λ ms. slice_get ms i) more.1 ∙ slice_get-left (moves_of setting sub (before t history)) more.0 i found.0
            (in-front (count t) (moves_of setting sub (before t history)) i found.0 found.1),
        found.2,
        slice_get_within (commits sub (before t history)) i c h,
      )

  -- a Gone is a move that is committed
  pub record IsGone (t node q to : ℕ) : Type 0 where
    pub some : 1 ≤ q
    pub by : q ≤ count t
    pub from : node ≡ stop_at (q - 1)
    pub goes : to ≡ stop_at q
    pub inside : to < setting.nodes
    pub hop : travelled its_moves (q - 1) + setting.distance node to ≡ travelled its_moves q

  pub gone-is : (t node q to : ℕ) → MarkTells setting sub (before t history) node (Gone q to) → IsGone t node q to
  gone-is t node q to tells =
      let found = commit-is t (q - 1) (record { number = q; from = node; to = to }) tells.1 in
      let its = placed.each (q - 1) found.0 found.1 in
      let e : suc (q - 1) ≡ q = omega (arith, tells.0) in
      let goes : found.0.to ≡ to = ap (λ (c : Commit). c.to) found.2 in
      let from : node ≡ stop_at (q - 1) = sym (ap (λ (c : Commit). c.from) found.2) ∙ its.from in record {
        some = tells.0;
        by = omega (arith, found.3);
        from = from;
        goes = sym goes ∙ (sym (stop-after (start setting sub) its_moves (q - 1) found.0 found.1)
            ∙ ap (λ n. stop_at n) e);
        inside = tells.2;
        hop = omega (
          arith,
          travelled-step its_moves (q - 1) found.0 found.1,
          its.weight,
          ap (λ n. travelled its_moves n) e,
          ap (λ n. setting.distance n to) from,
          ap (λ n. setting.distance (stop_at (q - 1)) n) goes,
        );
      }

  -- a Coming is the last move that is begun
  pub record IsComing (t node q from : ℕ) : Type 0 where
    pub some : 1 ≤ q
    pub last : q ≡ begun t
    pub leads : from ≡ stop_at (q - 1)
    pub inside : from < setting.nodes
    pub by : (q ≡ suc (count t)) ⊎ ((q ≡ count t) × (node ≡ standing setting sub (before t history)))

  pub coming-is : (t node q from : ℕ) → MarkTells setting sub (before t history) node (Coming q from)
      → IsComing t node q from
  coming-is t node q from tells = elim tells.3 [
    | inl early ↦ record {
      some = omega (arith, early.0);
      last = tells.0;
      leads = early.1 ∙ (stands-there t ∙ ap (λ n. stop_at n) (let e : count t ≡ q - 1 = omega (arith, early.0) in e));
      inside = tells.1;
      by = inl early.0;
    }
    | inr late ↦
        let gone : IsGone t from q node = gone-is t from q node
        (subst (MarkTells setting sub (before t history) from) late.2
        (laws.marks setting sub (before t history) few (its_legal t) from tells.1)) in record {
          some = gone.some;
          last = tells.0;
          leads = gone.from;
          inside = tells.1;
          by = inr (late.0, late.1);
        }
  ]

  -- while the last move isn't committed its Coming stands where it goes
  pub coming-there : (t : ℕ) → begun t ≡ suc (count t) → (q from : ℕ) × (mark_at t (stop_at (begun t)) ≡ Coming q from)
  coming-there t early =
      let found = slice_get-within (moves_of setting sub (before t history)) (count t) (omega (arith, early)) in
      let comes : mark_at t found.0.to ≡ Coming found.0.number found.0.from =
      laws.coming setting sub (before t history) found.0 few (its_legal t) early
      (last-one (moves_of setting sub (before t history)) (count t) found.0 found.1 early) in
      let there : stop_at (begun t) ≡ found.0.to =
      sym (stop-then t (begun t) (omega arith))
      ∙ (ap (stop_of (start setting sub) (moves_of setting sub (before t history))) early
      ∙ stop-after (start setting sub) (moves_of setting sub (before t history)) (count t) found.0 found.1) in
      (found.0.number, found.0.from, ap (λ n. mark_at t n) there ∙ comes)

  -- ---- a Gone where the subscriber had stopped is that of a later move
  -- what a visit puts at a node, if it isn't as before
  put-there : (seen : History) (visit : Visit) (node : ℕ)
      → (mark_seen setting sub (seen ++ visit ∷ []) node ≡ mark_seen setting sub seen node)
      ⊎ ((word : ℕ) × (visit.act ≡ Put (Presence node sub) word)
      × (mark_seen setting sub (seen ++ visit ∷ []) node ≡ mark_in word))
  put-there seen visit node = at_act visit.act refl
    where
      at_act : (act : Act) → visit.act ≡ act
          → (mark_seen setting sub (seen ++ visit ∷ []) node ≡ mark_seen setting sub seen node)
          ⊎ ((word : ℕ) × (visit.act ≡ Put (Presence node sub) word)
          × (mark_seen setting sub (seen ++ visit ∷ []) node ≡ mark_in word))
      at_act (Look key) e = inl (ap mark_in (laws.cells setting seen visit (Presence node sub)
          ∙ ap (word_after (Presence node sub) (cell setting seen (Presence node sub))) e))
      at_act (Census other) e = inl (ap mark_in (laws.cells setting seen visit (Presence node sub)
          ∙ ap (word_after (Presence node sub) (cell setting seen (Presence node sub))) e))
      at_act (Put key word) e = at_test (same_key (Presence node sub) key) refl
        where
          after : (b : Bool) → same_key (Presence node sub) key ≡ b → mark_seen setting sub (seen ++ visit ∷ []) node
              ≡ mark_in (cond b word (cell setting seen (Presence node sub)))
          after b same = ap mark_in (laws.cells setting seen visit (Presence node sub)
              ∙ (ap (word_after (Presence node sub) (cell setting seen (Presence node sub))) e
              ∙ ap (λ c. cond c word (cell setting seen (Presence node sub))) same))

          at_test : (b : Bool) → same_key (Presence node sub) key ≡ b
              → (mark_seen setting sub (seen ++ visit ∷ []) node ≡ mark_seen setting sub seen node)
              ⊎ ((word : ℕ) × (visit.act ≡ Put (Presence node sub) word)
              × (mark_seen setting sub (seen ++ visit ∷ []) node ≡ mark_in word))
          at_test true same = inr (
            word,
            e ∙ ap (λ k. Put k word) (sym ((laws.keys (Presence node sub) key).0 same)),
            after true same,
          )
          at_test false same = inl (after false same)

  -- a Gone that is put is a commit
  commits-more : (seen : History) (visit : Visit) (node word q to : ℕ) → visit.act ≡ Put (Presence node sub) word
      → mark_in word ≡ Gone q to
      → commits sub (seen ++ visit ∷ []) ≡ commits sub seen ++ record { number = q; from = node; to = to } ∷ []
  commits-more seen visit node word q to act mark = commits-append sub seen (visit ∷ [])
      ∙ ap (λ cs. commits sub seen ++ cs) (by_act visit.act act)
    where
      by_act : (a : Act) → a ≡ Put (Presence node sub) word → commits sub (record { actor = visit.actor; act = a } ∷ [])
          ≡ record { number = q; from = node; to = to } ∷ []
      by_act a e = ap (λ x. commits sub (record { actor = visit.actor; act = x } ∷ [])) e
          ∙ rw (eq-eqb sub sub refl, mark) refl

  -- and its number is the next one
  pub gone-put : (t : ℕ) (visit : Visit) (node word q to : ℕ) → slice_get history t ≡ Some visit
      → visit.act ≡ Put (Presence node sub) word → mark_in word ≡ Gone q to → (q ≡ suc (count t)) × (count (suc t) ≡ q)
  gone-put t visit node word q to found act mark =
      let more : before (suc t) history ≡ before t history ++ visit ∷ [] = take-more history t visit found in
      let listed : commits sub (before (suc t) history)
      ≡ commits sub (before t history) ++ record { number = q; from = node; to = to } ∷ [] =
      ap (commits sub) more ∙ commits-more (before t history) visit node word q to act mark in
      let its = commit-is (suc t) (count t) (record { number = q; from = node; to = to })
      (ap (λ cs. slice_get cs (count t)) listed ∙ slice_get-right (commits sub (before t history)) _ (count t) 0
      (omega arith)) in
      let is_next : q ≡ suc (count t) = omega (
        arith,
        (placed.each (count t) its.0 its.1).its_number,
        ap (λ (c : Commit). c.number) its.2,
      ) in (
        is_next,
        omega (
          arith,
          is_next,
          ap length listed,
          length-append (commits sub (before t history)) (record { number = q; from = node; to = to } ∷ []),
        ),
      )

  -- so one whose move was committed before stood there before
  pub gone-since : (node q to t u : ℕ) → t ≤ u → u ≤ length history → q ≤ count t → mark_at u node ≡ Gone q to
      → mark_at t node ≡ Gone q to
  gone-since node q to t zero h low done is = let e : t ≡ 0 = omega (arith, h) in ap (λ n. mark_at n node) e ∙ is
  gone-since node q to t (suc u) h low done is = elim (cases_eq t (suc u)) [
    | inl same ↦ ap (λ n. mark_at n node) same ∙ is
    | inr apart ↦
        let found = slice_get-within history u (omega (arith, low)) in
        let more : before (suc u) history ≡ before u history ++ found.0 ∷ [] = take-more history u found.0 found.1 in
        elim (put-there (before u history) found.0 node) [
          | inl same ↦ gone-since node q to t u (omega (arith, h, apart)) (omega (arith, low)) done
              (sym same ∙ (ap (λ xs. mark_seen setting sub xs node) (sym more) ∙ is))
          | inr put ↦ absurd (omega (
            arith,
            (gone-put u found.0 node put.0 q to found.1 put.1
                (sym put.2 ∙ (ap (λ xs. mark_seen setting sub xs node) (sym more) ∙ is))).0,
            done,
            number-more sub t u history (omega (arith, h, apart)),
          ))
        ]
  ]

  -- a visit is one commit at most
  count-step : (t : ℕ) (visit : Visit) → slice_get history t ≡ Some visit → count (suc t) ≤ suc (count t)
  count-step t visit h =
      let more : before (suc t) history ≡ before t history ++ visit ∷ [] = take-more history t visit h in
      omega (
        arith,
        ap length (ap (commits sub) more ∙ commits-append sub (before t history) (visit ∷ [])),
        length-append (commits sub (before t history)) (commits sub (visit ∷ [])),
        at_test (is_put_for sub visit.act) refl,
      )
    where
      at_test : (b : Bool) → is_put_for sub visit.act ≡ b → length (commits sub (visit ∷ [])) ≤ 1
      at_test true e = rw e (at_commit (commit_of (node_put visit.act) (mark_put visit.act)))
        where
          at_commit : (o : Option Commit) → length (cons_option o []) ≤ 1
          at_commit None = omega arith
          at_commit (Some c) = omega arith
      at_test false e = rw e (omega arith)

  pub gone-later : (t : ℕ) → t ≤ length history → (j q to : ℕ) → j < count t → mark_at t (stop_at j) ≡ Gone q to
      → stop_at j < setting.nodes → j < q
  gone-later zero low j q to below is inside = absurd (omega (arith, below))
  gone-later (suc t) low j q to below is inside =
      let found = slice_get-within history t (omega (arith, low)) in
      let more : before (suc t) history ≡ before t history ++ found.0 ∷ [] = take-more history t found.0 found.1 in
      let gone : IsGone (suc t) (stop_at j) q to = gone-is (suc t) (stop_at j) q to
      (subst (MarkTells setting sub (before (suc t) history) (stop_at j)) is
      (laws.marks setting sub (before (suc t) history) few (its_legal (suc t)) (stop_at j) inside)) in
      elim (put-there (before t history) found.0 (stop_at j)) [
        | inl same ↦
            let gone_before : mark_at t (stop_at j) ≡ Gone q to =
            sym same ∙ (ap (λ h. mark_seen setting sub h (stop_at j)) (sym more) ∙ is) in
            elim (cases_lt j (count t)) [
              | inl earlier ↦ gone-later t (omega (arith, low)) j q to earlier gone_before inside
              | inr last ↦
                  let here : stop_at j ≡ standing setting sub (before t history) =
                  ap (λ n. stop_at n) (let e : j ≡ count t = omega (arith, last, below, count-step t found.0 found.1) in e)
                  ∙ sym (stands-there t) in
                  absurd (none-gone t q to (ap (λ n. mark_at t n) (sym here) ∙ gone_before))
            ]
        | inr put ↦
            let mark : mark_in put.0 ≡ Gone q to =
            sym put.2 ∙ (ap (λ h. mark_seen setting sub h (stop_at j)) (sym more) ∙ is) in
            let next = gone-put t found.0 (stop_at j) put.0 q to found.1 put.1 mark in omega (arith, below, next.1)
      ]
