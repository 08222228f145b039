-- What visits between two tickets do to marks and entries: which put an entry's or a node's Empty comes of, and what stays.
use Rattle.std.proofs.Common.{◌≡◌, ◌≢◌, ◌⊎◌, inl, inr, ℕ, zero, suc, ◌-◌, ◌<◌, ◌≤◌, ◌^◌, Bool, true, false, cond, ◌==◌, ◌&&◌, [], ◌∷◌, ◌++◌, Option, Some, None, length, refl, sym, ap, ◌∙◌, subst, arith, length-append}
use Rattle.std.specs.Prelude.{is_some}
use Rattle.std.specs.List.{cons_option}
use Rattle.std.proofs.lemmas.Bool.{cases_eq, eqb-true}
use Rattle.std.proofs.lemmas.List.Sums.{fold-append}
use Rattle.entry_word.specs.declared.address.Address.{Address}
use Rattle.entry_word.specs.declared.mark.PresenceMark.{PresenceMark}
use Rattle.entry_word.specs.declared.mark.PresenceMark.TheVariants.{Empty, Here, Coming}
use Rattle.entry_word.specs.declared.visit.Visit.{Visit}
use Rattle.directory.specs.Courses.{after_step, after_steps, Course, course_at, move_to, next_move, Step, switch_off, switch_on}
use Rattle.directory.specs.Histories.{before, History}
use Rattle.directory.specs.Legal.{IsLegal}
use Rattle.directory.specs.ListLaws.{same_some}
use Rattle.directory.specs.Puts.{course_in, ends_off, mark_put, mark_step, node_put, steps_from, steps_in}
use Rattle.directory.specs.Settings.{Setting, start}
use Rattle.directory.specs.Standing.{standing}
use Rattle.directory.specs.States.{entry_after, mark_after}
use Rattle.directory.specs.StepLaws.{steps-append}
use Rattle.directory.specs.Writes.{entry_at, mark_at, visit_of, Write}
use Rattle.trail_laws.specs.Trail.{entry_seen, mark_seen, MarkTells}
use Rattle.busy_finds.specs.LawsBelow.{MarkLaws}
use Rattle.busy_finds.proofs.Cleaning.{Above, address-early, coming-early, IsCleaning}
use Rattle.busy_finds.proofs.Fronts.{number-more}
use Rattle.busy_finds.proofs.Moves.{stop-after}
use Rattle.busy_finds.proofs.Tickets.{begun, begun-more, coming-is, coming-there, count, IsComing, its_legal, its_moves, none-empty, stands-in, stands-there, stop_at}
use Rattle.busy_finds.proofs.Written.{entry-still, entry-written, IsWritten, mark-still, mark-written, puts_at, written-or-still}

both-true : (a b : Bool) → (a && b) ≡ true → (a ≡ true) × (b ≡ true)
both-true true true e = (refl, refl)
both-true true false e = cc
both-true false b e = cc

module _ (laws : MarkLaws) (setting : Setting) (sub : ℕ) (history : History) (few : setting.nodes ≤ 2 ^ 16)
    (legal : IsLegal setting sub history) where
  abbrev began : ℕ → ℕ
  began t = begun laws setting sub history few legal t

  abbrev counts : ℕ → ℕ
  counts t = count laws setting sub history few legal t

  abbrev Writes : ℕ → Write → Type 0
  Writes t write = IsWritten laws setting sub history few legal t write

  abbrev held : ℕ → ℕ → ℕ → Option Address
  held t level cluster = entry_seen setting sub (before t history) level cluster

  abbrev marks : ℕ → ℕ → PresenceMark
  marks t node = mark_seen setting sub (before t history) node

  visited : (t : ℕ) → suc t ≤ length history
      → (puts_at laws setting sub history few legal (suc t) ≡ puts_at laws setting sub history few legal t)
      ⊎ ((write : Write) × Writes t write)
  visited t low = written-or-still laws setting sub history few legal t (omega (arith, low))

  -- ---- an entry that had an address and has none was erased
  abbrev pub WasErased : ℕ → ℕ → ℕ → ℕ → Type 0
  WasErased level cluster t u = (e : ℕ) × (t ≤ e) × (e < u) × Writes e (entry_at level cluster None)

  erased-more : (level cluster t u : ℕ) → WasErased level cluster t u → WasErased level cluster t (suc u)
  erased-more level cluster t u (e, since, by, is) = (e, since, omega (arith, by), is)

  pub erased-between : (level cluster t u : ℕ) → t ≤ u → u ≤ length history → is_some (held t level cluster) ≡ true
      → held u level cluster ≡ None → WasErased level cluster t u
  erased-between level cluster t zero h low some none =
      let e : t ≡ 0 = omega (arith, h) in
      let clash : false ≡ true = sym (ap is_some none) ∙ (ap (λ n. is_some (held n level cluster)) (sym e) ∙ some) in cc
  erased-between level cluster t (suc u) h low some none = elim (cases_eq t (suc u)) [
    | inl same ↦ let clash : false ≡ true = sym (ap is_some none)
        ∙ (ap (λ n. is_some (held n level cluster)) (sym same) ∙ some) in cc
    | inr apart ↦ at_visit (visited u low)
        (λ e. erased-more level cluster t u
        (erased-between level cluster t u (omega (arith, h, apart)) (omega (arith, low)) some e))
  ]
    where
      at_write : t ≤ u → (write : Write) → Writes u write
          → (held u level cluster ≡ None → WasErased level cluster t (suc u)) → WasErased level cluster t (suc u)
      at_write since (mark_at node mark) is more =
          more (sym (entry-written laws setting sub history few legal u (mark_at node mark) is level cluster) ∙ none)
      at_write since (entry_at other c new) is more = at_test (level == other && cluster == c) refl new refl
        where
          value : entry_after level cluster (held u level cluster) (entry_at other c new) ≡ None
          value = sym (entry-written laws setting sub history few legal u (entry_at other c new) is level cluster) ∙ none

          at_test : (b : Bool) → (level == other && cluster == c) ≡ b → (address : Option Address) → new ≡ address
              → WasErased level cluster t (suc u)
          at_test true e (Some address) e2 =
              let clash : Some address ≡ None = sym e2 ∙ (ap (λ x. cond x new (held u level cluster)) (sym e) ∙ value) in cc
          at_test true e None e2 =
              let parts = both-true (level == other) (cluster == c) e in
              let its_level : other ≡ level = sym (eqb-true level other parts.0) in
              let its_cluster : c ≡ cluster = sym (eqb-true cluster c parts.1) in
              (u, since, omega arith, subst (Writes u) (its_write its_level its_cluster e2) is)
            where
              its_write : other ≡ level → c ≡ cluster → new ≡ None → entry_at other c new ≡ entry_at level cluster None
              its_write one two three = cc
          at_test false e address e2 = more (ap (λ x. cond x new (held u level cluster)) (sym e) ∙ value)

      at_visit : (puts_at laws setting sub history few legal (suc u) ≡ puts_at laws setting sub history few legal u)
          ⊎ ((write : Write) × Writes u write)
          → (held u level cluster ≡ None → WasErased level cluster t (suc u)) → WasErased level cluster t (suc u)
      at_visit (inl still) more = more (sym (entry-still laws setting sub history few legal u still level cluster) ∙ none)
      at_visit (inr (write, is)) more = elim (cases_eq t (suc u)) [
        | inl same ↦ let clash : false ≡ true = sym (ap is_some none)
            ∙ (ap (λ n. is_some (held n level cluster)) (sym same) ∙ some) in cc
        | inr apart ↦ at_write (omega (arith, h, apart)) write is more
      ]

  -- ---- addresses only get newer
  pub above-later : (q t u : ℕ) → t ≤ u → u ≤ length history → q ≤ began t
      → Above laws setting sub history few legal q t → Above laws setting sub history few legal q u
  above-later q t zero h low newer above =
      let e : t ≡ 0 = omega (arith, h) in subst (Above laws setting sub history few legal q) e above
  above-later q t (suc u) h low newer above = elim (cases_eq t (suc u)) [
    | inl same ↦ subst (Above laws setting sub history few legal q) same above
    | inr apart ↦ λ level cluster address under is. at_visit level cluster address under is (omega (arith, h, apart))
        (visited u low)
        (above-later q t u (omega (arith, h, apart)) (omega (arith, low)) newer above level cluster address under)
  ]
    where
      at_write : (level cluster : ℕ) (address : Address) → held (suc u) level cluster ≡ Some address → t ≤ u
          → (write : Write) → Writes u write → (held u level cluster ≡ Some address → q ≤ address.number)
          → q ≤ address.number
      at_write level cluster address is since (mark_at node mark) writes more =
          more (sym (entry-written laws setting sub history few legal u (mark_at node mark) writes level cluster) ∙ is)
      at_write level cluster address is since (entry_at other c new) writes more =
          at_test (level == other && cluster == c) refl new refl
        where
          value : entry_after level cluster (held u level cluster) (entry_at other c new) ≡ Some address
          value = sym (entry-written laws setting sub history few legal u (entry_at other c new) writes level cluster) ∙ is

          at_test : (b : Bool) → (level == other && cluster == c) ≡ b → (its : Option Address) → new ≡ its
              → q ≤ address.number
          at_test true e None e2 =
              let clash : None ≡ Some address = sym e2 ∙ (ap (λ x. cond x new (held u level cluster)) (sym e) ∙ value) in cc
          at_test true e (Some its) e2 =
              let same : its ≡ address = same_some (sym e2 ∙ (ap (λ x. cond x new (held u level cluster)) (sym e) ∙ value)) in
              let early = address-early laws setting sub history few legal u (entry_at other c new) writes other c its
              (ap (entry_at other c) e2) in
              omega (
                arith,
                newer,
                early.0,
                ap (λ (a : Address). a.number) same,
                begun-more laws setting sub history few legal t (suc u) (omega (arith, since)),
              )
          at_test false e its e2 = more (ap (λ x. cond x new (held u level cluster)) (sym e) ∙ value)

      at_visit : (level cluster : ℕ) (address : Address) → level ≤ setting.top → held (suc u) level cluster ≡ Some address
          → t ≤ u → (puts_at laws setting sub history few legal (suc u) ≡ puts_at laws setting sub history few legal u)
          ⊎ ((write : Write) × Writes u write)
          → (held u level cluster ≡ Some address → q ≤ address.number) → q ≤ address.number
      at_visit level cluster address under is since (inl still) more =
          more (sym (entry-still laws setting sub history few legal u still level cluster) ∙ is)
      at_visit level cluster address under is since (inr (write, writes)) more =
          at_write level cluster address is since write writes more

  -- ---- no Coming is put once its move is committed
  tells : (t node : ℕ) → node < setting.nodes → MarkTells setting sub (before t history) node (marks t node)
  tells t node inside = laws.marks setting sub (before t history) few (its_legal laws setting sub history few legal t) node inside

  pub coming-at : (t node q from : ℕ) → node < setting.nodes → marks t node ≡ Coming q from
      → IsComing laws setting sub history few legal t node q from
  coming-at t node q from inside is = coming-is laws setting sub history few legal t node q from
      (subst (MarkTells setting sub (before t history) node) is (tells t node inside))

  pub coming-since : (node q from t x : ℕ) → node < setting.nodes → t ≤ x → x ≤ length history → q ≤ counts t
      → marks x node ≡ Coming q from → marks t node ≡ Coming q from
  coming-since node q from t zero inside h low done is =
      let e : t ≡ 0 = omega (arith, h) in ap (λ n. marks n node) e ∙ is
  coming-since node q from t (suc x) inside h low done is = elim (cases_eq t (suc x)) [
    | inl same ↦ ap (λ n. marks n node) same ∙ is
    | inr apart ↦ at_visit (omega (arith, h, apart)) (visited x low)
        (coming-since node q from t x inside (omega (arith, h, apart)) (omega (arith, low)) done)
  ]
    where
      at_write : t ≤ x → (write : Write) → Writes x write
          → (marks x node ≡ Coming q from → marks t node ≡ Coming q from) → marks t node ≡ Coming q from
      at_write since (entry_at level cluster address) writes more =
          more (sym (mark-written laws setting sub history few legal x (entry_at level cluster address) writes node) ∙ is)
      at_write since (mark_at other new) writes more = at_test (node == other) refl
        where
          value : mark_after node (marks x node) (mark_at other new) ≡ Coming q from
          value = sym (mark-written laws setting sub history few legal x (mark_at other new) writes node) ∙ is

          at_test : (b : Bool) → (node == other) ≡ b → marks t node ≡ Coming q from
          at_test true e =
              let put : new ≡ Coming q from = ap (λ b. cond b new (marks x node)) (sym e) ∙ value in
              absurd (omega (
                arith,
                coming-early laws setting sub history few legal x (mark_at other new) writes other q from
                    (ap (mark_at other) put),
                (coming-at (suc x) node q from inside is).last,
                done,
                number-more sub t (suc x) history (omega (arith, since)),
              ))
          at_test false e = more (ap (λ b. cond b new (marks x node)) (sym e) ∙ value)

      at_visit : t ≤ x → (puts_at laws setting sub history few legal (suc x) ≡ puts_at laws setting sub history few legal x)
          ⊎ ((write : Write) × Writes x write)
          → (marks x node ≡ Coming q from → marks t node ≡ Coming q from) → marks t node ≡ Coming q from
      at_visit since (inl still) more = more (sym (mark-still laws setting sub history few legal x still node) ∙ is)
      at_visit since (inr (write, writes)) more = at_write since write writes more

  -- behind an erasure or a purge only later moves are coming
  pub comes-later : (e x node r from : ℕ) → (c : IsCleaning laws setting sub history few legal e) → e < x → x ≤ length history
      → node < setting.nodes → marks x node ≡ Coming r from → c.move.number < r
  comes-later e x node r from c later low inside is = elim (cases_eq r c.move.number) [
    | inl same ↦
        let there : marks (suc e) node ≡ Coming r from =
        coming-since node r from (suc e) x inside (omega (arith, later)) low (omega (arith, same, c.done)) is in
        at_commit same there (coming-at (suc e) node r from inside there).by
    | inr apart ↦ omega (
      arith,
      apart,
      (coming-at x node r from inside is).last,
      c.last,
      begun-more laws setting sub history few legal (suc e) x (omega (arith, later)),
    )
  ]
    where
      at_commit : r ≡ c.move.number → marks (suc e) node ≡ Coming r from
          → (r ≡ suc (counts (suc e))) ⊎ ((r ≡ counts (suc e)) × (node ≡ standing setting sub (before (suc e) history)))
          → c.move.number < r
      at_commit same there (inl early) = absurd (omega (arith, early, c.done, same))
      at_commit same there (inr late) =
          let some : suc (c.move.number - 1) ≡ c.move.number = omega (
            arith,
            same,
            (coming-at (suc e) node r from inside there).some,
          ) in
          let here : node ≡ c.move.to = late.1 ∙ (stands-there laws setting sub history few legal (suc e)
          ∙ (ap (λ n. stop_at laws setting sub history few legal n) (c.done ∙ sym some)
          ∙ stop-after (start setting sub) (its_moves laws setting sub history few legal) (c.move.number - 1) c.move c.is)) in
          let clash : Coming r from ≡ Here c.move.number = sym there ∙ (ap (λ n. marks (suc e) n) here ∙ c.here) in cc

  -- ---- a stop that is empty was purged by a later move
  top-marked : (t : ℕ) → marks t (stop_at laws setting sub history few legal (began t)) ≢ Empty
  top-marked t empty = elim (laws.phases setting sub (before t history) few (its_legal laws setting sub history few legal t)) [
    | inl early ↦
        let comes = coming-there laws setting sub history few legal t early in
        let clash : Coming comes.0 comes.1 ≡ Empty = sym comes.2 ∙ empty in cc
    | inr (inl passing) ↦
        let told : MarkTells setting sub (before t history) (standing setting sub (before t history))
        (Coming (counts t) passing.0) = subst (MarkTells setting sub (before t history)
        (standing setting sub (before t history))) passing.1
        (tells t _ (stands-in laws setting sub history few legal t)) in
        at_rest (sym told.0)
    | inr (inr settled) ↦ at_rest settled.0
  ]
    where
      at_rest : began t ≡ counts t → ⊥
      at_rest same = none-empty laws setting sub history few legal t
          (ap (λ n. marks t n) (stands-there laws setting sub history few legal t
          ∙ ap (λ n. stop_at laws setting sub history few legal n) (sym same)) ∙ empty)

  -- a visit begins one step at most
  one-step : (is_off : Bool) (visit : Visit) → (o : Option Step) × (steps_from is_off (visit ∷ []) ≡ cons_option o [])
  unfolding steps_from
  one-step is_off visit = (mark_step is_off (node_put visit.act) (mark_put visit.act), refl)

  none-begun : began 0 ≡ 0
  unfolding steps_from
  none-begun = refl

  begun-step : (t : ℕ) → suc t ≤ length history → began (suc t) ≤ suc (began t)
  begun-step t low = elim (visited t low) [
    | inl still ↦ omega (arith, ap (λ puts. length (course_in setting sub puts).moves) still)
    | inr writes ↦
        let its_puts = puts_at laws setting sub history few legal t in
        let one = one-step (ends_off its_puts) (visit_of sub writes.0) in
        let grown : steps_in (puts_at laws setting sub history few legal (suc t)) ≡ steps_in its_puts ++ cons_option one.0 [] =
        ap steps_in writes.1.grown ∙ (steps-append false its_puts (visit_of sub writes.0 ∷ [])
        ∙ ap (λ steps. steps_in its_puts ++ steps) one.1) in
        omega (
          arith,
          ap (λ steps. length (after_steps setting (course_at (start setting sub)) steps).moves) grown,
          ap (λ (c : Course). length c.moves) (fold-append (after_step setting) (course_at (start setting sub))
              (steps_in its_puts) (cons_option one.0 [])),
          one-more (course_in setting sub its_puts) one.0,
        )
  ]
    where
      one-more : (course : Course) (o : Option Step)
          → length (after_steps setting course (cons_option o [])).moves ≤ suc (length course.moves)
      one-more course None = omega arith
      one-more course (Some (move_to node)) = omega (arith, length-append course.moves (next_move setting course node ∷ []))
      one-more course (Some switch_off) = omega arith
      one-more course (Some switch_on) = omega arith

  pub record WasPurged (place t : ℕ) : Type 0 where
    pub ticket : ℕ
    pub by : ticket < t
    pub writes : Writes ticket (mark_at (stop_at laws setting sub history few legal place) Empty)
    pub later_move : place < began (suc ticket)
    pub stays : (u : ℕ) → ticket < u → u ≤ t → marks u (stop_at laws setting sub history few legal place) ≡ Empty

  pub purged-before : (place t : ℕ) → t ≤ length history → place ≤ began t
      → marks t (stop_at laws setting sub history few legal place) ≡ Empty → WasPurged place t
  purged-before place zero low known empty =
      let e : place ≡ began 0 = omega (arith, known, none-begun) in
      absurd (top-marked 0 (subst (λ n. marks 0 (stop_at laws setting sub history few legal n) ≡ Empty) e empty))
  purged-before place (suc t) low known empty = elim (cases_eq place (began (suc t))) [
    | inl same ↦ absurd (top-marked (suc t)
        (subst (λ n. marks (suc t) (stop_at laws setting sub history few legal n) ≡ Empty) same empty))
    | inr apart ↦ at_visit (omega (arith, known, apart)) (visited t low)
        (λ is. one-later (purged-before place t (omega (arith, low)) (omega (arith, known, apart, begun-step t low)) is))
  ]
    where
      node : ℕ
      node = stop_at laws setting sub history few legal place

      one-later : WasPurged place t → WasPurged place (suc t)
      one-later was = record {
        ticket = was.ticket;
        by = omega (arith, was.by);
        writes = was.writes;
        later_move = was.later_move;
        stays = λ u after by. elim (cases_eq u (suc t)) [
          | inl same ↦ ap (λ n. marks n node) same ∙ empty
          | inr apart ↦ was.stays u after (omega (arith, by, apart))
        ];
      }

      at_write : place < began (suc t) → (write : Write) → Writes t write → (marks t node ≡ Empty → WasPurged place (suc t))
          → WasPurged place (suc t)
      at_write under (entry_at level cluster address) writes more =
          more (sym (mark-written laws setting sub history few legal t (entry_at level cluster address) writes node) ∙ empty)
      at_write under (mark_at other new) writes more = at_test (node == other) refl
        where
          value : mark_after node (marks t node) (mark_at other new) ≡ Empty
          value = sym (mark-written laws setting sub history few legal t (mark_at other new) writes node) ∙ empty

          at_test : (b : Bool) → (node == other) ≡ b → WasPurged place (suc t)
          at_test true e =
              let put : new ≡ Empty = ap (λ b. cond b new (marks t node)) (sym e) ∙ value in
              let there : other ≡ node = sym (eqb-true node other e) in record {
                ticket = t;
                by = omega arith;
                writes = subst (Writes t) (ap (λ n. mark_at n new) there ∙ ap (mark_at node) put) writes;
                later_move = under;
                stays = λ u after by. ap (λ n. marks n node) (let s : u ≡ suc t = omega (arith, after, by) in s) ∙ empty;
              }
          at_test false e = more (ap (λ b. cond b new (marks t node)) (sym e) ∙ value)

      at_visit : place < began (suc t)
          → (puts_at laws setting sub history few legal (suc t) ≡ puts_at laws setting sub history few legal t)
          ⊎ ((write : Write) × Writes t write) → (marks t node ≡ Empty → WasPurged place (suc t)) → WasPurged place (suc t)
      at_visit under (inl still) more = more (sym (mark-still laws setting sub history few legal t still node) ∙ empty)
      at_visit under (inr (write, writes)) more = at_write under write writes more
