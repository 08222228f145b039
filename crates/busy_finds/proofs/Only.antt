-- Which addresses there are: at rest that of the last renewal alone, at each level, and amid a move its own beside it.
use Rattle.std.proofs.Common.{◌≡◌, inl, inr, ℕ, zero, suc, ◌+◌, ◌<◌, ◌≤◌, Bool, true, false, cond, not, ◌==◌, ◌&&◌, List, [], ◌∷◌, ◌++◌, Option, Some, None, length, map, refl, sym, ap, ◌∙◌, subst, arith}
use Rattle.std.specs.Prelude.{nat_le}
use Rattle.std.proofs.lemmas.Bool.{cases_Bool, cases_eq, eq-eqb, eqb-true, ne_eqb}
use Rattle.std.proofs.lemmas.Bool.Decides.{nat_tests}
use Rattle.std.proofs.lemmas.List.{take_all}
use Rattle.std.proofs.lemmas.List.Sums.{fold-append}
use Rattle.node_set.specs.Ascending.{sift}
use Rattle.entry_word.specs.declared.address.Address.{Address}
use Rattle.entry_word.specs.declared.mark.PresenceMark.TheVariants.{Empty, Gone}
use Rattle.directory.specs.Settings.{Setting}
use Rattle.directory.specs.Courses.{after_step, after_steps, base, Course, MaySteps, Move, move_to, next_move, Step, switch_off, switch_on}
use Rattle.directory.specs.ListLaws.{same_some, slice_get-right}
use Rattle.directory.specs.States.{entry_after}
use Rattle.directory.specs.Writes.{entry_at, erasure_writes, mark_at, move_writes, new_address, numbers_from, old_home, purge_writes, step_writes, Write, writes}
use Rattle.busy_finds.proofs.Current.{entries_after}
use Rattle.busy_finds.proofs.Kept.{early, held_after, late}
use Rattle.busy_finds.proofs.Moves.{AreInPlace, base-more, base-within, place-step, stop-after, stop-kept, stop_of}

-- writes that go past an entry
abbrev Misses : ℕ → ℕ → Write → Type 0
Misses level cluster (mark_at node mark) = Unit {0}
Misses level cluster (entry_at other c address) = (level == other && cluster == c) ≡ false

abbrev AllMiss : ℕ → ℕ → List Write → Type 0
AllMiss level cluster [] = Unit {0}
AllMiss level cluster (write ∷ later) = Misses level cluster write × AllMiss level cluster later

one-missed : (level cluster : ℕ) (entry : Option Address) (write : Write) → Misses level cluster write
    → entry_after level cluster entry write ≡ entry
one-missed level cluster entry (mark_at node mark) miss = refl
one-missed level cluster entry (entry_at other c address) miss = rw miss refl

missed : (level cluster : ℕ) (entry : Option Address) (ws : List Write) → AllMiss level cluster ws
    → held_after level cluster entry ws ≡ entry
missed level cluster entry [] miss = refl
missed level cluster entry (write ∷ ws) miss =
    ap (λ e. held_after level cluster e ws) (one-missed level cluster entry write miss.0)
    ∙ missed level cluster entry ws miss.1

miss-append : (level cluster : ℕ) (xs ys : List Write) → AllMiss level cluster xs → AllMiss level cluster ys
    → AllMiss level cluster (xs ++ ys)
miss-append level cluster [] ys one two = two
miss-append level cluster (x ∷ xs) ys one two = (one.0, miss-append level cluster xs ys one.1 two)

miss-sift : (level cluster : ℕ) (g : ℕ → Write) (test : ℕ → Bool) (first count : ℕ)
    → ((i : ℕ) → first ≤ i → i < first + count → test i ≡ true → Misses level cluster (g i))
    → AllMiss level cluster (map g (sift test first count))
miss-sift level cluster g test first zero each = tt
miss-sift level cluster g test first (suc count) each =
    at_test (test first) refl
    (miss-sift level cluster g test (suc first) count (λ i low below. each i (omega (arith, low)) (omega (arith, below))))
  where
    at_test : (b : Bool) → test first ≡ b → AllMiss level cluster (map g (sift test (suc first) count))
        → AllMiss level cluster (map g (cond b (first ∷ sift test (suc first) count) (sift test (suc first) count)))
    at_test true e rest = (each first (omega arith) (omega arith) e, rest)
    at_test false e rest = rest

-- what is erased stays erased
none-stays : (level : ℕ) (at : ℕ → ℕ) (xs : List ℕ)
    → held_after level (at level) None (map (λ i. entry_at i (at i) None) xs) ≡ None
none-stays level at [] = refl
none-stays level at (x ∷ xs) = at_test (level == x && at level == at x) (none-stays level at xs)
  where
    at_test : (b : Bool) → held_after level (at level) None (map (λ i. entry_at i (at i) None) xs) ≡ None
        → held_after level (at level) (cond b None None) (map (λ i. entry_at i (at i) None) xs) ≡ None
    at_test true rest = rest
    at_test false rest = rest

emptied : (level : ℕ) (at : ℕ → ℕ) (test : ℕ → Bool) (first count : ℕ) (entry : Option Address) → first ≤ level
    → level < first + count → test level ≡ true
    → held_after level (at level) entry (map (λ i. entry_at i (at i) None) (sift test first count)) ≡ None
emptied level at test first zero entry low high h = absurd (omega arith)
emptied level at test first (suc count) entry low high h = elim (cases_eq first level) [
  | inl same ↦
      let e : test first ≡ true = ap test same ∙ h in
      rw (e, same, eq-eqb level level refl, eq-eqb (at level) (at level) refl)
      (none-stays level at (sift test (suc level) count))
  | inr apart ↦ at_test (test first) (λ other. emptied level at test (suc first) count other (omega arith) (omega arith) h)
]
  where
    at_test : (b : Bool)
        → ((other : Option Address) → held_after level (at level) other
        (map (λ i. entry_at i (at i) None) (sift test (suc first) count)) ≡ None)
        → held_after level (at level) entry
        (map (λ i. entry_at i (at i) None) (cond b (first ∷ sift test (suc first) count) (sift test (suc first) count)))
        ≡ None
    at_test true more = more _
    at_test false more = more entry

-- ---- a whole move
module _ (setting : Setting) (course : Course) (move : Move) where
  fills : (level first count : ℕ) (entry : Option Address) → first ≤ level → level < first + count
      → held_after level (setting.home level move.to) entry (map (new_address setting move) (numbers_from first count))
      ≡ Some (record { number = move.number; node = move.to })
  fills level first zero entry low high = absurd (omega arith)
  fills level first (suc count) entry low high = elim (cases_eq first level) [
    | inl same ↦ missed level (setting.home level move.to) _ _
        (miss-sift level (setting.home level move.to) (new_address setting move) (λ p. true) (suc first) count
        (λ i above below h. ap (λ b. b && setting.home level move.to == setting.home i move.to)
        (ne_eqb level i (omega (arith, above, same)))))
        ∙ rw (same, eq-eqb level level refl, eq-eqb (setting.home level move.to) (setting.home level move.to) refl) refl
    | inr apart ↦ fills level (suc first) count _ (omega arith) (omega arith)
  ]

  early-new : (level : ℕ) (entry : Option Address) → level ≤ move.renewed
      → held_after level (setting.home level move.to) entry (early setting course move)
      ≡ Some (record { number = move.number; node = move.to })
  early-new level entry low = fills level 0 (suc move.renewed) entry (omega arith) (omega arith)

  early-misses : (level cluster : ℕ) → ((i : ℕ) → i ≤ move.renewed → (level == i && cluster == setting.home i move.to) ≡ false)
      → AllMiss level cluster (early setting course move)
  early-misses level cluster each = (
    tt,
    miss-sift level cluster (new_address setting move) (λ p. true) 0
        (suc move.renewed) (λ i low below h. each i (omega (arith, below))),
  )

  purges-miss : (level cluster : ℕ) (b : Bool) (nodes : List ℕ)
      → AllMiss level cluster (cond b (map (λ node. mark_at node Empty) nodes) [])
  purges-miss level cluster true [] = tt
  purges-miss level cluster true (node ∷ nodes) = (tt, purges-miss level cluster true nodes)
  purges-miss level cluster false nodes = tt

  late-misses : (level cluster : ℕ)
      → ((i : ℕ) → i ≤ move.renewed → (old_home setting course i == setting.home i move.to) ≡ false
      → (level == i && cluster == old_home setting course i) ≡ false)
      → AllMiss level cluster (late setting course move)
  late-misses level cluster each = (
    tt,
    miss-append level cluster (erasure_writes setting course move)
        (purge_writes setting course move)
        (miss-sift level cluster (λ i. entry_at i (old_home setting course i) None)
        (λ i. not (old_home setting course i == setting.home i move.to)) 0 (suc move.renewed)
        (λ i low below h. each i (omega (arith, below)) (not-false _ h)))
        (purges-miss level cluster (move.renewed == setting.top) _),
  )
    where
      not-false : (b : Bool) → not b ≡ true → b ≡ false
      not-false true h = cc
      not-false false h = refl

  late-empties : (level : ℕ) (entry : Option Address) → level ≤ move.renewed
      → (old_home setting course level == setting.home level move.to) ≡ false
      → held_after level (old_home setting course level) entry (late setting course move) ≡ None
  late-empties level entry low apart =
      fold-append (entry_after level (old_home setting course level)) entry (erasure_writes setting course move)
      (purge_writes setting course move)
      ∙ (missed level (old_home setting course level) _ (purge_writes setting course move)
      (purges-miss level (old_home setting course level) (move.renewed == setting.top) _)
      ∙ emptied level (old_home setting course)
      (λ i. not (old_home setting course i == setting.home i move.to)) 0 (suc move.renewed) entry (omega arith)
      (omega (arith, low)) (ap not apart))

-- each address is that of its level's last renewal, at its home
abbrev pub IsOnly : Setting → (ℕ → ℕ → Option Address) → ℕ → List Move → Type 0
IsOnly setting entries begin moves =
    (level cluster : ℕ) (address : Address) → level ≤ setting.top → entries level cluster ≡ Some address
    → (address.number ≡ base level moves) × (cluster ≡ setting.home level (stop_of begin moves (base level moves)))

module _ (setting : Setting) (course : Course) (node : ℕ) (entries : ℕ → ℕ → Option Address)
    (are : AreInPlace setting course.start course.moves)
    (only : IsOnly setting entries course.start course.moves) where
  abbrev its : Move
  its = next_move setting course node

  abbrev more : List Move
  more = course.moves ++ its ∷ []

  abbrev Says : ℕ → ℕ → Address → Type 0
  Says level cluster address = (address.number ≡ base level more)
      × (cluster ≡ setting.home level (stop_of course.start more (base level more)))

  parts : (level cluster : ℕ) → held_after level cluster (entries level cluster) (move_writes setting course its)
      ≡ held_after level cluster (held_after level cluster (entries level cluster) (early setting course its))
      (late setting course its)
  parts level cluster = fold-append (entry_after level cluster) (entries level cluster) (early setting course its)
      (mark_at its.from (Gone its.number its.to) ∷ late setting course its)

  low : (level : ℕ) → base level course.moves ≤ length course.moves
  low level = rw (take_all (length course.moves) course.moves (omega arith)) at
      (base-within level course.moves are (length course.moves) (omega arith))

  -- an old one
  says-old : (level cluster : ℕ) (address : Address) → level ≤ setting.top → nat_le level its.renewed ≡ false
      → entries level cluster ≡ Some address → Says level cluster address
  says-old level cluster address below e is =
      let its_only = only level cluster address below is in
      rw (base-more level course.moves its, e) (
        its_only.0,
        its_only.1 ∙ ap (setting.home level)
            (sym (stop-kept course.start course.moves (its ∷ []) (base level course.moves) (low level))),
      )

  -- and the new one
  says-new : (level cluster : ℕ) (address : Address) → nat_le level its.renewed ≡ true
      → cluster ≡ setting.home level its.to → address.number ≡ its.number → Says level cluster address
  says-new level cluster address e here numbered =
      rw (base-more level course.moves its, e) (
        numbered,
        here ∙ ap (setting.home level) (sym (stop-after course.start more (length course.moves) its
            (slice_get-right course.moves (its ∷ []) (length course.moves) 0 (omega arith)))),
      )

  pub only-move : IsOnly setting (entries_after entries (move_writes setting course its)) course.start more
  only-move level cluster address below is = at_level (nat_le level its.renewed) refl
    where
      value : held_after level cluster (held_after level cluster (entries level cluster) (early setting course its))
          (late setting course its) ≡ Some address
      value = sym (parts level cluster) ∙ is

      at_new : nat_le level its.renewed ≡ true → (b : Bool) → (cluster == setting.home level its.to) ≡ b
          → Says level cluster address
      at_new e true c =
          let here : cluster ≡ setting.home level its.to = eqb-true cluster (setting.home level its.to) c in
          let written : held_after level cluster (entries level cluster) (early setting course its)
          ≡ Some (record { number = its.number; node = its.to }) =
          subst (λ n. held_after level n (entries level n) (early setting course its)
          ≡ Some (record { number = its.number; node = its.to })) (sym here)
          (early-new setting course its level (entries level (setting.home level its.to)) (grind (arith, nat_tests, e))) in
          let kept : held_after level cluster (held_after level cluster (entries level cluster) (early setting course its))
          (late setting course its) ≡ held_after level cluster (entries level cluster) (early setting course its) =
          missed level cluster (held_after level cluster (entries level cluster) (early setting course its))
          (late setting course its) (late-misses setting course its level cluster (λ i under apart.
          subst (λ n. (level == i && n == old_home setting course i) ≡ false) (sym here) (at_home i apart))) in
          let same : record { number = its.number; node = its.to } ≡ address =
          same_some (sym written ∙ (sym kept ∙ value)) in
          says-new level cluster address e here (ap (λ (x : Address). x.number) (sym same))
        where
          at_home : (i : ℕ) → (old_home setting course i == setting.home i its.to) ≡ false
              → (level == i && setting.home level its.to == old_home setting course i) ≡ false
          at_home i apart = grind (arith, nat_tests, cases_Bool, eqb-true)
      at_new e false c =
          let unwritten : held_after level cluster (entries level cluster) (early setting course its)
          ≡ entries level cluster = missed level cluster (entries level cluster) (early setting course its) (early-misses setting course its level cluster
          (λ i under. off_home i)) in
          at_old (cluster == old_home setting course level) refl unwritten
        where
          off_home : (i : ℕ) → (level == i && cluster == setting.home i its.to) ≡ false
          off_home i = grind (arith, nat_tests, cases_Bool, eqb-true)

          at_old : (b : Bool) → (cluster == old_home setting course level) ≡ b
              → held_after level cluster (entries level cluster) (early setting course its) ≡ entries level cluster
              → Says level cluster address
          at_old true d unwritten =
              let here : cluster ≡ old_home setting course level = eqb-true cluster (old_home setting course level) d in
              let gone : held_after level cluster (held_after level cluster (entries level cluster)
              (early setting course its)) (late setting course its) ≡ None =
              subst (λ n. held_after level n (held_after level n (entries level n) (early setting course its))
              (late setting course its) ≡ None) (sym here)
              (late-empties setting course its level _ (grind (arith, nat_tests, e))
              (subst (λ n. (n == setting.home level its.to) ≡ false) here c)) in
              let clash : None ≡ Some address = sym gone ∙ value in cc
          at_old false d unwritten =
              let kept : held_after level cluster (held_after level cluster (entries level cluster)
              (early setting course its)) (late setting course its)
              ≡ held_after level cluster (entries level cluster) (early setting course its) =
              missed level cluster (held_after level cluster (entries level cluster) (early setting course its))
              (late setting course its) (late-misses setting course its level cluster (λ i under apart. off_old i)) in
              let its_only = only level cluster address below (sym unwritten ∙ (sym kept ∙ value)) in
              let clash : (cluster == old_home setting course level) ≡ true =
              eq-eqb cluster (old_home setting course level) its_only.1 in cc
            where
              off_old : (i : ℕ) → (level == i && cluster == old_home setting course i) ≡ false
              off_old i = grind (arith, nat_tests, cases_Bool, eqb-true)

      at_level : (b : Bool) → nat_le level its.renewed ≡ b → Says level cluster address
      at_level true e = at_new e (cluster == setting.home level its.to) refl
      at_level false e =
          let above : its.renewed < level = grind (arith, nat_tests, e) in
          let unwritten : held_after level cluster (entries level cluster) (early setting course its)
          ≡ entries level cluster = missed level cluster (entries level cluster) (early setting course its) (early-misses setting course its level cluster
          (λ i under. ap (λ b. b && cluster == setting.home i its.to) (ne_eqb level i (omega (arith, above, under))))) in
          let kept : held_after level cluster (held_after level cluster (entries level cluster)
          (early setting course its)) (late setting course its)
          ≡ held_after level cluster (entries level cluster) (early setting course its) =
          missed level cluster (held_after level cluster (entries level cluster) (early setting course its))
          (late setting course its) (late-misses setting course its level cluster
          (λ i under apart. ap (λ b. b && cluster == old_home setting course i)
          (ne_eqb level i (omega (arith, above, under))))) in
          says-old level cluster address below e (sym unwritten ∙ (sym kept ∙ value))

pub only-steps : (setting : Setting) (course : Course) (entries : ℕ → ℕ → Option Address) (steps : List Step)
    → AreInPlace setting course.start course.moves → MaySteps setting course steps
    → IsOnly setting entries course.start course.moves
    → IsOnly setting (entries_after entries (writes setting course steps))
    (after_steps setting course steps).start (after_steps setting course steps).moves
unfolding writes MaySteps
only-steps setting course entries [] are may only = only
only-steps setting course entries (move_to node ∷ steps) are may only = λ level cluster address below is.
    only-steps setting (after_step setting course (move_to node))
    (entries_after entries (step_writes setting course (move_to node))) steps
    (place-step setting course (move_to node) are may.0) may.1 (only-move setting course node entries are only)
    level cluster address below (sym (fold-append (entry_after level cluster) (entries level cluster)
    (step_writes setting course (move_to node)) (writes setting (after_step setting course (move_to node)) steps)) ∙ is)
only-steps setting course entries (switch_off ∷ steps) are may only =
    only-steps setting (after_step setting course switch_off) entries steps are may.1 only
only-steps setting course entries (switch_on ∷ steps) are may only =
    only-steps setting (after_step setting course switch_on) entries steps are may.1 only
