-- Which of a move's writes are addresses, erasures and purges, and where they stand among them.
use Rattle.std.proofs.Common.{◌≡◌, ◌⊎◌, inl, inr, ℕ, zero, suc, ◌+◌, ◌-◌, ◌<◌, ◌≤◌, Bool, true, false, cond, not, ◌==◌, ◌&&◌, List, [], ◌∷◌, ◌++◌, Option, Some, None, length, map, drop, take, fold, refl, sym, ap, ◌∙◌, subst, arith}
use Rattle.std.specs.Prelude.{slice_get}
use Rattle.std.proofs.lemmas.Bool.{eq-eqb, eqb-true}
use Rattle.std.proofs.lemmas.List.{length-map, take-append-le, take_all}
use Rattle.std.proofs.lemmas.List.Sums.{fold-append}
use Rattle.std.proofs.lemmas.Option.{slice_get_within}
use Rattle.node_set.specs.Ascending.{has, sift}
use Rattle.entry_word.specs.declared.address.Address.{Address}
use Rattle.entry_word.specs.declared.mark.PresenceMark.{PresenceMark}
use Rattle.entry_word.specs.declared.mark.PresenceMark.TheVariants.{Empty, Here, Gone, Coming}
use Rattle.directory.specs.Courses.{base, Course, Move}
use Rattle.directory.specs.Settings.{Setting}
use Rattle.directory.specs.States.{entry_after, mark_after}
use Rattle.directory.specs.StepLaws.{take-append}
use Rattle.directory.specs.Writes.{entry_at, erasure_writes, mark_at, move_writes, new_address, numbers_from, old_home, purge_writes, Write}
use Rattle.busy_finds.proofs.Kept.{early, late}
use Rattle.busy_finds.proofs.Tickets.{in-front, mapped-at}

-- what stands in joined lists stands in one of them
pub in-parts : (xs ys : List Write) (k : ℕ) (x : Write) → slice_get (xs ++ ys) k ≡ Some x
    → (slice_get xs k ≡ Some x) ⊎ ((j : ℕ) × (k ≡ length xs + j) × (slice_get ys j ≡ Some x))
in-parts [] ys k x h = let e : k ≡ 0 + k = omega arith in inr (k, e, h)
in-parts (y ∷ xs) ys zero x h = inl h
in-parts (y ∷ xs) ys (suc k) x h = elim (in-parts xs ys k x h) [
  | inl there ↦ inl there
  | inr on ↦ let e : suc k ≡ suc (length xs) + on.0 = omega (arith, on.1) in inr (on.0, e, on.2)
]

-- what is sifted passes the test
sift-at : (test : ℕ → Bool) (first count j x : ℕ) → slice_get (sift test first count) j ≡ Some x
    → (test x ≡ true) × (x < first + count)
sift-at test first zero j x h = cc
sift-at test first (suc count) j x h =
    at_test (test first) refl j (λ i there. sift-at test (suc first) count i x there) h
  where
    at_test : (b : Bool) → test first ≡ b → (i : ℕ)
        → ((l : ℕ) → slice_get (sift test (suc first) count) l ≡ Some x → (test x ≡ true) × (x < suc first + count))
        → slice_get (cond b (first ∷ sift test (suc first) count) (sift test (suc first) count)) i ≡ Some x
        → (test x ≡ true) × (x < first + suc count)
    at_test true e zero later there =
        let same : first ≡ x = cc in (ap test (sym same) ∙ e, omega (arith, same))
    at_test true e (suc i) later there = let rest = later i there in (rest.0, omega (arith, rest.1))
    at_test false e i later there = let rest = later i there in (rest.0, omega (arith, rest.1))

-- and the greatest that may be is the last
sift-last : (test : ℕ → Bool) (first count j x : ℕ) → slice_get (sift test first count) j ≡ Some x → suc x ≡ first + count
    → length (sift test first count) ≤ suc j
sift-last test first zero j x h last = omega arith
sift-last test first (suc count) j x h last =
    at_test (test first) refl j (λ i there. sift-last test (suc first) count i x there (omega (arith, last))) h
  where
    at_test : (b : Bool) → test first ≡ b → (i : ℕ)
        → ((l : ℕ) → slice_get (sift test (suc first) count) l ≡ Some x
        → length (sift test (suc first) count) ≤ suc l)
        → slice_get (cond b (first ∷ sift test (suc first) count) (sift test (suc first) count)) i ≡ Some x
        → length (cond b (first ∷ sift test (suc first) count) (sift test (suc first) count)) ≤ suc i
    at_test true e zero later there =
        let same : first ≡ x = cc in
        let none : count ≡ 0 = omega (arith, same, last) in rw none (omega arith)
    at_test true e (suc i) later there = omega (arith, later i there)
    at_test false e i later there = later i there

module _ (setting : Setting) (course : Course) (move : Move) where
  abbrev pub ends : List Write
  ends = erasure_writes setting course move ++ purge_writes setting course move

  -- a write behind the confirm, and what is written up to there
  abbrev pub BehindConfirm : ℕ → Type 0
  BehindConfirm k = (j : ℕ) × (k ≡ length (early setting course move) + suc (suc j))

  -- an erasure
  pub record IsErasing (k level cluster : ℕ) : Type 0 where
    pub low : level ≤ move.renewed
    pub old : (old_home setting course level == setting.home level move.to) ≡ false
    pub at : cluster ≡ old_home setting course level
    pub behind : BehindConfirm k
    pub last : level ≡ move.renewed → length (erasure_writes setting course move) ≤ suc behind.0

  -- a purge
  pub record IsPurging (k : ℕ) : Type 0 where
    pub tops : (move.renewed == setting.top) ≡ true
    pub behind : (j : ℕ) × (k ≡ length (early setting course move) + suc (suc (length (erasure_writes setting course move) + j)))

  purges-at : (j : ℕ) (write : Write) → slice_get (purge_writes setting course move) j ≡ Some write
      → (node : ℕ) × (mark_at node Empty ≡ write) × ((move.renewed == setting.top) ≡ true) × ((node == move.to) ≡ false)
  purges-at j write h = at_top (move.renewed == setting.top) refl h
    where
      test : ℕ → Bool
      test node = has node (map (λ (past : Move). past.from) (drop (base setting.top course.moves) (course.moves ++ move ∷ []))) && not (node == move.to)

      not-true : (b : Bool) → not b ≡ true → b ≡ false
      not-true true e = cc
      not-true false e = refl

      second : (a b : Bool) → (a && b) ≡ true → b ≡ true
      second true b e = e
      second false b e = cc

      at_top : (b : Bool) → (move.renewed == setting.top) ≡ b
          → slice_get (cond b (map (λ node. mark_at node Empty) (sift test 0 setting.nodes)) []) j ≡ Some write
          → (node : ℕ) × (mark_at node Empty ≡ write) × ((move.renewed == setting.top) ≡ true) × ((node == move.to) ≡ false)
      at_top true e there =
          let found = mapped-at (λ node. mark_at node Empty) (sift test 0 setting.nodes) j write there in
          let passed = sift-at test 0 setting.nodes j found.0 found.1 in
          (found.0, found.2, e, not-true (found.0 == move.to) (second _ _ passed.0))
      at_top false e there = cc

  erases-at : (j : ℕ) (write : Write) → slice_get (erasure_writes setting course move) j ≡ Some write
      → (level : ℕ) × (entry_at level (old_home setting course level) None ≡ write) × (level ≤ move.renewed)
      × ((old_home setting course level == setting.home level move.to) ≡ false)
      × (level ≡ move.renewed → length (erasure_writes setting course move) ≤ suc j)
  erases-at j write h =
      let found = mapped-at (λ level. entry_at level (old_home setting course level) None)
      (sift (λ level. not (old_home setting course level == setting.home level move.to)) 0 (suc move.renewed)) j write h in
      let passed = sift-at (λ level. not (old_home setting course level == setting.home level move.to)) 0
      (suc move.renewed) j found.0 found.1 in (
        found.0,
        found.2,
        omega (arith, passed.1),
        not-true (old_home setting course found.0 == setting.home found.0 move.to) passed.0,
        λ highest. omega (
          arith,
          length-map (sift (λ level. not (old_home setting course level == setting.home level move.to)) 0 (suc move.renewed))
              (λ level. entry_at level (old_home setting course level) None),
          sift-last (λ level. not (old_home setting course level == setting.home level move.to)) 0
              (suc move.renewed) j found.0 found.1 (omega (arith, highest)),
        ),
      )
    where
      not-true : (b : Bool) → not b ≡ true → b ≡ false
      not-true true e = cc
      not-true false e = refl

  -- the writes up to the commit say Coming, or where the subscriber is
  early-at : (k : ℕ) (write : Write) → slice_get (early setting course move) k ≡ Some write
      → ((node : ℕ) × (from : ℕ) × (write ≡ mark_at node (Coming move.number from)))
      ⊎ ((level : ℕ) × (cluster : ℕ) × (address : Address) × (write ≡ entry_at level cluster (Some address))
      × (address.number ≡ move.number))
  early-at zero write h =
      let same : mark_at move.to (Coming move.number move.from) ≡ write = cc in inl (move.to, move.from, sym same)
  early-at (suc k) write h =
      let found = mapped-at (new_address setting move) (numbers_from 0 (suc move.renewed)) k write h in
      inr (found.0, setting.home found.0 move.to, record { number = move.number; node = move.to }, sym found.2, refl)

  -- which write is which
  pub data IsPart (k : ℕ) (write : Write) : Type 0 where
    is_coming : (node from : ℕ) → write ≡ mark_at node (Coming move.number from)
        → k < length (early setting course move) → IsPart k write
    is_address : (level cluster : ℕ) (address : Address) → write ≡ entry_at level cluster (Some address)
        → address.number ≡ move.number → k < length (early setting course move) → IsPart k write
    is_gone : write ≡ mark_at move.from (Gone move.number move.to) → IsPart k write
    is_here : write ≡ mark_at move.to (Here move.number) → IsPart k write
    is_erasure : (level cluster : ℕ) → write ≡ entry_at level cluster None → IsErasing k level cluster → IsPart k write
    is_purge : (node : ℕ) → write ≡ mark_at node Empty → IsPurging k → IsPart k write

  pub part-of : (k : ℕ) (write : Write) → slice_get (move_writes setting course move) k ≡ Some write → IsPart k write
  part-of k write h = elim (in-parts (early setting course move)
      (mark_at move.from (Gone move.number move.to) ∷ late setting course move) k write h) [
        | inl there ↦ elim (early-at k write there) [
          | inl comes ↦ is_coming comes.0 comes.1 comes.2 (slice_get_within (early setting course move) k write there)
          | inr told ↦ is_address told.0 told.1 told.2 told.3 told.4
              (slice_get_within (early setting course move) k write there)
        ]
        | inr on ↦ behind on.0 on.1 on.2
      ]
    where
      behind : (j : ℕ) → k ≡ length (early setting course move) + j
          → slice_get (mark_at move.from (Gone move.number move.to) ∷ late setting course move) j ≡ Some write
          → IsPart k write
      behind zero e there =
          let same : mark_at move.from (Gone move.number move.to) ≡ write = cc in is_gone (sym same)
      behind (suc zero) e there =
          let same : mark_at move.to (Here move.number) ≡ write = cc in is_here (sym same)
      behind (suc (suc j)) e there =
          elim (in-parts (erasure_writes setting course move) (purge_writes setting course move) j write there) [
            | inl erased ↦
                let found = erases-at j write erased in
                is_erasure found.0 (old_home setting course found.0) (sym found.1) (record {
                  low = found.2;
                  old = found.3;
                  at = refl;
                  behind = (j, e);
                  last = found.4;
                })
            | inr purged ↦
                let found = purges-at purged.0 write purged.2 in
                is_purge found.0 (sym found.1) (record {
                  tops = found.2;
                  behind = (purged.0, omega (arith, e, purged.1));
                })
          ]

  -- what is written up to a place
  pub up-to-early : (k : ℕ) → k < length (early setting course move)
      → take (suc k) (move_writes setting course move) ≡ take (suc k) (early setting course move)
  up-to-early k low = take-append-le (suc k) (early setting course move)
      (mark_at move.from (Gone move.number move.to) ∷ late setting course move) (omega (arith, low))

  pub up-to-late : (k j : ℕ) → k ≡ length (early setting course move) + suc (suc j)
      → take (suc k) (move_writes setting course move) ≡ early setting course move
      ++ mark_at move.from (Gone move.number move.to) ∷ mark_at move.to (Here move.number) ∷ take (suc j) ends
  up-to-late k j e =
      let rest : suc k - length (early setting course move) ≡ suc (suc (suc j)) = omega (arith, e) in
      take-append (suc k) (early setting course move)
      (mark_at move.from (Gone move.number move.to) ∷ late setting course move)
      ∙ (ap (λ xs. xs ++ take (suc k - length (early setting course move))
      (mark_at move.from (Gone move.number move.to) ∷ late setting course move))
      (take_all (suc k) (early setting course move) (omega (arith, e)))
      ∙ ap (λ n. early setting course move ++ take n (mark_at move.from (Gone move.number move.to) ∷ late setting course move))
      rest)

  -- behind the confirm the mark of the new node stays
  abbrev Passes : ℕ → Write → Type 0
  Passes node (mark_at other mark) = (node == other) ≡ false
  Passes node (entry_at level cluster address) = Unit {0}

  one-passed : (node : ℕ) (mark : PresenceMark) (write : Write) → Passes node write → mark_after node mark write ≡ mark
  one-passed node mark (mark_at other new) pass = rw pass refl
  one-passed node mark (entry_at level cluster address) pass = refl

  all-passed : (node : ℕ) (mark : PresenceMark) (ws : List Write)
      → ((i : ℕ) (write : Write) → slice_get ws i ≡ Some write → Passes node write) → fold (mark_after node) mark ws ≡ mark
  all-passed node mark [] each = refl
  all-passed node mark (write ∷ ws) each =
      ap (λ m. fold (mark_after node) m ws) (one-passed node mark write (each 0 write refl))
      ∙ all-passed node mark ws (λ i other h. each (suc i) other h)

  ends-pass : (i : ℕ) (write : Write) → slice_get ends i ≡ Some write → Passes move.to write
  ends-pass i write h = elim (in-parts (erasure_writes setting course move) (purge_writes setting course move) i write h) [
    | inl erased ↦ let found = erases-at i write erased in subst (Passes move.to) found.1 tt
    | inr purged ↦ let found = purges-at purged.0 write purged.2 in
        subst (Passes move.to) found.1 (turned found.0 (move.to == found.0) refl found.3)
  ]
    where
      turned : (node : ℕ) (b : Bool) → (move.to == node) ≡ b → (node == move.to) ≡ false → (move.to == node) ≡ false
      turned node true e other =
          let same : move.to ≡ node = eqb-true move.to node e in
          let clash : false ≡ true = sym other ∙ eq-eqb node move.to (sym same) in cc
      turned node false e other = e

  pub here-stays : (mark : PresenceMark) (j : ℕ)
      → fold (mark_after move.to) mark (early setting course move ++ mark_at move.from (Gone move.number move.to)
      ∷ mark_at move.to (Here move.number) ∷ take j ends) ≡ Here move.number
  here-stays mark j =
      fold-append (mark_after move.to) mark (early setting course move)
      (mark_at move.from (Gone move.number move.to) ∷ mark_at move.to (Here move.number) ∷ take j ends)
      ∙ (ap (λ m. fold (mark_after move.to) m (take j ends))
      (ap (λ b. cond b (Here move.number) (mark_after move.to (fold (mark_after move.to) mark (early setting course move))
      (mark_at move.from (Gone move.number move.to)))) (eq-eqb move.to move.to refl))
      ∙ all-passed move.to (Here move.number) (take j ends)
      (λ i write h. ends-pass i write (in-front j ends i write h)))

  -- once all is erased, no purge changes an entry
  purges-leave : (level cluster : ℕ) (ws : List Write) (entry : Option Address)
      → ((i : ℕ) (write : Write) → slice_get ws i ≡ Some write → (node : ℕ) × (mark_at node Empty ≡ write))
      → fold (entry_after level cluster) entry ws ≡ entry
  purges-leave level cluster [] entry each = refl
  purges-leave level cluster (write ∷ ws) entry each =
      let one = each 0 write refl in
      ap (λ e. fold (entry_after level cluster) e ws) (ap (entry_after level cluster entry) (sym one.1))
      ∙ purges-leave level cluster ws entry (λ i other h. each (suc i) other h)

  pub entries-done : (level cluster j : ℕ) (entry : Option Address) → length (erasure_writes setting course move) ≤ j
      → fold (entry_after level cluster) entry (early setting course move
      ++ mark_at move.from (Gone move.number move.to) ∷ mark_at move.to (Here move.number) ∷ take j ends)
      ≡ fold (entry_after level cluster) entry (move_writes setting course move)
  entries-done level cluster j entry low =
      let left = j - length (erasure_writes setting course move) in
      let part : take j ends ≡ erasure_writes setting course move ++ take left (purge_writes setting course move) =
      take-append j (erasure_writes setting course move) (purge_writes setting course move)
      ∙ ap (λ xs. xs ++ take left (purge_writes setting course move)) (take_all j (erasure_writes setting course move) low) in
      let front = fold-append (entry_after level cluster) entry (early setting course move) in
      front (mark_at move.from (Gone move.number move.to) ∷ mark_at move.to (Here move.number) ∷ take j ends)
      ∙ (ap (fold (entry_after level cluster) (fold (entry_after level cluster) entry (early setting course move))) part
      ∙ (fold-append (entry_after level cluster) (fold (entry_after level cluster) entry (early setting course move))
      (erasure_writes setting course move) (take left (purge_writes setting course move))
      ∙ (purges-leave level cluster (take left (purge_writes setting course move)) _
      (λ i write h. purge-is i write (in-front left (purge_writes setting course move) i write h))
      ∙ (sym (purges-leave level cluster (purge_writes setting course move) _ purge-is)
      ∙ (sym (fold-append (entry_after level cluster) (fold (entry_after level cluster) entry (early setting course move))
      (erasure_writes setting course move) (purge_writes setting course move))
      ∙ sym (front (mark_at move.from (Gone move.number move.to) ∷ late setting course move)))))))
    where
      purge-is : (i : ℕ) (write : Write) → slice_get (purge_writes setting course move) i ≡ Some write
          → (node : ℕ) × (mark_at node Empty ≡ write)
      purge-is i write h = let found = purges-at i write h in (found.0, found.1)
