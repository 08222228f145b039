-- The home of the node that a level counts as the subscriber's, by the moves that are committed, has an address.
use Rattle.std.proofs.Common.{◌≡◌, ◌⊎◌, inl, inr, ℕ, zero, suc, ◌+◌, ◌<◌, ◌≤◌, ◌^◌, Bool, true, false, cond, List, [], ◌∷◌, ◌++◌, Option, None, length, take, refl, sym, ap, ◌∙◌, subst, arith, length-append}
use Rattle.std.specs.Prelude.{filter_map, is_some, nat_le}
use Rattle.std.proofs.lemmas.Bool.{eq-eqb, lt-ltb}
use Rattle.std.proofs.lemmas.Bool.Decides.{nat_tests}
use Rattle.std.proofs.Math.Seq.{take-nil}
use Rattle.std.proofs.lemmas.List.{append-nil, take_all, take_at}
use Rattle.std.proofs.lemmas.List.Elements.{filter_map-append}
use Rattle.std.proofs.lemmas.List.Sums.{fold-append}
use Rattle.entry_word.specs.declared.address.Address.{Address}
use Rattle.entry_word.specs.declared.mark.PresenceMark.{PresenceMark}
use Rattle.entry_word.specs.declared.mark.PresenceMark.TheVariants.{Gone, Here, Off}
use Rattle.directory.specs.Amid.{course_of}
use Rattle.directory.specs.Settings.{Setting, start, subs}
use Rattle.directory.specs.Histories.{History, puts_to}
use Rattle.directory.specs.Legal.{IsLegal, IsScript}
use Rattle.directory.specs.Courses.{after_step, after_steps, base, Course, course_at, last_stop, MaySteps, Move, move_to, next_move, Step, switch_off, switch_on}
use Rattle.directory.specs.ListLaws.{slice_get-right}
use Rattle.directory.specs.Standing.{commit_of, number}
use Rattle.directory.specs.States.{entry_after, opening_entry, write_commit, writes_made}
use Rattle.directory.specs.StepLaws.{may-take, start-kept}
use Rattle.directory.specs.Writes.{mark_at, move_writes, step_writes, Write, writes}
use Rattle.trail_laws.specs.Trail.{entry_seen}
use Rattle.busy_finds.specs.LawsBelow.{WriteLaws}
use Rattle.busy_finds.specs.Within.{moves_of}
use Rattle.busy_finds.proofs.Kept.{early, early-addresses, early-commits, early-spares, held_after, late, late-commits, late-spares_above, late-spares_new, none-listed, none-take, spare-append, spare-take, spared}
use Rattle.busy_finds.proofs.Moves.{AreInPlace, base-more, base-within, place-step, place-steps, stop-after, stop-kept, stop_of}

-- where a level has its address after so many moves
abbrev pub current : ℕ → List Move → ℕ → ℕ → ℕ
current begin moves n level = stop_of begin moves (base level (take n moves))

-- each level has an address at that node's home
abbrev pub HasAll : Setting → (ℕ → ℕ → Option Address) → ℕ → List Move → ℕ → Type 0
HasAll setting entries begin moves n =
    (level : ℕ) → level ≤ setting.top → is_some (entries level (setting.home level (current begin moves n level))) ≡ true

-- the entries after some writes
abbrev pub entries_after : (ℕ → ℕ → Option Address) → List Write → ℕ → ℕ → Option Address
entries_after entries ws level cluster = held_after level cluster (entries level cluster) ws

-- one move more, that isn't counted
current-kept : (begin : ℕ) (moves : List Move) (move : Move) (level : ℕ) → base level moves ≤ length moves
    → current begin (moves ++ move ∷ []) (length moves) level ≡ current begin moves (length moves) level
current-kept begin moves move level low =
    rw (take_at moves (move ∷ []) (length moves) refl, take_all (length moves) moves (omega arith))
    (stop-kept begin moves (move ∷ []) (base level moves) low)

-- and that is
current-moved : (begin : ℕ) (moves : List Move) (move : Move) (level : ℕ) → base level moves ≤ length moves
    → move.number ≡ suc (length moves)
    → current begin (moves ++ move ∷ []) (suc (length moves)) level
    ≡ cond (nat_le level move.renewed) move.to (current begin moves (length moves) level)
current-moved begin moves move level low numbered =
    let whole : take (suc (length moves)) (moves ++ move ∷ []) ≡ moves ++ move ∷ [] =
    take_all (suc (length moves)) (moves ++ move ∷ []) (omega (arith, length-append moves (move ∷ []))) in
    rw (whole, base-more level moves move, take_all (length moves) moves (omega arith))
    (at_test (nat_le level move.renewed))
  where
    at_test : (b : Bool) → stop_of begin (moves ++ move ∷ []) (cond b move.number (base level moves))
        ≡ cond b move.to (stop_of begin moves (base level moves))
    at_test true = ap (stop_of begin (moves ++ move ∷ [])) numbered ∙ (stop-after begin (moves ++ move ∷ []) (length moves) move
        (slice_get-right moves (move ∷ []) (length moves) 0 (omega arith)))
    at_test false = stop-kept begin moves (move ∷ []) (base level moves) low

module _ (setting : Setting) (course : Course) (node : ℕ) (entries : ℕ → ℕ → Option Address)
    (are : AreInPlace setting course.start course.moves)
    (has : HasAll setting entries course.start course.moves (length course.moves)) where
  abbrev pub its : Move
  its = next_move setting course node

  low : (level : ℕ) → base level course.moves ≤ length course.moves
  low level = rw (take_all (length course.moves) course.moves (omega arith)) at
      (base-within level course.moves are (length course.moves) (omega arith))

  -- up to the commit
  pub amid-early : (k : ℕ) → HasAll setting (entries_after entries (take k (early setting course its)))
      course.start (course.moves ++ its ∷ []) (length course.moves)
  amid-early k level below = rw (current-kept course.start course.moves its level (low level))
      (spared level _ _ _ (spare-take level _ k _ (early-spares setting course its level _)) (has level below))

  -- from it on
  pub amid-late : (j : ℕ) → HasAll setting (entries_after entries (early setting course its
      ++ (mark_at its.from (Gone its.number its.to) ∷ take j (late setting course its))))
      course.start (course.moves ++ its ∷ []) (suc (length course.moves))
  amid-late j level below = rw (current-moved course.start course.moves its level (low level) refl)
      (at_test (nat_le level its.renewed) refl)
    where
      rest : List Write
      rest = mark_at its.from (Gone its.number its.to) ∷ take j (late setting course its)

      at_test : (b : Bool) → nat_le level its.renewed ≡ b
          → is_some (entries_after entries (early setting course its ++ rest) level
          (setting.home level (cond b its.to (current course.start course.moves (length course.moves) level)))) ≡ true
      at_test true e = rw (fold-append _ (entries level (setting.home level its.to)) (early setting course its) rest)
          (spared level (setting.home level its.to) _ rest
          (tt, spare-take level _ j _ (late-spares_new setting course its level))
          (early-addresses setting course its level _ (grind (arith, nat_tests, e))))
      at_test false e = spared level _ _ (early setting course its ++ rest)
          (spare-append level _ (early setting course its) rest (early-spares setting course its level _)
          (tt, spare-take level _ j _ (late-spares_above setting course its level _ (grind (arith, nat_tests, e)))))
          (has level below)

-- so it is after whole steps
after-switch : (setting : Setting) (course : Course) (entries : ℕ → ℕ → Option Address) (step : Step)
    → AreInPlace setting course.start course.moves → HasAll setting entries course.start course.moves (length course.moves)
    → HasAll setting (entries_after entries (step_writes setting course step))
    (after_step setting course step).start (after_step setting course step).moves
    (length (after_step setting course step).moves)
after-switch setting course entries (move_to node) are has =
    let its : Move = next_move setting course node in
    subst (λ n. HasAll setting (entries_after entries (move_writes setting course its)) course.start
    (course.moves ++ its ∷ []) n) (sym counted)
    (subst (λ ws. HasAll setting (entries_after entries (early setting course its
    ++ (mark_at its.from (Gone its.number its.to) ∷ ws))) course.start (course.moves ++ its ∷ []) (suc (length course.moves)))
    (take_all (length (late setting course its)) (late setting course its) (omega arith))
    (amid-late setting course node entries are has (length (late setting course its))))
  where
    counted : length (course.moves ++ next_move setting course node ∷ []) ≡ suc (length course.moves)
    counted = omega (arith, length-append course.moves (next_move setting course node ∷ []))
after-switch setting course entries switch_off are has = has
after-switch setting course entries switch_on are has = has

after-steps : (setting : Setting) (course : Course) (entries : ℕ → ℕ → Option Address) (steps : List Step)
    → AreInPlace setting course.start course.moves → MaySteps setting course steps
    → HasAll setting entries course.start course.moves (length course.moves)
    → HasAll setting (entries_after entries (writes setting course steps))
    (after_steps setting course steps).start (after_steps setting course steps).moves
    (length (after_steps setting course steps).moves)
unfolding writes MaySteps
after-steps setting course entries [] are may has = has
after-steps setting course entries (step ∷ steps) are may has = λ level below. rw (fold-append _ _ _ _)
    (after-steps setting (after_step setting course step)
    (entries_after entries (step_writes setting course step)) steps (place-step setting course step are may.0) may.1
    (after-switch setting course entries step are has) level below)

-- how many commits there are among the writes of steps
commits-in : (setting : Setting) (course : Course) (steps : List Step)
    → length course.moves + length (filter_map write_commit (writes setting course steps))
    ≡ length (after_steps setting course steps).moves
unfolding writes
commits-in setting course [] = omega arith
commits-in setting course (move_to node ∷ steps) =
    let its : Move = next_move setting course node in
    let more = commits-in setting (after_step setting course (move_to node)) steps in
    let rest : List Write = writes setting (after_step setting course (move_to node)) steps in
    omega (
      arith,
      more,
      length-append course.moves (its ∷ []),
      ap length (filter_map-append write_commit (move_writes setting course its) rest),
      length-append (filter_map write_commit (move_writes setting course its)) (filter_map write_commit rest),
      ap length (filter_map-append write_commit (early setting course its)
          (mark_at its.from (Gone its.number its.to) ∷ late setting course its)),
      length-append (filter_map write_commit (early setting course its))
          (filter_map write_commit (mark_at its.from (Gone its.number its.to) ∷ late setting course its)),
      ap length (none-listed (early setting course its) (early-commits setting course its)),
      ap length (none-listed (late setting course its) (late-commits setting course its)),
    )
commits-in setting course (switch_off ∷ steps) = commits-in setting (after_step setting course switch_off) steps
commits-in setting course (switch_on ∷ steps) = commits-in setting (after_step setting course switch_on) steps

-- ---- amid a step
take-parts : (k : ℕ) (xs : List Write) (y : Write) (zs : List Write)
    → (take k (xs ++ y ∷ zs) ≡ take k xs) ⊎ ((j : ℕ) × (take k (xs ++ y ∷ zs) ≡ xs ++ y ∷ take j zs))
take-parts zero xs y zs = inl refl
take-parts (suc k) [] y zs = inr (k, refl)
take-parts (suc k) (x ∷ xs) y zs = elim (take-parts k xs y zs) [
  | inl early ↦ inl (ap (λ ws. x ∷ ws) early)
  | inr late ↦ inr (late.0, ap (λ ws. x ∷ ws) late.1)
]

-- the entries that some writes leave, and how many commits they tell
abbrev pub LeavesAll : Setting → ℕ → List Write → List Move → Type 0
LeavesAll setting sub ws moves = HasAll setting (entries_after (opening_entry setting sub) ws) (start setting sub) moves
    (length (filter_map write_commit ws))

opens : (setting : Setting) (sub : ℕ) → sub < subs setting
    → HasAll setting (opening_entry setting sub) (start setting sub) [] 0
opens setting sub known level below = rw (
  lt-ltb sub (subs setting) known,
  lt-ltb level (suc setting.top) (omega (arith, below)),
  eq-eqb (setting.home level (start setting sub)) (setting.home level (start setting sub)) refl,
) refl

module _ (setting : Setting) (sub : ℕ) (before : List Step) where
  abbrev pub done : Course
  done = course_of setting sub before

  abbrev pub made_before : List Write
  made_before = writes setting (course_at (start setting sub)) before

  begins-there : done.start ≡ start setting sub
  begins-there = start-kept setting (course_at (start setting sub)) before

  in-place : IsScript setting sub before → AreInPlace setting done.start done.moves
  in-place script = place-steps setting (course_at (start setting sub)) before
      (record { begins = script.begins; each = λ i move h. cc }) script.allowed

  at-rest : IsScript setting sub before
      → HasAll setting (entries_after (opening_entry setting sub) made_before) done.start done.moves (length done.moves)
  at-rest script = after-steps setting (course_at (start setting sub)) (opening_entry setting sub) before
      (record { begins = script.begins; each = λ i move h. cc }) script.allowed (opens setting sub script.known)

  pub counted : (ws : List Write) → length (filter_map write_commit (made_before ++ ws))
      ≡ length done.moves + length (filter_map write_commit ws)
  counted ws = omega (
    arith,
    ap length (filter_map-append write_commit made_before ws),
    length-append (filter_map write_commit made_before) (filter_map write_commit ws),
    commits-in setting (course_at (start setting sub)) before,
  )

  -- writes after those of the steps before
  more-leave : (ws : List Write) (moves : List Move) (n : ℕ) → n ≡ length done.moves + length (filter_map write_commit ws)
      → HasAll setting (entries_after (entries_after (opening_entry setting sub) made_before) ws) done.start moves n
      → LeavesAll setting sub (made_before ++ ws) moves
  more-leave ws moves n same has level below =
      rw (fold-append (entry_after level (setting.home level (current (start setting sub) moves
      (length (filter_map write_commit (made_before ++ ws))) level))) _ made_before ws)
      (subst (λ b. is_some (entries_after (entries_after (opening_entry setting sub) made_before) ws level
      (setting.home level (current b moves (length (filter_map write_commit (made_before ++ ws))) level))) ≡ true)
      begins-there
      (subst (λ m. is_some (entries_after (entries_after (opening_entry setting sub) made_before) ws level
      (setting.home level (current done.start moves m level))) ≡ true) (same ∙ sym (counted ws)) (has level below)))

  module _ (node : ℕ) (script : IsScript setting sub before) where
    abbrev pub under : Move
    under = next_move setting done node

    abbrev pub commit : Write
    commit = mark_at under.from (Gone under.number under.to)

    amid-move : (made : ℕ)
        → LeavesAll setting sub (made_before ++ take made (early setting done under ++ commit ∷ late setting done under))
        (done.moves ++ under ∷ [])
    amid-move made = elim (take-parts made (early setting done under) commit (late setting done under)) [
      | inl is_early ↦ subst (λ ws. LeavesAll setting sub (made_before ++ ws) (done.moves ++ under ∷ [])) (sym is_early)
          (more-leave (take made (early setting done under)) (done.moves ++ under ∷ []) (length done.moves)
          (omega (
            arith,
            ap length (none-listed (take made (early setting done under))
                (none-take made (early setting done under) (early-commits setting done under))),
          ))
          (amid-early setting done node (entries_after (opening_entry setting sub) made_before) (in-place script) (at-rest script) made))
      | inr is_late ↦ subst (λ ws. LeavesAll setting sub (made_before ++ ws) (done.moves ++ under ∷ [])) (sym is_late.1)
          (more-leave (early setting done under ++ commit ∷ take is_late.0 (late setting done under))
          (done.moves ++ under ∷ []) (suc (length done.moves)) (one-commit is_late.0)
          (amid-late setting done node (entries_after (opening_entry setting sub) made_before) (in-place script) (at-rest script) is_late.0))
    ]
      where
        one-commit : (j : ℕ) → suc (length done.moves)
            ≡ length done.moves + length (filter_map write_commit (early setting done under
            ++ commit ∷ take j (late setting done under)))
        one-commit j = omega (
          arith,
          ap length (filter_map-append write_commit (early setting done under) (commit ∷ take j (late setting done under))),
          length-append (filter_map write_commit (early setting done under))
              (filter_map write_commit (commit ∷ take j (late setting done under))),
          ap length (none-listed (early setting done under) (early-commits setting done under)),
          ap length (none-listed (take j (late setting done under))
              (none-take j (late setting done under) (late-commits setting done under))),
        )

  -- with no step under way
  resting : IsScript setting sub before → (ws : List Write) → ws ≡ []
      → LeavesAll setting sub (made_before ++ ws) done.moves
  resting script ws none = subst (λ xs. LeavesAll setting sub (made_before ++ xs) done.moves) (sym none)
      (more-leave [] done.moves (length done.moves) (omega arith) (at-rest script))

-- the steps before may be made
pub script-before : (setting : Setting) (sub : ℕ) (before under : List Step) → IsScript setting sub (before ++ under)
    → IsScript setting sub before
script-before setting sub before under script = record {
  known = script.known;
  begins = script.begins;
  allowed = rw (take_at before under (length before) refl) at
      (may-take setting (course_at (start setting sub)) (before ++ under) (length before) script.allowed);
}

take-one : (k : ℕ) (x : Write) → (take k (x ∷ []) ≡ []) ⊎ (take k (x ∷ []) ≡ x ∷ [])
take-one zero x = inl refl
take-one (suc k) x = inr (ap (λ ws. x ∷ ws) (take-nil k))

-- a switch writes one mark
amid-switch : (setting : Setting) (sub : ℕ) (before : List Step) (made node : ℕ) (mark : PresenceMark)
    → IsScript setting sub before → commit_of node mark ≡ None
    → LeavesAll setting sub (made_before setting sub before ++ take made (mark_at node mark ∷ []))
    (course_of setting sub before).moves
amid-switch setting sub before made node mark script none = elim (take-one made (mark_at node mark)) [
  | inl is_none ↦ resting setting sub before script _ is_none
  | inr is_one ↦ subst (λ ws. LeavesAll setting sub (made_before setting sub before ++ ws)
      (course_of setting sub before).moves) (sym is_one)
      (more-leave setting sub before (mark_at node mark ∷ []) (course_of setting sub before).moves
      (length (course_of setting sub before).moves)
      (omega (arith, ap length (none-listed (mark_at node mark ∷ []) (none, tt)))) (at-rest setting sub before script))
]

amid-leaves : (setting : Setting) (sub : ℕ) (before under : List Step) (made : ℕ)
    → IsScript setting sub (before ++ under) → length under ≤ 1
    → LeavesAll setting sub (made_before setting sub before
    ++ take made (writes setting (course_of setting sub before) under)) (course_of setting sub (before ++ under)).moves
unfolding writes
amid-leaves setting sub before [] made script few =
    subst (λ steps. LeavesAll setting sub (made_before setting sub before ++ take made []) (course_of setting sub steps).moves)
    (sym (append-nil before)) (resting setting sub before (script-before setting sub before [] script) (take made [])
    (take-nil made))
amid-leaves setting sub before (move_to node ∷ []) made script few =
    subst (λ ms. LeavesAll setting sub (made_before setting sub before ++ take made
    (move_writes setting (course_of setting sub before) (next_move setting (course_of setting sub before) node) ++ [])) ms)
    (sym (ap (λ (c : Course). c.moves)
    (fold-append (after_step setting) (course_at (start setting sub)) before (move_to node ∷ []))))
    (subst (λ ws. LeavesAll setting sub (made_before setting sub before ++ take made ws)
    ((course_of setting sub before).moves ++ next_move setting (course_of setting sub before) node ∷ []))
    (sym (append-nil
    (move_writes setting (course_of setting sub before) (next_move setting (course_of setting sub before) node))))
    (amid-move setting sub before node (script-before setting sub before (move_to node ∷ []) script) made))
amid-leaves setting sub before (switch_off ∷ []) made script few =
    subst (λ ms. LeavesAll setting sub (made_before setting sub before ++ take made
    (step_writes setting (course_of setting sub before) switch_off)) ms)
    (sym (ap (λ (c : Course). c.moves)
    (fold-append (after_step setting) (course_at (start setting sub)) before (switch_off ∷ []))))
    (amid-switch setting sub before made (last_stop (course_of setting sub before))
    (Off (length (course_of setting sub before).moves)) (script-before setting sub before (switch_off ∷ []) script) refl)
amid-leaves setting sub before (switch_on ∷ []) made script few =
    subst (λ ms. LeavesAll setting sub (made_before setting sub before ++ take made
    (step_writes setting (course_of setting sub before) switch_on)) ms)
    (sym (ap (λ (c : Course). c.moves)
    (fold-append (after_step setting) (course_at (start setting sub)) before (switch_on ∷ []))))
    (amid-switch setting sub before made (last_stop (course_of setting sub before))
    (Here (length (course_of setting sub before).moves)) (script-before setting sub before (switch_on ∷ []) script) refl)
amid-leaves setting sub before (step ∷ other ∷ more) made script few = absurd (omega (arith, few))

-- after a legal history each level has an address at the home of its current node
pub currents-have : WriteLaws → (setting : Setting) (sub : ℕ) (history : History) → setting.nodes ≤ 2 ^ 16
    → IsLegal setting sub history
    → HasAll setting (entry_seen setting sub history) (start setting sub) (moves_of setting sub history)
    (number sub history)
currents-have laws setting sub history few legal level below =
    let am = laws.amid setting sub (puts_to sub history) few legal in
    let left : LeavesAll setting sub (writes_made setting sub (puts_to sub history)) (moves_of setting sub history) =
    subst (λ ws. LeavesAll setting sub ws (moves_of setting sub history)) (sym am.writes)
    (subst (λ steps. LeavesAll setting sub (made_before setting sub am.before
    ++ take am.made (writes setting (course_of setting sub am.before) am.under)) (course_of setting sub steps).moves)
    (sym am.steps)
    (amid-leaves setting sub am.before am.under am.made
    (subst (λ steps. IsScript setting sub steps) am.steps legal.script) am.one)) in
    rw (laws.told setting sub history few legal, laws.entries setting sub history few legal level) (left level below)
