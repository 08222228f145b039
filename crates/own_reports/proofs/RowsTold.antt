-- What all lines tell of a subscriber before a ticket is what its own lines tell.
use Rattle.std.proofs.Common.{◌≡◌, ◌≢◌, ◌⊎◌, inl, inr, ℕ, zero, suc, ◌+◌, ◌<◌, ◌≤◌, ◌&&◌, ◌||◌, Bool, false, eqb, ltb, List, [], ◌∷◌, ◌++◌, fold, refl, ap, sym, ◌∙◌, arith, append_assoc, append-nil}
use Rattle.std.specs.Prelude.{flat_map, slice_index}
use Rattle.std.specs.List.{list_any}
use Rattle.std.proofs.lemmas.Bool.{cases_eq}
use Rattle.std.proofs.lemmas.Bool.Decides.{nat_tests}
use Rattle.std.proofs.lemmas.List.Folds.{list_any-append}
use Rattle.std.proofs.lemmas.List.Sums.{fold-append}
use Rattle.directory.specs.Writes.{numbers_from}
use Rattle.directory.specs.declared.answers.Done.{Done}
use Rattle.directory.specs.declared.answers.Done.TheVariants.{Moved, Switched}
use Rattle.directory.specs.CallLines.{actor_of}
use Rattle.report_check.specs.Parts.{at_start, tell, told_before}
use Rattle.own_reports.proofs.Runs.{HaveRuns}

test-other : (actor sub commit ticket : ℕ) → actor ≢ sub → (eqb actor sub && ltb commit ticket) ≡ false
test-other actor sub commit ticket other = grind (arith, nat_tests)

-- ---- lists of lines by their actors

-- no line of some actors passes a test
pub rows-none : (test : Done → Bool) (lines : ℕ → List Done) (from count : ℕ)
    → ((actor : ℕ) → from ≤ actor → actor < from + count → list_any test (lines actor) ≡ false)
    → list_any test (flat_map lines (numbers_from from count)) ≡ false
rows-none test lines from zero none = refl
rows-none test lines from (suc count) none =
    list_any-append test (lines from) (flat_map lines (numbers_from (suc from) count))
    ∙ ap (λ b. b || list_any test (flat_map lines (numbers_from (suc from) count)))
    (none from (omega arith) (omega arith))
    ∙ rows-none test lines (suc from) count (λ actor low high. none actor (omega (arith, low)) (omega (arith, high)))

module _ (homes : List ℕ) (sub ticket : ℕ) where
  -- a line more
  pub told-push : (before : List Done) (line : Done)
      → told_before homes (before ++ line ∷ []) sub ticket ≡ tell sub ticket (told_before homes before sub ticket) line
  told-push before line = fold-append (tell sub ticket) (at_start (slice_index homes sub)) before (line ∷ [])

  told-other : (before : List Done) (call : Done) → actor_of call ≢ sub
      → told_before homes (before ++ call ∷ []) sub ticket ≡ told_before homes before sub ticket
  told-other before (Moved actor number from to weight first commit last) other =
      told-push before _ ∙ rw (test-other actor sub commit ticket other) refl
  told-other before (Switched actor off node number at) other =
      told-push before _ ∙ rw (test-other actor sub at ticket other) refl
  told-other before call other = told-push before call

  -- the lines of another actor tell nothing
  told-skip : (actor : ℕ) (seen : List ℕ) (p : ℕ) (before calls : List Done) → actor ≢ sub
      → HaveRuns actor seen p calls
      → told_before homes (before ++ calls) sub ticket ≡ told_before homes before sub ticket
  told-skip actor seen p before [] other runs =
      ap (λ (ls : List Done). told_before homes ls sub ticket) (append-nil before)
  told-skip actor seen p before (call ∷ calls) other runs =
      ap (λ (ls : List Done). told_before homes ls sub ticket) (sym (append_assoc before (call ∷ []) calls))
      ∙ told-skip actor seen (suc runs.0) (before ++ call ∷ []) calls other runs.4
      ∙ told-other before call (λ same. other (sym runs.2 ∙ same))

  module _ (seen : ℕ → List ℕ) (lines : ℕ → List Done) where
    pub rows-skip : (from count : ℕ) (before : List Done)
        → ((actor : ℕ) → from ≤ actor → actor < from + count → HaveRuns actor (seen actor) 0 (lines actor))
        → (sub < from) ⊎ (from + count ≤ sub)
        → told_before homes (before ++ flat_map lines (numbers_from from count)) sub ticket
        ≡ told_before homes before sub ticket
    rows-skip from zero before runs outside =
        ap (λ (ls : List Done). told_before homes ls sub ticket) (append-nil before)
    rows-skip from (suc count) before runs outside =
        ap (λ (ls : List Done). told_before homes ls sub ticket)
        (sym (append_assoc before (lines from) (flat_map lines (numbers_from (suc from) count))))
        ∙ rows-skip (suc from) count (before ++ lines from)
        (λ actor low high. runs actor (omega (arith, low)) (omega (arith, high))) (deeper outside)
        ∙ told-skip from (seen from) 0 before (lines from) (λ same. here outside same)
        (runs from (omega arith) (omega arith))
      where
        deeper : (sub < from) ⊎ (from + suc count ≤ sub) → (sub < suc from) ⊎ (suc from + count ≤ sub)
        deeper (inl low) = inl (omega (arith, low))
        deeper (inr high) = inr (omega (arith, high))

        here : (sub < from) ⊎ (from + suc count ≤ sub) → from ≡ sub → ⊥
        here (inl low) same = omega (arith, low, same)
        here (inr high) same = omega (arith, high, same)

    pub rows-told : (from count : ℕ) (before : List Done)
        → ((actor : ℕ) → from ≤ actor → actor < from + count → HaveRuns actor (seen actor) 0 (lines actor))
        → from ≤ sub → sub < from + count
        → told_before homes before sub ticket ≡ told_before homes [] sub ticket
        → told_before homes (before ++ flat_map lines (numbers_from from count)) sub ticket
        ≡ told_before homes (lines sub) sub ticket
    rows-told from zero before runs low high none = absurd (omega (arith, low, high))
    rows-told from (suc count) before runs low high none = elim (cases_eq from sub) [
      | inl same ↦
          ap (λ (ls : List Done). told_before homes ls sub ticket)
          (sym (append_assoc before (lines from) (flat_map lines (numbers_from (suc from) count))))
          ∙ rows-skip (suc from) count (before ++ lines from)
          (λ actor more less. runs actor (omega (arith, more)) (omega (arith, less))) (inl (omega (arith, same)))
          ∙ ap (λ k. told_before homes (before ++ lines k) sub ticket) same
          ∙ fold-append (tell sub ticket) (at_start (slice_index homes sub)) before (lines sub)
          ∙ ap (λ told. fold (tell sub ticket) told (lines sub)) none
      | inr other ↦
          ap (λ (ls : List Done). told_before homes ls sub ticket)
          (sym (append_assoc before (lines from) (flat_map lines (numbers_from (suc from) count))))
          ∙ rows-told (suc from) count (before ++ lines from)
          (λ actor more less. runs actor (omega (arith, more)) (omega (arith, less))) (omega (arith, low, other))
          (omega (arith, high))
          (told-skip from (seen from) 0 before (lines from) other (runs from (omega arith) (omega arith)) ∙ none)
    ]
