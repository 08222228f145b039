-- Each ticket is of an actor that has a call, since an actor without one is done from the beginning.
use Rattle.std.proofs.Common.{◌≡◌, ◌⊎◌, inl, inr, ℕ, suc, ◌<◌, ◌&&◌, Bool, true, ltb, List, [], ◌∷◌, length, map, get_or, Some, None, refl, ap, sym, ◌∙◌, arith}
use Rattle.std.specs.Prelude.{slice_get, option_map}
use Rattle.std.specs.List.{list_all}
use Rattle.std.proofs.lemmas.Bool.{cases_lt}
use Rattle.std.proofs.lemmas.Bool.Decides.{nat_tests}
use Rattle.entry_word.specs.declared.visit.Visit.{Visit}
use Rattle.directory.specs.Settings.{Setting, subs}
use Rattle.directory.specs.Courses.{Step}
use Rattle.directory.specs.Histories.{History, before, own, words_read}
use Rattle.directory.specs.HistoryLaws.{next-caller, next-sub}
use Rattle.directory.specs.Looks.{look_by}
use Rattle.directory.specs.Orders.{IsPlayed, caller_at, finds_of, next, steps_of}
use Rattle.directory.specs.Writes.{visits, writes}
use Rattle.net_reader.specs.declared.said.Call.{Call}
use Rattle.net_reader.specs.Input.{Contents}
use Rattle.net_reader.specs.Valid.{IsValid}
use Rattle.report_check.specs.Verdicts.{has_call}
use Rattle.scripts.specs.ScriptLaws.{finds-are, keyless, steps-are, stranger-done}
use Rattle.scripts.specs.Scripts.{find_of, scripts_of, step_of}
use Rattle.own_reports.proofs.Order.{actors_of}

-- a test that each number of a list passes
all-pass : (test : ℕ → Bool) (history : History)
    → ((t : ℕ) (v : Visit) → slice_get history t ≡ Some v → test v.actor ≡ true)
    → list_all test (actors_of history) ≡ true
all-pass test [] each = refl
all-pass test (v ∷ history) each =
    ap (λ b. b && list_all test (actors_of history)) (each 0 v refl)
    ∙ all-pass test history (λ t other is. each (suc t) other is)

no-writes : (setting : Setting) (sub : ℕ) (steps : List Step) (k : ℕ) → steps ≡ []
    → slice_get (visits setting sub steps) k ≡ None
unfolding writes
no-writes setting sub steps k none = rw none refl

-- an actor without a call has no visit
pub idle : (contents : Contents) (setting : Setting) (history : History) (actor : ℕ) → IsValid contents
    → setting.starts ≡ contents.homes → get_or contents.scripts actor [] ≡ []
    → next setting (scripts_of contents) history actor ≡ None
idle contents setting history actor valid same none = elim (cases_lt actor (subs setting)) [
  | inl low ↦
      let known : actor < length contents.homes = omega (arith, low, ap length same) in
      next-sub setting (scripts_of contents) history actor low
      ∙ no-writes setting actor (steps_of (scripts_of contents) actor) (length (own actor history))
      (steps-are contents actor valid known ∙ ap (map step_of) none)
  | inr high ↦ elim (cases_lt actor (length contents.scripts)) [
    | inl inside ↦
        next-caller setting (scripts_of contents) history actor high
        ∙ ap (option_map (look_by actor))
        (keyless setting (words_read setting actor history) (caller_at (finds_of setting (scripts_of contents) actor))
        (finds-are contents setting actor same (omega (arith, high, ap length same)) inside ∙ ap (map find_of) none))
    | inr outside ↦ stranger-done contents setting history actor valid same outside
  ]
]

empty-or : (script : List Call) → (script ≡ []) ⊎ (ltb 0 (length script) ≡ true)
empty-or [] = inl refl
empty-or (call ∷ script) = inr (grind (arith, nat_tests))

-- each ticket is of an actor that has a call
pub no-strangers : (contents : Contents) (setting : Setting) (history : History) → IsValid contents
    → setting.starts ≡ contents.homes → IsPlayed setting (scripts_of contents) history
    → list_all (has_call contents.scripts) (actors_of history) ≡ true
no-strangers contents setting history valid same played =
    all-pass (has_call contents.scripts) history (λ t v is.
    elim (empty-or (get_or contents.scripts v.actor [])) [
      | inl none ↦ absurd (let bad : None ≡ Some v =
          sym (idle contents setting (before t history) v.actor valid same none) ∙ played t v is in cc)
      | inr some ↦ some
    ])
