-- How many nodes hold a Gone that leads beyond a place.
use Rattle.std.proofs.Common.{◌≡◌, ◌≢◌, inl, inr, ℕ, zero, suc, ◌+◌, ◌<◌, ◌≤◌, true, false, cond, refl, sym, ap, ◌∙◌, arith}
use Rattle.std.specs.Prelude.{nat_le}
use Rattle.std.proofs.lemmas.Bool.{cases_eq, cases_lt}
use Rattle.std.proofs.lemmas.Bool.Decides.{nat_tests}
use Rattle.entry_word.specs.declared.mark.PresenceMark.{PresenceMark}
use Rattle.entry_word.specs.declared.mark.PresenceMark.TheVariants.{Empty, Here, Gone, Coming, Off}

-- 1 for a Gone above a place
abbrev pub leads : ℕ → PresenceMark → ℕ
leads place Empty = 0
leads place (Here q) = 0
leads place (Off q) = 0
leads place (Coming q from) = 0
leads place (Gone q to) = cond (nat_le (suc place) q) 1 0

leads-one : (place q to : ℕ) → place < q → leads place (Gone q to) ≡ 1
leads-one place q to h =
    let t : nat_le (suc place) q ≡ true = grind (arith, nat_tests, h) in rw t refl

leads-none : (place q to : ℕ) → q ≤ place → leads place (Gone q to) ≡ 0
leads-none place q to h =
    let t : nat_le (suc place) q ≡ false = grind (arith, nat_tests, h) in rw t refl

leads-low : (place : ℕ) (mark : PresenceMark) → leads place mark ≤ 1
leads-low place Empty = omega arith
leads-low place (Here q) = omega arith
leads-low place (Off q) = omega arith
leads-low place (Coming q from) = omega arith
leads-low place (Gone q to) = elim (cases_lt place q) [
  | inl above ↦ omega (arith, leads-one place q to above)
  | inr below ↦ omega (arith, leads-none place q to below)
]

leads-falls : (place later : ℕ) (mark : PresenceMark) → place ≤ later → leads later mark ≤ leads place mark
leads-falls place later Empty h = omega arith
leads-falls place later (Here q) h = omega arith
leads-falls place later (Off q) h = omega arith
leads-falls place later (Coming q from) h = omega arith
leads-falls place later (Gone q to) h = elim (cases_lt later q) [
  | inl above ↦ omega (arith, leads-one later q to above, leads-one place q to (omega (arith, above, h)))
  | inr below ↦ omega (arith, leads-none later q to below)
]

module _ (marks : ℕ → PresenceMark) where
  -- of the nodes below a number
  abbrev pub ahead : ℕ → ℕ → ℕ
  ahead place zero = 0
  ahead place (suc node) = leads place (marks node) + ahead place node

  pub ahead-falls : (place later nodes : ℕ) → place ≤ later → ahead later nodes ≤ ahead place nodes
  ahead-falls place later zero h = omega arith
  ahead-falls place later (suc node) h =
      omega (arith, leads-falls place later (marks node) h, ahead-falls place later node h)

  pub ahead-drops : (place later q to node nodes : ℕ) → node < nodes → place < q → q ≤ later → marks node ≡ Gone q to
      → ahead later nodes + 1 ≤ ahead place nodes
  ahead-drops place later q to node zero inside above low is = absurd (omega (arith, inside))
  ahead-drops place later q to node (suc nodes) inside above low is = elim (cases_eq node nodes) [
    | inl same ↦
        let here : marks nodes ≡ Gone q to = ap marks (sym same) ∙ is in
        let before : leads place (marks nodes) ≡ 1 = ap (leads place) here ∙ leads-one place q to above in
        let behind : leads later (marks nodes) ≡ 0 = ap (leads later) here ∙ leads-none later q to low in
        omega (arith, before, behind, ahead-falls place later nodes (omega (arith, above, low)))
    | inr apart ↦ omega (
      arith,
      leads-falls place later (marks nodes) (omega (arith, above, low)),
      ahead-drops place later q to node nodes (omega (arith, inside, apart)) above low is,
    )
  ]

  ahead-low : (place nodes : ℕ) → ahead place nodes ≤ nodes
  ahead-low place zero = omega arith
  ahead-low place (suc node) = omega (arith, leads-low place (marks node), ahead-low place node)

  -- one of them holds none
  pub ahead-few : (place node nodes : ℕ) → node < nodes → ((q to : ℕ) → marks node ≢ Gone q to)
      → ahead place nodes + 1 ≤ nodes
  ahead-few place node zero inside none = absurd (omega (arith, inside))
  ahead-few place node (suc nodes) inside none = elim (cases_eq node nodes) [
    | inl same ↦ omega (arith, ahead-low place nodes, at_mark (marks nodes) (λ q to h. none q to (ap marks same ∙ h)))
    | inr apart ↦ omega (
      arith,
      leads-low place (marks nodes),
      ahead-few place node nodes (omega (arith, inside, apart)) none,
    )
  ]
    where
      at_mark : (mark : PresenceMark) → ((q to : ℕ) → mark ≢ Gone q to) → leads place mark ≡ 0
      at_mark Empty never = refl
      at_mark (Here q) never = refl
      at_mark (Off q) never = refl
      at_mark (Coming q from) never = refl
      at_mark (Gone q to) never = absurd (never q to refl)
