-- A text says one thing.
use Rattle.std.proofs.Common.{◌≡◌, ℕ, List, inl, inr, Result, Ok, Err, sym, ap, ◌∙◌, arith}
use Rattle.std.proofs.lemmas.Bool.{cases_lt}
use Rattle.net_graph.specs.declared.edge.Edge.{Edge}
use Rattle.net_graph.specs.Network.{IsFirstApart}
use Rattle.net_reader.specs.declared.fault.InputCause.TheVariants.{Apart}
use Rattle.net_reader.specs.declared.fault.InputFault.{InputFault}
use Rattle.net_reader.specs.Said.{Said}
use Rattle.net_reader.specs.Input.{Contents, IsAnswer, IsInput, read}

-- the least node apart is one
one_apart : {n : ℕ} {edges : List Edge} {v w : ℕ} → IsFirstApart n edges v → IsFirstApart n edges w → v ≡ w
one_apart {v} {w} p q = elim (cases_lt v w) [
  | inl lt ↦ let reached = q.first v lt in absurd (p.apart reached.steps reached.walk)
  | inr ge ↦ elim (cases_lt w v) [
    | inl lt ↦ let reached =
        p.first w lt in absurd (q.apart reached.steps reached.walk)
    | inr le ↦ omega arith
  ]
]

one_answer : (found : Result (Said × ℕ) InputFault) (one other : Result Contents InputFault) → IsAnswer found one
    → IsAnswer found other → one ≡ other
one_answer (Err fault) one other p q = p ∙ sym q
one_answer (Ok found) (Ok one) (Ok other) p q = let same : one ≡ other = p.0 ∙ sym q.0 in ap Ok same
one_answer (Ok found) (Ok one) (Err fault) p q =
    let reached = p.1 q.0 q.2.below in absurd (q.2.apart reached.steps reached.walk)
one_answer (Ok found) (Err fault) (Ok other) p q =
    let reached = q.1 p.0 p.2.below in absurd (p.2.apart reached.steps reached.walk)
one_answer (Ok found) (Err one) (Err other) p q =
    let node : p.0 ≡ q.0 = one_apart p.2 q.2 in
    let fault : ℕ → InputFault = λ v. record { line = found.1; cause = Apart v } in
    let same : one ≡ other = p.1 ∙ ap fault node ∙ sym q.1 in
    ap Err same

pub text_says_one : (bytes : List ℕ) (one other : Result Contents InputFault) → IsInput bytes one → IsInput bytes other
    → one ≡ other
text_says_one bytes one other p q = one_answer (read bytes) one other p q
