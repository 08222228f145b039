use Rattle.std.proofs.Common.{inl, inr, arith}
use Rattle.worked_examples.proofs.marks.worked_comings.Goals as goal

pub returns-clause-last : goal.returns-clause-last
returns-clause-last c = λ history tells. tells.0

pub returns-clause-inside : goal.returns-clause-inside
returns-clause-inside c = λ history p tells. omega (arith, tells.1)

pub returns-clause-on : goal.returns-clause-on
returns-clause-on c = λ history tells. tells.2

pub returns-clause-begun : goal.returns-clause-begun
returns-clause-begun c = λ history tells made.
    elim tells.3 [ inl early ↦ early.1 | inr late ↦ absurd (omega (arith, late.0, made)) ]

pub returns-clause-committed : goal.returns-clause-committed
returns-clause-committed c = λ history tells made.
    elim tells.3 [ inl early ↦ absurd (omega (arith, early.0, made)) | inr late ↦ late.1 ]

pub returns-clause-left : goal.returns-clause-left
returns-clause-left c = λ history tells made.
    elim tells.3 [ inl early ↦ absurd (omega (arith, early.0, made)) | inr late ↦ late.2 ]

pub returns-clause-early : goal.returns-clause-early
returns-clause-early c = λ history tells made.
    elim tells.3 [
      | inl early ↦ omega (arith, early.0, made)
      | inr late ↦ omega (arith, late.0, made)
    ]

pub returns-clause-late : goal.returns-clause-late
returns-clause-late c = λ history tells made.
    elim tells.3 [
      | inl early ↦ omega (arith, early.0, made)
      | inr late ↦ omega (arith, late.0, made)
    ]
