use Rattle.std.proofs.Common.{ℕ, zero, suc, [], ◌∷◌, ◌<◌, ◌+◌, ◌*◌, slice_index, subst, arith}
use Rattle.stretch_laws.specs.Costs.{Costs}
use Rattle.stretch_laws.specs.Tracking.{radius}
use Rattle.worked_examples.proofs.costs.worked_costs.Goals as goal

-- what holds at the three lowest levels
by_level : (P : ℕ → Type 0) → P 0 → P 1 → P 2 → (level : ℕ) → level < 3 → P level
by_level P at_0 at_1 at_2 zero low = at_0
by_level P at_0 at_1 at_2 (suc zero) low = at_1
by_level P at_0 at_1 at_2 (suc (suc zero)) low = at_2
by_level P at_0 at_1 at_2 (suc (suc (suc level))) low = absurd (omega (arith, low))

pub returns-clause-old : goal.returns-clause-old
returns-clause-old c = λ law setting sub from level cluster history address low met before old.
    by_level (λ i. Costs setting sub history i cluster address (3 * radius i + radius i)
    → Costs setting sub history i cluster address (slice_index (4 ∷ 8 ∷ 16 ∷ []) i))
    (λ it. it) (λ it. it) (λ it. it) level low
    (law setting 3 2 sub history from level cluster address met before old)

pub returns-clause-new : goal.returns-clause-new
returns-clause-new c = λ law setting sub from level cluster history address low met before next far.
    by_level (λ i. Costs setting sub history i cluster address (3 * (3 * radius i) + 3)
    → Costs setting sub history i cluster address (slice_index (12 ∷ 21 ∷ 39 ∷ []) i))
    (λ it. it) (λ it. it) (λ it. it) level low
    (subst (λ n. Costs setting sub history level cluster address (3 * (3 * radius level) + n)) far
    (law setting 3 2 sub history from level cluster address met before next))

pub returns-clause-passing : goal.returns-clause-passing
returns-clause-passing c = λ law setting sub from level cluster left history address low met passing two.
    by_level (λ i. Costs setting sub history i cluster address (3 * radius i + radius i + 2 * 2)
    → Costs setting sub history i cluster address (slice_index (8 ∷ 12 ∷ 20 ∷ []) i))
    (λ it. it) (λ it. it) (λ it. it) level low
    (subst (λ n. Costs setting sub history level cluster address (3 * radius level + radius level + 2 * n)) two
    (law setting 3 2 sub history from level cluster address left met passing))

pub returns-clause-after : goal.returns-clause-after
returns-clause-after c = λ law setting sub from level cluster history address low met settled far.
    by_level (λ i. Costs setting sub history i cluster address (3 * (3 * radius i) + radius i + 3)
    → Costs setting sub history i cluster address (slice_index (13 ∷ 23 ∷ 43 ∷ []) i))
    (λ it. it) (λ it. it) (λ it. it) level low
    (subst (λ n. Costs setting sub history level cluster address (3 * (3 * radius level) + radius level + n)) far
    (law setting 3 2 sub history from level cluster address met settled))

pub returns-clause-current : goal.returns-clause-current
returns-clause-current c = λ law setting sub from level cluster history address low met settled current.
    by_level (λ i. Costs setting sub history i cluster address (3 * radius i + radius i)
    → Costs setting sub history i cluster address (slice_index (4 ∷ 8 ∷ 16 ∷ []) i))
    (λ it. it) (λ it. it) (λ it. it) level low
    (law setting 3 2 sub history from level cluster address met settled current)

pub returns-clause-rest : goal.returns-clause-rest
returns-clause-rest c = λ law setting sub from level cluster history address low met rest.
    by_level (λ i. Costs setting sub history i cluster address (3 * radius i + radius i)
    → Costs setting sub history i cluster address (slice_index (4 ∷ 8 ∷ 16 ∷ []) i))
    (λ it. it) (λ it. it) (λ it. it) level low
    (law setting 3 2 sub history from level cluster address met rest)
