-- The next line of the actors of tickets.
use Rattle.std.proofs.Common.{◌≡◌, ℕ, ◌<◌, Bool, List, [], ◌∷◌, length, refl, arith}
use Rattle.directory.specs.declared.answers.Done.{Done}
use Rattle.text_line.specs.OrderLines.{order_lines}
use Rattle.report_text.specs.Written.{lines_left}

no-calls : (calls : List Done) → length calls < 1 → calls ≡ []
no-calls [] h = refl
no-calls (c ∷ calls) h = absurd (omega arith)

-- where no call is left, the next line is that of the next actors
pub order-step : (left : List (List ℕ)) (calls : List Done) (order rest line : List ℕ) (visits : ℕ) (ended : Bool)
    → lines_left calls order visits ended ≡ left → length calls < 1 → order_lines order ≡ line ∷ order_lines rest
    → left ≡ line ∷ lines_left calls rest visits ended
order-step left calls order rest line visits ended is none step =
    grind (arith, no-calls)
