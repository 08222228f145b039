-- What a fault makes of the count of faults.
use Rattle.std.proofs.Common.{◌≡◌, ◌≤◌, ℕ, arith}
use Rattle.outside.specs.Calls.{one_more, HasFaulted}

-- one more, up to the type's end, is a rise
pub fault-rises : (before now : ℕ) → before ≤ 18446744073709551615 → now ≡ one_more before
    → (before ≤ now) × HasFaulted before now × (now ≡ one_more before)
fault-rises before now within more = grind arith
