use Rattle.std.proofs.Common.{◌≡◌, ℕ, ◌+◌, ◌*◌, arith}
use Rattle.std.proofs.Math.Nat.{le_antisymm}
use Rattle.visit_log.proofs.routes.Routes.push_node.Goals as goal

all-levels : (node : ℕ) {level levels : ℕ} → level ≡ levels → node * levels + level ≡ (node + 1) * levels
all-levels node all = omega (arith, all)

pub returns : goal.returns
returns c = grind (arith, all-levels, le_antisymm)
