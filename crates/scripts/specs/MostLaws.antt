-- Laws of the most visits of a script, for proofs: no subscriber writes more than its calls have at
-- most, and no caller looks more.
-- Key laws: `steps-most`, `finds-most`.
use Rattle.std.proofs.Common.{ℕ, ◌≤◌, List, [], ◌∷◌, length, map, arith, length-append}
use Rattle.std.specs.Prelude.{All, sum_by}
use Rattle.std.proofs.lemmas.List.Sums.{sum_by-cons}
use Rattle.std.proofs.lemmas.List.Elements.{All-head, All-tail}
use Rattle.directory.specs.Settings.{Setting}
use Rattle.directory.specs.Courses.{Course, after_step}
use Rattle.directory.specs.Finds.{FindCall, most_looks}
use Rattle.directory.specs.Statements.{MovesAreShort}
use Rattle.directory.specs.Writes.{step_writes, writes}
use Rattle.net_reader.specs.declared.said.Call.{Call}
use Rattle.net_reader.specs.declared.said.Call.TheVariants as calls
use Rattle.net_reader.specs.Valid.{IsSearch}
use Rattle.scripts.specs.Scripts.{find_of, most_in, most_of, step_of}

-- a subscriber has no visits more than its calls have at most
pub step-most : MovesAreShort → (setting : Setting) (course : Course) (call : Call)
    → length (step_writes setting course (step_of call)) ≤ most_of setting call
step-most short setting course (calls.Move to) = short setting course to
step-most short setting course (calls.Find from sub) = omega arith
step-most short setting course calls.Off = omega arith
step-most short setting course calls.On = omega arith

-- nor in all steps of its script
pub steps-most : MovesAreShort → (setting : Setting) (course : Course) (script : List Call)
    → length (writes setting course (map step_of script)) ≤ most_in setting script
unfolding writes
steps-most short setting course [] = omega arith
steps-most short setting course (call ∷ script) =
    omega (
      arith,
      step-most short setting course call,
      steps-most short setting (after_step setting course (step_of call)) script,
      length-append (step_writes setting course (step_of call))
          (writes setting (after_step setting course (step_of call)) (map step_of script)),
      sum_by-cons (most_of setting) call script,
    )

-- nor a caller
pub finds-most : (setting : Setting) (n subs : ℕ) (script : List Call)
    → All (IsSearch n subs) script
    → sum_by (λ (call : FindCall). most_looks setting call.from) (map find_of script) ≤ most_in
    setting script
finds-most setting n subs [] all = omega arith
finds-most setting n subs (call ∷ script) all =
    omega (
      arith,
      at_call call (All-head (IsSearch n subs) call script all),
      finds-most setting n subs script (All-tail (IsSearch n subs) call script all),
      sum_by-cons (most_of setting) call script,
      sum_by-cons (λ (c : FindCall). most_looks setting c.from) (find_of call) (map find_of script),
    )
  where
    at_call : (c : Call) → IsSearch n subs c → most_looks setting (find_of c).from ≤ most_of setting
        c
    at_call (calls.Move to) its = absurd its
    at_call (calls.Find from sub) its = omega arith
    at_call calls.Off its = absurd its
    at_call calls.On its = absurd its
