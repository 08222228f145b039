-- Laws of a caller's walk, for the proofs of the crates above: the find that it is at, and the walk
-- that begins the next one.
-- Key laws: `walking` (a walk that is kept is that of the first find that is left), `read-on` (what
-- a word more leaves), `walk-at` (the walk of the find at a place of a script).
use Rattle.std.proofs.Common.{◌≡◌, ℕ, zero, suc, ◌<◌, false, List, [], ◌∷◌, length, map, drop, get_or, refl, sym, ap, ◌∙◌, subst, arith, drop-cons, Option}
use Rattle.std.specs.Prelude.{All, Some, None, Result, Ok, Err, IfOk, nat_le, if◌then◌else◌}
use Rattle.std.specs.Result.{result_ok}
use Rattle.std.proofs.lemmas.Bool.Decides.{nat_tests}
use Rattle.std.proofs.lemmas.List.{get_or-map, length-map}
use Rattle.directory.specs.Settings.{Setting}
use Rattle.directory.specs.Finds.{FindCall, Pursuit, after_word, answer_of, at_origin}
use Rattle.directory.specs.Orders.{Caller as Seeker, after_read, read_by, with_pursuit}
use Rattle.directory.specs.declared.answers.Found.{Found}
use Rattle.net_reader.specs.declared.said.Call.{Call}
use Rattle.net_reader.specs.declared.said.Call.TheVariants as calls
use Rattle.net_reader.specs.Valid.{IsSearch}
use Rattle.region_plan.specs.Plan.{PlanData, nodes_of}
use Rattle.scripts.specs.Scripts.{find_of}
use Rattle.walk.specs.declared.progress.Progress.TheVariants.{AtOrigin}
use Rattle.walk.specs.declared.walk.WalkFault.{WalkFault}
use Rattle.walk.specs.declared.walk.WalkFault.TheVariants.{NoNode, NoSubscriber}
use Rattle.walk.specs.Walks.{IsWalkOver, WalkData, call_of, pursuit_of, walk_or_fault}
use Rattle.machine.specs.Stands.{IsWalking}

-- the walk of the find that a caller is at
pub record Walks (plan : PlanData) (calls : List FindCall) (pursuit : Pursuit) (walk : WalkData)
    : Type 0 where
  pub call : FindCall
  pub later : List FindCall
  pub calls_are : calls ≡ call ∷ later
  pub its : call_of walk ≡ call
  pub so_far : pursuit_of plan walk ≡ pursuit
  pub goes : IsWalkOver plan walk
  pub unanswered : answer_of pursuit ≡ None

pub walking : (plan : PlanData) (calls : List FindCall) (pursuit : Pursuit) (held : Option WalkData)
    (walk : WalkData)
    → held ≡ Some walk → IsWalking plan calls pursuit held → Walks plan calls pursuit walk
walking plan [] pursuit None walk same h = cc
walking plan (call ∷ later) pursuit None walk same h = cc
walking plan [] pursuit (Some other) walk same h = absurd h
walking plan (call ∷ later) pursuit (Some other) walk same h =
    let e : other ≡ walk = cc in
    record {
      call = call;
      later = later;
      calls_are = refl;
      its = subst (λ w. call_of w ≡ call) e h.0;
      so_far = subst (λ w. pursuit_of plan w ≡ pursuit) e h.1;
      goes = subst (IsWalkOver plan) e h.2;
      unanswered = h.3;
    }

-- a caller that has read one word more
pub read-on : (setting : Setting) (seeker : Seeker) (call : FindCall) (later : List FindCall)
    (word : ℕ)
    (answer : Option Found) → seeker.calls ≡ call ∷ later
    → answer_of (after_word setting call seeker.pursuit word) ≡ answer
    → after_read setting seeker word
    ≡ with_pursuit seeker call later (after_word setting call seeker.pursuit word) answer
read-on setting seeker call later word answer same ends =
    ap (λ cs. read_by setting seeker cs word) same
    ∙ ap (with_pursuit seeker call later (after_word setting call seeker.pursuit word)) ends

-- the calls that are left are the last of the script
pub drop-more : {A : Type 0} (n : ℕ) (xs : List A) (x : A) (later : List A) → x ∷ later ≡ drop n xs
    → (n < length xs) × (later ≡ drop (suc n) xs) × ((d : A) → get_or xs n d ≡ x)
drop-more zero [] x later h = cc
drop-more (suc n) [] x later h = cc
drop-more zero (y ∷ ys) x later h =
    let e : x ≡ y = cc in let f : later ≡ ys = cc in (omega arith, f, λ d. sym e)
drop-more (suc n) (y ∷ ys) x later h =
    let deep = drop-more n ys x later h in (omega (arith, deep.0), deep.1, deep.2)

-- the walk of the find at a place of a script
pub walk-at : (plan : PlanData) (script : List Call) (place count from sub : ℕ)
    (made : Result WalkData WalkFault)
    (held : Option WalkData) → place < length script
    → ((d : Call) → calls.Find from sub ≡ get_or script place d)
    → All (IsSearch (nodes_of plan) count) script → made ≡ walk_or_fault plan from sub count
    → IfOk made (IsWalkOver plan) → held ≡ result_ok made
    → IsWalking plan (drop place (map find_of script)) at_origin held
walk-at plan script place count from sub made held low here searches answer goes same =
    let its : IsSearch (nodes_of plan) count (calls.Find from sub) =
    subst (IsSearch (nodes_of plan) count) (sym (here (calls.Find from sub)))
    (searches place (calls.Find from sub) low) in
    let inside : nat_le (nodes_of plan) from ≡ false = grind (arith, nat_tests, its.0) in
    let known : nat_le count sub ≡ false = grind (arith, nat_tests, its.1) in
    let fine : made ≡ Ok (record { from = from; sub = sub; progress = AtOrigin }) = answer
    ∙ (ap (λ b. if b then Err NoNode else if nat_le count sub then Err NoSubscriber
    else Ok (record { from = from; sub = sub; progress = AtOrigin })) inside
    ∙ ap (λ b. if b then Err NoSubscriber else Ok (record
    { from = from; sub = sub; progress = AtOrigin })) known) in
    let there : drop place (map find_of script)
    ≡ (record { from = from; sub = sub }) ∷ drop (suc place) (map find_of script) =
    drop-cons (map find_of script) place (record { from = from; sub = sub })
    (omega (arith, low, length-map script find_of))
    ∙ ap (λ x. x ∷ drop (suc place) (map find_of script))
    (get_or-map find_of script place (calls.Find from sub) (record { from = from; sub = sub }) low
    ∙ ap find_of (sym (here (calls.Find from sub)))) in
    let goes_on : IsWalkOver plan (record { from = from; sub = sub; progress = AtOrigin }) =
    subst (λ r. IfOk r (IsWalkOver plan)) fine goes in
    let is_held : held ≡ Some (record { from = from; sub = sub; progress = AtOrigin }) = same
    ∙ ap result_ok fine in
    subst (λ cs. IsWalking plan cs at_origin held) (sym there)
    (subst (IsWalking plan (record { from = from; sub = sub } ∷ drop (suc place)
    (map find_of script)) at_origin)
    (sym is_held)
    (refl, refl, goes_on, refl))
