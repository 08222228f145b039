-- One step of the loop over the lines of calls.
use Rattle.std.proofs.Common.{refl, ◌≡◌, ℕ, ◌+◌, ◌<◌, ◌≤◌, Bool, true, cond, eqb, not, map, List, ◌∷◌, length, drop, get_or, Option, Some, None, ap, sym, ◌∙◌, arith, add-one}
use Rattle.std.proofs.lemmas.List.{drop_more, drop_all, get_or-map, length-map}
use Rattle.std.specs.List.{list_all}
use Rattle.directory.specs.declared.answers.Done.{Done}
use Rattle.net_reader.specs.declared.said.Call.{Call}
use Rattle.region_plan.specs.Plan.{PlanData}
use Rattle.report_check.specs.declared.calls.Line.{Line}
use Rattle.report_check.specs.declared.verdict.Flaw.{Flaw}
use Rattle.report_check.specs.declared.verdict.Flaw.TheVariants as flaws
use Rattle.report_check.specs.declared.verdict.Verdict.{Verdict}
use Rattle.report_check.specs.declared.verdict.Verdict.TheVariants.{Sound, Unsound}
use Rattle.report_check.specs.ReadLines.{done_of}
use Rattle.directory.specs.CallLines.{actor_of}
use Rattle.report_check.specs.Parts.{end_of}
use Rattle.report_check.specs.Verdicts.{flaw_of, has_call, is_first_last, is_last, is_last_at, line_behind, strangers, verdict_from}

pub last-none : (lines : List Line) (i : ℕ) (d : Line) → i + 1 ≡ length lines
    → true ≡ is_last_at (map done_of lines) i
last-none lines i d whole =
    let count : length (map done_of lines) ≡ length lines = length-map lines done_of in
    sym (ap is_first_last (drop_more (map done_of lines) i (done_of d) (omega (arith, whole, count)))
    ∙ ap (is_last (get_or (map done_of lines) i (done_of d)))
    (drop_all (i + 1) (map done_of lines) (omega (arith, whole, count))))

pub last-next : (lines : List Line) (i : ℕ) (d : Line) {a b : ℕ} → i < length lines → (i + 1 ≡ length lines → ⊥)
    → a ≡ actor_of (done_of (get_or lines (i + 1) d)) → b ≡ actor_of (done_of (get_or lines i d))
    → not (eqb a b) ≡ is_last_at (map done_of lines) i
last-next lines i d low inside is was =
    let count : length (map done_of lines) ≡ length lines = length-map lines done_of in
    let more : i + 1 < length lines = omega (arith, low, inside) in
    rw (
      is,
      was,
      drop_more (map done_of lines) i (done_of d) (omega (arith, low, count)),
      drop_more (map done_of lines) (i + 1) (done_of d) (omega (arith, more, count)),
      get_or-map done_of lines (i + 1) d (done_of d) more,
      get_or-map done_of lines i d (done_of d) low,
    ) refl

pub line-bad : (plan : PlanData) (homes : List ℕ) (scripts : List (List Call)) (calls : List Done) (order : List ℕ)
    (i : ℕ) (d : Done) (before : Option ℕ) {cause : Flaw} → i < length calls
    → flaw_of plan homes calls order before (is_last_at calls i) (get_or calls i d) ≡ Some cause
    → verdict_from plan homes scripts (record { calls = calls; order = order }) i before (drop i calls) ≡ Unsound
    (line_behind i) cause
unfolding verdict_from
line-bad plan homes scripts calls order i d before low e =
    let cut : drop i calls ≡ get_or calls i d ∷ drop (i + 1) calls = drop_more calls i d low in
    rw (cut, rw cut at e) refl

pub line-good : (plan : PlanData) (homes : List ℕ) (scripts : List (List Call)) (calls : List Done) (order : List ℕ)
    (i : ℕ) (d : Done) (before : Option ℕ) → i < length calls
    → flaw_of plan homes calls order before (is_last_at calls i) (get_or calls i d) ≡ None
    → verdict_from plan homes scripts (record { calls = calls; order = order }) i before (drop i calls)
    ≡ verdict_from plan homes scripts (record { calls = calls; order = order }) (i + 1)
    (cond (is_last_at calls i) None (Some (end_of (get_or calls i d)))) (drop (i + 1) calls)
unfolding verdict_from
line-good plan homes scripts calls order i d before low e =
    let cut : drop i calls ≡ get_or calls i d ∷ drop (i + 1) calls = drop_more calls i d low in
    rw (cut, rw cut at e, add-one i) refl

pub lines-done : (plan : PlanData) (homes : List ℕ) (scripts : List (List Call)) (calls : List Done) (order : List ℕ)
    {i : ℕ} (before : Option ℕ) {n : ℕ} → length calls ≤ i → i ≡ n
    → verdict_from plan homes scripts (record { calls = calls; order = order }) i before (drop i calls) ≡ strangers
    scripts order n
unfolding verdict_from
lines-done plan homes scripts calls order {i} before high same =
    rw (drop_all i calls high, same) refl

pub called : (scripts : List (List Call)) (order : List ℕ) (lines : ℕ) {b : Bool}
    → b ≡ list_all (has_call scripts) order → strangers scripts order lines ≡ cond b Sound
    (Unsound (line_behind lines) flaws.Tickets)
called scripts order lines e =
    ap (λ t. cond t Sound (Unsound (line_behind lines) flaws.Tickets)) (sym e)

pub judge-bad : (plan : PlanData) (homes : List ℕ) (scripts : List (List Call)) (lines : List Line) (order : List ℕ)
    (i : ℕ) (d : Line) (before : Option ℕ) {last : Bool} {cause : Flaw} {line : ℕ} {whole : Verdict} → i < length lines
    → last ≡ is_last_at (map done_of lines) i → Some cause ≡ flaw_of plan homes (map done_of lines) order before last
    (done_of (get_or lines i d)) → line ≡ line_behind i
    → verdict_from plan homes scripts (record { calls = map done_of lines; order = order }) i before
    (drop i (map done_of lines)) ≡ whole → Unsound line cause ≡ whole
judge-bad plan homes scripts lines order i d before {last} {cause} low ends broken at same =
    let calls : List Done = map done_of lines in
    let this : get_or calls i (done_of d) ≡ done_of (get_or lines i d) = get_or-map done_of lines i d (done_of d) low in
    let flaw : flaw_of plan homes calls order before (is_last_at calls i) (get_or calls i (done_of d)) ≡ Some cause =
    ap (λ b. flaw_of plan homes calls order before b (get_or calls i (done_of d))) (sym ends)
    ∙ ap (λ c. flaw_of plan homes calls order before last c) this ∙ sym broken in
    ap (λ l. Unsound l cause) at
    ∙ sym (line-bad plan homes scripts calls order i (done_of d) before (omega (arith, low, length-map lines done_of))
    flaw)
    ∙ same

pub judge-good : (plan : PlanData) (homes : List ℕ) (scripts : List (List Call)) (lines : List Line) (order : List ℕ)
    (i : ℕ) (d : Line) (before : Option ℕ) {now : Option ℕ} {last : Bool} {whole : Verdict} → i < length lines
    → last ≡ is_last_at (map done_of lines) i → None ≡ flaw_of plan homes (map done_of lines) order before last
    (done_of (get_or lines i d)) → now ≡ cond last None (Some (end_of (done_of (get_or lines i d))))
    → verdict_from plan homes scripts (record { calls = map done_of lines; order = order }) i before
    (drop i (map done_of lines)) ≡ whole
    → verdict_from plan homes scripts (record { calls = map done_of lines; order = order }) (i + 1) now
    (drop (i + 1) (map done_of lines)) ≡ whole
judge-good plan homes scripts lines order i d before {now} {last} low ends fine is same =
    let calls : List Done = map done_of lines in
    let this : get_or calls i (done_of d) ≡ done_of (get_or lines i d) = get_or-map done_of lines i d (done_of d) low in
    let none : flaw_of plan homes calls order before (is_last_at calls i) (get_or calls i (done_of d)) ≡ None =
    ap (λ b. flaw_of plan homes calls order before b (get_or calls i (done_of d))) (sym ends)
    ∙ ap (λ c. flaw_of plan homes calls order before last c) this ∙ sym fine in
    let later : now ≡ cond (is_last_at calls i) None (Some (end_of (get_or calls i (done_of d)))) =
    rw (this, ← ends) is in
    ap (λ b. verdict_from plan homes scripts (record { calls = calls; order = order }) (i + 1) b (drop (i + 1) calls))
    later
    ∙ sym (line-good plan homes scripts calls order i (done_of d) before
    (omega (arith, low, length-map lines done_of)) none)
    ∙ same

pub judge-done : (plan : PlanData) (homes : List ℕ) (scripts : List (List Call)) (lines : List Line) (order : List ℕ)
    (i : ℕ) (before : Option ℕ) {all : Bool} {whole : Verdict} → length lines ≤ i → i ≤ length lines
    → all ≡ list_all (has_call scripts) order
    → verdict_from plan homes scripts (record { calls = map done_of lines; order = order }) i before
    (drop i (map done_of lines)) ≡ whole → cond all Sound (Unsound (line_behind (length lines)) flaws.Tickets) ≡ whole
judge-done plan homes scripts lines order i before high low is same =
    let at : i ≡ length lines = omega (arith, high, low) in
    sym (called scripts order (length lines) is)
    ∙ sym (lines-done plan homes scripts (map done_of lines) order before
    (omega (arith, high, length-map lines done_of)) at)
    ∙ same
