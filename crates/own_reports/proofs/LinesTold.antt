-- The lines of an outcome are those of the input's calls.
use Rattle.std.proofs.Common.{◌≡◌, ℕ, suc, ◌+◌, ◌<◌, Bool, true, false, List, [], ◌∷◌, ◌++◌, length, take, drop, map, get_or, refl, ap, sym, ◌∙◌, arith, subst, append_assoc, append-nil, length-append}
use Rattle.std.specs.Prelude.{All, flat_map, slice_index}
use Rattle.std.proofs.lemmas.List.{get_or-drop, get_or-take, length-drop, length-map, length-take, take-append-drop}
use Rattle.std.proofs.lemmas.List.Elements.{All-head, All-tail}
use Rattle.std.proofs.lemmas.List.Sums.{fold-append}
use Rattle.directory.specs.Settings.{Setting, start, subs}
use Rattle.directory.specs.Courses.{Course, Move, after_step, course_at, last_stop, move_to, next_move, switch_off, switch_on}
use Rattle.directory.specs.Finds.{FindCall}
use Rattle.directory.specs.Histories.{History, tickets}
use Rattle.directory.specs.Orders.{Answer, Caller as Seeker, Scripts, caller_in}
use Rattle.directory.specs.Outcomes.{answer_line, caller_lines, found_line, outcome_in, step_line, step_lines, sub_lines}
use Rattle.directory.specs.Looks.{first_of}
use Rattle.directory.specs.Writes.{numbers_from, step_writes}
use Rattle.directory.specs.declared.answers.Done.{Done}
use Rattle.directory.specs.declared.answers.Done.TheVariants.{Moved, Switched}
use Rattle.directory.specs.declared.answers.Found.{Found}
use Rattle.directory.specs.declared.answers.Found.TheVariants.{At, Off as OffAt, Again}
use Rattle.net_reader.specs.declared.said.Call.{Call}
use Rattle.net_reader.specs.declared.said.Call.TheVariants as said
use Rattle.net_reader.specs.Input.{Contents}
use Rattle.net_reader.specs.Valid.{IsCourse, IsSearch, IsValid}
use Rattle.scripts.specs.ScriptLaws.{finds-are, steps-are}
use Rattle.scripts.specs.Scripts.{find_of, scripts_of, step_of}
use Rattle.soundness.specs.Lines.{AreLinesFrom, AreLinesOf, IsFindBy}
use Rattle.own_reports.proofs.Cuts.{IsOver}
use Rattle.own_reports.proofs.FindRuns.{calling-in, finds-over}

two-same : {A : Type 0} (make : ℕ → ℕ → A) {p q u v : ℕ} → p ≡ q → u ≡ v → make p u ≡ make q v
two-same make a b = cc

-- a subscriber's lines are those of its script
step-lines-are : (setting : Setting) (sub : ℕ) (course : Course) (script : List Call) (seen : List ℕ)
    (format n here : ℕ) (off : Bool) (place number : ℕ) → last_stop course ≡ place → length course.moves ≡ number
    → IsCourse format n here off script
    → AreLinesOf sub place number script (step_lines setting sub course (map step_of script) seen)
unfolding step_lines
step-lines-are setting sub course [] seen format n here off place number at count is = refl
step-lines-are setting sub course (said.Move to ∷ script) seen format n here off place number at count is =
    let move : Move = next_move setting course to in
    let run : List ℕ = take (length (step_writes setting course (move_to to))) seen in
    let line : Done = step_line setting sub course (move_to to) run in (
      line,
      step_lines setting sub (after_step setting course (move_to to)) (map step_of script)
          (drop (length (step_writes setting course (move_to to))) seen),
      refl,
      moved line move.weight _ _ _ refl,
      step-lines-are setting sub (after_step setting course (move_to to)) script _ format n to off to (suc number)
          (fold-append (λ node (m : Move). m.to) course.start course.moves (move ∷ []))
          (length-append course.moves (move ∷ []) ∙ omega (arith, count)) is.3,
    )
  where
    moved : (line : Done) (weight first commit last : ℕ)
        → line ≡ Moved sub (suc (length course.moves)) (last_stop course) to weight first commit last
        → (w f c l : ℕ) × (line ≡ Moved sub (suc number) place to w f c l)
    moved line weight first commit last e = (
      weight,
      first,
      commit,
      last,
      e ∙ two-same (λ q u. Moved sub q u to weight first commit last) (ap suc count) at,
    )
step-lines-are setting sub course (said.Find from other ∷ script) seen format n here off place number at count is =
    absurd is
step-lines-are setting sub course (said.Off ∷ script) seen format n here off place number at count is =
    let run : List ℕ = take (length (step_writes setting course switch_off)) seen in (
      step_line setting sub course switch_off run,
      step_lines setting sub (after_step setting course switch_off) (map step_of script)
          (drop (length (step_writes setting course switch_off)) seen),
      refl,
      (first_of run, two-same (λ q u. Switched sub true u q (first_of run)) count at),
      step-lines-are setting sub (after_step setting course switch_off) script _ format n here true place number at
          count is.2,
    )
step-lines-are setting sub course (said.On ∷ script) seen format n here off place number at count is =
    let run : List ℕ = take (length (step_writes setting course switch_on)) seen in (
      step_line setting sub course switch_on run,
      step_lines setting sub (after_step setting course switch_on) (map step_of script)
          (drop (length (step_writes setting course switch_on)) seen),
      refl,
      (first_of run, two-same (λ q u. Switched sub false u q (first_of run)) count at),
      step-lines-are setting sub (after_step setting course switch_on) script _ format n here false place number at
          count is.2,
    )

-- a caller's lines are those of its script
found-is : (caller from sub : ℕ) (call : FindCall) (found : Found) (first last : ℕ) → call.from ≡ from
    → call.sub ≡ sub → IsFindBy caller from sub (found_line caller call found first last)
found-is caller from sub call (At node number level weight) first last one two = (refl, one, two)
found-is caller from sub call (OffAt node number level weight) first last one two = (refl, one, two)
found-is caller from sub call (Again why weight) first last one two = (refl, one, two)

find-lines-are : (caller place number n count : ℕ) (seen : List ℕ) (answers : List Answer) (script : List Call)
    → map (λ (answer : Answer). answer.call) answers ≡ map find_of script → All (IsSearch n count) script
    → AreLinesOf caller place number script (map (answer_line caller seen) answers)
find-lines-are caller place number n count seen [] [] same search_all = refl
find-lines-are caller place number n count seen [] (call ∷ script) same search_all = absurd cc
find-lines-are caller place number n count seen (answer ∷ answers) [] same search_all = absurd cc
find-lines-are caller place number n count seen (answer ∷ answers) (said.Move to ∷ script) same search_all =
    absurd (All-head (IsSearch n count) (said.Move to) script search_all)
find-lines-are caller place number n count seen (answer ∷ answers) (said.Off ∷ script) same search_all =
    absurd (All-head (IsSearch n count) said.Off script search_all)
find-lines-are caller place number n count seen (answer ∷ answers) (said.On ∷ script) same search_all =
    absurd (All-head (IsSearch n count) said.On script search_all)
find-lines-are caller place number n count seen (answer ∷ answers) (said.Find from sub ∷ script) same search_all =
    let here : answer.call ≡ record { from = from; sub = sub } = cc in
    let rest : map (λ (a : Answer). a.call) answers ≡ map find_of script = cc in (
      answer_line caller seen answer,
      map (answer_line caller seen) answers,
      refl,
      found-is caller from sub answer.call answer.found (slice_index seen answer.first)
          (slice_index seen answer.last) (ap (λ (c : FindCall). c.from) here) (ap (λ (c : FindCall). c.sub) here),
      find-lines-are caller place number n count seen answers script rest
          (All-tail (IsSearch n count) (said.Find from sub) script search_all),
    )

-- ---- all of them

-- the lines of actors are those of their scripts
rows-are : (homes : List ℕ) (lines : ℕ → List Done) (from : ℕ) (scripts : List (List Call))
    → ((i : ℕ) → i < length scripts
    → AreLinesOf (from + i) (slice_index homes (from + i)) 0 (get_or scripts i []) (lines (from + i)))
    → AreLinesFrom homes from scripts (flat_map lines (numbers_from from (length scripts)))
rows-are homes lines from [] each = refl
rows-are homes lines from (script ∷ scripts) each =
    let first : from + 0 ≡ from = omega arith in (
      lines from,
      flat_map lines (numbers_from (suc from) (length scripts)),
      refl,
      subst (λ k. AreLinesOf k (slice_index homes k) 0 script (lines k)) first (each 0 (omega arith)),
      rows-are homes lines (suc from) scripts (λ i low.
          subst (λ k. AreLinesOf k (slice_index homes k) 0 (get_or scripts i []) (lines k))
          (let z : from + suc i ≡ suc from + i = omega arith in z) (each (suc i) (omega (arith, low)))),
    )

-- lines of some scripts, and of others that come after them
lines-join : (homes : List ℕ) (from : ℕ) (xs ys : List (List Call)) (front back : List Done)
    → AreLinesFrom homes from xs front → AreLinesFrom homes (from + length xs) ys back
    → AreLinesFrom homes from (xs ++ ys) (front ++ back)
lines-join homes from [] ys front back one two =
    subst (λ (ls : List Done). AreLinesFrom homes from ys (ls ++ back)) (sym one)
    (subst (λ k. AreLinesFrom homes k ys back) (let z : from + 0 ≡ from = omega arith in z) two)
lines-join homes from (script ∷ xs) ys front back one two = (
  one.0,
  one.1 ++ back,
  ap (λ (ls : List Done). ls ++ back) one.2 ∙ append_assoc one.0 one.1 back,
  one.3,
  lines-join homes (suc from) xs ys one.1 back one.4
      (subst (λ k. AreLinesFrom homes k ys back)
      (let z : from + suc (length xs) ≡ suc from + length xs = omega arith in z) two),
)

-- the lines of an outcome are those of the input's calls
pub outcome-lines : (contents : Contents) (setting : Setting) (history : History) → IsValid contents
    → setting.starts ≡ contents.homes → IsOver setting (scripts_of contents) history
    → AreLinesFrom contents.homes 0 contents.scripts (outcome_in setting (scripts_of contents) history).calls
outcome-lines contents setting history valid same over =
    let scripts : Scripts = scripts_of contents in
    let homes : List ℕ = contents.homes in
    let count : subs setting ≡ length homes = ap length same in
    let mine : List (List Call) = take (length homes) contents.scripts in
    let theirs : List (List Call) = drop (length homes) contents.scripts in
    let short : length mine ≡ length homes =
    omega (arith, length-take (length homes) contents.scripts, valid.scripts) in
    let finders : length scripts.finds ≡ length theirs = length-map theirs (map find_of) in
    let movers : AreLinesFrom homes 0 mine
    (flat_map (sub_lines setting scripts history) (numbers_from 0 (subs setting))) =
    subst (λ k. AreLinesFrom homes 0 mine (flat_map (sub_lines setting scripts history) (numbers_from 0 k)))
    (short ∙ sym count)
    (rows-are homes (sub_lines setting scripts history) 0 mine (λ i low.
    subst (λ k. AreLinesOf k (slice_index homes k) 0 (get_or mine i []) (sub_lines setting scripts history k))
    (let z : i ≡ 0 + i = omega arith in z) (of-sub i (omega (arith, low, short))))) in
    let seekers : AreLinesFrom homes (0 + length mine) theirs
    (flat_map (caller_lines setting scripts history) (numbers_from (subs setting) (length scripts.finds))) =
    subst (λ k. AreLinesFrom homes k theirs
    (flat_map (caller_lines setting scripts history) (numbers_from (subs setting) (length scripts.finds))))
    (let z : length homes ≡ 0 + length mine = omega (arith, short) in z)
    (subst (λ k. AreLinesFrom homes (length homes) theirs
    (flat_map (caller_lines setting scripts history) (numbers_from k (length scripts.finds)))) (sym count)
    (subst (λ n. AreLinesFrom homes (length homes) theirs
    (flat_map (caller_lines setting scripts history) (numbers_from (length homes) n))) (sym finders)
    (rows-are homes (caller_lines setting scripts history) (length homes) theirs (λ i low.
    of-caller i (omega (arith, low, length-drop (length homes) contents.scripts)))))) in
    subst (λ all. AreLinesFrom homes 0 all (outcome_in setting scripts history).calls)
    (take-append-drop (length homes) contents.scripts)
    (lines-join homes 0 mine theirs
    (flat_map (sub_lines setting scripts history) (numbers_from 0 (subs setting)))
    (flat_map (caller_lines setting scripts history) (numbers_from (subs setting) (length scripts.finds)))
    movers seekers)
  where
    of-sub : (sub : ℕ) → sub < length contents.homes
        → AreLinesOf sub (slice_index contents.homes sub) 0
        (get_or (take (length contents.homes) contents.scripts) sub [])
        (sub_lines setting (scripts_of contents) history sub)
    of-sub sub low =
        let script : List Call = get_or contents.scripts sub [] in
        let home : start setting sub ≡ slice_index contents.homes sub = ap (λ (hs : List ℕ). slice_index hs sub) same in
        subst (λ (s : List Call). AreLinesOf sub (slice_index contents.homes sub) 0 s
        (sub_lines setting (scripts_of contents) history sub))
        (sym (get_or-take (length contents.homes) contents.scripts sub [] low))
        (subst (λ steps. AreLinesOf sub (slice_index contents.homes sub) 0 script
        (step_lines setting sub (course_at (start setting sub)) steps (tickets sub history)))
        (sym (steps-are contents sub valid low))
        (step-lines-are setting sub (course_at (start setting sub)) script (tickets sub history) contents.format
        contents.nodes (slice_index contents.homes sub) false (slice_index contents.homes sub) 0 home refl
        (valid.courses sub low)))

    of-caller : (i : ℕ) → length contents.homes + i < length contents.scripts
        → AreLinesOf (length contents.homes + i) (slice_index contents.homes (length contents.homes + i)) 0
        (get_or (drop (length contents.homes) contents.scripts) i [])
        (caller_lines setting (scripts_of contents) history (length contents.homes + i))
    of-caller i low =
        let actor : ℕ = length contents.homes + i in
        let script : List Call = get_or contents.scripts actor [] in
        let caller : Seeker = caller_in setting (scripts_of contents) history actor in
        let calling = calling-in setting (scripts_of contents) history actor in
        let no_more : caller.calls ≡ [] =
        finds-over setting (scripts_of contents) history actor (omega (arith, ap length same)) (over.done actor) in
        let made : map (λ (answer : Answer). answer.call) caller.answers ≡ map find_of script =
        sym (ap (λ (cs : List FindCall). map (λ (answer : Answer). answer.call) caller.answers ++ cs) no_more
        ∙ append-nil (map (λ (answer : Answer). answer.call) caller.answers))
        ∙ calling.finds_are ∙ finds-are contents setting actor same (omega arith) low in
        subst (λ (s : List Call). AreLinesOf actor (slice_index contents.homes actor) 0 s
        (caller_lines setting (scripts_of contents) history actor))
        (sym (get_or-drop (length contents.homes) contents.scripts i []))
        (find-lines-are actor (slice_index contents.homes actor) 0 contents.nodes (length contents.homes)
        (tickets actor history) caller.answers script made (valid.searches actor (omega arith) low))
