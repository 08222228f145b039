-- The calls of an outcome have the slots of the input.
use Rattle.std.proofs.Common.{◌≡◌, ℕ, suc, ◌+◌, ◌<◌, Bool, true, false, List, [], ◌∷◌, ◌++◌, length, take, drop, map, get_or, refl, ap, ap₂, sym, ◌∙◌, arith, subst, append_assoc, append-nil, length-append}
use Rattle.std.specs.Prelude.{All, flat_map, slice_index}
use Rattle.std.proofs.lemmas.List.{get_or-drop, get_or-take, length-drop, length-map, length-take, map-append, take-append-drop}
use Rattle.std.proofs.lemmas.List.Elements.{All-head, All-tail}
use Rattle.std.proofs.lemmas.List.Sums.{fold-append}
use Rattle.directory.specs.Settings.{Setting, start, subs}
use Rattle.directory.specs.Courses.{Course, Move, after_step, course_at, last_stop, move_to, next_move, switch_off, switch_on}
use Rattle.directory.specs.Finds.{FindCall}
use Rattle.directory.specs.Histories.{History, tickets}
use Rattle.directory.specs.Orders.{Answer, Caller as Seeker, Scripts, caller_in}
use Rattle.directory.specs.Outcomes.{answer_line, caller_lines, found_line, outcome_in, step_lines, sub_lines}
use Rattle.directory.specs.Writes.{numbers_from}
use Rattle.directory.specs.declared.answers.Done.{Done}
use Rattle.directory.specs.declared.answers.Done.TheVariants.{Moved, Switched, Again as AgainBy}
use Rattle.directory.specs.declared.answers.Why.TheVariants.{NoEntry}
use Rattle.directory.specs.declared.answers.Found.{Found}
use Rattle.directory.specs.declared.answers.Found.TheVariants.{At}
use Rattle.net_reader.specs.declared.said.Call.{Call}
use Rattle.net_reader.specs.declared.said.Call.TheVariants as said
use Rattle.net_reader.specs.Input.{Contents}
use Rattle.net_reader.specs.Valid.{IsCourse, IsSearch, IsValid}
use Rattle.report_check.specs.Forms.{slot_told}
use Rattle.report_check.specs.Slots.{slots_for, slots_from, slots_in}
use Rattle.scripts.specs.ScriptLaws.{finds-are, steps-are}
use Rattle.scripts.specs.Scripts.{find_of, scripts_of, step_of}
use Rattle.own_reports.proofs.Cuts.{IsOver}
use Rattle.own_reports.proofs.FindRuns.{calling-in, finds-over}

made-same : {A : Type 0} (make : ℕ → ℕ → A) {p q u v : ℕ} {xs ys : List A} → p ≡ q → u ≡ v → xs ≡ ys
    → make p u ∷ xs ≡ make q v ∷ ys
made-same make a b c = cc

head-tail : {A : Type 0} {x y : A} {xs ys : List A} → x ≡ y → xs ≡ ys → x ∷ xs ≡ y ∷ ys
head-tail a b = cc

both-parts : {A : Type 0} {xs ys us vs : List A} → xs ≡ ys → us ≡ vs → xs ++ us ≡ ys ++ vs
both-parts a b = cc

-- a subscriber's lines have the slots of its script
step-slots : (setting : Setting) (sub : ℕ) (course : Course) (script : List Call) (seen : List ℕ)
    (format n here : ℕ) (off : Bool) (place number : ℕ) → last_stop course ≡ place → length course.moves ≡ number
    → IsCourse format n here off script
    → map slot_told (step_lines setting sub course (map step_of script) seen) ≡ slots_in sub place number script
unfolding step_lines slots_in
step-slots setting sub course [] seen format n here off place number at count is = refl
step-slots setting sub course (said.Move to ∷ script) seen format n here off place number at count is =
    let move : Move = next_move setting course to in
    made-same (λ q u. slot_told (Moved sub q u to 0 0 0 0)) (ap suc count) at
    (step-slots setting sub (after_step setting course (move_to to)) script _ format n to off to (suc number)
    (fold-append (λ node (m : Move). m.to) course.start course.moves (move ∷ []))
    (length-append course.moves (move ∷ []) ∙ omega (arith, count)) is.3)
step-slots setting sub course (said.Find from other ∷ script) seen format n here off place number at count is = absurd
    is
step-slots setting sub course (said.Off ∷ script) seen format n here off place number at count is =
    made-same (λ q u. slot_told (Switched sub true u q 0)) count at
    (step-slots setting sub (after_step setting course switch_off) script _ format n here true place number at count
    is.2)
step-slots setting sub course (said.On ∷ script) seen format n here off place number at count is =
    made-same (λ q u. slot_told (Switched sub false u q 0)) count at
    (step-slots setting sub (after_step setting course switch_on) script _ format n here false place number at count
    is.2)

-- a caller's lines have the slots of its script
found-slot : (caller : ℕ) (call : FindCall) (found : Found) (first last : ℕ)
    → slot_told (found_line caller call found first last)
    ≡ slot_told (AgainBy caller call.from call.sub NoEntry 0 0 0)
found-slot caller call (At node number level weight) first last = refl
found-slot caller call _ first last = refl

find-slots : (caller place number n count : ℕ) (seen : List ℕ) (answers : List Answer) (script : List Call)
    → map (λ (answer : Answer). answer.call) answers ≡ map find_of script → All (IsSearch n count) script
    → map slot_told (map (answer_line caller seen) answers) ≡ slots_in caller place number script
unfolding slots_in
find-slots caller place number n count seen [] [] same search_all = refl
find-slots caller place number n count seen [] (call ∷ script) same search_all = cc
find-slots caller place number n count seen (answer ∷ answers) [] same search_all = cc
find-slots caller place number n count seen (answer ∷ answers) (said.Move to ∷ script) same search_all =
    absurd (All-head (IsSearch n count) (said.Move to) script search_all)
find-slots caller place number n count seen (answer ∷ answers) (said.Off ∷ script) same search_all =
    absurd (All-head (IsSearch n count) said.Off script search_all)
find-slots caller place number n count seen (answer ∷ answers) (said.On ∷ script) same search_all =
    absurd (All-head (IsSearch n count) said.On script search_all)
find-slots caller place number n count seen (answer ∷ answers) (said.Find from sub ∷ script) same search_all =
    let here : answer.call ≡ record { from = from; sub = sub } = cc in
    let rest : map (λ (a : Answer). a.call) answers ≡ map find_of script = cc in
    head-tail
    (found-slot caller answer.call answer.found (slice_index seen answer.first) (slice_index seen answer.last)
    ∙ ap (λ (c : FindCall). slot_told (AgainBy caller c.from c.sub NoEntry 0 0 0)) here)
    (find-slots caller place number n count seen answers script rest
    (All-tail (IsSearch n count) (said.Find from sub) script search_all))

-- ---- all of them

slots-append : (homes : List ℕ) (from : ℕ) (xs ys : List (List Call))
    → slots_from homes from (xs ++ ys) ≡ slots_from homes from xs ++ slots_from homes (from + length xs) ys
unfolding slots_from
slots-append homes from [] ys = ap (λ k. slots_from homes k ys) (let z : from ≡ from + 0 = omega arith in z)
slots-append homes from (x ∷ xs) ys =
    ap (λ slots. slots_in from (slice_index homes from) 0 x ++ slots)
    (slots-append homes (suc from) xs ys
    ∙ ap (λ k. slots_from homes (suc from) xs ++ slots_from homes k ys)
    (let z : suc from + length xs ≡ from + suc (length xs) = omega arith in z))
    ∙ sym (append_assoc (slots_in from (slice_index homes from) 0 x) (slots_from homes (suc from) xs)
    (slots_from homes (from + suc (length xs)) ys))

-- the lines of actors have the slots of their scripts
rows-slots : (homes : List ℕ) (lines : ℕ → List Done) (from : ℕ) (scripts : List (List Call))
    → ((i : ℕ) → i < length scripts
    → map slot_told (lines (from + i)) ≡ slots_in (from + i) (slice_index homes (from + i)) 0 (get_or scripts i []))
    → map slot_told (flat_map lines (numbers_from from (length scripts))) ≡ slots_from homes from scripts
unfolding slots_from
rows-slots homes lines from [] each = refl
rows-slots homes lines from (script ∷ scripts) each =
    let first : from + 0 ≡ from = omega arith in
    map-append slot_told (lines from) (flat_map lines (numbers_from (suc from) (length scripts)))
    ∙ both-parts
    (subst (λ k. map slot_told (lines k) ≡ slots_in k (slice_index homes k) 0 script) first (each 0 (omega arith)))
    (rows-slots homes lines (suc from) scripts (λ i low.
    subst (λ k. map slot_told (lines k) ≡ slots_in k (slice_index homes k) 0 (get_or scripts i []))
    (let z : from + suc i ≡ suc from + i = omega arith in z) (each (suc i) (omega (arith, low)))))

-- the calls of an outcome have the slots of the input
pub outcome-slots : (contents : Contents) (setting : Setting) (history : History) → IsValid contents
    → setting.starts ≡ contents.homes → IsOver setting (scripts_of contents) history
    → map slot_told (outcome_in setting (scripts_of contents) history).calls ≡ slots_for contents
outcome-slots contents setting history valid same over =
    let scripts : Scripts = scripts_of contents in
    let homes : List ℕ = contents.homes in
    let count : subs setting ≡ length homes = ap length same in
    let mine : List (List Call) = take (length homes) contents.scripts in
    let theirs : List (List Call) = drop (length homes) contents.scripts in
    let short : length mine ≡ length homes =
    omega (arith, length-take (length homes) contents.scripts, valid.scripts) in
    let finders : length scripts.finds ≡ length theirs = length-map theirs (map find_of) in
    let movers : map slot_told (flat_map (sub_lines setting scripts history) (numbers_from 0 (length mine)))
    ≡ slots_from homes 0 mine =
    rows-slots homes (sub_lines setting scripts history) 0 mine (λ i low.
    subst (λ k. map slot_told (sub_lines setting scripts history k)
    ≡ slots_in k (slice_index homes k) 0 (get_or mine i []))
    (let z : i ≡ 0 + i = omega arith in z) (of-sub i (omega (arith, low, short)))) in
    let seekers : map slot_told (flat_map (caller_lines setting scripts history)
    (numbers_from (length homes) (length theirs))) ≡ slots_from homes (length homes) theirs =
    rows-slots homes (caller_lines setting scripts history) (length homes) theirs (λ i low.
    of-caller i (omega (arith, low, length-drop (length homes) contents.scripts))) in
    map-append slot_told (flat_map (sub_lines setting scripts history) (numbers_from 0 (subs setting))) _
    ∙ both-parts
    (ap (λ k. map slot_told (flat_map (sub_lines setting scripts history) (numbers_from 0 k))) (count ∙ sym short)
    ∙ movers)
    (ap₂ (λ k n. map slot_told (flat_map (caller_lines setting scripts history) (numbers_from k n))) count finders
    ∙ seekers)
    ∙ ap (λ k. slots_from homes 0 mine ++ slots_from homes k theirs)
    (let z : length homes ≡ 0 + length mine = omega (arith, short) in z)
    ∙ sym (slots-append homes 0 mine theirs)
    ∙ ap (slots_from homes 0) (take-append-drop (length homes) contents.scripts)
  where
    of-sub : (sub : ℕ) → sub < length contents.homes
        → map slot_told (sub_lines setting (scripts_of contents) history sub)
        ≡ slots_in sub (slice_index contents.homes sub) 0 (get_or (take (length contents.homes) contents.scripts) sub
        [])
    of-sub sub low =
        let script : List Call = get_or contents.scripts sub [] in
        let home : start setting sub ≡ slice_index contents.homes sub = ap (λ (hs : List ℕ). slice_index hs sub) same in
        ap (λ steps. map slot_told (step_lines setting sub (course_at (start setting sub)) steps (tickets sub history)))
        (steps-are contents sub valid low)
        ∙ step-slots setting sub (course_at (start setting sub)) script (tickets sub history) contents.format
        contents.nodes (slice_index contents.homes sub) false (slice_index contents.homes sub) 0 home refl
        (valid.courses sub low)
        ∙ ap (slots_in sub (slice_index contents.homes sub) 0)
        (sym (get_or-take (length contents.homes) contents.scripts sub [] low))

    of-caller : (i : ℕ) → length contents.homes + i < length contents.scripts
        → map slot_told (caller_lines setting (scripts_of contents) history (length contents.homes + i))
        ≡ slots_in (length contents.homes + i) (slice_index contents.homes (length contents.homes + i)) 0
        (get_or (drop (length contents.homes) contents.scripts) i [])
    of-caller i low =
        let actor : ℕ = length contents.homes + i in
        let script : List Call = get_or contents.scripts actor [] in
        let caller : Seeker = caller_in setting (scripts_of contents) history actor in
        let calling = calling-in setting (scripts_of contents) history actor in
        let no_more : caller.calls ≡ [] =
        finds-over setting (scripts_of contents) history actor (omega (arith, ap length same)) (over.done actor) in
        let made : map (λ (answer : Answer). answer.call) caller.answers ≡ map find_of script =
        sym (ap (λ (cs : List FindCall). map (λ (answer : Answer). answer.call) caller.answers ++ cs) no_more
        ∙ append-nil (map (λ (answer : Answer). answer.call) caller.answers))
        ∙ calling.finds_are ∙ finds-are contents setting actor same (omega arith) low in
        find-slots actor (slice_index contents.homes actor) 0 contents.nodes (length contents.homes)
        (tickets actor history) caller.answers script made (valid.searches actor (omega arith) low)
        ∙ ap (slots_in actor (slice_index contents.homes actor) 0)
        (sym (get_or-drop (length contents.homes) contents.scripts i []))
