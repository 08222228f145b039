-- Each line of an outcome keeps what is asked of its place, of what is to be made again, and of its
-- weight.
use Rattle.std.proofs.Common.{◌≡◌, ◌≢◌, inl, inr, ℕ, suc, ◌+◌, ◌*◌, ◌<◌, ◌≤◌, ◌==◌, ◌||◌, Bool, true, false, cond, List, [], length, take, map, fold, Option, Some, None, refl, ap, sym, ◌∙◌, arith, subst}
use Rattle.std.specs.Prelude.{filter_map, flat_map, option_map, slice_get, slice_index}
use Rattle.std.specs.List.{last_or, list_any}
use Rattle.std.proofs.lemmas.Bool.{cases_lt, false_from_ne_true, eqb-true}
use Rattle.std.proofs.lemmas.Bool.Decides.{nat_tests}
use Rattle.std.proofs.lemmas.List.{take_all}
use Rattle.std.proofs.lemmas.List.Folds.{list_any-append}
use Rattle.std.proofs.lemmas.Option.{slice_get-get_or, slice_get-map}
use Rattle.entry_word.specs.declared.mark.PresenceMark.{PresenceMark}
use Rattle.entry_word.specs.declared.mark.PresenceMark.TheVariants.{Here}
use Rattle.entry_word.specs.declared.visit.Visit.{Visit}
use Rattle.directory.specs.Settings.{Setting, start, subs}
use Rattle.directory.specs.Courses.{Course, Step, after_steps, course_at, move_to}
use Rattle.directory.specs.Finds.{FindCall}
use Rattle.directory.specs.Histories.{History, is_put_for, puts_to, through, tickets}
use Rattle.directory.specs.Looks.{IsQuiet, first_of, last_of, moves_at}
use Rattle.directory.specs.Orders.{IsFindCall, Scripts, caller_in, steps_of}
use Rattle.directory.specs.Outcomes.{IsFindLine, IsMade, caller_lines, found_line, outcome_in, step_line, sub_lines}
use Rattle.directory.specs.Puts.{ends_off, mark_put, node_put}
use Rattle.directory.specs.ScriptLaws.{call_of_valid}
use Rattle.directory.specs.Standing.{Commit, commit_of, commits, confirms, number, off, passage, passage_of, standing}
use Rattle.directory.specs.Statements.{CallersCount}
use Rattle.directory.specs.Writes.{Write, mark_at, numbers_from, visit_of}
use Rattle.directory.specs.declared.answers.Done.{Done}
use Rattle.directory.specs.declared.answers.Done.TheVariants.{Moved, Switched, Found as FoundBy, Off as OffBy, Again as AgainBy}
use Rattle.directory.specs.declared.answers.Found.{Found}
use Rattle.directory.specs.declared.answers.Found.TheVariants.{At}
use Rattle.region_plan.specs.Plan.{PlanData}
use Rattle.region_plan.specs.Settings.{setting_of}
use Rattle.region_plan.specs.Measures.{stretch_of}
use Rattle.report_check.specs.Parts.{is_light, is_number, is_switch_at, is_ticket, is_told, meets_move, next_ticket, open_passage, told_before, unconfirmed}
use Rattle.stretch_laws.specs.NearOutcomes.{IsLimited, IsLineWithin}
use Rattle.stretch_laws.specs.Plans.{bound_of}
use Rattle.trail_laws.specs.RightOutcomes.{IsRightLine}
use Rattle.own_reports.specs.Reports.{KeepsParts}
use Rattle.own_reports.proofs.Cuts.{IsOver, Laws, all_writes, commits-before, cut-below, cut-past, made_before, off-before, puts-before}
use Rattle.own_reports.proofs.FindRuns.{caller-runs}
use Rattle.own_reports.proofs.Looked.{IsLook, ends-look, has-line, look-puts-not, meets-move, move-own}
use Rattle.own_reports.proofs.Order.{actors_of, tickets-are}
use Rattle.own_reports.proofs.Plain.{commits_in}
use Rattle.own_reports.proofs.RowsTold.{rows-none, rows-skip, rows-told}
use Rattle.own_reports.proofs.Signs.{at-most, both-same, finds-no-switch, get-take, light, open-same, open_by, or-true, same-true, still-open, told-true}
use Rattle.own_reports.proofs.StepRuns.{sub-runs}
use Rattle.own_reports.proofs.Switches.{count-all, mark-read, switch-moves-not, switch-ticket, visit-at}
use Rattle.own_reports.proofs.Tellings.{IsCount, IsLast, IsToldBy, steps-told}
use Rattle.std.proofs.lemmas.Map.Keys.{any_passes_from_place}

module _ (laws : Laws) (count : CallersCount) (plan : PlanData) (homes : List ℕ) (scripts : Scripts) (history : History)
    (over : IsOver (setting_of plan homes) scripts history) where
  abbrev S : Setting
  S = setting_of plan homes

  abbrev calls : List Done
  calls = (outcome_in S scripts history).calls

  abbrev order : List ℕ
  order = actors_of history

  -- at a visit of a move no line is that of a switch
  pub no-switch : (sub t : ℕ) → sub < subs S → moves_at sub history t ≡ true → list_any (is_switch_at t) calls ≡ false
  no-switch sub t known moves =
      let own : slice_get order t ≡ Some sub = move-own S scripts history sub t over.played moves in
      list_any-append (is_switch_at t) (flat_map (sub_lines S scripts history) (numbers_from 0 (subs S))) _
      ∙ ap (λ b. b || list_any (is_switch_at t)
      (flat_map (caller_lines S scripts history) (numbers_from (subs S) (length scripts.finds))))
      (rows-none (is_switch_at t) (sub_lines S scripts history) 0 (subs S) (λ actor low high.
      false_from_ne_true _ (λ found. clash actor (omega (arith, high)) own found)))
      ∙ rows-none (is_switch_at t) (caller_lines S scripts history) (subs S) (length scripts.finds) (λ actor low high.
      finds-no-switch t actor (tickets actor history) (caller_in S scripts history actor).answers)
    where
      clash : (actor : ℕ) → actor < subs S → slice_get order t ≡ Some sub
          → list_any (is_switch_at t) (sub_lines S scripts history actor) ≡ true → ⊥
      clash actor low own found =
          let at = switch-ticket laws S scripts history over actor low t found in
          let theirs : is_ticket order actor t ≡ true =
          ap (is_ticket order actor) at.2 ∙ (tickets-are laws.ascend history actor).own at.0 at.1 in
          let same : sub ≡ actor =
          eqb-true sub actor (sym (ap (is_number actor) own) ∙ theirs) in
          let bad : true ≡ false =
          sym (ap (λ k. moves_at k history t) (sym same) ∙ moves)
          ∙ switch-moves-not laws S scripts history over actor low t at in
          cc

  module _ (sub : ℕ) (known : sub < subs S) where
    abbrev all : List Write
    all = all_writes laws S scripts history over sub known

    abbrev seen : List ℕ
    seen = tickets sub history

    -- what all lines tell before a ticket
    pub sub-told : (last : ℕ) → IsToldBy S homes sub last seen all calls
        (take (made_before laws S scripts history over sub known last) all)
    sub-told last =
        let m : ℕ = made_before laws S scripts history over sub known last in
        let count_is : IsCount S homes sub last seen all m = record {
          below = λ i low less. cut-below laws S scripts history over sub known last i low less;
          past = λ i low far. cut-past laws S scripts history over sub known last i low far;
        } in
        let empty : take {A = Write} m [] ≡ [] = take_all m [] (omega arith) in
        let start_told : IsToldBy S homes sub last seen all [] (take m []) =
        rw empty (record { node = refl; number = refl; is_off = refl; last = tt }) in
        let mine : IsToldBy S homes sub last seen all (sub_lines S scripts history sub) (take m all) =
        steps-told S homes sub last seen all (course_at (start S sub)) (steps_of scripts sub) 0 m [] [] count_is
        (over.valid.steps sub known).allowed refl (omega (arith, count-all laws S scripts history over sub known)) refl
        refl
        start_told in
        let finders = rows-skip homes sub last (λ actor. tickets actor history) (caller_lines S scripts history)
        (subs S)
        (length scripts.finds) (flat_map (sub_lines S scripts history) (numbers_from 0 (subs S)))
        (λ actor low high. caller-runs count S scripts history actor low over.played (over.done actor)) (inl known) in
        let movers = rows-told homes sub last (λ actor. tickets actor history) (sub_lines S scripts history) 0 (subs S)
        []
        (λ actor low high. sub-runs laws.in_order S scripts history actor (omega (arith, high)) over.played
        (over.done actor))
        (omega arith) (omega (arith, known)) refl in
        let same = finders ∙ movers in record {
          node = rw same mine.node;
          number = rw same mine.number;
          is_off = rw same mine.is_off;
          last = rw same mine.last;
        }

    commits-through : (last : ℕ) → IsLook history last → commits sub (through last history)
        ≡ commits_in (take (made_before laws S scripts history over sub known last) all)
    commits-through last look =
        ap (filter_map (λ (v : Visit). commit_of (node_put v.act) (mark_put v.act)))
        (look-puts-not history sub last look)
        ∙ commits-before laws S scripts history over sub known last

    -- the lines tell where the subscriber stands at a look, with its number and its state
    node-told : (last : ℕ) → IsLook history last
        → (told_before homes calls sub last).node ≡ standing S sub (through last history)
    node-told last look =
        (sub-told last).node
        ∙ sym (ap (fold (λ node (c : Commit). c.to) (start S sub)) (commits-through last look))

    number-told : (last : ℕ) → IsLook history last
        → (told_before homes calls sub last).number ≡ number sub (through last history)
    number-told last look = (sub-told last).number ∙ sym (ap length (commits-through last look))

    off-told : (last : ℕ) → IsLook history last
        → (told_before homes calls sub last).is_off ≡ off sub (through last history)
    off-told last look =
        (sub-told last).is_off
        ∙ sym (ap ends_off (look-puts-not history sub last look)
        ∙ off-before laws S scripts history over sub known last)

    -- a ticket of the subscriber's writes is no look
    abbrev put_at : Option Visit → Bool
    put_at None = false
    put_at (Some v) = is_put_for sub v.act

    no-look : (last i node : ℕ) (mark : PresenceMark) → IsLook history last → i < length seen
        → slice_get all i ≡ Some (mark_at node mark) → slice_get history (slice_index seen i)
        ≡ slice_get history last → ⊥
    no-look last i node mark (actor, key, is) low there same =
        let clash : (sub == sub) ≡ false =
        ap put_at (sym (visit-at laws S scripts history over sub known i (mark_at node mark) low there) ∙ same ∙ is) in
        let yes_same : (sub == sub) ≡ true = grind (arith, nat_tests) in
        let bad : true ≡ false = sym yes_same ∙ clash in cc

    -- a passage that is open weighs no more than the lines tell
    open-covers : (last : ℕ) (o : Option Commit) (ticket : Option ℕ) (weight : ℕ) → IsLook history last
        → IsLast S seen all o ticket weight
        → passage_of S (take (made_before laws S scripts history over sub known last) (map (visit_of sub) all)) o
        ≤ open_by order sub last weight ticket
    open-covers last None None weight look is = omega arith
    open-covers last None (Some ticket) weight look is = absurd is
    open-covers last (Some commit) None weight look is = absurd is
    open-covers last (Some commit) (Some ticket) weight look (j, inside, at, confirm, weighs) =
        let m : ℕ = made_before laws S scripts history over sub known last in
        let puts : List Visit = take m (map (visit_of sub) all) in
        let next : next_ticket order sub (Some ticket) ≡ Some (slice_index seen (suc j)) =
        ap (λ k. next_ticket order sub (Some k)) at
        ∙ (tickets-are laws.ascend history sub).next j (omega (arith, inside))
        ∙ slice_get-get_or seen (suc j) 0 inside in
        elim (cases_lt last (slice_index seen (suc j))) [
          | inl low ↦
              let whole : unconfirmed last weight (next_ticket order sub (Some ticket)) ≡ weight =
              ap (unconfirmed last weight) next ∙ still-open last weight (slice_index seen (suc j)) low in
              omega (
                arith,
                whole,
                weighs,
                at-most (list_any (λ visit. confirms commit (node_put visit.act) (mark_put visit.act)) puts)
                    (S.distance commit.from commit.to),
              )
          | inr past ↦
              let before_it : slice_index seen (suc j) < last =
              let apart : slice_index seen (suc j) ≢ last = λ same.
              no-look last (suc j) commit.to (Here commit.number) look inside confirm (ap (slice_get history) same) in
              omega (arith, apart, past) in
              let made : suc j < m = cut-below laws S scripts history over sub known last (suc j) inside before_it in
              let there : slice_get puts (suc j) ≡ Some (visit_of sub (mark_at commit.to (Here commit.number))) =
              get-take (map (visit_of sub) all) m (suc j) made ∙ slice_get-map (visit_of sub) all (suc j)
              ∙ ap (option_map (visit_of sub)) confirm in
              let any : list_any (λ visit. confirms commit (node_put visit.act) (mark_put visit.act)) puts ≡ true =
              any_passes_from_place (λ (visit : Visit). confirms commit (node_put visit.act) (mark_put visit.act)) puts
              (suc j) _ there
              (ap (confirms commit commit.to)
              (mark-read laws S scripts history over sub known (suc j) commit.to (Here commit.number) confirm)
              ∙ both-same commit.to commit.number) in
              let zero_is : passage_of S puts (Some commit) ≡ 0 =
              ap (λ b. cond b 0 (S.distance commit.from commit.to)) any in
              omega (arith, zero_is)
        ]

    passage-le : (last : ℕ) → IsLook history last → passage S sub (through last history)
        ≤ open_passage order sub last (told_before homes calls sub last) (told_before homes calls sub last).commit
    passage-le last look =
        let m : ℕ = made_before laws S scripts history over sub known last in
        let puts : puts_to sub (through last history) ≡ take m (map (visit_of sub) all) =
        look-puts-not history sub last look ∙ puts-before laws S scripts history over sub known last in
        let same : passage S sub (through last history)
        ≡ passage_of S (take m (map (visit_of sub) all)) (last_or None (commits_in (take m all))) =
        ap (λ (ps : List Visit). passage_of S ps (last_or None (commits sub (through last history)))) puts
        ∙ ap (λ (cs : List Commit). passage_of S (take m (map (visit_of sub) all)) (last_or None cs))
        (commits-through last look) in
        omega (
          arith,
          same,
          open-same homes order calls sub last (told_before homes calls sub last).commit,
          open-covers last (last_or None (commits_in (take m all))) (told_before homes calls sub last).commit
              (told_before homes calls sub last).weight look (sub-told last).last,
        )

    -- a find that answers keeps what is asked of its place and its weight
    answered : (is_off : Bool) (from node q weight first last : ℕ) → IsLook history first → IsLook history last
        → node ≡ standing S sub (through last history) → q ≡ number sub (through last history)
        → off sub (through last history) ≡ is_off
        → (IsQuiet history sub first last → IsLimited (bound_of plan) S from sub weight (through last history))
        → (is_told (told_before homes calls sub last) is_off node q ≡ true)
        × (is_light plan homes calls order from sub node weight first last ≡ true)
    answered is_off from node q weight first last one two at n o near = (
      told-true is_off (told_before homes calls sub last).node node (told_before homes calls sub last).number q
          (told_before homes calls sub last).is_off (node-told last two ∙ sym at) (number-told last two ∙ sym n)
          (off-told last two ∙ o),
      or-true (meets_move calls order sub first last) _ (λ none.
          let quiet : IsQuiet history sub first last = λ t low high. false_from_ne_true
          (moves_at sub history t) (λ moves.
          let met : meets_move calls order sub first last ≡ true =
          meets-move S scripts history calls sub first last t over.played one two low high moves
          (no-switch sub t known moves)
          (has-line S scripts history sub t known over.played moves) in
          let bad : true ≡ false = sym met ∙ none in cc) in
          let limited : weight ≤ stretch_of plan * S.distance from node + 2 * passage S sub (through last history) =
          subst (λ k. weight ≤ stretch_of plan * S.distance from k + 2 * passage S sub (through last history)) (sym at)
          (near quiet) in
          light (stretch_of plan) (S.distance from node) (passage S sub (through last history))
          (open_passage order sub last (told_before homes calls sub last) (told_before homes calls sub last).commit)
          weight
          limited (passage-le last two)),
    )

  -- the first ticket of a line, and the last
  abbrev first_told : Done → ℕ
  first_told (Moved actor n from to weight first commit last) = first
  first_told (Switched actor is_off node n ticket) = ticket
  first_told (FoundBy actor from sub node n level weight first last) = first
  first_told (OffBy actor from sub node n level weight first last) = first
  first_told (AgainBy actor from sub why weight first last) = first

  abbrev last_told : Done → ℕ
  last_told (Moved actor n from to weight first commit last) = last
  last_told (Switched actor is_off node n ticket) = ticket
  last_told (FoundBy actor from sub node n level weight first last) = last
  last_told (OffBy actor from sub node n level weight first last) = last
  last_told (AgainBy actor from sub why weight first last) = last

  found-ends : (caller : ℕ) (call : FindCall) (found : Found) (first last : ℕ)
      → (first_told (found_line caller call found first last) ≡ first)
      × (last_told (found_line caller call found first last) ≡ last)
  found-ends caller call (At node n level weight) first last = (refl, refl)
  found-ends caller call _ first last = (refl, refl)

  -- the ends of a find's line are looks
  ends-are : (caller : ℕ) (call : FindCall) (line : Done) → IsFindLine S scripts history caller call line
      → IsLook history (first_told line) × IsLook history (last_told line) × IsFindCall S call
  ends-are caller call line made =
      let looks = ends-look S history caller call made.found made.seen made.find in
      let ends = found-ends caller call made.found (first_of made.seen) (last_of made.seen) in (
        subst (IsLook history) (sym (ap first_told made.tells ∙ ends.0)) looks.0,
        subst (IsLook history) (sym (ap last_told made.tells ∙ ends.1)) looks.1,
        call_of_valid S scripts caller made.before call made.later over.valid made.script,
      )

  -- a find's line that answers keeps the parts of its place and its weight
  found-keeps : (is_off : Bool) (actor from sub node n weight : ℕ) (line : Done)
      → IsFindLine S scripts history actor (record { from = from; sub = sub }) line
      → (node ≡ standing S sub (through (last_told line) history))
      × (n ≡ number sub (through (last_told line) history))
      × (off sub (through (last_told line) history) ≡ is_off)
      → (IsQuiet history sub (first_told line) (last_told line)
      → IsLimited (bound_of plan) S from sub weight (through (last_told line) history))
      → (is_told (told_before homes calls sub (last_told line)) is_off node n ≡ true) × (true ≡ true)
      × (is_light plan homes calls order from sub node weight (first_told line) (last_told line) ≡ true)
  found-keeps is_off actor from sub node n weight line made right near =
      let ends = ends-are actor (record { from = from; sub = sub }) line made in
      let both = answered sub ends.2.known is_off from node n weight (first_told line) (last_told line) ends.0 ends.1
      right.0 right.1 right.2 near in
      (both.0, refl, both.1)

  -- a move weighs its distance
  abbrev IsWeighed : Done → Type 0
  IsWeighed (Moved actor n from to weight first commit last) = S.distance from to ≡ weight
  IsWeighed _ = Unit {0}

  step-weighed : (sub : ℕ) (course : Course) (step : Step) (ts : List ℕ) → IsWeighed (step_line S sub course step ts)
  step-weighed sub course (move_to node) ts = refl
  step-weighed sub course _ ts = tt

  -- each line keeps the parts
  pub line-keeps : (line : Done) → IsMade S scripts history line → IsRightLine S history line
      → IsLineWithin (bound_of plan) S history line → KeepsParts plan homes calls order line
  line-keeps (Moved actor n from to weight first commit last) made right near = (
    refl,
    refl,
    same-true (S.distance from to) weight
        (subst IsWeighed (sym made.tells)
        (step-weighed actor (after_steps S (course_at (start S actor)) made.before) made.step made.seen)),
  )
  line-keeps (Switched actor is_off node n ticket) made right near = (refl, refl, refl)
  line-keeps (FoundBy actor from sub node n level weight first last) made right near =
      found-keeps false actor from sub node n weight _ made right (λ quiet. (near quiet).1)
  line-keeps (OffBy actor from sub node n level weight first last) made right near =
      found-keeps true actor from sub node n weight _ made right (λ quiet. (near quiet).1)
  line-keeps (AgainBy actor from sub why weight first last) made (t, low, high, moves) near =
      let ends = ends-are actor (record { from = from; sub = sub }) (AgainBy actor from sub why weight first last) made
      in (
        refl,
        meets-move S scripts history calls sub first last t over.played ends.0 ends.1 low high moves
            (no-switch sub t ends.2.known moves) (has-line S scripts history sub t ends.2.known over.played moves),
        refl,
      )
