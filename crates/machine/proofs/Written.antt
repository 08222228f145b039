-- How far a subscriber is after visits that go on with a step: after one of them, and after many at once.
use Rattle.std.proofs.Common.{◌≡◌, ℕ, suc, ◌+◌, ◌-◌, ◌<◌, ◌≤◌, List, [], ◌∷◌, ◌++◌, length, map, take, drop, get_or, sym, ap, ◌∙◌, arith, append_assoc, zero, false, set, refl, subst, add-one}
use Rattle.std.specs.Prelude.{None, Some, slice_get, slice_set, vec_capacity}
use Rattle.std.proofs.lemmas.Option.{slice_get_within}
use Rattle.std.proofs.lemmas.List.{take-append-drop, length-take-le, length-drop, length_push, length-map, get_or_push, get_or-set_same, length-set, get_or_default, set-set}
use Rattle.std.proofs.Math.Seq.{set-append_seam}
use Rattle.entry_word.specs.Marks.{MarksUnpack}
use Rattle.entry_word.specs.declared.visit.Visit.{Visit}
use Rattle.directory.specs.Settings.{Setting, start}
use Rattle.directory.specs.Courses.{Course, after_steps, course_at}
use Rattle.directory.specs.Histories.{History, own, tickets}
use Rattle.directory.specs.Orders.{next, steps_of}
use Rattle.directory.specs.Outcomes.{step_line, step_lines}
use Rattle.directory.specs.Writes.{step_writes, visit_of, visits, writes}
use Rattle.directory.specs.declared.answers.Done.{Done}
use Rattle.net_reader.specs.Input.{Contents}
use Rattle.region_plan.specs.Plan.{PlanData}
use Rattle.distances.specs.Table.{DistanceTable}
use Rattle.handset.specs.Condition.{GoesWith, HandsetData}
use Rattle.handset.specs.Stands.{is_commit}
use Rattle.visit_log.specs.Cells.{CellData, GoWith, Hold}
use Rattle.machine.specs.declared.subscriber.Subscriber.{Subscriber}
use Rattle.machine.specs.declared.turn.Turn.TheVariants.{Finished, Visited}
use Rattle.scripts.specs.ScriptLaws.{few-nodes}
use Rattle.scripts.specs.Scripts.{scripts_of}
use Rattle.scripts.specs.Laws.{ScriptsAreValid}
use Rattle.machine.specs.Stands.{AreMade, BelongTogether, Sees, setting_over}
use Rattle.machine.specs.Subscribers.{IsShown, IsSubscriber, Shown, TakesTurn, begun_steps, line_after, HasWritten, shown_at}
use Rattle.machine.proofs.Seen.{line-grows, lines-partial, HasLast, Seen, last-visit, seen-after, step-allowed, steps-last}
use Rattle.machine.proofs.Making.{HasNext, NextIsOwn, made-as, made-count, made-joined, made-next, made-none}
use Rattle.directory.specs.HistoryLaws.{tickets-count}
use Rattle.directory.specs.Statements.{MoreIsPlayed, TicketsGrow, OwnGrow, TicketsAreOwn}
use Rattle.directory.specs.declared.answers.Done.TheVariants.{Moved}
use Rattle.machine.specs.Owed.{HasCome, HasPut, HavePut, MayPut}
use Rattle.std.specs.Global.{Vec}
use Rattle.machine.specs.declared.ahead.Ahead.{Ahead}
use Rattle.machine.proofs.Owing.{Next, Puts, next-of, put-next}

-- the lines of a subscriber with a step under way, now and a visit later
record Under (input : Contents) (plan : PlanData) (history : History) (sub : ℕ) (old : Shown)
    (visit : Visit) : Type 0 where
  rows : List Done
  row : Done
  are : old.lines.items ≡ rows ++ row ∷ []
  then : step_lines (setting_over input plan) sub (course_at (start (setting_over input plan) sub))
      (begun_steps input sub old)
      (tickets sub history ++ length history ∷ []) ≡ rows ++ line_after row (is_commit visit.act) (length history) ∷ []

-- the lines of a subscriber behind so many writes that don't commit a move
abbrev lines_behind : List Done → Done → ℕ → ℕ → List Done
lines_behind lines line ticket zero = lines
lines_behind lines line ticket (suc count) =
    set lines (length lines - 1) (line_after (get_or lines (length lines - 1) line) false (ticket + count))

lines-count : (lines : List Done) (line : Done) (ticket count : ℕ) → length (lines_behind lines line ticket count)
    ≡ length lines
lines-count lines line ticket zero = refl
lines-count lines line ticket (suc count) = grind (arith, length-set)

-- and what is seen of it
abbrev behind : Shown → HandsetData → Done → ℕ → ℕ → Shown
behind old handset line ticket count =
    record old {
      handset = handset;
      lines = record old.lines {
        items = lines_behind old.lines.items line ticket count;
        ok = (old.lines.ok.0 ∙ sym (lines-count old.lines.items line ticket count), old.lines.ok.1);
      };
    }

-- of two visits that don't commit a line keeps the later ticket
later-line : (line : Done) (first last : ℕ) → line_after (line_after line false first) false last
    ≡ line_after line false last
later-line (Moved actor number from to weight begun commit end) first last = refl
later-line line first last = refl

-- one write more
lines-more : (lines : List Done) (line : Done) (ticket count : ℕ) → 0 < length lines
    → lines_behind lines line ticket (suc count)
    ≡ set (lines_behind lines line ticket count) (length lines - 1)
    (line_after (get_or (lines_behind lines line ticket count) (length lines - 1) line) false (ticket + count))
lines-more lines line ticket zero some = refl
lines-more lines line ticket (suc count) some = grind (arith, get_or-set_same, later-line, set-set)

-- what they leave of the lines
lines-are : (lines : List Done) (line : Done) (ticket count : ℕ) → 0 < count
    → lines_behind lines line ticket count
    ≡ set lines (length lines - 1) (line_after (get_or lines (length lines - 1) line) false (ticket + count - 1))
lines-are lines line ticket zero some = absurd (omega (arith, some))
lines-are lines line ticket (suc count) some = grind arith

-- a subscriber by its handset, its lines and the room for them
its-same : {input : Contents} {plan : PlanData} {history : History} {sub : ℕ} {one : Shown} (other : Shown)
    → other.handset ≡ one.handset → other.lines.items ≡ one.lines.items
    → vec_capacity other.lines ≡ vec_capacity one.lines → IsShown input plan history sub one
    → IsShown input plan history sub other
its-same {input} {sub} {one} other handset lines room its = grind arith

-- the writes that are ahead may go into their cells
pub may-put : {input : Contents} {plan : PlanData} {cells : CellData} {history : History} {sub : ℕ} {old : Subscriber}
    {writes : List Ahead} → Sees input plan cells history → (its : IsSubscriber input plan history sub old)
    → writes ≡ old.ahead.items → MayPut plan sub its.handset old.handset cells (drop old.made writes)
may-put sees its same = grind arith

module _ (unpack : MarksUnpack) (own_law : OwnGrow) (ticket_law : TicketsGrow) (tell : TicketsAreOwn)
    (scripts : ScriptsAreValid) {input : Contents} {plan : PlanData} {distances : DistanceTable} {sub : ℕ}
    (together : BelongTogether input plan distances) (low : sub < length input.homes) where
  under-way : {history : History} {old : Shown} {visit : Visit} → IsShown input plan history sub old
      → slice_get (visits (setting_over input plan) old.handset.sub (begun_steps input sub old))
      (length (own sub history)) ≡ Some visit → Under input plan history sub old visit
  under-way {history} {old} {visit} its wants =
      let setting : Setting = setting_over input plan in
      let course : Course = course_at (start setting sub) in
      let made : ℕ = length (own sub history) in
      let now : slice_get (visits setting sub (begun_steps input sub old)) made ≡ Some visit = rw its.its at wants in
      let split : HasLast (begun_steps input sub old) = steps-last setting sub made (begun_steps input sub old) now in
      let n : ℕ = length (writes setting course split.before) in
      let past : n < made = its.under split.before split.last split.are in
      let after : Course = after_steps setting course split.before in
      let count : length (tickets sub history) ≡ made = tickets-count sub history in
      let p : List ℕ = drop n (tickets sub history) in
      let size : length p ≡ made - n = length-drop n (tickets sub history) ∙ ap (λ k. k - n) count in
      let front : length (take n (tickets sub history)) ≡ n = grind (arith, length-take-le) in
      let here : slice_get (map (visit_of sub) (step_writes setting after split.last)) (length p) ≡ Some visit =
      rw size (last-visit setting sub made split.before split.last (omega (arith, past)) (rw split.are at now)) in
      let room : length p < length (step_writes setting after split.last) =
      grind (arith, slice_get_within, length-map) in
      let may = step-allowed scripts sub (length old.lines.items) split.before split.last together low split.are in
      let parts : tickets sub history ≡ take n (tickets sub history) ++ p =
      sym (take-append-drop n (tickets sub history)) in
      record {
        rows = step_lines setting sub course split.before (take n (tickets sub history));
        row = step_line setting sub after split.last p;
        are = its.lines ∙ ap (λ ss. step_lines setting sub course ss (tickets sub history)) split.are
            ∙ ap (step_lines setting sub course (split.before ++ split.last ∷ [])) parts
            ∙ lines-partial setting sub course split.before split.last (take n (tickets sub history)) p front
            (omega (arith, room));
        then = ap (λ ss. step_lines setting sub course ss (tickets sub history ++ length history ∷ [])) split.are
            ∙ ap (λ ts. step_lines setting sub course (split.before ++ split.last ∷ []) (ts ++ length history ∷ []))
            parts
            ∙ rw (
              append_assoc,
              lines-partial setting sub course split.before split.last (take n (tickets sub history))
                  (p ++ length history ∷ []) front (omega (arith, room, length_push p (length history))),
              line-grows unpack setting sub after split.last p (length history) may.0
                  (omega (arith, together.nodes, few-nodes input together.valid)) may.1 (omega (arith, size, past))
                  here,
            );
      }

  -- it has a line
  some-line : {history : History} {old : Shown} {visit : Visit} → IsShown input plan history sub old
      → slice_get (visits (setting_over input plan) old.handset.sub (begun_steps input sub old))
      (length (own sub history)) ≡ Some visit → 0 < length old.lines.items
  some-line its wants =
      let way = under-way its wants in omega (arith, ap length way.are, length_push way.rows way.row)

  -- a subscriber that has a write ahead has a line
  pub line-there : {history : History} {old : Subscriber} → IsSubscriber input plan history sub old
      → old.made < length old.ahead.items → 0 < length old.lines.items
  line-there {history} {old} its left =
      let none : Ahead = record { place = 0; commits = false; word = 0 } in
      let write : Ahead = get_or old.ahead.items old.made none in
      let next = next-of plan (length input.homes) its.handset old.handset old.ahead.items old.made left
      (get_or_default old.ahead.items old.made none write left) its.owes in
      some-line its.shown (next.its.next input.homes (begun_steps input sub (shown_at its.handset old))
      (length (own sub history)) its.shown.handset)

  -- so a step goes on
  written-on : {cells after : CellData} {history : History} {ticket last : ℕ} {old : Shown} (new : Shown) {line : Done}
      (default : Done) → length history ≡ ticket → Hold plan input.homes cells history
      → IsShown input plan history sub old → (put : HasPut plan old.handset new.handset cells after)
      → GoesWith plan new.handset → new.handset.sub ≡ old.handset.sub → GoWith plan after
      → new.lines.items ≡ slice_set old.lines.items last line → vec_capacity new.lines ≡ vec_capacity old.lines
      → suc last ≡ length old.lines.items
      → line ≡ line_after (get_or old.lines.items last default) (is_commit put.visit.act) ticket
      → HasNext input plan after history sub (λ later. IsShown input plan later sub new)
  written-on {history} {last} {old} new {line} default place hold its put goes same over lines room last_is
      line_is =
      let made : ℕ = length (own sub history) in
      let wants = put.next input.homes (begun_steps input sub old) made its.handset in
      let seen : Seen input plan history sub put.visit =
      seen-after own_law ticket_law input plan history sub (length old.lines.items) low (rw its.its at wants) in
      let way : Under input plan history sub old put.visit = under-way its wants in
      let end : last ≡ length way.rows = omega (arith, last_is, ap length way.are, length_push way.rows way.row) in
      let row : get_or old.lines.items last default ≡ way.row = grind (arith, get_or_push) in
      let now : new.lines.items ≡ way.rows ++ line ∷ [] = grind (arith, set-append_seam) in
      let longer : length new.lines.items ≡ length old.lines.items = grind (arith, length_push) in
      let steps : begun_steps input sub old ≡ begun_steps input sub new =
      ap (λ k. take k (steps_of (scripts_of input) sub)) (sym longer) in (
        put.visit,
        seen.turn,
        record {
          handset = rw (← steps, seen.count) (put.stands input.homes (begun_steps input sub old) made its.handset);
          goes = goes;
          its = same ∙ its.its;
          lines = rw (← steps, seen.seen, way.then, now, line_is, row, place);
          few = omega (arith, longer, its.few);
          under = λ before step split. omega (arith, its.under before step (steps ∙ split), seen.count);
          room = room ∙ its.room;
        },
        over,
        put.hold input.homes history hold,
      )

  -- the write that comes next goes into its cell
  pub one-put : {cells after : CellData} {history : History} {ticket last : ℕ} {old : Subscriber} (lines : Vec Done)
      {write : Ahead} {line : Done} (default : Done) → length history ≡ ticket → Sees input plan cells history
      → IsSubscriber input plan history sub old → old.made < length old.ahead.items
      → write ≡ get_or old.ahead.items old.made write → lines.items ≡ slice_set old.lines.items last line
      → vec_capacity lines ≡ vec_capacity old.lines → suc last ≡ length old.lines.items
      → line ≡ line_after (get_or old.lines.items last default) write.commits ticket → Puts plan sub cells after write
      → GoWith plan after
      → HasWritten input plan history sub old (record old { made = old.made + 1; lines = lines }) cells after Visited
  one-put {cells} {ticket} {last} {old} lines {write} default place sees its left same lines_are room last_is
      line_is put over =
      let next : Next plan cells.subs its.handset old.handset write (drop (suc old.made) old.ahead.items) =
      next-of plan cells.subs its.handset old.handset old.ahead.items old.made left same (may-put sees its refl).owes in
      let done = written-on (record { handset = next.handset; lines = lines }) default place sees.hold its.shown
      (put-next next.its its.shown.its put) next.its.goes next.its.its over lines_are room last_is
      (line_is ∙ ap (λ b. line_after (get_or old.lines.items last default) b ticket) next.its.commits) in (
        done.0,
        done.1,
        record {
          handset = next.handset;
          shown = done.2;
          owes = rw (add-one old.made, ← sees.hold.subs) next.owes;
          goes = its.goes;
          its = its.its;
          within = omega (arith, left);
          space = its.space;
          rests = its.rests;
        },
        done.3,
        done.4,
      )

  -- as many writes that don't commit are made by as many turns
  written-many : MoreIsPlayed → NextIsOwn → {cells : CellData} {history : History} {ticket : ℕ} {old : Shown}
      (line : Done) → length history ≡ ticket → Sees input plan cells history → IsShown input plan history sub old
      → (count : ℕ) (handset : HandsetData) (after : CellData) → HavePut plan old.handset cells count handset after
      → AreMade input plan after history sub count (λ later. IsShown input plan later sub
      (behind old handset line ticket count))
  written-many more mine {ticket} {old} line place sees its zero handset after puts = grind (arith, made-none, its-same)
  written-many more mine {history} {ticket} {old} line place sees its (suc count) handset after
      (before, between, rest, entry) =
      let mid : Shown = behind old before line ticket count in
      let new : Shown = behind old handset line ticket (suc count) in
      let New : History → Type 0 = λ later. IsShown input plan later sub new in
      subst (λ n. AreMade input plan after history sub n New) (add-one count)
      (made-joined (written-many more mine line place sees its count before between rest) place
      (λ later sight at stands. let lines : List Done = lines_behind old.lines.items line ticket count in
      let size : length lines ≡ length old.lines.items = lines-count old.lines.items line ticket count in
      let some : 0 < length lines = some-line stands
      (entry.put.next input.homes (begun_steps input sub mid) (length (own sub later)) stands.handset) in
      made-next more mine New sight (written-on new line at sight.hold stands entry.put entry.goes entry.its entry.over
      (lines-more old.lines.items line ticket count (omega (arith, some, size))) refl
      (omega (arith, some, size))
      (ap (λ b. line_after (get_or lines (length old.lines.items - 1) line) b (ticket + count)) (sym entry.plain)))))

  -- some of those that are ahead go into their cells
  pub plain-put : MoreIsPlayed → NextIsOwn → {cells after : CellData} {history : History} {ticket count : ℕ} (place : ℕ)
      {old : Subscriber} (lines : Vec Done) {writes : List Ahead} (line : Done) → length history ≡ ticket
      → Sees input plan cells history → (its : IsSubscriber input plan history sub old) → writes ≡ old.ahead.items
      → HasCome plan sub its.handset old.handset cells after count (drop place writes) → 0 < count
      → place ≤ length writes → lines.items ≡ set old.lines.items (length old.lines.items - 1)
      (line_after (get_or old.lines.items (length old.lines.items - 1) line) false (ticket + count - 1))
      → vec_capacity lines ≡ vec_capacity old.lines → AreMade input plan after history sub count
      (λ later. IsSubscriber input plan later sub (record old { made = place; lines = lines }))
  plain-put more mine {history} {ticket} {count} place {old} lines line at sees its same come some within lines_are
      room =
      let made = written-many more mine line at sees its.shown count come.handset _ come.put in
      made-as made made.sees (record {
        handset = come.handset;
        shown = its-same (record { handset = come.handset; lines = lines }) refl
            (lines_are ∙ sym (lines-are old.lines.items line ticket count some)) room made.its;
        owes = rw (← made.sees.hold.subs, ← same) come.may.owes;
        goes = its.goes;
        its = its.its;
        within = omega (arith, within, ap length same);
        space = its.space;
        rests = its.rests;
      })

-- a write that isn't left
pub ended : {input : Contents} {plan : PlanData} {cells after : CellData} {history : History} {ticket sub count : ℕ}
    (most : ℕ) {mid new : Subscriber} → length history ≡ ticket → AreMade input plan cells history sub count
    (λ later. IsSubscriber input plan later sub mid) → TakesTurn input plan (ticket + count) sub mid new cells after
    Finished → (made : AreMade input plan after history sub count (λ later. IsSubscriber input plan later sub new))
    × (count < most → next (setting_over input plan) (scripts_of input) (history ++ made.visits) sub ≡ None)
ended {history} most place made then =
    let done = then (history ++ made.visits) made.sees (made-count made place) made.its in
    (made-as made (rw done.2 made.sees) (rw done.1 made.its), λ fewer. done.0)

-- where the turns were none, nothing changes
pub none-written : {input : Contents} {plan : PlanData} {cells after : CellData} {history : History}
    {ticket sub count : ℕ} {mid new : Subscriber} → length history ≡ ticket
    → AreMade input plan cells history sub count (λ later. IsSubscriber input plan later sub mid)
    → TakesTurn input plan (ticket + count) sub mid new cells after Finished → (new ≡ mid) × (after ≡ cells)
none-written {history} place made then =
    let done = then (history ++ made.visits) made.sees (made-count made place) made.its in (done.1, done.2)
