-- A climb past many entries, by the row of all readers of its origin, the cells that it comes to, and a caller's looks
-- at those that hold nothing, many at once: what as many turns make.
use Rattle.std.proofs.Common.{◌≡◌, ℕ, zero, suc, ◌+◌, ◌*◌, ◌<◌, ◌≤◌, Bool, true, false, length, refl, sym, ap, ◌∙◌, subst, arith, ◌++◌, None, add-one}
use Rattle.std.specs.Prelude.{if◌then◌else◌, nat_lt, slice_index, Some, unwrap_or}
use Rattle.region_plan.specs.Kept.{IsKept}
use Rattle.region_plan.specs.Matched.{IsMatched, IsWithinReach}
use Rattle.region_plan.specs.Plan.{PlanData, levels_of, nodes_of, readers}
use Rattle.visit_log.specs.Routes.{IsRung, Rung, rung_at, rung_past, way_at, ways_past, entry_place, reader_at, AreRoutes, IsAt, RouteData}
use Rattle.walk.specs.declared.progress.Climb.{Climb}
use Rattle.walk.specs.Climbs.{ClimbsGoOn, GoesOn, IsClimbOver, climb_past, next_climb, cluster_at, IsClimbOf, PassesEntry, walk_at}
use Rattle.machine.specs.Climbs.{Passes, rung_of}
use Rattle.entry_word.specs.declared.visit.Key.TheVariants.{Entry}
use Rattle.region_plan.specs.Cells.{IsCell}
use Rattle.visit_log.specs.Cells.{CellData, GoWith, width_of, word_at, word_beside}
use Rattle.visit_log.specs.Numbers.{NumbersBelow}
use Rattle.region_plan.specs.ReaderLaws.{reader-held}
use Rattle.entry_word.specs.declared.visit.Key.{Key}
use Rattle.directory.specs.Histories.{History, cell}
use Rattle.directory.specs.Orders.{next}
use Rattle.directory.specs.Statements.{CallerLinesGrow, CallersCount, CallersRead, MoreIsPlayed, TicketsGrow}
use Rattle.net_reader.specs.Input.{Contents}
use Rattle.walk.specs.Walks.{WalkData}
use Rattle.machine.specs.declared.caller.Caller.{Caller}
use Rattle.scripts.specs.Scripts.{scripts_of}
use Rattle.machine.specs.Stands.{AreMade, Sees, setting_over}
use Rattle.machine.specs.Callers.{HasLooked, HasPassed, IsCaller, Looks}
use Rattle.machine.specs.declared.turn.Turn.TheVariants.{Finished, Visited}
use Rattle.machine.proofs.Making.{Makes, made-as, made-count, made-joined, made-none, made-one}
use Rattle.machine.proofs.Looked.{looks, looked-on}
use Rattle.machine.proofs.Turning.{sees-more}

-- a climb that is at a reader, with this weight
abbrev pub climb_at : Climb → ℕ → Rung → Climb
climb_at climb weight rung = record climb { weight = weight; level = rung.level; index = rung.index }

-- the next one, by either way
same-next : (climb : Climb) (weight : ℕ) (rung : Rung) (b : Bool)
    → ◌≡◌ {A = Climb} (if b then record climb { weight = weight; level = rung.level; index = suc rung.index }
    else record climb { weight = weight; level = suc rung.level; index = 0 })
    (climb_at climb weight (if b then rung_at rung.level (suc rung.index) else rung_at (suc rung.level) 0))
same-next climb weight rung true = refl
same-next climb weight rung false = refl

-- where a climb is past so many entries
pub climb-is : (plan : PlanData) (climb : Climb) (count : ℕ)
    → climb_past plan climb count
    ≡ climb_at climb (climb.weight + ways_past plan climb.from (rung_of climb) count)
    (rung_past plan climb.from (rung_of climb) count)
climb-is plan climb zero =
    let none : climb.weight ≡ climb.weight + 0 = omega arith in
    ap (λ w. let k : Climb = record climb { weight = w } in k) none
climb-is plan climb (suc count) =
    let rung : Rung = rung_past plan climb.from (rung_of climb) count in
    let ways : ℕ = ways_past plan climb.from (rung_of climb) count in
    let sum : climb.weight + ways + way_at plan climb.from rung ≡ climb.weight + (ways + way_at plan climb.from rung) =
    omega arith in
    ap (next_climb plan) (climb-is plan climb count)
    ∙ (same-next climb (climb.weight + ways + way_at plan climb.from rung) rung
    (nat_lt (suc rung.index) (length (readers plan rung.level climb.from)))
    ∙ ap (λ w. climb_at climb w (rung_past plan climb.from (rung_of climb) (suc count))) sum)

module _ (law : ClimbsGoOn) (plan : PlanData) (climb : Climb) (kept : IsKept plan) (matched : IsMatched plan)
    (reached : IsWithinReach plan) (over : IsClimbOver plan climb) where
  -- it goes on past each of them
  on-past : (count : ℕ) → IsClimbOver plan (climb_past plan climb count)
      → IsRung plan climb.from (rung_past plan climb.from (rung_of climb) (suc count))
      → GoesOn plan (climb_past plan climb count)
  on-past count here rung =
      law plan (climb_past plan climb count) kept matched reached here
      (subst (λ (c : Climb). c.level < levels_of plan) (sym (climb-is plan climb (suc count))) rung.level)

  pub past-over : (count : ℕ)
      → ((i : ℕ) → i ≤ count → IsRung plan climb.from (rung_past plan climb.from (rung_of climb) i))
      → IsClimbOver plan (climb_past plan climb count)
  past-over zero rungs = over
  past-over (suc count) rungs =
      (on-past count (past-over count (λ i low. rungs i (omega (arith, low)))) (rungs (suc count) (omega arith))).over

  pub passes : (count : ℕ)
      → ((i : ℕ) → i ≤ suc count → IsRung plan climb.from (rung_past plan climb.from (rung_of climb) i))
      → Passes plan (climb_past plan climb count)
  passes count rungs =
      let here : IsClimbOver plan (climb_past plan climb count) =
      past-over count (λ i low. rungs i (omega (arith, low))) in
      record { over = here; on = on-past count here (rungs (suc count) (omega arith)) }

-- the same node all along
pub past-from : (plan : PlanData) (climb : Climb) (count : ℕ) → (climb_past plan climb count).from ≡ climb.from
past-from plan climb count = ap (λ (c : Climb). c.from) (climb-is plan climb count)

-- a climb is at a reader
pub climb-at : {plan : PlanData} {routes : RouteData} {climb : Climb} → AreRoutes plan routes → IsClimbOver plan climb
    → IsAt plan routes climb.from (rung_of climb)
climb-at are over = record {
  are = are;
  inside = over.from;
  is = record { level = over.progress.0; index = over.progress.1 };
}

-- the place of a reader's entries is one of a subscriber's
pub place-below : NumbersBelow → {plan : PlanData} {node : ℕ} {rung : Rung} → IsMatched plan → node < nodes_of plan
    → IsRung plan node rung → entry_place plan node rung < width_of plan
place-below numbers {plan} {node} {rung} matched inside is =
    let held = reader-held plan rung.level node rung.index matched is.level inside is.index in
    omega (
      arith,
      numbers plan 1 (Entry rung.level (reader_at plan node rung) 0)
          (record { place = (is.level, held.1); known = omega arith }),
    )

-- a climb looks at a cell of the plan
pub ahead-cell : {plan : PlanData} {climb : Climb} (subs sub : ℕ) → IsMatched plan → IsClimbOver plan climb → sub < subs
    → IsCell plan subs (Entry climb.level (cluster_at plan climb) sub)
ahead-cell {plan} {climb} subs sub matched over known =
    record {
      place = (
        over.progress.0,
        (reader-held plan climb.level climb.from climb.index matched over.progress.0 over.from over.progress.1).1,
      );
      known = known;
    }

-- whose word is that at the place of its reader
pub ahead-word : {plan : PlanData} {cells : CellData} (climb : Climb) (sub count : ℕ) {word : ℕ} → GoWith plan cells
    → word_beside cells sub (entry_place plan climb.from (rung_past plan climb.from (rung_of climb) count)) ≡ word
    → word_at plan cells (Entry (climb_past plan climb count).level (cluster_at plan (climb_past plan climb count)) sub)
    ≡ word
ahead-word {plan} {cells} climb sub count {word} goes is =
    subst (λ (c : Climb). word_at plan cells (Entry c.level (cluster_at plan c) sub) ≡ word)
    (sym (climb-is plan climb count))
    (ap (λ w. slice_index cells.words
    (sub * w + entry_place plan climb.from (rung_past plan climb.from (rung_of climb) count))) (sym goes.width) ∙ is)

-- a caller at a climb, behind so many of them
abbrev pub behind : WalkData → Caller → ℕ → Climb → ℕ → Caller
behind walk old ticket climb zero = record old { walk = Some (walk_at walk climb) }
behind walk old ticket climb (suc count) =
    record old { walk = Some (walk_at walk climb); first = Some (unwrap_or old.first ticket) }

-- what the looks at entries ahead lean on
pub record LooksAhead (input : Contents) (plan : PlanData) (cells : CellData) (actor : ℕ) (walk : WalkData)
    (climb : Climb) (limit : ℕ) : Type 0 where
  pub high : length input.homes ≤ actor
  pub each : (i : ℕ) → i < limit → PassesEntry plan walk (climb_past plan climb i)
  pub cell : (i : ℕ) → i < limit
      → IsCell plan cells.subs (Entry (climb_past plan climb i).level
      (cluster_at plan (climb_past plan climb i)) walk.sub)
  pub empty : (i : ℕ) → i < limit
      → word_at plan cells (Entry (climb_past plan climb i).level
      (cluster_at plan (climb_past plan climb i)) walk.sub) ≡ 0

behind-more : (walk : WalkData) (old : Caller) {ticket : ℕ} (climb next_climb : Climb) (count : ℕ) {later : ℕ}
    → (count ≡ 0 → later ≡ ticket) → behind walk old ticket next_climb (suc count)
    ≡ record (behind walk old ticket climb count) {
      walk = Some (walk_at walk next_climb);
      first = Some (unwrap_or (behind walk old ticket climb count).first later);
    }
behind-more walk old climb next_climb zero same = rw (same refl)
behind-more walk old climb next_climb (suc count) same = refl

behind-walk : (walk : WalkData) (old : Caller) (ticket : ℕ) (climb : Climb) (count : ℕ)
    → (behind walk old ticket climb count).walk ≡ Some (walk_at walk climb)
behind-walk walk old ticket climb zero = refl
behind-walk walk old ticket climb (suc count) = refl

-- with no looks it is where it was
pub behind-none : {walk : WalkData} (old : Caller) (ticket : ℕ) {climb : Climb} → old.walk ≡ Some walk
    → IsClimbOf walk climb → behind walk old ticket climb 0 ≡ old
behind-none {walk} old ticket held at = ap (λ w. record old { walk = w }) (ap Some at.same ∙ sym held)

module _ {input : Contents} {plan : PlanData} {cells : CellData} {actor : ℕ} where
  -- no looks
  pub passed-none : {history : History} {old : Caller} → Sees input plan cells history
      → IsCaller input plan history actor old → HasPassed input plan cells history actor 0 old
  passed-none {old} = made-none (λ later. IsCaller input plan later actor old)

  -- one look, as a turn makes it
  pub passed-one : MoreIsPlayed → {history : History} (old : Caller) {new : Caller} → Sees input plan cells history
      → HasLooked input plan history actor old new Visited → HasPassed input plan cells history actor 1 new
  passed-one more {history} old {new} sees turned =
      made-one history (λ later. IsCaller input plan later actor new) refl turned.1
      (sees-more more actor turned.0 sees turned.1) turned.2

  -- so many looks, one after another
  pub passed-ahead : TicketsGrow → CallersRead → CallerLinesGrow → CallersCount → MoreIsPlayed
      → {history : History} {ticket : ℕ} (old : Caller) {walk : WalkData} {climb : Climb} {limit : ℕ}
      → length history ≡ ticket → LooksAhead input plan cells actor walk climb limit
      → HasPassed input plan cells history actor 0 (behind walk old ticket climb 0) → (count : ℕ) → count ≤ limit
      → HasPassed input plan cells history actor count (behind walk old ticket (climb_past plan climb count) count)
  passed-ahead grow read lines counts more old place at passed zero low = passed
  passed-ahead grow read lines counts more {history} {ticket} old {walk} {climb} place at passed (suc count) low =
      let here : Climb = climb_past plan climb count in
      let there : Climb = climb_past plan climb (suc count) in
      let key : Key = Entry here.level (cluster_at plan here) walk.sub in
      let entry : PassesEntry plan walk here = at.each count low in
      let one : Makes input plan cells cells (ticket + count) actor 1
      (λ now. IsCaller input plan now actor (behind walk old ticket here count))
      (λ now. IsCaller input plan now actor (behind walk old ticket there (suc count))) =
      λ now sees far its.
      let reads : 0 ≡ cell (setting_over input plan) now key =
      sym (at.empty count low) ∙ sees.hold.words key (rw sees.hold.subs at (at.cell count low)) in
      passed-one more (behind walk old ticket here count) sees (looked-on read lines counts at.high sees refl its
      (looks grow (walk_at walk there) at.high its (behind-walk walk old ticket here count) entry.key reads refl
      entry.pursuit) entry.over (sym entry.on)
      (behind-more walk old here there count (λ none. omega (arith, none, far)))) in
      let New : History → Type 0 =
      λ later. IsCaller input plan later actor (behind walk old ticket there (suc count)) in
      subst (λ n. AreMade input plan cells history actor n New) (add-one count)
      (made-joined (passed-ahead grow read lines counts more old place at passed count (omega (arith, low))) place one)

  -- looks, and one more
  pub looked-through : MoreIsPlayed → {history : History} {ticket count : ℕ} {far new : Caller}
      → length history ≡ ticket → HasPassed input plan cells history actor count far
      → Looks input plan cells (ticket + count) actor far new Visited
      → HasPassed input plan cells history actor (count + 1) new
  looked-through more {far} place all last =
      made-joined all place (λ now sees at its. passed-one more far sees (last now sees at its))

  -- looks behind which none is left
  pub looks-ended : {history : History} {ticket count : ℕ} (most : ℕ) {far new : Caller} → length history ≡ ticket
      → HasPassed input plan cells history actor count far
      → Looks input plan cells (ticket + count) actor far new Finished
      → (made : HasPassed input plan cells history actor count new) × (count < most
      → next (setting_over input plan) (scripts_of input) (history ++ made.visits) actor ≡ None)
  looks-ended {history} most place all last =
      let done = last (history ++ all.visits) all.sees (made-count all place) all.its in
      (made-as all all.sees (rw done.1 all.its), λ fewer. done.0)

  -- and where they were none, nothing changes
  pub looks-still : {history : History} {ticket count : ℕ} {far new : Caller} → length history ≡ ticket
      → HasPassed input plan cells history actor count far
      → Looks input plan cells (ticket + count) actor far new Finished → new ≡ far
  looks-still {history} place all last = (last (history ++ all.visits) all.sees (made-count all place) all.its).1

-- and where there are some, the caller keeps a walk and a first ticket
pub behind-some : (walk : WalkData) {after : WalkData} (old : Caller) (ticket : ℕ) (climb : Climb) (count : ℕ)
    {first : ℕ} → 0 < count → after ≡ walk_at walk climb → first ≡ unwrap_or old.first ticket
    → behind walk old ticket climb count ≡ record old { walk = Some after; first = Some first }
behind-some walk old ticket climb zero some same kept = absurd (omega (arith, some))
behind-some walk old ticket climb (suc count) some same kept = rw (same, kept)
