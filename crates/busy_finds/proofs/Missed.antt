-- How many of finds in turn met no address, or a node that was emptied: each is charged to a move of its own.
use Rattle.std.proofs.Common.{◌≡◌, ◌⊎◌, inl, inr, ℕ, suc, ◌+◌, ◌-◌, ◌<◌, ◌≤◌, ◌^◌, cond, List, [], ◌∷◌, ◌++◌, Some, take, drop, length, refl, sym, ap, ◌∙◌, subst, arith}
use Rattle.std.specs.Prelude.{slice_get, sum_by}
use Rattle.std.proofs.lemmas.Bool.{cases_lt, eq-eqb}
use Rattle.std.proofs.lemmas.List.{take-append-drop}
use Rattle.std.proofs.lemmas.List.Sums.{sum_by-append, sum_by-cons, sum_by_push}
use Rattle.std.proofs.lemmas.Option.{slice_get_within}
use Rattle.directory.specs.Settings.{Setting}
use Rattle.directory.specs.Courses.{Move}
use Rattle.directory.specs.Finds.{FindCall}
use Rattle.directory.specs.Histories.{before, History}
use Rattle.directory.specs.Legal.{IsLegal}
use Rattle.directory.specs.Looks.{first_of, IsFind, last_of, look_by}
use Rattle.directory.specs.StepLaws.{take-more}
use Rattle.directory.specs.declared.answers.Found.{Found}
use Rattle.directory.specs.declared.answers.Found.TheVariants.{At, Off as OffAt, Again}
use Rattle.directory.specs.declared.answers.Why.TheVariants.{Empty as EmptyAt, NoEntry, Chased}
use Rattle.trail_laws.specs.Rightness.{ReadsTop}
use Rattle.busy_finds.specs.Again.{EmptyMeetsPurge, HasPurged}
use Rattle.busy_finds.specs.Altogether.{AreInTurn, MadeFind, missed_once, MissedFindsAreFew, top_once}
use Rattle.busy_finds.specs.LawsBelow.{MarkLaws}
use Rattle.busy_finds.specs.Within.{ArePast, moves_of, NoEntryMeetsTop}
use Rattle.busy_finds.proofs.Altogether.{sum-front}
use Rattle.busy_finds.proofs.ByStretch.{in-order}
use Rattle.busy_finds.proofs.Looks.{looks-end}
use Rattle.busy_finds.proofs.Past.{past-early, past-later, past-none}

-- a find's looks are visits of the history
looks-within : (setting : Setting) (history : History) (actor : ℕ) (call : FindCall) (found : Found) (tickets : List ℕ)
    → IsFind setting history actor call found tickets → last_of tickets < length history
looks-within setting history actor call found tickets find =
    looks-end setting history actor call (last_of tickets) (λ t pursuit. t < length history)
    (λ t u pursuit key later by is_look wanted now. slice_get_within history u (look_by actor key) is_look)
    tickets find (omega arith) (λ t key is_first by is_look wanted. slice_get_within history t (look_by actor key) is_look)

module _ (laws : MarkLaws) (empties : EmptyMeetsPurge) (meets : NoEntryMeetsTop) (setting : Setting) (history : History)
    (sub : ℕ) (few : setting.nodes ≤ 2 ^ 16) (reads : ReadsTop setting) (legal : IsLegal setting sub history) where
  abbrev tops : List Move → ℕ
  tops moves = sum_by (top_once setting) moves

  abbrev all_moves : List Move
  all_moves = moves_of setting sub history

  later-past : (latest t u : ℕ) → t ≤ u → u ≤ length history → ArePast setting sub (before t history) latest
      → ArePast setting sub (before u history) latest
  later-past latest t u = past-later laws setting sub history few legal latest t u

  -- a move that renews the top level, and was past before a find's last look but not before its first
  record IsCharged (first last : ℕ) : Type 0 where
    move : Move
    is : slice_get all_moves (move.number - 1) ≡ Some move
    top : move.renewed ≡ setting.top
    past : ArePast setting sub (before last history) move.number
    not_yet : ArePast setting sub (before first history) move.number → ⊥

  charged : (actor from : ℕ) (found : Found) (tickets : List ℕ) → from < setting.nodes
      → IsFind setting history actor (record { from = from; sub = sub }) found tickets
      → (missed_once found ≡ 0) ⊎ ((missed_once found ≡ 1) × IsCharged (first_of tickets) (last_of tickets))
  charged actor from (At node p level weight) tickets inside find = inl refl
  charged actor from (OffAt node p level weight) tickets inside find = inl refl
  charged actor from (Again Chased weight) tickets inside find = inl refl
  charged actor from (Again (EmptyAt node) weight) tickets inside find =
      let within = looks-within setting history actor _ _ tickets find in
      let met = empties setting history actor (record { from = from; sub = sub }) node weight tickets few inside legal find in
      let purged : HasPurged setting sub history met.0 node met.1 (last_of tickets) = met.4 in
      inr (
        refl,
        record {
          move = met.0;
          is = purged.is;
          top = purged.top;
          past = purged.past;
          not_yet = λ past. purged.not_yet (later-past met.0.number (first_of tickets) met.1 met.2
              (omega (arith, within, purged.after, purged.by)) past);
        },
      )
  charged actor from (Again NoEntry weight) tickets inside find =
      let within = looks-within setting history actor _ _ tickets find in
      let met = meets setting history actor (record { from = from; sub = sub }) weight tickets few reads inside legal find in
      inr (
        refl,
        record {
          move = met.0;
          is = met.2.is;
          top = met.1;
          past = later-past met.0.number (suc met.3.0) (last_of tickets) (omega (arith, met.3.2)) (omega (arith, within)) met.3.4;
          not_yet = λ past. absurd (omega (arith, past.committed, met.2.after));
        },
      )

  -- such a move comes behind all that were past before
  once-more : (latest first last : ℕ) → first ≤ length history → ArePast setting sub (before first history) latest
      → (c : IsCharged first last) → tops (take latest all_moves) + 1 ≤ tops (take c.move.number all_moves)
  once-more latest first last low past c = elim (cases_lt latest c.move.number) [
    | inr early ↦ absurd (c.not_yet (past-early laws setting sub history few legal latest c.move.number first early past))
    | inl later ↦
        let some : suc (c.move.number - 1) ≡ c.move.number = omega (arith, later) in
        let one : top_once setting c.move ≡ 1 = ap (λ b. cond b 1 0) (eq-eqb c.move.renewed setting.top c.top) in
        let front : take c.move.number all_moves ≡ take (c.move.number - 1) all_moves ++ c.move ∷ [] =
        ap (λ n. take n all_moves) (sym some) ∙ take-more all_moves (c.move.number - 1) c.move c.is in
        omega (
          arith,
          ap tops front,
          sum_by_push (top_once setting) (take (c.move.number - 1) all_moves) c.move,
          one,
          sum-front (top_once setting) all_moves latest (c.move.number - 1) (omega (arith, later)),
        )
  ]

  each-once : (earliest since latest : ℕ) (finds : List MadeFind) → since ≤ earliest
      → ArePast setting sub (before since history) latest → AreInTurn setting history sub earliest finds
      → tops (take latest all_moves) + sum_by (λ (find : MadeFind). missed_once find.found) finds ≤ tops all_moves
  each-once earliest since latest [] low past turns = omega (
    arith,
    ap tops (take-append-drop latest all_moves),
    sum_by-append (top_once setting) (take latest all_moves) (drop latest all_moves),
  )
  each-once earliest since latest (find ∷ later) low past (same, inside, is, after, turns) =
      elim (charged find.actor find.call.from find.found find.tickets inside made) [
        | inl none ↦ omega (
          arith,
          none,
          sum_by-cons (λ (f : MadeFind). missed_once f.found) find later,
          each-once (last_of find.tickets) since latest later (omega (arith, low, after, in-order is)) past turns,
        )
        | inr (one, its) ↦ omega (
          arith,
          one,
          sum_by-cons (λ (f : MadeFind). missed_once f.found) find later,
          once-more latest (first_of find.tickets) (last_of find.tickets)
              (omega (arith, within, in-order is))
              (later-past latest since (first_of find.tickets) (omega (arith, low, after))
              (omega (arith, within, in-order is)) past)
              its,
          each-once (last_of find.tickets) (last_of find.tickets) its.move.number later (omega arith) its.past turns,
        )
      ]
    where
      made : IsFind setting history find.actor (record { from = find.call.from; sub = sub }) find.found find.tickets
      made = subst (λ s. IsFind setting history find.actor (record { from = find.call.from; sub = s }) find.found find.tickets)
          same is

      within : last_of find.tickets < length history
      within = looks-within setting history find.actor find.call find.found find.tickets is

pub missed-few : MarkLaws → EmptyMeetsPurge → NoEntryMeetsTop → MissedFindsAreFew
missed-few laws empties meets setting history sub finds few reads legal turns =
    omega (
      arith,
      each-once laws empties meets setting history sub few reads legal 0 0 0 finds (omega arith)
          (past-none laws setting sub history few legal 0) turns,
    )
