-- Many turns of an actor: none, one, and turns behind turns.
use Rattle.std.proofs.Common.{◌≡◌, ℕ, ◌+◌, [], ◌∷◌, ◌++◌, length, refl, arith, append_assoc}
use Rattle.std.specs.Prelude.{Some}
use Rattle.std.proofs.lemmas.List.{append-nil, length-append, length-map, length-replicate, map-append, replicate-append-replicate, nil_from_length}
use Rattle.entry_word.specs.declared.visit.Visit.{Visit}
use Rattle.directory.specs.Histories.{History}
use Rattle.directory.specs.Orders.{Scripts, next}
use Rattle.directory.specs.Settings.{Setting}
use Rattle.directory.specs.Statements.{MoreIsPlayed}
use Rattle.net_reader.specs.Input.{Contents}
use Rattle.region_plan.specs.Plan.{PlanData}
use Rattle.visit_log.specs.Cells.{CellData, GoWith, Hold}
use Rattle.scripts.specs.Scripts.{scripts_of}
use Rattle.machine.specs.Stands.{AreMade, Sees, setting_over}
use Rattle.machine.proofs.Finishing.{turns-joined}

-- each actor makes its own visits
abbrev pub NextIsOwn : Type 0
NextIsOwn =
    (setting : Setting) (scripts : Scripts) (history : History) (actor : ℕ) (visit : Visit)
    → next setting scripts history actor ≡ Some visit → visit.actor ≡ actor

-- an actor has a next visit, cells hold it, and this holds of the history with it
abbrev pub HasNext : Contents → PlanData → CellData → History → ℕ → (History → Type 0) → Type 0
HasNext input plan after history actor New =
    (visit : Visit) × (next (setting_over input plan) (scripts_of input) history actor ≡ Some visit)
    × New (history ++ visit ∷ []) × GoWith plan after × Hold plan input.homes after (history ++ visit ∷ [])

-- so many turns of an actor, whichever history that is
abbrev pub Makes : Contents → PlanData → CellData → CellData → ℕ → ℕ → ℕ → (History → Type 0) → (History → Type 0)
    → Type 0
Makes input plan cells after ticket actor count First Then =
    (history : History) → Sees input plan cells history → length history ≡ ticket → First history
    → AreMade input plan after history actor count Then

-- such a history
abbrev pub MayMake : Contents → PlanData → CellData → ℕ → (History → Type 0) → Type 0
MayMake input plan cells ticket First =
    (history : History) × Sees input plan cells history × (length history ≡ ticket) × First history

module _ {input : Contents} {plan : PlanData} {actor : ℕ} where
  -- no turns
  pub made-none : {cells : CellData} {history : History} (Holds : History → Type 0) → Sees input plan cells history
      → Holds history → AreMade input plan cells history actor 0 Holds
  made-none {history} Holds sees its = grind (arith, append-nil)

  -- a turn that makes a visit
  pub made-one : {cells : CellData} (history : History) {visit : Visit} (Holds : History → Type 0)
      → visit.actor ≡ actor → next (setting_over input plan) (scripts_of input) history actor ≡ Some visit
      → Sees input plan cells (history ++ visit ∷ []) → Holds (history ++ visit ∷ [])
      → AreMade input plan cells history actor 1 Holds
  made-one history {visit} Holds mine wants sees its = grind arith

  -- the turn of a next visit
  pub made-next : MoreIsPlayed → NextIsOwn → {cells after : CellData} {history : History} (New : History → Type 0)
      → Sees input plan cells history → HasNext input plan after history actor New
      → AreMade input plan after history actor 1 New
  made-next more mine {history} New sees done =
      made-one history New (mine (setting_over input plan) (scripts_of input) history actor done.0 done.1) done.1
      (record {
        played = more (setting_over input plan) (scripts_of input) history actor done.0 done.1 sees.played;
        goes = done.3;
        hold = done.4;
      }) done.2

  -- the same turns, whose cells and whose end are known otherwise
  abbrev pub made-as : {cells after : CellData} {history : History} {count : ℕ} {First Then : History → Type 0}
      (made : AreMade input plan cells history actor count First) → Sees input plan after (history ++ made.visits)
      → Then (history ++ made.visits) → AreMade input plan after history actor count Then
  made-as made sees its =
      record { visits = made.visits; turns = made.turns; actors = made.actors; sees = sees; its = its }

  -- how many visits there were
  pub made-count : {cells : CellData} {history : History} {ticket count : ℕ} {Holds : History → Type 0}
      (made : AreMade input plan cells history actor count Holds) → length history ≡ ticket
      → length (history ++ made.visits) ≡ ticket + count
  made-count {history} {count} made place = grind (arith, length-append, length-map, length-replicate)

  -- and where there were none, there are none
  pub no-visits : {cells : CellData} {history : History} {count : ℕ} {Holds : History → Type 0}
      (made : AreMade input plan cells history actor count Holds) → count ≡ 0 → made.visits ≡ []
  no-visits {history} made none =
      nil_from_length made.visits (omega (arith, none, made-count made refl, length-append history made.visits))

  -- turns behind turns
  pub made-joined : {before after : CellData} {history : History} {ticket count more : ℕ}
      {First Then : History → Type 0} → AreMade input plan before history actor count First → length history ≡ ticket
      → Makes input plan before after (ticket + count) actor more First Then
      → AreMade input plan after history actor (count + more) Then
  made-joined {after} {history} {count} {more} {Then} first place then =
      let rest = then (history ++ first.visits) first.sees (made-count first place) first.its in
      let joined : (history ++ first.visits) ++ rest.visits ≡ history ++ (first.visits ++ rest.visits) =
      append_assoc history first.visits rest.visits in
      grind (arith, turns-joined, map-append, replicate-append-replicate)

  -- the same, whichever history that is
  pub turns-behind : {cells between after : CellData} {ticket count more : ℕ} {First Mid Then : History → Type 0}
      → Makes input plan cells between ticket actor count First Mid
      → Makes input plan between after (ticket + count) actor more Mid Then
      → Makes input plan cells after ticket actor (count + more) First Then
  turns-behind first then history sees place its = made-joined (first history sees place its) place then

  -- an actor behind turns has its turn
  pub may-follow : {cells after : CellData} {ticket count : ℕ} {First Then : History → Type 0}
      → MayMake input plan cells ticket First → Makes input plan cells after ticket actor count First Then
      → MayMake input plan after (ticket + count) Then
  may-follow may then =
      let made = then may.0 may.1 may.2 may.3 in (may.0 ++ made.visits, made.sees, made-count made may.2, made.its)
