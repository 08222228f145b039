-- The tickets that a pass keeps.
use Rattle.std.specs.Prelude.{◌||◌, slice_get}
use Rattle.node_set.specs.Ascending.{has}
use Rattle.std.proofs.Common.{get_or, add-one, Some, ◌≡◌, ℕ, zero, suc, ◌+◌, ◌^◌, ◌<◌, ◌≤◌, ◌==◌, Bool, false, List, [], ◌∷◌, ◌++◌, length, take, refl, ap, ◌∙◌, arith, Option, None, length-append}
use Rattle.std.proofs.Math.Bool.{or_assoc, or-false}
use Rattle.std.proofs.lemmas.Bool.Decides.{nat_tests}
use Rattle.std.proofs.lemmas.Option.{slice_get_within}
use Rattle.std.proofs.Math.Seq.{take-append_seam}
use Rattle.atomic_table.specs.Seated.{TableId}
use Rattle.atomic_table.specs.Table.{Me}
use Rattle.entry_word.specs.declared.visit.Act.{Act}
use Rattle.entry_word.specs.declared.visit.Visit.{Visit}
use Rattle.directory.specs.Histories.{History, before, changes_here, own, tickets, tickets_from}
use Rattle.station.specs.Setup.{setting_in}
use Rattle.station.specs.Plays.{Draws, view_held, view_inside, view_outside, visit_by, key_put, MayDo}
use Rattle.station.specs.Passes.{IsPass, PassData, actor_of}
use Rattle.station.specs.Turns.{Logs}
use Rattle.station.specs.declared.view.TurnEvent.TheVariants.{GivenBack, Won}
use Rattle.station.specs.Visits.{HasLeft, HasVisited, MayDraw}
use Rattle.station.specs.declared.view.TurnEvent.{TurnEvent}
use Rattle.station.specs.declared.view.View.{View}
use Rattle.station.specs.TicketLaws.{tickets-mine, tickets-same}
use Rattle.directory.specs.HistoryLaws.{tickets-count}
use Rattle.entry_word.specs.declared.visit.Key.{Key}
use Rattle.directory.specs.Keys.{act_node}

-- a pass has room for one visit more
pub own_few : {me : Me Act View} {actor seen spare : ℕ} {kept : List ℕ} {room : ℕ}
    → IsPass me actor seen spare kept room → 1 ≤ spare → length (own me.0.low me.0.seen) < 2 ^ 56
own_few {me} {actor} p h = grind (arith, tickets-count)

-- a view that leaves its node has written all, where it did so before
pub left_by : (there : View) {new : View} {unwritten : Option Key} {owes : Bool}
    → new ≡ view_outside (record there { unwritten = unwritten; owes = owes }) new.turns → unwritten ≡ None
    → owes ≡ false → HasLeft there new
left_by there e unwritten clear = rw e assumption

-- a lost turn leaves a pass a pass
pub lost_pass : {me new : Me Act View} {actor seen spare : ℕ} (node word : ℕ) {kept : List ℕ} {room : ℕ}
    → IsPass me actor seen spare kept room → new ≡ (view_held me.0 node word new.0.turns, me.1)
    → IsPass new actor seen spare kept room
lost_pass node word p e = rw e assumption

-- from the pass before to the pass after a whole visit
pub pass_done : {me : Me Act View} (two new : Me Act View) {actor seen spare : ℕ} (left : ℕ) {node ticket : ℕ}
    {kept : List ℕ} {room : ℕ} {act : Act} → IsPass me actor seen spare kept room → left + 1 ≡ spare
    → Draws (view_inside me.0 node act two.0.turns) node act ticket two.0 → HasLeft two.0 new.0 → new.1 ≡ me.1
    → IsPass new actor (suc ticket) left (kept ++ ticket ∷ []) room
pass_done {me} two new {actor} left {node} {ticket} {kept} {room} {act} p less d gone_by slots =
    grind (arith, tickets-same, tickets-mine, length-append)

-- a pass that takes its turn at a node may then draw the ticket of an act that puts nothing
pub may_draw : {me : Me Act View} {actor seen spare : ℕ} {kept : List ℕ} {room node : ℕ} (act : Act)
    (log : List TurnEvent) → IsPass me actor seen spare kept room → 1 ≤ spare
    → act_node (setting_in me.0.setup) act ≡ node → ((key : Key) → key_put act ≡ Some key → ⊥)
    → MayDo (view_inside me.0 node act log) act → MayDraw (view_inside me.0 node act log) node act
may_draw {me} act log p some at none may = grind (arith, own_few p some)

-- a view that has drawn the ticket of an act that puts nothing, and has looked, leaves its node
look_left : {old two there new : View} {node ticket : ℕ} {act : Act} → Draws old node act ticket two
    → key_put act ≡ None → ((history : History) → changes_here (setting_in old.setup) history act ≡ false) → there ≡ two
    → new ≡ view_outside there new.turns → HasLeft two new
look_left {two} {new} d none-put calm same gone = grind (arith, left_by)

-- a pass that has drawn the ticket of a look, and has looked, leaves the node with its visit made
pub look_done : {me two there new : Me Act View} {actor seen spare : ℕ} (left : ℕ) {node ticket : ℕ} {kept : List ℕ}
    {room : ℕ} {act : Act} → IsPass me actor seen spare kept room → left + 1 ≡ spare
    → Draws (view_inside me.0 node act two.0.turns) node act ticket two.0 → key_put act ≡ None
    → ((history : History) → changes_here (setting_in me.0.setup) history act ≡ false) → two.1 ≡ me.1 → there ≡ two
    → new ≡ (view_outside there.0 new.0.turns, there.1)
    → IsPass new actor (suc ticket) left (kept ++ ticket ∷ []) room
look_done {two} {new} left p less d none-put calm slots same gone =
    pass_done two new left p less d
    (look_left d none-put calm (ap (λ (m : Me Act View). m.0) same) (ap (λ (m : Me Act View). m.0) gone))
    (ap (λ (m : Me Act View). m.1) gone ∙ (ap (λ (m : Me Act View). m.1) same ∙ slots))

pub visit_done : (old new : PassData) {two : View} {node ticket : ℕ} {act : Act}
    → Draws (view_inside old.view node act two.turns) node act ticket two → HasLeft two new.view
    → act_node (setting_in old.view.setup) act ≡ node → Logs old.view.turns (Won (actor_of old) node) two.turns
    → Logs two.turns (GivenBack two.low node) new.view.turns → new.table ≡ old.table → new.seat ≡ old.seat
    → new.spare + 1 ≡ old.spare → HasVisited old act ticket new
visit_done old new {two} {node} {act = act} d gone_by at wins back table seat less = grind arith

pub pass_is : {me : Me Act View} {actor seen seen' spare : ℕ} {kept kept' : List ℕ} {room room' : ℕ}
    → IsPass me actor seen spare kept room → seen' ≡ seen → kept' ≡ kept → room' ≡ room
    → IsPass me actor seen' spare kept' room'
pass_is {me} {actor} {seen} {spare} {kept} {kept'} {room'} p a b c = grind arith

-- what comes before the last visit
pub before_last : (earlier : History) {seen : History} (visit : Visit) {ticket : ℕ} → length earlier ≡ ticket
    → seen ≡ earlier ++ visit ∷ [] → before ticket seen ≡ earlier
before_last earlier visit count is = rw (← count, is, take-append_seam)

pub seen_done : (v : View) {two new : View} {node ticket : ℕ} {act : Act}
    → (d : Draws (view_inside v node act two.turns) node act ticket two) → HasLeft two new
    → new.seen ≡ d.earlier ++ visit_by v act ∷ []
seen_done v d left = left.seen ∙ ap (λ (x : View). x.seen) d.view

-- such a pass has made its visit, and has looked just after all earlier visits, and its own
pub looked : {inside old : PassData} {two there : Me Act View} {new : View} {table : TableId}
    {actor node ticket seat spare : ℕ} {act : Act} → inside ≡ old → inside.view.low ≡ actor
    → Draws (view_inside inside.view node act two.0.turns) node act ticket two.0
    → Logs inside.view.turns (Won actor node) two.0.turns → key_put act ≡ None
    → ((history : History) → changes_here (setting_in inside.view.setup) history act ≡ false)
    → act_node (setting_in inside.view.setup) act ≡ node → there ≡ two → new ≡ view_outside there.0 new.turns
    → Logs there.0.turns (GivenBack there.0.low node) new.turns → table ≡ inside.table → seat ≡ inside.seat
    → spare + 1 ≡ inside.spare
    → HasVisited old act ticket (record { table = table; seat = seat; view = new; spare = spare })
    × (two.0.seen ≡ before ticket new.seen ++ visit_by old.view act ∷ [])
looked {inside} {two} {new} {table} {node} {ticket} {seat} {spare} {act} told low d wins none-put calm at same gone back
    of_table of_seat less = grind (arith, look_left, visit_done, before_last, seen_done)

-- tickets are those of visits
from-below : (actor t : ℕ) (xs : History) (k d : ℕ) → k < length (tickets_from actor t xs)
    → get_or (tickets_from actor t xs) k d < t + length xs
unfolding tickets_from
from-below actor t [] k d h = absurd (omega arith)
from-below actor t (x ∷ xs) k d h =
    let later = λ (j : ℕ) (g : j < length (tickets_from actor (suc t) xs)). from-below actor (suc t) xs j d g in
    grind (arith, nat_tests)

pub tickets-below : (actor : ℕ) (history : History) (k d : ℕ) → k < length (tickets actor history)
    → get_or (tickets actor history) k d < length history
tickets-below actor history k d h = omega (arith, from-below actor 0 history k d h)

-- whose ticket it is
first-above : (a s : ℕ) (ys : History) (y : ℕ) → y < s → has y (tickets_from a s ys) ≡ false
unfolding tickets_from
first-above a s [] y h = refl
first-above a s (v ∷ ys) y h = grind (arith, nat_tests, first-above a (suc s) ys y (omega arith))

from-has : (actor t i : ℕ) (xs : History) {visit : Visit} → slice_get xs i ≡ Some visit
    → has (t + i) (tickets_from actor t xs) ≡ (visit.actor == actor)
unfolding tickets_from
from-has actor t i [] {visit} e = absurd (omega (arith, slice_get_within [] i visit e))
from-has actor t zero (x ∷ xs) e = grind (arith, nat_tests, first-above actor (suc t) xs (t + 0) (omega arith))
from-has actor t (suc i) (x ∷ xs) e = grind (arith, nat_tests, from-has actor (suc t) i xs e)

pub tickets-has : (actor i : ℕ) (history : History) {visit : Visit} → slice_get history i ≡ Some visit
    → has i (tickets actor history) ≡ (visit.actor == actor)
tickets-has actor i history e = grind (arith, from-has actor 0 i history e)

-- one ticket more
pub has-taken : (x k : ℕ) (xs : List ℕ) (d : ℕ) → k < length xs
    → has x (take (k + 1) xs) ≡ (has x (take k xs) || (x == get_or xs k d))
has-taken x k xs d h = ap (λ (n : ℕ). has x (take n xs)) (add-one k) ∙ go x k xs h
  where
    go : (y j : ℕ) (ys : List ℕ) → j < length ys → has y (take (suc j) ys) ≡ (has y (take j ys) || (y == get_or ys j d))
    go y j [] g = absurd (omega arith)
    go y zero (z ∷ zs) g = or-false (y == z)
    go y (suc j) (z ∷ zs) g = grind (arith, or_assoc, go y j zs (omega arith))
