use Rattle.std.proofs.Common.{◌≡◌, ℕ, suc, ◌+◌, List, [], ◌∷◌, ◌++◌, Some, None, Option, cond, eq-eqb, length, map, take, drop, refl, sym, ap, ◌∙◌, subst, arith, length-append}
use Rattle.std.proofs.lemmas.List.{append-nil, append_cancel_left}
use Rattle.std.proofs.lemmas.List.Elements.{All-head}
use Rattle.directory.specs.Histories.{History, IsFront, own}
use Rattle.directory.specs.Keys.{act_node}
use Rattle.directory.specs.Orders.{next}
use Rattle.directory.specs.Settings.{Setting}
use Rattle.directory.specs.Writes.{writes}
use Rattle.entry_word.specs.declared.visit.Visit.{Visit}
use Rattle.net_reader.specs.Input.{Contents}
use Rattle.scripts.specs.Scripts.{scripts_of}
use Rattle.station.specs.Passes.{PassData, TrackerData, actor_of}
use Rattle.station.specs.Setup.{Setup, setting_in}
use Rattle.station.specs.Turns.{LogsAll, event_actor, lost_in}
use Rattle.station.specs.Views.{turn_at}
use Rattle.station.specs.declared.view.NodeTurn.{NodeTurn}
use Rattle.station.specs.declared.view.TurnEvent.{TurnEvent}
use Rattle.station.specs.declared.view.TurnEvent.TheVariants.{GivenBack, Lost, Won}
use Rattle.runner.specs.Examples.{HasSeen, count_by, line_setup, moving_input, moving_visits, switching_input}
use Rattle.runner.specs.Playing.{next_of}
use Rattle.runner.specs.Workers.{AreLostBefore, HasGoneOn, HaveTurns}
use Rattle.runner.specs.declared.worker.Worker.{Worker}
use Rattle.runner.proofs.Turning.{turns-mine}
use Rattle.runner.proofs.Idle.{idle-next}
use Rattle.runner.proofs.wrong.wrong_plays.Goals as goal

lost_more : {input : Contents} {tracker : TrackerData} {old new : Worker} {held : ℕ}
    → HasGoneOn input tracker old new held → length new.pass.view.lost ≡ length old.pass.view.lost + held
lost_more {old} gone =
    omega (arith, ap length gone.logged.lost, length-append old.pass.view.lost (lost_in gone.events), gone.count)

pub returns-clause-finished : goal.returns-clause-finished
returns-clause-finished c = λ input tracker tries old new visit played left.
    let no : ◌≡◌ {A = Option Visit} None (Some visit) = sym played.says.0 ∙ left in cc

pub returns-clause-many : goal.returns-clause-many
returns-clause-many c = λ input tracker old new played before after.
    let none : length old.pass.view.lost ≡ 0 = ap (λ (turns : List NodeTurn). length turns) before in
    let one : length new.pass.view.lost ≡ 1 = ap (λ (turns : List NodeTurn). length turns) after in
    omega (arith, played.says.1, lost_more played.gone, none, one)

pub returns-clause-stopped : goal.returns-clause-stopped
returns-clause-stopped c = λ input tracker tries held kept old new played none. played.says.0 none

pub returns-clause-early : goal.returns-clause-early
returns-clause-early c = λ input tracker old new played. let e : 3 + 4 ≡ 10 = played.says.1 in omega (arith, e)

pub returns-clause-unlost : goal.returns-clause-unlost
returns-clause-unlost c = λ input tracker tries kept old new played same.
    let still : length new.pass.view.lost ≡ length old.pass.view.lost =
    ap (λ (turns : List NodeTurn). length turns) same in
    omega (arith, played.says.2, lost_more played.gone, still)

-- the turns of a play by what its pass has seen
turns_of : {input : Contents} {tracker : TrackerData} {setup : Setup} {old new : Worker} {held actor : ℕ}
    {before after : History} (visits : List Visit) {events : List TurnEvent} → tracker.setup ≡ setup
    → HasSeen old actor before → HasSeen new actor after → (gone : HasGoneOn input tracker old new held)
    → own actor after ≡ own actor before ++ visits → gone.events ≡ events
    → HaveTurns (setting_in setup) actor (next (setting_in setup) (scripts_of input) after actor) visits events
turns_of {actor = actor} {before} {after} visits told one two gone made are =
    let more : own actor after ≡ own actor before ++ gone.visits =
    rw (one.low, one.seen_is, two.seen_is) at gone.made in
    let same : gone.visits ≡ visits = append_cancel_left (own actor before) gone.visits visits (sym more ∙ made) in
    rw (told, one.low, two.seen_is, two.low, same, are) at gone.turns

-- turns that begin with one that is lost, are won or given back
lost_here : (actor node : ℕ) {by at word : ℕ} (words : List ℕ) {later : List TurnEvent} (rest : List TurnEvent)
    → Lost by at word ∷ later ≡ map (λ w. Lost actor node w) words ++ Won actor node ∷ rest → at ≡ node
lost_here actor node [] rest e = cc
lost_here actor node (w ∷ words) rest e = cc

lost_next : (setting : Setting) (actor by at word : ℕ) (visit : Visit) (later : List TurnEvent)
    → AreLostBefore setting actor (Some visit) (Lost by at word ∷ later) → at ≡ act_node setting visit.act
lost_next setting actor by at word visit later lost = go lost.0 lost.1
  where
    go : (words : List ℕ) → Lost by at word ∷ later ≡ map (λ w. Lost actor (act_node setting visit.act) w) words
        → at ≡ act_node setting visit.act
    go [] e = cc
    go (w ∷ words) e = cc

won_here : {actor : ℕ} (node : ℕ) {at : ℕ} (words : List ℕ) {later : List TurnEvent} (rest : List TurnEvent)
    → Won actor at ∷ later ≡ map (λ w. Lost actor node w) words ++ Won actor node ∷ rest → (at ≡ node) × (later ≡ rest)
won_here node [] rest e = (cc, cc)
won_here node (w ∷ words) rest e = cc

won_no : (setting : Setting) (actor by at : ℕ) (after : Option Visit) (later : List TurnEvent)
    → AreLostBefore setting actor after (Won by at ∷ later) → ⊥
won_no setting actor by at None later e = cc
won_no setting actor by at (Some visit) later lost = go lost.0 lost.1
  where
    go : (words : List ℕ) → Won by at ∷ later ≡ map (λ w. Lost actor (act_node setting visit.act) w) words → ⊥
    go [] e = cc
    go (w ∷ words) e = cc

-- what is lost first is lost at the node of the first visit
first_lost : (setting : Setting) (actor at word : ℕ) (after : Option Visit) (visit : Visit) (visits : List Visit)
    (later : List TurnEvent) → HaveTurns setting actor after (visit ∷ visits) (Lost actor at word ∷ later)
    → at ≡ act_node setting visit.act
first_lost setting actor at word after visit visits later turns =
    let node = act_node setting visit.act in
    lost_here actor node turns.2.0 (GivenBack actor node ∷ turns.1)
    (turns.3 ∙ ap (λ l. l ++ Won actor node ∷ GivenBack actor node ∷ turns.1) turns.2.1)

-- a turn that is won first is that of the first visit, and is given back then
first_won : (setting : Setting) (actor at : ℕ) (after : Option Visit) (visit : Visit) (visits : List Visit)
    (later : List TurnEvent) → HaveTurns setting actor after (visit ∷ visits) (Won actor at ∷ later)
    → (at ≡ act_node setting visit.act)
    × (rest : List TurnEvent) × (later ≡ GivenBack actor (act_node setting visit.act) ∷ rest)
    × HaveTurns setting actor after visits rest
first_won setting actor at after visit visits later turns =
    let node = act_node setting visit.act in
    let won = won_here node turns.2.0 (GivenBack actor node ∷ turns.1)
    (turns.3 ∙ ap (λ l. l ++ Won actor node ∷ GivenBack actor node ∷ turns.1) turns.2.1) in
    (won.0, turns.1, won.1, turns.4)

pub returns-clause-unmade : goal.returns-clause-unmade
returns-clause-unmade c = λ input tracker tries old new played one two has events.
    won_no (setting_in tracker.setup) 0 0 2 (next (setting_in tracker.setup) (scripts_of input) [] 0)
    (GivenBack 0 2 ∷ [])
    (turns_of [] refl one two has.gone refl events)

pub returns-clause-stranger : goal.returns-clause-stranger
returns-clause-stranger c = λ input tracker tries old new played event events one has are its.
    let mine = λ (e : TurnEvent). event_actor e ≡ actor_of old.pass in
    let first = All-head mine event events
    (rw are at (turns-mine (setting_in tracker.setup) (actor_of old.pass) (next_of input tracker.setup new.pass.view)
    has.gone.visits has.gone.events has.gone.turns)) in
    omega (arith, first, one.low, its)

pub returns-clause-unlogged : goal.returns-clause-unlogged
returns-clause-unlogged c = λ input tracker tries old new played none has events.
    let logs : LogsAll old.pass.view.turns (Won 0 2 ∷ []) new.pass.view.turns = rw events at has.gone.logged.logs in
    let here = logs.1.goes_on in
    omega (
      arith,
      ap (λ (l : List TurnEvent). length l) none,
      ap (λ (l : List TurnEvent). length l) logs.2,
      ap (λ (l : List TurnEvent). length l) here,
      length-append (old.pass.view.turns ++ logs.1.later) (Won 0 2 ∷ []),
    )

pub returns-clause-roomy : goal.returns-clause-roomy
returns-clause-roomy c = λ input tracker tries old new played has same more. omega (arith, has.gone.spare, same, more)

-- the turns that a play lost, where it had lost none
lost_turns : {input : Contents} {tracker : TrackerData} {old new : Worker} {held : ℕ} {turns : List NodeTurn}
    → (gone : HasGoneOn input tracker old new held) → old.pass.view.lost ≡ [] → new.pass.view.lost ≡ turns
    → lost_in gone.events ≡ turns
lost_turns gone before after =
    sym (gone.logged.lost ∙ ap (λ ts. ts ++ lost_in gone.events) before) ∙ after

-- the first visit of the subscriber that is switched off is where it starts
off-next : (visit : Visit) × (next (setting_in line_setup) (scripts_of switching_input) [] 0 ≡ Some visit)
    × (act_node (setting_in line_setup) visit.act ≡ 3)
unfolding writes
off-next = (_, refl, refl)

-- where they are lost at one node
lost_all : (actor node : ℕ) (words : List ℕ) {turn : NodeTurn} {turns : List NodeTurn}
    → lost_in (map (λ word. Lost actor node word) words) ≡ turn ∷ turns → node ≡ turn.node
lost_all actor node [] e = cc
lost_all actor node (word ∷ words) {turn} e =
    let same : turn_at node word ≡ turn = cc in ap (λ (t : NodeTurn). t.node) same

pub returns-clause-idle : goal.returns-clause-idle
returns-clause-idle c = λ tracker tries old new setup one two before after has.
    let none = subst (λ v. AreLostBefore (setting_in line_setup) 1 v has.gone.events) idle-next
    (turns_of [] setup one two has.gone refl refl) in
    let e : ◌≡◌ {A = ℕ} 0 1 = ap length (sym (ap lost_in none)
    ∙ lost_turns has.gone before after) in
    omega (arith, e)

pub returns-clause-elsewhere : goal.returns-clause-elsewhere
returns-clause-elsewhere c = λ tracker tries old new played setup one two before after has.
    let lost = subst (λ v. AreLostBefore (setting_in line_setup) 0 v has.gone.events) off-next.1
    (turns_of [] setup one two has.gone refl refl) in
    let at = lost_all 0 (act_node (setting_in line_setup) off-next.0.act) lost.0
    (sym (ap lost_in lost.1) ∙ lost_turns has.gone before after) in
    let e : ◌≡◌ {A = ℕ} 3 2 = sym off-next.2 ∙ at in
    omega (arith, e)

-- the first visit of the subscriber that moves is at node 2
moves-first : (visit : Visit) × (later : List Visit) × (moving_visits ≡ visit ∷ later)
    × (act_node (setting_in line_setup) visit.act ≡ 2) × (visit.actor ≡ 0)
    × (next (setting_in line_setup) (scripts_of moving_input) [] 0 ≡ Some visit)
unfolding writes
moves-first = (_, _, refl, refl, refl, refl)

-- and its second one at node 0
moves-second : (visit : Visit)
    × (next (setting_in line_setup) (scripts_of moving_input) (take 1 moving_visits) 0 ≡ Some visit)
    × (act_node (setting_in line_setup) visit.act ≡ 0)
unfolding writes
moves-second = (_, refl, refl)

-- the first of these visits are its own
moves-own : (count : ℕ)
    → own 0 (take (suc count) moving_visits) ≡ moves-first.0 ∷ own 0 (take count moves-first.1)
moves-own count =
    ap (λ (h : History). own 0 (take (suc count) h)) moves-first.2
    ∙ ap (λ b. cond b (moves-first.0 ∷ own 0 (take count moves-first.1)) (own 0 (take count moves-first.1)))
    (eq-eqb moves-first.0.actor 0 moves-first.4)

-- the visit that is next behind so many
abbrev moves-next : ℕ → Option Visit
moves-next count = next (setting_in line_setup) (scripts_of moving_input) (take count moving_visits) 0

-- the turns of a play that begins with the first visit
moved_turns : {tracker : TrackerData} {old new : Worker} {held : ℕ} (count : ℕ) {events : List TurnEvent}
    → tracker.setup ≡ line_setup → HasSeen old 0 [] → HasSeen new 0 (take (suc count) moving_visits)
    → (gone : HasGoneOn moving_input tracker old new held) → gone.events ≡ events
    → HaveTurns (setting_in line_setup) 0 (moves-next (suc count)) (moves-first.0 ∷ own 0 (take count moves-first.1))
    events
moved_turns count setup one two gone are =
    turns_of (moves-first.0 ∷ own 0 (take count moves-first.1)) setup one two gone (moves-own count) are

pub returns-clause-sooner : goal.returns-clause-sooner
returns-clause-sooner c = λ tracker tries old new played setup one two has events.
    let seen = take 1 moving_visits in
    let lost = subst (λ v. AreLostBefore (setting_in line_setup) 0 v (Lost 0 2 2 ∷ [])) moves-second.1
    (turns_of [] setup one two has.gone (sym (append-nil (own 0 seen))) events) in
    let e : ◌≡◌ {A = ℕ} 2 0 = lost_next (setting_in line_setup) 0 0 2 2 moves-second.0 [] lost ∙ moves-second.2 in
    omega (arith, e)

pub returns-clause-later : goal.returns-clause-later
returns-clause-later c = λ tracker tries old new played setup one two has events.
    let lost = subst (λ v. AreLostBefore (setting_in line_setup) 0 v (Lost 0 0 2 ∷ [])) moves-first.5
    (turns_of [] setup one two has.gone refl events) in
    let e : ◌≡◌ {A = ℕ} 0 2 = lost_next (setting_in line_setup) 0 0 0 2 moves-first.0 [] lost ∙ moves-first.3 in
    omega (arith, e)

pub returns-clause-ahead : goal.returns-clause-ahead
returns-clause-ahead c = λ tracker tries count old new played events setup one two has are.
    let e : ◌≡◌ {A = ℕ} 3 2 = first_lost (setting_in line_setup) 0 3 2 (moves-next (suc count)) moves-first.0
    (own 0 (take count moves-first.1)) events
    (moved_turns count setup one two has.gone are) ∙ moves-first.3 in
    omega (arith, e)

pub returns-clause-behind : goal.returns-clause-behind
returns-clause-behind c = λ tracker tries old new played setup one two has are.
    let won = first_won (setting_in line_setup) 0 2 (moves-next 1) moves-first.0 [] (GivenBack 0 2 ∷ Lost 0 2 2 ∷ [])
    (moved_turns 0 setup one two has.gone are) in
    let rest : won.1 ≡ Lost 0 2 2 ∷ [] = ap (drop 1) (sym won.2) in
    let lost = subst (λ v. AreLostBefore (setting_in line_setup) 0 v (Lost 0 2 2 ∷ [])) moves-second.1
    (subst (λ es. AreLostBefore (setting_in line_setup) 0 (moves-next 1) es) rest won.3) in
    let e : ◌≡◌ {A = ℕ} 2 0 = lost_next (setting_in line_setup) 0 0 2 2 moves-second.0 [] lost ∙ moves-second.2 in
    omega (arith, e)

pub returns-clause-aside : goal.returns-clause-aside
returns-clause-aside c = λ tracker tries old new played setup one two has are.
    let won = first_won (setting_in line_setup) 0 3 (moves-next 1) moves-first.0 [] (GivenBack 0 3 ∷ [])
    (moved_turns 0 setup one two has.gone are) in
    let e : ◌≡◌ {A = ℕ} 3 2 = won.0 ∙ moves-first.3 in
    omega (arith, e)

pub returns-clause-held : goal.returns-clause-held
returns-clause-held c = λ tracker tries old new played setup one two has are.
    let won = first_won (setting_in line_setup) 0 2 (moves-next 1) moves-first.0 [] []
    (moved_turns 0 setup one two has.gone are) in
    cc won.2

pub returns-clause-forgotten : goal.returns-clause-forgotten
returns-clause-forgotten c = λ input tracker tries old new played seen none has.
    let no : IsFront (count_by 0 ∷ []) [] = rw (none.seen_is, seen.seen_is) at has.gone.begins in cc

pub returns-clause-actor : goal.returns-clause-actor
returns-clause-actor c = λ input tracker tries old new played zeroth first has.
    omega (arith, has.gone.same.actor, zeroth.low, first.low)

pub returns-clause-seat : goal.returns-clause-seat
returns-clause-seat c = λ input tracker tries old new played has other. omega (arith, has.gone.same.seat, other)

pub returns-clause-serves : goal.returns-clause-serves
returns-clause-serves c = λ input tracker tries old new played has. has.gone.worker

pub returns-clause-shut : goal.returns-clause-shut
returns-clause-shut c = λ old new stayed. let e : ◌≡◌ {A = ℕ} 1 0 = stayed.held in omega (arith, e)

pub returns-clause-visited : goal.returns-clause-visited
returns-clause-visited c = λ old new played none one stayed.
    let no : ◌≡◌ {A = List Visit} (count_by 0 ∷ []) [] =
    sym one.seen_is ∙ (ap (λ (p : PassData). p.view.seen) stayed.pass ∙ none.seen_is) in cc

pub returns-clause-counted : goal.returns-clause-counted
returns-clause-counted c = λ old new played more stayed. omega (arith, more, stayed.made)
