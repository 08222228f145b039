-- What a pass has added, with one visit more, before which it lost turns at the node.
use Rattle.std.proofs.Common.{◌≡◌, ℕ, suc, ◌-◌, List, [], ◌∷◌, ◌++◌, None, length, map, refl, sym, ap, ◌∙◌, arith, append_assoc, length-append}
use Rattle.std.specs.Prelude.{flat_map}
use Rattle.std.proofs.lemmas.List.{append-nil, get_or_push, map-append}
use Rattle.std.proofs.lemmas.List.Concat.{flat_map-append}
use Rattle.entry_word.specs.declared.visit.Act.{Act}
use Rattle.entry_word.specs.declared.visit.Visit.{Visit}
use Rattle.directory.specs.Histories.{History, IsFront, own, tickets}
use Rattle.directory.specs.Keys.{act_node}
use Rattle.directory.specs.Looks.{last_of}
use Rattle.directory.specs.Settings.{Setting}
use Rattle.station.specs.Passes.{PassData, actor_of}
use Rattle.station.specs.Plays.{view_held, visit_by}
use Rattle.station.specs.Setup.{Setup, setting_in}
use Rattle.station.specs.TurnLaws.{logged-more, logged-none, logged-turn, logs-append, losses-lost}
use Rattle.station.specs.Turns.{LogsAll, losses}
use Rattle.station.specs.Views.{turn_at}
use Rattle.station.specs.Visits.{HasLoggedMore, HasLost, HasVisited, own_nodes}
use Rattle.station.specs.declared.turns.Held.{Held}
use Rattle.station.specs.declared.view.NodeTurn.{NodeTurn}
use Rattle.station.specs.declared.view.TurnEvent.{TurnEvent}
use Rattle.station.specs.declared.view.TurnEvent.TheVariants.{Won, GivenBack}
use Rattle.station.specs.TicketLaws.{legal-seen, tickets-more, own-visited}
use Rattle.tracker_calls.specs.Added.{HasAdded, HasTried, VisitTurns, turns_taken}
use Rattle.directory.specs.Statements.{BeginsWithItself, BeginsWithFront, BeginsThrough}

-- the events of turns that are lost
logged-tried : {node : ℕ} {pass tried : PassData} → (lost : HasTried node pass tried)
    → HasLoggedMore pass (losses (actor_of pass) (map (turn_at node) lost.words)) tried
logged-tried {node} {pass} lost =
    record {
      logs = lost.logs;
      lost = grind (arith, losses-lost);
    }

-- those of a visit, and of the turns that were lost before it
logged-visit : {setup : Setup} {pass tried new : PassData} {act : Act} {ticket : ℕ} → pass.view.setup ≡ setup
    → (lost : HasTried (act_node (setting_in setup) act) pass tried) → HasVisited tried act ticket new
    → HasLoggedMore pass (turns_taken (actor_of pass) (record {
      node = act_node (setting_in setup) act;
      words = lost.words;
    })) new
logged-visit {setup} {pass} {tried} {new} {act} {ticket} told lost visited =
    let node = act_node (setting_in setup) act in
    let setups : tried.view.setup ≡ setup = ap (λ (q : PassData). q.view.setup) lost.is ∙ told in
    logged-more pass tried new (losses (actor_of pass) (map (turn_at node) lost.words))
    (Won (actor_of pass) node ∷ GivenBack (actor_of pass) node ∷ []) (logged-tried lost)
    (rw (← ap actor_of lost.is) (logged-turn setup tried new act ticket setups visited))

-- nothing is added
pub added-none : BeginsWithItself → (setup : Setup) (pass : PassData) → pass.view.inside ≡ None
    → HasAdded setup pass [] pass
added-none itself setup pass outside =
    record {
      begins = itself pass.view.seen;
      visits = sym (append-nil _);
      legal = λ h. absurd (omega (arith, h));
      spare = omega arith;
      outside = outside;
      turns = [];
      count = refl;
      nodes = sym (append-nil _);
      logged = logged-none pass;
      same = record { table = refl; seat = refl; setup = refl; actor = refl };
    }

-- what a pass had seen before a visit is a front of what it has seen
pub visited-front : BeginsWithFront → BeginsThrough → {old new : PassData} {act : Act} {ticket : ℕ}
    → HasVisited old act ticket new → IsFront old.view.seen new.view.seen
visited-front longer through {old} {new} {act} visited =
    grind arith

-- the node of a visit comes behind those of its actor's earlier ones
nodes-more : (setting : Setting) (actor : ℕ) (begun pass new : History) (turns : List VisitTurns) (one : VisitTurns)
    (visit : Visit) → own actor new ≡ own actor pass ++ visit ∷ []
    → own_nodes setting actor pass ≡ own_nodes setting actor begun ++ map (λ t. t.node) turns
    → one.node ≡ act_node setting visit.act
    → own_nodes setting actor new ≡ own_nodes setting actor begun ++ map (λ t. t.node) (turns ++ one ∷ [])
nodes-more setting actor begun pass new turns one visit more nodes at = rw (
  more,
  map-append (λ (v : Visit). act_node setting v.act) (own actor pass) (visit ∷ []),
  map-append (λ (t : VisitTurns). t.node) turns (one ∷ []),
  nodes,
  at,
  append_assoc,
) refl

-- one visit more, after turns that were lost at its node
pub added-more : BeginsWithFront → BeginsThrough → {setup : Setup} {begun pass tried new : PassData} {made : List ℕ}
    {act : Act} {ticket : ℕ} → pass.view.setup ≡ setup → HasAdded setup begun made pass
    → HasTried (act_node (setting_in setup) act) pass tried → HasVisited tried act ticket new
    → HasAdded setup begun (made ++ ticket ∷ []) new
added-more longer through {setup} {begun} {pass} {tried} {new} {made} {act} {ticket} told added lost visited =
    let actor : ℕ = actor_of begun in
    let setups : tried.view.setup ≡ setup = ap (λ (q : PassData). q.view.setup) lost.is ∙ told in
    let seen : tried.view.seen ≡ pass.view.seen = ap (λ (q : PassData). q.view.seen) lost.is in
    let mine : actor_of tried ≡ actor = ap actor_of lost.is ∙ added.same.actor in
    let one = length-append made (ticket ∷ []) in
    let turns : VisitTurns = record { node = act_node (setting_in setup) act; words = lost.words } in
    let taken : List TurnEvent = flat_map (turns_taken actor) added.turns in
    let more : own actor new.view.seen ≡ own actor pass.view.seen ++ visit_by tried.view act ∷ [] =
    rw (← seen, ← mine) (own-visited visited) in
    let next : tickets actor new.view.seen ≡ tickets actor tried.view.seen ++ ticket ∷ [] =
    grind (arith, tickets-more) in
    record {
      begins = grind (arith, visited-front);
      visits = next
          ∙ (ap (λ (h : History). tickets actor h ++ ticket ∷ []) seen
          ∙ (ap (λ l. l ++ ticket ∷ []) added.visits ∙ append_assoc _ made (ticket ∷ [])));
      legal = λ some. legal-seen setup tried new act ticket setups visited;
      spare = omega (arith, visited.spare, ap (λ (q : PassData). q.spare) lost.is, added.spare, one);
      outside = visited.outside;
      turns = added.turns ++ turns ∷ [];
      count = omega (arith, length-append added.turns (turns ∷ []), added.count, one);
      nodes = grind (arith, nodes-more);
      logged = rw (
        flat_map-append (turns_taken actor) added.turns (turns ∷ []),
        append-nil (turns_taken actor turns),
      ) (logged-more begun pass new taken (turns_taken actor turns) added.logged
          (rw (← added.same.actor) (logged-visit told lost visited)));
      same = search arith;
    }

-- no turn is lost; and one more
pub tried-none : (node : ℕ) (pass : PassData) → HasTried node pass pass
tried-none node pass =
    record {
      words = [];
      logs = refl;
      is = grind (arith, append-nil);
    }

pub tried-again : {node : ℕ} {begun pass new : PassData} {held : Held} → HasTried node begun pass
    → HasLost pass node held new → HasTried node begun new
tried-again {node} {begun} {pass} {new} {held} tried lost =
    let word : ℕ = suc held.by in
    let one : NodeTurn = turn_at node word in
    let turns : List NodeTurn = map (turn_at node) tried.words in
    let actor = actor_of begun in
    let same : actor_of pass ≡ actor = ap actor_of tried.is in
    let more : map (turn_at node) (tried.words ++ word ∷ []) ≡ turns ++ one ∷ [] =
    map-append (turn_at node) tried.words (word ∷ []) in
    let logs : LogsAll pass.view.turns (losses actor (one ∷ [])) new.view.turns = grind arith in
    record {
      words = tried.words ++ word ∷ [];
      logs = grind (arith, map-append, logs-append);
      is = lost.turn
          ∙ (ap (λ (q : PassData). record q { view = view_held q.view node word new.view.turns }) tried.is
          ∙ ap (λ (l : List NodeTurn). record begun {
            view = record begun.view { turns = new.view.turns; lost = l };
          }) (append_assoc begun.view.lost turns (one ∷ []) ∙ ap (λ l. begun.view.lost ++ l) (sym more)));
    }

-- the last of some tickets and one more
pub last-push : (made : List ℕ) (ticket : ℕ) → last_of (made ++ ticket ∷ []) ≡ ticket
last-push made ticket =
    get_or_push made ticket 0 (length (made ++ ticket ∷ []) - 1) (omega (arith, length-append made (ticket ∷ [])))
