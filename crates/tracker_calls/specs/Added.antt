-- What a whole call adds to what its pass has seen: its own visits alone, with these tickets, each
-- in a turn at its node that was tried again there until it was won.
-- Key laws: `find`, `find_now` and `move_to`, whose answers come with what they added.
use Rattle.std.specs.Prelude.{◌≡◌, ℕ, ◌+◌, ◌<◌, ◌≤◌, List, [], ◌∷◌, ◌++◌, flat_map, length, map, None}
use Rattle.directory.specs.Histories.{IsFront, tickets}
use Rattle.directory.specs.Legal.{IsLegal}
use Rattle.handset.specs.Condition.{HandsetData}
use Rattle.station.specs.Handsets.{HandsetStays}
use Rattle.station.specs.Passes.{PassData, actor_of}
use Rattle.station.specs.Setup.{Setup, setting_in, subs_in}
use Rattle.station.specs.Turns.{LogsAll, losses}
use Rattle.station.specs.Views.{turn_at}
use Rattle.station.specs.Visits.{HasLoggedMore, IsSamePass, own_nodes}
use Rattle.station.specs.declared.view.NodeTurn.{NodeTurn}
use Rattle.station.specs.declared.view.TurnEvent.{TurnEvent}
use Rattle.station.specs.declared.view.TurnEvent.TheVariants.{Won, GivenBack}

-- the turns of one visit: the node, and the lock words that were read there before it was won
pub record VisitTurns : Type 0 where
  pub node : ℕ
  pub words : List ℕ

-- the turns that were lost before it
abbrev pub turns_lost : VisitTurns → List NodeTurn
turns_lost turns = map (turn_at turns.node) turns.words

-- all of it, as an actor's events: some turns are lost, then one is won and given back
abbrev pub turns_taken : ℕ → VisitTurns → List TurnEvent
turns_taken actor turns =
    losses actor (turns_lost turns) ++ Won actor turns.node ∷ GivenBack actor turns.node ∷ []

-- the pass has made visits with these tickets, its next own ones: what it has seen goes on from
-- what it had seen, and is legal where it made one; each has used one of its spare; it is in no
-- node; and all that it has logged more are its turns at the nodes of these visits, in their order
pub record HasAdded (setup : Setup) (old : PassData) (made : List ℕ) (new : PassData) : Type 0 where
  pub begins : IsFront old.view.seen new.view.seen
  pub visits : tickets (actor_of old) new.view.seen
      ≡ tickets (actor_of old) old.view.seen ++ made
  pub legal : 1 ≤ length made → (sub : ℕ) → sub < subs_in setup
      → IsLegal (setting_in setup) sub new.view.seen
  pub spare : new.spare + length made ≡ old.spare
  pub outside : new.view.inside ≡ None
  pub turns : List VisitTurns
  pub count : length turns ≡ length made
  pub nodes : own_nodes (setting_in setup) (actor_of old) new.view.seen
      ≡ own_nodes (setting_in setup) (actor_of old) old.view.seen ++ map (λ t. t.node) turns
  pub logged : HasLoggedMore old (flat_map (turns_taken (actor_of old)) turns) new
  pub same : IsSamePass old new

-- a handset that went with the pass still goes with it, and stands for the same steps
abbrev pub KeepsHandsets : Setup → PassData → PassData → Type 0
KeepsHandsets setup old new =
    (handset : HandsetData) → HandsetStays setup old.view new.view handset

-- the pass has lost turns at a node, where it read these lock words; each is logged so, and nothing
-- else has changed
pub record HasTried (node : ℕ) (old new : PassData) : Type 0 where
  pub words : List ℕ
  pub logs : LogsAll old.view.turns (losses (actor_of old) (map (turn_at node) words))
      new.view.turns
  pub is : new ≡ record old {
    view = record old.view {
      turns = new.view.turns;
      lost = old.view.lost ++ map (turn_at node) words;
    };
  }
