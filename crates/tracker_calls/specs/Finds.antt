-- What a find over the tracker does to its pass: its looks are the pass's next own visits, and its
-- answer is theirs, in the history that the pass has then seen. Key laws: `find_now` and `find`, by
-- their clauses `find`.
use Rattle.std.specs.Prelude.{◌≡◌, ℕ, ◌<◌, ◌≤◌, List, flat_map, Some}
use Rattle.entry_word.specs.declared.visit.Key.{Key}
use Rattle.directory.specs.Histories.{words_at}
use Rattle.directory.specs.Finds.{FindCall, at_origin, find, key_of, most_looks}
use Rattle.directory.specs.Keys.{key_node}
use Rattle.directory.specs.Looks.{AreLooks, IsFind}
use Rattle.directory.specs.declared.answers.Found.{Found}
use Rattle.station.specs.Passes.{PassData, actor_of}
use Rattle.station.specs.Setup.{Setup, nodes_in, setting_in, subs_in}
use Rattle.station.specs.Visits.{HasLost}
use Rattle.station.specs.declared.turns.Held.{Held}
use Rattle.tracker_calls.specs.Added.{HasAdded, KeepsHandsets}
use Rattle.tracker_calls.specs.RightAnswers.{TellsRightly}
use Rattle.tracker_calls.specs.declared.finds.FindFault.{FindFault}
use Rattle.tracker_calls.specs.declared.finds.FindFault.TheVariants.{NoNode, NoSubscriber, Unreserved, Held as HeldBy}
use Rattle.tracker_calls.specs.declared.finds.FindRefusal.{FindRefusal}
use Rattle.tracker_calls.specs.declared.finds.FindRefusal.TheVariants as refusals

-- the pass has made the looks of a find, and this is their answer, which tells rightly
pub record HasFound (setup : Setup) (old : PassData) (call : FindCall) (found : Found)
    (new : PassData) : Type 0 where
  pub made : List ℕ
  pub added : HasAdded setup old made new
  pub find : IsFind (setting_in setup) new.view.seen (actor_of old) call found made
  pub keeps : KeepsHandsets setup old new
  pub tells : TellsRightly setup old call found made new.view.seen

-- the pass has made the first looks of a find, and then lost the turn at the node of the next one
pub record HasStopped (setup : Setup) (old : PassData) (call : FindCall) (held : Held)
    (new : PassData) : Type 0 where
  pub between : PassData
  pub made : List ℕ
  pub added : HasAdded setup old made between
  pub lost : between.view.lost ≡ old.view.lost
  pub keeps : KeepsHandsets setup old between
  pub looks : AreLooks (setting_in setup) between.view.seen (actor_of old) call 0 at_origin made
  pub key : Key
  pub next : key_of call (find (setting_in setup) call
      (flat_map (words_at (setting_in setup) between.view.seen) made)) ≡ Some key
  pub turn : HasLost between (key_node (setting_in setup) key) held new

-- a find may begin: its node and its subscriber are known, and its pass has room for all its looks
pub record MayFind (setup : Setup) (pass : PassData) (call : FindCall) : Type 0 where
  pub node : call.from < nodes_in setup
  pub sub : call.sub < subs_in setup
  pub room : most_looks (setting_in setup) call.from ≤ pass.spare

-- why it can't: the first of these that holds
abbrev pub IsRefusal : Setup → PassData → FindCall → FindRefusal → Type 0
IsRefusal setup pass call refusals.NoNode = nodes_in setup ≤ call.from
IsRefusal setup pass call refusals.NoSubscriber =
    (call.from < nodes_in setup) × (subs_in setup ≤ call.sub)
IsRefusal setup pass call (refusals.Unreserved need) =
    (call.from < nodes_in setup) × (call.sub < subs_in setup)
    × (need ≡ most_looks (setting_in setup) call.from) × (pass.spare < need)

-- why a find has no answer now: it can't begin, and nothing changes; or a turn was lost on its way
abbrev pub IsFindFault : Setup → PassData → FindCall → FindFault → PassData → Type 0
IsFindFault setup old call NoNode new = IsRefusal setup old call refusals.NoNode × (new ≡ old)
IsFindFault setup old call NoSubscriber new =
    IsRefusal setup old call refusals.NoSubscriber × (new ≡ old)
IsFindFault setup old call (Unreserved need) new =
    IsRefusal setup old call (refusals.Unreserved need) × (new ≡ old)
IsFindFault setup old call (HeldBy node by) new =
    MayFind setup old call × HasStopped setup old call (record { node = node; by = by }) new
