-- Where the lines of each actor stand among the lines of a report, those of switches, and the last
-- ticket of each actor, so that the code goes over few lines and no order twice.
-- Key law: `check` gives the verdict by them.
use Rattle.std.specs.Prelude.{◌≡◌, ◌≢◌, ℕ, ◌+◌, ◌-◌, ◌<◌, ◌≤◌, ◌==◌, if◌then◌else◌, Bool, true, false, fold, List, length, take, drop, map, slice_index, slice_index_or}
use Rattle.std.specs.List.{list_any}
use Rattle.directory.specs.declared.answers.Done.{Done}
use Rattle.directory.specs.declared.answers.Done.TheVariants.{Switched}
use Rattle.report_check.specs.declared.blocks.Block.{Block}
use Rattle.report_check.specs.declared.blocks.LinesByActor.{LinesByActor}
use Rattle.report_check.specs.ReadLines.{done_of}
use Rattle.report_check.specs.declared.told.Told.{Told}
use Rattle.report_check.specs.Parts.{is_of, is_switch_at, tell}

-- whether it is a switch's
abbrev pub is_switched : Done → Bool
is_switched (Switched actor off node number ticket) = true
is_switched call = false

-- no line in front of the block is one that counts, and none from its end on
pub record IsBlock (counts : Done → Bool) (calls : List Done) (block : Block) : Type 0 where
  pub low : block.start ≤ block.end
  pub high : block.end ≤ length calls
  pub before : list_any counts (take block.start calls) ≡ false
  pub behind : list_any counts (drop block.end calls) ≡ false

-- the block without a line
abbrev pub no_block : Block
no_block = record { start = 0; end = 0 }

-- a block with the line at this place, which stands behind it
abbrev pub grown : Block → ℕ → Block
grown block place =
    if block.end == 0 then record { start = place; end = place + 1 }
    else record { start = block.start; end = place + 1 }

-- the blocks of the actors and of the switches are so
pub record AreBlocks (lines : LinesByActor) : Type 0 where
  pub actors : (actor : ℕ) → actor < length lines.blocks.now
      → IsBlock (is_of actor) (map done_of lines.calls.now)
      (slice_index_or lines.blocks.now actor no_block)
  pub switches : IsBlock is_switched (map done_of lines.calls.now) lines.switches

-- no ticket from this one on is an actor's, and the one before it is, if there is one
pub record IsBehind (order : List ℕ) (actor ticket : ℕ) : Type 0 where
  pub few : ticket ≤ length order
  pub none : list_any (λ other. other == actor) (drop ticket order) ≡ false
  pub last : ticket ≢ 0 → slice_index order (ticket - 1) ≡ actor

-- and so are all of these
abbrev pub AreBehind : List ℕ → List ℕ → Type 0
AreBehind order behind =
    (actor : ℕ) → actor < length behind → IsBehind order actor (slice_index behind actor)

-- some lines tell the same of an actor as all do
abbrev pub TellsAlike : ℕ → List Done → List Done → Type 0
TellsAlike actor calls some =
    (ticket : ℕ) (told : Told) → fold (tell actor ticket) told some
    ≡ fold (tell actor ticket) told calls

-- some lines have the same switches
abbrev pub SwitchesAlike : List Done → List Done → Type 0
SwitchesAlike calls some =
    (ticket : ℕ) → list_any (is_switch_at ticket) some ≡ list_any (is_switch_at ticket) calls
