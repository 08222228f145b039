-- The writes that a subscriber has ahead: its handset has made them, and the cells don't hold them
-- yet. So there are two handsets: the one before these writes, which is as far as the history, and
-- the one behind them, which is the subscriber's.
-- Key laws: `fill` and `put_plain`, by their clauses (writes come to be ahead, and go into cells).
use Rattle.std.specs.Prelude.{◌≡◌, ℕ, zero, suc, ◌≤◌, false, List, [], ◌∷◌, ◌++◌, Some, None, length, slice_get, vec_capacity}
use Rattle.std.specs.Global.{Vec}
use Rattle.entry_word.specs.declared.visit.Act.TheVariants.{Put}
use Rattle.entry_word.specs.declared.visit.Key.{Key}
use Rattle.entry_word.specs.declared.visit.Visit.{Visit}
use Rattle.directory.specs.Courses.{Step}
use Rattle.directory.specs.Histories.{History}
use Rattle.directory.specs.Writes.{visits}
use Rattle.region_plan.specs.Plan.{PlanData}
use Rattle.region_plan.specs.Settings.{setting_of}
use Rattle.handset.specs.Condition.{GoesWith, HandsetData}
use Rattle.handset.specs.StepWrites.{due}
use Rattle.handset.specs.Stands.{StandsForSteps, is_commit}
use Rattle.visit_log.specs.Cells.{CellData, GoWith, Hold, IsPlaceOf}
use Rattle.machine.specs.declared.ahead.Ahead.{Ahead}

-- a handset has made its next write, and cells hold it
pub record HasPut (plan : PlanData) (old new : HandsetData) (cells after : CellData) : Type 0 where
  pub visit : Visit
  pub next : (starts : List ℕ) (steps : List Step) (made : ℕ)
      → StandsForSteps (setting_of plan starts) old steps made
      → slice_get (visits (setting_of plan starts) old.sub steps) made ≡ Some visit
  pub stands : (starts : List ℕ) (steps : List Step) (made : ℕ)
      → StandsForSteps (setting_of plan starts) old steps made
      → StandsForSteps (setting_of plan starts) new steps (suc made)
  pub hold : (starts : List ℕ) (history : History) → Hold plan starts cells history
      → Hold plan starts after (history ++ visit ∷ [])

-- and the write doesn't commit a move
pub record HasPutPlain (plan : PlanData) (old new : HandsetData) (cells after : CellData) : Type 0
  where
    pub put : HasPut plan old new cells after
    pub plain : is_commit put.visit.act ≡ false
    pub goes : GoesWith plan new
    pub its : new.sub ≡ old.sub
    pub over : GoWith plan after

-- a handset has made so many such writes, one behind the other, and cells hold them
abbrev pub HavePut : PlanData → HandsetData → CellData → ℕ → HandsetData → CellData → Type 0
HavePut plan old cells zero new after = (new ≡ old) × (after ≡ cells)
HavePut plan old cells (suc count) new after =
    (handset : HandsetData) × (between : CellData) × HavePut plan old cells count handset between
    × HasPutPlain plan handset new between after

-- a handset has made its next write, which is this one, among those of so many subscribers
pub record IsNextAhead (plan : PlanData) (subs : ℕ) (old new : HandsetData)
    (write : Ahead) : Type 0 where
  pub visit : Visit
  pub key : Key
  pub act : visit.act ≡ Put key write.word
  pub commits : write.commits ≡ is_commit visit.act
  pub cell : IsPlaceOf plan subs old.sub write.place key
  pub next : (starts : List ℕ) (steps : List Step) (made : ℕ)
      → StandsForSteps (setting_of plan starts) old steps made
      → slice_get (visits (setting_of plan starts) old.sub steps) made ≡ Some visit
  pub stands : (starts : List ℕ) (steps : List Step) (made : ℕ)
      → StandsForSteps (setting_of plan starts) old steps made
      → StandsForSteps (setting_of plan starts) new steps (suc made)
  pub goes : GoesWith plan new
  pub its : new.sub ≡ old.sub

-- a handset has made these writes, one behind the other
abbrev pub Owes : PlanData → ℕ → HandsetData → HandsetData → List Ahead → Type 0
Owes plan subs old new [] = new ≡ old
Owes plan subs old new (write ∷ writes) =
    (between : HandsetData) × Owes plan subs between new writes
    × IsNextAhead plan subs old between write

-- a handset has no write left of the steps that it has begun
pub record HasNone (plan : PlanData) (handset : HandsetData) : Type 0 where
  pub due : due (setting_of plan []) handset ≡ None
  pub next : (starts : List ℕ) (steps : List Step) (made : ℕ)
      → StandsForSteps (setting_of plan starts) handset steps made
      → slice_get (visits (setting_of plan starts) handset.sub steps) made ≡ None

-- a handset has made writes that are ahead now, behind others and in room that was there
pub record IsAhead (plan : PlanData) (subs : ℕ) (old new : HandsetData)
    (before after : Vec Ahead) : Type 0 where
  pub owes : (start : HandsetData) → Owes plan subs start old before.items
      → Owes plan subs start new after.items
  pub goes : GoesWith plan new
  pub its : new.sub ≡ old.sub
  pub grown : length before.items ≤ length after.items
  pub room : vec_capacity after ≡ vec_capacity before

-- writes of a subscriber may go into cells, from one handset on to another
pub record MayPut (plan : PlanData) (sub : ℕ) (old new : HandsetData) (cells : CellData)
    (writes : List Ahead) : Type 0 where
  pub over : GoWith plan cells
  pub its : old.sub ≡ sub
  pub owes : Owes plan cells.subs old new writes

-- so many of them did, none of which commits a move, and these are left
pub record HasCome (plan : PlanData) (sub : ℕ) (old new : HandsetData) (cells after : CellData)
    (count : ℕ) (left : List Ahead) : Type 0 where
  pub handset : HandsetData
  pub put : HavePut plan old cells count handset after
  pub may : MayPut plan sub handset new after left
