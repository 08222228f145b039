-- What the laws of this crate rest on, of the crates below: how far legal histories are and what
-- they leave, what marks and addresses tell, and what reading weighs.
use Rattle.directory.specs.Statements.{CellAfter, CommitsAreMoves, CommitsAreTold, EntriesAreLeft, LegalIsAmid, MarksAreLeft, SameKey, StandsAtStop}
use Rattle.stretch_laws.specs.Costs.{ReadingIsBounded}
use Rattle.trail_laws.specs.Phases.{ComingStands, PhasesCover}
use Rattle.trail_laws.specs.Trail.{AddressesLead, EntriesTell, MarksTell, OneComing, TopHasEntry}
use Rattle.trail_laws.specs.Ways.{PassagesAreOpen, StandsInside}
use Rattle.trail_laws.specs.Within.{HistoryFrontsAreLegal}

-- what the puts of a legal history write
pub record WriteLaws : Type 0 where
  pub amid : LegalIsAmid
  pub entries : EntriesAreLeft
  pub left : MarksAreLeft
  pub told : CommitsAreTold

-- and how its fronts and its commits are
pub record HistoryFacts : Type 0 where
  pub writes : WriteLaws
  pub fronts : HistoryFrontsAreLegal
  pub commits_are : CommitsAreMoves

-- and its marks
pub record MarkLaws : Type 0 where
  pub facts : HistoryFacts
  pub stands : StandsAtStop
  pub inside : StandsInside
  pub marks : MarksTell
  pub one : OneComing
  pub coming : ComingStands
  pub phases : PhasesCover
  pub addresses : AddressesLead
  pub top : TopHasEntry
  pub cells : CellAfter
  pub keys : SameKey

-- and its addresses, and what a find pays for reading
pub record PriceLaws : Type 0 where
  pub marks : MarkLaws
  pub entries : EntriesTell
  pub opens : PassagesAreOpen
  pub reading : ReadingIsBounded
