-- Whom a census lists: what the mark of a subscriber at its node says.
use Rattle.std.proofs.Common.{arith}
use Rattle.directory.specs.Legal.{IsLegal}
use Rattle.directory.specs.Orders.{history_of}
use Rattle.directory.specs.Statements.{DoneIsRest, OrdersAreDone, OrdersArePlayed, PlayedIsLegal, CensusIsMark}
use Rattle.trail_laws.specs.Censuses.{CensusesEndRight, ListedStandThere, RestingAreListed}
use Rattle.trail_laws.specs.Phases.{RestIsSettled}
use Rattle.trail_laws.specs.Trail.{MarksTell}

pub listed-stand : CensusIsMark → MarksTell → ListedStandThere
listed-stand says tells setting sub history node low below legal h = grind arith

pub resting-listed : CensusIsMark → MarksTell → RestIsSettled → RestingAreListed
resting-listed says tells rests setting sub history node low below legal rest on = grind arith

pub end-right : ListedStandThere → RestingAreListed → DoneIsRest → OrdersArePlayed → OrdersAreDone → PlayedIsLegal
    → CensusesEndRight
end-right listed resting done_rests played done legal setting scripts order sub node low valid known below =
    let is_legal : IsLegal setting sub (history_of setting scripts order) =
    legal setting scripts (history_of setting scripts order) sub low valid known (played setting scripts order) in (
      listed setting sub (history_of setting scripts order) node low below is_legal,
      resting setting sub (history_of setting scripts order) node low below is_legal
          (done_rests setting scripts (history_of setting scripts order) sub low valid known
          (played setting scripts order) (done setting scripts order sub)),
    )
