-- What a handle of C holds. Key laws: the clauses of the exports.
use Rattle.track_c.specs.Held.{Held, seen}
use Rattle.track_c.specs.declared.handle.TrackHandle.{TrackHandle}

-- what a handle holds
abbrev pub held : TrackHandle → Held
held handle = seen handle.sealed.held
