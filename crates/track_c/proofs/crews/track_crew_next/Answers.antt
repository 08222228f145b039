use Rattle.std.proofs.Common.{ap}
use Rattle.track_c.specs.Handles.{held}
use Rattle.track_c.specs.Held.{seen}
use Rattle.track_c.proofs.Asking.{no-crew-next, not-full}
use Rattle.track_c.proofs.crews.track_crew_next.Goals as goal

pub returns-in_default-clause-handed : goal.returns-in_default-clause-handed
returns-in_default-clause-handed c empty =
    no-crew-next (held c.args.crew.now) (held c.take.new.self) (held c.args.member.now)
    c.args.actor.now c.code-in_default.result (ap seen c.in_default.ensures.held)
    (ap seen c.in_default.ensures.empty) c.code-in_default.ensures

pub returns-in-Ok-clause-full : goal.returns-in-Ok-clause-full
returns-in-Ok-clause-full c filled =
    absurd (filled (not-full c.args.member.now.full c.args.member.now.sealed.held
    c.args.member.now.tied c.if-member.false))
