use Rattle.std.proofs.Common.{ap, refl}
use Rattle.std.specs.Prelude.{Err}
use Rattle.track_c.specs.Handles.{held}
use Rattle.track_c.specs.Held.{seen}
use Rattle.track_c.specs.declared.fault.Fault.TheVariants.{EmptyHandle}
use Rattle.track_c.proofs.Asking.{no-caller-census}
use Rattle.track_c.proofs.censuses.track_caller_census.Goals as goal

pub returns-in_default : goal.returns-in_default
returns-in_default c =
    record {
      answer = Err EmptyHandle;
      is = no-caller-census c.args.node (held c.args.caller.now) (held c.take.new.self)
          (ap seen c.in_default.ensures.held) (ap seen c.in_default.ensures.empty);
      tells = (c.code.ensures, refl);
    }
