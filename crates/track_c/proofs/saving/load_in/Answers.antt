use Rattle.std.proofs.Common.{inl}
use Rattle.track_c.proofs.Loading.{load-refused, mover-loaded}
use Rattle.track_c.proofs.saving.load_in.Goals as goal

pub returns-in-Ok : goal.returns-in-Ok
returns-in-Ok c =
    inl (mover-loaded _ c.args.words.now _ _ _ c.deref.ensures c.in_ok-network.ensures c.in-Ok.ensures.exact)

pub returns-in-Err-Fault : goal.returns-in-Err-Fault
returns-in-Err-Fault c =
    inl (load-refused _ c.args.words.now _ _ _ _ _ c.deref.ensures c.in_ok-network.ensures c.in-Err-Fault.field-0-is
    c.in-Err-Fault.ensures.exact c.refused_state.ensures)
