use Rattle.std.proofs.Common.{◌≡◌, ◌<◌, [], get_or, length, map, List, Vec, arith}
use Rattle.std.proofs.lemmas.List.{length-map, get_or-map}
use Rattle.std.specs.Global.{Global}
use Rattle.net_reader.specs.declared.said.Call.{Call}
use Rattle.input_text.proofs.ByActor.{calls-step}
use Rattle.input_text.proofs.input.calls_by_actor.Goals as goal

pub loop-script-preserved : goal.loop-script-preserved
loop-script-preserved c =
    let scripts = c.args.scripts.now in
    let actor = c.loop-script.actor in
    let items : Vec Call Global → List Call = λ s. s.items in
    let below : actor < length scripts = omega arith in
    let found : get_or (map items scripts) actor [] ≡ c.deref.result.now =
    grind (arith, get_or-map) in
    record {
      at = omega arith;
      calls = calls-step (map items scripts) c.loop-script.calls.items actor
          (omega (arith, below, length-map scripts items)) found c.in_ok-push_calls.ensures
          c.loop-script.invariant.calls;
    }
