use Rattle.std.proofs.Common.{◌≡◌, ◌+◌, [], ◌∷◌, ◌++◌, List, get_or, map, take, ap, sym, ◌∙◌, arith}
use Rattle.std.proofs.lemmas.List.{map-append, take_more}
use Rattle.net_reader.specs.declared.said.Call.TheVariants as acts
use Rattle.net_reader.specs.declared.said.Spoken.{Spoken}
use Rattle.input_text.specs.declared.listing.ActorCall.{ActorCall}
use Rattle.input_text.specs.Listing.{spoken_of}
use Rattle.net_reader.specs.CallLaws.{call-left_out, call-taken, scripts}
use Rattle.input_text.proofs.scripts.scripts_of.Goals as goal
use Rattle.input_text.proofs.scripts.scripts_of.Goals.{then-actor-len+in_ok-push, else-actor-len}

pub loop-call-preserved : goal.loop-call-preserved
loop-call-preserved c =
    let calls = c.args.calls.now in
    let i = c.loop-call.call-index in
    let made = c.loop-call.scripts.items in
    let n = c.args.actors in
    let none : ActorCall = record { actor = 0; call = acts.Move 0 } in
    let call : ActorCall = get_or calls i none in
    let grown : map spoken_of (take i calls) ++ spoken_of call ∷ [] ≡ map spoken_of (take (i + 1) calls) =
    sym (map-append spoken_of (take i calls) (call ∷ []))
    ∙ ap (map spoken_of) (sym (take_more calls i none c.loop-call-test.true)) in
    let more = ap (λ (cs : List Spoken). scripts cs 0 n) grown in
    elim c.if-actor-len.branch [
      | then-actor-len+in_ok-push w ↦
          rw w.scripts-is (call-taken (λ script. script.items) made w.index_mut.result.now w.push.new.self n
          (map spoken_of (take i calls)) (spoken_of call) c.loop-call.invariant (grind arith)
          w.index_mut.ensures.value
          w.in_ok-push.ensures.items ∙ more)
      | else-actor-len w ↦
          rw w.scripts-is (grind (arith, call-left_out))
    ]
