use Rattle.std.proofs.Common.{arith, refl, Vec, Global}
use Rattle.std.proofs.lemmas.List.{length-map}
use Rattle.net_reader.specs.declared.said.Call.{Call}
use Rattle.scripts.specs.ScriptLaws.{stranger-done}
use Rattle.machine.specs.Machines.{input_at, setting_at}
use Rattle.machine.proofs.Finishing.{made-none}
use Rattle.machine.proofs.machine.Machine.stride.Goals as goal

pub returns-then-len-actor-clause-stands : goal.returns-then-len-actor-clause-stands
returns-then-len-actor-clause-stands g c = λ history stands. (
  made-none c.args.actor stands,
  λ none. (
    stranger-done (input_at c.args.self.now) (setting_at c.args.self.now) history c.args.actor stands.together.valid
        refl
        (omega (
          arith,
          c.if-len-actor.true,
          c.len.ensures,
          length-map c.args.self.now.input.now.scripts.items (λ (s : Vec Call Global). s.items),
        )),
    refl,
  ),
)
