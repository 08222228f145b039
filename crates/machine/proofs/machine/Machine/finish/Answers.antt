use Rattle.std.proofs.Common.{◌≡◌, ◌≤◌, ℕ, length, map, ap, ◌∙◌, subst, arith, Vec, Global}
use Rattle.std.proofs.lemmas.List.{length-map}
use Rattle.std.proofs.lemmas.List.Sums.{fold-append}
use Rattle.net_reader.specs.declared.said.Call.{Call}
use Rattle.machine.specs.Machines.{HasHistory, scripts_at, setting_at}
use Rattle.machine.proofs.Finishing.{behind_turns, same-through, turns-all, turns-following, turns_of}
use Rattle.machine.proofs.machine.Machine.finish.Goals as goal

pub actors-preserved : goal.actors-preserved
actors-preserved c = record {
  same = grind (arith, same-through);
  stands = λ history is.
      turns-following c.args.self.now c.actors.self history c.actors.actor c.actors.invariant.same
      (c.finish_actor.ensures.stands _ (c.actors.invariant.stands history is));
}

-- all actors have had their turns
count-had : (actor : ℕ) {end count : ℕ} (scripts : Vec (Vec Call Global) Global) → end ≤ actor → actor ≤ end
    → end ≡ count → count ≡ length scripts.items → actor ≡ length
    (map (λ (script : Vec Call Global). script.items) scripts.items)
count-had actor scripts low high one two = grind (arith, length-map)

pub returns-clause-stands : goal.returns-clause-stands
returns-clause-stands c history is =
    subst (λ order. HasHistory c.actors.self (behind_turns c.args.self.now history order))
    (ap (turns_of (setting_at c.args.self.now) (scripts_at c.args.self.now))
    (count-had c.actors.actor c.args.self.now.input.now.scripts c.actors-test.false c.actors.auto.actor-end
    c.len-actor-end.ensures c.args.self.now.input.now.scripts.ok.0) ∙ turns-all c.args.self.now is.together.valid)
    (c.actors.invariant.stands history is)

pub returns-clause-order : goal.returns-clause-order
returns-clause-order c order is = grind (arith, fold-append, returns-clause-stands)
