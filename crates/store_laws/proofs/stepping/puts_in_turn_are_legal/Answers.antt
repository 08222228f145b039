use Rattle.store_laws.proofs.Turns.{in_turn-legal, legal-in_turn}
use Rattle.store_laws.proofs.stepping.puts_in_turn_are_legal.Goals as goal

pub returns-clause-legal : goal.returns-clause-legal
returns-clause-legal c = in_turn-legal c.legal_next.ensures.due c.legal_next.ensures.begins c.script_is_legal.ensures

pub returns-clause-turns : goal.returns-clause-turns
returns-clause-turns c = legal-in_turn c.front_is_legal.ensures c.next_is_decided.ensures
