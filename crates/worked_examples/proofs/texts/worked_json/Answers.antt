use Rattle.std.proofs.Common.{refl}
use Rattle.std.specs.Fmt.{digits}
use Rattle.json.specs.Print.{escape_byte}
use Rattle.worked_examples.proofs.texts.worked_json.Goals as goal

pub returns-clause-input : goal.returns-clause-input
unfolding digits escape_byte
returns-clause-input c = refl

pub returns-clause-moved : goal.returns-clause-moved
unfolding digits escape_byte
returns-clause-moved c = refl

pub returns-clause-switched : goal.returns-clause-switched
unfolding digits escape_byte
returns-clause-switched c = refl

pub returns-clause-off : goal.returns-clause-off
unfolding digits escape_byte
returns-clause-off c = refl

pub returns-clause-again : goal.returns-clause-again
unfolding digits escape_byte
returns-clause-again c = refl

pub returns-clause-chased : goal.returns-clause-chased
unfolding digits escape_byte
returns-clause-chased c = refl
