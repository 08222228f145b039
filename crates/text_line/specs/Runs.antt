-- The full line of one actor, as the code keeps its fields. Callers see whole lines alone.
-- Key law: `Run::is_of` (what is kept is the fields of 64 times that actor, one after another).
use Rattle.std.specs.Prelude.{◌≡◌, ◌≤◌, IfSome, length, replicate, vec_capacity}
use Rattle.outside.specs.Texts.{fields}
use Rattle.text_line.specs.declared.run.Run.{Run}

-- what is kept is the text of the fields of a full line of its actor, and there is room for any
pub record KeepsRun (run : Run) : Type 0 where
  pub room : 2624 ≤ vec_capacity run.text
  pub long : length run.text.items ≤ 2624
  pub text : IfSome run.actor (λ actor. run.text.items ≡ fields (replicate 64 actor))
