use Rattle.std.proofs.Common.{◌∙◌, List, ℕ, ap, refl}
use Rattle.node_set.specs.Ascending.{with_number}
use Rattle.node_set.specs.Nodes.{Nodes}
use Rattle.node_set.specs.SetLaws.{passing_inserts}
use Rattle.std.specs.Prelude.{true}
use Rattle.node_set.proofs.marks.fill_all.Goals as goal

abbrev with_members : ℕ → List ℕ → Nodes
with_members room members = record { room = room; members = members }

pub loop-v-preserved : goal.loop-v-preserved
loop-v-preserved c =
    c.insert.ensures
    ∙ ap (λ (s : Nodes). with_members s.room (with_number c.loop-v.v s.members)) c.loop-v.invariant
    ∙ ap (with_members c.room-n.result) (passing_inserts (λ v. true) c.loop-v.v refl)
