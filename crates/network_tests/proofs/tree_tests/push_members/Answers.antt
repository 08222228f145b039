use Rattle.std.proofs.Common.{◌∙◌, ◌++◌, ◌∷◌, [], ℕ, List, ap, sym}
use Rattle.std.proofs.lemmas.List.{append_assoc}
use Rattle.node_set.specs.Ascending.{has, sift}
use Rattle.node_set.specs.ScanLaws.{next_taken, none_left}
use Rattle.network_tests.proofs.tree_tests.push_members.Goals as goal

pub member-preserved : goal.member-preserved
member-preserved c =
    c.in_ok-push.ensures.items ∙ ap (λ (xs : List ℕ). xs ++ c.in-Some.v ∷ []) c.member.invariant
    ∙ append_assoc c.args.list.now.items (sift (λ x. has x c.args.set.now.members) 0 c.member.from)
    (c.in-Some.v ∷ [])
    ∙ ap (λ (xs : List ℕ). c.args.list.now.items ++ xs)
    (sym (next_taken c.args.set.now.members c.member.from c.in-Some.v c.in-Some.ensures.some))

pub returns : goal.returns
returns c =
    c.member.invariant
    ∙ ap (λ (xs : List ℕ). c.args.list.now.items ++ xs)
    (none_left c.args.set.now.members c.member.from c.set_is_sound.ensures.ascending c.in_default.ensures.none)
