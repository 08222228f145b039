use Rattle.std.proofs.Common.{◌≡◌, ◌++◌, take, drop, ap, arith, length, sym, ◌∙◌}
use Rattle.node_set.specs.Nodes.{Nodes}
use Rattle.node_set.proofs.Limiting.{none_after, within_bits}
use Rattle.std.proofs.lemmas.List.{take_at}
use Rattle.node_set.proofs.set.NodeSet.fill_within.Goals as goal

-- the words were written over whole
module _ (c : goal.After-self-1) where
  written : take c.self.inside.words.len (c.fill_words.new.words
      ++ drop (length c.fill_words.new.words) c.self.inside.words.items) ≡ c.fill_words.new.words
  written = grind (arith, take_at)

pub invariant_of-self : goal.invariant_of-self
invariant_of-self c =
    let room : length c.args.bytes.now ≡ c.self.inside.room =
    c.requires ∙ sym (ap (λ (s : Nodes). s.room) c.self.view_is) in
    grind (arith, written, none_after)

pub returns-clause-members : goal.returns-clause-members
returns-clause-members c = rw (written c) (within_bits c.fill_words.ensures)
