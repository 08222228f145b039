use Rattle.busy_finds.proofs.below.laws_below.Goals as goal

pub returns : goal.returns
returns c = record {
  marks = record {
    facts = record {
      writes = record {
        amid = c.legal_is_amid.ensures;
        entries = c.read_of_legal.ensures.entries;
        left = c.read_of_legal.ensures.marks;
        told = c.told_by_writes.ensures.commits;
      };
      fronts = c.front_of_history_is_legal.ensures;
      commits_are = c.commits_are_moves.ensures.commits;
    };
    stands = c.commits_are_moves.ensures.stands;
    inside = c.levels_stay_near.ensures.inside;
    marks = c.marks_tell.ensures.marks;
    one = c.marks_tell.ensures.one;
    coming = c.coming_stands.ensures;
    phases = c.phases_cover.ensures;
    addresses = c.marks_lead.ensures.addresses;
    top = c.entries_tell.ensures.top;
    cells = c.cell_after.ensures;
    keys = c.same_key_means.ensures;
  };
  entries = c.entries_tell.ensures.entries;
  opens = c.passage_is_open.ensures;
  reading = c.reading_is_bounded.ensures;
}
