use Rattle.std.proofs.Common.{sym, ap, ◌∙◌, refl, arith}
use Rattle.directory.specs.Finds.{answer_of}
use Rattle.station.specs.TurnLaws.{held-passed}
use Rattle.runner.proofs.Finding.{done-low, look-room, looked, looked-on, looked-up, lost-look, some-is, walk-known, walking-of}
use Rattle.runner.proofs.finder.Finder.look.Goals as goal
use Rattle.directory.specs.ListLaws.{is_some-none}

pub visit_walk-requires : goal.visit_walk-requires
visit_walk-requires c =
    let input = c.requires.its.0 in
    let set = c.requires.its.1 in
    let its = c.requires.its.2 in
    let setup = c.args.tracker.now.setup in
    let at = walking-of its c.in-Some.is in
    record {
      way = record {
        of = c.requires.of;
        plan_is = set.plan_is;
        belongs = set.together.belongs;
        outside = c.requires.outside;
        goes = at.goes;
        known = walk-known c.scripts_are_valid.ensures set its c.in-Some.is;
      };
      spare = look-room its c.in-Some.is;
      left = ap answer_of at.so_far ∙ at.unanswered;
    }

pub overflow_add-self : goal.overflow_add-self
overflow_add-self c =
    let set = c.requires.its.1 in
    omega (
      arith,
      done-low set.together.valid set.homes c.requires.its.2 c.in-Some.is,
    )

pub returns-in_err-visit_walk : goal.returns-in_err-visit_walk
returns-in_err-visit_walk c = record {
  tries = λ input set its.
      let lost = lost-look set.homes its c.in-Some.is c.in_err-visit_walk.ensures.looked refl in
      (held-passed c.from_residual.result c.in_err-visit_walk.field-0.0 _ _ c.from_residual.ensures.1 lost.0, lost.1);
}

pub returns-then-is_some : goal.returns-then-is_some
returns-then-is_some c = record {
  tries = λ input set its.
      let setup = c.args.tracker.now.setup in
      let old = c.args.pass.now in
      let new = c.visit_walk.new.pass in
      let on = c.in_ok-visit_walk.ensures.looked in
      let at = looked c.lines_grow.ensures.kept c.lines_grow.ensures.read c.looks_fall.ensures set.homes its
      c.in-Some.is on in
      let found = some-is c.answer.result (sym c.is_some.ensures ∙ c.if-is_some.true) in (
        at.made,
        looked-up _ its at (sym (c.answer.ensures setup.plan on.goes) ∙ found.1) refl refl (omega arith)
            (rw (set.plan_is, c.deref.ensures.value) at c.walk_at-self.ensures) set.homes,
      );
}

pub returns-else-is_some : goal.returns-else-is_some
returns-else-is_some c = record {
  tries = λ input set its.
      let setup = c.args.tracker.now.setup in
      let old = c.args.pass.now in
      let new = c.visit_walk.new.pass in
      let at = looked c.lines_grow.ensures.kept c.lines_grow.ensures.read c.looks_fall.ensures set.homes its
      c.in-Some.is c.in_ok-visit_walk.ensures.looked in (
        at.made,
        looked-on _ its at (sym (c.answer.ensures setup.plan at.goes)
            ∙ is_some-none c.answer.result (sym c.is_some.ensures ∙ c.if-is_some.false)) refl refl refl refl,
      );
}
