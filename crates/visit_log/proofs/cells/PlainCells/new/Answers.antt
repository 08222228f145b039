use Rattle.std.proofs.lemmas.Grind.{common_steps}
use Rattle.std.proofs.Common.{◌≡◌, ◌*◌, ℕ, zero, suc, arith, ◌∙◌, refl, length, zero-le}
use Rattle.std.specs.Prelude.{replicate, slice_index}
use Rattle.std.proofs.lemmas.Bool.{le-ltb, lt-ltb}
use Rattle.directory.specs.Keys.{key_sub}
use Rattle.visit_log.specs.Cells.{slot_of, width_of}
use Rattle.visit_log.proofs.Opening.{opened-more}
use Rattle.visit_log.proofs.cells.PlainCells.new.Goals as goal

pub loop-sub-preserved : goal.loop-sub-preserved
loop-sub-preserved c = record {
  goes = c.open.ensures.goes;
  subs = c.open.ensures.subs ∙ c.loop-sub.invariant.subs;
  words = λ key its.
      rw (c.open.ensures.words key (rw c.loop-sub.invariant.subs its), c.loop-sub.invariant.words key its)
      (opened-more c.args.plan.now c.args.homes.now c.loop-sub.sub key c.plan_is_sound.ensures.sound.some its.place
      (omega arith) refl);
}

-- an empty cell holds 0
empty-word : (n i : ℕ) → slice_index (replicate n 0) i ≡ 0
empty-word zero i = refl
empty-word (suc n) zero = refl
empty-word (suc n) (suc i) = empty-word n i

pub loop-sub-init : goal.loop-sub-init
loop-sub-init c = record {
  goes = c.in_ok-cells.ensures.goes;
  subs = c.in_ok-cells.ensures.subs;
  words = λ key its.
      rw (c.in_ok-cells.ensures.words, le-ltb (key_sub key) 0 zero-le)
      (empty-word (length c.args.homes.now * width_of c.args.plan.now) (slot_of c.args.plan.now key));
}

pub returns-clause-opening : goal.returns-clause-opening
returns-clause-opening c = record {
  subs = c.loop-sub.invariant.subs;
  words = λ key its.
      c.loop-sub.invariant.words key its
      ∙ rw (lt-ltb (key_sub key) c.loop-sub.sub (omega (arith, its.known, c.loop-sub-test.false)));
}

pub open-requires : goal.open-requires
open-requires c = grind (arith, common_steps)
