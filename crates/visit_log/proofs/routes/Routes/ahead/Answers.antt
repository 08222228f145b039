use Rattle.std.proofs.Common.{◌≡◌, ℕ, ◌-◌, length, ap, ◌∙◌, arith, take, drop}
use Rattle.std.proofs.lemmas.List.{get_or-drop, get_or-take, length-drop, length-take-le}
use Rattle.visit_log.specs.Routes.{rung_at, rung_past}
use Rattle.visit_log.proofs.Parts.{goes-along, before-end, past-is, place-holds}
use Rattle.visit_log.proofs.routes.Routes.ahead.Goals as goal

pub returns : goal.returns
returns c =
    let first = c.span-first.result.0 in
    let count = c.span-first.result.1 - first in
    let row : c.deref.result.now ≡ c.args.self.now.places = grind arith in
    let size : length (take count (drop first c.deref.result.now)) ≡ count =
    grind (arith, length-take-le, length-drop) in
    let rung = rung_at c.args.level c.args.index in
    record {
      some = omega (arith, size, c.span-first.ensures.order);
      rungs = λ plan at i low.
          let both = c.span-first.ensures.exact plan at in
          (past-is plan c.args.self.now c.args.node at.are at.inside rung at.is i
          (omega (arith, low, size, ap (λ (p : ℕ × ℕ). p.0) both, ap (λ (p : ℕ × ℕ). p.1) both))).0;
      places = λ plan at i low.
          let both = c.span-first.ensures.exact plan at in
          let there = past-is plan c.args.self.now c.args.node at.are at.inside rung at.is i
          (omega (arith, low, size, ap (λ (p : ℕ × ℕ). p.0) both, ap (λ (p : ℕ × ℕ). p.1) both)) in
          get_or-take count (drop first c.deref.result.now) i 0 (omega (arith, low, size))
          ∙ get_or-drop first c.deref.result.now i 0
          ∙ rw (row, ap (λ (p : ℕ × ℕ). p.0) both, ← there.1) (place-holds plan c.args.self.now c.args.node at.are
          at.inside (rung_past plan c.args.node rung i) there.0);
      -- past the last of them there is none
      all = λ plan at on. absurd (grind (arith, before-end, goes-along, c.span-first.ensures.exact plan at));
    }
