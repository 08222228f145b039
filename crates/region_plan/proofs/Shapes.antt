-- Levels over the shapes that they share.
use Rattle.std.proofs.Common.{rules, ◌≡◌, ℕ, suc, ◌<◌, List, [], ◌∷◌, ◌++◌, length, get_or, refl, sym, ◌∙◌, ap, arith, ◌-◌}
use Rattle.std.specs.Prelude.{All}
use Rattle.std.proofs.lemmas.List.{get_or-map, get_or_append_left, get_or_push, length-map, map_push}
use Rattle.region_plan.specs.Plan.{Level, level_in, no_level}
use Rattle.region_plan.specs.Kept.{Shape, level_of, level_with, levels_over, shape_in, shape_of}
use Rattle.region_plan.specs.declared.sharing.LevelHead.{LevelHead}

-- the level of a head
abbrev pub level_under : List Shape → LevelHead → Level
level_under shapes h = level_of h.exponent h.threshold (shape_in shapes h.table)

-- the levels stay where a shape is added
pub shape_added : (shapes : List Shape) (shape : Shape) (heads : List LevelHead)
    → All (λ (h : LevelHead). h.table < length shapes) heads
    → levels_over (shapes ++ shape ∷ []) heads ≡ levels_over shapes heads
shape_added shapes shape [] below = refl
shape_added shapes shape (h ∷ hs) below =
    rw (
      get_or_append_left shapes (shape ∷ []) (shape_of no_level) h.table (below 0 h (omega arith)),
      shape_added shapes shape hs (λ i d short. below (suc i) d (omega arith)),
    ) refl

-- a level more, over a shape more
pub level_pushed : (shapes : List Shape) {new_shapes : List Shape} (shape : Shape) (heads : List LevelHead)
    {new_heads : List LevelHead} {levels : List Level} (exponent threshold : ℕ) {place : ℕ}
    → levels_over shapes heads ≡ levels → All (λ (h : LevelHead). h.table < length shapes) heads
    → new_shapes ≡ shapes ++ shape ∷ [] → place ≡ length shapes
    → new_heads ≡ heads ++ record { exponent = exponent; threshold = threshold; table = place } ∷ []
    → levels_over new_shapes new_heads ≡ levels ++ level_of exponent threshold shape ∷ []
level_pushed shapes shape heads {new_heads} {levels} exponent threshold {place} view below grown last now =
    search (rules, map_push, shape_added, get_or_push)

-- ---- a level that shares the shape of the last one

pub heads_count : (shapes : List Shape) (heads : List LevelHead) {levels : List Level}
    → levels_over shapes heads ≡ levels → length heads ≡ length levels
heads_count shapes heads view =
    sym (length-map heads (level_under shapes)) ∙ ap (length {A = Level}) view

module _ (shapes : List Shape) (heads : List LevelHead) {levels : List Level} {at : ℕ} {last : LevelHead}
    (view : levels_over shapes heads ≡ levels) (some : 0 < length levels)
    (at_is : at ≡ length heads - 1) (here : last ≡ get_or heads at last) where
  pub last_within : All (λ (h : LevelHead). h.table < length shapes) heads → last.table < length shapes
  last_within below = rw here (below at last (omega (arith, heads_count shapes heads view)))

  pub level_shared : {new_heads : List LevelHead} (exponent threshold : ℕ) → new_heads
      ≡ heads ++ record { exponent = exponent; threshold = threshold; table = last.table } ∷ []
      → levels_over shapes new_heads
      ≡ levels ++ level_with exponent threshold (level_in levels (length levels - 1)) ∷ []
  level_shared exponent threshold now = search (rules, get_or-map, heads_count, map_push)
