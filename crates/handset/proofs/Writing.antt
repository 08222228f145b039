-- What a handset has left to write: at the beginning of a step all its writes, and after each write the rest.
use Rattle.std.proofs.Common.{◌≡◌, ℕ, suc, ◌+◌, ◌-◌, ◌<◌, ◌≤◌, Bool, true, false, cond, List, [], ◌∷◌, ◌++◌, Option, Some, None, map, refl, sym, ap, ◌∙◌, arith}
use Rattle.std.specs.Prelude.{get_or, nat_lt, not, ◌==◌}
use Rattle.node_set.specs.Ascending.{has, sift}
use Rattle.entry_word.specs.declared.mark.PresenceMark.TheVariants.{Empty, Gone, Here, Coming as ComingMark}
use Rattle.directory.specs.Settings.{Setting, levels}
use Rattle.directory.specs.Courses.{Course, address_node}
use Rattle.directory.specs.Writes.{Write, mark_at, entry_at, new_address, numbers_from, old_home, erasure_writes, purge_writes, trail, move_writes}
use Rattle.handset.specs.declared.stage.Stage.TheVariants.{Resting, Coming, Renewing, Committing}
use Rattle.handset.specs.Condition.{HandsetData}
use Rattle.handset.specs.StepWrites.{erasure, is_old, is_behind, purge_from, erase_from, renew_from, left_at, first_with, purging_at, purging_from, erasing_at, erasing_from}
use Rattle.handset.proofs.Lists.{first-inside, passing-none, passing-some, map-passing-same}

-- the purge
purge-left : (setting : Setting) (handset : HandsetData) (node : ℕ) (o : Option ℕ)
    → first_with (is_behind handset) node (setting.nodes - node) ≡ o
    → map (λ x. mark_at x Empty) (sift (is_behind handset) node (setting.nodes - node))
    ≡ left_at setting handset (purging_at o)
purge-left setting handset node None h = grind (arith, passing-none)
purge-left setting handset node (Some x) h =
    let inside : (node ≤ x) × (x < node + (setting.nodes - node)) = grind (arith, first-inside) in
    let e : node + (setting.nodes - node) - suc x ≡ setting.nodes - suc x = omega (arith, inside.0, inside.1) in
    grind (arith, passing-some)

pub purging-left : (setting : Setting) (handset : HandsetData) (node : ℕ)
    → map (λ x. mark_at x Empty) (sift (is_behind handset) node (setting.nodes - node))
    ≡ left_at setting handset (purging_from setting handset node)
purging-left setting handset node = purge-left setting handset node _ refl

ending-left : (setting : Setting) (handset : HandsetData) (b : Bool)
    → cond b (map (λ x. mark_at x Empty) (sift (is_behind handset) 0 (setting.nodes - 0))) []
    ≡ left_at setting handset (cond b (purging_from setting handset 0) Resting)
ending-left setting handset true = purging-left setting handset 0
ending-left setting handset false = refl

-- the erasures
erase-left : (setting : Setting) (handset : HandsetData) (level : ℕ) (o : Option ℕ)
    → first_with (is_old setting handset) level (suc handset.last.renewed - level) ≡ o
    → erase_from setting handset level ≡ left_at setting handset (erasing_at setting handset o)
erase-left setting handset level None h = grind (arith, passing-none, ending-left)
erase-left setting handset level (Some x) h = grind (
  arith,
  first-inside (is_old setting handset) level (suc handset.last.renewed - level) h,
  passing-some (is_old setting handset) level (suc handset.last.renewed - level) h,
)

pub erasing-left : (setting : Setting) (handset : HandsetData) (level : ℕ) → erase_from setting handset level
    ≡ left_at setting handset (erasing_from setting handset level)
erasing-left setting handset level = erase-left setting handset level _ refl

-- the new addresses
pub renewing-left : (setting : Setting) (handset : HandsetData) (level : ℕ)
    → renew_from setting handset (suc level) ≡ left_at setting handset (cond (nat_lt level handset.last.renewed)
    (Renewing (suc level)) Committing)
renewing-left setting handset level = grind arith

pub renewing-first : (setting : Setting) (handset : HandsetData) → renew_from setting handset 0
    ≡ left_at setting handset (Renewing 0)
renewing-first setting handset = grind arith

-- all writes of a move, where the handset keeps the addresses and the trail of the course
pub coming-left : (setting : Setting) (course : Course) (handset : HandsetData) → handset.last.renewed ≤ setting.top
    → ((level : ℕ) → level < levels setting → get_or handset.addresses level 0 ≡ address_node course level)
    → ((node : ℕ) → node < setting.nodes → get_or handset.trail node false
    ≡ has node (trail setting course handset.last))
    → move_writes setting course handset.last ≡ left_at setting handset Coming
coming-left setting course handset low addresses trails =
    ap (λ n. mark_at handset.last.to (ComingMark handset.last.number handset.last.from) ∷ (map
    (new_address setting handset.last) (numbers_from 0 n) ++ commit_with (erasure_writes setting course handset.last ++
    purge_writes setting course handset.last))) none_less
    ∙ ap (λ ws. mark_at handset.last.to (ComingMark handset.last.number handset.last.from) ∷ (map
    (new_address setting handset.last) (numbers_from 0 (suc handset.last.renewed - 0)) ++ commit_with ws)) both
  where
    none_less : suc handset.last.renewed ≡ suc handset.last.renewed - 0
    none_less = omega arith

    commit_with : List Write → List Write
    commit_with ws = mark_at handset.last.from (Gone handset.last.number handset.last.to) ∷
        (mark_at handset.last.to (Here handset.last.number) ∷ ws)

    erased : erasure_writes setting course handset.last ≡ map (erasure setting handset) (sift
        (is_old setting handset) 0 (suc handset.last.renewed - 0))
    erased =
        map-passing-same (λ level. not (old_home setting course level == setting.home level handset.last.to))
        (is_old setting handset)
        (λ level. entry_at level (old_home setting course level) None) (erasure setting handset) 0
        (suc handset.last.renewed)
        (λ level h l. ap (λ n. not (setting.home level n == setting.home level handset.last.to)) (sym
        (addresses level (omega (arith, l, low)))))
        (λ level h l. ap (λ n. entry_at level (setting.home level n) None) (sym (addresses level (omega (
          arith,
          l,
          low,
        )))))
        ∙ ap (λ n. map (erasure setting handset) (sift (is_old setting handset) 0 n)) none_less

    purged : purge_writes setting course handset.last ≡ purge_from setting handset 0
    purged =
        let none : setting.nodes ≡ setting.nodes - 0 = omega arith in
        grind (arith, map-passing-same)

    both : erasure_writes setting course handset.last ++ purge_writes setting course handset.last ≡ erase_from setting
        handset 0
    both = ap (λ ws. ws ++ purge_writes setting course handset.last) erased ∙ ap (λ ws. map (erasure setting handset)
        (sift (is_old setting handset) 0 (suc handset.last.renewed - 0)) ++ ws) purged
