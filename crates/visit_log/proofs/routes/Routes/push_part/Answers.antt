use Rattle.std.proofs.lemmas.Grind.{common_steps}
use Rattle.std.proofs.Common.{◌≡◌, ℕ, ◌^◌, ◌<◌, ◌≤◌, length, get_or, ap, arith}
use Rattle.entry_word.specs.declared.visit.Key.TheVariants.{Entry}
use Rattle.region_plan.specs.Plan.{readers}
use Rattle.visit_log.proofs.Adding.{IsTold, adding-done, adding-more, parts-few, pushed}
use Rattle.visit_log.proofs.Apart.{place-below}
use Rattle.region_plan.specs.ReaderLaws.{reader-held, readers-few, readers-some, way-light}
use Rattle.visit_log.proofs.routes.Routes.push_part.Goals as goal
use Rattle.visit_log.proofs.routes.Routes.push_part.Goals.{After-reader_weight}

pub overflow_add-first : goal.overflow_add-first
overflow_add-first c =
    let plan = c.args.plan.now in
    let level : ℕ = c.args.level in
    let reader : ℕ = get_or (readers plan level c.args.node) c.loop-index.index 0 in
    let short : c.loop-index.index < length (readers plan level c.args.node) = grind arith in
    let held = reader-held plan level c.args.node c.loop-index.index c.plan_is_sound.ensures.matched c.requires.level
    c.requires.node short in
    omega (
      arith,
      c.requires.places.firsts level c.requires.level,
      ap (λ rs. get_or rs c.loop-index.index 0) c.readers-readers.ensures,
      place-below plan (Entry level reader 0) (c.requires.level, held.1),
    )

pub overflow_cast-index : goal.overflow_cast-index
overflow_cast-index c = grind (arith, readers-few)

-- the reader is one of those of the node at the level
short-here : (c : After-reader_weight)
    → c.loop-index.index < length (readers c.args.plan.now c.args.level c.args.node)
short-here c = omega (arith, c.loop-index-test.true, c.len.ensures, ap length c.readers-readers.ensures)

-- the way to it is light
light-here : (c : After-reader_weight) → c.reader_weight.result ≤ 2 ^ 35
light-here c = grind (arith, reader-held, short-here, way-light)

pub overflow_mul-sum : goal.overflow_mul-sum
overflow_mul-sum c = omega (arith, light-here c)

pub overflow_add-sum : goal.overflow_add-sum
overflow_add-sum c = grind (arith, light-here c, short-here c, parts-few, readers-few)

pub loop-index-preserved : goal.loop-index-preserved
loop-index-preserved c = grind (arith, reader-held, adding-more, way-light, pushed)

pub overflow_cast-len : goal.overflow_cast-len
overflow_cast-len c = grind (arith, parts-few, readers-few)

pub returns : goal.returns
returns c =
    let row = c.loop-index.self-inside in
    let all : c.loop-index.index ≡ length (readers c.args.plan.now c.args.level c.args.node) = grind arith in
    let few = readers-few c.args.plan.now c.args.level c.args.node c.plan_is_sound.ensures.matched
    c.plan_is_sound.ensures.sound c.requires.level c.requires.node in
    let some = readers-some c.args.plan.now c.args.level c.args.node c.plan_is_sound.ensures.matched c.requires.level
    c.requires.node in
    let size : c.len-3.result ≡ length row.places.items = grind arith in
    let told : IsTold row.level_of.items c.resize.new.self.items (length row.places.items) c.args.level =
    grind (arith, c.in_ok-resize.ensures.by_index) in
    adding-done c.requires.level c.requires.parts c.loop-index.invariant.adding all (omega (arith, some, all))
    (omega (arith, few, all)) (rw size at c.in_ok-push.ensures.items) told (grind (arith, parts-few))

pub loop-index-init : goal.loop-index-init
loop-index-init c = grind (arith, common_steps)
