-- What the ways along the marks weigh: no level has gathered its threshold, so that the trail from its address is
-- short.
use Rattle.trail_laws.proofs.ClosedMarks.{from-inside, IsNext}
use Rattle.std.proofs.Common.{◌≡◌, ℕ, ◌+◌, ◌*◌, ◌<◌, ◌≤◌, List, [], ◌∷◌, ◌++◌, length, take, refl, arith, length-append}
use Rattle.std.proofs.lemmas.List.{drop-append-le, take_all, take_at}
use Rattle.std.proofs.lemmas.List.Sums.{sum_by_push}
use Rattle.directory.specs.Settings.{Setting}
use Rattle.directory.specs.Courses.{Move, Course, address_node, base, last_stop}
use Rattle.trail_laws.specs.Trail.{HasMetric}
use Rattle.trail_laws.proofs.Links.{IsSound, base-low}
use Rattle.trail_laws.proofs.LinkedStops.{way-short, weight_from, old-inside}
use Rattle.trail_laws.proofs.Leads.{stop-end}

-- after each of these moves each level has gathered less than its threshold
abbrev pub AreLazy : Setting → List Move → Type 0
AreLazy setting moves =
    (k level : ℕ) → k ≤ length moves → level ≤ setting.top
    → weight_from (take k moves) (base level (take k moves)) < setting.threshold level

pub lazy-whole : (setting : Setting) (moves : List Move) (level : ℕ) → level ≤ setting.top → AreLazy setting moves
    → weight_from moves (base level moves) < setting.threshold level
lazy-whole setting moves level below lazy =
    rw (take_all (length moves) moves (omega arith)) at (lazy (length moves) level (omega arith) below)

pub lazy-front : (setting : Setting) (xs ys : List Move) (level : ℕ) → level ≤ setting.top
    → AreLazy setting (xs ++ ys) → weight_from xs (base level xs) < setting.threshold level
lazy-front setting xs ys level below lazy =
    rw (take_at xs ys (length xs) refl) at (lazy (length xs) level (omega (arith, length-append xs ys)) below)

pub weight-push : (moves : List Move) (move : Move) (b : ℕ) → b ≤ length moves
    → weight_from (moves ++ move ∷ []) b ≡ weight_from moves b + move.weight
weight-push moves move b low = grind (arith, drop-append-le, sum_by_push)

-- how far the address of a level is from the last stop
pub address-near : {setting : Setting} {course : Course} (level : ℕ) → IsSound setting course → HasMetric setting
    → setting.distance (address_node course level) (last_stop course) ≤ weight_from course.moves
    (base level course.moves)
address-near {setting} {course} level sound metric =
    rw (stop-end course.start course.moves) at (way-short course.start 0 course.moves
    (base level course.moves) sound.linked
    sound.begins metric (base-low level sound))

-- after the confirm the trail from an old address is short
pub price-clearing : {setting : Setting} {course : Course} {move : Move} (level : ℕ) → IsSound setting course
    → IsNext setting course move → level ≤ setting.top → HasMetric setting
    → AreLazy setting (course.moves ++ move ∷ [])
    → weight_from (course.moves ++ move ∷ []) (base level course.moves) + 2
    ≤ 2 * setting.threshold level + setting.distance (address_node course level) move.to
price-clearing {setting} {course} {move} level sound next below metric lazy = grind (
  arith,
  lazy-front setting course.moves (move ∷ []) level below lazy,
  weight-push course.moves move (base level course.moves) (base-low level sound),
  base level course.moves,
  base-low level sound,
  address_node course level,
  from-inside sound next,
  address-near level sound metric,
  old-inside level sound,
)
