-- What the ways along the marks weigh, told for each state of the move under way.
use Rattle.std.proofs.Common.{◌≡◌, ◌≢◌, ℕ, suc, ◌+◌, ◌*◌, ◌<◌, ◌≤◌, List, [], ◌∷◌, ◌++◌, None, length, ap, ◌∙◌, arith}
use Rattle.entry_word.specs.declared.mark.PresenceMark.TheVariants.{Coming}
use Rattle.entry_word.specs.declared.address.Address.{Address}
use Rattle.directory.specs.Settings.{Setting}
use Rattle.directory.specs.Courses.{base, last_stop}
use Rattle.trail_laws.specs.Trail.{HasMetric}
use Rattle.trail_laws.proofs.Links.{base-low}
use Rattle.trail_laws.proofs.ClosedViews.{clearing, coming, IsMoving, IsResting, passage, Phase, Shown}
use Rattle.trail_laws.proofs.Holders.{move_address, old_address}
use Rattle.trail_laws.proofs.LinkedStops.{weight_from}
use Rattle.trail_laws.proofs.Tells.{all-committed, begun-count, count-told, next-count, next-stands, rest-stands, standing_of}
use Rattle.trail_laws.proofs.Leads.{coming-there, clearing-here, passing-at_to}
use Rattle.trail_laws.proofs.Prices.{AreLazy, lazy-front, lazy-whole, price-clearing}

-- the way from the node of an address, told for each state: before the commit, from an old address and from the new
-- one; between commit and confirm; and after the confirm, from an old address and from one that stays
pub record IsFine (setting : Setting) (shown : Shown) (level : ℕ) (address : Address) (way : ℕ) : Type 0 where
  pub before_old : HasMetric setting → AreLazy setting shown.moves
      → length shown.moves ≡ suc (length shown.commits) → address.number ≤ length shown.commits
      → way < setting.threshold level
  pub before_new : HasMetric setting → AreLazy setting shown.moves
      → length shown.moves ≡ suc (length shown.commits) → address.number ≡ suc (length shown.commits)
      → way ≤ setting.distance address.node (standing_of shown)
  pub passing : HasMetric setting → AreLazy setting shown.moves → (u : ℕ)
      → shown.marks (standing_of shown) ≡ Coming (length shown.commits) u
      → way < setting.threshold level + 2 * setting.distance u (standing_of shown)
  pub settled : HasMetric setting → AreLazy setting shown.moves → length shown.moves ≡ length shown.commits
      → ((u : ℕ) → shown.marks (standing_of shown) ≢ Coming (length shown.commits) u)
      → way + 2 ≤ 2 * setting.threshold level + setting.distance address.node (standing_of shown)
  pub current : HasMetric setting → AreLazy setting shown.moves → length shown.moves ≡ length shown.commits
      → ((u : ℕ) → shown.marks (standing_of shown) ≢ Coming (length shown.commits) u)
      → address.number ≡ base level shown.moves → way < setting.threshold level

fine-short : (setting : Setting) (shown : Shown) (level : ℕ) (address : Address) (way : ℕ)
    → (AreLazy setting shown.moves → way < setting.threshold level)
    → (length shown.moves ≡ suc (length shown.commits) → address.number ≡ suc (length shown.commits)
    → way ≤ setting.distance address.node (standing_of shown)) → IsFine setting shown level address way
fine-short setting shown level address way short new = grind arith

pub fine-rest : {setting : Setting} {shown : Shown} (h : IsResting setting shown) (level : ℕ) (address : Address)
    → level ≤ setting.top
    → IsFine setting shown level address (weight_from h.course.moves (base level h.course.moves) + 0)
fine-rest {setting} {shown} h level address below = grind (arith, lazy-whole, count-told, fine-short)

pub fine-coming : {setting : Setting} {shown : Shown} {written : List ℕ} (h : IsMoving setting shown (coming written))
    (level : ℕ) → level ≤ setting.top
    → IsFine setting shown level (old_address h.course level)
    (weight_from h.course.moves (base level h.course.moves) + 0)
fine-coming {setting} {shown} h level below = fine-short setting shown level (old_address h.course level) _
    (λ lazy. omega (arith, lazy-front setting h.course.moves (h.move ∷ []) level below (rw h.moves_are at lazy)))
    (λ all new. absurd (omega (arith, new, base-low level h.sound, count-told h.course.moves h.commits_are)))

pub fine-new : {setting : Setting} {shown : Shown} {phase : Phase} (h : IsMoving setting shown phase) (level : ℕ)
    (address : Address) → level ≤ setting.top → IsFine setting shown level address 0
fine-new {setting} {shown} h level address below = fine-short setting shown level address 0
    (λ lazy. omega (arith, lazy-front setting h.course.moves (h.move ∷ []) level below (rw h.moves_are at lazy)))
    (λ all new. omega arith)

pub fine-coming_new : {setting : Setting} {shown : Shown} {written : List ℕ}
    (h : IsMoving setting shown (coming written)) (level : ℕ)
    → IsFine setting shown level (move_address h.move) (setting.distance h.move.to (last_stop h.course) + 0)
fine-coming_new {setting} {shown} h level = grind (arith, count-told, stood, clash, longer)
  where
    stood : standing_of shown ≡ last_stop h.course
    stood = rest-stands shown h.course h.begins h.commits_are

    longer : length shown.moves ≡ length shown.commits → ⊥
    longer all = omega (arith, all, begun-count h, h.next.number, count-told h.course.moves h.commits_are)

    clash : (u : ℕ) → shown.marks (standing_of shown) ≡ Coming (length shown.commits) u → ⊥
    clash u comes = grind (arith, stood, coming-there h None)

pub fine-passing : {setting : Setting} {shown : Shown} (h : IsMoving setting shown passage) (level : ℕ)
    (address : Address) (way : ℕ)
    → (HasMetric setting → AreLazy setting (h.course.moves ++ h.move ∷ [])
    → way < setting.threshold level + 2 * setting.distance h.move.from h.move.to)
    → IsFine setting shown level address way
fine-passing {setting} {shown} h level address way short = record {
  before_old = λ metric lazy all old. absurd (all-committed h h.commits_are all);
  before_new = λ metric lazy all new. absurd (all-committed h h.commits_are all);
  passing = λ metric lazy u comes. grind (arith, short metric, next-stands h h.commits_are, comes_here);
  settled = λ metric lazy all other. absurd (other h.move.from comes_here);
  current = λ metric lazy all other same. absurd (other h.move.from comes_here);
}
  where
    comes_here : shown.marks (standing_of shown) ≡ Coming (length shown.commits) h.move.from
    comes_here = ap shown.marks (next-stands h h.commits_are)
        ∙ (passing-at_to h ∙ ap (λ n. Coming n h.move.from) (next-count h h.commits_are))

pub fine-clearing : {setting : Setting} {shown : Shown} {erased purged : List ℕ}
    (h : IsMoving setting shown (clearing erased purged)) (level : ℕ) → level ≤ setting.top
    → IsFine setting shown level (old_address h.course level)
    (weight_from (h.course.moves ++ h.move ∷ []) (base level h.course.moves) + 0)
fine-clearing {setting} {shown} h level below = record {
  before_old = λ metric lazy all old. absurd (all-committed h h.commits_are all);
  before_new = λ metric lazy all new. absurd (all-committed h h.commits_are all);
  passing = λ metric lazy u comes. absurd (clash u comes);
  settled = λ metric lazy all other.
      grind (arith, price-clearing level h.sound h.next below metric, next-stands h h.commits_are);
  current = grind (arith, lazy-whole);
}
  where
    clash : (u : ℕ) → shown.marks (standing_of shown) ≡ Coming (length shown.commits) u → ⊥
    clash u comes = grind (arith, next-stands h h.commits_are, clearing-here h)
