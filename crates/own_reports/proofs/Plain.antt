-- Writes of a move: one is the commit, the next one the confirm, and none says that its subscriber
-- is off.
use Rattle.std.proofs.Common.{◌≡◌, ℕ, zero, suc, ◌<◌, ◌≤◌, Bool, true, false, cond, List, [], ◌∷◌, ◌++◌, length, take, map, fold, Some, None, refl, ap, ◌∙◌, arith}
use Rattle.std.specs.Prelude.{slice_get, filter_map}
use Rattle.std.specs.List.{cons_option}
use Rattle.std.proofs.lemmas.List.{length-map, take-append-le}
use Rattle.entry_word.specs.declared.mark.PresenceMark.TheVariants.{Coming, Empty, Gone, Here}
use Rattle.directory.specs.Settings.{Setting}
use Rattle.directory.specs.Courses.{Course, Move}
use Rattle.directory.specs.Standing.{Commit, commit_by}
use Rattle.directory.specs.States.{write_commit, write_off}
use Rattle.directory.specs.Writes.{Write, commit_place, erasure_writes, mark_at, move_writes, new_address, numbers_from, purge_writes}
use Rattle.own_reports.proofs.StepRuns.{length-numbers}
use Rattle.directory.specs.ListLaws.{slice_get-right}

-- writes that are no commit and say nothing of being off
abbrev pub ArePlain : List Write → Type 0
ArePlain [] = Unit {0}
ArePlain (write ∷ later) = (write_commit write ≡ None) × (write_off write ≡ false) × ArePlain later

plain-append : (xs ys : List Write) → ArePlain xs → ArePlain ys → ArePlain (xs ++ ys)
plain-append [] ys one two = two
plain-append (x ∷ xs) ys one two = (one.0, one.1, plain-append xs ys one.2 two)

plain-map : (f : ℕ → Write) (xs : List ℕ) → ((x : ℕ) → write_commit (f x) ≡ None)
    → ((x : ℕ) → write_off (f x) ≡ false) → ArePlain (map f xs)
plain-map f [] none on = tt
plain-map f (x ∷ xs) none on = (none x, on x, plain-map f xs none on)

-- whether the last of some writes says that the subscriber is off
abbrev pub off_by : Bool → List Write → Bool
off_by off made = fold (λ last write. write_off write) off made

-- the commits of some writes
abbrev pub commits_in : List Write → List Commit
commits_in made = filter_map write_commit made

no-commits : (k : ℕ) (ws : List Write) → ArePlain ws → commits_in (take k ws) ≡ []
no-commits zero ws plain = refl
no-commits (suc k) [] plain = refl
no-commits (suc k) (w ∷ ws) plain =
    ap (λ o. cons_option o (commits_in (take k ws))) plain.0 ∙ no-commits k ws plain.2

plain-on : (k : ℕ) (ws : List Write) → ArePlain ws → off_by false (take k ws) ≡ false
plain-on zero ws plain = refl
plain-on (suc k) [] plain = refl
plain-on (suc k) (w ∷ ws) plain = ap (λ b. off_by b (take k ws)) plain.1 ∙ plain-on k ws plain.2

-- writes of which one is a commit
one-commit : (k : ℕ) (front back : List Write) (w : Write) (c : Commit) → ArePlain front → write_commit w ≡ Some c
    → ArePlain back → length front < k → commits_in (take k (front ++ w ∷ back)) ≡ c ∷ []
one-commit zero front back w c plain is rest low = absurd (omega (arith, low))
one-commit (suc k) [] back w c plain is rest low =
    ap (λ o. cons_option o (commits_in (take k back))) is ∙ ap (λ cs. c ∷ cs) (no-commits k back rest)
one-commit (suc k) (x ∷ front) back w c plain is rest low =
    ap (λ o. cons_option o (commits_in (take k (front ++ w ∷ back)))) plain.0
    ∙ one-commit k front back w c plain.2 is rest (omega (arith, low))

still-on : (k : ℕ) (front back : List Write) (w : Write) → ArePlain front → write_off w ≡ false → ArePlain back
    → off_by false (take k (front ++ w ∷ back)) ≡ false
still-on zero front back w plain is rest = refl
still-on (suc k) [] back w plain is rest = ap (λ b. off_by b (take k back)) is ∙ plain-on k back rest
still-on (suc k) (x ∷ front) back w plain is rest =
    ap (λ b. off_by b (take k (front ++ w ∷ back))) plain.1 ∙ still-on k front back w plain.2 is rest

-- what comes before the commit of a move, and what comes behind it
abbrev pub front_of : Setting → Move → List Write
front_of setting move =
    mark_at move.to (Coming move.number move.from) ∷ map (new_address setting move) (numbers_from 0 (suc move.renewed))

abbrev pub commit_write : Move → Write
commit_write move = mark_at move.from (Gone move.number move.to)

abbrev pub back_of : Setting → Course → Move → List Write
back_of setting course move =
    mark_at move.to (Here move.number) ∷ (erasure_writes setting course move ++ purge_writes setting course move)

pub front-length : (setting : Setting) (move : Move) → length (front_of setting move) ≡ commit_place move
front-length setting move =
    ap suc (length-map (numbers_from 0 (suc move.renewed)) (new_address setting move)
    ∙ length-numbers 0 (suc move.renewed))

plain-front : (setting : Setting) (move : Move) → ArePlain (front_of setting move)
plain-front setting move =
    (refl, refl, plain-map (new_address setting move) (numbers_from 0 (suc move.renewed)) (λ x. refl) (λ x. refl))

plain-purge : (t : Bool) (nodes : List ℕ) → ArePlain (cond t (map (λ node. mark_at node Empty) nodes) [])
plain-purge true nodes = plain-map (λ node. mark_at node Empty) nodes (λ x. refl) (λ x. refl)
plain-purge false nodes = tt

plain-back : (setting : Setting) (course : Course) (move : Move) → ArePlain (back_of setting course move)
plain-back setting course move = (
  refl,
  refl,
  plain-append (erasure_writes setting course move) (purge_writes setting course move)
      (plain-map _ _ (λ x. refl) (λ x. refl)) (plain-purge _ _),
)

-- the commit of a move that has made more writes than come before it
pub move-commits : (k : ℕ) (setting : Setting) (course : Course) (move : Move) → commit_place move < k
    → commits_in (take k (move_writes setting course move)) ≡ commit_by move ∷ []
move-commits k setting course move more =
    one-commit k (front_of setting move) (back_of setting course move) (commit_write move) (commit_by move)
    (plain-front setting move) refl (plain-back setting course move) (omega (arith, more, front-length setting move))

-- before that it has none
pub move-waits : (k : ℕ) (setting : Setting) (course : Course) (move : Move) → k ≤ commit_place move
    → commits_in (take k (move_writes setting course move)) ≡ []
move-waits k setting course move few =
    ap commits_in (take-append-le k (front_of setting move) (commit_write move ∷ back_of setting course move)
    (omega (arith, few, front-length setting move)))
    ∙ no-commits k (front_of setting move) (plain-front setting move)

-- while a subscriber moves it is on
pub move-on : (k : ℕ) (setting : Setting) (course : Course) (move : Move)
    → off_by false (take k (move_writes setting course move)) ≡ false
move-on k setting course move =
    still-on k (front_of setting move) (back_of setting course move) (commit_write move) (plain-front setting move) refl
    (plain-back setting course move)

-- the confirm comes next behind the commit
pub move-confirm : (setting : Setting) (course : Course) (move : Move)
    → slice_get (move_writes setting course move) (suc (commit_place move))
    ≡ Some (mark_at move.to (Here move.number))
move-confirm setting course move =
    slice_get-right (front_of setting move) (commit_write move ∷ back_of setting course move)
    (suc (commit_place move)) 1 (omega (arith, front-length setting move))
