-- Each line of an actor's finds begins behind the last visit of those before it.
use Rattle.std.proofs.Common.{◌≡◌, ◌⊎◌, inl, inr, ℕ, zero, suc, ◌+◌, ◌<◌, ◌≤◌, List, [], ◌∷◌, ◌++◌, length, map, drop, fold, refl, arith}
use Rattle.std.specs.Prelude.{Some, flat_map, slice_get}
use Rattle.std.proofs.lemmas.Option.{slice_get_within}
use Rattle.directory.specs.Settings.{Setting, subs}
use Rattle.directory.specs.Statements.{CallersCount, FindsFollow, TicketsAscend}
use Rattle.directory.specs.Courses.{Course, Step, after_step}
use Rattle.directory.specs.Finds.{FindCall}
use Rattle.directory.specs.Histories.{History}
use Rattle.directory.specs.Orders.{Answer, Caller as Seeker, IsPlayed, Scripts, after_read, read_by}
use Rattle.directory.specs.Outcomes.{FollowEachOther, caller_lines, step_lines, sub_lines}
use Rattle.directory.specs.Writes.{numbers_from, step_writes}
use Rattle.directory.specs.CallLines.{actor_of, find_of}
use Rattle.directory.specs.declared.answers.FindLine.{FindLine}
use Rattle.directory.specs.declared.answers.Done.{Done}
use Rattle.trail_laws.specs.RightOutcomes.{LinesAreInTurn}
use Rattle.node_set.specs.SetLaws.{place-rises, place-stays_or_rises}

-- where an element of joined lists lies
append-at : {A : Type 0} (xs ys : List A) (i : ℕ) (y : A) → slice_get (xs ++ ys) i ≡ Some y
    → (slice_get xs i ≡ Some y) ⊎ ((k : ℕ) × (i ≡ length xs + k) × (slice_get ys k ≡ Some y))
append-at [] ys i y h = inr (i, omega arith, h)
append-at (x ∷ xs) ys zero y h = inl h
append-at (x ∷ xs) ys (suc i) y h = grind (arith, append-at xs ys i y h)

-- the answers of a caller come one after another, and their last looks have been made
follow-above : (place : ℕ) (answers : List Answer) (j : ℕ) (b : Answer) → FollowEachOther place answers
    → slice_get answers j ≡ Some b → (place ≤ b.first) × (b.first ≤ b.last)
unfolding FollowEachOther
follow-above place [] j b follows at = cc
follow-above place (a ∷ answers) zero b follows at = grind arith
follow-above place (a ∷ answers) (suc j) b follows at = grind (arith, follow-above (suc a.last) answers j b follows.2)

follow-behind : (place : ℕ) (answers : List Answer) (i j : ℕ) (a b : Answer) → FollowEachOther place answers
    → i < j → slice_get answers i ≡ Some a → slice_get answers j ≡ Some b → (a.last < b.first) × (b.first ≤ b.last)
unfolding FollowEachOther
follow-behind place (x ∷ answers) zero (suc j) a b follows le at_a at_b = grind (arith, follow-above)
follow-behind place (x ∷ answers) (suc i) (suc j) a b follows le at_a at_b =
    follow-behind (suc x.last) answers i j a b follows.2 (omega (arith, le)) at_a at_b
follow-behind place answers i j a b follows le at_a at_b = grind arith

abbrev AreLooked : ℕ → List Answer → Type 0
AreLooked next answers = (i : ℕ) (a : Answer) → slice_get answers i ≡ Some a → a.last < next

looked-more : (setting : Setting) (caller : Seeker) (calls : List FindCall) (word : ℕ)
    → AreLooked caller.next caller.answers
    → AreLooked (read_by setting caller calls word).next (read_by setting caller calls word).answers
looked-more setting caller calls word h = grind (arith, append-at)

looked-all : (setting : Setting) (words : List ℕ) (caller : Seeker) → AreLooked caller.next caller.answers
    → AreLooked (fold (after_read setting) caller words).next (fold (after_read setting) caller words).answers
looked-all setting [] caller h = h
looked-all setting (word ∷ words) caller h =
    looked-all setting words (after_read setting caller word) (looked-more setting caller caller.calls word h)

-- so the lines of one caller are in turn
map-at : {A B : Type 0} (f : A → B) (xs : List A) (i : ℕ) (y : B) → slice_get (map f xs) i ≡ Some y
    → (x : A) × (slice_get xs i ≡ Some x) × (f x ≡ y)
map-at f [] i y h = cc
map-at f (x ∷ xs) zero y h = let same : f x ≡ y = cc in (x, refl, same)
map-at f (x ∷ xs) (suc i) y h = map-at f xs i y h

abbrev AreInTurn : Done → Done → Type 0
AreInTurn one other = (earlier later : FindLine) → find_of one ≡ Some earlier → find_of other ≡ Some later
    → (earlier.last < later.first) × (later.first ≤ later.last)

caller-in-turn : FindsFollow → CallersCount → TicketsAscend → (setting : Setting) (scripts : Scripts)
    (history : History) → IsPlayed setting scripts history → (actor i j : ℕ) (one other : Done)
    → subs setting ≤ actor → i < j → slice_get (caller_lines setting scripts history actor) i ≡ Some one
    → slice_get (caller_lines setting scripts history actor) j ≡ Some other → AreInTurn one other
caller-in-turn follow count ascend setting scripts history played actor i j one other high le at_one at_other
    earlier later is_earlier is_later =
    grind (arith, map-at, follow-behind, looked-all, place-rises, place-stays_or_rises)

-- the lines of each actor lie together
block-above : (f : ℕ → List Done) (x k : ℕ) → ((a i : ℕ) (y : Done) → x ≤ a → slice_get (f a) i ≡ Some y
    → actor_of y ≡ a) → (i : ℕ) (y : Done) → slice_get (flat_map f (numbers_from x k)) i ≡ Some y → x ≤ actor_of y
block-above f x zero each i y h = cc
block-above f x (suc k) each i y h =
    grind (arith, append-at, block-above f (suc x) k (λ a n z low. each a n z (omega (arith, low))))

all-in-turn : (f : ℕ → List Done) (x k : ℕ) → ((a i : ℕ) (y : Done) → x ≤ a → slice_get (f a) i ≡ Some y
    → actor_of y ≡ a)
    → ((a i j : ℕ) (one other : Done) → x ≤ a → i < j → slice_get (f a) i ≡ Some one
    → slice_get (f a) j ≡ Some other → AreInTurn one other)
    → (i j : ℕ) (one other : Done) → i < j → slice_get (flat_map f (numbers_from x k)) i ≡ Some one
    → slice_get (flat_map f (numbers_from x k)) j ≡ Some other → actor_of one ≡ actor_of other → AreInTurn one other
all-in-turn f x zero each order i j one other le at_one at_other same = cc
all-in-turn f x (suc k) each order i j one other le at_one at_other same =
    grind (
      arith,
      append-at,
      block-above,
      slice_get_within,
      all-in-turn f (suc x) k (λ c i y h. each c i y (omega (arith, h)))
          (λ c i j y z h. order c i j y z (omega (arith, h))),
    )

-- the lines of subscribers tell of no find
abbrev AreUntold : List Done → Type 0
AreUntold lines = (i : ℕ) (line : Done) (find : FindLine) → slice_get lines i ≡ Some line
    → find_of line ≡ Some find → ⊥

steps-untold : (setting : Setting) (sub : ℕ) (course : Course) (steps : List Step) (seen : List ℕ)
    → AreUntold (step_lines setting sub course steps seen)
unfolding step_lines
steps-untold setting sub course [] seen i line find is told = cc
steps-untold setting sub course (step ∷ steps) seen zero line find is told = grind arith
steps-untold setting sub course (step ∷ steps) seen (suc i) line find is told =
    steps-untold setting sub (after_step setting course step) steps
    (drop (length (step_writes setting course step)) seen) i line find is told

subs-untold : (setting : Setting) (scripts : Scripts) (history : History) (some : List ℕ)
    → AreUntold (flat_map (sub_lines setting scripts history) some)
subs-untold setting scripts history [] i line find is told = cc
subs-untold setting scripts history (sub ∷ some) i line find is told =
    grind (arith, append-at, steps-untold, subs-untold setting scripts history some)

-- so all lines are in turn
pub outcome-in-turn : FindsFollow → CallersCount → TicketsAscend → LinesAreInTurn
outcome-in-turn follow count ascend setting scripts history played i j one other le at_one at_other same
    earlier later is_earlier is_later =
    grind (arith, append-at, subs-untold, all-in-turn, map-at, caller-in-turn)
