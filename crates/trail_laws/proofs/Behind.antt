-- What the marks that a chase has read leave for the next one, and what follows for the whole list. Each is read where
-- the subscriber was after so many of its commits, and that stays so.
use Rattle.std.proofs.lemmas.List.{map-append, length-map, get_or_append_left}
use Rattle.std.proofs.Common.{◌≡◌, ◌⊎◌, ℕ, ◌-◌, ◌≤◌, false, List, [], ◌∷◌, Option, refl, arith}
use Rattle.std.specs.Prelude.{filter_map}
use Rattle.node_set.specs.Ascending.{IsAscending, IsBelowAll}
use Rattle.entry_word.specs.declared.mark.PresenceMark.{PresenceMark}
use Rattle.entry_word.specs.declared.mark.PresenceMark.TheVariants.{Empty, Here, Gone, Coming, Off}
use Rattle.directory.specs.Settings.{Setting, start}
use Rattle.directory.specs.Histories.{before, History}
use Rattle.directory.specs.Finds.{after_word, chases, ended, FindCall, is_known, Pursuit}
use Rattle.directory.specs.Standing.{commits, number}
use Rattle.trail_laws.specs.Trail.{GoesUp}
use Rattle.trail_laws.specs.Phases.{moves_begun}
use Rattle.trail_laws.specs.Chased.{AreNoLower, FollowOn, IsNoLower, StayAbove, gone_number, mark_chased, marks_chased}
use Rattle.trail_laws.proofs.Stops.{stop_after}
use Rattle.trail_laws.proofs.Passing.{begun-grows, commits-grow, number-grows}

-- what the marks that were read leave for the next one: after how many commits the subscriber was at its node, a number
-- that was begun, and that of the last Gone
pub record Behind : Type 0 where
  pub place : ℕ
  pub begun : ℕ
  pub gone : ℕ

abbrev pub nothing : Behind
nothing = record { place = 0; begun = 0; gone = 0 }

pub record IsBehind (setting : Setting) (sub : ℕ) (seen : History) (behind : Behind) (known : Option ℕ) (node : ℕ)
    : Type 0 where
  pub few : behind.place ≤ number sub seen
  pub stop : (behind.place ≡ 0) ⊎ (stop_after (start setting sub) (commits sub seen) behind.place ≡ node)
  pub early : behind.begun ≤ moves_begun setting sub seen
  pub rises : behind.gone ≤ behind.place
  pub fresh : (p : ℕ) → is_known p known ≡ false → behind.gone ≤ p - 1

-- it stays so
pub behind-later : {setting : Setting} {sub : ℕ} (t u : ℕ) (history : History) {behind : Behind} {known : Option ℕ}
    {node : ℕ}
    → t ≤ u → IsBehind setting sub (before t history) behind known node
    → IsBehind setting sub (before u history) behind known node
behind-later {setting} {sub} t u history {behind} h is =
    grind (arith, number-grows, commits-grow sub t u history h, map-append, length-map, get_or_append_left, begun-grows)

-- what is known at a pursuit
abbrev pub IsTracked : Setting → ℕ → History → Behind → Pursuit → Type 0
IsTracked setting sub seen behind (chases chase node) = IsBehind setting sub seen behind chase.known node
IsTracked setting sub seen behind (ended found) = Unit {0}
IsTracked setting sub seen behind pursuit = behind ≡ nothing

pub tracked-nothing : (setting : Setting) (sub : ℕ) (seen : History) (pursuit : Pursuit)
    → IsTracked setting sub seen nothing pursuit
tracked-nothing setting sub seen pursuit = grind arith

-- a mark fits what is behind it
abbrev pub IsBegun : ℕ → PresenceMark → Type 0
IsBegun n (Coming q from) = n ≤ q
IsBegun n (Off q) = n ≤ q
IsBegun n mark = Unit {0}

abbrev pub HeadFits : ℕ → ℕ → List PresenceMark → Type 0
HeadFits place begun [] = Unit {0}
HeadFits place begun (mark ∷ later) = GoesUp place mark × IsBegun begun mark

-- marks that a chase reads behind others
pub record Rises (behind : Behind) (marks : List PresenceMark) : Type 0 where
  pub head : HeadFits behind.place behind.begun marks
  pub on : FollowOn marks
  pub above : IsBelowAll behind.gone (filter_map gone_number marks)
  pub ascends : IsAscending (filter_map gone_number marks)
  pub up : AreNoLower behind.gone marks
  pub stays : StayAbove marks

pub none-rise : (behind : Behind) → Rises behind []
none-rise behind = record { head = tt; on = tt; above = tt; ascends = tt; up = tt; stays = tt }

below-less : (a b : ℕ) (xs : List ℕ) → a ≤ b → IsBelowAll b xs → IsBelowAll a xs
below-less a b [] h all = tt
below-less a b (x ∷ xs) h all = (omega (arith, h, all.0), below-less a b xs h all.1)

-- a mark that goes up from a number, or is no lower, is no lower than a smaller one
up-less : (a b : ℕ) (mark : PresenceMark) → a ≤ b → GoesUp b mark → IsNoLower a mark
up-less a b Empty h up = tt
up-less a b (Here number) h up = omega (arith, h, up)
up-less a b (Gone number to) h up = omega (arith, h, up)
up-less a b (Coming number from) h up = omega (arith, h, up)
up-less a b (Off number) h up = omega (arith, h, up)

no-lower-less : (a b : ℕ) (mark : PresenceMark) → a ≤ b → IsNoLower b mark → IsNoLower a mark
no-lower-less a b Empty h up = tt
no-lower-less a b (Here number) h up = omega (arith, h, up)
no-lower-less a b (Gone number to) h up = omega (arith, h, up)
no-lower-less a b (Coming number from) h up = omega (arith, h, up)
no-lower-less a b (Off number) h up = omega (arith, h, up)

all-less : (a b : ℕ) (marks : List PresenceMark) → a ≤ b → AreNoLower b marks → AreNoLower a marks
all-less a b [] h all = tt
all-less a b (mark ∷ marks) h all = (no-lower-less a b mark h all.0, all-less a b marks h all.1)

-- what a mark leaves for the next one
abbrev pub after_gone : ℕ → Behind
after_gone p = record { place = p; begun = p; gone = p }

abbrev pub after_coming : Behind → ℕ → Behind
after_coming behind p = record { place = p - 1; begun = p; gone = behind.gone }

abbrev pub Continues : Behind → PresenceMark → List PresenceMark → Type 0
Continues behind (Gone q to) later = Rises (after_gone q) later
Continues behind (Coming q from) later = Rises (after_coming behind q) later
Continues behind mark later = later ≡ []

-- a mark and those behind it are no lower than the last Gone
all-up : (behind : Behind) (mark : PresenceMark) (later : List PresenceMark) → behind.gone ≤ behind.place
    → GoesUp behind.place mark → Continues behind mark later → AreNoLower behind.gone (mark ∷ later)
all-up behind (Gone q to) later low up rest =
    (up-less behind.gone behind.place (Gone q to) low up, all-less behind.gone q later (omega (arith, low, up)) rest.up)
all-up behind (Coming q from) later low up rest =
    (up-less behind.gone behind.place (Coming q from) low up, rest.up)
all-up behind mark later low up rest = (up-less behind.gone behind.place mark low up, rw rest tt)

stays-on : (behind : Behind) (mark : PresenceMark) (later : List PresenceMark) → Continues behind mark later
    → StayAbove (mark ∷ later)
stays-on behind (Gone q to) later rest = (rest.up, rest.stays)
stays-on behind (Coming q from) later rest = rest.stays
stays-on behind mark later rest = rw rest tt

pub one-more : (behind : Behind) (mark : PresenceMark) (later : List PresenceMark) → behind.gone ≤ behind.place
    → GoesUp behind.place mark → IsBegun behind.begun mark → Continues behind mark later
    → Rises behind (mark ∷ later)
one-more behind mark later low up begun rest =
    let gone_up = all-up behind mark later low up rest in
    let stays = stays-on behind mark later rest in
    grind (arith, below-less)

-- no mark is read after the end
pub ended-none : (setting : Setting) (call : FindCall) (pursuit : Pursuit) (words : List ℕ)
    → ((word : ℕ) → (mark_chased pursuit word ≡ []) × (after_word setting call pursuit word ≡ pursuit))
    → marks_chased setting call pursuit words ≡ []
ended-none setting call pursuit [] still = refl
ended-none setting call pursuit (word ∷ words) still = grind (arith, ended-none setting call pursuit words still)
