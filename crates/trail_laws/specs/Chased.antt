-- How the marks follow one another that a find reads in its chase, whatever visits fall between its
-- looks. Next behind a Gone stands no lower number, and no Gone that isn't higher; next behind a
-- Coming, which leads back, no lower number but that of a Here, which is at most one lower and
-- answers. The numbers of the Gones rise all along; and however far behind a Gone a mark is read,
-- its number is no lower. Key law: `chases_rise`.
use Rattle.std.specs.Prelude.{ℕ, suc, ◌<◌, ◌≤◌, ◌^◌, List, [], ◌∷◌, ◌++◌, filter_map, flat_map, Option, Some, None}
use Rattle.node_set.specs.Ascending.{IsAscending}
use Rattle.entry_word.specs.Marks.{mark_in}
use Rattle.entry_word.specs.declared.mark.PresenceMark.{PresenceMark}
use Rattle.entry_word.specs.declared.mark.PresenceMark.TheVariants.{Empty, Here, Gone, Coming, Off}
use Rattle.directory.specs.Settings.{Setting}
use Rattle.directory.specs.Histories.{History, words_at}
use Rattle.directory.specs.Legal.{IsLegal}
use Rattle.directory.specs.Finds.{FindCall, Pursuit, after_word, at_origin, chases, climbs, ended}
use Rattle.directory.specs.Looks.{AreLooks}
use Rattle.trail_laws.specs.Trail.{GoesUp}

-- a chase that a Coming with this number leads back meets no lower one, but for the Here of a
-- subscriber that hasn't left yet: that is one lower
abbrev pub GoesBack : ℕ → PresenceMark → Type 0
GoesBack p Empty = Unit {0}
GoesBack p (Here number) = p ≤ suc number
GoesBack p (Gone number to) = p ≤ number
GoesBack p (Coming number from) = p ≤ number
GoesBack p (Off number) = p ≤ number

-- what a chase may read behind a mark; only a Gone and a Coming lead on
abbrev pub MayFollow : PresenceMark → PresenceMark → Type 0
MayFollow Empty next = ⊥
MayFollow (Here number) next = ⊥
MayFollow (Gone number to) next = GoesUp number next
MayFollow (Coming number from) next = GoesBack number next
MayFollow (Off number) next = ⊥

-- marks that may follow one another
abbrev pub FollowOn : List PresenceMark → Type 0
FollowOn [] = Unit {0}
FollowOn (mark ∷ []) = Unit {0}
FollowOn (mark ∷ next ∷ later) = MayFollow mark next × FollowOn (next ∷ later)

-- the number of a Gone, and none of another mark
abbrev pub gone_number : PresenceMark → Option ℕ
gone_number Empty = None
gone_number (Here number) = None
gone_number (Gone number to) = Some number
gone_number (Coming number from) = None
gone_number (Off number) = None

-- a mark has no lower number
abbrev pub IsNoLower : ℕ → PresenceMark → Type 0
IsNoLower p Empty = Unit {0}
IsNoLower p (Here number) = p ≤ number
IsNoLower p (Gone number to) = p ≤ number
IsNoLower p (Coming number from) = p ≤ number
IsNoLower p (Off number) = p ≤ number

-- none of these has
abbrev pub AreNoLower : ℕ → List PresenceMark → Type 0
AreNoLower p [] = Unit {0}
AreNoLower p (mark ∷ later) = IsNoLower p mark × AreNoLower p later

-- no mark behind a Gone has a lower number, however far behind
abbrev pub StayAbove : List PresenceMark → Type 0
StayAbove [] = Unit {0}
StayAbove (Gone number to ∷ later) = AreNoLower number later × StayAbove later
StayAbove (mark ∷ later) = StayAbove later

-- the marks of a chase may follow one another, the numbers of all its Gones rise, and no number
-- falls below that of a Gone that was read
abbrev pub ChaseRises : List PresenceMark → Type 0
ChaseRises marks =
    FollowOn marks × IsAscending (filter_map gone_number marks) × StayAbove marks

-- the mark in a word, where the find chases
abbrev pub mark_chased : Pursuit → ℕ → List PresenceMark
mark_chased at_origin word = []
mark_chased (climbs known weight reader later) word = []
mark_chased (chases chase node) word = mark_in word ∷ []
mark_chased (ended found) word = []

-- the marks that a find reads in its chase, when it reads these words from a pursuit on
abbrev pub marks_chased : Setting → FindCall → Pursuit → List ℕ → List PresenceMark
marks_chased setting call pursuit [] = []
marks_chased setting call pursuit (word ∷ words) =
    mark_chased pursuit word
    ++ marks_chased setting call (after_word setting call pursuit word) words

-- so rises the chase of each find in a legal history, whether the find has its answer or is under
-- way (`chases_rise`)
abbrev pub ChasesRise : Type 0
ChasesRise =
    (setting : Setting) (history : History) (actor : ℕ) (call : FindCall) (tickets : List ℕ)
    → setting.nodes ≤ 2 ^ 16 → call.from < setting.nodes → IsLegal setting call.sub history
    → AreLooks setting history actor call 0 at_origin tickets
    → ChaseRises (marks_chased setting call at_origin (flat_map (words_at setting history) tickets))
