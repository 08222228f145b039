-- Which writes leave an entry its address, and how many commits are among the writes of a move.
use Rattle.std.proofs.Common.{◌≡◌, inl, inr, ℕ, zero, suc, ◌+◌, ◌<◌, ◌≤◌, Bool, true, false, cond, not, ◌==◌, ◌&&◌, List, [], ◌∷◌, ◌++◌, Option, Some, None, map, take, fold, refl, arith}
use Rattle.std.specs.Prelude.{filter_map, is_some}
use Rattle.std.proofs.lemmas.Bool.{cases_Bool, cases_eq, eq-eqb, eqb-true}
use Rattle.std.proofs.lemmas.Bool.Decides.{nat_tests}
use Rattle.node_set.specs.Ascending.{sift}
use Rattle.entry_word.specs.declared.address.Address.{Address}
use Rattle.entry_word.specs.declared.mark.PresenceMark.TheVariants.{Empty, Here, Coming}
use Rattle.directory.specs.Settings.{Setting}
use Rattle.directory.specs.Courses.{Course, Move}
use Rattle.directory.specs.States.{entry_after, write_commit}
use Rattle.directory.specs.Writes.{entry_at, erasure_writes, mark_at, new_address, numbers_from, old_home, purge_writes, Write}

-- what an entry holds after some writes
abbrev pub held_after : ℕ → ℕ → Option Address → List Write → Option Address
held_after level cluster entry ws = fold (entry_after level cluster) entry ws

-- a write doesn't empty an entry
abbrev pub Spares : ℕ → ℕ → Write → Type 0
Spares level cluster (mark_at node mark) = Unit {0}
Spares level cluster (entry_at other c None) = (level == other && cluster == c) ≡ false
Spares level cluster (entry_at other c (Some address)) = Unit {0}

abbrev pub AllSpare : ℕ → ℕ → List Write → Type 0
AllSpare level cluster [] = Unit {0}
AllSpare level cluster (write ∷ later) = Spares level cluster write × AllSpare level cluster later

one-spared : (level cluster : ℕ) (entry : Option Address) (write : Write) → Spares level cluster write
    → is_some entry ≡ true → is_some (entry_after level cluster entry write) ≡ true
one-spared level cluster entry (mark_at node mark) spare some = some
one-spared level cluster entry (entry_at other c None) spare some = rw spare some
one-spared level cluster entry (entry_at other c (Some address)) spare some =
    at_test (level == other && cluster == c)
  where
    at_test : (b : Bool) → is_some (cond b (Some address) entry) ≡ true
    at_test true = refl
    at_test false = some

pub spared : (level cluster : ℕ) (entry : Option Address) (ws : List Write) → AllSpare level cluster ws
    → is_some entry ≡ true → is_some (held_after level cluster entry ws) ≡ true
spared level cluster entry [] spare some = some
spared level cluster entry (write ∷ ws) spare some =
    spared level cluster (entry_after level cluster entry write) ws spare.1
    (one-spared level cluster entry write spare.0 some)

pub spare-take : (level cluster k : ℕ) (ws : List Write) → AllSpare level cluster ws → AllSpare level cluster (take k ws)
spare-take level cluster zero ws spare = tt
spare-take level cluster (suc k) [] spare = tt
spare-take level cluster (suc k) (write ∷ ws) spare = (spare.0, spare-take level cluster k ws spare.1)

pub spare-append : (level cluster : ℕ) (xs ys : List Write) → AllSpare level cluster xs → AllSpare level cluster ys
    → AllSpare level cluster (xs ++ ys)
spare-append level cluster [] ys one two = two
spare-append level cluster (x ∷ xs) ys one two = (one.0, spare-append level cluster xs ys one.1 two)

-- writes at the numbers of a range that pass a test
pub spare-sift : (level cluster : ℕ) (g : ℕ → Write) (test : ℕ → Bool) (first count : ℕ)
    → ((i : ℕ) → i < first + count → test i ≡ true → Spares level cluster (g i))
    → AllSpare level cluster (map g (sift test first count))
spare-sift level cluster g test first zero each = tt
spare-sift level cluster g test first (suc count) each =
    at_test (test first) refl
    (spare-sift level cluster g test (suc first) count (λ i below. each i (omega (arith, below))))
  where
    at_test : (b : Bool) → test first ≡ b → AllSpare level cluster (map g (sift test (suc first) count))
        → AllSpare level cluster (map g (cond b (first ∷ sift test (suc first) count) (sift test (suc first) count)))
    at_test true e rest = (each first (omega arith) e, rest)
    at_test false e rest = rest

-- writes none of which is a commit
abbrev pub NoneCommits : List Write → Type 0
NoneCommits [] = Unit {0}
NoneCommits (write ∷ later) = (write_commit write ≡ None) × NoneCommits later

pub none-listed : (ws : List Write) → NoneCommits ws → filter_map write_commit ws ≡ []
none-listed [] none = refl
none-listed (write ∷ ws) none = rw none.0 (none-listed ws none.1)

pub none-take : (k : ℕ) (ws : List Write) → NoneCommits ws → NoneCommits (take k ws)
none-take zero ws none = tt
none-take (suc k) [] none = tt
none-take (suc k) (write ∷ ws) none = (none.0, none-take k ws none.1)

none-append : (xs ys : List Write) → NoneCommits xs → NoneCommits ys → NoneCommits (xs ++ ys)
none-append [] ys one two = two
none-append (x ∷ xs) ys one two = (one.0, none-append xs ys one.1 two)

none-map : (g : ℕ → Write) (xs : List ℕ) → ((i : ℕ) → write_commit (g i) ≡ None) → NoneCommits (map g xs)
none-map g [] each = tt
none-map g (x ∷ xs) each = (each x, none-map g xs each)

-- ---- the writes of a move: those up to its commit, the commit, and those after it
module _ (setting : Setting) (course : Course) (move : Move) where
  abbrev pub early : List Write
  early = mark_at move.to (Coming move.number move.from)
      ∷ map (new_address setting move) (numbers_from 0 (suc move.renewed))

  abbrev pub late : List Write
  late = mark_at move.to (Here move.number) ∷ (erasure_writes setting course move ++ purge_writes setting course move)

  -- before the commit no address is erased
  pub early-spares : (level cluster : ℕ) → AllSpare level cluster early
  early-spares level cluster =
      (tt, spare-sift level cluster (new_address setting move) (λ p. true) 0 (suc move.renewed) (λ i below h. tt))

  pub early-commits : NoneCommits early
  early-commits = (refl, none-map (new_address setting move) (numbers_from 0 (suc move.renewed)) (λ i. refl))

  purges-none : (b : Bool) (nodes : List ℕ)
      → NoneCommits (cond b (map (λ node. mark_at node Empty) nodes) [])
  purges-none true nodes = none-map (λ node. mark_at node Empty) nodes (λ i. refl)
  purges-none false nodes = tt

  pub late-commits : NoneCommits late
  late-commits = (
    refl,
    none-append (erasure_writes setting course move) (purge_writes setting course move)
        (none-map _ _ (λ i. refl)) (purges-none (move.renewed == setting.top) _),
  )

  -- each level that the move renews has its address then
  addressed : (level first count : ℕ) (entry : Option Address) → first ≤ level → level < first + count
      → is_some (held_after level (setting.home level move.to) entry
      (map (new_address setting move) (numbers_from first count))) ≡ true
  addressed level first zero entry low high = absurd (omega arith)
  addressed level first (suc count) entry low high = elim (cases_eq first level) [
    | inl same ↦ spared level (setting.home level move.to) _ _
        (spare-sift level (setting.home level move.to) (new_address setting move) (λ p. true) (suc first) count
        (λ i below h. tt))
        (rw (same, eq-eqb level level refl, eq-eqb (setting.home level move.to) (setting.home level move.to) refl) refl)
    | inr apart ↦ addressed level (suc first) count _ (omega arith) (omega arith)
  ]

  pub early-addresses : (level : ℕ) (entry : Option Address) → level ≤ move.renewed
      → is_some (held_after level (setting.home level move.to) entry early) ≡ true
  early-addresses level entry low = addressed level 0 (suc move.renewed) entry (omega arith) (omega arith)

  -- after the commit an address is erased at a level that the move renews, where another home has the new one
  purges-spare : (level cluster : ℕ) (b : Bool) (nodes : List ℕ)
      → AllSpare level cluster (cond b (map (λ node. mark_at node Empty) nodes) [])
  purges-spare level cluster true [] = tt
  purges-spare level cluster true (node ∷ nodes) = (tt, purges-spare level cluster true nodes)
  purges-spare level cluster false nodes = tt

  pub late-spares : (level cluster : ℕ)
      → ((i : ℕ) → i ≤ move.renewed → (old_home setting course i == setting.home i move.to) ≡ false
      → (level == i && cluster == old_home setting course i) ≡ false)
      → AllSpare level cluster late
  late-spares level cluster each = (
    tt,
    spare-append level cluster (erasure_writes setting course move)
        (purge_writes setting course move)
        (spare-sift level cluster (λ i. entry_at i (old_home setting course i) None)
        (λ i. not (old_home setting course i == setting.home i move.to)) 0 (suc move.renewed)
        (λ i below h. each i (omega (arith, below)) (not-false _ h)))
        (purges-spare level cluster (move.renewed == setting.top) _),
  )
    where
      not-false : (b : Bool) → not b ≡ true → b ≡ false
      not-false true h = cc
      not-false false h = refl

  -- that of a level which the move renews, at the new home, and that of another level anywhere
  pub late-spares_new : (level : ℕ) → AllSpare level (setting.home level move.to) late
  late-spares_new level = late-spares level (setting.home level move.to) (λ i low apart. at_level i apart)
    where
      at_level : (i : ℕ) → (old_home setting course i == setting.home i move.to) ≡ false
          → (level == i && setting.home level move.to == old_home setting course i) ≡ false
      at_level i apart = grind (arith, nat_tests, cases_Bool, eqb-true)

  pub late-spares_above : (level cluster : ℕ) → move.renewed < level → AllSpare level cluster late
  late-spares_above level cluster high = late-spares level cluster (λ i low apart. at_level i (omega (arith, high, low)))
    where
      at_level : (i : ℕ) → i < level → (level == i && cluster == old_home setting course i) ≡ false
      at_level i below = grind (arith, nat_tests)
