-- Laws of homes among grown clusters, for proofs of covers.
-- Key laws: `homed_cases` (a ball that has a home has it in the first cluster or in a later one),
-- `home_within` and `home_has` (its home is a cluster that was grown from it), `home_step` (what is
-- known of homes once one cluster more is made).
use Rattle.std.proofs.Common.{◌≡◌, ◌⊎◌, inl, inr, ℕ, suc, ◌+◌, ◌<◌, Bool, true, false, cond, not, ◌&&◌, List, [], ◌∷◌, length, get_or, refl, arith}
use Rattle.std.proofs.lemmas.Bool.{false≢true}
use Rattle.node_set.specs.Ascending.{has}
use Rattle.node_set.specs.Balls.{GrownCluster, is_homed, home_of}

-- the balls of a cluster, and those of the later ones
pub homed_here : (c : GrownCluster) (cs : List GrownCluster) (v : ℕ) → has v c.homed ≡ true
    → is_homed (c ∷ cs) v ≡ true
unfolding is_homed
homed_here c cs v h = rw h refl

pub homed_later : (c : GrownCluster) (cs : List GrownCluster) (v : ℕ) → is_homed cs v ≡ true
    → is_homed (c ∷ cs) v ≡ true
unfolding is_homed
homed_later c cs v h = at (has v c.homed)
  where
    at : (b : Bool) → cond b true (is_homed cs v) ≡ true
    at true = refl
    at false = h

pub homed_cases : (c : GrownCluster) (cs : List GrownCluster) (v : ℕ) → is_homed (c ∷ cs) v ≡ true
    → (has v c.homed ≡ true) ⊎ (is_homed cs v ≡ true)
unfolding is_homed
homed_cases c cs v h = at (has v c.homed) refl h
  where
    at : (b : Bool) → has v c.homed ≡ b → cond b true (is_homed cs v) ≡ true
        → (has v c.homed ≡ true) ⊎ (is_homed cs v ≡ true)
    at true e h = inl e
    at false e h = inr h

-- the home of a ball is one of the clusters
pub home_within : (cs : List GrownCluster) (v : ℕ) → is_homed cs v ≡ true → home_of cs v < length cs
unfolding is_homed home_of
home_within [] v h = absurd (false≢true h)
home_within (c ∷ cs) v h = at (has v c.homed) h (home_within cs v)
  where
    at : (b : Bool) → cond b true (is_homed cs v) ≡ true
        → (is_homed cs v ≡ true → home_of cs v < length cs)
        → cond b 0 (suc (home_of cs v)) < suc (length cs)
    at true h rest = omega arith
    at false h rest = omega (arith, rest h)

-- and was grown from it
pub home_has : (cs : List GrownCluster) (v : ℕ) (d : GrownCluster) → is_homed cs v ≡ true
    → has v (get_or cs (home_of cs v) d).homed ≡ true
unfolding is_homed home_of
home_has [] v d h = absurd (false≢true h)
home_has (c ∷ cs) v d h = at (has v c.homed) refl h (home_has cs v d)
  where
    at : (b : Bool) → has v c.homed ≡ b → cond b true (is_homed cs v) ≡ true
        → (is_homed cs v ≡ true → has v (get_or cs (home_of cs v) d).homed ≡ true) →
        has v (get_or (c ∷ cs) (cond b 0 (suc (home_of cs v))) d).homed ≡ true
    at true e h rest = e
    at false e h rest = rest h

-- ---- one cluster more

-- homes that are known so far: h where the ball is in the new cluster, b where it had no home
-- before
pub home_step : (b h : Bool) (old new len more rest f : ℕ) → (h ≡ true → b ≡ true) → more ≡ len + 1
    → cond b (len + cond h 0 (suc rest)) old ≡ f → new ≡ cond h len old
    → cond (b && not h) (more + rest) new ≡ f
home_step true true old new len more rest f inside next before now = omega arith
home_step true false old new len more rest f inside next before now = omega arith
home_step false true old new len more rest f inside next before now = absurd
    (false≢true (inside refl))
home_step false false old new len more rest f inside next before now = omega arith
