-- The trail as a set of nodes: what is told of each node, and the first of those that are left.
use Rattle.std.proofs.Common.{◌≡◌, ◌≢◌, ℕ, zero, suc, ◌+◌, ◌-◌, ◌<◌, ◌≤◌, Bool, true, false, cond, [], Option, Some, None, IfSome, IfNone, length, replicate, set, refl, sym, ap, ◌∙◌, arith}
use Rattle.std.specs.Prelude.{get_or, not, ◌==◌, ◌&&◌}
use Rattle.std.proofs.lemmas.List.{ext_get_or, get_or-map, get_or-replicate, get_or-set_same, get_or-set_other, length-map, length-replicate, length-set}
use Rattle.node_set.specs.Ascending.{has, with_number}
use Rattle.node_set.specs.Nodes.{Nodes}
use Rattle.node_set.specs.Scan.{IsNext, IsNoneFrom}
use Rattle.node_set.specs.SetLaws.{has-inserted, length-passing_all, passing_all-each}
use Rattle.handset.specs.StepWrites.{first_with}
use Rattle.handset.specs.Trails.{flags}

-- one flag for each node
pub flag-count : (trail : Nodes) → length (flags trail) ≡ trail.room
unfolding flags
flag-count trail = grind (arith, length-map, length-passing_all)

-- which tells whether the node is there
pub flag-at : (trail : Nodes) (x : ℕ) → x < trail.room → get_or (flags trail) x false ≡ has x trail.members
unfolding flags
flag-at trail x below =
    grind (arith, length-passing_all 0 trail.room, passing_all-each 0 trail.room x 0 below, get_or-map)

-- the flags of no node
pub flags-none : (room : ℕ) → flags (record { room = room; members = [] }) ≡ replicate room false
flags-none room =
    let none : Nodes = record { room = room; members = [] } in
    ext_get_or false (flags none) (replicate room false) (flag-count none ∙ sym (length-replicate room false))
    (λ i h. let below : i < room = omega (arith, h, flag-count none) in
    flag-at none i below ∙ sym (get_or-replicate room i false false below))

-- the flags with one node more
pub flags-more : (trail : Nodes) (v : ℕ) → v < trail.room
    → flags (record { room = trail.room; members = with_number v trail.members }) ≡ set (flags trail) v true
flags-more trail v inside =
    let more : Nodes = record { room = trail.room; members = with_number v trail.members } in
    let here : v < length (flags trail) = omega (arith, inside, flag-count trail) in
    ext_get_or false (flags more) (set (flags trail) v true)
    (flag-count more ∙ sym (length-set (flags trail) v true ∙ flag-count trail))
    (λ i h. let below : i < trail.room = omega (arith, h, flag-count more) in
    grind (arith, flag-at, has-inserted, get_or-set_same, get_or-set_other))

-- the first number that passes, where none before it does
pub first-found : (test : ℕ → Bool) (from k v : ℕ) → from ≤ v → v < from + k → test v ≡ true
    → ((x : ℕ) → from ≤ x → x < v → test x ≡ false) → first_with test from k ≡ Some v
first-found test from zero v low high passes fails = absurd (omega arith)
first-found test from (suc k) v low high passes fails =
    let later : from ≢ v → first_with test (suc from) k ≡ Some v = λ ne.
    first-found test (suc from) k v (omega arith) (omega arith) passes (λ x l h. fails x (omega (arith, l)) h) in
    let here = fails from in
    grind arith

-- where none passes, there is no first
pub first-missing : (test : ℕ → Bool) (from k : ℕ) → ((x : ℕ) → from ≤ x → x < from + k → test x ≡ false)
    → first_with test from k ≡ None
first-missing test from zero fails = refl
first-missing test from (suc k) fails =
    ap (λ b. cond b (Some from) (first_with test (suc from) k)) (fails from (omega arith) (omega arith))
    ∙ first-missing test (suc from) k (λ x l h. fails x (omega (arith, l)) (omega (arith, h)))

-- a node of the trail that isn't the new one
abbrev pub is_left : Nodes → ℕ → ℕ → Bool
is_left trail to node = get_or (flags trail) node false && not (node == to)

-- a node that isn't on the trail
not-there : (trail : Nodes) (to x : ℕ) → x < trail.room → has x trail.members ≡ false → is_left trail to x ≡ false
not-there trail to x below none = ap (λ b. b && not (x == to)) (flag-at trail x below ∙ none)

-- another node of the trail
still-there : (trail : Nodes) (to x : ℕ) → x < trail.room → has x trail.members ≡ true → x ≢ to
    → is_left trail to x ≡ true
still-there trail to x below there other = grind (arith, flag-at)

-- where no node is left from one on
pub none-behind : (trail : Nodes) (to from : ℕ) → IsNoneFrom trail.members from
    → None ≡ first_with (is_left trail to) from (length (flags trail) - from)
none-behind trail to from none = grind (arith, is_left, flag-count, not-there, first-missing)

-- where the next node isn't the new one
pub next-behind : (trail : Nodes) (to : ℕ) {from node : ℕ} → IsNext trail.members from node → node < trail.room
    → node ≢ to → Some node ≡ first_with (is_left trail to) from (length (flags trail) - from)
next-behind trail to {from} {node} next below other =
    let count = flag-count trail in
    sym (first-found (is_left trail to) from (length (flags trail) - from) node next.reached
    (omega (arith, next.reached, below, count)) (still-there trail to node below next.member other)
    (λ x low high. not-there trail to x (omega (arith, high, below)) (next.first x low high)))

-- between a number and the next node behind the new one no node is left
between : (trail : Nodes) {to from node : ℕ} → IsNext trail.members from node → node < trail.room → node ≡ to → (x : ℕ)
    → from ≤ x → x < trail.room → (node + 1 ≤ x → has x trail.members ≡ false) → is_left trail to x ≡ false
between trail {to} {node} next inside same x low below later = grind (arith, not-there)

-- where the next node is the new one, the one behind it is the first
pub behind-next : (trail : Nodes) {to from node : ℕ} (rest : Option ℕ) → IsNext trail.members from node
    → node < trail.room → node ≡ to → IfSome rest (IsNext trail.members (node + 1)) → IfSome rest (λ v. v < trail.room)
    → IfNone rest (IsNoneFrom trail.members (node + 1))
    → rest ≡ first_with (is_left trail to) from (length (flags trail) - from)
behind-next trail {to} {from} None next inside same some below none =
    sym (first-missing (is_left trail to) from (length (flags trail) - from)
    (λ x low high. between trail next inside same x low (omega (arith, low, high, flag-count trail))
    (λ past. none x past)))
behind-next trail {to} {from} (Some v) next inside same some below none =
    let count = flag-count trail in
    sym (first-found (is_left trail to) from (length (flags trail) - from) v (omega (arith, next.reached, some.reached))
    (omega (arith, next.reached, some.reached, below, count))
    (still-there trail to v below some.member (λ e. absurd (omega (arith, e, same, some.reached))))
    (λ x low high. between trail next inside same x low (omega (arith, high, below)) (λ past. some.first x past high)))
