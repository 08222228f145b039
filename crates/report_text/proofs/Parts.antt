-- The text of a plan, from one part on to the next.
use Rattle.std.proofs.lemmas.Bool.Decides.{nat_tests}
use Rattle.std.proofs.Common.{◌≡◌, ℕ, ◌+◌, ◌-◌, ◌<◌, ◌≤◌, List, [], ◌∷◌, ◌++◌, length, get_or, drop, take, sym, ap, ◌∙◌, append_assoc, append-nil, add-one, arith, drop-cons, codes, length-drop, length-take}
use Rattle.std.proofs.lemmas.Grind.{flat_map-append}
use Rattle.std.proofs.lemmas.List.{drop-drop, drop_all, get_or-drop, take-append-drop, take_more}
use Rattle.region_plan.specs.Plan.{PlanCluster, PlanData, Level, cluster_at, clusters_of, level_at, levels_of}
use Rattle.report_text.specs.PlanText.{cluster_head, clusters_text, homes_line, level_line, levels_text}
use Rattle.outside.specs.Texts.{field, fields}
use Rattle.report_text.specs.Written.{clusters_left, levels_left}

-- a level, or the end
level-go : (i : ℕ) (level : Level) (levels : List Level) (rest : List ℕ)
    → levels_text i (level ∷ levels) ++ rest
    ≡ level_line i level ++ (clusters_text 0 level.clusters ++ (homes_line level ++ (levels_text (i + 1) levels ++
    rest)))
unfolding levels_text
level-go i level levels rest = simp append_assoc

pub level-part : (plan : PlanData) (i : ℕ) → i < levels_of plan
    → levels_left plan i ≡ level_line i (level_at plan i) ++ clusters_left plan i 0
level-part plan i below =
    grind (arith, add-one, drop-cons, level-go)

pub levels-end : (plan : PlanData) (i : ℕ) → levels_of plan ≤ i → levels_left plan i ≡ codes "end" ++ 10 ∷ []
unfolding levels_text
levels-end plan i past = ap (λ levels. levels_text i levels ++ (codes "end" ++ 10 ∷ [])) (drop_all i plan.levels past)

-- a cluster, or the homes
cluster-go : (c : ℕ) (cluster : PlanCluster) (clusters : List PlanCluster) (rest : List ℕ)
    → clusters_text c (cluster ∷ clusters) ++ rest
    ≡ cluster_head c cluster ++ (fields cluster.members ++ (10 ∷ [] ++ (clusters_text (c + 1) clusters ++ rest)))
unfolding clusters_text
cluster-go c cluster clusters rest =
    append_assoc (cluster_head c cluster ++ (fields cluster.members ++ 10 ∷ [])) (clusters_text (c + 1) clusters) rest
    ∙ append_assoc (cluster_head c cluster) (fields cluster.members ++ 10 ∷ []) (clusters_text (c + 1) clusters ++ rest)
    ∙ ap (λ t. cluster_head c cluster ++ t)
    (append_assoc (fields cluster.members) (10 ∷ []) (clusters_text (c + 1) clusters ++ rest))

pub cluster-part : (plan : PlanData) (i c : ℕ) → c < clusters_of plan i
    → clusters_left plan i c
    ≡ cluster_head c (cluster_at plan i c)
    ++ (fields (cluster_at plan i c).members ++ (10 ∷ [] ++ clusters_left plan i (c + 1)))
cluster-part plan i c below =
    grind (arith, add-one, drop-cons, cluster-go)

pub clusters-end : (plan : PlanData) (i c : ℕ) → clusters_of plan i ≤ c
    → clusters_left plan i c
    ≡ codes "homes" ++ (fields (level_at plan i).homes ++ (10 ∷ [] ++ levels_left plan (i + 1)))
unfolding clusters_text
clusters-end plan i c past =
    let homes = fields (level_at plan i).homes in
    ap (λ cs. clusters_text c cs ++ (homes_line (level_at plan i) ++ levels_left plan (i + 1)))
    (drop_all c (level_at plan i).clusters past)
    ∙ append_assoc (codes "homes") (homes ++ 10 ∷ []) (levels_left plan (i + 1))
    ∙ ap (λ t. codes "homes" ++ t) (append_assoc homes (10 ∷ []) (levels_left plan (i + 1)))

-- the fields of some of a list's numbers
pub homes-more : (xs : List ℕ) (from v : ℕ) (line : List ℕ) → from ≤ v → v < length xs
    → line ≡ fields (take (v - from) (drop from xs)) ++ field (get_or xs v 0)
    → line ≡ fields (take (v + 1 - from) (drop from xs))
homes-more xs from v line order below is =
    let at : from + (v - from) ≡ v = omega (arith, order) in
    let inside : v - from < length (drop from xs) = omega (arith, length-drop from xs, order, below) in
    let found : get_or (drop from xs) (v - from) 0 ≡ get_or xs v 0 =
    get_or-drop from xs (v - from) 0 ∙ ap (λ i. get_or xs i 0) at in
    let count : v - from + 1 ≡ v + 1 - from = omega (arith, order) in
    grind (
      arith,
      nat_tests,
      take_more (drop from xs) (v - from) 0 inside,
      flat_map-append field (take (v - from) (drop from xs)) (get_or (drop from xs) (v - from) 0 ∷ []),
      append-nil (field (get_or xs v 0)),
    )

pub homes-cut : (xs : List ℕ) (from to : ℕ) (rest : List ℕ) → from ≤ to
    → fields (drop from xs) ++ rest ≡ fields (take (to - from) (drop from xs)) ++ (fields (drop to xs) ++ rest)
homes-cut xs from to rest order =
    let at : from + (to - from) ≡ to = omega (arith, order) in
    let back : drop (to - from) (drop from xs) ≡ drop to xs =
    drop-drop (to - from) from xs ∙ ap (λ i. drop i xs) at in
    ap (λ ys. fields ys ++ rest) (sym (take-append-drop (to - from) (drop from xs)))
    ∙ ap (λ t. t ++ rest) (flat_map-append field (take (to - from) (drop from xs)) (drop (to - from) (drop from xs)))
    ∙ append_assoc (fields (take (to - from) (drop from xs))) (fields (drop (to - from) (drop from xs))) rest
    ∙ ap (λ ys. fields (take (to - from) (drop from xs)) ++ (fields ys ++ rest)) back

fields-some : (ys : List ℕ) → 0 < length ys → 0 < length (fields ys)
fields-some [] some = absurd (omega (arith, some))
fields-some (y ∷ ys) some = omega arith

pub homes-some : (xs : List ℕ) (from to : ℕ) → from < to → to ≤ length xs
    → 0 < length (fields (take (to - from) (drop from xs)))
homes-some xs from to some within =
    grind (arith, fields-some, length-take, length-drop)
