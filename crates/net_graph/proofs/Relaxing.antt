-- What one step of the search does to the weights.
use Rattle.std.proofs.Common.{rules, ◌≡◌, ◌≢◌, ◌++◌, take, get_or, ℕ, ◌+◌, ◌<◌, ◌≤◌, Bool, true, false, List, [], ◌∷◌, Option, None, Some, length, set, refl, sym, ◌∙◌, ap, inl, inr, arith}
use Rattle.std.specs.Prelude.{Contains, IsPermutation}
use Rattle.std.proofs.lemmas.List.{length-set, get_or-set_same, get_or-set_other, take_more}
use Rattle.std.proofs.lemmas.Bool.{cases_eq}
use Rattle.net_graph.specs.declared.neighbours.Arc.{Arc}
use Rattle.net_graph.specs.Walks.{among}
use Rattle.net_graph.specs.WalkLaws.{among_below}
use Rattle.net_graph.specs.Trees.{at_node}
use Rattle.net_graph.specs.Layout.{make_arc}
use Rattle.net_graph.specs.Least.{IsAtMost}
use Rattle.net_graph.specs.Queue.{Waiting, make_waiting}
use Rattle.net_graph.specs.Search.{IsLighter, IsRelaxed}
use Rattle.std.proofs.lemmas.List.Sorted.{Contains-permutation, IsPermutation-sym}
use Rattle.std.proofs.lemmas.List.Elements.{Contains-append_left, Contains-append_right, Contains-append_cases}
use Rattle.net_graph.proofs.Elements.{first, first_or_later, later}
use Rattle.std.proofs.lemmas.Option.{same_Some}

lighter_falls : (through w : ℕ) (weight : Option ℕ) → IsLighter through weight → IsAtMost weight w → through ≤ w
lighter_falls through w None lighter h = absurd h
lighter_falls through w (Some x) lighter h = omega (arith, lighter x refl)

-- an arc by which an unsettled node becomes lighter
module _ (arc : Arc) (x radius : ℕ) (unsettled : List Bool) (old : List (Option ℕ)) (waited waiting : List Waiting)
    (within : x + arc.weight ≤ radius) (waits : among unsettled arc.target ≡ true)
    (same_count : length unsettled ≡ length old)
    (lighter : IsLighter (x + arc.weight) (at_node old arc.target))
    (pushed : IsPermutation (make_waiting (x + arc.weight) arc.target ∷ waited) waiting) where
  abbrev target : ℕ
  target = arc.target

  abbrev through : ℕ
  through = x + arc.weight

  in_unsettled : target < length unsettled
  in_unsettled = among_below unsettled arc.target waits

  abbrev lowered : List (Option ℕ)
  lowered = set old target (Some through)

  here_now : at_node lowered target ≡ Some through
  here_now = get_or-set_same old target (Some through) None (omega (arith, in_unsettled, same_count))

  other_now : (v : ℕ) → v ≢ target → at_node lowered v ≡ at_node old v
  other_now v other = get_or-set_other old target v (Some through) None other

  joins : Contains waiting (make_waiting through target)
  joins = Contains-permutation (make_waiting (x + arc.weight) arc.target ∷ waited) waiting
      (make_waiting (x + arc.weight) arc.target) pushed
      (0, omega arith, refl)

  pub relaxed_to : IsRelaxed (arc ∷ []) x radius unsettled old (set old arc.target (Some (x + arc.weight))) waited
      waiting
  relaxed_to = record {
    count = length-set old arc.target (Some (x + arc.weight));
    kept = λ v settled. other_now v (λ same. let both : true ≡ false = sym waits ∙ sym (ap (among unsettled) same)
        ∙ settled in cc);
    cause = search (rules, cases_eq, first, same_Some, here_now, other_now);
    falls = λ v w h. grind (arith, cases_eq v arc.target, here_now, lighter_falls, other_now);
    reached = search (rules, first_or_later, here_now);
    wait_on = search (rules, Contains-permutation, later);
    joined = search (rules, cases_eq, same_Some, here_now, joins, other_now);
    since = λ w v has. elim (first_or_later (make_waiting w v) (make_waiting (x + arc.weight) arc.target) waited
        (Contains-permutation waiting (make_waiting (x + arc.weight) arc.target ∷ waited) (make_waiting w v)
        (IsPermutation-sym (make_waiting (x + arc.weight) arc.target ∷ waited) waiting pushed) has)) [
          | inl is ↦ grind (arith, in_unsettled, here_now)
          | inr before ↦ inl before
        ];
  }

-- one more arc
relaxed_more : {arcs : List Arc} {arc : Arc} {x radius : ℕ} {unsettled : List Bool} {old mid new : List (Option ℕ)}
    {waited between waiting : List Waiting} → IsRelaxed arcs x radius unsettled old mid waited between
    → IsRelaxed (arc ∷ []) x radius unsettled mid new between waiting
    → IsRelaxed (arcs ++ arc ∷ []) x radius unsettled old new waited waiting
relaxed_more {arcs} {arc} {x} p q = record {
  count = q.count ∙ p.count;
  kept = λ v settled. q.kept v settled ∙ p.kept v settled;
  cause = λ v w here.
      grind (
        arith,
        q.cause v w here,
        p.cause v w,
        Contains-append_left arcs (arc ∷ []),
        Contains-append_right arcs (arc ∷ []),
      );
  falls = λ v w h. q.falls v w (p.falls v w h);
  reached = λ v c has waits within. grind (arith, Contains-append_cases arcs (arc ∷ []) (make_arc v c) has);
  wait_on = λ w v has. q.wait_on w v (p.wait_on w v has);
  joined = λ v w here. grind (arith, q.joined v w here, p.joined v w, q.wait_on w v);
  since = λ w v has. grind (arith, q.since w v has, p.since w v, q.falls v w);
}

-- one more arc of a list
pub relaxed_next : (arcs : List Arc) (i : ℕ) (d : Arc) {x radius : ℕ} {unsettled : List Bool}
    {old mid new : List (Option ℕ)} {waited between waiting : List Waiting} → i < length arcs
    → IsRelaxed (take i arcs) x radius unsettled old mid waited between
    → IsRelaxed (get_or arcs i d ∷ []) x radius unsettled mid new between waiting
    → IsRelaxed (take (i + 1) arcs) x radius unsettled old new waited waiting
relaxed_next arcs i d below p q = grind (arith, take_more arcs i d below, relaxed_more p q)
