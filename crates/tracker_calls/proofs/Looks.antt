-- One look more of a find, in a history that goes on.
use Rattle.std.proofs.Common.{◌≡◌, ℕ, suc, ◌<◌, ◌≤◌, List, [], ◌∷◌, ◌++◌, Some, length, sym, ap, ◌∙◌, subst, arith}
use Rattle.std.specs.Prelude.{slice_get}
use Rattle.std.proofs.lemmas.Option.{slice_get_within}
use Rattle.entry_word.specs.declared.visit.Key.{Key}
use Rattle.directory.specs.Settings.{Setting}
use Rattle.directory.specs.Histories.{History, IsFront, before, cell}
use Rattle.directory.specs.Finds.{FindCall, Pursuit, after_word, key_of}
use Rattle.directory.specs.Looks.{AreLooks, look_by}
use Rattle.tracker_calls.proofs.Longer.{front-before, front-get}
use Rattle.directory.specs.LookLaws.{pursuit_after, pursuit-step}

pub looks-more : (setting : Setting) (seen more : History) (actor : ℕ) (call : FindCall) {key : Key} (ticket : ℕ)
    → IsFront seen more → length seen ≤ ticket → slice_get more ticket ≡ Some (look_by actor key)
    → (made : List ℕ) (earliest : ℕ) (pursuit : Pursuit) → earliest ≤ length seen
    → AreLooks setting seen actor call earliest pursuit made
    → key_of call (pursuit_after setting seen call pursuit made) ≡ Some key
    → AreLooks setting more actor call earliest pursuit
    (made ++ ticket ∷ []) × (pursuit_after setting more call pursuit (made ++ ticket ∷ []) ≡ after_word setting call
    (pursuit_after setting seen call pursuit made) (cell setting (before ticket more) key))
unfolding AreLooks
looks-more setting seen more actor call {key} ticket front late is_look [] earliest pursuit low looks wanted =
    grind (arith, pursuit-step)
looks-more setting seen more actor call {key} ticket front late is_look (u ∷ made) earliest pursuit low
    (first, (k, is_wanted, its_look, rest)) wanted =
    let inside : u < length seen = slice_get_within seen u (look_by actor k) its_look in
    let there = front-get u seen more front its_look in
    let same : before u seen ≡ before u more = front-before u seen more front (omega (arith, inside)) in
    let next : Pursuit = after_word setting call pursuit (cell setting (before u seen) k) in
    let step = pursuit-step setting seen actor call pursuit u k made its_look in
    let deep = looks-more setting seen more actor call ticket front late is_look made (suc u) next
    (omega (arith, inside)) rest (subst (λ s. key_of call s ≡ Some key) step wanted) in (
      (first, (k, is_wanted, there, rw (← same) deep.0)),
      pursuit-step setting more actor call pursuit u k (made ++ ticket ∷ []) there
          ∙ (ap (λ h. pursuit_after setting more call (after_word setting call pursuit (cell setting h k))
          (made ++ ticket ∷ [])) (sym same)
          ∙ (deep.1 ∙ ap (λ s. after_word setting call s (cell setting (before ticket more) key)) (sym step))),
    )
