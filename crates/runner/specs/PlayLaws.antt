-- Short laws of visits that are each their actor's next one.
-- Key laws: `next-in` and `played-in` (a history with more visits of others alone), `played-next`
-- (a pass that has made its next visit), `all-played` (all actors together).
use Rattle.std.proofs.Common.{◌≡◌, ◌≢◌, ◌⊎◌, inl, inr, ℕ, zero, suc, ◌+◌, ◌<◌, ne_eqb, List, [], ◌∷◌, ◌++◌, length, take, drop, refl, sym, ap, ◌∙◌, subst, arith, append_assoc}
use Rattle.std.specs.Prelude.{Some, slice_get, option_map, if◌then◌else◌}
use Rattle.std.proofs.lemmas.List.{append-nil, take_all, take-append-le}
use Rattle.entry_word.specs.declared.visit.Visit.{Visit}
use Rattle.directory.specs.Settings.{Setting, is_sub}
use Rattle.directory.specs.Histories.{History, IsFront, own}
use Rattle.directory.specs.Looks.{look_by}
use Rattle.directory.specs.Orders.{IsPlayed, Scripts, caller_in, next, next_key, script_visits}
use Rattle.directory.specs.Statements.{CallersKept}
use Rattle.net_reader.specs.Input.{Contents}
use Rattle.scripts.specs.Scripts.{scripts_of}
use Rattle.station.specs.Passes.{PassData, actor_of}
use Rattle.station.specs.Plays.{visit_by}
use Rattle.station.specs.Setup.{Setup, setting_in}
use Rattle.station.specs.TicketLaws.{front-rest, own-beyond, own-nil}
use Rattle.station.specs.Visits.{HasVisited}
use Rattle.runner.specs.Playing.{HasMadeNext, IsPlayedBy}

-- where an actor has no visit, none at any place is one
pub own-none : (actor : ℕ) (xs : History) (i : ℕ) (visit : Visit) → own actor xs ≡ []
    → slice_get xs i ≡ Some visit → visit.actor ≢ actor
own-none actor [] i visit none at = cc
own-none actor (x ∷ xs) zero visit none at =
    let e : x ≡ visit = cc in
    subst (λ (v : Visit). v.actor ≢ actor) e (own-nil actor x xs none).0
own-none actor (x ∷ xs) (suc i) visit none at =
    own-none actor xs i visit (own-nil actor x xs none).1 at

-- a place of joined lists is one of either
pub get-either : {A : Type 0} (xs ys : List A) (i : ℕ) (x : A) → slice_get (xs ++ ys) i ≡ Some x
    → ((slice_get xs i ≡ Some x) × (i < length xs))
    ⊎ ((j : ℕ) × (slice_get ys j ≡ Some x) × (i ≡ length xs + j))
get-either [] ys i x h = inr (i, h, omega arith)
get-either (y ∷ xs) ys zero x h = inl (h, omega arith)
get-either (y ∷ xs) ys (suc i) x h = elim (get-either xs ys i x h) [
  | inl one ↦ inl (one.0, omega (arith, one.1))
  | inr two ↦ inr (two.0, two.1, omega (arith, two.2))
]

-- visits of others change nothing of the visits of an actor
played-further : (setting : Setting) (scripts : Scripts) (actor : ℕ) (seen more : History)
    → own actor more ≡ [] → IsPlayedBy setting scripts actor seen
    → IsPlayedBy setting scripts actor (seen ++ more)
played-further setting scripts actor seen more none played ticket visit at mine =
    elim (get-either seen more ticket visit at) [
      | inl one ↦ ap (λ h. next setting scripts h actor)
          (take-append-le ticket seen more (omega (arith, one.1))) ∙ played ticket visit one.0 mine
      | inr two ↦ absurd (own-none actor more two.0 visit none two.1 mine)
    ]

-- one more next visit
played-more : (setting : Setting) (scripts : Scripts) (actor : ℕ) (history : History)
    (visit : Visit) → next setting scripts history actor ≡ Some visit
    → IsPlayedBy setting scripts actor history
    → IsPlayedBy setting scripts actor (history ++ visit ∷ [])
played-more setting scripts actor history visit is_next played ticket other at mine =
    elim (get-either history (visit ∷ []) ticket other at) [
      | inl one ↦ ap (λ h. next setting scripts h actor)
          (take-append-le ticket history (visit ∷ []) (omega (arith, one.1)))
          ∙ played ticket other one.0 mine
      | inr two ↦ last two.0 two.1 two.2
    ]
  where
    last : (j : ℕ) → slice_get (visit ∷ []) j ≡ Some other → ticket ≡ length history + j
        → next setting scripts (take ticket (history ++ visit ∷ [])) actor ≡ Some other
    last zero h e =
        let there : ticket ≡ length history = omega (arith, e) in
        let same : Some visit ≡ Some other = h in
        ap (λ t. next setting scripts (take t (history ++ visit ∷ [])) actor) there
        ∙ (ap (λ h. next setting scripts h actor)
        (take-append-le (length history) history (visit ∷ []) (omega arith)
        ∙ take_all (length history) history (omega arith)) ∙ (is_next ∙ same))
    last (suc j) h e = cc

-- nor of the caller
caller-further : CallersKept → (setting : Setting) (scripts : Scripts) (actor : ℕ)
    (seen more : History) → own actor more ≡ []
    → caller_in setting scripts (seen ++ more) actor ≡ caller_in setting scripts seen actor
caller-further kept setting scripts actor seen [] none =
    ap (λ h. caller_in setting scripts h actor) (append-nil seen)
caller-further kept setting scripts actor seen (visit ∷ more) none =
    let other = own-nil actor visit more none in
    ap (λ h. caller_in setting scripts h actor) (sym (append_assoc seen (visit ∷ []) more))
    ∙ (caller-further kept setting scripts actor (seen ++ visit ∷ []) more other.1
    ∙ (kept setting scripts seen actor visit (ne_eqb visit.actor actor other.0)).0)

-- a caller in a history with more visits of others alone
pub caller-in : CallersKept → (setting : Setting) (scripts : Scripts) (actor : ℕ)
    (seen whole : History) → IsFront seen whole → own actor whole ≡ own actor seen
    → caller_in setting scripts whole actor ≡ caller_in setting scripts seen actor
caller-in kept setting scripts actor seen whole front same =
    ap (λ h. caller_in setting scripts h actor) (front-rest seen whole front)
    ∙ caller-further kept setting scripts actor seen (drop (length seen) whole)
    (own-beyond actor seen whole front same)

-- the next visit of an actor in such a history
pub next-in : CallersKept → (setting : Setting) (scripts : Scripts) (actor : ℕ)
    (seen whole : History) → IsFront seen whole → own actor whole ≡ own actor seen
    → next setting scripts whole actor ≡ next setting scripts seen actor
next-in kept setting scripts actor seen whole front same =
    ap (λ (mine : List Visit). if is_sub setting actor
    then slice_get (script_visits setting scripts actor) (length mine)
    else option_map (look_by actor) (next_key (caller_in setting scripts whole actor))) same
    ∙ ap (λ seeker. if is_sub setting actor
    then slice_get (script_visits setting scripts actor) (length (own actor seen))
    else option_map (look_by actor) (next_key seeker))
    (caller-in kept setting scripts actor seen whole front same)

-- in such a history each visit of the actor still was its next one
pub played-in : (setting : Setting) (scripts : Scripts) (actor : ℕ) (seen whole : History)
    → IsFront seen whole → own actor whole ≡ own actor seen
    → IsPlayedBy setting scripts actor seen → IsPlayedBy setting scripts actor whole
played-in setting scripts actor seen whole front same played =
    subst (IsPlayedBy setting scripts actor) (sym (front-rest seen whole front))
    (played-further setting scripts actor seen (drop (length seen) whole)
    (own-beyond actor seen whole front same) played)

-- and so it is once a pass has made its next visit
pub played-next : CallersKept → (input : Contents) (setup : Setup) (old new : PassData)
    → HasMadeNext input setup old new
    → IsPlayedBy (setting_in setup) (scripts_of input) (actor_of old) old.view.seen
    → IsPlayedBy (setting_in setup) (scripts_of input) (actor_of old) new.view.seen
played-next kept input setup old new made played =
    let setting = setting_in setup in
    let scripts = scripts_of input in
    let visited : HasVisited old made.act made.ticket new = made.visited in
    subst (IsPlayedBy setting scripts (actor_of old)) (sym visited.seen)
    (played-more setting scripts (actor_of old) visited.earlier (visit_by old.view made.act)
    (next-in kept setting scripts (actor_of old) old.view.seen visited.earlier visited.begins
    visited.visits ∙ made.is_next)
    (played-in setting scripts (actor_of old) old.view.seen visited.earlier visited.begins
    visited.visits played))

-- where it holds of each actor, each visit was its actor's next one
pub all-played : (setting : Setting) (scripts : Scripts) (history : History)
    → ((actor : ℕ) → IsPlayedBy setting scripts actor history)
    → IsPlayed setting scripts history
all-played setting scripts history each ticket visit at = each visit.actor ticket visit at refl
