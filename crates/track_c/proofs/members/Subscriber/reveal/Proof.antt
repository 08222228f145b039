-- `reveal` does nothing: what the struct's fact says is there, truncated, is there as a fact.
use Rattle.std.proofs.Common.{[], ◌∷◌, refl}
use Rattle.std.proofs.raw_atomic.Walks.{proved}
use mathlib.Core.Logic.{∥∥₁_elim}
use seplogic.Ra.Ura.{Ura}
use mir.Syntax.{named}
use mir.Val.{vunit}
use base.Logic.{SProp, ent}
use base.Fml.{ftrue, flft}
use contract.Running.{tables}
use types.Kit.{‵, ◌⊛◌, ◌$◌, ◌∵◌, !, qed, done, keep, split, feq_i, suffices, frame}
use types.Run.{enter, of_opd, unit_lit, returns}
use types.ByLocal.{alloc_all, pass_all, free_all, look_at, sets}
use denote.Exit.{yes}
use denote.RattleType.{owns}
use denote.Ref.{ShrRef, shr_vals, shr_Tells}
use denote.Signature.{plain}
use denote.Triple.Walked.{says, Stays, stay_none_ref, walk_of, ends_at, Goes-none_ref}
use Rattle.track_c.specs.contracts.members.Subscriber.{the_row as B}
use Rattle.track_c.specs.contracts.members.Subscriber.reveal as f
use Rattle.track_c.proofs.members.Subscriber.reveal.Statement.{statement}
use Rattle.track_c.proofs.members.Subscriber.reveal.Code as code

-- a truncated fact serves every entailment
truncated : {M : Type 1} (𝓤 : Ura M) {P Q : SProp 𝓤} {φ : Type 0} → ∥ φ ∥₁ → (φ → ent 𝓤 P Q) → ent 𝓤 P Q
truncated 𝓤 {Q = Q} fact k = record { apply = λ r h. ∥∥₁_elim fact (Q.holds_prop r) (λ t. (k t).apply r h) }

abbrev stayed : Stays f.ended.signature.params f.ended.kept
stayed = (stay_none_ref (0 ∷ []) tt (plain (λ _. B)) yes, tt)

pub reveal_spec : {M : Type 1} → statement M
reveal_spec 𝓤 𝓛 𝓜 𝓡 wired =
    let c = f.clauses 𝓛 𝓜.mem 𝓡.returns in let W = walk_of 𝓛 f.ended stayed c in let 𝓣 = tables 𝓤 𝓛.H 𝓜 𝓡 𝓡.env in
    proved 𝓛 f.ended stayed c 𝓜 𝓡 (Goes-none_ref 𝓛 1 (0 ∷ []) tt (plain (λ _. B)) yes, tt)
    f.Key.name code.function (code.unfolded 𝓤 𝓛.H 𝓜 𝓡 wired)
    (λ κs. (shr_vals, tt)) (λ κs. (shr_Tells (named 0) κs.0 B, tt)) (λ κs qs bounds a g are.
    let vs = shr_vals a.0 in
    let y : W.Ghost = ((κs, qs, bounds, a, (vs, tt)), g) in
    truncated 𝓤 a.0.now.own (λ own.
    qed 𝓛 (((‵ (flft κs.0 qs.0) ⊛ ‵ ftrue) ⊛ ‵ (owns (ShrRef (named 0) κs.0 B ∷ []) a (vs, tt))) ∷ ‵ ftrue ∷ []) ∵
    split ! $ enter ! _ _ _ _ _ $ alloc_all ! (λ l. pass_all ! refl ((tt, tt), tt) $
    sets ! (of_opd ! (unit_lit !)) refl (tt, tt) $
    returns ! (look_at ! 0 refl) $ free_all ! refl $ keep ! (0 ∷ 1 ∷ []) $
    suffices ! _ (ends_at 𝓛 f.ended stayed c y vunit tt (tt, tt) (tt, tt)) $ says ! own $
    frame ! $ frame ! $ feq_i ! _ (vunit ∷ []) _ refl $ done !)))
