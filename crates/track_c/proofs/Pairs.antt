-- The machine value of a struct of two fields: what it owns is what its fields own.
use Rattle.std.proofs.Common.{List, [], ◌∷◌, refl}
use mathlib.Core.Bool.{Bool, true, false, ◌&&◌}
use lib.Dec.{T}
use seplogic.Ra.Ura.{Ura}
use mir.Val.{Val, vstruct, vcons, vnil}
use types.Logic.{Logic}
use types.Kit.{Item, Goal, Step, step, ‵, ◌$◌, move, fjoin, fjoin3, fpack, feq_i}
use denote.RattleType.{RattleType, Valss}
use denote.Steps.{nothing}
use denote.Struct.Struct.{Struct, within}

abbrev pub both : Val → Val → Val
both v w = vstruct (vcons v (vcons w vnil))

pub both_tt : (x y : Bool) → T x → T y → T (x && (y && true))
both_tt true true s t = tt
both_tt true false s t = absurd t
both_tt false y s t = absurd s

-- a struct of two fields, by value
module _ (P Q : RattleType) where
  abbrev pub Two : RattleType
  Two = Struct (record { name = []; args = []; types = []; fields = P ∷ Q ∷ [] })

  module _ {M : Type 1} {𝓤 : Ura M} {𝓛 : Logic 𝓤} {K : Type 0} {Γ : List (Item 𝓤)} {G : Goal 𝓤 𝓛.H} (x : P.Denot) (y : Q.Denot) where
    pub two_in : K → (v w : Val) → Step K 𝓛 (‵ (Two.own_val (x, (y, tt)) (both v w ∷ [])) ∷ Γ) G (‵ (P.own_val x (v ∷ [])) ∷ ‵ (Q.own_val y (w ∷ [])) ∷ Γ) G
    two_in t v w = step (λ s. nothing t $ move t (1 ∷ 2 ∷ 0 ∷ []) $ fjoin3 t $ feq_i t (List Val) (both v w ∷ []) (both v w ∷ []) refl $ fjoin t $
        fpack t (Valss (P ∷ Q ∷ [])) (within (record { name = []; args = []; types = []; fields = P ∷ Q ∷ [] }) (x, (y, tt)) (both v w ∷ [])) (v ∷ [], (w ∷ [], tt)) $ s)
