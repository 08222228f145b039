-- `into_parts` makes parts of a seal's two fields, where there is something behind its pointer.
use Rattle.std.proofs.Common.{◌≡◌, List, [], ◌∷◌, ◌++◌, refl, sym, subst, true}
use Rattle.std.specs.Prelude.{Option, Some, None}
use Rattle.std.specs.Option.{is_some}
use mir.Val.{Val}
use base.Logic.{SProp, ent, id⊢}
use base.Fml.{ftrue, fsep}
use contract.Monad.{fact}
use prog.Wp.{WpFn}
use types.Kit.{Item, ‵, raw, ◌⊛◌, ◌$◌, ◌∵◌, !, qed, by, move, drop, use1, join, rewrite, split, fsplit, fjoin, suffices, done}
use types.Part.{whole, sub, agg}
use types.Run.{stop, fld, no_more, and_then, of_opd, returns, enter}
use types.ByLocal.{alloc_all, pass_all, free_all, look_at, get, get_in, sets}
use contract.Running.{tables}
use denote.Exit.{yes}
use denote.Signature.{type_at}
use denote.Steps.{heard, nothing}
use denote.Triple.Walked.{says, Stays, stay_dropped, walk_of, ends_at, Goes-dropped}
use Rattle.std.proofs.raw_atomic.Walks.{proved_at}
use Rattle.std_alloc.proofs.BoxSteps.Form.{D, B, word, box_typed}
use Rattle.std_alloc.proofs.BoxSteps.Steps.{box_out, box_in}
use Rattle.track_c.proofs.Boxed.{boxed, seal_slot}
use Rattle.track_c.specs.contracts.handle.Sealed.{the_row}
use Rattle.track_c.specs.contracts.object.Object as Object
use Rattle.track_c.specs.contracts.handle.Sealed.into_parts.{ended, clauses}
use Rattle.track_c.specs.contracts.handle.Sealed.into_parts.Key.{name as #self}
use Rattle.track_c.proofs.handle.Sealed.into_parts.Statement.{statement}
use Rattle.track_c.proofs.handle.Sealed.into_parts.Code as code

abbrev stayed : Stays ended.signature.params ended.kept
stayed = (stay_dropped seal_slot yes, tt)

-- what is there
there : (held : Option Object.the_row.Denot) → is_some held ≡ true → (object : Object.the_row.Denot) × (held ≡ Some object)
there None wrong = cc
there (Some object) found = (object, refl)

pub into_parts_spec : {M : Type 1} → statement M
into_parts_spec 𝓤 𝓛 𝓜 𝓡 wired =
    let H = 𝓛.H in let 𝓣 = tables 𝓤 H 𝓜 𝓡 𝓡.env in let c = clauses 𝓛 𝓜.mem 𝓡.returns in let fn = code.function in
    proved_at 𝓛 ended stayed c 𝓜 𝓡 (Goes-dropped 𝓛 0 seal_slot yes (λ κs x f. refl), tt) #self fn (code.unfolded 𝓤 H 𝓜 𝓡 wired) (λ z are.
    let Post : Val → SProp 𝓤 = (walk_of 𝓛 ended stayed c).post z in
    let seal = z.0.3.0 in
    let Parts = type_at ended.signature.result tt in
    qed 𝓛 ((‵ ftrue ⊛ ‵ (fsep (the_row.own_val seal z.0.4.0) ftrue)) ∷ raw (fact 𝓤 (is_some seal.held ≡ true)) ∷ []) ∵
    move ! (1 ∷ []) $ heard ! (is_some seal.held ≡ true) (λ some.
    let found = there seal.held some in let object = found.0 in
    let box : D boxed = record { ptr = seal.at; alloc = seal.alloc; value = object } in
    let made : Parts.Denot = record { at = seal.at; alloc = seal.alloc; value = object } in
    split ! $ drop ! $ fsplit ! $
    rewrite ! 0 (λ (held : Option Object.the_row.Denot). ‵ (the_row.own_val (record { at = seal.at; alloc = seal.alloc; held = held }) z.0.4.0)) found.1 refl $
    use1 𝓛 (‵ ((B boxed).own_val box z.0.4.0)) (id⊢ 𝓤 _) $
    box_out boxed ! box z.0.4.0 (λ b o bits e ws typed. box_in boxed ! box b o box.value e refl $
    use1 𝓛 (‵ (Parts.own_val made (word boxed bits b o ∷ []))) (id⊢ 𝓤 _) $ move ! (1 ∷ []) $ drop ! $
    let w = word boxed bits b o in
    let Γ : List (Item 𝓤) = ‵ (Parts.own_val made (w ∷ [])) ∷ [] in
    by ! (subst (λ (us : List Val). ent 𝓤 (types.Kit.⋆ 𝓛 Γ) (WpFn 𝓤 H 𝓣.C 𝓣.Λ fn (us ++ []) Post)) (sym ws)
    (qed 𝓛 Γ ∵ enter ! 𝓣.C 𝓣.Λ fn (w ∷ []) _ $ alloc_all ! (λ ls. pass_all ! refl (box_typed boxed bits b o typed, tt) $
    sets ! (of_opd ! (get_in ! (fld ! refl (stop !)) (sub ! 0 refl (whole !)))) refl (tt, tt) $
    sets ! (of_opd ! (get_in ! (fld ! refl (stop !)) (sub ! 1 refl (whole !)))) refl typed $
    -- the pointer as one to another type
    sets ! (of_opd ! (get ! refl)) refl (tt, tt) $
    sets ! (agg ! (and_then ! (get ! refl) (and_then ! (get ! refl) (no_more !)))) refl (box_typed boxed bits b o typed) $
    returns ! (look_at ! 0 refl) $ free_all ! refl $
    suffices ! _ (ends_at 𝓛 ended stayed c z w made (tt, tt) (tt, tt)) $ says ! found.1 $
    nothing ! $ nothing ! $ fjoin ! $ join ! $ nothing ! $ join ! $ done !))))))
