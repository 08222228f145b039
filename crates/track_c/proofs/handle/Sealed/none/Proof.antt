-- `none` makes a struct of two fields, and owns nothing behind the pointer.
use Rattle.std.proofs.Common.{List, [], ◌∷◌, ◌++◌, refl, sym, subst}
use Rattle.std.specs.Prelude.{None}
use lib.Dec.{lit<}
use mir.Syntax.{w64}
use mir.Val.{Val, vint, has_ty}
use base.Logic.{SProp, ent, emp, id⊢}
use prog.Wp.{WpFn}
use types.Kit.{‵, raw, ◌⊛◌, ◌$◌, ◌∵◌, !, qed, move, keep, split, join, fsplit, fjoin, feq_i, rewrite, suffices, done}
use types.Run.{of_opd, lit, no_more, and_then, returns, enter}
use types.ByLocal.{alloc_all, pass_all, free_all, look_at, get, sets}
use types.Part.{agg}
use contract.Running.{tables}
use denote.Exit.{yes}
use denote.RattleType.{RattleType, owns}
use denote.RawPtr.{RawPtr, null_ptr}
use denote.Signature.{types_at, type_at, plain}
use denote.Steps.{nothing}
use denote.Param.{layout}
use denote.Triple.Entry.{alive}
use denote.Triple.Walked.{says, Stays, stay_dropped, walk_of, Goes-dropped, ends_at}
use Rattle.core.proofs.cell.Inside.{Good, one}
use Rattle.std_heap.specs.contracts.Global as heap
use Rattle.std_heap.proofs.Global.TheLaws as heap_laws
use Rattle.std.proofs.raw_atomic.Walks.{proved_at}
use Rattle.track_c.proofs.Pairs.{both, both_tt, two_in}
use Rattle.track_c.specs.contracts.handle.Sealed.none.{ended, clauses}
use Rattle.track_c.specs.contracts.handle.Sealed.none.Key.{name as #self}
use Rattle.track_c.proofs.handle.Sealed.none.Statement.{statement}
use Rattle.track_c.proofs.handle.Sealed.none.Code as code

pub none_spec : {M : Type 1} → statement M
none_spec 𝓤 𝓛 𝓜 𝓡 wired =
    let H = 𝓛.H in let 𝓣 = tables 𝓤 H 𝓜 𝓡 𝓡.env in let En = ended in let c = clauses 𝓛 𝓜.mem 𝓡.returns in
    let fn = code.function in let Z : RattleType = heap.the_row in let LZ = heap_laws.the_row_laws in let P : RattleType = RawPtr in
    let hs : Stays En.signature.params En.kept = (stay_dropped (plain (λ _. Z)) yes, tt) in
    proved_at 𝓛 En hs c 𝓜 𝓡 (Goes-dropped 𝓛 0 (plain (λ _. Z)) yes (λ κs x f. refl), tt) #self fn (code.unfolded 𝓤 H 𝓜 𝓡 wired) (λ z are.
    let κs = z.0.0 in let qs = z.0.1 in let Post : Val → SProp 𝓤 = (walk_of 𝓛 En hs c).post z in let Run : List Val → SProp 𝓤 = λ ws. WpFn 𝓤 H 𝓣.C 𝓣.Λ fn ws Post in let Out : RattleType = type_at En.signature.result κs in
    let a = z.0.3.0 in
    let n : Val = vint w64 0 in let small : Good (layout P) n = (tt, record { fits = lit< tt }) in
    let h = one (layout Z) z.0.4.0 ((LZ.lawful 𝓛).typed a z.0.4.0 are.0) in let w : Val = both n h.0 in
    let good : Good (layout Out) w = (both_tt (has_ty (layout P) n) (has_ty (layout Z) h.0) small.0 h.2.0, (small.1, (h.2.1, tt))) in
    qed 𝓛 ((raw (alive 𝓛 En.signature κs qs) ⊛ ‵ (owns (types_at En.signature.params κs) z.0.3 z.0.4)) ∷ raw (emp 𝓤) ∷ []) ∵
    split ! $ move ! (1 ∷ []) $ fsplit ! $
    rewrite ! 0 (λ (us : List Val). ‵ (Z.own_val a us)) h.1 refl $
    feq_i ! (List Val) (n ∷ []) (n ∷ []) refl $
    two_in P Z null_ptr a ! n h.0 $ nothing ! $ move ! (1 ∷ 0 ∷ []) $ fjoin ! $
    suffices ! (Run (h.0 ∷ [])) (subst (λ (us : List Val). ent 𝓤 (Run (h.0 ∷ [])) (Run us)) (sym (λ i. h.1 i ++ [])) (id⊢ 𝓤 (Run (h.0 ∷ [])))) $
    enter ! 𝓣.C 𝓣.Λ fn (h.0 ∷ []) Post $ alloc_all ! (λ l. pass_all ! refl (h.2, tt) $
    sets ! (of_opd ! (lit ! tt)) refl small $
    sets ! (agg ! (and_then ! (get ! refl) (and_then ! (get ! refl) (no_more !)))) refl good $
    returns ! (look_at ! 0 refl) $ free_all ! refl $
    keep ! (0 ∷ []) $ suffices ! _ (ends_at 𝓛 En hs c z w (record { at = null_ptr; alloc = a; held = None }) (tt, tt) (tt, tt)) $ says ! refl $
    nothing ! $ nothing ! $ fjoin ! $ join ! $ nothing ! $ join ! $ done !))
