-- `into_box` makes the box again of what the handle owns.
use Rattle.std.proofs.Common.{◌≡◌, ℕ, List, [], ◌∷◌, refl, sym, ap, subst}
use Rattle.std.proofs.raw_atomic.Walks.{proved, leaves}
use base.Fraction.{full_share}
use base.Logic.{SProp, ent, emp, id⊢, fst∗, never}
use base.Fml.{Fml, ftrue, fsep, flft}
use mir.Syntax.{Dict, impl, tcons, tnil, dnil}
use mir.Raw.{raw as bare}
use mir.Val.{Val, vptr, vstruct, vcons, vnil}
use prog.Wp.{WpFn}
use contract.Monad.{fact, fact_i}
use contract.BorrowLft.{◌⊑◌}
use contract.Running.{tables}
use types.Logic.{sem}
use types.Kit.{‵, raw, ◌⊛◌, some, later, at_ret, ◌$◌, ◌∵◌, !, qed, by, move, keep, drop, use0, use1, split, split3, join, fsplit, fjoin, fpack, pick, await, rewrite, feq_i, suffices}
use types.Run.{enter, of_opd, no_more, and_then, stop, fld, first, blocks, exec, returns}
use types.Part.{whole, sub}
use types.ByLocal.{alloc_all, pass_all, free_all, look_at, get, get_in, sets, lands_last, env}
use denote.Builtin.{RawPtr}
use denote.Exit.{yes, no}
use denote.Memory.{part_at, part_of, raw_all, lone}
use denote.Param.{layout, param, arg}
use denote.Param.Laws.{Laws, arg_laws}
use denote.RattleType.{RattleType, Valss, owns}
use denote.Struct.Struct.{within}
use denote.Struct.Owning.{shape as box_shape}
use Rattle.std.proofs.cell.Inside.{Good}
use Rattle.std.proofs.VecSteps.Shapes.{after}
use denote.RawPtr.{Ptr, ptr_val, block_ptr, null_ptr, in_a_block}
use denote.Signature.{plain, types_at}
use denote.Steps.{nothing, heard, only}
use denote.Triple.Call.{calls_at_last}
use denote.Triple.Spec.{triple_of}
use denote.Triple.Table.{framed}
use denote.Param.NoDrop.{glues}
use Rattle.std.proofs.impls.GlobalAllocator.TheImpl.Met as impl_met
use denote.Triple.Walked.{Stays, walk_of, stay_dropped}
use Rattle.std.proofs.alloc.Calls.{Goes-blank}
use Rattle.std.proofs.alloc.Global.TheLaws as global_laws
use Rattle.std.specs.Box.Ownership.{box_owns}
use Rattle.std.proofs.BoxSteps.Form as box
use Rattle.std.proofs.BoxSteps.Steps.{box_out}
use Rattle.std.specs.contracts.alloc.Global.{the_row as G}
use Rattle.std.specs.contracts.boxed.Box.{the_row as box_row, the_type as box_type}
use Rattle.std.specs.contracts.boxed.Box.from_raw as callee
use Rattle.std.specs.contracts.impls.GlobalAllocator.TheImpl.{ghosts, dict}
use Rattle.std.proofs.boxed.Box.from_raw.Met.{met}
use Rattle.fjall_c.specs.declared.session.Session.{Session}
use Rattle.fjall_c.specs.contracts.session.Session.{the_row as S}
use Rattle.fjall_c.specs.contracts.handle.Database.{the_row as R}
use Rattle.fjall_c.specs.contracts.handle.Database.into_box as f
use Rattle.fjall_c.proofs.session.Session.TheLaws as session_laws
use Rattle.fjall_c.proofs.handle.Database.into_box.Statement.{statement}
use Rattle.fjall_c.proofs.handle.Database.into_box.Code as code
use Rattle.fjall_c.proofs.handle.Database.TheLaws.{lowers}

-- the types as a generic function is passed them
abbrev SA : RattleType
SA = arg (bare (layout S)) no S

abbrev GA : RattleType
GA = arg (bare (layout G)) no G

abbrev SL : Laws SA
SL = arg_laws (bare (layout S)) no S session_laws.the_row_laws refl

abbrev GL : Laws GA
GL = arg_laws (bare (layout G)) no G global_laws.the_row_laws refl

as_param : (x : Session) (b o : ℕ) → part_at S full_share x b o ≡ part_at (param 0 SA) full_share x b o
as_param x b o j = part_of (raw_all (session_laws.the_row_laws.one j)) S.own_val full_share x b o

abbrev dd : Dict
dd = impl ("fjall_c::Destruct++none::drop" ∷ []) (tcons (layout GA) tnil) dnil

abbrev stayed : Stays f.ended.signature.params f.ended.kept
stayed = (stay_dropped (plain (λ _. R)) yes, (stay_dropped (plain (λ _. G)) yes, tt))

pub into_box_spec : {M : Type 1} → statement M
unfolding Rattle.fjall_c.proofs.Destruct++none.drop.Code.code
into_box_spec {M = M} 𝓤 𝓛 𝓜 𝓡 wired =
    let c = f.clauses 𝓛 𝓜.mem 𝓡.returns in let W = walk_of 𝓛 f.ended stayed c in let 𝓣 = tables 𝓤 𝓛.H 𝓜 𝓡 𝓡.env in
    proved 𝓛 f.ended stayed c 𝓜 𝓡 (Goes-blank 𝓛 0 (plain (λ _. R)) yes (λ κs x w. tt), (Goes-blank 𝓛 0 (plain (λ _. G)) yes (λ κs x w. tt), tt))
    f.Key.name code.function (code.unfolded 𝓤 𝓛.H 𝓜 𝓡 wired)
    (λ κs. ((λ d. lowers.lowered d ∷ []), ((λ a. global_laws.the_told.val a ∷ []), tt))) (λ κs. (lowers.val_is, (global_laws.the_told.tells, tt))) (λ κs qs bounds a _ are.
    let d = a.0 in let al = a.1.0 in let gv = global_laws.the_told.val al in let y : W.Ghost = ((κs, qs, bounds, a, (lowers.lowered d ∷ [], (gv ∷ [], tt))), tt) in
    let Run : List Val → SProp 𝓤 = λ ws. WpFn 𝓤 𝓛.H 𝓣.C 𝓣.Λ code.function ws (W.post y) in
    let E : box.Bx = record { row = SA; laws = SL; al = record { row = GA; laws = GL; g = ghosts; d = dict; drops = dd } } in
    let B = box.B E in let k = triple_of 𝓛 (callee.signature SA GA ghosts dict dd) (callee.spec SA GA ghosts dict dd 𝓛 𝓜.mem 𝓡.returns) in
    qed 𝓛 ((‵ ftrue ⊛ ‵ (owns (types_at f.ended.signature.params κs) a (lowers.lowered d ∷ [], (gv ∷ [], tt)))) ∷ ‵ ftrue ∷ []) ∵
    split ! $ drop ! $ fsplit ! $ fsplit ! $ move ! (1 ∷ []) $
    in_a_block ! d.at (λ p. box_owns (ghosts.dealloc_token d.by) S p d.session) (fst∗ 𝓤 (never 𝓤) (sem 𝓛 (ghosts.dealloc_token d.by (bare (lone S.mir)) null_ptr))) (λ b o e.
    let w : Val = vstruct (vcons (vptr b o) vnil) in
    suffices ! (Run (w ∷ gv ∷ [])) (subst (λ (v : Val). ent 𝓤 (Run (w ∷ gv ∷ [])) (Run (v ∷ gv ∷ []))) (sym (ap (λ (p : Ptr). lowers.lowered (record d { at = p })) e)) (id⊢ 𝓤 _)) $
    -- [what the handle owns; its word; the allocator's]
    move ! (1 ∷ []) $ drop ! $ move ! (1 ∷ []) $ fsplit ! $ move ! (2 ∷ []) $ fsplit ! $ rewrite ! 0 (λ (P : Fml). ‵ P) (as_param d.session b o) refl $ fjoin ! $
    enter ! 𝓣.C 𝓣.Λ code.function (w ∷ gv ∷ []) (W.post y) $ alloc_all ! (λ l. pass_all ! refl ((tt, (tt, tt)), (((global_laws.the_row_laws.lawful 𝓛).typed al (gv ∷ []) are.1.0).0, tt)) $
    -- [what from_raw requires; true; the allocator's value]
    sets ! (of_opd ! (get_in ! (fld ! refl (stop !)) (sub ! 0 refl (whole !)))) refl (tt, tt) $ first ! $ blocks ! $ sets ! (of_opd ! (get ! refl)) refl (tt, tt) $
    let y' : k.Ghost = (((([], ([], tt))), ((full_share, (full_share, tt))), tt, (al, (block_ptr b o, tt)), (gv ∷ [], (vptr b o ∷ [], tt))), d.session) in
    let toks = ‵ (flft [] full_share) ⊛ ‵ (flft [] full_share) ⊛ ‵ ftrue in
    use0 𝓛 (‵ (flft [] full_share)) (𝓛.lfts.lft-nil full_share) $ nothing ! $ move ! (1 ∷ 0 ∷ []) $ join ! $ use0 𝓛 (‵ (flft [] full_share)) (𝓛.lfts.lft-nil full_share) $ join ! $
    -- [the tokens; what from_raw requires; the allocator's value; true]
    move ! (3 ∷ []) $ feq_i ! (List Val) (vptr b o ∷ []) (vptr b o ∷ []) refl $ fjoin ! $ move ! (3 ∷ 0 ∷ []) $ fjoin ! $ move ! (1 ∷ 0 ∷ []) $ join ! $
    use0 𝓛 (raw (fact 𝓤 ([] ⊑ GA.lives))) (fact_i 𝓤 ([] ⊑ GA.lives) (emp 𝓤) (global_laws.the_within [])) $ move ! (0 ∷ 2 ∷ []) $ join ! $
    use0 𝓛 (raw (fact 𝓤 ([] ⊑ SA.lives))) (fact_i 𝓤 ([] ⊑ SA.lives) (emp 𝓤) (session_laws.the_within [])) $ join ! $ move ! (1 ∷ 0 ∷ []) $ join ! $ use1 𝓛 (raw (k.pre y')) (id⊢ 𝓤 _) $
    calls_at_last ! (framed 𝓤 𝓛.H 𝓜 𝓣) k (met 𝓤 𝓛 𝓜 𝓡 (code.calls-std_alloc::boxed::Box::from_raw 𝓡.env wired) SA GA SL GL ghosts dict dd
    (impl_met.passed 𝓡.env (code.calls-std_heap::GlobalAllocator::allocate 𝓡.env wired) (code.calls-std_heap::GlobalAllocator::deallocate 𝓡.env wired) (code.calls-std_heap::GlobalAllocator::grow 𝓡.env wired) (code.calls-std_heap::GlobalAllocator::shrink 𝓡.env wired) M 𝓤 𝓛 𝓜 𝓡)
    (glues "fjall_c::Destruct++none::drop" 𝓡.env (code.calls-fjall_c::Destruct++none::drop 𝓡.env wired) GA GL M 𝓤 𝓛 𝓜 𝓡)) y' (and_then ! (get ! refl) (and_then ! (get ! refl) (no_more !))) (λ u.
    use1 𝓛 (later (some (λ (r : B.Denot). (toks ⊛ ‵ (B.own_val r (u ∷ []))) ⊛ some (λ (_ : Unit {0} × (Unit {0} × Unit {0})). ‵ (fsep ftrue (fsep ftrue ftrue)) ⊛ (raw (fact 𝓤 (r.value ≡ d.session)) ⊛ raw (fact 𝓤 (r.alloc ≡ al))))))) (id⊢ 𝓤 (k.post y' u)) $
    await ! tt $ pick ! (λ r. split ! $ move ! (1 ∷ []) $ pick ! (λ _. split3 ! $ drop ! $ heard ! (r.value ≡ d.session) (λ same. drop ! $ split ! $ drop ! $
    box_out E ! r (u ∷ []) (λ b' o' hw e' wu fits.
    let v : Val = box.word E hw b' o' in let P = box_row S G ghosts in
    rewrite ! 0 (λ (F : Fml). ‵ F) (sym (as_param r.value b' o')) refl $ fjoin ! $ rewrite ! 0 (λ (p : Ptr). ‵ (box_owns (ghosts.dealloc_token r.alloc) S p r.value)) (sym e') refl $
    nothing ! $ move ! (2 ∷ 0 ∷ []) $ fjoin ! $ feq_i ! (List Val) (vptr b' o' ∷ []) (ptr_val r.ptr ∷ []) (ap (λ (p : Ptr). ptr_val p ∷ []) (sym e')) $ fjoin ! $
    feq_i ! (List Val) (v ∷ []) (v ∷ []) refl $ fjoin ! $ fpack ! (Valss (RawPtr ∷ G ∷ [])) (within (box_shape (box_type S G ghosts)) (r.ptr, (r.alloc, tt)) (v ∷ [])) (vptr b' o' ∷ [], (hw ∷ [], tt)) $ fjoin ! $
    rewrite ! 0 (λ (us : List Val). ‵ (P.own_val r us)) (sym wu) refl $
    let typed = subst (Good (layout B)) (sym (ap only wu)) (box.box_typed E hw b' o' fits) in
    lands_last ! refl typed $ exec ! 𝓣.C 𝓣.Λ (env code.Mir.locals l) (after 2 (code.function).body) (at_ret _ (W.post y)) $ sets ! (of_opd ! (get ! refl)) refl typed $
    use0 𝓛 (raw (fact 𝓤 (r.value ≡ d.session))) (fact_i 𝓤 (r.value ≡ d.session) (emp 𝓤) same) $ nothing ! $ nothing ! $ fjoin ! $ nothing ! $ fjoin ! $ nothing ! $
    returns ! (look_at ! 0 refl) $ free_all ! refl $ keep ! (0 ∷ 1 ∷ 3 ∷ 2 ∷ []) $ by ! (leaves 𝓛 f.ended stayed c y u r _ (tt, (tt, tt)))))))))))
