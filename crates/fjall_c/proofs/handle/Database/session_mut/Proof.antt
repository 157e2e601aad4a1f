-- `session_mut` lends the session, and the handle follows it.
use Rattle.std.proofs.Common.{◌≡◌, ℕ, List, [], ◌∷◌, refl, sym, ap, ◌∙◌}
use Rattle.std.proofs.raw_atomic.Walks.{proved}
use base.Fraction.{full_share}
use base.Logic.{ent, sep, id⊢, fst∗, never}
use base.Fml.{Fml, GName, ftrue, fsep, flft}
use seplogic.Ra.Ura.{Ura}
use mir.Syntax.{named}
use mir.Raw.{raw as bare}
use mir.Val.{Val, vptr}
use contract.Running.{tables}
use types.Logic.{Logic, sem}
use types.Kit.{‵, raw, ◌⊛◌, some, later, at_ret, ◌$◌, ◌∵◌, !, qed, done, move, keep, use1, split, split3, join, fsplit, fsplit3, fjoin, fjoin3, fpack, pick, await, rewrite, suffices, frame, group}
use types.Run.{enter, of_opd, addr, load, stop, fld, first, blocks, exec, returns}
use types.Part.{whole, sub, look_in}
use types.ByLocal.{alloc_all, pass_all, free_all, look_at, get, through, sets, sets_last, env}
use denote.Exit.{no}
use denote.Follow.{follows, Part, lends_Part}
use denote.Laws.{shows}
use denote.Memory.{mem, part_at, part_of, cell_at, lone}
use denote.RawPtr.{Ptr, block_ptr, null_ptr, in_a_block}
use denote.Ref.{MutRef, mut_vals, mut_Tells}
use denote.Signature.{plain, mut_ref_to}
use denote.Steps.{nothing, opens, peeks}
use denote.Triple.Walked.{Stays, walk_of, says, stay_dropped, Goes-spent_ref, ends_at}
use Rattle.std.proofs.VecSteps.Shapes.{after}
use Rattle.std.specs.Box.Ownership.{box_owns}
use Rattle.std.specs.contracts.impls.GlobalAllocator.TheImpl.{ghosts}
use Rattle.fjall_c.specs.declared.session.Session.{Session}
use Rattle.fjall_c.specs.declared.handle.Database.{Database}
use denote.Struct.Struct.{Struct}
use denote.Struct.Owning.{shape}
use Rattle.fjall_c.specs.Handles.{with_session}
use Rattle.fjall_c.specs.contracts.session.Session.{the_row as S}
use Rattle.fjall_c.specs.contracts.handle.Database.{the_row as R, the_type as owning}
use Rattle.fjall_c.specs.contracts.handle.Database.session_mut as f
use Rattle.fjall_c.proofs.handle.Database.session_mut.Statement.{statement}
use Rattle.fjall_c.proofs.handle.Database.session_mut.Code as code
use Rattle.fjall_c.proofs.handle.Database.TheLaws.{lowers}

abbrev stayed : Stays f.ended.signature.params f.ended.kept
stayed = (stay_dropped (mut_ref_to (0 ∷ []) tt (plain (λ _. R))) no, tt)

-- all of the handle but its value
abbrev Rest : Database → List Val → (b o b' o' : ℕ) → Fml
Rest h us b o b' o' = fsep (ghosts.dealloc_token h.by (bare (lone S.mir)) (block_ptr b' o')) (fsep ((Struct (shape owning)).own_val (h.at, tt) us) (cell_at full_share R.mir us b o))

module _ {M : Type 1} {𝓤 : Ura M} (𝓛 : Logic 𝓤) (h : Database) (us : List Val) (b o b' o' : ℕ) (e : h.at ≡ block_ptr b' o') where
  back : (w : Session) → ent 𝓤 (sep 𝓤 (sem 𝓛 ((mem S).own_at w b' o')) (sem 𝓛 (Rest h us b o b' o'))) (sem 𝓛 ((mem R).own_at (with_session h w) b o))
  unfolding part_of
  back w =
      qed 𝓛 (‵ (part_at S full_share w b' o') ∷ ‵ (Rest h us b o b' o') ∷ []) ∵ move ! (1 ∷ []) $ fsplit3 ! $ move ! (3 ∷ 0 ∷ []) $ fjoin ! $
      rewrite ! 0 (λ (p : Ptr). ‵ (box_owns (ghosts.dealloc_token h.by) S p w)) (sym e) refl $ move ! (1 ∷ 0 ∷ []) $ fjoin ! $ move ! (1 ∷ 0 ∷ []) $ fjoin ! $
      fpack ! (List Val) (λ ws. fsep (cell_at full_share R.mir ws b o) (R.own_val (with_session h w) ws)) us $ done !

pub session_mut_spec : {M : Type 1} → statement M
session_mut_spec 𝓤 𝓛 𝓜 𝓡 wired =
    let c = f.clauses 𝓛 𝓜.mem 𝓡.returns in let W = walk_of 𝓛 f.ended stayed c in let 𝓣 = tables 𝓤 𝓛.H 𝓜 𝓡 𝓡.env in
    proved 𝓛 f.ended stayed c 𝓜 𝓡 (Goes-spent_ref 𝓛 1 (0 ∷ []) tt (plain (λ _. R)), tt)
    f.Key.name code.function (code.unfolded 𝓤 𝓛.H 𝓜 𝓡 wired)
    (λ κs. (mut_vals, tt)) (λ κs. (mut_Tells (named 0) κs.0 R, tt)) (λ κs qs bounds a _ are.
    let b = a.0.ref_ptr.0 in let o = a.0.ref_ptr.1 in let h = a.0.now in let γ = a.0.ghost_name in let vs = mut_vals a.0 in
    let y : W.Ghost = ((κs, qs, bounds, a, (vs, tt)), tt) in
    qed 𝓛 (((‵ (flft κs.0 qs.0) ⊛ ‵ ftrue) ⊛ ‵ ((MutRef (named 0) κs.0 R).own_val a.0 vs) ⊛ ‵ ftrue) ∷ ‵ ftrue ∷ []) ∵
    split ! $ split ! $ move ! (2 ∷ []) $ split ! $ keep ! (0 ∷ 2 ∷ []) $
    enter ! _ _ _ _ _ $ alloc_all ! (λ l. pass_all ! refl ((tt, tt), tt) $
    fsplit3 ! $ move ! (1 ∷ 2 ∷ 3 ∷ []) $ opens ! tt R b o (λ us.
    move ! (1 ∷ []) $ peeks ! R _ (shows 𝓛 R) h us (λ is. fsplit ! $ move ! (1 ∷ []) $
    in_a_block ! h.at (λ p. box_owns (ghosts.dealloc_token h.by) S p h.session) (fst∗ 𝓤 (never 𝓤) (sem 𝓛 (ghosts.dealloc_token h.by (bare (lone S.mir)) null_ptr))) (λ b' o' e.
    let word = lowers.val_is h us is ∙ ap (λ (p : Ptr). lowers.lowered (record h { at = p }) ∷ []) e in
    let Cell = λ (ws : List Val). ‵ (cell_at full_share R.mir ws b o) in
    rewrite ! 2 Cell word refl $ fsplit ! $
    first ! $ blocks ! $
    sets ! (of_opd ! (load ! (through ! refl (fld ! refl (stop !))) (look_in ! 3 (sub ! 0 refl (whole !))))) refl (tt, tt) $
    sets ! (of_opd ! (get ! refl)) refl (tt, tt) $ sets_last ! (addr ! (through ! refl (stop !))) refl (tt, tt) $
    exec ! 𝓣.C 𝓣.Λ (env code.Mir.locals l) (after 1 (code.function).body) (at_ret _ (W.post y)) $
    sets ! (of_opd ! (get ! refl)) refl (tt, tt) $
    rewrite ! 3 Cell (sym word) refl $ move ! (1 ∷ 2 ∷ 3 ∷ []) $ fjoin3 ! $ move ! (2 ∷ 3 ∷ 4 ∷ 1 ∷ 0 ∷ []) $ group ! 5 $
    let k = R.coded.code h in
    use1 𝓛 (later (some (λ (γ' : GName). raw (Part 𝓛 R S (with_session h) (named 0) κs.0 qs.0 b o b' o' γ (sem 𝓛 (Rest h us b o b' o')) (back 𝓛 h us b o b' o' e) h.session γ'))))
    (lends_Part 𝓛 R S (with_session h) (named 0) κs.0 qs.0 b o b' o' γ (sem 𝓛 (Rest h us b o b' o')) (back 𝓛 h us b o b' o' e) k k h.session) $ await ! tt $ pick ! (λ γ'.
    use1 𝓛 (‵ ((MutRef (named 0) κs.0 S).own_val (record { ref_ptr = (b', o'); ghost_name = γ'; now = h.session }) (vptr b' o' ∷ [])) ⊛ ‵ (flft κs.0 qs.0) ⊛ ‵ (follows R S γ γ' (with_session h))) (id⊢ 𝓤 _) $ split3 ! $
    returns ! (look_at ! 0 refl) $ free_all ! refl $ keep ! (0 ∷ 1 ∷ 2 ∷ []) $
    suffices ! _ (ends_at 𝓛 f.ended stayed c y (vptr b' o') (record { ref_ptr = (b', o'); ghost_name = γ'; now = h.session }) (tt, tt) (tt, tt)) $
    nothing ! $ nothing ! $ fjoin ! $ join ! $ nothing ! $ move ! (2 ∷ 0 ∷ []) $ join ! $ join ! $ frame ! $ says ! refl $ done !))))))
