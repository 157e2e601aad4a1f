-- `then` makes a value without bytes, and says that it stands for the steps before and the change's.
use Rattle.std.proofs.Common.{[], ◌∷◌, ◌++◌, refl}
use Rattle.std.proofs.raw_atomic.Walks.{proved}
use mir.Syntax.{named}
use mir.Val.{vstruct, vnil}
use types.Kit.{‵, raw, ◌⊛◌, ◌$◌, ◌∵◌, !, qed, move, keep, split, suffices, done}
use types.Part.{agg}
use types.Run.{enter, returns, no_more}
use types.ByLocal.{alloc_all, pass_all, free_all, look_at, sets}
use denote.Exit.{yes}
use denote.RattleType.{owns}
use denote.Ref.{shr_vals, shr_Tells}
use denote.Shadow.{pure_i}
use denote.Signature.{Slot, plain, types_at, named_lft}
use denote.Triple.Entry.{alive}
use denote.Triple.Walked.{Stays, says, stay_none_ref, Goes-none_ref, walk_of, ends_at}
use Rattle.fjall_disk_memory.specs.Memory.{steps_of}
use Rattle.fjall_disk_memory.specs.declared.history.History.{History}
use Rattle.fjall_disk_memory.specs.contracts.history.History as value
use Rattle.fjall_disk_memory.specs.contracts.history.Change as change
use Rattle.fjall_disk_memory.specs.contracts.history.History.then as f
use Rattle.fjall_disk_memory.specs.contracts.history.History.then.Key as key
use Rattle.fjall_disk_memory.proofs.history.History.then.Statement.{statement}
use Rattle.fjall_disk_memory.proofs.history.History.then.Code as code

-- what stands behind the two references
abbrev before : Slot 3
before = plain (λ κs. value.the_row)

abbrev told : Slot 3
told = plain (λ κs. change.the_row (named_lft 3 2 tt κs))

abbrev stayed : Stays f.ended.signature.params f.ended.kept
stayed = (stay_none_ref (0 ∷ []) tt before yes, (stay_none_ref (1 ∷ []) tt told yes, tt))

pub then_spec : {M : Type 1} → statement M
then_spec 𝓤 𝓛 𝓜 𝓡 wired =
    let c = f.clauses 𝓛 𝓜.mem 𝓡.returns in let W = walk_of 𝓛 f.ended stayed c in
    proved 𝓛 f.ended stayed c 𝓜 𝓡 (Goes-none_ref 𝓛 3 (0 ∷ []) tt before yes, (Goes-none_ref 𝓛 3 (1 ∷ []) tt told yes, tt))
    key.name code.function (code.unfolded 𝓤 𝓛.H 𝓜 𝓡 wired)
    (λ κs. (shr_vals, (shr_vals, tt))) (λ κs. (shr_Tells (named 0) κs.0 (before.row κs), (shr_Tells (named 1) κs.1.0 (told.row κs), tt)))
    (λ κs qs bounds a g are.
    let y : W.Ghost = ((κs, qs, bounds, a, (shr_vals a.0, (shr_vals a.1.0, tt))), g) in
    let made : History = record { steps = a.0.now.steps ++ steps_of a.1.0.now } in
    qed 𝓛 ((raw (alive 𝓛 f.signature κs qs) ⊛ ‵ (owns (types_at f.signature.params κs) a y.0.4)) ∷ raw ((c κs a).requires g) ∷ []) ∵
    keep ! (0 ∷ []) $ split ! $ enter ! _ _ _ _ _ $ alloc_all ! (λ l. pass_all ! refl ((tt, tt), ((tt, tt), tt)) $
    sets ! (agg ! (no_more !)) refl (tt, tt) $ returns ! (look_at ! 0 refl) $ free_all ! refl $
    suffices ! _ (ends_at 𝓛 f.ended stayed c y (vstruct vnil) made (tt, (tt, tt)) (tt, (tt, tt))) $ says ! refl $
    pure_i ! (value.the_row.own_val made (vstruct vnil ∷ [])) ((λ vss. (tt, tt)), tt) ((tt, (refl, tt)), tt) $
    move ! (1 ∷ 2 ∷ 0 ∷ []) $ done !))
