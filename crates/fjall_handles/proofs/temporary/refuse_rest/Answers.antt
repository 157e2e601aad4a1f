use Rattle.std.proofs.Common.{◌≡◌, [], List, length, subst, sym, arith, eqb-true}
use Rattle.std.proofs.lemmas.List.{nil_from_length}
use Rattle.fjall_base.specs.declared.disk.DirEntry.{DirEntry}
use Rattle.fjall_base.specs.Disk.{DiskState, Lists, Missing, state_in}
use Rattle.fjall_handles.proofs.Emptied.{none_listed}
use Rattle.fjall_handles.proofs.temporary.refuse_rest.Goals as goal

pub returns-then-is_empty : goal.returns-then-is_empty
returns-then-is_empty g c honest name within =
    let old = state_in (g.D.Disk.meaning c.args.disk.now) in
    let left = c.in_ok-left.left in
    let none = eqb-true left.len 0 (sym c.if-is_empty.ensures) in
    let counted = left.ok.0 in
    let empty : length left.items ≡ 0 = omega (arith, none, counted) in
    let listed : Lists old [] [] = subst (λ (found : List DirEntry). Lists old [] found) (nil_from_length left.items empty) (c.in_ok-left.ensures.found honest) in
    subst (λ (state : DiskState). (state name).now ≡ Missing) (sym (c.in_ok-left.ensures.same honest).state) (none_listed old [] listed name within)
