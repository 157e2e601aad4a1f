use Rattle.std.proofs.Common.{◌≡◌, ◌∙◌, ℕ, Vec, ap, length, subst, sym, arith}
use Rattle.std.specs.declared.alloc.Global.{Global}
use Rattle.fjall_base.specs.Disk.{standing, state_in}
use Rattle.fjall_repair.specs.Plans.{AreToBe}
use Rattle.fjall_repair.proofs.Plannings.{found_to_be, none_to_be, some_ids}
use Rattle.fjall_repair.proofs.beginning.plan.journal_ids.Goals as goal
use Rattle.fjall_repair.proofs.beginning.plan.journal_ids.Goals.{then-len-eq0+in_ok-push, else-len-eq0}

pub returns-clause-ids : goal.returns-clause-ids
returns-clause-ids g c honest =
    let image = standing (state_in (g.D.Disk.meaning c.args.disk.now)) in
    let found = c.in_ok-ids.ensures.ids honest in
    let count : c.len.result ≡ length c.in_ok-ids.ids.items = omega arith in
    elim c.if-len-eq0.branch [
      | then-len-eq0+in_ok-push w ↦
          let empty : length c.in_ok-ids.ids.items ≡ 0 = sym count ∙ w.if-len-eq0.true in
          none_to_be image c.in_ok-ids.ids.items c.if-len-eq0.ids.items found empty (ap (λ (v : Vec ℕ Global). v.items) w.ids-is ∙ w.in_ok-push.ensures.items)
      | else-len-eq0 w ↦
          subst (λ (v : Vec ℕ Global). AreToBe image v.items) (sym w.ids-is) (found_to_be image c.in_ok-ids.ids.items found (some_ids c.in_ok-ids.ids.items c.len.result count w.if-len-eq0.false))
    ]
