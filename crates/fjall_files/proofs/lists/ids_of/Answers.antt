use Rattle.std.proofs.Common.{rules, ◌∙◌, ◌≡◌, eqb, Err, ap}
use Rattle.std.specs.List.{dedup}
use Rattle.std.proofs.lemmas.List.Filters.{dedup_is}
use Rattle.fjall_files.specs.Sought.{Is}
use Rattle.fjall_files.proofs.Collecting.{in_order}
use Rattle.fjall_files.proofs.Refusing.{error_same}
use Rattle.fjall_files.proofs.lists.ids_of.Goals as goal

pub returns-in_err-check_all-clause-all_refused : goal.returns-in_err-check_all-clause-all_refused
returns-in_err-check_all-clause-all_refused c error some =
    let is : c.from_residual.result ≡ Err c.in_err-check_all.field-0.0 = search rules in
    is ∙ ap Err (error_same c.in_err-check_all.field-0.0 error (c.in_err-check_all.ensures.all_refused error some))

pub returns-in_err-ids-clause-all_refused : goal.returns-in_err-ids-clause-all_refused
returns-in_err-ids-clause-all_refused c error some = let no = c.in_ok-check_all.ensures.all_refused error some in absurd (cc no)

pub returns-clause-ids : goal.returns-clause-ids
returns-clause-ids c =
    let kept : c.dedup.new.self.items ≡ dedup eqb c.sort_unstable.new.self.items = dedup_is eqb c.sort_unstable.new.self.items c.dedup.new.self.items c.dedup.ensures.filtered in
    rw kept (in_order (Is c.args.sought) c.args.listed.now c.in_ok-ids.ids.items c.sort_unstable.new.self.items c.in_ok-ids.ensures.ids c.sort_unstable.ensures.permutation c.sort_unstable.ensures.sorted)

pub returns-clause-all_refused : goal.returns-clause-all_refused
returns-clause-all_refused c error some = let no = c.in_ok-check_all.ensures.all_refused error some in absurd (cc no)
