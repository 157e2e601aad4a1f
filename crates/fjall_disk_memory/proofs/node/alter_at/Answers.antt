use Rattle.std.proofs.Common.{◌≡◌, ◌↔◌, IsTrue, true, false, ◌∙◌, refl, sym, ap, subst, rules}
use Rattle.fjall_base.specs.Disk.{Place}
use Rattle.fjall_disk_memory.specs.Memory.{entry_of, place_of, changed, FitsEntry}
use Rattle.fjall_base.proofs.Results.{on_err}
use Rattle.fjall_disk_memory.proofs.Names.{alter_names, same_names, found_at, none_at, never_fits}
use Rattle.fjall_disk_memory.proofs.node.alter_at.Goals as goal

pub returns-in_err-alter-clause-err : goal.returns-in_err-alter-clause-err
returns-in_err-alter-clause-err c =
    on_err _ _ (same_names c.args.names.now.items c.args.name.now c.in-Some.at c.index_mut.result.now _ (search rules) (search rules) refl c.in_err-alter.ensures.err refl)

pub returns-then-not-branch-clause-no : goal.returns-then-not-branch-clause-no
returns-then-not-branch-clause-no c =
    let same : entry_of c.alter.new.self ≡ entry_of c.index_mut.result.now.now = search rules in
    same_names c.args.names.now.items c.args.name.now c.in-Some.at c.index_mut.result.now _ (search rules) (search rules) refl same refl

pub returns-clause-ok : goal.returns-clause-ok
returns-clause-ok c =
    let now : entry_of c.alter.new.self ≡ changed c.args.change (entry_of c.index_mut.result.now.now) = search rules in
    alter_names c.args.names.now.items c.args.name.now c.in-Some.at c.index_mut.result.now _ (changed c.args.change) (search rules) (search rules) refl now refl

pub returns-clause-fits : goal.returns-clause-fits
returns-clause-fits c =
    subst (λ (p : Place). IsTrue true ↔ FitsEntry c.args.change p.now)
    (ap place_of c.index_mut.ensures.value ∙ sym (found_at c.args.names.now.items c.args.name.now c.in-Some.at c.index_mut.result.now (search rules)))
    (rw c.if-not-branch.false at c.in_ok-alter.ensures.fits)

pub returns-in_default-clause-fits : goal.returns-in_default-clause-fits
returns-in_default-clause-fits c = rw (none_at c.args.names.now.items c.args.name.now (search rules)) (never_fits c.args.change)

pub returns-then-not-branch-clause-fits : goal.returns-then-not-branch-clause-fits
returns-then-not-branch-clause-fits c =
    subst (λ (p : Place). IsTrue false ↔ FitsEntry c.args.change p.now)
    (ap place_of c.index_mut.ensures.value ∙ sym (found_at c.args.names.now.items c.args.name.now c.in-Some.at c.index_mut.result.now (search rules)))
    (rw c.if-not-branch.true at c.in_ok-alter.ensures.fits)
