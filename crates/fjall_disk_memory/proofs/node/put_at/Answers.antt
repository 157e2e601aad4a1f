use Rattle.std.proofs.Common.{refl, ap, [], ◌∷◌, map, rules, string_bytes, ◌∙◌}
use Rattle.std.proofs.lemmas.List.{map-append}
use Rattle.fjall_disk_memory.specs.Memory.{entry_of}
use Rattle.fjall_base.proofs.Results.{on_err}
use Rattle.fjall_disk_memory.proofs.Names.{put_names, put_new, same_names}
use Rattle.fjall_disk_memory.proofs.node.put_at.Goals as goal

pub returns-in_err-replace_now-in-Some-clause-err : goal.returns-in_err-replace_now-in-Some-clause-err
returns-in_err-replace_now-in-Some-clause-err c =
    let e = c.in_err-replace_now-in-Some.ensures in
    on_err _ _ (same_names c.args.names.now.items c.args.name.now c.in-Some.at c.index_mut.result.now c.replace_now.new.named (search rules) (search rules)
    (ap string_bytes e.name) (ap entry_of e.err_now) (ap (map entry_of) e.err_older))

pub returns-in_ok-replace_now-in-Some-clause-ok : goal.returns-in_ok-replace_now-in-Some-clause-ok
returns-in_ok-replace_now-in-Some-clause-ok c =
    let e = c.in_ok-replace_now-in-Some.ensures in
    put_names c.args.names.now.items c.args.name.now c.in-Some.at c.index_mut.result.now c.replace_now.new.named (entry_of c.args.node) (search rules) (search rules)
    (ap string_bytes e.name) (ap entry_of e.now) (ap (map entry_of) e.older ∙ map-append entry_of c.index_mut.result.now.older.items (c.index_mut.result.now.now ∷ []))

pub returns-in_ok-push-in-None-2-clause-ok : goal.returns-in_ok-push-in-None-2-clause-ok
returns-in_ok-push-in-None-2-clause-ok c = rw c.in_ok-push-in-None-2.ensures.items
    (put_new c.args.names.now.items c.args.name.now _ (entry_of c.args.node) (search rules) (search rules) refl (rw (c.in_ok-push-in-None.ensures.items, c.new-older.ensures.items) refl))
