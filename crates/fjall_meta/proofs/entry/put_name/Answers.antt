use Rattle.std.proofs.Common.{◌≡◌, ◌∙◌, sym, refl}
use Rattle.fjall_meta.proofs.entry.put_name.Goals as goal

pub returns-clause-ok : goal.returns-clause-ok
returns-clause-ok c =
    let same : c.in_ok-clone.field-0 ≡ c.args.keyspace.now.name = c.in_ok-clone.ensures.cases in
    rw (c.in_ok-push.ensures.items, same, c.in_ok-encode_name_key.ensures.ok) refl
