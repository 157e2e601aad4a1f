use Rattle.fjall_manifest.proofs.table.write_option.Goals as goal

pub returns-clause-ok : goal.returns-clause-ok
returns-clause-ok c = rw (c.deref.ensures.value, c.in_ok-put_config_key.ensures.ok, c.clear.ensures.items, c.name.ensures, c.value.ensures.value) at c.write.ensures.ok
