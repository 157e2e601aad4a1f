use Rattle.fjall_manifest.proofs.table.write_name.Goals as goal

pub returns-clause-ok : goal.returns-clause-ok
returns-clause-ok c = rw (c.name_key_bytes.ensures, c.deref.ensures) at c.write.ensures.ok
