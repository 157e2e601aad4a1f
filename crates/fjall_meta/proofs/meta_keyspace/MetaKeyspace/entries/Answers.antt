use Rattle.std.proofs.Common.{◌≡◌, refl}
use Rattle.fjall_meta.specs.Entries.{entries_of}
use Rattle.fjall_meta.proofs.Orders.{lawful_ascend}
use Rattle.fjall_meta.proofs.meta_keyspace.MetaKeyspace.entries.Goals as goal

pub returns-clause-ascending : goal.returns-clause-ascending
returns-clause-ascending c =
    let living = c.self.inside.living.items in
    let text : c.put_all_names.new.entries.items ≡ entries_of living = rw (c.in_ok-put_all_names.ensures.ok, c.in_ok-put_all_options.ensures.ok, c.in_ok-entries.ensures.items, c.deref.ensures.value, c.deref-2.ensures.value) refl in
    rw text (lawful_ascend (record { living = living; next = c.self.inside.next }) c.self.invariant)
