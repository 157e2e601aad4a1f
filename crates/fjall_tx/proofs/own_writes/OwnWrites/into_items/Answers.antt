use Rattle.std.proofs.Common.{List, map, ap, sym, ◌∙◌}
use Rattle.fjall_journal.specs.Ops.{BatchItem, some_key_empty, some_key_too_long, some_value_too_long}
use Rattle.fjall_tx.specs.Owns.{Own, item_of, items_of}
use Rattle.fjall_tx.proofs.Keys.{same_entries}
use Rattle.fjall_tx.proofs.Writable.{no_empty, no_long_key, no_long_value}
use Rattle.fjall_tx.proofs.own_writes.OwnWrites.into_items.Goals as goal

pub returns-clause-items : goal.returns-clause-items
returns-clause-items c =
    let e = c.put_in_room.ensures in
    e.items ∙ ap (map item_of) (sym (same_entries c.self.inside.writes.entries e.ordered)) ∙ ap (λ (own : Own). items_of own) c.self.view_is

pub returns-clause-no_key_empty : goal.returns-clause-no_key_empty
returns-clause-no_key_empty c = ap (λ (l : List BatchItem). some_key_empty l) c.put_in_room.ensures.items ∙ no_empty c.self.inside.writes.entries c.self.invariant.2

pub returns-clause-no_key_too_long : goal.returns-clause-no_key_too_long
returns-clause-no_key_too_long c = ap (λ (l : List BatchItem). some_key_too_long l) c.put_in_room.ensures.items ∙ no_long_key c.self.inside.writes.entries c.self.invariant.2

pub returns-clause-no_value_too_long : goal.returns-clause-no_value_too_long
returns-clause-no_value_too_long c = ap (λ (l : List BatchItem). some_value_too_long l) c.put_in_room.ensures.items ∙ no_long_value c.self.inside.writes.entries c.self.invariant.2
