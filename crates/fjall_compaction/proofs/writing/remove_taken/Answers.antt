use Rattle.std.proofs.Common.{map, refl, ◌∙◌, take}
use Rattle.fjall_base.specs.Disk.{Meaning}
use Rattle.fjall_compaction.specs.Merges.{home_after}
use Rattle.fjall_compaction.proofs.Taking as Taking
use Rattle.fjall_compaction.proofs.writing.remove_taken.Goals as goal

pub returns-clause-any_moment : goal.returns-clause-any_moment
returns-clause-any_moment g c honest records t id m h versions lies at are =
    let w : _ → Meaning = g.D.Disk.meaning in
    let taken = take m.table_count h.last.tables in
    let named = are.named ∙ Taking.named_ids id taken in
    let own = Taking.own (w c.args.disk.now) records t id are.small (home_after m h) versions lies at in
    let rests = Taking.rests (w c.args.disk.now) records t id are.small (home_after m h) versions lies at in
    Taking.still_tree (w c.args.disk.now) records t id are.small (home_after m h) versions lies at (w c.remove_tables.new.disk)
    (c.remove_tables.ensures.within honest id (map (λ t. t.id) taken) named)
    (c.remove_tables.ensures.rests honest id own (home_after m h) (map (λ t. t.id) taken) are.small named (Taking.unnamed m h.last are.record_is h refl) rests).0

pub returns-clause-lies : goal.returns-clause-lies
returns-clause-lies g c honest records t id m h versions lies at are =
    let w : _ → Meaning = g.D.Disk.meaning in
    let taken = take m.table_count h.last.tables in
    let named = are.named ∙ Taking.named_ids id taken in
    let own = Taking.own (w c.args.disk.now) records t id are.small (home_after m h) versions lies at in
    let rests = Taking.rests (w c.args.disk.now) records t id are.small (home_after m h) versions lies at in
    Taking.still_lies (w c.args.disk.now) records t id are.small (home_after m h) versions lies at (w c.remove_tables.new.disk)
    (c.remove_tables.ensures.within honest id (map (λ t. t.id) taken) named)
    (c.remove_tables.ensures.rests honest id own (home_after m h) (map (λ t. t.id) taken) are.small named (Taking.unnamed m h.last are.record_is h refl) rests).1

pub returns-clause-served : goal.returns-clause-served
returns-clause-served g c honest id m last are none =
    let taken = take m.table_count last.tables in
    c.remove_tables.ensures.served honest id (map (λ t. t.id) taken) (are.named ∙ Taking.named_ids id taken) (Taking.no_folders m last are.record_is id (g.D.Disk.meaning c.args.disk.now) none)
