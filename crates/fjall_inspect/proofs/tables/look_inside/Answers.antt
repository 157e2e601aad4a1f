use Rattle.std.proofs.Common.{◌∙◌, map, sym}
use Rattle.fjall_base.specs.declared.error.StorageError.TheVariants.{TableDamaged}
use Rattle.fjall_table.specs.TableReading.{IsNoTable, handle_of}
use Rattle.fjall_inspect.proofs.Telling.{damage_is, right_told}
use Rattle.fjall_inspect.proofs.tables.look_inside.Goals as goal
use Rattle.fjall_inspect.proofs.tables.look_inside.Goals.{in-Ok, in-Err, in-Err-2}

pub tell_damage-requires : goal.tell_damage-requires
tell_damage-requires c = damage_is TableDamaged (IsNoTable c.args.table.now.bytes.now) c.in-Err.error (sym c.is_fault.ensures ∙ c.if-is_fault.true) c.in-Err.ensures.damaged

pub returns-clause-tells : goal.returns-clause-tells
returns-clause-tells c info is =
    let table = c.args.table.now in
    elim c.match-versions.branch [
      | in-Ok w ↦ rw w.result-is (right_told c.args.file.now info table.bytes.now (map handle_of table.index.handles.items) is _ _ w.in-Ok.ensures.table w.new.ensures.items)
      | in-Err w ↦ rw w.result-is (w.tell_damage.ensures.tells info is)
      | in-Err-2 w ↦ rw w.result-is tt
    ]
