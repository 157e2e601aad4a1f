use Rattle.std.proofs.Common.{◌∙◌, None, map, sym}
use Rattle.std.proofs.lemmas.Result.{IfOk-weaker}
use Rattle.fjall_table.specs.TableReading.{handle_of}
use Rattle.fjall_inspect.specs.Faults.{FileTells, IsOneFault}
use Rattle.fjall_inspect.proofs.Telling.{blocks_told, none_of, none_told, some_of}
use Rattle.fjall_inspect.proofs.tables.tell_damage.Goals as goal

pub returns-then-is_empty-clause-tells : goal.returns-then-is_empty-clause-tells
returns-then-is_empty-clause-tells c info is =
    let table = c.args.table.now in
    let empty = none_of _ c.in_ok-faults.faults.items c.in_ok-faults.faults.ok.0 (sym c.is_empty.ensures ∙ c.if-is_empty.true) in
    IfOk-weaker c.one_fault.result (λ faults. IsOneFault c.args.file.now None faults.items) (λ faults. FileTells c.args.file.now info table.bytes.now faults.items)
    (λ faults one. none_told c.args.file.now info table.bytes.now (map handle_of table.index.handles.items) is c.in_ok-faults.faults.items faults.items c.requires c.in_ok-faults.ensures.tells empty one)
    c.one_fault.ensures.one

pub returns-clause-tells : goal.returns-clause-tells
returns-clause-tells c info is =
    let table = c.args.table.now in
    let some = some_of _ c.in_ok-faults.faults.items c.in_ok-faults.faults.ok.0 (sym c.is_empty.ensures ∙ c.if-is_empty.false) in
    blocks_told c.args.file.now info table.bytes.now (map handle_of table.index.handles.items) is c.in_ok-faults.faults.items c.requires c.in_ok-faults.ensures.tells some
