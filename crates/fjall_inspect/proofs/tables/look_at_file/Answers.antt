use Rattle.std.proofs.Common.{◌∙◌, None, sym}
use Rattle.std.proofs.lemmas.Result.{IfOk-weaker}
use Rattle.fjall_base.specs.declared.error.StorageError.TheVariants.{TableDamaged}
use Rattle.fjall_table.specs.TableReading.{HasNoIndex}
use Rattle.fjall_inspect.specs.Faults.{FileTells, IsOneFault}
use Rattle.fjall_inspect.proofs.Telling.{damage_is, end_told}
use Rattle.fjall_inspect.proofs.tables.look_at_file.Goals as goal

pub returns-in-Err-clause-tells : goal.returns-in-Err-clause-tells
returns-in-Err-clause-tells c =
    let none = damage_is TableDamaged (HasNoIndex c.args.bytes.now c.args.info) c.in-Err.error (sym c.is_fault.ensures ∙ c.if-is_fault.true) c.in-Err.ensures.damaged in
    IfOk-weaker c.one_fault.result (λ faults. IsOneFault c.args.file.now None faults.items) (λ faults. FileTells c.args.file.now c.args.info c.args.bytes.now faults.items)
    (λ faults one. end_told c.args.file.now c.args.info c.args.bytes.now faults.items none one) c.one_fault.ensures.one
