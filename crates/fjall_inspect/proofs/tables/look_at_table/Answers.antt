use Rattle.std.proofs.Common.{◌∙◌}
use Rattle.fjall_base.specs.Disk.{Image, standing, state_in}
use Rattle.fjall_inspect.proofs.Telling.{table_told}
use Rattle.fjall_inspect.proofs.tables.look_at_table.Goals as goal

pub returns-clause-tells : goal.returns-clause-tells
returns-clause-tells g c honest =
    let image : Image = standing (state_in (g.D.Disk.meaning c.args.disk.now)) in
    table_told image c.args.id c.args.info c.as_str-2.result.now c.as_str.result.now c.deref.result.now (c.as_str-2.ensures.value ∙ c.in_ok-name.ensures.name) (c.as_str.ensures.value ∙ c.in_ok-name.ensures.name)
    (c.deref.ensures.value ∙ c.in_ok-bytes.ensures.text honest) c.look_at_file.result c.look_at_file.ensures.tells
