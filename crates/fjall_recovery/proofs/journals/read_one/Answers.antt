use Rattle.std.proofs.Common.{◌∙◌, ap}
use Rattle.fjall_base.specs.Disk.{Image, Name, standing, state_in}
use Rattle.fjall_files.specs.Texts.{text_in}
use Rattle.fjall_recovery.proofs.Looking.{looked_at, some_look}
use Rattle.fjall_recovery.proofs.journals.read_one.Goals as goal

pub returns-clause-looks : goal.returns-clause-looks
returns-clause-looks g c = some_look c.in_ok-text.text c.args.least c.look_through.result c.look_through.ensures.looks

pub returns-clause-found : goal.returns-clause-found
returns-clause-found g c honest =
    let image : Image = standing (state_in (g.D.Disk.meaning c.args.disk.now)) in
    let named = c.deref.ensures ∙ c.in_ok-name.ensures.name in
    let text = c.in_ok-text.ensures.ok ∙ c.in_ok-read_text.ensures.text honest ∙ ap (λ (n : Name). text_in (image n)) named in
    looked_at _ _ c.args.least c.look_through.result text c.look_through.ensures.looks
