use Rattle.std.proofs.Common.{◌≡◌, ◌<◌, ◌^◌, length, ap, sym, ◌∙◌}
use Rattle.fjall_table.specs.Blocks.{seen, entry_at}
use Rattle.fjall_table.specs.Tables.{first_key}
use Rattle.fjall_table.proofs.TableWriting.{first_found, none_found}
use Rattle.fjall_table.proofs.open_block.OpenBlock.first_key.Goals as goal
use Rattle.fjall_table.proofs.open_block.OpenBlock.first_key.Goals.{In-Some}

found : (c : In-Some) → (c.in-Some.version.key.now ≡ first_key c.args.self.now) × (length c.in-Some.version.key.now < 2 ^ 16)
found c =
    let f = first_found c.self.inside.payload.items c.in-Some.field-0-1.now c.self.inside.entry_count _ (seen c.in-Some.version) c.self.invariant (ap entry_at (sym c.deref.ensures.value) ∙ c.in-Some.ensures) in
    (f.0 ∙ ap first_key c.self.view_is, f.1)

pub returns-in-Some-clause-key : goal.returns-in-Some-clause-key
returns-in-Some-clause-key c = (found (goal.at.returns-in-Some-clause-key c).In-Some).0

pub returns-in-Some-clause-fits : goal.returns-in-Some-clause-fits
returns-in-Some-clause-fits c = (found (goal.at.returns-in-Some-clause-fits c).In-Some).1

pub returns-in-None-clause-key : goal.returns-in-None-clause-key
returns-in-None-clause-key c = none_found c.self.inside.payload.items c.self.inside.entry_count _ c.self.invariant (ap entry_at (sym c.deref.ensures.value) ∙ c.in-None.ensures) ∙ ap first_key c.self.view_is
