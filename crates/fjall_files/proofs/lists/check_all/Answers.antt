use Rattle.std.proofs.Common.{rules}
use Rattle.fjall_files.proofs.Refusing.{refused_at}
use Rattle.fjall_files.proofs.lists.check_all.Goals as goal

pub returns-in_err-id_of-clause-refused : goal.returns-in_err-id_of-clause-refused
returns-in_err-id_of-clause-refused c =
    refused_at c.args.sought c.args.listed.now c.loop-entry.entry-index c.entry-item.result c.in_err-id_of.field-0.0 c.from_residual.result c.loop-entry-test.true c.entry-item.is c.in_err-id_of.ensures.refused (search rules)
