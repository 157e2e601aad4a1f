use Rattle.std.proofs.Common.{sym, subst}
use Rattle.fjall_history.specs.declared.reply.Reply.TheVariants.{Done}
use Rattle.fjall_core.specs.Transactions.{Tx}
use Rattle.fjall_calls.specs.declared.call.Within.{Within}
use Rattle.fjall_calls.specs.declared.call.Within.TheVariants as within
use Rattle.fjall_calls.specs.Serving.{ActsOn}
use Rattle.fjall_calls.proofs.Acting.{persists}
use Rattle.fjall_calls.proofs.acts.act.Goals as goal

pub returns-in-Durability : goal.returns-in-Durability
returns-in-Durability g c =
    let core = c.args.core.now in
    let tx = c.args.transaction in
    let one = c.in-Durability in
    subst (λ (call : Within). ActsOn g.D.Disk.honest core tx call Done core c.durability.result) (sym one.is)
    (subst (λ (t : Tx). ActsOn g.D.Disk.honest core tx (within.Durability one.mode) Done core t) (sym c.durability.ensures) (persists g.D.Disk.honest core tx one.mode))
