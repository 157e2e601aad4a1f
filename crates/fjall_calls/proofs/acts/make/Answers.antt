use Rattle.std.proofs.Common.{sym, subst}
use Rattle.fjall_history.specs.declared.reply.Reply.{Reply}
use Rattle.fjall_calls.specs.declared.call.Within.{Within}
use Rattle.fjall_calls.specs.declared.call.Within.TheVariants as within
use Rattle.fjall_calls.specs.Serving.{ActsOn}
use Rattle.fjall_calls.proofs.Acting.{write_acts}
use Rattle.fjall_calls.proofs.acts.make.Goals as goal

pub returns-in-Write : goal.returns-in-Write
returns-in-Write g c =
    let core = c.args.core.now in
    let tx = c.args.transaction.now in
    let one = c.in-Write in
    let after = c.write.new.transaction in
    subst (λ (call : Within). ActsOn g.D.Disk.honest core tx call c.reply_of.result core after) (sym one.is)
    (subst (λ (r : Reply). ActsOn g.D.Disk.honest core tx (within.Write one.id one.key one.op) r core after) (sym c.reply_of.ensures)
    (write_acts g.D.Disk.honest core tx after one.id one.key one.op c.write.result c.write.ensures.ok c.write.ensures.unchanged c.write.ensures.refused))
