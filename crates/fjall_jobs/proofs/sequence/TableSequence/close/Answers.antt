use Rattle.std.proofs.Common.{◌≡◌, ◌∙◌, List, ap, subst, length}
use Rattle.fjall_table.specs.Blocks.{Entry}
use Rattle.fjall_jobs.specs.declared.sequence.TableSequence.{TableSequence}
use Rattle.fjall_jobs.proofs.Closing.{closes, one_closed}
use Rattle.fjall_jobs.proofs.sequence.TableSequence.close.Goals as goal
use Rattle.fjall_jobs.proofs.sequence.TableSequence.close.Goals.{in-Some+in_ok-push, in_default}

pub returns-clause-closed : goal.returns-clause-closed
returns-clause-closed c closed are some =
    let same : c.replace-writer.result ≡ c.args.self.now.writer = c.replace-writer.ensures.value in
    let table = subst (λ (ws : List Entry). closes c.in_ok-bytes.field-0 ws) same c.in_ok-bytes.ensures.table in
    elim c.match-branch-2.branch [
      | in-Some+in_ok-push w ↦
          one_closed c.args.self.now.closed.items closed c.args.self.now.writer c.in_ok-bytes.field-0 _ c.entry_count-entry_count.result are table w.in-Some.is c.match-branch-2.self.closed.items
          (ap (λ (s : TableSequence). s.closed.items) w.self-is ∙ w.in_ok-push.ensures.items) (c.entry_count-entry_count.ensures ∙ ap length same)
      | in_default w ↦ absurd (some (subst (λ o. closes o c.args.self.now.writer) w.in_default.is table))
    ]
