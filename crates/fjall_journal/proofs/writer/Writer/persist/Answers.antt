use Rattle.std.proofs.Common.{ap, ◌∙◌, sym, subst, ℕ, List}
use Rattle.fjall_base.specs.Disk.{IsFile, state_in}
use Rattle.fjall_journal.specs.Writer.{Journal, PersistTook}
use Rattle.fjall_base.proofs.Results.{on_err}
use Rattle.fjall_journal.proofs.Writing.{not_buffer, out_stays, persist_done, persist_left}
use Rattle.fjall_journal.proofs.writer.Writer.persist.Goals as goal

pub returns-in_err-sync-clause-left : goal.returns-in_err-sync-clause-left
returns-in_err-sync-clause-left g c = λ h.
    let old = g.D.Disk.meaning c.args.disk.now in
    let new = g.D.Disk.meaning c.sync.new.self in
    let out = c.in_ok-write_out.ensures.ok in
    on_err c.from_residual-in_err-sync.result (PersistTook c.args.self.now c.write_out.new.self c.args.mode old new)
    (persist_left c.args.self.now c.write_out.new.self c.args.mode old (g.D.Disk.meaning c.write_out.new.disk) new c.deref.result.now out
    (not_buffer c.args.mode (sym c.eq.ensures ∙ c.if-eq.false)) (c.deref.ensures ∙ ap (λ (j : Journal). j.name) (c.self.view_is ∙ out)) (c.in_ok-write_out.ensures.took h) (c.in_err-sync.ensures.err h))

pub returns-clause-took : goal.returns-clause-took
returns-clause-took g c = λ h.
    persist_done c.args.self.now c.args.mode (g.D.Disk.meaning c.args.disk.now) (g.D.Disk.meaning c.write_out.new.disk) (g.D.Disk.meaning c.sync.new.self) c.deref.result.now
    (not_buffer c.args.mode (sym c.eq.ensures ∙ c.if-eq.false)) (c.deref.ensures ∙ ap (λ (j : Journal). j.name) (c.self.view_is ∙ c.in_ok-write_out.ensures.ok)) (c.in_ok-write_out.ensures.took h) (c.in_ok-sync.ensures.ok h)

pub returns-in_err-sync-clause-served : goal.returns-in_err-sync-clause-served
returns-in_err-sync-clause-served g c = λ h file.
    let old = g.D.Disk.meaning c.args.disk.now in
    let mid = g.D.Disk.meaning c.write_out.new.disk in
    let name = c.deref.ensures ∙ ap (λ (j : Journal). j.name) (c.self.view_is ∙ c.in_ok-write_out.ensures.ok) in
    let still = out_stays old mid c.args.self.now.name c.args.self.now.buffer (c.in_ok-write_out.ensures.took h) file in
    (c.in_err-sync.ensures.judged h).served (subst (λ (n : List ℕ). IsFile (state_in mid n).now) (sym name) still) ∙ c.in_ok-write_out.ensures.served h file
