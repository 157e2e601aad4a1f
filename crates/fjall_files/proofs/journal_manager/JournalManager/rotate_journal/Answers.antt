use Rattle.std.proofs.Common.{◌≡◌, ◌+◌, ap, arith, subst, sym, ◌∙◌}
use Rattle.fjall_base.specs.Disk.{Meaning, Name, IsNoFolder, folder_of, state_in}
use Rattle.fjall_files.specs.Names.{journal_name}
use Rattle.fjall_files.proofs.Fitting.{folder_of-journal}
use Rattle.fjall_files.proofs.Rotating.{journal_some}
use Rattle.fjall_files.proofs.journal_manager.JournalManager.rotate_journal.Goals as goal

pub returns-in_err-rotate-clause-served : goal.returns-in_err-rotate-clause-served
returns-in_err-rotate-clause-served g c = λ h file none.
    let m : _ → Meaning = g.D.Disk.meaning in
    let is : c.deref-2.result.now ≡ journal_name (c.args.id.now + 1) = c.deref-2.ensures ∙ c.in_ok-next_name.ensures.name in
    let root = ap (λ (n : Name). folder_of n) is ∙ folder_of-journal (c.args.id.now + 1) (omega arith) in
    c.in_err-rotate.ensures.served h root (λ e. journal_some (c.args.id.now + 1) (sym is ∙ e)) file (subst (λ (n : Name). IsNoFolder (state_in (m c.args.disk.now) n).now) (sym is) none)

pub returns-clause-served : goal.returns-clause-served
returns-clause-served g c = λ h file none.
    let m : _ → Meaning = g.D.Disk.meaning in
    let is : c.deref-2.result.now ≡ journal_name (c.args.id.now + 1) = c.deref-2.ensures ∙ c.in_ok-next_name.ensures.name in
    let root = ap (λ (n : Name). folder_of n) is ∙ folder_of-journal (c.args.id.now + 1) (omega arith) in
    c.in_ok-rotate.ensures.served h root (λ e. journal_some (c.args.id.now + 1) (sym is ∙ e)) file (subst (λ (n : Name). IsNoFolder (state_in (m c.args.disk.now) n).now) (sym is) none)

pub returns-clause-free : goal.returns-clause-free
returns-clause-free g c = λ h.
    let m : _ → Meaning = g.D.Disk.meaning in
    let is : c.deref-2.result.now ≡ journal_name (c.args.id.now + 1) = c.deref-2.ensures ∙ c.in_ok-next_name.ensures.name in
    subst (λ (n : Name). IsNoFolder (state_in (m c.args.disk.now) n).now) is (c.in_ok-rotate.ensures.free h)
