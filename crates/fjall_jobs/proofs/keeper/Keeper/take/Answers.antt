use Rattle.std.proofs.Common.{◌≡◌, ◌∙◌, ◌++◌, ℕ, List, Some, Err, ap, sym, rules}
use Rattle.fjall_table.specs.Blocks.{Entry, seen}
use Rattle.fjall_memtable.specs.Sorted.{flat}
use Rattle.fjall_jobs.specs.Keeping.{before_of, kept_by}
use Rattle.fjall_jobs.proofs.Keeping.{by_stamp}
use Rattle.fjall_jobs.proofs.keeper.Keeper.take.Goals as goal

pub returns-in_err-write-clause-only : goal.returns-in_err-write-clause-only
returns-in_err-write-clause-only c rest whole entry k =
    let is : c.from_residual.result ≡ Err c.in_err-write.field-0.0 = search rules in
    rw is (c.in_err-write.ensures.only rest whole entry k)

pub returns-clause-ok : goal.returns-clause-ok
returns-clause-ok c rest whole k =
    let v : Entry = seen c.args.version.now in
    let h = c.in_ok-write.ensures.ok rest whole k in
    let key_is = c.in_ok-extend_from_slice.ensures.items ∙ ap (λ (l : List ℕ). l ++ v.key) c.clear.ensures.items in
    record {
      closed = h.closed;
      sequence = h.sequence;
      all = ap (λ (l : List Entry). (flat h.closed ++ c.write.new.self.tables.writer) ++ l) (ap (λ (key : List ℕ). kept_by c.write.new.self.rule (before_of key (Some v.number)) rest) key_is ∙ sym (by_stamp c.write.new.self.rule v rest)) ∙ h.all;
      ordered = h.ordered;
    }
