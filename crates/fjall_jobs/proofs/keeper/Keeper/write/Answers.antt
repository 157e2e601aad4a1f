use Rattle.std.proofs.Common.{◌≡◌, ◌∙◌, ℕ, List, true, sym, subst}
use Rattle.fjall_table.specs.Blocks.{seen}
use Rattle.fjall_memtable.specs.Kept.{is_kept}
use Rattle.fjall_memtable.specs.Sorted.{flat}
use Rattle.fjall_jobs.specs.Keeping.{before_of}
use Rattle.fjall_jobs.proofs.Keeping.{kept_follows}
use Rattle.fjall_jobs.proofs.keeper.Keeper.write.Goals as goal

pub returns-then-keeps-clause-only : goal.returns-then-keeps-clause-only
returns-then-keeps-clause-only c rest whole entry k =
    let s = c.args.self.now in
    let v = seen c.args.version.now in
    let kept = subst (λ (key : List ℕ). is_kept s.rule.spends s.rule.watermark s.rule.bound (before_of key s.last_number) v ≡ true) c.as_slice-key.ensures.value (sym c.keeps.ensures ∙ c.if-keeps.true) in
    c.write.ensures.only entry (kept_follows s.rule (before_of s.last_key.items s.last_number) (flat k.closed) s.tables.writer rest whole v kept k.all k.ordered)
