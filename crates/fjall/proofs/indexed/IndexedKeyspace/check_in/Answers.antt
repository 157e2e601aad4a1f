use Rattle.std.proofs.Common.{◌≡◌, Bool, true≢false, false, IsTrue, sym, ◌∙◌}
use Rattle.fjall.proofs.indexed.IndexedKeyspace.check_in.Goals as goal

-- a test that failed
is_not : (b : Bool) → b ≡ false → IsTrue b → ⊥
is_not b e holds = true≢false (sym holds ∙ e)

pub returns-then-not-branch-clause-stale : goal.returns-then-not-branch-clause-stale
returns-then-not-branch-clause-stale g c = λ map found main index told is.
    is_not c.in_ok-is_index.field-0 c.if-not-branch.true ((c.in_ok-is_index.ensures.ok map found main index).1 is)

pub returns-clause-indexed : goal.returns-clause-indexed
returns-clause-indexed g c = λ map found main index. (c.in_ok-is_index.ensures.ok map found main index).0 c.if-not-branch.false
