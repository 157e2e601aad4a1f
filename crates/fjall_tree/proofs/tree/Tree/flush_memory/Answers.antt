use Rattle.std.proofs.Common.{◌++◌, [], ◌∷◌, List, subst, sym}
use Rattle.std.specs.Result.{IfOk}
use Rattle.std.proofs.lemmas.Result.{IfOk-weaker}
use Rattle.fjall_jobs.specs.Tasks.{IsFlushed}
use Rattle.fjall_memtable.specs.Parts.{AreApart, HeldPart}
use Rattle.fjall_tree.specs.Jobs.{flush_of}
use Rattle.fjall_tree.proofs.tree.Tree.flush_memory.Goals as goal

pub flush_memory-requires-clause-apart : goal.flush_memory-requires-clause-apart
flush_memory-requires-clause-apart c = subst (λ (x : List HeldPart × HeldPart). AreApart (x.0 ++ x.1 ∷ [])) (λ i. (sym c.sealed.ensures i, sym c.active.ensures i)) c.args.self.now.parts.apart

pub returns-clause-made : goal.returns-clause-made
returns-clause-made c keyspace =
    subst (λ (x : List HeldPart × HeldPart). IfOk c.flush_memory.result (λ made. IsFlushed (flush_of 0 keyspace c.args.watermark (x.0 ++ x.1 ∷ [])) made.0.items made.1.items)) (λ i. (c.sealed.ensures i, c.active.ensures i))
    (c.flush_memory.ensures.made 0 keyspace)

pub returns-clause-clears : goal.returns-clause-clears
returns-clause-clears c =
    IfOk-weaker c.flush_memory.result _ _ (λ made is. is.clears_are)
    (subst (λ (x : List HeldPart × HeldPart). IfOk c.flush_memory.result (λ made. IsFlushed (flush_of 0 0 c.args.watermark (x.0 ++ x.1 ∷ [])) made.0.items made.1.items)) (λ i. (c.sealed.ensures i, c.active.ensures i))
    (c.flush_memory.ensures.made 0 0))
