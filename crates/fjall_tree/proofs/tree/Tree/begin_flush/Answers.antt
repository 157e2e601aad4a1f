use Rattle.std.proofs.Common.{[], ◌∷◌, arith, subst, sym, ◌∙◌}
use Rattle.std.proofs.lemmas.List.{take_all}
use Rattle.fjall_memtable.specs.Parts.{AreApart}
use Rattle.fjall_memtable.specs.Held.{held_of}
use Rattle.fjall_memtable.specs.Shares.{shared}
use Rattle.fjall_memtable.proofs.Apart.{apart_front}
use Rattle.fjall_tree.proofs.tree.Tree.begin_flush.Goals as goal

pub new-job-requires-clause-apart : goal.new-job-requires-clause-apart
new-job-requires-clause-apart c =
    let m = c.args.self.now in
    let sealed = shared m.parts.sealed.items in
    let all = c.in_ok-share.ensures ∙ take_all c.sealed_count-count.result sealed (omega (arith, c.sealed_count-count.ensures)) in
    subst AreApart (sym all) (apart_front sealed (held_of m.parts.active ∷ []) m.parts.apart)
