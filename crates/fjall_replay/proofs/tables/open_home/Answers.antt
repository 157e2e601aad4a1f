use Rattle.std.proofs.Common.{◌≡◌, ◌∙◌, ◌++◌, ℕ, List, ap, rules, subst, sym}
use Rattle.fjall_memtable.specs.Parts.{Ascends}
use Rattle.fjall_replay.specs.Opening.{MayOpen}
use Rattle.fjall_replay.proofs.Turns.{ascends}
use Rattle.fjall_replay.proofs.tables.open_home.Goals as goal

copied : (c : goal.After-past) → c.extend_from_slice.new.self.items ≡ c.args.home.record.clears.items
copied c = c.in_ok-extend_from_slice.ensures.items ∙ ap (λ (ns : List ℕ). ns ++ c.deref.result.now) c.new-clears.ensures.items ∙ c.deref.ensures.value

pub new-tree-requires-clause-ascend : goal.new-tree-requires-clause-ascend
new-tree-requires-clause-ascend c =
    let may : MayOpen c.args.id c.args.home = search rules in
    subst Ascends (sym (copied c)) (ascends c.args.home.record.clears.items may.ascending)
