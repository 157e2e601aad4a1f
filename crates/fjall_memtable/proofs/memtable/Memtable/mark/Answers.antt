use Rattle.std.proofs.Common.{ℕ, ap, sym, ◌∙◌, map, length, subst}
use Rattle.fjall_memtable.specs.Places.{entry_at_place, up_to, IsMarkOf}
use Rattle.fjall_memtable.proofs.Texts.{end_mark, all_end}
use Rattle.fjall_memtable.proofs.memtable.Memtable.mark.Goals as goal

pub returns-clause-mark : goal.returns-clause-mark
returns-clause-mark c = let m = c.args.self.now in subst (IsMarkOf m.text.items m.map.entries) (sym (ap length c.as_slice.ensures.value)) (end_mark m.text.items m.map.entries m.all)

pub returns-clause-entries : goal.returns-clause-entries
returns-clause-entries c = let m = c.args.self.now in ap (λ (n : ℕ). map (entry_at_place m.text.items) (up_to n m.map.entries)) (ap length c.as_slice.ensures.value) ∙ ap (map (entry_at_place m.text.items)) (all_end m.text.items m.map.entries m.all.placed)
