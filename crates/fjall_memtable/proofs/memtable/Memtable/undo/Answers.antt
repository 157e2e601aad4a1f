use Rattle.std.proofs.Common.{rules, ℕ, List, sym, subst, ◌∙◌, map, nat_le, take}
use Rattle.std.proofs.lemmas.Map.Made.{filter_same_pairs}
use Rattle.fjall_memtable.specs.Places.{entry_at_place, end_of, AreAll}
use Rattle.fjall_memtable.proofs.Texts.{cut_all, cut_entries}
use Rattle.fjall_memtable.proofs.memtable.Memtable.undo.Goals as goal

pub invariant_of-self : goal.invariant_of-self
invariant_of-self c =
    let m = c.args.self.now in
    let left = filter_same_pairs _ (λ e. nat_le (end_of e.1) c.args.mark) _ (λ k v b w f' t. search rules) m.map.entries c.retain.new.self.entries c.retain.ensures.filtered in
    record { all = subst (λ (t : List ℕ). AreAll t c.retain.new.self.entries) (sym c.truncate.ensures.items) (subst (AreAll (take c.args.mark m.text.items)) (sym left) (cut_all m.text.items m.map.entries c.args.mark m.all c.requires)) }

pub returns : goal.returns
returns c =
    let m = c.args.self.now in
    let left = filter_same_pairs _ (λ e. nat_le (end_of e.1) c.args.mark) _ (λ k v b w f' t. search rules) m.map.entries c.retain.new.self.entries c.retain.ensures.filtered in
    (λ i. map (entry_at_place (c.truncate.ensures.items i)) (left i)) ∙ cut_entries m.text.items m.map.entries c.args.mark m.all.placed
