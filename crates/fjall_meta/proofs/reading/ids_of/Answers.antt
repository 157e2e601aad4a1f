use Rattle.std.proofs.Common.{◌≡◌, ℕ, eqb, List, filter_map}
use Rattle.std.specs.List.{dedup}
use Rattle.std.proofs.lemmas.List.Filters.{dedup_is}
use Rattle.std.proofs.lemmas.List.Kept.{Contains-dedup_nat, Contains-from_dedup}
use Rattle.std.proofs.lemmas.List.Sorted.{Contains-permutation, IsPermutation-sym}
use Rattle.std.proofs.lemmas.Map.Keys.{IsStrictlyIncreasing-dedup}
use Rattle.fjall_meta.specs.declared.entry.MetaEntry.{MetaEntry}
use Rattle.fjall_meta.specs.Reading.{key_id}
use Rattle.fjall_meta.proofs.reading.ids_of.Goals as goal

pub returns-clause-ok : goal.returns-clause-ok
returns-clause-ok c =
    let source : List ℕ = filter_map (λ (e : MetaEntry). key_id e.key) c.args.entries.now in
    let read : c.in_ok-ids.ids.items ≡ source = c.in_ok-ids.ensures.ok in
    let sorted : List ℕ = c.sort.new.self.items in
    let kept : c.dedup.new.self.items ≡ dedup eqb sorted = dedup_is eqb sorted c.dedup.new.self.items c.dedup.ensures.filtered in
    let moved = c.in_ok-sort.ensures.permutation in
    rw (kept) (record {
      ascending = IsStrictlyIncreasing-dedup sorted c.in_ok-sort.ensures.sorted;
      each = λ id. (
        (λ h. rw (← read) (Contains-permutation sorted c.in_ok-ids.ids.items id (IsPermutation-sym c.in_ok-ids.ids.items sorted moved) (Contains-from_dedup eqb sorted id h))),
        (λ h. Contains-dedup_nat sorted id (Contains-permutation c.in_ok-ids.ids.items sorted id moved (rw (← read) at h))),
      );
    })
