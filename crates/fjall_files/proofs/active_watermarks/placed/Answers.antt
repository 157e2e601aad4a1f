use Rattle.std.proofs.Common.{◌≡◌, ◌++◌, ◌∷◌, [], ◌∙◌, ℕ, ap, sym, subst}
use Rattle.std.proofs.lemmas.List.{append-nil, append_assoc}
use Rattle.std.specs.Prelude.{Some}
use Rattle.std.specs.BTreeMap.{insert_entry}
use Rattle.std.specs.List.Sorted.{IsStrictlySortedBy}
use Rattle.std.specs.Map.{keys_of}
use Rattle.std.specs.Ordering.{nat_cmp}
use Rattle.fjall_files.specs.Marks.{JournalMarks}
use Rattle.fjall_files.specs.Places.{JournalPlaces, told}
use Rattle.fjall_files.proofs.Placing.{placed_last, told_places}
use Rattle.fjall_files.proofs.active_watermarks.placed.Goals as goal

pub loop-keyspace_id-preserved : goal.loop-keyspace_id-preserved
loop-keyspace_id-preserved c =
    let loop = c.loop-keyspace_id.invariant.0 in
    let mark : ℕ × ℕ = (c.in-Some.keyspace_id.now, c.in-Some.lsn.now) in
    let are : c.args.lsns.now.entries ≡ loop.0 ++ mark ∷ c.next.new.self = loop.1 ∙ ap (λ (l : JournalMarks). loop.0 ++ l) c.in-Some.ensures.steps in
    let sorted = c.into_iter-keyspace_id-iterator.ensures.into_iter_gives.5 in (
      (
        loop.0 ++ mark ∷ [],
        are ∙ sym (append_assoc loop.0 (mark ∷ []) c.next.new.self),
        c.in_ok-insert.ensures.entries ∙ ap (λ (l : JournalPlaces). insert_entry nat_cmp l mark.0 (Some mark.1)) loop.2
            ∙ placed_last loop.0 mark c.next.new.self (subst (λ (l : JournalMarks). IsStrictlySortedBy nat_cmp (keys_of l)) are sorted),
      ),
      c.in_ok-insert.ensures.ordered,
    )

pub returns-clause-ok : goal.returns-clause-ok
returns-clause-ok c =
    let loop = c.loop-keyspace_id.invariant.0 in
    ap told loop.2 ∙ told_places loop.0 ∙ sym (loop.1 ∙ ap (λ (l : JournalMarks). loop.0 ++ l) c.in-None.ensures.steps.0 ∙ append-nil loop.0)
