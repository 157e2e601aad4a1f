use Rattle.std.proofs.Common.{◌≡◌, ◌++◌, ◌∷◌, [], ◌∙◌, ℕ, ap, sym, subst}
use Rattle.std.proofs.lemmas.List.{append_assoc}
use Rattle.std.specs.Prelude.{Option}
use Rattle.std.specs.BTreeMap.{insert_entry}
use Rattle.std.specs.List.Sorted.{IsStrictlySortedBy}
use Rattle.std.specs.Map.{keys_of}
use Rattle.std.specs.Ordering.{nat_cmp}
use Rattle.fjall_files.specs.Marks.{JournalMarks}
use Rattle.fjall_files.specs.Places.{JournalPlaces}
use Rattle.fjall_files.proofs.Placing.{told_last, told_none}
use Rattle.fjall_files.proofs.active_watermarks.told_in.Goals as goal

pub loop-keyspace_id-preserved-in_ok-insert : goal.loop-keyspace_id-preserved-in_ok-insert
loop-keyspace_id-preserved-in_ok-insert c =
    let loop = c.loop-keyspace_id.invariant.0 in
    let place : ℕ × Option ℕ = (c.in-Some.keyspace_id.now, c.in-Some.lsn.now) in
    let are : c.args.places.now.entries ≡ loop.0 ++ place ∷ c.next.new.self = loop.1 ∙ ap (λ (l : JournalPlaces). loop.0 ++ l) c.in-Some.ensures.steps in
    let sorted = c.into_iter-keyspace_id-iterator.ensures.into_iter_gives.5 in (
      (
        loop.0 ++ place ∷ [],
        are ∙ sym (append_assoc loop.0 (place ∷ []) c.next.new.self),
        c.in_ok-insert.ensures.entries ∙ ap (λ (l : JournalMarks). insert_entry nat_cmp l place.0 c.in-Some-lsn.lsn) loop.2
            ∙ told_last loop.0 place c.next.new.self c.in-Some-lsn.lsn c.in-Some-lsn.is (subst (λ (l : JournalPlaces). IsStrictlySortedBy nat_cmp (keys_of l)) are sorted),
      ),
      c.in_ok-insert.ensures.ordered,
    )

pub loop-keyspace_id-preserved : goal.loop-keyspace_id-preserved
loop-keyspace_id-preserved c =
    let loop = c.loop-keyspace_id.invariant.0 in
    let place : ℕ × Option ℕ = (c.in-Some.keyspace_id.now, c.in-Some.lsn.now) in (
      (
        loop.0 ++ place ∷ [],
        loop.1 ∙ ap (λ (l : JournalPlaces). loop.0 ++ l) c.in-Some.ensures.steps ∙ sym (append_assoc loop.0 (place ∷ []) c.next.new.self),
        loop.2 ∙ sym (told_none loop.0 place c.in_default.is),
      ),
      c.loop-keyspace_id.invariant.1,
    )
