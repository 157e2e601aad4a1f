-- What the last records tell of what was flushed, and an eviction as it leaves memory.
use Rattle.std.proofs.Common.{◌≡◌, ℕ, ◌==◌, not, Bool, true, List, Option, Some, None, Result, Ok, Err, OnErr, unwrap_or, refl, sym, ap, subst, ◌∙◌}
use Rattle.std.specs.FinMap.{get}
use Rattle.std.specs.Option.{is_some}
use Rattle.fjall_base.specs.declared.error.Error.{Error}
use Rattle.fjall_manifest.specs.Catalog.{fields, first_of}
use Rattle.fjall_meta.specs.Contents.{is_beyond}
use Rattle.fjall_replay.specs.Known.{LastFields}
use Rattle.fjall_files.specs.Evictions.{StoppedBehind}
use Rattle.fjall_files.specs.Journals.{Sealed}
use Rattle.fjall_meta.specs.Keyspaces.{Keyspaces, keyspace_at}
use Rattle.fjall_manifest.specs.Records.{Fields}
use Rattle.fjall_meta.proofs.Found.{found_passes}
use Rattle.fjall_meta.proofs.Slots.{same_id}
use Rattle.fjall_machine.specs.Remembered.{Remembered, flushed_by, flushed_of, with_sealed_in_memory}
use Rattle.fjall_machine.proofs.Facts.{some_there}

-- what a record that is kept, or none, tells
abbrev pub told_of : Option Fields → ℕ → Bool
told_of None lsn = not true
told_of (Some last) lsn = not (is_beyond last.persisted lsn)

-- of a keyspace that lives
pub told_by : (s : Keyspaces) (records : LastFields) (id lsn : ℕ) (kept : Option Fields) → is_some (keyspace_at id s.living) ≡ true → kept ≡ get records id → flushed_by s records id lsn ≡ told_of kept lsn
told_by s records id lsn kept lives is =
    let there = some_there (keyspace_at id s.living) lives in
    let k = there.0 in
    let same = same_id k.id id (found_passes (λ j. j.id == id) s.living k there.1) in
    ap (λ o. flushed_of records o lsn) there.1
    ∙ ap (λ (o : Option Fields). not (is_beyond (unwrap_or o (fields (first_of k.number))).persisted lsn)) (ap (get records) same ∙ sym is) ∙ by k.number kept
  where
    by : (number : ℕ) (o : Option Fields) → not (is_beyond (unwrap_or o (fields (first_of number))).persisted lsn) ≡ told_of o lsn
    by number None = refl
    by number (Some last) = refl

-- an eviction that stopped, as it leaves the journals
pub left_by : (r : Result Unit Error) (m now : Remembered) (left : List Sealed) → m ≡ now
    → OnErr r ((gone : List Sealed) × StoppedBehind (flushed_by m.keyspaces m.records) m.journals.sealed left gone)
    → OnErr r ((gone rest : List Sealed) × StoppedBehind (flushed_by now.keyspaces now.records) now.journals.sealed rest gone × (with_sealed_in_memory left m ≡ with_sealed_in_memory rest now))
left_by (Ok done) m now left same stopped = tt
left_by (Err error) m now left same (gone, stopped) =
    (gone, left, subst (λ (k : Remembered). StoppedBehind (flushed_by k.keyspaces k.records) k.journals.sealed left gone) same stopped, ap (with_sealed_in_memory left) same)
