-- What a writer's calls took of the disk, put together.
use Rattle.std.proofs.Common.{◌≡◌, ◌≢◌, inl, inr, ℕ, ◌+◌, ◌^◌, ◌<◌, false, List, [], ◌∷◌, ◌++◌, length, take, drop, Result, OnErr, refl, sym, ap, subst, ◌∙◌, append_assoc, arith}
use Rattle.std.proofs.lemmas.List.{append-nil}
use Rattle.std.proofs.Math.ListN.{take-append-drop}
use Rattle.std.proofs.Math.Seq.{take-append_seam}
use Rattle.fjall_base.specs.Disk.{Name, DiskState, Meaning, DiskStep, Sync, IsFile, after, state_in, Took, TookOrNot, TookPart}
use Rattle.fjall_base.proofs.Moments.{after-append}
use Rattle.fjall_base.proofs.Results.{on_err}
use Rattle.fjall_base.proofs.Served.{file_as_was, file_stays}
use Rattle.fjall_journal.specs.Writer.{Journal, counted, written_out, appending, syncing, persist_steps, PersistTook, making_file, MakingTook}
use Rattle.fjall_journal.specs.declared.persist_mode.PersistMode.{PersistMode}
use Rattle.fjall_journal.specs.declared.persist_mode.PersistMode.TheVariants.{Buffer, SyncData, SyncAll}
use Rattle.fjall_journal.specs.contracts.persist_mode.PersistMode.{the_type}
use denote.Enum.Bare.{sameb}

-- one list of steps after another
pub took_then : (a b c : Meaning) (xs ys : List DiskStep) → Took a b xs → Took b c ys → Took a c (xs ++ ys)
took_then a b c xs ys p q = record {
  state = q.state ∙ ap (λ (s : DiskState). after s ys) p.state ∙ sym (after-append (state_in a) xs ys);
  steps = q.steps ∙ ap (λ (s : List DiskStep). s ++ ys) p.steps ∙ append_assoc a.steps xs ys;
}

-- nothing after a list of steps
pub took_none : (a b c : Meaning) (xs : List DiskStep) → Took a b xs → Took b c [] → Took a c xs
took_none a b c xs p q = record { state = q.state ∙ p.state; steps = q.steps ∙ append-nil b.steps ∙ p.steps }

-- an empty buffer is written out already
pub nothing_out : (j : Journal) → j.buffer ≡ [] → j.len < 2 ^ 64 → j ≡ written_out j
nothing_out j nothing small =
    let same : j.len ≡ counted (j.len + length j.buffer) = let l = ap length nothing in omega arith in
    let named : Journal = record { name = j.name; buffer = j.buffer; len = counted (j.len + length j.buffer) } in
    let first : j ≡ named = ap (λ (n : ℕ). record j { len = n }) same in
    first ∙ ap (λ (b : List ℕ). record j { buffer = b; len = counted (j.len + length j.buffer) }) nothing

-- an append that failed
pub part_left : {T E : Type 0} (r : Result T E) (old new : Meaning) (j : Journal) (name bytes : List ℕ) → name ≡ j.name → bytes ≡ j.buffer → TookPart old new name bytes → OnErr r (TookPart old new j.name j.buffer)
part_left r old new j name bytes n b took = on_err r (TookPart old new j.name j.buffer) (rw (← n, ← b) took)

-- the sync behind the making of a file failed
pub making_left : (old made new : Meaning) (name : Name) → Took old made (making_file old name) → TookOrNot made new (Sync name ∷ []) → MakingTook old new name
making_left old made new name p (inl q) = inr (inl (took_none old made new (making_file old name) p q))
making_left old made new name p (inr q) = inr (inr (took_then old made new (making_file old name) (Sync name ∷ []) p q))

-- a mode that is not Buffer asks for a sync
syncs : (name : Name) (mode : PersistMode) → mode ≢ Buffer → syncing name mode ≡ Sync name ∷ []
syncs name Buffer other = absurd (other refl)
syncs name SyncData other = refl
syncs name SyncAll other = refl

-- a sync behind the append
pub persist_done : (j : Journal) (mode : PersistMode) (old mid new : Meaning) (name : Name) → mode ≢ Buffer → name ≡ j.name → Took old mid (appending j.name j.buffer) → Took mid new (Sync name ∷ []) → Took old new (persist_steps j mode)
persist_done j mode old mid new name other n p q =
    subst (λ (steps : List DiskStep). Took old new (appending j.name j.buffer ++ steps)) (ap (λ (v : Name). Sync v ∷ []) n ∙ sym (syncs j.name mode other))
    (took_then old mid new (appending j.name j.buffer) (Sync name ∷ []) p q)

-- a sync behind the append failed
pub persist_left : (j now : Journal) (mode : PersistMode) (old mid new : Meaning) (name : Name) → now ≡ written_out j → mode ≢ Buffer → name ≡ j.name → Took old mid (appending j.name j.buffer) → TookOrNot mid new (Sync name ∷ []) → PersistTook j now mode old new
persist_left j now mode old mid new name out other n p (inl q) = inr (out, other, inl (took_none old mid new (appending j.name j.buffer) p q))
persist_left j now mode old mid new name out other n p (inr q) = inr (out, other, inr (persist_done j mode old mid new name other n p q))

pub not_buffer : (mode : PersistMode) → sameb the_type mode Buffer ≡ false → mode ≢ Buffer
not_buffer mode told same = let bad = sym told ∙ ap (λ (m : PersistMode). sameb the_type m Buffer) same in absurd cc

-- the file is still there once the buffer is written out
pub out_stays : (old mid : Meaning) (name bytes : List ℕ) → Took old mid (appending name bytes) → IsFile (state_in old name).now → IsFile (state_in mid name).now
out_stays old mid name [] took is = file_as_was old mid name took is
out_stays old mid name (b ∷ bytes) took is = file_stays old mid name (b ∷ bytes) took is

-- what stands in front stays there
pub kept_on : (old text mid new : List ℕ) → mid ≡ old ++ text → take (length mid) new ≡ mid → take (length old) new ≡ old
kept_on old text mid new is kept =
    let behind = drop (length mid) new in
    ap (take (length old)) (sym (take-append-drop (length mid) new) ∙ ap (λ (l : List ℕ). l ++ behind) (kept ∙ is) ∙ append_assoc old text behind) ∙ take-append_seam old (text ++ behind)
