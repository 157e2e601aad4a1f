-- The steps of a rotation.
use Rattle.std.proofs.Common.{◌≡◌, ◌≢◌, ◌⊎◌, inl, inr, ℕ, List, [], ◌∷◌, ◌++◌, take, refl, sym, ap, ◌∙◌, subst, append_assoc}
use Rattle.std.specs.Prelude.{Result, Ok, Err, OnOk, OnErr}
use Rattle.std.specs.Str.{bytes_eq}
use Rattle.std.proofs.lemmas.List.{append-nil}
use Rattle.fjall_base.specs.declared.error.Error.{Error}
use Rattle.fjall_base.specs.Disk.{Name, DiskEntry, Missing, File, Folder, Place, DiskState, DiskStep, Sync, SyncFolder, Meaning, Took, CanCreate, IsFile, IsNoFolder, after, alter, all_synced, appended, folder_of, making, state_in}
use Rattle.fjall_base.proofs.Names.{bool_cases, same}
use Rattle.fjall_base.proofs.States.{alter-same, alter-other}
use Rattle.fjall_journal.specs.declared.persist_mode.PersistMode.TheVariants.{SyncAll}
use Rattle.fjall_journal.specs.Writer.{Journal, MakingTook, PersistTook, appending, making_file, making_synced, persist_steps, written_out}
use Rattle.fjall_journal.proofs.Writing.{took_none, took_then}
use Rattle.fjall_journal.specs.Rotations.{RotationTook, making_safe, rotating}

-- ---- one call after another

pub ok_then : (r : Result Unit Error) (old mid new : Meaning) (xs ys : List DiskStep) → Took old mid xs → OnOk r (Took mid new ys) → OnOk r (Took old new (xs ++ ys))
ok_then (Ok v) old mid new xs ys first then = took_then old mid new xs ys first then
ok_then (Err e) old mid new xs ys first then = tt

pub err_then : (r : Result Unit Error) (old mid new : Meaning) (xs : List DiskStep) → Took old mid xs → OnErr r (Took mid new []) → OnErr r (Took old new xs)
err_then (Ok v) old mid new xs first then = tt
err_then (Err e) old mid new xs first then = took_none old mid new xs first then

pub err_second : (r : Result Unit Error) (P Q : Type 0) → OnErr r Q → OnErr r (P ⊎ Q)
err_second (Ok v) P Q q = tt
err_second (Err e) P Q q = inr q

-- ---- what a persist leaves of what stands at a name

alter_keeps : (state : DiskState) (name : Name) (f : DiskEntry → DiskEntry) (q : Name) (P : DiskEntry → Type 0) → ((e : DiskEntry) → P e → P (f e)) → P (state q).now → P (alter state name f q).now
alter_keeps state name f q P keeps here = elim (bool_cases (bytes_eq q name)) [
  | inl is ↦
      let at : q ≡ name = same {q = q} {r = name} is in
      subst (λ (n : Name). P (alter state name f n).now) (sym at) (subst (λ (p : Place). P p.now) (sym (alter-same state name f)) (keeps (state name).now (subst (λ (n : Name). P (state n).now) at here)))
  | inr not ↦ subst (λ (p : Place). P p.now) (sym (alter-other state name f q not)) here
]

out_keeps : (state : DiskState) (name : Name) (bytes : List ℕ) (q : Name) (P : DiskEntry → Type 0) → ((bs : List ℕ) (e : DiskEntry) → P e → P (appended bs e)) → ((e : DiskEntry) → P e → P (all_synced e))
    → P (state q).now → P (after state (appending name bytes ++ Sync name ∷ []) q).now
out_keeps state name [] q P appends syncs here = alter_keeps state name all_synced q P syncs here
out_keeps state name (b ∷ bytes) q P appends syncs here =
    alter_keeps (alter state name (appended (b ∷ bytes))) name all_synced q P syncs (alter_keeps state name (appended (b ∷ bytes)) q P (appends (b ∷ bytes)) here)

appended_making : (q : Name) (bs : List ℕ) (e : DiskEntry) → making q (File [] []) (appended bs e) ≡ making q (File [] []) e
appended_making q bs Missing = refl
appended_making q bs (File synced unsynced) = refl
appended_making q bs Folder = refl

synced_making : (q : Name) (e : DiskEntry) → making q (File [] []) (all_synced e) ≡ making q (File [] []) e
synced_making q Missing = refl
synced_making q (File synced unsynced) = refl
synced_making q Folder = refl

same_making : (old mid : Meaning) (j : Journal) (q : Name) → Took old mid (persist_steps j SyncAll) → making_file mid q ≡ making_file old q
same_making old mid j q took =
    subst (λ (s : DiskState). making q (File [] []) (s q).now ≡ making_file old q) (sym took.state)
    (out_keeps (state_in old) j.name j.buffer q (λ e. making q (File [] []) e ≡ making_file old q) (λ bs e is. appended_making q bs e ∙ is) (λ e is. synced_making q e ∙ is) refl)

appended_kind : (bs : List ℕ) (e : DiskEntry) → IsNoFolder e → IsNoFolder (appended bs e)
appended_kind bs Missing none = tt
appended_kind bs (File synced unsynced) none = tt
appended_kind bs Folder none = none

synced_kind : (e : DiskEntry) → IsNoFolder e → IsNoFolder (all_synced e)
synced_kind Missing none = tt
synced_kind (File synced unsynced) none = tt
synced_kind Folder none = none

pub can_make : (old mid : Meaning) (j : Journal) (q : Name) → Took old mid (persist_steps j SyncAll) → folder_of q ≡ [] → q ≢ [] → IsNoFolder (state_in old q).now → CanCreate (state_in mid) q
can_make old mid j q took root some none = record {
  named = some;
  housed = inl root;
  kind = subst (λ (s : DiskState). IsNoFolder (s q).now) (sym took.state) (out_keeps (state_in old) j.name j.buffer q (λ e. IsNoFolder e) appended_kind synced_kind none);
}

-- ---- no folder stood there

on_ok : {P Q : Type 0} (r : Result Unit Error) → OnOk r P → (P → Q) → OnOk r Q
on_ok (Ok v) p from = from p
on_ok (Err e) p from = tt

ok_of : {Q : Type 0} (r : Result Unit Error) → Q → OnOk r Q
ok_of (Ok v) q = q
ok_of (Err e) q = tt

kind_or : (entry : DiskEntry) → IsNoFolder entry ⊎ (entry ≡ Folder)
kind_or Missing = inl tt
kind_or (File synced unsynced) = inl tt
kind_or Folder = inr refl

made_at : (old mid : Meaning) (q : Name) (entry : DiskEntry) → (state_in old q).now ≡ entry → Took old mid (making q (File [] []) entry) → IsFile (state_in mid q).now → IsNoFolder entry
made_at old mid q Missing is took file = tt
made_at old mid q (File synced unsynced) is took file = tt
made_at old mid q Folder is took file = subst IsFile (ap (λ (s : DiskState). (s q).now) took.state ∙ is) file

-- where a file could be made
pub free_made : (r : Result Unit Error) (old mid : Meaning) (q : Name) → Took old mid (making_file old q) → IsFile (state_in mid q).now → OnOk r (IsNoFolder (state_in old q).now)
free_made r old mid q took file = ok_of r (made_at old mid q (state_in old q).now refl took file)

-- before a persist none did where none does behind it
pub free_before : (r : Result Unit Error) (old mid : Meaning) (j : Journal) (q : Name) → Took old mid (persist_steps j SyncAll) → OnOk r (IsNoFolder (state_in mid q).now) → OnOk r (IsNoFolder (state_in old q).now)
free_before r old mid j q took none = on_ok r none (λ free. elim (kind_or (state_in old q).now) [
  | inl is ↦ is
  | inr folder ↦
      let still = out_keeps (state_in old) j.name j.buffer q (λ e. e ≡ Folder) (λ bs e is. ap (appended bs) is) (λ e is. ap all_synced is) folder in
      absurd (subst IsNoFolder (ap (λ (s : DiskState). (s q).now) took.state ∙ still) free)
])

-- ---- steps behind the persist

behind : (old mid new : Meaning) (j : Journal) (more : List DiskStep) → Took old mid (persist_steps j SyncAll) → Took mid new more → Took old new (appending j.name j.buffer ++ Sync j.name ∷ more)
behind old mid new j more first then =
    subst (λ (l : List DiskStep). Took old new l) (append_assoc (appending j.name j.buffer) (Sync j.name ∷ []) more) (took_then old mid new (persist_steps j SyncAll) more first then)

pub rotated : (r : Result Unit Error) (old mid new : Meaning) (j : Journal) (next : Name) → Took old mid (persist_steps j SyncAll) → OnOk r (Took mid new (making_safe mid next)) → OnOk r (Took old new (rotating old j next))
rotated (Ok v) old mid new j next first then =
    behind old mid new j (making_safe old next) first (subst (λ (l : List DiskStep). Took mid new ((l ++ Sync next ∷ []) ++ SyncFolder [] ∷ [])) (same_making old mid j next first) then)
rotated (Err e) old mid new j next first then = tt

-- some beginning
beginning : (Q : List DiskStep → Type 0) (step : DiskStep) (next : Name) (e : DiskEntry) → Q (step ∷ []) ⊎ (Q (step ∷ making next (File [] []) e) ⊎ Q (step ∷ (making next (File [] []) e ++ Sync next ∷ [])))
    → (n : ℕ) × Q (take n (step ∷ (making next (File [] []) e ++ Sync next ∷ [])))
beginning Q step next Missing (inl q) = (1, q)
beginning Q step next Missing (inr (inl q)) = (2, q)
beginning Q step next Missing (inr (inr q)) = (3, q)
beginning Q step next (File synced unsynced) (inl q) = (1, q)
beginning Q step next (File synced unsynced) (inr (inl q)) = (1, q)
beginning Q step next (File synced unsynced) (inr (inr q)) = (2, q)
beginning Q step next Folder (inl q) = (1, q)
beginning Q step next Folder (inr (inl q)) = (1, q)
beginning Q step next Folder (inr (inr q)) = (2, q)

made_some : (old mid new : Meaning) (j : Journal) (next : Name) → Took old mid (persist_steps j SyncAll) → Took mid new [] ⊎ (Took mid new (making_file old next) ⊎ Took mid new (making_synced old next))
    → (n : ℕ) × Took old new (appending j.name j.buffer ++ take n (Sync j.name ∷ making_synced old next))
made_some old mid new j next first some =
    let Q : List DiskStep → Type 0 = λ l. Took old new (appending j.name j.buffer ++ l) in
    beginning Q (Sync j.name) next (state_in old next).now (elim some [
      | inl none ↦ inl (behind old mid new j [] first none)
      | inr more ↦ inr (elim more [
        | inl made ↦ inl (behind old mid new j (making_file old next) first made)
        | inr synced ↦ inr (behind old mid new j (making_synced old next) first synced)
      ])
    ])

pub made_in_part : (r : Result Unit Error) (old mid new : Meaning) (j now : Journal) (next : Name) → now ≡ written_out j → Took old mid (persist_steps j SyncAll) → OnErr r (MakingTook mid new next) → OnErr r (RotationTook old new j now next)
made_in_part (Ok v) old mid new j now next out first some = tt
made_in_part (Err e) old mid new j now next out first some =
    let along : Took mid new [] ⊎ (Took mid new (making_file old next) ⊎ Took mid new (making_synced old next)) =
    subst (λ (l : List DiskStep). Took mid new [] ⊎ (Took mid new l ⊎ Took mid new (l ++ Sync next ∷ []))) (same_making old mid j next first) some in
    inr (out, made_some old mid new j next first along)

persisted_some : (old new : Meaning) (j now : Journal) (next : Name) → PersistTook j now SyncAll old new → RotationTook old new j now next
persisted_some old new j now next (inl begun) = inl begun
persisted_some old new j now next (inr (out, mode, inl took)) = inr (out, (0, subst (λ (l : List DiskStep). Took old new l) (sym (append-nil (appending j.name j.buffer))) took))
persisted_some old new j now next (inr (out, mode, inr took)) = inr (out, (1, took))

pub persisted_in_part : (r : Result Unit Error) (old new : Meaning) (j now : Journal) (next : Name) → PersistTook j now SyncAll old new → OnErr r (RotationTook old new j now next)
persisted_in_part (Ok v) old new j now next some = tt
persisted_in_part (Err e) old new j now next some = persisted_some old new j now next some
