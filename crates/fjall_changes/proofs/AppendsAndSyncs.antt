-- What appends and syncs of one file make of a disk.
use Rattle.std.proofs.Common.{◌≡◌, ◌≢◌, inl, inr, ℕ, ◌<◌, List, [], ◌∷◌, ◌++◌, length, take, refl, sym, ◌∙◌, ap, subst, arith, append_assoc}
use Rattle.std.proofs.lemmas.List.{append-nil, take_all}
use Rattle.fjall_base.specs.Disk.{Name, DiskEntry, File, Place, DiskState, DiskStep, Append, Sync, Meaning, Took, TookPart, after, alter, appended, all_synced, change, state_in}
use Rattle.fjall_base.specs.declared.error.Error.{Error}
use Rattle.fjall_base.specs.declared.error.Error.TheVariants.{Io}
use Rattle.fjall_base.proofs.States.{alter-same, alter-other, differs}
use Rattle.fjall_base.proofs.Moments.{after-append}
use Rattle.fjall_journal.specs.declared.persist_mode.PersistMode.{PersistMode}
use Rattle.fjall_journal.specs.declared.persist_mode.PersistMode.TheVariants.{Buffer, SyncData, SyncAll}
use Rattle.fjall_journal.specs.Writer.{appending, syncing, WriteTook}

-- a file of these bytes, whose name is synced
abbrev pub place_of : List ℕ → List ℕ → Place
place_of synced unsynced = record { now = File synced unsynced; older = [] }

-- the states differ at this name alone
abbrev pub SameBut : Name → DiskState → DiskState → Type 0
SameBut name old new = (q : Name) → q ≢ name → new q ≡ old q

pub alter_but : (state : DiskState) (name : Name) (f : DiskEntry → DiskEntry) → SameBut name state (alter state name f)
alter_but state name f q other = alter-other state name f q (differs q name other)

pub appended_at : (state : DiskState) (name : Name) (synced unsynced bytes : List ℕ) → state name ≡ place_of synced unsynced → change (Append name bytes) state name ≡ place_of synced (unsynced ++ bytes)
appended_at state name synced unsynced bytes is = alter-same state name (appended bytes) ∙ ap (λ (p : Place). record { now = appended bytes p.now; older = p.older }) is

pub appending_at : (state : DiskState) (name : Name) (synced unsynced bytes : List ℕ) → state name ≡ place_of synced unsynced → after state (appending name bytes) name ≡ place_of synced (unsynced ++ bytes)
appending_at state name synced unsynced [] is = is ∙ ap (place_of synced) (sym (append-nil unsynced))
appending_at state name synced unsynced (b ∷ bytes) is = appended_at state name synced unsynced (b ∷ bytes) is

pub appending_but : (state : DiskState) (name : Name) (bytes : List ℕ) → SameBut name state (after state (appending name bytes))
appending_but state name [] q other = refl
appending_but state name (b ∷ bytes) q other = alter_but state name (appended (b ∷ bytes)) q other

pub synced_at : (state : DiskState) (name : Name) (synced unsynced : List ℕ) → state name ≡ place_of synced unsynced → change (Sync name) state name ≡ place_of (synced ++ unsynced) []
synced_at state name synced unsynced is = alter-same state name all_synced ∙ ap (λ (p : Place). record { now = all_synced p.now; older = p.older }) is

-- ---- what was taken, in whole or in part

-- the whole is a part
pub whole_part : (old new : Meaning) (name : Name) (bytes : List ℕ) → Took old new (appending name bytes) → TookPart old new name bytes
whole_part old new name [] took = inl took
whole_part old new name (b ∷ bytes) took = inr (length (b ∷ bytes), subst (λ (l : List ℕ). Took old new (Append name l ∷ [])) (sym (take_all (length (b ∷ bytes)) (b ∷ bytes) (omega arith))) took)

pub write_part : (error : Error) (old new : Meaning) (name : Name) (bytes : List ℕ) → WriteTook error old new name bytes → TookPart old new name bytes
write_part (Io kind) old new name bytes part = part
write_part error old new name bytes none = inl none

-- a part changes this name alone
pub part_but : (old new : Meaning) (name : Name) (bytes : List ℕ) → TookPart old new name bytes → SameBut name (state_in old) (state_in new)
part_but old new name bytes (inl none) q other = ap (λ (s : DiskState). s q) none.state
part_but old new name bytes (inr (n, took)) q other = ap (λ (s : DiskState). s q) took.state ∙ alter_but (state_in old) name (appended (take n bytes)) q other

-- an append, where there are bytes, and a sync
abbrev pub syncing_all : Name → List ℕ → List DiskStep
syncing_all name bytes = appending name bytes ++ Sync name ∷ []

pub all_out_but : (state : DiskState) (name : Name) (bytes : List ℕ) → SameBut name state (after state (syncing_all name bytes))
all_out_but state name bytes q other =
    ap (λ (s : DiskState). s q) (after-append state (appending name bytes) (Sync name ∷ []))
    ∙ alter_but (after state (appending name bytes)) name all_synced q other ∙ appending_but state name bytes q other

pub all_out_at : (state : DiskState) (name : Name) (synced unsynced bytes : List ℕ) → state name ≡ place_of synced unsynced → after state (syncing_all name bytes) name ≡ place_of (synced ++ (unsynced ++ bytes)) []
all_out_at state name synced unsynced bytes is =
    ap (λ (s : DiskState). s name) (after-append state (appending name bytes) (Sync name ∷ []))
    ∙ synced_at (after state (appending name bytes)) name synced (unsynced ++ bytes) (appending_at state name synced unsynced bytes is)

pub sync_but : (old new : Meaning) (name : Name) (bytes : List ℕ) → Took old new (syncing_all name bytes) → SameBut name (state_in old) (state_in new)
sync_but old new name bytes took q other = ap (λ (s : DiskState). s q) took.state ∙ all_out_but (state_in old) name bytes q other

-- an append, and a sync where the mode asks for one
pub mode_but : (old new : Meaning) (name : Name) (bytes : List ℕ) (mode : PersistMode) → Took old new (appending name bytes ++ syncing name mode) → SameBut name (state_in old) (state_in new)
mode_but old new name bytes Buffer took = part_but old new name bytes (whole_part old new name bytes (subst (Took old new) (append-nil (appending name bytes)) took))
mode_but old new name bytes SyncData took = sync_but old new name bytes took
mode_but old new name bytes SyncAll took = sync_but old new name bytes took

-- steps, and others behind them
pub took_on : (old mid new : Meaning) (first then : List DiskStep) → Took old mid first → Took mid new then → Took old new (first ++ then)
took_on old mid new first then took later = record {
  state = later.state ∙ ap (λ (s : DiskState). after s then) took.state ∙ sym (after-append (state_in old) first then);
  steps = later.steps ∙ ap (λ (l : List DiskStep). l ++ then) took.steps ∙ append_assoc old.steps first then;
}

pub appending_is : (name : Name) (bytes : List ℕ) → 0 < length bytes → Append name bytes ∷ [] ≡ appending name bytes
appending_is name [] some = absurd (omega arith)
appending_is name (b ∷ bytes) some = refl
