-- What holds bytes stays no folder while it is appended to and synced.
use Rattle.std.proofs.Common.{◌≡◌, inl, inr, ℕ, List, [], ◌∷◌, Result, Ok, Err, OnOk, OnErr, sym, subst}
use Rattle.std.specs.Str.{bytes_eq}
use Rattle.std.proofs.lemmas.Slice.Eq.{bytes_eq-Decides}
use Rattle.fjall_base.specs.declared.error.Error.{Error}
use Rattle.fjall_base.specs.Disk.{Name, DiskEntry, Missing, File, Folder, Place, DiskState, Meaning, Took, TookOrNot, TookPart, Append, Sync, IsNoFolder, all_synced, alter, appended, state_in}
use Rattle.fjall_base.proofs.Names.{bool_cases}
use Rattle.fjall_base.proofs.States.{alter-same, alter-other}

appended_kind : (bytes : List ℕ) (entry : DiskEntry) → IsNoFolder entry → IsNoFolder (appended bytes entry)
appended_kind bytes Missing is = tt
appended_kind bytes (File synced unsynced) is = tt
appended_kind bytes Folder is = absurd is

synced_kind : (entry : DiskEntry) → IsNoFolder entry → IsNoFolder (all_synced entry)
synced_kind Missing is = tt
synced_kind (File synced unsynced) is = tt
synced_kind Folder is = absurd is

altered_kind : (state : DiskState) (name q : Name) (change : DiskEntry → DiskEntry) → ((entry : DiskEntry) → IsNoFolder entry → IsNoFolder (change entry)) → IsNoFolder (state q).now → IsNoFolder (alter state name change q).now
altered_kind state name q change keeps is = elim (bool_cases (bytes_eq q name)) [
  | inl here ↦
      let same : q ≡ name = (bytes_eq-Decides q name).0 here in
      subst (λ (n : Name). IsNoFolder (alter state name change n).now) (sym same)
      (subst (λ (p : Place). IsNoFolder p.now) (sym (alter-same state name change)) (keeps (state name).now (subst (λ (n : Name). IsNoFolder (state n).now) same is)))
  | inr not ↦ subst (λ (p : Place). IsNoFolder p.now) (sym (alter-other state name change q not)) is
]

along : (old new : Meaning) (then : DiskState) (q : Name) → state_in new ≡ then → IsNoFolder (then q).now → IsNoFolder (state_in new q).now
along old new then q is kind = subst (λ (s : DiskState). IsNoFolder (s q).now) (sym is) kind

append_kind : (old new : Meaning) (name q : Name) (bytes : List ℕ) → Took old new (Append name bytes ∷ []) → IsNoFolder (state_in old q).now → IsNoFolder (state_in new q).now
append_kind old new name q bytes took is = along old new _ q took.state (altered_kind (state_in old) name q (appended bytes) (appended_kind bytes) is)

pub part_kind : (old new : Meaning) (name q : Name) (bytes : List ℕ) → TookPart old new name bytes → IsNoFolder (state_in old q).now → IsNoFolder (state_in new q).now
part_kind old new name q bytes (inl took) is = along old new (state_in old) q took.state is
part_kind old new name q bytes (inr (n, took)) is = append_kind old new name q _ took is

sync_kind : (old new : Meaning) (name q : Name) → TookOrNot old new (Sync name ∷ []) → IsNoFolder (state_in old q).now → IsNoFolder (state_in new q).now
sync_kind old new name q (inl took) is = along old new (state_in old) q took.state is
sync_kind old new name q (inr took) is = along old new _ q took.state (altered_kind (state_in old) name q all_synced synced_kind is)

pub both_kind : (old mid new : Meaning) (name q : Name) (bytes : List ℕ) (r : Result Unit Error) → Took old mid (Append name bytes ∷ []) → OnOk r (Took mid new (Sync name ∷ [])) → OnErr r (TookOrNot mid new (Sync name ∷ [])) → IsNoFolder (state_in old q).now → IsNoFolder (state_in new q).now
both_kind old mid new name q bytes (Ok done) first ok err is = sync_kind mid new name q (inr ok) (append_kind old mid name q bytes first is)
both_kind old mid new name q bytes (Err e) first ok err is = sync_kind mid new name q err (append_kind old mid name q bytes first is)
