-- No removal of what no record names is a call that no disk can serve.
use Rattle.std.proofs.Common.{◌≡◌, ◌≢◌, ◌⊎◌, inl, inr, ⊎_elim, zero, suc, ℕ, ◌<◌, ◌^◌, List, [], ◌∷◌, ◌++◌, get_or, map, All, refl, sym, ◌∙◌, ap, subst, arith}
use Rattle.std.specs.Prelude.{string_bytes}
use Rattle.std.specs.List.{Contains}
use Rattle.std.specs.Str.{bytes_eq}
use Rattle.std.proofs.lemmas.List.Elements.{All-push}
use Rattle.std.proofs.lemmas.Slice.Eq.{bytes_eq-Decides}
use Rattle.fjall_base.specs.Disk.{Name, DiskEntry, Missing, File, Folder, Place, DiskState, Meaning, CanRemoveFolder, IsNoFile, IsNoFolder, after, folder_of, put, state_in}
use Rattle.fjall_base.proofs.States.{put-other, put-same}
use Rattle.fjall_base.proofs.Names.{bool_cases}
use Rattle.fjall_files.specs.Names.{Current, Keyspace, Table, keyspace_folder, current_name}
use Rattle.fjall_files.specs.Tidy.{IsTidy}
use Rattle.fjall_files.proofs.OfKinds.{kind_now}
use Rattle.fjall_meta.specs.declared.living.LivingKeyspace.{LivingKeyspace}
use Rattle.fjall_files.specs.declared.own.OwnFiles.{OwnFiles}
use Rattle.fjall_files.specs.Own.{AreOwnFiles, HoldsOnlyOwn, IsOwn}
use Rattle.fjall_repair.specs.Making.{KeepsAllTables}
use Rattle.fjall_repair.specs.Sweeps.{HasAll, IsOwnHome, IsUnnamedHome, IsUnnamedTable, KeyspaceLives, NamesAreGone, RemovesNames, TablesNamed, removals}
use Rattle.fjall_repair.proofs.Removals.{after_missing, stays_missing}

-- ---- what is left of a name

after_or : (state : DiskState) (names : List Name) (q : Name) → ((after state (removals names) q).now ≡ (state q).now) ⊎ ((after state (removals names) q).now ≡ Missing)
after_or state [] q = inl refl
after_or state (name ∷ names) q = elim (bool_cases (bytes_eq q name)) [
  | inl at ↦
      let same : q ≡ name = (bytes_eq-Decides q name).0 at in
      inr (after_missing (put state name Missing) names q (ap (λ (n : Name). (put state name Missing n).now) same ∙ ap (λ (p : Place). p.now) (put-same state name Missing)))
  | inr other ↦ ⊎_elim (λ is. inl (is ∙ ap (λ (p : Place). p.now) (put-other state name Missing q other))) (λ gone. inr gone) (after_or (put state name Missing) names q)
]

module _ (P : Name → Type 0) (old new : Meaning) (run : RemovesNames P old new) where
  removed_or : (q : Name) → ((state_in new q).now ≡ (state_in old q).now) ⊎ ((state_in new q).now ≡ Missing)
  removed_or q =
      let at : (state_in new q).now ≡ (after (state_in old) (removals run.names) q).now = ap (λ (s : DiskState). (s q).now) run.took.state in
      ⊎_elim (λ is. inl (at ∙ is)) (λ gone. inr (at ∙ gone)) (after_or (state_in old) run.names q)

  -- where no folder stood there is none
  pub no_folder_still : (q : Name) → IsNoFolder (state_in old q).now → IsNoFolder (state_in new q).now
  no_folder_still q kind = ⊎_elim (λ is. subst IsNoFolder (sym is) kind) (λ gone. subst IsNoFolder (sym gone) tt) (removed_or q)

  -- a home has all that is left in it
  pub has_all_still : (home : OwnFiles) → HasAll (state_in old) home → HasAll (state_in new) home
  has_all_still home all name inside there = all name inside (λ none. there (stays_missing P old new name run none))

gone_at : (state : DiskState) (names : List Name) (q : Name) → NamesAreGone state names → Contains names q → (state q).now ≡ Missing
gone_at state [] q gone (i, lt, at) = absurd (omega (arith, lt))
gone_at state (name ∷ names) q gone (zero, lt, at) = let same : name ≡ q = at in subst (λ (n : Name). (state n).now ≡ Missing) same gone.0
gone_at state (name ∷ names) q gone (suc i, lt, at) = gone_at state names q gone.1 (i, omega (arith, lt), at)

-- ---- a home where nothing stands in the way

module _ (state : DiskState) (tidy : IsTidy state) (id : ℕ) (some : 0 < id) (small : id < 2 ^ 64) (q : Name) (inside : folder_of q ≡ keyspace_folder id) where
  pub own_alone : (state q).now ≢ Missing → IsOwn id q
  own_alone there = (tidy q).0.home id some small inside there

  pub home_no_folder : IsNoFolder (state q).now
  home_no_folder = by (state q).now refl
    where
      by : (e : DiskEntry) → (state q).now ≡ e → IsNoFolder e
      by Missing is = tt
      by (File synced unsynced) is = tt
      by Folder is =
          let own = own_alone (λ none. let bad : Folder ≡ Missing = sym is ∙ none in let no : ⊥ = cc in no) in
          subst IsNoFolder is (⊎_elim (λ at. (tidy q).0.kind (Current id) small at) (λ table. (tidy q).0.kind (Table id table.0) (small, table.1.0) table.1.1) own)

-- the records of each keyspace that doesn't live, and all tables, stand as they stood
pub record StayAt (living : List LivingKeyspace) (old mid : DiskState) : Type 0 where
  pub current : (id : ℕ) → 0 < id → id < 2 ^ 64 → (KeyspaceLives living id → ⊥) → (mid (current_name id)).now ≡ (old (current_name id)).now
  pub tables : KeepsAllTables old mid

more_than_none : (id : ℕ) → id ≢ 0 → 0 < id
more_than_none id some = omega (arith, some)

module _ (living : List LivingKeyspace) (home : OwnFiles) (unnamed : IsUnnamedHome living home) where
  -- none of its files is a folder
  pub files_no_folders : (state : DiskState) → IsTidy state → All (λ file. IsNoFolder (state (string_bytes file)).now) home.files.items
  files_no_folders state tidy k d lt = home_no_folder state tidy unnamed.id (more_than_none unnamed.id unnamed.some) unnamed.fits (string_bytes (get_or home.files.items k d)) (unnamed.inside k d lt)

  -- once they are gone it can be removed
  pub home_removable : (P : Name → Type 0) (old mid : Meaning) → RemovesNames P old mid → IsTidy (state_in mid) → HasAll (state_in old) home → NamesAreGone (state_in mid) (map string_bytes home.files.items) → (name : Name) → name ≡ string_bytes home.folder
      → CanRemoveFolder (state_in mid) name
  home_removable P old mid run tidy all gone name is = record {
    kind = subst (λ (n : Name). IsNoFile (state_in mid n).now) (sym (is ∙ unnamed.folder_is)) (kind_now (state_in mid) tidy (Keyspace unnamed.id) unnamed.fits);
    empty = λ folder q inside. by q (inside ∙ is) (state_in old q).now refl;
  }
    where
      listed : (q : Name) → folder_of q ≡ string_bytes home.folder → (state_in old q).now ≢ Missing → (state_in mid q).now ≡ Missing
      listed q inside there = gone_at (state_in mid) (map string_bytes home.files.items) q gone (all q inside there)

      by : (q : Name) → folder_of q ≡ string_bytes home.folder → (e : DiskEntry) → (state_in old q).now ≡ e → (state_in mid q).now ≡ Missing
      by q inside Missing was = stays_missing P old mid q run was
      by q inside (File synced unsynced) was = listed q inside (λ none. let bad : File synced unsynced ≡ Missing = sym was ∙ none in let no : ⊥ = cc in no)
      by q inside Folder was = listed q inside (λ none. let bad : Folder ≡ Missing = sym was ∙ none in let no : ⊥ = cc in no)

  -- it has all that stands in it, where its records and tables stayed as they were
  pub has_all_on : (old mid : DiskState) → IsTidy mid → StayAt living old mid → HasAll old home → HasAll mid home
  has_all_on old mid tidy keeps all name inside there =
      let some = more_than_none unnamed.id unnamed.some in
      let stay : (mid name).now ≡ (old name).now = ⊎_elim
      (λ at. ap (λ (n : Name). (mid n).now) at ∙ keeps.current unnamed.id some unnamed.fits unnamed.dead ∙ ap (λ (n : Name). (old n).now) (sym at))
      (λ table. ap (λ (n : Name). (mid n).now) table.1.1 ∙ keeps.tables unnamed.id table.0 unnamed.fits table.1.0 ∙ ap (λ (n : Name). (old n).now) (sym table.1.1))
      (own_alone mid tidy unnamed.id some unnamed.fits name (inside ∙ unnamed.folder_is) there) in
      all name inside (λ none. there (stay ∙ none))

-- the same of all homes
pub have_all_on : (living : List LivingKeyspace) (homes : List OwnFiles) (old mid : DiskState) → IsTidy mid → StayAt living old mid
    → All (IsUnnamedHome living) homes → All (HasAll old) homes → All (HasAll mid) homes
have_all_on living homes old mid tidy keeps unnamed all k d lt = has_all_on living (get_or homes k d) (unnamed k d lt) old mid tidy keeps (all k d lt)

-- homes after removals elsewhere
pub have_all_still : (P : Name → Type 0) (old new : Meaning) (run : RemovesNames P old new) (homes : List OwnFiles) → All (HasAll (state_in old)) homes → All (HasAll (state_in new)) homes
have_all_still P old new run homes all k d lt = has_all_still P old new run (get_or homes k d) (all k d lt)

-- no table that no record names is a folder
pub table_no_folder : (state : DiskState) → IsTidy state → (names : TablesNamed) (living : List LivingKeyspace) (name : Name) → IsUnnamedTable names living name → IsNoFolder (state name).now
table_no_folder state tidy names living name is = subst (λ (n : Name). IsNoFolder (state n).now) (sym is.name_is) (kind_now state tidy (Table is.id is.table) (is.id_fits, is.table_fits))

-- ---- homes as they are found

pub has_all_of : (state now : DiskState) → now ≡ state → (id : ℕ) (home : OwnFiles) → AreOwnFiles now id home → HasAll state home
has_all_of state now same id home found = subst (λ (s : DiskState). HasAll s home) same (λ name inside there. found.whole name (inside ∙ found.folder_is) there)

pub have_all_more : (P : OwnFiles → Type 0) (homes new : List OwnFiles) (home : OwnFiles) → new ≡ homes ++ home ∷ [] → P home → All P homes → All P new
have_all_more P homes new home is one all = subst (All P) (sym is) (All-push P homes home all one)

-- a home that holds only the engine's own files
pub own_home : (state now : DiskState) → now ≡ state → (id : ℕ) (home : OwnFiles) → AreOwnFiles now id home → HoldsOnlyOwn now id → IsOwnHome state home
own_home state now same id home found holds = (id, found.folder_is, subst (λ (s : DiskState). HoldsOnlyOwn s id) same holds)
