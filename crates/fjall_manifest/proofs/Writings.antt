-- New tables in a home's folder, while they are written and then.
use Rattle.std.proofs.Common.{◌≡◌, ⊎_elim, inl, inr, ℕ, zero, suc, ◌+◌, ◌-◌, ◌<◌, ◌≤◌, ◌^◌, List, [], ◌∷◌, get_or, length, Result, Ok, Err, OnOk, refl, sym, ◌∙◌, ap, subst, arith, string_bytes}
use Rattle.std.specs.List.{AllByRecursion}
use Rattle.std.proofs.lemmas.Bool.{cases_lt}
use Rattle.fjall_base.specs.declared.error.Error.{Error}
use Rattle.fjall_base.specs.Disk.{Name, DiskEntry, Missing, File, Place, DiskState, SyncFolder, Meaning, Took, CanCreate, IsNoFolder, IsThere, standing, state_in, folder_of}
use Rattle.fjall_files.specs.Names.{keyspace_folder, table_name}
use Rattle.fjall_files.specs.Regions.{IsSafe, Within}
use Rattle.fjall_files.proofs.Changes.{settle-now, within_state}
use Rattle.fjall_files.proofs.Fitting.{folder_of-table}
use Rattle.fjall_files.proofs.Made.{safe_file}
use Rattle.fjall_table.specs.declared.table_info.TableInfo.{TableInfo}
use Rattle.fjall_manifest.specs.Records.{Fields}
use Rattle.fjall_manifest.specs.declared.writing.TableFile.{TableFile}
use Rattle.fjall_manifest.specs.Homes.{AreSafe, Home, IsFree, IsReady, Rests}
use Rattle.fjall_manifest.specs.Changes.{AreKeptOrNew, AreNewTables, IsHomeWritten, IsNext, IsOneOf}
use Rattle.fjall_manifest.proofs.Naming.{named, other_table}
use Rattle.fjall_manifest.proofs.Resting.{IsGiven, all_given, each_more, last_record}
use Rattle.fjall_manifest.proofs.Runs.{IsOther, Still, start, synced, then_beside}

-- ---- what is to be written, by its place

pub record NewAt (id n : ℕ) (file : TableFile) (bytes : List ℕ) : Type 0 where
  pub name : string_bytes file.name ≡ table_name id n
  pub below : n < 2 ^ 64 - 1
  pub bytes_are : file.bytes.items ≡ bytes

at_place : (id next : ℕ) (infos : List TableInfo) (files : List TableFile) (texts : List (List ℕ)) (i : ℕ) (d : TableFile) → AreNewTables id next infos files texts → i < length files → NewAt id (next + i) (get_or files i d) (get_or texts i [])
at_place id next [] [] [] i d new lt = absurd (omega (arith, lt))
at_place id next [] [] (bytes ∷ texts) i d new lt = absurd new
at_place id next [] (file ∷ files) texts i d new lt = absurd new
at_place id next (t ∷ infos) [] texts i d new lt = absurd new
at_place id next (t ∷ infos) (file ∷ files) [] i d new lt = absurd new
at_place id next (t ∷ infos) (file ∷ files) (bytes ∷ texts) zero d new lt =
    let here : next + 0 ≡ next = omega arith in
    subst (λ (n : ℕ). NewAt id n file bytes) (sym here) (record { name = new.0.name; below = new.0.below; bytes_are = new.0.bytes_are })
at_place id next (t ∷ infos) (file ∷ files) (bytes ∷ texts) (suc i) d new lt =
    let later : next + 1 + i ≡ next + suc i = omega arith in
    subst (λ (n : ℕ). NewAt id n (get_or files i d) (get_or texts i [])) later (at_place id (next + 1) infos files texts i d new.1 (omega (arith, lt)))

pub new_at : (id next : ℕ) (infos : List TableInfo) (files : List TableFile) (texts : List (List ℕ)) (i : ℕ) (file : TableFile) → AreNewTables id next infos files texts → i < length files → file ≡ get_or files i file → NewAt id (next + i) file (get_or texts i [])
new_at id next infos files texts i file new lt is = subst (λ (f : TableFile). NewAt id (next + i) f (get_or texts i [])) (sym is) (at_place id next infos files texts i file new lt)

pub counts : (id next : ℕ) (infos : List TableInfo) (files : List TableFile) (texts : List (List ℕ)) → AreNewTables id next infos files texts → length infos ≡ length files
counts id next [] [] texts new = refl
counts id next [] (file ∷ files) texts new = absurd new
counts id next (t ∷ infos) [] texts new = absurd new
counts id next (t ∷ infos) (file ∷ files) [] new = absurd new
counts id next (t ∷ infos) (file ∷ files) (bytes ∷ texts) new = let rest = counts id (next + 1) infos files texts new.1 in omega (arith, rest)

-- tables that are safe under these ids are those of the infos
pub new_safe : (state : DiskState) (id next : ℕ) (infos : List TableInfo) (files : List TableFile) (texts : List (List ℕ)) → AreNewTables id next infos files texts
    → ((k : ℕ) → k < length files → next + k < 2 ^ 64 → IsSafe state (table_name id (next + k)) (get_or texts k [])) → AreSafe state id infos texts
new_safe state id next [] [] [] new safe = tt
new_safe state id next [] [] (bytes ∷ texts) new safe = absurd new
new_safe state id next [] (file ∷ files) texts new safe = absurd new
new_safe state id next (t ∷ infos) [] texts new safe = absurd new
new_safe state id next (t ∷ infos) (file ∷ files) [] new safe = absurd new
new_safe state id next (t ∷ infos) (file ∷ files) (bytes ∷ texts) new safe =
    let first : next + 0 ≡ t.id = (let at = new.0.id_is in omega (arith, at)) in (
      subst (λ (n : ℕ). IsSafe state (table_name id n) bytes) first (safe 0 (omega arith) (let low = new.0.below in omega (arith, low))),
      new_safe state id (next + 1) infos files texts new.1 (λ k lt fits.
          let later : next + suc k ≡ next + 1 + k = omega arith in
          subst (λ (n : ℕ). IsSafe state (table_name id n) (get_or texts k [])) later (safe (suc k) (omega (arith, lt)) (omega (arith, fits)))),
    )

-- ---- the home that is to be

one_safe : (state : DiskState) (id : ℕ) (tables : List TableInfo) (texts : List (List ℕ)) (n : ℕ) (bytes : List ℕ) → AreSafe state id tables texts → IsOneOf tables texts n bytes → IsSafe state (table_name id n) bytes
one_safe state id [] texts n bytes safe one = absurd one
one_safe state id (t ∷ tables) [] n bytes safe one = absurd one
one_safe state id (t ∷ tables) (text ∷ texts) n bytes safe one =
    ⊎_elim (λ is. subst (λ (m : ℕ). IsSafe state (table_name id m) bytes) is.0 (subst (λ (l : List ℕ). IsSafe state (table_name id t.id) l) is.1 safe.0)) (λ later. one_safe state id tables texts n bytes safe.1 later) one

module _ (state : DiskState) (id : ℕ) (h : Home) (infos : List TableInfo) (texts : List (List ℕ)) (old_safe : AreSafe state id h.last.tables h.texts) (safe : AreSafe state id infos texts) where
  pub all_safe : (tables : List TableInfo) (others : List (List ℕ)) → AreKeptOrNew h infos texts tables others → AreSafe state id tables others
  all_safe [] [] each = tt
  all_safe [] (bytes ∷ others) each = absurd each
  all_safe (t ∷ tables) [] each = absurd each
  all_safe (t ∷ tables) (bytes ∷ others) each =
      (⊎_elim (one_safe state id h.last.tables h.texts t.id bytes old_safe) (one_safe state id infos texts t.id bytes safe) each.0, all_safe tables others each.1)

pub is_written : (state : DiskState) (id : ℕ) (records : List Fields) (h next : Home) (infos : List TableInfo) (texts : List (List ℕ)) → Rests state id records h → AreSafe state id infos texts
    → IsFree state id (h.last.next_table_id + length infos) → IsNext h infos texts next → IsHomeWritten state id records h next
is_written state id records h next infos texts rests safe free is = record {
  rests = rests;
  tables = all_safe state id h infos texts rests.tables safe next.last.tables next.texts is.tables;
  free = λ table above below. let from = is.given in free table (omega (arith, from, above)) below;
}

-- where nothing is new
no_new : (state : DiskState) (id next : ℕ) (infos : List TableInfo) (files : List TableFile) (texts : List (List ℕ)) → length files ≡ 0 → AreNewTables id next infos files texts → AreSafe state id infos texts
no_new state id next infos files texts none new = new_safe state id next infos files texts new (λ k lt fits. absurd (omega (arith, lt, none)))

pub nothing_written : (state : DiskState) (id : ℕ) (records : List Fields) (h next : Home) (infos : List TableInfo) (files : List TableFile) (texts : List (List ℕ)) → length files ≡ 0 → IsReady state id records h
    → AreNewTables id h.last.next_table_id infos files texts → IsNext h infos texts next → IsHomeWritten state id records h next
nothing_written state id records h next infos files texts none ready new is =
    let count = counts id h.last.next_table_id infos files texts new in
    is_written state id records h next infos texts ready.rests (no_new state id h.last.next_table_id infos files texts none new) (λ table above below. ready.free table (omega (arith, above)) below) is

-- ---- while they are written

-- so many of them stand, none of a later id does, and the home is as it was
pub record Writing (old now : Meaning) (id : ℕ) (records : List Fields) (h : Home) (texts : List (List ℕ)) (count : ℕ) : Type 0 where
  pub still : Still old now id records h
  pub made : (k : ℕ) → k < count → (state_in now (table_name id (h.last.next_table_id + k))).now ≡ File (get_or texts k []) []
  pub free : IsFree (state_in now) id (h.last.next_table_id + count)
  pub served : now.misuses ≡ old.misuses

-- a new id is none of the home's tables'
pub others : (state : DiskState) (id : ℕ) (records : List Fields) (h : Home) (n : ℕ) → h.last.next_table_id ≤ n → Rests state id records h → AllByRecursion (IsOther n) h.last.tables
others state id records h n above rests =
    each_more (IsGiven h.last.next_table_id) (IsOther n) (λ t given. let less = given.1 in (given.0, λ e. omega (arith, e, above, less))) h.last.tables (all_given h.last (last_record state id records h rests))

module _ (id : ℕ) (small : id < 2 ^ 64) (records : List Fields) (h : Home) (texts : List (List ℕ)) where
  abbrev next : ℕ
  next = h.last.next_table_id

  pub begun : (old : Meaning) → IsReady (state_in old) id records h → Writing old old id records h texts 0
  begun old ready = record {
    still = start id small records h old ready.rests;
    made = λ k lt. absurd (omega (arith, lt));
    free = λ table above below. ready.free table (omega (arith, above)) below;
    served = refl;
  }

  module _ (old mid : Meaning) (i : ℕ) (file : TableFile) (name : Name) (so_far : Writing old mid id records h texts i) (new : NewAt id (next + i) file (get_or texts i [])) (is : name ≡ string_bytes file.name) where
    n_fits : next + i < 2 ^ 64
    n_fits = let low = new.below in omega (arith, low)

    at : name ≡ table_name id (next + i)
    at = is ∙ new.name

    pub missing : (state_in mid name).now ≡ Missing
    missing = ap (λ (q : Name). (state_in mid q).now) at ∙ so_far.free (next + i) (omega arith) n_fits

    pub can_make : CanCreate (state_in mid) name
    can_make = record {
      named = λ e. named id (next + i) n_fits (sym at ∙ e);
      housed = subst (λ (f : Name). IsThere (standing (state_in mid)) f) (sym (ap (λ (q : Name). folder_of q) at ∙ folder_of-table id (next + i) n_fits)) (inr (ap (λ (p : Place). p.now) so_far.still.rests.folder));
      kind = subst (λ (e : DiskEntry). IsNoFolder e) (sym missing) tt;
    }

    -- also where the call fails
    pub still_on : (now : Meaning) → Within name mid now → Still old now id records h
    still_on now run =
        then_beside id small records h (next + i) old mid now n_fits (others (state_in mid) id records h (next + i) (omega arith) so_far.still.rests) so_far.still (subst (λ (q : Name). Within q mid now) at run)

    elsewhere : (now : Meaning) → Within name mid now → (m : ℕ) → m < 2 ^ 64 → (m ≡ next + i → ⊥) → (state_in now (table_name id m)).now ≡ (state_in mid (table_name id m)).now
    elsewhere now run m fits other =
        ap (λ (p : Place). p.now) (within_state (table_name id (next + i)) (named id (next + i) n_fits) mid now (subst (λ (q : Name). Within q mid now) at run) (table_name id m) (other_table id (next + i) m n_fits fits other))

    pub one_more : (now : Meaning) → Within name mid now → (state_in now name).now ≡ File file.bytes.items [] → now.misuses ≡ mid.misuses → Writing old now id records h texts (i + 1)
    one_more now run full served = record {
      still = still_on now run;
      made = λ k lt. elim (cases_lt k i) [
        | inl before ↦ elsewhere now run (next + k) (let fits = n_fits in omega (arith, before, fits)) (λ e. omega (arith, e, before)) ∙ so_far.made k before
        | inr from ↦
            let same : k ≡ i = omega (arith, lt, from) in
            subst (λ (j : ℕ). (state_in now (table_name id (next + j))).now ≡ File (get_or texts j []) []) (sym same)
            (ap (λ (q : Name). (state_in now q).now) (sym at) ∙ full ∙ ap (λ (l : List ℕ). File l []) new.bytes_are)
      ];
      free = λ table above below. elsewhere now run table below (λ e. omega (arith, e, above)) ∙ so_far.free table (omega (arith, above)) below;
      served = served ∙ so_far.served;
    }

  -- ---- all of them, and their names

  pub ended : (old mid now : Meaning) (r : Result Unit Error) (next_home : Home) (infos : List TableInfo) (files : List TableFile) (folder : Name) → folder ≡ keyspace_folder id → AreNewTables id next infos files texts
      → Writing old mid id records h texts (length files) → OnOk r (Took mid now (SyncFolder folder ∷ [])) → IsNext h infos texts next_home → OnOk r (IsHomeWritten (state_in now) id records h next_home)
  ended old mid now (Err e) next_home infos files folder at new all took is = tt
  ended old mid now (Ok done) next_home infos files folder at new all took is =
      let r : Result Unit Error = Ok done in
      let count = counts id next infos files texts new in
      let safe = new_safe (state_in now) id next infos files texts new (λ k lt fits.
      safe_file folder (table_name id (next + k)) (folder_of-table id (next + k) fits ∙ sym at) old mid now (get_or texts k []) r (all.made k lt) took) in
      let free : IsFree (state_in now) id (next + length infos) = λ table above below.
      ap (λ (s : DiskState). (s (table_name id table)).now) took.state ∙ settle-now (state_in mid) folder (table_name id table) ∙ all.free table (omega (arith, above, count)) below in
      is_written (state_in now) id records h next_home infos texts (synced id small records h old mid now folder all.still took).rests safe free is
