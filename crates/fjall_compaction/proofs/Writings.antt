-- New tables in a home's folder, while they are written and then.
use Rattle.std.proofs.Common.{true, ◌≡◌, ◌≢◌, inl, inr, ℕ, suc, ◌+◌, ◌<◌, ◌≤◌, ◌^◌, List, [], ◌∷◌, get_or, length, String, string_bytes, Result, Ok, Err, OnErr, OnOk, refl, sym, ◌∙◌, ap, subst, arith}
use Rattle.std.specs.Bool.{◌==◌}
use Rattle.std.specs.declared.alloc.Global.{Global}
use Rattle.std.proofs.lemmas.Bool.{cases_eq, cases_lt, eqb-true}
use Rattle.std.proofs.lemmas.List.{append-nil, get_or-map}
use Rattle.fjall_base.specs.declared.error.Error.{Error}
use Rattle.fjall_base.specs.Disk.{CanCreate, DiskEntry, DiskState, File, IsFile, IsNoFolder, IsThere, Meaning, Name, Place, SyncFolder, Took, folder_of, removing, standing, state_in}
use Rattle.fjall_files.specs.Calls.{AllServed}
use Rattle.fjall_files.specs.Names.{keyspace_folder, table_name}
use Rattle.fjall_files.specs.Regions.{IsSafe, Within}
use Rattle.fjall_files.specs.Tidy.{FitsAt, StaysTidy}
use Rattle.fjall_files.proofs.Changes.{within_start, within_state}
use Rattle.fjall_files.proofs.Fitting.{fits_table, folder_of-table}
use Rattle.fjall_files.proofs.Made.{safe_file, settled_within, within_both}
use Rattle.fjall_files.proofs.Tidying.{stays_both, stays_settling, stays_start}
use Rattle.fjall_files.proofs.Under.{folder_is_shorter}
use Rattle.fjall_files.proofs.Wider.{within_wider}
use Rattle.fjall_compaction.specs.Flushes.{texts_of}
use Rattle.fjall_compaction.specs.FlushPlans.{HaveFiles}
use Rattle.fjall_compaction.specs.Putting.{AreNewFiles, ArePut, AreSafeFrom, HaveNoFolders, KeepsBesideTables}
use Rattle.fjall_compaction.proofs.Beside.{settled_seen}
use Rattle.fjall_compaction.proofs.Naming.{found, room}
use Rattle.fjall_manifest.specs.Homes.{Home, Rests}
use Rattle.fjall_manifest.proofs.Naming.{named, other_table, some_folder, table_under}
use Rattle.fjall_manifest.proofs.Removals.{beside_removed, missing_now}
use Rattle.fjall_manifest.proofs.Runs.{Still, synced, synced_or_not, then_beside}
use Rattle.fjall_manifest.proofs.Writings.{others}
use Rattle.fjall_jobs.specs.declared.made_table.MadeTable.{MadeTable}
use Rattle.fjall_table_reader.specs.Files.{bytes_in, entry_at}
use Rattle.fjall_manifest.specs.Records.{Fields}

-- ---- one file

-- where a file can be made, it can be made once what stands there is taken away
pub can_still : (old mid : Meaning) (file : Name) → folder_of file ≢ file → Took old mid (removing file (state_in old file).now) → CanCreate (state_in old) file → CanCreate (state_in mid) file
can_still old mid file differ took can = record {
  named = can.named;
  housed = elim can.housed [ inl root ↦ inl root | inr there ↦ inr (beside_removed file (folder_of file) old mid differ took ∙ there) ];
  kind = subst (λ (e : DiskEntry). IsNoFolder e) (sym (missing_now file old mid (state_in old file).now refl took)) tt;
}

-- a table's folder is none of its names
pub folder_differs : (id n : ℕ) → n < 2 ^ 64 → folder_of (table_name id n) ≢ table_name id n
folder_differs id n fits same =
    let less = folder_is_shorter (keyspace_folder id) (table_name id n) (some_folder id) (folder_of-table id n fits) in
    let as_long = ap length (sym (folder_of-table id n fits) ∙ same) in
    omega (arith, less, as_long)

-- ---- all of them

-- the bytes of the table at a place
abbrev pub text_at : List MadeTable → ℕ → List ℕ
text_at tables k = get_or (texts_of tables) k []

-- nothing changed beside the keyspace's tables of so many ids from this one on
pub record Changing (old now : Meaning) (id next count : ℕ) : Type 0 where
  pub within : Within (keyspace_folder id) old now
  pub beside : KeepsBesideTables id next count old now
  pub kinds : StaysTidy old now

-- so many of them stand with their bytes
pub record Writing (old now : Meaning) (id next : ℕ) (tables : List MadeTable) (count : ℕ) : Type 0 where
  pub on : Changing old now id next (length tables)
  pub made : (k : ℕ) → k < count → (state_in now (table_name id (next + k))).now ≡ File (text_at tables k) []

-- no new table's name is a folder's, and each call was one that a disk can serve
abbrev pub IsServed : Meaning → Meaning → (id next count : ℕ) → Type 0
IsServed old now id next count = HaveNoFolders old id next count → AllServed old now × HaveNoFolders now id next count

pub begun : (id next : ℕ) (tables : List MadeTable) (old : Meaning) → Writing old old id next tables 0
begun id next tables old = record {
  on = record { within = within_start (keyspace_folder id) old; beside = λ q out. refl; kinds = stays_start old };
  made = λ k lt. absurd (omega (arith, lt));
}

-- the bytes of a file are those of its table
pub text_is : (tables : List MadeTable) (i : ℕ) (d : MadeTable) (bytes : List ℕ) → i < length tables → bytes ≡ (get_or tables i d).bytes.items → File bytes [] ≡ File (text_at tables i) []
text_is tables i d bytes lt is = ap (λ (l : List ℕ). File l []) (is ∙ sym (get_or-map (λ (x : MadeTable). x.bytes.items) tables i d [] lt))

-- ---- one at a place

-- the name is that of the table at that place
pub record IsTurn (id next i : ℕ) (tables : List MadeTable) (name : Name) : Type 0 where
  pub small : id < 2 ^ 64
  pub lt : i < length tables
  pub room : next + length tables < 2 ^ 64
  pub is : name ≡ table_name id (next + i)

pub turn : (id next : ℕ) (tables : List MadeTable) (folder : Name) (files : List (String Global)) → AreNewFiles id next tables folder files → (i : ℕ) → i < length tables → (file : String Global)
    → i < length files → file ≡ get_or files i file → (name : Name) → name ≡ string_bytes file → IsTurn id next i tables name
turn id next tables folder files new i lt file listed read name called = record {
  small = new.home.0;
  lt = lt;
  room = room id next tables files new.named i lt;
  is = found id next tables files new.named i listed file read name called;
}

module _ (id next i : ℕ) (tables : List MadeTable) (name : Name) (at : IsTurn id next i tables name) where
  abbrev n : ℕ
  n = next + i

  fits : n < 2 ^ 64
  fits = let lt = at.lt in let less = at.room in omega (arith, lt, less)

  pub fit : FitsAt name (File [] [])
  fit = subst (λ (q : Name). FitsAt q (File [] [])) (sym at.is) (fits_table id n at.small fits [] [])

  pub apart : folder_of name ≢ name
  apart = subst (λ (q : Name). folder_of q ≢ q) (sym at.is) (folder_differs id n fits)

  module _ (old mid now : Meaning) (run : Within name mid now) where
    here : Within (table_name id n) mid now
    here = subst (λ (q : Name). Within q mid now) at.is run

    elsewhere : (m : ℕ) → m < 2 ^ 64 → m ≢ n → (state_in now (table_name id m)).now ≡ (state_in mid (table_name id m)).now
    elsewhere m small differ = ap (λ (p : Place). p.now) (within_state (table_name id n) (named id n fits) mid now here (table_name id m) (other_table id n m fits small differ))

    -- nothing changes beside it, also where it isn't made
    pub changing_on : Changing old mid id next (length tables) → StaysTidy mid now → Changing old now id next (length tables)
    changing_on so_far kinds = record {
      within = within_both (keyspace_folder id) old mid now so_far.within (within_wider (keyspace_folder id) (table_name id n) mid now (table_under id n) here);
      beside = λ q out.
          let lt = at.lt in
          ap (λ (p : Place). p.now) (within_state (table_name id n) (named id n fits) mid now here q (out n (omega arith) (omega (arith, lt)))) ∙ so_far.beside q out;
      kinds = stays_both old mid now so_far.kinds kinds;
    }

    -- one more stands
    pub one_more : Writing old mid id next tables i → StaysTidy mid now → (state_in now name).now ≡ File (text_at tables i) [] → Writing old now id next tables (i + 1)
    one_more so_far kinds full = record {
      on = changing_on so_far.on kinds;
      made = λ k before. elim (cases_lt k i) [
        | inl less ↦ elsewhere (next + k) (let most = fits in omega (arith, less, most)) (λ e. omega (arith, e, less)) ∙ so_far.made k less
        | inr from ↦
            let same : k ≡ i = omega (arith, before, from) in
            subst (λ (j : ℕ). (state_in now (table_name id (next + j))).now ≡ File (text_at tables j) []) (sym same) (ap (λ (q : Name). (state_in now q).now) (sym at.is) ∙ full)
      ];
    }

    -- no new table's name is a folder's still
    pub none_still : (bytes : List ℕ) → (state_in now name).now ≡ File bytes [] → HaveNoFolders mid id next (length tables) → HaveNoFolders now id next (length tables)
    none_still bytes full none m from until = elim (cases_eq m n) [
      | inl same ↦ subst (λ (e : DiskEntry). IsNoFolder e) (sym (ap (λ (j : ℕ). (state_in now (table_name id j)).now) same ∙ ap (λ (q : Name). (state_in now q).now) (sym at.is) ∙ full)) tt
      | inr differ ↦ let less = at.room in subst (λ (e : DiskEntry). IsNoFolder e) (sym (elsewhere m (omega (arith, less, until)) differ)) (none m from until)
    ]

  module _ (records : List Fields) (h : Home) (own : h.last.next_table_id ≡ next) (old mid : Meaning) (so_far : Still old mid id records h) where
    -- the home rests on
    pub still_on : (now : Meaning) → Within name mid now → Still old now id records h
    still_on now run =
        then_beside id at.small records h n old mid now fits (others (state_in mid) id records h n (omega (arith, own)) so_far.rests) so_far (subst (λ (q : Name). Within q mid now) at.is run)

    pub can_make : HaveNoFolders mid id next (length tables) → CanCreate (state_in mid) name
    can_make none = let lt = at.lt in record {
      named = λ e. named id n fits (sym at.is ∙ e);
      housed = subst (λ (f : Name). IsThere (standing (state_in mid)) f) (sym (ap (λ (q : Name). folder_of q) at.is ∙ folder_of-table id n fits)) (inr (ap (λ (p : Place). p.now) so_far.rests.folder));
      kind = subst (λ (q : Name). IsNoFolder (state_in mid q).now) (sym at.is) (none n (omega arith) (omega (arith, lt)));
    }

-- ---- at the end

pub at_end : (at many : ℕ) → at ≤ many → many ≤ at → at ≡ many
at_end at many one two = omega (arith, one, two)

have_files : (disk : Meaning) (id next : ℕ) (tables : List MadeTable) → ((k : ℕ) → k < length tables → entry_at disk (table_name id (next + k)) ≡ File (text_at tables k) []) → HaveFiles disk id next tables
have_files disk id next [] made = tt
have_files disk id next (t ∷ tables) made =
    let here : next + 0 ≡ next = omega arith in
    let full : entry_at disk (table_name id next) ≡ File t.bytes.items [] = subst (λ (n : ℕ). entry_at disk (table_name id n) ≡ File t.bytes.items []) here (made 0 (omega arith)) in (
      subst IsFile (sym full) tt,
      ap (λ (e : DiskEntry). bytes_in e) full ∙ append-nil t.bytes.items,
      have_files disk id (next + 1) tables (λ k lt.
          let later : next + suc k ≡ next + 1 + k = omega arith in
          subst (λ (n : ℕ). entry_at disk (table_name id n) ≡ File (text_at tables k) []) later (made (suc k) (omega (arith, lt)))),
    )

safe_from : (state : DiskState) (id next : ℕ) (tables : List MadeTable) → ((k : ℕ) → k < length tables → IsSafe state (table_name id (next + k)) (text_at tables k)) → AreSafeFrom state id next tables
safe_from state id next [] safe = tt
safe_from state id next (t ∷ tables) safe =
    let here : next + 0 ≡ next = omega arith in (
      subst (λ (n : ℕ). IsSafe state (table_name id n) t.bytes.items) here (safe 0 (omega arith)),
      safe_from state id (next + 1) tables (λ k lt.
          let later : next + suc k ≡ next + 1 + k = omega arith in
          subst (λ (n : ℕ). IsSafe state (table_name id n) (text_at tables k)) later (safe (suc k) (omega (arith, lt)))),
    )

module _ (id next : ℕ) (tables : List MadeTable) (folder : Name) (files : List (String Global)) (is : AreNewFiles id next tables folder files) (old mid now : Meaning) (r : Result Unit Error)
    (ok : OnOk r (Took mid now (SyncFolder folder ∷ []))) (err : OnErr r (Took mid now [])) where
  pub changing_still : Changing old mid id next (length tables) → Changing old now id next (length tables)
  changing_still so_far = record {
    within = within_both (keyspace_folder id) old mid now so_far.within (settled_within (keyspace_folder id) mid now r (subst (λ (n : Name). OnOk r (Took mid now (SyncFolder n ∷ []))) is.home.1 ok) err);
    beside = λ q out. settled_seen folder mid now r q ok err ∙ so_far.beside q out;
    kinds = stays_both old mid now so_far.kinds (stays_settling mid now folder r ok err);
  }

  pub ended_files : Writing old mid id next tables (length tables) → OnOk r (HaveFiles now id next tables)
  ended_files all = by r ok err
    where
      by : (r : Result Unit Error) → OnOk r (Took mid now (SyncFolder folder ∷ [])) → OnErr r (Took mid now []) → OnOk r (HaveFiles now id next tables)
      by (Err e) ok err = tt
      by (Ok done) ok err = have_files now id next tables (λ k lt. settled_seen folder mid now (Ok done) (table_name id (next + k)) ok err ∙ all.made k lt)

  module _ (records : List Fields) (h : Home) (own : h.last.next_table_id ≡ next) (so_far : Still old mid id records h) where
    pub still_then : Still old now id records h
    still_then = synced_or_not id is.home.0 records h old mid now folder r so_far ok err

    pub folder_there : IsThere (standing (state_in mid)) folder
    folder_there = inr (ap (λ (n : Name). (state_in mid n).now) is.home.1 ∙ ap (λ (p : Place). p.now) so_far.rests.folder)

    -- they are put there
    pub ended_put : Writing old mid id next tables (length tables) → OnOk r (ArePut (state_in now) id records h tables)
    ended_put all = by r ok
      where
        by : (r : Result Unit Error) → OnOk r (Took mid now (SyncFolder folder ∷ [])) → OnOk r (ArePut (state_in now) id records h tables)
        by (Err e) took = tt
        by (Ok done) took = record {
          rests = (synced id is.home.0 records h old mid now folder so_far took).rests;
          safe = subst (λ (n : ℕ). AreSafeFrom (state_in now) id n tables) (sym own) (safe_from (state_in now) id next tables (λ k lt.
              let less = room id next tables files is.named k lt in
              let fits : next + k < 2 ^ 64 = omega (arith, lt, less) in
              safe_file folder (table_name id (next + k)) (folder_of-table id (next + k) fits ∙ sym is.home.1) old mid now (text_at tables k) (Ok done) (all.made k lt) took));
        }

-- ---- none were made

module _ (tables : List MadeTable) (none : true ≡ (length tables == 0)) where
  pub none_put : (state : DiskState) (id : ℕ) (records : List Fields) (h : Home) → Rests state id records h → ArePut state id records h tables
  none_put state id records h rests = record { rests = rests; safe = by tables none }
    where
      by : (l : List MadeTable) → true ≡ (length l == 0) → AreSafeFrom state id h.last.next_table_id l
      by [] none = tt
      by (t ∷ l) none = let same = eqb-true (length (t ∷ l)) 0 (sym none) in absurd (omega (arith, same))
