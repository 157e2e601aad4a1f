-- The tables that a merge took, while they are removed.
use Rattle.std.proofs.Common.{◌≡◌, ◌≢◌, ℕ, zero, suc, ◌+◌, ◌<◌, ◌≤◌, ◌^◌, List, [], ◌∷◌, ◌++◌, All, get_or, length, map, take, drop, String, string_bytes, refl, sym, ◌∙◌, ap, subst, arith}
use Rattle.std.specs.List.{AllPairs}
use Rattle.std.specs.declared.alloc.Global.{Global}
use Rattle.std.proofs.lemmas.List.{take-append-drop}
use Rattle.std.proofs.lemmas.List.Elements.{All-append, All-cons, All-head, All-nil, All-tail, All-weaker}
use Rattle.fjall_base.specs.Disk.{IsNoFolder, LeavesOnly, LeavesOnlyBy, Meaning, Name, state_in}
use Rattle.fjall_files.specs.Names.{keyspace_folder, table_name}
use Rattle.fjall_files.specs.Regions.{Within}
use Rattle.fjall_files.proofs.Changes.{within_state}
use Rattle.fjall_files.proofs.Distinct as Distinct
use Rattle.fjall_compaction.specs.Flushes.{HasAt}
use Rattle.fjall_compaction.proofs.FlushAfterHomes.{versions_at}
use Rattle.fjall_compaction.proofs.Composed.{IsHome, is_home, not_zero, room_stays, same_tree, seen}
use Rattle.fjall_manifest.specs.Changes.{AreUnnamed}
use Rattle.fjall_manifest.specs.Homes.{HasHome, Home, Rests, SyncedStays}
use Rattle.fjall_manifest.proofs.Naming.{some_folder}
use Rattle.fjall_manifest.proofs.Views.{usually}
use Rattle.fjall_tree.proofs.Flushed.{behind_of, front_of}
use Rattle.fjall_recovery.specs.Halves.{HasTree, Tree, outside}
use Rattle.fjall_recovery.specs.Places.{LiesInTree}
use Rattle.fjall_recovery.proofs.Changing.{home_in_crash, home_rests}
use Rattle.fjall_recovery.proofs.Composing.{not_under}
use Rattle.fjall_table.specs.Blocks.{Entry}
use Rattle.fjall_table.specs.declared.table_info.TableInfo.{TableInfo}
use Rattle.fjall_manifest.specs.Records.{Fields, IsRecord}
use Rattle.fjall_compaction.specs.Merges.{Merge, home_after, merged_infos}
use Rattle.fjall_compaction.specs.MergePlans.{HasNoTableFolder}
use Rattle.fjall_compaction.proofs.MergeAfterRecords.{new_from}

-- ---- which they are

abbrev ids : List TableInfo → List ℕ
ids tables = map (λ (t : TableInfo). t.id) tables

pub named_ids : (id : ℕ) (tables : List TableInfo) → map (λ t. table_name id t.id) tables ≡ map (table_name id) (ids tables)
named_ids id [] = refl
named_ids id (t ∷ tables) = ap (λ (l : List Name). table_name id t.id ∷ l) (named_ids id tables)

each_id : (P : ℕ → Type 0) (tables : List TableInfo) → All (λ t. P t.id) tables → All P (ids tables)
each_id P [] all = All-nil P
each_id P (t ∷ tables) all = All-cons P t.id (ids tables) (All-head (λ (i : TableInfo). P i.id) t tables all) (each_id P tables (All-tail (λ (i : TableInfo). P i.id) t tables all))

-- the one differs from each of the others
differs_behind : (t : TableInfo) (tables : List TableInfo) → AllPairs (λ a b. a ≢ b) (ids (t ∷ tables)) → All (λ u. u.id ≢ t.id) tables
differs_behind t [] differ = All-nil (λ (u : TableInfo). u.id ≢ t.id)
differs_behind t (u ∷ tables) differ =
    All-cons (λ (v : TableInfo). v.id ≢ t.id) u tables (λ e. differ 0 1 0 (omega arith) (omega arith) (sym e))
    (differs_behind t tables (λ i j d lt within. by i j d lt within))
  where
    by : (i j d : ℕ) → i < j → j < length (ids (t ∷ tables)) → get_or (ids (t ∷ tables)) i d ≢ get_or (ids (t ∷ tables)) j d
    by i zero d lt within = absurd (omega (arith, lt))
    by zero (suc j) d lt within = differ zero (suc (suc j)) d (omega arith) (omega (arith, within))
    by (suc i) (suc j) d lt within = differ (suc (suc i)) (suc (suc j)) d (omega (arith, lt)) (omega (arith, within))

-- those that are taken are none of those that stay
taken_differ : (n : ℕ) (tables : List TableInfo) → AllPairs (λ a b. a ≢ b) (ids tables) → All (λ t. All (λ u. u.id ≢ t.id) (drop n tables)) (take n tables)
taken_differ zero tables differ = All-nil (λ (t : TableInfo). All (λ (u : TableInfo). u.id ≢ t.id) tables)
taken_differ (suc n) [] differ = All-nil (λ (t : TableInfo). All (λ (u : TableInfo). u.id ≢ t.id) [])
taken_differ (suc n) (t ∷ tables) differ =
    All-cons (λ (v : TableInfo). All (λ (u : TableInfo). u.id ≢ v.id) (drop n tables)) t (take n tables)
    (behind_of (λ (u : TableInfo). u.id ≢ t.id) (take n tables) (drop n tables) (subst (All (λ (u : TableInfo). u.id ≢ t.id)) (sym (take-append-drop n tables)) (differs_behind t tables differ)))
    (taken_differ n tables (λ i j d lt within. differ (suc i) (suc j) d (omega (arith, lt)) (omega (arith, within))))

module _ (m : Merge) (last : Fields) (is : IsRecord last) where
  abbrev taken : List TableInfo
  taken = take m.table_count last.tables

  given : All (λ t. t.id < last.next_table_id) taken
  given =
      front_of (λ (t : TableInfo). t.id < last.next_table_id) taken (drop m.table_count last.tables)
      (subst (All (λ (t : TableInfo). t.id < last.next_table_id)) (sym (take-append-drop m.table_count last.tables)) is.consistent.given)

  pub fit : All (λ t. t.id < 2 ^ 64) taken
  fit = let room = is.fits.room.next_table_id in All-weaker (λ (t : TableInfo). t.id < last.next_table_id) (λ t. t.id < 2 ^ 64) (λ t lt. omega (arith, lt, room)) taken given

  -- the home after the merge names none of them
  pub unnamed : (h : Home) → h.last ≡ last → AreUnnamed (home_after m h) (ids taken)
  unnamed h at =
      let next = last.next_table_id in
      let infos = merged_infos next m.tables in
      let left = drop m.table_count last.tables in
      let none = λ (t : TableInfo) (lt : t.id < next). All-weaker (λ (u : TableInfo). next ≤ u.id) (λ u. u.id ≢ t.id) (λ u le e. omega (arith, le, e, lt)) infos (new_from next m.tables) in
      let both : All (λ t. All (λ u. u.id ≢ t.id) (infos ++ left)) taken =
      λ i d lt. All-append (λ (u : TableInfo). u.id ≢ (get_or taken i d).id) infos left (none (get_or taken i d) (given i d lt)) (taken_differ m.table_count last.tables is.consistent.once i d lt) in
      subst (λ (l : Fields). AreUnnamed (home_after m (record { last = l; texts = h.texts })) (ids taken)) (sym at) (record {
        given = each_id (λ n. n < next + length m.tables) taken (All-weaker (λ (t : TableInfo). t.id < next) (λ t. t.id < next + length m.tables) (λ t lt. omega (arith, lt)) taken given);
        unnamed = each_id (λ n. All (λ (u : TableInfo). u.id ≢ n) (infos ++ left)) taken both;
      })

  -- nor does a folder stand under any of their names
  pub no_folders : (id : ℕ) (disk : Meaning) → HasNoTableFolder disk id → All (λ n. IsNoFolder (state_in disk (table_name id n)).now) (ids taken)
  no_folders id disk none = each_id (λ n. IsNoFolder (state_in disk (table_name id n)).now) taken (λ i d lt. none (get_or taken i d).id (fit i d lt))

-- ---- what stands in sight

-- the table of another id has none of these names
pub other_names : (id n : ℕ) → id < 2 ^ 64 → (tables : List TableInfo) (names : List (String Global)) → n < 2 ^ 64 → All (λ t. (t.id < 2 ^ 64) × (t.id ≢ n)) tables
    → map string_bytes names ≡ map (λ t. table_name id t.id) tables → All (λ name. table_name id n ≢ string_bytes name) names
other_names id n own [] [] small others named = All-nil (λ (name : String Global). table_name id n ≢ string_bytes name)
other_names id n own [] (name ∷ names) small others named = cc
other_names id n own (t ∷ tables) [] small others named = cc
other_names id n own (t ∷ tables) (name ∷ names) small others named =
    let first : string_bytes name ≡ table_name id t.id = cc in
    let rest : map string_bytes names ≡ map (λ u. table_name id u.id) tables = cc in
    let here = All-head (λ (u : TableInfo). (u.id < 2 ^ 64) × (u.id ≢ n)) t tables others in
    All-cons (λ (q : String Global). table_name id n ≢ string_bytes q) name names (λ e. here.1 (sym (Distinct.tables id id n t.id own own small here.0 (e ∙ first)).1))
    (other_names id n own tables names small (All-tail (λ (u : TableInfo). (u.id < 2 ^ 64) × (u.id ≢ n)) t tables others) rest)

-- ---- the tree

module _ (m0 : Meaning) (records : List Fields) (t : Tree) (id : ℕ) (small : id < 2 ^ 64) (h : Home) (versions : List Entry) (lies : LiesInTree (state_in m0) records t) (at : HasAt t id h versions) where
  abbrev home : IsHome (state_in m0) t id h
  home = is_home (state_in m0) records t id h versions lies at

  abbrev pub own : List Fields
  own = home.safe.records

  abbrev pub rests : Rests (state_in m0) id own h
  rests = home.safe.rests

  -- while the home stays, the tree does
  pub still_tree : (mid : Meaning) → Within (keyspace_folder id) m0 mid → LeavesOnlyBy SyncedStays m0 mid (λ image. HasHome image id own h) → LeavesOnly m0 mid (λ image. HasTree image t)
  still_tree mid run stays =
      seen (outside id) (keyspace_folder id) (some_folder id) (not_under id) m0 mid (λ image. HasHome image id own h) (λ image. HasTree image t) run
      (usually m0 mid (λ image. HasHome image id own h) stays)
      (λ image there is. subst (λ (u : Tree). HasTree image u) (same_tree t id h versions at)
      (home_in_crash id h versions t home.lives (state_in m0) image records lies.rests is
      (record { records = own; home = there; indexes = home.safe.indexes; indexed = home.safe.indexed; clears = home.safe.clears }) (versions_at t id h versions at lies.rests.versions)))

  pub still_lies : (mid : Meaning) → Within (keyspace_folder id) m0 mid → Rests (state_in mid) id own h → LiesInTree (state_in mid) records t
  still_lies mid run rested = subst (λ (u : Tree). LiesInTree (state_in mid) records u) (same_tree t id h versions at) (record {
    rests = home_rests id h versions t home.lives (state_in m0) (state_in mid) records lies.rests (λ q out. within_state (keyspace_folder id) (some_folder id) m0 mid run q (not_under id q out))
        (record { records = own; rests = rested; indexes = home.safe.indexes; indexed = home.safe.indexed; clears = home.safe.clears }) (versions_at t id h versions at lies.rests.versions);
    free = room_stays m0 mid id 0 t.last.next_table_id small (omega arith) (not_zero t.keyspaces id lies.rests.catalog.are home.lives) run lies.free;
  })
