-- Tables that a home names no more, while they are removed.
use Rattle.std.proofs.Common.{◌≡◌, ◌≢◌, inl, inr, ℕ, zero, suc, ◌+◌, ◌<◌, ◌≤◌, ◌^◌, false, All, List, [], ◌∷◌, get_or, length, map, refl, sym, ◌∙◌, ap, subst, arith}
use Rattle.std.specs.Str.{bytes_eq}
use Rattle.std.specs.List.{AllByRecursion}
use Rattle.std.proofs.lemmas.Bool.{cases_lt}
use Rattle.std.proofs.lemmas.List.{get_or_default}
use Rattle.std.proofs.lemmas.List.Elements.{All-head, All-tail}
use Rattle.fjall_base.specs.Disk.{Name, DiskEntry, Missing, File, Folder, Place, DiskState, Meaning, Took, removing, state_in}
use Rattle.fjall_base.proofs.Names.{bool_cases, same}
use Rattle.fjall_base.proofs.States.{put-now, put-other}
use Rattle.fjall_files.specs.Names.{keyspace_folder, table_name}
use Rattle.fjall_files.specs.Regions.{Within, is_under}
use Rattle.fjall_files.proofs.Changes.{within_state}
use Rattle.fjall_files.proofs.Made.{removing_within}
use Rattle.fjall_files.proofs.Under.{under_self}
use Rattle.fjall_table.specs.declared.table_info.TableInfo.{TableInfo}
use Rattle.fjall_manifest.specs.Records.{Fields}
use Rattle.fjall_manifest.specs.Homes.{Home, IsReady, Rests}
use Rattle.fjall_manifest.specs.Changes.{AreGone, AreUnnamed}
use Rattle.fjall_manifest.proofs.Naming.{named, other_table, table_under}
use Rattle.fjall_manifest.proofs.Resting.{IsGiven, all_given, last_record}
use Rattle.fjall_manifest.proofs.Runs.{IsOther, Still, start, then_beside, unchanged}

-- ---- which name is removed

module _ {T : Type 0} (name : T → Name) (id : ℕ) where
  at_place : (items : List T) (ids : List ℕ) (i : ℕ) (d : T) → map name items ≡ map (table_name id) ids → i < length items → (name (get_or items i d) ≡ table_name id (get_or ids i 0)) × (i < length ids)
  at_place [] ids i d same lt = absurd (omega (arith, lt))
  at_place (item ∷ items) [] i d same lt = cc
  at_place (item ∷ items) (n ∷ ids) zero d same lt = let head : name item ≡ table_name id n = cc in (head, omega arith)
  at_place (item ∷ items) (n ∷ ids) (suc i) d same lt =
      let tail : map name items ≡ map (table_name id) ids = cc in
      let rest = at_place items ids i d tail (omega (arith, lt)) in
      let less = rest.1 in
      (rest.0, omega (arith, less))

  -- the i-th of these
  pub name_at : (items : List T) (ids : List ℕ) (i : ℕ) (item : T) (q : Name) → map name items ≡ map (table_name id) ids → i < length items → item ≡ get_or items i item → q ≡ name item → (q ≡ table_name id (get_or ids i 0)) × (i < length ids)
  name_at items ids i item q same lt is at = let found = at_place items ids i item same lt in (at ∙ ap name is ∙ found.0, found.1)

  pub as_many : (items : List T) (ids : List ℕ) → map name items ≡ map (table_name id) ids → length items ≡ length ids
  as_many [] [] same = refl
  as_many [] (n ∷ ids) same = cc
  as_many (item ∷ items) [] same = cc
  as_many (item ∷ items) (n ∷ ids) same = let tail : map name items ≡ map (table_name id) ids = cc in let rest = as_many items ids tail in omega (arith, rest)

-- ---- one removal

-- what is removed, where it is there, is missing then
pub missing_now : (name : Name) (old new : Meaning) (there : DiskEntry) → (state_in old name).now ≡ there → Took old new (removing name there) → (state_in new name).now ≡ Missing
missing_now name old new Missing is took = ap (λ (s : DiskState). (s name).now) took.state ∙ is
missing_now name old new (File synced unsynced) is took = put-now (state_in old) (state_in new) name Missing took.state
missing_now name old new Folder is took = put-now (state_in old) (state_in new) name Missing took.state

other_stays : (name q : Name) (old new : Meaning) (there : DiskEntry) → bytes_eq q name ≡ false → Took old new (removing name there) → state_in new q ≡ state_in old q
other_stays name q old new Missing not took = ap (λ (s : DiskState). s q) took.state
other_stays name q old new (File synced unsynced) not took = ap (λ (s : DiskState). s q) took.state ∙ put-other (state_in old) name Missing q not
other_stays name q old new Folder not took = ap (λ (s : DiskState). s q) took.state ∙ put-other (state_in old) name Missing q not

-- beside the name that is removed all stays
pub beside_removed : (name q : Name) (old new : Meaning) → q ≢ name → Took old new (removing name (state_in old name).now) → (state_in new q).now ≡ (state_in old q).now
beside_removed name q old new differ took = elim (bool_cases (bytes_eq q name)) [
  | inl is ↦ absurd (differ (same is))
  | inr not ↦ ap (λ (place : Place). place.now) (other_stays name q old new _ not took)
]

-- what holds of a name, and of one where nothing stands, holds on
pub removing_keeps : (P : DiskEntry → Type 0) → P Missing → (name q : Name) (old new : Meaning) → Took old new (removing name (state_in old name).now) → P (state_in old q).now → P (state_in new q).now
removing_keeps P gone name q old new took p = elim (bool_cases (bytes_eq q name)) [
  | inl is ↦ subst P (sym (ap (λ (n : Name). (state_in new n).now) (same is) ∙ missing_now name old new _ refl took)) gone
  | inr not ↦ subst (λ (place : Place). P place.now) (sym (other_stays name q old new _ not took)) p
]

pub removed_under : (id n : ℕ) (name : Name) (old new : Meaning) → name ≡ table_name id n → Took old new (removing name (state_in old name).now) → Within (keyspace_folder id) old new
removed_under id n name old new at took = removing_within (keyspace_folder id) name old new (ap (λ (q : Name). is_under (keyspace_folder id) q) at ∙ table_under id n) took

-- ---- what is gone

-- so many of them are missing
abbrev pub GoneSoFar : DiskState → ℕ → List ℕ → ℕ → Type 0
GoneSoFar state id ids count = (k : ℕ) → k < count → (state (table_name id (get_or ids k 0))).now ≡ Missing

pub one_gone : (id : ℕ) (ids : List ℕ) (i : ℕ) (name : Name) (old new : Meaning) → name ≡ table_name id (get_or ids i 0) → Took old new (removing name (state_in old name).now) → GoneSoFar (state_in old) id ids i → GoneSoFar (state_in new) id ids (i + 1)
one_gone id ids i name old new at took so_far k lt = elim (cases_lt k i) [
  | inl before ↦ removing_keeps (λ e. e ≡ Missing) refl name (table_name id (get_or ids k 0)) old new took (so_far k before)
  | inr from ↦
      let is : k ≡ i = omega (arith, lt, from) in
      subst (λ (j : ℕ). (state_in new (table_name id (get_or ids j 0))).now ≡ Missing) (sym is) (ap (λ (q : Name). (state_in new q).now) (sym at) ∙ missing_now name old new _ refl took)
]

pub all_gone : (state : DiskState) (id : ℕ) (ids : List ℕ) (count : ℕ) → length ids ≤ count → GoneSoFar state id ids count → AreGone state id ids
all_gone state id ids count enough so_far k d lt =
    let before : k < count = elim (cases_lt k count) [ inl less ↦ less | inr from ↦ absurd (omega (arith, lt, from, enough)) ] in
    ap (λ (n : ℕ). (state (table_name id n)).now) (get_or_default ids k d 0 lt) ∙ so_far k before

-- ---- the home stays ready

-- at each moment it is there, and at the end it is ready
pub record StillReady (old new : Meaning) (id : ℕ) (records : List Fields) (h : Home) : Type 0 where
  pub still : Still old new id records h
  pub ready : IsReady (state_in new) id records h

unnamed_others : (tables : List TableInfo) (next n : ℕ) → AllByRecursion (IsGiven next) tables → All (λ t. t.id ≢ n) tables → AllByRecursion (IsOther n) tables
unnamed_others [] next n given unnamed = tt
unnamed_others (t ∷ tables) next n given unnamed =
    ((given.0.0, All-head (λ (u : TableInfo). u.id ≢ n) t tables unnamed), unnamed_others tables next n given.1 (All-tail (λ (u : TableInfo). u.id ≢ n) t tables unnamed))

module _ (id : ℕ) (small : id < 2 ^ 64) (records : List Fields) (h : Home) where
  pub ready_start : (old : Meaning) → IsReady (state_in old) id records h → StillReady old old id records h
  ready_start old ready = record { still = start id small records h old ready.rests; ready = ready }

  module _ (ids : List ℕ) (i : ℕ) (name : Name) (mid new : Meaning) (at : name ≡ table_name id (get_or ids i 0)) (lt : i < length ids) (unnamed : AreUnnamed h ids)
      (took : Took mid new (removing name (state_in mid name).now)) where
    abbrev n : ℕ
    n = get_or ids i 0

    below : n < h.last.next_table_id
    below = unnamed.given i 0 lt

    fits : Rests (state_in mid) id records h → n < 2 ^ 64
    fits rests = let room = (last_record (state_in mid) id records h rests).fits.room.next_table_id in let less = below in omega (arith, less, room)

    run : Within (table_name id n) mid new
    run = subst (λ (q : Name). Within q mid new) at (removing_within name name mid new (under_self name) took)

    pub still_removed : (old : Meaning) → Still old mid id records h → Still old new id records h
    still_removed old so_far =
        then_beside id small records h n old mid new (fits so_far.rests)
        (unnamed_others h.last.tables h.last.next_table_id n (all_given h.last (last_record (state_in mid) id records h so_far.rests)) (unnamed.unnamed i 0 lt)) so_far run

    pub one_removed : (old : Meaning) → StillReady old mid id records h → StillReady old new id records h
    one_removed old so_far =
        let still = still_removed old so_far.still in
        record {
          still = still;
          ready = record {
            rests = still.rests;
            free = λ table above low.
                let own = fits so_far.ready.rests in
                let less = below in
                ap (λ (p : Place). p.now) (within_state (table_name id n) (named id n own) mid new run (table_name id table) (other_table id n table own low (λ e. omega (arith, e, above, less))))
                ∙ so_far.ready.free table above low;
          };
        }

  pub as_it_was : (old mid new : Meaning) → StillReady old mid id records h → Took mid new [] → StillReady old new id records h
  as_it_was old mid new so_far took = record {
    still = unchanged id small records h old mid new so_far.still took;
    ready = subst (λ (state : DiskState). IsReady state id records h) (sym took.state) so_far.ready;
  }
