-- No step of mending is a call that no disk can serve, and none leaves anything in the way.
use Rattle.std.proofs.Common.{◌≡◌, ◌≢◌, inl, inr, ⊎_elim, zero, suc, ℕ, ◌<◌, ◌≤◌, ◌^◌, Bool, true, false, List, [], ◌∷◌, ◌++◌, ◌-◌, length, take, map, codes, All, Ok, String, Global, string_bytes, MatchBool, refl, sym, ◌∙◌, ap, subst, arith}
use Rattle.std.specs.Prelude.{Contains}
use Rattle.std.specs.List.{AllByRecursion}
use Rattle.std.proofs.lemmas.List.{append-nil, length-take}
use Rattle.fjall_base.specs.Crash.{IsHoused}
use Rattle.fjall_base.specs.Disk.{Name, DiskEntry, Missing, File, Folder, Place, DiskState, Image, IsFile, IsLong, IsThere, CanCreate, all_synced, standing}
use Rattle.fjall_files.specs.Texts.{text_in}
use Rattle.fjall_files.specs.declared.marker.Marker.TheVariants.{Whole}
use Rattle.fjall_files.specs.Marker.{marker_tells}
use Rattle.fjall_files.specs.Names.{Current, journal_name, keyspace_folder, current_name}
use Rattle.fjall_files.specs.Tidy.{FitsAt, IsTidy}
use Rattle.fjall_files.proofs.Distinct.{kept}
use Rattle.fjall_files.proofs.Fitting.{fits_journal, folder_of-folder}
use Rattle.fjall_files.proofs.Serving.{can_make_journal}
use Rattle.fjall_meta.specs.declared.living.LivingKeyspace.{LivingKeyspace}
use Rattle.fjall_recovery.specs.declared.folder.RecoveredFolder.{RecoveredFolder}
use Rattle.fjall_manifest.specs.declared.reading.LoadedHome.{LoadedHome}
use Rattle.fjall_recovery.specs.Folders.{Contents, IsFinished, IsOpenable, file_bytes}
use Rattle.fjall_recovery.specs.Homes.{HaveHomes, Homes}
use Rattle.fjall_recovery.proofs.Housing as Housing
use Rattle.fjall_repair.specs.declared.mending.plan.FileEnd.{FileEnd}
use Rattle.fjall_repair.specs.declared.mending.plan.MendPlan.{MendPlan}
use Rattle.fjall_repair.specs.Mended.{IsMendingOf}
use Rattle.fjall_repair.specs.Steps.{End, IsMendPlan, IsOpened, IsRightEnd, IsSame, Suits, active_of, end_of, folder_names, sealed_of, whole_names, with_active}
use Rattle.fjall_repair.proofs.Naming.{journal_current, marker_current}
use Rattle.fjall_repair.proofs.Items.{back_map}
use Rattle.fjall_repair.proofs.Living.{ids_fit}
use Rattle.fjall_repair.proofs.Ending.{MayBeEnded, one_end}
use Rattle.fjall_repair.proofs.MendOpened.{active_small, ids_of}
use Rattle.fjall_repair.proofs.Turns.{AreRight}
use Rattle.fjall_repair.proofs.Carrying.{alike_same, each_to, name_of_end, right_along, same_whole_names}
use Rattle.fjall_repair.proofs.Suiting.{planned_names, same_ids}

-- ---- the active journal

-- the active journal can be made
pub active_can : (state : DiskState) (c : Contents) (p : MendPlan) (name : Name) → IsTidy state → IsOpenable (standing state) c → Suits (standing state) c p → name ≡ string_bytes p.active → CanCreate state name
active_can state c p name tidy sound suits is =
    let id = active_of (ids_of c.journals) in
    subst (CanCreate state) (sym (is ∙ suits.active)) (can_make_journal state id tidy (active_small (standing state) (ids_of c.journals) sound.journals.ids))

-- and fits there
pub active_fits : (image : Image) (f : RecoveredFolder) (p : MendPlan) → IsFinished image f → IsMendingOf image f p → FitsAt (string_bytes p.active) (File [] [])
active_fits image f p finished is =
    let id = active_of f.journal_ids.items in
    subst (λ (n : Name). FitsAt n (File [] [])) (sym is.2.active) (fits_journal id (active_small image f.journal_ids.items finished.journal_ids) [] [])

-- ---- folders

homes_there : (image : Image) (living : List LivingKeyspace) (homes : Homes) → HaveHomes image living homes → AllByRecursion (IsThere image) (map keyspace_folder (map (λ (k : LivingKeyspace). k.id) living))
homes_there image living homes have = of living (Housing.all_housed image living homes have)
  where
    of : (living : List LivingKeyspace) → AllByRecursion (λ k. Housing.IsHoused image homes k.id) living → AllByRecursion (IsThere image) (map keyspace_folder (map (λ (k : LivingKeyspace). k.id) living))
    of [] all = tt
    of (k ∷ living) all = (inr all.0.2.home.folder, of living all.1)

all_keyspaces : (state : DiskState) → IsHoused state → (state (keyspace_folder 0)).now ≡ Folder → (state (codes "keyspaces")).now ≡ Folder
all_keyspaces state housed is =
    let inside = folder_of-folder 0 (omega arith) in
    subst (λ (n : Name). (state n).now ≡ Folder) inside
    (housed.each (keyspace_folder 0) (λ none. let no : Folder ≡ Missing = sym is ∙ none in let bad : ⊥ = cc in bad) (λ root. let no : [] ≡ codes "keyspaces" = sym root ∙ inside in let bad : ⊥ = cc in bad))

-- all folders that are synced are there
pub folders_there : (state : DiskState) (c : Contents) (folders : List (String Global)) → IsHoused state → IsOpenable (standing state) c → map string_bytes folders ≡ folder_names (map (λ (k : LivingKeyspace). k.id) c.keyspaces.living)
    → All (λ folder. IsThere (standing state) (string_bytes folder)) folders
folders_there state c folders housed sound named =
    back_map (IsThere (standing state)) string_bytes folders (subst (AllByRecursion (IsThere (standing state))) (sym named)
    (inr (all_keyspaces state housed sound.folder), (inr sound.folder, homes_there (standing state) c.keyspaces.living c.homes sound.homes)))

-- and are there still
pub still_there : (old new : DiskState) (folder : Name) → ((q : Name) → (new q).now ≡ (old q).now) → IsThere (standing old) folder → IsThere (standing new) folder
still_there old new folder same there = ⊎_elim (λ root. inl root) (λ is. inr (same folder ∙ is)) there

-- ---- whole files

marker_file : (e : DiskEntry) → marker_tells (file_bytes e) ≡ Ok Whole → IsFile e
marker_file Missing is = let bad : ⊥ = cc in bad
marker_file Folder is = let bad : ⊥ = cc in bad
marker_file (File synced unsynced) is = tt

each_of : (P : ℕ → Type 0) (xs : List ℕ) → ((x : ℕ) → Contains xs x → P x) → AllByRecursion P xs
each_of P [] all = tt
each_of P (x ∷ xs) all = (all x (zero, omega arith, refl), each_of P xs (λ y has. all y (suc has.0, (let lt = has.1 in omega (arith, lt)), has.2)))

each_taken : (P : ℕ → Type 0) (n : ℕ) (xs : List ℕ) → AllByRecursion P xs → AllByRecursion P (take n xs)
each_taken P zero xs all = tt
each_taken P (suc n) [] all = tt
each_taken P (suc n) (x ∷ xs) all = (all.0, each_taken P n xs all.1)

files_named : (image : Image) (ids : List ℕ) → AllByRecursion (λ id. IsFile (image (journal_name id))) ids → AllByRecursion (λ n. IsFile (image n)) (map journal_name ids)
files_named image [] all = tt
files_named image (id ∷ ids) all = (all.0, files_named image ids all.1)

-- all files that are whole are there
pub files_there : (image : Image) (c : Contents) (files : List (String Global)) → IsOpenable image (with_active c) → map string_bytes files ≡ whole_names (ids_of c.journals) → All (λ file. IsFile (image (string_bytes file))) files
files_there image c files sound named =
    let ids = ids_of (with_active c).journals in
    let all = each_taken (λ id. IsFile (image (journal_name id))) (length ids - 1) ids (each_of (λ id. IsFile (image (journal_name id))) ids (λ id has. ((sound.journals.ids.each id).0 has).1)) in
    back_map (λ n. IsFile (image n)) string_bytes files (subst (AllByRecursion (λ n. IsFile (image n))) (sym (named ∙ sym (same_whole_names c.journals)))
    (marker_file (image (codes "version")) sound.marker, files_named image (sealed_of ids) all))

-- a file that may have been synced is one
synced_file : (e : DiskEntry) → IsFile e → IsFile (all_synced e)
synced_file Missing file = file
synced_file Folder file = file
synced_file (File synced unsynced) file = tt

pub still_file : (old new : Place) → IsSame old new → IsFile old.now → IsFile new.now
still_file old new same file = ⊎_elim (λ is. subst IsFile (sym is) file) (λ is. subst IsFile (sym is) (synced_file old.now file)) same.now

-- ---- files that are ended

-- the ends are right once the active journal is there and files are synced
pub right_then : (m0 m1 m2 m3 : DiskState) (c : Contents) (p : MendPlan) (ends : List FileEnd) → ends ≡ p.ends.items → Suits (standing m0) c p → IsOpened (standing m0) (standing m1) (string_bytes p.active) → ((q : Name) → (m2 q).now ≡ (m1 q).now) → ((q : Name) → IsSame (m2 q) (m3 q))
    → AreRight m3 (with_active c) ends
right_then m0 m1 m2 m3 c p ends is suits made same synced =
    subst (AreRight m3 (with_active c)) (sym is) (back_map (IsRightEnd (standing m3) (with_active c)) end_of p.ends.items
    (each_to (IsRightEnd (standing m1) (with_active c)) (IsRightEnd (standing m3) (with_active c)) (map end_of p.ends.items)
    (λ e right. right_along (standing m1) (standing m3) (λ q. alike_same (m2 q) (m3 q) (m1 q).now (same q) (synced q)) (with_active c) e right) (suits.right (standing m1) made)))

long_of : (e : DiskEntry) (len : ℕ) → IsFile e → len ≤ length (text_in e) → IsLong len e
long_of Missing len file le = absurd file
long_of Folder len file le = absurd file
long_of (File synced unsynced) len file le = le

long_file : (e : DiskEntry) (len : ℕ) → IsLong len e → IsFile e
long_file Missing len long = long
long_file Folder len long = long
long_file (File synced unsynced) len long = tt

either_long : (cut : Bool) (len : ℕ) (e : DiskEntry) → IsLong len e → MatchBool cut (IsLong len e) (IsFile e)
either_long true len e long = long
either_long false len e long = long_file e len long

long_now : (start state : DiskState) (c : Contents) (e : End) → IsRightEnd (standing start) c e → MayBeEnded start c state e.name → IsLong e.len (state e.name).now
long_now start state c e right (inl same) = subst (IsLong e.len) (sym same) (long_of (start e.name).now e.len right.file right.long)
long_now start state c e right (inr (len, ends, is)) =
    let text = text_in (start e.name).now in
    let equal : len ≡ e.len = one_end (standing start) c e.name len e.len ends right.kind in
    let le = right.long in
    let taken = length-take len text in
    let whole : length (take len text ++ []) ≡ length (take len text) = ap length (append-nil (take len text)) in
    subst (IsLong e.len) (sym is) (let far : e.len ≤ length (take len text ++ []) = omega (arith, equal, le, taken, whole) in far)

-- a file that is yet to be ended can be
pub can_end : (start state : DiskState) (c : Contents) (x : FileEnd) (file : Name) → file ≡ string_bytes x.name → IsRightEnd (standing start) c (end_of x) → ((q : Name) → MayBeEnded start c state q)
    → MatchBool x.cut (IsLong x.len (state file).now) (IsFile (state file).now)
can_end start state c x file is right may =
    subst (λ (n : Name). MatchBool x.cut (IsLong x.len (state n).now) (IsFile (state n).now)) (sym is)
    (either_long x.cut x.len (state (string_bytes x.name)).now (long_now start state c (end_of x) right (may (string_bytes x.name))))

-- ---- homes of keyspaces that don't live

module _ (id : ℕ) (small : id < 2 ^ 64) where
  no_journals : (ids : List ℕ) → AllByRecursion (λ (q : Name). current_name id ≢ q) (map journal_name ids)
  no_journals [] = tt
  no_journals (j ∷ ids) = ((λ same. journal_current j id (sym same)), no_journals ids)

  other_current : (k : ℕ) → k < 2 ^ 64 → k ≢ id → current_name id ≢ current_name k
  other_current k fits other same = other (let both : Current id ≡ Current k = kept (Current id) (Current k) small fits same in let is : id ≡ k = cc in sym is)

  no_currents : (ids : List ℕ) → AllByRecursion (λ k. k < 2 ^ 64) ids → (Contains ids id → ⊥) → AllByRecursion (λ (q : Name). current_name id ≢ q) (map current_name ids)
  no_currents [] fit dead = tt
  no_currents (k ∷ ids) fit dead = (
    other_current k fit.0 (λ is. dead (zero, omega arith, is)),
    no_currents ids fit.1 (λ has. dead (suc has.0, (let lt = has.1 in omega (arith, lt)), has.2)),
  )

  pub home_active : (f : RecoveredFolder) (tree : End) (p : MendPlan) → IsMendPlan f tree p → current_name id ≢ string_bytes p.active
  home_active f tree p plan same = journal_current (active_of f.journal_ids.items) id (sym (same ∙ plan.active))

  pub home_whole : (f : RecoveredFolder) (tree : End) (p : MendPlan) → IsMendPlan f tree p → All (λ file. current_name id ≢ string_bytes file) p.whole.items
  home_whole f tree p plan = back_map (λ (q : Name). current_name id ≢ q) string_bytes p.whole.items
      (subst (AllByRecursion (λ (q : Name). current_name id ≢ q)) (sym plan.whole) ((λ same. marker_current id (sym same)), no_journals (sealed_of f.journal_ids.items)))

  pub home_ends : (image : Image) (f : RecoveredFolder) (tree : End) (p : MendPlan) → 0 < id → IsFinished image f → tree.name ≡ current_name 0 → IsMendPlan f tree p → (Contains (map (λ (k : LivingKeyspace). k.id) f.catalog.keyspaces.living) id → ⊥)
      → All (λ (e : FileEnd). current_name id ≢ string_bytes e.name) p.ends.items
  home_ends image f tree p some finished named plan dead =
      let are = finished.catalog.are in
      let living = f.catalog.keyspaces.living in
      let ids : map (λ (h : LoadedHome). h.id) f.homes.items ≡ map (λ (k : LivingKeyspace). k.id) living = same_ids image living f.homes.items finished.homes in
      back_map (λ (q : Name). current_name id ≢ q) name_of_end p.ends.items
      (subst (AllByRecursion (λ (q : Name). current_name id ≢ q)) (sym (planned_names f tree p named plan)) (
        (λ same. journal_current (active_of f.journal_ids.items) id (sym same)),
        (
          other_current 0 (omega arith) (λ is. omega (arith, some, is)),
          subst (λ (l : List ℕ). AllByRecursion (λ (q : Name). current_name id ≢ q) (map current_name l)) (sym ids) (no_currents (map (λ (k : LivingKeyspace). k.id) living) (ids_fit f.catalog.keyspaces are).1 dead),
        ),
      ))
