-- A folder of which nothing is told passes, and of one that passes nothing is told.
use Rattle.std.proofs.Common.{◌≡◌, inl, inr, ℕ, ◌+◌, ◌<◌, true, false, AllPairs, List, [], ◌∷◌, ◌++◌, length, map, get_or, Option, Some, None, Result, Ok, Err, refl, sym, ◌∙◌, ap, subst, arith}
use Rattle.std.specs.Prelude.{IfOk}
use Rattle.std.specs.List.{AllByRecursion}
use Rattle.std.specs.List.Sorted.{IsStrictlyIncreasing}
use Rattle.std.specs.FinMap.{get}
use Rattle.std.proofs.lemmas.List.{length-map, get_or-map}
use Rattle.std.proofs.lemmas.List.Elements.{All-from_recursion}
use Rattle.fjall_base.specs.declared.error.Error.{Error}
use Rattle.fjall_base.specs.declared.error.Error.TheVariants.{Io, OutOfMemory}
use Rattle.fjall_base.specs.Disk.{DiskState, Image, standing}
use Rattle.fjall_base.specs.Store.{Store}
use Rattle.fjall_files.specs.Names.{table_name}
use Rattle.fjall_files.specs.Texts.{text_in}
use Rattle.fjall_table.specs.declared.table_info.TableInfo.{TableInfo}
use Rattle.fjall_table.specs.Blocks.{Entry}
use Rattle.fjall_table_reader.specs.Files.{IsTableOf}
use Rattle.fjall_manifest.specs.declared.reading.LoadedHome.{LoadedHome}
use Rattle.fjall_manifest.specs.Records.{Fields, view}
use Rattle.fjall_manifest.specs.Homes.{HoldTables, Home}
use Rattle.fjall_manifest.specs.Reading.{AreRight}
use Rattle.fjall_meta.specs.declared.living.LivingKeyspace.{LivingKeyspace}
use Rattle.fjall_meta.specs.Keyspaces.{Keyspaces, keyspace_at}
use Rattle.fjall_meta.proofs.Ids.{living_has}
use Rattle.fjall_recovery.specs.declared.folder.RecoveredFolder.{RecoveredFolder}
use Rattle.fjall_recovery.specs.Folders.{Contents, ImageStandsFor, IsFinished, IsOpenable, IsUnfinished, ReadsFolder, ShowsContents}
use Rattle.fjall_recovery.specs.Homes.{AreHomesRead, HasHomeAt, HasOpenableHome, HasVersionsAt, IsHomeRead}
use Rattle.fjall_recovery.specs.Refusals.{FolderRefuses, IsDue}
use Rattle.fjall_recovery.proofs.Alone.{one_openable}
use Rattle.fjall_recovery.proofs.Kept.{open_folder_is_kept}
use Rattle.fjall_recovery.proofs.Housing.{IsHoused, all_housed, last_was_read}
use Rattle.fjall_manifest.specs.Catalog.{listed}
use Rattle.fjall_repair.specs.declared.plan.SweepPlan.{SweepPlan}
use Rattle.fjall_repair.specs.Sweeps.{AreHomesOf, FindsAll, IsSweepPlan, names_of}
use Rattle.fjall_inspect.specs.declared.report.Fault.{Fault}
use Rattle.fjall_inspect.specs.declared.report.Report.{Report}
use Rattle.fjall_inspect.specs.Faults.{AreToldOf, HomeTells, IsSomeTable, TableTells, is_fault}
use Rattle.fjall_inspect.specs.Checks.{HasRightTables, IsClean, IsRight, Passes, Tells, TellsMending, names_read}

-- ---- nothing told

nothing_in : (xs ys : List Fault) → [] ≡ xs ++ ys → (xs ≡ []) × (ys ≡ [])
nothing_in [] ys is = (refl, sym is)
nothing_in (x ∷ xs) ys is = let no : ⊥ = cc in absurd no

module _ {X : Type 0} (Tell : X → List Fault → Type 0) where
  none_told : (xs : List X) → AreToldOf Tell xs [] → AllByRecursion (λ x. Tell x []) xs
  none_told [] told = tt
  none_told (x ∷ xs) (here, behind, is, tells, rest) =
      let parts = nothing_in here behind is in
      (subst (Tell x) parts.0 tells, none_told xs (subst (λ (l : List Fault). AreToldOf Tell xs l) parts.1 rest))

  told_none : (xs : List X) (faults : List Fault) → AllByRecursion (λ x. (gs : List Fault) → Tell x gs → gs ≡ []) xs → AreToldOf Tell xs faults → faults ≡ []
  told_none [] faults clean told = told
  told_none (x ∷ xs) faults (one, all) (here, behind, is, tells, rest) =
      is ∙ ap (λ (l : List Fault). l ++ behind) (one here tells) ∙ told_none xs behind all rest

-- ---- tables

module _ (image : Image) (id : ℕ) where
  silent : (info : TableInfo) → TableTells image id info [] → IsSomeTable info (text_in (image (table_name id info.id)))
  silent info (inl told) = told.0
  silent info (inr told) = absurd (told.some refl)

  lists_of : (tables : List TableInfo) (texts : List (List ℕ)) → HoldTables image id tables texts → AllByRecursion (λ info. TableTells image id info []) tables → (lists : List (List Entry)) × AreRight tables texts lists
  lists_of [] [] hold silents = ([], tt)
  lists_of [] (bytes ∷ texts) hold silents = absurd hold
  lists_of (t ∷ tables) [] hold silents = absurd hold
  lists_of (t ∷ tables) (bytes ∷ texts) hold silents =
      let one = silent t silents.0 in
      let rest = lists_of tables texts hold.1 silents.1 in
      (one.0 ∷ rest.0, (subst (λ (b : List ℕ). IsTableOf t b one.0) hold.0.1 one.1, rest.1))

  clean_tables : (tables : List TableInfo) (texts : List (List ℕ)) (lists : List (List Entry)) → HoldTables image id tables texts → AreRight tables texts lists
      → AllByRecursion (λ info. (gs : List Fault) → TableTells image id info gs → gs ≡ []) tables
  clean_tables [] texts lists hold right = tt
  clean_tables (t ∷ tables) [] lists hold right = absurd hold
  clean_tables (t ∷ tables) (bytes ∷ texts) [] hold right = absurd right
  clean_tables (t ∷ tables) (bytes ∷ texts) (entries ∷ lists) hold right = (one, clean_tables tables texts lists hold.1 right.1)
    where
      some : IsSomeTable t (text_in (image (table_name id t.id)))
      some = (entries, subst (λ (b : List ℕ). IsTableOf t b entries) (sym hold.0.1) right.0)

      one : (gs : List Fault) → TableTells image id t gs → gs ≡ []
      one gs (inl told) = told.1
      one gs (inr told) = absurd (told.wrong some)

-- ---- homes

module _ (image : Image) (id : ℕ) (h : Home) (home : LoadedHome) (has : HasOpenableHome image id h) (read : IsHomeRead image id home) where
  tables_are : (view home.record).tables ≡ h.last.tables
  tables_are = ap (λ (r : Fields). r.tables) (last_was_read image id h home has read)

  tells_as : (gs : List Fault) → HomeTells image home gs → AreToldOf (TableTells image id) h.last.tables gs
  tells_as gs told = subst (λ (l : List TableInfo). AreToldOf (TableTells image id) l gs) tables_are (subst (λ (i : ℕ). AreToldOf (TableTells image i) (view home.record).tables gs) read.loaded.named told)

  home_is_right : HomeTells image home [] → HasRightTables h
  home_is_right told = lists_of image id h.last.tables h.texts has.home.files.tables (none_told (TableTells image id) h.last.tables (tells_as [] told))

  home_is_clean : HasRightTables h → (gs : List Fault) → HomeTells image home gs → gs ≡ []
  home_is_clean right gs told = told_none (TableTells image id) h.last.tables gs (clean_tables image id h.last.tables h.texts right.0 has.home.files.tables right.1) (tells_as gs told)

module _ (image : Image) where
  all_right : (living : List LivingKeyspace) (homes : List LoadedHome) → AreHomesRead image living homes → AllByRecursion (λ home. HomeTells image home []) homes
      → AllByRecursion (λ k. (h : Home) → HasOpenableHome image k.id h → HasRightTables h) living
  all_right [] [] read silents = tt
  all_right [] (home ∷ homes) read silents = absurd read
  all_right (k ∷ living) [] read silents = absurd read
  all_right (k ∷ living) (home ∷ homes) read silents =
      (λ h has. home_is_right image k.id h home has read.0 silents.0, all_right living homes read.1 silents.1)

  all_clean : (living : List LivingKeyspace) (homes : List LoadedHome) → AreHomesRead image living homes → AllByRecursion (λ k. (h : Home) × HasOpenableHome image k.id h × HasRightTables h) living
      → AllByRecursion (λ home. (gs : List Fault) → HomeTells image home gs → gs ≡ []) homes
  all_clean [] [] read right = tt
  all_clean [] (home ∷ homes) read right = absurd read
  all_clean (k ∷ living) [] read right = absurd read
  all_clean (k ∷ living) (home ∷ homes) read right =
      (home_is_clean image k.id right.0.0 home right.0.1 read.0 right.0.2, all_clean living homes read.1 right.1)

  housed_right : (d : Contents) → IsRight image d → (living : List LivingKeyspace) → AllByRecursion (λ k. IsHoused image d.homes k.id) living
      → AllByRecursion (λ k. (h : Home) × HasOpenableHome image k.id h × HasRightTables h) living
  housed_right d right [] housed = tt
  housed_right d right (k ∷ living) housed = ((housed.0.0, housed.0.2, right.tables k.id housed.0.0 housed.0.1), housed_right d right living housed.1)

  -- ---- a folder that was read

  module _ (f : RecoveredFolder) (c : Contents) (finished : IsFinished image f) (openable : IsOpenable image c) (shows : ShowsContents f c) (faults : List Fault) (told : AreToldOf (HomeTells image) f.homes.items faults) where
    pub silence_is_right : faults ≡ [] → IsRight image c
    silence_is_right empty = record { openable = openable; tables = λ id h is. of id h (keyspace_at id c.keyspaces.living) refl (get c.homes id) is (openable.homes id) }
      where
        right : AllByRecursion (λ k. (h : Home) → HasOpenableHome image k.id h → HasRightTables h) c.keyspaces.living
        right =
            subst (λ (s : Keyspaces). AllByRecursion (λ k. (h : Home) → HasOpenableHome image k.id h → HasRightTables h) s.living) shows.keyspaces
            (all_right f.catalog.keyspaces.living f.homes.items finished.homes
            (none_told (HomeTells image) f.homes.items (subst (λ (l : List Fault). AreToldOf (HomeTells image) f.homes.items l) empty told)))

        of : (id : ℕ) (h : Home) (k : Option LivingKeyspace) → keyspace_at id c.keyspaces.living ≡ k → (found : Option Home) → found ≡ Some h → HasHomeAt image id k found → HasRightTables h
        of id h (Some k) at (Some g) is has =
            let same : g ≡ h = cc in
            subst HasRightTables same
            (living_has (λ (i : ℕ). (h : Home) → HasOpenableHome image i h → HasRightTables h) c.keyspaces.living id k at
            (All-from_recursion (λ (k : LivingKeyspace). (h : Home) → HasOpenableHome image k.id h → HasRightTables h) c.keyspaces.living right) g has)
        of id h (Some k) at None is has = absurd has
        of id h None at (Some g) is has = absurd has
        of id h None at None is has = let no : ⊥ = cc in absurd no

    pub right_is_silent : (d : Contents) → IsRight image d → faults ≡ []
    right_is_silent d right =
        let one : f.catalog.keyspaces ≡ d.keyspaces = shows.keyspaces ∙ ap (λ (x : Contents). x.keyspaces) (one_openable image c d openable right.openable) in
        let read = subst (λ (s : Keyspaces). AreHomesRead image s.living f.homes.items) one finished.homes in
        told_none (HomeTells image) f.homes.items faults
        (all_clean d.keyspaces.living f.homes.items read (housed_right d right d.keyspaces.living (all_housed image d.keyspaces.living d.homes right.openable.homes))) told

-- ---- a folder that stands for a store

pub sound_passes : (image : Image) (store : Store) → ImageStandsFor image store → Passes image
sound_passes image store (inr unfinished) = inr unfinished.0
sound_passes image store (inl (c, sound, is)) = inl (c, record { openable = sound.openable; tables = λ id h at. of h (get c.homes id) (get c.versions id) at (sound.versions id) })
  where
    of : (h : Home) (found : Option Home) (versions : Option (List Entry)) → found ≡ Some h → HasVersionsAt found versions → HasRightTables h
    of h (Some g) (Some versions) at has = let same : g ≡ h = cc in subst HasRightTables same (has.lists, has.right)
    of h (Some g) None at has = absurd has
    of h None versions at has = let no : ⊥ = cc in absurd no

-- no folder was made to its end whose making was cut short
whole_or_not : (image : Image) (c : Contents) → IsOpenable image c → IsUnfinished image → ⊥
whole_or_not image c is not = let no = sym is.marker ∙ not.marker in cc

-- ---- homes of the keyspaces that live

rising_ids : (living : List LivingKeyspace) → AllPairs (λ j k. j.id < k.id) living → IsStrictlyIncreasing (map (λ k. k.id) living)
rising_ids [] rise i lt = absurd (omega (arith, lt))
rising_ids (k ∷ living) rise i lt =
    let key : LivingKeyspace → ℕ = λ j. j.id in
    let all : List LivingKeyspace = k ∷ living in
    let next : i + 1 < length all = subst (λ n. i + 1 < n) (length-map all key) lt in
    let here : i < length all = omega (arith, next) in
    let one : get_or (map key all) i 0 ≡ (get_or all i k).id = get_or-map key all i k 0 here in
    let two : get_or (map key all) (i + 1) 0 ≡ (get_or all (i + 1) k).id = get_or-map key all (i + 1) k 0 next in
    let less : (get_or all i k).id < (get_or all (i + 1) k).id = rise i (i + 1) k (omega arith) next in
    omega (arith, one, two, less)

same_ids : (image : Image) (living : List LivingKeyspace) (homes : List LoadedHome) → AreHomesRead image living homes → map (λ h. h.id) homes ≡ map (λ k. k.id) living
same_ids image [] [] read = refl
same_ids image [] (home ∷ homes) read = absurd read
same_ids image (k ∷ living) [] read = absurd read
same_ids image (k ∷ living) (home ∷ homes) read =
    ap (λ (i : ℕ). i ∷ map (λ (h : LoadedHome). h.id) homes) read.0.loaded.named ∙ ap (λ (l : List ℕ). k.id ∷ l) (same_ids image living homes read.1)

pub homes_of : (image : Image) (f : RecoveredFolder) → IsFinished image f → AreHomesOf f.catalog.keyspaces.living f.homes.items
homes_of image f read =
    let are = read.catalog.are in
    record { same = same_ids image f.catalog.keyspaces.living f.homes.items read.homes; some = are.ids; ascending = rising_ids f.catalog.keyspaces.living are.ascending }

-- ---- what a check answers

module _ (old new : DiskState) (same : new ≡ old) (f : RecoveredFolder) (reads : ReadsFolder (standing old) (Some f)) where
  pub read_passes : (r : Result Report Error) → IfOk r (λ report. AreToldOf (HomeTells (standing new)) f.homes.items report.faults.items) → IfOk r (λ report. IsClean report → Passes (standing old))
  read_passes (Ok report) told = λ clean.
      inl (reads.1.0, silence_is_right (standing old) f reads.1.0 reads.0 reads.1.1 reads.1.2 report.faults.items (subst (λ (s : DiskState). AreToldOf (HomeTells (standing s)) f.homes.items report.faults.items) same told) clean.1)
  read_passes (Err error) told = tt

  clean_where : (report : Report) → report.refusal ≡ None → AreToldOf (HomeTells (standing old)) f.homes.items report.faults.items → Passes (standing old) → IsClean report
  clean_where report none told (inl (d, right)) = (none, right_is_silent (standing old) f reads.1.0 reads.0 reads.1.1 reads.1.2 report.faults.items told d right)
  clean_where report none told (inr not) = absurd (whole_or_not (standing old) reads.1.0 reads.1.1 not)

  pub read_is_clean : (r : Result Report Error) → IfOk r (λ report. report.refusal ≡ None) → IfOk r (λ report. AreToldOf (HomeTells (standing new)) f.homes.items report.faults.items) → IfOk r (λ report. Passes (standing old) → IsClean report)
  read_is_clean (Ok report) none told = clean_where report none (subst (λ (s : DiskState). AreToldOf (HomeTells (standing s)) f.homes.items report.faults.items) same told)
  read_is_clean (Err error) none told = tt

  pub read_tells : (r : Result Report Error) → IfOk r (λ report. report.refusal ≡ None) → IfOk r (λ report. AreToldOf (HomeTells (standing new)) f.homes.items report.faults.items) → IfOk r (TellsMending new f)
      → IfOk r (λ report. Tells old report report.refusal)
  read_tells (Ok report) none told mending =
      let whole : Tells old report None = (Some f, reads, subst (λ (s : DiskState). AreToldOf (HomeTells (standing s)) f.homes.items report.faults.items × TellsMending s f report) same (told, mending)) in
      subst (λ (o : Option Error). Tells old report o) (sym none) whole
  read_tells (Err error) none told mending = tt

-- where an opening refuses the folder
module _ (old : DiskState) (error : Error) (refuses : FolderRefuses (standing old) error) where
  none_passes : Passes (standing old) → ⊥
  none_passes (inl (d, right)) = open_folder_is_kept (standing old) (Some d) error right.openable refuses
  none_passes (inr not) = open_folder_is_kept (standing old) None error not refuses

  pub refused_is_clean : (r : Result Report Error) → IfOk r (λ report. Passes (standing old) → IsClean report)
  refused_is_clean (Ok report) = λ passes. absurd (none_passes passes)
  refused_is_clean (Err e) = tt

  pub refused_tells : (r : Result Report Error) → IfOk r (λ report. report.refusal ≡ Some error) → IfOk r (λ report. Tells old report report.refusal)
  refused_tells (Ok report) some = subst (λ (o : Option Error). Tells old report o) (sym some) refuses
  refused_tells (Err e) some = tt

-- what is removed, of the parts of the folder that were read
module _ (old mid : DiskState) (same : mid ≡ old) (f : RecoveredFolder) (tree : List TableInfo) (homes : List LoadedHome) (living : List LivingKeyspace) (ids : List ℕ) (sweep : SweepPlan)
    (tree_is : tree ≡ listed f.catalog.catalog.table) (homes_is : homes ≡ f.homes.items) (living_is : living ≡ f.catalog.keyspaces.living) (ids_is : ids ≡ f.folder_ids.items) where
  pub homes_as : AreHomesOf f.catalog.keyspaces.living f.homes.items → AreHomesOf living homes
  homes_as are = subst (λ (l : List LivingKeyspace). AreHomesOf l homes) (sym living_is) (subst (λ (l : List LoadedHome). AreHomesOf f.catalog.keyspaces.living l) (sym homes_is) are)

  pub sweep_as : IsSweepPlan (names_of tree homes) living sweep → IsSweepPlan (names_read f) f.catalog.keyspaces.living sweep
  sweep_as plan =
      subst (λ (l : List LivingKeyspace). IsSweepPlan (names_read f) l sweep) living_is
      (subst (λ (l : List LoadedHome). IsSweepPlan (names_of (listed f.catalog.catalog.table) l) living sweep) homes_is (subst (λ (l : List TableInfo). IsSweepPlan (names_of l homes) living sweep) tree_is plan))

  pub finds_as : FindsAll mid (names_of tree homes) living ids sweep → FindsAll old (names_read f) f.catalog.keyspaces.living f.folder_ids.items sweep
  finds_as finds =
      subst (λ (s : DiskState). FindsAll s (names_read f) f.catalog.keyspaces.living f.folder_ids.items sweep) same
      (subst (λ (l : List ℕ). FindsAll mid (names_read f) f.catalog.keyspaces.living l sweep) ids_is
      (subst (λ (l : List LivingKeyspace). FindsAll mid (names_read f) l ids sweep) living_is
      (subst (λ (l : List LoadedHome). FindsAll mid (names_of (listed f.catalog.catalog.table) l) living ids sweep) homes_is
      (subst (λ (l : List TableInfo). FindsAll mid (names_of l homes) living ids sweep) tree_is finds))))

-- ---- errors

pub due_cause : (Cause : Error → Type 0) (error : Error) → is_fault error ≡ true → IsDue Cause error → Cause error
due_cause Cause OutOfMemory fault is = let no : false ≡ true = fault in absurd cc
due_cause Cause (Io kind) fault is = let no : false ≡ true = fault in absurd cc
due_cause Cause error fault is = is

pub no_fault_is_due : (error : Error) → is_fault error ≡ false → IsDue (λ e. ⊥) error
no_fault_is_due OutOfMemory fault = tt
no_fault_is_due (Io kind) fault = tt
no_fault_is_due error fault = let no : true ≡ false = fault in absurd cc
