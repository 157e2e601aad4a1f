-- A folder is refused for one error alone: where it is refused, the first fault in the order of reading is one.
use Rattle.std.proofs.Common.{◌≡◌, ◌≢◌, ◌⊎◌, inl, inr, ℕ, Bool, true, false, List, [], ◌∷◌, drop, map, Result, Err, None, Option, Some, refl, sym, ◌∙◌, ap, subst}
use Rattle.std.specs.Prelude.{unwrap_or}
use Rattle.fjall_base.specs.Disk.{Folder, Image}
use Rattle.fjall_base.specs.Lists.{last_of}
use Rattle.fjall_base.specs.declared.error.Error.{Error}
use Rattle.fjall_base.specs.declared.error.Error.TheVariants.{InvalidTag, JournalRecovery, Storage, Unrecoverable}
use Rattle.fjall_base.specs.declared.error.JournalRecoveryError.{JournalRecoveryError}
use Rattle.fjall_base.specs.declared.error.JournalRecoveryError.TheVariants.{InsufficientLength, TooManyItems, ChecksumMismatch, InvalidFileName, TornTail}
use Rattle.fjall_base.specs.declared.error.StorageError.{StorageError}
use Rattle.fjall_base.specs.declared.error.StorageError.TheVariants.{OptionInvalid, OptionMissing, RecordDamaged, TableDamaged}
use Rattle.fjall_journal.specs.declared.batch.Tail.{Tail}
use Rattle.fjall_journal.specs.declared.batch.Tail.TheVariants.{Clean, Torn, Damaged}
use Rattle.fjall_journal.specs.Batches.{IsTail, Shown, Written, shown}
use Rattle.fjall_journal.specs.Steps.{batch_at}
use Rattle.fjall_journal.proofs.Batches.{some_early, some_goes_on, some_other}
use Rattle.fjall_meta.specs.Replays.{JournalFault, Unordered, Indirect, first_fault, least_after, Names, NamesFault}
use Rattle.fjall_manifest.specs.Records.{Fields, HasContradiction}
use Rattle.fjall_manifest.specs.Homes.{records_text}
use Rattle.fjall_manifest.specs.Reading as home
use Rattle.fjall_manifest.proofs.Openings.{openable_no_damage}
use Rattle.fjall_meta.specs.declared.entry.MetaEntry.{MetaEntry}
use Rattle.fjall_meta.specs.declared.living.LivingKeyspace.{LivingKeyspace}
use Rattle.fjall_meta.specs.Keyspaces.{Keyspaces}
use Rattle.fjall_meta.specs.Reading as reading
use Rattle.fjall_files.specs.declared.marker.Marker.{Marker}
use Rattle.fjall_files.specs.declared.marker.Marker.TheVariants.{Whole, Unfinished}
use Rattle.fjall_files.specs.Marker.{marker_tells}
use Rattle.fjall_files.specs.Names.{keyspace_folder}
use Rattle.fjall_manifest.specs.declared.catalog.Catalog.{Catalog}
use Rattle.fjall_manifest.specs.Catalog.{HoldsEntries, Says, records_in}
use Rattle.fjall_manifest.specs.Refusals.{ArePairsRefused, HasLast, HasNoLast, HasNoTable, IsCatalogDamage}
use Rattle.fjall_manifest.proofs.CatalogMeanings.{held_one, last_one, one_catalog}
use Rattle.fjall_recovery.specs.Folders.{AreMade, marker_bytes}
use Rattle.fjall_recovery.specs.Journals.{ReadsAs, journal_text}
use Rattle.fjall_recovery.specs.Naming.{JournalsAreNamed}
use Rattle.fjall_recovery.specs.Refusals.{AreOne, BegunRefuses, CatalogRefuses, FinishedRefuses, FolderRefuses, HasClearBeyond, HomeRefuses, HomesRefuse, IsDue, JournalsRefuse, KeyspacesRefuse, PartsRefuse, SaysNothing, TailRefuses, TreeRefuses, UnfinishedRefuses, is_last}
use Rattle.fjall_recovery.proofs.Alone.{one_ascending, one_list_of_ids}
use Rattle.fjall_recovery.proofs.Finishing.{due_as}
use Rattle.fjall_recovery.proofs.Kept.{marker_is_kept, one_marker}
use Rattle.fjall_recovery.proofs.Opened.{clean_has_no_damage, held_journals_are_kept, home_is_kept, no_damage_in_nothing, nothing_is_named, same_reading, torn_has_no_damage}

-- ---- one tail

abbrev failed : Tail → Result (Shown × List ℕ) Tail
failed t = Err t

failed_is : (t u : Tail) → failed t ≡ failed u → t ≡ u
failed_is t u e = cc

damaged_at : (bytes : List ℕ) (damage : JournalRecoveryError) → IsTail bytes (Damaged damage) → batch_at bytes ≡ Err (Damaged damage)
unfolding batch_at
damaged_at [] damage is = absurd (no_damage_in_nothing damage is)
damaged_at (b ∷ bytes) InsufficientLength is = some_early (b ∷ bytes) is
damaged_at (b ∷ bytes) TooManyItems is = some_goes_on (b ∷ bytes) is
damaged_at (b ∷ bytes) ChecksumMismatch is = some_other (b ∷ bytes) is
damaged_at (b ∷ bytes) InvalidFileName is = absurd is
damaged_at (b ∷ bytes) TornTail is = absurd is

-- any bytes have one tail
pub one_tail : (bytes : List ℕ) (t u : Tail) → IsTail bytes t → IsTail bytes u → t ≡ u
one_tail bytes Clean Clean a b = refl
one_tail bytes Clean Torn a b = absurd (b.0 a)
one_tail bytes Clean (Damaged damage) a b = absurd (clean_has_no_damage bytes damage a b)
one_tail bytes Torn Clean a b = absurd (a.0 b)
one_tail bytes Torn Torn a b = refl
one_tail bytes Torn (Damaged damage) a b = absurd (torn_has_no_damage bytes damage a b)
one_tail bytes (Damaged damage) Clean a b = absurd (clean_has_no_damage bytes damage b a)
one_tail bytes (Damaged damage) Torn a b = absurd (torn_has_no_damage bytes damage b a)
one_tail bytes (Damaged damage) (Damaged other) a b = failed_is (Damaged damage) (Damaged other) (sym (damaged_at bytes damage a) ∙ damaged_at bytes other b)

one_reading : (text : List ℕ) (batches others : List Written) (tail other : Tail) → ReadsAs text batches tail → ReadsAs text others other → (batches ≡ others) × (tail ≡ other)
one_reading text batches others tail other a b =
    let same = same_reading text batches others tail other a b in
    (same.0, one_tail (drop b.end text) tail other same.1 b.behind)

-- ---- one name

alike_self : (a : Error) → AreOne a a
alike_self (InvalidTag tag) = (refl, refl)
alike_self a = refl

-- equal errors are one
pub alike : (a b : Error) → a ≡ b → AreOne a b
alike a b same = subst (AreOne a) same (alike_self a)

abbrev told_by : Tail → Error
told_by (Damaged damage) = JournalRecovery damage
told_by tail = Unrecoverable

tail_tells : (last : Bool) (tail : Tail) (error : Error) → TailRefuses last tail error → error ≡ told_by tail
tail_tells true (Damaged damage) (JournalRecovery told) is = ap JournalRecovery is
tail_tells false (Damaged damage) (JournalRecovery told) is = ap JournalRecovery is
tail_tells false Torn Unrecoverable is = refl
tail_tells true tail error is = absurd is
tail_tells false tail error is = absurd is

one_of_tail : (last : Bool) (tail : Tail) (a b : Error) → TailRefuses last tail a → TailRefuses last tail b → AreOne a b
one_of_tail last tail a b x y = alike a b (tail_tells last tail a x ∙ sym (tail_tells last tail b y))

clean_is_told : (last : Bool) (tail : Tail) (error : Error) → tail ≡ Clean → TailRefuses last tail error → ⊥
clean_is_told true Clean error clean is = is
clean_is_told false Clean error clean is = is
clean_is_told last Torn error clean is = let no : ⊥ = cc in no
clean_is_told last (Damaged damage) error clean is = let no : ⊥ = cc in no

unordered_tells : (error : Error) → Names error Unordered → error ≡ Unrecoverable
unordered_tells Unrecoverable is = refl
unordered_tells (InvalidTag tag) is = let e = is.0 in cc
unordered_tells error is = absurd is

one_of_fault : (fault : JournalFault) (a b : Error) → Names a fault → Names b fault → AreOne a b
one_of_fault Unordered a b x y = alike a b (unordered_tells a x ∙ sym (unordered_tells b y))
one_of_fault Indirect (InvalidTag tag) (InvalidTag other) x y = (x.1 ∙ sym y.1, x.2 ∙ sym y.2)
one_of_fault Indirect Unrecoverable b x y = let e = x in cc
one_of_fault Indirect a Unrecoverable x y = let e = y in cc
one_of_fault Indirect (InvalidTag tag) b x y = absurd y
one_of_fault Indirect a b x y = absurd x

one_of_faults : (fault : Option JournalFault) (a b : Error) → NamesFault fault a → NamesFault fault b → AreOne a b
one_of_faults None a b x y = absurd x
one_of_faults (Some fault) a b x y = one_of_fault fault a b x y

-- ---- journals

module _ (image : Image) where
  -- why a journal with these batches and this tail is refused, or those behind it
  abbrev Behind : ℕ → List ℕ → List Written → Tail → Error → Type 0
  Behind least ids batches tail error =
      NamesFault (first_fault least (map shown batches)) error
      ⊎ ((first_fault least (map shown batches) ≡ None)
      × (TailRefuses (is_last ids) tail error ⊎ ((tail ≡ Clean) × JournalsRefuse image (least_after least (map shown batches)) ids error)))

  one_behind : (least : ℕ) (ids : List ℕ) (batches : List Written) (tail : Tail) (a b : Error)
      → (JournalsRefuse image (least_after least (map shown batches)) ids a → JournalsRefuse image (least_after least (map shown batches)) ids b → AreOne a b)
      → Behind least ids batches tail a → Behind least ids batches tail b → AreOne a b
  one_behind least ids batches tail a b again (inl x) (inl y) = one_of_faults (first_fault least (map shown batches)) a b x y
  one_behind least ids batches tail a b again (inl x) (inr (none, y)) = absurd (nothing_is_named (first_fault least (map shown batches)) a none x)
  one_behind least ids batches tail a b again (inr (none, x)) (inl y) = absurd (nothing_is_named (first_fault least (map shown batches)) b none y)
  one_behind least ids batches tail a b again (inr (none, inl x)) (inr (nor, inl y)) = one_of_tail (is_last ids) tail a b x y
  one_behind least ids batches tail a b again (inr (none, inl x)) (inr (nor, inr (clean, y))) = absurd (clean_is_told (is_last ids) tail a clean x)
  one_behind least ids batches tail a b again (inr (none, inr (clean, x))) (inr (nor, inl y)) = absurd (clean_is_told (is_last ids) tail b clean y)
  one_behind least ids batches tail a b again (inr (none, inr (clean, x))) (inr (nor, inr (whole, y))) = again x y

  -- journals are refused for one error
  pub one_of_journals : (least : ℕ) (ids : List ℕ) (a b : Error) → JournalsRefuse image least ids a → JournalsRefuse image least ids b → AreOne a b
  one_of_journals least [] a b x y = absurd x
  one_of_journals least (id ∷ ids) a b (batches, tail, reads, x) (others, other, read, y) =
      let same = one_reading (journal_text image id) batches others tail other reads read in
      let moved : Behind least ids batches tail b = subst (λ (l : List Written). Behind least ids l tail b) (sym same.0) (subst (λ (t : Tail). Behind least ids others t b) (sym same.1) y) in
      one_behind least ids batches tail a b (λ p q. one_of_journals (least_after least (map shown batches)) ids a b p q) x moved

  -- ---- keyspaces

  -- where the last record names a table a whole record stands
  has_a_record : (id : ℕ) → home.HasNoRecord (records_text image id) → home.LacksSome image id → ⊥
  has_a_record id none lacks = let no : None ≡ Some lacks.last = sym (ap (λ (l : List Fields). last_of l) (none lacks.records lacks.end lacks.whole)) ∙ lacks.last_is in cc

  -- a home is damaged in one way
  one_home_damage : (id : ℕ) (a b : StorageError) → home.IsDamage image id a → home.IsDamage image id b → a ≡ b
  one_home_damage id RecordDamaged RecordDamaged x y = refl
  one_home_damage id RecordDamaged TableDamaged x y = absurd (has_a_record id x y)
  one_home_damage id TableDamaged RecordDamaged x y = absurd (has_a_record id y x)
  one_home_damage id TableDamaged TableDamaged x y = refl
  one_home_damage id RecordDamaged b x y = absurd y
  one_home_damage id TableDamaged b x y = absurd y
  one_home_damage id a b x y = absurd x

  -- what is wrong with a home
  abbrev HomeIsWrong : ℕ → StorageError → Type 0
  HomeIsWrong id cause = home.IsDamage image id cause ⊎ ((cause ≡ RecordDamaged) × HasClearBeyond image id)

  right_but_for_a_clear : (id : ℕ) (cause : StorageError) → HasClearBeyond image id → home.IsDamage image id cause → ⊥
  right_but_for_a_clear id cause right bad = openable_no_damage image id right.records right.h right.indexes cause right.openable bad

  one_wrong : (id : ℕ) (a b : StorageError) → HomeIsWrong id a → HomeIsWrong id b → a ≡ b
  one_wrong id a b (inl x) (inl y) = one_home_damage id a b x y
  one_wrong id a b (inl x) (inr y) = absurd (right_but_for_a_clear id a y.1 x)
  one_wrong id a b (inr x) (inl y) = absurd (right_but_for_a_clear id b x.1 y)
  one_wrong id a b (inr x) (inr y) = x.0 ∙ sym y.0

  -- the error of a keyspace without a folder, or of one whose home is wrong
  abbrev HomeTells : ℕ → Error → Type 0
  HomeTells id error =
      ((error ≡ Unrecoverable) × (image (keyspace_folder id) ≢ Folder))
      ⊎ ((cause : StorageError) × (error ≡ Storage cause) × (image (keyspace_folder id) ≡ Folder) × HomeIsWrong id cause)

  home_tells : (id : ℕ) (error : Error) → HomeRefuses image id error → HomeTells id error
  home_tells id Unrecoverable is = inl (refl, is)
  home_tells id (Storage cause) is = inr (cause, refl, is.0, is.1)
  home_tells id error is = absurd is

  one_told : (id : ℕ) (a b : Error) → HomeTells id a → HomeTells id b → AreOne a b
  one_told id a b (inl x) (inl y) = alike a b (x.0 ∙ sym y.0)
  one_told id a b (inl x) (inr (cause, is, folder, wrong)) = absurd (x.1 folder)
  one_told id a b (inr (cause, is, folder, wrong)) (inl y) = absurd (y.1 folder)
  one_told id a b (inr (cause, is, folder, wrong)) (inr (other, at, there, bad)) = alike a b (is ∙ ap Storage (one_wrong id cause other wrong bad) ∙ sym at)

  -- keyspaces are refused for one error
  pub one_of_homes : (living : List LivingKeyspace) (a b : Error) → HomesRefuse image living a → HomesRefuse image living b → AreOne a b
  one_of_homes [] a b x y = absurd x
  one_of_homes (k ∷ living) a b (inl x) (inl y) = one_told k.id a b (home_tells k.id a x) (home_tells k.id b y)
  one_of_homes (k ∷ living) a b (inl x) (inr (home, y)) = absurd (home_is_kept image k.id home.0 a home.1 x)
  one_of_homes (k ∷ living) a b (inr (home, x)) (inl y) = absurd (home_is_kept image k.id home.0 b home.1 y)
  one_of_homes (k ∷ living) a b (inr (home, x)) (inr (other, y)) = one_of_homes living a b x y

  -- ---- the catalog

  one_last : (last other : Catalog) → HasLast (records_in image) last → HasLast (records_in image) other → last ≡ other
  one_last last other x y = last_one (records_in image) x.records y.records x.end y.end last other x.whole y.whole x.last_is y.last_is

  one_of_entries : (entries : List MetaEntry) (a b : StorageError) → reading.IsReadingRefusal entries (Storage a) → reading.IsReadingRefusal entries (Storage b) → a ≡ b
  one_of_entries entries a b (ids, are, x) (others, all, y) =
      let same : ids ≡ others = one_ascending ids others are.ascending all.ascending (λ n. ((λ has. (all.each n).1 ((are.each n).0 has)), (λ has. (are.each n).1 ((all.each n).0 has)))) in
      x ∙ ap (λ (l : List ℕ). unwrap_or (reading.first_fault l (reading.pairs_of entries)) OptionInvalid) same ∙ sym y

  -- what the table says is refused with this
  abbrev Misreads : StorageError → Type 0
  Misreads cause = ArePairsRefused image (λ entries. reading.IsReadingRefusal entries (Storage cause))

  entries_held : (a b : StorageError) (x : Misreads a) → (y : Misreads b) → HoldsEntries image x.last.table y.entries
  entries_held a b x y = subst (λ (c : Catalog). HoldsEntries image c.table y.entries) (one_last y.last x.last y.has x.has) y.holds

  abbrev DamageTells : StorageError → Type 0
  DamageTells cause = ((cause ≡ RecordDamaged) × HasNoLast (records_in image)) ⊎ (((cause ≡ TableDamaged) × HasNoTable image) ⊎ Misreads cause)

  damage_tells : (cause : StorageError) → IsCatalogDamage image cause → DamageTells cause
  damage_tells RecordDamaged is = inl (refl, is)
  damage_tells TableDamaged is = inr (inl (refl, is))
  damage_tells OptionMissing is = inr (inr is)
  damage_tells OptionInvalid is = inr (inr is)

  no_table_read : (cause : StorageError) → HasNoTable image → Misreads cause → ⊥
  no_table_read cause x y = x.none y.entries (subst (λ (c : Catalog). HoldsEntries image c.table y.entries) (one_last y.last x.last y.has x.has) y.holds)

  one_of_told : (a b : StorageError) → DamageTells a → DamageTells b → a ≡ b
  one_of_told a b (inl x) (inl y) = x.0 ∙ sym y.0
  one_of_told a b (inl x) (inr (inl y)) = absurd (x.1 y.1.last y.1.has)
  one_of_told a b (inl x) (inr (inr y)) = absurd (x.1 y.last y.has)
  one_of_told a b (inr (inl x)) (inl y) = absurd (y.1 x.1.last x.1.has)
  one_of_told a b (inr (inr x)) (inl y) = absurd (y.1 x.last x.has)
  one_of_told a b (inr (inl x)) (inr (inl y)) = x.0 ∙ sym y.0
  one_of_told a b (inr (inl x)) (inr (inr y)) = absurd (no_table_read b x.1 y)
  one_of_told a b (inr (inr x)) (inr (inl y)) = absurd (no_table_read a y.1 x)
  one_of_told a b (inr (inr x)) (inr (inr y)) =
      let same : y.entries ≡ x.entries = held_one image x.last.table y.entries x.entries (entries_held a b x y) x.holds in
      one_of_entries x.entries a b x.refused (subst (λ (l : List MetaEntry). reading.IsReadingRefusal l (Storage b)) same y.refused)

  -- a catalog is damaged in one way
  pub one_damage : (a b : StorageError) → IsCatalogDamage image a → IsCatalogDamage image b → a ≡ b
  one_damage a b x y = one_of_told a b (damage_tells a x) (damage_tells b y)

  -- why what a catalog says is refused
  abbrev SaidRefuses : Catalog → Keyspaces → Error → Type 0
  SaidRefuses last s error = ((error ≡ Storage TableDamaged) × (AreMade last s → ⊥)) ⊎ (AreMade last s × HomesRefuse image s.living error)

  one_of_said : (last : Catalog) (s : Keyspaces) (a b : Error) → SaidRefuses last s a → SaidRefuses last s b → AreOne a b
  one_of_said last s a b (inl x) (inl y) = alike a b (x.0 ∙ sym y.0)
  one_of_said last s a b (inl x) (inr y) = absurd (x.1 y.0)
  one_of_said last s a b (inr x) (inl y) = absurd (y.1 x.0)
  one_of_said last s a b (inr x) (inr y) = one_of_homes s.living a b x.1 y.1

  abbrev CatalogTells : Error → Type 0
  CatalogTells error =
      ((cause : StorageError) × (error ≡ Storage cause) × IsCatalogDamage image cause × SaysNothing image)
      ⊎ ((records : List Fields) × (last : Catalog) × (s : Keyspaces) × Says image records last s × SaidRefuses last s error)

  catalog_tells : (error : Error) → CatalogRefuses image error → CatalogTells error
  catalog_tells (Storage cause) (inl (bad, silent)) = inl (cause, refl, bad, silent)
  catalog_tells (Storage cause) (inr (records, last, s, says, inl (is, none))) = inr (records, last, s, says, inl (ap Storage is, none))
  catalog_tells (Storage cause) (inr (records, last, s, says, inr (made, refused))) = inr (records, last, s, says, inr (made, refused))
  catalog_tells error refused = inr (refused.0, refused.1, refused.2, refused.3, inr (refused.4, refused.5))

  one_of_catalog_told : (a b : Error) → CatalogTells a → CatalogTells b → AreOne a b
  one_of_catalog_told a b (inl (cause, is, bad, silent)) (inl (other, at, worse, quiet)) = alike a b (is ∙ ap Storage (one_damage cause other bad worse) ∙ sym at)
  one_of_catalog_told a b (inl (cause, is, bad, silent)) (inr (records, last, s, says, y)) = absurd (silent records last s says)
  one_of_catalog_told a b (inr (records, last, s, says, x)) (inl (cause, is, bad, silent)) = absurd (silent records last s says)
  one_of_catalog_told a b (inr (records, last, s, says, x)) (inr (others, other, t, tells, y)) =
      let same = one_catalog image others records other last t s tells says in
      one_of_said last s a b x (subst (λ (k : Keyspaces). SaidRefuses last k b) same.2 (subst (λ (c : Catalog). SaidRefuses c t b) same.1 y))

  one_of_catalog : (a b : Error) → CatalogRefuses image a → CatalogRefuses image b → AreOne a b
  one_of_catalog a b x y = one_of_catalog_told a b (catalog_tells a x) (catalog_tells b y)

  -- ---- a folder that was made to its end

  one_of_tree : (a b : Error) → TreeRefuses image a → TreeRefuses image b → AreOne a b
  one_of_tree a b (inl x) (inl y) = alike a b (x.0 ∙ sym y.0)
  one_of_tree a b (inl x) (inr y) = absurd (x.1 y.0)
  one_of_tree a b (inr x) (inl y) = absurd (y.1 x.0)
  one_of_tree a b (inr x) (inr y) = one_of_catalog a b x.1 y.1

  one_of_keyspaces : (a b : Error) → KeyspacesRefuse image a → KeyspacesRefuse image b → AreOne a b
  one_of_keyspaces a b (inl x) (inl y) = alike a b (x.0 ∙ sym y.0)
  one_of_keyspaces a b (inl x) (inr y) = absurd (x.1 y.0)
  one_of_keyspaces a b (inr x) (inl y) = absurd (y.1 x.0)
  one_of_keyspaces a b (inr x) (inr y) = one_of_tree a b x.1 y.1

  one_of_finished : (a b : Error) → FinishedRefuses image a → FinishedRefuses image b → AreOne a b
  one_of_finished a b (inl (ids, are, x)) (inl (others, all, y)) =
      one_of_journals 0 ids a b x (subst (λ (l : List ℕ). JournalsRefuse image 0 l b) (one_list_of_ids image others ids all are) y)
  one_of_finished a b (inl (ids, are, x)) (inr (held, y)) = absurd (held_journals_are_kept image held.0 ids a held.1 are x)
  one_of_finished a b (inr (held, x)) (inl (ids, are, y)) = absurd (held_journals_are_kept image held.0 ids b held.1 are y)
  one_of_finished a b (inr (held, x)) (inr (other, y)) = one_of_keyspaces a b x y

  -- ---- a folder whose making was cut short

  abbrev BegunTells : Error → Type 0
  BegunTells error =
      ((error ≡ Storage RecordDamaged) × HasContradiction (records_in image))
      ⊎ ((error ≡ Unrecoverable) × (HasContradiction (records_in image) → ⊥))

  begun_tells : (error : Error) → BegunRefuses (records_in image) error → BegunTells error
  begun_tells (Storage RecordDamaged) is = inl (refl, is)
  begun_tells Unrecoverable is = inr (refl, is.0)
  begun_tells error is = absurd is

  one_of_begun_told : (a b : Error) → BegunTells a → BegunTells b → AreOne a b
  one_of_begun_told a b (inl x) (inl y) = alike a b (x.0 ∙ sym y.0)
  one_of_begun_told a b (inl x) (inr y) = absurd (y.1 x.1)
  one_of_begun_told a b (inr x) (inl y) = absurd (x.1 y.1)
  one_of_begun_told a b (inr x) (inr y) = alike a b (x.0 ∙ sym y.0)

  one_of_unfinished : (a b : Error) → UnfinishedRefuses image a → UnfinishedRefuses image b → AreOne a b
  one_of_unfinished a b (inl x) (inl y) = alike a b (x.0 ∙ sym y.0)
  one_of_unfinished a b (inl x) (inr y) = absurd (x.1 y.0)
  one_of_unfinished a b (inr x) (inl y) = absurd (y.1 x.0)
  one_of_unfinished a b (inr (empty, inl x)) (inr (none, inl y)) = alike a b (x.0 ∙ sym y.0)
  one_of_unfinished a b (inr (empty, inl x)) (inr (none, inr y)) = absurd (x.1 y.0)
  one_of_unfinished a b (inr (empty, inr x)) (inr (none, inl y)) = absurd (y.1 x.0)
  one_of_unfinished a b (inr (empty, inr x)) (inr (none, inr y)) = one_of_begun_told a b (begun_tells a x.1) (begun_tells b y.1)

  -- ---- the whole folder

  one_of_parts : (marker : Marker) (a b : Error) → PartsRefuse marker image a → PartsRefuse marker image b → AreOne a b
  one_of_parts Whole a b x y = one_of_finished a b x y
  one_of_parts Unfinished a b x y = one_of_unfinished a b x y

  abbrev NamesRefuse : Marker → Error → Type 0
  NamesRefuse marker error = ((error ≡ JournalRecovery InvalidFileName) × (JournalsAreNamed image → ⊥)) ⊎ (JournalsAreNamed image × PartsRefuse marker image error)

  one_of_names : (marker : Marker) (a b : Error) → NamesRefuse marker a → NamesRefuse marker b → AreOne a b
  one_of_names marker a b (inl x) (inl y) = alike a b (x.0 ∙ sym y.0)
  one_of_names marker a b (inl x) (inr y) = absurd (x.1 y.0)
  one_of_names marker a b (inr x) (inl y) = absurd (y.1 x.0)
  one_of_names marker a b (inr x) (inr y) = one_of_parts marker a b x.1 y.1

told_one : (told : Result Marker Error) (a b : Error) → told ≡ Err a → told ≡ Err b → AreOne a b
told_one told a b x y = let same = sym x ∙ y in let one : a ≡ b = cc in alike a b one

-- a folder is refused for one error
pub one_refusal : (image : Image) (a b : Error) → FolderRefuses image a → FolderRefuses image b → AreOne a b
one_refusal image a b (inl x) (inl y) = told_one (marker_tells (marker_bytes image)) a b x y
one_refusal image a b (inl x) (inr (marker, tells, y)) = absurd (marker_is_kept (marker_tells (marker_bytes image)) marker a tells x)
one_refusal image a b (inr (marker, tells, x)) (inl y) = absurd (marker_is_kept (marker_tells (marker_bytes image)) marker b tells y)
one_refusal image a b (inr (marker, tells, x)) (inr (other, told, y)) =
    let same = one_marker (marker_tells (marker_bytes image)) other marker told tells in
    one_of_names image marker a b x (subst (λ (m : Marker). NamesRefuse image m b) same y)

-- what an opening is due to be refused with is that one error, or want of memory, or a fault of the disk
pub due_once : (image : Image) (error told : Error) → FolderRefuses image error → IsDue (FolderRefuses image) told → IsDue (AreOne error) told
due_once image error told refused is = due_as (FolderRefuses image) (AreOne error) told (λ e found. one_refusal image error e refused found) is
