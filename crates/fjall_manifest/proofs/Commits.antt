-- The record of a change while it is appended, and behind it the home that it names.
use Rattle.std.proofs.Common.{◌≡◌, ◌≢◌, inl, inr, ℕ, ◌<◌, ◌^◌, true, List, [], ◌∷◌, ◌++◌, length, take, codes, decimal, Some, Result, Ok, Err, OnOk, OnErr, refl, sym, ◌∙◌, ap, subst, arith}
use Rattle.std.specs.List.{flat_map, AllByRecursion}
use Rattle.std.proofs.lemmas.List.{append-nil, append_cancel_left, take_all}
use Rattle.fjall_base.specs.declared.error.Error.{Error}
use Rattle.fjall_base.specs.Disk.{Name, DiskEntry, File, Folder, Place, DiskState, Image, IsFile, Survives, Append, Sync, Meaning, Took, TookOrNot, TookPart, LeavesOnly, state_in, alter, appended, all_synced}
use Rattle.fjall_base.specs.Lists.{last_of}
use Rattle.fjall_base.proofs.Codecs.{each_more as one_more}
use Rattle.fjall_base.proofs.Lists.{front_of_part, last_behind}
use Rattle.fjall_base.proofs.Moments.{started, steps_in_part, perhaps_on}
use Rattle.fjall_base.proofs.States.{differs, alter-same, alter-other}
use Rattle.fjall_files.specs.Names.{keyspace_folder, current_name, table_name}
use Rattle.fjall_files.specs.Regions.{IsImageIn, IsSafe}
use Rattle.fjall_files.specs.Texts.{text_in}
use Rattle.fjall_files.proofs.Fitting.{folder_of-current}
use Rattle.fjall_files.proofs.Parts.{in_region, left_at, region_sync}
use Rattle.fjall_files.proofs.Under.{not_its_folder}
use Rattle.fjall_table.specs.declared.table_info.TableInfo.{TableInfo}
use Rattle.fjall_manifest.specs.Records.{Fields, IsRecord, IsRecords, record_text}
use Rattle.fjall_manifest.specs.Homes.{AreSafe, HasHome, Home, IsReady, Rests, only, records_text}
use Rattle.fjall_manifest.specs.Changes.{HasEitherHome, IsHomeWritten}
use Rattle.fjall_manifest.proofs.Naming.{no_current, some_folder}
use Rattle.fjall_manifest.proofs.HomeRecords.{ReadsOld, part_reads, texts-more}
use Rattle.fjall_manifest.proofs.Resting.{IsGiven, all_given, anywhere, crash_home, each_more, folder_left, last_record, safe_along, tables_left}
use Rattle.fjall_manifest.proofs.Views.{image_wider, narrower, usual, usual_region}

no_slash : (rest : List ℕ) → codes "keyspaces" ≡ codes "keyspaces/" ++ rest → ⊥
no_slash rest is = let none : [] ≡ 47 ∷ rest = append_cancel_left (codes "keyspaces") [] (47 ∷ rest) is in cc

module _ (id : ℕ) (small : id < 2 ^ 64) (records : List Fields) (h next : Home) (is_record : IsRecord next.last) where
  abbrev bytes : List ℕ
  bytes = flat_map record_text records

  abbrev text : List ℕ
  text = record_text next.last

  abbrev file : Name
  file = current_name id

  abbrev P : Image → Type 0
  P = HasEitherHome id records h next

  abbrev grown : DiskState → ℕ → DiskState
  grown state n = alter state file (appended (take n text))

  -- ---- what is not appended to

  keyspaces_other : codes "keyspaces" ≢ file
  keyspaces_other e = no_slash (decimal id ++ codes "/current") e

  folder_other : keyspace_folder id ≢ file
  folder_other e = not_its_folder (keyspace_folder id) file (some_folder id) (folder_of-current id) (sym e)

  keeps : (state : DiskState) (n : ℕ) (q : Name) → q ≢ file → grown state n q ≡ state q
  keeps state n q other = alter-other state file (appended (take n text)) q (differs q file other)

  each_table : (old new : DiskState) → ((q : Name) → q ≢ file → new q ≡ old q) → (tables : List TableInfo) → AllByRecursion (λ t. new (table_name id t.id) ≡ old (table_name id t.id)) tables
  each_table old new same [] = tt
  each_table old new same (t ∷ tables) = (same (table_name id t.id) (no_current id t.id), each_table old new same tables)

  safe_still : (old new : DiskState) → ((q : Name) → q ≢ file → new q ≡ old q) → (tables : List TableInfo) (texts : List (List ℕ)) → AreSafe old id tables texts → AreSafe new id tables texts
  safe_still old new same tables texts safe = safe_along old new id tables texts (each_table old new same tables) safe

  -- ---- what a crash leaves meanwhile

  module _ (state : DiskState) (rests : Rests state id records h) (beside : AreSafe state id next.last.tables next.texts) (n : ℕ) (image : Image) (is : IsImageIn Survives anywhere (grown state n) image) where
    there : image (keyspace_folder id) ≡ Folder
    there = folder_left id small anywhere (grown state n) image (usual_region anywhere (grown state n) image is) refl refl (keeps state n (codes "keyspaces") keyspaces_other ∙ rests.keyspaces_folder)
        (keeps state n (keyspace_folder id) folder_other ∙ rests.folder)

    current : (m : ℕ) × (image file ≡ File (bytes ++ take m text) [])
    current =
        let at : grown state n file ≡ only (File bytes (take n text)) =
        alter-same state file (appended (take n text)) ∙ ap (λ (p : Place). let q : Place = record { now = appended (take n text) p.now; older = p.older } in q) rests.current in
        let left = left_at anywhere (grown state n) image file (File bytes (take n text)) refl is at (inr (ap (λ (f : Name). image f) (folder_of-current id) ∙ there)) in
        let front = front_of_part [] text left.0 n in
        (front.0, left.1 ∙ ap (λ (l : List ℕ). File (bytes ++ l) []) front.1)

    always : (tables : List TableInfo) → AllByRecursion (λ t. anywhere (table_name id t.id) ≡ true) tables
    always [] = tt
    always (t ∷ tables) = (refl, always tables)

    left : (rs : List Fields) (d : Home) → IsRecord d.last → AreSafe state id d.last.tables d.texts → ReadsOld rs (bytes ++ take current.0 text) → last_of rs ≡ Some d.last → HasHome image id rs d
    left rs d is_last safe reads last_is =
        let here : records_text image id ≡ bytes ++ take current.0 text = ap (λ (e : DiskEntry). text_in e) current.1 ∙ append-nil (bytes ++ take current.0 text) in
        let fits = each_more (IsGiven d.last.next_table_id) (λ (t : TableInfo). t.id < 2 ^ 64) (λ t given. given.0) d.last.tables (all_given d.last is_last) in
        record {
          folder = there;
          files = record {
            current = subst IsFile (sym current.1) tt;
            end = reads.0;
            whole = subst (λ (l : List ℕ). IsRecords l rs reads.0) (sym here) reads.1;
            last_is = last_is;
            tables = tables_left id small anywhere (grown state n) image (usual_region anywhere (grown state n) image is) d.last.tables d.texts there fits (always d.last.tables)
                (safe_still state (grown state n) (keeps state n) d.last.tables d.texts safe);
          };
        }

    pub either : P image
    either =
        elim (part_reads records next.last current.0 rests.each is_record) [
          | inl old ↦ inl (left records h (last_record state id records h rests) rests.tables old rests.last_is)
          | inr new ↦ inr (left (records ++ next.last ∷ []) next is_record beside new (last_behind records next.last))
        ]

  -- ---- runs

  whole : take (length text) text ≡ text
  whole = take_all (length text) text (omega arith)

  module _ (old : Meaning) (rests : Rests (state_in old) id records h) (beside : AreSafe (state_in old) id next.last.tables next.texts) where
    begin : LeavesOnly old old P
    begin = started old P (λ image is. inl (crash_home (state_in old) image id records h small rests (image_wider (narrower usual) (state_in old) image is)))

    pub in_part : (new : Meaning) → TookPart old new file text → LeavesOnly old new P
    in_part new took = steps_in_part old old new P file text begin took (λ n image is. either (state_in old) rests beside n image (in_region anywhere (grown (state_in old) n) image is))

    appended_whole : (mid : Meaning) → Took old mid (Append file text ∷ []) → LeavesOnly old mid P
    appended_whole mid took = in_part mid (inr (length text, subst (λ (l : List ℕ). Took old mid (Append file l ∷ [])) (sym whole) took))

    synced_or_not : (mid new : Meaning) → Took old mid (Append file text ∷ []) → TookOrNot mid new (Sync file ∷ []) → LeavesOnly old new P
    synced_or_not mid new took sync =
        let at : state_in mid ≡ grown (state_in old) (length text) = took.state ∙ ap (λ (l : List ℕ). alter (state_in old) file (appended l)) (sym whole) in
        perhaps_on old mid new P (Sync file) (appended_whole mid took) sync (λ image is.
        let before : IsImageIn Survives anywhere (state_in mid) image = region_sync anywhere (state_in mid) file image (in_region anywhere (alter (state_in mid) file all_synced) image is) in
        either (state_in old) rests beside (length text) image (subst (λ (state : DiskState). IsImageIn Survives anywhere state image) at before))

    pub committing : (mid new : Meaning) (r : Result Unit Error) → Took old mid (Append file text ∷ []) → OnOk r (Took mid new (Sync file ∷ [])) → OnErr r (TookOrNot mid new (Sync file ∷ [])) → LeavesOnly old new P
    committing mid new (Ok done) took ok err = synced_or_not mid new took (inr ok)
    committing mid new (Err e) took ok err = synced_or_not mid new took err

  -- ---- the next home

  abbrev ended : DiskState → DiskState
  ended state = alter (alter state file (appended text)) file all_synced

  keeps_end : (state : DiskState) (q : Name) → q ≢ file → ended state q ≡ state q
  keeps_end state q other =
      let not_it = differs q file other in
      alter-other (alter state file (appended text)) file all_synced q not_it ∙ alter-other state file (appended text) q not_it

  current_end : (state : DiskState) → Rests state id records h → IsSafe (ended state) file (flat_map record_text (records ++ next.last ∷ []))
  current_end state rests =
      alter-same (alter state file (appended text)) file all_synced
      ∙ ap (λ (p : Place). let q : Place = record { now = all_synced p.now; older = p.older } in q)
      (alter-same state file (appended text) ∙ ap (λ (p : Place). let q : Place = record { now = appended text p.now; older = p.older } in q) rests.current)
      ∙ ap (λ (l : List ℕ). only (File l [])) (sym (texts-more records next.last))

  end_rests : (state : DiskState) → Rests state id records h → AreSafe state id next.last.tables next.texts → Rests (ended state) id (records ++ next.last ∷ []) next
  end_rests state rests beside = record {
    keyspaces_folder = keeps_end state (codes "keyspaces") keyspaces_other ∙ rests.keyspaces_folder;
    folder = keeps_end state (keyspace_folder id) folder_other ∙ rests.folder;
    current = current_end state rests;
    each = one_more IsRecord records next.last rests.each is_record;
    last_is = last_behind records next.last;
    tables = safe_still state (ended state) (keeps_end state) next.last.tables next.texts beside;
  }

  end_ready : (state : DiskState) → IsHomeWritten state id records h next → IsReady (ended state) id (records ++ next.last ∷ []) next
  end_ready state written = record {
    rests = end_rests state written.rests written.tables;
    free = λ table above below. ap (λ (p : Place). p.now) (keeps_end state (table_name id table) (no_current id table)) ∙ written.free table above below;
  }

  at_end : (old mid new : Meaning) → Took old mid (Append file text ∷ []) → Took mid new (Sync file ∷ []) → state_in new ≡ ended (state_in old)
  at_end old mid new took sync = sync.state ∙ ap (λ (state : DiskState). alter state file all_synced) took.state

  pub rested : (old mid new : Meaning) (r : Result Unit Error) → Rests (state_in old) id records h → AreSafe (state_in old) id next.last.tables next.texts → Took old mid (Append file text ∷ [])
      → OnOk r (Took mid new (Sync file ∷ [])) → OnOk r (Rests (state_in new) id (records ++ next.last ∷ []) next)
  rested old mid new (Ok done) rests beside took sync =
      subst (λ (state : DiskState). Rests state id (records ++ next.last ∷ []) next) (sym (at_end old mid new took sync)) (end_rests (state_in old) rests beside)
  rested old mid new (Err e) rests beside took sync = tt

  pub committed : (old mid new : Meaning) (r : Result Unit Error) → IsHomeWritten (state_in old) id records h next → Took old mid (Append file text ∷ []) → OnOk r (Took mid new (Sync file ∷ []))
      → OnOk r (IsReady (state_in new) id (records ++ next.last ∷ []) next)
  committed old mid new (Ok done) written took sync =
      subst (λ (state : DiskState). IsReady state id (records ++ next.last ∷ []) next) (sym (at_end old mid new took sync)) (end_ready (state_in old) written)
  committed old mid new (Err e) written took sync = tt

-- the file of the records is there
pub current_there : (state : DiskState) (id : ℕ) (records : List Fields) (h : Home) → Rests state id records h → IsFile (state (current_name id)).now
current_there state id records h rests = subst (λ (p : Place). IsFile p.now) (sym rests.current) tt
