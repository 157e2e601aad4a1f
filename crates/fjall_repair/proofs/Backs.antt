-- What may come back while the marker is written: where what stands is unfinished, nothing that is finished.
use Rattle.std.proofs.Common.{◌≡◌, ◌≢◌, ◌⊎◌, inl, inr, ℕ, ◌<◌, ◌^◌, true, false, List, [], ◌∷◌, ◌++◌, take, map, codes, Result, Ok, Err, refl, sym, ◌∙◌, ap, subst, arith}
use Rattle.std.specs.Prelude.{Contains, OnOk, OnErr}
use Rattle.std.specs.List.{AllByRecursion}
use Rattle.std.specs.Str.{bytes_eq}
use Rattle.std.proofs.lemmas.List.Elements.{recursion_from_All}
use Rattle.fjall_base.specs.declared.error.Error.{Error}
use Rattle.fjall_base.specs.Disk.{Name, DiskEntry, Missing, File, Folder, Place, DiskState, Image, IsFile, Append, Sync, SyncFolder, Meaning, Took, TookOrNot, TookPart, TookCut, alter, all_synced, appended, cut_to, loosened, making, standing, state_in}
use Rattle.fjall_base.proofs.States.{alter-same, put-same, settle-in}
use Rattle.fjall_base.proofs.Names.{bool_cases, same, same_test}
use Rattle.fjall_files.proofs.Changes.{settle-now}
use Rattle.fjall_files.specs.Names.{journal_name}
use Rattle.fjall_recovery.specs.Folders.{Contents, IsOpenable, IsUnfinished}
use Rattle.fjall_recovery.specs.Journals.{WholeJournal}
use Rattle.fjall_recovery.specs.Places.{journal_ids}
use Rattle.fjall_repair.specs.Making.{ComesBackUnfinished, IsKept, MayStand}
use Rattle.fjall_repair.specs.Plans.{AwaitsMarker, empty_journals}
use Rattle.fjall_repair.proofs.Awaiting.{marked_other}
use Rattle.fjall_repair.proofs.Named.{marker_no_journal}
use Rattle.fjall_repair.proofs.Standing.{making_of, some_left, unfinished_of}

-- ---- what stood at a name before

abbrev pub OlderAt : Name → DiskState → DiskState → Type 0
OlderAt name old new = ((new name).older ≡ (old name).older) ⊎ ((new name).older ≡ (old name).older ++ (old name).now ∷ [])

module _ (old new : Meaning) (name : Name) where
  abbrev pub SameOlder : Type 0
  SameOlder = (state_in new name).older ≡ (state_in old name).older

  pub none_older : Took old new [] → SameOlder
  none_older took = ap (λ (s : DiskState). (s name).older) took.state

  altered : (f : DiskEntry → DiskEntry) → (s : DiskState) → (alter s name f name).older ≡ (s name).older
  altered f s = ap (λ (p : Place). p.older) (alter-same s name f)

  pub sync_older : TookOrNot old new (Sync name ∷ []) → SameOlder
  sync_older (inl none) = none_older none
  sync_older (inr took) = ap (λ (s : DiskState). (s name).older) took.state ∙ altered all_synced (state_in old)

  pub append_older : (bytes : List ℕ) → Took old new (Append name bytes ∷ []) → SameOlder
  append_older bytes took = ap (λ (s : DiskState). (s name).older) took.state ∙ altered (appended bytes) (state_in old)

  pub part_older : (bytes : List ℕ) → TookPart old new name bytes → SameOlder
  part_older bytes (inl none) = none_older none
  part_older bytes (inr (n, took)) = append_older (take n bytes) took

  pub cut_older : (len : ℕ) → TookCut old new name len → SameOlder
  cut_older len (inl none) = none_older none
  cut_older len (inr (inl took)) = ap (λ (s : DiskState). (s name).older) took.state ∙ altered (loosened len) (state_in old)
  cut_older len (inr (inr (k, le, took))) = ap (λ (s : DiskState). (s name).older) took.state ∙ altered (cut_to k) (alter (state_in old) name (loosened len)) ∙ altered (loosened len) (state_in old)

  made_at : (entry there : DiskEntry) → Took old new (making name entry there) → OlderAt name (state_in old) (state_in new)
  made_at entry Missing took = inr (ap (λ (s : DiskState). (s name).older) took.state ∙ ap (λ (p : Place). p.older) (put-same (state_in old) name entry))
  made_at entry (File synced unsynced) took = inl (none_older took)
  made_at entry Folder took = inl (none_older took)

  pub made_older : (entry : DiskEntry) → Took old new (making name entry (state_in old name).now) → OlderAt name (state_in old) (state_in new)
  made_older entry took = made_at entry (state_in old name).now took

pub older_then : (old mid new : DiskState) (name : Name) → OlderAt name old mid → (new name).older ≡ (mid name).older → OlderAt name old new
older_then old mid new name (inl same) is = inl (is ∙ same)
older_then old mid new name (inr more) is = inr (is ∙ more)

-- ---- the marker

both : (P : DiskEntry → Type 0) (xs : List DiskEntry) (y : DiskEntry) → AllByRecursion P xs → P y → AllByRecursion P (xs ++ y ∷ [])
both P [] y all is = (is, tt)
both P (x ∷ xs) y all is = (all.0, both P xs y all.1 is)

-- what stood at the marker's name was unfinished
pub older_stands : (old new : DiskState) → IsKept false old → OlderAt (codes "version") old new → AllByRecursion (MayStand false (codes "version")) (new (codes "version")).older
older_stands old new kept (inl same) = subst (AllByRecursion (MayStand false (codes "version"))) (sym same) (kept.older (codes "version"))
older_stands old new kept (inr more) = subst (AllByRecursion (MayStand false (codes "version"))) (sym more) (both (MayStand false (codes "version")) (old (codes "version")).older (old (codes "version")).now (kept.older (codes "version")) (kept.now (codes "version")))

pub settled_older : (mid new : Meaning) (result : Result Unit Error) → OnOk result (Took mid new (SyncFolder [] ∷ [])) → OnErr result (Took mid new []) → AllByRecursion (MayStand false (codes "version")) (state_in mid (codes "version")).older
    → AllByRecursion (MayStand false (codes "version")) (state_in new (codes "version")).older
settled_older mid new (Ok done) ok err all = subst (AllByRecursion (MayStand false (codes "version"))) (sym (ap (λ (s : DiskState). (s (codes "version")).older) ok.state ∙ ap (λ (p : Place). p.older) (settle-in (state_in mid) [] (codes "version") refl))) tt
settled_older mid new (Err e) ok err all = subst (λ (s : DiskState). AllByRecursion (MayStand false (codes "version")) (s (codes "version")).older) (sym err.state) all

-- at another name a whole marker doesn't count
unmarked : (name : Name) (entry : DiskEntry) → name ≢ codes "version" → MayStand true name entry → MayStand false name entry
unmarked name entry not stands = record { marker = λ is. absurd (not is); named = stands.named; journal = stands.journal; folder = stands.folder; records = stands.records }

all_unmarked : (name : Name) (entries : List DiskEntry) → name ≢ codes "version" → AllByRecursion (MayStand true name) entries → AllByRecursion (MayStand false name) entries
all_unmarked name [] not all = tt
all_unmarked name (entry ∷ entries) not all = (unmarked name entry not all.0, all_unmarked name entries not all.1)

pub kept_back : (new : DiskState) → IsKept false new → ComesBackUnfinished new
kept_back new kept image left = unfinished_of image (λ name. some_left false name ((new name).now ∷ (new name).older) (image name) (kept.now name, kept.older name) (left name))

pub marking_back : (new : DiskState) → IsKept true new → AllByRecursion (MayStand false (codes "version")) (new (codes "version")).older → IsUnfinished (standing new) → ComesBackUnfinished new
marking_back new kept older begun = kept_back new (record {
  now = λ name. making_of (standing new) begun name;
  older = λ name. by name (same_or_not name);
})
  where
    same_or_not : (name : Name) → (name ≡ codes "version") ⊎ (name ≢ codes "version")
    same_or_not name = elim (bool_cases (bytes_eq name (codes "version"))) [
      | inl at ↦ inl (same at)
      | inr out ↦ inr (λ is. let yes = subst (λ (n : Name). bytes_eq n (codes "version") ≡ true) (sym is) (same_test (codes "version")) in let no : true ≡ false = sym yes ∙ out in cc)
    ]

    by : (name : Name) → (name ≡ codes "version") ⊎ (name ≢ codes "version") → AllByRecursion (MayStand false name) (new name).older
    by name (inl is) = subst (λ (n : Name). AllByRecursion (MayStand false n) (new n).older) (sym is) older
    by name (inr not) = all_unmarked name (new name).older not (kept.older name)

-- ---- the active journal

last_fits : (front : List WholeJournal) (last : WholeJournal) → AllByRecursion (λ id. id < 2 ^ 64) (map (λ (k : WholeJournal). k.id) (front ++ last ∷ [])) → last.id < 2 ^ 64
last_fits [] last fit = fit.0
last_fits (k ∷ front) last fit = last_fits front last fit.1

-- a folder of which only the marker is missing has a journal
pub active_there : (old new : DiskState) (sealed : List ℕ) (active : ℕ) → AwaitsMarker old sealed active → ((q : Name) → q ≢ codes "version" → (new q).now ≡ (old q).now) → (active < 2 ^ 64) × IsFile (new (journal_name active)).now
active_there old new sealed active awaits elsewhere =
    let not : journal_name active ≢ codes "version" = λ e. marker_no_journal active (sym e) in
    let at = awaits.root.active in
    let j = empty_journals sealed active in (
      last_fits j.sealed (let r : WholeJournal = record { id = j.active; batches = [] } in r) (recursion_from_All (λ id. id < 2 ^ 64) (journal_ids j) awaits.root.fit),
      subst IsFile (sym (elsewhere (journal_name active) not ∙ ap (λ (p : Place). p.now) (sym (marked_other old (journal_name active) not) ∙ at))) tt,
    )

-- and so what stands has one
pub has_some : (image : Image) (c : Contents) (id : ℕ) → id < 2 ^ 64 → IsFile (image (journal_name id)) → IsOpenable image c → c.journals ≡ [] → ⊥
has_some image c id small file sound none =
    let has : Contains [] id = subst (λ (l : List WholeJournal). Contains (map (λ (k : WholeJournal). k.id) l) id) none ((sound.journals.ids.each id).1 (small, file)) in
    let lt = has.1 in
    omega (arith, lt)

pub not_both : (image : Image) (c : Contents) → IsOpenable image c → IsUnfinished image → ⊥
not_both image c sound begun = let no = sym sound.marker ∙ begun.marker in cc

-- a sync of names changes nothing that stands
pub settled_elsewhere : (mid new : Meaning) (result : Result Unit Error) → OnOk result (Took mid new (SyncFolder [] ∷ [])) → OnErr result (Took mid new []) → (q : Name) → (state_in new q).now ≡ (state_in mid q).now
settled_elsewhere mid new (Ok done) ok err q = ap (λ (s : DiskState). (s q).now) ok.state ∙ settle-now (state_in mid) [] q
settled_elsewhere mid new (Err e) ok err q = ap (λ (s : DiskState). (s q).now) err.state
