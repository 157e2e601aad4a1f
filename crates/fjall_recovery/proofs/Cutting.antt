-- What a wild crash leaves is what a usual one may leave, but for bytes behind it.
use Rattle.std.proofs.Common.{◌≡◌, inl, inr, ⊎_elim, ℕ, List, [], ◌∷◌, ◌++◌, take, length, refl, sym, ◌∙◌, ap, subst, append_assoc}
use Rattle.std.specs.List.{flat_map}
use Rattle.std.proofs.lemmas.List.{append-nil, append_cancel_left, take_at}
use Rattle.fjall_base.specs.Disk.{Name, DiskEntry, Missing, File, Folder, DiskState, Image, IsFile, IsThere, IsImage, IsImageBy, Survives, SomeSurvives, SomeSurvivesBy, DiskStep, Leaves, LeavesBy, change, disk_of, folder_of}
use Rattle.fjall_files.specs.Texts.{text_in}
use Rattle.fjall_files.proofs.Tidying.{there_or_not}
use Rattle.fjall_journal.specs.Batches.{IsWritten, batch_text}
use Rattle.fjall_manifest.specs.Records.{IsRecord, record_text}
use Rattle.fjall_recovery.specs.Wild.{IsCutFrom, IsUnforged, NoneForged, SurvivesUnforged}
use Rattle.fjall_recovery.proofs.WildBeginnings.{Common, common}
use Rattle.fjall_recovery.proofs.Covering.{held_alone}

-- ---- one entry

itself : (e : DiskEntry) → IsCutFrom e e
itself e = record {
  file = ((λ f. f), (λ f. f));
  folder = ((λ f. f), (λ f. f));
  rest = [];
  text = sym (append-nil (text_in e));
  unforged = held_alone (text_in e);
}

-- what was held, as far as it is shown too, has all that isn't forged
held_in_common : {A : Type 0} (text_of : A → List ℕ) (Is : A → Type 0) (held shows cut : List ℕ) (c : Common held shows) → cut ≡ c.front → NoneForged text_of Is held shows → NoneForged text_of Is cut shows
held_in_common text_of Is held shows cut c is none some each begins =
    let stood = none some each begins in
    let got = c.most (flat_map text_of some) stood.0 begins.0 stood.1 begins.1 in
    (got.0, is ∙ got.1)

survivor : (entry left : DiskEntry) → SurvivesUnforged entry left → (cut : DiskEntry) × Survives entry cut × IsCutFrom left cut
survivor Missing left is = (left, is, itself left)
survivor Folder left is = (left, is, itself left)
survivor (File synced unsynced) left (bytes, is, unforged) =
    let held = synced ++ unsynced in
    let c = common held (synced ++ bytes) in
    let k = c.most synced unsynced bytes refl refl in
    let behind : unsynced ≡ k.0 ++ c.left = append_cancel_left synced _ _ (c.first ∙ ap (λ (v : List ℕ). v ++ c.left) k.1 ∙ append_assoc synced k.0 c.left) in
    let n = length k.0 in
    let part : take n unsynced ≡ k.0 = ap (take n) behind ∙ take_at k.0 c.left n refl in
    let cut : DiskEntry = File (synced ++ take n unsynced) [] in
    let text : text_in cut ≡ c.front = append-nil (synced ++ take n unsynced) ∙ ap (λ (v : List ℕ). synced ++ v) part ∙ sym k.1 in
    let shown : text_in left ≡ synced ++ bytes = ap (λ (e : DiskEntry). text_in e) is ∙ append-nil (synced ++ bytes) in
    let whole : IsUnforged (text_in cut) (synced ++ bytes) = record {
      batches = held_in_common batch_text IsWritten held (synced ++ bytes) (text_in cut) c text unforged.batches;
      records = held_in_common record_text IsRecord held (synced ++ bytes) (text_in cut) c text unforged.records;
    } in (
      cut,
      (n, refl),
      record {
        file = ((λ f. tt), (λ f. subst IsFile (sym is) tt));
        folder = ((λ f. let no : ⊥ = cc in absurd no), (λ f. let no : ⊥ = cc in absurd no));
        rest = c.right;
        text = shown ∙ c.second ∙ ap (λ (v : List ℕ). v ++ c.right) (sym text);
        unforged = subst (IsUnforged (text_in cut)) (sym shown) whole;
      },
    )

some_survivor : (entries : List DiskEntry) (left : DiskEntry) → SomeSurvivesBy SurvivesUnforged entries left → (cut : DiskEntry) × SomeSurvives entries cut × IsCutFrom left cut
some_survivor [] left none = absurd none
some_survivor (entry ∷ entries) left (inl here) = let s = survivor entry left here in (s.0, inl s.1, s.2)
some_survivor (entry ∷ entries) left (inr later) = let s = some_survivor entries left later in (s.0, inr s.1, s.2)

-- ---- an image

-- An entry of this name that a usual crash may leave, and that is a beginning of that of the wild image.
record Chosen (state : DiskState) (wild : Image) (q : Name) : Type 0 where
  pub cut : DiskEntry
  pub front : IsCutFrom (wild q) cut
  pub kept : IsThere wild (folder_of q) → SomeSurvives ((state q).now ∷ (state q).older) cut
  pub lost : (IsThere wild (folder_of q) → ⊥) → cut ≡ Missing

choose : (state : DiskState) (wild : Image) → IsImageBy SurvivesUnforged state wild → (q : Name) → Chosen state wild q
choose state wild is q = elim (there_or_not wild (folder_of q)) [
  | inl there ↦
      let s = some_survivor ((state q).now ∷ (state q).older) (wild q) (is.kept q there) in
      record { cut = s.0; front = s.2; kept = λ any. s.1; lost = λ gone. absurd (gone there) }
  | inr none ↦ record { cut = wild q; front = itself (wild q); kept = λ there. absurd (none there); lost = λ gone. is.lost q gone }
]

-- a usual crash may leave an image of which each entry is a beginning of that of the wild one
pub cut_image : (state : DiskState) (wild : Image) → IsImageBy SurvivesUnforged state wild → (image : Image) × IsImage state image × ((q : Name) → IsCutFrom (wild q) (image q))
cut_image state wild is =
    let chosen : (q : Name) → Chosen state wild q = choose state wild is in
    let there : (folder : Name) → IsThere (λ q. (chosen q).cut) folder → IsThere wild folder = λ folder there. ⊎_elim (λ root. inl root) (λ stands. inr ((chosen folder).front.folder.1 stands)) there in
    let here : (folder : Name) → IsThere wild folder → IsThere (λ q. (chosen q).cut) folder = λ folder there. ⊎_elim (λ root. inl root) (λ stands. inr ((chosen folder).front.folder.0 stands)) there in (
      (λ q. (chosen q).cut),
      record {
        kept = λ q stands. (chosen q).kept (there (folder_of q) stands);
        lost = λ q gone. (chosen q).lost (λ stands. gone (here (folder_of q) stands));
      },
      λ q. (chosen q).front,
    )

-- and at the same moment
pub cut_amid : (state : DiskState) (steps : List DiskStep) (wild : Image) → LeavesBy SurvivesUnforged state steps wild → (image : Image) × Leaves state steps image × ((q : Name) → IsCutFrom (wild q) (image q))
cut_amid state [] wild is = cut_image state wild is
cut_amid state (step ∷ steps) wild (inl is) = let t = cut_image state wild is in (t.0, inl t.1, t.2)
cut_amid state (step ∷ steps) wild (inr later) = let t = cut_amid (change step state) steps wild later in (t.0, inr t.1, t.2)

-- ---- the wild image itself

survives_itself : (entry left : DiskEntry) → SurvivesUnforged entry left → Survives left left
survives_itself Missing left is = subst (λ (e : DiskEntry). Survives e e) (sym is) refl
survives_itself Folder left is = subst (λ (e : DiskEntry). Survives e e) (sym is) refl
survives_itself (File synced unsynced) left (bytes, is, unforged) =
    subst (λ (e : DiskEntry). Survives e e) (sym is) (0, ap (λ (v : List ℕ). File v []) (sym (append-nil (synced ++ bytes))))

some_itself : (entries : List DiskEntry) (left : DiskEntry) → SomeSurvivesBy SurvivesUnforged entries left → Survives left left
some_itself [] left none = absurd none
some_itself (entry ∷ entries) left (inl here) = survives_itself entry left here
some_itself (entry ∷ entries) left (inr later) = some_itself entries left later

image_itself : (state : DiskState) (wild : Image) → IsImageBy SurvivesUnforged state wild → IsImage (disk_of wild) wild
image_itself state wild is = record {
  kept = λ q there. inl (some_itself ((state q).now ∷ (state q).older) (wild q) (is.kept q there));
  lost = is.lost;
}

-- it is what a usual crash may leave on a disk that it is put on
pub left_itself : (state : DiskState) (steps : List DiskStep) (wild : Image) → LeavesBy SurvivesUnforged state steps wild → IsImage (disk_of wild) wild
left_itself state [] wild is = image_itself state wild is
left_itself state (step ∷ steps) wild (inl is) = image_itself state wild is
left_itself state (step ∷ steps) wild (inr later) = left_itself (change step state) steps wild later
