-- An image with more bytes behind those of one file.
use Rattle.std.proofs.Common.{◌≡◌, inl, inr, ⊎_elim, ℕ, List, [], ◌∷◌, ◌++◌, take, if◌then◌else◌, refl, sym, ◌∙◌, ap, subst, append_assoc}
use Rattle.std.specs.Prelude.{◌↔◌, not}
use Rattle.std.specs.Str.{bytes_eq}
use Rattle.std.proofs.lemmas.List.{append-nil}
use Rattle.fjall_base.specs.Disk.{Name, DiskEntry, Missing, File, Folder, DiskState, Image, IsFile, IsThere, IsImage, IsImageBy, SomeSurvives, SomeSurvivesBy, Survives, folder_of}
use Rattle.fjall_base.proofs.Names.{bool_cases, same, same_test}
use Rattle.fjall_files.specs.Texts.{text_in}
use Rattle.fjall_manifest.proofs.Views.{image_wider}
use Rattle.fjall_recovery.specs.Wild.{IsLongerBy, NoneForged, SurvivesWhere}
use Rattle.fjall_recovery.proofs.Covering.{none_itself, none_of_more, usual_and, usual_where}

-- ---- one entry

-- the entry with these bytes behind its file's
abbrev pub longer : List ℕ → DiskEntry → DiskEntry
longer bytes (File synced unsynced) = File ((synced ++ unsynced) ++ bytes) []
longer bytes entry = entry

file_stays : (bytes : List ℕ) (e : DiskEntry) → IsFile e ↔ IsFile (longer bytes e)
file_stays bytes Missing = ((λ f. f), (λ f. f))
file_stays bytes Folder = ((λ f. f), (λ f. f))
file_stays bytes (File synced unsynced) = ((λ f. f), (λ f. f))

folder_stays : (bytes : List ℕ) (e : DiskEntry) → (e ≡ Folder) ↔ (longer bytes e ≡ Folder)
folder_stays bytes Missing = ((λ f. f), (λ f. f))
folder_stays bytes Folder = ((λ f. f), (λ f. f))
folder_stays bytes (File synced unsynced) = ((λ f. let no : ⊥ = cc in absurd no), (λ f. let no : ⊥ = cc in absurd no))

text_grows : (bytes : List ℕ) (e : DiskEntry) → IsFile e → text_in (longer bytes e) ≡ text_in e ++ bytes
text_grows bytes Missing file = absurd file
text_grows bytes Folder file = absurd file
text_grows bytes (File synced unsynced) file = append-nil ((synced ++ unsynced) ++ bytes)

-- what a usual crash may leave, with bytes behind it that forge nothing
module _ {A : Type 0} (text_of : A → List ℕ) (Is : A → Type 0) (bytes : List ℕ) where
  survives_longer : (entry left : DiskEntry) → NoneForged text_of Is (text_in left) (text_in left ++ bytes) → Survives entry left → SurvivesWhere (NoneForged text_of Is) entry (longer bytes left)
  survives_longer Missing left none is = ap (longer bytes) is
  survives_longer Folder left none is = ap (longer bytes) is
  survives_longer (File synced unsynced) left none (n, is) =
      let kept = synced ++ take n unsynced in
      let shows : text_in left ≡ kept = ap (λ (e : DiskEntry). text_in e) is ∙ append-nil kept in
      let text : (kept ++ []) ++ bytes ≡ synced ++ (take n unsynced ++ bytes) = ap (λ (v : List ℕ). v ++ bytes) (append-nil kept) ∙ append_assoc synced (take n unsynced) bytes in (
        take n unsynced ++ bytes,
        ap (longer bytes) is ∙ ap (λ (v : List ℕ). File v []) text,
        usual_and (NoneForged text_of Is) (none_of_more text_of Is) bytes synced unsynced n (subst (λ (v : List ℕ). NoneForged text_of Is v (v ++ bytes)) shows none),
      )

  some_longer : (entries : List DiskEntry) (left : DiskEntry) → NoneForged text_of Is (text_in left) (text_in left ++ bytes) → SomeSurvives entries left → SomeSurvivesBy (SurvivesWhere (NoneForged text_of Is)) entries (longer bytes left)
  some_longer [] left none some = some
  some_longer (entry ∷ entries) left none (inl here) = inl (survives_longer entry left none here)
  some_longer (entry ∷ entries) left none (inr later) = inr (some_longer entries left none later)

-- ---- an image

-- the image with these bytes behind those of the file of this name
abbrev pub with_more : Image → Name → List ℕ → Image
with_more image name bytes q = if bytes_eq q name then longer bytes (image q) else image q

module _ (image : Image) (name : Name) (bytes : List ℕ) where
  at_name : with_more image name bytes name ≡ longer bytes (image name)
  at_name = rw (same_test name) refl

  pub text_at_name : IsFile (image name) → text_in (with_more image name bytes name) ≡ text_in (image name) ++ bytes
  text_at_name file = ap (λ (e : DiskEntry). text_in e) at_name ∙ text_grows bytes (image name) file

  pub elsewhere : (q : Name) → (q ≡ name → ⊥) → with_more image name bytes q ≡ image q
  elsewhere q other = elim (bool_cases (bytes_eq q name)) [ inl is ↦ absurd (other (same {q = q} {r = name} is)) | inr not ↦ rw not refl ]

  -- what is so of an entry as it was and as it is now
  either : (P : DiskEntry → Type 0) (q : Name) → P (longer bytes (image q)) → P (image q) → P (with_more image name bytes q)
  either P q now was = elim (bool_cases (bytes_eq q name)) [ inl is ↦ rw is now | inr not ↦ rw not was ]

  pub file_at : (q : Name) → IsFile (image q) ↔ IsFile (with_more image name bytes q)
  file_at q = either (λ (e : DiskEntry). IsFile (image q) ↔ IsFile e) q (file_stays bytes (image q)) ((λ f. f), (λ f. f))

  pub folder_at : (q : Name) → (image q ≡ Folder) ↔ (with_more image name bytes q ≡ Folder)
  folder_at q = either (λ (e : DiskEntry). (image q ≡ Folder) ↔ (e ≡ Folder)) q (folder_stays bytes (image q)) ((λ f. f), (λ f. f))

  pub longer_by : IsFile (image name) → IsLongerBy bytes name image (with_more image name bytes)
  longer_by file = record { file = (file_at name).0 file; text = text_at_name file; others = elsewhere }

  there : (folder : Name) → IsThere (with_more image name bytes) folder → IsThere image folder
  there folder stands = ⊎_elim (λ root. inl root) (λ here. inr ((folder_at folder).1 here)) stands

  here : (folder : Name) → IsThere image folder → IsThere (with_more image name bytes) folder
  here folder stands = ⊎_elim (λ root. inl root) (λ there. inr ((folder_at folder).0 there)) stands

  -- where these bytes forge nothing of a kind, a wild crash that forges none of that kind may leave them
  pub left_wildly : {A : Type 0} (text_of : A → List ℕ) (Is : A → Type 0) → NoneForged text_of Is (text_in (image name)) (text_in (image name) ++ bytes) → (state : DiskState) → IsImage state image
      → IsImageBy (SurvivesWhere (NoneForged text_of Is)) state (with_more image name bytes)
  left_wildly text_of Is none state is =
      let wide = image_wider (usual_where (NoneForged text_of Is) (none_of_more text_of Is) (none_itself text_of Is)) state image is in
      record {
        kept = λ q stands.
            let was = there (folder_of q) stands in
            let entries = (state q).now ∷ (state q).older in
            elim (bool_cases (bytes_eq q name)) [
              | inl at ↦
                  let none_at : NoneForged text_of Is (text_in (image q)) (text_in (image q) ++ bytes) = subst (λ (e : Name). NoneForged text_of Is (text_in (image e)) (text_in (image e) ++ bytes)) (sym (same {q = q} {r = name} at)) none in
                  rw at (some_longer text_of Is bytes entries (image q) none_at (is.kept q was))
              | inr not ↦ rw not (wide.kept q was)
            ];
        lost = λ q gone.
            let none_there : image q ≡ Missing = is.lost q (λ was. gone (here (folder_of q) was)) in
            either (λ (e : DiskEntry). e ≡ Missing) q (ap (longer bytes) none_there) none_there;
      }
