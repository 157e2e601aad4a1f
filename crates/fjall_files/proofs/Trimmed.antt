-- What a crash leaves of a file while it is cut or synced.
use Rattle.std.proofs.Common.{◌≡◌, ◌≢◌, ◌⊎◌, inl, inr, ⊎_elim, ℕ, ◌+◌, ◌≤◌, Bool, true, false, List, [], ◌∷◌, ◌++◌, take, drop, length, Result, Ok, Err, refl, sym, ◌∙◌, ap, subst, arith, append_assoc, take-append-drop}
use Rattle.std.proofs.lemmas.List.{take_all, drop_all, take-append-le, drop-append-le}
use Rattle.std.proofs.lemmas.Bool.{true≢false}
use Rattle.std.proofs.lemmas.Bool.Decides.{nat_tests}
use Rattle.std.proofs.Math.Seq.{take-add}
use Rattle.std.specs.Prelude.{nat_le, OnOk, OnErr}
use Rattle.std.specs.Str.{bytes_eq}
use Rattle.fjall_base.specs.declared.error.Error.{Error}
use Rattle.fjall_base.specs.Disk.{Name, DiskEntry, Missing, File, Folder, Place, DiskState, Image, Survives, SomeSurvives, IsImage, IsThere, Sync, Loosen, Cut, Meaning, Took, TookOrNot, TookCut, LeavesOnly, change, alter, all_synced, loosened, cut_to, folder_of, state_in}
use Rattle.fjall_base.proofs.States.{differs, alter-same, alter-other}
use Rattle.fjall_base.proofs.Frames.{replaced, replaced-same, replaced-other}
use Rattle.fjall_base.proofs.Covers.{LeftAt, loosens, cut_failed}
use Rattle.fjall_base.proofs.Moments.{started, perhaps_on}
use Rattle.fjall_files.specs.Regions.{IsImageIn}
use Rattle.fjall_files.specs.Trims.{IsTrimmed, ended_place}
use Rattle.fjall_base.proofs.Names.{bool_cases, same}
use Rattle.fjall_files.proofs.Tidying.{there_or_not}
use Rattle.fjall_files.proofs.Parts.{in_region, region_sync, region_put_back}

-- ---- whole images are images in the region of all names

abbrev everywhere : Name → Bool
everywhere q = true

to_region : (state : DiskState) (image : Image) → IsImage state image → IsImageIn Survives everywhere state image
to_region state image is = in_region everywhere state image is

from_region : (state : DiskState) (image : Image) → IsImageIn Survives everywhere state image → IsImage state image
from_region state image is = record { kept = λ q there. is.kept q refl there; lost = λ q gone. is.lost q refl gone }

-- what a crash leaves of a synced file it might have left before the sync
pub synced_image : (state : DiskState) (name : Name) (image : Image) → IsImage (change (Sync name) state) image → IsImage state image
synced_image state name image is = from_region state image (region_sync everywhere state name image (to_region (alter state name all_synced) image is))

-- ---- the whole image stands beside itself

pub untrimmed : (state : DiskState) (name : Name) (len : ℕ) (image : Image) → IsImage state image → IsTrimmed state name len image
untrimmed state name len image is = record { whole = image; is = is; elsewhere = λ q not. refl; here = inl refl }

-- ---- a file that is loosened

-- of a loosened file a crash leaves its first bytes and more of them, or what it left of it before
left_loosened : (len : ℕ) (entry left : DiskEntry) → Survives (loosened len entry) left
    → Survives entry left ⊎ ((bytes : List ℕ) × (k : ℕ) × (len ≤ k) × Survives entry (File bytes []) × (left ≡ File (take k bytes) []))
left_loosened len Missing left is = inl is
left_loosened len Folder left is = inl is
left_loosened len (File synced unsynced) left (n, is) = elim (bool_cases (nat_le len (length synced))) [
  | inl within ↦
      let le : len ≤ length synced = at_most len (length synced) within in
      let bytes : take len synced ++ take n (drop len synced ++ unsynced) ≡ take (len + n) (synced ++ unsynced) =
      ap (λ (l : List ℕ). l ++ take n (drop len synced ++ unsynced)) (sym (take-append-le len synced unsynced le))
      ∙ ap (λ (l : List ℕ). take len (synced ++ unsynced) ++ take n l) (sym (drop-append-le len synced unsynced le)) ∙ sym (take-add len n (synced ++ unsynced)) in
      inr (synced ++ unsynced, len + n, omega arith, all_survives synced unsynced, is ∙ ap (λ (l : List ℕ). File l []) bytes)
  | inr without ↦
      let gt : length synced ≤ len = above len (length synced) without in
      inl (n, is ∙ ap (λ (l : List ℕ). File (l ++ take n (drop len synced ++ unsynced)) []) (take_all len synced gt) ∙ ap (λ (l : List ℕ). File (synced ++ take n (l ++ unsynced)) []) (drop_all len synced gt))
]
  where
    at_most : (n m : ℕ) → nat_le n m ≡ true → n ≤ m
    at_most n m test = grind (arith, nat_tests)

    above : (n m : ℕ) → nat_le n m ≡ false → m ≤ n
    above n m test = grind (arith, nat_tests)

    all_survives : (synced unsynced : List ℕ) → Survives (File synced unsynced) (File (synced ++ unsynced) [])
    all_survives synced unsynced = (length unsynced, ap (λ (l : List ℕ). File (synced ++ l) []) (sym (take_all (length unsynced) unsynced (omega arith))))

-- the place of a loosened file
loosened_place : (state : DiskState) (name : Name) (len : ℕ) → alter state name (loosened len) name ≡ record { now = loosened len (state name).now; older = (state name).older }
loosened_place state name len = alter-same state name (loosened len)

-- an image of a loosened file that is one of the file as it was, where what stands at the name might have been left
as_before : (state : DiskState) (name : Name) (len : ℕ) (image : Image) → IsImage (alter state name (loosened len)) image → (IsThere image (folder_of name) → LeftAt Survives (state name) (image name)) → IsImage state image
as_before state name len image is here = record {
  kept = λ q there. elim (bool_cases (bytes_eq q name)) [
    | inl at ↦ let is_name : q ≡ name = same {q = q} {r = name} at in
        subst (λ (n : Name). LeftAt Survives (state n) (image n)) (sym is_name) (here (subst (λ (n : Name). IsThere image (folder_of n)) is_name there))
    | inr not ↦ subst (λ (p : Place). LeftAt Survives p (image q)) (alter-other state name (loosened len) q not) (is.kept q there)
  ];
  lost = is.lost;
}

pub loosened_image : (state : DiskState) (name : Name) (len : ℕ) (image : Image) → IsImage (change (Loosen name len) state) image → IsTrimmed state name len image
loosened_image state name len image is = ⊎_elim (λ there. by_place there (subst (λ (p : Place). LeftAt Survives p (image name)) (loosened_place state name len) (is.kept name there))) (λ gone. untrimmed state name len image (as_before state name len image is (λ there. absurd (gone there)))) (there_or_not image (folder_of name))
  where
    older_left : (was : SomeSurvives (state name).older (image name)) → IsTrimmed state name len image
    older_left was = untrimmed state name len image (as_before state name len image is (λ there. inr was))

    cut_left : IsThere image (folder_of name) → ((bytes : List ℕ) × (k : ℕ) × (len ≤ k) × Survives (state name).now (File bytes []) × (image name ≡ File (take k bytes) [])) → IsTrimmed state name len image
    cut_left there (bytes, k, le, survives, left) =
        let no_folder : image name ≡ Folder → ⊥ = λ e. (let no : File (take k bytes) [] ≡ Folder = sym left ∙ e in cc) in
        let put = region_put_back everywhere state (alter state name (loosened len)) image name (File bytes []) (λ q out. alter-other state name (loosened len) q out) no_folder (λ e. cc) (λ _. inl survives) (λ gone. absurd (gone there))
        (to_region (alter state name (loosened len)) image is) in
        record {
          whole = replaced image name (File bytes []);
          is = from_region state (replaced image name (File bytes [])) put;
          elsewhere = λ q not. sym (replaced-other image name (File bytes []) q (differs q name not));
          here = inr (bytes, k, le, replaced-same image name (File bytes []), left);
        }

    by_place : IsThere image (folder_of name) → LeftAt Survives (record { now = loosened len (state name).now; older = (state name).older }) (image name) → IsTrimmed state name len image
    by_place there (inl now) = ⊎_elim (λ same_left. untrimmed state name len image (as_before state name len image is (λ _. inl same_left))) (λ some. cut_left there some) (left_loosened len (state name).now (image name) now)
    by_place there (inr was) = older_left was

-- a file that was loosened is cut as it would have been before
cut_loosened : (len : ℕ) (entry : DiskEntry) → cut_to len (loosened len entry) ≡ cut_to len entry
cut_loosened len Missing = refl
cut_loosened len Folder = refl
cut_loosened len (File synced unsynced) = ap (λ (l : List ℕ). File (take len l) []) (sym (append_assoc (take len synced) (drop len synced) unsynced) ∙ ap (λ (l : List ℕ). l ++ unsynced) (take-append-drop len synced))

-- ---- the call

module _ (old new : Meaning) (file : Name) (len : ℕ) where
  begun : LeavesOnly old old (IsTrimmed (state_in old) file len)
  begun = started old (IsTrimmed (state_in old) file len) (λ image is. untrimmed (state_in old) file len image is)

  pub cut_leaves : TookCut old new file len → LeavesOnly old new (IsTrimmed (state_in old) file len)
  cut_leaves took = cut_failed Survives loosens old old new (IsTrimmed (state_in old) file len) file len begun took (λ image is. loosened_image (state_in old) file len image is)

  pub sync_leaves : TookOrNot old new (Sync file ∷ []) → LeavesOnly old new (IsTrimmed (state_in old) file len)
  sync_leaves took = perhaps_on old old new (IsTrimmed (state_in old) file len) (Sync file) begun took (λ image is. untrimmed (state_in old) file len image (synced_image (state_in old) file image is))

  pub any_cut : (result : Result Unit Error) → OnOk result (Took old new (Loosen file len ∷ Cut file len ∷ [])) → OnErr result (TookCut old new file len) → LeavesOnly old new (IsTrimmed (state_in old) file len)
  any_cut (Ok done) ok err = cut_leaves (inr (inr (len, omega arith, ok)))
  any_cut (Err e) ok err = cut_leaves err

  pub any_sync : (result : Result Unit Error) → OnOk result (Took old new (Sync file ∷ [])) → OnErr result (TookOrNot old new (Sync file ∷ [])) → LeavesOnly old new (IsTrimmed (state_in old) file len)
  any_sync (Ok done) ok err = sync_leaves (inr ok)
  any_sync (Err e) ok err = sync_leaves err

  pub cut_place : (result : Result Unit Error) → OnOk result (Took old new (Loosen file len ∷ Cut file len ∷ [])) → OnOk result (state_in new file ≡ ended_place true len (state_in old file))
  cut_place (Ok done) took =
      ap (λ (s : DiskState). s file) took.state ∙ alter-same (alter (state_in old) file (loosened len)) file (cut_to len)
      ∙ ap (λ (p : Place). record { now = cut_to len p.now; older = p.older }) (alter-same (state_in old) file (loosened len))
      ∙ ap (λ (e : DiskEntry). record { now = e; older = (state_in old file).older }) (cut_loosened len (state_in old file).now)
  cut_place (Err e) took = tt

  pub cut_place_as : (cut : Bool) → cut ≡ true → (result : Result Unit Error) → OnOk result (Took old new (Loosen file len ∷ Cut file len ∷ [])) → OnOk result (state_in new file ≡ ended_place cut len (state_in old file))
  cut_place_as true is result took = cut_place result took
  cut_place_as false is result took = absurd (true≢false (sym is))

  pub sync_place : (result : Result Unit Error) → OnOk result (Took old new (Sync file ∷ [])) → OnOk result (state_in new file ≡ ended_place false len (state_in old file))
  sync_place (Ok done) took = ap (λ (s : DiskState). s file) took.state ∙ alter-same (state_in old) file all_synced
  sync_place (Err e) took = tt

  pub sync_place_as : (cut : Bool) → cut ≡ false → (result : Result Unit Error) → OnOk result (Took old new (Sync file ∷ [])) → OnOk result (state_in new file ≡ ended_place cut len (state_in old file))
  sync_place_as false is result took = sync_place result took
  sync_place_as true is result took = absurd (true≢false is)

  sync_other : (q : Name) → q ≢ file → TookOrNot old new (Sync file ∷ []) → state_in new q ≡ state_in old q
  sync_other q not (inl none) = ap (λ (s : DiskState). s q) none.state
  sync_other q not (inr took) = ap (λ (s : DiskState). s q) took.state ∙ alter-other (state_in old) file all_synced q (differs q file not)

  cut_other : (q : Name) → q ≢ file → TookCut old new file len → state_in new q ≡ state_in old q
  cut_other q not (inl none) = ap (λ (s : DiskState). s q) none.state
  cut_other q not (inr (inl loose)) = ap (λ (s : DiskState). s q) loose.state ∙ alter-other (state_in old) file (loosened len) q (differs q file not)
  cut_other q not (inr (inr (k, le, cut))) = ap (λ (s : DiskState). s q) cut.state ∙ alter-other (alter (state_in old) file (loosened len)) file (cut_to k) q (differs q file not) ∙ alter-other (state_in old) file (loosened len) q (differs q file not)

  pub after_sync : (result : Result Unit Error) → OnOk result (Took old new (Sync file ∷ [])) → OnErr result (TookOrNot old new (Sync file ∷ [])) → (q : Name) → q ≢ file → state_in new q ≡ state_in old q
  after_sync (Ok done) ok err q not = sync_other q not (inr ok)
  after_sync (Err e) ok err q not = sync_other q not err

  pub after_cut : (result : Result Unit Error) → OnOk result (Took old new (Loosen file len ∷ Cut file len ∷ [])) → OnErr result (TookCut old new file len) → (q : Name) → q ≢ file → state_in new q ≡ state_in old q
  after_cut (Ok done) ok err q not = cut_other q not (inr (inr (len, omega arith, ok)))
  after_cut (Err e) ok err q not = cut_other q not err
