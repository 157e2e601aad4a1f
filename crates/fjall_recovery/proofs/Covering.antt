-- What a wild crash leaves of a call in progress, and how the kinds of crashes lie to one another.
use Rattle.std.proofs.Common.{◌≡◌, inl, inr, ℕ, ◌-◌, ◌≤◌, List, [], ◌∷◌, ◌++◌, take, drop, length, sym, ◌∙◌, ap, subst, arith, append_assoc, take-append-drop}
use Rattle.std.specs.List.{flat_map}
use Rattle.std.proofs.lemmas.List.{append-nil, length-take}
use Rattle.fjall_base.specs.Disk.{DiskEntry, Missing, File, Folder, DiskState, Image, Crash, Survives, SurvivesWild, DiskStep, LeavesBy, change}
use Rattle.fjall_base.proofs.Covers.{Grows, Loosens}
use Rattle.fjall_base.proofs.Lists.{take_past}
use Rattle.fjall_journal.specs.Batches.{IsWritten, batch_text}
use Rattle.fjall_manifest.proofs.Views.{image_wider}
use Rattle.fjall_manifest.specs.Records.{IsRecord, record_text}
use Rattle.fjall_recovery.specs.Wild.{IsUnforged, NoneForged, SurvivesUnforged, SurvivesWhere}

-- ---- the more was held the less is forged

pub none_of_more : {A : Type 0} (text_of : A → List ℕ) (Is : A → Type 0) (held more shows : List ℕ) → NoneForged text_of Is held shows → NoneForged text_of Is (held ++ more) shows
none_of_more text_of Is held more shows none some each begins =
    let stood = none some each begins in
    (stood.0 ++ more, ap (λ (v : List ℕ). v ++ more) stood.1 ∙ append_assoc (flat_map text_of some) stood.0 more)

pub none_itself : {A : Type 0} (text_of : A → List ℕ) (Is : A → Type 0) (held : List ℕ) → NoneForged text_of Is held held
none_itself text_of Is held some each begins = begins

pub held_more : (held more shows : List ℕ) → IsUnforged held shows → IsUnforged (held ++ more) shows
held_more held more shows un = record {
  batches = none_of_more batch_text IsWritten held more shows un.batches;
  records = none_of_more record_text IsRecord held more shows un.records;
}

pub held_alone : (held : List ℕ) → IsUnforged held held
held_alone held = record { batches = none_itself batch_text IsWritten held; records = none_itself record_text IsRecord held }

-- ---- views of crashes

short : (len : ℕ) (xs : List ℕ) → length (take len xs) ≤ len
short len xs = omega (arith, length-take len xs)

module _ (IsSo : List ℕ → List ℕ → Type 0) (more : (held behind shows : List ℕ) → IsSo held shows → IsSo (held ++ behind) shows) where
  pub grows_where : Grows (SurvivesWhere IsSo)
  grows_where bytes n Missing left is = is
  grows_where bytes n (File synced unsynced) left (b, is, so) =
      let parts = ap (λ (v : List ℕ). synced ++ v) (append_assoc unsynced (take n bytes) (drop n bytes) ∙ ap (λ (v : List ℕ). unsynced ++ v) (take-append-drop n bytes)) in
      let whole : (synced ++ (unsynced ++ take n bytes)) ++ drop n bytes ≡ synced ++ (unsynced ++ bytes) = append_assoc synced (unsynced ++ take n bytes) (drop n bytes) ∙ parts in
      (b, is, subst (λ (v : List ℕ). IsSo v (synced ++ b)) whole (more (synced ++ (unsynced ++ take n bytes)) (drop n bytes) (synced ++ b) so))
  grows_where bytes n Folder left is = is

  pub loosens_where : Loosens (SurvivesWhere IsSo)
  loosens_where len k Missing left le is = is
  loosens_where len k (File synced unsynced) left le (b, is, so) =
      let xs = take len synced in
      let ys = drop len synced ++ unsynced in
      let front = take k (xs ++ ys) in
      let some = take (k - length xs) ys ++ b in
      let shows : front ++ b ≡ xs ++ some = ap (λ (v : List ℕ). v ++ b) (take_past xs ys k (omega (arith, short len synced, le))) ∙ append_assoc xs (take (k - length xs) ys) b in
      let held : (front ++ []) ++ drop k (xs ++ ys) ≡ xs ++ ys = ap (λ (v : List ℕ). v ++ drop k (xs ++ ys)) (append-nil front) ∙ take-append-drop k (xs ++ ys) in
      let was : IsSo (xs ++ ys) (front ++ b) = subst (λ (v : List ℕ). IsSo v (front ++ b)) held (more (front ++ []) (drop k (xs ++ ys)) (front ++ b) so) in
      (some, is ∙ ap (λ (v : List ℕ). File v []) shows, subst (IsSo (xs ++ ys)) shows was)
  loosens_where len k Folder left le is = is

  -- what a usual crash leaves with bytes behind it of which this is so
  pub usual_and : (bytes synced unsynced : List ℕ) (n : ℕ) → IsSo (synced ++ take n unsynced) ((synced ++ take n unsynced) ++ bytes) → IsSo (synced ++ unsynced) (synced ++ (take n unsynced ++ bytes))
  usual_and bytes synced unsynced n so =
      let kept = synced ++ take n unsynced in
      let held : kept ++ drop n unsynced ≡ synced ++ unsynced = append_assoc synced (take n unsynced) (drop n unsynced) ∙ ap (λ (v : List ℕ). synced ++ v) (take-append-drop n unsynced) in
      subst (IsSo (synced ++ unsynced)) (append_assoc synced (take n unsynced) bytes) (subst (λ (v : List ℕ). IsSo v (kept ++ bytes)) held (more kept (drop n unsynced) (kept ++ bytes) so))

  pub usual_where : ((held : List ℕ) → IsSo held held) → (entry left : DiskEntry) → Survives entry left → SurvivesWhere IsSo entry left
  usual_where itself Missing left is = is
  usual_where itself (File synced unsynced) left (n, is) =
      let kept = synced ++ take n unsynced in
      let so = usual_and [] synced unsynced n (subst (IsSo kept) (sym (append-nil kept)) (itself kept)) in
      (take n unsynced, is, subst (λ (v : List ℕ). IsSo (synced ++ unsynced) (synced ++ v)) (append-nil (take n unsynced)) so)
  usual_where itself Folder left is = is

pub unforged_wild : (entry left : DiskEntry) → SurvivesUnforged entry left → SurvivesWild entry left
unforged_wild Missing left is = is
unforged_wild (File synced unsynced) left (bytes, is, un) = (bytes, is)
unforged_wild Folder left is = is

-- what leaves more of an entry leaves more of a disk at each moment
pub leaves_wider : (crash wide : Crash) → ((entry left : DiskEntry) → crash entry left → wide entry left) → (state : DiskState) (steps : List DiskStep) (image : Image) → LeavesBy crash state steps image → LeavesBy wide state steps image
leaves_wider crash wide to state [] image is = image_wider to state image is
leaves_wider crash wide to state (step ∷ steps) image (inl is) = inl (image_wider to state image is)
leaves_wider crash wide to state (step ∷ steps) image (inr later) = inr (leaves_wider crash wide to (change step state) steps image later)
