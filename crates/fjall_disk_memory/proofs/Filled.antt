-- What stands once bytes were put behind those of files.
use Rattle.std.proofs.Common.{◌≡◌, ◌≢◌, inl, inr, ⊎_elim, ℕ, ◌+◌, ◌<◌, Bool, true, false, List, [], ◌∷◌, ◌++◌, take, drop, length, get_or, refl, sym, ◌∙◌, ap, subst, arith, append_assoc, take-append-drop}
use Rattle.std.specs.Prelude.{◌↔◌, IsTrue}
use Rattle.std.specs.Bool.{OnTrue, OnFalse}
use Rattle.std.specs.Borrow.{Bor}
use Rattle.std.proofs.lemmas.List.{take_all, drop_all, map-append, take_more}
use Rattle.std.specs.Str.{bytes_eq}
use Rattle.fjall_base.specs.Disk.{Name, DiskEntry, Missing, File, Folder, Place, DiskState, Image, IsFile, IsThere, IsImageBy, SomeSurvives, SomeSurvivesBy, Survives, SurvivesWild, alter, disk_of, folder_of}
use Rattle.fjall_base.specs.Crash.{IsHoused, crashed}
use Rattle.fjall_base.proofs.Crashes.{is_image}
use Rattle.fjall_base.proofs.Names.{bool_cases, same}
use Rattle.fjall_base.proofs.States.{alter-same, alter-other}
use Rattle.fjall_disk_memory.specs.Wild.{Fills, filled, fills_of, followed, following}

-- ---- one name

-- what is no file stays as it is
followed_other : (bytes : List ℕ) (entry : DiskEntry) → (IsFile entry → ⊥) → followed bytes entry ≡ entry
followed_other bytes Missing none = refl
followed_other bytes (File synced unsynced) none = absurd (none tt)
followed_other bytes Folder none = refl

following-same : (name : Name) (bytes : List ℕ) (image : Image) (q : Name) → bytes_eq q name ≡ true → following name bytes image q ≡ followed bytes (image q)
following-same name bytes image q is = rw is refl

following-other : (name : Name) (bytes : List ℕ) (image : Image) (q : Name) → bytes_eq q name ≡ false → following name bytes image q ≡ image q
following-other name bytes image q not = rw not refl

altered_at : (name : Name) (bytes : List ℕ) (image : Image) (q : Name) → alter (disk_of image) name (followed bytes) q ≡ disk_of (following name bytes image) q
altered_at name bytes image q = elim (bool_cases (bytes_eq q name)) [
  | inl is ↦
      let at : q ≡ name = same {q = q} {r = name} is in
      subst (λ (n : Name). alter (disk_of image) name (followed bytes) n ≡ disk_of (following name bytes image) n) (sym at)
      (alter-same (disk_of image) name (followed bytes) ∙ ap (λ (e : DiskEntry). let p : Place = record { now = e; older = [] } in p) (sym (following-same name bytes image name (subst (λ (n : Name). bytes_eq n name ≡ true) at is))))
  | inr not ↦ alter-other (disk_of image) name (followed bytes) q not ∙ ap (λ (e : DiskEntry). let p : Place = record { now = e; older = [] } in p) (sym (following-other name bytes image q not))
]

kept_at : (name : Name) (bytes : List ℕ) (image : Image) → (IsFile (image name) → ⊥) → (q : Name) → image q ≡ following name bytes image q
kept_at name bytes image none q = elim (bool_cases (bytes_eq q name)) [
  | inl is ↦
      let at : q ≡ name = same {q = q} {r = name} is in
      sym (following-same name bytes image q is ∙ followed_other bytes (image q) (subst (λ (n : Name). IsFile (image n) → ⊥) (sym at) none))
  | inr not ↦ sym (following-other name bytes image q not)
]

was_file : (old : DiskState) (name : Name) (image : Image) → old ≡ disk_of image → (IsTrue false ↔ IsFile (old name).now) → IsFile (image name) → ⊥
was_file old name image at fits file = let bad : false ≡ true = fits.1 (subst (λ (s : DiskState). IsFile (s name).now) (sym at) file) in cc

pub filled_name : (old new : DiskState) (name : Name) (bytes : List ℕ) (image : Image) (done : Bool) → old ≡ disk_of image → OnTrue done (new ≡ alter old name (followed bytes)) → OnFalse done (new ≡ old) → (IsTrue done ↔ IsFile (old name).now)
    → new ≡ disk_of (following name bytes image)
filled_name old new name bytes image true at altered _ fits =
    altered ∙ ap (λ (s : DiskState). alter s name (followed bytes)) at ∙ (λ i q. altered_at name bytes image q i)
filled_name old new name bytes image false at _ same_state fits =
    let stays : image ≡ following name bytes image = λ i q. kept_at name bytes image (was_file old name image at fits) q i in
    same_state ∙ at ∙ ap disk_of stays

-- a file that was added to, all of it synced
pub added_to : (all held bytes : List ℕ) (synced len : ℕ) → all ≡ held ++ bytes → len ≡ length all → File (take len all) (drop len all) ≡ followed bytes (File (take synced held) (drop synced held))
added_to all held bytes synced len is whole =
    let front : take len all ≡ all = take_all len all (omega (arith, whole)) in
    let back : drop len all ≡ [] = drop_all len all (omega (arith, whole)) in
    let behind : all ≡ take synced held ++ (drop synced held ++ bytes) = is ∙ ap (λ (l : List ℕ). l ++ bytes) (sym (take-append-drop synced held)) ∙ append_assoc (take synced held) (drop synced held) bytes in
    ap (λ (l : List ℕ). File l (drop len all)) (front ∙ behind) ∙ ap (λ (l : List ℕ). File (take synced held ++ (drop synced held ++ bytes)) l) back

-- ---- a wild crash

wild_behind : (entry left : DiskEntry) (bytes : List ℕ) → SurvivesWild entry left → SurvivesWild entry (followed bytes left)
wild_behind Missing left bytes is = ap (followed bytes) is
wild_behind (File synced unsynced) left bytes (some, is) =
    (some ++ bytes, ap (followed bytes) is ∙ ap (λ (l : List ℕ). File l []) (append_assoc synced some bytes))
wild_behind Folder left bytes is = ap (followed bytes) is

some_behind : (entries : List DiskEntry) (left : DiskEntry) (bytes : List ℕ) → SomeSurvivesBy SurvivesWild entries left → SomeSurvivesBy SurvivesWild entries (followed bytes left)
some_behind [] left bytes none = none
some_behind (entry ∷ entries) left bytes (inl here) = inl (wild_behind entry left bytes here)
some_behind (entry ∷ entries) left bytes (inr later) = inr (some_behind entries left bytes later)

folder_behind : (bytes : List ℕ) (entry : DiskEntry) → followed bytes entry ≡ Folder → entry ≡ Folder
folder_behind bytes Missing is = cc
folder_behind bytes (File synced unsynced) is = cc
folder_behind bytes Folder is = refl

module _ (state : DiskState) (name : Name) (bytes : List ℕ) (image : Image) (is : IsImageBy SurvivesWild state image) where
  -- at each name what may be left
  each_left : (P : DiskEntry → Type 0) (q : Name) → P (image q) → P (followed bytes (image q)) → P (following name bytes image q)
  each_left P q here behind = elim (bool_cases (bytes_eq q name)) [
    | inl at ↦ subst P (sym (following-same name bytes image q at)) behind
    | inr not ↦ subst P (sym (following-other name bytes image q not)) here
  ]

  there_still : (q : Name) → IsThere (following name bytes image) q → IsThere image q
  there_still q there = ⊎_elim (λ root. inl root)
      (λ stands. inr (each_left (λ e. e ≡ Folder → image q ≡ Folder) q (λ at. at) (folder_behind bytes (image q)) stands)) there

  there_too : (q : Name) → IsThere image q → IsThere (following name bytes image) q
  there_too q there = ⊎_elim (λ root. inl root) (λ stands. inr (each_left (λ e. e ≡ Folder) q stands (ap (followed bytes) stands))) there

  follows_wild : IsImageBy SurvivesWild state (following name bytes image)
  follows_wild = record {
    kept = λ q there.
        let some = is.kept q (there_still (folder_of q) there) in
        each_left (λ e. SomeSurvivesBy SurvivesWild ((state q).now ∷ (state q).older) e) q some (some_behind ((state q).now ∷ (state q).older) (image q) bytes some);
    lost = λ q gone.
        let none = is.lost q (λ there. gone (there_too (folder_of q) there)) in
        each_left (λ e. e ≡ Missing) q none (ap (followed bytes) none);
  }

filled_wild : (state : DiskState) (fills : Fills) (image : Image) → IsImageBy SurvivesWild state image → IsImageBy SurvivesWild state (filled fills image)
filled_wild state [] image is = is
filled_wild state (fill ∷ fills) image is = filled_wild state fills (following fill.0 fill.1 image) (follows_wild state fill.0 fill.1 image is)

wilder : (entry left : DiskEntry) → Survives entry left → SurvivesWild entry left
wilder Missing left is = is
wilder (File synced unsynced) left (n, is) = (take n unsynced, is)
wilder Folder left is = is

some_wilder : (entries : List DiskEntry) (left : DiskEntry) → SomeSurvives entries left → SomeSurvivesBy SurvivesWild entries left
some_wilder [] left none = none
some_wilder (entry ∷ entries) left (inl here) = inl (wilder entry left here)
some_wilder (entry ∷ entries) left (inr later) = inr (some_wilder entries left later)

pub wild_image : (state : DiskState) (fills : Fills) → IsHoused state → IsImageBy SurvivesWild state (filled fills (crashed 0 state))
wild_image state fills housed =
    let usual = is_image 0 state housed in
    filled_wild state fills (crashed 0 state) (record { kept = λ q there. some_wilder ((state q).now ∷ (state q).older) (crashed 0 state q) (usual.kept q there); lost = usual.lost })

-- ---- the folder of each name goes on standing

housed_following : (name : Name) (bytes : List ℕ) (image : Image) → IsHoused (disk_of image) → IsHoused (disk_of (following name bytes image))
housed_following name bytes image housed = record {
  each = λ q stands inner. elim (bool_cases (bytes_eq (folder_of q) name)) [
    | inl at ↦ following-same name bytes image (folder_of q) at ∙ ap (followed bytes) (housed.each q (there q stands) inner)
    | inr not ↦ following-other name bytes image (folder_of q) not ∙ housed.each q (there q stands) inner
  ];
}
  where
    there : (q : Name) → following name bytes image q ≢ Missing → image q ≢ Missing
    there q stands none = elim (bool_cases (bytes_eq q name)) [
      | inl at ↦ stands (following-same name bytes image q at ∙ ap (followed bytes) none)
      | inr not ↦ stands (following-other name bytes image q not ∙ none)
    ]

pub housed_filled : (fills : Fills) (image : Image) → IsHoused (disk_of image) → IsHoused (disk_of (filled fills image))
housed_filled [] image housed = housed
housed_filled (fill ∷ fills) image housed = housed_filled fills (following fill.0 fill.1 image) (housed_following fill.0 fill.1 image housed)

-- ---- a loop

pub filled_more : (fills more : Fills) (image : Image) → filled (fills ++ more) image ≡ filled more (filled fills image)
filled_more [] more image = refl
filled_more (fill ∷ fills) more image = filled_more fills more (following fill.0 fill.1 image)

abbrev pub Given : Type 0
Given = Bor (List ℕ) × Bor (List ℕ)

pub next_filled : (given : List Given) (i : ℕ) (d : Given) (image : Image) → i < length given → filled (fills_of (take (i + 1) given)) image ≡ following (get_or given i d).0.now (get_or given i d).1.now (filled (fills_of (take i given)) image)
next_filled given i d image below =
    ap (λ (l : List Given). filled (fills_of l) image) (take_more given i d below) ∙ ap (λ (l : Fills). filled l image) (map-append (λ (f : Given). (f.0.now, f.1.now)) (take i given) (get_or given i d ∷ []))
    ∙ filled_more (fills_of (take i given)) (fills_of (get_or given i d ∷ [])) image
