-- Images at the names of a region.
use Rattle.std.proofs.Common.{◌≡◌, inl, inr, Bool, true, false, List, [], ◌∷◌, refl, sym, ◌∙◌, subst}
use Rattle.std.specs.Str.{bytes_eq}
use Rattle.fjall_base.specs.Disk.{Name, DiskEntry, Missing, Folder, Place, DiskState, Image, Crash, Survives, SomeSurvivesBy, IsImageBy, IsThere, DiskStep, Meaning, state_in, LeavesBy, LeavesOnlyBy, change, all_synced, alter, settle, folder_of}
use Rattle.fjall_files.specs.Regions.{is_under, AreUnder, Within, IsImageIn}
use Rattle.fjall_base.proofs.Names.{bool_cases, same}
use Rattle.fjall_base.proofs.Frames.{replaced, replaced-same, replaced-other}
use Rattle.fjall_base.proofs.Covers.{LeftAt}
use Rattle.fjall_files.proofs.Changes.{SameOutside, step_within, settle_less, sync_less}

module _ {crash : Crash} (region : Name → Bool) where
  pub in_region : (state : DiskState) (image : Image) → IsImageBy crash state image → IsImageIn crash region state image
  in_region state image is = record { kept = λ q at there. is.kept q there; lost = λ q at gone. is.lost q gone }

  -- the frame: what changes outside the region doesn't matter
  pub region_along : (old new : DiskState) (image : Image) → ((q : Name) → region q ≡ true → new q ≡ old q) → IsImageIn crash region new image → IsImageIn crash region old image
  region_along old new image agree is = record { kept = λ q at there. subst (λ (p : Place). LeftAt crash p (image q)) (agree q at) (is.kept q at there); lost = is.lost }

  pub region_narrows : (old new : DiskState) (image : Image) → ((q : Name) (left : DiskEntry) → LeftAt crash (new q) left → LeftAt crash (old q) left) → IsImageIn crash region new image → IsImageIn crash region old image
  region_narrows old new image less is = record { kept = λ q at there. less q (image q) (is.kept q at there); lost = is.lost }

  pub region_settle : (state : DiskState) (folder : Name) (image : Image) → IsImageIn crash region (settle state folder) image → IsImageIn crash region state image
  region_settle state folder image is = region_narrows state (settle state folder) image (settle_less crash state folder) is

  -- what a crash leaves at a name that is synced, in a folder that is there
  pub left_at : (state : DiskState) (image : Image) (q : Name) (entry : DiskEntry) → region q ≡ true → IsImageIn crash region state image → state q ≡ record { now = entry; older = [] } → IsThere image (folder_of q) → crash entry (image q)
  left_at state image q entry in_it is at there =
      let some = subst (λ (p : Place). SomeSurvivesBy crash (p.now ∷ p.older) (image q)) at (is.kept q in_it there) in
      elim some [ inl here ↦ here | inr none ↦ absurd none ]

  -- each image of a run under a folder outside the region is an image of the state before
  pub region_run : (folder : Name) → (folder ≡ [] → ⊥) → ((q : Name) → region q ≡ true → is_under folder q ≡ false) → (old state : DiskState) (steps : List DiskStep) (image : Image) → AreUnder folder steps
      → SameOutside (is_under folder) old state → LeavesBy crash state steps image → IsImageIn crash region old image
  region_run folder some apart old state [] image under outside left = region_along old state image (λ q at. outside q (apart q at)) (in_region state image left)
  region_run folder some apart old state (step ∷ steps) image under outside (inl now) = region_along old state image (λ q at. outside q (apart q at)) (in_region state image now)
  region_run folder some apart old state (step ∷ steps) image under outside (inr later) =
      region_run folder some apart old (change step state) steps image under.1 (λ q out. step_within folder some state step under.0 q out ∙ outside q out) later

  pub leaves_outside : (folder : Name) → (folder ≡ [] → ⊥) → ((q : Name) → region q ≡ true → is_under folder q ≡ false) → (old new : Meaning) (P : Image → Type 0) → Within folder old new
      → ((image : Image) → IsImageIn crash region (state_in old) image → P image) → LeavesOnlyBy crash old new P
  leaves_outside folder some apart old new P run here = record {
    added = run.added;
    took = run.took;
    each = λ image left. here image (region_run folder some apart (state_in old) (state_in old) run.added image run.under (λ q out. refl) left);
  }

  -- a file that is put back, where its folder is there
  pub region_put_back : (old new : DiskState) (image : Image) (name : Name) (entry : DiskEntry) → SameOutside (λ q. bytes_eq q name) old new
      → (image name ≡ Folder → ⊥) → (entry ≡ Folder → ⊥)
      → (IsThere image (folder_of name) → LeftAt crash (old name) entry)
      → ((IsThere image (folder_of name) → ⊥) → entry ≡ Missing)
      → IsImageIn crash region new image → IsImageIn crash region old (replaced image name entry)
  region_put_back old new image name entry outside no_folder no_folder_put here gone is = record {
    kept = λ q in_it stands. elim (bool_cases (bytes_eq q name)) [
      | inl at ↦ let is_name : q ≡ name = same {q = q} {r = name} at in
          subst (λ (n : Name). LeftAt crash (old n) (replaced image name entry n)) (sym is_name) (rw (replaced-same image name entry) (here (subst (λ (n : Name). IsThere image (folder_of n)) is_name (to (folder_of q) stands))))
      | inr out ↦ rw (replaced-other image name entry q out) (subst (λ (p : Place). LeftAt crash p (image q)) (outside q out) (is.kept q in_it (to (folder_of q) stands)))
    ];
    lost = λ q in_it lost. elim (bool_cases (bytes_eq q name)) [
      | inl at ↦ let is_name : q ≡ name = same {q = q} {r = name} at in
          subst (λ (n : Name). replaced image name entry n ≡ Missing) (sym is_name)
          (replaced-same image name entry ∙ gone (λ there. lost (from (folder_of q) (subst (λ (n : Name). IsThere image (folder_of n)) (sym is_name) there))))
      | inr out ↦ replaced-other image name entry q out ∙ is.lost q in_it (λ there. lost (from (folder_of q) there))
    ];
  }
    where
      to : (folder : Name) → IsThere (replaced image name entry) folder → IsThere image folder
      to folder (inl root) = inl root
      to folder (inr stands) = elim (bool_cases (bytes_eq folder name)) [
        | inl at ↦ absurd (no_folder_put (sym (replaced-same image name entry) ∙ subst (λ (n : Name). replaced image name entry n ≡ Folder) (same {q = folder} {r = name} at) stands))
        | inr not ↦ inr (sym (replaced-other image name entry folder not) ∙ stands)
      ]

      from : (folder : Name) → IsThere image folder → IsThere (replaced image name entry) folder
      from folder (inl root) = inl root
      from folder (inr stands) = elim (bool_cases (bytes_eq folder name)) [
        | inl at ↦ absurd (no_folder (subst (λ (n : Name). image n ≡ Folder) (same {q = folder} {r = name} at) stands))
        | inr not ↦ inr (replaced-other image name entry folder not ∙ stands)
      ]

pub region_sync : (region : Name → Bool) (state : DiskState) (name : Name) (image : Image) → IsImageIn Survives region (alter state name all_synced) image → IsImageIn Survives region state image
region_sync region state name image is = region_narrows region state (alter state name all_synced) image (sync_less state name) is
