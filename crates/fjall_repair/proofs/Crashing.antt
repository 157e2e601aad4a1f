-- What some crash leaves: each file with so many of its unsynced bytes, where the folders that it is in stand.
use Rattle.std.proofs.Common.{◌≡◌, ◌⊎◌, inl, inr, ℕ, zero, suc, ◌≤◌, [], ◌∷◌, length, refl, sym, ◌∙◌, ap, subst, arith}
use Rattle.fjall_base.specs.Disk.{Name, DiskEntry, Missing, File, Folder, DiskState, Image, IsImage, IsThere, Survives, folder_of}
use Rattle.fjall_base.specs.Crash.{keeping}
use Rattle.fjall_files.proofs.Under.{folder_is_shorter}

-- an entry, where its folder stands so
inside : Name → DiskEntry → DiskEntry → DiskEntry
inside [] above entry = entry
inside (c ∷ cs) Folder entry = entry
inside (c ∷ cs) Missing entry = Missing
inside (c ∷ cs) (File synced unsynced) entry = Missing

left_by : ℕ → ℕ → DiskState → Name → DiskEntry
left_by keep zero state q = keeping keep (state q).now
left_by keep (suc n) state q = inside (folder_of q) (left_by keep n state (folder_of q)) (keeping keep (state q).now)

pub left : ℕ → DiskState → Image
left keep state q = left_by keep (length q) state q

short : (q : Name) (n : ℕ) → length q ≤ suc n → length (folder_of q) ≤ n
short q n le = by (folder_of q) refl
  where
    by : (folder : Name) → folder_of q ≡ folder → length (folder_of q) ≤ n
    by [] is = let l = ap length is in omega (arith, l)
    by (c ∷ cs) is = let less = folder_is_shorter (c ∷ cs) q (λ e. cc) is in let l = ap length is in omega (arith, less, l, le)

empty : (q : Name) → length q ≤ 0 → q ≡ []
empty [] le = refl
empty (c ∷ cs) le = absurd (omega (arith, le))

module _ (keep : ℕ) (state : DiskState) where
  at_root : (n : ℕ) → left_by keep n state [] ≡ keeping keep (state []).now
  unfolding left_by inside
  at_root zero = refl
  at_root (suc n) = refl

  -- it depends on no count that is great enough
  stable : (n m : ℕ) (q : Name) → length q ≤ n → length q ≤ m → left_by keep n state q ≡ left_by keep m state q
  unfolding left_by inside
  stable zero m q le le' = let e = empty q le in ap (left_by keep 0 state) e ∙ sym (at_root m) ∙ ap (left_by keep m state) (sym e)
  stable (suc n) zero q le le' = let e = empty q le' in ap (left_by keep (suc n) state) e ∙ sym (at_root 0) ∙ ap (left_by keep 0 state) (sym e)
  stable (suc n) (suc m) q le le' = ap (λ (above : DiskEntry). inside (folder_of q) above (keeping keep (state q).now)) (stable n m (folder_of q) (short q n le) (short q m le'))

  step : (q : Name) → left keep state q ≡ inside (folder_of q) (left keep state (folder_of q)) (keeping keep (state q).now)
  unfolding left left_by inside
  step [] = refl
  step (c ∷ cs) = ap (λ (above : DiskEntry). inside (folder_of (c ∷ cs)) above (keeping keep (state (c ∷ cs)).now)) (stable (length cs) (length (folder_of (c ∷ cs))) (folder_of (c ∷ cs)) (short (c ∷ cs) (length cs) (omega arith)) (omega arith))

  inside_there : (folder : Name) (above entry : DiskEntry) → (folder ≡ []) ⊎ (above ≡ Folder) → inside folder above entry ≡ entry
  unfolding inside
  inside_there [] above entry there = refl
  inside_there (c ∷ cs) above entry (inl root) = let bad : ⊥ = cc in absurd bad
  inside_there (c ∷ cs) above entry (inr stands) = ap (λ (a : DiskEntry). inside (c ∷ cs) a entry) stands

  inside_gone : (folder : Name) (above entry : DiskEntry) → ((folder ≡ []) ⊎ (above ≡ Folder) → ⊥) → inside folder above entry ≡ Missing
  unfolding inside
  inside_gone [] above entry gone = absurd (gone (inl refl))
  inside_gone (c ∷ cs) Folder entry gone = absurd (gone (inr refl))
  inside_gone (c ∷ cs) Missing entry gone = refl
  inside_gone (c ∷ cs) (File synced unsynced) entry gone = refl

  -- a name whose folder is there
  pub left_there : (q : Name) → IsThere (left keep state) (folder_of q) → left keep state q ≡ keeping keep (state q).now
  left_there q there = step q ∙ inside_there (folder_of q) (left keep state (folder_of q)) (keeping keep (state q).now) there

  survives : (entry : DiskEntry) → Survives entry (keeping keep entry)
  survives Missing = refl
  survives (File synced unsynced) = (keep, refl)
  survives Folder = refl

  pub left_is : IsImage state (left keep state)
  left_is = record {
    kept = λ q there. inl (subst (Survives (state q).now) (sym (left_there q there)) (survives (state q).now));
    lost = λ q gone. step q ∙ inside_gone (folder_of q) (left keep state (folder_of q)) (keeping keep (state q).now) gone;
  }
