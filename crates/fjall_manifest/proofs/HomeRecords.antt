-- Records and a beginning of one more, as a file's bytes.
use Rattle.std.proofs.Common.{◌≡◌, ◌⊎◌, inl, inr, ℕ, List, [], ◌∷◌, ◌++◌, length, take, drop, refl, sym, ◌∙◌, ap, subst, append_assoc, take-append-drop}
use Rattle.std.specs.List.{flat_map, AllByRecursion}
use Rattle.std.proofs.lemmas.List.{append-nil, drop_at}
use Rattle.std.proofs.lemmas.List.Concat.{flat_map-cons}
use Rattle.std.proofs.lemmas.Grind.{flat_map-append}
use Rattle.fjall_base.proofs.Codecs.{each_more}
use Rattle.fjall_manifest.specs.Records.{Fields, IsRecord, IsRecords, body, record_text}
use Rattle.fjall_manifest.proofs.Currents.{cut_reads}

pub texts-more : (records : List Fields) (r : Fields) → flat_map record_text (records ++ r ∷ []) ≡ flat_map record_text records ++ record_text r
texts-more records r = flat_map-append record_text records (r ∷ []) ∙ ap (λ (l : List ℕ). flat_map record_text records ++ l) (flat_map-cons record_text r [] ∙ append-nil (record_text r))

-- the records and a beginning of one more read as the records, or with the one
abbrev pub ReadsOld : List Fields → List ℕ → Type 0
ReadsOld records text = (end : ℕ) × IsRecords text records end

-- what is kept of all and one more has all, or the next text stands whole behind what is kept
kept_parts : (kept gone records : List Fields) (r : Fields) → kept ++ gone ≡ records ++ r ∷ [] → ((kept ≡ records ++ r ∷ []) ⊎ (kept ≡ records)) ⊎ ((x : Fields) × (more : List Fields) × (records ≡ kept ++ x ∷ more))
kept_parts [] [] [] r e = let no : [] ≡ r ∷ [] = e in cc
kept_parts [] (g ∷ gs) [] r e = inl (inr refl)
kept_parts [] gone (x ∷ records) r e = inr (x, records, refl)
kept_parts (k ∷ kept) gone [] r e = inl (inl (front kept gone e))
  where
    front : (kept gone : List Fields) → k ∷ (kept ++ gone) ≡ r ∷ [] → k ∷ kept ≡ r ∷ []
    front [] gone e = let same : k ≡ r = cc in ap (λ (a : Fields). a ∷ []) same
    front (y ∷ ys) gone e = cc
kept_parts (k ∷ kept) gone (x ∷ records) r e =
    let head : k ≡ x = cc in
    let tail : kept ++ gone ≡ records ++ r ∷ [] = cc in
    elim (kept_parts kept gone records r tail) [
      | inl (inl all) ↦ inl (inl (ap (λ (a : Fields). a ∷ kept) head ∙ ap (λ (l : List Fields). x ∷ l) all))
      | inl (inr old) ↦ inl (inr (ap (λ (a : Fields). a ∷ kept) head ∙ ap (λ (l : List Fields). x ∷ l) old))
      | inr some ↦ inr (some.0, some.1, ap (λ (l : List Fields). x ∷ l) some.2 ∙ ap (λ (a : Fields). a ∷ (kept ++ some.0 ∷ some.1)) (sym head))
    ]

pub part_reads : (records : List Fields) (r : Fields) (n : ℕ) → AllByRecursion IsRecord records → IsRecord r
    → ReadsOld records (flat_map record_text records ++ take n (record_text r)) ⊎ ReadsOld (records ++ r ∷ []) (flat_map record_text records ++ take n (record_text r))
part_reads records r n each is =
    let bytes = flat_map record_text records in
    let part = take n (record_text r) in
    let lost = drop n (record_text r) in
    let parts : (bytes ++ part) ++ lost ≡ flat_map record_text (records ++ r ∷ []) =
    append_assoc bytes part lost ∙ ap (λ (l : List ℕ). bytes ++ l) (take-append-drop n (record_text r)) ∙ sym (texts-more records r) in
    let kept = cut_reads (records ++ r ∷ []) (bytes ++ part) lost (each_more IsRecord records r each is) parts in
    elim (kept_parts kept.kept kept.gone records r kept.all) [
      | inl (inl all) ↦ inr (length (flat_map record_text kept.kept), subst (λ (l : List Fields). IsRecords (bytes ++ part) l (length (flat_map record_text kept.kept))) all kept.whole)
      | inl (inr old) ↦ inl (length (flat_map record_text kept.kept), subst (λ (l : List Fields). IsRecords (bytes ++ part) l (length (flat_map record_text kept.kept))) old kept.whole)
      | inr some ↦
          let front = flat_map record_text kept.kept in
          let next : bytes ++ part ≡ front ++ (record_text some.0 ++ (flat_map record_text some.1 ++ part)) =
          ap (λ (l : List Fields). flat_map record_text l ++ part) some.2
          ∙ ap (λ (l : List ℕ). l ++ part) (flat_map-append record_text kept.kept (some.0 ∷ some.1) ∙ ap (λ (l : List ℕ). front ++ l) (flat_map-cons record_text some.0 some.1))
          ∙ append_assoc front (record_text some.0 ++ flat_map record_text some.1) part
          ∙ ap (λ (l : List ℕ). front ++ l) (append_assoc (record_text some.0) (flat_map record_text some.1) part) in
          let behind : drop (length front) (bytes ++ part) ≡ record_text some.0 ++ (flat_map record_text some.1 ++ part) =
          ap (λ (l : List ℕ). drop (length front) l) next ∙ drop_at front (record_text some.0 ++ (flat_map record_text some.1 ++ part)) (length front) refl in
          let is_one : IsRecord some.0 = middle kept.kept some.0 some.1 (subst (λ (l : List Fields). AllByRecursion IsRecord l) some.2 each) in
          absurd (kept.whole.last (body some.0) (flat_map record_text some.1 ++ part) is_one.fits.len behind)
    ]
  where
    middle : (xs : List Fields) (x : Fields) (ys : List Fields) → AllByRecursion IsRecord (xs ++ x ∷ ys) → IsRecord x
    middle [] x ys each = each.0
    middle (y ∷ xs) x ys each = middle xs x ys each.1
