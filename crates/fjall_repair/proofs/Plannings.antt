-- What is found of a folder before its making goes on.
use Rattle.std.proofs.Common.{◌≡◌, ◌≢◌, inl, inr, ℕ, ◌+◌, ◌-◌, ◌<◌, ◌≤◌, ◌^◌, List, [], ◌∷◌, ◌++◌, length, get_or, map, codes, refl, sym, ◌∙◌, ap, subst, arith, lit<}
use Rattle.std.specs.Prelude.{Contains, string_bytes}
use Rattle.std.proofs.lemmas.Bool.{cases_lt}
use Rattle.std.proofs.lemmas.List.{get_or_default, length-append}
use Rattle.std.proofs.lemmas.List.Kept.{AllPairs-from_increasing}
use Rattle.std.proofs.Math.Seq.{get_or-append_right}
use Rattle.std.proofs.lemmas.List.Elements.{All-cons, All-nil}
use Rattle.fjall_base.specs.declared.error.FormatVersion.TheVariants.{V3}
use Rattle.fjall_base.specs.Disk.{Image, Name}
use Rattle.fjall_files.specs.Texts.{text_in}
use Rattle.fjall_files.specs.Marker.{header}
use Rattle.fjall_files.specs.Names.{journal_name}
use Rattle.fjall_manifest.proofs.CatalogNaming.{current_zero}
use Rattle.fjall_recovery.specs.Journals.{AreJournalIds}
use Rattle.fjall_repair.specs.declared.beginning.plan.FileState.{FileState}
use Rattle.fjall_repair.specs.declared.beginning.plan.BeginPlan.{BeginPlan}
use Rattle.fjall_repair.specs.Begun.{IsActive}
use Rattle.fjall_repair.specs.Plans.{AreToBe, IsBeginPlan, IsFound, first_text}

pub found_to_be : (image : Image) (ids : List ℕ) → AreJournalIds image ids → ids ≢ [] → AreToBe image ids
found_to_be image ids are some = record {
  some = some;
  ascending = are.ascending;
  fit = λ k d lt. ((are.each (get_or ids k d)).0 (k, lt, get_or_default ids k (get_or ids k d) d lt)).0;
  each = λ id has. inl ((are.each id).0 has).1;
  all = λ id small file. (are.each id).1 (small, file);
}

alone : (id k n : ℕ) → k < length (n ∷ []) → get_or (n ∷ []) k id ≡ id → id ≡ n
alone id k n lt at = let first : k ≡ 0 = omega (arith, lt) in sym at ∙ ap (λ (i : ℕ). get_or (n ∷ []) i id) first

pub none_to_be : (image : Image) (ids more : List ℕ) → AreJournalIds image ids → length ids ≡ 0 → more ≡ ids ++ 0 ∷ [] → AreToBe image more
none_to_be image [] more are none is = subst (AreToBe image) (sym is) (record {
  some = λ e. (let no : 0 ∷ [] ≡ [] = e in cc);
  ascending = λ k lt. absurd (omega (arith, lt));
  fit = All-cons (λ id. id < 2 ^ 64) 0 [] (lit< tt) (All-nil (λ id. id < 2 ^ 64));
  each = λ id has. inr (alone id has.0 0 has.1 has.2);
  all = λ id small file. (let none : Contains [] id = (are.each id).1 (small, file) in absurd (omega (arith, none.1)));
})
none_to_be image (id ∷ ids) more are none is = absurd (omega (arith, none))

-- the last one is active
module _ (image : Image) (sealed : List ℕ) (active : ℕ) (to_be : AreToBe image (sealed ++ active ∷ [])) where
  last_at : (d : ℕ) → get_or (sealed ++ active ∷ []) (length sealed) d ≡ active
  last_at d = get_or-append_right sealed (active ∷ []) (length sealed) d (omega arith) ∙ at (length sealed - length sealed) (omega arith)
    where
      at : (k : ℕ) → k ≡ 0 → get_or (active ∷ []) k d ≡ active
      at k none = ap (λ (n : ℕ). get_or (active ∷ []) n d) none

  count : length (sealed ++ active ∷ []) ≡ length sealed + 1
  count = length-append sealed (active ∷ [])

  pub active_is : IsActive image active
  active_is = record {
    greatest = λ other small file. up (to_be.all other small file);
    there = to_be.each active (length sealed, omega (arith, count), last_at active);
  }
    where
      up : {other : ℕ} → Contains (sealed ++ active ∷ []) other → other ≤ active
      up {other} (k, lt, at) = elim (cases_lt k (length sealed)) [
        | inl below ↦
            let less : get_or (sealed ++ active ∷ []) k other < get_or (sealed ++ active ∷ []) (length sealed) other = AllPairs-from_increasing (sealed ++ active ∷ []) to_be.ascending k (length sealed) other below (omega (arith, count)) in
            omega (arith, less, at, last_at other)
        | inr above ↦
            let same : k ≡ length sealed = omega (arith, above, lt, count) in
            let equal : other ≡ active = sym at ∙ ap (λ (n : ℕ). get_or (sealed ++ active ∷ []) n other) same ∙ last_at other in
            omega (arith, equal)
      ]

pub some_ids : (ids : List ℕ) (n : ℕ) → n ≡ length ids → (n ≡ 0 → ⊥) → ids ≢ []
some_ids ids n is some none = some (is ∙ ap length none)

found_along : (found : FileState) (bytes other : List ℕ) (image one : Image) (name same : Name) → bytes ≡ other → one ≡ image → name ≡ same → IsFound found bytes (text_in (one name)) → IsFound found other (text_in (image same))
found_along found bytes other image one name same at_bytes at_image at_name is =
    subst (λ (n : Name). IsFound found other (text_in (image n))) at_name (subst (λ (i : Image). IsFound found other (text_in (i name))) at_image (subst (λ (l : List ℕ). IsFound found l (text_in (one name))) at_bytes is))

pub plan_of : (image one two : Image) (plan : BeginPlan) (ids wanted bytes : List ℕ) → one ≡ image → two ≡ image → ids ≡ plan.sealed.items ++ plan.active ∷ [] → map string_bytes plan.journals.items ≡ map journal_name ids → AreToBe image ids
    → plan.first.items ≡ first_text → wanted ≡ plan.first.items → IsFound plan.records wanted (text_in (one (codes "keyspaces/0/current")))
    → plan.header.items ≡ header V3 → bytes ≡ plan.header.items → IsFound plan.marker bytes (text_in (two (codes "version"))) → IsBeginPlan image plan
plan_of image one two plan ids wanted bytes at_one at_two is names to_be first wanted_is records header_is bytes_is marker = record {
  names = names ∙ ap (λ (l : List ℕ). map journal_name l) is;
  to_be = subst (AreToBe image) is to_be;
  first_is = first;
  records = found_along plan.records wanted first_text image one (codes "keyspaces/0/current") _ (wanted_is ∙ first) at_one (sym current_zero) records;
  header_is = header_is;
  marker = found_along plan.marker bytes (header V3) image two (codes "version") (codes "version") (bytes_is ∙ header_is) at_two refl marker;
}
