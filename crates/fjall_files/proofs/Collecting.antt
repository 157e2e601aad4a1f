-- The ids of the first entries of a list.
use Rattle.std.proofs.Common.{◌≡◌, ℕ, ◌+◌, ◌<◌, List, [], ◌∷◌, ◌++◌, length, get_or, refl, sym, ap, subst, ◌∙◌, arith, inl, inr, ◌⊎◌, ◌↔◌, Any, eqb}
use Rattle.std.specs.List.{Contains, dedup}
use Rattle.std.specs.List.Sorted.{IsPermutation, IsSorted}
use Rattle.std.proofs.lemmas.List.Elements.{Contains-append_left, Contains-append_right, Contains-append_cases}
use Rattle.std.specs.Ordering.{nat_cmp}
use Rattle.std.proofs.lemmas.Bool.{cases_lt}
use Rattle.std.proofs.lemmas.List.{get_or_default}
use Rattle.std.proofs.lemmas.List.Kept.{Contains-dedup_nat, Contains-from_dedup}
use Rattle.std.proofs.lemmas.List.Sorted.{Contains-permutation, IsPermutation-sym}
use Rattle.std.proofs.lemmas.Map.Keys.{IsStrictlyIncreasing-dedup}
use Rattle.fjall_base.specs.declared.disk.DirEntry.{DirEntry}
use Rattle.fjall_files.specs.Lists.{AreIds}

-- an entry among the first few is as said
pub record AnyBelow (P : DirEntry → Type 0) (listed : List DirEntry) (end : ℕ) : Type 0 where
  pub place : ℕ
  pub entry : DirEntry
  pub below : place < end
  pub at : get_or listed place entry ≡ entry
  pub is : P entry

pub record Collected (Is : DirEntry → ℕ → Type 0) (listed : List DirEntry) (end : ℕ) (ids : List ℕ) : Type 0 where
  pub sound : (id : ℕ) → Contains ids id → AnyBelow (λ entry. Is entry id) listed end
  pub full : (id : ℕ) → AnyBelow (λ entry. Is entry id) listed end → Contains ids id

-- an entry that was below stays below
longer : (P : DirEntry → Type 0) (listed : List DirEntry) (end : ℕ) → AnyBelow P listed end → AnyBelow P listed (end + 1)
longer P listed end h = record { place = h.place; entry = h.entry; below = omega (arith, h.below); at = h.at; is = h.is }

-- the entry is one of the earlier ones, or the last
last_or_earlier : (P : DirEntry → Type 0) (listed : List DirEntry) (end : ℕ) (entry : DirEntry) → end < length listed → entry ≡ get_or listed end entry → AnyBelow P listed (end + 1) → AnyBelow P listed end ⊎ P entry
last_or_earlier P listed end entry inside is h = elim (cases_lt h.place end) [
  | inl below ↦ inl (record { place = h.place; entry = h.entry; below = below; at = h.at; is = h.is })
  | inr top ↦
      let place : h.place ≡ end = omega (arith, h.below) in
      let there : get_or listed end h.entry ≡ h.entry = rw (← place) h.at in
      let same : h.entry ≡ entry = sym there ∙ get_or_default listed end h.entry entry inside ∙ sym is in
      inr (subst P same h.is)
]

-- an entry that isn't sought
pub skipped : (Is : DirEntry → ℕ → Type 0) (listed : List DirEntry) (end : ℕ) (ids : List ℕ) (entry : DirEntry) → end < length listed → entry ≡ get_or listed end entry
    → ((id : ℕ) → Is entry id → ⊥) → Collected Is listed end ids → Collected Is listed (end + 1) ids
skipped Is listed end ids entry inside at not h = record {
  sound = λ id has. longer (λ e. Is e id) listed end (h.sound id has);
  full = λ id some. elim (last_or_earlier (λ e. Is e id) listed end entry inside at some) [
    | inl earlier ↦ h.full id earlier
    | inr last ↦ absurd (not id last)
  ];
}

only_one : (a b : ℕ) → Contains (a ∷ []) b → b ≡ a
only_one a b h = let first : h.0 ≡ 0 = omega (arith, h.1) in sym h.2 ∙ ap (λ k. get_or (a ∷ []) k b) first

-- an entry that is
pub added : (Is : DirEntry → ℕ → Type 0) (listed : List DirEntry) (end : ℕ) (ids : List ℕ) (entry : DirEntry) (new : ℕ) → end < length listed → entry ≡ get_or listed end entry
    → Is entry new → ((id : ℕ) → Is entry id → id ≡ new) → Collected Is listed end ids → Collected Is listed (end + 1) (ids ++ new ∷ [])
added Is listed end ids entry new inside at is one h = record {
  sound = λ id has. elim (Contains-append_cases ids (new ∷ []) id has) [
    | inl earlier ↦ longer (λ e. Is e id) listed end (h.sound id earlier)
    | inr last ↦ record { place = end; entry = entry; below = omega arith; at = sym at; is = subst (Is entry) (sym (only_one new id last)) is }
  ];
  full = λ id some. elim (last_or_earlier (λ e. Is e id) listed end entry inside at some) [
    | inl earlier ↦ Contains-append_left ids (new ∷ []) id (h.full id earlier)
    | inr last ↦ Contains-append_right ids (new ∷ []) id (subst (Contains (new ∷ [])) (sym (one id last)) (0, omega arith, refl))
  ];
}

-- the whole list
pub all_collected : (Is : DirEntry → ℕ → Type 0) (listed : List DirEntry) (ids : List ℕ) → Collected Is listed (length listed) ids → (id : ℕ) → Contains ids id ↔ Any (λ entry. Is entry id) listed
all_collected Is listed ids h id = (
  λ has. let some = h.sound id has in (some.place, some.entry, some.below, some.at, some.is),
  λ some. h.full id (record { place = some.0; entry = some.1; below = some.2; at = some.3; is = some.4 }),
)

-- put in order, each once
pub in_order : (Is : DirEntry → ℕ → Type 0) (listed : List DirEntry) (ids sorted : List ℕ) → ((id : ℕ) → Contains ids id ↔ Any (λ entry. Is entry id) listed) → IsPermutation ids sorted → IsSorted nat_cmp sorted
    → AreIds Is listed (dedup eqb sorted)
in_order Is listed ids sorted each moved order = record {
  ascending = IsStrictlyIncreasing-dedup sorted order;
  each = λ id. (
    λ has. (each id).0 (Contains-permutation sorted ids id (IsPermutation-sym ids sorted moved) (Contains-from_dedup eqb sorted id has)),
    λ some. Contains-dedup_nat sorted id (Contains-permutation ids sorted id moved ((each id).1 some)),
  );
}
