-- Where whatever of a kind reaches behind the synced bytes was held at its place, all of it at the front was held there.
use Rattle.std.proofs.Common.{◌≡◌, inl, inr, ℕ, List, [], ◌∷◌, ◌++◌, take, drop, length, refl, sym, ◌∙◌, ap, append_assoc, take-append-drop}
use Rattle.std.specs.List.{flat_map, AllByRecursion}
use Rattle.std.proofs.lemmas.Bool.{cases_lt}
use Rattle.std.proofs.lemmas.List.{append-nil, take_at, take-append-le}
use Rattle.std.proofs.lemmas.List.Concat.{flat_map-cons}
use Rattle.fjall_recovery.specs.Wild.{AreHeldInPlace, IsAtFront, NoneForged}

module _ {A : Type 0} (text_of : A → List ℕ) (Is : A → Type 0) (synced unsynced bytes : List ℕ) (held : AreHeldInPlace text_of Is synced (synced ++ unsynced) (synced ++ bytes)) where
  -- one more behind a front that was held
  next : (front more behind : List ℕ) (a : A) → Is a → synced ++ bytes ≡ front ++ (text_of a ++ more) → synced ++ unsynced ≡ front ++ behind → IsAtFront (front ++ text_of a) (synced ++ unsynced)
  next front more behind a is shows holds = elim (cases_lt (length synced) (length (front ++ text_of a))) [
    | inl lt ↦
        let h = held front more a is shows lt in
        let same : h.0 ≡ front = sym (take_at h.0 (text_of a ++ h.1) (length front) h.2) ∙ ap (take (length front)) (sym h.3 ∙ holds) ∙ take_at front behind (length front) refl in
        (h.1, h.3 ∙ ap (λ (v : List ℕ). v ++ (text_of a ++ h.1)) same ∙ sym (append_assoc front (text_of a) h.1))
    | inr le ↦
        let n = length (front ++ text_of a) in
        let first : take n synced ≡ front ++ text_of a = sym (take-append-le n synced bytes le) ∙ ap (take n) (shows ∙ sym (append_assoc front (text_of a) more)) ∙ take_at (front ++ text_of a) more n refl in
        (drop n synced ++ unsynced, ap (λ (v : List ℕ). v ++ unsynced) (sym (take-append-drop n synced)) ∙ append_assoc (take n synced) (drop n synced) unsynced ∙ ap (λ (v : List ℕ). v ++ (drop n synced ++ unsynced)) first)
  ]

  -- and all behind it
  all : (front : List ℕ) (xs : List A) → AllByRecursion Is xs → IsAtFront (front ++ flat_map text_of xs) (synced ++ bytes) → IsAtFront front (synced ++ unsynced) → IsAtFront (front ++ flat_map text_of xs) (synced ++ unsynced)
  all front [] each shows holds = (holds.0, holds.1 ∙ ap (λ (v : List ℕ). v ++ holds.0) (sym (append-nil front)))
  all front (a ∷ xs) each shows holds =
      let parts : front ++ flat_map text_of (a ∷ xs) ≡ (front ++ text_of a) ++ flat_map text_of xs = ap (λ (v : List ℕ). front ++ v) (flat_map-cons text_of a xs) ∙ sym (append_assoc front (text_of a) (flat_map text_of xs)) in
      let more = flat_map text_of xs ++ shows.0 in
      let at : synced ++ bytes ≡ front ++ (text_of a ++ more) = shows.1 ∙ ap (λ (v : List ℕ). v ++ shows.0) parts ∙ append_assoc (front ++ text_of a) (flat_map text_of xs) shows.0 ∙ append_assoc front (text_of a) more in
      let one = next front more holds.0 a each.0 at holds.1 in
      let rest = all (front ++ text_of a) xs each.1 (shows.0, shows.1 ∙ ap (λ (v : List ℕ). v ++ shows.0) parts) one in
      (rest.0, rest.1 ∙ ap (λ (v : List ℕ). v ++ rest.0) (sym parts))

  pub none_forged : NoneForged text_of Is (synced ++ unsynced) (synced ++ bytes)
  none_forged some each shows = all [] some each shows (synced ++ unsynced, refl)
