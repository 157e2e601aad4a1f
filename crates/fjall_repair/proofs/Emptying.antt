-- Journals that are emptied one after another.
use Rattle.std.proofs.Common.{◌≡◌, ◌≢◌, inl, inr, ℕ, zero, suc, ◌+◌, ◌<◌, ◌^◌, false, List, [], ◌∷◌, take, length, get_or, map, All, sym, ◌∙◌, ap, subst, arith, add-one}
use Rattle.std.proofs.lemmas.List.Elements.{All-append, All-cons, All-head, All-nil, All-tail}
use Rattle.std.proofs.Math.Seq.{take-suc}
use Rattle.std.specs.Str.{bytes_eq}
use Rattle.fjall_base.specs.Disk.{Name, File, Place, DiskState}
use Rattle.fjall_base.proofs.Names.{bool_cases, same}
use Rattle.fjall_files.specs.Names.{journal_name}
use Rattle.fjall_repair.specs.Making.{CanHold}
use Rattle.fjall_repair.proofs.Holding.{journal_holds}

-- the name at a place is that of the journal whose id is there
module _ {X : Type 0} (text : X → Name) where
  pub journal_at : (xs : List X) (ids : List ℕ) (k : ℕ) (d : X) → map text xs ≡ map journal_name ids → All (λ id. id < 2 ^ 64) ids → k < length xs → (id : ℕ) × (id < 2 ^ 64) × (text (get_or xs k d) ≡ journal_name id)
  journal_at [] ids k d is fit lt = absurd (omega (arith, lt))
  journal_at (x ∷ xs) [] k d is fit lt = let no : text x ∷ map text xs ≡ [] = is in cc
  journal_at (x ∷ xs) (id ∷ ids) zero d is fit lt =
      let both : text x ∷ map text xs ≡ journal_name id ∷ map journal_name ids = is in
      (id, All-head (λ id. id < 2 ^ 64) id ids fit, head_is (text x) (journal_name id) (map text xs) (map journal_name ids) both)
    where
      head_is : (a b : Name) (xs ys : List Name) → a ∷ xs ≡ b ∷ ys → a ≡ b
      head_is a b xs ys e = cc
  journal_at (x ∷ xs) (id ∷ ids) (suc k) d is fit lt = journal_at xs ids k d (tail_is (text x) (journal_name id) (map text xs) (map journal_name ids) is) (All-tail (λ id. id < 2 ^ 64) id ids fit) (omega (arith, lt))
    where
      tail_is : (a b : Name) (xs ys : List Name) → a ∷ xs ≡ b ∷ ys → xs ≡ ys
      tail_is a b xs ys e = cc

  pub journal_can : (xs : List X) (ids : List ℕ) (k : ℕ) (d : X) (name : Name) → name ≡ text (get_or xs k d) → map text xs ≡ map journal_name ids → All (λ id. id < 2 ^ 64) ids → k < length xs → CanHold false name []
  journal_can xs ids k d name at is fit lt =
      let (id, small, named) = journal_at xs ids k d is fit lt in
      subst (λ (n : Name). CanHold false n []) (sym (at ∙ named)) (journal_holds id small)

  -- these files are empty
  abbrev pub AreEmptied : DiskState → List X → Type 0
  AreEmptied state xs = All (λ x. (state (text x)).now ≡ File [] []) xs

  one_of : (P : X → Type 0) (x : X) → P x → All P (x ∷ [])
  one_of P x is = All-cons P x [] is (All-nil P)

  pub emptied_more : (xs : List X) (k : ℕ) (d : X) (name : Name) (old new : DiskState) → name ≡ text (get_or xs k d) → k < length xs → AreEmptied old (take k xs) → ((q : Name) → bytes_eq q name ≡ false → new q ≡ old q)
      → (new name).now ≡ File [] [] → AreEmptied new (take (k + 1) xs)
  emptied_more xs k d name old new at lt so_far other here =
      let x = get_or xs k d in
      let before : AreEmptied new (take k xs) = λ i e below. elim (bool_cases (bytes_eq (text (get_or (take k xs) i e)) name)) [
        | inl is ↦ ap (λ (n : Name). (new n).now) (same is) ∙ here
        | inr not ↦ ap (λ (p : Place). p.now) (other (text (get_or (take k xs) i e)) not) ∙ so_far i e below
      ] in
      subst (AreEmptied new) (sym (ap (λ (n : ℕ). take n xs) (add-one k) ∙ take-suc xs k d lt))
      (All-append (λ y. (new (text y)).now ≡ File [] []) (take k xs) (x ∷ []) before (one_of (λ y. (new (text y)).now ≡ File [] []) x (ap (λ (n : Name). (new n).now) (sym at) ∙ here)))

  -- another name than each of theirs
  pub other_name : (xs : List X) (k : ℕ) (d : X) (q name : Name) → name ≡ text (get_or xs k d) → k < length xs → All (λ x. q ≢ text x) xs → q ≢ name
  other_name xs k d q name at lt all is = all k d lt (is ∙ at)
