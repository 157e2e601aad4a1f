-- The greatest number of records, one after another.
use Rattle.std.proofs.Common.{◌≡◌, ℕ, ◌+◌, ◌<◌, ◌≤◌, ◌^◌, max, List, [], ◌∷◌, ◌++◌, map, length, take, get_or, All, sym, ◌∙◌, ap, subst, arith}
use Rattle.std.specs.Prelude.{IfSome}
use Rattle.std.proofs.lemmas.List.{map_more, length-map, get_or-map, take_all}
use Rattle.std.proofs.lemmas.List.Elements.{All-head, All-tail}
use Rattle.fjall_manifest.specs.Records.{Fields, view}
use Rattle.fjall_manifest.specs.Catalog.{fields}
use Rattle.fjall_recovery.specs.declared.folder.RecoveredFolder.{RecoveredFolder}
use Rattle.fjall_manifest.specs.declared.reading.LoadedHome.{LoadedHome}
use Rattle.fjall_recovery.specs.Folders.{past, past_record, past_records}
use Rattle.fjall_opening.specs.Opened.{HasNumbers, records_of}

max_assoc : (a b c : ℕ) → max a (max b c) ≡ max (max a b) c
max_assoc a b c = omega arith

max_zero : (a : ℕ) → max a 0 ≡ a
max_zero a = omega arith

one_more : (front : List Fields) (r : Fields) → past_records (front ++ r ∷ []) ≡ max (past_records front) (past_record r)
one_more [] r = max_zero (past_record r) ∙ sym (max_comm (past_record r) 0 ∙ max_zero (past_record r))
  where
    max_comm : (a b : ℕ) → max b a ≡ max a b
    max_comm a b = omega arith
one_more (x ∷ front) r = ap (λ n. max (past_record x) n) (one_more front r) ∙ max_assoc (past_record x) (past_records front) (past_record r)

module _ (f : RecoveredFolder) (fit : All HasNumbers (records_of f)) where
  tree_fits : HasNumbers (fields f.catalog.catalog)
  tree_fits = All-head HasNumbers (fields f.catalog.catalog) (map (λ h. view h.record) f.homes.items) fit

  -- the number of tree 0
  pub tree_number : (a b tree number : ℕ) → (IfSome f.catalog.catalog.persisted (λ n. n < 2 ^ 63) → a ≡ past f.catalog.catalog.persisted) → (IfSome f.catalog.catalog.highest (λ n. n < 2 ^ 63) → b ≡ past f.catalog.catalog.highest)
      → tree ≡ max a b → number ≡ max f.journals.least tree → number ≡ max f.journals.least (max (past_record (fields f.catalog.catalog)) 0)
  tree_number a b tree number first second is all =
      all ∙ ap (λ n. max f.journals.least n) (is ∙ ap (λ n. max n b) (first tree_fits.0) ∙ ap (λ n. max (past f.catalog.catalog.persisted) n) (second tree_fits.1) ∙ sym (max_zero (past_record (fields f.catalog.catalog))))

  module _ (homes : List LoadedHome) (homes_are : homes ≡ f.homes.items) (i : ℕ) (d home : LoadedHome) (at : home ≡ get_or homes i d) (lt : i < length homes) where
    home_fits : HasNumbers (view home.record)
    home_fits =
        let all = All-tail HasNumbers (fields f.catalog.catalog) (map (λ h. view h.record) f.homes.items) fit in
        let here : All HasNumbers (map (λ h. view h.record) homes) = subst (λ l. All HasNumbers (map (λ h. view h.record) l)) (sym homes_are) all in
        let less : i < length (map (λ (h : LoadedHome). view h.record) homes) = subst (λ n. i < n) (sym (length-map homes (λ (h : LoadedHome). view h.record))) lt in
        subst HasNumbers (get_or-map (λ (h : LoadedHome). view h.record) homes i d (view home.record) lt ∙ ap (λ (h : LoadedHome). view h.record) (sym at)) (here i (view home.record) less)

    -- and of one home more
    pub home_number : (a b mid old new : ℕ) → old ≡ max f.journals.least (past_records (fields f.catalog.catalog ∷ map (λ h. view h.record) (take i homes)))
        → (IfSome home.record.persisted (λ n. n < 2 ^ 63) → a ≡ past home.record.persisted) → (IfSome home.record.highest (λ n. n < 2 ^ 63) → b ≡ past home.record.highest)
        → mid ≡ max old a → new ≡ max mid b → new ≡ max f.journals.least (past_records (fields f.catalog.catalog ∷ map (λ h. view h.record) (take (i + 1) homes)))
    home_number a b mid old new so_far first second mid_is new_is =
        let front = fields f.catalog.catalog ∷ map (λ (h : LoadedHome). view h.record) (take i homes) in
        let split : fields f.catalog.catalog ∷ map (λ (h : LoadedHome). view h.record) (take (i + 1) homes) ≡ front ++ view home.record ∷ [] =
        ap (λ (l : List Fields). fields f.catalog.catalog ∷ l) (map_more (λ (h : LoadedHome). view h.record) homes i d lt ∙ ap (λ (h : LoadedHome). map (λ (h : LoadedHome). view h.record) (take i homes) ++ view h.record ∷ []) (sym at)) in
        let both : max (max old a) b ≡ max old (past_record (view home.record)) = sym (max_assoc old a b) ∙ ap (λ n. max old (max n b)) (first home_fits.0) ∙ ap (λ n. max old (max (past home.record.persisted) n)) (second home_fits.1) in
        new_is ∙ ap (λ n. max n b) mid_is ∙ both ∙ ap (λ n. max n (past_record (view home.record))) so_far
        ∙ sym (max_assoc f.journals.least (past_records front) (past_record (view home.record))) ∙ ap (λ n. max f.journals.least n) (sym (one_more front (view home.record)) ∙ ap (λ (l : List Fields). past_records l) (sym split))

  pub all_homes : (homes : List LoadedHome) (i number : ℕ) → homes ≡ f.homes.items → length homes ≤ i → number ≡ max f.journals.least (past_records (fields f.catalog.catalog ∷ map (λ h. view h.record) (take i homes))) → number ≡ max f.journals.least (past_records (records_of f))
  all_homes homes i number are le is = is ∙ ap (λ l. max f.journals.least (past_records (fields f.catalog.catalog ∷ map (λ h. view h.record) l))) (take_all i homes le ∙ are)
