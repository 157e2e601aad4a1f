-- What the pairs say of a keyspace, its own pairs say alone.
use Rattle.std.proofs.Common.{◌≡◌, ℕ, ◌+◌, ◌<◌, ◌^◌, Bool, true, false, cond, List, [], ◌∷◌, ◌++◌, length, get_or, take, refl, sym, ap, ◌∙◌, Option, None, Some, inl, inr, eqb}
use Rattle.std.proofs.lemmas.Slice.Eq.{bytes_eq-Decides}
use Rattle.std.proofs.lemmas.Bool.{cases_Bool}
use Rattle.std.proofs.lemmas.Bool.Decides.{Decides-eqb}
use Rattle.std.proofs.lemmas.List.{append-nil}
use Rattle.std.proofs.lemmas.List.Elements.{filter_more}
use Rattle.std.specs.Str.{bytes_eq}
use Rattle.fjall_options.specs.declared.options.stored_option.StoredOption.{StoredOption}
use Rattle.fjall_options.specs.Options.{name_key, config_key, option_name, value_of, stored_options, stored_values}
use Rattle.fjall_meta.specs.declared.entry.MetaEntry.{MetaEntry}
use Rattle.fjall_meta.specs.Reading.{key_id, is_that, own_entries, pairs_of, stored_keyspace}
use Rattle.fjall_meta.proofs.Keys.{id_of_config_key, id_of_name_key}

abbrev Pairs : Type 0
Pairs = List (List ℕ × List ℕ)

itself : (id : ℕ) (found : Option ℕ) → found ≡ Some id → is_that id found ≡ true
itself id found h = rw h ((Decides-eqb id id).1 refl)

-- the first value of a key that has this id
pub own_value : (id : ℕ) (key : List ℕ) (entries : List MetaEntry) → key_id key ≡ Some id → value_of key (pairs_of (own_entries id entries)) ≡ value_of key (pairs_of entries)
own_value id key [] h = refl
own_value id key (e ∷ entries) h = elim (cases_Bool (bytes_eq e.key key)) [
  | inl is ↦
      let same : e.key ≡ key = (bytes_eq-Decides e.key key).0 is in
      let own : is_that id (key_id e.key) ≡ true = itself id (key_id e.key) (ap (λ (k : List ℕ). key_id k) same ∙ h) in
      rw (own, is) refl
  | inr other ↦ elim (cases_Bool (is_that id (key_id e.key))) [
    | inl own ↦ rw (own, other) (own_value id key entries h)
    | inr apart ↦ rw (apart, other) (own_value id key entries h)
  ]
]

-- these pairs and those give the same value to each key of the id
abbrev AreAlike : ℕ → Pairs → Pairs → Type 0
AreAlike id pairs others = (key : List ℕ) → key_id key ≡ Some id → value_of key pairs ≡ value_of key others

alike_values : (id : ℕ) (pairs others : Pairs) (those : List StoredOption) → id < 2 ^ 64 → AreAlike id pairs others → stored_values id pairs those ≡ stored_values id others those
unfolding stored_values
alike_values id pairs others [] bound alike = refl
alike_values id pairs others (o ∷ those) bound alike =
    rw (alike (config_key id (option_name o)) (id_of_config_key id (option_name o) bound), alike_values id pairs others those bound alike) refl

pub own_keyspace : (id : ℕ) (entries : List MetaEntry) → id < 2 ^ 64 → stored_keyspace id (pairs_of (own_entries id entries)) ≡ stored_keyspace id (pairs_of entries)
own_keyspace id entries bound =
    let alike : AreAlike id (pairs_of (own_entries id entries)) (pairs_of entries) = λ key h. own_value id key entries h in
    rw (alike (name_key id) (id_of_name_key id bound), alike_values id (pairs_of (own_entries id entries)) (pairs_of entries) stored_options bound alike) refl

-- ---- one entry more

own_more : (q i : ℕ) (entries : List MetaEntry) (e : MetaEntry) → i < length entries → e ≡ get_or entries i e → own_entries q (take (i + 1) entries) ≡ own_entries q (take i entries) ++ cond (is_that q (key_id e.key)) (e ∷ []) []
own_more q i entries e within is =
    filter_more (λ (x : MetaEntry). is_that q (key_id x.key)) entries i e within ∙ ap (λ (x : MetaEntry). own_entries q (take i entries) ++ cond (is_that q (key_id x.key)) (x ∷ []) []) (sym is)

chosen : {X : Type 0} (b : Bool) (xs : List X) (x : X) → xs ++ cond b (x ∷ []) [] ≡ cond b (xs ++ x ∷ []) xs
chosen true xs x = refl
chosen false xs x = append-nil xs

pub put_own : (q i id : ℕ) (entries : List MetaEntry) (e : MetaEntry) (old new : List MetaEntry) → i < length entries → e ≡ get_or entries i e → key_id e.key ≡ Some id → old ≡ own_entries q (take i entries) → new ≡ cond (eqb id q) (old ++ e ∷ []) old → new ≡ own_entries q (take (i + 1) entries)
put_own q i id entries e old new within is key so_far step =
    step ∙ ap (λ (es : List MetaEntry). cond (eqb id q) (es ++ e ∷ []) es) so_far ∙ sym (chosen (eqb id q) (own_entries q (take i entries)) e) ∙ ap (λ (o : Option ℕ). own_entries q (take i entries) ++ cond (is_that q o) (e ∷ []) []) (sym key)
    ∙ sym (own_more q i entries e within is)

pub skip_own : (q i : ℕ) (entries : List MetaEntry) (e : MetaEntry) (old : List MetaEntry) → i < length entries → e ≡ get_or entries i e → key_id e.key ≡ None → old ≡ own_entries q (take i entries) → old ≡ own_entries q (take (i + 1) entries)
skip_own q i entries e old within is key so_far =
    so_far ∙ sym (append-nil (own_entries q (take i entries))) ∙ ap (λ (o : Option ℕ). own_entries q (take i entries) ++ cond (is_that q o) (e ∷ []) []) (sym key) ∙ sym (own_more q i entries e within is)
