-- One list of keyspaces for a list of entries.
use Rattle.std.proofs.Common.{◌≡◌, ℕ, ◌*◌, ◌<◌, ◌^◌, List, [], ◌∷◌, ◌++◌, length, get_or, drop, take, map, All, refl, sym, ap, ◌∙◌, arith, lit<}
use Rattle.std.proofs.Math.Seq.{take-append_seam, drop-append_seam}
use Rattle.std.proofs.lemmas.List.{get_or-map, length-append, length-map}
use Rattle.std.proofs.lemmas.List.Elements.{All-head, All-tail, All-weaker}
use Rattle.std.specs.List.{flat_map, Contains, position_or_len}
use Rattle.std.specs.Bool.{◌==◌}
use Rattle.fjall_options.specs.declared.options.stored_option.StoredOption.{StoredOption}
use Rattle.fjall_options.specs.declared.options.stored_option.StoredOption.TheVariants.{CompactionStrategy}
use Rattle.fjall_options.specs.Options.{options_by_name, stored_options, place, value_at, AreOptions, name_key}
use Rattle.fjall_meta.specs.declared.living.LivingKeyspace.{LivingKeyspace}
use Rattle.fjall_meta.specs.declared.entry.MetaEntry.{MetaEntry}
use Rattle.fjall_meta.specs.Entries.{option_entry, option_entries, name_entry, entries_of}
use Rattle.fjall_meta.specs.Keyspaces.{Keyspaces, AreKeyspaces}
use Rattle.fjall_meta.specs.Reading.{key_id}
use Rattle.fjall_options.proofs.StoredPairs.{all_values}
use Rattle.fjall_meta.proofs.Keys.{id_of_name_key}

-- every option is among those by name
pub is_by_name : (o : StoredOption) → Contains options_by_name o
is_by_name CompactionStrategy = (0, lit< tt, refl)
is_by_name o = (position_or_len (λ p. place p == place o) options_by_name, lit< tt, refl)

pub entry_by_name : (k : LivingKeyspace) (o : StoredOption) (e : MetaEntry) → get_or (map (option_entry k) options_by_name) (is_by_name o).0 e ≡ option_entry k o
entry_by_name k o e = get_or-map (option_entry k) options_by_name (is_by_name o).0 o e (is_by_name o).1 ∙ ap (λ p. option_entry k p) (is_by_name o).2

same_map : {X Y : Type 0} (f g : X → Y) (xs : List X) → ((x : X) → f x ≡ g x) → map f xs ≡ map g xs
same_map f g [] h = refl
same_map f g (x ∷ xs) h = rw (h x, same_map f g xs h) refl

same_options : (j k : LivingKeyspace) → length j.options ≡ 20 → length k.options ≡ 20 → option_entries j ≡ option_entries k → j.options ≡ k.options
unfolding option_entries
same_options j k first second h =
    let each : (o : StoredOption) → value_at o j.options ≡ value_at o k.options =
    λ o. ap (λ (e : MetaEntry). e.value) (sym (entry_by_name j o (option_entry j o)) ∙ ap (λ (es : List MetaEntry). get_or es (is_by_name o).0 (option_entry j o)) h ∙ entry_by_name k o (option_entry j o)) in
    sym (all_values j.options first) ∙ same_map (λ o. value_at o j.options) (λ o. value_at o k.options) stored_options each ∙ all_values k.options second

same_id : (j k : LivingKeyspace) → j.id < 2 ^ 64 → k.id < 2 ^ 64 → name_key j.id ≡ name_key k.id → j.id ≡ k.id
same_id j k first second h =
    let is = sym (id_of_name_key j.id first) ∙ ap (λ (key : List ℕ). key_id key) h ∙ id_of_name_key k.id second in
    cc

pub same_parts : (id other number another : ℕ) (name word : List ℕ) (options values : List (List ℕ)) → id ≡ other → number ≡ another → name ≡ word → options ≡ values
    → (let j : LivingKeyspace = record { id = id; number = number; name = name; options = options } in let k : LivingKeyspace = record { id = other; number = another; name = word; options = values } in j ≡ k)
same_parts id other number another name word options values a b c d = rw (a, b, c, d) refl

same_keyspace : (j k : LivingKeyspace) → j.id < 2 ^ 64 → k.id < 2 ^ 64 → AreOptions j.options → AreOptions k.options → name_entry j ≡ name_entry k → option_entries j ≡ option_entries k → j ≡ k
same_keyspace j k a b c d names options =
    same_parts j.id k.id j.number k.number j.name k.name j.options k.options (same_id j k a b (ap (λ (e : MetaEntry). e.key) names)) (ap (λ (e : MetaEntry). e.number) names) (ap (λ (e : MetaEntry). e.value) names) (same_options j k c.complete d.complete options)

-- equal lists of equally long fronts have equal fronts and rests
apart : {X : Type 0} (a b x y : List X) → length a ≡ length b → a ++ x ≡ b ++ y → (a ≡ b) × (x ≡ y)
apart a b x y long h =
    (sym (take-append_seam a x) ∙ ap (λ l. take (length a) l) h ∙ ap (λ n. take n (b ++ y)) long ∙ take-append_seam b y, sym (drop-append_seam a x) ∙ ap (λ l. drop (length a) l) h ∙ ap (λ n. drop n (b ++ y)) long ∙ drop-append_seam b y)

pub many_options : (k : LivingKeyspace) → length (option_entries k) ≡ 20
unfolding option_entries
many_options k = refl

many_all_options : (living : List LivingKeyspace) → length (flat_map option_entries living) ≡ 20 * length living
many_all_options [] = refl
many_all_options (k ∷ living) =
    let rest = many_all_options living in
    omega (arith, length-append (option_entries k) (flat_map option_entries living), many_options k, rest)

many_entries : (living : List LivingKeyspace) → length (entries_of living) ≡ 21 * length living
many_entries living = omega (arith, length-append (flat_map option_entries living) (map name_entry living), many_all_options living, length-map living name_entry)

same_each : (js ks : List LivingKeyspace) → All (λ k. k.id < 2 ^ 64) js → All (λ k. k.id < 2 ^ 64) ks → All (λ k. AreOptions k.options) js → All (λ k. AreOptions k.options) ks
    → map name_entry js ≡ map name_entry ks → flat_map option_entries js ≡ flat_map option_entries ks → js ≡ ks
same_each [] [] a b c d names options = refl
same_each [] (k ∷ ks) a b c d names options = absurd cc
same_each (j ∷ js) [] a b c d names options = absurd cc
same_each (j ∷ js) (k ∷ ks) a b c d names options =
    let parts = apart (option_entries j) (option_entries k) (flat_map option_entries js) (flat_map option_entries ks) (many_options j ∙ sym (many_options k)) options in
    let first : name_entry j ≡ name_entry k = cc in
    let others : map name_entry js ≡ map name_entry ks = cc in
    let Low : LivingKeyspace → Type 0 = λ i. i.id < 2 ^ 64 in
    let Whole : LivingKeyspace → Type 0 = λ i. AreOptions i.options in
    let head : j ≡ k = same_keyspace j k (All-head Low j js a) (All-head Low k ks b) (All-head Whole j js c) (All-head Whole k ks d) first parts.0 in
    let tail : js ≡ ks = same_each js ks (All-tail Low j js a) (All-tail Low k ks b) (All-tail Whole j js c) (All-tail Whole k ks d) others parts.1 in
    rw (head, tail) refl

pub low_ids : (s : Keyspaces) → AreKeyspaces s → All (λ k. k.id < 2 ^ 64) s.living
low_ids s are = let fits = are.fits in All-weaker (λ k. k.id < s.next) (λ k. k.id < 2 ^ 64) (λ k h. omega arith) s.living are.given

same_states : (js ks : List LivingKeyspace) (n m : ℕ) → js ≡ ks → n ≡ m → (let s : Keyspaces = record { living = js; next = n } in let t : Keyspaces = record { living = ks; next = m } in s ≡ t)
same_states js ks n m a b = rw (a, b) refl

pub one_list : (s t : Keyspaces) → AreKeyspaces s → AreKeyspaces t → s.next ≡ t.next → entries_of s.living ≡ entries_of t.living → s ≡ t
one_list s t first second next same =
    let count : length s.living ≡ length t.living = omega (arith, many_entries s.living, many_entries t.living, ap (λ (es : List MetaEntry). length es) same) in
    let front : length (flat_map option_entries s.living) ≡ length (flat_map option_entries t.living) = omega (arith, many_all_options s.living, many_all_options t.living, count) in
    let parts = apart (flat_map option_entries s.living) (flat_map option_entries t.living) (map name_entry s.living) (map name_entry t.living) front same in
    same_states s.living t.living s.next t.next (same_each s.living t.living (low_ids s first) (low_ids t second) first.options second.options parts.1 parts.0) next
