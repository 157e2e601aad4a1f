-- Pairs that are written one behind another.
use Rattle.std.proofs.Common.{◌≡◌, ℕ, zero, suc, ◌+◌, ◌<◌, List, [], ◌∷◌, ◌++◌, length, map, take, drop, get_or, Any, refl, sym, ap, ◌∙◌, subst, arith, add-one, append_assoc, take-suc}
use Rattle.std.specs.List.{flat_map}
use Rattle.std.specs.declared.cmp.Ordering.TheVariants.{Less}
use Rattle.std.proofs.lemmas.List.{append-nil, map-append}
use Rattle.std.proofs.lemmas.Grind.{flat_map-append}
use Rattle.std.proofs.lemmas.List.Elements.{All-head}
use Rattle.fjall_base.specs.Pairs.{byte_order}
use Rattle.fjall_base.specs.declared.error.Error.{Error}
use Rattle.fjall_base.specs.declared.error.Error.TheVariants.{OutOfMemory, ValueTooLong}
use Rattle.fjall_table.specs.Blocks.{Entry, IsBefore, IsOrdered}
use Rattle.fjall_table.specs.Writing.{FollowsEntries}
use Rattle.fjall_table.proofs.BlockParts.{ordered_at}
use Rattle.fjall_meta.specs.declared.entry.MetaEntry.{MetaEntry}
use Rattle.fjall_meta.specs.declared.living.LivingKeyspace.{LivingKeyspace}
use Rattle.fjall_meta.specs.Entries.{IsAscending, entries_of, name_entry, option_entries}
use Rattle.fjall_meta.proofs.Rising.{Rises, from_pairs}
use Rattle.fjall_manifest.specs.Catalog.{table_entry}
use Rattle.fjall_manifest.specs.Updates.{IsTooLong, IsWritingRefusal}

-- ---- parts of lists

-- the items up to one, that one, and those behind it
parted : {X Y : Type 0} (f : X → Y) (xs : List X) (i : ℕ) (d : X) → i < length xs → map f xs ≡ map f (take i xs) ++ f (get_or xs i d) ∷ map f (drop (suc i) xs)
parted f [] i d lt = absurd (omega (arith, lt))
parted f (x ∷ xs) zero d lt = refl
parted f (x ∷ xs) (suc i) d lt = ap (λ l. f x ∷ l) (parted f xs i d (omega (arith, lt)))

parted_lists : {X Y : Type 0} (g : X → List Y) (xs : List X) (i : ℕ) (d : X) → i < length xs → flat_map g xs ≡ flat_map g (take i xs) ++ (g (get_or xs i d) ++ flat_map g (drop (suc i) xs))
parted_lists g [] i d lt = absurd (omega (arith, lt))
parted_lists g (x ∷ xs) zero d lt = refl
parted_lists g (x ∷ xs) (suc i) d lt =
    ap (λ l. g x ++ l) (parted_lists g xs i d (omega (arith, lt))) ∙ sym (append_assoc (g x) (flat_map g (take i xs)) (g (get_or xs i d) ++ flat_map g (drop (suc i) xs)))

-- ---- order

front_ordered : (xs ys : List Entry) → IsOrdered (xs ++ ys) → IsOrdered xs
front_ordered [] ys up = tt
front_ordered (x ∷ []) ys up = tt
front_ordered (x ∷ y ∷ xs) ys up = (up.0, front_ordered (y ∷ xs) ys up.1)

before : (a b : MetaEntry) → byte_order a.key b.key ≡ Less → IsBefore (table_entry a) (table_entry b)
before a b less = rw less tt

rising_ordered : (xs : List MetaEntry) → Rises (λ a b. byte_order a.key b.key ≡ Less) xs → IsOrdered (map table_entry xs)
rising_ordered [] up = tt
rising_ordered (x ∷ []) up = tt
rising_ordered (x ∷ y ∷ xs) up = (before x y (All-head (λ b. byte_order x.key b.key ≡ Less) y xs up.0), rising_ordered (y ∷ xs) up.1)

-- pairs whose keys ascend are in a table's order
ascending_ordered : (xs : List MetaEntry) → IsAscending xs → IsOrdered (map table_entry xs)
ascending_ordered xs up = rising_ordered xs (from_pairs (λ a b. byte_order a.key b.key ≡ Less) xs up)

-- each item stands behind those before it
pub next_follows : {X : Type 0} (old : List Entry) (f : X → MetaEntry) (xs : List X) (i : ℕ) (d : X) → i < length xs → IsOrdered (old ++ map table_entry (map f xs))
    → FollowsEntries (old ++ map table_entry (map f (take i xs))) (table_entry (f (get_or xs i d)))
next_follows old f xs i d lt up =
    let front = map table_entry (map f (take i xs)) in
    let item = table_entry (f (get_or xs i d)) in
    let behind = map table_entry (map f (drop (suc i) xs)) in
    let line : old ++ map table_entry (map f xs) ≡ (old ++ front) ++ item ∷ behind =
    ap (λ l. old ++ map table_entry l) (parted f xs i d lt) ∙ ap (λ l. old ++ l) (map-append table_entry (map f (take i xs)) (f (get_or xs i d) ∷ map f (drop (suc i) xs)))
    ∙ sym (append_assoc old front (item ∷ behind)) in
    ordered_at (old ++ front) behind item (subst IsOrdered line up)

-- so does each list of items
pub next_ordered : {X : Type 0} (old : List Entry) (g : X → List MetaEntry) (xs : List X) (i : ℕ) (d : X) → i < length xs → IsOrdered (old ++ map table_entry (flat_map g xs))
    → IsOrdered ((old ++ map table_entry (flat_map g (take i xs))) ++ map table_entry (g (get_or xs i d)))
next_ordered old g xs i d lt up =
    let front = flat_map g (take i xs) in
    let item = g (get_or xs i d) in
    let behind = flat_map g (drop (suc i) xs) in
    let line : old ++ map table_entry (flat_map g xs) ≡ ((old ++ map table_entry front) ++ map table_entry item) ++ map table_entry behind =
    ap (λ l. old ++ map table_entry l) (parted_lists g xs i d lt) ∙ ap (λ l. old ++ l) (map-append table_entry front (item ++ behind) ∙ ap (λ l. map table_entry front ++ l) (map-append table_entry item behind))
    ∙ sym (append_assoc old (map table_entry front) (map table_entry item ++ map table_entry behind)) ∙ sym (append_assoc (old ++ map table_entry front) (map table_entry item) (map table_entry behind)) in
    front_ordered ((old ++ map table_entry front) ++ map table_entry item) (map table_entry behind) (subst IsOrdered line up)

-- a part of pairs whose keys ascend stands behind what was written before it
pub part_ordered : (front part behind whole : List MetaEntry) (written : List Entry) → whole ≡ front ++ (part ++ behind) → IsAscending whole → written ≡ map table_entry front → IsOrdered (written ++ map table_entry part)
part_ordered front part behind whole written is up text =
    let line : map table_entry whole ≡ (map table_entry front ++ map table_entry part) ++ map table_entry behind =
    ap (λ l. map table_entry l) is ∙ map-append table_entry front (part ++ behind) ∙ ap (λ l. map table_entry front ++ l) (map-append table_entry part behind)
    ∙ sym (append_assoc (map table_entry front) (map table_entry part) (map table_entry behind)) in
    rw text (front_ordered (map table_entry front ++ map table_entry part) (map table_entry behind) (subst IsOrdered line (ascending_ordered whole up)))

-- ---- one more

pub part_written : (front part : List MetaEntry) (old new : List Entry) → old ≡ map table_entry front → new ≡ old ++ map table_entry part → new ≡ map table_entry (front ++ part)
part_written front part old new was is = is ∙ ap (λ l. l ++ map table_entry part) was ∙ sym (map-append table_entry front part)

pub one_written : {X : Type 0} (old : List Entry) (f : X → MetaEntry) (xs : List X) (i : ℕ) (d : X) → i < length xs
    → (old ++ map table_entry (map f (take i xs))) ++ table_entry (f (get_or xs i d)) ∷ [] ≡ old ++ map table_entry (map f (take (i + 1) xs))
one_written old f xs i d lt =
    let front = map f (take i xs) in
    let item = f (get_or xs i d) in
    let next : map f (take (i + 1) xs) ≡ front ++ item ∷ [] =
    ap (λ n. map f (take n xs)) (add-one i) ∙ ap (λ l. map f l) (take-suc xs i d lt) ∙ map-append f (take i xs) (get_or xs i d ∷ []) in
    append_assoc old (map table_entry front) (table_entry item ∷ []) ∙ ap (λ l. old ++ l) (sym (map-append table_entry front (item ∷ []))) ∙ ap (λ l. old ++ map table_entry l) (sym next)

-- ---- refusals

any_front : {X : Type 0} (P : X → Type 0) (xs ys : List X) → Any P xs → Any P (xs ++ ys)
any_front P [] ys (k, x, lt, at, p) = absurd (omega (arith, lt))
any_front P (z ∷ xs) ys (zero, x, lt, at, p) = (zero, x, omega arith, at, p)
any_front P (z ∷ xs) ys (suc k, x, lt, at, p) =
    let more = any_front P xs ys (k, x, omega (arith, lt), at, p) in
    (suc more.0, more.1, omega (arith, more.2), more.3, more.4)

any_behind : {X : Type 0} (P : X → Type 0) (xs ys : List X) → Any P ys → Any P (xs ++ ys)
any_behind P [] ys a = a
any_behind P (z ∷ xs) ys a =
    let more = any_behind P xs ys a in
    (suc more.0, more.1, omega (arith, more.2), more.3, more.4)

refused_in : (part whole : List MetaEntry) → (Any IsTooLong part → Any IsTooLong whole) → (e : Error) → IsWritingRefusal part e → IsWritingRefusal whole e
refused_in part whole more OutOfMemory why = tt
refused_in part whole more ValueTooLong why = more why
refused_in part whole more e why = absurd why

-- what is refused of a part is refused of the whole
pub part_refused : (front part behind whole : List MetaEntry) → whole ≡ front ++ (part ++ behind) → (e : Error) → IsWritingRefusal part e → IsWritingRefusal whole e
part_refused front part behind whole is =
    refused_in part whole (λ long. subst (Any IsTooLong) (sym is) (any_behind IsTooLong front (part ++ behind) (any_front IsTooLong part behind long)))

pub item_refused : {X : Type 0} (f : X → MetaEntry) (xs : List X) (i : ℕ) (d : X) → i < length xs → (e : Error) → IsWritingRefusal (f (get_or xs i d) ∷ []) e → IsWritingRefusal (map f xs) e
item_refused f xs i d lt = part_refused (map f (take i xs)) (f (get_or xs i d) ∷ []) (map f (drop (suc i) xs)) (map f xs) (parted f xs i d lt)

pub list_refused : {X : Type 0} (g : X → List MetaEntry) (xs : List X) (i : ℕ) (d : X) → i < length xs → (e : Error) → IsWritingRefusal (g (get_or xs i d)) e → IsWritingRefusal (flat_map g xs) e
list_refused g xs i d lt = part_refused (flat_map g (take i xs)) (g (get_or xs i d)) (flat_map g (drop (suc i) xs)) (flat_map g xs) (parted_lists g xs i d lt)

-- ---- all keyspaces

module _ (front behind : List LivingKeyspace) where
  abbrev pub options_front : List MetaEntry
  options_front = flat_map option_entries front

  abbrev pub options_behind : List MetaEntry
  options_behind = flat_map option_entries behind

  abbrev pub names_front : List MetaEntry
  names_front = map name_entry front

  abbrev pub names_behind : List MetaEntry
  names_behind = map name_entry behind

  -- the pairs of the options in front and behind, and then those of the names
  pub from_options : entries_of (front ++ behind) ≡ options_front ++ (options_behind ++ (names_front ++ names_behind))
  from_options =
      ap (λ l. l ++ map name_entry (front ++ behind)) (flat_map-append option_entries front behind) ∙ ap (λ l. (options_front ++ options_behind) ++ l) (map-append name_entry front behind)
      ∙ append_assoc options_front options_behind (names_front ++ names_behind)

  pub from_names : entries_of (front ++ behind) ≡ (options_front ++ options_behind) ++ (names_front ++ names_behind)
  from_names = from_options ∙ sym (append_assoc options_front options_behind (names_front ++ names_behind))

  pub from_last : entries_of (front ++ behind) ≡ ((options_front ++ options_behind) ++ names_front) ++ (names_behind ++ [])
  from_last = from_names ∙ sym (append_assoc (options_front ++ options_behind) names_front names_behind) ∙ ap (λ l. ((options_front ++ options_behind) ++ names_front) ++ l) (sym (append-nil names_behind))
