-- What repairs an index: which entries stand, and what the items leave.
use Rattle.std.proofs.Common.{◌≡◌, ◌≢◌, ◌⊎◌, inl, inr, ℕ, zero, suc, ◌==◌, Bool, true, false, true≢false, cond, not, ◌&&◌, ◌||◌, if◌then◌else◌, List, [], ◌∷◌, ◌++◌, Option, None, Some, is_some, refl, sym, ◌∙◌, ap, subst, arith, append_assoc}
use Rattle.std.specs.Prelude.{◌↔◌, All}
use Rattle.std.proofs.lemmas.Bool.Decides.{nat_tests}
use Rattle.std.proofs.lemmas.List.Elements.{All-append, All-cons, All-head, All-nil, All-tail}
use Rattle.std.proofs.lemmas.Option.{none-some}
use Rattle.std.proofs.lemmas.Slice.Eq.{bytes_eq-Decides}
use Rattle.std.specs.Cmp.Lexicographic.{nat_list_cmp_total}
use Rattle.std.specs.FinMap.{FinMap, empty, entries, find, get-entries, get-insert, get-remove, get-retain_keys, insert, retain_keys, same_map}
use Rattle.std.specs.List.{flat_map, list_any}
use Rattle.std.specs.Option.{option_eq}
use Rattle.std.specs.Ordering.{eq_by_cmp, nat_cmp}
use Rattle.std.specs.Str.{bytes_eq}
use Rattle.fjall_base.specs.Pairs.{Bytes, Pairs, altered, byte_order, is_within, lookup}
use Rattle.fjall_base.specs.Store.{Item, map_at, written}
use Rattle.fjall_base.specs.declared.error.Error.{Error}
use Rattle.fjall_reading.specs.Readers.{all_of, whole}
use Rattle.fjall_index_entries.specs.Entries.{entry, key_after, key_behind}
use Rattle.fjall_index_entries.specs.Finding.{ReadsEither}
use Rattle.fjall_index_entries.specs.Index.{FieldOf, IsEntry, field_in, index_of}
use Rattle.fjall_index_entries.specs.Keeping.{IsIndexed}
use Rattle.fjall_index_entries.specs.Putting.{comes, entry_item, goes, is_long, item}
use Rattle.fjall_index_entries.specs.Repairs.{AreRepairs, ReadsOrLong, additions, has_behind, is_entry_in, is_spelled, lacking, lacking_of, lacks_long, removals, stale}
use Rattle.fjall_index_entries.proofs.Index.{entry_stands, get_altered, has_entry, index_at, is_entry, is_entry_of}
use Rattle.fjall_index_entries.proofs.Keeps.{map_here, map_there, written_append}
use Rattle.fjall_index_entries.proofs.Standing.{AreOf, all_stand, eq_itself, eq_same, same_bytes}

-- all pairs of a map
pub all_entries : (m : Pairs) → all_of m ≡ entries m
all_entries m = ap entries (same_map nat_list_cmp_total same_bytes (retain_keys m (is_within whole)) m (λ q. get-retain_keys m (is_within whole) q (λ x tie. refl)))

-- ---- the key behind a field

no_zero : (b : ℕ) → (suc b == 0) ≡ false
no_zero b = grind (arith, nat_tests)

-- an entry has its key behind its field
pub behind_field : (f k : Bytes) → key_behind (entry f k) ≡ Some k
behind_field [] k = refl
behind_field (zero ∷ f) k = behind_field f k
behind_field (suc b ∷ f) k = ap (λ ahead. key_after ahead (entry f k)) (no_zero b) ∙ behind_field f k

-- ---- whether bytes are the entry of a pair

told_entry : (field : FieldOf) (m : Pairs) (e : Bytes) → is_entry_in field m e ≡ true → IsEntry field m e
told_entry field m e = behind (key_behind e)
  where
    spelled : (key value : Bytes) (f : Option Bytes) → lookup m key ≡ Some value → field key value ≡ f → is_spelled e key f ≡ true → IsEntry field m e
    spelled key value None at has is = absurd (true≢false (sym is))
    spelled key value (Some f) at has is =
        record { key = key; value = value; its_field = f; stands = at; has = has; spelled = sym ((bytes_eq-Decides (entry f key) e).0 is) }

    valued : (key : Bytes) (o : Option Bytes) → lookup m key ≡ o → is_spelled e key (field_in field key o) ≡ true → IsEntry field m e
    valued key None at is = absurd (true≢false (sym is))
    valued key (Some value) at is = spelled key value (field key value) at refl is

    behind : (key : Option Bytes) → has_behind field m e key ≡ true → IsEntry field m e
    behind None is = absurd (true≢false (sym is))
    behind (Some key) is = valued key (lookup m key) refl is

entry_told : (field : FieldOf) (m : Pairs) (e : Bytes) → IsEntry field m e → is_entry_in field m e ≡ true
entry_told field m e is =
    ap (has_behind field m e) (ap key_behind is.spelled ∙ behind_field is.its_field is.key)
    ∙ ap (λ o. is_spelled e is.key (field_in field is.key o)) is.stands
    ∙ ap (is_spelled e is.key) is.has
    ∙ (bytes_eq-Decides (entry is.its_field is.key) e).1 (sym is.spelled)

index_told : (field : FieldOf) (m : Pairs) (e : Bytes) → lookup (index_of field m) e ≡ cond (is_entry_in field m e) (Some []) None
index_told field m e = by (is_entry_in field m e) refl
  where
    none : is_entry_in field m e ≡ false → (o : Option Bytes) → lookup (index_of field m) e ≡ o → lookup (index_of field m) e ≡ None
    none off None at = at
    none off (Some v) at = absurd (true≢false (sym (entry_told field m e (is_entry_of field m e v at).1) ∙ off))

    by : (b : Bool) → is_entry_in field m e ≡ b → lookup (index_of field m) e ≡ cond b (Some []) None
    by true is = entry_stands field m e (told_entry field m e is)
    by false off = none off (lookup (index_of field m) e) refl

-- that an index has something is told by whether it does
told_some : (b : Bool) (v : Bytes) → is_some (cond b (Some v) None) ≡ b
told_some true v = refl
told_some false v = refl

-- bytes are the entry of a pair just where one of the pairs has them
any_told : (field : FieldOf) (m : Pairs) (e : Bytes) → list_any (has_entry field e) (all_of m) ≡ is_entry_in field m e
any_told field m e =
    ap (list_any (has_entry field e)) (all_entries m)
    ∙ sym (told_some (list_any (has_entry field e) (entries m)) [])
    ∙ ap is_some (sym (index_at field (entries m) e) ∙ index_told field m e)
    ∙ told_some (is_entry_in field m e) []

-- ---- what removals leave

-- whether these bytes are those, where there are some
abbrev is_it : Bytes → Option Bytes → Bool
is_it e None = false
is_it e (Some bytes) = eq_by_cmp byte_order e bytes

gone_at : (maps : FinMap nat_cmp Pairs) (index : ℕ) (bytes : Option Bytes) (e : Bytes) → lookup (map_at (written maps (goes index bytes)) index) e ≡ cond (is_it e bytes) None (lookup (map_at maps index) e)
gone_at maps index None e = refl
gone_at maps index (Some bytes) e =
    ap (λ (x : Pairs). lookup x e) (map_here maps index (altered (map_at maps index) bytes None))
    ∙ get-remove nat_list_cmp_total (map_at maps index) bytes e

unless_it : (c : Bool) (e bytes : Bytes) → is_it e (if c then None else Some bytes) ≡ cond c false (eq_by_cmp byte_order e bytes)
unless_it true e bytes = refl
unless_it false e bytes = refl

some_found : (b : Bool) (v : Bytes) (o : Option Bytes) → is_some (cond b (Some v) o) ≡ (b || is_some o)
some_found true v o = refl
some_found false v o = refl

same_cond : (b : Bool) (x : Option Bytes) → x ≡ cond b x x
same_cond true x = refl
same_cond false x = refl

removal_step : (b c q r : Bool) (x : Option Bytes) → (q ≡ true → c ≡ b)
    → cond b (cond (cond c false q) None x) (cond r None (cond (cond c false q) None x)) ≡ cond b x (cond (q || r) None x)
removal_step true true q r x same = refl
removal_step true false true r x same = absurd (true≢false (sym (same refl)))
removal_step true false false r x same = refl
removal_step false true true r x same = absurd (true≢false (same refl))
removal_step false true false r x same = refl
removal_step false false true true x same = refl
removal_step false false true false x same = refl
removal_step false false false r x same = refl

-- what is no entry is gone where one of the pairs has it, and nothing else is
removed_at : (field : FieldOf) (index : ℕ) (m : Pairs) (ps : List (Bytes × Bytes)) (maps : FinMap nat_cmp Pairs) (e : Bytes) → lookup (map_at (written maps (removals field index m ps)) index) e
    ≡ cond (is_entry_in field m e) (lookup (map_at maps index) e) (cond (is_some (find byte_order e ps)) None (lookup (map_at maps index) e))
removed_at field index m [] maps e = same_cond (is_entry_in field m e) (lookup (map_at maps index) e)
removed_at field index m (p ∷ ps) maps e =
    let b = is_entry_in field m e in
    let c = is_entry_in field m p.0 in
    let q = eq_by_cmp byte_order e p.0 in
    let r = is_some (find byte_order e ps) in
    let x = lookup (map_at maps index) e in
    let here = gone_at maps index (stale field m p.0) e ∙ ap (λ it. cond it None x) (unless_it c e p.0) in
    ap (λ n. lookup (map_at n index) e) (written_append maps (goes index (stale field m p.0)) (removals field index m ps))
    ∙ removed_at field index m ps (written maps (goes index (stale field m p.0))) e
    ∙ ap (λ y. cond b y (cond r None y)) here
    ∙ removal_step b c q r x (λ tie. ap (is_entry_in field m) (sym (eq_same e p.0 tie)))
    ∙ ap (λ s. cond b x (cond s None x)) (sym (some_found q p.1 (find byte_order e ps)))

-- ---- and what additions make of it

-- whether these bytes stand with an empty value
abbrev stands : Pairs → Bytes → Bool
stands found e = option_eq bytes_eq (lookup found e) (Some [])

come_at : (maps : FinMap nat_cmp Pairs) (index : ℕ) (bytes : Option Bytes) (e : Bytes) → lookup (map_at (written maps (comes index bytes)) index) e ≡ cond (is_it e bytes) (Some []) (lookup (map_at maps index) e)
come_at maps index None e = refl
come_at maps index (Some bytes) e =
    ap (λ (x : Pairs). lookup x e) (map_here maps index (altered (map_at maps index) bytes (Some [])))
    ∙ get-insert nat_list_cmp_total (map_at maps index) bytes [] e

lacking_step : (c q s : Bool) → (q ≡ true → c ≡ s) → cond c false q ≡ (q && not s)
lacking_step true true true same = refl
lacking_step true true false same = absurd (true≢false (same refl))
lacking_step false true true same = absurd (true≢false (sym (same refl)))
lacking_step false true false same = refl
lacking_step true false s same = refl
lacking_step false false s same = refl

-- bytes are what is lacking of a key with this field where they are its entry, and don't stand
lacking_it : (found : Pairs) (key : Bytes) (f : Option Bytes) (e : Bytes) → is_it e (lacking found key f) ≡ (is_entry e key f && not (stands found e))
lacking_it found key None e = refl
lacking_it found key (Some f) e =
    unless_it (stands found (entry f key)) e (entry f key)
    ∙ lacking_step (stands found (entry f key)) (eq_by_cmp byte_order e (entry f key)) (stands found e) (λ tie. ap (stands found) (sym (eq_same e (entry f key) tie)))

addition_step : (h s r : Bool) (x z : Option Bytes) → cond r (cond s (cond (h && not s) z x) z) (cond (h && not s) z x) ≡ cond (h || r) (cond s x z) x
addition_step false s r x z = refl
addition_step true true true x z = refl
addition_step true true false x z = refl
addition_step true false true x z = refl
addition_step true false false x z = refl

-- the entry of one of the pairs has an empty value, unless it stood, and nothing else changes
added_at : (field : FieldOf) (index : ℕ) (found : Pairs) (ps : List (Bytes × Bytes)) (maps : FinMap nat_cmp Pairs) (e : Bytes) → lookup (map_at (written maps (additions field index found ps)) index) e
    ≡ cond (list_any (has_entry field e) ps) (cond (stands found e) (lookup (map_at maps index) e) (Some [])) (lookup (map_at maps index) e)
added_at field index found [] maps e = refl
added_at field index found (p ∷ ps) maps e =
    let h = has_entry field e p in
    let s = stands found e in
    let r = list_any (has_entry field e) ps in
    let x = lookup (map_at maps index) e in
    let here = come_at maps index (lacking_of field found p) e ∙ ap (λ it. cond it (Some []) x) (lacking_it found p.0 (field p.0 p.1) e) in
    ap (λ n. lookup (map_at n index) e) (written_append maps (comes index (lacking_of field found p)) (additions field index found ps))
    ∙ added_at field index found ps (written maps (comes index (lacking_of field found p))) e
    ∙ ap (λ y. cond r (cond s y (Some [])) y) here
    ∙ addition_step h s r x (Some [])

-- ---- so all of them make the index

none_left : (o : Option Bytes) → cond (is_some o) None o ≡ None
none_left None = refl
none_left (Some v) = refl

made_at : (b : Bool) (o : Option Bytes) → cond b (cond (option_eq bytes_eq o (Some [])) (cond b o None) (Some [])) (cond b o None) ≡ cond b (Some []) None
made_at false o = refl
made_at true None = refl
made_at true (Some []) = refl
made_at true (Some (v ∷ vs)) = refl

abbrev all_items : FieldOf → ℕ → Pairs → Pairs → List Item
all_items field index m found = removals field index m (all_of found) ++ additions field index found (all_of m)

items_make : (field : FieldOf) (index : ℕ) (m found : Pairs) (maps : FinMap nat_cmp Pairs) → map_at maps index ≡ found → map_at (written maps (all_items field index m found)) index ≡ index_of field m
items_make field index m found maps at = same_map nat_list_cmp_total same_bytes _ _ (λ e.
    let gone = removals field index m (all_of found) in
    let come = additions field index found (all_of m) in
    let b = is_entry_in field m e in
    let s = stands found e in
    let o = lookup found e in
    let left : lookup (map_at (written maps gone) index) e ≡ cond b o None =
    removed_at field index m (all_of found) maps e
    ∙ ap (λ (x : Pairs). cond b (lookup x e) (cond (is_some (find byte_order e (all_of found))) None (lookup x e))) at
    ∙ ap (λ ps. cond b o (cond (is_some (find byte_order e ps)) None o)) (all_entries found)
    ∙ ap (λ w. cond b o (cond (is_some w) None o)) (sym (get-entries found e))
    ∙ ap (cond b o) (none_left o) in
    ap (λ n. lookup (map_at n index) e) (written_append maps gone come)
    ∙ added_at field index found (all_of m) (written maps gone) e
    ∙ ap (λ y. cond (list_any (has_entry field e) (all_of m)) (cond s y (Some [])) y) left
    ∙ ap (λ a. cond a (cond s (cond b o None) (Some [])) (cond b o None)) (any_told field m e)
    ∙ made_at b o
    ∙ sym (index_told field m e))

-- ---- what holds of each item

all_flat : {X : Type 0} (P : Item → Type 0) (f : X → List Item) → ((x : X) → All P (f x)) → (xs : List X) → All P (flat_map f xs)
all_flat P f each [] = All-nil P
all_flat P f each (x ∷ xs) = All-append P (f x) (flat_map f xs) (each x) (all_flat P f each xs)

abbrev IsOf : ℕ → Item → Type 0
IsOf index one = one.id ≡ index

abbrev IsNeeded : Pairs → Item → Type 0
IsNeeded found one = lookup found one.key ≢ one.value

item_of : (index : ℕ) (bytes value : Option Bytes) → All (IsOf index) (entry_item index bytes value)
item_of index None value = All-nil (IsOf index)
item_of index (Some bytes) value = All-cons (IsOf index) (item index bytes value) [] refl (All-nil (IsOf index))

items_alone : (field : FieldOf) (index : ℕ) (m found : Pairs) → All (IsOf index) (all_items field index m found)
items_alone field index m found =
    All-append (IsOf index) (removals field index m (all_of found)) (additions field index found (all_of m))
    (all_flat (IsOf index) (λ (p : Bytes × Bytes). goes index (stale field m p.0)) (λ p. item_of index (stale field m p.0) None) (all_of found))
    (all_flat (IsOf index) (λ (p : Bytes × Bytes). comes index (lacking_of field found p)) (λ p. item_of index (lacking_of field found p) (Some [])) (all_of m))

removals_needed : (field : FieldOf) (index : ℕ) (m found : Pairs) (ps : List (Bytes × Bytes)) → AreOf found ps → All (IsNeeded found) (removals field index m ps)
removals_needed field index m found [] are = All-nil (IsNeeded found)
removals_needed field index m found (p ∷ ps) are =
    All-append (IsNeeded found) (goes index (stale field m p.0)) (removals field index m ps) (here (is_entry_in field m p.0)) (removals_needed field index m found ps are.1)
  where
    here : (c : Bool) → All (IsNeeded found) (goes index (if c then None else Some p.0))
    here true = All-nil (IsNeeded found)
    here false = All-cons (IsNeeded found) (item index p.0 None) [] (λ off. none-some p.1 (sym off ∙ are.0)) (All-nil (IsNeeded found))

addition_needed : (index : ℕ) (found : Pairs) (key : Bytes) (f : Option Bytes) → All (IsNeeded found) (comes index (lacking found key f))
addition_needed index found key None = All-nil (IsNeeded found)
addition_needed index found key (Some f) = by (stands found (entry f key)) refl
  where
    by : (c : Bool) → stands found (entry f key) ≡ c → All (IsNeeded found) (comes index (if c then None else Some (entry f key)))
    by true is = All-nil (IsNeeded found)
    by false off =
        All-cons (IsNeeded found) (item index (entry f key) (Some [])) []
        (λ is. true≢false (sym (ap (λ o. option_eq bytes_eq o (Some [])) is) ∙ off)) (All-nil (IsNeeded found))

items_needed : (field : FieldOf) (index : ℕ) (m found : Pairs) → All (IsNeeded found) (all_items field index m found)
items_needed field index m found =
    All-append (IsNeeded found) (removals field index m (all_of found)) (additions field index found (all_of m))
    (removals_needed field index m found (all_of found) (subst (AreOf found) (sym (all_entries found)) (all_stand found)))
    (all_flat (IsNeeded found) (λ (p : Bytes × Bytes). comes index (lacking_of field found p)) (λ p. addition_needed index found p.0 (field p.0 p.1)) (all_of m))

-- the removals and the additions repair the index
pub items_repair : (field : FieldOf) (index : ℕ) (m found : Pairs) (items : List Item) → items ≡ all_items field index m found → AreRepairs field index m found items
items_repair field index m found items is = subst (AreRepairs field index m found) (sym is) (record {
  alone = items_alone field index m found;
  needed = items_needed field index m found;
  make = items_make field index m found;
})

-- ---- what follows of such items

-- the maps behind an item
abbrev next : FinMap nat_cmp Pairs → Item → FinMap nat_cmp Pairs
next maps x = insert maps x.id (altered (map_at maps x.id) x.key x.value)

-- no other keyspace changes
pub others_stay : (index : ℕ) (items : List Item) → All (IsOf index) items → (maps : FinMap nat_cmp Pairs) (id : ℕ) → id ≢ index → map_at (written maps items) id ≡ map_at maps id
others_stay index [] alone maps id differs = refl
others_stay index (x ∷ xs) alone maps id differs =
    others_stay index xs (All-tail (IsOf index) x xs alone) (next maps x) id differs
    ∙ map_there maps x.id id (altered (map_at maps x.id) x.key x.value) (λ same. differs (sym same ∙ All-head (IsOf index) x xs alone))

-- the last item's key has what the item gives it
last_stands : (index : ℕ) (P : Item → Type 0) (x : Item) (xs : List Item) → All (IsOf index) (x ∷ xs) → All P (x ∷ xs) → (maps : FinMap nat_cmp Pairs)
    → (one : Item) × (P one × (lookup (map_at (written maps (x ∷ xs)) index) one.key ≡ one.value))
last_stands index P x [] alone all maps = (x, (All-head P x [] all, subst (λ (j : ℕ). lookup (map_at (next maps x) j) x.key ≡ x.value) (All-head (IsOf index) x [] alone) here))
  where
    here : lookup (map_at (next maps x) x.id) x.key ≡ x.value
    here =
        ap (λ (y : Pairs). lookup y x.key) (map_here maps x.id (altered (map_at maps x.id) x.key x.value))
        ∙ get_altered (map_at maps x.id) x.key x.value x.key
        ∙ ap (λ b. cond b x.value (lookup (map_at maps x.id) x.key)) (eq_itself x.key)
last_stands index P x (y ∷ ys) alone all maps = last_stands index P y ys (All-tail (IsOf index) x (y ∷ ys) alone) (All-tail P x (y ∷ ys) all) (next maps x)

-- nothing is written just where the index stands already
pub right_alone : (field : FieldOf) (index : ℕ) (m found : Pairs) (items : List Item) → AreRepairs field index m found items → (items ≡ []) ↔ (found ≡ index_of field m)
right_alone field index m found items are = (
  λ none. sym here ∙ ap (λ l. map_at (written maps l) index) (sym none) ∙ are.make maps here,
  λ right. by right items refl,
)
  where
    maps : FinMap nat_cmp Pairs
    maps = insert empty index found

    here : map_at maps index ≡ found
    here = map_here empty index found

    by : found ≡ index_of field m → (l : List Item) → items ≡ l → items ≡ []
    by right [] is = is
    by right (x ∷ xs) is =
        let last = last_stands index (IsNeeded found) x xs (subst (All (IsOf index)) is are.alone) (subst (All (IsNeeded found)) is are.needed) maps in
        let stays : map_at (written maps (x ∷ xs)) index ≡ found = ap (λ l. map_at (written maps l) index) (sym is) ∙ are.make maps here ∙ sym right in
        absurd (last.1.0 (ap (λ (y : Pairs). lookup y last.0.key) (sym stays) ∙ last.1.1))

-- where both maps are those that were read, the main keyspace's is indexed behind the items
pub repairs_index : (field : FieldOf) (main index : ℕ) (m found : Pairs) (items : List Item) → AreRepairs field index m found items → index ≢ main
    → (maps : FinMap nat_cmp Pairs) → map_at maps main ≡ m → map_at maps index ≡ found → IsIndexed field main index (written maps items)
repairs_index field main index m found items are other maps at_main at_index =
    are.make maps at_index
    ∙ ap (index_of field) (sym (others_stay index items are.alone maps main (λ same. other (sym same)) ∙ at_main))

-- ---- pair by pair

-- what is stale of one more pair was added
pub one_removed : (field : FieldOf) (index : ℕ) (m : Pairs) (old new all : List Item) (rest left : List (Bytes × Bytes)) (p : Bytes × Bytes) (going : Option Bytes) → old ++ removals field index m rest ≡ all
    → rest ≡ p ∷ left → going ≡ stale field m p.0 → new ≡ old ++ goes index going → new ++ removals field index m left ≡ all
one_removed field index m old new all rest left p going so taken told is =
    ap (λ l. l ++ removals field index m left) (is ∙ ap (λ o. old ++ goes index o) told)
    ∙ append_assoc old (goes index (stale field m p.0)) (removals field index m left)
    ∙ ap (λ l. old ++ removals field index m l) (sym taken)
    ∙ so

-- what is lacking of one more pair was
pub one_added : (field : FieldOf) (index : ℕ) (found : Pairs) (old new all : List Item) (rest left : List (Bytes × Bytes)) (p : Bytes × Bytes) (coming : Option Bytes) (value : Bytes)
    → old ++ additions field index found rest ≡ all → rest ≡ p ∷ left → coming ≡ lacking_of field found p → value ≡ [] → new ≡ old ++ entry_item index coming (Some value)
    → new ++ additions field index found left ≡ all
one_added field index found old new all rest left p coming value so taken told none is =
    ap (λ l. l ++ additions field index found left) (is ∙ ap (λ v. old ++ entry_item index coming (Some v)) none ∙ ap (λ o. old ++ comes index o) told)
    ∙ append_assoc old (comes index (lacking_of field found p)) (additions field index found left)
    ∙ ap (λ l. old ++ additions field index found l) (sym taken)
    ∙ so

-- it is too long where one of the others is, or itself
pub one_fits : (field : FieldOf) (found : Pairs) (all : Bool) (rest left : List (Bytes × Bytes)) (p : Bytes × Bytes) (lacks : Option Bytes) → lacks_long field found rest ≡ all → rest ≡ p ∷ left
    → lacks ≡ lacking_of field found p → is_long lacks ≡ false → lacks_long field found left ≡ all
one_fits field found all rest left p lacks so taken told fits =
    sym (ap (λ b. b || lacks_long field found left) (sym (ap is_long told) ∙ fits)) ∙ ap (lacks_long field found) (sym taken) ∙ so

pub one_is_long : (field : FieldOf) (found : Pairs) (all : Bool) (rest left : List (Bytes × Bytes)) (p : Bytes × Bytes) (lacks : Option Bytes) → lacks_long field found rest ≡ all → rest ≡ p ∷ left
    → lacks ≡ lacking_of field found p → is_long lacks ≡ true → all ≡ true
one_is_long field found all rest left p lacks so taken told long =
    sym so ∙ ap (lacks_long field found) taken ∙ ap (λ b. b || lacks_long field found left) (sym (ap is_long told) ∙ long)

-- ---- reads behind reads

abbrev GoOn : {R : Type 0} → (R → ℕ → Option Error → R → Type 0) → Type 0
GoOn {R} reads = (old mid new : R) (first id : ℕ) (error : Option Error) → reads old first None mid → reads mid id error new → reads old id error new

pub either_then : {R : Type 0} (reads : R → ℕ → Option Error → R → Type 0) → GoOn reads → (old mid new : R) (main index : ℕ) (error : Option Error)
    → ReadsEither reads old main index None mid → ReadsEither reads mid main index error new → ReadsEither reads old main index error new
either_then reads on old mid new main index error (inl a) (inl b) = inl (on old mid new main main error a b)
either_then reads on old mid new main index error (inl a) (inr b) = inr (on old mid new main index error a b)
either_then reads on old mid new main index error (inr a) (inl b) = inl (on old mid new index main error a b)
either_then reads on old mid new main index error (inr a) (inr b) = inr (on old mid new index index error a b)

pub reads_then : {R : Type 0} (reads : R → ℕ → Option Error → R → Type 0) → GoOn reads → (IsLong WasLong : Type 0) → (IsLong → WasLong) → (old mid new : R) (main index : ℕ) (error : Option Error)
    → ReadsEither reads old main index None mid → ReadsOrLong reads IsLong mid main index error new → ReadsOrLong reads WasLong old main index error new
reads_then reads on IsLong WasLong long old mid new main index error first (inl b) = inl (either_then reads on old mid new main index error first b)
reads_then reads on IsLong WasLong long old mid new main index error first (inr b) = inr (b.0, either_then reads on old mid new main index None first b.1, long b.2)
