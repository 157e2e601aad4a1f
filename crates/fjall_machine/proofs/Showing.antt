-- What reads of trees in memory give is what the map of a keyspace at an instant has.
use Rattle.std.proofs.Common.{◌≡◌, ℕ, ◌-◌, if◌then◌else◌, Bool, true, false, List, [], ◌∷◌, length, Option, None, Some, Result, Ok, Err, IfOk, All, MatchOption, Vec, unwrap_or, refl, sym, ap, ◌∙◌, arith}
use Rattle.std.specs.declared.alloc.Global.{Global}
use Rattle.std.specs.Result.{IsOkAnd}
use Rattle.std.proofs.lemmas.List.Elements.{All-weaker}
use Rattle.std.proofs.Math.Seq.{drop-nil, take-nil}
use Rattle.std.proofs.lemmas.Cmp.{nat_list_cmp_total}
use Rattle.std.specs.FinMap.{IsAntisymmetric, empty, entries, get, get-empty, get-retain_keys, len-empty, len-entries, nat_cmp-IsAntisymmetric, retain_keys, same_map, slice_cmp-IsAntisymmetric}
use Rattle.fjall_base.specs.Pairs.{Bytes, KeyRange, Pairs, byte_order, is_within, lookup, page, pairs_between}
use Rattle.fjall_base.specs.declared.error.Error.{Error}
use Rattle.fjall_memtable.specs.Views.{IsView, value_at}
use Rattle.fjall_tree.specs.Trees.{ReadsAll, Shape, clears_of, versions_of}
use Rattle.fjall_trees.specs.Forests.{Forest, Planted, tree_at}
use Rattle.fjall_base.specs.Disk.{Meaning}
use Rattle.fjall_table.specs.Blocks.{Entry}
use Rattle.fjall_table_reader.specs.Readers.{AreRead, Reader}
use Rattle.fjall_tree.specs.Puts.{bare_tree}
use Rattle.fjall_trees.specs.Tables.{AreReadOn, shape_in}
use Rattle.fjall_trees.proofs.Changing.{tree_under}
use Rattle.fjall_trees.specs.Maps.{pairs_in}
use Rattle.fjall_trees.specs.MapTables.{map_with, pairs_with}
use Rattle.fjall_trees.proofs.Bare.{bare_shows}
use Rattle.fjall_trees.proofs.MapReading.{is_view, key_with, nothing_with, read_key, read_nothing, view_with}

-- ---- a key

value_in : (id instant : ℕ) (trees : Forest) (key : Bytes) (value : Option Bytes) (found : Option Shape) → tree_at id trees ≡ found
    → MatchOption found (value ≡ None) (λ shape. value ≡ value_at key instant (clears_of shape) (versions_of shape [])) → value ≡ lookup (pairs_in id instant trees) key
value_in id instant trees key value None at is = is ∙ sym (get-empty byte_order key) ∙ ap (λ (pairs : Pairs). lookup pairs key) (sym (read_nothing id instant trees at))
value_in id instant trees key value (Some shape) at is = is ∙ sym (read_key id instant trees shape at key)

pub a_value_shown : (id instant : ℕ) (trees : Forest) (key : Bytes) (result : Result (Option Bytes) Error)
    → IfOk result (λ value. MatchOption (tree_at id trees) (value ≡ None) (λ shape. value ≡ value_at key instant (clears_of shape) (versions_of shape []))) → IfOk result (λ value. value ≡ lookup (pairs_in id instant trees) key)
a_value_shown id instant trees key (Ok value) is = value_in id instant trees key value (tree_at id trees) refl is
a_value_shown id instant trees key (Err error) is = tt

-- ---- a page

no_entries : (es : List (Bytes × Bytes)) → length es ≡ 0 → es ≡ []
no_entries [] e = refl
no_entries (entry ∷ es) e = absurd (omega arith)

nothing_left : (b : Bool) (slot : Option Bytes) → slot ≡ None → (if b then slot else None) ≡ None
nothing_left true slot none = none
nothing_left false slot none = refl

-- an empty map has nothing between any bounds
nothing_between : (range : KeyRange) → pairs_between range empty ≡ []
nothing_between range =
    ap entries (same_map nat_list_cmp_total tied (retain_keys empty (is_within range)) empty (λ q.
    get-retain_keys empty (is_within range) q (λ x e. ap (is_within range) (sym (tied q x e)))
    ∙ nothing_left (is_within range q) (get empty q) (get-empty byte_order q) ∙ sym (get-empty byte_order q)))
    ∙ no_entries (entries empty) (sym (len-entries empty) ∙ len-empty byte_order Bytes)
  where
    tied : IsAntisymmetric byte_order
    tied = slice_cmp-IsAntisymmetric nat_cmp-IsAntisymmetric

page_of_nothing : (back : Bool) (max : ℕ) → page back max [] ≡ []
page_of_nothing true max = drop-nil (length {A = Bytes × Bytes} [] - max)
page_of_nothing false max = take-nil max

page_in : (id instant : ℕ) (trees : Forest) (range : KeyRange) (back : Bool) (max : ℕ) (result : Result (Vec (Bytes × Bytes) Global) Error) (found : Option Shape) → tree_at id trees ≡ found
    → (tree_at id trees ≡ None → IfOk result (λ pairs. pairs.items ≡ []))
    → ((shape : Shape) (pairs : Pairs) → tree_at id trees ≡ Some shape → IsView instant (clears_of shape) (versions_of shape []) pairs → IfOk result (λ found. found.items ≡ page back max (pairs_between range pairs)))
    → IfOk result (λ found. found.items ≡ page back max (pairs_between range (pairs_in id instant trees)))
page_in id instant trees range back max (Err error) found at none some = tt
page_in id instant trees range back max (Ok pairs) None at none some =
    none at ∙ sym (page_of_nothing back max) ∙ ap (page back max) (sym (nothing_between range)) ∙ ap (λ (shown : Pairs). page back max (pairs_between range shown)) (sym (read_nothing id instant trees at))
page_in id instant trees range back max (Ok pairs) (Some shape) at none some = some shape (pairs_in id instant trees) at (is_view id instant trees shape at)

pub a_page_shown : (id instant : ℕ) (trees : Forest) (range : KeyRange) (back : Bool) (max : ℕ) (result : Result (Vec (Bytes × Bytes) Global) Error)
    → (tree_at id trees ≡ None → IfOk result (λ pairs. pairs.items ≡ []))
    → ((shape : Shape) (pairs : Pairs) → tree_at id trees ≡ Some shape → IsView instant (clears_of shape) (versions_of shape []) pairs → IfOk result (λ found. found.items ≡ page back max (pairs_between range pairs)))
    → IfOk result (λ found. found.items ≡ page back max (pairs_between range (pairs_in id instant trees)))
a_page_shown id instant trees range back max result = page_in id instant trees range back max result (tree_at id trees) refl

-- ---- beside tables

-- where a keyspace has no table, memory alone tells
pub bare_pairs : (entries : ℕ → List (List Entry)) (id instant : ℕ) (trees : Forest) → All (λ k. k.shape.tables ≡ [] → entries k.id ≡ []) trees → (shape_in id trees).tables ≡ []
    → pairs_in id instant trees ≡ pairs_with entries id instant trees
bare_pairs entries id instant trees is none = by (tree_at id trees) refl
  where
    by : (found : Option Shape) → tree_at id trees ≡ found → pairs_in id instant trees ≡ pairs_with entries id instant trees
    by None e = read_nothing id instant trees e ∙ sym (nothing_with entries id instant trees e)
    by (Some shape) e =
        let here : shape.tables ≡ [] = ap (λ (o : Option Shape). (unwrap_or o (bare_tree 0)).tables) (sym e) ∙ none in
        let no : entries id ≡ [] = tree_under (λ (k : Planted). k.shape.tables ≡ [] → entries k.id ≡ []) trees id shape is e here in
        ap (λ (p : ℕ → ℕ → Forest → Pairs). p id instant trees) (sym bare_shows) ∙ ap (λ (es : List (List Entry)). map_with es instant (tree_at id trees)) (sym no)

none_read : (disk : Meaning) (tables : List Reader) (entries : List (List Entry)) → AreRead disk tables entries → tables ≡ [] → entries ≡ []
none_read disk [] [] read none = refl
none_read disk [] (es ∷ entries) read none = absurd read
none_read disk (t ∷ tables) entries read none = let bad : ⊥ = cc in absurd bad

-- tables that are read
pub read_pairs : (disk : Meaning) (entries : ℕ → List (List Entry)) (id instant : ℕ) (trees : Forest) → AreReadOn disk trees entries → (shape_in id trees).tables ≡ []
    → pairs_in id instant trees ≡ pairs_with entries id instant trees
read_pairs disk entries id instant trees read none =
    bare_pairs entries id instant trees
    (All-weaker (λ (k : Planted). ReadsAll disk k.shape (entries k.id)) (λ k. k.shape.tables ≡ [] → entries k.id ≡ []) (λ k here bare. none_read disk k.shape.tables (entries k.id) here.tables bare) trees read) none

-- a keyspace has no table where their count is 0
pub none_counted : (tables : List Reader) (count : ℕ) → count ≡ length tables → count ≡ 0 → tables ≡ []
none_counted [] count is none = refl
none_counted (t ∷ tables) count is none = absurd (omega (arith, is, none))

pub value_with : (entries : ℕ → List (List Entry)) (id instant : ℕ) (trees : Forest) (key : Bytes) (result : Result (Option Bytes) Error) → (tree_at id trees ≡ None → result ≡ Ok None)
    → ((shape : Shape) → tree_at id trees ≡ Some shape → IfOk result (λ value. value ≡ value_at key instant (clears_of shape) (versions_of shape (entries id))))
    → IfOk result (λ value. value ≡ lookup (pairs_with entries id instant trees) key)
value_with entries id instant trees key (Err error) none some = tt
value_with entries id instant trees key (Ok value) none some = by (tree_at id trees) refl
  where
    ok : (a b : Option Bytes) → (let one : Result (Option Bytes) Error = Ok a in one) ≡ Ok b → a ≡ b
    ok a b same = cc

    by : (found : Option Shape) → tree_at id trees ≡ found → value ≡ lookup (pairs_with entries id instant trees) key
    by None e = ok value None (none e) ∙ sym (get-empty byte_order key) ∙ ap (λ (pairs : Pairs). lookup pairs key) (sym (nothing_with entries id instant trees e))
    by (Some shape) e = some shape e ∙ sym (key_with entries id instant trees shape e key)

pub page_with : (entries : ℕ → List (List Entry)) (id instant : ℕ) (trees : Forest) (range : KeyRange) (back : Bool) (max : ℕ) (result : Result (Vec (Bytes × Bytes) Global) Error)
    → (tree_at id trees ≡ None → IsOkAnd result (λ found. found.items ≡ []))
    → ((shape : Shape) (pairs : Pairs) → tree_at id trees ≡ Some shape → IsView instant (clears_of shape) (versions_of shape (entries id)) pairs → IfOk result (λ found. found.items ≡ page back max (pairs_between range pairs)))
    → IfOk result (λ found. found.items ≡ page back max (pairs_between range (pairs_with entries id instant trees)))
page_with entries id instant trees range back max (Err error) none some = tt
page_with entries id instant trees range back max (Ok pairs) none some = by (tree_at id trees) refl
  where
    by : (found : Option Shape) → tree_at id trees ≡ found → pairs.items ≡ page back max (pairs_between range (pairs_with entries id instant trees))
    by None e = none e ∙ sym (page_of_nothing back max) ∙ ap (page back max) (sym (nothing_between range)) ∙ ap (λ (shown : Pairs). page back max (pairs_between range shown)) (sym (nothing_with entries id instant trees e))
    by (Some shape) e = some shape (pairs_with entries id instant trees) e (view_with entries id instant trees shape e)
