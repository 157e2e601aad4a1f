-- Searches by the fronts of keys.
use Rattle.std.proofs.Common.{◌≡◌, ℕ, zero, suc, ◌<◌, ◌≤◌, true, false, List, [], ◌∷◌, ◌++◌, drop, get_or, append_assoc, ◌+◌, map, length, slice_get, Option, Some, IfSome, refl, sym, ap, subst, ◌∙◌}
use Rattle.std.specs.Int.{w128, to_be_bytes}
use Rattle.std.specs.Ordering.{is_ne, nat_cmp, ordering_then}
use Rattle.std.specs.declared.cmp.Ordering.{Ordering}
use Rattle.std.specs.declared.cmp.Ordering.TheVariants.{Less, Equal, Greater}
use Rattle.std.proofs.lemmas.Cmp.{nat_list_cmp_total, tied_itself}
use Rattle.std.proofs.lemmas.List.{drop_all, map-append, take_all}
use Rattle.fjall_base.specs.Pairs.{byte_order}
use Rattle.fjall_base.proofs.Codecs.{some_is}
use Rattle.fjall_table.specs.Blocks.{Entry}
use Rattle.fjall_table.specs.Padded.{padded}
use Rattle.fjall_table.proofs.Fronts.{fronts_decide, parts_order}
use Rattle.fjall_table.proofs.Lookups.{same_key}
use Rattle.fjall_table.proofs.TableBlocks.{some_at}
use Rattle.fjall_table_reader.proofs.Places.{drop_here}
use Rattle.fjall_table_reader.specs.Places.{AreFronts}

-- the front at a place is that of the entry's key
front_at : (fronts : List ℕ) (es : List Entry) (at f : ℕ) (e : Entry) → AreFronts fronts es → f ≡ get_or fronts at f → slice_get es at ≡ Some e → to_be_bytes w128 f ≡ padded 16 e.key
front_at [] [] at f e are is here = absurd cc
front_at [] (x ∷ es) at f e are is here = absurd cc
front_at (g ∷ fronts) [] at f e are is here = absurd cc
front_at (g ∷ fronts) (x ∷ es) zero f e are is here =
    ap (to_be_bytes w128) is
    ∙ ap (λ (l : List (List ℕ)). get_or l 0 []) are
    ∙ ap (λ (y : Entry). padded 16 y.key) (some_is x e here)
front_at (g ∷ fronts) (x ∷ es) (suc at) f e are is here = front_at fronts es at f e (ap (drop 1) are) is here

-- where the fronts are unlike, the keys compare as they do
pub unlike_order : (fronts : List ℕ) (es : List Entry) (at f front : ℕ) (key : List ℕ) (o : Ordering) → AreFronts fronts es → at < length es → f ≡ get_or fronts at f → to_be_bytes w128 front ≡ padded 16 key → o ≡ byte_order (to_be_bytes w128 f) (to_be_bytes w128 front) → is_ne o ≡ true → IfSome (slice_get es at) (λ e. o ≡ byte_order e.key key)
unlike_order fronts es at f front key o are lt here told is unlike =
    let g = some_at es at lt in
    let decided = fronts_decide o (to_be_bytes w128 f) (to_be_bytes w128 front) g.0.key key (front_at fronts es at f g.0 are here g.1) told is unlike in
    subst (λ (v : Option Entry). IfSome v (λ e. o ≡ byte_order e.key key)) (sym g.1) decided

-- what isn't unlike is alike
pub not_ne : (o : Ordering) → is_ne o ≡ false → o ≡ Equal
not_ne Less e = absurd (cc e)
not_ne Equal e = refl
not_ne Greater e = absurd (cc e)

-- where they are alike, so are the first sixteen bytes of the keys, with zeros past their ends
pub like_fronts : (fronts : List ℕ) (es : List Entry) (at f front : ℕ) (key : List ℕ) (e : Entry) (o : Ordering) → AreFronts fronts es → slice_get es at ≡ Some e → f ≡ get_or fronts at f → to_be_bytes w128 front ≡ padded 16 key → o ≡ byte_order (to_be_bytes w128 f) (to_be_bytes w128 front) → is_ne o ≡ false → padded 16 e.key ≡ padded 16 key
like_fronts fronts es at f front key e o are there here told is alike =
    sym (front_at fronts es at f e are here there) ∙ same_key (to_be_bytes w128 f) (to_be_bytes w128 front) (sym is ∙ not_ne o alike) ∙ told

-- keys of at most sixteen bytes whose fronts are alike compare as their lengths do
pub short_order : (a b : List ℕ) → padded 16 a ≡ padded 16 b → length a ≤ 16 → length b ≤ 16 → nat_cmp (length a) (length b) ≡ byte_order a b
short_order a b alike fa fb =
    sym (
    (λ i. ordering_then (byte_order (alike i) (padded 16 b)) (ordering_then (byte_order (drop_all 16 a fa i) (drop_all 16 b fb i)) (nat_cmp (length (take_all 16 a fa i)) (length (take_all 16 b fb i)))))
    ∙ ap (λ (o : Ordering). ordering_then o (nat_cmp (length a) (length b))) (tied_itself nat_list_cmp_total (padded 16 b))
    )
    ∙ parts_order 16 a b

-- ---- a loop over entries

-- The fronts of the entries before a place were made.
abbrev pub Fronting : List ℕ → ℕ → List Entry → Type 0
Fronting fronts n es = map (to_be_bytes w128) fronts ++ map (λ e. padded 16 e.key) (drop n es) ≡ map (λ e. padded 16 e.key) es

-- one more was made
pub fronting_more : (fronts : List ℕ) (n f : ℕ) (es : List Entry) (e : Entry) → Fronting fronts n es → slice_get es n ≡ Some e → to_be_bytes w128 f ≡ padded 16 e.key → Fronting (fronts ++ f ∷ []) (n + 1) es
fronting_more fronts n f es e made here told =
    let front = λ (e : Entry). padded 16 e.key in
    let rest = map front (drop (n + 1) es) in
    ap (λ (v : List (List ℕ)). v ++ rest) (map-append (to_be_bytes w128) fronts (f ∷ []))
    ∙ append_assoc (map (to_be_bytes w128) fronts) (to_be_bytes w128 f ∷ []) rest
    ∙ ap (λ (v : List ℕ). map (to_be_bytes w128) fronts ++ (v ∷ rest)) told
    ∙ ap (λ (v : List Entry). map (to_be_bytes w128) fronts ++ map front v) (sym (drop_here es n e here))
    ∙ made
