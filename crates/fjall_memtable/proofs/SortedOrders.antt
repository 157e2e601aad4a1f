-- What it says of two versions that one is before the other.
use Rattle.std.proofs.Common.{◌≡◌, ◌<◌, Bool, true, false, cond, List, [], ◌∷◌, refl, sym, ap, ◌∙◌, inl, inr, ◌⊎◌}
use Rattle.std.specs.List.{filter}
use Rattle.std.specs.Str.{bytes_eq}
use Rattle.std.specs.Ordering.{is_eq}
use Rattle.std.specs.declared.cmp.Ordering.{Ordering}
use Rattle.std.specs.declared.cmp.Ordering.TheVariants.{Less, Equal, Greater}
use Rattle.std.proofs.lemmas.Bool.{true≢false, false_from_ne_true}
use Rattle.std.proofs.lemmas.Cmp.{nat_list_cmp_total, tied_itself}
use Rattle.std.proofs.lemmas.Map.Text.{is_eq-slice_cmp}
use Rattle.fjall_base.specs.Pairs.{Bytes, byte_order}
use Rattle.fjall_table.specs.Blocks.{Entry, StandsBefore, IsBefore}
use Rattle.fjall_memtable.proofs.Sameness.{same_key}
use Rattle.fjall_memtable.proofs.SortedRanges.{all_filter}
use Rattle.fjall_memtable.proofs.Sorting.{IsChain}

-- keys that compare as equal are equal
pub equal_keys : (a b : Bytes) → byte_order a b ≡ Equal → a ≡ b
equal_keys a b e = same_key a b (sym (is_eq-slice_cmp a b) ∙ ap is_eq e)

-- a key isn't less than itself
pub not_less : (a b : Bytes) → a ≡ b → byte_order a b ≡ Less → ⊥
not_less a b same e = true≢false (sym (ap is_eq (tied_itself nat_list_cmp_total a)) ∙ ap (λ (x : Bytes). is_eq (byte_order a x)) same ∙ ap is_eq e)

-- so a greater one is another
pub less_differs : (a b : Bytes) → byte_order a b ≡ Less → bytes_eq b a ≡ false
less_differs a b e = false_from_ne_true (bytes_eq b a) (λ h. not_less a b (sym (same_key b a h)) e)

-- a version before another has a lesser key, or the same key and a greater number
pub before_parts : (v w : Entry) → IsBefore v w → (byte_order v.key w.key ≡ Less) ⊎ ((byte_order v.key w.key ≡ Equal) × (w.number < v.number))
before_parts v w h = by (byte_order v.key w.key) refl h
  where
    by : (o : Ordering) → byte_order v.key w.key ≡ o → StandsBefore o v.number w.number → (byte_order v.key w.key ≡ Less) ⊎ ((byte_order v.key w.key ≡ Equal) × (w.number < v.number))
    by Less e k = inl e
    by Equal e k = inr (e, k)
    by Greater e k = absurd k

-- fewer versions in order are in order
pub filter_chain : (p : Entry → Bool) (vs : List Entry) → IsChain vs → IsChain (filter p vs)
filter_chain p [] up = tt
filter_chain p (v ∷ vs) up = by (p v) (filter_chain p vs up.1)
  where
    by : (b : Bool) → IsChain (filter p vs) → IsChain (cond b (v ∷ filter p vs) (filter p vs))
    by true more = (all_filter (IsBefore v) p vs up.0, more)
    by false more = more
