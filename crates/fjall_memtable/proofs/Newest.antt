-- The versions of keys, with one entry more.
use Rattle.std.proofs.Common.{◌≡◌, ◌≢◌, ℕ, ◌<◌, ◌≤◌, Bool, true, false, ◌&&◌, nat_lt, List, [], ◌∷◌, refl, sym, ap, ◌∙◌, inl, inr, cond}
use Rattle.std.specs.List.{All, AllByRecursion}
use Rattle.std.specs.Str.{bytes_eq}
use Rattle.std.specs.Ordering.{nat_cmp, ordering_then, match_ordering}
use Rattle.std.specs.declared.cmp.Ordering.{Ordering}
use Rattle.std.specs.declared.cmp.Ordering.TheVariants.{Less, Equal, Greater}
use Rattle.std.proofs.lemmas.Bool.{cases_Bool, lt-ltb, le-ltb}
use Rattle.std.proofs.lemmas.Cmp.{nat_list_cmp_total, tied_itself}
use Rattle.std.proofs.lemmas.List.Elements.{recursion_from_All}
use Rattle.std.proofs.lemmas.Slice.Eq.{bytes_eq-Decides}
use Rattle.fjall_base.specs.Pairs.{byte_order}
use Rattle.fjall_table.specs.Blocks.{Entry}
use Rattle.fjall_table.specs.Tables.{versions_at}
use Rattle.fjall_memtable.specs.Stamps.{Stamp, stamp_cmp}
use Rattle.fjall_memtable.specs.Entries.{stamp_of, inserted}
use Rattle.fjall_memtable.proofs.Fronts.{less}
use Rattle.fjall_memtable.proofs.Orders.{same_stamp}

-- whether a version of that stamp is asked for
abbrev asked : List ℕ → ℕ → Stamp → Bool
asked key instant s = bytes_eq s.key key && nat_lt s.number instant

abbrev IsOlder : Entry → Entry → Type 0
IsOlder e x = x.key ≡ e.key → x.number < e.number

-- older versions of the key stand behind it
before_older : (e x : Entry) → IsOlder e x → x.key ≡ e.key → stamp_cmp (stamp_of e) (stamp_of x) ≡ Less
before_older e x older same =
    ap (λ (k : List ℕ). ordering_then (byte_order e.key k) (nat_cmp x.number e.number)) same
    ∙ ap (λ (o : Ordering). ordering_then o (nat_cmp x.number e.number)) (tied_itself nat_list_cmp_total e.key)
    ∙ less x.number e.number (older same)

-- what stands before it isn't of the key
other_key : (e x : Entry) → IsOlder e x → stamp_cmp (stamp_of e) (stamp_of x) ≡ Greater → bytes_eq x.key e.key ≡ false
other_key e x older o =
    elim (cases_Bool (bytes_eq x.key e.key)) [
      | inl t ↦ absurd (cc (sym o ∙ before_older e x older ((bytes_eq-Decides x.key e.key).0 t)))
      | inr f ↦ f
    ]

never_level : (e x : Entry) → IsOlder e x → stamp_cmp (stamp_of e) (stamp_of x) ≡ Equal → ⊥
never_level e x older o =
    let s = same_stamp (stamp_of e) (stamp_of x) o in
    absurd (cc (sym o ∙ before_older e x older (sym (ap (λ (s : Stamp). s.key) s))))

newest_is : (e : Entry) (es : List Entry) (instant : ℕ) → AllByRecursion (IsOlder e) es → asked e.key instant (stamp_of e) ≡ true
    → versions_at e.key instant (inserted e es) ≡ e ∷ versions_at e.key instant es
newest_is e [] instant h here = rw here refl
newest_is e (x ∷ xs) instant h here = by (stamp_cmp (stamp_of e) (stamp_of x)) refl (newest_is e xs instant h.1 here)
  where
    by : (o : Ordering) → stamp_cmp (stamp_of e) (stamp_of x) ≡ o → versions_at e.key instant (inserted e xs) ≡ e ∷ versions_at e.key instant xs
        → versions_at e.key instant (match_ordering o (e ∷ x ∷ xs) (e ∷ xs) (x ∷ inserted e xs)) ≡ e ∷ versions_at e.key instant (x ∷ xs)
    by Less o more = rw here refl
    by Equal o more = absurd (never_level e x h.0 o)
    by Greater o more = rw (other_key e x h.0 o) more

pub newest_first : (e : Entry) (es : List Entry) (instant : ℕ) → All (IsOlder e) es → e.number < instant → versions_at e.key instant (inserted e es) ≡ e ∷ versions_at e.key instant es
newest_first e es instant h below = newest_is e es instant (recursion_from_All (IsOlder e) es h) (λ i. (bytes_eq-Decides e.key e.key).1 refl i && lt-ltb e.number instant below i)

stays : (e : Entry) (es : List Entry) (key : List ℕ) (instant : ℕ) → asked key instant (stamp_of e) ≡ false → versions_at key instant (inserted e es) ≡ versions_at key instant es
stays e [] key instant miss = rw miss refl
stays e (x ∷ xs) key instant miss = by (stamp_cmp (stamp_of e) (stamp_of x)) refl (stays e xs key instant miss)
  where
    by : (o : Ordering) → stamp_cmp (stamp_of e) (stamp_of x) ≡ o → versions_at key instant (inserted e xs) ≡ versions_at key instant xs
        → versions_at key instant (match_ordering o (e ∷ x ∷ xs) (e ∷ xs) (x ∷ inserted e xs)) ≡ versions_at key instant (x ∷ xs)
    by Less o more = rw miss refl
    by Equal o more = let missed : asked key instant (stamp_of x) ≡ false = ap (asked key instant) (sym (same_stamp (stamp_of e) (stamp_of x) o)) ∙ miss in rw (miss, missed) refl
    by Greater o more = ap (λ (ys : List Entry). cond (asked key instant (stamp_of x)) (x ∷ ys) ys) more

pub other_keys_stay : (e : Entry) (es : List Entry) (key : List ℕ) (instant : ℕ) → e.key ≢ key → versions_at key instant (inserted e es) ≡ versions_at key instant es
other_keys_stay e es key instant other =
    stays e es key instant (elim (cases_Bool (bytes_eq e.key key)) [ inl t ↦ absurd (other ((bytes_eq-Decides e.key key).0 t)) | inr f ↦ rw f refl ])

pub earlier_instants_stay : (e : Entry) (es : List Entry) (key : List ℕ) (instant : ℕ) → instant ≤ e.number → versions_at key instant (inserted e es) ≡ versions_at key instant es
earlier_instants_stay e es key instant late =
    let miss = le-ltb e.number instant late in
    stays e es key instant (elim (cases_Bool (bytes_eq e.key key)) [ inl t ↦ rw (t, miss) refl | inr f ↦ rw f refl ])
