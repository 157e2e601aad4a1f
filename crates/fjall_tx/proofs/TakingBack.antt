-- Writes that are taken back leave what was there before.
use Rattle.std.proofs.Common.{◌≡◌, ◌+◌, ◌≤◌, arith, ℕ, ◌^◌, ◌==◌, ◌||◌, Bool, true, false, cond, List, [], ◌∷◌, length, Option, None, Some, refl, sym, ◌∙◌, ap, subst, nat_le}
use Rattle.std.specs.Prelude.{IfSome, IsSome}
use Rattle.std.specs.BTreeMap.{is_at}
use Rattle.std.specs.Cmp.{eq_by_cmp_equiv}
use Rattle.std.specs.FinMap.{from_entries, get, get-insert, get-remove, insert, remove, same_map}
use Rattle.std.specs.List.{AllByRecursion}
use Rattle.std.specs.Map.{lookup, remove_entry}
use Rattle.std.specs.Ordering.{eq_by_cmp, is_eq}
use Rattle.std.proofs.lemmas.Cmp.{tied_itself}
use Rattle.fjall_base.specs.declared.error.Error.TheVariants.{KeyEmpty, KeyTooLong, TooManyItems, ValueTooLong}
use Rattle.fjall_journal.specs.Ops.{BatchItem, are_too_many, bytes_in, items_refusal, some_key_empty, some_key_too_long, some_value_too_long}
use Rattle.fjall_journal.specs.declared.op.Op.{Op}
use Rattle.fjall_tx.specs.declared.key.Key.{Key}
use Rattle.fjall_tx.specs.Owns.{CanTakeBack, Earlier, IsWritable, Own, key_of, key_order, put_back, taken_back}
use Rattle.fjall_tx.proofs.Keys.{key_tied, key_total, same_get}
use Rattle.fjall_tx.proofs.Merges.{is_tied}

-- ---- items that a batch can have

-- an item that a batch can have
abbrev pub Fits : BatchItem → Type 0
Fits item = IsWritable (key_of item.0 item.1, item.2)

neither : (a b : Bool) → (a || b) ≡ false → (a ≡ false) × (b ≡ false)
neither true b e = absurd cc
neither false b e = (refl, e)

-- where no cause is there, none is told
not_refused : (a b c : Bool) → a ≡ false → b ≡ false → c ≡ false → cond a (Some KeyEmpty) (cond b (Some KeyTooLong) (cond c (Some ValueTooLong) None)) ≡ None
not_refused true b c e f g = absurd cc
not_refused false true c e f g = absurd cc
not_refused false false true e f g = absurd cc
not_refused false false false e f g = refl

each_fits : (items : List BatchItem) → some_key_empty items ≡ false → some_key_too_long items ≡ false → some_value_too_long items ≡ false → AllByRecursion Fits items
each_fits [] e f g = tt
each_fits (item ∷ items) e f g =
    let empty = neither (length item.1 == 0) (some_key_empty items) e in
    let key = neither (nat_le (2 ^ 16) (length item.1)) (some_key_too_long items) f in
    let value = neither (nat_le (2 ^ 32) (length (bytes_in item.2))) (some_value_too_long items) g in (
      not_refused (length item.1 == 0) (nat_le (2 ^ 16) (length item.1)) (nat_le (2 ^ 32) (length (bytes_in item.2))) empty.0 key.0 value.0,
      each_fits items empty.1 key.1 value.1,
    )

-- where nothing refuses the items, each of them fits
pub all_fit : (items : List BatchItem) → items_refusal items ≡ None → AllByRecursion Fits items
all_fit items none = by (some_key_empty items) (some_key_too_long items) (some_value_too_long items) (are_too_many items) refl refl refl none
  where
    by : (a b c d : Bool) → some_key_empty items ≡ a → some_key_too_long items ≡ b → some_value_too_long items ≡ c
        → cond a (Some KeyEmpty) (cond b (Some KeyTooLong) (cond c (Some ValueTooLong) (cond d (Some TooManyItems) None))) ≡ None → AllByRecursion Fits items
    by true b c d e f g is = absurd cc
    by false true c d e f g is = absurd cc
    by false false true d e f g is = absurd cc
    by false false false d e f g is = each_fits items e f g

-- ---- what was written before

-- what was written at a key can be written there again
pub found_writable : (q : Key) (es : List (Key × Op)) → AllByRecursion IsWritable es → IfSome (lookup (is_at (key_order q)) es) (λ op. IsWritable (q, op))
found_writable q [] h = tt
found_writable q (e ∷ es) h = by (found_writable q es h.1) (is_at (key_order q) e.0) refl
  where
    by : IfSome (lookup (is_at (key_order q)) es) (λ op. IsWritable (q, op)) → (b : Bool) → is_at (key_order q) e.0 ≡ b
        → IfSome (cond b (Some e.1) (lookup (is_at (key_order q)) es)) (λ op. IsWritable (q, op))
    by more true t = subst (λ (k : Key). IsWritable (k, e.1)) (sym (key_tied q e.0 (is_tied (key_order q e.0) t))) h.0
    by more false t = more

-- a key less leaves the others writable
pub rest_writable : (k : Key) (es : List (Key × Op)) → AllByRecursion IsWritable es → AllByRecursion IsWritable (remove_entry (is_at (key_order k)) es)
rest_writable k [] h = tt
rest_writable k (e ∷ es) h = by (rest_writable k es h.1) (is_at (key_order k) e.0)
  where
    by : AllByRecursion IsWritable (remove_entry (is_at (key_order k)) es) → (b : Bool) → AllByRecursion IsWritable (cond b es (e ∷ remove_entry (is_at (key_order k)) es))
    by rest true = h.1
    by rest false = (h.0, rest)

-- what a removal makes of it
pub removed_is : (old new : List (Key × Op)) (k : Key) → ((q : Key) → lookup (is_at (key_order q)) new ≡ cond (is_at (key_order k) q) None (lookup (is_at (key_order q)) old))
    → from_entries {R = key_order} new ≡ remove (from_entries old) k
removed_is old new k updates =
    same_map key_total key_tied (from_entries new) (remove (from_entries old) k)
    (λ q. same_get new q ∙ updates q ∙ ap (λ b. cond b None (lookup (is_at (key_order q)) old)) ((eq_by_cmp_equiv key_total).symm k q)
    ∙ sym (get-remove key_total (from_entries old) k q ∙ ap (λ o. cond (eq_by_cmp key_order q k) None o) (same_get old q)))

-- ---- what is put back

same_key : (own : Own) (k q : Key) (b : Bool) → eq_by_cmp key_order q k ≡ b → cond b (get own k) (get own q) ≡ get own q
same_key own k q true e = ap (get own) (sym (key_tied q k (is_tied (key_order q k) e)))
same_key own k q false e = refl

twice : {X : Type 0} (b : Bool) (x y z : X) → cond b x (cond b y z) ≡ cond b x z
twice true x y z = refl
twice false x y z = refl

-- a key that was written gets back what it had
pub back_again : (own : Own) (k : Key) (op : Op) (before : Option Op) → before ≡ get own k → put_back (insert own k op) (k, before) ≡ own
back_again own k op before is = same_map key_total key_tied (put_back (insert own k op) (k, before)) own
    (λ q. answers q before ∙ ap (λ (o : Option Op). cond (eq_by_cmp key_order q k) o (get (insert own k op) q)) is ∙ ap (λ (o : Option Op). cond (eq_by_cmp key_order q k) (get own k) o) (get-insert key_total own k op q)
    ∙ twice (eq_by_cmp key_order q k) (get own k) (Some op) (get own q) ∙ same_key own k q (eq_by_cmp key_order q k) refl)
  where
    answers : (q : Key) (o : Option Op) → get (put_back (insert own k op) (k, o)) q ≡ cond (eq_by_cmp key_order q k) o (get (insert own k op) q)
    answers q (Some v) = get-insert key_total (insert own k op) k v q
    answers q None = get-remove key_total (insert own k op) k q

-- a key that was written is there
pub is_there : (own : Own) (k : Key) (op : Op) → IsSome (get (insert own k op) k)
is_there own k op =
    subst (λ (o : Option Op). IsSome o) (sym (get-insert key_total own k op k ∙ ap (λ o. cond (is_eq o) (Some op) (get own k)) (tied_itself key_total k))) refl

-- so one more write can be taken back where those before it can
pub can_more : (own : Own) (k : Key) (op : Op) (before : Option Op) (others : List Earlier) → before ≡ get own k → IfSome before (λ o. IsWritable (k, o)) → CanTakeBack own others
    → CanTakeBack (insert own k op) ((k, before) ∷ others)
can_more own k op before others is writable can = (is_there own k op, writable, subst (λ (o : Own). CanTakeBack o others) (sym (back_again own k op before is)) can)

pub back_more : (own : Own) (k : Key) (op : Op) (before : Option Op) (others : List Earlier) → before ≡ get own k → taken_back (insert own k op) ((k, before) ∷ others) ≡ taken_back own others
back_more own k op before others is = ap (λ (o : Own). taken_back o others) (back_again own k op before is)

-- ---- how many there are

pub fewer : (b : Bool) (m n : ℕ) → m + cond b 1 0 ≡ n → m ≤ n
fewer true m n e = omega (arith, e)
fewer false m n e = omega (arith, e)

pub as_many : (b : Bool) (m n : ℕ) → b ≡ true → m ≡ n + cond b 0 1 → m ≡ n
as_many true m n is e = omega (arith, e)
as_many false m n is e = absurd cc
