-- Items whose keys ascend, and what holds where nothing refuses an ingestion of them.
use Rattle.std.proofs.Common.{◌≡◌, ℕ, zero, suc, ◌+◌, ◌<◌, ◌^◌, ◌==◌, ◌||◌, ◌&&◌, nat_le, Bool, true, false, cond, List, [], ◌∷◌, get_or, length, All, Option, None, Some, refl, sym, ap, subst, ◌∙◌, arith}
use Rattle.std.proofs.lemmas.Bool.{or_parts, true≢false}
use Rattle.std.proofs.lemmas.Cmp.{nat_list_cmp_total}
use Rattle.std.proofs.lemmas.List.Elements.{All-cons, All-nil, All-weaker}
use Rattle.std.proofs.lemmas.List.Kept.{AllPairs-cons}
use Rattle.std.specs.List.{IsAllAdjacentAnswer, list_any}
use Rattle.std.specs.Ordering.{is_lt}
use Rattle.std.specs.declared.cmp.Ordering.{Ordering}
use Rattle.std.specs.declared.cmp.Ordering.TheVariants.{Less, Equal, Greater}
use Rattle.fjall_base.specs.Limits.{item_refusal}
use Rattle.fjall_base.specs.Pairs.{byte_order}
use Rattle.fjall_base.specs.declared.error.Error.{Error}
use Rattle.fjall_base.specs.declared.error.Error.TheVariants.{KeyEmpty, KeyTooLong, ValueTooLong}
use Rattle.fjall_compaction.specs.Ingests.{batch_items}
use Rattle.fjall_journal.specs.Ops.{BatchItem, bytes_in}
use Rattle.fjall_reading.specs.Ingestions.{AreWritable, KeyOp, KeysAscend}
use Rattle.fjall_machine.specs.Ingesting.{MayIngest, do_ascend, ingestion_refusals, some_key_empty, some_key_too_long, some_value_too_long}
use Rattle.fjall_machine.specs.Machine.{Facts, first_due, is_living}
use Rattle.fjall_machine.proofs.Dues.{below, is_so, none_due, refusal_by}

-- ---- the test

both_true : (a b : Bool) → (a && b) ≡ true → (a ≡ true) × (b ≡ true)
both_true true b e = (refl, e)
both_true false b e = absurd (true≢false (sym e))

both : (a b : Bool) → a ≡ true → b ≡ true → (a && b) ≡ true
both true b one two = two
both false b one two = one

second : (a b : Bool) → b ≡ false → (a && b) ≡ false
second true b e = e
second false b e = refl

first : (a b : Bool) → a ≡ false → (a && b) ≡ false
first true b e = absurd (true≢false e)
first false b e = refl

abbrev is_next : KeyOp → KeyOp → Bool
is_next item next = is_lt (byte_order item.0 next.0)

-- the pair one place on
one_on : (P : KeyOp → KeyOp → Type 0) (x : KeyOp) (xs : List KeyOp) (k : ℕ) (d : KeyOp) → P (get_or (x ∷ xs) (suc k) d) (get_or (x ∷ xs) (suc k + 1) d) → P (get_or xs k d) (get_or xs (k + 1) d)
one_on P x xs k d there = let e : suc k + 1 ≡ suc (k + 1) = omega arith in subst (λ (n : ℕ). P (get_or xs k d) (get_or (x ∷ xs) n d)) e there

all_ascend : (items : List KeyOp) → ((k : ℕ) (d : KeyOp) → k + 1 < length items → true ≡ is_next (get_or items k d) (get_or items (k + 1) d)) → do_ascend items ≡ true
all_ascend [] all = refl
all_ascend (x ∷ []) all = refl
all_ascend (x ∷ y ∷ xs) all =
    both (is_next x y) (do_ascend (y ∷ xs)) (sym (all 0 x (omega arith)))
    (all_ascend (y ∷ xs) (λ k d lt. one_on (λ a b. true ≡ is_next a b) x (y ∷ xs) k d (all (suc k) d (omega (arith, lt)))))

some_back : (items : List KeyOp) (k : ℕ) → k + 1 < length items → ((d : KeyOp) → false ≡ is_next (get_or items k d) (get_or items (k + 1) d)) → do_ascend items ≡ false
some_back [] k lt back = absurd (omega (arith, lt))
some_back (x ∷ []) k lt back = absurd (omega (arith, lt))
some_back (x ∷ y ∷ xs) zero lt back = first (is_next x y) (do_ascend (y ∷ xs)) (sym (back x))
some_back (x ∷ y ∷ xs) (suc k) lt back =
    second (is_next x y) (do_ascend (y ∷ xs)) (some_back (y ∷ xs) k (omega (arith, lt)) (λ d. one_on (λ a b. false ≡ is_next a b) x (y ∷ xs) k d (back d)))

pub ascend_is : (items : List KeyOp) (r : Bool) → IsAllAdjacentAnswer (λ x y b. b ≡ is_next x y) items r → r ≡ do_ascend items
ascend_is items true all = sym (all_ascend items all)
ascend_is items false some = sym (some_back items some.0 some.1 some.2)

-- ---- keys that ascend

is_less : (o : Ordering) → is_lt o ≡ true → o ≡ Less
is_less Less e = refl
is_less Equal e = absurd (true≢false (sym e))
is_less Greater e = absurd (true≢false (sym e))

rest_ascends : (x : KeyOp) (xs : List KeyOp) → do_ascend (x ∷ xs) ≡ true → do_ascend xs ≡ true
rest_ascends x [] e = refl
rest_ascends x (y ∷ xs) e = (both_true (is_next x y) (do_ascend (y ∷ xs)) e).1

head_below : (x : KeyOp) (xs : List KeyOp) → do_ascend (x ∷ xs) ≡ true → All (λ y. byte_order x.0 y.0 ≡ Less) xs
head_below x [] e = All-nil (λ (y : KeyOp). byte_order x.0 y.0 ≡ Less)
head_below x (y ∷ xs) e =
    let parts = both_true (is_next x y) (do_ascend (y ∷ xs)) e in
    let less = is_less (byte_order x.0 y.0) parts.0 in
    All-cons (λ (z : KeyOp). byte_order x.0 z.0 ≡ Less) y xs less
    (All-weaker (λ (z : KeyOp). byte_order y.0 z.0 ≡ Less) (λ z. byte_order x.0 z.0 ≡ Less) (λ z more. nat_list_cmp_total.trans x.0 y.0 z.0 less more) xs (head_below y xs parts.1))

ascends : (items : List KeyOp) → do_ascend items ≡ true → KeysAscend items
ascends [] e = λ i j d lt within. absurd (omega (arith, within))
ascends (x ∷ xs) e = AllPairs-cons (λ (a b : KeyOp). byte_order a.0 b.0 ≡ Less) x xs (head_below x xs e) (ascends xs (rest_ascends x xs e))

-- ---- lengths

abbrev lengths_by : Bool → Bool → Bool → Option Error
lengths_by empty key value = cond empty (Some KeyEmpty) (cond key (Some KeyTooLong) (cond value (Some ValueTooLong) None))

writable : (items : List KeyOp) → some_key_empty items ≡ false → some_key_too_long items ≡ false → some_value_too_long items ≡ false → AreWritable items
writable [] empty key value = All-nil (λ (item : KeyOp). item_refusal item.0 (bytes_in item.1) ≡ None)
writable (item ∷ items) empty key value =
    let one = or_parts (length item.0 == 0) (some_key_empty items) empty in
    let two = or_parts (nat_le (2 ^ 16) (length item.0)) (some_key_too_long items) key in
    let three = or_parts (nat_le (2 ^ 32) (length (bytes_in item.1))) (some_value_too_long items) value in
    All-cons (λ (i : KeyOp). item_refusal i.0 (bytes_in i.1) ≡ None) item items (λ i. lengths_by (one.0 i) (two.0 i) (three.0 i)) (writable items one.1 two.1 three.1)

-- as those of a batch
any_batch : (p : BatchItem → Bool) (id : ℕ) (items : List KeyOp) → list_any p (batch_items id items) ≡ list_any (λ item. p (id, item.0, item.1)) items
any_batch p id [] = refl
any_batch p id (item ∷ items) = ap (λ (b : Bool). p (id, item.0, item.1) || b) (any_batch p id items)

as_many : (id : ℕ) (items : List KeyOp) → length (batch_items id items) ≡ length items
as_many id [] = refl
as_many id (item ∷ items) = ap suc (as_many id items)

pub may_ingest : (f : Facts) (id : ℕ) (items : List KeyOp) → first_due (ingestion_refusals f id items) ≡ None → MayIngest f id items
may_ingest f id items none =
    let causes = none_due (ingestion_refusals f id items) none in
    let empty = any_batch (λ item. length item.1 == 0) id items ∙ causes.0 in
    let key = any_batch (λ item. nat_le (2 ^ 16) (length item.1)) id items ∙ causes.1.0 in
    let value = any_batch (λ item. nat_le (2 ^ 32) (length (bytes_in item.2))) id items ∙ causes.1.1.0 in
    let many = ap (nat_le (2 ^ 32)) (as_many id items) ∙ causes.1.1.1.1.1.1.1.0 in
    record {
      ascend = ascends items (is_so (do_ascend items) causes.1.1.1.0);
      writable = writable items causes.0 causes.1.0 causes.1.1.0;
      fits = λ i. refusal_by (empty i) (key i) (value i) (many i);
      lives = is_so (is_living f.store id) causes.1.1.1.1.1.0;
      well = causes.1.1.1.1.1.1.0;
      numbered = below f.next (2 ^ 63) causes.1.1.1.1.1.1.1.1.0;
    }
