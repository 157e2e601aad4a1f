-- What a batch makes of trees, item by item.
use Rattle.std.proofs.Common.{◌≡◌, ℕ, ◌<◌, ◌≤◌, ◌^◌, ◌==◌, Bool, true, false, ◌||◌, cond, leb, List, [], ◌∷◌, ◌++◌, append_assoc, get_or, map, length, All, Some, None, refl, sym, ap, subst, ◌∙◌, inl, inr, arith}
use Rattle.std.specs.List.{filter, list_any}
use Rattle.std.proofs.lemmas.Bool.{cases_Bool, eq-eqb, eqb-false, eqb-true, false_from_ne_true, leb-false, true≢false}
use Rattle.std.proofs.lemmas.List.{append-nil}
use Rattle.std.proofs.lemmas.List.Elements.{All-cons, All-head, All-nil, All-tail}
use Rattle.fjall_base.specs.Pairs.{Bytes}
use Rattle.fjall_base.specs.declared.error.Error.TheVariants.{KeyEmpty, KeyTooLong, TooManyItems, ValueTooLong}
use Rattle.fjall_journal.specs.Ops.{BatchItem, bytes_in, items_refusal, some_key_empty, some_key_too_long, some_value_too_long, are_too_many, value_in}
use Rattle.fjall_journal.specs.declared.op.Op.{Op}
use Rattle.fjall_journal.specs.declared.op.Op.TheVariants.{Put, Remove, RemoveWeak}
use Rattle.fjall_table.specs.Blocks.{Entry, value_bytes}
use Rattle.fjall_memtable.specs.Parts.{IsHeld}
use Rattle.fjall_memtable.proofs.Apart.{held_behind}
use Rattle.fjall_tree.specs.Puts.{has_stamp, put, put_all}
use Rattle.fjall_tree.specs.Trees.{Shape, written}
use Rattle.fjall_trees.specs.Forests.{AreBefore, Forest, IsForest, Planted, altered_at}
use Rattle.fjall_trees.specs.Writes.{pushed, version_of_item, versions_of_items}

-- ---- one item more

pub pushed_none : (number : ℕ) (trees : Forest) → pushed number [] trees ≡ trees
unfolding pushed
pushed_none number [] = refl
pushed_none number (k ∷ trees) = ap (λ (f : Forest). k ∷ f) (pushed_none number trees)

turned : (a b : ℕ) → (a == b) ≡ (b == a)
turned a b = elim (cases_Bool (a == b)) [
  | inl t ↦ t ∙ sym (eq-eqb b a (sym (eqb-true a b t)))
  | inr f ↦ f ∙ sym (false_from_ne_true (b == a) (λ t. eqb-false a b f (sym (eqb-true b a t))))
]

one_more : (number : ℕ) (item : BatchItem) (kept : List BatchItem) (shape : Shape) (b : Bool)
    → put_all (map (version_of_item number) (cond b (item ∷ kept) kept)) shape ≡ cond b (put (version_of_item number item) (put_all (map (version_of_item number) kept) shape)) (put_all (map (version_of_item number) kept) shape)
one_more number item kept shape true = refl
one_more number item kept shape false = refl

item_more : (number : ℕ) (item : BatchItem) (items : List BatchItem) (k : Planted)
    → put_all (versions_of_items k.id number (item ∷ items)) k.shape ≡ cond (k.id == item.0) (put (version_of_item number item) (put_all (versions_of_items k.id number items) k.shape)) (put_all (versions_of_items k.id number items) k.shape)
item_more number item items k =
    one_more number item (filter (λ i. i.0 == k.id) items) k.shape (item.0 == k.id)
    ∙ ap (λ (b : Bool). cond b (put (version_of_item number item) (put_all (versions_of_items k.id number items) k.shape)) (put_all (versions_of_items k.id number items) k.shape)) (turned item.0 k.id)

pub pushed_more : (number : ℕ) (item : BatchItem) (items : List BatchItem) (trees : Forest)
    → pushed number (item ∷ items) trees ≡ altered_at item.0 (put (version_of_item number item)) (pushed number items trees)
unfolding pushed
pushed_more number item items [] = refl
pushed_more number item items (k ∷ trees) = λ i. (let p : Planted = record { id = k.id; shape = item_more number item items k i } in p) ∷ pushed_more number item items trees i

pub pushed_one : (number : ℕ) (item : BatchItem) (trees : Forest) → pushed number (item ∷ []) trees ≡ altered_at item.0 (put (version_of_item number item)) trees
pushed_one number item trees = pushed_more number item [] trees ∙ ap (altered_at item.0 (put (version_of_item number item))) (pushed_none number trees)

-- ---- where numbers begin

put_from : (v : Entry) (shape : Shape) → (put v shape).memory.active.from ≡ shape.memory.active.from
unfolding put
put_from v shape = by (has_stamp v shape)
  where
    by : (b : Bool) → (cond b shape (written v shape)).memory.active.from ≡ shape.memory.active.from
    by true = refl
    by false = refl

put_all_from : (vs : List Entry) (shape : Shape) → (put_all vs shape).memory.active.from ≡ shape.memory.active.from
put_all_from [] shape = refl
put_all_from (v ∷ vs) shape = put_from v (put_all vs shape) ∙ put_all_from vs shape

pub begun : (number : ℕ) (trees : Forest) → IsForest trees → AreBefore number trees → All (λ k. k.shape.memory.active.from ≤ number) trees
begun number trees is before = λ i d lt.
    let k = get_or trees i d in
    let held = held_behind k.shape.memory.sealed (k.shape.memory.active ∷ []) (is.each i d lt).held in
    let bounds = (All-head IsHeld k.shape.memory.active [] held).bounds in
    let below = before i d lt in
    omega (arith, bounds, below)

pub pushed_begun : (number bound : ℕ) (items : List BatchItem) (trees : Forest) → All (λ k. k.shape.memory.active.from ≤ bound) trees → All (λ k. k.shape.memory.active.from ≤ bound) (pushed number items trees)
unfolding pushed
pushed_begun number bound items [] all = All-nil (λ (k : Planted). k.shape.memory.active.from ≤ bound)
pushed_begun number bound items (k ∷ trees) all =
    let same = put_all_from (versions_of_items k.id number items) k.shape in
    let here = All-head (λ (k : Planted). k.shape.memory.active.from ≤ bound) k trees all in
    All-cons (λ (k : Planted). k.shape.memory.active.from ≤ bound) (record { id = k.id; shape = put_all (versions_of_items k.id number items) k.shape }) (pushed number items trees)
    (subst (λ (n : ℕ). n ≤ bound) (sym same) here) (pushed_begun number bound items trees (All-tail (λ (k : Planted). k.shape.memory.active.from ≤ bound) k trees all))

-- ---- items that a batch may have

-- Its key and its value are such as a tree takes.
pub record Fits (item : BatchItem) : Type 0 where
  pub some : 0 < length item.1
  pub key : length item.1 < 2 ^ 16
  pub value : length (value_bytes (value_in item.2)) < 2 ^ 32

each_false : (f : BatchItem → Bool) (items : List BatchItem) → list_any f items ≡ false → All (λ item. f item ≡ false) items
each_false f [] none = All-nil (λ (item : BatchItem). f item ≡ false)
each_false f (item ∷ items) none = by (f item) refl none (each_false f items)
  where
    by : (b : Bool) → f item ≡ b → (b || list_any f items) ≡ false → (list_any f items ≡ false → All (λ item. f item ≡ false) items) → All (λ item. f item ≡ false) (item ∷ items)
    by true e none more = absurd (true≢false none)
    by false e none more = All-cons (λ (item : BatchItem). f item ≡ false) item items e (more none)

no_cause : (a b c d : Bool) → cond a (Some KeyEmpty) (cond b (Some KeyTooLong) (cond c (Some ValueTooLong) (cond d (Some TooManyItems) None))) ≡ None → (a ≡ false) × (b ≡ false) × (c ≡ false)
no_cause true b c d e = absurd (cc e)
no_cause false true c d e = absurd (cc e)
no_cause false false true d e = absurd (cc e)
no_cause false false false d e = (refl, refl, refl)

same_bytes : (op : Op) → value_bytes (value_in op) ≡ bytes_in op
same_bytes (Put value) = refl
same_bytes Remove = refl
same_bytes RemoveWeak = refl

pub each_fits : (items : List BatchItem) → items_refusal items ≡ None → All Fits items
each_fits items none = λ i d lt.
    let p = no_cause (some_key_empty items) (some_key_too_long items) (some_value_too_long items) (are_too_many items) none in
    let item = get_or items i d in
    let filled = eqb-false (length item.1) 0 (each_false (λ item. length item.1 == 0) items p.0 i d lt) in
    record {
      some = omega (arith, filled);
      key = leb-false (2 ^ 16) (length item.1) (each_false (λ item. leb (2 ^ 16) (length item.1)) items p.1 i d lt);
      value = subst (λ (bytes : Bytes). length bytes < 2 ^ 32) (sym (same_bytes item.2)) (leb-false (2 ^ 32) (length (bytes_in item.2)) (each_false (λ item. leb (2 ^ 32) (length (bytes_in item.2))) items p.2 i d lt));
    }

-- what holds of all holds of one among them
pub fits_among : (before : List BatchItem) (item : BatchItem) (done : List BatchItem) → All Fits (before ++ item ∷ done) → Fits item
fits_among [] item done all = All-head Fits item done all
fits_among (x ∷ before) item done all = fits_among before item done (All-tail Fits x (before ++ item ∷ done) all)

-- ---- from the last item to the first

-- Of the items all but these first ones were put.
pub record Pushing (number : ℕ) (items rest : List BatchItem) (old now : Forest) : Type 0 where
  pub done : List BatchItem
  pub all : items ≡ rest ++ done
  pub made : now ≡ pushed number done old

pub pushing_none : (number : ℕ) (items : List BatchItem) (trees : Forest) → Pushing number items items trees trees
pushing_none number items trees = record { done = []; all = sym (append-nil items); made = sym (pushed_none number trees) }

pub pushing_item : (number : ℕ) (items rest before : List BatchItem) (item : BatchItem) (old now : Forest) → Pushing number items rest old now → rest ≡ before ++ item ∷ []
    → (done : List BatchItem) × (items ≡ before ++ item ∷ done)
pushing_item number items rest before item old now p is = (p.done, p.all ∙ ap (λ (xs : List BatchItem). xs ++ p.done) is ∙ append_assoc before (item ∷ []) p.done)

pub pushing_more : (number : ℕ) (items rest before : List BatchItem) (item : BatchItem) (old now new : Forest) → Pushing number items rest old now → rest ≡ before ++ item ∷ []
    → new ≡ altered_at item.0 (put (version_of_item number item)) now → Pushing number items before old new
pushing_more number items rest before item old now new p is made = record {
  done = item ∷ p.done;
  all = p.all ∙ ap (λ (xs : List BatchItem). xs ++ p.done) is ∙ append_assoc before (item ∷ []) p.done;
  made = made ∙ ap (altered_at item.0 (put (version_of_item number item))) p.made ∙ sym (pushed_more number item p.done old);
}

pub pushing_all : (number : ℕ) (items rest : List BatchItem) (old now : Forest) → Pushing number items rest old now → length rest ≡ 0 → now ≡ pushed number items old
pushing_all number items [] old now p none = p.made ∙ ap (λ (xs : List BatchItem). pushed number xs old) (sym p.all)
pushing_all number items (item ∷ rest) old now p none = absurd (omega (arith, none))

pub pushing_begun : (number : ℕ) (items rest : List BatchItem) (old now : Forest) → Pushing number items rest old now → IsForest old → AreBefore number old → All (λ k. k.shape.memory.active.from ≤ number) now
pushing_begun number items rest old now p is before =
    subst (λ (f : Forest). All (λ (k : Planted). k.shape.memory.active.from ≤ number) f) (sym p.made) (pushed_begun number number p.done old (begun number old is before))
