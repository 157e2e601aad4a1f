-- Where no refusal is due, no cause of one holds.
use Rattle.std.proofs.Common.{◌≡◌, ◌≢◌, ℕ, ◌<◌, ◌-◌, ◌^◌, ◌==◌, ◌||◌, ◌&&◌, not, nat_le, Bool, true, false, if◌then◌else◌, List, [], ◌∷◌, All, Option, None, Some, refl, sym, ap, arith}
use Rattle.std.proofs.lemmas.Bool.{true≢false}
use Rattle.std.proofs.lemmas.Bool.Decides.{nat_tests}
use Rattle.std.proofs.lemmas.List.Elements.{All-cons, All-nil}
use Rattle.std.proofs.lemmas.Option.{none-some}
use Rattle.std.specs.List.{AllByRecursion, list_any}
use Rattle.fjall_base.specs.Pairs.{Bytes}
use Rattle.fjall_base.specs.declared.error.Error.{Error}
use Rattle.fjall_base.specs.declared.error.Error.TheVariants.{KeyEmpty, KeyTooLong, TooManyItems, ValueTooLong}
use Rattle.fjall_journal.specs.Changes.{Change, Items, Emptied}
use Rattle.fjall_journal.specs.Ops.{BatchItem}
use Rattle.fjall_meta.specs.Keyspaces.{is_name}
use Rattle.fjall_machine.specs.Shapes.{OneLess}
use Rattle.fjall_machine.specs.Machine.{Facts, change_refusals, clear_refusals, creation_refusals, deletion_refusals, first_due, handle_refusals, handles_of, names_one, is_living, items_refusals, journal_refusals}
use Rattle.fjall_machine.specs.Allowed.{MayChange, MayCreate, MayDelete}

pub none_due : (refusals : List (Bool × Error)) → first_due refusals ≡ None → AllByRecursion (λ refusal. refusal.0 ≡ false) refusals
none_due [] none = tt
none_due ((true, error) ∷ others) none = absurd (none-some _ (sym none))
none_due ((false, error) ∷ others) none = (refl, none_due others none)

pub is_so : (b : Bool) → not b ≡ false → b ≡ true
is_so true e = refl
is_so false e = absurd (true≢false e)

pub neither : (a b : Bool) → (a || b) ≡ false → (a ≡ false) × (b ≡ false)
neither true b e = absurd (true≢false e)
neither false b e = (refl, e)

pub behind_true : (a b : Bool) → a ≡ true → (a && b) ≡ false → b ≡ false
behind_true true b e f = f
behind_true false b e f = absurd (true≢false (sym e))

pub below : (a b : ℕ) → nat_le b a ≡ false → a < b
below a b e = grind (arith, nat_tests)

differs : (a b : ℕ) → (a == b) ≡ false → a ≢ b
differs a b e = grind (arith, nat_tests)

positive : (a : ℕ) → (a == 0) ≡ false → 0 < a
positive a e = grind (arith, nat_tests)

none_of : {X : Type 0} (test : X → Bool) (xs : List X) → list_any (λ x. not (test x)) xs ≡ false → All (λ x. test x ≡ true) xs
none_of test [] none = All-nil (λ x. test x ≡ true)
none_of test (x ∷ xs) none =
    let apart = neither (not (test x)) (list_any (λ y. not (test y)) xs) none in
    All-cons (λ y. test y ≡ true) x xs (is_so (test x) apart.0) (none_of test xs apart.1)

abbrev pub refusal_by : Bool → Bool → Bool → Bool → Option Error
refusal_by empty key value many = if empty then Some KeyEmpty else (if key then Some KeyTooLong else (if value then Some ValueTooLong else (if many then Some TooManyItems else None)))

pub may_change : (f : Facts) (change : Change) → first_due (change_refusals f change) ≡ None → MayChange f change
may_change f (Items items) none =
    let causes = none_due (items_refusals f items) none in
    record {
      living = none_of (λ (item : BatchItem). is_living f.store item.0) items causes.1.1.1.1.0;
      well = causes.1.1.1.1.1.0;
      numbered = below f.next (2 ^ 63) causes.1.1.1.1.1.1.1.0;
      fits = λ i. refusal_by (causes.0 i) (causes.1.0 i) (causes.1.1.0 i) (causes.1.1.1.1.1.1.0 i);
    }
may_change f (Emptied id) none =
    let causes = none_due (clear_refusals f id) none in
    record {
      living = is_so (is_living f.store id) causes.1.0;
      well = causes.1.1.0;
      numbered = below f.next (2 ^ 63) causes.1.1.1.0;
      fits = tt;
    }

pub may_create : (f : Facts) (name : Bytes) → first_due (creation_refusals f name) ≡ None → MayCreate f name
may_create f name none =
    let causes = none_due (creation_refusals f name) none in
    record {
      named = is_so (is_name name) causes.0;
      room = λ fresh.
          let new : not (names_one f.store name) ≡ true = ap not fresh in
          let full = neither _ _ (behind_true _ _ new causes.1.1.0) in
          let numbers = neither _ _ full.0 in
          record {
            well = behind_true _ _ new causes.1.0;
            numbered = below f.next (2 ^ 63) numbers.0;
            table = differs f.table (2 ^ 64 - 1) numbers.1;
            free = differs f.store.next (2 ^ 64 - 1) full.1;
          };
    }

pub may_delete : (f : Facts) (id : ℕ) → first_due (deletion_refusals f id) ≡ None → MayDelete f id
may_delete f id none =
    let causes = none_due (deletion_refusals f id) none in
    record {
      known = causes.0;
      number = λ lives.
          let numbers = neither _ _ (behind_true _ _ lives causes.1.1.0) in
          record {
            well = behind_true _ _ lives causes.1.0;
            numbered = below f.next (2 ^ 63) numbers.0;
            table = λ left. differs f.table (2 ^ 64 - 1) (behind_true _ _ left numbers.1);
          };
    }

pub may_rotate : (f : Facts) → first_due (journal_refusals f) ≡ None → (f.poisoned ≡ false) × (f.active < 2 ^ 64 - 2)
may_rotate f none =
    let causes = none_due (journal_refusals f) none in
    (causes.0, below f.active (2 ^ 64 - 2) causes.1.0)

pub is_counted : (f : Facts) (id : ℕ) → first_due (handle_refusals f OneLess id) ≡ None → 0 < handles_of f.handles id
is_counted f id none = let causes = none_due (handle_refusals f OneLess id) none in positive (handles_of f.handles id) causes.1.0
