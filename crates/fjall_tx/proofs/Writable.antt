-- Writes that a batch can have.
use Rattle.std.proofs.Common.{◌≡◌, ℕ, ◌^◌, Bool, true, false, cond, ◌||◌, ◌+◌, ◌≤◌, arith, List, [], ◌∷◌, map, length, eqb, leb, Option, Some, None, Result, Ok, Err, refl, ap, subst, ◌∙◌}
use Rattle.std.specs.List.{AllByRecursion}
use Rattle.std.specs.Option.{MatchOption}
use Rattle.std.specs.BTreeMap.{insert_entry}
use Rattle.std.specs.Ordering.{match_ordering}
use Rattle.std.specs.declared.cmp.Ordering.{Ordering}
use Rattle.std.specs.declared.cmp.Ordering.TheVariants.{Less, Equal, Greater}
use Rattle.fjall_base.specs.declared.error.Error.{Error}
use Rattle.fjall_base.specs.declared.error.Error.TheVariants.{KeyEmpty, KeyTooLong, ValueTooLong}
use Rattle.fjall_journal.specs.Ops.{bytes_in, some_key_empty, some_key_too_long, some_value_too_long}
use Rattle.fjall_journal.specs.declared.op.Op.{Op}
use Rattle.fjall_tx.specs.declared.key.Key.{Key}
use Rattle.fjall_tx.specs.Owns.{IsWritable, item_of, key_order}
use Rattle.fjall_tx.proofs.Keys.{key_tied}

pub one_at_most : (b : Bool) (m n : ℕ) → m ≡ n + cond b 0 1 → m ≤ n + 1
one_at_most true m n e = omega (arith, e)
one_at_most false m n e = omega (arith, e)

-- one more write
pub put_writable : (k : Key) (v : Op) → IsWritable (k, v) → (es : List (Key × Op)) → AllByRecursion IsWritable es → AllByRecursion IsWritable (insert_entry key_order es k v)
put_writable k v here [] h = (here, tt)
put_writable k v here (e ∷ es) h = by (put_writable k v here es h.1) (key_order k e.0) refl
  where
    by : AllByRecursion IsWritable (insert_entry key_order es k v) → (r : Ordering) → key_order k e.0 ≡ r → AllByRecursion IsWritable (match_ordering r ((k, v) ∷ e ∷ es) ((e.0, v) ∷ es) (e ∷ insert_entry key_order es k v))
    by more Less is = (here, h)
    by more Equal is = (subst (λ (x : Key). IsWritable (x, v)) (key_tied k e.0 is) here, h.1)
    by more Greater is = (h.0, more)

-- where a check passes, nothing is due
pub nothing_due : (due : Option Error) (u : Unit {0}) → MatchOption due (◌≡◌ {A = Result (Unit {0}) Error} (Ok u) (Ok tt)) (λ e. ◌≡◌ {A = Result (Unit {0}) Error} (Ok u) (Err e)) → due ≡ None
nothing_due None u is = refl
nothing_due (Some e) u is = absurd cc

-- where nothing is due, no cause is there
record NoCause (a b c : Bool) : Type 0 where
  empty : a ≡ false
  key : b ≡ false
  value : c ≡ false

no_cause : (a b c : Bool) → cond a (Some KeyEmpty) (cond b (Some KeyTooLong) (cond c (Some ValueTooLong) None)) ≡ None → NoCause a b c
no_cause true b c is = absurd cc
no_cause false true c is = absurd cc
no_cause false false true is = absurd cc
no_cause false false false is = record { empty = refl; key = refl; value = refl }

causes : (e : Key × Op) → IsWritable e → NoCause (eqb (length e.0.key) 0) (leb (2 ^ 16) (length e.0.key)) (leb (2 ^ 32) (length (bytes_in e.1)))
causes e is = no_cause (eqb (length e.0.key) 0) (leb (2 ^ 16) (length e.0.key)) (leb (2 ^ 32) (length (bytes_in e.1))) is

pub no_empty : (es : List (Key × Op)) → AllByRecursion IsWritable es → some_key_empty (map item_of es) ≡ false
no_empty [] h = refl
no_empty (e ∷ es) h = ap (λ (b : Bool). b || (some_key_empty (map item_of es))) (causes e h.0).empty ∙ no_empty es h.1

pub no_long_key : (es : List (Key × Op)) → AllByRecursion IsWritable es → some_key_too_long (map item_of es) ≡ false
no_long_key [] h = refl
no_long_key (e ∷ es) h = ap (λ (b : Bool). b || (some_key_too_long (map item_of es))) (causes e h.0).key ∙ no_long_key es h.1

pub no_long_value : (es : List (Key × Op)) → AllByRecursion IsWritable es → some_value_too_long (map item_of es) ≡ false
no_long_value [] h = refl
no_long_value (e ∷ es) h = ap (λ (b : Bool). b || (some_value_too_long (map item_of es))) (causes e h.0).value ∙ no_long_value es h.1
