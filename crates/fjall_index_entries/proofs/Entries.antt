-- Entries are in the order of their fields, then of their keys.
use Rattle.std.proofs.Common.{◌≡◌, zero, suc, [], ◌∷◌, refl, sym, ◌∙◌, ap}
use Rattle.std.specs.Ordering.{nat_cmp, ordering_then}
use Rattle.std.specs.declared.cmp.Ordering.TheVariants.{Less}
use Rattle.fjall_base.specs.Pairs.{Bytes, byte_order}
use Rattle.fjall_index_entries.specs.Entries.{entry, past}
use Rattle.fjall_index_entries.proofs.Orders.{then_assoc, zero_first, zero_last}

pub entries_order : (f g k l : Bytes) → byte_order (entry f k) (entry g l) ≡ ordering_then (byte_order f g) (byte_order k l)
entries_order [] [] k l = refl
entries_order [] (zero ∷ g) k l = refl
entries_order [] (suc b ∷ g) k l = ap (λ o. ordering_then o (byte_order (1 ∷ k) (entry g l))) (zero_first b)
entries_order (zero ∷ f) [] k l = refl
entries_order (suc a ∷ f) [] k l = ap (λ o. ordering_then o (byte_order (entry f k) (1 ∷ l))) (zero_last a)
entries_order (zero ∷ f) (zero ∷ g) k l = entries_order f g k l
entries_order (zero ∷ f) (suc b ∷ g) k l =
    ap (λ o. ordering_then o (byte_order (255 ∷ entry f k) (entry g l))) (zero_first b)
    ∙ sym (ap (λ o. ordering_then (ordering_then o (byte_order f g)) (byte_order k l)) (zero_first b))
entries_order (suc a ∷ f) (zero ∷ g) k l =
    ap (λ o. ordering_then o (byte_order (entry f k) (255 ∷ entry g l))) (zero_last a)
    ∙ sym (ap (λ o. ordering_then (ordering_then o (byte_order f g)) (byte_order k l)) (zero_last a))
entries_order (suc a ∷ f) (suc b ∷ g) k l =
    ap (ordering_then (nat_cmp (suc a) (suc b))) (entries_order f g k l)
    ∙ sym (then_assoc (nat_cmp (suc a) (suc b)) (byte_order f g) (byte_order k l))

-- and ahead of what stands past a field exactly those of the field and of fields before it
pub past_order : (g f l : Bytes) → byte_order (entry g l) (past f) ≡ ordering_then (byte_order g f) Less
past_order [] [] l = refl
past_order [] (zero ∷ f) l = refl
past_order [] (suc b ∷ f) l = ap (λ o. ordering_then o (byte_order (1 ∷ l) (past f))) (zero_first b)
past_order (zero ∷ g) [] l = refl
past_order (suc a ∷ g) [] l = ap (λ o. ordering_then o (byte_order (entry g l) (2 ∷ []))) (zero_last a)
past_order (zero ∷ g) (zero ∷ f) l = past_order g f l
past_order (zero ∷ g) (suc b ∷ f) l =
    ap (λ o. ordering_then o (byte_order (255 ∷ entry g l) (past f))) (zero_first b)
    ∙ sym (ap (λ o. ordering_then (ordering_then o (byte_order g f)) Less) (zero_first b))
past_order (suc a ∷ g) (zero ∷ f) l =
    ap (λ o. ordering_then o (byte_order (entry g l) (255 ∷ past f))) (zero_last a)
    ∙ sym (ap (λ o. ordering_then (ordering_then o (byte_order g f)) Less) (zero_last a))
past_order (suc a ∷ g) (suc b ∷ f) l =
    ap (ordering_then (nat_cmp (suc a) (suc b))) (past_order g f l)
    ∙ sym (then_assoc (nat_cmp (suc a) (suc b)) (byte_order g f) Less)
