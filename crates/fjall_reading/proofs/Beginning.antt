-- The pairs of a map whose keys begin with a prefix.
use Rattle.std.proofs.Common.{◌≡◌, Bool, true, false, cond, Option, Some, None, refl, sym, ◌∙◌, ap}
use Rattle.std.proofs.lemmas.Cmp.{nat_list_cmp_total}
use Rattle.std.specs.declared.cmp.Ordering.TheVariants.{Equal}
use Rattle.std.specs.FinMap.{entries, get, get-retain_keys, retain_keys, same_map, nat_cmp-IsAntisymmetric, slice_cmp-IsAntisymmetric}
use Rattle.fjall_base.specs.Pairs.{Bytes, Pairs, byte_order, is_within, pairs_between}
use Rattle.fjall_reading.specs.Prefixes.{HasByteKeys, begins_with, prefix_range}
use Rattle.fjall_reading.proofs.Prefixing.{within_prefix}

-- where two tests agree on the keys of a map, so do the maps that they leave
same_at : (found : Option Bytes) (a b : Bool) → ((value : Bytes) → found ≡ Some value → a ≡ b) → cond a found None ≡ cond b found None
same_at None a b same = nothing a ∙ sym (nothing b)
  where
    nothing : (a : Bool) → cond {A = Option Bytes} a None None ≡ None
    nothing true = refl
    nothing false = refl
same_at (Some value) a b same = ap (λ x. cond x (Some value) None) (same value refl)

pub pairs_beginning : (prefix : Bytes) (pairs : Pairs) → HasByteKeys pairs → pairs_between (prefix_range prefix) pairs ≡ entries (retain_keys pairs (begins_with prefix))
pairs_beginning prefix pairs bytes =
    let range = prefix_range prefix in
    let tied : (a b : Bytes) → byte_order a b ≡ Equal → a ≡ b = slice_cmp-IsAntisymmetric nat_cmp-IsAntisymmetric in
    ap entries (same_map nat_list_cmp_total tied (retain_keys pairs (is_within range)) (retain_keys pairs (begins_with prefix)) (λ q.
    get-retain_keys pairs (is_within range) q (λ x e. ap (is_within range) (sym (tied q x e)))
    ∙ same_at (get pairs q) (is_within range q) (begins_with prefix q) (λ value found. within_prefix prefix q (bytes q value found))
    ∙ sym (get-retain_keys pairs (begins_with prefix) q (λ x e. ap (begins_with prefix) (sym (tied q x e))))))
