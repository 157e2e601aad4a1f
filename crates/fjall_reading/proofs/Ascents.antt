-- Items whose keys ascend, and one more behind them.
use Rattle.std.proofs.Common.{◌≡◌, ℕ, ◌-◌, ◌<◌, true, List, [], ◌∷◌, ◌++◌, length, get_or, Option, Some, None, Result, Ok, Err, refl, sym, ap, ◌∙◌, subst, arith, inl, inr}
use Rattle.std.proofs.lemmas.Bool.{cases_lt}
use Rattle.std.proofs.lemmas.Cmp.{nat_list_cmp_total}
use Rattle.std.proofs.lemmas.List.Elements.{All-push}
use Rattle.std.proofs.lemmas.List.Quantifiers.{all_pairs_push}
use Rattle.std.proofs.lemmas.Option.{slice_get-get_or}
use Rattle.std.specs.List.{slice_get}
use Rattle.std.specs.Option.{MatchOption, option_map_or}
use Rattle.std.specs.Ordering.{is_lt}
use Rattle.std.specs.declared.cmp.Ordering.{Ordering}
use Rattle.std.specs.declared.cmp.Ordering.TheVariants.{Less, Equal, Greater}
use Rattle.fjall_base.specs.Limits.{item_refusal}
use Rattle.fjall_base.specs.Lists.{last_of}
use Rattle.fjall_base.specs.Pairs.{Bytes, byte_order}
use Rattle.fjall_base.specs.declared.error.Error.{Error}
use Rattle.fjall_journal.specs.Ops.{bytes_in}
use Rattle.fjall_reading.specs.Ingestions.{IsIngestible, KeyOp, KeysAscend, is_above_last}

-- the last one stands at the end
end_of : {A : Type 0} (x : A) (xs : List A) → slice_get (x ∷ xs) (length xs) ≡ last_of (x ∷ xs)
end_of x [] = refl
end_of x (y ∷ xs) = end_of y xs

pub last_at_end : {A : Type 0} (xs : List A) → slice_get xs (length xs - 1) ≡ last_of xs
last_at_end [] = refl
last_at_end (x ∷ xs) =
    let back : length (x ∷ xs) - 1 ≡ length xs = omega arith in
    ap (λ (n : ℕ). slice_get (x ∷ xs) n) back ∙ end_of x xs

is_less : (o : Ordering) → is_lt o ≡ true → o ≡ Less
is_less Less is = refl
is_less Equal is = absurd cc
is_less Greater is = absurd cc

-- each key is the last one or below it
below : (items : List KeyOp) (key : Bytes) (k : ℕ) (d : KeyOp) → KeysAscend items → is_above_last key items ≡ true → k < length items → byte_order (get_or items k d).0 key ≡ Less
below items key k d ascend above within =
    let end : ℕ = length items - 1 in
    let there : Some (get_or items end d) ≡ last_of items = sym (slice_get-get_or items end d (omega arith)) ∙ last_at_end items in
    let last : byte_order (get_or items end d).0 key ≡ Less =
    is_less (byte_order (get_or items end d).0 key) (ap (λ (o : Option KeyOp). option_map_or (λ item. is_lt (byte_order item.0 key)) o true) there ∙ above) in
    elim (cases_lt k end) [
      | inl lt ↦ nat_list_cmp_total.trans (get_or items k d).0 (get_or items end d).0 key (ascend k end d lt (omega arith)) last
      | inr ge ↦ (let same : end ≡ k = omega arith in subst (λ (n : ℕ). byte_order (get_or items n d).0 key ≡ Less) same last)
    ]

pub one_more : (items : List KeyOp) (item : KeyOp) → item_refusal item.0 (bytes_in item.1) ≡ None → is_above_last item.0 items ≡ true → IsIngestible items → IsIngestible (items ++ item ∷ [])
one_more items item none above is = record {
  ascend = all_pairs_push (λ (a : KeyOp) (b : KeyOp). byte_order a.0 b.0 ≡ Less) items item is.ascend (λ k d within. below items item.0 k d is.ascend above within);
  writable = All-push (λ (i : KeyOp). item_refusal i.0 (bytes_in i.1) ≡ None) items item is.writable none;
}

-- where a check passes, nothing is due
pub nothing_due : (due : Option Error) (u : Unit {0}) → MatchOption due (◌≡◌ {A = Result (Unit {0}) Error} (Ok u) (Ok tt)) (λ e. ◌≡◌ {A = Result (Unit {0}) Error} (Ok u) (Err e)) → due ≡ None
nothing_due None u is = refl
nothing_due (Some e) u is = absurd cc
