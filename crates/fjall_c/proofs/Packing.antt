-- Pairs that are packed one behind another.
use Rattle.std.proofs.Common.{◌≡◌, ◌<◌, ◌≤◌, ◌+◌, ℕ, List, [], ◌∷◌, ◌++◌, append_assoc, arith, drop, get_or, inr, length, length-append, subst, sym, take, ap, ◌∙◌}
use Rattle.std.proofs.lemmas.Grind.{flat_map-append}
use Rattle.std.proofs.lemmas.List.{append-nil, take_more}
use Rattle.std.specs.Int.{to_le_bytes, w64}
use Rattle.fjall_base.specs.Pairs.{Bytes}
use Rattle.fjall_c.specs.Answers.{Packs, packed, pair_bytes}
use Rattle.fjall_c.specs.declared.reads.Page.{Page}

parts_of_a_pair : (front k v key value : List ℕ) → (((front ++ k) ++ v) ++ key) ++ value ≡ front ++ (((k ++ v) ++ key) ++ value)
parts_of_a_pair front k v key value =
    ap (λ (l : List ℕ). (l ++ key) ++ value) (append_assoc front k v)
    ∙ ap (λ (l : List ℕ). l ++ value) (append_assoc front (k ++ v) key)
    ∙ append_assoc front ((k ++ v) ++ key) value

-- a pair is put part by part
pub pair_put : (at : ℕ) (room one two three four k v key value : List ℕ) → k ≡ to_le_bytes w64 (length key) → v ≡ to_le_bytes w64 (length value)
    → take (at + length k) one ≡ take at room ++ k → take (at + 8 + length v) two ≡ take (at + 8) one ++ v → take (at + 16 + length key) three ≡ take (at + 16) two ++ key
    → take (at + 16 + length key + length value) four ≡ take (at + 16 + length key) three ++ value → take (at + 16 + length key + length value) four ≡ take at room ++ pair_bytes (key, value)
pair_put at room one two three four k v key value k_is v_is first second third last =
    let k_len : length k ≡ 8 = ap (λ (l : List ℕ). length l) k_is in
    let v_len : length v ≡ 8 = ap (λ (l : List ℕ). length l) v_is in
    let one_front : take (at + 8) one ≡ take at room ++ k = ap (λ n. take n one) (omega (arith, k_len)) ∙ first in
    let two_front : take (at + 16) two ≡ (take at room ++ k) ++ v = ap (λ n. take n two) (omega (arith, v_len)) ∙ second ∙ ap (λ (l : List ℕ). l ++ v) one_front in
    let three_front : take (at + 16 + length key) three ≡ ((take at room ++ k) ++ v) ++ key = third ∙ ap (λ (l : List ℕ). l ++ key) two_front in
    last ∙ ap (λ (l : List ℕ). l ++ value) three_front ∙ parts_of_a_pair (take at room) k v key value
    ∙ ap (λ (l : List ℕ). take at room ++ (((l ++ v) ++ key) ++ value)) k_is ∙ ap (λ (l : List ℕ). take at room ++ (((to_le_bytes w64 (length key) ++ l) ++ key) ++ value)) v_is

-- one pair more
pub packed_more : (pairs : List (Bytes × Bytes)) (i : ℕ) (d : Bytes × Bytes) → i < length pairs → packed (take (i + 1) pairs) ≡ packed (take i pairs) ++ pair_bytes (get_or pairs i d)
packed_more pairs i d lt =
    ap (λ (l : List (Bytes × Bytes)). packed l) (take_more pairs i d lt)
    ∙ flat_map-append pair_bytes (take i pairs) (get_or pairs i d ∷ [])
    ∙ ap (λ (l : List ℕ). packed (take i pairs) ++ l) (append-nil (pair_bytes (get_or pairs i d)))

-- the room has no place for another pair
pub full : (pairs : List (Bytes × Bytes)) (old room new : List ℕ) (page : Page) (i : ℕ) (pair : Bytes × Bytes) (key value : Bytes) → page.count ≡ i → i < length pairs → pair ≡ get_or pairs i pair
    → page.len ≡ length (packed (take i pairs)) → page.len ≤ length room → length room ≡ length old → take page.len room ≡ packed (take i pairs)
    → ((n : ℕ) → page.len ≤ n → drop n room ≡ drop n old) → new ≡ room → key ≡ pair.0 → value ≡ pair.1 → length room < page.len + length (pair_bytes (key, value)) → Packs pairs old new page
full pairs old room new page i pair key value count lt is len fits same front behind stays key_is value_is less =
    let short : length room < page.len + length (pair_bytes pair) =
    subst (λ (v : Bytes). length room < page.len + length (pair_bytes (pair.0, v))) value_is (subst (λ (k : Bytes). length room < page.len + length (pair_bytes (k, value))) key_is less) in
    let more : length (packed (take (page.count + 1) pairs)) ≡ page.len + length (pair_bytes pair) =
    ap (λ n. length (packed (take (n + 1) pairs))) count ∙ ap (λ (l : List ℕ). length l) (packed_more pairs i pair lt) ∙ length-append (packed (take i pairs)) (pair_bytes (get_or pairs i pair))
    ∙ ap (λ n. n + length (pair_bytes (get_or pairs i pair))) (sym len) ∙ ap (λ (p : Bytes × Bytes). page.len + length (pair_bytes p)) (sym is) in
    record {
      some = omega (arith, count, lt);
      len = len ∙ ap (λ n. length (packed (take n pairs))) (sym count);
      fits = omega (arith, fits, same);
      front = ap (λ (l : List ℕ). take page.len l) stays ∙ front ∙ ap (λ n. packed (take n pairs)) (sym count);
      behind = ap (λ (l : List ℕ). drop page.len l) stays ∙ behind page.len (omega arith);
      most = inr (omega (arith, more, short, same));
    }
