-- The words of a wild crash, two for each of its fills.
use Rattle.std.proofs.Common.{◌≡◌, ℕ, ◌<◌, ◌≤◌, ◌-◌, List, [], ◌∷◌, ◌++◌, drop, get_or, length, map, take, Bool, true, false, ◌==◌, Option, Some, None, refl, subst, sym, ap, ◌∙◌, append_assoc, arith}
use Rattle.std.specs.Prelude.{All, IfSome, String, string_bytes}
use Rattle.std.specs.declared.alloc.Global.{Global}
use Rattle.std.proofs.lemmas.List.{append-nil, length-map, map-append, take_rest}
use Rattle.std.proofs.lemmas.List.Elements.{All-head, All-tail}
use Rattle.std.proofs.lemmas.List.Concat.{flat_map-append}
use Rattle.hex.specs.Hex.{IsBytes}
use Rattle.fjall_base.specs.Pairs.{Bytes}
use Rattle.fjall_lines.specs.Fills.{named_bytes}
use Rattle.fjall_lines.specs.Lines.{fill_words, fills_words, hex_word, Fill, IsFill, SpellsFills}
use Rattle.fjall_lines.proofs.Batches.{nothing}

-- Of these words a beginning spells some fills, and this is left; whatever fills they spell begin with those.
pub record Taken (words : List (List ℕ)) (fills : List Fill) (rest : List (List ℕ)) : Type 0 where
  pub spelled : words ≡ fills_words fills ++ rest
  pub only : (all : List Fill) → All IsFill all → words ≡ fills_words all → (more : List Fill) × (all ≡ fills ++ more) × All IsFill more × (rest ≡ fills_words more)

pub none_taken : (words : List (List ℕ)) (items : List (String Global × Bytes)) → items ≡ [] → Taken words (map named_bytes items) words
none_taken words items none =
    subst (λ (l : List (String Global × Bytes)). Taken words (map named_bytes l) words) (sym none) (record { spelled = refl; only = λ all are is. (all, refl, are, is) })

-- what two words and more spell begins with a fill of these two
first_is : (name word : List ℕ) (after : List (List ℕ)) (more : List Fill) → All IsFill more → name ∷ word ∷ after ≡ fills_words more
    → (fill : Fill) × (tail : List Fill) × (more ≡ fill ∷ tail) × IsFill fill × All IsFill tail × (name ≡ fill.0) × (word ≡ hex_word fill.1) × (after ≡ fills_words tail)
first_is name word after [] are is = absurd (let same = ap length is in omega arith)
first_is name word after (fill ∷ tail) are is =
    let path : name ≡ fill.0 = cc is in
    let bytes : word ≡ hex_word fill.1 = cc is in
    let behind : after ≡ fills_words tail = cc is in
    (fill, tail, refl, All-head IsFill fill tail are, All-tail IsFill fill tail are, path, bytes, behind)

-- whatever bytes a word spells, these are they
abbrev FindsBytes : List ℕ → Option Bytes → Type 0
FindsBytes word found = (bytes : List ℕ) → IsBytes bytes → word ≡ hex_word bytes → found ≡ Some bytes

one_more : (words : List (List ℕ)) (fills : List Fill) (name word : List ℕ) (bytes : Bytes) (rest after : List (List ℕ)) → Taken words fills rest → rest ≡ name ∷ word ∷ after → word ≡ hex_word bytes → FindsBytes word (Some bytes)
    → Taken words (fills ++ (name, bytes) ∷ []) after
one_more words fills name word bytes rest after t split is finds = record {
  spelled = spelled;
  only = λ all are spelt.
      let old = t.only all are spelt in
      let first = first_is name word after old.0 old.2 (sym split ∙ old.3) in
      let found : bytes ≡ first.0.1 = cc (finds first.0.1 first.3.2 first.6) in
      let same : fill ≡ first.0 = ap (λ (n : List ℕ). let f : Fill = (n, bytes) in f) first.5 ∙ ap (λ (b : List ℕ). let f : Fill = (first.0.0, b) in f) found in
      let whole : all ≡ (fills ++ fill ∷ []) ++ first.1 = old.1 ∙ ap (λ (l : List Fill). fills ++ l) (first.2 ∙ ap (λ (f : Fill). f ∷ first.1) (sym same)) ∙ sym (append_assoc fills (fill ∷ []) first.1) in
      (first.1, whole, first.4, first.7);
}
  where
    fill : Fill
    fill = (name, bytes)

    spelled : words ≡ fills_words (fills ++ fill ∷ []) ++ after
    spelled =
        t.spelled ∙ ap (λ (l : List (List ℕ)). fills_words fills ++ l) (split ∙ ap (λ (w : List ℕ). name ∷ w ∷ after) is)
        ∙ sym (append_assoc (fills_words fills) (fill_words fill) after)
        ∙ ap (λ (l : List (List ℕ)). l ++ after) (ap (λ (l : List (List ℕ)). fills_words fills ++ l) (sym (append-nil (fill_words fill))) ∙ sym (flat_map-append fill_words fills (fill ∷ [])))

spelled_by : (word : List ℕ) (found : Option Bytes) (bytes : Bytes) → IfSome found (λ b. word ≡ hex_word b) → found ≡ Some bytes → word ≡ hex_word bytes
spelled_by word found bytes spelled is = subst (λ (f : Option Bytes). IfSome f (λ b. word ≡ hex_word b)) is spelled

pub one_taken : (words : List (List ℕ)) (items more : List (String Global × Bytes)) (path : String Global) (bytes : Bytes) (name word : List ℕ) (rest after : List (List ℕ)) (found : Option Bytes) → Taken words (map named_bytes items) rest
    → rest ≡ name ∷ word ∷ after → IfSome found (λ b. word ≡ hex_word b) → FindsBytes word found → found ≡ Some bytes → string_bytes path ≡ name → more ≡ items ++ (path, bytes) ∷ [] → Taken words (map named_bytes more) after
one_taken words items more path bytes name word rest after found t split spelled finds is at whole =
    let behind : map named_bytes items ++ (name, bytes) ∷ [] ≡ map named_bytes more =
    ap (λ (n : List ℕ). map named_bytes items ++ (n, bytes) ∷ []) (sym at) ∙ sym (map-append named_bytes items ((path, bytes) ∷ [])) ∙ ap (λ (l : List (String Global × Bytes)). map named_bytes l) (sym whole) in
    subst (λ (l : List Fill). Taken words l after) behind
    (one_more words (map named_bytes items) name word bytes rest after t split (spelled_by word found bytes spelled is) (subst (FindsBytes word) is finds))

-- all words were taken
none_left : (words : List (List ℕ)) (fills : List Fill) (rest : List (List ℕ)) → Taken words fills rest → rest ≡ [] → SpellsFills words (Some fills)
none_left words fills rest t none = record {
  spelled = t.spelled ∙ ap (λ (l : List (List ℕ)). fills_words fills ++ l) none ∙ append-nil (fills_words fills);
  all_found = λ all are is. let old = t.only all are is in same all old.0 old.1 (sym none ∙ old.3);
}
  where
    same : (all more : List Fill) → all ≡ fills ++ more → [] ≡ fills_words more → Some fills ≡ Some all
    same all [] whole is = ap Some (sym (whole ∙ append-nil fills))
    same all (fill ∷ more) whole is = absurd (let l = ap length is in omega arith)

pub all_taken : {X : Type 0} (f : X → List ℕ) (words : List (List ℕ)) (fills : List Fill) (xs : List X) (empty : Bool) (found : List Fill) → Taken words fills (map f xs) → empty ≡ (length xs == 0) → empty ≡ true → found ≡ fills
    → SpellsFills words (Some found)
all_taken f words fills xs empty found t is none same =
    subst (λ (l : List Fill). SpellsFills words (Some l)) (sym same) (none_left words fills (map f xs) t (ap (map f) (nothing xs (sym is ∙ none))))

-- the next two words spell no fill
pub bad_words : (words : List (List ℕ)) (fills : List Fill) (name word : List ℕ) (rest after : List (List ℕ)) (found : Option Bytes) → Taken words fills rest → rest ≡ name ∷ word ∷ after → FindsBytes word found → found ≡ None → SpellsFills words None
bad_words words fills name word rest after found t split finds none = record {
  spelled = tt;
  all_found = λ all are is.
      let old = t.only all are is in
      let first = first_is name word after old.0 old.2 (sym split ∙ old.3) in
      absurd (cc (none, finds first.0.1 first.3.2 first.6));
}

-- two words apart, and those behind them
pub two_of : {X : Type 0} (f : X → List ℕ) (xs : List X) (a b : X) → 2 ≤ length xs → map f xs ≡ f (get_or xs 0 a) ∷ f (get_or xs 1 b) ∷ map f (take (length xs - 2) (drop 2 xs))
two_of f [] a b long = absurd (omega arith)
two_of f (x ∷ []) a b long = absurd (omega arith)
two_of f (x ∷ y ∷ rest) a b long = ap (λ (l : List (List ℕ)). f x ∷ f y ∷ l) (ap (map f) (sym (take_rest (x ∷ y ∷ rest) 2)))

-- one word is left
too_few : {X : Type 0} (f : X → List ℕ) (all more : List Fill) (xs : List X) → map f xs ≡ fills_words more → (length xs == 0) ≡ false → length xs < 2 → None ≡ Some all
too_few f all [] [] h some short = absurd (cc some)
too_few f all [] (x ∷ xs) h some short = absurd (let n = ap length h in omega arith)
too_few f all (fill ∷ more) xs h some short = absurd (let n = ap length h in let same = length-map xs f in omega (arith, short, n, same))

pub words_left : {X : Type 0} (f : X → List ℕ) (words : List (List ℕ)) (fills : List Fill) (xs : List X) (empty : Bool) → Taken words fills (map f xs) → empty ≡ (length xs == 0) → empty ≡ false → length xs < 2
    → SpellsFills words None
words_left f words fills xs empty t is some few = record {
  spelled = tt;
  all_found = λ all are spelt. let old = t.only all are spelt in too_few f all old.0 xs old.3 (sym is ∙ some) few;
}
