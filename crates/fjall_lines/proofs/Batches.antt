-- The words of a batch, three for each of its writes.
use Rattle.std.proofs.Common.{◌≡◌, ℕ, ◌<◌, ◌≤◌, ◌-◌, List, [], ◌∷◌, ◌++◌, drop, get_or, length, map, take, Bool, true, false, ◌==◌, Option, Some, None, refl, subst, sym, ap, ◌∙◌, append_assoc, arith, codes, inl, inr}
use Rattle.std.specs.Prelude.{All, IfSome}
use Rattle.std.proofs.lemmas.Bool.{eqb-true}
use Rattle.std.proofs.lemmas.List.{append-nil, length-map, take_rest}
use Rattle.std.proofs.lemmas.List.Elements.{All-head, All-tail}
use Rattle.std.proofs.lemmas.List.Concat.{flat_map-append}
use Rattle.hex.specs.Hex.{IsBytes}
use Rattle.hex.proofs.HexLemmas.{decode_of-ok}
use Rattle.fjall_base.specs.Pairs.{Bytes}
use Rattle.fjall_lines.proofs.Bytes.{words_are}
use Rattle.fjall_lines.specs.declared.command.Command.{Command}
use Rattle.fjall_lines.specs.declared.command.Command.TheVariants.{Ask}
use Rattle.fjall_lines.specs.declared.command.Request.TheVariants.{Batch, Begin}
use Rattle.fjall_lines.specs.Lines.{value_word, words_of, IsCommand, IsWrite, Spells, SpellsWrite, SpellsWrites, Write, write_words, writes_words}

-- Of these words a beginning spells some writes, and this is left; whatever writes they spell begin with those.
pub record Taken (words : List (List ℕ)) (writes : List Write) (rest : List (List ℕ)) : Type 0 where
  pub spelled : words ≡ writes_words writes ++ rest
  pub only : (all : List Write) → All IsWrite all → words ≡ writes_words all → (more : List Write) × (all ≡ writes ++ more) × All IsWrite more × (rest ≡ writes_words more)

pub none_taken : (words : List (List ℕ)) (writes : List Write) → writes ≡ [] → Taken words writes words
none_taken words writes none = subst (λ (l : List Write). Taken words l words) (sym none) (record { spelled = refl; only = λ all are is. (all, refl, are, is) })

-- what three words and more spell begins with the write that the three spell
first_is : (id key value : List ℕ) (after : List (List ℕ)) (found : Option Write) (more : List Write) → SpellsWrite id key value found → All IsWrite more → id ∷ key ∷ value ∷ after ≡ writes_words more
    → (write : Write) × (tail : List Write) × (more ≡ write ∷ tail) × All IsWrite tail × (found ≡ Some write) × (after ≡ writes_words tail)
first_is id key value after found [] s are is = absurd (let same = ap length is in omega arith)
first_is id key value after found (write ∷ tail) s are is =
    let three : id ∷ key ∷ value ∷ [] ≡ write_words write = cc is in
    let behind : after ≡ writes_words tail = cc is in
    (write, tail, refl, All-tail IsWrite write tail are, s.all_found write (All-head IsWrite write tail are) three, behind)

one_more : (words : List (List ℕ)) (writes : List Write) (id key value : List ℕ) (rest after : List (List ℕ)) (write : Write) → Taken words writes rest → rest ≡ id ∷ key ∷ value ∷ after → SpellsWrite id key value (Some write)
    → Taken words (writes ++ write ∷ []) after
one_more words writes id key value rest after write t split s = record {
  spelled = spelled;
  only = λ all are is.
      let old = t.only all are is in
      let first = first_is id key value after (Some write) old.0 s old.2 (sym split ∙ old.3) in
      let same : write ≡ first.0 = cc first.4 in
      let whole : all ≡ (writes ++ write ∷ []) ++ first.1 = old.1 ∙ ap (λ (l : List Write). writes ++ l) (first.2 ∙ ap (λ (w : Write). w ∷ first.1) (sym same)) ∙ sym (append_assoc writes (write ∷ []) first.1) in
      (first.1, whole, first.3, first.5);
}
  where
    spelled : words ≡ writes_words (writes ++ write ∷ []) ++ after
    spelled =
        t.spelled ∙ ap (λ (l : List (List ℕ)). writes_words writes ++ l) (split ∙ ap (λ (l : List (List ℕ)). l ++ after) s.spelled)
        ∙ sym (append_assoc (writes_words writes) (write_words write) after)
        ∙ ap (λ (l : List (List ℕ)). l ++ after) (ap (λ (l : List (List ℕ)). writes_words writes ++ l) (sym (append-nil (write_words write))) ∙ sym (flat_map-append write_words writes (write ∷ [])))

pub one_taken : (words : List (List ℕ)) (writes more : List Write) (id key value : List ℕ) (rest after : List (List ℕ)) (found : Option Write) (write : Write) → Taken words writes rest → rest ≡ id ∷ key ∷ value ∷ after → SpellsWrite id key value found
    → found ≡ Some write → more ≡ writes ++ write ∷ [] → Taken words more after
one_taken words writes more id key value rest after found write t split s is whole =
    subst (λ (l : List Write). Taken words l after) (sym whole) (one_more words writes id key value rest after write t split (subst (SpellsWrite id key value) is s))

pub nothing : {X : Type 0} (l : List X) → (length l == 0) ≡ true → l ≡ []
nothing [] h = refl
nothing (x ∷ l) h = absurd (let none = eqb-true (length (x ∷ l)) 0 h in omega arith)

-- all words were taken
none_left : (words : List (List ℕ)) (writes : List Write) (rest : List (List ℕ)) → Taken words writes rest → rest ≡ [] → SpellsWrites words (Some writes)
none_left words writes rest t none = record {
  spelled = t.spelled ∙ ap (λ (l : List (List ℕ)). writes_words writes ++ l) none ∙ append-nil (writes_words writes);
  all_found = λ all are is. let old = t.only all are is in same all old.0 old.1 (sym none ∙ old.3);
}
  where
    same : (all more : List Write) → all ≡ writes ++ more → [] ≡ writes_words more → Some writes ≡ Some all
    same all [] whole is = ap Some (sym (whole ∙ append-nil writes))
    same all (write ∷ more) whole is = absurd (let l = ap length is in omega arith)

pub all_taken : {X : Type 0} (f : X → List ℕ) (words : List (List ℕ)) (writes : List Write) (xs : List X) (empty : Bool) (found : List Write) → Taken words writes (map f xs) → empty ≡ (length xs == 0) → empty ≡ true → found ≡ writes
    → SpellsWrites words (Some found)
all_taken f words writes xs empty found t is none same =
    subst (λ (l : List Write). SpellsWrites words (Some l)) (sym same) (none_left words writes (map f xs) t (ap (map f) (nothing xs (sym is ∙ none))))

-- the next three words spell no write
pub bad_words : (words : List (List ℕ)) (writes : List Write) (id key value : List ℕ) (rest after : List (List ℕ)) (found : Option Write) → Taken words writes rest → rest ≡ id ∷ key ∷ value ∷ after → SpellsWrite id key value found → found ≡ None
    → SpellsWrites words None
bad_words words writes id key value rest after found t split spells none = record {
  spelled = tt;
  all_found = λ all are is.
      let old = t.only all are is in
      let first = first_is id key value after found old.0 spells old.2 (sym split ∙ old.3) in
      absurd (cc (none, first.4));
}

-- three words apart, and those behind them
pub three_of : {X : Type 0} (f : X → List ℕ) (xs : List X) (a b c : X) → 3 ≤ length xs
    → map f xs ≡ f (get_or xs 0 a) ∷ f (get_or xs 1 b) ∷ f (get_or xs 2 c) ∷ map f (take (length xs - 3) (drop 3 xs))
three_of f [] a b c long = absurd (omega arith)
three_of f (x ∷ []) a b c long = absurd (omega arith)
three_of f (x ∷ y ∷ []) a b c long = absurd (omega arith)
three_of f (x ∷ y ∷ z ∷ rest) a b c long = ap (λ (l : List (List ℕ)). f x ∷ f y ∷ f z ∷ l) (ap (map f) (sym (take_rest (x ∷ y ∷ z ∷ rest) 3)))

-- one or two words are left
too_few : {X : Type 0} (f : X → List ℕ) (all more : List Write) (xs : List X) → map f xs ≡ writes_words more → (length xs == 0) ≡ false → length xs < 3 → None ≡ Some all
too_few f all [] [] h some short = absurd (cc some)
too_few f all [] (x ∷ xs) h some short = absurd (let n = ap length h in omega arith)
too_few f all (write ∷ more) xs h some short = absurd (let n = ap length h in let same = length-map xs f in omega (arith, short, n, same))

pub words_left : {X : Type 0} (f : X → List ℕ) (words : List (List ℕ)) (writes : List Write) (xs : List X) (empty : Bool) → Taken words writes (map f xs) → empty ≡ (length xs == 0) → empty ≡ false → length xs < 3
    → SpellsWrites words None
words_left f words writes xs empty t is some few = record {
  spelled = tt;
  all_found = λ all are spelt. let old = t.only all are spelt in too_few f all old.0 xs old.3 (sym is ∙ some) few;
}

-- a tilde spells no value
pub tilde_is : (word : List ℕ) (value : Option Bytes) → word ≡ codes "~" → IfSome value IsBytes → word ≡ value_word value → Some None ≡ Some value
tilde_is word None tilde are is = refl
tilde_is word (Some bytes) tilde are is =
    elim (words_are word bytes are is) [
      | inl none ↦ absurd (let first = ap (λ (w : List ℕ). get_or w 0 0) (sym tilde ∙ none.1) in omega arith)
      | inr w ↦ absurd (let even = (decode_of-ok word bytes w.read).0 in let one = ap length tilde in omega (arith, even, one))
    ]

-- ---- a batch of some words

-- no words are no batch
none_spelled : (words : List (List ℕ)) → words ≡ [] → Spells (codes "batch" ∷ words) None
none_spelled words none = record { spelled = tt; some = tt; all_found = none_found }
  where
    none_found : (command : Command) → IsCommand command → codes "batch" ∷ words ≡ words_of command → None ≡ Some command
    none_found (Ask (Batch [])) h e = absurd (h.0 refl)
    none_found (Ask (Batch (write ∷ writes))) h e = absurd (let n = ap length e in let m = ap length none in omega (arith, n, m))
    -- as long as `batch`, and with the same first letter: the second tells them apart
    none_found (Ask Begin) h e = absurd (let second = ap (λ (l : List (List ℕ)). get_or (get_or l 0 []) 1 0) e in omega arith)
    none_found command h e = cc

pub no_batch : {X : Type 0} (f : X → List ℕ) (xs : List X) (empty : Bool) → empty ≡ (length xs == 0) → empty ≡ true → Spells (codes "batch" ∷ map f xs) None
no_batch f xs empty is none = none_spelled (map f xs) (ap (map f) (nothing xs (sym is ∙ none)))
