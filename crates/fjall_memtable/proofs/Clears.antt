-- What clears hide at an instant, and which of them count there.
use Rattle.std.proofs.Common.{◌≡◌, ℕ, ◌<◌, ◌≤◌, Bool, true, false, not, ◌&&◌, ◌||◌, ltb, leb, List, [], ◌∷◌, ◌++◌, refl, sym, ap, ◌∙◌, inl, inr, arith}
use Rattle.std.specs.List.{list_any, All}
use Rattle.std.proofs.lemmas.Bool.{and_parts, and_from, true≢false, ltb-true, lt-ltb, le-ltb, leb-true}
use Rattle.std.proofs.lemmas.List.Folds.{list_any-append}
use Rattle.std.proofs.lemmas.List.Elements.{All-head, All-tail}
use Rattle.fjall_table.specs.Blocks.{Entry}
use Rattle.fjall_memtable.specs.Views.{is_cleared}
use Rattle.fjall_memtable.specs.Jobs.{IsAbove}
use Rattle.fjall_memtable.proofs.Tests.{any_weaker}

-- what no clear below the instant hides
abbrev pub alive : ℕ → List ℕ → Entry → Bool
alive instant clears v = not (is_cleared instant clears v.number)

-- a greater number is cleared only where a lesser one is
pub cleared_less : (instant : ℕ) (clears : List ℕ) (n m : ℕ) → n ≤ m → is_cleared instant clears m ≡ true → is_cleared instant clears n ≡ true
cleared_less instant clears n m h =
    any_weaker (λ c. ltb m c && ltb c instant) (λ c. ltb n c && ltb c instant) clears
    (λ c e. let p = and_parts (ltb m c) (ltb c instant) e in let l = ltb-true m c p.0 in and_from (ltb n c) (ltb c instant) (lt-ltb n c (omega arith)) p.1)

-- a number that the watermark reaches is in each view above it, where any number is below it
pub seen_above : (watermark instant n m : ℕ) → IsAbove watermark instant → n < m → m ≤ watermark → m < instant
seen_above watermark instant n m (inl e) h k = absurd (omega arith)
seen_above watermark instant n m (inr e) h k = omega arith

-- whether a clear that the watermark reaches hides a number
abbrev pub is_emptied : ℕ → List ℕ → ℕ → Bool
is_emptied watermark clears n = list_any (λ c. ltb n c && leb c watermark) clears

-- Among all clears of a view these are.
abbrev pub Counts : ℕ → ℕ → List ℕ → List ℕ → Type 0
Counts watermark instant clears all = (n : ℕ) → is_emptied watermark clears n ≡ true → is_cleared instant all n ≡ true

pub clears_count : (watermark instant : ℕ) → IsAbove watermark instant → (before clears after : List ℕ)
    → Counts watermark instant clears (before ++ (clears ++ after))
clears_count watermark instant above before clears after n h =
    list_any-append test before (clears ++ after) ∙ ap (λ b. list_any test before || b) (list_any-append test clears after)
    ∙ among (list_any test before) (list_any test clears) (list_any test after) (any_weaker (λ c. ltb n c && leb c watermark) test clears in_view h)
  where
    test : ℕ → Bool
    test c = ltb n c && ltb c instant

    in_view : (c : ℕ) → (ltb n c && leb c watermark) ≡ true → (ltb n c && ltb c instant) ≡ true
    in_view c e =
        let p = and_parts (ltb n c) (leb c watermark) e in
        and_from (ltb n c) (ltb c instant) p.0 (lt-ltb c instant (seen_above watermark instant n c above (ltb-true n c p.0) (leb-true c watermark p.1)))

    among : (a b d : Bool) → b ≡ true → (a || (b || d)) ≡ true
    among true b d e = refl
    among false true d e = refl
    among false false d e = absurd (true≢false (sym e))

-- no clear up to a number hides it
pub none_cleared : (instant bound : ℕ) (clears : List ℕ) (n : ℕ) → All (λ c. c ≤ bound) clears → bound ≤ n → is_cleared instant clears n ≡ false
none_cleared instant bound [] n each h = refl
none_cleared instant bound (c ∷ clears) n each h =
    let low : c ≤ bound = All-head (λ x. x ≤ bound) c clears each in
    ap (λ b. (b && ltb c instant) || is_cleared instant clears n) (le-ltb n c (omega arith))
    ∙ none_cleared instant bound clears n (All-tail (λ x. x ≤ bound) c clears each) h

-- one clear more
pub last_clear : (instant : ℕ) (clears : List ℕ) (n m : ℕ)
    → is_cleared instant (clears ++ (n ∷ [])) m ≡ (is_cleared instant clears m || ((ltb m n && ltb n instant) || false))
last_clear instant clears n m = list_any-append (λ c. ltb m c && ltb c instant) clears (n ∷ [])

-- beside the same clears
pub beside : (instant : ℕ) (clears others rest : List ℕ) (v : Entry) → is_cleared instant clears v.number ≡ is_cleared instant others v.number
    → alive instant (clears ++ rest) v ≡ alive instant (others ++ rest) v
beside instant clears others rest v e =
    ap not (list_any-append test clears rest ∙ ap (λ b. b || list_any test rest) e ∙ sym (list_any-append test others rest))
  where
    test : ℕ → Bool
    test c = ltb v.number c && ltb c instant
