-- The record after a flush is one where the record before was.
use Rattle.std.proofs.Common.{◌≡◌, ◌≢◌, ℕ, zero, suc, ◌+◌, ◌<◌, ◌≤◌, ◌^◌, max, true, false, List, [], ◌∷◌, ◌++◌, All, length, map, Option, Some, None, IfSome, refl, sym, subst, arith}
use Rattle.std.specs.List.{AllPairs}
use Rattle.std.specs.List.Sorted.{IsStrictlyIncreasing}
use Rattle.std.proofs.lemmas.Bool.{le-ltb, ltb-false, ltb-true, true≢false}
use Rattle.std.proofs.lemmas.List.{map-append}
use Rattle.std.proofs.lemmas.List.Elements.{All-append, All-cons, All-head, All-nil, All-tail, All-weaker}
use Rattle.std.proofs.lemmas.List.Kept.{AllPairs-cons}
use Rattle.fjall_meta.specs.Contents.{is_beyond}
use Rattle.fjall_jobs.specs.declared.made_table.MadeTable.{MadeTable}
use Rattle.fjall_recovery.specs.Homes.{ClearsAreWithin}
use Rattle.fjall_table.specs.Blocks.{Entry}
use Rattle.fjall_table.specs.declared.table_info.TableInfo.{TableInfo}
use Rattle.fjall_manifest.specs.Records.{Fields, Fits, IsRecord}
use Rattle.fjall_compaction.specs.Flushes.{Flush, Follows, flushed_infos, raised, record_after_flush}

-- ---- numbers

pub raised_small : (bound : ℕ) (other : Option ℕ) (number : ℕ) → IfSome other (λ n. n < bound) → number < bound → raised other number < bound
raised_small bound None number low lt = lt
raised_small bound (Some n) number low lt = omega (arith, low, lt)

-- what isn't beyond a number isn't beyond it once it is raised
pub still_within : (other : Option ℕ) (number n : ℕ) → is_beyond other n ≡ false → is_beyond (Some (raised other number)) n ≡ false
still_within None number n within = absurd (true≢false within)
still_within (Some m) number n within = le-ltb (max m number) n (let le = ltb-false m n within in omega (arith, le))

-- nor is what is at most the number that it is raised to
pub now_within : (other : Option ℕ) (number n : ℕ) → n ≤ number → is_beyond (Some (raised other number)) n ≡ false
now_within None number n le = le-ltb number n le
now_within (Some m) number n le = le-ltb (max m number) n (omega (arith, le))

-- where the number is beyond it, it is raised to just that
pub raised_is : (other : Option ℕ) (number : ℕ) → is_beyond other number ≡ true → raised other number ≡ number
raised_is None number beyond = refl
raised_is (Some m) number beyond = let lt = ltb-true m number beyond in omega (arith, lt)

-- ---- clears

pub clears_within : (f : Flush) (lists : List (List Entry)) (last : Fields) → Follows f lists last → ClearsAreWithin last → ClearsAreWithin (record_after_flush f last)
clears_within f lists last follows within =
    let P = λ (n : ℕ). is_beyond (Some (raised last.persisted f.number)) n ≡ false in
    All-append P last.clears f.clears
    (All-weaker (λ n. is_beyond last.persisted n ≡ false) P (λ n is. still_within last.persisted f.number n is) last.clears within)
    (All-weaker (λ n. n ≤ f.number) P (λ n le. now_within last.persisted f.number n le) f.clears follows.clears)

-- ---- ids of tables

abbrev ids : List TableInfo → List ℕ
ids tables = map (λ (t : TableInfo). t.id) tables

new_below : (next : ℕ) (tables : List MadeTable) → All (λ t. t.id < next + length tables) (flushed_infos next tables)
new_below next [] = All-nil (λ (t : TableInfo). t.id < next + 0)
new_below next (t ∷ tables) =
    All-cons (λ (i : TableInfo). i.id < next + length (t ∷ tables)) _ (flushed_infos (next + 1) tables) (omega arith)
    (All-weaker (λ (i : TableInfo). i.id < next + 1 + length tables) (λ i. i.id < next + length (t ∷ tables)) (λ i lt. omega (arith, lt)) (flushed_infos (next + 1) tables) (new_below (next + 1) tables))

new_from : (next : ℕ) (tables : List MadeTable) → All (λ n. next ≤ n) (ids (flushed_infos next tables))
new_from next [] = All-nil (λ n. next ≤ n)
new_from next (t ∷ tables) =
    All-cons (λ n. next ≤ n) next (ids (flushed_infos (next + 1) tables)) (omega arith)
    (All-weaker (λ n. next + 1 ≤ n) (λ n. next ≤ n) (λ n le. omega (arith, le)) (ids (flushed_infos (next + 1) tables)) (new_from (next + 1) tables))

new_differ : (next : ℕ) (tables : List MadeTable) → AllPairs (λ a b. a ≢ b) (ids (flushed_infos next tables))
new_differ next [] = λ i j d lt within. absurd (omega (arith, within))
new_differ next (t ∷ tables) =
    AllPairs-cons (λ a b. a ≢ b) next (ids (flushed_infos (next + 1) tables))
    (All-weaker (λ n. next + 1 ≤ n) (λ n. next ≢ n) (λ n le e. omega (arith, le, e)) (ids (flushed_infos (next + 1) tables)) (new_from (next + 1) tables)) (new_differ (next + 1) tables)

-- numbers below a bound that differ, and from it on such that differ
both_differ : (bound : ℕ) (xs ys : List ℕ) → AllPairs (λ a b. a ≢ b) xs → AllPairs (λ a b. a ≢ b) ys → All (λ n. n < bound) xs → All (λ n. bound ≤ n) ys → AllPairs (λ a b. a ≢ b) (xs ++ ys)
both_differ bound [] ys one two low high = two
both_differ bound (x ∷ xs) ys one two low high =
    let first = All-head (λ n. n < bound) x xs low in
    AllPairs-cons (λ a b. a ≢ b) x (xs ++ ys)
    (All-append (λ n. x ≢ n) xs ys (λ k d lt. one zero (suc k) d (omega arith) (omega (arith, lt))) (All-weaker (λ n. bound ≤ n) (λ n. x ≢ n) (λ n le e. omega (arith, first, le, e)) ys high))
    (both_differ bound xs ys (λ i j d lt within. one (suc i) (suc j) d (omega (arith, lt)) (omega (arith, within))) two (All-tail (λ n. n < bound) x xs low) high)

each_below : (bound : ℕ) (tables : List TableInfo) → All (λ t. t.id < bound) tables → All (λ n. n < bound) (ids tables)
each_below bound [] low = All-nil (λ n. n < bound)
each_below bound (t ∷ tables) low =
    All-cons (λ n. n < bound) t.id (ids tables) (All-head (λ (i : TableInfo). i.id < bound) t tables low) (each_below bound tables (All-tail (λ (i : TableInfo). i.id < bound) t tables low))

-- ---- the record

small_numbers : (bound number : ℕ) (ns : List ℕ) → number < bound → All (λ n. n ≤ number) ns → All (λ n. n < bound) ns
small_numbers bound number ns lt low = All-weaker (λ n. n ≤ number) (λ n. n < bound) (λ n le. omega (arith, lt, le)) ns low

pub record_with : (f : Flush) (last : Fields) → f.number < 2 ^ 63 → All (λ n. n ≤ f.number) f.clears → IsStrictlyIncreasing (last.clears ++ f.clears) → Fits (record_after_flush f last) → IsRecord last
    → IsRecord (record_after_flush f last)
record_with f last small clears ascend fits is =
    let was = is.consistent in
    let infos = flushed_infos last.next_table_id f.tables in
    record {
      fits = fits;
      consistent = record {
        persisted = raised_small (2 ^ 63) last.persisted f.number was.persisted small;
        highest = raised_small (2 ^ 63) last.highest f.number was.highest small;
        given = All-append (λ (t : TableInfo). t.id < last.next_table_id + length f.tables) last.tables infos
            (All-weaker (λ (t : TableInfo). t.id < last.next_table_id) (λ t. t.id < last.next_table_id + length f.tables) (λ t lt. omega (arith, lt)) last.tables was.given)
            (new_below last.next_table_id f.tables);
        once = subst (AllPairs (λ a b. a ≢ b)) (sym (map-append (λ (t : TableInfo). t.id) last.tables infos))
            (both_differ last.next_table_id (ids last.tables) (ids infos) was.once (new_differ last.next_table_id f.tables) (each_below last.next_table_id last.tables was.given)
            (new_from last.next_table_id f.tables));
        numbers = All-append (λ n. n < 2 ^ 63) last.clears f.clears was.numbers (small_numbers (2 ^ 63) f.number f.clears small clears);
        ascending = ascend;
      };
    }

pub is_record : (f : Flush) (lists : List (List Entry)) (last : Fields) → Follows f lists last → Fits (record_after_flush f last) → IsRecord last → IsRecord (record_after_flush f last)
is_record f lists last follows = record_with f last follows.small follows.clears follows.ascend
