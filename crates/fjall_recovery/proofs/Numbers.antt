-- The greatest number that is found in a folder: one past it is below 2^64.
use Rattle.std.proofs.Common.{◌≡◌, ℕ, ◌+◌, ◌<◌, ◌≤◌, ◌^◌, ◌||◌, max, nat_lt, nat_le, Bool, true, false, if◌then◌else◌, List, [], ◌∷◌, map, Option, None, Some, refl, arith}
use Rattle.std.proofs.lemmas.Bool.Decides.{nat_tests}
use Rattle.std.specs.Prelude.{IfSome}
use Rattle.std.specs.FinMap.{get}
use Rattle.fjall_base.specs.Disk.{Image}
use Rattle.fjall_journal.specs.Batches.{Shown, shown}
use Rattle.fjall_meta.specs.Replays.{JournalFault, fault_of, first_fault, least_after}
use Rattle.fjall_manifest.specs.Records.{Fields, IsRecord}
use Rattle.fjall_meta.specs.declared.living.LivingKeyspace.{LivingKeyspace}
use Rattle.fjall_meta.specs.Keyspaces.{keyspace_at}
use Rattle.fjall_manifest.specs.Catalog.{fields}
use Rattle.fjall_manifest.specs.Homes.{Home}
use Rattle.fjall_manifest.proofs.Resting.{last_has}
use Rattle.fjall_recovery.specs.Folders.{Contents, IsOpenable, number_of_contents, past, past_record, past_records}
use Rattle.fjall_recovery.specs.Homes.{HasHomeAt, HaveHomes, Homes, last_in, lasts}
use Rattle.fjall_recovery.specs.Journals.{batches_in}
use Rattle.fjall_recovery.proofs.Opened.{none_of_two}

-- ---- batches

not_tested : (test : Bool) (fault : JournalFault) (other : Option JournalFault) → (if test then Some fault else other) ≡ None → test ≡ false
not_tested true fault other none = let no : ⊥ = cc in absurd no
not_tested false fault other none = refl

low_number : (n least : ℕ) → (nat_lt n least || nat_le (2 ^ 63) n) ≡ false → n < 2 ^ 63
low_number n least test = grind (arith, nat_tests)

least_is_low : (least : ℕ) (batches : List Shown) → least ≤ 2 ^ 63 → first_fault least batches ≡ None → least_after least batches ≤ 2 ^ 63
least_is_low least [] low none = low
least_is_low least (batch ∷ batches) low none =
    let both = none_of_two (fault_of least batch) (first_fault (batch.number + 1) batches) none in
    let lt : batch.number < 2 ^ 63 = low_number batch.number least (not_tested (nat_lt batch.number least || nat_le (2 ^ 63) batch.number) _ _ both.0) in
    least_is_low (batch.number + 1) batches (omega (arith, lt)) both.1

-- ---- records

past_is_low : (number : Option ℕ) → IfSome number (λ n. n < 2 ^ 63) → past number ≤ 2 ^ 63
past_is_low None low = omega arith
past_is_low (Some n) low = omega (arith, low)

both_low : (a b : ℕ) → a ≤ 2 ^ 63 → b ≤ 2 ^ 63 → max a b ≤ 2 ^ 63
both_low a b low less = omega (arith, low, less)

record_is_low : (r : Fields) → IsRecord r → past_record r ≤ 2 ^ 63
record_is_low r is = both_low (past r.persisted) (past r.highest) (past_is_low r.persisted is.consistent.persisted) (past_is_low r.highest is.consistent.highest)

last_is_low : (image : Image) (id : ℕ) (k : Option LivingKeyspace) (h : Option Home) → HasHomeAt image id k h → past_record (last_in h) ≤ 2 ^ 63
last_is_low image id (Some k) (Some h) has = record_is_low h.last (last_has IsRecord has.records h.last has.home.files.whole.each has.home.files.last_is)
last_is_low image id (Some k) None has = absurd has
last_is_low image id None (Some h) has = absurd has
last_is_low image id None None has = omega arith

homes_are_low : (image : Image) (living some : List LivingKeyspace) (homes : Homes) → HaveHomes image living homes → past_records (lasts some homes) ≤ 2 ^ 63
homes_are_low image living [] homes have = omega arith
homes_are_low image living (k ∷ some) homes have =
    both_low (past_record (last_in (get homes k.id))) (past_records (lasts some homes)) (last_is_low image k.id (keyspace_at k.id living) (get homes k.id) (have k.id)) (homes_are_low image living some homes have)

-- ---- the whole folder

pub number_is_low : (image : Image) (c : Contents) → IsOpenable image c → number_of_contents c ≤ 2 ^ 63
number_is_low image c sound =
    both_low (least_after 0 (map shown (batches_in c.journals))) (past_records (fields c.last ∷ lasts c.keyspaces.living c.homes))
    (least_is_low 0 (map shown (batches_in c.journals)) (omega arith) sound.journals.sound)
    (both_low (past_record (fields c.last)) (past_records (lasts c.keyspaces.living c.homes))
    (record_is_low (fields c.last) (last_has IsRecord sound.records (fields c.last) sound.catalog.files.whole.each sound.catalog.files.last_is))
    (homes_are_low image c.keyspaces.living c.keyspaces.living c.homes sound.homes))
