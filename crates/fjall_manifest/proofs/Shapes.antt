-- Catalogs as records.
use Rattle.std.proofs.Common.{◌≡◌, ℕ, ◌<◌, ◌≤◌, ◌^◌, [], length, Option, Some, None, IfSome, All, AllPairs, ◌≢◌, map, refl, ap, arith}
use Rattle.std.proofs.lemmas.List.Elements.{All-cons, All-nil}
use Rattle.fjall_table.specs.declared.table_info.TableInfo.{TableInfo}
use Rattle.fjall_manifest.specs.Records.{Fields, Fits, IsRecord, body, record_text}
use Rattle.fjall_table.proofs.Frames.{length_framed}
use Rattle.fjall_manifest.proofs.Records.{length_body}
use Rattle.fjall_manifest.specs.declared.catalog.Catalog.{Catalog}
use Rattle.fjall_manifest.specs.Catalog.{fields, listed}

pub short_list : (table : Option TableInfo) → length (listed table) ≤ 1
short_list None = omega arith
short_list (Some t) = omega arith

-- the body of a catalog's record has room
pub short_body : (c : Catalog) → length (body (fields c)) < 2 ^ 32
short_body c = omega (arith, length_body (fields c), short_list c.table)

listed_one : (a b : Option TableInfo) → listed a ≡ listed b → a ≡ b
listed_one None None e = refl
listed_one None (Some u) e = cc
listed_one (Some t) None e = cc
listed_one (Some t) (Some u) e = let same : t ≡ u = cc in ap Some same

-- one catalog has these fields
pub fields_one : (c d : Catalog) → fields c ≡ fields d → c ≡ d
fields_one c d e =
    let table : c.table ≡ d.table = listed_one c.table d.table (ap (λ (f : Fields). f.tables) e) in
    λ j. record {
      persisted = (e j).persisted;
      highest = (e j).highest;
      next_table_id = (e j).next_table_id;
      next_keyspace_id = (e j).next_keyspace_id;
      table = table j;
    }

-- what agrees is a record
pub is_record : (c : Catalog) → Fits (fields c) → IfSome c.persisted (λ n. n < 2 ^ 63) → IfSome c.highest (λ n. n < 2 ^ 63) → IfSome c.table (λ t. t.id < c.next_table_id) → IsRecord (fields c)
is_record c fits persisted highest below = record {
  fits = fits;
  consistent = record {
    persisted = persisted;
    highest = highest;
    given = each c.table below;
    once = once c.table;
    numbers = All-nil (λ n. n < 2 ^ 63);
    ascending = λ k none. absurd (omega (arith, none));
  };
}
  where
    once : (table : Option TableInfo) → AllPairs (λ a b. a ≢ b) (map (λ (t : TableInfo). t.id) (listed table))
    once None i j d before below = absurd (omega (arith, below))
    once (Some t) i j d before below = absurd (omega (arith, before, below))

    each : (table : Option TableInfo) → IfSome table (λ t. t.id < c.next_table_id) → All (λ t. t.id < c.next_table_id) (listed table)
    each None below = All-nil (λ (t : TableInfo). t.id < c.next_table_id)
    each (Some t) below = All-cons (λ (t : TableInfo). t.id < c.next_table_id) t [] below (All-nil (λ (t : TableInfo). t.id < c.next_table_id))

-- first records name no table
pub first_fits : (highest : Option ℕ) (keyspace : ℕ) → IfSome highest (λ n. n < 2 ^ 63) → keyspace < 2 ^ 64 → (let c : Catalog = record { persisted = None; highest = highest; next_table_id = 1; next_keyspace_id = keyspace; table = None } in IsRecord (fields c))
first_fits highest keyspace small below =
    let c : Catalog = record { persisted = None; highest = highest; next_table_id = 1; next_keyspace_id = keyspace; table = None } in
    is_record c (record {
      room = record { persisted = tt; highest = wider highest small; next_table_id = omega arith; next_keyspace_id = below; tables = tt; clears = tt };
      len = short_body c;
    }) tt small tt
  where
    wider : (highest : Option ℕ) → IfSome highest (λ n. n < 2 ^ 63) → IfSome highest (λ n. n < 2 ^ 64)
    wider None small = tt
    wider (Some n) small = omega (arith, small)

-- and have 55 bytes
pub first_len : (c : Catalog) → c.table ≡ None → length (record_text (fields c)) ≡ 55
first_len c none =
    let tables : length (listed c.table) ≡ 0 = ap (λ (table : Option TableInfo). length (listed table)) none in
    omega (arith, length_framed 4 (body (fields c)), length_body (fields c), tables)
