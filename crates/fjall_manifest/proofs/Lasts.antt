-- The last record of some bytes.
use Rattle.std.proofs.Common.{◌≡◌, ℕ, List, Some}
use Rattle.fjall_manifest.specs.Records.{Fields, IsRecords, HasContradiction}
use Rattle.fjall_base.specs.Lists.{last_of}
use Rattle.fjall_manifest.proofs.Currents.{contradiction_has_no_reading}
use Rattle.fjall_manifest.specs.declared.catalog.Catalog.{Catalog}
use Rattle.fjall_manifest.specs.Catalog.{fields, IsAtLevel1}
use Rattle.fjall_manifest.specs.Refusals.{HasLast, HasNoLast}

pub contradiction_none : (bytes : List ℕ) → HasContradiction bytes → HasNoLast bytes
contradiction_none bytes has last found = contradiction_has_no_reading bytes found.records found.end has found.whole

pub has_last : (bytes : List ℕ) (end : ℕ) (r : Fields) (c : Catalog) → (records : List Fields) × IsRecords bytes records end × (Some r ≡ last_of records) → (fields c ≡ r) × IsAtLevel1 c.table → HasLast bytes c
has_last bytes end r c found is = record {
  records = found.0;
  end = end;
  whole = found.1;
  last_is = (let same = is.0 in let at = found.2 in cc);
  level = is.1;
}
