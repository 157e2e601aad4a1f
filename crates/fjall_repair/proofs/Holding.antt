-- What the files that are made can hold.
use Rattle.std.proofs.Common.{◌≡◌, inr, ℕ, ◌<◌, ◌^◌, true, false, List, [], ◌∷◌, ◌++◌, length, take, drop, codes, Some, refl, sym, subst, arith, take-append-drop}
use Rattle.std.proofs.lemmas.List.{append-nil, take_all}
use Rattle.fjall_base.specs.declared.error.FormatVersion.TheVariants.{V3}
use Rattle.fjall_base.specs.Disk.{File, Folder}
use Rattle.fjall_journal.proofs.Cuts.{none_at_nil}
use Rattle.fjall_manifest.specs.Records.{IsRecord, IsRecords}
use Rattle.fjall_manifest.proofs.Currents.{texts_are_records}
use Rattle.fjall_files.specs.Marker.{header}
use Rattle.fjall_files.specs.Names.{journal_name, current_name}
use Rattle.fjall_manifest.specs.Catalog.{fields, first_catalog}
use Rattle.fjall_recovery.specs.Folders.{IsBegun}
use Rattle.fjall_repair.specs.Making.{CanHold, MayMark, MayStand}
use Rattle.fjall_repair.specs.Plans.{first_text}
use Rattle.fjall_repair.proofs.Fronts.{begun_front, header_marks}
use Rattle.fjall_repair.proofs.Named.{current_inside, current_no_journal, current_no_marker, current_no_table, journal_no_table, marker_no_journal, marker_no_misnomer, marker_no_table}

-- ---- the marker

marker_stands : (n : ℕ) → MayStand true (codes "version") (File (take n (header V3)) [])
marker_stands n = record {
  marker = λ is. subst (λ (l : List ℕ). MayMark true (Some l)) (sym (append-nil (take n (header V3)))) (header_marks n);
  named = λ root file misnamed. marker_no_misnomer misnamed;
  journal = λ id small is. absurd (marker_no_journal id is);
  folder = λ inside is. (let no : File (take n (header V3)) [] ≡ Folder = is in cc);
  records = λ is. absurd (current_no_marker (sym is));
}

pub marker_holds : CanHold true (codes "version") (header V3)
marker_holds = record { each = marker_stands; no_table = marker_no_table }

-- ---- tree 0

first_begun : IsRecord (fields first_catalog) → IsBegun first_text
first_begun is =
    let text = append-nil first_text in
    let whole = texts_are_records (fields first_catalog ∷ []) (is, tt) in
    record {
      records = fields first_catalog ∷ [];
      end = length (first_text ++ []);
      whole = subst (λ (l : List ℕ). IsRecords l (fields first_catalog ∷ []) (length (first_text ++ []))) text whole;
      first = inr refl;
    }

current_stands : IsRecord (fields first_catalog) → (n : ℕ) → MayStand false (current_name 0) (File (take n first_text) [])
current_stands first n = record {
  marker = λ is. absurd (current_no_marker is);
  named = λ root. absurd (current_inside root);
  journal = λ id small is. absurd (current_no_journal id is);
  folder = λ inside is. (let no : File (take n first_text) [] ≡ Folder = is in cc);
  records = λ is. subst IsBegun (sym (append-nil (take n first_text))) (begun_front (take n first_text) (drop n first_text) (subst IsBegun (sym (take-append-drop n first_text)) (first_begun first)));
}

pub current_holds : IsRecord (fields first_catalog) → CanHold false (current_name 0) first_text
current_holds first = record { each = current_stands first; no_table = current_no_table }

-- ---- journals

journal_stands : (id : ℕ) → id < 2 ^ 64 → MayStand false (journal_name id) (File [] [])
journal_stands id small = record {
  marker = λ is. absurd (marker_no_journal id (sym is));
  named = λ root file misnamed. misnamed.1 id (small, refl);
  journal = λ other small' is. none_at_nil;
  folder = λ inside is. (let no : File [] [] ≡ Folder = is in cc);
  records = λ is. absurd (current_no_journal id (sym is));
}

pub journal_holds : (id : ℕ) → id < 2 ^ 64 → CanHold false (journal_name id) []
journal_holds id small = record {
  each = λ n. subst (λ (l : List ℕ). MayStand false (journal_name id) (File l [])) (sym (take_all n [] (omega arith))) (journal_stands id small);
  no_table = journal_no_table id small;
}
