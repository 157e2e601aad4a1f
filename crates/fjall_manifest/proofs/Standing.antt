-- What stands where a home rests.
use Rattle.std.proofs.Common.{◌≡◌, ℕ, List, [], ◌∷◌, length, sym, ◌∙◌, ap, subst}
use Rattle.std.specs.List.{flat_map}
use Rattle.std.proofs.lemmas.List.{append-nil}
use Rattle.fjall_base.specs.Disk.{Name, DiskEntry, File, Place, DiskState, IsFile, standing}
use Rattle.fjall_files.specs.Names.{current_name, table_name}
use Rattle.fjall_files.specs.Regions.{IsSafe}
use Rattle.fjall_files.specs.Texts.{text_in}
use Rattle.fjall_table.specs.declared.table_info.TableInfo.{TableInfo}
use Rattle.fjall_manifest.specs.Records.{Fields, IsRecords, record_text}
use Rattle.fjall_manifest.proofs.Currents.{texts_are_records}
use Rattle.fjall_manifest.specs.Homes.{AreSafe, HasHome, HoldTables, HoldsText, Home, Rests}

module _ (state : DiskState) (id : ℕ) where
  text_stands : (q : Name) (bytes : List ℕ) → IsSafe state q bytes → HoldsText (standing state) q bytes
  text_stands q bytes safe =
      let at : (state q).now ≡ File bytes [] = ap (λ (p : Place). p.now) safe in
      (subst IsFile (sym at) tt, ap (λ (e : DiskEntry). text_in e) at ∙ append-nil bytes)

  tables_stand : (tables : List TableInfo) (texts : List (List ℕ)) → AreSafe state id tables texts → HoldTables (standing state) id tables texts
  tables_stand [] [] safe = tt
  tables_stand [] (bytes ∷ texts) safe = absurd safe
  tables_stand (t ∷ tables) [] safe = absurd safe
  tables_stand (t ∷ tables) (bytes ∷ texts) safe = (text_stands (table_name id t.id) bytes safe.0, tables_stand tables texts safe.1)

  -- the same home stands there
  pub standing_home : (records : List Fields) (h : Home) → Rests state id records h → HasHome (standing state) id records h
  standing_home records h rests =
      let bytes = flat_map record_text records in
      let current = text_stands (current_name id) bytes rests.current in
      record {
        folder = ap (λ (p : Place). p.now) rests.folder;
        files = record {
          current = current.0;
          end = length bytes;
          whole = subst (λ (text : List ℕ). IsRecords text records (length bytes)) (sym current.1) (texts_are_records records rests.each);
          last_is = rests.last_is;
          tables = tables_stand h.last.tables h.texts rests.tables;
        };
      }
