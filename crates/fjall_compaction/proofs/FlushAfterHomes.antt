-- The home after a flush: its tables are kept or new, and they have the versions of before and those that were made.
use Rattle.std.proofs.Common.{◌≡◌, ◌⊎◌, inl, inr, ℕ, ◌+◌, ◌≤◌, false, List, [], ◌∷◌, ◌++◌, length, Option, Some, refl, sym, ◌∙◌, ap, subst, arith, length-append}
use Rattle.std.specs.FinMap.{get}
use Rattle.std.proofs.lemmas.Grind.{flat_map-append}
use Rattle.std.proofs.lemmas.List.Elements.{All-append, All-weaker}
use Rattle.fjall_base.specs.Disk.{DiskState}
use Rattle.fjall_meta.specs.Contents.{is_beyond}
use Rattle.fjall_jobs.specs.declared.made_table.MadeTable.{MadeTable}
use Rattle.fjall_jobs.specs.Sequences.{AreMadeTables}
use Rattle.fjall_manifest.specs.Changes.{AreKeptOrNew, IsNext, IsOneOf}
use Rattle.fjall_manifest.specs.Homes.{AreSafe, Home}
use Rattle.fjall_manifest.specs.Reading.{AreRight}
use Rattle.fjall_recovery.specs.Halves.{Tree}
use Rattle.fjall_recovery.specs.Homes.{HasVersions, HasVersionsAt, HaveVersions}
use Rattle.fjall_recovery.proofs.Storing.{versions_inserted}
use Rattle.fjall_memtable.specs.Sorted.{flat}
use Rattle.fjall_table.specs.Blocks.{Entry}
use Rattle.fjall_table.specs.declared.table_info.TableInfo.{TableInfo}
use Rattle.fjall_compaction.specs.Flushes.{Flush, Follows, HasAt, home_after, flushed_infos, raised, texts_of, tree_after}
use Rattle.fjall_compaction.proofs.FlushAfterRecords.{clears_within, now_within, still_within}
use Rattle.fjall_compaction.proofs.Once.{both_once}

pub infos_count : (next : ℕ) (tables : List MadeTable) → length (flushed_infos next tables) ≡ length tables
infos_count next [] = refl
infos_count next (t ∷ tables) = let rest = infos_count (next + 1) tables in omega (arith, rest)

-- ---- what they hold

pub both_right : (tables infos : List TableInfo) (texts more : List (List ℕ)) (entries lists : List (List Entry)) → AreRight tables texts entries → AreRight infos more lists
    → AreRight (tables ++ infos) (texts ++ more) (entries ++ lists)
both_right [] infos [] more [] lists one two = two
both_right [] infos [] more (e ∷ entries) lists one two = absurd one
both_right [] infos (text ∷ texts) more entries lists one two = absurd one
both_right (t ∷ tables) infos [] more entries lists one two = absurd one
both_right (t ∷ tables) infos (text ∷ texts) more [] lists one two = absurd one
both_right (t ∷ tables) infos (text ∷ texts) more (e ∷ entries) lists one two = (one.0, both_right tables infos texts more entries lists one.1 two)

pub new_right : (next : ℕ) (tables : List MadeTable) (lists : List (List Entry)) → AreMadeTables tables lists → AreRight (flushed_infos next tables) (texts_of tables) lists
new_right next [] [] made = tt
new_right next [] (l ∷ lists) made = absurd made
new_right next (t ∷ tables) [] made = absurd made
new_right next (t ∷ tables) (l ∷ lists) made = (record { len = refl; table = made.0.table; count = made.0.count }, new_right (next + 1) tables lists made.1)

pub has_versions : (f : Flush) (lists : List (List Entry)) (h : Home) (versions : List Entry) → Follows f lists h.last → HasVersions h versions → HasVersions (home_after f h) (versions ++ flat lists)
has_versions f lists h versions follows has =
    let P = λ (v : Entry). is_beyond (Some (raised h.last.persisted f.number)) v.number ≡ false in
    record {
      lists = has.lists ++ lists;
      right = both_right h.last.tables (flushed_infos h.last.next_table_id f.tables) h.texts (texts_of f.tables) has.lists lists has.right (new_right h.last.next_table_id f.tables lists follows.made);
      all = ap (λ (l : List Entry). l ++ flat lists) has.all ∙ sym (flat_map-append (λ (entries : List Entry). entries) has.lists lists);
      within = (
        All-append P versions (flat lists)
            (All-weaker (λ (v : Entry). is_beyond h.last.persisted v.number ≡ false) P (λ v is. still_within h.last.persisted f.number v.number is) versions has.within.0)
            (All-weaker (λ (v : Entry). v.number ≤ f.number) P (λ v le. now_within h.last.persisted f.number v.number le) (flat lists) follows.versions),
        clears_within f lists h.last follows has.within.1,
      );
      once = both_once h.last.persisted versions (flat lists) has.within.0 follows.beyond has.once follows.once;
    }

-- the home that stands there has its versions
pub versions_at : (t : Tree) (id : ℕ) (h : Home) (versions : List Entry) → HasAt t id h versions → HaveVersions t.homes t.versions → HasVersions h versions
versions_at t id h versions at have =
    subst (λ (o : Option Home). HasVersionsAt o (Some versions)) at.home (subst (λ (o : Option (List Entry)). HasVersionsAt (get t.homes id) o) at.stored (have id))

pub have_versions : (t : Tree) (id : ℕ) (f : Flush) (lists : List (List Entry)) (h : Home) (versions : List Entry) → HasAt t id h versions → Follows f lists h.last → HaveVersions t.homes t.versions
    → HaveVersions (tree_after id f lists h versions t).homes (tree_after id f lists h versions t).versions
have_versions t id f lists h versions at follows have =
    versions_inserted t.homes t.versions id (home_after f h) (versions ++ flat lists) (has_versions f lists h versions follows (versions_at t id h versions at have)) have
