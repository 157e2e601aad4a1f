-- What was read of a folder shows whatever an opening finds there; and what is stored in homes, as their last records tell.
use Rattle.std.proofs.Common.{◌≡◌, ℕ, false, List, get_or, Option, None, Some, refl, subst}
use Rattle.std.proofs.lemmas.List.Elements.{All-nil}
use Rattle.std.specs.FinMap.{get}
use Rattle.fjall_base.specs.Disk.{Image}
use Rattle.fjall_table.specs.Blocks.{Entry}
use Rattle.fjall_manifest.specs.Homes.{Home}
use Rattle.fjall_meta.specs.Keyspaces.{Keyspaces}
use Rattle.fjall_meta.specs.Contents.{AreWithin, IsWithin, is_beyond}
use Rattle.fjall_recovery.specs.declared.folder.RecoveredFolder.{RecoveredFolder}
use Rattle.fjall_recovery.specs.Folders.{Contents, IsOpenable, ShowsContents, with_versions}
use Rattle.fjall_recovery.specs.Homes.{HasVersionsAt, HaveVersions, Homes, Versions, last_in, stored_at, stored_in}
use Rattle.fjall_recovery.proofs.Alone.{one_openable}

within_at : (h : Option Home) (versions : Option (List Entry)) → HasVersionsAt h versions → IsWithin (stored_at h versions)
within_at (Some h) (Some versions) has = has.within
within_at (Some h) None has = absurd has
within_at None (Some versions) has = absurd has
within_at None None has = (All-nil (λ (v : Entry). is_beyond None v.number ≡ false), All-nil (λ n. is_beyond None n ≡ false))

-- nothing that is stored is beyond the persisted number
pub all_within : (homes : Homes) (versions : Versions) → HaveVersions homes versions → (s : Keyspaces) → AreWithin s (stored_in homes versions)
all_within homes versions have s i d lt = let id = (get_or s.living i d).id in within_at (get homes id) (get versions id) (have id)

persisted_at : (h : Option Home) (versions : Option (List Entry)) → HasVersionsAt h versions → (stored_at h versions).persisted ≡ (last_in h).persisted
persisted_at (Some h) (Some versions) has = refl
persisted_at (Some h) None has = absurd has
persisted_at None (Some versions) has = absurd has
persisted_at None None has = refl

-- what is persisted of a keyspace is what its last record tells
pub persisted_told : (homes : Homes) (versions : Versions) → HaveVersions homes versions → (id : ℕ) → (stored_in homes versions id).persisted ≡ (last_in (get homes id)).persisted
persisted_told homes versions have id = persisted_at (get homes id) (get versions id) (have id)

-- ---- what was read

-- what was read shows no versions
other_versions : (f : RecoveredFolder) (c : Contents) (versions : Versions) → ShowsContents f c → ShowsContents f (with_versions versions c)
other_versions f c versions shows = record { ids = shows.ids; least = shows.least; keyspaces = shows.keyspaces; last = shows.last; homes = shows.homes }

-- so it shows whatever an opening finds there
pub shows_alike : (f : RecoveredFolder) (image : Image) (c d : Contents) → IsOpenable image c → IsOpenable image d → ShowsContents f c → ShowsContents f d
shows_alike f image c d one two shows = subst (ShowsContents f) (one_openable image c d one two) (other_versions f c d.versions shows)
