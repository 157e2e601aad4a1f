-- A change of one keyspace's home, as one of the tree.
use Rattle.std.proofs.Common.{◌≡◌, ◌≢◌, ◌⊎◌, inl, inr, ℕ, ◌<◌, ◌^◌, ◌==◌, Bool, true, false, cond, List, [], ◌∷◌, ◌++◌, Option, Some, None, is_some, Result, Ok, Err, OnOk, refl, sym, ◌∙◌, ap, subst, arith}
use Rattle.std.specs.FinMap.{FinMap, get, insert}
use Rattle.std.specs.Ordering.{nat_cmp}
use Rattle.std.proofs.lemmas.List.{append_cancel_left}
use Rattle.fjall_base.specs.declared.error.Error.{Error}
use Rattle.fjall_base.specs.Disk.{DiskState, DiskStep, Image, Leaves, LeavesOnly, LeavesOnlyBy, Meaning, Name, Place, Survives, state_in}
use Rattle.fjall_base.proofs.Moments.{weaken}
use Rattle.fjall_files.specs.Names.{keyspace_folder, table_name}
use Rattle.fjall_files.specs.Regions.{IsImageIn, Within, is_under}
use Rattle.fjall_files.proofs.Changes.{within_state}
use Rattle.fjall_files.proofs.Parts.{region_run}
use Rattle.fjall_manifest.specs.Changes.{HasEitherHome}
use Rattle.fjall_manifest.specs.Homes.{HasHome, Home, IsFree, Rests, SyncedStays}
use Rattle.fjall_manifest.specs.Reading.{AreIndexed}
use Rattle.fjall_manifest.proofs.Naming.{some_folder, table_counts}
use Rattle.fjall_manifest.proofs.Openings.{right_is_indexed}
use Rattle.fjall_manifest.proofs.Outside.{counted_outside}
use Rattle.fjall_manifest.proofs.Views.{usually}
use Rattle.fjall_meta.specs.declared.living.LivingKeyspace.{LivingKeyspace}
use Rattle.fjall_meta.specs.Keyspaces.{AreKeyspaces, Keyspaces, keyspace_at}
use Rattle.fjall_recovery.specs.Halves.{HasTree, Tree, outside, with_home_at}
use Rattle.fjall_recovery.specs.Homes.{ClearsAreWithin, HasOpenableHome, HasVersions}
use Rattle.fjall_recovery.specs.Places.{HasSafeHome, HasSafeHomeAt, LiesInTree}
use Rattle.fjall_recovery.proofs.Changing.{home_in_crash, home_rests}
use Rattle.fjall_recovery.proofs.Composing.{not_under}
use Rattle.fjall_table.specs.Blocks.{Entry}
use Rattle.fjall_table.specs.Tables.{Handle}
use Rattle.fjall_manifest.specs.Records.{Fields}
use Rattle.fjall_meta.proofs.Ids.{living_has}
use Rattle.fjall_meta.proofs.Slots.{get_put, same_id, same_maps}
use Rattle.fjall_compaction.specs.Flushes.{HasAt}
use Rattle.fjall_compaction.proofs.FlushAfterHomes.{versions_at}

-- ---- no other keyspace's room for new tables is taken

pub room_stays : (old new : Meaning) (id other next : ℕ) → id < 2 ^ 64 → other < 2 ^ 64 → other ≢ id → Within (keyspace_folder id) old new → IsFree (state_in old) other next
    → IsFree (state_in new) other next
room_stays old new id other next small small' apart run free table above below =
    ap (λ (p : Place). p.now) (within_state (keyspace_folder id) (some_folder id) old new run (table_name other table) (counted_outside id other (table_name other table) small small' apart
    (table_counts other table)))
    ∙ free table above below

-- ---- the home that is there

-- what is put where it is changes nothing
put_again : {X : Type 0} (m : FinMap nat_cmp X) (id : ℕ) (x : X) → get m id ≡ Some x → insert m id x ≡ m
put_again {X} m id x at = same_maps (insert m id x) m (λ q. get_put m id x q ∙ by q (q == id) refl)
  where
    by : (q : ℕ) (b : Bool) → (q == id) ≡ b → cond b (Some x) (get m q) ≡ get m q
    by q true is = subst (λ i. Some x ≡ get m i) (sym (same_id q id is)) (sym at)
    by q false is = refl

pub same_tree : (t : Tree) (id : ℕ) (h : Home) (versions : List Entry) → HasAt t id h versions → with_home_at id h versions t ≡ t
same_tree t id h versions at = λ i. record { last = t.last; keyspaces = t.keyspaces; homes = put_again t.homes id h at.home i; versions = put_again t.versions id versions at.stored i }

-- it is a living keyspace's, and safe
pub record IsHome (state : DiskState) (t : Tree) (id : ℕ) (h : Home) : Type 0 where
  pub lives : is_some (keyspace_at id t.keyspaces.living) ≡ true
  pub safe : HasSafeHome state id h

home_of : (state : DiskState) (t : Tree) (id : ℕ) (h : Home) (k : Option LivingKeyspace) → keyspace_at id t.keyspaces.living ≡ k → HasSafeHomeAt state id k (Some h) → IsHome state t id h
home_of state t id h (Some k) at has = record { lives = ap (λ (o : Option LivingKeyspace). is_some o) at; safe = has }
home_of state t id h None at has = absurd has

pub is_home : (state : DiskState) (records : List Fields) (t : Tree) (id : ℕ) (h : Home) (versions : List Entry) → LiesInTree state records t → HasAt t id h versions → IsHome state t id h
is_home state records t id h versions lies at =
    home_of state t id h (keyspace_at id t.keyspaces.living) refl (subst (λ (o : Option Home). HasSafeHomeAt state id (keyspace_at id t.keyspaces.living) o) at.home (lies.rests.homes id))

-- no keyspace that lives is tree 0
pub not_zero : (s : Keyspaces) (id : ℕ) → AreKeyspaces s → is_some (keyspace_at id s.living) ≡ true → 0 ≢ id
not_zero s id are lives = of (keyspace_at id s.living) refl lives
  where
    of : (k : Option LivingKeyspace) → keyspace_at id s.living ≡ k → is_some k ≡ true → 0 ≢ id
    of (Some k) at lives = living_has (λ i. 0 ≢ i) s.living id k at (λ i d lt. let some = are.ids i d lt in λ e. omega (arith, some, e))
    of None at lives = let no : false ≡ true = lives in cc

-- ---- runs

-- what an image has at each moment of a run in a folder, it has beside all that a crash before the run left in a region that the
-- folder is not in
pub seen : (region : Name → Bool) (folder : Name) → (folder ≡ [] → ⊥) → ((q : Name) → region q ≡ true → is_under folder q ≡ false) → (old new : Meaning) (P Q : Image → Type 0)
    → Within folder old new → LeavesOnly old new P → ((image : Image) → P image → IsImageIn Survives region (state_in old) image → Q image) → LeavesOnly old new Q
seen region folder some apart old new P Q run has to =
    let same : run.added ≡ has.added = append_cancel_left old.steps run.added has.added (sym run.took.steps ∙ has.took.steps) in
    record {
      added = run.added;
      took = run.took;
      each = λ image left. to image (has.each image (subst (λ (l : List DiskStep). Leaves (state_in old) l image) same left))
          (region_run region folder some apart (state_in old) (state_in old) run.added image run.under (λ q out. refl) left);
    }

-- the home stays until the record is appended
pub either_home : (old mid : Meaning) (id : ℕ) (records : List Fields) (h next : Home) → LeavesOnlyBy SyncedStays old mid (λ image. HasHome image id records h)
    → LeavesOnly old mid (HasEitherHome id records h next)
either_home old mid id records h next run =
    weaken old mid (λ image. HasHome image id records h) (HasEitherHome id records h next) (usually old mid (λ image. HasHome image id records h) run) (λ image is. inl is)

module _ (m0 : Meaning) (records : List Fields) (t : Tree) (id : ℕ) (h : Home) (versions : List Entry) (small : id < 2 ^ 64) (lies : LiesInTree (state_in m0) records t) (at : HasAt t id h versions)
    (home : IsHome (state_in m0) t id h) (next : Home) (more : List Entry) (has : HasVersions next more) (clears : ClearsAreWithin next.last) where
  abbrev own : List Fields
  own = home.safe.records

  was : HasVersions h versions
  was = versions_at t id h versions at lies.rests.versions

  openable : (image : Image) (rs : List Fields) (d : Home) (indexes : List (List Handle)) → AreIndexed d.last.tables d.texts indexes → ClearsAreWithin d.last → HasHome image id rs d
      → HasOpenableHome image id d
  openable image rs d indexes indexed within there = record { records = rs; home = there; indexes = indexes; indexed = indexed; clears = within }

  next_indexes : (indexes : List (List Handle)) × AreIndexed next.last.tables next.texts indexes
  next_indexes = right_is_indexed next.last.tables next.texts has.lists has.right

  -- at each moment a crash leaves the tree with the one home or with the other
  pub each_moment : (mid : Meaning) → Within (keyspace_folder id) m0 mid → LeavesOnly m0 mid (HasEitherHome id home.safe.records h next)
      → LeavesOnly m0 mid (λ image. HasTree image t ⊎ HasTree image (with_home_at id next more t))
  each_moment mid run leaves = seen (outside id) (keyspace_folder id) (some_folder id) (not_under id) m0 mid (HasEitherHome id own h next)
      (λ image. HasTree image t ⊎ HasTree image (with_home_at id next more t)) run leaves (λ image either is. elim either [
        | inl old ↦ inl (subst (λ (u : Tree). HasTree image u) (same_tree t id h versions at)
            (home_in_crash id h versions t home.lives (state_in m0) image records lies.rests is (openable image own h home.safe.indexes home.safe.indexed home.safe.clears old) was))
        | inr new ↦ inr (home_in_crash id next more t home.lives (state_in m0) image records lies.rests is (openable image (own ++ next.last ∷ []) next next_indexes.0 next_indexes.1 clears new) has)
      ])

  -- at the end the tree lies there with the other one
  pub ends : (mid : Meaning) (r : Result Unit Error) → Within (keyspace_folder id) m0 mid → OnOk r (Rests (state_in mid) id (home.safe.records ++ next.last ∷ []) next)
      → OnOk r (LiesInTree (state_in mid) records (with_home_at id next more t))
  ends mid (Err e) run rests = tt
  ends mid (Ok done) run rests = record {
    rests = home_rests id next more t home.lives (state_in m0) (state_in mid) records lies.rests (λ q out. within_state (keyspace_folder id) (some_folder id) m0 mid run q (not_under id q out))
        (record { records = own ++ next.last ∷ []; rests = rests; indexes = next_indexes.0; indexed = next_indexes.1; clears = clears }) has;
    free = room_stays m0 mid id 0 t.last.next_table_id small (omega arith) (not_zero t.keyspaces id lies.rests.catalog.are home.lives) run lies.free;
  }
