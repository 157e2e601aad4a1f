-- Where an eviction of sealed journals leads a core and its disk.
use Rattle.std.proofs.Common.{◌≡◌, ◌⊎◌, inl, inr, ℕ, ◌≤◌, ◌==◌, arith, not, Bool, true, false, List, [], ◌∷◌, ◌++◌, length, map, take, get_or, Option, None, Some, Result, Ok, Err, IfOk, IsOkUnless, Vec, refl, sym, ◌∙◌, ap, subst}
use Rattle.std.specs.declared.alloc.Global.{Global}
use Rattle.std.specs.List.{AllByRecursion}
use Rattle.std.specs.List.Sorted.{IsStrictlyIncreasing}
use Rattle.std.proofs.lemmas.Bool.{true≢false}
use Rattle.std.proofs.lemmas.List.{append-nil}
use Rattle.fjall_base.specs.Store.{Store, Command, fold, kept}
use Rattle.fjall_base.specs.Disk.{LeavesOnly, Meaning, state_in}
use Rattle.fjall_base.specs.Errors.{IsFault}
use Rattle.fjall_base.specs.declared.error.Error.{Error}
use Rattle.fjall_base.specs.declared.error.Error.TheVariants.{Io, OutOfMemory, Poisoned}
use Rattle.fjall_base.proofs.Moments.{at_end, weaken}
use Rattle.fjall_meta.specs.Contents.{Stored, clears_held, is_beyond, versions_held}
use Rattle.fjall_journal.specs.Batches.{Shown, shown}
use Rattle.fjall_journal.specs.Writer.{Journal}
use Rattle.fjall_history.specs.declared.reply.Reply.TheVariants.{Done, Ids, Refused}
use Rattle.fjall_replay.specs.Known.{IsKnown, LastFields, last_known}
use Rattle.fjall_files.specs.Evictions.{StoppedBehind, TookEvictions}
use Rattle.fjall_files.specs.Journals.{Sealed, waited_for}
use Rattle.fjall_meta.specs.declared.living.LivingKeyspace.{LivingKeyspace}
use Rattle.fjall_meta.specs.Keyspaces.{Keyspaces, keyspace_at}
use Rattle.fjall_recovery.specs.Folders.{number_of_contents}
use Rattle.fjall_recovery.specs.Homes.{Homes, Versions, stored_at, stored_in}
use Rattle.fjall_recovery.specs.Journals.{batches_in}
use Rattle.fjall_recovery.specs.Places.{Journaling, contents_with}
use Rattle.fjall_replay.specs.Beside.{AreReplayedWith, ShowsWith}
use Rattle.fjall_table.specs.Blocks.{Entry}
use Rattle.fjall_manifest.specs.Records.{Fields}
use Rattle.fjall_trees.specs.Forests.{Forest}
use Rattle.fjall_meta.proofs.Found.{found_has, found_passes}
use Rattle.fjall_meta.proofs.Slots.{same_id}
use Rattle.fjall_trees.specs.MapTables.{store_with}
use Rattle.fjall_changes.specs.Evictions.{LeavesEviction, evicted}
use Rattle.fjall_changes.specs.Journaling.{IsWriting, KeepsHomes}
use Rattle.fjall_changes.specs.Rotations.{ListsSealed}
use Rattle.fjall_changes.specs.Watermarks.{AreStored, IsStored, TellsTrue}
use Rattle.fjall_changes.proofs.CrashedJournals.{eviction_stands}
use Rattle.fjall_changes.proofs.CrashesInEvictions.{took_eviction}
use Rattle.fjall_changes.proofs.KeptHomes.{evicted_homes}
use Rattle.fjall_changes.proofs.MarkedJournals.{all_stored, marked_ids, marked_left}
use Rattle.fjall_changes.proofs.StoredJournals.{evicted_least, evicted_store, same_clears, same_versions, shown_parted}
use Rattle.fjall_machine.specs.Evicting.{going_in}
use Rattle.fjall_machine.specs.Machine.{first_due}
use Rattle.fjall_machine.specs.Remembered.{Remembered, flushed_by, flushed_of, poisoned}
use Rattle.fjall_machine.specs.Shapes.{OfCount, OfMaintenance, ToFlush}
use Rattle.fjall_engine.specs.Holding.{Held}
use Rattle.fjall_engine.specs.CallParts.{Evicts, WentAway}
use Rattle.fjall_engine.specs.Durables.{AreKnown, CrashLeavesPending, Durable, Knows, Lies, StandsAmid, StaysFinished}
use Rattle.fjall_engine.specs.Standing.{Becomes, EvictionTook, EvictsInMemory, Owes, OwesRefusal, Poisons, Serves, StandsOn, evicted_in_memory, held_due, ids_reply, reply_of}
use Rattle.fjall_engine.proofs.CrashImages.{has_finished}
use Rattle.fjall_engine.proofs.JournalWrites.{Leads, held_on, leads_on, present_of, stands_ill, stands_well}
use Rattle.fjall_engine.proofs.KeyspacesUnchanged.{SameKeyspaces, tree_along}
use Rattle.fjall_engine.proofs.KnownBatches.{all_shown}
use Rattle.fjall_engine.proofs.KnownCores.{knows_same}
use Rattle.fjall_engine.proofs.KnownHomes.{AreAllKnown}
use Rattle.fjall_engine.proofs.Refusals.{no_sync}
use Rattle.fjall_engine.proofs.ServedCalls.{answer_serves, led_by, memory_owes, memory_serves, serves_by}
use Rattle.fjall_engine.proofs.TablesAtHome.{KeepsReads, all_stay, carry_all, keeps_homes, outside_ill, outside_same}

-- ---- batches that nobody wants any more

-- what trees show stays what the others make
fewer_stay : (entries : ℕ → List (List Entry)) (s : Keyspaces) (stored : ℕ → Stored) (front behind : List Shown) (trees : Forest) → AllByRecursion (IsStored s stored) front
    → AreReplayedWith entries s stored (front ++ behind) trees → AreReplayedWith entries s stored behind trees
fewer_stay entries s stored front behind trees are shows = λ i d lt.
    let id = (get_or s.living i d).id in
    let one = shows i d lt in (
      one.0,
      one.1,
      subst (λ (clears : List ℕ). ShowsWith (entries id) clears (versions_held s (stored id) id behind) one.0) (same_clears s stored id front behind are)
          (subst (λ (versions : List Entry). ShowsWith (entries id) (clears_held s (stored id) id (front ++ behind)) versions one.0) (same_versions s stored id front behind are) one.2),
    )

-- ---- what the last records tell

none_beyond : (b : Bool) → not b ≡ true → b ≡ false
none_beyond true none = absurd (true≢false (sym none))
none_beyond false none = refl

-- where the homes are known they tell the truth
known_true : (s : Keyspaces) (records : LastFields) (trees : Forest) (entries : ℕ → List (List Entry)) (homes : Homes) (versions : Versions) → AreAllKnown records trees entries homes versions s.living
    → (id lsn : ℕ) → flushed_by s records id lsn ≡ true → (keyspace_at id s.living ≡ None) ⊎ (is_beyond (stored_in homes versions id).persisted lsn ≡ false)
known_true s records trees entries homes versions known id lsn = by (keyspace_at id s.living) refl
  where
    by : (found : Option LivingKeyspace) → keyspace_at id s.living ≡ found → flushed_of records found lsn ≡ true → (found ≡ None) ⊎ (is_beyond (stored_in homes versions id).persisted lsn ≡ false)
    by None at told = inl refl
    by (Some k) at told =
        let is = found_has (λ (j : LivingKeyspace). j.id == id) (IsKnown records trees entries homes versions) s.living k at known in
        let same : k.id ≡ id = same_id k.id id (found_passes (λ (j : LivingKeyspace). j.id == id) s.living k at) in
        let last : (stored_in homes versions id).persisted ≡ (last_known records k).persisted =
        ap (λ (n : ℕ). (stored_in homes versions n).persisted) (sym same) ∙ (λ i. (stored_at (is.home i) (is.stored i)).persisted) ∙ ap (λ (f : Fields). f.persisted) (sym is.last) in
        inr (ap (λ (o : Option ℕ). is_beyond o lsn) last ∙ none_beyond (is_beyond (last_known records k).persisted lsn) told)

-- ---- where base and pending lie

-- how many journals go
abbrev count : Held → ℕ
count core = length (going_in core.memory)

module _ (entries : ℕ → List (List Entry)) (old new : Held) (base : Store) (pending : List Command) (lies : Lies old (held_on old base pending)) (knows : Knows old entries lies.journals lies.tree) where
  abbrev j : Journaling
  j = lies.journals

  abbrev left_over : Journaling
  left_over = evicted (count old) j

  abbrev sealed : List Sealed
  sealed = old.memory.journals.sealed

  abbrev flushed : ℕ → ℕ → Bool
  flushed = flushed_by old.memory.keyspaces old.memory.records

  tells_true : TellsTrue flushed lies.tree
  tells_true =
      let t = lies.tree in
      subst (λ (s : Keyspaces). TellsTrue (flushed_by s old.memory.records) t) lies.keyspaces (known_true t.keyspaces old.memory.records old.memory.trees entries t.homes t.versions knows.homes)

  -- nothing of the journals that go counts beyond what is stored
  gone_stored : AreStored lies.tree (batches_in (take (count old) j.sealed))
  gone_stored = all_stored flushed lies.tree tells_true sealed j.sealed (count old) lies.told.sealed (omega arith)

  tells : ListsSealed sealed j
  tells = marked_ids sealed j.sealed lies.told.sealed

  -- what a crash leaves
  evict_leaves : (done : Bool) → WentAway old.memory old.disk new.disk done → LeavesOnly old.disk new.disk (StandsAmid base [] (pending ++ []))
  evict_leaves done away =
      subst (λ (l : List Command). LeavesOnly old.disk new.disk (StandsAmid base [] l)) (sym lies.waits ∙ sym (append-nil pending))
      (weaken old.disk new.disk _ _ (away.leaves old.journal j lies.writing tells)
      (λ image left. eviction_stands (state_in old.disk) j (count old) lies.records lies.tree base image lies.in_tree.rests lies.made gone_stored left))

  evict_finished : (done : Bool) → WentAway old.memory old.disk new.disk done → StaysFinished (state_in new.disk)
  evict_finished done away image is =
      let left = at_end old.disk new.disk (LeavesEviction (state_in old.disk) j (count old)) (away.leaves old.journal j lies.writing tells) image is in
      has_finished image (evicted left.gone j) left.some.0 left.some.3

  -- what stands in `keyspaces` is the same
  evict_same : (done : Bool) → WentAway old.memory old.disk new.disk done → SameKeyspaces (state_in old.disk) (state_in new.disk)
  evict_same done away = away.elsewhere old.journal j lies.writing tells (ap (λ p. p.older) lies.in_tree.rests.catalog.home.keyspaces_folder)

  -- what is known of the journals tells of those that stay
  known_left : AreKnown left_over (evicted_in_memory old.memory).journals
  known_left = record { sealed = marked_left flushed sealed j.sealed lies.told.sealed; active = lies.told.active; marks = lies.told.marks }

  -- where they lie once it was done
  evict_lies : Becomes old (evicted_in_memory old.memory) new → WentAway old.memory old.disk new.disk true → Lies new (held_on new base pending)
  evict_lies becomes away =
      let t = lies.tree in
      let least = evicted_least j t (count old) j.later in
      let before = lies.next in
      let fewer : number_of_contents (contents_with left_over t j.later) ≤ old.memory.next = omega (arith, least, before) in
      record {
        journals = left_over;
        records = lies.records;
        tree = t;
        writing = subst (λ (w : Journal). IsWriting (state_in new.disk) w left_over) (sym becomes.journal) (away.lies refl old.journal j lies.writing tells);
        in_tree = tree_along (state_in old.disk) (state_in new.disk) lies.records t (evict_same true away) lies.in_tree;
        told = subst (AreKnown left_over) (sym (ap (λ (m : Remembered). m.journals) becomes.memory_is)) known_left;
        last = lies.last ∙ sym becomes.catalog;
        keyspaces = lies.keyspaces ∙ ap (λ (m : Remembered). m.keyspaces) (sym becomes.memory_is);
        made = lies.made ∙ sym (evicted_store j t (count old) [] gone_stored);
        waits = lies.waits;
        next = subst (λ (n : ℕ). number_of_contents (contents_with left_over t j.later) ≤ n) (sym (ap (λ (m : Remembered). m.next) becomes.memory_is)) fewer;
      }

  -- what is known of homes stays
  evict_knows : (becomes : Becomes old (evicted_in_memory old.memory) new) (away : WentAway old.memory old.disk new.disk true) → Knows new entries (evict_lies becomes away).journals (evict_lies becomes away).tree
  unfolding evict_lies
  evict_knows becomes away =
      let t = lies.tree in
      let stored = stored_in t.homes t.versions in
      let same = knows_same entries old new j t (ap (λ (m : Remembered). m.trees) becomes.memory_is) (ap (λ (m : Remembered). m.records) becomes.memory_is) knows in
      record {
        shown = fewer_stay entries t.keyspaces stored (map shown (batches_in (take (count old) j.sealed))) (all_shown left_over) new.memory.trees gone_stored
            (subst (λ (l : List Shown). AreReplayedWith entries t.keyspaces stored l new.memory.trees) (shown_parted j (count old) j.later) same.shown);
        homes = same.homes;
        covered = same.covered;
      }

-- ---- where it leads

-- an eviction that was done
pub evicted_leads : (entries : ℕ → List (List Entry)) (old new : Held) (d : Durable) → old.memory.poisoned ≡ false → Becomes old (evicted_in_memory old.memory) new
    → WentAway old.memory old.disk new.disk true → StandsOn old entries d → Leads entries new d []
evicted_leads entries old new d well becomes away = leads_on entries old new d [] (λ base pending on.
    let lies = on.lies well in
    let knows = on.knows well in
    let after = evict_lies entries old new base pending lies knows becomes away in
    let known = evict_knows entries old new base pending lies knows becomes away in
    let was = present_of entries old (held_on old base pending) false well on ∙ ap (λ (m : Remembered). kept (store_with entries m.keyspaces m.trees)) (sym becomes.memory_is) in
    let still = stands_well entries new base pending (ap (λ (m : Remembered). m.poisoned) becomes.memory_is ∙ well) after known was in (
      held_on new base pending,
      still,
      record { leaves = evict_leaves entries old new base pending lies knows true away; safe = []; base = refl; rest = sym (append-nil pending); rests = still.rests },
    ))

-- and one that a fault stopped
pub unevicted_leads : (entries : ℕ → List (List Entry)) (old new : Held) (left : Remembered) (d : Durable) → old.memory.poisoned ≡ false → EvictsInMemory old.memory left → Poisons left old new
    → WentAway old.memory old.disk new.disk false → StandsOn old entries d → Leads entries new d []
unevicted_leads entries old new left d well (gone, rest, stopped, is) fault away = leads_on entries old new d [] (λ base pending on.
    let lies = on.lies well in
    let knows = on.knows well in
    let leaves = evict_leaves entries old new base pending lies knows false away in
    let rests : CrashLeavesPending (held_on new base (pending ++ [])) = at_end old.disk new.disk _ leaves in
    let memory = fault.memory_is ∙ ap poisoned is in
    let was = present_of entries old (held_on old base pending) false well on ∙ ap (λ (m : Remembered). kept (store_with entries m.keyspaces m.trees)) (sym memory) in
    let still = stands_ill entries new base (pending ++ []) (ap (λ (m : Remembered). m.poisoned) fault.memory_is) rests (evict_finished entries old new base pending lies knows false away)
    (inl (ap (λ (l : List Command). kept (fold base l)) (append-nil pending) ∙ was)) in
    (held_on new base (pending ++ []), still, record { leaves = leaves; safe = []; base = refl; rest = refl; rests = rests }))

-- no call was one that no disk can serve
pub evicted_served : (entries : ℕ → List (List Entry)) (old new : Held) (d : Durable) (done : Bool) → old.memory.poisoned ≡ false → WentAway old.memory old.disk new.disk done → StandsOn old entries d
    → new.disk.misuses ≡ old.disk.misuses
evicted_served entries old new d done well away on =
    let lies = on.lies well in
    away.served old.journal lies.journals (subst (λ (m : Meaning). IsWriting (state_in m) old.journal lies.journals) on.same lies.writing)
    (marked_ids old.memory.journals.sealed lies.journals.sealed lies.told.sealed)

-- its disk keeps the tables
pub evicted_keeps : (old new : Held) → Becomes old (evicted_in_memory old.memory) new → WentAway old.memory old.disk new.disk true → KeepsReads old new
evicted_keeps old new becomes away =
    keeps_homes old new (carry_all old.memory.trees new.memory.trees (ap (λ (m : Remembered). m.trees) becomes.memory_is)) (λ s stands reads. all_stay old.disk new.disk new.memory.trees away.homes)
    (outside_same old new (ap (λ (m : Remembered). m.poisoned) becomes.memory_is) (ap (λ (j : Journal). j.name) becomes.journal))

pub unevicted_keeps : (old new : Held) (left : Remembered) → EvictsInMemory old.memory left → Poisons left old new → WentAway old.memory old.disk new.disk false → KeepsReads old new
unevicted_keeps old new left (gone, rest, stopped, is) fault away =
    keeps_homes old new (carry_all old.memory.trees new.memory.trees (ap (λ (m : Remembered). m.trees) (fault.memory_is ∙ ap poisoned is)))
    (λ s stands reads. all_stay old.disk new.disk new.memory.trees away.homes) (outside_ill old new (ap (λ (m : Remembered). m.poisoned) fault.memory_is))

-- ---- the work

-- keyspaces' homes stay in sight
pub done_homes : (m : Remembered) (old new : Meaning) → EvictionTook m old new → KeepsHomes old new
done_homes m old new took =
    evicted_homes old new m.journals.sealed (length (going_in m)) (took_eviction (flushed_by m.keyspaces m.records) m.journals.sealed (Ok tt) old new [] took tt)

pub stopped_homes : (m : Remembered) (old new : Meaning) (left gone : List Sealed) (stopped : StoppedBehind (flushed_by m.keyspaces m.records) m.journals.sealed left gone)
    → TookEvictions old new gone stopped.next → KeepsHomes old new
stopped_homes m old new left gone stopped took =
    evicted_homes old new m.journals.sealed (length (going_in m)) (took_eviction (flushed_by m.keyspaces m.records) m.journals.sealed (Err OutOfMemory) old new left tt (gone, stopped, took))

-- a fault stopped it
pub eviction_failed : (honest : Type 0) (old new : Held) (left : Remembered) (error : Error) → EvictsInMemory old.memory left → new.memory ≡ poisoned left → IsFault old.disk.faults new.disk.faults error → old.disk.faults ≤ new.disk.faults
    → (honest → WentAway old.memory old.disk new.disk false) → Evicts honest old (Err error) new
eviction_failed honest old new left (Io kind) evicts memory cause later away = (left, evicts, record { memory_is = memory; faults = cause }, away, later)
eviction_failed honest old new left error evicts memory cause later away = absurd cause

-- ---- the call

pub maintenance_due : (core : Held) (ill : Bool) → core.memory.poisoned ≡ ill → held_due core OfMaintenance ≡ first_due ((ill, Poisoned) ∷ [])
maintenance_due core ill is = ap (λ b. first_due ((b, Poisoned) ∷ [])) is

pub evicted_owes : (honest : Type 0) (old new : Held) (result : Result Unit Error) → old.memory.poisoned ≡ false → Evicts honest old result new → Owes old OfMaintenance (reply_of result) new
evicted_owes honest old new (Ok _) well e = (maintenance_due old false well, (refl, e.0))
evicted_owes honest old new (Err (Io kind)) well (left, evicts, fault, away, later) =
    subst (λ first. OwesRefusal first old OfMaintenance (Io kind) new) (sym (maintenance_due old false well)) (inr (inr (left, evicts, fault)))
evicted_owes honest old new (Err error) well e = absurd e

pub evicted_serves : (honest : Type 0) (old new : Held) (result : Result Unit Error) → old.memory.poisoned ≡ false → Evicts honest old result new → honest → Serves old OfMaintenance (reply_of result) new
evicted_serves honest old new (Ok _) well e h =
    serves_by old new OfMaintenance Done (evicted_owes honest old new (Ok tt) well e) (λ reads. reads) (e.1 h) (e.2 h).kinds (evicted_keeps old new e.0 (e.2 h))
    (λ s d stands on tidy. evicted_served s.parts.entries old new d true well (e.2 h) on)
    (λ s d stands on. led_by new s d OfMaintenance Done [] refl (λ sync. sync) (evicted_leads s.parts.entries old new d well e.0 (e.2 h) on))
evicted_serves honest old new (Err (Io kind)) well (left, evicts, fault, away, later) h =
    serves_by old new OfMaintenance (Refused (Io kind)) (evicted_owes honest old new (Err (Io kind)) well (left, evicts, fault, away, later)) (λ reads. reads) ((away h).stopped refl) (away h).kinds (unevicted_keeps old new left evicts fault (away h))
    (λ s d stands on tidy. record { rose = fault.faults; served = evicted_served s.parts.entries old new d false well (away h) on })
    (λ s d stands on. led_by new s d OfMaintenance (Refused (Io kind)) [] refl (no_sync s OfMaintenance (Io kind)) (unevicted_leads s.parts.entries old new left d well evicts fault (away h) on))
evicted_serves honest old new (Err error) well e h = absurd e

-- ---- the keyspaces that the oldest journal waits for

-- what is told of them
abbrev pub TellsWaited : Held → Result (Vec ℕ Global) Error → Type 0
TellsWaited core result = IfOk result (λ ids. ids.items ≡ waited_for (flushed_by core.memory.keyspaces core.memory.records) core.memory.journals.sealed)

abbrev pub TellsAscending : Result (Vec ℕ Global) Error → Type 0
TellsAscending result = IfOk result (λ ids. IsStrictlyIncreasing ids.items)

pub waited_owes : (core : Held) (result : Result (Vec ℕ Global) Error) → TellsWaited core result → TellsAscending result → IsOkUnless result OutOfMemory → Owes core (OfCount ToFlush) (ids_reply result) core
waited_owes core (Ok ids) told ascend only = (refl, ((ids, refl, ascend, told), refl))
waited_owes core (Err error) told ascend only = subst (λ (e : Error). Owes core (OfCount ToFlush) (Refused e) core) (sym only) (memory_owes core (OfCount ToFlush) tt refl)

pub waited_serves : (core : Held) (result : Result (Vec ℕ Global) Error) → TellsWaited core result → TellsAscending result → IsOkUnless result OutOfMemory → Serves core (OfCount ToFlush) (ids_reply result) core
waited_serves core (Ok ids) told ascend only = answer_serves core (OfCount ToFlush) (Ids ids) (λ reads. reads) (waited_owes core (Ok ids) told ascend only) refl refl (λ s. refl) (λ s sync. sync)
waited_serves core (Err error) told ascend only = subst (λ (e : Error). Serves core (OfCount ToFlush) (Refused e) core) (sym only) (memory_serves core (OfCount ToFlush) tt refl)
