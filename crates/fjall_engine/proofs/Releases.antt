-- What a release makes of a core.
use Rattle.std.proofs.Common.{◌≡◌, ◌≢◌, ◌⊎◌, inl, inr, MatchBool, if◌then◌else◌, ℕ, ◌<◌, ◌≤◌, ◌^◌, ◌==◌, ◌||◌, ◌&&◌, nat_le, not, Bool, true, false, List, [], ◌∷◌, Option, None, Some, All, Ok, Err, refl, sym, ◌∙◌, ap, subst, arith, codes}
use Rattle.std.proofs.lemmas.Bool.{true≢false}
use Rattle.std.proofs.lemmas.Bool.Decides.{nat_tests}
use Rattle.std.proofs.lemmas.List.Elements.{All-cons, All-filter, All-nil, All-weaker, filter_passes}
use Rattle.std.proofs.lemmas.Option.{none-some}
use Rattle.std.specs.FinMap.{remove}
use Rattle.std.specs.Option.{is_some}
use Rattle.fjall_base.specs.Store.{kept}
use Rattle.fjall_base.specs.Disk.{Meaning, Took, state_in}
use Rattle.fjall_base.specs.declared.error.Error.{Error}
use Rattle.fjall_base.specs.declared.error.Error.TheVariants.{Io, OutOfMemory, UnknownKeyspace}
use Rattle.fjall_files.specs.Regions.{Within}
use Rattle.fjall_files.proofs.Fitting.{folder_kind}
use Rattle.fjall_files.specs.Tidy.{IsTidy, StaysTidy}
use Rattle.fjall_files.proofs.Tidying.{stays_start}
use Rattle.fjall_meta.specs.declared.living.LivingKeyspace.{LivingKeyspace}
use Rattle.fjall_meta.specs.Keyspaces.{AreKeyspaces, Keyspaces, keyspace_at}
use Rattle.fjall_base.specs.Errors.{Rose}
use Rattle.fjall_journal.specs.Writer.{Journal}
use Rattle.fjall_table.specs.Blocks.{Entry}
use Rattle.fjall_trees.specs.Maps.{store_of}
use Rattle.fjall_trees.specs.MapTables.{store_with}
use Rattle.fjall_trees.specs.Forests.{Planted, without}
use Rattle.fjall_changes.proofs.KeptHomes.{homes_none, removal_others}
use Rattle.fjall_meta.proofs.Naming.{living_names}
use Rattle.fjall_changes.specs.Removals.{IsUnused, RemovesOwn}
use Rattle.fjall_recovery.specs.Halves.{Tree}
use Rattle.fjall_recovery.specs.Places.{Journaling}
use Rattle.fjall_machine.specs.Shapes.{OfHandle, OneLess}
use Rattle.fjall_history.specs.declared.reply.Reply.TheVariants.{Done, Refused}
use Rattle.fjall_machine.specs.Machine.{State, handles_of, is_living, is_unknown}
use Rattle.fjall_machine.specs.Remembered.{Remembered, is_last_in_memory, poisoned, released_in_memory}
use Rattle.fjall_machine.proofs.Dues.{none_due}
use Rattle.fjall_machine.proofs.Standing as law
use Rattle.fjall_engine.specs.Holding.{Held}
use Rattle.fjall_engine.specs.Durables.{Durable, Knows}
use Rattle.fjall_engine.specs.Crashes.{is_io}
use Rattle.fjall_engine.specs.Standing.{Counts, Owes, OwesRefusal, Poisons, Serves, StandsFor, StandsOn, held_due, store_in, store_with_tables}
use Rattle.fjall_engine.proofs.TablesAtHome.{CarryTables, HomesStay, IsOutside, KeepsReads, all_stay, carry_all, carry_along, carry_dropped, keeps_disk, keeps_homes, others_there, outside_ill, outside_same}
use Rattle.fjall_engine.proofs.JournalWrites.{held_on}
use Rattle.fjall_engine.specs.CallParts.{FilesGone, Removes}
use Rattle.fjall_engine.proofs.ServedCalls.{led_by, serves_by}
use Rattle.fjall_engine.proofs.KeyspaceCalls.{Recounts, Removed, recount_leads, removed_leads, unremoved_leads}
use Rattle.fjall_engine.proofs.KnownCores.{knows_dropped, knows_same}

-- ---- the id

one_there : (id : ℕ) (k : LivingKeyspace) (living : List LivingKeyspace) (b : Bool) → (k.id == id) ≡ b → (keyspace_at id living ≡ None → All (λ j. j.id ≢ id) living) → keyspace_at id (k ∷ living) ≡ None → All (λ j. j.id ≢ id) (k ∷ living)
one_there id k living true same rest none = absurd (none-some k (sym none ∙ rw same refl))
one_there id k living false other rest none =
    All-cons (λ (j : LivingKeyspace). j.id ≢ id) k living (λ e. let here : (k.id == id) ≡ true = grind (arith, nat_tests) in true≢false (sym here ∙ other)) (rest (sym (rw other refl) ∙ none))

none_there : (id : ℕ) (living : List LivingKeyspace) → keyspace_at id living ≡ None → All (λ k. k.id ≢ id) living
none_there id [] none = All-nil (λ (k : LivingKeyspace). k.id ≢ id)
none_there id (k ∷ living) none = one_there id k living (k.id == id) refl (none_there id living) none

gone_none : {X : Type 0} (o : Option X) → is_some o ≡ false → o ≡ None
gone_none None is = refl
gone_none (Some x) is = absurd (true≢false is)

-- an id that was given out, and that no keyspace has that lives
pub unused_of : (m : Remembered) (id : ℕ) → AreKeyspaces m.keyspaces → is_unknown (store_of m.keyspaces m.trees) id ≡ false → is_living (store_of m.keyspaces m.trees) id ≡ false → IsUnused id m.keyspaces
unused_of m id are known gone =
    let below : (id == 0 || nat_le m.keyspaces.next id) ≡ false = known in
    let fits = are.fits in
    record {
      positive = positive (id == 0) (nat_le m.keyspaces.next id) refl below;
      fits = under (id == 0) (nat_le m.keyspaces.next id) refl below fits;
      unused = none_there id m.keyspaces.living (gone_none (keyspace_at id m.keyspaces.living) (sym (living_names m.keyspaces [] id) ∙ gone));
    }
  where
    positive : (first second : Bool) → (id == 0) ≡ first → (first || second) ≡ false → 0 < id
    positive true second is none = absurd (true≢false none)
    positive false second is none = grind (arith, nat_tests)

    under : (first second : Bool) → nat_le m.keyspaces.next id ≡ second → (first || second) ≡ false → m.keyspaces.next < 2 ^ 64 → id < 2 ^ 64
    under true second is none fits = absurd (true≢false none)
    under false true is none fits = absurd (true≢false none)
    under false false is none fits = grind (arith, nat_tests)

known : (core : Held) (id : ℕ) → held_due core (OfHandle OneLess id) ≡ None → is_unknown (store_in core) id ≡ false
known core id none = (none_due ((is_unknown (store_in core) id, UnknownKeyspace) ∷ (handles_of core.memory.handles id == 0, UnknownKeyspace) ∷ []) none).0

deleted : (m : Remembered) (id : ℕ) → is_last_in_memory m id ≡ true → is_living (store_of m.keyspaces m.trees) id ≡ false
deleted m id last = by_living (is_living (store_of m.keyspaces m.trees) id) refl last
  where
    by_living : (b : Bool) → is_living (store_of m.keyspaces m.trees) id ≡ b → (not b && (handles_of m.handles id == 1)) ≡ true → is_living (store_of m.keyspaces m.trees) id ≡ false
    by_living true is last = absurd (true≢false (sym last))
    by_living false is last = is

-- ---- what is held

-- a release changes nothing of what is shown
same_shown : (old : Held) (s : State) (id : ℕ) → StandsFor old s → kept (store_with_tables s.parts.entries old) ≡ kept (store_with s.parts.entries (released_in_memory id old.memory).keyspaces (released_in_memory id old.memory).trees)
same_shown old s id stands = let held = stands.remembered in sym held.present ∙ (law.a_release_stands old.memory old.catalog.next_table_id s held id).present

-- the trees after it
carry_released : (old new : Held) (id : ℕ) → new.memory.trees ≡ (released_in_memory id old.memory).trees → CarryTables old.memory.trees new.memory.trees
carry_released old new id is = carry_along old.memory.trees _ new.memory.trees is (by (is_last_in_memory old.memory id))
  where
    by : (last : Bool) → CarryTables old.memory.trees (if last then without id old.memory.trees else old.memory.trees)
    by true = carry_dropped id old.memory.trees
    by false = carry_all old.memory.trees old.memory.trees refl

counts_outside : (old new : Held) (id : ℕ) → Counts old (released_in_memory id old.memory) new → IsOutside old → IsOutside new
counts_outside old new id counts = outside_same old new (ap (λ (m : Remembered). m.poisoned) counts.memory_is) (ap (λ (j : Journal). j.name) counts.journal)

-- what is known of homes stays: with the last handle of a deleted keyspace go its tree and its last record
released_knows : (entries : ℕ → List (List Entry)) (old new : Held) (id : ℕ) (j : Journaling) (t : Tree)
    → new.memory ≡ released_in_memory id old.memory → t.keyspaces ≡ old.memory.keyspaces → Knows old entries j t → Knows new entries j t
released_knows entries old new id j t is same knows = by (is_last_in_memory old.memory id) refl (ap (λ (m : Remembered). m.trees) is) (ap (λ (m : Remembered). m.records) is)
  where
    none : is_last_in_memory old.memory id ≡ true → keyspace_at id old.memory.keyspaces.living ≡ None
    none last = gone_none (keyspace_at id old.memory.keyspaces.living) (sym (living_names old.memory.keyspaces [] id) ∙ deleted old.memory id last)

    by : (last : Bool) → is_last_in_memory old.memory id ≡ last → new.memory.trees ≡ (if last then without id old.memory.trees else old.memory.trees) → new.memory.records ≡ (if last then remove old.memory.records id else old.memory.records)
        → Knows new entries j t
    by true last trees records =
        let there = subst (λ (k : Keyspaces). keyspace_at id k.living ≡ None) (sym same) (none last) in
        knows_dropped entries old new id j t records trees there (none_there id t.keyspaces.living there) knows
    by false last trees records = knows_same entries old new j t trees records knows

recounts_of : (old new : Held) (s : State) (id : ℕ) → StandsFor old s → Counts old (released_in_memory id old.memory) new → Recounts s.parts.entries old new
recounts_of old new s id stands counts =
    let held = stands.remembered in
    record {
      keyspaces = ap (λ (m : Remembered). m.keyspaces) counts.memory_is;
      next = ap (λ (m : Remembered). m.next) counts.memory_is;
      poisoned = ap (λ (m : Remembered). m.poisoned) counts.memory_is;
      store = same_shown old s id stands ∙ ap (λ (m : Remembered). kept (store_with s.parts.entries m.keyspaces m.trees)) (sym counts.memory_is);
      catalog = counts.catalog;
      journal = counts.journal;
      journals = ap (λ (m : Remembered). m.journals) counts.memory_is;
      known = λ j t. released_knows s.parts.entries old new id j t counts.memory_is;
    }

-- what is done to the disk where the files are to go, and where they aren't
gone_on_disk : (A B : Type 0) (last poisoned : Bool) → last ≡ true → poisoned ≡ false → A → MatchBool (last && not poisoned) A B
gone_on_disk A B last poisoned is well a = subst (λ b. MatchBool b A B) (sym (ap (λ b. b && not poisoned) is ∙ ap (λ b. true && not b) well)) a

kept_on_disk : (A B : Type 0) (last poisoned : Bool) → (last ≡ false) ⊎ (poisoned ≡ true) → B → MatchBool (last && not poisoned) A B
kept_on_disk A B false poisoned why b = b
kept_on_disk A B true true why b = b
kept_on_disk A B true false (inl other) b = absurd (true≢false other)
kept_on_disk A B true false (inr ill) b = absurd (true≢false (sym ill))

-- handles counted, on a disk that stays as it is
pub counted_serves : (old new : Held) (id : ℕ) → held_due old (OfHandle OneLess id) ≡ None → (is_last_in_memory old.memory id ≡ false) ⊎ (old.memory.poisoned ≡ true) → Counts old (released_in_memory id old.memory) new → new.disk ≡ old.disk → Serves old (OfHandle OneLess id) Done new
counted_serves old new id none why counts same =
    serves_by old new (OfHandle OneLess id) Done (none, (refl, counts)) (λ reads. reads) (kept_on_disk (RemovesOwn id old.disk new.disk × Within (codes "keyspaces") old.disk new.disk) (new.disk ≡ old.disk) (is_last_in_memory old.memory id) old.memory.poisoned why same)
    (subst (λ disk. StaysTidy old.disk disk) (sym same) (stays_start old.disk)) (keeps_disk old new same (carry_released old new id (ap (λ (m : Remembered). m.trees) counts.memory_is)) (counts_outside old new id counts)) (λ s d stands on tidy. ap (λ (m : Meaning). m.misuses) same) (λ s d stands on.
    led_by new s d (OfHandle OneLess id) Done [] refl (λ sync. sync) (recount_leads s.parts.entries old new d same (recounts_of old new s id stands counts) on))

unused_by : (old : Held) (s : State) (id : ℕ) → StandsFor old s → held_due old (OfHandle OneLess id) ≡ None → is_last_in_memory old.memory id ≡ true → IsUnused id old.memory.keyspaces
unused_by old s id stands none last = unused_of old.memory id stands.remembered.lawful.keyspaces (known old id none) (deleted old.memory id last)

-- wherever the core stood, no call was one that no disk can serve
release_served : (old new : Held) (id : ℕ) → FilesGone id old.disk new.disk → IsUnused id old.memory.keyspaces → old.memory.poisoned ≡ false → (entries : ℕ → List (List Entry)) (d : Durable) → StandsOn old entries d → IsTidy (state_in old.disk) → new.disk.misuses ≡ old.disk.misuses
release_served old new id gone unused well entries d on tidy =
    let here : d ≡ held_on old d.base d.pending = λ i. record { meaning = on.same i; base = d.base; pending = d.pending } in
    let lies = (subst (λ (x : Durable). StandsOn old entries x) here on).lies well in
    gone.served lies.records lies.tree lies.in_tree (folder_kind (state_in old.disk) id unused.fits tidy)

removed_of : (old new : Held) (s : State) (id : ℕ) → StandsFor old s → held_due old (OfHandle OneLess id) ≡ None → is_last_in_memory old.memory id ≡ true → FilesGone id old.disk new.disk → Removed old new
removed_of old new s id stands none last gone =
    let are = stands.remembered.lawful.keyspaces in
    let unused = unused_of old.memory id are (known old id none) (deleted old.memory id last) in
    record {
      within = gone.within;
      leaves = λ base pending lies. gone.leaves lies.records lies.tree (subst (λ (k : Keyspaces). IsUnused id k) (sym lies.keyspaces) unused) lies.in_tree;
      lies = λ base pending lies. gone.lies lies.records lies.tree (subst (λ (k : Keyspaces). IsUnused id k) (sym lies.keyspaces) unused) lies.in_tree;
    }

-- its disk keeps the tables of all others
gone_keeps : (old new : Held) (id : ℕ) → held_due old (OfHandle OneLess id) ≡ None → is_last_in_memory old.memory id ≡ true → FilesGone id old.disk new.disk → new.memory.trees ≡ (released_in_memory id old.memory).trees → (IsOutside old → IsOutside new) → KeepsReads old new
gone_keeps old new id none last gone is outside =
    let rest : new.memory.trees ≡ without id old.memory.trees = is ∙ ap (λ b. if b then without id old.memory.trees else old.memory.trees) last in
    keeps_homes old new (carry_along old.memory.trees (without id old.memory.trees) new.memory.trees rest (carry_dropped id old.memory.trees)) (λ s stands reads.
    let lawful = stands.remembered.lawful in
    let there = unused_by old s id stands none last in
    let fits = All-weaker (λ (k : Planted). k.id < old.memory.keyspaces.next) (λ k. k.id < 2 ^ 64) (λ k less. let small = lawful.keyspaces.fits in omega (arith, less, small)) old.memory.trees lawful.given in
    subst (HomesStay old.disk new.disk) (sym rest)
    (others_there id old.disk new.disk s (without id old.memory.trees) (removal_others id old.disk new.disk there.fits gone.others) (carry_dropped id old.memory.trees old.disk s reads.tables)
    (All-filter (λ k. not (k.id == id)) (λ (k : Planted). k.id < 2 ^ 64) old.memory.trees fits)
    (All-weaker (λ (k : Planted). not (k.id == id) ≡ true) (λ k. k.id ≢ id) (λ k passes same. let here : (k.id == id) ≡ true = grind (arith, nat_tests) in true≢false (sym passes ∙ ap not here)) (without id old.memory.trees)
    (filter_passes (λ (k : Planted). not (k.id == id)) old.memory.trees)))) outside

out_keeps : (old new : Held) → new ≡ record old { disk = new.disk } → Took old.disk new.disk [] → KeepsReads old new
out_keeps old new same took =
    keeps_homes old new (carry_all old.memory.trees new.memory.trees (ap (λ (h : Held). h.memory.trees) same)) (λ s stands reads. all_stay old.disk new.disk new.memory.trees (homes_none old.disk new.disk took))
    (outside_same old new (ap (λ (h : Held). h.memory.poisoned) same) (ap (λ (h : Held). h.journal.name) same))

-- files removed, and then handles counted
pub removed_serves : (old new : Held) (id : ℕ) → held_due old (OfHandle OneLess id) ≡ None → is_last_in_memory old.memory id ≡ true → old.memory.poisoned ≡ false → Counts old (released_in_memory id old.memory) new → FilesGone id old.disk new.disk → RemovesOwn id old.disk new.disk
    → Serves old (OfHandle OneLess id) Done new
removed_serves old new id none last well counts gone removed =
    serves_by old new (OfHandle OneLess id) Done (none, (refl, counts)) (λ reads. reads)
    (gone_on_disk (RemovesOwn id old.disk new.disk × Within (codes "keyspaces") old.disk new.disk) (new.disk ≡ old.disk) (is_last_in_memory old.memory id) old.memory.poisoned last well (removed, gone.within)) gone.kinds (gone_keeps old new id none last gone (ap (λ (m : Remembered). m.trees) counts.memory_is) (counts_outside old new id counts))
    (λ s d stands on tidy. release_served old new id gone (unused_by old s id stands none last) well s.parts.entries d on tidy) (λ s d stands on.
    led_by new s d (OfHandle OneLess id) Done [] refl (λ sync. sync) (removed_leads s.parts.entries old new d well (recounts_of old new s id stands counts) (removed_of old new s id stands none last gone) on))

-- memory ran out before anything was removed
out_owes : (old new : Held) (id : ℕ) → held_due old (OfHandle OneLess id) ≡ None → new ≡ record old { disk = new.disk } → old.disk.faults ≤ new.disk.faults → Owes old (OfHandle OneLess id) (Refused OutOfMemory) new
out_owes old new id none same later = subst (λ first. OwesRefusal first old (OfHandle OneLess id) OutOfMemory new) (sym none) (tt, (same, later))

same_counts : (entries : ℕ → List (List Entry)) (old new : Held) → new ≡ record old { disk = new.disk } → Recounts entries old new
same_counts entries old new same = record {
  keyspaces = ap (λ (h : Held). h.memory.keyspaces) same;
  next = ap (λ (h : Held). h.memory.next) same;
  poisoned = ap (λ (h : Held). h.memory.poisoned) same;
  store = sym (ap (λ (h : Held). kept (store_with_tables entries h)) same);
  catalog = ap (λ (h : Held). h.catalog) same;
  journal = ap (λ (h : Held). h.journal) same;
  journals = ap (λ (h : Held). h.memory.journals) same;
  known = λ j t kept. knows_same entries old new j t (ap (λ (h : Held). h.memory.trees) same) (ap (λ (h : Held). h.memory.records) same);
}

out_serves : (old new : Held) (id : ℕ) → held_due old (OfHandle OneLess id) ≡ None → is_last_in_memory old.memory id ≡ true → old.memory.poisoned ≡ false → new ≡ record old { disk = new.disk } → old.disk.faults ≤ new.disk.faults
    → FilesGone id old.disk new.disk → Took old.disk new.disk [] → Serves old (OfHandle OneLess id) (Refused OutOfMemory) new
out_serves old new id none last well same later gone took =
    serves_by old new (OfHandle OneLess id) (Refused OutOfMemory) (out_owes old new id none same later) (λ reads. reads) took gone.kinds (out_keeps old new same took)
    (λ s d stands on tidy. release_served old new id gone (unused_by old s id stands none last) well s.parts.entries d on tidy) (λ s d stands on.
    led_by new s d (OfHandle OneLess id) (Refused OutOfMemory) [] refl (λ sync. sync)
    (removed_leads s.parts.entries old new d well (same_counts s.parts.entries old new same) (removed_of old new s id stands none last gone) on))

-- ---- a removal that was refused

-- what a fault of a removal leaves: the handle is counted less all the same
pub record FaultLeft (old mid new : Held) (id : ℕ) (error : Error) : Type 0 where
  pub memory_is : new.memory ≡ (if is_io error then poisoned (released_in_memory id mid.memory) else mid.memory)
  pub disk : new.disk ≡ mid.disk
  pub catalog : new.catalog ≡ mid.catalog
  pub journal : new.journal ≡ mid.journal

faulted : (old mid new : Held) (id : ℕ) (kind : _) → mid.memory ≡ old.memory → Rose old.disk.faults mid.disk.faults → FaultLeft old mid new id (Io kind) → Poisons (released_in_memory id old.memory) old new
faulted old mid new id kind same rose left = record { memory_is = left.memory_is ∙ ap (λ (m : Remembered). poisoned (released_in_memory id m)) same; faults = subst (λ (m : Meaning). Rose old.disk.faults m.faults) (sym left.disk) rose }

-- else all is left as it was
as_mid : (old mid new : Held) (id : ℕ) (error : Error) → is_io error ≡ false → mid ≡ record old { disk = mid.disk } → FaultLeft old mid new id error → new ≡ record old { disk = new.disk }
as_mid old mid new id error other same left =
    let memory : new.memory ≡ old.memory = left.memory_is ∙ ap (λ b. if b then poisoned (released_in_memory id mid.memory) else mid.memory) other ∙ ap (λ (h : Held). h.memory) same in
    let catalog : new.catalog ≡ old.catalog = left.catalog ∙ ap (λ (h : Held). h.catalog) same in
    let journal : new.journal ≡ old.journal = left.journal ∙ ap (λ (h : Held). h.journal) same in
    λ i. record { disk = new.disk; journal = journal i; catalog = catalog i; memory = memory i }

pub left_by : (old mid new : Held) (id : ℕ) (error : Error) → new ≡ (if is_io error then record mid { memory = poisoned (released_in_memory id mid.memory) } else mid) → FaultLeft old mid new id error
left_by old mid new id error is = record {
  memory_is = ap (λ (h : Held). h.memory) is ∙ of_memory (is_io error);
  disk = ap (λ (h : Held). h.disk) is ∙ of_rest (λ h. h.disk) refl (is_io error);
  catalog = ap (λ (h : Held). h.catalog) is ∙ of_rest (λ h. h.catalog) refl (is_io error);
  journal = ap (λ (h : Held). h.journal) is ∙ of_rest (λ h. h.journal) refl (is_io error);
}
  where
    of_memory : (b : Bool) → (if b then record mid { memory = poisoned (released_in_memory id mid.memory) } else mid).memory ≡ (if b then poisoned (released_in_memory id mid.memory) else mid.memory)
    of_memory true = refl
    of_memory false = refl

    of_rest : {X : Type 0} (f : Held → X) → f (record mid { memory = poisoned (released_in_memory id mid.memory) }) ≡ f mid → (b : Bool) → f (if b then record mid { memory = poisoned (released_in_memory id mid.memory) } else mid) ≡ f mid
    of_rest f same true = same
    of_rest f same false = refl

pub unremoved_owes : (honest : Type 0) (old mid new : Held) (id : ℕ) (error : Error) → held_due old (OfHandle OneLess id) ≡ None → Removes honest old id (Err error) mid → FaultLeft old mid new id error → Owes old (OfHandle OneLess id) (Refused error) new
unremoved_owes honest old mid new id (Io kind) none all left =
    subst (λ first. OwesRefusal first old (OfHandle OneLess id) (Io kind) new) (sym none) (inl (tt, faulted old mid new id kind (ap (λ (h : Held). h.memory) all.0) all.1 left))
unremoved_owes honest old mid new id OutOfMemory none all left = out_owes old new id none (as_mid old mid new id OutOfMemory refl all.0 left) (subst (λ (m : Meaning). old.disk.faults ≤ m.faults) (sym left.disk) all.2)
unremoved_owes honest old mid new id error none all left = absurd cc

pub unremoved_serves : (honest : Type 0) (old mid new : Held) (id : ℕ) (error : Error) → held_due old (OfHandle OneLess id) ≡ None → is_last_in_memory old.memory id ≡ true → old.memory.poisoned ≡ false → Removes honest old id (Err error) mid
    → FaultLeft old mid new id error → honest → Serves old (OfHandle OneLess id) (Refused error) new
unremoved_serves honest old mid new id (Io kind) none last well all left true_ =
    let fault = faulted old mid new id kind (ap (λ (h : Held). h.memory) all.0) all.1 left in
    let gone = subst (λ (m : Meaning). FilesGone id old.disk m) (sym left.disk) (all.2 true_) in
    serves_by old new (OfHandle OneLess id) (Refused (Io kind)) (unremoved_owes honest old mid new id (Io kind) none all left) (λ reads. reads) gone.within gone.kinds
    (gone_keeps old new id none last gone (ap (λ (m : Remembered). m.trees) fault.memory_is) (outside_ill old new (ap (λ (m : Remembered). m.poisoned) fault.memory_is)))
    (λ s d stands on tidy. record { rose = fault.faults; served = release_served old new id gone (unused_by old s id stands none last) well s.parts.entries d on tidy }) (λ s d stands on.
    led_by new s d (OfHandle OneLess id) (Refused (Io kind)) [] refl (λ sync. sync)
    (unremoved_leads s.parts.entries (released_in_memory id old.memory) old new d well fault (same_shown old s id stands) (removed_of old new s id stands none last gone) on))
unremoved_serves honest old mid new id OutOfMemory none last well all left true_ =
    let same = as_mid old mid new id OutOfMemory refl all.0 left in
    out_serves old new id none last well same (subst (λ (m : Meaning). old.disk.faults ≤ m.faults) (sym left.disk) all.2) (subst (λ (m : Meaning). FilesGone id old.disk m) (sym left.disk) (all.3 true_))
    (subst (λ (m : Meaning). Took old.disk m []) (sym left.disk) (all.4 true_))
unremoved_serves honest old mid new id error none last well all left true_ = absurd cc

-- a removal that was done, and then the handles counted
counts_then : (honest : Type 0) (old mid new : Held) (id : ℕ) → Removes honest old id (Ok tt) mid → new ≡ record mid { memory = released_in_memory id mid.memory } → Counts old (released_in_memory id old.memory) new
counts_then honest old mid new id all is = record {
  memory_is = ap (λ (h : Held). h.memory) is ∙ ap (λ (h : Held). released_in_memory id h.memory) all.0;
  catalog = ap (λ (h : Held). h.catalog) is ∙ ap (λ (h : Held). h.catalog) all.0;
  journal = ap (λ (h : Held). h.journal) is ∙ ap (λ (h : Held). h.journal) all.0;
  faults = subst (λ (h : Held). old.disk.faults ≤ h.disk.faults) (sym is) all.1;
}

pub then_serves : (honest : Type 0) (old mid new : Held) (id : ℕ) → held_due old (OfHandle OneLess id) ≡ None → is_last_in_memory old.memory id ≡ true → old.memory.poisoned ≡ false → Removes honest old id (Ok tt) mid → new ≡ record mid { memory = released_in_memory id mid.memory } → honest
    → Serves old (OfHandle OneLess id) Done new
then_serves honest old mid new id none last well all is true_ =
    removed_serves old new id none last well (counts_then honest old mid new id all is) (subst (λ (h : Held). FilesGone id old.disk h.disk) (sym is) (all.2 true_)) (subst (λ (h : Held). RemovesOwn id old.disk h.disk) (sym is) (all.3 true_))
