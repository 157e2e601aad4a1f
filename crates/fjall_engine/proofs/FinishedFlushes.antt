-- What came of finishing a flush is what the call owes, and a crash leaves what it may.
use Rattle.std.proofs.Common.{◌≡◌, ◌≢◌, ◌⊎◌, inl, inr, ℕ, ◌+◌, ◌<◌, ◌≤◌, ◌^◌, ◌==◌, ◌&&◌, Bool, true, false, if◌then◌else◌, List, [], map, nat_lt, suc, take, zero, Option, None, Some, Result, Ok, Err, MatchBool, get_or, length, refl, sym, ◌∙◌, ap, subst, arith}
use Rattle.std.proofs.lemmas.Bool.{eq-eqb, eqb-true, true≢false}
use Rattle.std.proofs.lemmas.Bool.Decides.{nat_tests}
use Rattle.std.proofs.lemmas.Grind.{common_steps}
use Rattle.fjall_base.specs.Store.{kept}
use Rattle.fjall_base.specs.Disk.{Meaning, state_in}
use Rattle.fjall_base.specs.Errors.{Rose}
use Rattle.fjall_base.specs.declared.error.Error.{Error}
use Rattle.fjall_base.specs.declared.error.Error.TheVariants.{Io, NumbersUsedUp, OutOfMemory, Poisoned, TooManyItems}
use Rattle.fjall_files.specs.Tidy.{IsTidy, StaysTidy}
use Rattle.fjall_files.proofs.Tidying.{stays_both, stays_start}
use Rattle.fjall_compaction.specs.Flushes.{record_after_flush}
use Rattle.fjall_compaction.specs.Room.{IsTooLong, LacksNextId}
use Rattle.fjall_compaction.proofs.NewTables.{at_most_one}
use Rattle.fjall_history.specs.declared.job.JobId.{JobId}
use Rattle.fjall_history.specs.declared.reply.Reply.{Reply}
use Rattle.fjall_history.specs.declared.reply.Reply.TheVariants.{Flag, Refused}
use Rattle.fjall_jobs.specs.declared.flush_made.FlushMade.{FlushMade}
use Rattle.fjall_jobs.specs.Made.{flush_tables, flushed_task}
use Rattle.fjall_jobs.specs.Tasks.{Task}
use Rattle.fjall_journal.specs.Writer.{Journal}
use Rattle.fjall_replay.specs.Known.{GoesOnFrom, last_known}
use Rattle.fjall_tree.specs.Ingestions.{is_flush_due}
use Rattle.fjall_tree.specs.Jobs.{count_out, flush_dropped, is_flush_out}
use Rattle.fjall_tree.specs.Trees.{Flushing, Shape as Tree}
use Rattle.fjall_trees.proofs.Alike.{changed_alike_store}
use Rattle.fjall_meta.specs.declared.living.LivingKeyspace.{LivingKeyspace}
use Rattle.fjall_memtable.specs.Parts as part
use Rattle.fjall_recovery.specs.Halves.{Tree as DiskTree}
use Rattle.fjall_recovery.specs.Homes.{stored_in}
use Rattle.fjall_recovery.specs.Places.{Journaling}
use Rattle.fjall_meta.specs.Contents.{clears_held, versions_held}
use Rattle.fjall_replay.specs.Beside.{ShowsWith}
use Rattle.fjall_table.specs.Blocks.{Entry}
use Rattle.fjall_manifest.specs.Records.{Fields, body}
use Rattle.fjall_trees.specs.Forests.{altered_at}
use Rattle.fjall_trees.specs.Tables.{shape_in}
use Rattle.fjall_machine.specs.Finishing.{IsFlushFinished, keyspace_of}
use Rattle.fjall_machine.specs.Machine.{FinishesFlush, FlushMeets, Flushed, Parts, State, StepOf, WorkFails, flush_with, is_flushing, is_living}
use Rattle.fjall_machine.specs.Machine as machine
use Rattle.fjall_machine.specs.Remembered.{KnowsTask, Remembered, flush_gone_in_memory, with_flush}
use Rattle.fjall_machine.specs.Remembered as memory
use Rattle.fjall_machine.specs.Shapes.{CallShape, OfFlushFinish}
use Rattle.fjall_machine.proofs.Flushing.{a_finished_flush_stands, an_eviction_stands, some_evicted, with_sealed_stands}
use Rattle.fjall_machine.proofs.SameTrees.{altered_tables}
use Rattle.fjall_machine.proofs.Sizes.{out_agrees}
use Rattle.fjall_engine.specs.Holding.{Held}
use Rattle.fjall_engine.specs.CallParts.{Evicts, Finishes, PutInMemory, Puts, WentAway, WroteFlush}
use Rattle.fjall_engine.specs.Crashes.{BlamesDevice, IsSync, attempt, is_io}
use Rattle.fjall_engine.specs.Durables.{Durable, Knows, Passes}
use Rattle.fjall_engine.specs.Standing.{Becomes, EvictsInMemory, FinishMeetsIn, FlushTook, FlushedInMemory, IsDueToFinishIn, KnowsIfDue, LeadsOn, Owes, OwesFinish, Poisons, ReadsOn, Serves, StandsFor, StandsOn, evicted_in_memory, job_of, store_in, store_with_tables, AreRecorded, takes_effect_in}
use Rattle.fjall_engine.proofs.BegunFlushes.{one_at}
use Rattle.fjall_engine.proofs.CrashesInRuns.{passes_on}
use Rattle.fjall_engine.proofs.Evictions.{evicted_keeps, evicted_leads, evicted_served, unevicted_keeps, unevicted_leads}
use Rattle.fjall_engine.proofs.FlushedTables.{put_reads, unput_reads}
use Rattle.fjall_engine.proofs.FlushesOnDisk.{MayPut, clears_there, entries_after, flushed_there, lists_there, lives_there, living_there, put_leads, put_serves, unput_leads}
use Rattle.fjall_engine.proofs.JournalWrites.{Leads}
use Rattle.fjall_engine.proofs.KeptEntries.{KeepsTables, same_given}
use Rattle.fjall_engine.proofs.KeyspaceCalls.{Recounts, recount_leads}
use Rattle.fjall_engine.proofs.KnownBatches.{all_shown}
use Rattle.fjall_engine.proofs.KnownFlushes.{covered_dropped}
use Rattle.fjall_engine.proofs.KnownHomes.{GoesOnToo, known_trees}
use Rattle.fjall_engine.proofs.OwedStates.{poisoned_stands, poisoned_state}
use Rattle.fjall_engine.proofs.OwedSteps.{owes_step}
use Rattle.fjall_engine.proofs.OwedWork.{takes_there}
use Rattle.fjall_engine.proofs.ServedCalls.{led_by, refusal_serves, served, still_led}
use Rattle.fjall_engine.proofs.TablesAtHome as at_home
use Rattle.fjall_engine.proofs.TablesAtHome.{keeps_disk, keeps_same, outside_same}
use Rattle.fjall_engine.proofs.RecordedTables.{recorded_flush}

-- the call that finishes what was made
abbrev pub finishing : FlushMade → CallShape
finishing made = OfFlushFinish (job_of (flushed_task made))

-- the reply to one that isn't stale
abbrev pub done_reply : Result Unit Error → Reply
done_reply (Ok _) = Flag true
done_reply (Err error) = Refused error

-- ---- one part after another

pub becomes_both : (old mid new : Held) (a b : Remembered) → Becomes old a mid → Becomes mid b new → Becomes old b new
becomes_both old mid new a b one two =
    let first = one.faults in
    let second = two.faults in
    record { memory_is = two.memory_is; catalog = two.catalog ∙ one.catalog; journal = two.journal ∙ one.journal; faults = omega (arith, first, second) }

pub rose_later : (a b c : ℕ) → a ≤ b → b ≤ c → Rose b c → Rose a c
rose_later a b c le on (inl less) = inl (omega (arith, le, less))
rose_later a b c le on (inr most) = by (a == b) refl
  where
    by : (is : Bool) → (a == b) ≡ is → Rose a c
    by true e = inr (eqb-true a b e ∙ most)
    by false e = let less : a < b = grind (arith, nat_tests, le, e) in inl (omega (arith, less, on))

pub both_true : (a b : Bool) → a ≡ true → b ≡ true → (a && b) ≡ true
both_true a b one two = ap (λ c. c && b) one ∙ two

-- what leads from a core's own disk
pub led_on : (old new : Held) (s t : State) (shape : CallShape) (reply : Reply) → attempt s shape reply ≡ [] → (IsSync s shape reply → ⊥) → StaysTidy old.disk new.disk
    → ((d : Durable) → StandsOn old s.parts.entries d → IsTidy (state_in old.disk) → BlamesDevice reply old.disk new.disk) → ((d : Durable) → StandsOn old s.parts.entries d → Leads t.parts.entries new d [])
    → LeadsOn old s shape reply new t
led_on old new s t shape reply none unsynced stays blames leads d on =
    let way = leads d on in
    let kinds = subst (λ (m : Meaning). StaysTidy m way.0.meaning) (sym on.same) (subst (λ (m : Meaning). StaysTidy old.disk m) (sym way.1.same) stays) in
    let device = subst (λ (m : Meaning). IsTidy (state_in m) → BlamesDevice reply m way.0.meaning) (sym on.same)
    (subst (λ (m : Meaning). IsTidy (state_in old.disk) → BlamesDevice reply old.disk m) (sym way.1.same) (blames d on)) in
    (way.0, way.1, (subst (λ l. Passes d l way.0) (sym none) way.2, λ sync. absurd (unsynced sync), device, kinds))

-- ---- a flush that is stale

flag_keeps : (s t : State) (job : JobId) (out takes : Bool) → FinishesFlush out takes s job (Flag false) t → KeepsTables s t
flag_keeps s t job true true (told, well, parts, flushed, is) = let bad : ⊥ = cc in absurd bad
flag_keeps s t job true false (told, is) = record { entries = ap (λ (x : State). x.parts.entries) is; damaged = ap (λ (x : State). x.damaged) is; given = same_given s t (ap (λ (x : State). x.parts.records) is) }
flag_keeps s t job false takes (told, is) = record { entries = ap (λ (x : State). x.parts.entries) is; damaged = ap (λ (x : State). x.damaged) is; given = same_given s t (ap (λ (x : State). x.parts.records) is) }

stale_keeps : (s t : State) (job : JobId) → StepOf s (OfFlushFinish job) (Flag false) t → KeepsTables s t
stale_keeps s t job step = flag_keeps s t job (is_flushing s.parts.trees job) (machine.takes_effect s job) step.1

-- it isn't out any more
pub stale_owes : (core : Held) (job : JobId) → is_flushing core.memory.trees job ≡ false → Owes core (OfFlushFinish job) (Flag false) core
stale_owes core job none = (refl, subst (λ (b : Bool). OwesFinish b (takes_effect_in core job) core job (Flag false) core) (sym none) (refl, refl))

pub stale_serves : (core : Held) (job : JobId) → is_flushing core.memory.trees job ≡ false → Serves core (OfFlushFinish job) (Flag false) core
stale_serves core job none =
    let shape = OfFlushFinish job in
    let owes = stale_owes core job none in
    served core core shape (Flag false) (λ s t. stale_keeps s t job) (λ s stands reads. owes_step core core shape (Flag false) s (λ reads. reads) owes stands)
    (subst (λ (b : Bool). MatchBool (b && takes_effect_in core job) (FlushTook core job.keyspace_id core) (core.disk ≡ core.disk)) (sym none) refl)
    (stays_start core.disk) (keeps_same core core refl) (λ s d stands on tidy. refl) (λ s d stands on. still_led core core s d shape (Flag false) refl (λ sync. sync) refl on)

-- it takes no effect: it is out no more
abbrev pub gone_from : Held → ℕ → Held
gone_from core id = record core { memory = flush_gone_in_memory id core.memory }

pub gone_owes : (core : Held) (job : JobId) → is_flushing core.memory.trees job ≡ true → takes_effect_in core job ≡ false → Owes core (OfFlushFinish job) (Flag false) (gone_from core job.keyspace_id)
gone_owes core job out stale =
    (refl, subst (λ (b : Bool × Bool). OwesFinish b.0 b.1 core job (Flag false) (gone_from core job.keyspace_id)) (sym (λ i. (out i, stale i))) (refl, refl))

-- a tree shows the same without it, and goes on from the same records
gone_shows : (entries : List (List Entry)) (clears : List ℕ) (versions : List Entry) (shape : Tree) → ShowsWith entries clears versions shape → ShowsWith entries clears versions (flush_dropped shape)
gone_shows entries clears versions shape is = record { below = is.below; shows = is.shows }

gone_goes_on : (last : Fields) (shape : Tree) → GoesOnFrom last shape → GoesOnFrom last (flush_dropped shape)
gone_goes_on last shape on = record { tables = on.tables; clears = on.clears; beyond = on.beyond; some = on.some }

gone_knows : (entries : ℕ → List (List Entry)) (core : Held) (id : ℕ) (j : Journaling) (t : DiskTree) → Knows core entries j t → Knows (gone_from core id) entries j t
gone_knows entries core id j t knows =
    let trees = core.memory.trees in
    record {
      shown = λ i d lt.
          let k : LivingKeyspace = get_or t.keyspaces.living i d in
          let one = knows.shown i d lt in
          let stored = stored_in t.homes t.versions k.id in
          let clears = clears_held t.keyspaces stored k.id (all_shown j) in
          let versions = versions_held t.keyspaces stored k.id (all_shown j) in
          one_at id flush_dropped trees (ShowsWith (entries k.id) clears versions) (gone_shows (entries k.id) clears versions) k.id one.0 one.1 one.2;
      homes = known_trees core.memory.records trees (altered_at id flush_dropped trees) entries t.homes t.versions t.keyspaces.living
          (λ other shape at. one_at id flush_dropped trees (GoesOnToo shape) (λ s keeps last on. gone_goes_on last s (keeps last on)) other shape at (λ last on. on)) knows.homes;
      covered = covered_dropped j.later id trees knows.covered;
    }

gone_recounts : (entries : ℕ → List (List Entry)) (core : Held) (id : ℕ) → Recounts entries core (gone_from core id)
gone_recounts entries core id = record {
  keyspaces = refl;
  next = refl;
  poisoned = refl;
  store = ap kept (sym (changed_alike_store flush_dropped (λ shape. (refl, refl)) id core.memory.trees entries core.memory.keyspaces));
  catalog = refl;
  journal = refl;
  journals = refl;
  known = λ j t same. gone_knows entries core id j t;
}

pub gone_serves : (core : Held) (job : JobId) → is_flushing core.memory.trees job ≡ true → takes_effect_in core job ≡ false → Serves core (OfFlushFinish job) (Flag false) (gone_from core job.keyspace_id)
gone_serves core job out stale =
    let shape = OfFlushFinish job in
    let id = job.keyspace_id in
    let new = gone_from core id in
    let owes = gone_owes core job out stale in
    served core new shape (Flag false) (λ s t. stale_keeps s t job) (λ s stands reads. owes_step core new shape (Flag false) s (λ reads. reads) owes stands)
    (subst (λ (b : Bool). MatchBool b (FlushTook core id new) (core.disk ≡ core.disk)) (sym (ap (λ b. b && takes_effect_in core job) out ∙ stale)) refl)
    (stays_start core.disk)
    (keeps_disk core new refl (λ disk s lie. altered_tables (at_home.Lies disk s) core.memory.trees lie id flush_dropped (λ shape. refl)) (outside_same core new refl refl))
    (λ s d stands on tidy. refl)
    (λ s d stands on. led_by new s d shape (Flag false) [] refl (λ sync. sync) (recount_leads s.parts.entries core new d refl (gone_recounts s.parts.entries core id) on))

-- whether a flush that is out takes something is whether it is due
due_takes : (number : ℕ) (flush : Option Flushing) → is_flush_out number flush ≡ true → is_flush_due number flush ≡ nat_lt 0 (count_out flush)
due_takes number None out = absurd (true≢false (sym out))
due_takes number (Some flush) out = ap (λ b. b && nat_lt 0 flush.count) out

-- it takes effect, or it doesn't, by what was looked for in memory
pub takes_is : (core : Held) (job : JobId) (lives due : Bool) → is_living (store_in core) job.keyspace_id ≡ lives → is_flushing core.memory.trees job ≡ true
    → is_flush_due job.number (shape_in job.keyspace_id core.memory.trees).flush ≡ due → takes_effect_in core job ≡ (lives && due)
takes_is core job lives due lives_is out due_is =
    let flush = (shape_in job.keyspace_id core.memory.trees).flush in
    let same = sym (due_takes job.number flush out) ∙ due_is in
    λ i. lives_is i && same i

-- one that is due may be put, where memory knows its task
both_of : (a b : Bool) → (a && b) ≡ true → (a ≡ true) × (b ≡ true)
both_of true b is = (refl, is)
both_of false b is = absurd (true≢false (sym is))

pub may_finish : (core : Held) (made : FlushMade) → KnowsTask core.memory (flushed_task made) → IsDueToFinishIn core (job_of (flushed_task made)) → core.memory.poisoned ≡ false → MayPut core made
may_finish core made known (out, takes) well =
    let job = job_of (flushed_task made) in
    let flush = (shape_in job.keyspace_id core.memory.trees).flush in
    let both = both_of (is_living (store_in core) job.keyspace_id) (nat_lt 0 (count_out flush)) takes in
    record { well = well; living = both.0; out = known.1 (due_takes job.number flush out ∙ both.1); some = known.2 }

-- where it was looked for by its job's name, and nothing has changed, it is out of a keyspace that lives
module _ (old mid : Held) (made : FlushMade) (number id : ℕ) (numbered : number ≡ (flushed_task made).id) (at : id ≡ keyspace_of made)
    (found : IsDueToFinishIn old (record { number = number; keyspace_id = id }) × (old.memory.poisoned ≡ false) × (mid ≡ old)) where
  named : IsDueToFinishIn old (job_of (flushed_task made))
  named = subst (λ (job : JobId). IsDueToFinishIn old job) (λ i. record { number = numbered i; keyspace_id = at i }) found.0

  pub due_there : (is_living (store_in mid) (keyspace_of made) ≡ true) × (is_flushing mid.memory.trees (job_of (flushed_task made)) ≡ true)
  due_there =
      let here = keyspace_of made in
      let both = both_of (is_living (store_in old) here) (nat_lt 0 (count_out (shape_in here old.memory.trees).flush)) named.1 in
      subst (λ (h : Held). (is_living (store_in h) here ≡ true) × (is_flushing h.memory.trees (job_of (flushed_task made)) ≡ true)) (sym found.2) (both.0, named.0)

  -- and may be put, where memory knows it
  pub may_go_on : KnowsIfDue old (flushed_task made) → MayPut mid made
  may_go_on known = subst (λ (h : Held). MayPut h made) (sym found.2) (may_finish old made (known named) named found.1)

-- what was made of a job is known, where the job is
pub made_known : (old mid : Held) (job made : Task) → mid ≡ old → made ≡ job → KnowsTask old.memory job → KnowsIfDue mid made
made_known old mid job made same is known due = subst (λ (x : Held × Task). KnowsTask x.0.memory x.1) (λ i. (sym same i, sym is i)) known

false_behind : (b : Bool) → (b && false) ≡ false
false_behind true = refl
false_behind false = refl

pub takes_none : (core : Held) (job : JobId) → is_flushing core.memory.trees job ≡ true
    → (is_living (store_in core) job.keyspace_id ≡ false) ⊎ (is_flush_due job.number (shape_in job.keyspace_id core.memory.trees).flush ≡ false) → takes_effect_in core job ≡ false
takes_none core job out (inl gone) = takes_is core job false (is_flush_due job.number (shape_in job.keyspace_id core.memory.trees).flush) gone out refl
takes_none core job out (inr stale) =
    takes_is core job (is_living (store_in core) job.keyspace_id) false refl out stale ∙ false_behind (is_living (store_in core) job.keyspace_id)

-- ---- refusals that change nothing

refused_serves : (core : Held) (job : JobId) (error : Error) → is_io error ≡ false → Owes core (OfFlushFinish job) (Refused error) core → Serves core (OfFlushFinish job) (Refused error) core
refused_serves core job error other owes =
    refusal_serves core (OfFlushFinish job) error other (λ s stands. owes_step core core (OfFlushFinish job) (Refused error) s (λ reads. reads) owes stands)

-- the core is poisoned
pub late_owes : (core : Held) (job : JobId) → IsDueToFinishIn core job → core.memory.poisoned ≡ true → Owes core (OfFlushFinish job) (Refused Poisoned) core
late_owes core job due ill = ((due, ill), refl)

pub late_serves : (core : Held) (job : JobId) → IsDueToFinishIn core job → core.memory.poisoned ≡ true → Serves core (OfFlushFinish job) (Refused Poisoned) core
late_serves core job due ill = refused_serves core job Poisoned refl (late_owes core job due ill)

-- ---- one that is finished

-- a flush whose task has some runs takes some memtable
takes_some : (runs : List (List Entry)) (sealed : List part.HeldPart) (count : ℕ) → runs ≡ map (λ h. h.versions) (take count sealed) → runs ≢ [] → nat_lt 0 count ≡ true
takes_some runs sealed zero is some = let none : take 0 sealed ≡ [] = grind (arith, common_steps) in absurd (some (is ∙ ap (λ (l : List part.HeldPart). map (λ h. h.versions) l) none))
takes_some runs sealed (suc count) is some = grind (arith, nat_tests)

module _ (honest : Type 0) (old new : Held) (made : FlushMade) (may : MayPut old made) where
  abbrev job : JobId
  job = job_of (flushed_task made)

  abbrev id : ℕ
  id = keyspace_of made

  out_is : is_flushing old.memory.trees job ≡ true
  out_is = ap (is_flush_out job.number) may.out.is ∙ eq-eqb job.number may.out.out.id may.out.id

  -- it takes some memtable, as its task has some
  takes : takes_effect_in old job ≡ true
  takes =
      let out = may.out.out in
      let least = takes_some (flushed_task made).runs (shape_in id old.memory.trees).memory.sealed out.count may.out.runs may.some in
      both_true (is_living (store_in old) id) (nat_lt 0 (count_out (shape_in id old.memory.trees).flush)) may.living (ap (λ (o : Option Flushing). nat_lt 0 (count_out o)) may.out.is ∙ least)

  due : IsDueToFinishIn old job
  due = (out_is, takes)

  abbrev IsPut : Held → Type 0
  IsPut mid = IsFlushFinished old.memory id (last_known old.memory.records (living_there old made may)) may.out.out (flush_tables made) mid.memory

  finished_there : (mid : Held) → PutInMemory old.memory made mid.memory → IsPut mid
  finished_there mid put = put (living_there old made may) may.out.out (lives_there old made may) may.out.is

  in_memory : (mid : Held) → IsPut mid → FlushedInMemory old.memory id mid.memory
  in_memory mid fin = record {
    k = living_there old made may;
    lives = lives_there old made may;
    task = flushed_task made;
    begun = may.out;
    tables = flush_tables made;
    clears = clears_there old made may;
    made = flushed_there old made may;
    readers = fin.readers;
    infos = fin.are.infos;
    is = fin.is;
  }

  -- what is so of the record after it
  meets : (Meets : Fields → Type 0) → Meets (record_after_flush (flush_with (shape_in id old.memory.trees) may.out.out (flush_tables made)) (last_known old.memory.records (living_there old made may)))
      → FinishMeetsIn old job Meets
  meets Meets so =
      let last = last_known old.memory.records (living_there old made may) in (
        due,
        may.well,
        (
          living_there old made may,
          lives_there old made may,
          subst (λ (o : Option Flushing). FlushMeets (shape_in id old.memory.trees) o last Meets) (sym may.out.is) (flush_tables made, at_most_one made, so),
        ),
      )

  unput_owes : (error : Error) → Puts honest old made (Err error) new → Owes old (finishing made) (Refused error) new
  unput_owes (Io kind) (fault, wrote) = inr (inr (due, may.well, inl fault))
  unput_owes OutOfMemory (same, why) = ((due, may.well), same)
  unput_owes NumbersUsedUp (same, why) = (meets LacksNextId (why (living_there old made may) may.out.out (lives_there old made may) may.out.is), same)
  unput_owes TooManyItems (same, why) = (meets IsTooLong (why (living_there old made may) may.out.out (lives_there old made may) may.out.is), same)
  unput_owes error (same, why) = absurd (why (living_there old made may) may.out.out (lives_there old made may) may.out.is)

  unevicted_owes : (error : Error) (mid : Held) → Puts honest old made (Ok tt) mid → Evicts honest mid (Err error) new → Owes old (finishing made) (Refused error) new
  unevicted_owes (Io kind) mid (put, becomes, wrote) (left, evicts, fault, away, later) =
      inr (inr (
        due,
        may.well,
        inr (
          mid.memory,
          left,
          in_memory mid (finished_there mid put),
          evicts,
          record { memory_is = fault.memory_is; faults = rose_later old.disk.faults mid.disk.faults new.disk.faults becomes.faults later fault.faults },
        ),
      ))
  unevicted_owes error mid put bad = absurd bad

  pub finished_owes : (result : Result Unit Error) → Finishes honest old made result new → Owes old (finishing made) (done_reply result) new
  finished_owes (Ok _) (mid, (put, becomes, wrote), (after, took, away)) = (
    refl,
    subst (λ (b : Bool × Bool). OwesFinish b.0 b.1 old job (Flag true) new) (sym (λ i. (out_is i, takes i)))
        (refl, may.well, mid.memory, in_memory mid (finished_there mid put), becomes_both old mid new mid.memory (evicted_in_memory mid.memory) becomes after),
  )
  finished_owes (Err error) (inl unput) = unput_owes error unput
  finished_owes (Err error) (inr (mid, put, unevicted)) = unevicted_owes error mid put unevicted

  -- ---- states

  module _ (mid : Held) (fin : IsFlushFinished old.memory (keyspace_of made) (last_known old.memory.records (living_there old made may)) may.out.out (flush_tables made) mid.memory) (becomes : Becomes old mid.memory mid)
      (s : State) (stands : StandsFor old s) where
    abbrev parts_with : Parts
    parts_with = machine.parts_flushed id may.out.out (flush_tables made) (lists_there old made may) fin.readers s.parts

    abbrev state_with : State
    state_with = record s { parts = parts_with }

    abbrev table : ℕ
    table = mid.catalog.next_table_id

    -- what memory holds then
    abbrev memory_with : Remembered
    memory_with =
        let last = last_known old.memory.records (living_there old made may) in
        with_flush id may.out.out fin.readers (record_after_flush (flush_with (shape_in id old.memory.trees) may.out.out (flush_tables made)) last) old.memory

    both : Flushed s.parts id parts_with × memory.MemoryStandsFor memory_with old.catalog.next_table_id state_with
    both =
        a_finished_flush_stands old.memory old.catalog.next_table_id s stands.remembered id (flushed_task made) may.out (flush_tables made) (clears_there old made may) (flushed_there old made may) (living_there old made may)
        (lives_there old made may) fin.readers fin.are.infos

    stands_with : StandsFor mid state_with
    stands_with = record {
      remembered = subst (λ (x : Remembered). memory.MemoryStandsFor x table state_with) (sym fin.is)
          (subst (λ (n : ℕ). memory.MemoryStandsFor memory_with n state_with) (ap (λ c. c.next_table_id) (sym becomes.catalog)) both.1);
      journal = stands.journal ∙ ap (λ (j : Journal). j.len) (sym becomes.journal);
      buffer = stands.buffer ∙ ap (λ (j : Journal). length j.buffer) (sym becomes.journal);
    }

    -- the keyspace's last record counts the new table, and those of others stay
    abbrev record_with : Fields
    record_with = record_after_flush (flush_with (shape_in id s.parts.trees) may.out.out (flush_tables made)) (s.parts.records id)

    records_grown : (state_with.parts.records id).next_table_id ≡ (s.parts.records id).next_table_id + length (flush_tables made)
    records_grown = ap (λ (b : Bool). (if b then record_with else s.parts.records id).next_table_id) (eq-eqb id id refl)

    records_other : (other : ℕ) → (other == id) ≡ false → state_with.parts.records other ≡ s.parts.records other
    records_other other e = ap (λ (b : Bool). if b then record_with else s.parts.records other) e

    -- the present store is the same
    same_present : kept (store_with_tables s.parts.entries old) ≡ kept (store_with_tables (entries_after old made may s.parts.entries) mid)
    same_present = sym stands.remembered.present ∙ stands_with.remembered.present

    out_there : is_flushing s.parts.trees job ≡ true
    out_there = out_agrees old.memory old.catalog.next_table_id s stands.remembered job ∙ out_is

    takes_still : machine.takes_effect s job ≡ true
    takes_still = takes_there old old s stands job ∙ takes

    well_there : s.poisoned ≡ false
    well_there = stands.remembered.poisoned ∙ may.well

    mid_well : mid.memory.poisoned ≡ false
    mid_well = ap (λ (x : Remembered). x.poisoned) fin.is ∙ may.well

    -- where the first part leads
    first_leads : (d : Durable) → WroteFlush old.memory made old.disk mid.disk true → StandsOn old s.parts.entries d → Leads (entries_after old made may s.parts.entries) mid d []
    first_leads d wrote on = put_leads s.parts.entries old mid made may d stands.remembered.lawful wrote fin becomes same_present on

    -- the records list its tables, and the new one
    recorded_with : ReadsOn old s → AreRecorded parts_with
    recorded_with reads = recorded_flush id s.parts parts_with (shape_in id s.parts.trees).flush both.0 reads.recorded

    -- ---- it was done

    module _ (after : Becomes mid (evicted_in_memory mid.memory) new) where
      stands_after : StandsFor new (machine.evicted state_with)
      stands_after = record {
        remembered = subst (λ (x : Remembered). memory.MemoryStandsFor x new.catalog.next_table_id (machine.evicted state_with)) (sym after.memory_is)
            (subst (λ (n : ℕ). memory.MemoryStandsFor (evicted_in_memory mid.memory) n (machine.evicted state_with)) (ap (λ c. c.next_table_id) (sym after.catalog))
            (an_eviction_stands mid.memory table state_with stands_with.remembered));
        journal = stands_with.journal ∙ ap (λ (j : Journal). j.len) (sym after.journal);
        buffer = stands_with.buffer ∙ ap (λ (j : Journal). length j.buffer) (sym after.journal);
      }

      steps_after : StepOf s (finishing made) (Flag true) (machine.evicted state_with)
      steps_after =
          (refl, subst (λ (b : Bool × Bool). FinishesFlush b.0 b.1 s job (Flag true) (machine.evicted state_with)) (sym (λ i. (out_there i, takes_still i))) (refl, well_there, parts_with, both.0, refl))

      pub goes_on : (wrote : WroteFlush old.memory made old.disk mid.disk true) → WentAway mid.memory mid.disk new.disk true → ReadsOn old s
          → (t : State) × StandsFor new t × ReadsOn new t × StepOf s (finishing made) (Flag true) t × LeadsOn old s (finishing made) (Flag true) new t
      goes_on wrote away reads =
          let there = put_reads old mid made may s stands reads wrote fin becomes state_with refl refl records_grown records_other (recorded_with reads) in
          let kept_reads = evicted_keeps mid new after away state_with stands_with there in (
            machine.evicted state_with,
            stands_after,
            record { tables = kept_reads.tables; writer = kept_reads.writer; recorded = kept_reads.recorded },
            steps_after,
            led_on old new s (machine.evicted state_with) (finishing made) (Flag true) refl (λ sync. sync) (stays_both old.disk mid.disk new.disk wrote.kinds away.kinds)
                (λ d on tidy.
                let first = first_leads d wrote on in
                evicted_served (entries_after old made may s.parts.entries) mid new first.0 true mid_well away first.1
                ∙ put_serves s.parts.entries old mid made may d true stands.remembered.lawful wrote on tidy) (λ d on.
                let first = first_leads d wrote on in
                let second = evicted_leads (entries_after old made may s.parts.entries) mid new first.0 mid_well after away first.1 in
                (second.0, second.1, passes_on d first.0 second.0 [] [] first.2 second.2)),
          )

    -- ---- a fault stopped the eviction

    module _ (left : Remembered) (evicts : EvictsInMemory mid.memory left) (fault : Poisons left mid new) (later : mid.disk.faults ≤ new.disk.faults) where
      abbrev some_left : State
      some_left = machine.with_sealed evicts.1 state_with

      held_left : memory.MemoryStandsFor left table some_left
      held_left = subst (λ (x : Remembered). memory.MemoryStandsFor x table some_left) (sym evicts.3) (with_sealed_stands mid.memory table state_with stands_with.remembered evicts.1)

      fails : WorkFails (finishing made) s (poisoned_state new some_left)
      fails = (
        (out_there, takes_still),
        well_there,
        inr (
          parts_with,
          some_left,
          both.0,
          some_evicted mid.memory table state_with stands_with.remembered evicts.0 evicts.1 evicts.2,
          record { is = refl; trees = refl; entries = refl; records = refl; journals = refl },
        ),
      )

      pub goes_ill : (kind : _) (wrote : WroteFlush old.memory made old.disk mid.disk true) → WentAway mid.memory mid.disk new.disk false → ReadsOn old s
          → (t : State) × StandsFor new t × ReadsOn new t × StepOf s (finishing made) (Refused (Io kind)) t × LeadsOn old s (finishing made) (Refused (Io kind)) new t
      goes_ill kind wrote away reads =
          let there = put_reads old mid made may s stands reads wrote fin becomes state_with refl refl records_grown records_other (recorded_with reads) in
          let kept_reads = unevicted_keeps mid new left evicts fault away state_with stands_with there in (
            poisoned_state new some_left,
            poisoned_stands left mid new table some_left fault held_left,
            record { tables = kept_reads.tables; writer = kept_reads.writer; recorded = kept_reads.recorded },
            inr (inr fails),
            led_on old new s (poisoned_state new some_left) (finishing made) (Refused (Io kind)) refl (λ sync. sync) (stays_both old.disk mid.disk new.disk wrote.kinds away.kinds)
                (λ d on tidy.
                let first = first_leads d wrote on in
                record {
                  rose = rose_later old.disk.faults mid.disk.faults new.disk.faults becomes.faults later fault.faults;
                  served = evicted_served (entries_after old made may s.parts.entries) mid new first.0 false mid_well away first.1
                      ∙ put_serves s.parts.entries old mid made may d true stands.remembered.lawful wrote on tidy;
                })
                (λ d on.
                let first = first_leads d wrote on in
                let second = unevicted_leads (entries_after old made may s.parts.entries) mid new left first.0 mid_well evicts fault away first.1 in
                (second.0, second.1, passes_on d first.0 second.0 [] [] first.2 second.2)),
          )

  -- ---- what came of it

  -- a fault in the writing of the flush
  put_ill : (kind : _) → Poisons old.memory old new → WroteFlush old.memory made old.disk new.disk false → Serves old (finishing made) (Refused (Io kind)) new
  put_ill kind fault wrote = record {
    disk = inl wrote.within;
    goes_on = λ s stands reads.
        let kept_reads = unput_reads old new made may false s stands reads wrote fault in
        let out : is_flushing s.parts.trees job ≡ true = out_agrees old.memory old.catalog.next_table_id s stands.remembered job ∙ out_is in
        let effect : machine.takes_effect s job ≡ true = takes_there old old s stands job ∙ takes in (
          poisoned_state new s,
          poisoned_stands old.memory old new old.catalog.next_table_id s fault stands.remembered,
          record { tables = kept_reads.tables; writer = kept_reads.writer; recorded = kept_reads.recorded },
          inr (inr ((out, effect), stands.remembered.poisoned ∙ may.well, inl (record { is = refl; trees = refl; entries = refl; records = refl; journals = refl }))),
          led_on old new s (poisoned_state new s) (finishing made) (Refused (Io kind)) refl (λ sync. sync) wrote.kinds
              (λ d on tidy. record { rose = fault.faults; served = put_serves s.parts.entries old new made may d false stands.remembered.lawful wrote on tidy })
              (λ d on. unput_leads s.parts.entries old new made may d stands.remembered.lawful wrote fault on),
        );
  }

  unchanged : (error : Error) → is_io error ≡ false → new ≡ old → Owes old (finishing made) (Refused error) new → Serves old (finishing made) (Refused error) new
  unchanged error other same owes =
      subst (λ (h : Held). Serves old (finishing made) (Refused error) h) (sym same)
      (refused_serves old job error other (subst (λ (h : Held). Owes old (finishing made) (Refused error) h) same owes))

  unput_serves : (error : Error) → Puts honest old made (Err error) new → honest → Serves old (finishing made) (Refused error) new
  unput_serves (Io kind) (fault, wrote) h = put_ill kind fault (wrote h)
  unput_serves OutOfMemory (same, why) h = unchanged OutOfMemory refl same (unput_owes OutOfMemory (same, why))
  unput_serves NumbersUsedUp (same, why) h = unchanged NumbersUsedUp refl same (unput_owes NumbersUsedUp (same, why))
  unput_serves TooManyItems (same, why) h = unchanged TooManyItems refl same (unput_owes TooManyItems (same, why))
  unput_serves error (same, why) h = absurd (why (living_there old made may) may.out.out (lives_there old made may) may.out.is)

  unevicted_serves : (error : Error) (mid : Held) → Puts honest old made (Ok tt) mid → Evicts honest mid (Err error) new → honest → Serves old (finishing made) (Refused error) new
  unevicted_serves (Io kind) mid (put, becomes, wrote) (left, evicts, fault, away, later) h = record {
    disk = inr (record { mid = mid.disk; left = mid.memory; flushed = in_memory mid (finished_there mid put); within = (wrote h).within; evicted = (away h).stopped refl });
    goes_on = λ s stands reads. goes_ill mid (finished_there mid put) becomes s stands left evicts fault later kind (wrote h) (away h) reads;
  }
  unevicted_serves error mid put bad h = absurd bad

  pub finished_serves : (result : Result Unit Error) → Finishes honest old made result new → honest → Serves old (finishing made) (done_reply result) new
  finished_serves (Ok _) (mid, (put, becomes, wrote), (after, took, away)) h = record {
    disk = subst (λ (b : Bool). MatchBool b (FlushTook old id new) (new.disk ≡ old.disk)) (sym (both_true (is_flushing old.memory.trees job) (takes_effect_in old job) out_is takes))
        (record { mid = mid.disk; left = mid.memory; flushed = in_memory mid (finished_there mid put); within = (wrote h).within; evicted = took h });
    goes_on = λ s stands reads. goes_on mid (finished_there mid put) becomes s stands after (wrote h) (away h) reads;
  }
  finished_serves (Err error) (inl unput) h = unput_serves error unput h
  finished_serves (Err error) (inr (mid, put, unevicted)) h = unevicted_serves error mid put unevicted h
