-- Reads one after another: what each leaves, the next goes on from.
use Rattle.std.proofs.Common.{◌≡◌, ◌≤◌, ℕ, Bool, List, [], ◌∷◌, ◌++◌, Option, None, Some, IfErr, IfSome, Result, Ok, Err, inl, inr, refl, sym, ◌∙◌, ap, subst, arith, append_assoc}
use Rattle.std.proofs.lemmas.List.{append-nil}
use Rattle.std.specs.Prelude.{⊤}
use Rattle.std.specs.Borrow.{MutBor}
use Rattle.std.specs.Result.{result_err}
use Rattle.fjall_base.specs.Disk.{Meaning, Took}
use Rattle.fjall_base.specs.Store.{Command, fold, kept}
use Rattle.fjall_base.specs.declared.error.Error.{Error}
use Rattle.fjall_base.specs.declared.error.Error.TheVariants.{OutOfMemory}
use Rattle.fjall_table_reader.proofs.TableFiles.{refused_later}
use Rattle.fjall_table_reader.specs.Readers.{AreSameTables, Reader}
use Rattle.fjall_trees.proofs.Same.{same_trees}
use Rattle.fjall_meta.proofs.Kept.{kept_along}
use Rattle.fjall_meta.proofs.Slots.{fold-append}
use Rattle.fjall_history.specs.declared.ticket.View.{View}
use Rattle.fjall_history.specs.declared.ticket.View.TheVariants.{At, Present}
use Rattle.fjall_machine.specs.Machine.{first_due, view_refusals}
use Rattle.fjall_machine.specs.Reads as reads
use Rattle.fjall_machine.specs.Remembered.{Remembered, facts_of}
use Rattle.fjall_core.specs.Alike.{along, same_in}
use Rattle.fjall_engine.specs.Durables.{CrashLeavesPending, Durable, Passes, StandsAmid}
use Rattle.fjall_engine.specs.Holding.{Held}
use Rattle.fjall_engine.specs.Standing.{Looks, tables_of}
use Rattle.fjall_core.specs.Leaving.{LeavesStanding}
use Rattle.fjall_core.specs.Shown.{IsReaderRefusal, IsRefusedFor, ReadsKeyspace, read_due}

-- ---- what reads leave

pub looks_none : (core : Held) → Looks core core
looks_none core = record { memory_is = refl; trees = same_trees core.memory.trees; catalog = refl; journal = refl; faults = omega arith }

looks_on : (old mid new : Held) → Looks old mid → Looks mid new → Looks old new
looks_on old mid new first then = record {
  memory_is = then.memory_is ∙ ap (λ (m : Remembered). record m { trees = new.memory.trees }) first.memory_is;
  trees = along old.memory.trees mid.memory.trees new.memory.trees first.trees then.trees;
  catalog = then.catalog ∙ first.catalog;
  journal = then.journal ∙ first.journal;
  faults = let before = first.faults in let behind = then.faults in omega (arith, before, behind);
}

-- ---- what stands behind them

pub took_none : (disk : Meaning) → Took disk disk []
took_none disk = record { state = refl; steps = sym (append-nil disk.steps) }

took_on : (old mid new : Meaning) → Took old mid [] → Took mid new [] → Took old new []
took_on old mid new first then = record { state = then.state ∙ first.state; steps = then.steps ∙ append-nil mid.steps ∙ first.steps }

-- where the disk was changed in nothing, a crash leaves what it left before
passes_by : (d e : Durable) (safe : List Command) → CrashLeavesPending d → Took d.meaning e.meaning [] → CrashLeavesPending e → kept e.base ≡ kept (fold d.base safe) → safe ++ e.pending ≡ d.pending ++ [] → Passes d [] e
passes_by d e safe before took rests base rest = record {
  leaves = record { added = []; took = took; each = λ image is. subst (λ (pending : List Command). StandsAmid d.base [] pending image) (sym (append-nil d.pending)) (before image is) };
  safe = safe;
  base = base;
  rest = rest;
  rests = rests;
}

passes_none : (d : Durable) → CrashLeavesPending d → Passes d [] d
passes_none d rests = passes_by d d [] rests (took_none d.meaning) rests refl (sym (append-nil d.pending))

passes_on : (d m e : Durable) → CrashLeavesPending d → Took d.meaning e.meaning [] → Passes d [] m → Passes m [] e → Passes d [] e
passes_on d m e rests took first then =
    passes_by d e (first.safe ++ then.safe) rests took then.rests
    (then.base ∙ kept_along m.base (fold d.base first.safe) then.safe first.base ∙ ap kept (sym (fold-append d.base first.safe then.safe)))
    (append_assoc first.safe then.safe e.pending ∙ ap (λ (l : List Command). first.safe ++ l) (then.rest ∙ append-nil m.pending) ∙ first.rest)

pub stand_none : (honest : Bool) (core : Held) → LeavesStanding honest core core
stand_none honest core = record {
  stands = λ s stands. stands;
  took = λ h. took_none core.disk;
  reads = λ h s stands reads. reads;
  on = λ h s d stands reads on. (d, on, passes_none d on.rests);
}

stand_on : (honest : Bool) (old mid new : Held) → LeavesStanding honest old mid → LeavesStanding honest mid new → LeavesStanding honest old new
stand_on honest old mid new first then = record {
  stands = λ s stands. then.stands s (first.stands s stands);
  took = λ h. took_on old.disk mid.disk new.disk (first.took h) (then.took h);
  reads = λ h s stands reads. then.reads h s (first.stands s stands) (first.reads h s stands reads);
  on = λ h s d stands reads on.
      let there = first.on h s d stands reads on in
      let next = then.on h s there.0 (first.stands s stands) (first.reads h s stands reads) there.1 in
      let took = subst (λ (m : Meaning). Took m next.0.meaning []) (sym on.same)
      (subst (λ (m : Meaning). Took old.disk m []) (sym next.1.same) (took_on old.disk mid.disk new.disk (first.took h) (then.took h))) in
      (next.0, next.1, passes_on d there.0 next.0 on.rests took there.2 next.2);
}

-- ---- why they are refused

-- what is due for a read is so whatever is kept of tables
pub due_looked : (old new : Held) (view : View) (id : ℕ) → Looks old new → read_due new view id ≡ read_due old view id
due_looked old new Present id looks = λ i. first_due (view_refusals (facts_of (looks.memory_is i) (looks.catalog i).next_table_id) Present id)
due_looked old new (At ticket) id looks = λ i. first_due (view_refusals (facts_of (looks.memory_is i) (looks.catalog i).next_table_id) (At ticket) id)

fails_before : (a b : List Reader) (old mid new : Meaning) (error : Error) → AreSameTables a b → old.faults ≤ mid.faults → mid.faults ≤ new.faults → reads.ReadFails ⊤ b mid new error → reads.ReadFails ⊤ a old new error
fails_before [] [] old mid new error same le more fails = fails
fails_before [] (u ∷ b) old mid new error same le more fails = absurd same
fails_before (t ∷ a) [] old mid new error same le more fails = absurd same
fails_before (t ∷ a) (u ∷ b) old mid new error same le more fails = refused_later ⊤ ⊤ old.faults mid.faults new.faults error le more (λ wrong. tt) fails

refused_by : (first : Option Error) (a b : List Reader) (old mid new : Meaning) (error : Error) → AreSameTables a b → old.faults ≤ mid.faults → mid.faults ≤ new.faults
    → reads.IsReadRefusal first ⊤ b mid new error → reads.IsReadRefusal first ⊤ a old new error
refused_by (Some first) a b old mid new error same le more refused = refused
refused_by None a b old mid new error same le more refused = fails_before a b old mid new error same le more refused

refused_before : (old mid new : Held) (view : View) (id : ℕ) (error : Error) → Looks old mid → Looks mid new → IsRefusedFor mid view id new error → IsRefusedFor old view id new error
refused_before old mid new view id error looks then refused =
    let same = (same_in id old.memory.trees mid.memory.trees looks.trees).tables in
    refused_by (read_due old view id) (tables_of old id) (tables_of mid id) old.disk mid.disk new.disk error same looks.faults then.faults
    (subst (λ first. reads.IsReadRefusal first ⊤ (tables_of mid id) mid.disk new.disk error) (due_looked old mid view id looks) refused)

cause_before : (old mid new : Held) (view : View) (id : ℕ) (error : Option Error) → Looks old mid → Looks mid new → IfSome error (IsReaderRefusal mid view id new) → IfSome error (IsReaderRefusal old view id new)
cause_before old mid new view id None looks then cause = tt
cause_before old mid new view id (Some error) looks then (inl memory) = inl memory
cause_before old mid new view id (Some error) looks then (inr refused) = inr (refused_before old mid new view id error looks then refused)

-- where nothing is due, memory may be used up
pub memory_refuses : (old new : Held) (view : View) (id : ℕ) → read_due old view id ≡ None → IsRefusedFor old view id new OutOfMemory
memory_refuses old new view id none = by (read_due old view id) (tables_of old id) none
  where
    by : (first : Option Error) (tables : List Reader) → first ≡ None → reads.IsReadRefusal first ⊤ tables old.disk new.disk OutOfMemory
    by (Some error) tables is = let bad : ⊥ = cc in absurd bad
    by None [] is = refl
    by None (t ∷ tables) is = tt

refused_so : (old new : Held) (view : View) (id : ℕ) (error : Error) → read_due old view id ≡ None → IsReaderRefusal old view id new error → IsRefusedFor old view id new error
refused_so old new view id error none (inl memory) = subst (IsRefusedFor old view id new) (sym memory) (memory_refuses old new view id none)
refused_so old new view id error none (inr refused) = refused

-- and a reader's read is refused as a read of the core
pub due_cause : {T : Type 0} (old new : Held) (view : View) (id : ℕ) (result : Result T Error)
    → read_due old view id ≡ None → IfSome (result_err result) (IsReaderRefusal old view id new) → IfErr result (IsRefusedFor old view id new)
due_cause old new view id (Ok done) none cause = tt
due_cause old new view id (Err error) none cause = refused_so old new view id error none cause

-- ---- a reader's reads

pub reads_none : (honest : Bool) (core : MutBor Held) (view : View) (id : ℕ) → ReadsKeyspace honest core view id None core view
reads_none honest core view id = record { looks = looks_none core.now; stand = stand_none honest core.now; lent = refl; same = refl; cause = tt }

pub reads_go_on : (honest : Bool) (old mid new : MutBor Held) (from amid to : View) (first id : ℕ) (error : Option Error)
    → ReadsKeyspace honest old from first None mid amid → ReadsKeyspace honest mid amid id error new to → ReadsKeyspace honest old from id error new to
reads_go_on honest old mid new from amid to first id error before then = record {
  looks = looks_on old.now mid.now new.now before.looks then.looks;
  stand = stand_on honest old.now mid.now new.now before.stand then.stand;
  lent = then.lent ∙ before.lent;
  same = then.same ∙ before.same;
  cause = cause_before old.now mid.now new.now from id error before.looks then.looks (subst (λ (view : View). IfSome error (IsReaderRefusal mid.now view id new.now)) before.same then.cause);
}

pub reads_short : (honest : Bool) (old new : MutBor Held) (from to : View) (id : ℕ) → ReadsKeyspace honest old from id None new to → ReadsKeyspace honest old from id (Some OutOfMemory) new to
reads_short honest old new from to id reads = record { looks = reads.looks; stand = reads.stand; lent = reads.lent; same = reads.same; cause = inl refl }
