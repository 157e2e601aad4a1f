-- What closing leaves of the disk.
use Rattle.std.proofs.Common.{◌≡◌, true, false, List, [], ◌∷◌, Some, Result, Ok, Err, refl, sym, ◌∙◌, ap, subst}
use Rattle.std.proofs.lemmas.Bool.{true≢false}
use Rattle.fjall_base.specs.Store.{Store, Command, fold}
use Rattle.fjall_base.specs.Crash.{IsHoused}
use Rattle.fjall_base.specs.Disk.{Meaning, Took, state_in}
use Rattle.fjall_base.specs.declared.error.Error.{Error}
use Rattle.fjall_base.specs.declared.error.Error.TheVariants.{Io, Poisoned}
use Rattle.fjall_journal.specs.declared.persist_mode.PersistMode.TheVariants.{SyncAll}
use Rattle.fjall_journal.specs.Writer.{Journal, persist_steps}
use Rattle.fjall_recovery.specs.Amid.{HoldsAmid}
use Rattle.fjall_recovery.specs.Places.{contents_with}
use Rattle.fjall_recovery.proofs.Holding.{a_rest_holds}
use Rattle.fjall_files.specs.Tidy.{StaysTidy}
use Rattle.fjall_changes.proofs.KeptHomes.{persisted_homes}
use Rattle.fjall_changes.proofs.TidyWrites.{persist_stays}
use Rattle.fjall_changes.proofs.CrashesInWrites.{persist_apart, persist_leaves, persist_out}
use Rattle.fjall_machine.specs.Shapes.{OfPersist}
use Rattle.fjall_history.specs.declared.reply.Reply.TheVariants.{Refused}
use Rattle.fjall_machine.specs.Machine as machine
use Rattle.fjall_engine.specs.Holding.{Held}
use Rattle.fjall_engine.specs.Durables.{Durable, Passes}
use Rattle.fjall_engine.specs.Crashes.{BlamesDevice, attempt}
use Rattle.fjall_engine.specs.Standing.{Closes, ClosesDisk, HandsOver, OnDisk, Owes, ReadsOn, Serves, StandsFor, StandsOn, reply_of}
use Rattle.fjall_engine.proofs.Refusals.{none_due}
use Rattle.fjall_engine.proofs.CrashImages.{lies_rest, root_finished}
use Rattle.fjall_engine.proofs.Reopening.{a_core_holds_amid, finished_amid}
use Rattle.fjall_engine.proofs.Syncs.{Persisted, hand_leaves, same_of, sync_empty, sync_lies, synced_passes}
use Rattle.fjall_engine.proofs.JournalWrites.{held_on, present_of}

-- what the disk took of a sync is what closing owes of it
pub closes_disk : (old new : Held) (result : Result Unit Error) → OnDisk old (OfPersist SyncAll) (reply_of result) new → ClosesDisk old result new.disk
closes_disk old new (Ok _) took = took
closes_disk old new (Err (Io kind)) failed = failed
closes_disk old new (Err error) same = same

-- a sync asks for no command
no_command : (s : machine.State) (error : Error) → attempt s (OfPersist SyncAll) (Refused error) ≡ []
no_command s (Io kind) = refl
no_command s error = refl

-- the steps of a sync hand all over
synced_out : (old new : Held) → HandsOver old new → Took old.disk new.disk (persist_steps old.journal SyncAll) → new.disk.misuses ≡ old.disk.misuses → Persisted old new SyncAll true
synced_out old new hands took served = record {
  leaves = λ j writing. persist_leaves old.disk new.disk old.journal j writing SyncAll took;
  lies = λ _ j writing. persist_out old.disk new.disk old.journal j writing SyncAll new.journal took (ap (λ (w : Journal). w.name) hands.journal) (ap (λ (w : Journal). w.buffer) hands.journal);
  elsewhere = λ j writing. persist_apart old.disk new.disk old.journal j writing SyncAll took;
  homes = λ out. persisted_homes old.journal old.disk new.disk out SyncAll took;
  served = λ j writing. served;
  kinds = persist_stays old.disk new.disk old.journal SyncAll took;
  took = λ _. took;
  left = λ e. absurd (true≢false e);
}

-- nothing waits for a sync any more, so that the disk holds what it stands for
synced_closes : (old new : Held) (s : machine.State) (base : Store) (pending : List Command) → old.memory.poisoned ≡ false → HandsOver old new → Persisted old new SyncAll true → IsHoused (state_in new.disk)
    → StandsFor old s → StandsOn old s.parts.entries (held_on old base pending) → Closes s (held_on old base pending) (Ok tt) new.disk
synced_closes old new s base pending well hands out housed stands on =
    let same = same_of old new hands in
    let lies = on.lies well in
    let after = sync_lies old new base pending same lies out in
    let none = sync_empty old new base pending same lies out in
    record {
      after = held_on new (fold base pending) [];
      same = refl;
      passes = synced_passes old new base pending (hand_leaves old new SyncAll true base pending lies out) (lies_rest new (held_on new (fold base pending) []) after);
      amid = finished_amid (state_in new.disk) (fold base pending) [] housed (root_finished (state_in new.disk) after.journals after.writing.root) (lies_rest new (held_on new (fold base pending) []) after);
      closed = (
        Some (contents_with after.journals after.tree []),
        a_rest_holds (state_in new.disk) after.journals after.records after.tree none after.writing.root after.in_tree.rests,
        tt,
        stands.remembered.present ∙ sym (present_of s.parts.entries old (held_on old base pending) false well on) ∙ after.made,
      );
      device = out.served lies.journals lies.writing;
      kinds = out.kinds;
    }

-- closing leaves what it may
pub closing : (old new : Held) (result : Result Unit Error) (s : machine.State) (d : Durable) → Owes old (OfPersist SyncAll) (reply_of result) new → Serves old (OfPersist SyncAll) (reply_of result) new
    → ((s : machine.State) (d : Durable) → StandsFor old s → StandsOn old s.parts.entries d → BlamesDevice (reply_of result) old.disk new.disk) → IsHoused (state_in new.disk)
    → StandsFor old s → ReadsOn old s → StandsOn old s.parts.entries d → Closes s d result new.disk
closing old new (Ok _) s d (none, (told, hands)) serves blames housed stands reads on =
    let well = (none_due ((old.memory.poisoned, Poisoned) ∷ []) none).0 in
    let here : d ≡ held_on old d.base d.pending = λ i. record { meaning = on.same i; base = d.base; pending = d.pending } in
    subst (λ (x : Durable). Closes s x (Ok tt) new.disk) (sym here)
    (synced_closes old new s d.base d.pending well hands (synced_out old new hands serves.disk (blames s d stands on)) housed stands (subst (λ (x : Durable). StandsOn old s.parts.entries x) here on))
closing old new (Err error) s d owes serves blames housed stands reads on =
    let next = serves.goes_on s stands reads in
    let led = next.4 d on in
    let there : IsHoused (state_in led.0.meaning) = subst (λ (m : Meaning). IsHoused (state_in m)) (sym led.1.same) housed in
    record {
      after = led.0;
      same = led.1.same;
      passes = subst (λ (l : List Command). Passes d l led.0) (no_command s error) led.2.0;
      amid = subst (λ (m : Meaning). HoldsAmid (state_in m) led.0.base led.0.pending) led.1.same (a_core_holds_amid new next.0.parts.entries led.0 led.1 there);
      closed = tt;
      device = subst (λ (m : Meaning). BlamesDevice (Refused error) m new.disk) (sym on.same) (blames s d stands on);
      kinds = subst (λ (m : Meaning). StaysTidy d.meaning m) led.1.same led.2.3;
    }
