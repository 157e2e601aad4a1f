-- What a persist and a release make of a core.
use Rattle.std.proofs.Common.{◌≡◌, ◌⊎◌, inl, inr, true, false, [], ◌∷◌, None, Some, refl, sym, ap, subst}
use Rattle.fjall_base.specs.Disk.{Took, TookPart}
use Rattle.fjall_engine.proofs.DeviceFaults.{failed_on, served_on}
use Rattle.fjall_base.specs.Errors.{IsFault}
use Rattle.fjall_base.specs.declared.error.Error.{Error}
use Rattle.fjall_base.specs.declared.error.Error.TheVariants.{Io, Poisoned}
use Rattle.fjall_journal.specs.declared.persist_mode.PersistMode.{PersistMode}
use Rattle.fjall_journal.specs.Writer.{Journal, PersistTook, persist_steps}
use Rattle.fjall_machine.specs.Shapes.{OfPersist}
use Rattle.fjall_history.specs.declared.reply.Reply.TheVariants.{Done, Refused}
use Rattle.fjall_machine.specs.Machine.{first_due}
use Rattle.fjall_machine.specs.Remembered.{Remembered, poisoned}
use Rattle.fjall_engine.specs.Holding.{Held}
use Rattle.fjall_engine.specs.Standing.{HandsOver, Owes, OwesRefusal, Serves, held_due}
use Rattle.fjall_engine.proofs.Refusals.{no_sync}
use Rattle.fjall_engine.proofs.ServedCalls.{led_by, serves_by}
use Rattle.fjall_engine.proofs.TablesAtHome.{KeepsReads, all_stay, carry_all, keeps_homes, outside_ill, outside_same}
use Rattle.fjall_engine.proofs.Syncs.{Persisted, persist_leads, unpersist_leads}
use Rattle.fjall_changes.proofs.AppendsAndSyncs.{whole_part}

-- ---- a persist

pub ill_due : (core : Held) (mode : PersistMode) → core.memory.poisoned ≡ true → held_due core (OfPersist mode) ≡ Some Poisoned
ill_due core mode ill = ap (λ b. first_due ((b, Poisoned) ∷ [])) ill

pub well_due : (core : Held) (mode : PersistMode) → core.memory.poisoned ≡ false → held_due core (OfPersist mode) ≡ None
well_due core mode well = ap (λ b. first_due ((b, Poisoned) ∷ [])) well

-- done
pub persisted_owes : (old new : Held) (mode : PersistMode) → old.memory.poisoned ≡ false → HandsOver old new → Owes old (OfPersist mode) Done new
persisted_owes old new mode well hands = (well_due old mode well, (refl, hands))

-- its disk keeps the tables
persisted_keeps : (old new : Held) (mode : PersistMode) → old.memory.poisoned ≡ false → HandsOver old new → Persisted old new mode true → KeepsReads old new
persisted_keeps old new mode well hands out =
    keeps_homes old new (carry_all old.memory.trees new.memory.trees (ap (λ (m : Remembered). m.trees) hands.memory_is)) (λ s stands reads. all_stay old.disk new.disk new.memory.trees (out.homes (reads.writer well)))
    (outside_same old new (ap (λ (m : Remembered). m.poisoned) hands.memory_is) (ap (λ (j : Journal). j.name) hands.journal))

unpersisted_keeps : (old new : Held) (mode : PersistMode) → old.memory.poisoned ≡ false → new.memory ≡ poisoned old.memory → Persisted old new mode false → KeepsReads old new
unpersisted_keeps old new mode well is out =
    keeps_homes old new (carry_all old.memory.trees new.memory.trees (ap (λ (m : Remembered). m.trees) is)) (λ s stands reads. all_stay old.disk new.disk new.memory.trees (out.homes (reads.writer well)))
    (outside_ill old new (ap (λ (m : Remembered). m.poisoned) is))

pub persisted_serves : (old new : Held) (mode : PersistMode) → old.memory.poisoned ≡ false → HandsOver old new → Took old.disk new.disk (persist_steps old.journal mode) → Persisted old new mode true → Serves old (OfPersist mode) Done new
persisted_serves old new mode well hands took out =
    serves_by old new (OfPersist mode) Done (persisted_owes old new mode well hands) (λ reads. reads) took out.kinds (persisted_keeps old new mode well hands out) (λ s d stands on tidy. served_on s.parts.entries old new.disk d well out.served on) (λ s d stands on.
    let led = persist_leads s.parts.entries old new mode d well hands out on in
    (led.0, led.1, (led.2, led.3 s)))

-- what a persist that failed took of the disk
pub part_of : (old new : Held) (now : Journal) (mode : PersistMode) → PersistTook old.journal now mode old.disk new.disk → TookPart old.disk new.disk old.journal.name old.journal.buffer ⊎ Took old.disk new.disk (persist_steps old.journal mode)
part_of old new now mode (inl part) = inl part.1
part_of old new now mode (inr (is, synced, inl out)) = inl (whole_part old.disk new.disk old.journal.name old.journal.buffer out)
part_of old new now mode (inr (is, synced, inr all)) = inr all

pub unpersisted_owes : (old new : Held) (mode : PersistMode) (error : Error) → old.memory.poisoned ≡ false → new.memory ≡ poisoned old.memory → IsFault old.disk.faults new.disk.faults error → Owes old (OfPersist mode) (Refused error) new
unpersisted_owes old new mode (Io kind) well is cause = subst (λ first. OwesRefusal first old (OfPersist mode) (Io kind) new) (sym (well_due old mode well)) (inl (tt, record { memory_is = is; faults = cause }))
unpersisted_owes old new mode error well is cause = absurd cause

pub unpersisted_serves : (old new : Held) (mode : PersistMode) (error : Error) → old.memory.poisoned ≡ false → new.memory ≡ poisoned old.memory → IsFault old.disk.faults new.disk.faults error → PersistTook old.journal new.journal mode old.disk new.disk
    → Persisted old new mode false → Serves old (OfPersist mode) (Refused error) new
unpersisted_serves old new mode (Io kind) well is cause took out =
    serves_by old new (OfPersist mode) (Refused (Io kind)) (unpersisted_owes old new mode (Io kind) well is cause) (λ reads. reads) (part_of old new new.journal mode took) out.kinds (unpersisted_keeps old new mode well is out) (λ s d stands on tidy. failed_on s.parts.entries old new.disk d well cause out.served on) (λ s d stands on.
    led_by new s d (OfPersist mode) (Refused (Io kind)) [] refl (no_sync s (OfPersist mode) (Io kind)) (unpersist_leads s.parts.entries old new mode d well (record { memory_is = is; faults = cause }) out on))
unpersisted_serves old new mode error well is cause took out = absurd cause
