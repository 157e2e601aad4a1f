-- A memtable that is sealed: what is shown, and what lies on the disk, stay as they are.
use Rattle.std.proofs.Common.{◌≡◌, ℕ, Bool, true, false, if◌then◌else◌, List, [], Option, None, Result, Ok, Err, IfOk, IsOkUnless, OnErr, refl, sym, ap, subst, ◌∙◌}
use Rattle.fjall_base.specs.Store.{kept}
use Rattle.fjall_base.specs.declared.error.Error.{Error}
use Rattle.fjall_base.specs.declared.error.Error.TheVariants.{OutOfMemory}
use Rattle.fjall_files.proofs.Tidying.{stays_start}
use Rattle.fjall_table.specs.Blocks.{Entry}
use Rattle.fjall_trees.proofs.Rotated.{rotated_store_with}
use Rattle.fjall_history.specs.declared.reply.Reply.TheVariants.{Flag, Refused}
use Rattle.fjall_machine.specs.Machine.{first_due, rotates, rotation_refusals}
use Rattle.fjall_machine.specs.Remembered.{Remembered, facts_of, rotated_in_memory}
use Rattle.fjall_machine.specs.Shapes.{OfRotation}
use Rattle.fjall_engine.specs.Holding.{Held}
use Rattle.fjall_engine.specs.Standing.{Owes, Serves, flag_reply, held_due}
use Rattle.fjall_engine.proofs.TablesAtHome.{KeepsReads, carry_all, carry_sealed, keeps_disk, outside_same}
use Rattle.fjall_engine.proofs.KeyspaceCalls.{Recounts, recount_leads}
use Rattle.fjall_engine.proofs.KnownCores.{knows_sealed}
use Rattle.fjall_engine.proofs.ServedCalls.{led_by, memory_owes, memory_serves, serves_by}

-- what is due, as it was looked for in a core's memory
pub rotation_due : (view core : Held) (id : ℕ) → view ≡ core → (first : Option Error) → first ≡ first_due (rotation_refusals (facts_of view.memory 0) id) → held_due core (OfRotation id) ≡ first
rotation_due view core id same first is = ap (λ (h : Held). first_due (rotation_refusals (facts_of h.memory 0) id)) (sym same) ∙ sym is

module _ (core : Held) (id : ℕ) (none : held_due core (OfRotation id) ≡ None) where
  -- the memory after a rotation, which seals something or doesn't
  abbrev after : Bool → Remembered
  after seals = if seals then rotated_in_memory id core.memory else core.memory

  abbrev with_memory : Remembered → Held
  with_memory m = record core { memory = m }

  recounts : (entries : ℕ → List (List Entry)) (seals : Bool) → seals ≡ rotates core.memory.trees id → Recounts entries core (with_memory (after seals))
  recounts entries true value = record {
    keyspaces = refl;
    next = refl;
    poisoned = refl;
    store = ap kept (sym (rotated_store_with entries id core.memory.keyspaces core.memory.trees));
    catalog = refl;
    journal = refl;
    journals = refl;
    known = λ j t same. knows_sealed entries core (with_memory (after true)) id j t refl refl (sym value);
  }
  recounts entries false value = record { keyspaces = refl; next = refl; poisoned = refl; store = refl; catalog = refl; journal = refl; journals = refl; known = λ j t same knows. knows }

  -- its disk keeps the tables
  rotated_keeps : (seals : Bool) → KeepsReads core (with_memory (after seals))
  rotated_keeps true = keeps_disk core (with_memory (after true)) refl (carry_sealed id core.memory.trees) (outside_same core (with_memory (after true)) refl refl)
  rotated_keeps false = keeps_disk core (with_memory (after false)) refl (carry_all core.memory.trees core.memory.trees refl) (outside_same core (with_memory (after false)) refl refl)

  same_core : (seals : Bool) → with_memory (after seals) ≡ (if seals then with_memory (rotated_in_memory id core.memory) else core)
  same_core true = refl
  same_core false = refl

  done_owes : (seals : Bool) → seals ≡ rotates core.memory.trees id → Owes core (OfRotation id) (Flag seals) (with_memory (after seals))
  done_owes seals value = (none, (ap Flag value, same_core seals ∙ ap (λ b. if b then with_memory (rotated_in_memory id core.memory) else core) value))

  done_serves : (seals : Bool) → seals ≡ rotates core.memory.trees id → Serves core (OfRotation id) (Flag seals) (with_memory (after seals))
  done_serves seals value =
      serves_by core (with_memory (after seals)) (OfRotation id) (Flag seals) (done_owes seals value) (λ reads. reads) refl (stays_start core.disk) (rotated_keeps seals) (λ s d stands on tidy. refl)
      (λ s d stands on. led_by (with_memory (after seals)) s d (OfRotation id) (Flag seals) [] refl (λ sync. sync) (recount_leads s.parts.entries core (with_memory (after seals)) d refl (recounts s.parts.entries seals value) on))

  abbrev answer : Bool → Result Bool Error
  answer seals = Ok seals

  -- what is in memory after a call that answered so
  memory_is : (m : Remembered) (seals : Bool) → (answer seals ≡ answer true → m ≡ rotated_in_memory id core.memory) → (answer seals ≡ answer false → m ≡ core.memory) → m ≡ after seals
  memory_is m true sealed empty = sealed refl
  memory_is m false sealed empty = empty refl

  pub rotated_owes : (m : Remembered) (result : Result Bool Error) → IfOk result (λ seals. seals ≡ rotates core.memory.trees id) → (result ≡ Ok true → m ≡ rotated_in_memory id core.memory) → (result ≡ Ok false → m ≡ core.memory)
      → OnErr result (m ≡ core.memory) → IsOkUnless result OutOfMemory → Owes core (OfRotation id) (flag_reply result) (with_memory m)
  rotated_owes m (Ok seals) value sealed empty same only = subst (λ (x : Remembered). Owes core (OfRotation id) (Flag seals) (with_memory x)) (sym (memory_is m seals sealed empty)) (done_owes seals value)
  rotated_owes m (Err error) value sealed empty same only =
      subst (λ (x : Remembered). Owes core (OfRotation id) (Refused error) (with_memory x)) (sym same) (subst (λ e. Owes core (OfRotation id) (Refused e) core) (sym only) (memory_owes core (OfRotation id) tt none))

  pub rotated_serves : (m : Remembered) (result : Result Bool Error) → IfOk result (λ seals. seals ≡ rotates core.memory.trees id) → (result ≡ Ok true → m ≡ rotated_in_memory id core.memory) → (result ≡ Ok false → m ≡ core.memory)
      → OnErr result (m ≡ core.memory) → IsOkUnless result OutOfMemory → Serves core (OfRotation id) (flag_reply result) (with_memory m)
  rotated_serves m (Ok seals) value sealed empty same only = subst (λ (x : Remembered). Serves core (OfRotation id) (Flag seals) (with_memory x)) (sym (memory_is m seals sealed empty)) (done_serves seals value)
  rotated_serves m (Err error) value sealed empty same only =
      subst (λ (x : Remembered). Serves core (OfRotation id) (Refused error) (with_memory x)) (sym same) (subst (λ e. Serves core (OfRotation id) (Refused e) core) (sym only) (memory_serves core (OfRotation id) tt none))
