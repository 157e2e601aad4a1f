-- What refuses an ingestion before anything is written, and what is there where nothing does.
use Rattle.std.proofs.Common.{◌≡◌, inl, inr, ℕ, ◌<◌, ◌-◌, ◌^◌, ◌==◌, ◌&&◌, nat_le, Bool, true, false, List, [], ◌∷◌, length, Option, None, Some, Result, arith, refl, sym, ◌∙◌, ap, subst}
use Rattle.std.specs.FinMap.{contains_key, get}
use Rattle.std.specs.Option.{is_some}
use Rattle.std.proofs.lemmas.Bool.{eqb-true, true≢false}
use Rattle.fjall_base.specs.declared.error.Error.{Error}
use Rattle.fjall_base.specs.declared.error.Error.TheVariants.{NumbersUsedUp, OutOfMemory, TooManyItems}
use Rattle.fjall_history.specs.declared.reply.Reply.TheVariants.{Done, Refused}
use Rattle.fjall_compaction.specs.declared.ingestion.whole.PlannedIngestion.{PlannedIngestion}
use Rattle.fjall_compaction.specs.Planned.{IsIngestionRefusal}
use Rattle.fjall_replay.specs.Known.{last_known}
use Rattle.fjall_meta.specs.declared.living.LivingKeyspace.{LivingKeyspace}
use Rattle.fjall_meta.specs.Keyspaces.{keyspace_at}
use Rattle.fjall_machine.specs.Ingesting.{IsPlanned, MayIngest, ingestion_refusals}
use Rattle.fjall_machine.specs.Machine.{first_due, is_living}
use Rattle.fjall_machine.specs.Remembered.{IsLawful, Remembered, facts_of}
use Rattle.fjall_machine.specs.Shapes.{OfIngestion}
use Rattle.fjall_machine.proofs.Ascending.{may_ingest}
use Rattle.fjall_machine.proofs.Facts.{living_names, some_there}
use Rattle.fjall_trees.specs.Tables.{shape_in}
use Rattle.fjall_meta.proofs.Found.{found_has, found_passes}
use Rattle.fjall_meta.proofs.Slots.{same_id}
use Rattle.fjall_reading.specs.Ingestions.{KeyOp}
use Rattle.fjall_engine.specs.Holding.{Held}
use Rattle.fjall_engine.specs.CallParts.{PutsIngestion}
use Rattle.fjall_engine.specs.Crashes.{is_io}
use Rattle.fjall_engine.specs.Standing.{Owes, OwesRefusal, Serves, are_journals_used_up_in, held_due, is_journal_long, reply_of, store_in}
use Rattle.fjall_engine.proofs.IngestionCalls.{put_owes, put_serves}
use Rattle.fjall_engine.proofs.IngestionSteps.{IsDue}
use Rattle.fjall_engine.proofs.OwedSteps.{owes_step}
use Rattle.fjall_engine.proofs.ServedCalls.{answer_serves, memory_owes, refusal_serves}

-- ---- no items

pub nothing_owes : (core : Held) (id : ℕ) (items : List KeyOp) → (length items == 0) ≡ true → Owes core (OfIngestion id items) Done core
nothing_owes core id [] none = (refl, (refl, refl))
nothing_owes core id (item ∷ items) none = let zero_long = eqb-true (length (item ∷ items)) 0 none in let bad : ⊥ = omega (arith, zero_long) in absurd bad

pub nothing_serves : (core : Held) (id : ℕ) (items : List KeyOp) → (length items == 0) ≡ true → Serves core (OfIngestion id items) Done core
nothing_serves core id [] none = answer_serves core (OfIngestion id []) Done (λ reads. reads) (nothing_owes core id [] none) refl refl (λ s. refl) (λ s sync. sync)
nothing_serves core id (item ∷ items) none = let zero_long = eqb-true (length (item ∷ items)) 0 none in let bad : ⊥ = omega (arith, zero_long) in absurd bad

-- ---- what is due

-- as it was looked for in a core's memory
pub ingestion_due : (view core : Held) (id : ℕ) (items : List KeyOp) → view ≡ core → (length items == 0) ≡ false → (first : Option Error) → first ≡ first_due (ingestion_refusals (facts_of view.memory 0) id items)
    → held_due core (OfIngestion id items) ≡ first
ingestion_due view core id [] same some first is = absurd (true≢false some)
ingestion_due view core id (item ∷ items) same some first is = ap (λ (h : Held). first_due (ingestion_refusals (facts_of h.memory 0) id (item ∷ items))) (sym same) ∙ sym is

-- where nothing is due, all is there that an ingestion needs
pub may_go_on : (core : Held) (id : ℕ) (items : List KeyOp) → (length items == 0) ≡ false → held_due core (OfIngestion id items) ≡ None → MayIngest (facts_of core.memory core.catalog.next_table_id) id items
may_go_on core id [] some none = absurd (true≢false some)
may_go_on core id (item ∷ items) some none = may_ingest (facts_of core.memory core.catalog.next_table_id) id (item ∷ items) none

-- its keyspace
pub lives_there : (core : Held) (id : ℕ) → is_living (store_in core) id ≡ true → (k : LivingKeyspace) × (keyspace_at id core.memory.keyspaces.living ≡ Some k)
lives_there core id lives = some_there (keyspace_at id core.memory.keyspaces.living) (sym (living_names core.memory.keyspaces core.memory.trees id) ∙ lives)

-- whose last record is kept
pub record_kept : (m : Remembered) (id : ℕ) (k : LivingKeyspace) → IsLawful m → keyspace_at id m.keyspaces.living ≡ Some k → contains_key m.records id ≡ true
record_kept m id k lawful at =
    subst (λ (i : ℕ). is_some (get m.records i) ≡ true) (same_id k.id id (found_passes (λ (j : LivingKeyspace). j.id == id) m.keyspaces.living k at))
    (found_has (λ (j : LivingKeyspace). j.id == id) (λ (j : LivingKeyspace). is_some (get m.records j.id) ≡ true) m.keyspaces.living k at lawful.recorded)

-- ---- numbers and room

module _ (core : Held) (id : ℕ) (item : KeyOp) (items : List KeyOp) (none : held_due core (OfIngestion id (item ∷ items)) ≡ None) where
  -- a refusal that changes nothing
  same_serves : (error : Error) → is_io error ≡ false → Owes core (OfIngestion id (item ∷ items)) (Refused error) core → Serves core (OfIngestion id (item ∷ items)) (Refused error) core
  same_serves error other owes =
      refusal_serves core (OfIngestion id (item ∷ items)) error other (λ s stands. owes_step core core (OfIngestion id (item ∷ items)) (Refused error) s (λ reads. reads) owes stands)

  used_owes : are_journals_used_up_in core ≡ true → Owes core (OfIngestion id (item ∷ items)) (Refused NumbersUsedUp) core
  used_owes used = subst (λ first. OwesRefusal first core (OfIngestion id (item ∷ items)) NumbersUsedUp core) (sym none) (inl used, refl)

  unplanned_owes : (k : LivingKeyspace) → keyspace_at id core.memory.keyspaces.living ≡ Some k → (error : Error)
      → IsIngestionRefusal (shape_in id core.memory.trees) id core.memory.tickets.watermark core.memory.next (item ∷ items) (last_known core.memory.records k) error
      → (is_io error ≡ false) × Owes core (OfIngestion id (item ∷ items)) (Refused error) core
  unplanned_owes k lives OutOfMemory why = (refl, memory_owes core (OfIngestion id (item ∷ items)) tt none)
  unplanned_owes k lives NumbersUsedUp why =
      (refl, subst (λ first. OwesRefusal first core (OfIngestion id (item ∷ items)) NumbersUsedUp core) (sym none) (inr (k, lives, why), refl))
  unplanned_owes k lives TooManyItems why =
      (refl, subst (λ first. OwesRefusal first core (OfIngestion id (item ∷ items)) TooManyItems core) (sym none) ((k, lives, why), refl))
  unplanned_owes k lives error why = absurd why

module _ (core : Held) (id : ℕ) where
  -- no number of a journal is left
  pub no_journal_owes : (items : List KeyOp) → (length items == 0) ≡ false → held_due core (OfIngestion id items) ≡ None → are_journals_used_up_in core ≡ true → Owes core (OfIngestion id items) (Refused NumbersUsedUp) core
  no_journal_owes [] some none used = absurd (true≢false some)
  no_journal_owes (item ∷ items) some none used = used_owes core id item items none used

  pub no_journal_serves : (items : List KeyOp) → (length items == 0) ≡ false → held_due core (OfIngestion id items) ≡ None → are_journals_used_up_in core ≡ true → Serves core (OfIngestion id items) (Refused NumbersUsedUp) core
  no_journal_serves [] some none used = absurd (true≢false some)
  no_journal_serves (item ∷ items) some none used = same_serves core id item items none NumbersUsedUp refl (used_owes core id item items none used)

  -- it can't be planned
  abbrev pub ForRefusal : List KeyOp → Error → Type 0
  ForRefusal items error = (k : LivingKeyspace) → keyspace_at id core.memory.keyspaces.living ≡ Some k
      → IsIngestionRefusal (shape_in id core.memory.trees) id core.memory.tickets.watermark core.memory.next items (last_known core.memory.records k) error

  pub no_plan_owes : (items : List KeyOp) → (length items == 0) ≡ false → held_due core (OfIngestion id items) ≡ None → (error : Error) → ForRefusal items error → Owes core (OfIngestion id items) (Refused error) core
  no_plan_owes [] some none error why = absurd (true≢false some)
  no_plan_owes (item ∷ items) some none error why =
      let lives = lives_there core id (may_go_on core id (item ∷ items) some none).lives in
      (unplanned_owes core id item items none lives.0 lives.1 error (why lives.0 lives.1)).1

  pub no_plan_serves : (items : List KeyOp) → (length items == 0) ≡ false → held_due core (OfIngestion id items) ≡ None → (error : Error) → ForRefusal items error → Serves core (OfIngestion id items) (Refused error) core
  no_plan_serves [] some none error why = absurd (true≢false some)
  no_plan_serves (item ∷ items) some none error why =
      let lives = lives_there core id (may_go_on core id (item ∷ items) some none).lives in
      let owes = unplanned_owes core id item items none lives.0 lives.1 error (why lives.0 lives.1) in
      same_serves core id item items none error owes.0 owes.1

  -- ---- it was planned

  abbrev pub ForPlan : List KeyOp → PlannedIngestion → Type 0
  ForPlan items p = (k : LivingKeyspace) → keyspace_at id core.memory.keyspaces.living ≡ Some k → IsPlanned core.memory id items (last_known core.memory.records k) p

  module _ (honest : Type 0) (new : Held) (p : PlannedIngestion) (left : are_journals_used_up_in core ≡ false) where
    -- what is there of the keyspace of this id, and what the call comes to
    abbrev IsThere : KeyOp → List KeyOp → LivingKeyspace → ℕ → Type 0
    IsThere item items k i =
        (held_due core (OfIngestion i (item ∷ items)) ≡ None) × (keyspace_at i core.memory.keyspaces.living ≡ Some k)
        × IsPlanned core.memory i (item ∷ items) (last_known core.memory.records k) p × MayIngest (facts_of core.memory core.catalog.next_table_id) i (item ∷ items)

    abbrev ComesTo : KeyOp → List KeyOp → Result Unit Error → ℕ → Type 0
    ComesTo item items result i = Owes core (OfIngestion i (item ∷ items)) (reply_of result) new × (honest → Serves core (OfIngestion i (item ∷ items)) (reply_of result) new)

    both : (item : KeyOp) (items : List KeyOp) → (length (item ∷ items) == 0) ≡ false → held_due core (OfIngestion id (item ∷ items)) ≡ None → ForPlan (item ∷ items) p → (result : Result Unit Error)
        → PutsIngestion honest core p result new → ComesTo item items result id
    both item items some none planned result puts =
        let may = may_go_on core id (item ∷ items) some none in
        let found = lives_there core id may.lives in
        let k = found.0 in
        let same : k.id ≡ id = same_id k.id id (found_passes (λ (j : LivingKeyspace). j.id == id) core.memory.keyspaces.living k found.1) in
        let there : IsThere item items k k.id = subst (IsThere item items k) (sym same) (none, found.1, planned k found.1, may) in
        let due : IsDue core k (item ∷ items) p = record {
          none = there.0;
          may = record { well = there.3.well; living = there.1; numbered = there.3.numbered; planned = there.2 };
          fits = there.3.fits;
          left = left;
        } in
        subst (ComesTo item items result) same (put_owes honest core new k item items p due result puts, put_serves honest core new k item items p due result puts)

    pub planned_owes : (items : List KeyOp) → (length items == 0) ≡ false → held_due core (OfIngestion id items) ≡ None → ForPlan items p → (result : Result Unit Error) → PutsIngestion honest core p result new
        → Owes core (OfIngestion id items) (reply_of result) new
    planned_owes [] some none planned result puts = absurd (true≢false some)
    planned_owes (item ∷ items) some none planned result puts = (both item items some none planned result puts).0

    pub planned_serves : (items : List KeyOp) → (length items == 0) ≡ false → held_due core (OfIngestion id items) ≡ None → ForPlan items p → (result : Result Unit Error) → PutsIngestion honest core p result new
        → honest → Serves core (OfIngestion id items) (reply_of result) new
    planned_serves [] some none planned result puts h = absurd (true≢false some)
    planned_serves (item ∷ items) some none planned result puts h = (both item items some none planned result puts).1 h

-- ---- as the code finds it out

-- whether there are items, as their list tells it
pub told_empty : (items : List KeyOp) (len : ℕ) (told is : Bool) → len ≡ length items → told ≡ (len == 0) → told ≡ is → (length items == 0) ≡ is
told_empty items len told is same says so = ap (λ (n : ℕ). n == 0) (sym same) ∙ sym says ∙ so

module _ (view core : Held) (same : view ≡ core) (id : ℕ) (items seen : List KeyOp) (are : seen ≡ items) where
  -- the refusal that is due
  pub seen_due : (length items == 0) ≡ false → (first : Option Error) → first ≡ first_due (ingestion_refusals (facts_of view.memory 0) id seen) → held_due core (OfIngestion id items) ≡ first
  seen_due some first is = ingestion_due view core id items same some first (is ∙ ap (λ (l : List KeyOp). first_due (ingestion_refusals (facts_of view.memory 0) id l)) are)

  pub seen_refusal : (error : Error) → ForRefusal view id seen error → ForRefusal core id items error
  seen_refusal error why = subst (λ (h : Held). ForRefusal h id items error) same (subst (λ (l : List KeyOp). ForRefusal view id l error) are why)

  pub seen_plan : (p : PlannedIngestion) → ForPlan view id seen p → ForPlan core id items p
  seen_plan p planned = subst (λ (h : Held). ForPlan h id items p) same (subst (λ (l : List KeyOp). ForPlan view id l p) are planned)

-- whether a number of a journal is left
pub told_journals : (view core : Held) (long used is : Bool) → view ≡ core → long ≡ is_journal_long view.journal → used ≡ (long && nat_le (2 ^ 64 - 2) view.memory.journals.active) → used ≡ is → are_journals_used_up_in core ≡ is
told_journals view core long used is same told says so =
    ap are_journals_used_up_in (sym same) ∙ sym (says ∙ ap (λ (b : Bool). b && nat_le (2 ^ 64 - 2) view.memory.journals.active) told) ∙ so

-- What the work of an ingestion asks for, once it was planned.
pub record MayPut (core : Held) (p : PlannedIngestion) : Type 0 where
  pub numbered : core.memory.next < 2 ^ 63
  pub kept : contains_key core.memory.records p.id ≡ true
  pub planned : (id : ℕ) × (items : List KeyOp) × (k : LivingKeyspace) × (keyspace_at id core.memory.keyspaces.living ≡ Some k) × IsPlanned core.memory id items (last_known core.memory.records k) p

pub may_put : (core : Held) (id : ℕ) (items : List KeyOp) (p : PlannedIngestion) → (length items == 0) ≡ false → held_due core (OfIngestion id items) ≡ None → IsLawful core.memory → ForPlan core id items p → MayPut core p
may_put core id items p some none lawful planned =
    let may = may_go_on core id items some none in
    let found = lives_there core id may.lives in
    let plan = planned found.0 found.1 in
    record {
      numbered = may.numbered;
      kept = subst (λ (i : ℕ). contains_key core.memory.records i ≡ true) (sym plan.keyspace) (record_kept core.memory id found.0 lawful found.1);
      planned = (id, items, found.0, found.1, plan);
    }
