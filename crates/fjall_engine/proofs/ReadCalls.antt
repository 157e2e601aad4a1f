-- What reads serve: what stands in memory, or what the tables hold, of which more may be kept afterwards.
use Rattle.std.proofs.Common.{◌≡◌, inl, inr, ℕ, Bool, true, false, if◌then◌else◌, List, [], ◌∷◌, Option, None, Some, Result, Ok, Err, IfOk, IfErr, OnOk, IsTrue, Vec, refl, sym, ◌∙◌, ap, subst}
use Rattle.std.proofs.lemmas.Bool.{true≢false}
use Rattle.std.specs.declared.alloc.Global.{Global}
use Rattle.fjall_base.specs.Pairs.{Bytes, KeyRange, Pairs, lookup, page, pairs_between}
use Rattle.fjall_base.specs.Store.{Command, map_at}
use Rattle.fjall_base.specs.declared.error.Error.{Error}
use Rattle.fjall_base.specs.declared.error.Error.TheVariants.{Io, OutOfMemory, Storage}
use Rattle.fjall_files.proofs.Tidying.{stays_none}
use Rattle.fjall_table.specs.Blocks.{Entry}
use Rattle.fjall_table_reader.specs.Readers.{LooksOn, Reader, SomeTableIsWrong}
use Rattle.fjall_changes.proofs.KeptHomes.{homes_none}
use Rattle.fjall_recovery.specs.Refusals.{HasRisen}
use Rattle.fjall_trees.specs.Tables.{AreReadOn, AreSameTrees}
use Rattle.fjall_trees.specs.Maps.{pairs_in}
use Rattle.fjall_trees.specs.MapTables.{pairs_with}
use Rattle.fjall_history.specs.declared.ticket.View.{View}
use Rattle.fjall_history.specs.declared.ticket.View.TheVariants.{At, Present}
use Rattle.fjall_history.specs.declared.reply.Reply.{Reply}
use Rattle.fjall_history.specs.declared.reply.Reply.TheVariants.{Pairs as PairsIs, Refused, Value}
use Rattle.fjall_history.specs.Queries.{Get, Page, Query, Tells}
use Rattle.fjall_machine.specs.Shapes.{OfRead}
use Rattle.fjall_machine.specs.Reads.{IsReadRefusal}
use Rattle.fjall_machine.specs.Machine.{HasTables, State, first_due, is_among, maps_in, view_refusals}
use Rattle.fjall_machine.specs.Remembered.{facts_of, instant_in, with_trees}
use Rattle.fjall_machine.proofs.Refusing.{read_steps}
use Rattle.fjall_machine.proofs.Standing as law
use Rattle.fjall_engine.specs.Holding.{Held}
use Rattle.fjall_engine.specs.Crashes.{is_io}
use Rattle.fjall_engine.specs.Durables.{Durable}
use Rattle.fjall_engine.specs.Standing.{DiskRead, GivesRead, IsAnswerTo, Looks, LooksAt, OnDisk, Owes, OwesRefusal, ReadsOn, Serves, StandsFor, StandsOn, held_due, pairs_reply, tables_of, value_reply}
use Rattle.fjall_engine.proofs.KeptEntries.{step_keeps}
use Rattle.fjall_engine.proofs.DeviceFaults.{risen_blames}
use Rattle.fjall_engine.proofs.JournalWrites.{Leads}
use Rattle.fjall_engine.proofs.LookedDisks.{damaged_there, looked_on}
use Rattle.fjall_engine.proofs.OwedStates.{looked_stands}
use Rattle.fjall_engine.proofs.Refusals.{is_fault, never_due}
use Rattle.fjall_engine.proofs.ServedCalls.{led_by, served}
use Rattle.fjall_engine.proofs.TablesAtHome.{keeps_looked, outside_same, trees_read}

-- What came of the work of a read, whatever it answers.
pub record Came (honest : Bool) (old new : Held) (view : View) (id : ℕ) : Type 0 where
  pub held : new ≡ record old { disk = new.disk; memory = with_trees new.memory.trees old.memory }
  pub trees : AreSameTrees old.memory.trees new.memory.trees
  pub bare : tables_of old id ≡ [] → new ≡ old
  pub waits : (error : Error) → first_due (view_refusals (facts_of old.memory 0) view id) ≡ Some error → new ≡ old
  pub reads : IsTrue honest → (entries : ℕ → List (List Entry)) → AreReadOn old.disk old.memory.trees entries → AreReadOn new.disk new.memory.trees entries
  pub disk : LooksOn honest old.disk new.disk

-- a read's refusals look at no table's number
due_here : (core : Held) (view : View) (id : ℕ) (query : Query) → first_due (view_refusals (facts_of core.memory 0) view id) ≡ held_due core (OfRead view id query)
due_here core Present id query = refl
due_here core (At ticket) id query = refl

abbrev no_commands : List Command
no_commands = []

-- nothing is tried by a read that is refused
pub none_tried : (b : Bool) → (if b then no_commands else no_commands) ≡ []
none_tried true = refl
none_tried false = refl

module _ (honest : Bool) (old new : Held) (view : View) (id : ℕ) (query : Query) (came : Came honest old new view id) where
  looks : Looks old new
  looks = record {
    memory_is = ap (λ (h : Held). h.memory) came.held;
    trees = came.trees;
    catalog = ap (λ (h : Held). h.catalog) came.held;
    journal = ap (λ (h : Held). h.journal) came.held;
    faults = came.disk.later;
  }

  looks_at : (tables : List Reader) → tables_of old id ≡ tables → LooksAt tables old new
  looks_at [] is = came.bare is
  looks_at (t ∷ tables) is = looks

  disk_read : IsTrue honest → (tables : List Reader) → tables_of old id ≡ tables → DiskRead tables old new
  disk_read h [] is = ap (λ (c : Held). c.disk) (came.bare is)
  disk_read h (t ∷ tables) is = came.disk.same h

  -- ---- what it owes

  gives_read : (reply : Reply) → IsAnswerTo query reply → (tables_of old id ≡ [] → Tells query (pairs_in id (instant_in old.memory view) old.memory.trees) reply) → (tables : List Reader) → tables_of old id ≡ tables → GivesRead tables old view id query reply
  gives_read reply kind tells [] is = tells is
  gives_read reply kind tells (t ∷ tables) is = kind

  some_tables : (t : Reader) (tables : List Reader) → tables_of old id ≡ t ∷ tables → HasTables id old.memory.trees
  some_tables t tables is none = let bad : ⊥ = cc in bad

  refusal_owes : (error : Error) (first : Option Error) → held_due old (OfRead view id query) ≡ first → (tables : List Reader) → tables_of old id ≡ tables → IsReadRefusal first (Unit {0}) tables old.disk new.disk error → OwesRefusal first old (OfRead view id query) error new
  refusal_owes error (Some first) due tables is refused = (refused, came.waits first (due_here old view id query ∙ due))
  refusal_owes error None due [] is refused = subst (λ e. OwesRefusal None old (OfRead view id query) e new) (sym refused) (tt, subst (λ ts. LooksAt ts old new) (sym is) (came.bare is))
  refusal_owes (Io kind) None due (t ∷ tables) is refused = inr (inl (some_tables t tables is, looks, refused))
  refusal_owes OutOfMemory None due (t ∷ tables) is refused = (tt, subst (λ ts. LooksAt ts old new) (sym is) looks)
  refusal_owes (Storage told) None due (t ∷ tables) is refused = (refused.0, inl (some_tables t tables is, looks))
  refusal_owes error None due (t ∷ tables) is refused = absurd refused

  -- ---- what it did to the disk

  refusal_on : IsTrue honest → (error : Error) (first : Option Error) → held_due old (OfRead view id query) ≡ first → (tables : List Reader) → tables_of old id ≡ tables → IsReadRefusal first (Unit {0}) tables old.disk new.disk error → OnDisk old (OfRead view id query) (Refused error) new
  refusal_on h (Io kind) first due tables is refused = came.disk.same h
  refusal_on h OutOfMemory first due tables is refused = disk_read h (tables_of old id) refl
  refusal_on h (Storage told) first due tables is refused = disk_read h (tables_of old id) refl
  refusal_on h error (Some first) due tables is refused = ap (λ (c : Held). c.disk) (came.waits first (due_here old view id query ∙ due))
  refusal_on h error None due [] is refused = ap (λ (c : Held). c.disk) (came.bare is)
  refusal_on h error None due (t ∷ tables) is refused = absurd refused

  no_fault : (error first : Error) → held_due old (OfRead view id query) ≡ Some first → error ≡ first → is_io error ≡ false
  no_fault error first due is = ap is_io is ∙ ap is_fault (sym due) ∙ never_due (facts_of old.memory old.catalog.next_table_id) (OfRead view id query)

  risen : (error : Error) (first : Option Error) → held_due old (OfRead view id query) ≡ first → (tables : List Reader) → IsReadRefusal first (Unit {0}) tables old.disk new.disk error → HasRisen old.disk.faults new.disk.faults error
  risen (Io kind) (Some first) due tables refused = absurd (true≢false (no_fault (Io kind) first due refused))
  risen (Io kind) None due [] refused = let bad : ⊥ = cc in absurd bad
  risen (Io kind) None due (t ∷ tables) refused = refused
  risen error first due tables refused = tt

  -- ---- where it leads

  looked_leads : IsTrue honest → (entries : ℕ → List (List Entry)) (d : Durable) → StandsOn old entries d → Leads entries new d []
  looked_leads h entries d = looked_on entries old new d came.held came.trees (came.disk.same h)

  -- ---- what it serves

  keeps : IsTrue honest → (s : State) → StandsFor old s → ReadsOn old s → ReadsOn new s
  keeps h = keeps_looked old new came.trees (λ s stands reads. came.reads h s.parts.entries (trees_read old s stands reads)) (homes_none old.disk new.disk (came.disk.same h))
      (outside_same old new (ap (λ (c : Held). c.memory.poisoned) came.held) (ap (λ (c : Held). c.journal.name) came.held))

  stands_still : (s : State) → StandsFor old s → StandsFor new s
  stands_still s stands = looked_stands old new s looks stands

  weaker : (A B : Type 0) (first : Option Error) (tables : List Reader) (error : Error) → (A → B) → IsReadRefusal first A tables old.disk new.disk error → IsReadRefusal first B tables old.disk new.disk error
  weaker A B (Some first) tables error to is = is
  weaker A B None [] error to is = is
  weaker A B None (t ∷ tables) (Io kind) to is = is
  weaker A B None (t ∷ tables) OutOfMemory to is = is
  weaker A B None (t ∷ tables) (Storage told) to is = (is.0, to is.1)
  weaker A B None (t ∷ tables) error to is = absurd is

  pub refused_owes : (error : Error) → IsReadRefusal (first_due (view_refusals (facts_of old.memory 0) view id)) (Unit {0}) (tables_of old id) old.disk new.disk error → Owes old (OfRead view id query) (Refused error) new
  refused_owes error refused =
      refusal_owes error (held_due old (OfRead view id query)) refl (tables_of old id) refl (subst (λ first. IsReadRefusal first (Unit {0}) (tables_of old id) old.disk new.disk error) (due_here old view id query) refused)

  pub refused_serves : (error : Error) → IsReadRefusal (first_due (view_refusals (facts_of old.memory 0) view id)) (Unit {0}) (tables_of old id) old.disk new.disk error
      → ((entries : ℕ → List (List Entry)) → AreReadOn old.disk old.memory.trees entries → IsReadRefusal (first_due (view_refusals (facts_of old.memory 0) view id)) (SomeTableIsWrong old.disk (tables_of old id)) (tables_of old id) old.disk new.disk error)
      → IsTrue honest → Serves old (OfRead view id query) (Refused error) new
  refused_serves error cause refused h =
      let due = held_due old (OfRead view id query) in
      let known = subst (λ first. IsReadRefusal first (Unit {0}) (tables_of old id) old.disk new.disk error) (due_here old view id query) cause in
      let took = came.disk.same h in
      served old new (OfRead view id query) (Refused error) (λ s t. step_keeps s t (OfRead view id query) (Refused error) (λ is. is)) (λ s stands reads. (
        s,
        stands_still s stands,
        read_steps old.memory old.catalog.next_table_id s stands.remembered view id query old.disk new.disk error
            (subst (λ first. IsReadRefusal first (is_among s.damaged id ≡ true) (tables_of old id) old.disk new.disk error) (due_here old view id query)
            (weaker _ _ (first_due (view_refusals (facts_of old.memory 0) view id)) (tables_of old id) error (damaged_there old s id reads) (refused s.parts.entries (trees_read old s stands reads)))),
      )) (refusal_on h error due refl (tables_of old id) refl known) (stays_none old.disk new.disk took) (keeps h)
      (λ s d stands on tidy. risen_blames error old.disk new.disk (risen error due refl (tables_of old id) known) (came.disk.served h))
      (λ s d stands on. led_by new s d (OfRead view id query) (Refused error) [] (none_tried (is_io error)) (λ sync. sync) (looked_leads h s.parts.entries d on))

  answered_on : IsTrue honest → DiskRead (tables_of old id) old new
  answered_on h = disk_read h (tables_of old id) refl

  view_has : (s : State) (reply : Reply) → StandsFor old s → ReadsOn old s → held_due old (OfRead view id query) ≡ None
      → ((entries : ℕ → List (List Entry)) → AreReadOn old.disk old.memory.trees entries → Tells query (pairs_with entries id (instant_in old.memory view) old.memory.trees) reply) → Tells query (map_at (maps_in s view) id) reply
  view_has s reply stands reads none tells =
      subst (λ (m : Pairs). Tells query m reply) (law.pairs_agree old.memory old.catalog.next_table_id s stands.remembered view id none) (tells s.parts.entries (trees_read old s stands reads))

-- ---- a value

module _ (honest : Bool) (old new : Held) (view : View) (id : ℕ) (key : Bytes) (result : Result (Option Bytes) Error) (came : Came honest old new view id)
    (due : OnOk result (first_due (view_refusals (facts_of old.memory 0) view id) ≡ None)) (bare : tables_of old id ≡ [] → IfOk result (λ found. found ≡ lookup (pairs_in id (instant_in old.memory view) old.memory.trees) key))
    (cause : IfErr result (IsReadRefusal (first_due (view_refusals (facts_of old.memory 0) view id)) (Unit {0}) (tables_of old id) old.disk new.disk)) where
  pub value_owes : Owes old (OfRead view id (Get key)) (value_reply result) new
  value_owes = by result due bare cause
    where
      by : (r : Result (Option Bytes) Error) → OnOk r (first_due (view_refusals (facts_of old.memory 0) view id) ≡ None) → (tables_of old id ≡ [] → IfOk r (λ found. found ≡ lookup (pairs_in id (instant_in old.memory view) old.memory.trees) key))
          → IfErr r (IsReadRefusal (first_due (view_refusals (facts_of old.memory 0) view id)) (Unit {0}) (tables_of old id) old.disk new.disk) → Owes old (OfRead view id (Get key)) (value_reply r) new
      by (Ok found) none is refused = (
        sym (due_here old view id (Get key)) ∙ none,
        (gives_read honest old new view id (Get key) came (Value found) (found, refl) (λ no. ap Value (is no)) (tables_of old id) refl, looks_at honest old new view id (Get key) came (tables_of old id) refl),
      )
      by (Err error) none is refused = refused_owes honest old new view id (Get key) came error refused

  pub value_serves : (IsTrue honest → (entries : ℕ → List (List Entry)) → AreReadOn old.disk old.memory.trees entries → IfOk result (λ found. found ≡ lookup (pairs_with entries id (instant_in old.memory view) old.memory.trees) key))
      → (IsTrue honest → (entries : ℕ → List (List Entry)) → AreReadOn old.disk old.memory.trees entries → IfErr result (IsReadRefusal (first_due (view_refusals (facts_of old.memory 0) view id)) (SomeTableIsWrong old.disk (tables_of old id)) (tables_of old id) old.disk new.disk))
      → IsTrue honest → Serves old (OfRead view id (Get key)) (value_reply result) new
  value_serves found refused h = by result due cause (found h) (refused h)
    where
      by : (r : Result (Option Bytes) Error) → OnOk r (first_due (view_refusals (facts_of old.memory 0) view id) ≡ None) → IfErr r (IsReadRefusal (first_due (view_refusals (facts_of old.memory 0) view id)) (Unit {0}) (tables_of old id) old.disk new.disk)
          → ((entries : ℕ → List (List Entry)) → AreReadOn old.disk old.memory.trees entries → IfOk r (λ found. found ≡ lookup (pairs_with entries id (instant_in old.memory view) old.memory.trees) key))
          → ((entries : ℕ → List (List Entry)) → AreReadOn old.disk old.memory.trees entries → IfErr r (IsReadRefusal (first_due (view_refusals (facts_of old.memory 0) view id)) (SomeTableIsWrong old.disk (tables_of old id)) (tables_of old id) old.disk new.disk))
          → Serves old (OfRead view id (Get key)) (value_reply r) new
      by (Ok value) none told is wrong =
          let here : held_due old (OfRead view id (Get key)) ≡ None = sym (due_here old view id (Get key)) ∙ none in
          served old new (OfRead view id (Get key)) (Value value) (λ s t. step_keeps s t (OfRead view id (Get key)) (Value value) (λ is. is)) (λ s stands reads. (
            s,
            stands_still honest old new view id (Get key) came s stands,
            (law.facts_agree old.memory old.catalog.next_table_id s stands.remembered (OfRead view id (Get key)) ∙ here, (view_has honest old new view id (Get key) came s (Value value) stands reads here (λ entries are. ap Value (is entries are)), refl)),
          )) (answered_on honest old new view id (Get key) came h) (stays_none old.disk new.disk (came.disk.same h)) (keeps honest old new view id (Get key) came h)
          (λ s d stands on tidy. came.disk.served h) (λ s d stands on. led_by new s d (OfRead view id (Get key)) (Value value) [] refl (λ sync. sync) (looked_leads honest old new view id (Get key) came h s.parts.entries d on))
      by (Err error) none told is wrong = refused_serves honest old new view id (Get key) came error told wrong h

-- ---- pairs

module _ (honest : Bool) (old new : Held) (view : View) (id : ℕ) (range : KeyRange) (back : Bool) (max : ℕ) (result : Result (Vec (Bytes × Bytes) Global) Error) (came : Came honest old new view id)
    (due : OnOk result (first_due (view_refusals (facts_of old.memory 0) view id) ≡ None))
    (bare : tables_of old id ≡ [] → IfOk result (λ found. found.items ≡ page back max (pairs_between range (pairs_in id (instant_in old.memory view) old.memory.trees))))
    (cause : IfErr result (IsReadRefusal (first_due (view_refusals (facts_of old.memory 0) view id)) (Unit {0}) (tables_of old id) old.disk new.disk)) where
  abbrev query : Query
  query = Page range back max

  pub pairs_owes : Owes old (OfRead view id query) (pairs_reply result) new
  pairs_owes = by result due bare cause
    where
      by : (r : Result (Vec (Bytes × Bytes) Global) Error) → OnOk r (first_due (view_refusals (facts_of old.memory 0) view id) ≡ None)
          → (tables_of old id ≡ [] → IfOk r (λ found. found.items ≡ page back max (pairs_between range (pairs_in id (instant_in old.memory view) old.memory.trees))))
          → IfErr r (IsReadRefusal (first_due (view_refusals (facts_of old.memory 0) view id)) (Unit {0}) (tables_of old id) old.disk new.disk) → Owes old (OfRead view id query) (pairs_reply r) new
      by (Ok found) none is refused = (
        sym (due_here old view id query) ∙ none,
        (gives_read honest old new view id query came (PairsIs found) (found, refl) (λ no. (found, refl, is no)) (tables_of old id) refl, looks_at honest old new view id query came (tables_of old id) refl),
      )
      by (Err error) none is refused = refused_owes honest old new view id query came error refused

  pub pairs_serves : (IsTrue honest → (entries : ℕ → List (List Entry)) → AreReadOn old.disk old.memory.trees entries → IfOk result (λ found. found.items ≡ page back max (pairs_between range (pairs_with entries id (instant_in old.memory view) old.memory.trees))))
      → (IsTrue honest → (entries : ℕ → List (List Entry)) → AreReadOn old.disk old.memory.trees entries → IfErr result (IsReadRefusal (first_due (view_refusals (facts_of old.memory 0) view id)) (SomeTableIsWrong old.disk (tables_of old id)) (tables_of old id) old.disk new.disk))
      → IsTrue honest → Serves old (OfRead view id query) (pairs_reply result) new
  pairs_serves found refused h = by result due cause (found h) (refused h)
    where
      by : (r : Result (Vec (Bytes × Bytes) Global) Error) → OnOk r (first_due (view_refusals (facts_of old.memory 0) view id) ≡ None) → IfErr r (IsReadRefusal (first_due (view_refusals (facts_of old.memory 0) view id)) (Unit {0}) (tables_of old id) old.disk new.disk)
          → ((entries : ℕ → List (List Entry)) → AreReadOn old.disk old.memory.trees entries → IfOk r (λ found. found.items ≡ page back max (pairs_between range (pairs_with entries id (instant_in old.memory view) old.memory.trees))))
          → ((entries : ℕ → List (List Entry)) → AreReadOn old.disk old.memory.trees entries → IfErr r (IsReadRefusal (first_due (view_refusals (facts_of old.memory 0) view id)) (SomeTableIsWrong old.disk (tables_of old id)) (tables_of old id) old.disk new.disk))
          → Serves old (OfRead view id query) (pairs_reply r) new
      by (Ok found) none told is wrong =
          let here : held_due old (OfRead view id query) ≡ None = sym (due_here old view id query) ∙ none in
          served old new (OfRead view id query) (PairsIs found) (λ s t. step_keeps s t (OfRead view id query) (PairsIs found) (λ is. is)) (λ s stands reads. (
            s,
            stands_still honest old new view id query came s stands,
            (law.facts_agree old.memory old.catalog.next_table_id s stands.remembered (OfRead view id query) ∙ here, (view_has honest old new view id query came s (PairsIs found) stands reads here (λ entries are. (found, refl, is entries are)), refl)),
          )) (answered_on honest old new view id query came h) (stays_none old.disk new.disk (came.disk.same h)) (keeps honest old new view id query came h)
          (λ s d stands on tidy. came.disk.served h) (λ s d stands on. led_by new s d (OfRead view id query) (PairsIs found) [] refl (λ sync. sync) (looked_leads honest old new view id query came h s.parts.entries d on))
      by (Err error) none told is wrong = refused_serves honest old new view id query came error told wrong h
