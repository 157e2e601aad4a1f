-- What one read of a core shows, why it is refused, and what it leaves.
use Rattle.std.proofs.Common.{◌≡◌, ℕ, Bool, IsTrue, true, false, if◌then◌else◌, List, [], ◌∷◌, Option, None, Some, Result, Ok, Err, IfErr, IfOk, IfSome, Vec, length, inl, inr, refl, sym, ◌∙◌, ap, subst}
use Rattle.std.specs.Prelude.{⊤}
use Rattle.std.specs.Result.{result_err}
use Rattle.std.specs.declared.alloc.Global.{Global}
use Rattle.fjall_base.specs.Disk.{Meaning, Took}
use Rattle.fjall_base.specs.Pairs.{Bytes, KeyRange, Pairs, lookup, page, pairs_between}
use Rattle.fjall_base.specs.Store.{Command}
use Rattle.fjall_base.specs.declared.error.Error.{Error}
use Rattle.fjall_base.specs.declared.error.Error.TheVariants.{Io, NumbersUsedUp, OutOfMemory, Poisoned, Storage, TooManyItems, ValueTooLong}
use Rattle.fjall_table_reader.specs.Readers.{Reader}
use Rattle.fjall_trees.specs.Forests.{Forest}
use Rattle.fjall_trees.specs.Tables.{AreSameTrees}
use Rattle.fjall_trees.specs.Maps.{pairs_in}
use Rattle.fjall_trees.specs.MapTables.{no_entries}
use Rattle.fjall_trees.proofs.Alike.{same_pairs}
use Rattle.fjall_trees.proofs.Bare.{bare_pairs}
use Rattle.fjall_history.specs.declared.ticket.View.{View}
use Rattle.fjall_history.specs.declared.ticket.View.TheVariants.{At, Present}
use Rattle.fjall_history.specs.declared.reply.Reply.{Reply}
use Rattle.fjall_history.specs.declared.reply.Reply.TheVariants as replies
use Rattle.fjall_history.specs.Queries.{Get, Page, Query, Tells}
use Rattle.fjall_machine.specs.Machine.{MayFail, Refuses, State, StepOf, due}
use Rattle.fjall_machine.specs.Reads as reads
use Rattle.fjall_machine.specs.Remembered.{Remembered, instant_in}
use Rattle.fjall_machine.specs.Remembered as memory
use Rattle.fjall_machine.specs.Shapes.{OfRead}
use Rattle.fjall_machine.proofs.SameTrees.{none_same, same_in}
use Rattle.fjall_machine.proofs.Standing as law
use Rattle.fjall_engine.specs.Crashes.{attempt, is_io}
use Rattle.fjall_engine.specs.Durables.{Passes}
use Rattle.fjall_engine.specs.Holding.{Held}
use Rattle.fjall_engine.specs.Standing.{DiskRead, GivesRead, Looks, LooksAt, OnDisk, Owes, OwesFailure, OwesRefusal, ReadsOn, Serves, StandsFor, StandsOn, pairs_reply, tables_of, value_reply}
use Rattle.fjall_core.specs.Shown.{IsReaderRefusal, IsRefusedFor, Shows, read_due}
use Rattle.fjall_core.specs.Leaving.{LeavesStanding}
use Rattle.fjall_core.specs.ReadsGoing.{looks_none, took_none}

-- ---- what it leaves

looks_at : (old new : Held) (tables : List Reader) → LooksAt tables old new → Looks old new
looks_at old new [] same = subst (Looks old) (sym same) (looks_none old)
looks_at old new (t ∷ tables) looks = looks

looked_by : (old new : Held) (view : View) (id : ℕ) (query : Query) (error : Error) → OwesFailure old (OfRead view id query) error new → Looks old new
looked_by old new view id query (Io kind) (inl fault) = absurd fault.0
looked_by old new view id query (Io kind) (inr (inl (has, looks, rose))) = looks
looked_by old new view id query (Io kind) (inr (inr work)) = absurd work
looked_by old new view id query OutOfMemory owed = looks_at old new (tables_of old id) owed.1
looked_by old new view id query (Storage told) (is, inl (reads, looks)) = looks
looked_by old new view id query (Storage told) (is, inr none) = absurd none
looked_by old new view id query ValueTooLong owed = absurd owed.0
looked_by old new view id query Poisoned owed = absurd owed.0
looked_by old new view id query NumbersUsedUp owed = absurd owed.0
looked_by old new view id query TooManyItems owed = absurd owed.0
looked_by old new view id query error owed = absurd owed

refusal_looks : (old new : Held) (view : View) (id : ℕ) (query : Query) (first : Option Error) (error : Error) → OwesRefusal first old (OfRead view id query) error new → Looks old new
refusal_looks old new view id query (Some first) error owed = subst (Looks old) (sym owed.1) (looks_none old)
refusal_looks old new view id query None error owed = looked_by old new view id query error owed

-- a read that answers, or is refused, leaves the core but for what is kept of its tables
pub value_looks : (old new : Held) (view : View) (id : ℕ) (key : Bytes) (result : Result (Option Bytes) Error) → Owes old (OfRead view id (Get key)) (value_reply result) new → Looks old new
value_looks old new view id key (Ok found) owes = looks_at old new (tables_of old id) owes.1.1
value_looks old new view id key (Err error) owes = refusal_looks old new view id (Get key) (read_due old view id) error owes

pub page_looks : (old new : Held) (view : View) (id : ℕ) (range : KeyRange) (back : Bool) (max : ℕ) (result : Result (Vec (Bytes × Bytes) Global) Error) → Owes old (OfRead view id (Page range back max)) (pairs_reply result) new → Looks old new
page_looks old new view id range back max (Ok found) owes = looks_at old new (tables_of old id) owes.1.1
page_looks old new view id range back max (Err error) owes = refusal_looks old new view id (Page range back max) (read_due old view id) error owes

-- ---- why it is refused

fails : (old new : Held) (view : View) (id : ℕ) (query : Query) (tables : List Reader) (error : Error) → tables_of old id ≡ tables → OwesFailure old (OfRead view id query) error new → reads.ReadFails ⊤ tables old.disk new.disk error
fails old new view id query tables (Io kind) is (inl fault) = absurd fault.0
fails old new view id query [] (Io kind) is (inr (inl (has, looks, rose))) = absurd (has is)
fails old new view id query (t ∷ tables) (Io kind) is (inr (inl (has, looks, rose))) = rose
fails old new view id query tables (Io kind) is (inr (inr work)) = absurd work
fails old new view id query [] OutOfMemory is owed = refl
fails old new view id query (t ∷ tables) OutOfMemory is owed = tt
fails old new view id query [] (Storage told) is (damaged, inl (reads, looks)) = absurd (reads is)
fails old new view id query [] (Storage told) is (damaged, inr none) = absurd none
fails old new view id query (t ∷ tables) (Storage told) is owed = (owed.0, tt)
fails old new view id query tables ValueTooLong is owed = absurd owed.0
fails old new view id query tables Poisoned is owed = absurd owed.0
fails old new view id query tables NumbersUsedUp is owed = absurd owed.0
fails old new view id query tables TooManyItems is owed = absurd owed.0
fails old new view id query tables error is owed = absurd owed

refused_for : (old new : Held) (view : View) (id : ℕ) (query : Query) (first : Option Error) (error : Error) → OwesRefusal first old (OfRead view id query) error new
    → reads.IsReadRefusal first ⊤ (tables_of old id) old.disk new.disk error
refused_for old new view id query (Some first) error owed = owed.0
refused_for old new view id query None error owed = fails old new view id query (tables_of old id) error refl owed

pub value_cause : (old new : Held) (view : View) (id : ℕ) (key : Bytes) (result : Result (Option Bytes) Error) → Owes old (OfRead view id (Get key)) (value_reply result) new → IfErr result (IsRefusedFor old view id new)
value_cause old new view id key (Ok found) owes = tt
value_cause old new view id key (Err error) owes = refused_for old new view id (Get key) (read_due old view id) error owes

pub page_cause : (old new : Held) (view : View) (id : ℕ) (range : KeyRange) (back : Bool) (max : ℕ) (result : Result (Vec (Bytes × Bytes) Global) Error) → Owes old (OfRead view id (Page range back max)) (pairs_reply result) new
    → IfErr result (IsRefusedFor old view id new)
page_cause old new view id range back max (Ok found) owes = tt
page_cause old new view id range back max (Err error) owes = refused_for old new view id (Page range back max) (read_due old view id) error owes

-- so is a reader's read
pub read_cause : {T : Type 0} (old new : Held) (view : View) (id : ℕ) (result : Result T Error) → IfErr result (IsRefusedFor old view id new) → IfSome (result_err result) (IsReaderRefusal old view id new)
read_cause old new view id (Ok found) cause = tt
read_cause old new view id (Err error) cause = inr cause

-- ---- what it shows

abbrev value_in : Reply → Option Bytes
value_in (replies.Value found) = found
value_in reply = None

abbrev pairs_of : Reply → List (Bytes × Bytes)
pairs_of (replies.Pairs found) = found.items
pairs_of reply = []

bare_tells : (old : Held) (view : View) (id : ℕ) (query : Query) (reply : Reply) (tables : List Reader) → tables ≡ [] → GivesRead tables old view id query reply → Tells query (pairs_in id (instant_in old.memory view) old.memory.trees) reply
bare_tells old view id query reply [] none gives = gives
bare_tells old view id query reply (t ∷ tables) none gives = let bad : ⊥ = cc in absurd bad

pub value_shown : (honest : Bool) (old new : Held) (view : View) (id : ℕ) (key : Bytes) (result : Result (Option Bytes) Error) → Owes old (OfRead view id (Get key)) (value_reply result) new
    → (IsTrue honest → Serves old (OfRead view id (Get key)) (value_reply result) new) → (map : Pairs) → Shows honest old view id map → IfOk result (λ found. found ≡ lookup map key)
value_shown honest old new view id key (Err error) owes serves map shows = tt
value_shown honest old new view id key (Ok found) owes serves map (inl (none, is)) =
    ap value_in (bare_tells old view id (Get key) (replies.Value found) (tables_of old id) none owes.1.0) ∙ ap (λ (p : Pairs). lookup p key) (sym is)
value_shown honest old new view id key (Ok found) owes serves map (inr (h, (s, stands, on, is))) =
    ap value_in ((serves h).goes_on s stands on).3.1.0 ∙ ap (λ (p : Pairs). lookup p key) (sym is)

pub page_shown : (honest : Bool) (old new : Held) (view : View) (id : ℕ) (range : KeyRange) (back : Bool) (max : ℕ) (result : Result (Vec (Bytes × Bytes) Global) Error) → Owes old (OfRead view id (Page range back max)) (pairs_reply result) new
    → (IsTrue honest → Serves old (OfRead view id (Page range back max)) (pairs_reply result) new) → (map : Pairs) → Shows honest old view id map → IfOk result (λ found. found.items ≡ page back max (pairs_between range map))
page_shown honest old new view id range back max (Err error) owes serves map shows = tt
page_shown honest old new view id range back max (Ok found) owes serves map (inl (none, is)) =
    let tells = bare_tells old view id (Page range back max) (replies.Pairs found) (tables_of old id) none owes.1.0 in
    ap pairs_of tells.1 ∙ tells.2 ∙ ap (λ (p : Pairs). page back max (pairs_between range p)) (sym is)
page_shown honest old new view id range back max (Ok found) owes serves map (inr (h, (s, stands, on, is))) =
    let tells = ((serves h).goes_on s stands on).3.1.0 in
    ap pairs_of tells.1 ∙ tells.2 ∙ ap (λ (p : Pairs). page back max (pairs_between range p)) (sym is)

-- ---- it moves no state

fails_still : (s t : State) (view : View) (id : ℕ) (query : Query) (error : Error) → MayFail (OfRead view id query) error s t → t ≡ s
fails_still s t view id query (Io kind) (inl changed) = absurd changed.0
fails_still s t view id query (Io kind) (inr (inl (reads, same))) = same
fails_still s t view id query (Io kind) (inr (inr work)) = absurd work
fails_still s t view id query OutOfMemory out = out.1
fails_still s t view id query (Storage told) damage = damage.2
fails_still s t view id query ValueTooLong long = absurd long.0
fails_still s t view id query Poisoned late = absurd late.0
fails_still s t view id query NumbersUsedUp used = absurd used.0
fails_still s t view id query TooManyItems room = absurd room.0
fails_still s t view id query error fault = absurd fault

refused_still : (s t : State) (view : View) (id : ℕ) (query : Query) (first : Option Error) (error : Error) → Refuses first (OfRead view id query) error s t → t ≡ s
refused_still s t view id query (Some first) error refused = refused.1
refused_still s t view id query None error refused = fails_still s t view id query error refused

value_still : (s t : State) (view : View) (id : ℕ) (key : Bytes) (result : Result (Option Bytes) Error) → StepOf s (OfRead view id (Get key)) (value_reply result) t → t ≡ s
value_still s t view id key (Ok found) step = step.1.1
value_still s t view id key (Err error) step = refused_still s t view id (Get key) (due s (OfRead view id (Get key))) error step

page_still : (s t : State) (view : View) (id : ℕ) (range : KeyRange) (back : Bool) (max : ℕ) (result : Result (Vec (Bytes × Bytes) Global) Error) → StepOf s (OfRead view id (Page range back max)) (pairs_reply result) t → t ≡ s
page_still s t view id range back max (Ok found) step = step.1.1
page_still s t view id range back max (Err error) step = refused_still s t view id (Page range back max) (due s (OfRead view id (Page range back max))) error step

-- ---- what stands behind it

looked_stands : (old new : Held) (s : State) → Looks old new → StandsFor old s → StandsFor new s
looked_stands old new s looks stands = record {
  remembered = subst (λ (m : Remembered). memory.MemoryStandsFor m new.catalog.next_table_id s) (sym looks.memory_is)
      (subst (λ c. memory.MemoryStandsFor (memory.with_trees new.memory.trees old.memory) c s) (ap (λ c. c.next_table_id) (sym looks.catalog))
      (law.a_read_stands old.memory old.catalog.next_table_id s stands.remembered new.memory.trees looks.trees));
  journal = stands.journal ∙ ap (λ j. j.len) (sym looks.journal);
  buffer = stands.buffer ∙ ap (λ j. length j.buffer) (sym looks.journal);
}

took_same : (old new : Held) → new.disk ≡ old.disk → Took old.disk new.disk []
took_same old new same = subst (λ (m : Meaning). Took old.disk m []) (sym same) (took_none old.disk)

took_read : (old new : Held) (tables : List Reader) → DiskRead tables old new → Took old.disk new.disk []
took_read old new [] same = took_same old new same
took_read old new (t ∷ tables) took = took

took_refused : (old new : Held) (view : View) (id : ℕ) (query : Query) (error : Error) → OnDisk old (OfRead view id query) (replies.Refused error) new → Took old.disk new.disk []
took_refused old new view id query (Io kind) on = on
took_refused old new view id query OutOfMemory on = took_read old new (tables_of old id) on
took_refused old new view id query (Storage told) on = took_read old new (tables_of old id) on
took_refused old new view id query error on = took_same old new on

value_took : (old new : Held) (view : View) (id : ℕ) (key : Bytes) (result : Result (Option Bytes) Error) → OnDisk old (OfRead view id (Get key)) (value_reply result) new → Took old.disk new.disk []
value_took old new view id key (Ok found) on = took_read old new (tables_of old id) on
value_took old new view id key (Err error) on = took_refused old new view id (Get key) error on

page_took : (old new : Held) (view : View) (id : ℕ) (range : KeyRange) (back : Bool) (max : ℕ) (result : Result (Vec (Bytes × Bytes) Global) Error) → OnDisk old (OfRead view id (Page range back max)) (pairs_reply result) new → Took old.disk new.disk []
page_took old new view id range back max (Ok found) on = took_read old new (tables_of old id) on
page_took old new view id range back max (Err error) on = took_refused old new view id (Page range back max) error on

abbrev no_commands : List Command
no_commands = []

none_tried : (b : Bool) → (if b then no_commands else no_commands) ≡ []
none_tried true = refl
none_tried false = refl

value_tries : (s : State) (view : View) (id : ℕ) (key : Bytes) (result : Result (Option Bytes) Error) → attempt s (OfRead view id (Get key)) (value_reply result) ≡ []
value_tries s view id key (Ok found) = refl
value_tries s view id key (Err error) = none_tried (is_io error)

page_tries : (s : State) (view : View) (id : ℕ) (range : KeyRange) (back : Bool) (max : ℕ) (result : Result (Vec (Bytes × Bytes) Global) Error) → attempt s (OfRead view id (Page range back max)) (pairs_reply result) ≡ []
page_tries s view id range back max (Ok found) = refl
page_tries s view id range back max (Err error) = none_tried (is_io error)

-- a read that looks, takes nothing of the disk, moves no state and tries no command
stands_behind : (honest : Bool) (old new : Held) (view : View) (id : ℕ) (query : Query) (reply : Reply) → Looks old new → (IsTrue honest → Took old.disk new.disk []) → (IsTrue honest → Serves old (OfRead view id query) reply new)
    → ((s t : State) → StepOf s (OfRead view id query) reply t → t ≡ s) → ((s : State) → attempt s (OfRead view id query) reply ≡ []) → LeavesStanding honest old new
stands_behind honest old new view id query reply looks took serves still none = record {
  stands = λ s stands. looked_stands old new s looks stands;
  took = took;
  reads = λ h s stands reads. let goes = (serves h).goes_on s stands reads in subst (ReadsOn new) (still s goes.0 goes.3) goes.2;
  on = λ h s d stands reads on.
      let goes = (serves h).goes_on s stands reads in
      let way = goes.4 d on in
      (way.0, subst (λ (t : State). StandsOn new t.parts.entries way.0) (still s goes.0 goes.3) way.1, subst (λ l. Passes d l way.0) (none s) way.2.0);
}

pub value_stands : (honest : Bool) (old new : Held) (view : View) (id : ℕ) (key : Bytes) (result : Result (Option Bytes) Error) → Owes old (OfRead view id (Get key)) (value_reply result) new
    → (IsTrue honest → Serves old (OfRead view id (Get key)) (value_reply result) new) → LeavesStanding honest old new
value_stands honest old new view id key result owes serves =
    stands_behind honest old new view id (Get key) (value_reply result) (value_looks old new view id key result owes) (λ h. value_took old new view id key result (serves h).disk) serves
    (λ s t step. value_still s t view id key result step) (λ s. value_tries s view id key result)

pub page_stands : (honest : Bool) (old new : Held) (view : View) (id : ℕ) (range : KeyRange) (back : Bool) (max : ℕ) (result : Result (Vec (Bytes × Bytes) Global) Error) → Owes old (OfRead view id (Page range back max)) (pairs_reply result) new
    → (IsTrue honest → Serves old (OfRead view id (Page range back max)) (pairs_reply result) new) → LeavesStanding honest old new
page_stands honest old new view id range back max result owes serves =
    stands_behind honest old new view id (Page range back max) (pairs_reply result) (page_looks old new view id range back max result owes) (λ h. page_took old new view id range back max result (serves h).disk) serves
    (λ s t step. page_still s t view id range back max result step) (λ s. page_tries s view id range back max result)

-- ---- what it goes on to show

instant_looked : (old new : Held) (view : View) → Looks old new → instant_in new.memory view ≡ instant_in old.memory view
instant_looked old new Present looks = ap (λ (m : Remembered). instant_in m Present) looks.memory_is
instant_looked old new (At ticket) looks = ap (λ (m : Remembered). instant_in m (At ticket)) looks.memory_is

bare_same : (id instant : ℕ) (old new : Forest) → AreSameTrees old new → pairs_in id instant old ≡ pairs_in id instant new
bare_same id instant old new same = sym (bare_pairs id instant old) ∙ sym (same_pairs no_entries id instant old new same) ∙ bare_pairs id instant new

pub shows_on : (honest : Bool) (old new : Held) (view : View) → Looks old new → LeavesStanding honest old new → (id : ℕ) (map : Pairs) → Shows honest old view id map → Shows honest new view id map
shows_on honest old new view looks stand id map (inl (none, is)) = inl (
  none_same (tables_of old id) (tables_of new id) (same_in id old.memory.trees new.memory.trees looks.trees).tables none,
  is ∙ bare_same id (instant_in old.memory view) old.memory.trees new.memory.trees looks.trees ∙ ap (λ (instant : ℕ). pairs_in id instant new.memory.trees) (sym (instant_looked old new view looks)),
)
shows_on honest old new view looks stand id map (inr (h, (s, stands, on, is))) = inr (h, (s, stand.stands s stands, stand.reads h s stands on, is))
