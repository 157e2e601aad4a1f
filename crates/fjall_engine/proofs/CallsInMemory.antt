-- What the calls serve that leave the disk as it is.
use Rattle.std.proofs.Common.{◌≡◌, ℕ, Bool, List, None, Result, Ok, Err, IfOk, IfErr, OnOk, OnErr, IsOkUnless, IsPermutation, IsSorted, Vec, [], refl, sym, ◌∙◌, ap, subst}
use Rattle.std.specs.FinMap.{values}
use Rattle.std.specs.declared.alloc.Global.{Global}
use Rattle.fjall_base.specs.Pairs.{Bytes, byte_order}
use Rattle.fjall_base.specs.Store.{kept}
use Rattle.fjall_base.specs.declared.error.Error.{Error}
use Rattle.fjall_base.specs.declared.error.Error.TheVariants.{OutOfMemory}
use Rattle.fjall_history.specs.declared.reply.Reply.{Reply}
use Rattle.fjall_history.specs.declared.reply.Reply.TheVariants.{Done, Flag, Names, Number, Refused}
use Rattle.fjall_machine.specs.Shapes.{CallShape, Count, Exists, OfCount, OfHandle, OfRead, OneMore}
use Rattle.fjall_machine.specs.Shapes as shapes
use Rattle.fjall_machine.specs.Machine.{State, due_in, names_one}
use Rattle.fjall_machine.specs.Remembered.{IsDueOrMemory, Remembered, facts_of, retained}
use Rattle.fjall_files.proofs.Tidying.{stays_start}
use Rattle.fjall_engine.specs.Crashes.{BlamesDevice, IsSync, attempt}
use Rattle.fjall_table.specs.Blocks.{Entry}
use Rattle.fjall_engine.specs.Holding.{Held}
use Rattle.fjall_engine.specs.Standing.{HeldCount, OnDisk, Owes, Serves, names_reply, reply_of, store_in, store_with_tables}
use Rattle.fjall_engine.proofs.ServedCalls.{answer_serves, either_serves, led_by, memory_owes, memory_serves, serves_by}
use Rattle.fjall_engine.proofs.TablesAtHome.{carry_all, keeps_disk, outside_same}
use Rattle.fjall_engine.proofs.KeyspaceCalls.{Recounts, recount_leads}
use Rattle.fjall_engine.proofs.KnownCores.{knows_same}

-- ---- handles

abbrev pub with_handle : Held → ℕ → Held
with_handle core id = record core { memory = retained id core.memory }

retained_counts : (entries : ℕ → List (List Entry)) (old new : Held) (id : ℕ) → new ≡ with_handle old id → Recounts entries old new
retained_counts entries old new id is = record {
  keyspaces = ap (λ (core : Held). core.memory.keyspaces) is;
  next = ap (λ (core : Held). core.memory.next) is;
  poisoned = ap (λ (core : Held). core.memory.poisoned) is;
  store = ap (λ (core : Held). kept (store_with_tables entries core)) (sym is);
  catalog = ap (λ (core : Held). core.catalog) is;
  journal = ap (λ (core : Held). core.journal) is;
  journals = ap (λ (core : Held). core.memory.journals) is;
  known = λ j t same. knows_same entries old new j t (ap (λ (core : Held). core.memory.trees) is) (ap (λ (core : Held). core.memory.records) is);
}

retained_there : (core : Held) (m : Remembered) (id : ℕ) (result : Result Unit Error) → OnOk result (due_in (facts_of core.memory 0) (OfHandle OneMore id) ≡ None) → OnOk result (m ≡ retained id core.memory) → OnErr result (m ≡ core.memory)
    → IfErr result (IsDueOrMemory (due_in (facts_of core.memory 0) (OfHandle OneMore id))) → Serves core (OfHandle OneMore id) (reply_of result) (record core { memory = m })
retained_there core m id (Ok _) none is same cause =
    let new : Held = record core { memory = m } in
    let new_is : new ≡ with_handle core id = ap (λ (x : Remembered). record core { memory = x }) is in
    serves_by core new (OfHandle OneMore id) Done (none, (refl, new_is)) (λ reads. reads) refl (stays_start core.disk)
    (keeps_disk core new refl (carry_all core.memory.trees new.memory.trees (ap (λ (x : Remembered). x.trees) is)) (outside_same core new (ap (λ (x : Remembered). x.poisoned) is) refl)) (λ s d stands on tidy. refl)
    (λ s d stands on. led_by new s d (OfHandle OneMore id) Done [] refl (λ sync. sync) (recount_leads s.parts.entries core new d refl (retained_counts s.parts.entries core new id new_is) on))
retained_there core m id (Err error) none is same cause =
    subst (λ (x : Remembered). Serves core (OfHandle OneMore id) (Refused error) (record core { memory = x })) (sym same) (either_serves core (OfHandle OneMore id) error tt cause)

-- the core is told by what it is and by what its memory is after the call
pub retained_serves : (old core : Held) (m : Remembered) (id : ℕ) (result : Result Unit Error) → core ≡ old → OnOk result (due_in (facts_of core.memory 0) (OfHandle OneMore id) ≡ None) → OnOk result (m ≡ retained id core.memory)
    → OnErr result (m ≡ core.memory) → IfErr result (IsDueOrMemory (due_in (facts_of core.memory 0) (OfHandle OneMore id))) → Serves old (OfHandle OneMore id) (reply_of result) (record core { memory = m })
retained_serves old core m id result same none is unchanged cause =
    subst (λ (o : Held). Serves o (OfHandle OneMore id) (reply_of result) (record core { memory = m })) same (retained_there core m id result none is unchanged cause)

-- ---- what is told of the core

-- a count that takes no memory
pub count_serves : (core : Held) (shape : CallShape) (count : Count) (reply : Reply) → shape ≡ OfCount count → HeldCount core count reply → BlamesDevice reply core.disk core.disk → OnDisk core (OfCount count) reply core
    → Owes core (OfCount count) reply core → ((s : State) → attempt s (OfCount count) reply ≡ []) → ((s : State) → IsSync s (OfCount count) reply → ⊥) → Serves core shape reply core
count_serves core shape count reply asked told blames disk owes none unsynced = subst (λ (c : CallShape). Serves core c reply core) (sym asked) (answer_serves core (OfCount count) reply (λ reads. reads) owes disk blames none unsynced)

pub number_serves : (core : Held) (shape : CallShape) (count : Count) (n : ℕ) → shape ≡ OfCount count → HeldCount core count (Number n) → Serves core shape (Number n) core
number_serves core shape count n asked told = count_serves core shape count (Number n) asked told refl refl (refl, (told, refl)) (λ s. refl) (λ s sync. sync)

pub number_owes : (core : Held) (shape : CallShape) (count : Count) (n : ℕ) → shape ≡ OfCount count → HeldCount core count (Number n) → Owes core shape (Number n) core
number_owes core shape count n asked told = subst (λ (c : CallShape). Owes core c (Number n) core) (sym asked) (refl, (told, refl))

pub flag_serves : (core : Held) (shape : CallShape) (count : Count) (flag : Bool) → shape ≡ OfCount count → HeldCount core count (Flag flag) → Serves core shape (Flag flag) core
flag_serves core shape count flag asked told = count_serves core shape count (Flag flag) asked told refl refl (refl, (told, refl)) (λ s. refl) (λ s sync. sync)

pub flag_owes : (core : Held) (shape : CallShape) (count : Count) (flag : Bool) → shape ≡ OfCount count → HeldCount core count (Flag flag) → Owes core shape (Flag flag) core
flag_owes core shape count flag asked told = subst (λ (c : CallShape). Owes core c (Flag flag) core) (sym asked) (refl, (told, refl))

pub exists_owes : (core : Held) (name given : Bytes) (exists : Bool) → given ≡ name → exists ≡ names_one (store_in core) given → Owes core (OfCount (Exists name)) (Flag exists) core
exists_owes core name given exists same is = (refl, (ap Flag (is ∙ ap (names_one (store_in core)) same), refl))

pub exists_serves : (core : Held) (name given : Bytes) (exists : Bool) → given ≡ name → exists ≡ names_one (store_in core) given → Serves core (OfCount (Exists name)) (Flag exists) core
exists_serves core name given exists same is = answer_serves core (OfCount (Exists name)) (Flag exists) (λ reads. reads) (exists_owes core name given exists same is) refl refl (λ s. refl) (λ s sync. sync)

-- ---- names

pub names_owes : (core : Held) (result : Result (Vec Bytes Global) Error) → IfOk result (λ names. IsPermutation (values (store_in core).names) names.items) → IfOk result (λ names. IsSorted byte_order names.items)
    → IsOkUnless result OutOfMemory → Owes core (OfCount shapes.Names) (names_reply result) core
names_owes core (Ok names) all sorted only = (refl, ((names, refl, all, sorted), refl))
names_owes core (Err error) all sorted only = subst (λ (e : Error). Owes core (OfCount shapes.Names) (Refused e) core) (sym only) (memory_owes core (OfCount shapes.Names) tt refl)

pub names_serves : (core : Held) (result : Result (Vec Bytes Global) Error) → IfOk result (λ names. IsPermutation (values (store_in core).names) names.items) → IfOk result (λ names. IsSorted byte_order names.items)
    → IsOkUnless result OutOfMemory → Serves core (OfCount shapes.Names) (names_reply result) core
names_serves core (Ok names) all sorted only = answer_serves core (OfCount shapes.Names) (Names names) (λ reads. reads) (names_owes core (Ok names) all sorted only) refl refl (λ s. refl) (λ s sync. sync)
names_serves core (Err error) all sorted only = subst (λ (e : Error). Serves core (OfCount shapes.Names) (Refused e) core) (sym only) (memory_serves core (OfCount shapes.Names) tt refl)
