-- What opening an index makes of a state.
use Rattle.std.proofs.Common.{◌≡◌, ◌≢◌, inl, inr, ◌<◌, ℕ, Bool, true, true≢false, false, cond, List, Option, None, Some, IfOk, IsTrue, is_some, Result, Ok, Err, sym, ◌∙◌, ap, subst, arith}
use Rattle.std.proofs.lemmas.Bool.Decides.{nat_tests}
use Rattle.std.specs.Cmp.{nat_cmp_total}
use Rattle.std.specs.FinMap.{FinMap, get, get-insert, insert}
use Rattle.std.specs.Ordering.{eq_by_cmp, nat_cmp}
use Rattle.std.specs.Result.{IsErr, IsErrAnd}
use Rattle.fjall_base.specs.Pairs.{Bytes}
use Rattle.fjall_base.specs.Store.{Create, Store, apply}
use Rattle.fjall_base.specs.declared.error.Error.{Error}
use Rattle.fjall_meta.specs.Replays.{option_pairs}
use Rattle.fjall_history.specs.Histories.{History, grown, latest, plain}
use Rattle.fjall_history.specs.Moves.{NoMove, OneMove}
use Rattle.fjall_history.specs.declared.reply.Reply.{Reply}
use Rattle.fjall_history.specs.declared.reply.Reply.TheVariants.{Number, Refused}
use Rattle.fjall_history.proofs.Views.{one_more}
use Rattle.fjall_machine.specs.Shapes.{OfCreation}
use Rattle.fjall_machine.specs.Machine.{CreatesOrFinds, State, due, present, times}
use Rattle.fjall_machine.proofs.Facts.{living_given}
use Rattle.fjall_machine.proofs.Moving.{shape_moves}
use Rattle.fjall_machine.proofs.Standing.{a_name_resolved, living_agree, next_agrees}
use Rattle.fjall_core.specs.Holding.{Held}
use Rattle.fjall_core.specs.CoreStanding.{ReadsOn, number_reply}
use Rattle.fjall_core.specs.Leaving.{LeavesStanding}
use Rattle.fjall_core.specs.Standing.{GoesOn, StandFor, CoreState, gone_on}
use Rattle.fjall_core.specs.Transactions.{Kept}
use Rattle.fjall_index_entries.specs.Index.{FieldOf}
use Rattle.fjall_index_entries.specs.Keeping.{IsIndexed}
use Rattle.fjall_index_entries.specs.declared.error.IndexError.{IndexError}
use Rattle.fjall_index_entries.specs.declared.error.IndexError.TheVariants.{Engine, IndexStale}
use Rattle.fjall_index.specs.Opening.{Arrives, ArrivesAt, AreNamed, AreStale, KeepsAny}
use Rattle.fjall_index.proofs.Creating.{creates, refused_history}
use Rattle.fjall_index.proofs.OtherCalls.{stays_of, stays_then}
use Rattle.fjall_index.proofs.Going.{moves_on, reads_go, still_goes}

-- ---- names

below_next : (core : Held) (before : Kept) (t : CoreState) → StandFor core before t → (id : ℕ) (name : Bytes) → get (present t.state).names id ≡ Some name → id < (present t.state).next
below_next core before t stands id name is =
    let r = stands.machine.remembered in
    subst (λ n. id < n) (sym (next_agrees core.memory core.catalog.next_table_id t.state r))
    (living_given core.memory.keyspaces r.lawful.keyspaces core.memory.trees id (sym (living_agree core.memory core.catalog.next_table_id t.state r id) ∙ ap is_some is))

name_stays : (names : FinMap nat_cmp Bytes) (n id : ℕ) (x name : Bytes) → id < n → get names id ≡ Some name → get (insert names n x) id ≡ Some name
name_stays names n id x name lt is =
    let other : eq_by_cmp nat_cmp id n ≡ false = grind (arith, nat_tests, lt) in
    get-insert nat_cmp_total names n x id ∙ ap (λ (b : Bool). cond b (Some x) (get names id)) other ∙ is

name_comes : (names : FinMap nat_cmp Bytes) (n : ℕ) (x : Bytes) → get (insert names n x) n ≡ Some x
name_comes names n x =
    let same : eq_by_cmp nat_cmp n n ≡ true = grind (arith, nat_tests) in
    get-insert nat_cmp_total names n x n ∙ ap (λ (b : Bool). cond b (Some x) (get names n)) same

made_store : (s t : State) (name : Bytes) (options : List Bytes) (is : t.history ≡ grown s.history (plain (Create name (option_pairs options)))) → present t ≡ apply (present s) (Create name (option_pairs options))
made_store s t name options is = ap latest is ∙ one_more s.history (plain (Create name (option_pairs options)))

found_stays : (core : Held) (before : Kept) (t : CoreState) (s : State) (name : Bytes) (options : List Bytes) (its : ℕ) → StandFor core before t → CreatesOrFinds t.state name options its s
    → (id : ℕ) (other : Bytes) → get (present t.state).names id ≡ Some other → get (present s).names id ≡ Some other
found_stays core before t s name options its stands (inl (has, named, same)) id other is = subst (λ (k : State). get (present k).names id ≡ Some other) (sym same) is
found_stays core before t s name options its stands (inr (fresh, at, made)) id other is =
    subst (λ (x : Store). get x.names id ≡ Some other) (sym (made_store t.state s name options (ap (λ (k : State). k.history) made)))
    (name_stays (present t.state).names (present t.state).next id name other (below_next core before t stands id other is) is)

found_named : (s t : State) (name : Bytes) (options : List Bytes) (id : ℕ) → CreatesOrFinds s name options id t → get (present t).names id ≡ Some name
found_named s t name options id (inl (has, named, same)) = subst (λ (k : State). get (present k).names id ≡ Some name) (sym same) named
found_named s t name options id (inr (fresh, at, made)) =
    subst (λ (x : Store). get x.names id ≡ Some name) (sym (made_store s t name options (ap (λ (k : State). k.history) made)))
    (subst (λ n. get (insert (present s).names (present s).next name) n ≡ Some name) (sym at) (name_comes (present s).names (present s).next name))

number_in : Reply → ℕ → ℕ
number_in (Number n) other = n
number_in reply other = other

-- ---- a creation

pub creation_arrives : (old new : Held) (before after : Kept) (name : Bytes) (options : List Bytes) (answer : Result ℕ Error)
    → ((t : CoreState) → StandFor old before t → ReadsOn old t.state → GoesOn old t (OfCreation name options) (number_reply answer) new after)
    → ArrivesAt old before new after (λ s. IfOk answer (λ id. get s.names id ≡ Some name))
unfolding number_in
creation_arrives old new before after name options (Err error) goes t stands reads =
    let (s, stay, on, step, led) = goes t stands reads in
    let same = refused_history t.state s name options error (due t.state (OfCreation name options)) step in (
      gone_on t s,
      record {
        stands = stay;
        reads = on;
        moves = OneMove (times t.state) (times s) (times s) (shape_moves t.state s (OfCreation name options) (Refused error) step) (NoMove (times s));
        named = λ id other is. subst (λ (h : History). get (latest h).names id ≡ Some other) (sym same) is;
      },
      tt,
    )
creation_arrives old new before after name options (Ok id) goes t stands reads =
    let (s, stay, on, step, led) = goes t stands reads in
    let its : id ≡ step.1.0 = ap (λ (r : Reply). number_in r id) step.1.1 in (
      gone_on t s,
      record {
        stands = stay;
        reads = on;
        moves = OneMove (times t.state) (times s) (times s) (shape_moves t.state s (OfCreation name options) (Number id) step) (NoMove (times s));
        named = found_stays old before t s name options step.1.0 stands step.1.2;
      },
      subst (λ n. get (present s).names n ≡ Some name) (sym its) (found_named t.state s name options step.1.0 step.1.2),
    )

pub creation_keeps : (old new : Held) (before after : Kept) (name : Bytes) (options : List Bytes) (reply : Reply)
    → ((t : CoreState) → StandFor old before t → ReadsOn old t.state → GoesOn old t (OfCreation name options) reply new after) → KeepsAny old before new after
creation_keeps old new before after name options reply goes field main index since t d all =
    let one = goes t all.stands all.reads in
    let (e, stays) = creates field main index since old new before after t d name options reply all one in
    (gone_on t one.0, e, stays)

-- ---- one behind another

pub still_arrives : (core : Held) (before : Kept) (P : Store → Type 0) → ((s : Store) → P s) → ArrivesAt core before core before P
still_arrives core before P all t stands reads = (t, record { stands = stands; reads = reads; moves = NoMove (times t.state); named = λ id name is. is }, all (present t.state))

pub still_keeps : (core : Held) (before : Kept) → KeepsAny core before core before
still_keeps core before field main index since t d all = (t, d, stays_of field main index since core before t t d d (still_goes field main index since core before t d all))

pub arrives_then : (old mid new : Held) (before amid after : Kept) (P Q R : Store → Type 0) → ArrivesAt old before mid amid P → ArrivesAt mid amid new after Q
    → ((s u : Store) → ((id : ℕ) (name : Bytes) → get s.names id ≡ Some name → get u.names id ≡ Some name) → P s → Q u → R u) → ArrivesAt old before new after R
arrives_then old mid new before amid after P Q R first second both t stands reads =
    let (u, one, p) = first t stands reads in
    let (next, two, q) = second u one.stands one.reads in (
      next,
      record {
        stands = two.stands;
        reads = two.reads;
        moves = moves_on (λ _ _. None) 0 0 0 (times t.state) (times u.state) (times next.state) one.moves two.moves;
        named = λ id name is. two.named id name (one.named id name is);
      },
      both (present u.state) (present next.state) two.named p q,
    )

pub keeps_then : (old mid new : Held) (before amid after : Kept) → KeepsAny old before mid amid → KeepsAny mid amid new after → KeepsAny old before new after
keeps_then old mid new before amid after first second field main index since t d all =
    let (u, m, one) = first field main index since t d all in
    let (next, e, two) = second field main index since u m one.keeps in
    (next, e, stays_then field main index since mid new amid after t u next d m e one two)

-- a refusal tells of no value
pub if_refused : {T : Type 0} (answer : Result T Error) (P : T → Type 0) → IsErr answer → IfOk answer P
if_refused (Ok value) P fails = absurd (true≢false (sym fails))
if_refused (Err error) P fails = tt

-- ---- reads behind it

pub left_arrives : (honest : Bool) (t next : CoreState) (mid new : Held) (kept : Kept) → IsTrue honest → LeavesStanding honest mid new → Arrives t next mid kept → Arrives t next new kept
left_arrives honest t next mid new kept h left arrives = record {
  stands = record {
    machine = left.stands next.state arrives.stands.machine;
    same = arrives.stands.same;
    sound = arrives.stands.sound;
    checked = arrives.stands.checked;
    upto = arrives.stands.upto;
    passed = arrives.stands.passed;
    keeps = arrives.stands.keeps;
  };
  reads = left.reads h next.state arrives.stands.machine arrives.reads;
  moves = arrives.moves;
  named = arrives.named;
}

pub left_keeps : (honest : Bool) (old mid new : Held) (before kept : Kept) → IsTrue honest → LeavesStanding honest mid new → KeepsAny old before mid kept → KeepsAny old before new kept
left_keeps honest old mid new before kept h left first field main index since t d all =
    let (u, m, one) = first field main index since t d all in
    let (e, goes) = reads_go field main index since honest mid new kept u m h left one.keeps in
    (u, e, stays_then field main index since mid new kept kept t u u d m e one (stays_of field main index since new kept u u m e goes))

some_same : (a b : ℕ) → Some a ≡ Some b → a ≡ b
some_same a b e = ap (λ (o : Option ℕ). elim o as (λ _. ℕ) [ None ↦ a | Some x ↦ x ]) e

-- a name is of one keyspace
one_id : (core : Held) (kept : Kept) (t : CoreState) → StandFor core kept t → (name : Bytes) (a b : ℕ) → get (present t.state).names a ≡ Some name → get (present t.state).names b ≡ Some name → a ≡ b
one_id core kept t stands name a b first second =
    let r = stands.machine.remembered in
    some_same a b (sym ((a_name_resolved core.memory core.catalog.next_table_id t.state r a name).0 first) ∙ (a_name_resolved core.memory core.catalog.next_table_id t.state r b name).0 second)

-- and a keyspace has one name
pub names_apart : (s : Store) (main index : Bytes) (ids : ℕ × ℕ) → (main ≡ index → ⊥) → AreNamed main index ids s → ids.1 ≢ ids.0
names_apart s main index ids apart named same =
    apart (ap (λ (o : Option Bytes). elim o as (λ _. Bytes) [ None ↦ main | Some x ↦ x ]) (sym named.main_is ∙ ap (get s.names) (sym same) ∙ named.index_is))

-- what is stale for the keyspaces of these names is so whichever they are
pub stale_for_all : (core : Held) (kept : Kept) (t : CoreState) (field : FieldOf) (main index : Bytes) (ids : ℕ × ℕ) → StandFor core kept t → AreNamed main index ids (present t.state)
    → (IsIndexed field ids.0 ids.1 (present t.state).maps → ⊥) → AreStale field main index (present t.state)
stale_for_all core kept t field main index ids stands named stale others are =
    let same_main = one_id core kept t stands main others.0 ids.0 are.named.main_is named.main_is in
    let same_index = one_id core kept t stands index others.1 ids.1 are.named.index_is named.index_is in
    stale (subst (λ n. IsIndexed field n ids.1 (present t.state).maps) same_main (subst (λ n. IsIndexed field others.0 n (present t.state).maps) same_index are.indexed))

pub if_no_value : {T : Type 0} (answer : Result T IndexError) (P : T → Type 0) → IsErr answer → IfOk answer P
if_no_value (Ok value) P fails = absurd (true≢false (sym fails))
if_no_value (Err error) P fails = tt

-- the same, where its transactions are as they were
pub same_arrives : (honest : Bool) (t next : CoreState) (mid new : Held) (kept after : Kept) → IsTrue honest → LeavesStanding honest mid new → after ≡ kept → Arrives t next mid kept → Arrives t next new after
same_arrives honest t next mid new kept after h left same arrives = subst (Arrives t next new) (sym same) (left_arrives honest t next mid new kept h left arrives)

pub same_keeps : (honest : Bool) (old mid new : Held) (before kept after : Kept) → IsTrue honest → LeavesStanding honest mid new → after ≡ kept → KeepsAny old before mid kept → KeepsAny old before new after
same_keeps honest old mid new before kept after h left same keeps = subst (KeepsAny old before new) (sym same) (left_keeps honest old mid new before kept h left keeps)

error_of : {T : Type 0} → Result T IndexError → IndexError → IndexError
error_of (Ok value) other = other
error_of (Err error) other = error

-- a refusal of the engine tells of no stale index
pub not_stale : {T : Type 0} (answer : Result T IndexError) (error : Error) → IsErrAnd answer (λ e. e ≡ Engine error) → answer ≡ Err IndexStale → ⊥
unfolding error_of
not_stale (Ok value) error gives told = absurd gives
not_stale (Err e) error gives told =
    let bad : Engine error ≡ IndexStale = sym gives ∙ ap (λ r. error_of r e) told in
    let never : ⊥ = cc in never

-- a refusal that is passed on is the same
pub passed_on : {T : Type 0} (answer : Result T IndexError) (error : IndexError) → IsErrAnd answer (λ e. e ≡ error) → answer ≡ Err IndexStale → error ≡ IndexStale
unfolding error_of
passed_on (Ok value) error gives told = absurd gives
passed_on (Err e) error gives told = sym gives ∙ ap (λ r. error_of r e) told
