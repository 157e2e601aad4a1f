-- Updates of a key within a transaction: what it sees behind them.
use Rattle.std.proofs.Common.{◌≡◌, ◌≢◌, ℕ, Bool, true, false, cond, Option, None, Some, Result, Ok, Err, IfErr, IfOk, OnOk, refl, sym, ap, subst, ◌∙◌}
use Rattle.std.specs.Prelude.{IsErrAnd, IsOkUnless, MatchOption}
use Rattle.std.specs.Cmp.Lexicographic.{nat_list_cmp_total}
use Rattle.std.specs.FinMap.{empty, get, get-insert, get-remove, insert, nat_cmp-IsAntisymmetric, same_map}
use Rattle.std.specs.Ordering.{eq_by_cmp, is_eq, nat_cmp, ordering_then}
use Rattle.std.specs.declared.alloc.AllocError.{AllocError}
use Rattle.std.specs.declared.cmp.Ordering.{Ordering}
use Rattle.std.specs.declared.cmp.Ordering.TheVariants.{Less, Equal, Greater}
use Rattle.std.proofs.lemmas.Slice.Eq.{bytes_eq-Decides}
use Rattle.fjall_base.specs.Pairs.{Bytes, Pairs, altered, byte_order, lookup}
use Rattle.fjall_base.specs.declared.error.Error.{Error}
use Rattle.fjall_base.specs.declared.error.Error.TheVariants.{OutOfMemory}
use Rattle.fjall_journal.specs.Ops.{value_in}
use Rattle.fjall_journal.specs.declared.op.Op.{Op}
use Rattle.fjall_tx.specs.Owns.{Own, key_of, key_order}
use Rattle.fjall_tx.proofs.Keys.{byte_tied, key_total}
use Rattle.fjall_tx.proofs.Layers.{order_within, own_get}
use Rattle.fjall_tx.proofs.Merges.{chosen}
use Rattle.fjall_history.specs.declared.ticket.View.{View}
use Rattle.fjall_engine.specs.Holding.{Held}
use Rattle.fjall_core.specs.Shown.{read_due}
use Rattle.fjall_tx.specs.Marks.{OfKey}
use Rattle.fjall_core.specs.Transactions.{Tx, having_read, having_touched, is_same_value, op_of, replace_refusal, replacing, with_own}
use Rattle.fjall_core.specs.Laid.{laid}
use Rattle.fjall_core.specs.Seeing.{Sees}
use Rattle.fjall_core.specs.Updating.{HasMade, HasValueWithin, IsMadeRefusal, IsUpdateRefusal, Making, OfMemory, OfRead, OfUpdate, OfWrite, Updated, makes_none}
use Rattle.fjall_core.proofs.Laying.{one_at}

-- ---- own writes over the map of one keyspace

-- a key has what was written there last, or what it had
laid_get : (own : Own) (id : ℕ) (below : Pairs) (key : Bytes) → get (laid own id below) key ≡ chosen value_in (get own (key_of id key)) (get below key)
laid_get own id below key =
    own_get own (insert {R = nat_cmp} empty id below) id key ∙ ap (λ (m : Pairs). chosen value_in (get own (key_of id key)) (get m key)) (one_at id below)

altered_get : (pairs : Pairs) (key : Bytes) (value : Option Bytes) (k : Bytes) → get (altered pairs key value) k ≡ cond (eq_by_cmp byte_order k key) value (get pairs k)
altered_get pairs key (Some value) k = get-insert nat_list_cmp_total pairs key value k
altered_get pairs key None k = get-remove nat_list_cmp_total pairs key k

-- a map in which a key is given what it has stays as it is
altered_same : (pairs : Pairs) (key : Bytes) → altered pairs key (lookup pairs key) ≡ pairs
altered_same pairs key =
    same_map nat_list_cmp_total byte_tied (altered pairs key (lookup pairs key)) pairs
    (λ k. altered_get pairs key (get pairs key) k ∙ by k (byte_order k key) refl)
  where
    by : (k : Bytes) (r : Ordering) → byte_order k key ≡ r → cond (is_eq r) (get pairs key) (get pairs k) ≡ get pairs k
    by k Less e = refl
    by k Equal e = ap (λ (q : Bytes). get pairs q) (sym (byte_tied k key e))
    by k Greater e = refl

-- one more own write of a key alters the map of its keyspace there
laid_here : (own : Own) (id : ℕ) (key : Bytes) (op : Op) (below : Pairs) → laid (insert own (key_of id key) op) id below ≡ altered (laid own id below) key (value_in op)
laid_here own id key op below =
    same_map nat_list_cmp_total byte_tied (laid (insert own (key_of id key) op) id below) (altered (laid own id below) key (value_in op))
    (λ k.
    laid_get (insert own (key_of id key) op) id below k
    ∙ ap (λ (found : Option Op). chosen value_in found (get below k)) (get-insert key_total own (key_of id key) op (key_of id k) ∙ within k)
    ∙ by k (eq_by_cmp byte_order k key)
    ∙ ap (λ (rest : Option Bytes). cond (eq_by_cmp byte_order k key) (value_in op) rest) (sym (laid_get own id below k))
    ∙ sym (altered_get (laid own id below) key (value_in op) k))
  where
    within : (k : Bytes) → cond (eq_by_cmp key_order (key_of id k) (key_of id key)) (Some op) (get own (key_of id k)) ≡ cond (eq_by_cmp byte_order k key) (Some op) (get own (key_of id k))
    within k = ap (λ (r : Ordering). cond (is_eq r) (Some op) (get own (key_of id k))) (order_within (key_of id k) (key_of id key) refl)

    by : (k : Bytes) (b : Bool) → chosen value_in (cond b (Some op) (get own (key_of id k))) (get below k) ≡ cond b (value_in op) (chosen value_in (get own (key_of id k)) (get below k))
    by k true = refl
    by k false = refl

-- and leaves those of other keyspaces
laid_elsewhere : (own : Own) (id : ℕ) (key : Bytes) (op : Op) (i : ℕ) (below : Pairs) → i ≢ id → laid (insert own (key_of id key) op) i below ≡ laid own i below
laid_elsewhere own id key op i below other =
    same_map nat_list_cmp_total byte_tied (laid (insert own (key_of id key) op) i below) (laid own i below)
    (λ k.
    laid_get (insert own (key_of id key) op) i below k
    ∙ ap (λ (found : Option Op). chosen value_in found (get below k)) (get-insert key_total own (key_of id key) op (key_of i k) ∙ by k (nat_cmp i id) refl)
    ∙ sym (laid_get own i below k))
  where
    by : (k : Bytes) (r : Ordering) → nat_cmp i id ≡ r → cond (is_eq (ordering_then r (byte_order k key))) (Some op) (get own (key_of i k)) ≡ get own (key_of i k)
    by k Less e = refl
    by k Equal e = absurd (other (nat_cmp-IsAntisymmetric i id e))
    by k Greater e = refl

-- ---- what a key becomes

value_of_op : (value : Option Bytes) → value_in (op_of value) ≡ value
value_of_op None = refl
value_of_op (Some value) = refl

same_is : (old new : Option Bytes) → is_same_value old new ≡ true → old ≡ new
same_is None None e = refl
same_is None (Some new) e = absurd (cc e)
same_is (Some old) None e = absurd (cc e)
same_is (Some old) (Some new) e = ap Some ((bytes_eq-Decides old new).0 e)

abbrev become : Bool → Tx → ℕ → Bytes → Option Bytes → Tx
become b tx id key new = cond b (having_touched tx id key) (with_own tx id key (op_of new))

-- the key's keyspace is seen with the key so
seen_here : (honest : Bool) (left : Held) (to : View) (tx : Tx) (id : ℕ) (key : Bytes) (found new : Option Bytes) (map : Pairs) → Sees honest left to tx.own id map → found ≡ lookup map key
    → (b : Bool) → is_same_value found new ≡ b → Sees honest left to (become b tx id key new).own id (altered map key new)
seen_here honest left to tx id key found new map seen is true e =
    let value : lookup map key ≡ new = sym is ∙ same_is found new e in
    subst (λ (m : Pairs). Sees honest left to tx.own id m) (sym (altered_same map key) ∙ ap (λ (v : Option Bytes). altered map key v) value) seen
seen_here honest left to tx id key found new map (below, shows, laid_is) is false e = (
  below,
  shows,
  ap (λ (m : Pairs). altered m key new) laid_is ∙ ap (λ (v : Option Bytes). altered (laid tx.own id below) key v) (sym (value_of_op new)) ∙ sym (laid_here tx.own id key (op_of new) below),
)

-- and others as before
seen_elsewhere : (honest : Bool) (left : Held) (to : View) (tx : Tx) (id : ℕ) (key : Bytes) (new : Option Bytes) (i : ℕ) (map : Pairs) → i ≢ id → Sees honest left to tx.own i map
    → (b : Bool) → Sees honest left to (become b tx id key new).own i map
seen_elsewhere honest left to tx id key new i map other seen true = seen
seen_elsewhere honest left to tx id key new i map other (below, shows, is) false = (below, shows, is ∙ sym (laid_elsewhere tx.own id key (op_of new) i below other))

-- A key was read, which had this value: nothing refused it, it is marked, and all is still seen that was.
pub record WasRead (honest : Bool) (core : Held) (from : View) (tx mid : Tx) (id : ℕ) (key : Bytes) (found : Option Bytes) (left : Held) (to : View) : Type 0 where
  pub due : read_due core from id ≡ None
  pub shown : (own : Own) (i : ℕ) (map : Pairs) → Sees honest core from own i map → Sees honest left to own i map
  pub is : HasValueWithin honest core from tx.own id key found
  pub marked : mid ≡ having_read tx (OfKey id key)

pub read_as : (honest : Bool) (core left : Held) (from to : View) (tx mid : Tx) (id : ℕ) (name key : Bytes) (found : Option Bytes) → name ≡ key
    → WasRead honest core from tx mid id name found left to → WasRead honest core from tx mid id key found left to
read_as honest core left from to tx mid id name key found named = subst (λ (k : Bytes). WasRead honest core from tx mid id k found left to) named

-- what is made of a key that was read is an update
pub is_updated : (makes : Making) (honest : Bool) (core left : Held) (from to : View) (tx mid done after : Tx) (id : ℕ) (key : Bytes) (found new : Option Bytes)
    → WasRead honest core from tx mid id key found left to → after ≡ done → HasMade makes mid id key found new done → Updated makes honest core from tx id key found new left to after
is_updated makes honest core left from to tx mid done after id key found new read settled made = record {
  due = read.due;
  is = read.is;
  made = record { made = made.made; writable = made.writable; left = left_is };
  here = λ map seen. subst (λ (t : Tx). Sees honest left to t.own id (altered map key new)) (sym left_is)
      (seen_here honest left to (having_read tx (OfKey id key)) id key found new map (read.shown tx.own id map seen) (read.is map seen) (is_same_value found new) refl);
  others = λ i map other seen. subst (λ (t : Tx). Sees honest left to t.own i map) (sym left_is)
      (seen_elsewhere honest left to (having_read tx (OfKey id key)) id key new i map other (read.shown tx.own i map seen) (is_same_value found new));
}
  where
    left_is : after ≡ replacing (having_read tx (OfKey id key)) id key found new
    left_is = settled ∙ made.left ∙ ap (λ (t : Tx). replacing t id key found new) read.marked

pub is_updated_so : (makes : Making) (honest : Bool) (core left : Held) (from to : View) (tx mid done after : Tx) (id : ℕ) (key : Bytes) (found : Option Bytes) (result : Result (Option Bytes) Error)
    → WasRead honest core from tx mid id key found left to → OnOk result (after ≡ done) → IfOk result (λ new. HasMade makes mid id key found new done)
    → IfOk result (λ new. (before : Option Bytes) × Updated makes honest core from tx id key before new left to after)
is_updated_so makes honest core left from to tx mid done after id key found (Ok new) read settled made = (found, is_updated makes honest core left from to tx mid done after id key found new read settled made)
is_updated_so makes honest core left from to tx mid done after id key found (Err error) read settled made = tt

-- ---- refusals

-- what refuses the write of what was made refuses the making
refused_so : (makes : Making) (key : Bytes) (found new : Option Bytes) (error : Error) → makes found (Ok new) → (due : Option Error) → replace_refusal key found new ≡ due
    → MatchOption due (error ≡ OutOfMemory) (λ e. ◌≡◌ {A = Result (Unit {0}) Error} (Err error) (Err e)) → IsMadeRefusal makes key found error
refused_so makes key found new error made None is memory = OfMemory memory
refused_so makes key found new error made (Some due) is told = let same : due ≡ error = cc in OfWrite new made (is ∙ ap Some same)

pub made_refused : (makes : Making) (key : Bytes) (found new : Option Bytes) (result : Result (Unit {0}) Error) → makes found (Ok new)
    → MatchOption (replace_refusal key found new) (IsOkUnless result OutOfMemory) (λ error. result ≡ Err error) → IfErr result (IsMadeRefusal makes key found)
made_refused makes key found new (Ok done) made refused = tt
made_refused makes key found new (Err error) made refused = refused_so makes key found new error made (replace_refusal key found new) refl refused

-- and that the update
pub is_refused : (makes : Making) (honest : Bool) (core left : Held) (from to : View) (tx mid : Tx) (id : ℕ) (key : Bytes) (found : Option Bytes) {T : Type 0} (result : Result T Error)
    → WasRead honest core from tx mid id key found left to → IfErr result (IsMadeRefusal makes key found) → IfErr result (IsUpdateRefusal makes honest core from tx.own id key left)
is_refused makes honest core left from to tx mid id key found (Ok done) read refused = tt
is_refused makes honest core left from to tx mid id key found (Err error) read refused = OfUpdate read.due found read.is refused

-- an error that is passed on
pub passed : {T : Type 0} (P : Error → Type 0) (result : Result T Error) (error : Error) → P error → IsErrAnd result (λ e. e ≡ error) → IfErr result P
passed P (Ok value) error holds is = tt
passed P (Err e) error holds is = subst P (sym is) holds

-- ---- a function that makes none of each value

abbrev pub MakesNone : Making → Type 0
MakesNone makes = (value : Option Bytes) (made : Result (Option Bytes) AllocError) → makes value made → made ≡ Ok None

-- a key that is given what it makes is taken
pub is_taken : (makes : Making) (honest : Bool) (core left : Held) (from to : View) (tx after : Tx) (id : ℕ) (key : Bytes) (result : Result (Option Bytes) Error) → MakesNone makes
    → IfOk result (λ found. (new : Option Bytes) × Updated makes honest core from tx id key found new left to after) → IfOk result (λ found. Updated makes_none honest core from tx id key found None left to after)
is_taken makes honest core left from to tx after id key (Err error) none updated = tt
is_taken makes honest core left from to tx after id key (Ok found) none (new, updated) =
    let gone : new ≡ None = let is = none found (Ok new) updated.made.made in cc in
    let there = subst (λ (v : Option Bytes). Updated makes honest core from tx id key found v left to after) gone updated in
    record { due = there.due; is = there.is; made = record { made = refl; writable = there.made.writable; left = there.made.left }; here = there.here; others = there.others }

none_refused : (makes : Making) (key : Bytes) (found : Option Bytes) (error : Error) → MakesNone makes → IsMadeRefusal makes key found error → IsMadeRefusal makes_none key found error
none_refused makes key found error none (OfMemory memory) = OfMemory memory
none_refused makes key found error none (OfWrite new made refused) = OfWrite new (none found (Ok new) made) refused

take_refused : (makes : Making) (honest : Bool) (core left : Held) (from : View) (own : Own) (id : ℕ) (key : Bytes) (error : Error) → MakesNone makes
    → IsUpdateRefusal makes honest core from own id key left error → IsUpdateRefusal makes_none honest core from own id key left error
take_refused makes honest core left from own id key error none (OfRead refused) = OfRead refused
take_refused makes honest core left from own id key error none (OfUpdate due found is refused) = OfUpdate due found is (none_refused makes key found error none refused)

pub is_take_refused : (makes : Making) (honest : Bool) (core left : Held) (from : View) (own : Own) (id : ℕ) (key : Bytes) {T : Type 0} (result : Result T Error) → MakesNone makes
    → IfErr result (IsUpdateRefusal makes honest core from own id key left) → IfErr result (IsUpdateRefusal makes_none honest core from own id key left)
is_take_refused makes honest core left from own id key (Ok done) none refused = tt
is_take_refused makes honest core left from own id key (Err error) none refused = take_refused makes honest core left from own id key error none refused
