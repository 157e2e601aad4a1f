-- Calls within a transaction, by the one call of the core that each comes to.
use Rattle.std.proofs.Common.{◌≡◌, ◌⊎◌, inl, inr, ℕ, Bool, IsTrue, [], ◌∷◌, Option, Some, None, Result, Ok, Err, OnErr, OnOk, refl, sym, ap, subst}
use Rattle.std.specs.Prelude.{IfErr, IfOk, IsOkUnless, MatchOption}
use Rattle.fjall_base.specs.Limits.{item_refusal}
use Rattle.fjall_base.specs.Pairs.{Bytes}
use Rattle.fjall_base.specs.declared.error.Error.{Error}
use Rattle.fjall_base.specs.declared.error.Error.TheVariants.{OutOfMemory}
use Rattle.fjall_journal.specs.Ops.{bytes_in}
use Rattle.fjall_journal.specs.declared.op.Op.{Op}
use Rattle.fjall_journal.specs.declared.persist_mode.PersistMode.{PersistMode}
use Rattle.fjall_tx.specs.Marks.{OfKey}
use Rattle.fjall_history.specs.Queries.{Get}
use Rattle.fjall_history.specs.declared.reply.Reply.{Reply}
use Rattle.fjall_history.specs.declared.reply.Reply.TheVariants.{Done, Refused, Value}
use Rattle.fjall_machine.specs.Machine.{State}
use Rattle.fjall_machine.specs.Shapes.{shape_of}
use Rattle.fjall_machine.specs.declared.call.Call.{Call}
use Rattle.fjall_core.specs.Holding.{Held}
use Rattle.fjall_core.specs.CoreStanding.{Owes, Serves, reply_of, value_reply}
use Rattle.fjall_core.specs.Transactions.{Tx, having_read, replace_refusal, replacing, with_own}
use Rattle.fjall_calls.specs.Acting.{AnswersWithin, AsksFor, AsksNothing, Gets, IsNotUpdated, IsUnread, IsUnwritable, MayRunOut, Persists, RunsOut, Updates, Writes, call_for, query_of, update_of, update_reply}
use Rattle.fjall_calls.specs.declared.call.Within.{Within}
use Rattle.fjall_calls.specs.declared.call.Within.TheVariants as within
use Rattle.fjall_calls.specs.Serving.{ActsOn, Fetches, FoundWithin, IsReplyIn, LooksWithin, MakesCoreCalls}
use Rattle.fjall_calls.specs.Serving as serving
use Rattle.fjall_calls.proofs.Jobs.{kept_still}

-- ---- calls of the core

-- one call of the core
pub one_made : (honest : Bool) (core left : Held) (call : Call) (reply : Reply) → (IsTrue honest → Serves core (shape_of call) reply left) → Owes core (shape_of call) reply left
    → MakesCoreCalls honest core (call ∷ []) (reply ∷ []) left
one_made honest core left call reply serves owes = record { serves = λ h. (left, serves h, refl); owes = (left, owes, refl) }

-- none
pub none_made : (honest : Bool) (core : Held) → MakesCoreCalls honest core [] [] core
none_made honest core = record { serves = λ h. refl; owes = refl }

-- ---- a key that was looked for

module _ (honest : Bool) (core left : Held) (tx : Tx) (call : Within) (id : ℕ) (key : Bytes) (is : query_of call ≡ Some (id, Get key)) where
  -- what came of the look, as what comes of the call
  acted : (reply : Reply) (after : Tx) (result : Result (Option Bytes) Error) (look : LooksWithin honest core tx id key result left) → IsReplyIn call reply
      → ((s : State) → FoundWithin s tx id key look.reply result → AnswersWithin s tx call (look.reply ∷ []) reply after) → ActsOn honest core tx call reply left after
  acted reply after result look fits answers = record {
    made = call_for tx id (Get key) ∷ [];
    told = look.reply ∷ [];
    makes = look.makes;
    keeps = look.keeps;
    fits = fits;
    acts = λ h s stands reads.
        let (t, stay, on, step, found) = look.finds h s stands reads in
        (t, stay, on, record { asks = AsksFor id (Get key) is look.reply t step; answers = answers s found });
  }

  failed_by : (s : State) (reply : Reply) (error : Error) → MayRunOut call (reply ∷ []) → FoundWithin s tx id key reply (Err error) → AnswersWithin s tx call (reply ∷ []) (Refused error) tx
  failed_by s _ _ may (serving.IsRefused error) = IsUnread call error
  failed_by s _ _ may (serving.RunsOut reply fine) = RunsOut call (reply ∷ []) fine may

  -- it was refused
  pub look_failed : (error : Error) → ((r : Reply) → MayRunOut call (r ∷ [])) → LooksWithin honest core tx id key (Err error) left → ActsOn honest core tx call (Refused error) left tx
  look_failed error may look = acted (Refused error) tx (Err error) look tt (λ s found. failed_by s look.reply error (may look.reply) found)

  out_by : (s : State) (reply : Reply) (value : Option Bytes) → MayRunOut call (reply ∷ []) → FoundWithin s tx id key reply (Ok value) → AnswersWithin s tx call (reply ∷ []) (Refused OutOfMemory) tx
  out_by s _ _ may (serving.IsSeen reply fine found sees) = RunsOut call (reply ∷ []) fine may

  -- memory ran out behind it
  pub look_ran_out : (value : Option Bytes) → ((r : Reply) → MayRunOut call (r ∷ [])) → LooksWithin honest core tx id key (Ok value) left → ActsOn honest core tx call (Refused OutOfMemory) left tx
  look_ran_out value may look = acted (Refused OutOfMemory) tx (Ok value) look tt (λ s found. out_by s look.reply value (may look.reply) found)

  updated_by : (s : State) (reply : Reply) (value new : Option Bytes) → update_of call ≡ Some (id, key, new) → replace_refusal key value new ≡ None → FoundWithin s tx id key reply (Ok value)
      → AnswersWithin s tx call (reply ∷ []) (update_reply call value) (replacing (having_read tx (OfKey id key)) id key value new)
  updated_by s _ _ new updates fits (serving.IsSeen reply fine found sees) = Updates call id key new found updates reply fine sees fits

  -- the key was updated
  pub look_updated : (value new : Option Bytes) → update_of call ≡ Some (id, key, new) → replace_refusal key value new ≡ None → IsReplyIn call (update_reply call value)
      → LooksWithin honest core tx id key (Ok value) left → ActsOn honest core tx call (update_reply call value) left (replacing (having_read tx (OfKey id key)) id key value new)
  look_updated value new updates fits kind look =
      acted (update_reply call value) (replacing (having_read tx (OfKey id key)) id key value new) (Ok value) look kind (λ s found. updated_by s look.reply value new updates fits found)

  not_updated_by : (s : State) (reply : Reply) (value new : Option Bytes) (error : Error) → update_of call ≡ Some (id, key, new) → replace_refusal key value new ≡ Some error → FoundWithin s tx id key reply (Ok value)
      → AnswersWithin s tx call (reply ∷ []) (Refused error) tx
  not_updated_by s _ _ new error updates due (serving.IsSeen reply fine found sees) = IsNotUpdated call id key new found updates reply fine sees error due

  -- what it was to become is refused
  pub look_not_updated : (value new : Option Bytes) (error : Error) → update_of call ≡ Some (id, key, new) → replace_refusal key value new ≡ Some error
      → LooksWithin honest core tx id key (Ok value) left → ActsOn honest core tx call (Refused error) left tx
  look_not_updated value new error updates due look = acted (Refused error) tx (Ok value) look tt (λ s found. not_updated_by s look.reply value new error updates due found)

-- a value was read
got_by : (s : State) (tx : Tx) (id : ℕ) (key : Bytes) (reply : Reply) (value : Option Bytes) → FoundWithin s tx id key reply (Ok value)
    → AnswersWithin s tx (within.Get id key) (reply ∷ []) (Value value) (having_read tx (OfKey id key))
got_by s tx id key _ _ (serving.IsSeen reply fine found sees) = Gets id key reply (Value found) fine (ap (λ (v : Option Bytes). Value v) sees)

pub look_got : (honest : Bool) (core left : Held) (tx : Tx) (id : ℕ) (key : Bytes) (value : Option Bytes) → LooksWithin honest core tx id key (Ok value) left
    → ActsOn honest core tx (within.Get id key) (Value value) left (having_read tx (OfKey id key))
look_got honest core left tx id key value look =
    acted honest core left tx (within.Get id key) id key refl (Value value) (having_read tx (OfKey id key)) (Ok value) look tt (λ s found. got_by s tx id key look.reply value found)

-- ---- own writes

-- what needs nothing of the core
unasked : (honest : Bool) (core : Held) (tx : Tx) (call : Within) (reply : Reply) (after : Tx) → IsReplyIn call reply → ((s : State) → AnswersWithin s tx call [] reply after) → ActsOn honest core tx call reply core after
unasked honest core tx call reply after fits answers = record {
  made = [];
  told = [];
  makes = none_made honest core;
  keeps = kept_still core core refl;
  fits = fits;
  acts = λ h s stands reads. (s, stands, reads, record { asks = AsksNothing; answers = answers s });
}

-- an own write
pub write_acts : (honest : Bool) (core : Held) (tx after : Tx) (id : ℕ) (key : Bytes) (op : Op) (result : Result Unit Error) → OnOk result (after ≡ with_own tx id key op) → OnErr result (after ≡ tx)
    → MatchOption (item_refusal key (bytes_in op)) (IsOkUnless result OutOfMemory) (λ error. result ≡ Err error) → ActsOn honest core tx (within.Write id key op) (reply_of result) core after
write_acts honest core tx after id key op result ok err refused = by (item_refusal key (bytes_in op)) refl refused result refl
  where
    by : (o : Option Error) → item_refusal key (bytes_in op) ≡ o → MatchOption o (IsOkUnless result OutOfMemory) (λ error. result ≡ Err error) → (r : Result Unit Error) → result ≡ r
        → ActsOn honest core tx (within.Write id key op) (reply_of result) core after
    by None free only (Ok u) is =
        let same : after ≡ with_own tx id key op = subst (λ (r : Result Unit Error). OnOk r (after ≡ with_own tx id key op)) is ok in
        subst (λ (r : Result Unit Error). ActsOn honest core tx (within.Write id key op) (reply_of r) core after) (sym is)
        (subst (λ (t : Tx). ActsOn honest core tx (within.Write id key op) Done core t) (sym same) (unasked honest core tx (within.Write id key op) Done (with_own tx id key op) tt (λ s. Writes id key op free)))
    by None free only (Err error) is =
        let same : after ≡ tx = subst (λ (r : Result Unit Error). OnErr r (after ≡ tx)) is err in
        let out : error ≡ OutOfMemory = subst (λ (r : Result Unit Error). IsOkUnless r OutOfMemory) is only in
        subst (λ (r : Result Unit Error). ActsOn honest core tx (within.Write id key op) (reply_of r) core after) (sym is)
        (subst (λ (e : Error). ActsOn honest core tx (within.Write id key op) (Refused e) core after) (sym out)
        (subst (λ (t : Tx). ActsOn honest core tx (within.Write id key op) (Refused OutOfMemory) core t) (sym same)
        (unasked honest core tx (within.Write id key op) (Refused OutOfMemory) tx tt (λ s. RunsOut (within.Write id key op) [] tt free))))
    by (Some error) due told r is =
        let same : after ≡ tx = subst (λ (r : Result Unit Error). OnErr r (after ≡ tx)) told err in
        subst (λ (r : Result Unit Error). ActsOn honest core tx (within.Write id key op) (reply_of r) core after) (sym told)
        (subst (λ (t : Tx). ActsOn honest core tx (within.Write id key op) (Refused error) core t) (sym same)
        (unasked honest core tx (within.Write id key op) (Refused error) tx tt (λ s. IsUnwritable id key op error due)))

-- how a commit is persisted
pub persists : (honest : Bool) (core : Held) (tx : Tx) (mode : Option PersistMode) → ActsOn honest core tx (within.Durability mode) Done core (record tx { mode = mode })
persists honest core tx mode = unasked honest core tx (within.Durability mode) Done (record tx { mode = mode }) tt (λ s. Persists mode)

-- ---- updates

-- a key was given another value, and that of before is told
pub fetch_done : (honest : Bool) (core left : Held) (tx after : Tx) (call : Within) (id : ℕ) (key : Bytes) (new : Option Bytes) → Fetches call id key new → (found : Option Bytes)
    → LooksWithin honest core tx id key (Ok found) left → after ≡ replacing (having_read tx (OfKey id key)) id key found new → replace_refusal key found new ≡ None → ActsOn honest core tx call (Value found) left after
fetch_done honest core left tx after call id key new fetches found look is fits =
    subst (λ (t : Tx). ActsOn honest core tx call (Value found) left t) (sym is)
    (subst (λ (r : Reply). ActsOn honest core tx call r left (replacing (having_read tx (OfKey id key)) id key found new)) (fetches.answers found)
    (look_updated honest core left tx call id key fetches.queries found new fetches.updates fits (subst (λ (r : Reply). IsReplyIn call r) (sym (fetches.answers found)) (fetches.fits found)) look))

-- it was refused, or memory ran out
pub fetch_refused : (honest : Bool) (core left : Held) (tx after : Tx) (call : Within) (id : ℕ) (key : Bytes) (new : Option Bytes) → Fetches call id key new → (found : Option Bytes) (error : Error)
    → LooksWithin honest core tx id key (Ok found) left → after ≡ tx → (error ≡ OutOfMemory) ⊎ (replace_refusal key found new ≡ Some error) → ActsOn honest core tx call (Refused error) left after
fetch_refused honest core left tx after call id key new fetches found error look is (inl out) =
    subst (λ (t : Tx). ActsOn honest core tx call (Refused error) left t) (sym is)
    (subst (λ (e : Error). ActsOn honest core tx call (Refused e) left tx) (sym out) (look_ran_out honest core left tx call id key fetches.queries found fetches.may look))
fetch_refused honest core left tx after call id key new fetches found error look is (inr due) =
    subst (λ (t : Tx). ActsOn honest core tx call (Refused error) left t) (sym is) (look_not_updated honest core left tx call id key fetches.queries found new error fetches.updates due look)

-- a key was given another value, which is told
pub update_acts : (honest : Bool) (core left : Held) (tx after : Tx) (id : ℕ) (key : Bytes) (new found : Option Bytes) (result : Result (Option Bytes) Error) → LooksWithin honest core tx id key (Ok found) left
    → IfOk result (λ answer. answer ≡ new) → OnOk result (after ≡ replacing (having_read tx (OfKey id key)) id key found new) → OnErr result (after ≡ tx) → OnOk result (replace_refusal key found new ≡ None)
    → IfErr result (λ error. (error ≡ OutOfMemory) ⊎ (replace_refusal key found new ≡ Some error)) → ActsOn honest core tx (within.UpdateFetch id key new) (value_reply result) left after
update_acts honest core left tx after id key new found (Ok answer) look same ok unchanged fits cause =
    subst (λ (t : Tx). ActsOn honest core tx (within.UpdateFetch id key new) (Value answer) left t) (sym ok)
    (subst (λ (v : Option Bytes). ActsOn honest core tx (within.UpdateFetch id key new) (Value v) left (replacing (having_read tx (OfKey id key)) id key found new)) (sym same)
    (look_updated honest core left tx (within.UpdateFetch id key new) id key refl found new refl fits tt look))
update_acts honest core left tx after id key new found (Err error) look same ok unchanged fits (inl out) =
    subst (λ (t : Tx). ActsOn honest core tx (within.UpdateFetch id key new) (Refused error) left t) (sym unchanged)
    (subst (λ (e : Error). ActsOn honest core tx (within.UpdateFetch id key new) (Refused e) left tx) (sym out)
    (look_ran_out honest core left tx (within.UpdateFetch id key new) id key refl found (λ r. tt) look))
update_acts honest core left tx after id key new found (Err error) look same ok unchanged fits (inr due) =
    subst (λ (t : Tx). ActsOn honest core tx (within.UpdateFetch id key new) (Refused error) left t) (sym unchanged)
    (look_not_updated honest core left tx (within.UpdateFetch id key new) id key refl found new error refl due look)
