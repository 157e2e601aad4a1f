-- Reads of the core within a transaction, with its own writes laid over what was found.
use Rattle.std.proofs.Common.{◌≡◌, ℕ, Bool, IsTrue, [], ◌∷◌, Option, Result, Ok, Err, IfOk, Vec, Global, refl, sym, ap, ◌∙◌, subst}
use Rattle.std.specs.Prelude.{IsOkUnless, OnErr, OnOk}
use Rattle.std.specs.FinMap.{FinMap}
use Rattle.std.specs.Ordering.{nat_cmp}
use Rattle.fjall_base.specs.Pairs.{Bytes, KeyRange, lookup, page, pairs_between}
use Rattle.fjall_base.specs.Pairs as pairs
use Rattle.fjall_base.specs.Store.{map_at}
use Rattle.fjall_base.specs.declared.error.Error.{Error}
use Rattle.fjall_base.specs.declared.error.Error.TheVariants.{OutOfMemory}
use Rattle.fjall_tx.specs.Marks.{OfRange}
use Rattle.fjall_tx.specs.Owns.{own_written, wanted}
use Rattle.fjall_history.specs.Queries.{Get, Page}
use Rattle.fjall_history.specs.declared.reply.Reply.{Reply}
use Rattle.fjall_history.specs.declared.reply.Reply.TheVariants.{Pairs, Refused, Value}
use Rattle.fjall_history.specs.declared.ticket.View.TheVariants.{At}
use Rattle.fjall_machine.specs.Machine.{State, StepOf, maps_in}
use Rattle.fjall_machine.specs.Shapes.{OfRead}
use Rattle.fjall_machine.specs.declared.call.Call.TheVariants.{GetAt, PageAt}
use Rattle.fjall_core.specs.Holding.{Held}
use Rattle.fjall_core.specs.CoreStanding.{Owes, Serves, pairs_reply, value_reply}
use Rattle.fjall_core.specs.Transactions.{Tx, having_read}
use Rattle.fjall_calls.specs.Acting.{AnswersWithin, AsksFor, AsksNothing, IsUnread, Pages, RunsOut}
use Rattle.fjall_calls.specs.declared.call.Within.TheVariants as within
use Rattle.fjall_calls.specs.Serving.{ActsOn, FoundWithin, IsRefused, IsSeen, LooksWithin}
use Rattle.fjall_calls.specs.Serving as serving
use Rattle.fjall_calls.proofs.Acting.{none_made, one_made}
use Rattle.fjall_calls.proofs.Jobs.{kept_on, kept_still}

-- ---- keys

value_is : (a b : Option Bytes) → Value a ≡ Value b → a ≡ b
value_is a b is = cc

module _ (honest : Bool) (core left : Held) (tx : Tx) (id : ℕ) (key : Bytes) where
  -- what the core's one call told, as what is found
  looks_by : (reply : Reply) (result : Result (Option Bytes) Error) → (IsTrue honest → Serves core (OfRead (At tx.ticket) id (Get key)) reply left) → Owes core (OfRead (At tx.ticket) id (Get key)) reply left
      → ((s t : State) → StepOf s (OfRead (At tx.ticket) id (Get key)) reply t → FoundWithin s tx id key reply result) → LooksWithin honest core tx id key result left
  looks_by reply result serves owes finds = record {
    reply = reply;
    makes = one_made honest core left (GetAt (At tx.ticket) id key) reply serves owes;
    keeps = kept_on core left (OfRead (At tx.ticket) id (Get key)) reply tt owes;
    finds = λ h s stands reads.
        let (t, stay, on, step, leads) = (serves h).goes_on s stands reads in
        (t, stay, on, step, finds s t step);
  }

  -- the core refused
  pub look_refused : (error : Error) → (IsTrue honest → Serves core (OfRead (At tx.ticket) id (Get key)) (value_reply (Err error)) left) → Owes core (OfRead (At tx.ticket) id (Get key)) (value_reply (Err error)) left
      → LooksWithin honest core tx id key (Err error) left
  look_refused error serves owes = looks_by (Refused error) (Err error) serves owes (λ s t step. IsRefused error)

  seen_of : (value : Option Bytes) (result : Result (Option Bytes) Error)
      → ((maps : FinMap nat_cmp pairs.Pairs) → value ≡ lookup (map_at maps id) key → IfOk result (λ seen. seen ≡ lookup (map_at (own_written maps tx.own) id) key)) → IsOkUnless result OutOfMemory
      → (s t : State) → StepOf s (OfRead (At tx.ticket) id (Get key)) (Value value) t → FoundWithin s tx id key (Value value) result
  seen_of value (Ok seen) ok only s t step = IsSeen (Value value) tt seen (ok (maps_in s (At tx.ticket)) (value_is value (lookup (map_at (maps_in s (At tx.ticket)) id) key) step.1.0))
  seen_of value (Err error) ok only s t step = subst (λ (e : Error). FoundWithin s tx id key (Value value) (Err e)) (sym only) (serving.RunsOut (Value value) tt)

  -- own writes were looked up
  pub look_seen : (value : Option Bytes) (result : Result (Option Bytes) Error)
      → (IsTrue honest → Serves core (OfRead (At tx.ticket) id (Get key)) (value_reply (Ok value)) left) → Owes core (OfRead (At tx.ticket) id (Get key)) (value_reply (Ok value)) left
      → ((maps : FinMap nat_cmp pairs.Pairs) → value ≡ lookup (map_at maps id) key → IfOk result (λ seen. seen ≡ lookup (map_at (own_written maps tx.own) id) key)) → IsOkUnless result OutOfMemory
      → LooksWithin honest core tx id key result left
  look_seen value result serves owes ok only = looks_by (Value value) result serves owes (seen_of value result ok only)

-- ---- pages

pairs_are : (a b : Vec (Bytes × Bytes) Global) → Pairs a ≡ Pairs b → a ≡ b
pairs_are a b is = cc

module _ (honest : Bool) (core left : Held) (tx : Tx) (id : ℕ) (range : KeyRange) (back : Bool) (max : ℕ) where
  -- what the core's one call told, as what comes of the call
  page_by : (told reply : Reply) (after : Tx) → (IsTrue honest → Serves core (OfRead (At tx.ticket) id (Page range back (wanted tx.own id range max))) told left) → Owes core (OfRead (At tx.ticket) id (Page range back (wanted tx.own id range max))) told left
      → serving.IsReplyIn (within.Page id range back max) reply
      → ((s t : State) → StepOf s (OfRead (At tx.ticket) id (Page range back (wanted tx.own id range max))) told t → AnswersWithin s tx (within.Page id range back max) (told ∷ []) reply after)
      → ActsOn honest core tx (within.Page id range back max) reply left after
  page_by told reply after serves owes fits answers = record {
    made = PageAt (At tx.ticket) id range back (wanted tx.own id range max) ∷ [];
    told = told ∷ [];
    makes = one_made honest core left (PageAt (At tx.ticket) id range back (wanted tx.own id range max)) told serves owes;
    keeps = kept_on core left (OfRead (At tx.ticket) id (Page range back (wanted tx.own id range max))) told tt owes;
    fits = fits;
    acts = λ h s stands reads.
        let (t, stay, on, step, leads) = (serves h).goes_on s stands reads in
        (t, stay, on, record { asks = AsksFor id (Page range back max) refl told t step; answers = answers s t step });
  }

  -- the core refused
  pub page_refused : (error : Error) → (IsTrue honest → Serves core (OfRead (At tx.ticket) id (Page range back (wanted tx.own id range max))) (pairs_reply (Err error)) left)
      → Owes core (OfRead (At tx.ticket) id (Page range back (wanted tx.own id range max))) (pairs_reply (Err error)) left → ActsOn honest core tx (within.Page id range back max) (Refused error) left tx
  page_refused error serves owes = page_by (Refused error) (Refused error) tx serves owes tt (λ s t step. IsUnread (within.Page id range back max) error)

  -- memory ran out behind it
  pub page_short : (found : Vec (Bytes × Bytes) Global) → (IsTrue honest → Serves core (OfRead (At tx.ticket) id (Page range back (wanted tx.own id range max))) (pairs_reply (Ok found)) left)
      → Owes core (OfRead (At tx.ticket) id (Page range back (wanted tx.own id range max))) (pairs_reply (Ok found)) left → ActsOn honest core tx (within.Page id range back max) (Refused OutOfMemory) left tx
  page_short found serves owes = page_by (Pairs found) (Refused OutOfMemory) tx serves owes tt (λ s t step. RunsOut (within.Page id range back max) (Pairs found ∷ []) tt tt)

  -- own writes were laid over it
  pub page_seen : (found seen : Vec (Bytes × Bytes) Global) → (IsTrue honest → Serves core (OfRead (At tx.ticket) id (Page range back (wanted tx.own id range max))) (pairs_reply (Ok found)) left)
      → Owes core (OfRead (At tx.ticket) id (Page range back (wanted tx.own id range max))) (pairs_reply (Ok found)) left
      → ((maps : FinMap nat_cmp pairs.Pairs) → found.items ≡ page back (wanted tx.own id range max) (pairs_between range (map_at maps id)) → seen.items ≡ page back max (pairs_between range (map_at (own_written maps tx.own) id)))
      → ActsOn honest core tx (within.Page id range back max) (Pairs seen) left (having_read tx (OfRange id range.0 range.1))
  page_seen found seen serves owes ok =
      page_by (Pairs found) (Pairs seen) (having_read tx (OfRange id range.0 range.1)) serves owes tt
      (λ s t step.
      let told = step.1.0 in
      let same : found.items ≡ page back (wanted tx.own id range max) (pairs_between range (map_at (maps_in s (At tx.ticket)) id)) = ap (λ (v : Vec (Bytes × Bytes) Global). v.items) (pairs_are found told.0 told.1) ∙ told.2 in
      Pages id range back max (Pairs found) (Pairs seen) tt (seen, refl, ok (maps_in s (At tx.ticket)) same))

  -- own writes were laid over it, or memory ran out
  pub page_acts : (after : Tx) (found : Vec (Bytes × Bytes) Global) (result : Result (Vec (Bytes × Bytes) Global) Error) → (IsTrue honest → Serves core (OfRead (At tx.ticket) id (Page range back (wanted tx.own id range max))) (pairs_reply (Ok found)) left)
      → Owes core (OfRead (At tx.ticket) id (Page range back (wanted tx.own id range max))) (pairs_reply (Ok found)) left
      → ((maps : FinMap nat_cmp pairs.Pairs) → found.items ≡ page back (wanted tx.own id range max) (pairs_between range (map_at maps id)) → IfOk result (λ seen. seen.items ≡ page back max (pairs_between range (map_at (own_written maps tx.own) id))))
      → OnOk result (after ≡ having_read tx (OfRange id range.0 range.1)) → OnErr result (after ≡ tx) → IsOkUnless result OutOfMemory
      → ActsOn honest core tx (within.Page id range back max) (pairs_reply result) left after
  page_acts after found (Ok seen) serves owes ok marked unmarked only =
      subst (λ (t : Tx). ActsOn honest core tx (within.Page id range back max) (Pairs seen) left t) (sym marked) (page_seen found seen serves owes ok)
  page_acts after found (Err error) serves owes ok marked unmarked only =
      subst (λ (t : Tx). ActsOn honest core tx (within.Page id range back max) (Refused error) left t) (sym unmarked)
      (subst (λ (e : Error). ActsOn honest core tx (within.Page id range back max) (Refused e) left tx) (sym only) (page_short found serves owes))

-- memory ran out before the core was asked
pub page_unasked : (honest : Bool) (core : Held) (tx : Tx) (id : ℕ) (range : KeyRange) (back : Bool) (max : ℕ) → ActsOn honest core tx (within.Page id range back max) (Refused OutOfMemory) core tx
page_unasked honest core tx id range back max = record {
  made = [];
  told = [];
  makes = none_made honest core;
  keeps = kept_still core core refl;
  fits = tt;
  acts = λ h s stands reads. (s, stands, reads, record { asks = AsksNothing; answers = RunsOut (within.Page id range back max) [] tt tt });
}
