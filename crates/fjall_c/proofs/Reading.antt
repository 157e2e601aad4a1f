-- Reads within a transaction.
use Rattle.std.proofs.Common.{◌≡◌, ℕ, Option, Some, cond, refl, ap, subst, sym, Result, Ok, Err, ◌∙◌}
use Rattle.std.specs.Prelude.{IfOk, IsOkUnless, OnErr, OnOk}
use Rattle.std.specs.Cmp.{nat_cmp_total}
use Rattle.std.specs.FinMap.{FinMap, empty, get, get-insert, insert}
use Rattle.std.specs.Option.{unwrap_or}
use Rattle.std.specs.Ordering.{is_eq, nat_cmp}
use Rattle.std.specs.declared.cmp.Ordering.{Ordering}
use Rattle.std.proofs.lemmas.Cmp.{tied_itself}
use Rattle.fjall_base.specs.Pairs.{Pairs}
use Rattle.fjall_base.specs.Store.{map_at}
use Rattle.fjall_base.specs.declared.error.Error.{Error}
use Rattle.fjall_base.specs.declared.error.Error.TheVariants.{OutOfMemory}
use Rattle.fjall_history.specs.declared.ticket.Ticket.{Ticket}
use Rattle.fjall_history.specs.declared.ticket.View.{View}
use Rattle.fjall_history.specs.declared.ticket.View.TheVariants.{At}
use Rattle.fjall_tx.specs.Marks.{Mark}
use Rattle.fjall_tx.specs.Owns.{own_written}
use Rattle.fjall_core.specs.Holding.{Held}
use Rattle.fjall_core.specs.ReadsGoing.{memory_refuses}
use Rattle.fjall_core.specs.Shown.{IsRefusedFor}
use Rattle.fjall_core.specs.Transactions.{Tx, having_read}
use Rattle.fjall_c.specs.Transactions.{IsUnshown, ReadsIn, ShowsIn}

-- maps of one keyspace have its map
one_at : (id : ℕ) (pairs : Pairs) → map_at (insert {R = nat_cmp} empty id pairs) id ≡ pairs
one_at id pairs =
    ap (λ (found : Option Pairs). unwrap_or found empty) (get-insert {R = nat_cmp} nat_cmp_total empty id pairs id)
    ∙ ap (λ (order : Ordering). unwrap_or (cond (is_eq order) (Some pairs) (get {R = nat_cmp} empty id)) empty) (tied_itself nat_cmp_total id)

-- what a reader shows, the engine does that it is lent
pub shows_so : {T : Type 0} (keyspace : ℕ) (Tells : Pairs → T → Type 0) (result : Result T Error) (engine core left : Held) (view from : View)
    → core ≡ engine → from ≡ view → ShowsIn keyspace Tells result core from left → ShowsIn keyspace Tells result engine view left
shows_so keyspace Tells result engine core left view from is same shows =
    subst (λ (v : View). ShowsIn keyspace Tells result engine v left) same (subst (λ (c : Held). ShowsIn keyspace Tells result c from left) is shows)

-- the same of what was told of it
pub shown_as : {T : Type 0} (keyspace : ℕ) (Tells : Pairs → T → Type 0) (result told : Result T Error) (engine left : Held) (ticket given : Ticket)
    → result ≡ told → given ≡ ticket → ShowsIn keyspace Tells result engine (At given) left → ShowsIn keyspace Tells told engine (At ticket) left
shown_as {T = T} keyspace Tells result told engine left ticket given is same shows =
    subst (λ (t : Ticket). ShowsIn keyspace Tells told engine (At t) left) same (subst (λ (r : Result T Error). ShowsIn keyspace Tells r engine (At given) left) is shows)

-- a transaction sees what its view shows, with its own writes applied
pub then_seen : {T U : Type 0} (keyspace : ℕ) (Below : Pairs → T → Type 0) (Tells : Pairs → U → Type 0) (mark : Mark) (found : T) (result : Result U Error) (engine left : Held) (view : View) (tx after : Tx)
    → ShowsIn keyspace Below (Ok found) engine view left
    → ((maps : FinMap nat_cmp Pairs) → Below (map_at maps keyspace) found → IfOk result (Tells (map_at (own_written maps tx.own) keyspace)))
    → OnOk result (after ≡ having_read tx mark) → OnErr result (after ≡ tx) → IsOkUnless result OutOfMemory → ReadsIn keyspace Tells mark result engine view tx left after
then_seen keyspace Below Tells mark found (Ok seen) engine left view tx after shows over marked unmarked only = record {
  tells = λ map sees.
      subst (λ (m : Pairs). Tells m seen) (sym sees.2)
      (over (insert {R = nat_cmp} empty keyspace sees.0) (subst (λ (m : Pairs). Below m found) (sym (one_at keyspace sees.0)) (shows.tells sees.0 sees.1)));
  marked = marked;
  unmarked = tt;
  due = shows.due;
  cause = tt;
  looks = shows.looks;
  stand = shows.stand;
}
then_seen keyspace Below Tells mark found (Err error) engine left view tx after shows over marked unmarked only = record {
  tells = λ map sees. tt;
  marked = tt;
  unmarked = unmarked;
  due = tt;
  cause = subst (IsRefusedFor engine view keyspace left) (sym only) (memory_refuses engine left view keyspace shows.due);
  looks = shows.looks;
  stand = shows.stand;
}

-- a read that was refused marks nothing
pub unseen : {U : Type 0} (keyspace : ℕ) (Tells : Pairs → U → Type 0) (mark : Mark) (error : Error) (engine left : Held) (view : View) (tx : Tx)
    → IsUnshown keyspace error engine view left → ReadsIn keyspace Tells mark (Err error) engine view tx left tx
unseen keyspace Tells mark error engine left view tx not = record {
  tells = λ map sees. tt;
  marked = tt;
  unmarked = refl;
  due = tt;
  cause = not.cause;
  looks = not.looks;
  stand = not.stand;
}

pub refused_as : {T : Type 0} (keyspace : ℕ) (Tells : Pairs → T → Type 0) (error : Error) (engine left : Held) (view : View) → ShowsIn keyspace Tells (Err error) engine view left → IsUnshown keyspace error engine view left
refused_as keyspace Tells error engine left view shows = record { cause = shows.cause; looks = shows.looks; stand = shows.stand }

pub short_as : {T : Type 0} (keyspace : ℕ) (Tells : Pairs → T → Type 0) (found : T) (engine left : Held) (view : View) → ShowsIn keyspace Tells (Ok found) engine view left → IsUnshown keyspace OutOfMemory engine view left
short_as keyspace Tells found engine left view shows = record { cause = memory_refuses engine left view keyspace shows.due; looks = shows.looks; stand = shows.stand }
