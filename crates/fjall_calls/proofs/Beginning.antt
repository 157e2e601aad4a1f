-- Transactions of a list that begin, and calls within them, as steps of a world.
use Rattle.std.proofs.Common.{◌≡◌, ℕ, Bool, true, false, IsTrue, List, [], ◌∷◌, ◌++◌, Option, Some, None, Result, Ok, Err, IfOk, length, refl, sym, ap, ◌∙◌, subst}
use Rattle.std.proofs.lemmas.Bool.{true≢false}
use Rattle.std.proofs.lemmas.List.{map-append}
use Rattle.fjall_base.specs.declared.error.Error.{Error}
use Rattle.fjall_base.specs.declared.error.Error.TheVariants.{SnapshotClosed, TransactionOpen}
use Rattle.fjall_history.specs.declared.reply.Reply.{Reply}
use Rattle.fjall_history.specs.declared.reply.Reply.TheVariants.{Began, Done, Opened, Refused}
use Rattle.fjall_history.specs.declared.job.JobId.{JobId}
use Rattle.fjall_base.proofs.Codecs.{some_is}
use Rattle.fjall_history.specs.declared.ticket.Ticket.{Ticket}
use Rattle.fjall_machine.specs.Machine.{State}
use Rattle.fjall_machine.specs.Shapes.{OfTickets, Open, shape_of}
use Rattle.fjall_machine.specs.declared.call.Call.{Call}
use Rattle.fjall_machine.specs.declared.call.Call.TheVariants.{Snapshot}
use Rattle.fjall_core.specs.Holding.{Held}
use Rattle.fjall_core.specs.Jobs.{KeepsJobs}
use Rattle.fjall_core.specs.CoreStanding.{Owes, Serves, StandsFor}
use Rattle.fjall_core.specs.Commits.{begun_reply}
use Rattle.fjall_core.specs.Standing.{StandFor, CoreState, gone_on}
use Rattle.fjall_core.specs.Transactions.{Kept, Tx, transaction_begun}
use Rattle.fjall_core.proofs.Standing.{served_stands, shape_stands}
use Rattle.fjall_calls.specs.Acting.{Acts, AsksCore, AsksFor, AsksNothing, call_for}
use Rattle.fjall_calls.specs.Names.{Takes, is_wanted}
use Rattle.fjall_calls.specs.Steps.{IsBegun, IsHeldBack, IsNotBegun, IsUnknown, IsWithin, first_marks, gone_by, transaction_named, with_begun, writer_after}
use Rattle.fjall_calls.specs.Worlds.{Going, along}
use Rattle.fjall_calls.specs.declared.call.Kind.{Kind}
use Rattle.fjall_calls.specs.declared.call.Kind.TheVariants.{Optimistic, Single}
use Rattle.fjall_calls.specs.declared.call.TxCall.{TxCall}
use Rattle.fjall_calls.specs.declared.call.TxCall.TheVariants as calls
use Rattle.fjall_calls.specs.declared.call.Within.{Within}
use Rattle.fjall_calls.specs.declared.call.Within.TheVariants as within
use Rattle.fjall_calls.specs.declared.named.Named.{Named}
use Rattle.fjall_calls.specs.Serving.{ActsOn, IsReplyIn, IsReplyToCall, KeepsOn, Others, ServesAll, ServesTx, may_begin}
use Rattle.fjall_calls.proofs.Acting.{none_made, one_made}
use Rattle.fjall_calls.proofs.Chains.{each_replied}
use Rattle.fjall_calls.proofs.Jobs.{kept_on, kept_still}
use Rattle.fjall_calls.proofs.Worlds.{none_going, other_writer, same_beginning, same_state, takes_going}

-- ---- beginning

-- a single writer's transaction is open already
pub held_back : (honest : Bool) (core : Held) (kept : Kept) (listed : List Named) (before : List Reply) (kind : Kind) → may_begin core kept kind ≡ false
    → ServesTx honest core kept listed before (calls.Begin kind) (Refused TransactionOpen) core kept listed
held_back honest core kept listed before Optimistic due = absurd (true≢false due)
held_back honest core kept listed before Single due = record {
  made = [];
  told = [];
  makes = none_made honest core;
  comes = Others (calls.Begin Single) (Refused TransactionOpen) tt [] [] refl;
  steps = λ h w stands reads. (w, stands, reads, IsHeldBack (same_beginning core kept listed w Single stands ∙ due));
}

-- no ticket was opened
pub not_begun : (honest : Bool) (core left : Held) (kept : Kept) (listed : List Named) (before : List Reply) (kind : Kind) (error : Error) → may_begin core kept kind ≡ true
    → (IsTrue honest → Serves core (OfTickets Open) (Refused error) left) → Owes core (OfTickets Open) (Refused error) left
    → ServesTx honest core kept listed before (calls.Begin kind) (Refused error) left kept listed
not_begun honest core left kept listed before kind error free serves owes = record {
  made = Snapshot ∷ [];
  told = Refused error ∷ [];
  makes = one_made honest core left Snapshot (Refused error) serves owes;
  comes = Others (calls.Begin kind) (Refused error) tt (Snapshot ∷ []) (Refused error ∷ []) refl;
  steps = λ h w stands reads.
      let (s, stay, on, step) = served_stands core left kept w.told (OfTickets Open) (Refused error) stands.told reads (serves h) in
      (along w s, record { told = stay; writer = stands.writer; going = stands.going }, on, IsNotBegun kind (same_beginning core kept listed w kind stands ∙ free) error s step);
}

-- one began
pub begun_so : (honest : Bool) (core left : Held) (kept : Kept) (listed : List Named) (before : List Reply) (kind : Kind) (place : ℕ) (ticket : Ticket) → may_begin core kept kind ≡ true → place ≡ length before
    → (IsTrue honest → Serves core (OfTickets Open) (Opened ticket) left) → Owes core (OfTickets Open) (Opened ticket) left
    → ServesTx honest core kept listed before (calls.Begin kind) Done left (record kept { writer = writer_after kind ticket kept.writer })
    (listed ++ record { place = place; transaction = transaction_begun (first_marks kind) ticket } ∷ [])
begun_so honest core left kept listed before kind place ticket free at serves owes = record {
  made = Snapshot ∷ [];
  told = Opened ticket ∷ [];
  makes = one_made honest core left Snapshot (Opened ticket) serves owes;
  comes = Others (calls.Begin kind) Done tt (Snapshot ∷ []) (Opened ticket ∷ []) refl;
  steps = λ h w stands reads.
      let (s, stay, on, step) = served_stands core left kept w.told (OfTickets Open) (Opened ticket) stands.told reads (serves h) in
      let after = record kept { writer = writer_after kind ticket kept.writer } in
      let first : Going = record { named = record { place = length before; transaction = transaction_begun (first_marks kind) ticket }; heard = [] } in (
        with_begun (along w s) kind (length before) ticket,
        record {
          told = other_writer left kept after (gone_on w.told s) refl stay;
          writer = ap (writer_after kind ticket) stands.writer;
          going = map-append (λ (g : Going). g.named) w.going (first ∷ []) ∙ ap (λ (l : List Named). l ++ first.named ∷ []) stands.going
              ∙ ap (λ (n : ℕ). listed ++ record { place = n; transaction = transaction_begun (first_marks kind) ticket } ∷ []) (sym at);
        },
        on,
        IsBegun kind (same_beginning core kept listed w kind stands ∙ free) ticket s step,
      );
}

-- ---- names

-- a name of no open transaction of its kind
pub unknown : (honest : Bool) (core : Held) (kept : Kept) (listed rest : List Named) (before : List Reply) (call : TxCall) (name : ℕ) (kind : Option Kind) → transaction_named call ≡ Some (name, kind) → IsReplyToCall call (Refused SnapshotClosed)
    → Takes (is_wanted core.memory.tickets name kind) listed None rest → ServesTx honest core kept listed before call (Refused SnapshotClosed) core kept rest
unknown honest core kept listed rest before call name kind is fits takes = record {
  made = [];
  told = [];
  makes = none_made honest core;
  comes = Others call (Refused SnapshotClosed) fits [] [] refl;
  steps = λ h w stands reads. (
    w,
    record { told = stands.told; writer = stands.writer; going = stands.going ∙ sym takes.1 },
    reads,
    IsUnknown call name kind is (none_going core kept listed rest w name kind stands takes),
  );
}

-- ---- within

-- what was asked leaves the core where it stands for what is told
asked_stands : (core left : Held) (kept : Kept) (t : CoreState) (tx : Tx) (call : Within) (made : List Call) (told : List Reply) (s : State) → StandFor core kept t → StandsFor left s → ServesAll core made told left
    → AsksCore t.state tx call made told s → StandFor left kept (gone_on t s)
asked_stands core left kept t tx call _ _ _ stands is same AsksNothing =
    subst (λ (u : CoreState). StandFor left kept u) (sym (same_state t)) (subst (λ (h : Held). StandFor h kept t) (sym same) stands)
asked_stands core left kept t tx call _ _ _ stands is all (AsksFor id query q reply s step) = shape_stands core left kept t s (shape_of (call_for tx id query)) reply stands step is

pub acts_so : (honest : Bool) (core left : Held) (kept : Kept) (listed rest : List Named) (before : List Reply) (name : ℕ) (call : Within) (named : Named) (reply : Reply) (after : Tx)
    → Takes (is_wanted core.memory.tickets name None) listed (Some named) rest → ActsOn honest core named.transaction call reply left after
    → ServesTx honest core kept listed before (calls.Within name call) reply left kept (rest ++ record { place = named.place; transaction = after } ∷ [])
acts_so honest core left kept listed rest before name call named reply after takes acts = record {
  made = acts.made;
  told = acts.told;
  makes = acts.makes;
  comes = Others (calls.Within name call) reply acts.fits acts.made acts.told (each_replied acts.made acts.told core left acts.makes.owes);
  steps = λ h w stands reads.
      let found = takes_going core kept listed rest w name None named stands takes in
      let g = found.going in
      let (s, stay, on, does) = acts.acts h w.told.state stands.told.machine reads in
      let gone = gone_by g call reply after in (
        record (along w s) { going = found.others ++ gone ∷ [] },
        record {
          told = asked_stands core left kept w.told named.transaction call acts.made acts.told s stands.told stay (acts.makes.serves h) does.asks;
          writer = stands.writer;
          going = map-append (λ (x : Going). x.named) found.others (gone ∷ []) ∙ ap (λ (l : List Named). l ++ gone.named ∷ []) found.left
              ∙ ap (λ (n : Named). rest ++ record { place = n.place; transaction = after } ∷ []) found.is;
        },
        on,
        IsWithin name call g found.others found.takes reply acts.made acts.told s after
            (subst (λ (n : Named). Acts w.told.state n.transaction call reply acts.made acts.told s after) (sym found.is) does),
      );
}

-- ---- how a beginning is answered

err_is : (result : Result Tx Error) (a b : Error) → result ≡ Err a → result ≡ Err b → a ≡ b
err_is result a b one other = cc

module _ (honest : Bool) (core left : Held) (kept after : Kept) (listed : List Named) (before : List Reply) (kind : Kind) (result : Result Tx Error)
    (due : may_begin core kept kind ≡ false → (result ≡ Err TransactionOpen) × (left ≡ core))
    (serves : may_begin core kept kind ≡ true → IsTrue honest → Serves core (OfTickets Open) (begun_reply result) left)
    (owes : may_begin core kept kind ≡ true → Owes core (OfTickets Open) (begun_reply result) left) where
  pub begin_ok : (place : ℕ) (tx : Tx) (rest : List Named) → result ≡ Ok tx → IfOk result (λ t. (t ≡ transaction_begun (first_marks kind) t.ticket) × (after ≡ record kept { writer = writer_after kind t.ticket kept.writer }))
      → place ≡ length before → rest ≡ listed ++ record { place = place; transaction = tx } ∷ [] → ServesTx honest core kept listed before (calls.Begin kind) Done left after rest
  begin_ok place tx rest is all at pushed = by (may_begin core kept kind) refl
    where
      both : (tx ≡ transaction_begun (first_marks kind) tx.ticket) × (after ≡ record kept { writer = writer_after kind tx.ticket kept.writer })
      both = subst (λ (r : Result Tx Error). IfOk r (λ t. (t ≡ transaction_begun (first_marks kind) t.ticket) × (after ≡ record kept { writer = writer_after kind t.ticket kept.writer }))) is all

      by : (b : Bool) → may_begin core kept kind ≡ b → ServesTx honest core kept listed before (calls.Begin kind) Done left after rest
      by false held = let bad : Err TransactionOpen ≡ Ok tx = sym (due held).0 ∙ is in absurd cc
      by true free =
          subst (λ (k : Kept). ServesTx honest core kept listed before (calls.Begin kind) Done left k rest) (sym both.1)
          (subst (λ (l : List Named). ServesTx honest core kept listed before (calls.Begin kind) Done left (record kept { writer = writer_after kind tx.ticket kept.writer }) l)
          (sym (pushed ∙ ap (λ (t : Tx). listed ++ record { place = place; transaction = t } ∷ []) both.0))
          (begun_so honest core left kept listed before kind place tx.ticket free at
          (λ h. subst (λ (r : Result Tx Error). Serves core (OfTickets Open) (begun_reply r) left) is (serves free h))
          (subst (λ (r : Result Tx Error). Owes core (OfTickets Open) (begun_reply r) left) is (owes free))))

  pub begin_err : (error : Error) → result ≡ Err error → after ≡ kept → ServesTx honest core kept listed before (calls.Begin kind) (Refused error) left after listed
  begin_err error is same = subst (λ (k : Kept). ServesTx honest core kept listed before (calls.Begin kind) (Refused error) left k listed) (sym same) (by (may_begin core kept kind) refl)
    where
      by : (b : Bool) → may_begin core kept kind ≡ b → ServesTx honest core kept listed before (calls.Begin kind) (Refused error) left kept listed
      by false held =
          let told : TransactionOpen ≡ error = err_is result TransactionOpen error (due held).0 is in
          subst (λ (e : Error). ServesTx honest core kept listed before (calls.Begin kind) (Refused e) left kept listed) told
          (subst (λ (h : Held). ServesTx honest core kept listed before (calls.Begin kind) (Refused TransactionOpen) h kept listed) (sym (due held).1) (held_back honest core kept listed before kind held))
      by true free =
          not_begun honest core left kept listed before kind error free
          (λ h. subst (λ (r : Result Tx Error). Serves core (OfTickets Open) (begun_reply r) left) is (serves free h))
          (subst (λ (r : Result Tx Error). Owes core (OfTickets Open) (begun_reply r) left) is (owes free))

  pub begin_keeps : KeepsOn core left
  begin_keeps jobs replies keeps = by (may_begin core kept kind) refl
    where
      by : (b : Bool) → may_begin core kept kind ≡ b → KeepsJobs left.memory jobs replies
      by false held = kept_still core left (due held).1 jobs replies keeps
      by true free = kept_on core left (OfTickets Open) (begun_reply result) tt (owes free) jobs replies keeps

-- no call within a transaction is answered with a job
pub no_job_within : (call : Within) (reply : Reply) (job : JobId) → IsReplyIn call reply → Some reply ≡ Some (Began (Some job)) → ⊥
no_job_within call reply job fits is = never call (subst (IsReplyIn call) (some_is reply (Began (Some job)) is) fits)
  where
    never : (c : Within) → IsReplyIn c (Began (Some job)) → ⊥
    never (within.Get id key) bad = bad
    never (within.Page id range back max) bad = bad
    never (within.Write id key op) bad = bad
    never (within.Take id key) bad = bad
    never (within.FetchUpdate id key new) bad = bad
    never (within.UpdateFetch id key new) bad = bad
    never (within.Durability mode) bad = bad
