-- What holds under the lock still holds behind a call of the engine.
use Rattle.std.proofs.Common.{◌≡◌, ◌⊎◌, inl, inr, ℕ, ◌+◌, ◌==◌, Bool, true, false, MatchBool, List, [], ◌∷◌, refl, sym, ◌∙◌, ap, subst, arith, IsTrue}
use Rattle.std.specs.Prelude.{All}
use Rattle.std.proofs.lemmas.Bool.Decides.{nat_tests}
use Rattle.fjall_base.specs.Store.{Command, Delete}
use Rattle.fjall_journal.specs.Changes.{Items, command_of}
use Rattle.fjall_journal.specs.Ops.{BatchItem}
use Rattle.fjall_reading.specs.Ingestions.{KeyOp}
use Rattle.fjall_compaction.specs.Ingests.{ingestion}
use Rattle.fjall_history.specs.declared.reply.Reply.{Reply}
use Rattle.fjall_history.specs.declared.reply.Reply.TheVariants.{Refused}
use Rattle.fjall_history.specs.Histories.{Accepted, History, grown, number, plain}
use Rattle.fjall_machine.specs.Machine.{State, StepOf}
use Rattle.fjall_machine.specs.Shapes.{CallShape, OfChange, OfIngestion, Persistence}
use Rattle.fjall_machine.proofs.Viewing.{number_grown}
use Rattle.fjall_core.specs.Holding.{Held}
use Rattle.fjall_core.specs.CoreStanding.{Owes, ReadsOn, Serves}
use Rattle.fjall_core.specs.Standing.{GoesOn, StandFor, CoreState, gone_on, history_of}
use Rattle.fjall_core.specs.Transactions.{Kept}
use Rattle.fjall_core.proofs.Standing.{same_number, served_goes_on}
use Rattle.fjall_history.specs.Seats.{Place}
use Rattle.fjall_shared.specs.Takings.{Adds, Always, Counts, CountsOn, Grows, Lists, May, Never, Says, Taking, Tells, taking}
use Rattle.fjall_shared.specs.Locked.{IsSettled, IsTied, KnowsMergeOf, Locked, list_of}
use Rattle.fjall_shared.specs.Does.{Does, MakesCall, StepsOn}
use Rattle.fjall_shared.proofs.Numbers.{owed_next}
use Rattle.fjall_shared.proofs.Histories.{lists_told, step_history}
use Rattle.fjall_shared.proofs.KnownJobs.{KnowsFlushOf, flushes_stay, merges_stay}

-- ---- two lists of one number are one

adds_end : (takes : Taking) (g h k : History) → Adds takes g h → Adds takes g k → number h ≡ number k → h ≡ k
adds_end Never g h k a b same = a ∙ sym b
adds_end (Always c) g h k a b same = a ∙ sym b
adds_end (May c) g h k (inl a) (inl b) same = a ∙ sym b
adds_end (May c) g h k (inr a) (inr b) same = a ∙ sym b
adds_end (May c) g h k (inl a) (inr b) same = absurd (omega (arith, same, ap number a, ap number b, number_grown g (plain c)))
adds_end (May c) g h k (inr a) (inl b) same = absurd (omega (arith, same, ap number a, ap number b, number_grown g (plain c)))

same_end : (takes : Taking) (reply : Reply) (g h k : History) → Lists takes reply g h → Lists takes reply g k → number h ≡ number k → h ≡ k
same_end takes (Refused error) g h k a b same = a ∙ sym b
same_end takes reply g h k a b same = adds_end takes g h k a b same

-- ---- what is told

pub next_or_same : (takes : Taking) (reply : Reply) (n m : ℕ) → CountsOn takes reply n m → (m ≡ n) ⊎ (m ≡ n + 1)
next_or_same takes (Refused error) n m same = inl same
next_or_same takes reply n m counts = of takes counts
  where
    of : (t : Taking) → Counts t n m → (m ≡ n) ⊎ (m ≡ n + 1)
    of Never same = inl same
    of (Always c) more = inr more
    of (May c) either = either

-- what a batch and an ingestion may say
pub says_items : (items : List BatchItem) (how : Persistence) → Says (taking (OfChange (Items items) how)) (command_of (Items items))
says_items [] how = tt
says_items (item ∷ items) how = refl

pub says_ingested : (id : ℕ) (items : List KeyOp) → Says (taking (OfIngestion id items)) (ingestion id items)
says_ingested id [] = tt
says_ingested id (item ∷ items) = refl

-- a call that takes no number
counts_never : (reply : Reply) (n m : ℕ) → CountsOn Never reply n m → m ≡ n
counts_never (Refused error) n m same = same
counts_never reply n m same = same

told_adds : (takes : Taking) (c : Command) (n m : ℕ) (g h : History) (b : Bool) → (n == m) ≡ b → Counts takes n m → Says takes c → MatchBool b (h ≡ g) (h ≡ grown g (plain c)) → Adds takes g h
told_adds Never c n m g h true is counts says told = told
told_adds Never c n m g h false is counts says told = absurd (grind (arith, nat_tests))
told_adds (Always d) c n m g h true is counts says told = absurd (grind (arith, nat_tests))
told_adds (Always d) c n m g h false is counts says told = told ∙ ap (λ (x : Command). grown g (plain x)) says
told_adds (May d) c n m g h true is counts says told = inl told
told_adds (May d) c n m g h false is counts says told = inr (told ∙ ap (λ (x : Command). grown g (plain x)) says)

told_lists : (takes : Taking) (reply : Reply) (c : Command) (n m : ℕ) (g h : History) → CountsOn takes reply n m → Says takes c → Tells c n m g h → Lists takes reply g h
told_lists takes (Refused error) c n m g h counts says told = told_adds Never c n m g h (n == m) refl counts tt told
told_lists takes reply c n m g h counts says told = told_adds takes c n m g h (n == m) refl counts says told

pub told_number_of : (one : Accepted) (n m : ℕ) (g h : History) (b : Bool) → (n == m) ≡ b → n ≡ number g → (m ≡ n) ⊎ (m ≡ n + 1) → MatchBool b (h ≡ g) (h ≡ grown g one) → m ≡ number h
told_number_of one n m g h true is at either told = let same : n ≡ m = grind (arith, nat_tests) in omega (arith, same, at, ap number told)
told_number_of one n m g h false is at (inl same) told = absurd (grind (arith, nat_tests))
told_number_of one n m g h false is at (inr more) told = omega (arith, more, at, ap number told, number_grown g one)

-- a call that takes no number tells nothing
quiet_bool : (c : Command) (n m : ℕ) (g : History) (b : Bool) → (n == m) ≡ b → m ≡ n → MatchBool b (g ≡ g) (g ≡ grown g (plain c))
quiet_bool c n m g true is same = refl
quiet_bool c n m g false is same = absurd (grind (arith, nat_tests))

pub tells_none : (c : Command) (old new : Held) (shape : CallShape) (reply : Reply) (g : History) → taking shape ≡ Never → Owes old shape reply new → Tells c old.memory.next new.memory.next g g
tells_none c old new shape reply g never owes =
    quiet_bool c old.memory.next new.memory.next g (old.memory.next == new.memory.next) refl
    (counts_never reply old.memory.next new.memory.next (subst (λ (k : Taking). CountsOn k reply old.memory.next new.memory.next) never (owed_next old new shape reply owes)))

-- what the numbers before and after tell
pub more_as : (n m before after : ℕ) → before ≡ n → after ≡ m → (m ≡ n) ⊎ (m ≡ n + 1) → (after ≡ before) ⊎ (after ≡ before + 1)
more_as n m before after b a more = subst (λ (x : ℕ × ℕ). (x.1 ≡ x.0) ⊎ (x.1 ≡ x.0 + 1)) (λ i. (sym b i, sym a i)) more

pub told_more : (old new : Held) (shape : CallShape) (reply : Reply) (before after : ℕ) → before ≡ old.memory.next → after ≡ new.memory.next → Owes old shape reply new → (after ≡ before) ⊎ (after ≡ before + 1)
told_more old new shape reply before after b a owes =
    more_as old.memory.next new.memory.next before after b a (next_or_same (taking shape) reply old.memory.next new.memory.next (owed_next old new shape reply owes))

pub grown_so : (one other : Accepted) (n m before after : ℕ) (g h : History) → one ≡ other → before ≡ n → after ≡ m → Grows one before after g h → Grows other n m g h
grown_so one other n m before after g h is b a told = subst (λ (x : Accepted × (ℕ × ℕ)). Grows x.0 x.1.0 x.1.1 g h) (λ i. (is i, (b i, a i))) told

-- ---- a call of the engine

module _ (honest : Bool) (old new : Locked) (shape : CallShape) (reply : Reply) (c : Command)
    (settled : IsSettled honest old) (says : Says (taking shape) c)
    (told : Tells c old.core.memory.next new.core.memory.next (list_of old) (list_of new)) (owes : Owes old.core shape reply new.core)
    (flushes : All (KnowsFlushOf new.core) new.flushes)
    (merges : IsTrue honest → (t : CoreState) → IsTied old t → (s : State) → StepOf t.state shape reply s → All (KnowsMergeOf s) new.merges)
    (goes : IsTrue honest → (t : CoreState) → IsTied old t → GoesOn old.core t shape reply new.core new.kept) where
  counts : CountsOn (taking shape) reply old.core.memory.next new.core.memory.next
  counts = owed_next old.core new.core shape reply owes

  lists : Lists (taking shape) reply (list_of old) (list_of new)
  lists = told_lists (taking shape) reply c old.core.memory.next new.core.memory.next (list_of old) (list_of new) counts says told

  numbered : new.core.memory.next ≡ number (list_of new)
  numbered =
      told_number_of (plain c) old.core.memory.next new.core.memory.next (list_of old) (list_of new) (old.core.memory.next == new.core.memory.next) refl settled.next
      (next_or_same (taking shape) reply old.core.memory.next new.core.memory.next counts) told

  steps : IsTrue honest → StepsOn old shape reply new
  steps is t tied =
      let (s, stands, reads, step, led) = goes is t tied in
      let u = gone_on t s in
      let grew = subst (λ (g : History). Lists (taking shape) reply g (history_of u)) tied.is (lists_told t s (taking shape) reply (step_history t.state s shape reply step)) in
      let same = same_end (taking shape) reply (list_of old) (history_of u) (list_of new) grew lists (same_number new.core new.kept u stands ∙ numbered) in
      (u, record { stands = stands; reads = reads; is = same; knows = merges is t tied s step }, step, led)

  pub settles : IsSettled honest new
  settles = record {
    next = numbered;
    knows = flushes;
    ties = λ is.
        let (t, tied) = settled.ties is in
        let (u, on, step, led) = steps is t tied in
        (u, on);
  }

  pub makes : MakesCall honest old shape reply new
  makes = record { was = settled; list = lists; owes = owes; steps = steps }

-- ---- one that leaves all but the engine and its list

module _ (honest : Bool) (old : Locked) (core : Held) (seat : Place) (shape : CallShape) (reply : Reply) (c : Command)
    (settled : IsSettled honest old) (says : Says (taking shape) c) (told : Tells c old.core.memory.next core.memory.next (list_of old) seat.list)
    (owes : Owes old.core shape reply core) (serves : IsTrue honest → Serves old.core shape reply core) where
  abbrev new : Locked
  new = record old { core = core; seat = seat }

  flushes : All (KnowsFlushOf core) old.flushes
  flushes = flushes_stay old.core core shape reply owes old.flushes settled.knows

  merges : IsTrue honest → (t : CoreState) → IsTied old t → (s : State) → StepOf t.state shape reply s → All (KnowsMergeOf s) old.merges
  merges is t tied s step = merges_stay old.core t.state s shape reply tied.stands.machine step old.merges tied.knows

  goes : IsTrue honest → (t : CoreState) → IsTied old t → GoesOn old.core t shape reply core old.kept
  goes is t tied = served_goes_on old.core core old.kept t shape reply tied.stands tied.reads (serves is)

  pub call_settles : IsSettled honest new
  call_settles = settles honest old new shape reply c settled says told owes flushes merges goes

  -- seen from outside
  pub call_done : (view : Locked) → old ≡ view → seat.table ≡ old.seat.table → Does honest view shape reply new
  call_done view is table =
      subst (λ (l : Locked). Does honest l shape reply new) is
      record { makes = makes honest old new shape reply c settled says told owes flushes merges goes; stays = refl; table = table }

-- the same of a call that takes no number
module _ (honest : Bool) (old : Locked) (core : Held) (shape : CallShape) (reply : Reply) (never : taking shape ≡ Never)
    (settled : IsSettled honest old) (owes : Owes old.core shape reply core) (serves : IsTrue honest → Serves old.core shape reply core) where
  any : Command
  any = Delete 0

  says : Says (taking shape) any
  says = subst (λ (k : Taking). Says k any) (sym never) tt

  pub quiet_settles : IsSettled honest (record old { core = core })
  quiet_settles = call_settles honest old core old.seat shape reply any settled says (tells_none any old.core core shape reply (list_of old) never owes) owes serves

  pub quiet_done : (view : Locked) → old ≡ view → Does honest view shape reply (record old { core = core })
  quiet_done view is = call_done honest old core old.seat shape reply any settled says (tells_none any old.core core shape reply (list_of old) never owes) owes serves view is refl

-- and of one of the transactions, which may change what is kept of them
module _ (honest : Bool) (old : Locked) (core : Held) (kept : Kept) (shape : CallShape) (reply : Reply) (never : taking shape ≡ Never)
    (settled : IsSettled honest old) (owes : Owes old.core shape reply core)
    (goes_on : IsTrue honest → (t : CoreState) → StandFor old.core old.kept t → ReadsOn old.core t.state → GoesOn old.core t shape reply core kept) where
  abbrev after : Locked
  after = record old { core = core; kept = kept }

  some : Command
  some = Delete 0

  says_some : Says (taking shape) some
  says_some = subst (λ (k : Taking). Says k some) (sym never) tt

  known : All (KnowsFlushOf core) old.flushes
  known = flushes_stay old.core core shape reply owes old.flushes settled.knows

  known_merges : IsTrue honest → (t : CoreState) → IsTied old t → (s : State) → StepOf t.state shape reply s → All (KnowsMergeOf s) old.merges
  known_merges is t tied s step = merges_stay old.core t.state s shape reply tied.stands.machine step old.merges tied.knows

  pub kept_settles : IsSettled honest after
  kept_settles =
      settles honest old after shape reply some settled says_some (tells_none some old.core core shape reply (list_of old) never owes) owes known known_merges
      (λ is t tied. goes_on is t tied.stands tied.reads)

  pub kept_makes : (view : Locked) → old ≡ view → MakesCall honest view shape reply after
  kept_makes view is =
      subst (λ (l : Locked). MakesCall honest l shape reply after) is
      (makes honest old after shape reply some settled says_some (tells_none some old.core core shape reply (list_of old) never owes) owes known known_merges
      (λ is t tied. goes_on is t tied.stands tied.reads))
