-- One life after another.
use Rattle.std.proofs.Common.{◌≡◌, inl, inr, ℕ, zero, suc, ◌≤◌, Bool, true, false, cond, List, [], ◌∷◌, ◌++◌, length, take, Option, None, Some, IsSome, IsTrue, Result, Ok, Err, refl, sym, ◌∙◌, ap, subst, append_assoc, arith, length-append}
use Rattle.std.proofs.lemmas.Bool.{true≢false}
use Rattle.std.proofs.lemmas.Option.{none-some}
use Rattle.std.proofs.lemmas.List.Elements.{All-nil}
use Rattle.std.specs.FinMap.{contains_key, empty, get, get-empty, get-retain_keys, nat_cmp-IsAntisymmetric, retain_keys}
use Rattle.std.specs.Ordering.{nat_cmp}
use Rattle.fjall_meta.proofs.Slots.{same_maps}
use Rattle.std.proofs.lemmas.List.{append-nil, append_cancel_right}
use Rattle.fjall_base.specs.Crash.{IsHoused}
use Rattle.fjall_base.specs.Disk.{DiskState, Meaning, standing, state_in}
use Rattle.fjall_base.specs.Store.{Command, Store, fold, kept}
use Rattle.fjall_base.specs.declared.error.Error.{Error}
use Rattle.fjall_base.specs.declared.error.Error.TheVariants as error
use Rattle.fjall_meta.proofs.Kept.{kept_along, kept_twice}
use Rattle.fjall_meta.proofs.Slots.{fold-append}
use Rattle.fjall_meta.specs.Replays.{bare}
use Rattle.fjall_journal.specs.declared.recovery_mode.RecoveryMode.{RecoveryMode}
use Rattle.fjall_journal.specs.declared.recovery_mode.RecoveryMode.TheVariants.{RefuseTornTail, TolerateCorruptTail}
use Rattle.fjall_meta.specs.Keyspaces.{no_keyspaces}
use Rattle.fjall_history.specs.Histories.{commands_of, latest}
use Rattle.fjall_history.specs.declared.reply.Reply.{Reply}
use Rattle.fjall_history.proofs.Moving.{sound_opening}
use Rattle.fjall_machine.specs.Machine.{present}
use Rattle.fjall_recovery.specs.Amid.{HoldsAmid}
use Rattle.fjall_recovery.specs.Amid as amid
use Rattle.fjall_recovery.specs.Folders.{Contents, ImageStandsFor}
use Rattle.fjall_recovery.specs.Held.{IsOpenFolder}
use Rattle.fjall_recovery.specs.Refusals.{IsDue, IsTornTail}
use Rattle.fjall_calls.specs.Crashes.{at_most_one}
use Rattle.fjall_calls.specs.Durables.{Passes}
use Rattle.fjall_calls.specs.Holding.{Held}
use Rattle.fjall_calls.specs.Openings.{OpensAs}
use Rattle.fjall_calls.specs.CoreStanding.{RunsOn}
use Rattle.fjall_calls.proofs.CrashesInRuns.{no_more, run_passes}
use Rattle.fjall_calls.proofs.Reopening.{a_core_holds_amid, holds_store_amid}
use Rattle.fjall_calls.specs.Lives.{life_begun, start_of}
use Rattle.fjall_calls.proofs.LivedDisks.{new_disk_holds}
use Rattle.fjall_calls.specs.Standing.{StandFor, CoreState}
use Rattle.fjall_calls.specs.Transactions.{Kept, none_kept}
use Rattle.fjall_calls.proofs.CoreStanding.{opening_stands}
use Rattle.fjall_calls.specs.declared.call.TxCall.{TxCall}
use Rattle.fjall_calls.specs.Serving.{RunsTx}
use Rattle.fjall_calls.specs.Worlds as worlds
use Rattle.fjall_calls.proofs.Standing.{kept_beginning}
use Rattle.fjall_consistency.specs.Alike.{AreAlike}
use Rattle.fjall_consistency.specs.Consistency.{AreAnswers, AreLives, IsBeginning, IsLeft, IsLife, IsSyncAt, Known, Leads, NoLife, OneLife, RunsOut, after, all_attempted, attempted, begins, no_store}
use Rattle.fjall_consistency.specs.Links.{EndsAs, Holds, IsClosed, IsFresh, IsLet, IsUnclosed, Leaves, LivesOn, PassesOn, ServesOn}
use Rattle.fjall_consistency.specs.declared.life.Life.{Life}
use Rattle.fjall_consistency.specs.declared.life.Told as lives
use Rattle.fjall_consistency.proofs.Alike.{AllAlike, alike_front, alike_itself, alike_length, begins_longer, fold_alike, kept_alike, same_front}
use Rattle.fjall_consistency.proofs.Attempting.{all_tried, synced_at}
use Rattle.fjall_consistency.proofs.Known.{IsGoing, IsKnown, IsWritersOwn, no_id}
use Rattle.fjall_consistency.proofs.Telling.{all_told}

-- ---- an opening

-- the state that a core opened as, of which nothing is accepted since
abbrev told_as : (core : Held) (store : Store) → OpensAs core store → CoreState
told_as core store opens = record { state = start_of core store opens; accepted = [] }

stands_as : (core : Held) (store : Store) (opens : OpensAs core store) → StandFor core none_kept (told_as core store opens)
stands_as core store opens = let state = start_of core store opens in opening_stands core state opens.state (sound_opening state.history) refl

-- as a list begins behind an opening, nothing is known but the store
known_first : (core : Held) (store start : Store) (opens : OpensAs core store) → AreAlike store start → IsKnown (worlds.begins (told_as core store opens) None) [] (begins start)
known_first core store start opens alike = record {
  kept = kept_beginning core none_kept (told_as core store opens) None (stands_as core store opens);
  alike = alike;
  small = omega arith;
  undamaged = refl;
  well = λ poisoned. absurd (true≢false (sym poisoned));
  broken = λ broke. absurd (true≢false (sym broke));
  snapshots = refl;
  transactions = refl;
  shown = λ place. record { given = inr refl; there = λ instant found. absurd (none-some instant (sym (get-empty nat_cmp no_id) ∙ found)); closed = λ none. refl };
  one_each = λ place other some same. absurd (some refl);
  going = All-nil (IsGoing (worlds.begins (told_as core store opens) None) [] (begins start));
  apart = tt;
  found = λ place tx is. absurd (none-some tx is);
  written = All-nil (IsWritersOwn (worlds.begins (told_as core store opens) None));
  writer_given = λ ticket is. absurd (none-some ticket is);
  writer = λ ticket is there. absurd (none-some ticket is);
}

-- ---- what a run leaves

-- what is attempted by the first calls of a list is a beginning of what is attempted
first_attempted : (k : Known) (calls : List TxCall) (replies : List Reply) (n : ℕ) → IsBeginning (all_attempted k (take n calls) (take n replies)) (all_attempted k calls replies)
first_attempted k calls replies zero = (all_attempted k calls replies, refl)
first_attempted k [] [] (suc n) = ([], refl)
first_attempted k [] (r ∷ replies) (suc n) = ([], refl)
first_attempted k (c ∷ calls) [] (suc n) = ([], refl)
first_attempted k (c ∷ calls) (r ∷ replies) (suc n) =
    let more = first_attempted (after k c r) calls replies n in
    (more.0, append_assoc (attempted k c r) _ more.0 ∙ ap (λ (l : List Command). attempted k c r ++ l) more.1)

-- a beginning of one of two lists that go before the same rest is no longer than the other with more behind it
no_longer : (before settled safe front pending tried : List Command) → IsBeginning before settled → settled ++ pending ≡ tried → safe ++ pending ≡ tried → length before ≤ length (safe ++ front)
no_longer before settled safe front pending tried has one other =
    let same : settled ≡ safe = append_cancel_right settled safe pending (one ∙ sym other) in
    omega (arith, ap length (has.1 ∙ same), length-append before has.0, length-append safe front)

-- from each store that is alike this one, calls lead on to one that is alike that
abbrev pub LeadAlike : Store → List TxCall → List Reply → Bool → Store → Type 0
LeadAlike store calls replies closed next = (start : Store) → AreAlike store start → (end : Store) × Leads start calls replies closed end × AreAlike next end

-- Calls that a core served which opened as this store: the calls of the core that they came to, over the disk.
module _ (honest : Bool) (h : IsTrue honest) (core new : Held) (beside : Kept) (store : Store) (calls : List TxCall) (replies : List Reply) (opens : OpensAs core store) (ran : RunsTx honest core none_kept calls replies new beside) where
  abbrev pub run : RunsOn core ran.made ran.told new (start_of core store opens) (life_begun core store)
  run = ran.safe h (start_of core store opens) (life_begun core store) opens.state opens.reads opens.base

  -- some beginning passed into the base
  passed : Passes (life_begun core store) run.tried run.durable
  passed = run_passes (start_of core store opens) run.state (life_begun core store) run.durable ran.made ran.told run.tried opens.base.rests run.run

  left_is : (safe : List Command) → kept run.durable.base ≡ kept (fold store safe) → (front : List Command) → kept (fold run.durable.base front) ≡ kept (fold store (safe ++ front))
  left_is safe base front = kept_along run.durable.base (fold store safe) front base ∙ ap kept (sym (fold-append store safe front))

  -- what was tried is all that was attempted, where no fault poisoned the engine
  all_there : run.state.poisoned ≡ false → present run.state ≡ fold store run.tried
  all_there well = by run.accepted.refused run.accepted.all run.accepted.fault
    where
      by : (refused : Option Command) → run.tried ≡ commands_of run.accepted.accepted ++ at_most_one refused → (IsSome refused → run.state.poisoned ≡ true) → present run.state ≡ fold store run.tried
      by None all fault = ap latest run.accepted.history ∙ ap (λ (l : List Command). fold store l) (sym (append-nil (commands_of run.accepted.accepted)) ∙ sym all)
      by (Some command) all fault = absurd (true≢false (sym (fault refl) ∙ well))

  -- the same calls, where callers know a store that is alike
  module _ (start : Store) (alike : AreAlike store start) where
    known : IsKnown (worlds.begins (told_as core store opens) None) [] (begins start)
    known = known_first core store start opens alike

    answered : AreAnswers (begins start) calls replies
    answered = let (v, stands, reads, through) = ran.runs h (told_as core store opens) (stands_as core store opens) opens.reads in
        all_told (worlds.begins (told_as core store opens) None) v [] (begins start) calls replies ran.made ran.told known through

    tries : AllAlike run.tried (all_attempted (begins start) calls replies)
    tries = let (v, stands, reads, through) = ran.runs h (told_as core store opens) (stands_as core store opens) opens.reads in
        all_tried (worlds.begins (told_as core store opens) None) v [] (begins start) calls replies ran.made ran.told (start_of core store opens) run.state (life_begun core store) run.durable run.tried known through alike run.run

    -- What a sync followed is in whatever beginning has what passed into the base.
    synced : (safe : List Command) → safe ++ run.durable.pending ≡ run.tried → (front other : List Command) → AllAlike (safe ++ front) other → IsBeginning other (all_attempted (begins start) calls replies) → (i : ℕ) → IsSyncAt (begins start) calls replies i
        → IsBeginning (all_attempted (begins start) (take (suc i) calls) (take (suc i) replies)) other
    synced safe rest front other each begins_all i sync =
        let (v, stands, reads, through) = ran.runs h (told_as core store opens) (stands_as core store opens) opens.reads in
        let there = synced_at (worlds.begins (told_as core store opens) None) v [] (begins start) calls replies ran.made ran.told (start_of core store opens) run.state (life_begun core store) run.durable run.tried known through alike run.run i sync in
        let at = run.synced there.place there.sync in
        let upto = all_attempted (begins start) (take (suc i) calls) (take (suc i) replies) in
        let n = alike_length at.before upto (there.so_far at.mid at.on at.before at.so_far) in
        let m = alike_length (safe ++ front) other each in
        let fits = no_longer at.before at.settled.safe safe front run.durable.pending run.tried at.settled.has at.settled.rest rest in
        begins_longer upto other (all_attempted (begins start) calls replies) (first_attempted (begins start) calls replies (suc i)) begins_all (omega (arith, n, m, fits))

    -- so it is of each beginning of what waits
    left : (safe : List Command) → safe ++ run.durable.pending ≡ run.tried → (front : List Command) → amid.IsBeginning front run.durable.pending
        → (other : List Command) × AllAlike (safe ++ front) other × IsLeft (begins start) calls replies other
    left safe rest front waits =
        let (other, each, begins_all) = alike_front (safe ++ front) run.tried (all_attempted (begins start) calls replies) tries (waits.0, append_assoc safe front waits.0 ∙ ap (λ (l : List Command). safe ++ l) waits.1 ∙ rest) in
        (other, each, record { within = begins_all; holds = λ i sync. synced safe rest front other each begins_all i sync })

  -- they lead on to each store that the disk may hold behind them
  pub open_leads : (front : List Command) → amid.IsBeginning front run.durable.pending → (next : Store) → next ≡ kept (fold run.durable.base front) → LeadAlike store calls replies false next
  open_leads front waits next is start alike =
      let (other, each, leaves) = left start alike passed.safe passed.rest front waits in (
        kept (fold start other),
        (answered start alike, other, leaves, (λ closed. absurd (true≢false (sym closed))), refl),
        subst (λ (s : Store). AreAlike s (kept (fold start other))) (sym (is ∙ left_is passed.safe passed.base front))
            (kept_alike (fold store (passed.safe ++ front)) (fold start other) (fold_alike (passed.safe ++ front) other store start each alike)),
      )

  -- and, where no fault poisoned the engine, to the one that all of them made
  pub closed_leads : run.state.poisoned ≡ false → (next : Store) → next ≡ kept (present run.state) → LeadAlike store calls replies true next
  closed_leads well next is start alike =
      let attempts = all_attempted (begins start) calls replies in
      let pending = run.durable.pending in
      let (other, each, leaves) = left start alike passed.safe passed.rest pending ([], append-nil pending) in
      let n = alike_length (passed.safe ++ pending) other each in
      let m = alike_length run.tried attempts (tries start alike) in
      let c : length (passed.safe ++ pending) ≡ length run.tried = ap length passed.rest in
      let all : other ≡ attempts = same_front other attempts attempts leaves.within ([], append-nil attempts) (omega (arith, n, m, c)) in (
        kept (fold start other),
        (answered start alike, other, leaves, (λ closed. all), refl),
        subst (λ (s : Store). AreAlike s (kept (fold start other)))
            (sym (is ∙ ap kept (all_there well) ∙ ap (λ (l : List Command). kept (fold store l)) (sym passed.rest)))
            (kept_alike (fold store (passed.safe ++ pending)) (fold start other) (fold_alike (passed.safe ++ pending) other store start each alike)),
      )

-- ---- one life

module _ (honest : Bool) (h : IsTrue honest) (core new : Held) (beside : Kept) (store : Store) (life : Life) (told : lives.Told) (opens : OpensAs core store) (ran : RunsTx honest core none_kept life.calls.items told.replies.items new beside) where
  abbrev ran_on : RunsOn core ran.made ran.told new (start_of core store opens) (life_begun core store)
  ran_on = run honest h core new beside store life.calls.items told.replies.items opens ran

  -- an engine that didn't close leaves so
  open_life : told.closed ≡ false → (front : List Command) → amid.IsBeginning front ran_on.durable.pending → (next : Store) → next ≡ kept (fold ran_on.durable.base front) → LivesOn false store life (Ok told) next
  open_life unclosed front waits next is start alike =
      let (end, on, alike_end) = open_leads honest h core new beside store life.calls.items told.replies.items opens ran front waits next is start alike in (
        end,
        ((λ closed. absurd (true≢false (sym closed ∙ unclosed))), subst (λ (b : Bool). Leads start life.calls.items told.replies.items b end) (sym unclosed) on),
        alike_end,
      )

  -- and one that closed so
  closed_life : told.closed ≡ true → life.closes ≡ true → ran_on.state.poisoned ≡ false → (next : Store) → next ≡ kept (present ran_on.state) → LivesOn false store life (Ok told) next
  closed_life is_closed closes well next is start alike =
      let (end, on, alike_end) = closed_leads honest h core new beside store life.calls.items told.replies.items opens ran well next is start alike in (
        end,
        ((λ closed. closes), subst (λ (b : Bool). Leads start life.calls.items told.replies.items b end) (sym is_closed) on),
        alike_end,
      )

  -- however the engine ended
  pub ends_so : (closed : Bool) (disk : Meaning) → told.closed ≡ closed → (closed ≡ true → life.closes ≡ true) → EndsAs new closed disk → Leaves store life (Ok told) disk
  ends_so closed disk is asked (IsLet housed) =
      let d = ran_on.durable in
      let there : IsHoused (state_in d.meaning) = subst (λ (m : Meaning). IsHoused (state_in m)) (sym ran_on.on.same) housed in
      record {
        next = d.base;
        waits = d.pending;
        holds = subst (λ (m : Meaning). HoldsAmid (state_in m) d.base d.pending) ran_on.on.same (a_core_holds_amid new ran_on.state.parts.entries d ran_on.on there);
        each = λ front waits. open_life is front waits (kept (fold d.base front)) refl;
      }
  ends_so closed disk is asked (IsUnclosed error gone safely) =
      let d = ran_on.durable in
      let closes = safely ran_on.state d ran_on.stands ran_on.reads ran_on.on in
      let e = closes.after in
      let p = closes.passes in
      record {
        next = e.base;
        waits = e.pending;
        holds = closes.amid;
        each = λ front waits.
            let all : (p.safe ++ front) ++ waits.0 ≡ d.pending = append_assoc p.safe front waits.0 ∙ ap (λ (l : List Command). p.safe ++ l) waits.1 ∙ p.rest ∙ append-nil d.pending in
            open_life is (p.safe ++ front) (waits.0, all) (kept (fold e.base front))
            (kept_along e.base (fold d.base p.safe) front p.base ∙ ap kept (sym (fold-append d.base p.safe front)));
      }
  ends_so closed disk is asked (IsClosed gone owes safely) =
      let closes = safely ran_on.state ran_on.durable ran_on.stands ran_on.reads ran_on.on in
      record {
        next = kept (present ran_on.state);
        waits = [];
        holds = holds_store_amid (state_in gone) (kept (present ran_on.state)) closes.closed;
        each = λ front waits. closed_life is (asked refl) (ran_on.stands.remembered.poisoned ∙ owes.0) (kept (fold (kept (present ran_on.state)) front))
            (ap (λ (l : List Command). kept (fold (kept (present ran_on.state)) l)) (no_more front waits.0 waits.1) ∙ kept_twice (present ran_on.state));
      }

-- so it is of a core without transactions that opened as whatever store
pub run_served : (honest : Bool) → IsTrue honest → (core new : Held) (none beside : Kept) (life : Life) (told : lives.Told) (closed : Bool) (disk : Meaning) → RunsTx honest core none life.calls.items told.replies.items new beside
    → told.closed ≡ closed → (closed ≡ true → life.closes ≡ true) → EndsAs new closed disk → ServesOn core none life (Ok told) disk
run_served honest h core new none beside life told closed disk ran is asked ended fresh start same opens =
    ends_so honest h core new beside start life told opens (subst (λ (k : Kept). RunsTx honest core k life.calls.items told.replies.items new beside) fresh ran) closed disk is asked ended

-- want of memory
pub used_up : (e : Error) → e ≡ error.OutOfMemory → RunsOut e
used_up e is = subst RunsOut (sym is) tt

-- a life that was refused as a whole changed nothing
refused_life : (store : Store) (life : Life) (error : Error) (next : Store) → RunsOut error → next ≡ store → LivesOn false store life (Err error) next
refused_life store life error next out is start alike = (start, (inr out, refl), subst (λ (s : Store). AreAlike s start) (sym is) alike)

-- what a list leaves that was refused as a whole
pub none_served : (core : Held) (store : Store) (life : Life) (error : Error) → RunsOut error → kept store ≡ store → OpensAs core store → IsHoused (state_in core.disk) → Leaves store life (Err error) core.disk
none_served core store life error out is opens housed = record {
  next = store;
  waits = [];
  holds = a_core_holds_amid core opens.entries (life_begun core store) opens.base housed;
  each = λ front waits. refused_life store life error (kept (fold store front)) out (ap (λ (l : List Command). kept (fold store l)) (no_more front waits.0 waits.1) ∙ is);
}

-- ---- from one disk to another

-- what stands for a store opens
pub some_folder : (disk : DiskState) (base : Store) (pending : List Command) → HoldsAmid disk base pending → (folder : Option Contents) × IsOpenFolder (standing disk) folder
some_folder disk base pending holds = by holds.now.stands
  where
    by : {store : Store} → ImageStandsFor (standing disk) store → (folder : Option Contents) × IsOpenFolder (standing disk) folder
    by (inl (c, sound, is)) = (Some c, sound.openable)
    by (inr (unfinished, is)) = (None, unfinished)

not_strict : (mode : RecoveryMode) → mode ≡ TolerateCorruptTail → mode ≡ RefuseTornTail → ⊥
not_strict mode is other = let bad : TolerateCorruptTail ≡ RefuseTornTail = sym is ∙ other in cc

-- so an opening in the mode that cuts a torn tail off is refused where something ran out alone
pub opening_runs_out : (mode : RecoveryMode) (IsTorn : Type 0) (e : Error) → mode ≡ TolerateCorruptTail → IsDue (IsTornTail mode IsTorn) e → RunsOut e
opening_runs_out mode IsTorn error.OutOfMemory is due = tt
opening_runs_out mode IsTorn (error.Io kind) is due = tt
opening_runs_out mode IsTorn error.NumbersUsedUp is due = tt
opening_runs_out mode IsTorn error.TooManyItems is due = tt
opening_runs_out mode IsTorn e is due = absurd (not_strict mode is due.0)

-- ---- lives

one_more : (wild : Bool) (start next end : Store) (some : List Life) (tells : List (Result lives.Told Error)) (life : Life) (told : Result lives.Told Error) → AreLives wild start some tells next → IsLife wild next life told end → AreLives wild start (some ++ life ∷ []) (tells ++ told ∷ []) end
one_more wild start next end some tells life told (NoLife s) is = OneLife s end end life told [] [] is (NoLife end)
one_more wild start next end some tells life told (OneLife s mid e first heard rest others lived more) is = OneLife s mid end first heard (rest ++ life ∷ []) (others ++ told ∷ []) lived (one_more wild mid next end rest others life told more is)

-- The disk holds a store with a beginning of what waits, and each of them is alike one to which the lives led so far.
pub record HasCome (wild : Bool) (some : List Life) (tells : List (Result lives.Told Error)) (disk : Meaning) : Type 0 where
  pub base : Store
  pub pending : List Command
  pub holds : Holds wild (state_in disk) base pending
  pub each : (front : List Command) → amid.IsBeginning front pending → (end : Store) × AreLives wild no_store some tells end × AreAlike (kept (fold base front)) end

retained_none : {X : Type 0} (p : ℕ → Bool) → retain_keys (empty {K = ℕ} {X = X} {R = nat_cmp}) p ≡ empty
retained_none {X = X} p = same_maps (retain_keys (empty {K = ℕ} {X = X} {R = nat_cmp}) p) (empty {K = ℕ} {X = X} {R = nat_cmp}) (λ q. get-retain_keys (empty {K = ℕ} {X = X} {R = nat_cmp}) p q (λ x e. ap p (sym (nat_cmp-IsAntisymmetric q x e))) ∙ by q (p q) refl ∙ sym (get-empty nat_cmp q))
  where
    by : (q : ℕ) (b : Bool) → p q ≡ b → cond (p q) (get (empty {K = ℕ} {X = X} {R = nat_cmp}) q) None ≡ None
    by q true e = ap (λ (x : Bool). cond x (get (empty {K = ℕ} {X = X} {R = nat_cmp}) q) None) e ∙ get-empty nat_cmp q
    by q false e = ap (λ (x : Bool). cond x (get (empty {K = ℕ} {X = X} {R = nat_cmp}) q) None) e

pub nothing_kept : kept (bare no_keyspaces) ≡ no_store
nothing_kept =
    let p = contains_key (bare no_keyspaces).names in
    λ i. record { names = (bare no_keyspaces).names; maps = retained_none p i; options = retained_none p i; next = 1 }

pub none_yet : (wild : Bool) (disk : Meaning) → IsFresh disk → HasCome wild [] [] disk
none_yet wild disk fresh = record {
  base = bare no_keyspaces;
  pending = [];
  holds = inl (holds_store_amid (state_in disk) (bare no_keyspaces) (new_disk_holds (state_in disk) fresh));
  each = λ front waits. (
    no_store,
    NoLife no_store,
    subst (λ (s : Store). AreAlike s no_store) (sym (ap (λ (l : List Command). kept (fold (bare no_keyspaces) l)) (no_more front waits.0 waits.1) ∙ nothing_kept)) (alike_itself no_store),
  );
}

pub one_more_life : (wild : Bool) (some : List Life) (tells : List (Result lives.Told Error)) (life : Life) (told : Result lives.Told Error) (old new : Meaning) → HasCome wild some tells old → PassesOn old life told new → HasCome wild (some ++ life ∷ []) (tells ++ told ∷ []) new
one_more_life wild some tells life told old new come passes =
    let on = passes wild come.base come.pending come.holds in
    record {
      base = on.next;
      pending = on.waits;
      holds = on.holds;
      each = λ front waits.
          let (before, begun_so, goes) = on.each front waits in
          let (next, are, alike) = come.each before begun_so in
          let (end, is, alike_end) = goes next alike in
          (end, one_more wild no_store next end some tells life told are is, alike_end);
    }

-- so there is an end
pub come_to : (wild : Bool) (some : List Life) (tells : List (Result lives.Told Error)) (disk : Meaning) → HasCome wild some tells disk → (end : Store) × AreLives wild no_store some tells end
come_to wild some tells disk come = let (end, are, alike) = come.each [] (come.pending, refl) in (end, are)
