-- A locked state begins as its engine was opened.
use Rattle.std.proofs.Common.{◌≡◌, inl, inr, Bool, true, false, List, [], Ok, Result, refl, sym, subst, arith, IsTrue}
use Rattle.std.specs.Prelude.{IfOk}
use Rattle.fjall_base.specs.Disk.{Meaning, state_in}
use Rattle.fjall_base.specs.Store.{Command, Store, fold, kept}
use Rattle.fjall_recovery.specs.Amid.{IsBeginning, StandsAmid}
use Rattle.fjall_history.specs.Histories.{History, number}
use Rattle.fjall_machine.specs.Machine.{State}
use Rattle.fjall_core.specs.Holding.{Held}
use Rattle.fjall_core.specs.Openings.{ForHeld, IsLeftWildly, OpensAfterCrash, OpensAs, OpensBetween, state_when_opened}
use Rattle.fjall_core.specs.Standing.{CoreState}
use Rattle.fjall_core.specs.Transactions.{none_kept}
use Rattle.fjall_core.proofs.Standing.{opening_stands, same_number}
use Rattle.fjall_history.specs.Seats.{unwritten}
use Rattle.atomic_table.specs.Seated.{TableId}
use Rattle.fjall_shared.specs.Locked.{IsSettled, Locked}
use Rattle.fjall_shared.specs.Openings.{IsLeftByEngine, IsOpenedFrom}
use Rattle.fjall_history.proofs.Moving.{sound_opening}

-- what is so of what was made
pub in_ok : {A E : Type 0} (r : Result A E) (a : A) → r ≡ Ok a → (P : A → Type 0) → IfOk r P → P a
in_ok r a is P holds = subst (λ r. IfOk r P) is holds

-- a locked state with that list, of which nothing is out
abbrev pub first_of : Held → TableId → History → Locked
first_of core table list = record { core = core; kept = none_kept; seat = record { table = table; list = list }; flushes = []; merges = [] }

-- The list fits an engine that was opened on this disk, whichever table its seat is of.
pub record Begins (honest : Bool) (opened : Meaning) (core : Held) (list : History) : Type 0 where
  pub settled : (table : TableId) → IsSettled honest (first_of core table list)
  pub none : list.accepted ≡ []
  pub store : IsTrue honest → IsOpenedFrom opened list.opened

module _ (honest : Bool) (opened : Meaning) (core : Held) where
  abbrev pub First : Type 0
  First = (list : History) × Begins honest opened core list × (number list ≡ core.memory.next)

  opened_so : (store : Store) → OpensAs core store → IsOpenedFrom opened store → First
  opened_so store opens from =
      let state : State = state_when_opened core store opens.entries [] opens.next in
      let told : CoreState = record { state = state; accepted = [] } in
      let stands = opening_stands core state opens.state (sound_opening state.history) refl in
      let same = same_number core none_kept told stands in (
        state.history,
        record {
          settled = λ table. record {
            next = sym same;
            knows = λ i d lt. absurd (omega arith);
            ties = λ is. (told, record { stands = stands; reads = opens.reads; is = refl; knows = λ i d lt. absurd (omega arith) });
          };
          none = refl;
          store = λ is. from;
        },
        same,
      )

  by_left : IsLeftByEngine opened → ForHeld opened (λ base pending. OpensAfterCrash opened core base pending)
      → ((base : Store) (least all : List Command) → IsLeftWildly (state_in opened) (StandsAmid base least all) → OpensBetween core base least all) → First
  by_left (base, least, all, inl usual) amid wild =
      let o = amid base all usual.holds in
      let holds = subst (λ (l : List Command). IsBeginning l o.front) (sym usual.none) (o.front, refl) in
      opened_so (kept (fold base o.front)) o.opens
      (record { base = base; least = least; all = all; left = inl usual; front = o.front; holds = holds; within = o.within; is = refl })
  by_left (base, least, all, inr wildly) amid wild =
      let o = wild base least all wildly in
      opened_so (kept (fold base o.front)) o.opens
      (record { base = base; least = least; all = all; left = inr wildly; front = o.front; holds = o.holds; within = o.within; is = refl })

-- over a disk that isn't known to return what it holds any list of that number does
unknown : (opened : Meaning) (core : Held) → First false opened core
unknown opened core = (
  unwritten core.memory.next,
  record {
    settled = λ table. record { next = omega arith; knows = λ i d lt. absurd (omega arith); ties = λ is. absurd (false_is is) };
    none = refl;
    store = λ is. absurd (false_is is);
  },
  omega arith,
)
  where
    false_is : IsTrue false → ⊥
    false_is is = let bad : ⊥ = cc in bad

pub begins : (honest : Bool) (opened : Meaning) (core : Held) → (IsTrue honest → IsLeftByEngine opened) → (IsTrue honest → ForHeld opened (λ base pending. OpensAfterCrash opened core base pending))
    → (IsTrue honest → (base : Store) (least all : List Command) → IsLeftWildly (state_in opened) (StandsAmid base least all) → OpensBetween core base least all) → First honest opened core
begins true opened core left amid wild = by_left true opened core (left refl) (amid refl) (wild refl)
begins false opened core left amid wild = unknown opened core
