-- Each change of the tickets leaves their tracker theirs.
use Rattle.std.proofs.Common.{◌≡◌, ◌≢◌, ℕ, ◌+◌, ◌-◌, ◌≤◌, ◌<◌, ◌==◌, ◌^◌, max, Bool, true, false, cond, List, [], ◌∷◌, map, length, Option, None, Some, is_some, refl, sym, ap, subst, ◌∙◌, arith}
use Rattle.std.proofs.lemmas.Bool.Decides.{nat_tests}
use Rattle.std.proofs.lemmas.Bool.{eqb-true, true≢false}
use Rattle.std.proofs.lemmas.Option.{none-some}
use Rattle.std.specs.Cmp.{nat_cmp_total}
use Rattle.std.specs.FinMap.{FinMap, empty, get, insert, len, len-entries, remove, values, entries, get-empty, len-empty, len-insert, len-remove}
use Rattle.std.specs.Ordering.{nat_cmp}
use Rattle.fjall_base.specs.declared.error.Error.{Error}
use Rattle.fjall_base.specs.declared.error.Error.TheVariants.{NumbersUsedUp, OutOfMemory, SnapshotClosed}
use Rattle.fjall_history.specs.Trackers.{IsCloningRefusal, IsSoundTracker, Tracker, after_closing, after_gc, after_opening, after_raise, fresh_tracker, is_open, without_instant}
use Rattle.fjall_history.proofs.TrackerOpenings.{count-with_instant, count-without_instant, length-with_instant, length-without_instant}
use Rattle.fjall_history.proofs.TrackerSound.{at_open, closing-collects, closing-counted, sound-after_gc, sound-after_raise, sound-closed, sound-fresh_tracker}
use Rattle.fjall_history.specs.Tickets.{AreTracked, Tickets, Tracked, closed, closing_refusal, cloning_refusal, collected, ids_used_up, opening_refusal, tickets_of, times_among, tracked}
use Rattle.fjall_history.proofs.Counts.{oldest_is, open_value, same_open, times_inserted, times_more, times_removed}
use Rattle.fjall_history.proofs.Maps.{found_after, found_before}

-- ---- what is known of open tickets

-- the id that comes next is no open ticket's
pub next_is_free : (tracker : Tracker) (m : FinMap nat_cmp ℕ) (next : ℕ) → AreTracked tracker m next → get m next ≡ None
next_is_free tracker m next are =
    elim (get m next) as (λ o. get m next ≡ o → o ≡ None) [
      | None ↦ λ e. refl
      | Some i ↦ λ e. let lt = are.given next i e in absurd (omega (arith, lt))
    ] refl

pub is_there : (tracker : Tracker) (m : FinMap nat_cmp ℕ) (next id instant : ℕ) → AreTracked tracker m next → get m id ≡ Some instant → is_open instant tracker.instants ≡ true
is_there tracker m next id instant are there = same_open tracker.instants (values m) are.same instant ∙ open_value m id instant there

-- an open ticket reads at no instant above the visible number
pub is_reached : (tracker : Tracker) (m : FinMap nat_cmp ℕ) (next id instant : ℕ) → AreTracked tracker m next → get m id ≡ Some instant → instant ≤ tracker.visible
is_reached tracker m next id instant are there = at_open (λ i. i ≤ tracker.visible) instant tracker.instants (is_there tracker m next id instant are there) are.sound.reached

-- nor at the watermark or below it
pub is_spared : (tracker : Tracker) (m : FinMap nat_cmp ℕ) (next id instant : ℕ) → AreTracked tracker m next → get m id ≡ Some instant → 0 < tracker.watermark → tracker.watermark < instant
is_spared tracker m next id instant are there some = at_open (λ i. tracker.watermark < i) instant tracker.instants (is_there tracker m next id instant are there) (are.sound.spared some)

-- ---- changes

none_of : (es : List (ℕ × ℕ)) → length es ≡ 0 → es ≡ []
none_of [] e = refl
none_of (x ∷ es) e = absurd (omega (arith, e))

nothing : (i : ℕ) (m : FinMap nat_cmp ℕ) → len m ≡ 0 → times_among [] i ≡ times_among (values m) i
nothing i m e = ap (λ es. times_among (map (λ e. e.1) es) i) (sym (none_of (entries m) (sym (len-entries m) ∙ e)))

pub tracked_fresh : (visible : ℕ) → AreTracked (after_raise visible fresh_tracker) empty 0
tracked_fresh visible = record {
  sound = sound-after_raise visible fresh_tracker sound-fresh_tracker;
  same = λ i. nothing i empty (len-empty nat_cmp ℕ);
  as_many = sym (len-empty nat_cmp ℕ);
  given = λ id i there. absurd (none-some i (sym (get-empty nat_cmp id) ∙ there));
  few = let e = len-empty nat_cmp ℕ in omega (arith, e);
}

pub tracked_raised : (n : ℕ) (tracker : Tracker) (m : FinMap nat_cmp ℕ) (next : ℕ) → AreTracked tracker m next → AreTracked (after_raise n tracker) m next
tracked_raised n tracker m next are = record {
  sound = sound-after_raise n tracker are.sound;
  same = are.same;
  as_many = are.as_many;
  given = are.given;
  few = are.few;
}

-- one ticket more, at this instant
pub tracked_given : (instant : ℕ) (tracker : Tracker) (m : FinMap nat_cmp ℕ) (next : ℕ) → AreTracked tracker m next → IsSoundTracker (after_opening instant tracker)
    → AreTracked (after_opening instant tracker) (insert m next instant) (next + 1)
tracked_given instant tracker m next are sound =
    let free = next_is_free tracker m next are in
    let more : len (insert m next instant) ≡ len m + 1 = len-insert nat_cmp_total m next instant ∙ ap (λ (o : Option ℕ). cond (is_some o) (len m) (len m + 1)) free in
    record {
      sound = sound;
      same = λ i.
          let a = count-with_instant i instant tracker.instants in
          let b = times_more i instant tracker.instants in
          let c = times_inserted m next instant i free in
          let d = are.same i in
          omega (arith, a, b, c, d);
      as_many = let a = length-with_instant instant tracker.instants in let b = are.as_many in omega (arith, a, b, more);
      given = λ id i there. found_after (λ k. k < next + 1) m next instant id i (omega arith) (λ old. let lt = are.given id i old in omega (arith, lt)) there;
      few = let b = are.few in omega (arith, b, more);
    }

-- one ticket less, before it is counted
tracked_less : (n id instant : ℕ) (tracker : Tracker) (m : FinMap nat_cmp ℕ) (next : ℕ) → n < 10000 → AreTracked tracker m next → get m id ≡ Some instant
    → AreTracked (record tracker { instants = without_instant instant tracker.instants; closings = n }) (remove m id) next
tracked_less n id instant tracker m next small are there =
    let here = is_there tracker m next id instant are there in
    let less : len (remove m id) ≡ len m - 1 = len-remove nat_cmp_total m id ∙ ap (λ (o : Option ℕ). cond (is_some o) (len m - 1) (len m)) there in
    let fewer = length-without_instant instant tracker.instants here in
    record {
      sound = sound-closed instant n tracker are.sound here small;
      same = λ i.
          let a = count-without_instant i instant tracker.instants here in
          let b = times_more i instant (without_instant instant tracker.instants) in
          let c = times_removed m id instant i there in
          let d = are.same i in
          omega (arith, a, b, c, d);
      as_many = let b = are.as_many in omega (arith, b, less, fewer);
      given = λ q i old. are.given q i (found_before m id q i old);
      few = let b = are.few in omega (arith, b, less);
    }

pub tracked_collected : (tracker : Tracker) (m : FinMap nat_cmp ℕ) (next : ℕ) → AreTracked tracker m next → AreTracked (after_gc tracker) m next
tracked_collected tracker m next are = record {
  sound = sound-after_gc tracker are.sound;
  same = are.same;
  as_many = are.as_many;
  given = are.given;
  few = are.few;
}

-- the watermark that a tracker takes is the one that its tickets ask for
pub collected_is : (tracker : Tracker) (m : FinMap nat_cmp ℕ) (next : ℕ) → AreTracked tracker m next → tickets_of (after_gc tracker) m next ≡ collected tracker.visible (tickets_of tracker m next)
collected_is tracker m next are =
    ap (λ (n : ℕ). tickets_of (record tracker { watermark = max tracker.watermark (n - 1) }) m next) (oldest_is tracker (values m) are.sound are.same)

-- a closing
pub record Closes (id instant : ℕ) (tracker : Tracker) (m : FinMap nat_cmp ℕ) (next : ℕ) : Type 0 where
  pub are : AreTracked (after_closing instant tracker) (remove m id) next
  pub is : tracked (after_closing instant tracker) (remove m id) next ≡ record { visible = tracker.visible; tickets = closed tracker.visible id (tickets_of tracker m next) }

pub closes : (id instant : ℕ) (tracker : Tracker) (m : FinMap nat_cmp ℕ) (next : ℕ) → AreTracked tracker m next → get m id ≡ Some instant → Closes id instant tracker m next
closes id instant tracker m next are there = either (tracker.closings + 1 == 10000) refl
  where
    here : is_open instant tracker.instants ≡ true
    here = is_there tracker m next id instant are there

    less : ℕ → Tracker
    less n = record tracker { instants = without_instant instant tracker.instants; closings = n }

    by_count : Bool → Tracked
    by_count b = record {
      visible = tracker.visible;
      tickets = cond b (collected tracker.visible (tickets_of (record tracker { closings = 0 }) (remove m id) next)) (tickets_of (record tracker { closings = tracker.closings + 1 }) (remove m id) next);
    }

    either : (b : Bool) → (tracker.closings + 1 == 10000) ≡ b → Closes id instant tracker m next
    either true full =
        let left = tracked_less 0 id instant tracker m next (omega arith) are there in
        let same = closing-collects instant tracker here (eqb-true (tracker.closings + 1) 10000 full) in
        record {
          are = subst (λ t. AreTracked t (remove m id) next) (sym same) (tracked_collected (less 0) (remove m id) next left);
          is = ap (λ t. tracked t (remove m id) next) same
              ∙ ap (λ (t : Tickets). record { visible = tracker.visible; tickets = t }) (collected_is (less 0) (remove m id) next left)
              ∙ ap by_count (sym full);
        }
    either false few =
        let apart : tracker.closings + 1 ≡ 10000 → ⊥ = λ e. true≢false (sym (let yes : (tracker.closings + 1 == 10000) ≡ true = grind (arith, nat_tests) in yes) ∙ few) in
        let small : tracker.closings + 1 < 10000 = let c = are.sound.counted in omega (arith, c, apart) in
        let same = closing-counted instant tracker here apart in
        record {
          are = subst (λ t. AreTracked t (remove m id) next) (sym same) (tracked_less (tracker.closings + 1) id instant tracker m next small are there);
          is = ap (λ t. tracked t (remove m id) next) same ∙ ap by_count (sym few);
        }

-- ---- refusals

-- no ticket is opened, since no id is left, or opened, since one is
pub opening_due : (t : Tickets) (b : Bool) → ids_used_up t ≡ b → opening_refusal t ≡ cond b (Some NumbersUsedUp) None
opening_due t b is = ap (λ (b : Bool). cond b (Some NumbersUsedUp) None) is

-- a second one is opened like any other where the first is open
pub cloning_due : (id instant : ℕ) (t : Tickets) → get t.instants id ≡ Some instant → cloning_refusal id t ≡ opening_refusal t
cloning_due id instant t there = ap (λ (o : Option ℕ). cond (is_some o) (opening_refusal t) (Some SnapshotClosed)) there

pub closing_due : (id : ℕ) (t : Tickets) (o : Option ℕ) → get t.instants id ≡ o → closing_refusal id t ≡ cond (is_some o) None (Some SnapshotClosed)
closing_due id t o is = ap (λ (o : Option ℕ). cond (is_some o) None (Some SnapshotClosed)) is

-- an open instant is not refused as closed
pub only_memory : (instant : ℕ) (instants : List ℕ) (error : Error) → is_open instant instants ≡ true → length instants < 2 ^ 64 - 1 → IsCloningRefusal instant instants error → error ≡ OutOfMemory
only_memory instant instants SnapshotClosed here room is = absurd (true≢false (sym here ∙ is))
only_memory instant instants NumbersUsedUp here room is = let full = is.1 in absurd (omega (arith, full, room))
only_memory instant instants error here room is = absurd is

-- a tracker of fewer tickets than ids may count one more
pub has_room : (tracker : Tracker) (m : FinMap nat_cmp ℕ) (next : ℕ) → AreTracked tracker m next → next ≤ 2 ^ 64 - 1 → ids_used_up (tickets_of tracker m next) ≡ false → length tracker.instants < 2 ^ 64 - 1
has_room tracker m next are fits left =
    let apart : next ≢ 2 ^ 64 - 1 = grind (arith, nat_tests) in
    let a = are.as_many in
    let b = are.few in
    omega (arith, a, b, fits, apart)
