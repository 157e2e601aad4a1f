-- A keyspace that lives keeps its settings, and its id is never given anew.
use Rattle.std.proofs.Common.{◌≡◌, ℕ, ◌<◌, ◌≤◌, ◌==◌, Bool, true, false, cond, [], Option, None, Some, unwrap_or, refl, sym, ap, subst, ◌∙◌, arith}
use Rattle.std.proofs.lemmas.Bool.{true≢false}
use Rattle.std.specs.Cmp.{nat_cmp_total}
use Rattle.std.specs.FinMap.{FinMap, get, get-remove, insert, remove}
use Rattle.std.specs.Option.{is_some}
use Rattle.std.specs.Ordering.{nat_cmp}
use Rattle.fjall_base.specs.Pairs.{Bytes}
use Rattle.fjall_base.specs.Store.{Clear, Command, Create, Delete, Options, Store, Write, apply}
use Rattle.fjall_history.specs.Histories.{History, grown, latest, plain}
use Rattle.fjall_meta.proofs.Slots.{get_put, ties}
use Rattle.fjall_machine.specs.Machine.{is_living, options_in}
use Rattle.fjall_machine.proofs.Lawful.{others}
use Rattle.fjall_machine.proofs.Viewing.{latest_grown}

-- As far as a keyspace whose id was given out is concerned, the store went on: where it lives, it lived before, and its settings are
-- the same.
pub record WentOn (id : ℕ) (old new : Store) : Type 0 where
  pub next : old.next ≤ new.next
  pub settings : id < old.next → is_living new id ≡ true → (is_living old id ≡ true) × (options_in new id ≡ options_in old id)

pub as_it_was : (id : ℕ) (s : Store) → WentOn id s s
as_it_was id s = record { next = omega arith; settings = λ given lives. (lives, refl) }

pub went_further : (id : ℕ) (a b c : Store) → WentOn id a b → WentOn id b c → WentOn id a c
went_further id a b c one two =
    let le = one.next in
    let more = two.next in
    record {
      next = omega (arith, le, more);
      settings = λ given lives.
          let last = two.settings (omega (arith, given, le)) lives in
          let first = one.settings given last.0 in
          (first.0, last.1 ∙ first.1);
    }

-- another id's slot
other_slot : {X : Type 0} (m : FinMap nat_cmp X) (id : ℕ) (x : X) (other : ℕ) → other < id → get (insert m id x) other ≡ get m other
other_slot m id x other lt = get_put m id x other ∙ ap (λ (b : Bool). cond b (Some x) (get m other)) (others other id (λ same. absurd (omega (arith, lt, same))))

-- one that is there once another was taken away was there before
there_before : (m : FinMap nat_cmp Bytes) (id other : ℕ) → is_some (get (remove m id) other) ≡ true → is_some (get m other) ≡ true
there_before m id other there = by (other == id) (ap (λ (o : Option Bytes). is_some o) (sym (get-remove nat_cmp_total m id other ∙ ap (λ (b : Bool). cond b None (get m other)) (ties other id))) ∙ there)
  where
    by : (b : Bool) → is_some (cond b None (get m other)) ≡ true → is_some (get m other) ≡ true
    by true e = absurd (true≢false (sym e))
    by false e = e

after_command : (id : ℕ) (s : Store) (c : Command) → WentOn id s (apply s c)
after_command id s (Write items) = record { next = omega arith; settings = λ given lives. (lives, refl) }
after_command id s (Clear other) = record { next = omega arith; settings = λ given lives. (lives, refl) }
after_command id s (Create name options) = record {
  next = omega arith;
  settings = λ given lives. (
    ap (λ (o : Option Bytes). is_some o) (sym (other_slot s.names s.next name id given)) ∙ lives,
    ap (λ (o : Option Options). unwrap_or o []) (other_slot s.options s.next options id given),
  );
}
after_command id s (Delete other) = record { next = omega arith; settings = λ given lives. (there_before s.names other id lives, refl) }

pub after_growth : (id : ℕ) (h : History) (c : Command) → WentOn id (latest h) (latest (grown h (plain c)))
after_growth id h c = subst (WentOn id (latest h)) (sym (latest_grown h (plain c))) (after_command id (latest h) c)
