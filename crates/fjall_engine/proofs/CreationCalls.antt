-- A creation as the code makes it: of a core that was taken into its parts, and whose memory got the keyspace first.
use Rattle.std.proofs.Common.{◌≡◌, ◌≢◌, ℕ, ◌<◌, ◌-◌, ◌^◌, if◌then◌else◌, false, List, None, Ok, Err, ◌∙◌, ap, subst}
use Rattle.fjall_base.specs.Pairs.{Bytes}
use Rattle.fjall_base.specs.declared.error.Error.{Error}
use Rattle.fjall_options.specs.Options.{AreOptions}
use Rattle.fjall_meta.specs.Keyspaces.{id_of}
use Rattle.fjall_machine.specs.Machine.{names_one}
use Rattle.fjall_machine.specs.Shapes.{OfCreation}
use Rattle.fjall_history.specs.declared.reply.Reply.TheVariants.{Number, Refused}
use Rattle.fjall_machine.specs.Remembered.{IsLawful, Remembered, poisoned, with_creation}
use Rattle.fjall_engine.specs.Holding.{Held}
use Rattle.fjall_engine.specs.Crashes.{is_io}
use Rattle.fjall_engine.specs.Standing.{Owes, Serves, held_due, store_in}
use Rattle.fjall_engine.specs.CallParts.{Makes}
use Rattle.fjall_engine.proofs.Creations.{IsFresh, created_owes, created_serves, id_left, is_fresh, made_memory, numbered_of, raised, to_raised, uncreated_owes, uncreated_serves}

-- a core in its parts, whose memory stayed
pub stays_whole : {old core : Held} → old ≡ core → {new : Remembered} → new ≡ old.memory → (record old { memory = new }) ≡ core
stays_whole {old} is same = (λ i. record old { memory = same i }) ∙ is

-- one whose memory is taken back to what it was before
pub taken_back : {view made : Held} → view ≡ made → {new memory : Remembered} → new ≡ memory → (record view { memory = new }) ≡ (record made { memory = memory })
taken_back {view} is {new} {memory} same = (λ i. record view { memory = same i }) ∙ ap (λ (h : Held). record h { memory = memory }) is

module _ {old core : Held} (is : old ≡ core) (name : Bytes) (options : List Bytes) (due : held_due core (OfCreation name options) ≡ None) where
  due_in : held_due old (OfCreation name options) ≡ None
  due_in = ap (λ (h : Held). held_due h (OfCreation name options)) is ∙ due

  unnamed_in : names_one (store_in core) name ≡ false → names_one (store_in old) name ≡ false
  unnamed_in unnamed = ap (λ (h : Held). names_one (store_in h) name) is ∙ unnamed

  -- a number and an id are left
  pub number_left : names_one (store_in core) name ≡ false → old.memory.next < 2 ^ 63
  number_left unnamed = numbered_of old name options due_in (unnamed_in unnamed)

  pub id_left_in : names_one (store_in core) name ≡ false → old.memory.keyspaces.next ≢ 2 ^ 64 - 1
  id_left_in unnamed = id_left old name options due_in (unnamed_in unnamed)

  -- Its memory, lawful before, got a keyspace of this name and these options, under this id and by this number.
  module _ (lawful : IsLawful old.memory) (none : id_of name core.memory.keyspaces.living ≡ None) (are : AreOptions options) {id number : ℕ} (id_is : id ≡ old.memory.keyspaces.next) (number_is : number ≡ old.memory.next)
      {m : Remembered} {spelled : Bytes} (holds : m ≡ with_creation spelled options old.memory) (same : spelled ≡ name) (honest : Type 0) (made : Held) where
    unnamed_there : id_of name old.memory.keyspaces.living ≡ None
    unnamed_there = ap (λ (h : Held). id_of name h.memory.keyspaces.living) is ∙ none

    fresh : IsFresh old name options
    fresh = is_fresh old name options lawful due_in unnamed_there are

    held : m ≡ with_creation name options old.memory
    held = holds ∙ ap (λ (n : Bytes). with_creation n options old.memory) same

    pub done_serves : Makes honest (record old { memory = m }) id number (Ok tt) made → honest → Serves core (OfCreation name options) (Number id) made
    done_serves all = subst (λ (h : Held). honest → Serves h (OfCreation name options) (Number id) made) is
        (created_serves old name options id number id_is number_is fresh.after due_in fresh.fresh honest made unnamed_there (to_raised honest old made name options m id number (Ok tt) held all))

    pub done_owes : Makes honest (record old { memory = m }) id number (Ok tt) made → Owes core (OfCreation name options) (Number id) made
    done_owes all = subst (λ (h : Held). Owes h (OfCreation name options) (Number id) made) is
        (created_owes old name options id number id_is number_is fresh.after due_in fresh.fresh honest made (to_raised honest old made name options m id number (Ok tt) held all))

    module _ (error : Error) (all : Makes honest (record old { memory = m }) id number (Err error) made) where
      undone : Makes honest (raised name options old) id number (Err error) made
      undone = to_raised honest old made name options m id number (Err error) held all

      -- what is in memory where it wasn't made
      pub undone_memory : made.memory ≡ with_creation name options old.memory
      undone_memory = made_memory honest old made name options id number error undone

      module _ {left new : Held} (back : left ≡ (record made { memory = old.memory })) (poisons : new ≡ (if is_io error then record left { memory = poisoned left.memory } else left)) where
        goes_back : new ≡ (if is_io error then record made { memory = poisoned old.memory } else record made { memory = old.memory })
        goes_back = poisons ∙ ap (λ (h : Held). if is_io error then record h { memory = poisoned h.memory } else h) back

        pub undone_serves : honest → Serves core (OfCreation name options) (Refused error) new
        undone_serves = subst (λ (h : Held). honest → Serves h (OfCreation name options) (Refused error) new) is
            (uncreated_serves old name options id number id_is number_is fresh.after due_in fresh.fresh honest made new error fresh.lawful undone goes_back)

        pub undone_owes : Owes core (OfCreation name options) (Refused error) new
        undone_owes = subst (λ (h : Held). Owes h (OfCreation name options) (Refused error) new) is
            (uncreated_owes old name options id number id_is number_is fresh.after due_in fresh.fresh honest made new error fresh.lawful undone goes_back)
