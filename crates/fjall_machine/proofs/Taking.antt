-- A keyspace that was made last is taken back, with its tree and its number.
use Rattle.std.proofs.Common.{◌≡◌, ℕ, ◌+◌, ◌-◌, ◌<◌, List, All, None, ap, ◌∙◌, arith}
use Rattle.std.specs.FinMap.{get, insert, remove}
use Rattle.fjall_base.specs.Pairs.{Bytes}
use Rattle.fjall_manifest.specs.Catalog.{fields, first_of}
use Rattle.fjall_replay.specs.Known.{LastFields}
use Rattle.fjall_manifest.specs.Records.{Fields}
use Rattle.fjall_meta.specs.Keyspaces.{Keyspaces, TakesBack}
use Rattle.fjall_trees.specs.Forests.{Forest, without}
use Rattle.fjall_trees.specs.Writes.{with_tree}
use Rattle.fjall_trees.proofs.Planted.{planted_gone}
use Rattle.fjall_history.specs.Tickets.{Tracked}
use Rattle.fjall_machine.specs.Remembered.{IsLawful, Remembered, with_creation}
use Rattle.fjall_machine.proofs.Lawful.{put_back}

-- a tree that was planted is dropped again
pub unplanted : (id next from : ℕ) (old mid new : Forest) → id ≡ next → All (λ k. k.id < next) old → mid ≡ with_tree next from old → new ≡ without id mid → new ≡ old
unplanted id next from old mid new at given planted dropped = dropped ∙ (λ i. without (at i) (planted i)) ∙ planted_gone next from old given

-- and so is a record that was put where none was kept
pub unrecorded : (id next : ℕ) (last : Fields) (old mid new : LastFields) → id ≡ next → get old next ≡ None → mid ≡ insert old id last → new ≡ remove mid id → new ≡ old
unrecorded id next last old mid new at none put gone = gone ∙ ap (λ (records : LastFields). remove records id) put ∙ put_back old id last (ap (get old) at ∙ none)

module _ (name : Bytes) (options : List Bytes) (m old : Remembered) (is : IsLawful m) (same : old ≡ with_creation name options m) where
  pub keyspaces_back : (new : Keyspaces) → TakesBack old.keyspaces new → new ≡ m.keyspaces
  keyspaces_back new back = back m.keyspaces name options m.next is.keyspaces (ap (λ (k : Remembered). k.keyspaces) same)

  pub trees_back : (id : ℕ) (keyspaces : Keyspaces) (new : Forest) → TakesBack old.keyspaces keyspaces → id ≡ keyspaces.next → new ≡ without id old.trees → new ≡ m.trees
  trees_back id keyspaces new back at dropped =
      unplanted id m.keyspaces.next m.next m.trees old.trees new (at ∙ ap (λ (s : Keyspaces). s.next) (keyspaces_back keyspaces back)) is.given (ap (λ (k : Remembered). k.trees) same) dropped

  pub records_back : (id : ℕ) (keyspaces : Keyspaces) (new : LastFields) → TakesBack old.keyspaces keyspaces → id ≡ keyspaces.next → new ≡ remove old.records id → new ≡ m.records
  records_back id keyspaces new back at dropped =
      let next : id ≡ m.keyspaces.next = at ∙ ap (λ (s : Keyspaces). s.next) (keyspaces_back keyspaces back) in
      dropped ∙ (λ i. remove (same i).records (next i)) ∙ put_back m.records m.keyspaces.next (fields (first_of m.next)) (is.kept m.keyspaces.next (omega arith))

  pub number_back : (new : Tracked) → new ≡ record { visible = old.next - 1; tickets = old.tickets } → new.visible ≡ m.next
  number_back new back =
      let visible : new.visible ≡ old.next - 1 = ap (λ (t : Tracked). t.visible) back in
      let next : old.next ≡ m.next + 1 = ap (λ (k : Remembered). k.next) same in
      omega (arith, visible, next)

  pub tickets_back : (new : Tracked) → new ≡ record { visible = old.next - 1; tickets = old.tickets } → new.tickets ≡ m.tickets
  tickets_back new back = ap (λ (t : Tracked). t.tickets) back ∙ ap (λ (k : Remembered). k.tickets) same
