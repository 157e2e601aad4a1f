use Rattle.std.proofs.Common.{◌≡◌, ◌+◌, ℕ, ap, arith, refl, subst, rules, ◌∙◌}
use Rattle.std.specs.FinMap.{insert}
use Rattle.fjall_manifest.specs.Catalog.{fields, first_of}
use Rattle.fjall_manifest.specs.Records.{view}
use Rattle.fjall_meta.specs.Keyspaces.{AreKeyspaces, with_keyspace}
use Rattle.fjall_history.specs.Tickets.{Tracked}
use Rattle.fjall_trees.specs.Views.{forest_of}
use Rattle.fjall_trees.specs.Writes.{with_tree}
use Rattle.fjall_machine.specs.Remembered.{IsLawful, Remembered, journals_of, with_creation}
use Rattle.fjall_state.proofs.Inside.{memory_in}
use Rattle.fjall_machine.proofs.Counting.{map_of}
use Rattle.fjall_machine.proofs.Lawful.{alike, made_is_lawful}
use Rattle.fjall_machine.proofs.Taking.{unplanted, unrecorded}
use Rattle.fjall_state.proofs.engine_state.EngineState.create.Goals as goal

pub invariant_of-self-in-Ok : goal.invariant_of-self-in-Ok
invariant_of-self-in-Ok c =
    let old = c.args.self.now in
    let a = c.self.inside in
    let is = subst IsLawful c.self.view_is c.self.invariant in
    let text : c.create_keyspace.new.self ≡ with_keyspace c.args.name c.args.options a.tickets.visible a.keyspaces = search rules in
    let made = text ∙ ap (λ (m : Remembered). with_keyspace c.args.name c.args.options m.next m.keyspaces) c.self.view_is in
    let trees : forest_of c.plant.new.self ≡ with_tree old.keyspaces.next old.next old.trees =
    c.in_ok-plant.ensures.ok ∙ (λ i. with_tree (c.next_id-next.ensures.value i) (c.seqno-number.ensures.visible i) (forest_of a.trees)) ∙ ap (λ (m : Remembered). with_tree m.keyspaces.next m.next m.trees) c.self.view_is in
    let records : c.insert.new.self ≡ insert old.records old.keyspaces.next (fields (first_of old.next)) =
    c.in_default.ensures.ok ∙ (λ i. insert a.records (c.next_id-next.ensures.value i) (c.first_record.ensures i)) ∙ ap (λ (n : ℕ). insert a.records a.keyspaces.next (fields (first_of n))) c.seqno-number.ensures.visible
    ∙ ap (λ (m : Remembered). insert m.records m.keyspaces.next (fields (first_of m.next))) c.self.view_is in
    alike (with_creation c.args.name c.args.options old) _ (made_is_lawful c.args.name c.args.options old is c.requires.numbered (subst AreKeyspaces made c.in-Ok.ensures.lawful)) made trees
    (ap (λ (t : Tracked). t.visible) c.publish.ensures ∙ ap (λ (m : Remembered). m.next + 1) c.self.view_is) (ap (λ (t : Tracked). t.tickets) c.publish.ensures ∙ ap (λ (m : Remembered). m.tickets) c.self.view_is)
    records (ap (λ (m : Remembered). m.next_job) c.self.view_is)

pub invariant_of-self-in-Err : goal.invariant_of-self-in-Err
invariant_of-self-in-Err c =
    let a = c.self.inside in
    let old = memory_in a in
    let back : forest_of c.let_go.new.self ≡ forest_of a.trees =
    unplanted c.next_id-next.result a.keyspaces.next a.tickets.visible (forest_of a.trees) (forest_of c.plant.new.self) (forest_of c.let_go.new.self) c.next_id-next.ensures.value c.self.invariant.given
    (c.in_ok-plant.ensures.ok ∙ (λ i. with_tree (c.next_id-next.ensures.value i) (c.seqno-number.ensures.visible i) (forest_of a.trees))) c.let_go.ensures in
    alike old _ c.self.invariant refl back refl refl c.in-Err.ensures.err refl

pub returns-in-Err-clause-unchanged : goal.returns-in-Err-clause-unchanged
returns-in-Err-clause-unchanged c =
    let a = c.self.inside in
    let back : forest_of c.let_go.new.self ≡ forest_of a.trees =
    unplanted c.next_id-next.result a.keyspaces.next a.tickets.visible (forest_of a.trees) (forest_of c.plant.new.self) (forest_of c.let_go.new.self) c.next_id-next.ensures.value c.self.invariant.given
    (c.in_ok-plant.ensures.ok ∙ (λ i. with_tree (c.next_id-next.ensures.value i) (c.seqno-number.ensures.visible i) (forest_of a.trees))) c.let_go.ensures in
    (λ i.
    record {
      keyspaces = a.keyspaces;
      trees = back i;
      next = a.tickets.visible;
      poisoned = a.poisoned;
      handles = map_of a.handles;
      lasting = a.lasting.items;
      tickets = a.tickets.tickets;
      journals = journals_of a.sealed a.active a.watermarks;
      records = c.in-Err.ensures.err i;
      next_job = a.next_job;
      merges_done = a.merges_done;
    })
    ∙ c.self.view_is

pub invariant_of-self-in-Err-create_keyspace : goal.invariant_of-self-in-Err-create_keyspace
invariant_of-self-in-Err-create_keyspace c =
    let a = c.self.inside in
    let old = memory_in a in
    let back : forest_of c.let_go-in-Err-create_keyspace.new.self ≡ forest_of a.trees =
    unplanted c.next_id-next.result a.keyspaces.next a.tickets.visible (forest_of a.trees) (forest_of c.plant.new.self) (forest_of c.let_go-in-Err-create_keyspace.new.self) c.next_id-next.ensures.value c.self.invariant.given
    (c.in_ok-plant.ensures.ok ∙ (λ i. with_tree (c.next_id-next.ensures.value i) (c.seqno-number.ensures.visible i) (forest_of a.trees))) c.let_go-in-Err-create_keyspace.ensures in
    let none = c.self.invariant.kept a.keyspaces.next (omega arith) in
    let records = unrecorded c.next_id-next.result a.keyspaces.next (view c.first_record.result) a.records c.insert.new.self c.remove.new.self c.next_id-next.ensures.value none c.in_default.ensures.ok c.remove.ensures in
    alike old _ c.self.invariant c.in-Err-create_keyspace.ensures.unchanged back refl refl records refl

pub returns-in-Err-create_keyspace-clause-unchanged : goal.returns-in-Err-create_keyspace-clause-unchanged
returns-in-Err-create_keyspace-clause-unchanged c =
    let a = c.self.inside in
    let back : forest_of c.let_go-in-Err-create_keyspace.new.self ≡ forest_of a.trees =
    unplanted c.next_id-next.result a.keyspaces.next a.tickets.visible (forest_of a.trees) (forest_of c.plant.new.self) (forest_of c.let_go-in-Err-create_keyspace.new.self) c.next_id-next.ensures.value c.self.invariant.given
    (c.in_ok-plant.ensures.ok ∙ (λ i. with_tree (c.next_id-next.ensures.value i) (c.seqno-number.ensures.visible i) (forest_of a.trees))) c.let_go-in-Err-create_keyspace.ensures in
    let none = c.self.invariant.kept a.keyspaces.next (omega arith) in
    let records = unrecorded c.next_id-next.result a.keyspaces.next (view c.first_record.result) a.records c.insert.new.self c.remove.new.self c.next_id-next.ensures.value none c.in_default.ensures.ok c.remove.ensures in
    (λ i.
    record {
      keyspaces = c.in-Err-create_keyspace.ensures.unchanged i;
      trees = back i;
      next = a.tickets.visible;
      poisoned = a.poisoned;
      handles = map_of a.handles;
      lasting = a.lasting.items;
      tickets = a.tickets.tickets;
      journals = journals_of a.sealed a.active a.watermarks;
      records = records i;
      next_job = a.next_job;
      merges_done = a.merges_done;
    })
    ∙ c.self.view_is
