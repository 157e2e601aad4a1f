use Rattle.std.proofs.Common.{◌≡◌, ◌∙◌, ap}
use Rattle.fjall_trees.specs.Views.{forest_of}
use Rattle.fjall_machine.specs.Remembered.{Remembered, with_creation}
use Rattle.fjall_state.proofs.Inside.{memory_in}
use Rattle.fjall_machine.proofs.Lawful.{alike}
use Rattle.fjall_machine.proofs.Taking.{keyspaces_back, number_back, records_back, tickets_back, trees_back}
use Rattle.fjall_state.proofs.engine_state.EngineState.take_back.Goals as goal

pub invariant_of-self : goal.invariant_of-self
invariant_of-self c =
    let name = c.requires.0 in
    let options = c.requires.1 in
    let m = c.requires.2 in
    let is = c.requires.3 in
    let a = c.self.inside in
    let old = memory_in a in
    let same : old ≡ with_creation name options m = c.self.view_is ∙ c.requires.4 in
    alike m _ is (keyspaces_back name options m old is same c.take_back.new.self c.take_back.ensures)
    (trees_back name options m old is same c.next_id-id.result c.take_back.new.self (forest_of c.let_go.new.self) c.take_back.ensures c.next_id-id.ensures.value c.let_go.ensures)
    (number_back name options m old is same c.retract.new.self c.retract.ensures) (tickets_back name options m old is same c.retract.new.self c.retract.ensures)
    (records_back name options m old is same c.next_id-id.result c.take_back.new.self c.remove.new.self c.take_back.ensures c.next_id-id.ensures.value c.remove.ensures) (ap (λ (k : Remembered). k.next_job) same)

pub returns : goal.returns
returns c = λ name options m is made.
    let a = c.self.inside in
    let old = memory_in a in
    let same : old ≡ with_creation name options m = c.self.view_is ∙ made in
    let keyspaces = keyspaces_back name options m old is same c.take_back.new.self c.take_back.ensures in
    let trees = trees_back name options m old is same c.next_id-id.result c.take_back.new.self (forest_of c.let_go.new.self) c.take_back.ensures c.next_id-id.ensures.value c.let_go.ensures in
    let next = number_back name options m old is same c.retract.new.self c.retract.ensures in
    let tickets = tickets_back name options m old is same c.retract.new.self c.retract.ensures in
    let records = records_back name options m old is same c.next_id-id.result c.take_back.new.self c.remove.new.self c.take_back.ensures c.next_id-id.ensures.value c.remove.ensures in
    λ i.
    record {
      keyspaces = keyspaces i;
      trees = trees i;
      next = next i;
      poisoned = (same i).poisoned;
      handles = (same i).handles;
      lasting = (same i).lasting;
      tickets = tickets i;
      journals = (same i).journals;
      records = records i;
      next_job = (same i).next_job;
      merges_done = (same i).merges_done;
    }
