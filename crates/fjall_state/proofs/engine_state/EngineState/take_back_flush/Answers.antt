use Rattle.std.proofs.Common.{◌≡◌, ◌∙◌, ap}
use Rattle.fjall_tree.specs.Jobs.{flush_dropped}
use Rattle.fjall_trees.specs.Forests.{altered_at}
use Rattle.fjall_machine.specs.Remembered.{Remembered, flush_out_in_memory}
use Rattle.fjall_state.proofs.Inside.{memory_in}
use Rattle.fjall_machine.proofs.Flushing.{begun_gone, job_back}
use Rattle.fjall_machine.proofs.Lawful.{alike}
use Rattle.fjall_state.proofs.engine_state.EngineState.take_back_flush.Goals as goal

pub invariant_of-self : goal.invariant_of-self
invariant_of-self c =
    let a = c.self.inside in
    let id = c.args.id in
    let m = c.requires.0 in
    let is = c.requires.1 in
    let old = memory_in a in
    let same : old ≡ flush_out_in_memory id m = c.self.view_is ∙ c.requires.3 in
    let trees = c.drop_flush.ensures ∙ ap (λ (k : Remembered). altered_at id flush_dropped k.trees) same ∙ begun_gone id m.next_job m.tickets.watermark m.trees is.forest c.requires.2 in
    alike m _ is (ap (λ (k : Remembered). k.keyspaces) same) trees (ap (λ (k : Remembered). k.next) same) (ap (λ (k : Remembered). k.tickets) same)
    (ap (λ (k : Remembered). k.records) same) (job_back a.next_job m.next_job (ap (λ (k : Remembered). k.next_job) same))

pub returns : goal.returns
returns c = λ m is begins made.
    let a = c.self.inside in
    let id = c.args.id in
    let old = memory_in a in
    let same : old ≡ flush_out_in_memory id m = c.self.view_is ∙ made in
    let trees = c.drop_flush.ensures ∙ ap (λ (k : Remembered). altered_at id flush_dropped k.trees) same ∙ begun_gone id m.next_job m.tickets.watermark m.trees is.forest begins in
    let job = job_back a.next_job m.next_job (ap (λ (k : Remembered). k.next_job) same) in
    λ i. record {
      keyspaces = (same i).keyspaces;
      trees = trees i;
      next = (same i).next;
      poisoned = (same i).poisoned;
      handles = (same i).handles;
      lasting = (same i).lasting;
      tickets = (same i).tickets;
      journals = (same i).journals;
      records = (same i).records;
      next_job = job i;
      merges_done = (same i).merges_done;
    }
