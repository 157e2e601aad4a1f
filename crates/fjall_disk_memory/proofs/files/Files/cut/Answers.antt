use Rattle.std.proofs.Common.{refl, sym, ◌∙◌}
use Rattle.std.proofs.lemmas.Bool.{OnTrue_at}
use Rattle.fjall_base.specs.Disk.{cut_to}
use Rattle.fjall_disk_memory.proofs.Cuts.{cut_in_two}
use Rattle.fjall_disk_memory.proofs.Housed.{housed_altered}
use Rattle.fjall_disk_memory.proofs.files.Files.cut.Goals as goal

pub invariant_of-self-2 : goal.invariant_of-self-2
invariant_of-self-2 c = record { housed = housed_altered _ _ c.args.name.now (cut_to c.args.len) refl refl (OnTrue_at c.if-not-branch.false c.in_ok-alter_at.ensures.ok) c.args.self.now.housed }

pub returns-clause-ok : goal.returns-clause-ok
returns-clause-ok c =
    record {
      state = OnTrue_at c.if-not-branch.false c.in_ok-alter_at.ensures.ok ∙ sym (cut_in_two _ _ _);
      steps = c.then-self.ensures;
    }
