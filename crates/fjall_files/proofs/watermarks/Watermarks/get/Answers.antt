use Rattle.std.proofs.Common.{ap, ◌∙◌, subst}
use Rattle.std.specs.Map.{keys_of}
use Rattle.std.proofs.lemmas.Map.Keys.{IsStrictlyIncreasing-from_sorted}
use Rattle.fjall_files.specs.Marks.{JournalMarks, IsAscending, lsn_of}
use Rattle.fjall_files.proofs.Raising.{lsn_of-lookup}
use Rattle.fjall_files.proofs.watermarks.Watermarks.get.Goals as goal

pub returns-clause-lsn : goal.returns-clause-lsn
returns-clause-lsn c =
    c.copied.ensures ∙ c.get.ensures.value ∙ lsn_of-lookup c.args.keyspace_id c.self.inside.lsns.entries ∙ ap (λ (m : JournalMarks). lsn_of m c.args.keyspace_id) c.self.view_is

pub returns-clause-ascending : goal.returns-clause-ascending
returns-clause-ascending c = subst (λ (m : JournalMarks). IsAscending m) c.self.view_is (IsStrictlyIncreasing-from_sorted (keys_of c.self.inside.lsns.entries) c.self.invariant)
