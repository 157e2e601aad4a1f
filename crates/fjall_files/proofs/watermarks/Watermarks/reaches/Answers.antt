use Rattle.std.proofs.Common.{subst}
use Rattle.std.specs.Map.{keys_of}
use Rattle.std.proofs.lemmas.Map.Keys.{IsStrictlyIncreasing-from_sorted}
use Rattle.fjall_files.specs.Marks.{IsAscending, JournalMarks}
use Rattle.fjall_files.proofs.watermarks.Watermarks.reaches.Goals as goal

pub returns-clause-ascending : goal.returns-clause-ascending
returns-clause-ascending c = subst (λ (m : JournalMarks). IsAscending m) c.self.view_is (IsStrictlyIncreasing-from_sorted (keys_of c.self.inside.lsns.entries) c.self.invariant)
