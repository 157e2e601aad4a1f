use Rattle.std.proofs.Common.{ℕ}
use Rattle.fjall_table.specs.Blocks.{Entry}
use Rattle.fjall_memtable.specs.Parts.{HeldPart}
use Rattle.fjall_memtable.proofs.Apart.{clears_numbered, numbers_below, numbers_from, versions_numbered}
use Rattle.fjall_memtable.proofs.parts_laws.parts_stand_apart.Goals as goal

pub returns-clause-below : goal.returns-clause-below
returns-clause-below c = numbers_below (λ (g : HeldPart). g.versions) (λ (v : Entry). v.number) versions_numbered

pub returns-clause-from : goal.returns-clause-from
returns-clause-from c = numbers_from (λ (g : HeldPart). g.versions) (λ (v : Entry). v.number) versions_numbered

pub returns-clause-clears_below : goal.returns-clause-clears_below
returns-clause-clears_below c = numbers_below (λ (g : HeldPart). g.clears) (λ (n : ℕ). n) clears_numbered

pub returns-clause-clears_from : goal.returns-clause-clears_from
returns-clause-clears_from c = numbers_from (λ (g : HeldPart). g.clears) (λ (n : ℕ). n) clears_numbered
