use Rattle.fjall_table_reader.proofs.Readers.{Finding}
use Rattle.fjall_table_reader.proofs.table_reader.TableReader.find.Given as goal

abbrev pub invariant-loop-at : goal.invariant-loop-at
invariant-loop-at g l = Finding g.D.Disk.honest (g.D.Disk.meaning l.fn.disk) (g.D.Disk.meaning l.disk) l.fn.self l.self l.key l.instant l.at
