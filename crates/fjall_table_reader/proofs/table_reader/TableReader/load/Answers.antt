use Rattle.std.proofs.Common.{IfErr, IfSome, slice_get, subst}
use Rattle.fjall_table_reader.specs.Files.{HoldsNoBlock, IsRefused, entry_at}
use Rattle.fjall_table_reader.specs.Readers.{Reader}
use Rattle.fjall_table_reader.proofs.Readers.{renewed_reads}
use Rattle.fjall_table_reader.proofs.table_reader.TableReader.load.Goals as goal

pub returns-clause-reads : goal.returns-clause-reads
returns-clause-reads g c honest blocks r = c.read.ensures.reads honest blocks (renewed_reads _ c.args.self.now c.renew.new.self blocks c.args.at c.renew.ensures r)

pub returns-clause-refused : goal.returns-clause-refused
returns-clause-refused g c honest blocks r =
    let old = g.D.Disk.meaning c.args.disk.now in
    subst (λ (t : Reader). IfErr c.read.result (IsRefused (IfSome (slice_get t.handles c.args.at) (HoldsNoBlock (entry_at old t.name))) old.faults (g.D.Disk.meaning c.read.new.disk).faults)) c.renew.ensures
    (c.read.ensures.refused honest blocks (renewed_reads _ c.args.self.now c.renew.new.self blocks c.args.at c.renew.ensures r))
