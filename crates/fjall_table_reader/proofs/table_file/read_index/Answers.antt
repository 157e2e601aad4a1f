use Rattle.std.proofs.Common.{List, arith, map, subst, sym, ℕ}
use Rattle.std.proofs.lemmas.Result.{IfOk-weaker}
use Rattle.fjall_base.specs.Disk.{DiskEntry, state_in}
use Rattle.fjall_table_reader.specs.Files.{HasPart}
use Rattle.fjall_table.specs.Owned.{owned_handle}
use Rattle.fjall_table_reader.proofs.TableFiles.{no_table_held, refused_if, table_held}
use Rattle.fjall_table_reader.proofs.table_file.read_index.Goals as goal

pub returns-clause-index : goal.returns-clause-index
returns-clause-index g c honest info has =
    let f = c.args.footer in
    let entry : DiskEntry = (state_in (g.D.Disk.meaning c.args.disk.now) c.args.name.now).now in
    let part = subst (λ (l : List ℕ). HasPart entry f.index_offset f.index_len l) (sym c.deref.ensures.value) (c.in_ok-framed.ensures.part honest) in
    IfOk-weaker c.read.result _ _ (λ i is. table_held entry info f has (omega arith) (omega arith) (omega arith) c.deref.result.now part (map owned_handle i.handles.items) is.0 is.1) c.read.ensures.index

pub returns-clause-refused : goal.returns-clause-refused
returns-clause-refused g c honest info has =
    let f = c.args.footer in
    let entry : DiskEntry = (state_in (g.D.Disk.meaning c.args.disk.now) c.args.name.now).now in
    let part = subst (λ (l : List ℕ). HasPart entry f.index_offset f.index_len l) (sym c.deref.ensures.value) (c.in_ok-framed.ensures.part honest) in
    refused_if c.read.result _ _ _ _ (no_table_held entry info f has (omega arith) (omega arith) (omega arith) c.deref.result.now part) c.read.ensures.damaged
