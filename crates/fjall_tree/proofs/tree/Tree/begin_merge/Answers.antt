use Rattle.std.proofs.Common.{◌≡◌, ◌++◌, ℕ, Err, List, ap, arith, length, refl, rules, subst, sym, ◌∙◌}
use Rattle.fjall_base.specs.declared.error.Error.TheVariants.{OutOfMemory}
use Rattle.fjall_table_reader.specs.Readers.{AreRead, Reader}
use Rattle.fjall_table_reader.proofs.Several.{length_read}
use Rattle.fjall_jobs.specs.Merges.{merge_task}
use Rattle.fjall_tree.specs.Shapes.{shape_of}
use Rattle.fjall_tree.specs.Jobs.{merge_of}
use Rattle.fjall_tree.proofs.Outstanding.{same_shape}
use Rattle.fjall_tree.proofs.Merged.{merge_is_out}
use Rattle.fjall_tree.proofs.tree.Tree.begin_merge.Goals as goal

pub returns-then-tables-eq0-clause-same : goal.returns-then-tables-eq0-clause-same
returns-then-tables-eq0-clause-same g c none = same_shape (shape_of c.args.self.now)

pub returns-in_err-extend_from_slice-clause-err : goal.returns-in_err-extend_from_slice-clause-err
returns-in_err-extend_from_slice-clause-err g c =
    let is : c.from_residual.result ≡ Err OutOfMemory = search rules in
    rw is (same_shape (shape_of c.args.self.now))

pub returns-clause-out : goal.returns-clause-out
returns-clause-out g c honest entries r =
    let m = c.args.self.now in
    let old = g.D.Disk.meaning c.args.disk.now in
    let read = subst (λ (ts : List Reader). AreRead old ts entries) (sym c.as_mut_slice.ensures.value) r.tables in
    let input = c.in_ok-input.ensures.input honest entries read in
    let clears = c.in_ok-extend_from_slice.ensures.items ∙ ap (λ (l : List ℕ). l ++ c.as_slice.result.now) c.new-clears.ensures.items ∙ c.as_slice.ensures.value in
    let told : merge_task c.new.result ≡ merge_of c.args.id c.args.keyspace_id c.args.watermark entries m.clears.items =
    c.new.ensures.task ∙ (λ i. record { id = c.args.id; keyspace = c.args.keyspace_id; watermark = c.args.watermark; runs = input i; clears = clears i }) in
    let n = ap length clears in
    merge_is_out (shape_of m) _ entries c.args.id c.args.keyspace_id c.args.watermark c.table_count-tables.result c.len.result c.floor-bound.result (merge_task c.new.result) m.shape r.below (length_read old m.tables.items entries r.tables)
    told c.table_count-tables.ensures (omega (arith, n, c.len.ensures)) c.floor-bound.ensures refl refl refl
