use Rattle.std.proofs.Common.{ap, arith, length, slice_get, subst, sym, ◌∙◌, ◌<◌, List}
use Rattle.fjall_base.proofs.Codecs.{just}
use Rattle.fjall_table.specs.Blocks.{Entry}
use Rattle.fjall_table_reader.specs.Files.{handles_in}
use Rattle.fjall_table_reader.specs.Readers.{IsReader, Reader, ReadsBlocks}
use Rattle.fjall_table_reader.proofs.Readers.{kept_too, read_right, reads_on, set_there, some_within}
use Rattle.fjall_table_reader.proofs.table_reader.TableReader.read.Goals as goal

pub returns-in_err-read_block-clause-reads : goal.returns-in_err-read_block-clause-reads
returns-in_err-read_block-clause-reads g c honest blocks r = reads_on g.D.Disk.honest _ _ c.args.self.now blocks c.in_err-read_block.ensures.disk honest r

pub returns-in_err-block-clause-reads : goal.returns-in_err-block-clause-reads
returns-in_err-block-clause-reads g c honest blocks r = reads_on g.D.Disk.honest _ _ c.args.self.now blocks c.in_ok-read_block.ensures.disk honest r

pub returns-clause-recent : goal.returns-clause-recent
returns-clause-recent g c = (
  c.in_ok-block.block.value,
  ap (λ (t : Reader). slice_get t.recent c.args.at) c.keep.ensures ∙ set_there c.args.self.now.recent c.args.at _ (some_within c.args.self.now.recent c.args.at _ c.requires),
)

pub returns-clause-reads : goal.returns-clause-reads
returns-clause-reads g c honest blocks r =
    let is = subst (λ (t : Reader). IsReader t) c.self.view_is c.self.invariant.reader in
    let within = some_within c.args.self.now.recent c.args.at _ c.requires in
    let lt : c.args.at < length (handles_in c.self.inside.file) = omega (arith, within, is.recent, ap (λ (t : Reader). length t.handles) c.self.view_is) in
    let inside = subst (λ (t : Reader). ReadsBlocks (g.D.Disk.meaning c.args.disk.now) t blocks) (sym c.self.view_is) r in
    let here = read_right (g.D.Disk.meaning c.args.disk.now) _ blocks c.args.at c.in_ok-read_block.field-0 inside lt (c.in_ok-read_block.ensures.block honest) ∙ ap (λ (v : List Entry). just v) (sym c.in_ok-block.ensures.ok) in
    let later = reads_on g.D.Disk.honest _ _ c.args.self.now blocks c.in_ok-read_block.ensures.disk honest r in
    subst (λ (t : Reader). ReadsBlocks (g.D.Disk.meaning c.read_block.new.disk) t blocks) (sym c.keep.ensures) (kept_too (g.D.Disk.meaning c.read_block.new.disk) c.args.self.now blocks c.args.at c.in_ok-block.block.value later here)
