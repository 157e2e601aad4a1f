use Rattle.std.proofs.Common.{Err, List, None, ap, arith, length, rules, slice_get, subst, sym, ◌∙◌, ◌≡◌, ◌<◌, ◌-◌}
use Rattle.std.specs.Option.{option_map}
use Rattle.std.specs.declared.ops.Bound.TheVariants.{Included}
use Rattle.fjall_table.specs.Blocks.{Entry}
use Rattle.fjall_table_reader.specs.Files.{handles_in}
use Rattle.fjall_table.specs.Tables.{versions_at}
use Rattle.fjall_table.specs.TableReading.{blocks_below, blocks_up_to}
use Rattle.fjall_table_reader.proofs.TableFiles.{refused_later}
use Rattle.fjall_table_reader.specs.Finds.{entry_found}
use Rattle.fjall_table_reader.specs.Readers.{IsReader, Reader}
use Rattle.fjall_table_reader.proofs.Spans.{last_within}
use Rattle.fjall_table_reader.proofs.Readers.{finding_more, finding_none, found_entry, found_here, found_nowhere, still, wrong_for}
use Rattle.fjall_table_reader.proofs.table_reader.TableReader.find.Goals as goal

pub loop-at-init : goal.loop-at-init
loop-at-init g c =
    let is = subst (λ (t : Reader). IsReader t) c.self.view_is c.self.invariant.reader in
    finding_none _ _ c.args.self.now c.args.key.now c.args.instant _ is.ascend (c.span-span.ensures.start ∙ ap (λ (t : Reader). blocks_below c.args.key.now t.handles - 1) c.self.view_is)

pub load-requires : goal.load-requires
load-requires g c =
    let l = last_within (Included c.args.key.now) (handles_in c.self.inside.file) in
    omega (arith, l, c.loop-at-test.true, c.span-span.ensures.end, ap (λ (t : Reader). length t.handles) c.self.view_is, ap length c.loop-at.invariant.table.handles)

pub returns-in_err-load-clause-refused : goal.returns-in_err-load-clause-refused
returns-in_err-load-clause-refused g c honest entries r =
    let is : c.from_residual.result ≡ Err c.in_err-load.field-0.0 = search rules in
    let f = c.loop-at.invariant in
    let l = last_within (Included c.args.key.now) (handles_in c.self.inside.file) in
    let lt : c.loop-at.at < length c.loop-at.self.handles = omega (arith, l, c.loop-at-test.true, c.span-span.ensures.end, ap (λ (t : Reader). length t.handles) c.self.view_is, ap length f.table.handles) in
    let to : c.loop-at.at < blocks_up_to c.args.key.now c.args.self.now.handles = omega (arith, c.loop-at-test.true, c.span-span.ensures.end, ap (λ (t : Reader). blocks_up_to c.args.key.now t.handles) c.self.view_is) in
    rw is (refused_later _ _ _ _ _ c.in_err-load.field-0.0 f.disk.later c.in_err-load.ensures.disk.later (wrong_for (g.D.Disk.meaning c.args.disk.now) (g.D.Disk.meaning c.loop-at.disk) c.args.self.now c.loop-at.self c.args.key.now c.loop-at.at (still g.D.Disk.honest (g.D.Disk.meaning c.args.disk.now) (g.D.Disk.meaning c.loop-at.disk) f.disk honest) f.table lt f.from to) (c.in_err-load.ensures.refused honest r.blocks (f.reads honest r.blocks r.reads)))

pub returns-in-Some-clause-found : goal.returns-in-Some-clause-found
returns-in-Some-clause-found g c honest entries r =
    let f = c.loop-at.invariant in
    let after = c.in_ok-load.ensures.reads honest r.blocks (f.reads honest r.blocks r.reads) in
    let here = after.kept.0 c.loop-at.at _ c.recent_block.ensures in
    let hit = ap (λ (vs : List Entry). slice_get (versions_at c.args.key.now c.args.instant vs) 0) (sym c.deref.ensures) ∙ found_entry c.args.key.now c.in_ok-found.field-0 c.in-Some.found _ c.in_ok-found.ensures.found c.in-Some.is in
    sym (found_here c.args.key.now c.args.instant c.loop-at.at r.blocks _ entries (entry_found c.args.key.now c.in-Some.found) r.all (f.none honest r.blocks r.reads) here hit)

pub loop-at-preserved : goal.loop-at-preserved
loop-at-preserved g c =
    let none : c.in_ok-found.field-0 ≡ None = search rules in
    let miss = ap (λ (vs : List Entry). slice_get (versions_at c.args.key.now c.args.instant vs) 0) (sym c.deref.ensures) ∙ sym c.in_ok-found.ensures.found ∙ ap (option_map (entry_found c.args.key.now)) none in
    let e = c.in_ok-load.ensures in
    finding_more _ _ _ _ _ c.loop-at.self c.load.new.self _ _ c.loop-at.at _ c.loop-at.invariant e.table e.disk e.reads (λ honest blocks r. (e.reads honest blocks r).kept.0 c.loop-at.at _ c.recent_block.ensures) miss

pub returns-clause-found : goal.returns-clause-found
returns-clause-found g c honest entries r =
    let is = subst (λ (t : Reader). IsReader t) c.self.view_is c.self.invariant.reader in
    sym (found_nowhere _ c.args.self.now c.args.key.now c.args.instant c.loop-at.at r.blocks entries is.ascend r.reads r.all (c.loop-at.invariant.none honest r.blocks r.reads) (omega (arith, c.loop-at-test.false, c.span-span.ensures.end, ap (λ (t : Reader). blocks_up_to c.args.key.now t.handles) c.self.view_is)))
