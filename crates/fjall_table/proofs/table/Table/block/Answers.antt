use Rattle.std.proofs.Common.{ℕ, List, length, take, map, Option, IfOk, IfErr, IfSome, sym, ap, subst, ◌∙◌, arith}
use Rattle.fjall_base.specs.declared.error.StorageError.TheVariants.{TableDamaged}
use Rattle.fjall_table.specs.declared.index.BlockHandle.{BlockHandle}
use Rattle.fjall_table.specs.Reading.{DamagedWhere}
use Rattle.fjall_table.specs.Blocks.{seen}
use Rattle.fjall_table.specs.TableReading.{handle_of, part_at, IsBlockFrom, IsNoBlockFrom}
use Rattle.fjall_table.proofs.TableReading.{got, handle_within}
use Rattle.fjall_table.proofs.table.Table.block.Goals as goal

pub split_at-requires : goal.split_at-requires
split_at-requires c =
    let s = c.args.self.now in
    let l = handle_within s.index.handles.items s.index.data_len (length s.bytes.now) c.args.at c.index.result.now s.index.covers s.within (got s.index.handles.items c.args.at c.index.result.now c.requires c.index.ensures) in
    omega (arith, l)

pub split_at-requires-2 : goal.split_at-requires-2
split_at-requires-2 c =
    let s = c.args.self.now in
    let l = handle_within s.index.handles.items s.index.data_len (length s.bytes.now) c.args.at c.index.result.now s.index.covers s.within (got s.index.handles.items c.args.at c.index.result.now c.requires c.index.ensures) in
    omega (arith, l, c.split_at.ensures.back_len)

pub returns-clause-block : goal.returns-clause-block
returns-clause-block c =
    let s = c.args.self.now in
    let h = c.index.result.now in
    let framed = c.split_at-2.ensures.front ∙ ap (take h.len) c.split_at.ensures.back in
    let read = subst (λ (bytes : List ℕ). IfOk c.read.result (λ vs. IsBlockFrom h.first_key.now bytes (map seen vs.items))) framed c.read.ensures.block in
    subst (λ (o : Option BlockHandle). IfOk c.read.result (λ vs. IfSome o (λ h. IsBlockFrom h.first_key.now (part_at (handle_of h) s.bytes.now) (map seen vs.items)))) (sym (got s.index.handles.items c.args.at h c.requires c.index.ensures)) read

pub returns-clause-damaged : goal.returns-clause-damaged
returns-clause-damaged c =
    let s = c.args.self.now in
    let h = c.index.result.now in
    let framed = c.split_at-2.ensures.front ∙ ap (take h.len) c.split_at.ensures.back in
    let read = subst (λ (bytes : List ℕ). IfErr c.read.result (DamagedWhere TableDamaged (IsNoBlockFrom h.first_key.now bytes))) framed c.read.ensures.damaged in
    subst (λ (o : Option BlockHandle). IfErr c.read.result (DamagedWhere TableDamaged (IfSome o (λ h. IsNoBlockFrom h.first_key.now (part_at (handle_of h) s.bytes.now))))) (sym (got s.index.handles.items c.args.at h c.requires c.index.ensures)) read
