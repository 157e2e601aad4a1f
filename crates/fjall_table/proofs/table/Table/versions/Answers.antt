use Rattle.std.proofs.Common.{◌≡◌, ◌+◌, ◌<◌, ◌≤◌, ◌++◌, nat_le, refl, List, length, map, sym, ap, subst, ◌∙◌, arith}
use Rattle.std.proofs.lemmas.Bool.{leb-true, le-leb}
use Rattle.std.proofs.lemmas.List.{map-append, length-map}
use Rattle.std.proofs.lemmas.Result.{err_from_is_err_and}
use Rattle.fjall_base.specs.declared.error.StorageError.TheVariants.{TableDamaged}
use Rattle.fjall_table.specs.Blocks.{Entry, seen, IsOrdered}
use Rattle.fjall_table.specs.TableReading.{handle_of, IsNoTable}
use Rattle.fjall_table.proofs.Damages.{passed_on}
use Rattle.fjall_table.proofs.TableReading.{got, got_map}
use Rattle.fjall_table.proofs.TableBlocks.{indexed, no_table, read_here}
use Rattle.fjall_table.proofs.TableScans.{Gathered, gathered_none, gathered_more, not_full, not_in_order, other_count, is_table}
use Rattle.fjall_table.proofs.table.Table.versions.Goals as goal

pub loop-at-init : goal.loop-at-init
loop-at-init c = rw c.new-versions.ensures.items (gathered_none c.args.self.now.bytes.now (map handle_of c.args.self.now.index.handles.items))

pub returns-in_err-block-clause-damaged : goal.returns-in_err-block-clause-damaged
returns-in_err-block-clause-damaged c =
    let s = c.args.self.now in
    let lt : c.loop-at.at < length s.index.handles.items = omega (arith, c.block_count-at-end.ensures, c.loop-at-test.true) in
    let x = indexed s.bytes.now (map handle_of s.index.handles.items) s.index.data_len s.entry_count s.index.covers s.within s.ends (omega arith) (omega arith) in
    let p = err_from_is_err_and c.from_residual.result c.from_residual.ensures.1 in
    rw (p.1, p.2) (passed_on TableDamaged c.in_err-block.field-0.0 _ (IsNoTable s.bytes.now) c.in_err-block.ensures.damaged (λ none. no_table s.bytes.now s.index.handles.items s.entry_count c.loop-at.at x lt none))

pub returns-then-not-full-clause-damaged : goal.returns-then-not-full-clause-damaged
returns-then-not-full-clause-damaged c =
    let s = c.args.self.now in
    let h = c.index-handle.result.now in
    let lt : c.loop-at.at < length s.index.handles.items = omega (arith, c.block_count-at-end.ensures, c.loop-at-test.true) in
    let x = indexed s.bytes.now (map handle_of s.index.handles.items) s.index.data_len s.entry_count s.index.covers s.within s.ends (omega arith) (omega arith) in
    let e = got_map handle_of s.index.handles.items c.loop-at.at h (got s.index.handles.items c.loop-at.at h lt c.index-handle.ensures) in
    (refl, not_full s.bytes.now (map handle_of s.index.handles.items) s.entry_count c.loop-at.at c.loop-at.full (map seen c.loop-at.versions.items) (handle_of h) x e c.if-not-full.true c.loop-at.invariant)

pub goes_on-requires-clause-block : goal.goes_on-requires-clause-block
goes_on-requires-clause-block c =
    let s = c.args.self.now in
    let h = c.index-handle.result.now in
    let lt : c.loop-at.at < length s.index.handles.items = omega (arith, c.block_count-at-end.ensures, c.loop-at-test.true) in
    let b = read_here s.bytes.now s.index.handles.items c.loop-at.at h (map seen c.in_ok-block.block.items) (got s.index.handles.items c.loop-at.at h lt c.index-handle.ensures) c.in_ok-block.ensures.block in
    rw c.deref-in-loop-at.ensures.value b.is.ordered

pub returns-then-not-goes_on-clause-damaged : goal.returns-then-not-goes_on-clause-damaged
returns-then-not-goes_on-clause-damaged c =
    let s = c.args.self.now in
    let hs = map handle_of s.index.handles.items in
    let h = c.index-handle.result.now in
    let lt : c.loop-at.at < length s.index.handles.items = omega (arith, c.block_count-at-end.ensures, c.loop-at-test.true) in
    let x = indexed s.bytes.now hs s.index.data_len s.entry_count s.index.covers s.within s.ends (omega arith) (omega arith) in
    let at = got s.index.handles.items c.loop-at.at h lt c.index-handle.ensures in
    let b = read_here s.bytes.now s.index.handles.items c.loop-at.at h (map seen c.in_ok-block.block.items) at c.in_ok-block.ensures.block in
    let both = ap (λ vs. map seen vs ++ map seen c.deref-in-loop-at.result.now) c.deref.ensures.value ∙ ap (λ vs. map seen c.loop-at.versions.items ++ map seen vs) c.deref-in-loop-at.ensures.value in (
      refl,
      not_in_order s.bytes.now hs s.entry_count c.loop-at.at c.loop-at.full (map seen c.loop-at.versions.items) (map seen c.in_ok-block.block.items) (handle_of h) x (got_map handle_of s.index.handles.items c.loop-at.at h at) b
          (λ up. let holds = c.goes_on.ensures.1 (subst IsOrdered (sym both) up) in let not = c.if-not-goes_on.true in absurd cc) c.loop-at.invariant,
    )

pub loop-at-preserved : goal.loop-at-preserved
loop-at-preserved c =
    let s = c.args.self.now in
    let hs = map handle_of s.index.handles.items in
    let h = c.index-handle.result.now in
    let lt : c.loop-at.at < length s.index.handles.items = omega (arith, c.block_count-at-end.ensures, c.loop-at-test.true) in
    let x = indexed s.bytes.now hs s.index.data_len s.entry_count s.index.covers s.within s.ends (omega arith) (omega arith) in
    let at = got s.index.handles.items c.loop-at.at h lt c.index-handle.ensures in
    let b = read_here s.bytes.now s.index.handles.items c.loop-at.at h (map seen c.in_ok-block.block.items) at c.in_ok-block.ensures.block in
    let both = ap (λ vs. map seen vs ++ map seen c.deref-in-loop-at.result.now) c.deref.ensures.value ∙ ap (λ vs. map seen c.loop-at.versions.items ++ map seen vs) c.deref-in-loop-at.ensures.value in
    let up = subst IsOrdered both (c.goes_on.ensures.0 c.if-not-goes_on.false) in
    let all = ap (map seen) (c.in_ok-put_versions.ensures.ok ∙ ap (λ vs. c.loop-at.versions.items ++ vs) c.deref-in-loop-at-2.ensures.value) ∙ map-append seen c.loop-at.versions.items c.in_ok-block.block.items in
    subst (λ (v : List Entry). Gathered s.bytes.now hs (c.loop-at.at + 1) (nat_le 4112 h.len) v) (sym all)
    (gathered_more s.bytes.now hs s.entry_count c.loop-at.at c.loop-at.full (nat_le 4112 h.len) (map seen c.loop-at.versions.items) (map seen c.in_ok-block.block.items) (handle_of h) x (got_map handle_of s.index.handles.items c.loop-at.at h at) b c.if-not-full.false up (λ t. leb-true 4112 h.len t, λ le. le-leb 4112 h.len le) c.loop-at.invariant)

pub returns-then-len-entry_count-clause-damaged : goal.returns-then-len-entry_count-clause-damaged
returns-then-len-entry_count-clause-damaged c =
    let s = c.args.self.now in
    let hs = map handle_of s.index.handles.items in
    let x = indexed s.bytes.now hs s.index.data_len s.entry_count s.index.covers s.within s.ends (omega arith) (omega arith) in
    let over : length hs ≤ c.loop-at.at = omega (arith, length-map s.index.handles.items handle_of, c.block_count-at-end.ensures, c.loop-at-test.false) in
    let len : c.len.result ≡ length (map seen c.loop-at.versions.items) = omega (arith, length-map c.loop-at.versions.items seen, c.len.ensures, c.loop-at.versions.ok.0) in
    (refl, other_count s.bytes.now hs s.entry_count c.loop-at.at c.loop-at.full (map seen c.loop-at.versions.items) x over (λ e. c.if-len-entry_count.true (len ∙ e)) c.loop-at.invariant)

pub returns-clause-table : goal.returns-clause-table
returns-clause-table c =
    let s = c.args.self.now in
    let hs = map handle_of s.index.handles.items in
    let x = indexed s.bytes.now hs s.index.data_len s.entry_count s.index.covers s.within s.ends (omega arith) (omega arith) in
    let over : length hs ≤ c.loop-at.at = omega (arith, length-map s.index.handles.items handle_of, c.block_count-at-end.ensures, c.loop-at-test.false) in
    let len : length (map seen c.loop-at.versions.items) ≡ c.len.result = omega (arith, length-map c.loop-at.versions.items seen, c.len.ensures, c.loop-at.versions.ok.0) in
    is_table s.bytes.now hs s.entry_count c.loop-at.at c.loop-at.full (map seen c.loop-at.versions.items) x over (len ∙ c.if-len-entry_count.false) c.loop-at.invariant
