use Rattle.std.proofs.Common.{◌≡◌, ℕ, List, Option, Some, length, arith, ap, refl, sym, subst, ◌∙◌}
use Rattle.std.specs.Option.{option_map}
use Rattle.std.specs.Result.{IfOk}
use Rattle.std.proofs.lemmas.List.Elements.{All-push}
use Rattle.fjall_table.specs.Blocks.{seen}
use Rattle.fjall_table_reader.specs.Finds.{entry_found}
use Rattle.fjall_table_reader.specs.Readers.{AreRead, Reader}
use Rattle.fjall_memtable.specs.Parts.{IsHeld}
use Rattle.fjall_memtable.specs.Held.{held_of}
use Rattle.fjall_memtable.specs.Shares.{shared}
use Rattle.fjall_memtable.proofs.Apart.{all_held}
use Rattle.fjall_tree.specs.Trees.{clears_of, versions_of}
use Rattle.fjall_tree.specs.Shapes.{shape_of}
use Rattle.fjall_table_reader.proofs.Several.{all_same_none}
use Rattle.std.specs.Vec.{with_items}
use Rattle.std.proofs.lemmas.List.{with_items_is}
use Rattle.fjall_tree.proofs.Outstanding.{merge_read, same_count}
use Rattle.fjall_tree.proofs.Shows.{newest_in_memory, newest_in_tables, value_told}
use Rattle.fjall_tree.proofs.tree.Tree.get.Goals as goal

pub invariant_of-self : goal.invariant_of-self
invariant_of-self g c =
    let m = c.args.self.now in
    let v = m.tables in
    let new = c.newest_in.new.tables in
    let same = same_count c.as_mut_slice-tables.result.now new c.newest_in.ensures.tables in
    let len : length new ≡ v.len = omega (arith, same, ap length c.as_mut_slice-tables.ensures.value, v.ok.0) in
    let count : length (with_items v new).items ≡ length v.items = ap length (with_items_is v new len) ∙ len ∙ v.ok.0 in
    record { shape = m.shape; flushing = m.flushing; merging = merge_read v.items (with_items v new).items m.clears.items m.merge count m.merging }

pub returns-in_err-version-clause-shape : goal.returns-in_err-version-clause-shape
returns-in_err-version-clause-shape g c = record { tables = all_same_none c.args.self.now.tables.items; clears = refl; memory = refl; flush = refl; merge = refl }

pub returns-in-Some-clause-shape : goal.returns-in-Some-clause-shape
returns-in-Some-clause-shape g c = record { tables = all_same_none c.args.self.now.tables.items; clears = refl; memory = refl; flush = refl; merge = refl }

pub returns-in-Some-clause-found : goal.returns-in-Some-clause-found
returns-in-Some-clause-found g c honest entries r =
    let m = c.args.self.now in
    let key = c.args.key.now in
    let t = c.args.instant in
    let v = seen c.in-Some.version in
    let held = All-push IsHeld (shared m.parts.sealed.items) (held_of m.parts.active) (all_held m.parts.sealed.items) m.parts.active.held in
    let found = newest_in_memory key t (shape_of m) entries v held m.parts.apart r.below (sym c.in_ok-version.ensures ∙ ap (option_map seen) c.in-Some.is) in
    let told = value_told key t c.barrier-barrier.result (clears_of (shape_of m)) (versions_of (shape_of m) entries) (Some v) c.barrier-barrier.ensures (sym found) in
    subst (λ (o : Option (List ℕ)). IfOk c.value_of.result (λ value. value ≡ o)) told c.value_of.ensures.value

pub returns-clause-found : goal.returns-clause-found
returns-clause-found g c honest entries r =
    let m = c.args.self.now in
    let key = c.args.key.now in
    let t = c.args.instant in
    let tables = subst (λ (ts : List Reader). AreRead (g.D.Disk.meaning c.args.disk.now) ts entries) (sym c.as_mut_slice-tables.ensures.value) r.tables in
    let found = c.in_ok-found.ensures.found honest entries tables
    ∙ sym (newest_in_tables key t (shape_of m) entries (sym c.in_ok-version.ensures ∙ ap (option_map seen) c.in_default.is)) in
    c.value_found.ensures key
    ∙ value_told key t c.barrier-barrier.result (clears_of (shape_of m)) (versions_of (shape_of m) entries) (option_map (entry_found key) c.in_ok-found.found) c.barrier-barrier.ensures found

pub returns-in_err-found-clause-memory : goal.returns-in_err-found-clause-memory
returns-in_err-found-clause-memory g c = λ some. absurd (some (sym c.in_ok-version.ensures ∙ ap (option_map seen) c.in_default.is))

pub returns-clause-memory : goal.returns-clause-memory
returns-clause-memory g c = λ some. absurd (some (sym c.in_ok-version.ensures ∙ ap (option_map seen) c.in_default.is))
