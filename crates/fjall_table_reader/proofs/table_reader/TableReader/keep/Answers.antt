use Rattle.std.proofs.Common.{List, Option, Some, ap, arith, map, min, slice_get, subst, sym, ◌∙◌}
use Rattle.std.specs.Option.{option_map}
use Rattle.std.proofs.lemmas.List.{map-set}
use Rattle.fjall_table.specs.Blocks.{Entry}
use Rattle.fjall_table_reader.specs.Files.{handles_in, name_of}
use Rattle.fjall_table_reader.specs.Readers.{IsCountedReader, Reader, block_size, keeping}
use Rattle.fjall_table_reader.proofs.Readers.{counted_more}
use Rattle.fjall_table_reader.proofs.table_reader.TableReader.keep.Goals as goal

pub invariant_of-self : goal.invariant_of-self
invariant_of-self c =
    let f = c.self.inside.file in
    let older : List (Option (List Entry)) = map (option_map (λ b. b.value)) c.self.inside.older.items in
    let recent = c.saturating_add-self-inside.result in
    let total = c.saturating_add-self-inside-2.result in
    let none = ap (λ (t : Reader). slice_get t.recent c.args.at) c.self.view_is ∙ c.requires in
    let size = c.size-size.ensures ∙ ap (λ (es : List Entry). min (block_size es) 18446744073709551615) c.deref.ensures in
    let counted = counted_more c.self.inside.recent_bytes c.self.inside.kept_bytes recent total c.args.at c.args.block.value _ c.self.invariant none (omega (arith, c.saturating_add-self-inside.ensures, size)) (omega (arith, c.saturating_add-self-inside-2.ensures, size)) in
    subst (λ (k : List (Option (List Entry))). IsCountedReader recent total (record { name = name_of f; info = f.info; handles = handles_in f; recent = k; older = older }))
    (sym (map-set (option_map (λ b. b.value)) c.self.inside.recent.items c.args.at (Some c.args.block))) counted

pub returns : goal.returns
returns c =
    let f = c.self.inside.file in
    let older : List (Option (List Entry)) = map (option_map (λ b. b.value)) c.self.inside.older.items in
    ap (λ (k : List (Option (List Entry))). let t : Reader = record { name = name_of f; info = f.info; handles = handles_in f; recent = k; older = older } in t) (map-set (option_map (λ b. b.value)) c.self.inside.recent.items c.args.at (Some c.args.block))
    ∙ ap (keeping c.args.at c.args.block.value) c.self.view_is
