use Rattle.std.proofs.Common.{ap, arith, length, map, subst, sym, ◌∙◌, ◌≡◌}
use Rattle.std.specs.Option.{option_map}
use Rattle.std.proofs.lemmas.List.{length-map}
use Rattle.fjall_table_reader.specs.Files.{handles_in, name_of}
use Rattle.fjall_table_reader.specs.Readers.{IsCountedReader, Reader, unread}
use Rattle.fjall_table_reader.proofs.Readers.{none_is, unread_counted}
use Rattle.fjall_table_reader.proofs.table_reader.TableReader.drop_blocks.Goals as goal

is_unread : (c : goal.After-self-2-1) → (let f = c.self.inside.file in let t : Reader = record { name = name_of f; info = f.info; handles = handles_in f; recent = map (option_map (λ b. b.value)) c.clear.new.blocks.items; older = map (option_map (λ b. b.value)) c.clear-2.new.blocks.items } in t ≡ unread (name_of f) f.info (handles_in f))
is_unread c =
    let f = c.self.inside.file in
    let recent_count : length c.self.inside.recent.items ≡ length (handles_in f) = omega (arith, c.self.invariant.reader.recent, length-map c.self.inside.recent.items (option_map (λ b. b.value))) in
    let older_count : length c.self.inside.older.items ≡ length (handles_in f) = omega (arith, c.self.invariant.reader.older, length-map c.self.inside.older.items (option_map (λ b. b.value))) in
    let recent = ap (map (option_map (λ b. b.value))) c.clear.ensures ∙ none_is (λ b. b.value) (handles_in f) (length c.self.inside.recent.items) recent_count in
    let older = ap (map (option_map (λ b. b.value))) c.clear-2.ensures ∙ none_is (λ b. b.value) (handles_in f) (length c.self.inside.older.items) older_count in
    λ i. record { name = name_of f; info = f.info; handles = handles_in f; recent = recent i; older = older i }

pub invariant_of-self : goal.invariant_of-self
invariant_of-self c =
    let f = c.self.inside.file in
    subst (λ (t : Reader). IsCountedReader 0 0 t) (sym (is_unread c)) (unread_counted (name_of f) f.info (handles_in f) c.self.invariant.reader.ascend)

pub returns : goal.returns
returns c = is_unread c ∙ ap (λ (t : Reader). unread t.name t.info t.handles) c.self.view_is
