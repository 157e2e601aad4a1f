use Rattle.std.proofs.Common.{ap, arith, length, map, subst, sym, ◌∙◌, ◌≡◌}
use Rattle.std.specs.Option.{option_map}
use Rattle.std.proofs.lemmas.List.{length-map}
use Rattle.fjall_table_reader.specs.Files.{handles_in, name_of}
use Rattle.fjall_table_reader.specs.Readers.{IsCountedReader, Reader, aged}
use Rattle.fjall_table_reader.proofs.Readers.{counted_aged, none_is}
use Rattle.fjall_table_reader.proofs.table_reader.TableReader.let_older_go.Goals as goal

is_aged : (c : goal.After-self-2-1) → (let f = c.self.inside.file in let t : Reader = record { name = name_of f; info = f.info; handles = handles_in f; recent = map (option_map (λ b. b.value)) c.self.inside.recent.items; older = map (option_map (λ b. b.value)) c.self.inside.older.items } in let u : Reader = record { name = name_of f; info = f.info; handles = handles_in f; recent = map (option_map (λ b. b.value)) c.clear.new.blocks.items; older = map (option_map (λ b. b.value)) c.swap.new.y.items } in u ≡ aged t)
is_aged c =
    let f = c.self.inside.file in
    let same : length c.swap.new.x.items ≡ length c.self.inside.older.items = ap (λ v. length v.items) c.swap.ensures.x_after in
    let count : length c.swap.new.x.items ≡ length (handles_in f) = omega (arith, same, c.self.invariant.reader.older, length-map c.self.inside.older.items (option_map (λ b. b.value))) in
    let none = ap (map (option_map (λ b. b.value))) c.clear.ensures ∙ none_is (λ b. b.value) (handles_in f) (length c.swap.new.x.items) count in
    let older = ap (λ v. map (option_map (λ b. b.value)) v.items) c.swap.ensures.y_after in
    λ i. record { name = name_of f; info = f.info; handles = handles_in f; recent = none i; older = older i }

pub invariant_of-self : goal.invariant_of-self
invariant_of-self c =
    subst (λ (t : Reader). IsCountedReader 0 c.self.inside.recent_bytes t) (sym (is_aged c)) (counted_aged c.self.inside.recent_bytes c.self.inside.kept_bytes _ c.self.invariant)

pub returns : goal.returns
returns c = is_aged c ∙ ap aged c.self.view_is
