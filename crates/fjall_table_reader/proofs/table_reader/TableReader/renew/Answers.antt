use Rattle.std.proofs.Common.{List, Option, None, ap, arith, map, min, refl, set, slice_get, subst, sym, unwrap_or, ◌∙◌, ◌≡◌}
use Rattle.std.specs.Option.{option_map}
use Rattle.std.proofs.lemmas.List.{map-set}
use Rattle.fjall_table.specs.Blocks.{Entry}
use Rattle.fjall_table_reader.specs.Files.{handles_in, name_of}
use Rattle.fjall_table_reader.specs.Readers.{IsCountedReader, Reader, renewing, size_at}
use Rattle.fjall_table_reader.proofs.Readers.{counted_renewed, kept_here, some_within}
use Rattle.fjall_table_reader.proofs.table_reader.TableReader.renew.Goals as goal

-- what was kept among the older ones
older_was : (c : goal.Joined-index_mut-block) → unwrap_or (slice_get (map (option_map (λ b. b.value)) c.self.inside.older.items) c.args.at) None ≡ option_map (λ b. b.value) c.take-block.result
older_was c =
    let none = ap (λ (t : Reader). slice_get t.recent c.args.at) c.self.view_is ∙ c.requires in
    let lt = some_within _ c.args.at None none in
    ap (λ (o : Option (Option (List Entry))). unwrap_or o None) (kept_here (λ b. b.value) (map (option_map (λ b. b.value)) c.self.inside.older.items) c.self.inside.older.items c.args.at c.index_mut.result.now refl (omega (arith, lt, c.self.invariant.reader.recent, c.self.invariant.reader.older)) c.index_mut.ensures.value)
    ∙ ap (option_map (λ b. b.value)) (sym c.take-block.ensures.value)

is_renewed : (c : goal.Joined-index_mut-block) → (let f = c.self.inside.file in let t : Reader = record { name = name_of f; info = f.info; handles = handles_in f; recent = map (option_map (λ b. b.value)) c.self.inside.recent.items; older = map (option_map (λ b. b.value)) c.self.inside.older.items } in let u : Reader = record { name = name_of f; info = f.info; handles = handles_in f; recent = map (option_map (λ b. b.value)) (set c.self.inside.recent.items c.args.at c.take-block.result); older = map (option_map (λ b. b.value)) (set c.self.inside.older.items c.args.at c.take-block.new.self) } in u ≡ renewing c.args.at t)
is_renewed c =
    let f = c.self.inside.file in
    let recent = map-set (option_map (λ b. b.value)) c.self.inside.recent.items c.args.at c.take-block.result ∙ ap (set (map (option_map (λ b. b.value)) c.self.inside.recent.items) c.args.at) (sym (older_was c)) in
    let older = map-set (option_map (λ b. b.value)) c.self.inside.older.items c.args.at c.take-block.new.self ∙ ap (λ o. set (map (option_map (λ b. b.value)) c.self.inside.older.items) c.args.at (option_map (λ b. b.value) o)) c.take-block.ensures.after in
    λ i. record { name = name_of f; info = f.info; handles = handles_in f; recent = recent i; older = older i }

pub invariant_of-self : goal.invariant_of-self
invariant_of-self c =
    let recent = c.saturating_add-self-inside.result in
    let none = ap (λ (t : Reader). slice_get t.recent c.args.at) c.self.view_is ∙ c.requires in
    let size = c.size_at.ensures ∙ ap (λ (o : Option (List Entry)). min (size_at o) 18446744073709551615) (sym (older_was c)) in
    subst (λ (t : Reader). IsCountedReader recent c.self.inside.kept_bytes t) (sym (is_renewed c))
    (counted_renewed c.self.inside.recent_bytes c.self.inside.kept_bytes recent c.args.at _ c.self.invariant none (omega (arith, c.saturating_add-self-inside.ensures, size)))

pub returns : goal.returns
returns c = is_renewed c ∙ ap (renewing c.args.at) c.self.view_is
