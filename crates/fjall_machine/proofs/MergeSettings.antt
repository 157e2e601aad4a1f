-- What merges go by is the same in memory and in the state: the settings of keyspaces, which merges are out, and which begin.
use Rattle.std.proofs.Common.{◌≡◌, ℕ, ◌&&◌, nat_le, nat_lt, is_none, map, true, cond, Bool, List, [], ◌∷◌, Option, None, unwrap_or, refl, sym, ap, ◌∙◌}
use Rattle.std.specs.FinMap.{contains_key, get, get-retain_keys, nat_cmp-IsAntisymmetric}
use Rattle.std.specs.List.{sum_by}
use Rattle.std.specs.Option.{is_some}
use Rattle.fjall_base.specs.Store.{Options, Store, kept}
use Rattle.fjall_history.specs.declared.job.JobId.{JobId}
use Rattle.fjall_tree.specs.Jobs.{is_merge_out}
use Rattle.fjall_tree.specs.Trees.{Merging}
use Rattle.fjall_trees.specs.Maps.{store_of}
use Rattle.fjall_trees.specs.MapTables.{store_with}
use Rattle.fjall_trees.specs.Forests.{Forest, Planted}
use Rattle.fjall_trees.specs.Tables.{AreSameTrees}
use Rattle.fjall_machine.specs.declared.merge_kind.MergeKind.{MergeKind}
use Rattle.fjall_machine.specs.Machine.{State, begins_merge, is_living, is_merging, least_of, merge_count, options_in, present}
use Rattle.fjall_machine.specs.Remembered.{MemoryStandsFor, Remembered}
use Rattle.fjall_machine.proofs.Sizes.{l0_counts_agree, same_at, sum_map, table_counts_agree}
use Rattle.fjall_machine.proofs.Standing.{living_agree}

-- ---- settings

-- what is kept of a store has the options of what lives
options_kept : (s : Store) (id : ℕ) → is_living s id ≡ true → get (kept s).options id ≡ get s.options id
options_kept s id lives =
    let p = contains_key s.names in
    get-retain_keys s.options p id (λ x e. ap p (sym (nat_cmp-IsAntisymmetric id x e))) ∙ ap (λ (b : Bool). cond b (get s.options id) None) lives

module _ (m : Remembered) (table : ℕ) (s : State) (stands : MemoryStandsFor m table s) where
  -- a keyspace that lives has the settings that memory tells
  pub settings_agree : (id : ℕ) → is_living (present s) id ≡ true → options_in (present s) id ≡ options_in (store_of m.keyspaces m.trees) id
  settings_agree id lives =
      let here = sym (living_agree m table s stands id) ∙ lives in
      ap (λ (o : Option Options). unwrap_or o [])
      (sym (options_kept (present s) id lives) ∙ ap (λ (t : Store). get t.options id) stands.present ∙ options_kept (store_with s.parts.entries m.keyspaces m.trees) id here)

  -- ---- merges

  pub merges_begin : (kind : MergeKind) (id : ℕ) → is_living (present s) id ≡ true → begins_merge (present s) s.parts.trees kind id ≡ begins_merge (store_of m.keyspaces m.trees) m.trees kind id
  merges_begin kind id lives = λ i.
      nat_lt 0 (table_counts_agree m table s stands id i)
      && (nat_le (least_of kind (settings_agree id lives i)) (l0_counts_agree m table s stands id i) && is_none (sym (same_at m table s stands id).merge i))

  pub merges_are_out : (job : JobId) → is_merging s.parts.trees job ≡ is_merging m.trees job
  merges_are_out job = λ i. is_merge_out job.number (sym (same_at m table s stands job.keyspace_id).merge i)

-- ---- how many are out

merges_in : (a b : Forest) → AreSameTrees a b → map (λ k. k.shape.merge) a ≡ map (λ k. k.shape.merge) b
merges_in [] [] same = refl
merges_in [] (k ∷ b) same = absurd same
merges_in (j ∷ a) [] same = absurd same
merges_in (j ∷ a) (k ∷ b) same = λ i. sym same.1.merge i ∷ merges_in a b same.2 i

-- how many of these are
abbrev how_many : List (Option Merging) → ℕ
how_many merges = sum_by (λ o. cond (is_some o) 1 0) merges

counted_out : (trees : Forest) → how_many (map (λ k. k.shape.merge) trees) ≡ merge_count trees
counted_out trees = sum_map (λ (o : Option Merging). cond (is_some o) 1 0) (λ (k : Planted). k.shape.merge) trees

pub merges_counted : (m : Remembered) (table : ℕ) (s : State) → MemoryStandsFor m table s → merge_count s.parts.trees ≡ merge_count m.trees
merges_counted m table s stands = sym (counted_out s.parts.trees) ∙ ap how_many (merges_in s.parts.trees m.trees stands.trees) ∙ counted_out m.trees
