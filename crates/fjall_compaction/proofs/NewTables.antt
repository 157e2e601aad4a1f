-- How many tables a flush makes.
use Rattle.std.proofs.Common.{◌≡◌, ℕ, ◌≤◌, List, [], ◌∷◌, length, Option, Some, None, String, subst, arith}
use Rattle.std.proofs.Math.Logic.{∥∥₁_elim}
use Rattle.std.proofs.Props.{props}
use Rattle.std.specs.declared.alloc.Global.{Global}
use Rattle.fjall_base.specs.Disk.{IsNoFolder, Meaning, state_in}
use Rattle.fjall_files.specs.Names.{table_name}
use Rattle.fjall_jobs.specs.declared.flush_made.FlushMade.{FlushMade}
use Rattle.fjall_jobs.specs.declared.made_table.MadeTable.{MadeTable}
use Rattle.fjall_jobs.specs.Made.{flush_tables}
use Rattle.fjall_jobs.specs.Sequences.{AreMadeTables, AreParted}
use Rattle.fjall_jobs.proofs.Made.{was_flushed}
use Rattle.fjall_table.specs.Blocks.{Entry}
use Rattle.fjall_compaction.specs.FlushPlans.{IsNamed}
use Rattle.fjall_compaction.specs.Putting.{HaveNoFolders}

pub few_made : (tables : List MadeTable) (lists : List (List Entry)) → AreMadeTables tables lists → AreParted None lists → length tables ≤ 1
few_made [] lists made parted = omega arith
few_made (t ∷ []) lists made parted = omega arith
few_made (t ∷ u ∷ tables) [] made parted = absurd made
few_made (t ∷ u ∷ tables) (l ∷ []) made parted = absurd made.1
few_made (t ∷ u ∷ tables) (l ∷ k ∷ lists) made parted = absurd parted

pub at_most_one : (made : FlushMade) → length (flush_tables made) ≤ 1
at_most_one made = ∥∥₁_elim (was_flushed made) (hlevel props) (λ is. few_made (flush_tables made) is.lists is.made is.parted)

-- and so many have a name in its plan
pub few_named : (id next : ℕ) (tables : List MadeTable) (name : Option (String Global)) → IsNamed id next tables name → length tables ≤ 1
few_named id next [] name named = omega arith
few_named id next (t ∷ []) name named = omega arith
few_named id next (t ∷ u ∷ tables) None named = absurd named
few_named id next (t ∷ u ∷ tables) (Some name) named = absurd named

-- so that its name alone is not to be a folder's
pub one_folder : (disk : Meaning) (id next : ℕ) (tables : List MadeTable) (name : Option (String Global)) → IsNamed id next tables name → IsNoFolder (state_in disk (table_name id next)).now
    → HaveNoFolders disk id next (length tables)
one_folder disk id next tables name named none n from until =
    let few = few_named id next tables name named in
    let same : next ≡ n = omega (arith, from, until, few) in
    subst (λ (m : ℕ). IsNoFolder (state_in disk (table_name id m)).now) same none
