-- Homes that are known stay so while journals are replayed, which changes memory alone, where no memtable is sealed that holds nothing.
use Rattle.std.proofs.Common.{◌≡◌, ◌==◌, ℕ, Bool, true, false, cond, List, [], ◌∷◌, map, All, Option, None, Some, refl, sym, ◌∙◌, ap, arith}
use Rattle.std.specs.Option.{option_map}
use Rattle.fjall_base.proofs.Codecs.{some_is}
use Rattle.fjall_table_reader.specs.Readers.{Reader}
use Rattle.fjall_tree.specs.Trees.{Shape, floor_of}
use Rattle.fjall_meta.specs.declared.living.LivingKeyspace.{LivingKeyspace}
use Rattle.fjall_memtable.specs.Parts.{holds_nothing}
use Rattle.fjall_recovery.specs.Homes.{Homes, Versions}
use Rattle.fjall_replay.specs.Parted.{all_unwritten, unwritten}
use Rattle.fjall_table.specs.Blocks.{Entry}
use Rattle.fjall_manifest.specs.Records.{Fields}
use Rattle.fjall_trees.specs.Forests.{Forest, tree_at}
use Rattle.fjall_trees.proofs.Places.{tree_has}
use Rattle.fjall_replay.specs.Known.{GoesOnFrom, IsKnown, LastFields}

-- ---- one tree

-- trees that differ in memory alone, which begins where it did, go on from the same records
goes_on_still : (last : Fields) (old new : Shape) → unwritten new ≡ unwritten old → All (λ h. holds_nothing h ≡ false) new.memory.sealed → GoesOnFrom last old → GoesOnFrom last new
goes_on_still last old new same some goes =
    let floor : floor_of new.memory ≡ floor_of old.memory = ap (λ (s : Shape). floor_of s.memory) same in
    record {
      tables = ap (λ (s : Shape). map (λ (r : Reader). r.info) s.tables) same ∙ goes.tables;
      clears = ap (λ (s : Shape). s.clears) same ∙ goes.clears;
      beyond = let low = goes.beyond in omega (arith, floor, low);
      some = some;
    }

-- ---- the tree of an id

unwritten_or : (b : Bool) (shape : Shape) (here there : Option Shape) → there ≡ option_map unwritten here → cond b (Some (unwritten shape)) there ≡ option_map unwritten (cond b (Some shape) here)
unwritten_or true shape here there same = refl
unwritten_or false shape here there same = same

unwritten_at : (id : ℕ) (trees : Forest) → tree_at id (all_unwritten trees) ≡ option_map unwritten (tree_at id trees)
unwritten_at id [] = refl
unwritten_at id (k ∷ trees) = unwritten_or (k.id == id) k.shape (tree_at id trees) (tree_at id (all_unwritten trees)) (unwritten_at id trees)

-- where one of two forests that differ so has a tree, the other one has one that differs so
record HasAlike (id : ℕ) (trees : Forest) (shape : Shape) : Type 0 where
  other : Shape
  at : tree_at id trees ≡ Some other
  same : unwritten other ≡ unwritten shape

has_alike : (id : ℕ) (old new : Forest) (shape : Shape) → all_unwritten new ≡ all_unwritten old → tree_at id old ≡ Some shape → HasAlike id new shape
has_alike id old new shape same at =
    by (tree_at id new) refl (sym (unwritten_at id new) ∙ ap (tree_at id) same ∙ unwritten_at id old ∙ ap (option_map unwritten) at)
  where
    by : (o : Option Shape) → tree_at id new ≡ o → option_map unwritten (tree_at id new) ≡ Some (unwritten shape) → HasAlike id new shape
    by None is e = let no : None ≡ Some (unwritten shape) = sym (ap (option_map unwritten) is) ∙ e in absurd cc
    by (Some other) is e = record { other = other; at = is; same = some_is (unwritten other) (unwritten shape) (sym (ap (option_map unwritten) is) ∙ e) }

-- ---- a home

pub known_still : (records : LastFields) (old new : Forest) (entries : ℕ → List (List Entry)) (homes : Homes) (versions : Versions) (k : LivingKeyspace) → all_unwritten new ≡ all_unwritten old
    → All (λ k. All (λ h. holds_nothing h ≡ false) k.shape.memory.sealed) new → IsKnown records old entries homes versions k → IsKnown records new entries homes versions k
known_still records old new entries homes versions k same some is =
    let alike = has_alike k.id old new is.shape same is.tree in
    record {
      h = is.h;
      home = is.home;
      right = is.right;
      stored = is.stored;
      last = is.last;
      shape = alike.other;
      tree = alike.at;
      goes_on =
          goes_on_still is.h.last is.shape alike.other alike.same (tree_has (λ (s : Shape). All (λ h. holds_nothing h ≡ false) s.memory.sealed) new k.id alike.other some alike.at) is.goes_on;
    }
