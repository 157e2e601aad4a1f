-- Marks of trees while trees are changed, and the way back to them.
use Rattle.std.proofs.Common.{◌≡◌, ℕ, zero, suc, ◌<◌, List, [], ◌∷◌, ◌++◌, drop, length, set, slice_get, Some, refl, sym, ap, subst, ◌∙◌, arith}
use Rattle.std.proofs.lemmas.List.{length-set}
use Rattle.fjall_base.proofs.Codecs.{some_is}
use Rattle.fjall_memtable.specs.declared.mark.Mark.{Mark}
use Rattle.fjall_tree.specs.declared.tree.Tree.{Tree}
use Rattle.fjall_tree.specs.Shapes.{IsMark, KeepsMarks, shape_at, shape_of}
use Rattle.fjall_tree.specs.Trees.{Shape}
use Rattle.fjall_trees.specs.declared.trees.KeyspaceTree.{KeyspaceTree}
use Rattle.fjall_trees.specs.Forests.{Forest, Planted}
use Rattle.fjall_trees.specs.Lists.{AreMarks, forest_at, forest_from, forest_in, planted}

-- ---- one tree changed

-- a mark of each tree stays one
set_marks : (ks : List KeyspaceTree) (place : ℕ) (k : KeyspaceTree) (new : Tree) → slice_get ks place ≡ Some k → KeepsMarks k.tree new → (marks : List Mark) → length marks ≡ length ks → AreMarks ks marks
    → AreMarks (set ks place (record { id = k.id; tree = new })) marks × (forest_at marks (set ks place (record { id = k.id; tree = new })) ≡ forest_at marks ks)
set_marks [] place k new here keeps marks n are = absurd (cc here)
set_marks (j ∷ ks) place k new here keeps [] n are = absurd (omega (arith, n))
set_marks (j ∷ ks) zero k new here keeps (mark ∷ marks) n are =
    let same = some_is j k here in
    let kept = keeps mark (subst (λ (x : KeyspaceTree). IsMark x.tree mark) same are.0) in (
      (kept.0, are.1),
      ap (λ (s : Shape). (let p : Planted = record { id = k.id; shape = s } in p ∷ forest_at marks ks)) kept.1
          ∙ ap (λ (x : KeyspaceTree). (let p : Planted = record { id = x.id; shape = shape_at mark x.tree } in p ∷ forest_at marks ks)) (sym same),
    )
set_marks (j ∷ ks) (suc place) k new here keeps (mark ∷ marks) n are =
    let more = set_marks ks place k new here keeps marks (omega (arith, n)) are.1 in (
      (are.0, more.0),
      ap (λ (f : Forest). (let p : Planted = record { id = j.id; shape = shape_at mark j.tree } in p ∷ f)) more.1,
    )

-- from the first tree on
from_first : (from : ℕ) (marks : List Mark) (ks : List KeyspaceTree) → from ≡ 0 → forest_from from marks ks ≡ forest_at marks ks
from_first from marks ks is = ap (λ (n : ℕ). forest_from n marks ks) is

pub set_all : (ks : List KeyspaceTree) (place : ℕ) (k : KeyspaceTree) (new : Tree) → slice_get ks place ≡ Some k → KeepsMarks k.tree new
    → (from : ℕ) (marks : List Mark) → (from ≡ 0) × (length marks ≡ length ks) × AreMarks (drop from ks) marks
    → ((from ≡ 0) × (length marks ≡ length (set ks place (record { id = k.id; tree = new }))) × AreMarks (drop from (set ks place (record { id = k.id; tree = new }))) marks)
    × (forest_from from marks (set ks place (record { id = k.id; tree = new })) ≡ forest_from from marks ks)
set_all ks place k new here keeps from marks are =
    let others : List KeyspaceTree = set ks place (record { id = k.id; tree = new }) in
    let kept = set_marks ks place k new here keeps marks are.1 (subst (λ (n : ℕ). AreMarks (drop n ks) marks) are.0 are.2) in (
      (are.0, are.1 ∙ sym (length-set ks place (record { id = k.id; tree = new })), subst (λ (n : ℕ). AreMarks (drop n others) marks) (sym are.0) kept.0),
      from_first from marks others are.0 ∙ kept.1 ∙ sym (from_first from marks ks are.0),
    )

-- a mark of that tree alone stays one
pub set_one : (ks : List KeyspaceTree) (place : ℕ) (k : KeyspaceTree) (new : Tree) (mark : Mark) → slice_get ks place ≡ Some k → KeepsMarks k.tree new → IsMark k.tree mark → shape_at mark k.tree ≡ shape_of k.tree
    → AreMarks (drop place (set ks place (record { id = k.id; tree = new }))) (mark ∷ []) × (forest_from place (mark ∷ []) (set ks place (record { id = k.id; tree = new })) ≡ forest_in ks)
set_one [] place k new mark here keeps is same = absurd (cc here)
set_one (j ∷ ks) zero k new mark here keeps is same =
    let kept = keeps mark is in (
      (kept.0, tt),
      ap (λ (s : Shape). (let p : Planted = record { id = k.id; shape = s } in p ∷ forest_in ks)) (kept.1 ∙ same)
          ∙ ap (λ (x : KeyspaceTree). planted x ∷ forest_in ks) (sym (some_is j k here)),
    )
set_one (j ∷ ks) (suc place) k new mark here keeps is same =
    let more = set_one ks place k new mark here keeps is same in (more.0, ap (λ (f : Forest). planted j ∷ f) more.1)

-- ---- marks that are taken

-- There is a mark of each tree, of what it holds.
pub record Marked (ks : List KeyspaceTree) (marks : List Mark) : Type 0 where
  pub count : length marks ≡ length ks
  pub are : AreMarks ks marks
  pub same : forest_at marks ks ≡ forest_in ks

pub marked_more : (ks : List KeyspaceTree) (k : KeyspaceTree) (marks : List Mark) (mark : Mark) → Marked ks marks → IsMark k.tree mark → shape_at mark k.tree ≡ shape_of k.tree
    → Marked (ks ++ k ∷ []) (marks ++ mark ∷ [])
marked_more [] k [] mark m is here = record { count = refl; are = (is, tt); same = ap (λ (s : Shape). (let p : Planted = record { id = k.id; shape = s } in p ∷ [])) here }
marked_more [] k (x ∷ marks) mark m is here = absurd m.are
marked_more (j ∷ ks) k [] mark m is here = let n = m.count in absurd (omega (arith, n))
marked_more (j ∷ ks) k (x ∷ marks) mark m is here =
    let n = m.count in
    let parts = first_rest (record { id = j.id; shape = shape_at x j.tree }) (planted j) (forest_at marks ks) (forest_in ks) m.same in
    let more = marked_more ks k marks mark (record { count = omega (arith, n); are = m.are.1; same = parts.1 }) is here in
    record { count = ap (λ (c : ℕ). suc c) more.count; are = (m.are.0, more.are); same = λ i. parts.0 i ∷ more.same i }
  where
    first_rest : (a b : Planted) (xs ys : Forest) → a ∷ xs ≡ b ∷ ys → (a ≡ b) × (xs ≡ ys)
    first_rest a b xs ys e = (cc e, cc e)

-- ---- the way back

-- a mark stands at a place where a tree is
mark_within : (ks : List KeyspaceTree) (n : ℕ) (mark : Mark) (marks : List Mark) → AreMarks (drop n ks) (mark ∷ marks) → n < length ks
mark_within [] zero mark marks are = absurd are
mark_within [] (suc n) mark marks are = absurd are
mark_within (k ∷ ks) zero mark marks are = omega arith
mark_within (k ∷ ks) (suc n) mark marks are = let more = mark_within ks n mark marks are in omega (arith, more)

pub marks_within : (ks : List KeyspaceTree) (n : ℕ) (marks : List Mark) (at : ℕ) → at < length marks → AreMarks (drop n ks) (drop at marks) → n < length ks
marks_within ks n [] at lt are = absurd (omega (arith, lt))
marks_within ks n (mark ∷ marks) zero lt are = mark_within ks n mark marks are
marks_within ks n (mark ∷ marks) (suc at) lt are = marks_within ks n marks at (omega (arith, lt)) are

-- and is that tree's
pub mark_here : (ks : List KeyspaceTree) (n : ℕ) (k : KeyspaceTree) (mark : Mark) (marks : List Mark) → slice_get ks n ≡ Some k → AreMarks (drop n ks) (mark ∷ marks) → IsMark k.tree mark
mark_here [] n k mark marks here are = absurd (cc here)
mark_here (j ∷ ks) zero k mark marks here are = subst (λ (x : KeyspaceTree). IsMark x.tree mark) (some_is j k here) are.0
mark_here (j ∷ ks) (suc n) k mark marks here are = mark_here ks n k mark marks here are

-- one tree more went back
pub undone : (ks : List KeyspaceTree) (n : ℕ) (k : KeyspaceTree) (new : Tree) (mark : Mark) (marks : List Mark) → slice_get ks n ≡ Some k → AreMarks (drop n ks) (mark ∷ marks) → shape_of new ≡ shape_at mark k.tree
    → AreMarks (drop (suc n) (set ks n (record { id = k.id; tree = new }))) marks × (forest_from (suc n) marks (set ks n (record { id = k.id; tree = new })) ≡ forest_from n (mark ∷ marks) ks)
undone [] n k new mark marks here are back = absurd (cc here)
undone (j ∷ ks) zero k new mark marks here are back = (
  are.1,
  ap (λ (s : Shape). (let p : Planted = record { id = k.id; shape = s } in p ∷ forest_at marks ks)) back
      ∙ ap (λ (x : KeyspaceTree). (let p : Planted = record { id = x.id; shape = shape_at mark x.tree } in p ∷ forest_at marks ks)) (sym (some_is j k here)),
)
undone (j ∷ ks) (suc n) k new mark marks here are back =
    let more = undone ks n k new mark marks here are back in (more.0, ap (λ (f : Forest). planted j ∷ f) more.1)

-- where no mark is left, all went back
pub none_left : (ks : List KeyspaceTree) (n : ℕ) → forest_from n [] ks ≡ forest_in ks
none_left [] zero = refl
none_left [] (suc n) = refl
none_left (k ∷ ks) zero = refl
none_left (k ∷ ks) (suc n) = ap (λ (f : Forest). planted k ∷ f) (none_left ks n)
