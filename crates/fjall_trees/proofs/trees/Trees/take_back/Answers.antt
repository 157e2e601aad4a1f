use Rattle.std.proofs.Common.{◌≡◌, ℕ, suc, ◌+◌, ◌<◌, List, ◌∷◌, add-one, ap, drop, drop-cons, length, refl, set, subst, sym, ◌∙◌, arith}
use Rattle.std.proofs.lemmas.List.{drop_all}
use Rattle.std.proofs.lemmas.Option.{slice_get_read}
use Rattle.fjall_memtable.specs.declared.mark.Mark.{Mark}
use Rattle.fjall_trees.specs.declared.trees.KeyspaceTree.{KeyspaceTree}
use Rattle.fjall_trees.specs.Lists.{AreMarks, forest_from}
use Rattle.fjall_trees.proofs.Marking.{mark_here, marks_within, none_left, undone}
use Rattle.fjall_trees.proofs.Places.{set_forest}
use Rattle.fjall_trees.proofs.trees.Trees.take_back.Goals as goal

pub overflow_add-from : goal.overflow_add-from
overflow_add-from c =
    let marks = c.args.marks.marks in
    let trees = c.loop-at.self.trees in
    let lt : c.loop-at.at < length marks.items = omega (arith, c.loop-at-test.true, c.len-at-end.ensures, marks.ok.0) in
    let within = marks_within trees.items (c.args.marks.from + c.loop-at.at) marks.items c.loop-at.at lt c.loop-at.invariant.are in
    omega (arith, within, trees.ok.0, trees.ok.1, trees.small)

pub index_mut-requires : goal.index_mut-requires
index_mut-requires c =
    let marks = c.args.marks.marks in
    let trees = c.loop-at.self.trees in
    let lt : c.loop-at.at < length marks.items = omega (arith, c.loop-at-test.true, c.len-at-end.ensures, marks.ok.0) in
    let within = marks_within trees.items (c.args.marks.from + c.loop-at.at) marks.items c.loop-at.at lt c.loop-at.invariant.are in
    omega (arith, within, trees.ok.0)

pub undo-requires : goal.undo-requires
undo-requires c =
    let marks = c.args.marks.marks in
    let ks = c.loop-at.self.trees.items in
    let n = c.args.marks.from + c.loop-at.at in
    let mark = c.index.result.now in
    let lt : c.loop-at.at < length marks.items = omega (arith, c.loop-at-test.true, c.len-at-end.ensures, marks.ok.0) in
    let within = marks_within ks n marks.items c.loop-at.at lt c.loop-at.invariant.are in
    let here = slice_get_read ks (length ks) n c.index_mut.result.now refl within c.index_mut.ensures.value in
    let rest = drop (suc c.loop-at.at) marks.items in
    let parted = drop-cons marks.items c.loop-at.at mark lt ∙ ap (λ (m : Mark). m ∷ rest) (sym c.index.ensures) in
    mark_here ks n c.index_mut.result.now mark rest here (subst (AreMarks (drop n ks)) parted c.loop-at.invariant.are)

pub invariant_of-self : goal.invariant_of-self
invariant_of-self c =
    let marks = c.args.marks.marks in
    let t = c.loop-at.self in
    let n = c.args.marks.from + c.loop-at.at in
    let lt : c.loop-at.at < length marks.items = omega (arith, c.loop-at-test.true, c.len-at-end.ensures, marks.ok.0) in
    let within = marks_within t.trees.items n marks.items c.loop-at.at lt c.loop-at.invariant.are in
    let here = slice_get_read t.trees.items (length t.trees.items) n c.index_mut.result.now refl within c.index_mut.ensures.value in
    record { lawful = set_forest t.trees.items n c.index_mut.result.now c.undo.new.self t.lawful here }

pub loop-at-init : goal.loop-at-init
loop-at-init c =
    let marks = c.args.marks in
    let ks = c.args.self.now.trees.items in
    let first : marks.from + 0 ≡ marks.from = omega arith in
    record {
      are = subst (λ (n : ℕ). AreMarks (drop n ks) marks.marks.items) (sym first) c.requires;
      same = ap (λ (n : ℕ). forest_from n marks.marks.items ks) first;
    }

pub loop-at-preserved : goal.loop-at-preserved
loop-at-preserved c =
    let marks = c.args.marks.marks in
    let ks = c.loop-at.self.trees.items in
    let at = c.loop-at.at in
    let n = c.args.marks.from + at in
    let k = c.index_mut.result.now in
    let mark = c.index.result.now in
    let lt : at < length marks.items = omega (arith, c.loop-at-test.true, c.len-at-end.ensures, marks.ok.0) in
    let within = marks_within ks n marks.items at lt c.loop-at.invariant.are in
    let here = slice_get_read ks (length ks) n k refl within c.index_mut.ensures.value in
    let rest = drop (suc at) marks.items in
    let parted = drop-cons marks.items at mark lt ∙ ap (λ (m : Mark). m ∷ rest) (sym c.index.ensures) in
    let others : List KeyspaceTree = set ks n (record { id = k.id; tree = c.undo.new.self }) in
    let back = undone ks n k c.undo.new.self mark rest here (subst (AreMarks (drop n ks)) parted c.loop-at.invariant.are) c.undo.ensures in
    let next : c.args.marks.from + (at + 1) ≡ suc n = omega arith in
    record {
      are = subst (λ (m : ℕ). AreMarks (drop m others) (drop (at + 1) marks.items)) (sym next) (subst (λ (a : ℕ). AreMarks (drop (suc n) others) (drop a marks.items)) (sym (add-one at)) back.0);
      same = (λ i. forest_from (next i) (drop (add-one at i) marks.items) others) ∙ back.1 ∙ ap (λ (ms : List Mark). forest_from n ms ks) (sym parted) ∙ c.loop-at.invariant.same;
    }

pub returns : goal.returns
returns c =
    let marks = c.args.marks.marks in
    let ks = c.loop-at.self.trees.items in
    let n = c.args.marks.from + c.loop-at.at in
    let none = drop_all c.loop-at.at marks.items (omega (arith, c.loop-at-test.false, c.len-at-end.ensures, marks.ok.0)) in
    sym (none_left ks n) ∙ ap (λ (ms : List Mark). forest_from n ms ks) (sym none) ∙ c.loop-at.invariant.same
