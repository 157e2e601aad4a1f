use Rattle.std.proofs.Common.{◌<◌, ◌≤◌, ◌^◌, length, All, ap, refl, subst, sym, ◌∙◌, Option}
use Rattle.fjall_base.specs.Pairs.{Bytes}
use Rattle.fjall_journal.specs.Ops.{value_in}
use Rattle.fjall_table.specs.Blocks.{Entry, value_bytes}
use Rattle.fjall_memtable.specs.Entries.{version}
use Rattle.fjall_tree.specs.Puts.{put}
use Rattle.fjall_tree.specs.Trees.{Shape}
use Rattle.fjall_trees.specs.Forests.{altered_at}
use Rattle.fjall_trees.specs.Views.{forest_of}
use Rattle.fjall_trees.proofs.Places.{tree_has}
use Rattle.fjall_trees.proofs.Pushing.{Fits, each_fits, fits_among, pushing_all, pushing_begun, pushing_item, pushing_more, pushing_none}
use Rattle.fjall_trees.proofs.trees.Trees.push_all.Goals as goal

pub loop-item-init : goal.loop-item-init
loop-item-init c = record { pushing = pushing_none c.args.number c.args.items.now (forest_of c.args.self.now); kept = λ marks are. (are, refl) }

pub put_near-requires-clause-some : goal.put_near-requires-clause-some
put_near-requires-clause-some c =
    let items = c.args.items.now in
    let p = pushing_item c.args.number items c.loop-item.rest.now c.in-Some.before.now c.in-Some.item.now (forest_of c.args.self.now) (forest_of c.loop-item.self) c.loop-item.invariant.pushing c.in-Some.ensures.cases.0 in
    let fits = fits_among c.in-Some.before.now c.in-Some.item.now p.0 (subst (All Fits) p.1 (each_fits items c.requires.fits)) in
    subst (λ (key : Bytes). 0 < length key) (sym c.as_slice.ensures) fits.some

pub put_near-requires-clause-key : goal.put_near-requires-clause-key
put_near-requires-clause-key c =
    let items = c.args.items.now in
    let p = pushing_item c.args.number items c.loop-item.rest.now c.in-Some.before.now c.in-Some.item.now (forest_of c.args.self.now) (forest_of c.loop-item.self) c.loop-item.invariant.pushing c.in-Some.ensures.cases.0 in
    let fits = fits_among c.in-Some.before.now c.in-Some.item.now p.0 (subst (All Fits) p.1 (each_fits items c.requires.fits)) in
    subst (λ (key : Bytes). length key < 2 ^ 16) (sym c.as_slice.ensures) fits.key

pub put_near-requires-clause-value : goal.put_near-requires-clause-value
put_near-requires-clause-value c =
    let items = c.args.items.now in
    let p = pushing_item c.args.number items c.loop-item.rest.now c.in-Some.before.now c.in-Some.item.now (forest_of c.args.self.now) (forest_of c.loop-item.self) c.loop-item.invariant.pushing c.in-Some.ensures.cases.0 in
    let fits = fits_among c.in-Some.before.now c.in-Some.item.now p.0 (subst (All Fits) p.1 (each_fits items c.requires.fits)) in
    subst (λ (value : Option Bytes). length (value_bytes value) < 2 ^ 32) (sym (c.value.ensures ∙ ap value_in c.lend.ensures)) fits.value

pub put_near-requires-clause-from : goal.put_near-requires-clause-from
put_near-requires-clause-from c = λ shape is.
    let begun = pushing_begun c.args.number c.args.items.now c.loop-item.rest.now (forest_of c.args.self.now) (forest_of c.loop-item.self) c.loop-item.invariant.pushing c.requires.forest c.requires.before in
    tree_has (λ (s : Shape). s.memory.active.from ≤ c.args.number) (forest_of c.loop-item.self) c.in-Some.item.now.0 shape begun is

pub loop-item-preserved : goal.loop-item-preserved
loop-item-preserved c =
    let item = c.in-Some.item.now in
    let old = forest_of c.loop-item.self in
    let made = c.in_ok-place.ensures.ok ∙ ap (λ (v : Entry). altered_at item.0 (put v) old) (λ i. version (c.as_slice.ensures i) c.args.number ((c.value.ensures ∙ ap value_in c.lend.ensures) i)) in
    record {
      pushing = pushing_more c.args.number c.args.items.now c.loop-item.rest.now c.in-Some.before.now item (forest_of c.args.self.now) old (forest_of c.put_near.new.self) c.loop-item.invariant.pushing c.in-Some.ensures.cases.0 made;
      kept = λ marks are. (
          let here = c.loop-item.invariant.kept marks are in
          let more = c.in_ok-place.ensures.marks marks here.0 in
          (more.0, more.1 ∙ here.1)
          );
    }

pub returns-clause-ok : goal.returns-clause-ok
returns-clause-ok c = pushing_all c.args.number c.args.items.now c.loop-item.rest.now (forest_of c.args.self.now) (forest_of c.loop-item.self) c.loop-item.invariant.pushing c.in_default.ensures.cases
