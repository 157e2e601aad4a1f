use Rattle.std.proofs.Common.{Option, Some, ap, sym, subst, ◌∷◌, ◌≡◌, ◌∙◌}
use Rattle.fjall_base.specs.Pairs.{Bytes}
use Rattle.fjall_table.specs.Blocks.{Entry, seen}
use Rattle.fjall_memtable.specs.SortedPages.{pair_of}
use Rattle.fjall_cursors.specs.RunPages.{back_with}
use Rattle.fjall_cursors.proofs.Keyeds.{begins, looked_back, owned}
use Rattle.fjall_cursors.proofs.back_page.BackPage.look.Goals as goal

pub returns-in-Some-2-clause-all : goal.returns-in-Some-2-clause-all
returns-in-Some-2-clause-all g c v rest versions is =
    let left = g.R.Run.left c.args.run.now in
    let page = c.settle_before.new.self in
    let w = seen c.in-Some.version in
    let shown = c.value_shown.result in
    let same : w ≡ v = begins left v w rest c.in-Some.ensures is in
    let is_w : left ≡ w ∷ rest = is ∙ sym (ap (λ (x : Entry). x ∷ rest) same) in
    let pair : (c.in-Some-2.key, c.in-Some-2.value) ≡ (w.key, w.value) = owned left w rest (c.in-Some-2.key, c.in-Some-2.value) (sym c.in-Some-2.is ∙ c.in_ok-key.ensures) is_w in
    let last = c.set_last.ensures.last ∙ ap (λ (p : Bytes × Option Bytes). Some (p.0, shown)) pair in
    let told = c.value_shown.ensures w.key ∙ ap (λ (p : Bytes × Option Bytes). pair_of page.bound (record { key = w.key; number = w.number; value = p.1 })) pair in
    subst (λ (x : Entry). back_with (record { alloc = page.alloc; instant = page.instant; bound = page.bound; pairs = c.set_last.new.self }) versions ≡ back_with c.args.self.now (x ∷ versions)) same (
    looked_back page.instant page.bound page.pairs.before c.set_last.new.self.before page.pairs.last c.set_last.new.self.last w shown versions c.set_last.ensures.before last told c.in_ok-settle_before.ensures.same c.if-number-self.false
    ∙ c.in_ok-settle_before.ensures.all versions
    )
