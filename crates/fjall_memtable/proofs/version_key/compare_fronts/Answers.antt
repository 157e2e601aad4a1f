use Rattle.std.proofs.Common.{◌∙◌, ap, sym, refl, ℕ}
use Rattle.std.specs.Ordering.{nat_cmp}
use Rattle.std.specs.declared.cmp.Ordering.TheVariants.{Equal}
use Rattle.std.proofs.lemmas.Map.Lookups.{exact_unsigned}
use Rattle.fjall_memtable.proofs.Fronts.{words_order, first_only, same}
use Rattle.fjall_memtable.proofs.version_key.compare_fronts.Goals as goal

pub returns-then-first-other_first : goal.returns-then-first-other_first
returns-then-first-other_first c =
    let a = c.args in
    let r = c.ranges in
    c.unequal.ensures
    ∙ sym (first_only (nat_cmp a.first a.other_first) (nat_cmp a.second a.other_second) (λ e. c.if-first-other_first.true (exact_unsigned a.first a.other_first e)))
    ∙ words_order (nat_cmp a.first a.other_first) a.first a.second a.other_first a.other_second r.first.fits r.second.fits r.other_first.fits r.other_second.fits refl

pub returns-then-second-other_second : goal.returns-then-second-other_second
returns-then-second-other_second c =
    let a = c.args in
    let r = c.ranges in
    c.unequal-then-second-other_second.ensures
    ∙ words_order Equal a.first a.second a.other_first a.other_second r.first.fits r.second.fits r.other_first.fits r.other_second.fits (ap (λ (n : ℕ). nat_cmp a.first n) (sym c.if-first-other_first.false) ∙ same a.first)
