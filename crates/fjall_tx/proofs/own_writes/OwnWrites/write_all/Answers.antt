use Rattle.std.proofs.Common.{◌≡◌, None, List, length, ap, sym, subst, ◌∙◌, arith}
use Rattle.std.specs.List.{AllByRecursion}
use Rattle.fjall_journal.specs.Ops.{BatchItem, items_refusal}
use Rattle.fjall_tx.specs.Owns.{CanTakeBack, Earlier, taken_back, with_writes}
use Rattle.fjall_tx.proofs.TakingBack.{Fits, all_fit}
use Rattle.fjall_tx.proofs.Writable.{nothing_due}
use Rattle.fjall_tx.proofs.own_writes.OwnWrites.write_all.Goals as goal

pub loop-item-init : goal.loop-item-init
loop-item-init c =
    let own = c.args.self.now in
    let none = c.in_ok-earlier.ensures.items in
    let rest = c.from_vec-rest.ensures.items in
    let unrefused : items_refusal c.args.items.items ≡ None = ap items_refusal (sym c.deref.ensures.value) ∙ nothing_due _ _ c.in_ok-check_items.ensures in
    record {
      can = subst (λ (l : List Earlier). CanTakeBack own l) (sym none) tt;
      back = ap (λ (l : List Earlier). taken_back own l) none;
      all = ap (λ (l : List BatchItem). with_writes own l) rest;
      fit = subst (λ (l : List BatchItem). AllByRecursion Fits l) (sym rest) (all_fit c.args.items.items unrefused);
      room =
          let empty = c.in_ok-earlier.ensures.len in
          let wide = c.in_ok-earlier.ensures.capacity in
          let count = c.len.ensures in
          let vec = c.args.items.ok.0 in
          let same = ap length rest in
          omega (arith, empty, wide, count, vec, same);
    }
