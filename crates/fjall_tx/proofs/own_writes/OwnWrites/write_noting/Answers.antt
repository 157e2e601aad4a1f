use Rattle.std.proofs.Common.{rules, ◌≡◌, ◌∷◌, List, ap, sym, subst, ◌∙◌}
use Rattle.std.specs.FinMap.{insert}
use Rattle.fjall_base.specs.Pairs.{Bytes}
use Rattle.fjall_tx.specs.Owns.{CanTakeBack, Earlier, Own, key_of, taken_back}
use Rattle.fjall_tx.proofs.TakingBack.{back_more, can_more}
use Rattle.fjall_tx.proofs.own_writes.OwnWrites.write_noting.Goals as goal

-- what was noted stands in front of the others
noted : (c : goal.After-push_front_reserved) → c.push_front_reserved.new.self.items ≡ (key_of c.args.item.0 c.args.item.1, c.in_ok-before.before) ∷ c.args.earlier.now.items
noted c =
    let key : c.in_ok-clone.field-0 ≡ c.args.item.1 = search rules in
    c.push_front_reserved.ensures.items ∙ ap (λ (k : Bytes). (key_of c.args.item.0 k, c.in_ok-before.before) ∷ c.args.earlier.now.items) key

pub returns-clause-can : goal.returns-clause-can
returns-clause-can c =
    let a = c.args in
    let k = key_of a.item.0 a.item.1 in
    let e = c.in_ok-before.ensures in
    subst (λ (own : Own). CanTakeBack own c.push_front_reserved.new.self.items) (sym e.ok)
    (subst (λ (l : List Earlier). CanTakeBack (insert a.self.now k a.item.2) l) (sym (noted c)) (can_more a.self.now k a.item.2 c.in_ok-before.before a.earlier.now.items e.before e.writable c.requires.can))

pub returns-clause-back : goal.returns-clause-back
returns-clause-back c =
    let a = c.args in
    let k = key_of a.item.0 a.item.1 in
    let e = c.in_ok-before.ensures in
    ap (λ (own : Own). taken_back own c.push_front_reserved.new.self.items) e.ok
    ∙ ap (λ (l : List Earlier). taken_back (insert a.self.now k a.item.2) l) (noted c)
    ∙ back_more a.self.now k a.item.2 c.in_ok-before.before a.earlier.now.items e.before
