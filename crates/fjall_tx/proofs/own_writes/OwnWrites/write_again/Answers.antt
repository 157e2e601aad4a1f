use Rattle.std.proofs.Common.{◌≡◌, None, Option, ap, subst, arith, List, sym, ◌∙◌}
use Rattle.std.specs.Prelude.{IsSome, is_some}
use Rattle.std.specs.FinMap as fin
use Rattle.std.specs.List.{AllByRecursion}
use Rattle.std.proofs.lemmas.Bool.{true≢false}
use Rattle.fjall_journal.specs.declared.op.Op.{Op}
use Rattle.fjall_tx.specs.declared.key.Key.{Key}
use Rattle.fjall_tx.specs.Owns.{IsWritable, Own}
use Rattle.fjall_tx.proofs.Keys.{inserted, same_get}
use Rattle.fjall_tx.proofs.TakingBack.{as_many}
use Rattle.fjall_tx.proofs.Writable.{put_writable}
use Rattle.fjall_tx.proofs.own_writes.OwnWrites.write_again.Goals as goal

pub unreachable-requires : goal.unreachable-requires
unreachable-requires c =
    let none : fin.get c.args.self.now c.args.place ≡ None = sym (ap (λ (own : Own). fin.get own c.args.place) c.self.view_is) ∙ same_get c.self.inside.writes.entries c.args.place ∙ c.in_default.ensures.absent in
    true≢false (sym c.requires.there ∙ ap is_some none)

pub invariant_of-self : goal.invariant_of-self
invariant_of-self c =
    let i = c.self.invariant in
    let e = c.in-Ok.ensures in
    let there : IsSome c.in-Ok.had = subst (λ (o : Option Op). IsSome o) (sym (e.old ∙ sym (same_get c.self.inside.writes.entries c.args.place) ∙ ap (λ (own : Own). fin.get own c.args.place) c.self.view_is)) c.requires.there in
    let same = as_many _ _ _ there e.len in
    let room = i.1 in
    (i.0, omega (arith, same, room), subst (λ (es : List (Key × Op)). AllByRecursion IsWritable es) (sym e.entries) (put_writable c.args.place c.args.op c.requires.writable c.self.inside.writes.entries i.2))

pub returns : goal.returns
returns c = rw (← c.self.view_is) (inserted _ _ _ _ c.in-Ok.ensures.updates.0)
