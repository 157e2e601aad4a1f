use Rattle.std.proofs.Common.{List, [], ◌∷◌, ◌++◌, ap, sym, subst, ◌∙◌}
use Rattle.std.proofs.lemmas.List.{drop-map}
use Rattle.fjall_memtable.specs.Parts.{AreApart, HeldPart}
use Rattle.fjall_memtable.specs.Held.{held_of}
use Rattle.fjall_memtable.specs.Shares.{shared}
use Rattle.fjall_memtable.proofs.Apart.{apart_drop}
use Rattle.fjall_memtable.proofs.parts.Parts.remove_sealed.Goals as goal

pub invariant_of-self : goal.invariant_of-self
invariant_of-self c =
    let m = c.args.self.now in
    let left = ap shared (c.drop-drain.ensures.items ∙ c.drain.ensures.kept) ∙ sym (drop-map (λ part. held_of part.value) c.args.count m.sealed.items) in
    record { apart = subst (λ (hs : List HeldPart). AreApart (hs ++ held_of m.active ∷ [])) (sym left) (apart_drop c.args.count (shared m.sealed.items) (held_of m.active) m.apart) }

pub returns : goal.returns
returns c =
    let m = c.args.self.now in
    let left = ap shared (c.drop-drain.ensures.items ∙ c.drain.ensures.kept) ∙ sym (drop-map (λ part. held_of part.value) c.args.count m.sealed.items) in
    λ i. record { sealed = left i; active = held_of m.active }
