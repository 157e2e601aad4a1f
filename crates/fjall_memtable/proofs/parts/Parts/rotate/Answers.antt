use Rattle.std.proofs.Common.{List, [], ◌∷◌, ◌++◌, ap, sym, subst, ◌∙◌, arith}
use Rattle.std.specs.declared.alloc.Global.{Global}
use Rattle.std.specs.declared.sync.Arc.{Arc}
use Rattle.fjall_memtable.specs.declared.part.Part.{Part}
use Rattle.fjall_memtable.specs.Parts.{AreApart, HeldPart, empty_from}
use Rattle.fjall_memtable.specs.Held.{held_of}
use Rattle.fjall_memtable.specs.Shares.{shared}
use Rattle.fjall_memtable.proofs.Apart.{apart_more, shared-append}
use Rattle.fjall_memtable.proofs.parts.Parts.rotate.Goals as goal

pub invariant_of-self-in-Ok : goal.invariant_of-self-in-Ok
invariant_of-self-in-Ok c =
    let m = c.args.self.now in
    let sealed = ap shared (c.push_reserved.ensures.items ∙ ap (λ (parts : List (Arc Part Global)). parts ++ c.in-Ok.part ∷ []) c.in_ok-reserve.ensures.items)
    ∙ shared-append m.sealed.items (c.in-Ok.part ∷ [])
    ∙ ap (λ (part : Part). shared m.sealed.items ++ held_of part ∷ []) (c.in-Ok.ensures.ok ∙ c.replace-full.ensures.value) in
    let active = ap held_of c.replace-full.ensures.after ∙ c.new-next.ensures in
    record {
      apart =
          subst (λ (hs : List HeldPart). AreApart (hs ++ held_of c.replace-full.new.dest ∷ [])) (sym sealed)
          (subst (λ (h : HeldPart). AreApart ((shared m.sealed.items ++ held_of m.active ∷ []) ++ h ∷ [])) (sym active)
          (apart_more (shared m.sealed.items) (held_of m.active) (empty_from m.active.until) (omega arith) m.apart));
    }
