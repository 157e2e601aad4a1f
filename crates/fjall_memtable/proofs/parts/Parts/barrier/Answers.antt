use Rattle.std.proofs.Common.{List, [], ◌∷◌, ap, sym, subst, ◌∙◌, refl}
use Rattle.std.proofs.lemmas.List.Elements.{All-push}
use Rattle.std.specs.declared.alloc.Global.{Global}
use Rattle.std.specs.declared.sync.Arc.{Arc}
use Rattle.fjall_memtable.specs.SortedPages.{barrier}
use Rattle.fjall_memtable.specs.declared.part.Part.{Part}
use Rattle.fjall_memtable.specs.Parts.{AreApart, IsHeld, clears_in, parts_of}
use Rattle.fjall_memtable.specs.Held.{held_of}
use Rattle.fjall_memtable.specs.Memories.{memory_of}
use Rattle.fjall_memtable.specs.Shares.{shared}
use Rattle.fjall_memtable.proofs.Apart.{all_held, apart_front}
use Rattle.fjall_memtable.proofs.PartBarriers.{barrier_before, barrier_found}
use Rattle.fjall_memtable.proofs.parts.Parts.barrier.Goals as goal

pub returns-then-found-ne0 : goal.returns-then-found-ne0
returns-then-found-ne0 c =
    let m = c.args.self.now in
    let hs = parts_of (memory_of m) in
    barrier_found c.args.instant hs (shared m.sealed.items) (held_of m.active) c.barrier-found.result (barrier c.args.instant (clears_in hs)) refl
    (All-push IsHeld (shared m.sealed.items) (held_of m.active) (all_held m.sealed.items) m.active.held) m.apart refl c.barrier-found.ensures c.if-found-ne0.true

pub barrier_of-requires : goal.barrier_of-requires
barrier_of-requires c =
    let m = c.args.self.now in
    subst (λ (parts : List (Arc Part Global)). AreApart (shared parts)) (sym c.as_slice.ensures.value) (apart_front (shared m.sealed.items) (held_of m.active ∷ []) m.apart)

pub returns : goal.returns
returns c =
    let m = c.args.self.now in
    c.barrier_of.ensures ∙ ap (λ (parts : List (Arc Part Global)). barrier c.args.instant (clears_in (shared parts))) c.as_slice.ensures.value
    ∙ barrier_before c.args.instant (shared m.sealed.items) (held_of m.active) (sym c.barrier-found.ensures ∙ c.if-found-ne0.false)
