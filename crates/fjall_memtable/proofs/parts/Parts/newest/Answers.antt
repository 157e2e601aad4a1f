use Rattle.std.proofs.Common.{◌≡◌, List, [], ◌∷◌, Option, ap, sym, subst, ◌∙◌, refl}
use Rattle.std.specs.Option.{option_map}
use Rattle.std.specs.Result.{IfOk}
use Rattle.std.proofs.lemmas.List.Elements.{All-push}
use Rattle.std.specs.declared.alloc.Global.{Global}
use Rattle.std.specs.declared.sync.Arc.{Arc}
use Rattle.fjall_table.specs.Blocks.{Entry, seen}
use Rattle.fjall_memtable.specs.Views.{newest}
use Rattle.fjall_memtable.specs.declared.part.Part.{Part}
use Rattle.fjall_memtable.specs.Parts.{AreApart, IsHeld, parts_of, versions_in}
use Rattle.fjall_memtable.specs.Held.{held_of}
use Rattle.fjall_memtable.specs.Memories.{memory_of}
use Rattle.fjall_memtable.specs.Shares.{shared}
use Rattle.fjall_memtable.proofs.Apart.{all_held, apart_front}
use Rattle.fjall_memtable.proofs.PartFinds.{newest_before, newest_found}
use Rattle.fjall_memtable.proofs.parts.Parts.newest.Goals as goal

pub returns-in-Some : goal.returns-in-Some
returns-in-Some c =
    let m = c.args.self.now in
    let hs = parts_of (memory_of m) in
    newest_found c.args.key.now c.args.instant hs (shared m.sealed.items) (held_of m.active) (seen c.in-Some.found) (option_map seen c.in_ok-found.field-0) (newest c.args.key.now c.args.instant (versions_in hs)) refl
    (All-push IsHeld (shared m.sealed.items) (held_of m.active) (all_held m.sealed.items) m.active.held) m.apart refl c.in_ok-found.ensures (ap (option_map seen) c.in-Some.is)

pub newest_of-requires : goal.newest_of-requires
newest_of-requires c =
    let m = c.args.self.now in
    subst (λ (parts : List (Arc Part Global)). AreApart (shared parts)) (sym c.as_slice.ensures.value) (apart_front (shared m.sealed.items) (held_of m.active ∷ []) m.apart)

pub returns : goal.returns
returns c =
    let m = c.args.self.now in
    let key = c.args.key.now in
    let t = c.args.instant in
    let same = ap (λ (parts : List (Arc Part Global)). newest key t (versions_in (shared parts))) c.as_slice.ensures.value
    ∙ sym (newest_before key t (shared m.sealed.items) (held_of m.active) (sym c.in_ok-found.ensures ∙ ap (option_map seen) c.in_default.is)) in
    subst (λ (o : Option Entry). IfOk c.newest_of.result (λ found. option_map seen found ≡ o)) same c.newest_of.ensures
