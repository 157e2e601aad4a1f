use Rattle.std.proofs.Common.{ap, ◌∙◌}
use Rattle.std.specs.Option.{option_map}
use Rattle.fjall_table.specs.Blocks.{seen}
use Rattle.fjall_memtable.specs.Views.{newest}
use Rattle.fjall_memtable.specs.declared.part.Part.{Part}
use Rattle.fjall_memtable.specs.Parts.{versions_in}
use Rattle.fjall_memtable.specs.Held.{held_of}
use Rattle.fjall_memtable.specs.Shares.{shared}
use Rattle.fjall_memtable.proofs.Apart.{all_held, shared_last}
use Rattle.fjall_memtable.proofs.PartFinds.{newest_found, newest_rest}
use Rattle.fjall_memtable.proofs.shared.newest_of.Goals as goal

pub returns-in-Some-2 : goal.returns-in-Some-2
returns-in-Some-2 c =
    let key = c.args.key.now in
    let t = c.args.instant in
    let rest = c.loop-part.rest.now in
    let part = c.in-Some.part.now in
    newest_found key t (shared rest) (shared c.in-Some.before.now) (held_of part.value) (seen c.in-Some-2.found) (option_map seen c.in_ok-found.field-0) (newest key t (versions_in (shared c.args.parts.now)))
    (shared_last rest c.in-Some.before.now part c.in-Some.ensures.cases.0) (all_held rest) c.loop-part.invariant.apart c.loop-part.invariant.same
    (c.in_ok-found.ensures ∙ ap (λ (p : Part). newest key t (held_of p).versions) c.deref.ensures) (ap (option_map seen) c.in-Some-2.is)

pub loop-part-preserved : goal.loop-part-preserved
loop-part-preserved c =
    let key = c.args.key.now in
    let t = c.args.instant in
    let rest = c.loop-part.rest.now in
    let part = c.in-Some.part.now in
    let left = newest_rest key t (shared rest) (shared c.in-Some.before.now) (held_of part.value) (option_map seen c.in_ok-found.field-0) (newest key t (versions_in (shared c.args.parts.now)))
    (shared_last rest c.in-Some.before.now part c.in-Some.ensures.cases.0) c.loop-part.invariant.apart c.loop-part.invariant.same
    (c.in_ok-found.ensures ∙ ap (λ (p : Part). newest key t (held_of p).versions) c.deref.ensures) (ap (option_map seen) c.in_default-2.is) in
    record { apart = left.0; same = left.1 }
