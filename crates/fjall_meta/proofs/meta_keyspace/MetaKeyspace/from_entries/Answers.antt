use Rattle.std.proofs.Common.{◌≡◌, ℕ, List, sym, subst, ◌∙◌, ap}
use Rattle.std.proofs.lemmas.Result.{err_from_is_err_and}
use Rattle.fjall_meta.specs.declared.entry.MetaEntry.{MetaEntry}
use Rattle.fjall_meta.specs.Keyspaces.{Keyspaces, AreKeyspaces}
use Rattle.fjall_meta.specs.Reading.{AreIds}
use Rattle.fjall_meta.specs.Entries.{entries_of}
use Rattle.fjall_meta.proofs.Back.{full_memory, in_order, whole_options, same_state}
use Rattle.fjall_meta.proofs.meta_keyspace.MetaKeyspace.from_entries.Goals as goal

are_ids : (ids others : List ℕ) (entries : List MetaEntry) → ids ≡ others → AreIds others entries → AreIds ids entries
are_ids ids others entries same are = subst (λ (ns : List ℕ). AreIds ns entries) (sym same) are

pub returns-in_err-living-clause-whole : goal.returns-in_err-living-clause-whole
returns-in_err-living-clause-whole c = λ s are next same.
    let ids = are_ids c.deref.result.now c.in_ok-ids.ids.items c.args.entries.now c.deref.ensures.value c.in_ok-ids.ensures.ok in
    let p = err_from_is_err_and c.from_residual-in_err-living.result c.from_residual-in_err-living.ensures.1 in
    rw (p.1, p.2) (full_memory c.in_err-living.field-0.0 c.deref.result.now c.args.entries.now s are same ids c.in_err-living.ensures.cause)

pub restored-requires-clause-ascending : goal.restored-requires-clause-ascending
restored-requires-clause-ascending c =
    let ids = are_ids c.deref.result.now c.in_ok-ids.ids.items c.args.entries.now c.deref.ensures.value c.in_ok-ids.ensures.ok in
    in_order c.deref.result.now c.args.entries.now c.in_ok-living.living.items ids c.in_ok-living.ensures.ids

pub restored-requires-clause-options : goal.restored-requires-clause-options
restored-requires-clause-options c = whole_options c.args.entries.now c.in_ok-living.living.items c.in_ok-living.ensures.stored

pub returns-in_default-clause-whole : goal.returns-in_default-clause-whole
returns-in_default-clause-whole c = λ s are next same.
    let ids = are_ids c.deref.result.now c.in_ok-ids.ids.items c.args.entries.now c.deref.ensures.value c.in_ok-ids.ensures.ok in
    let state = same_state s c.deref.result.now c.args.entries.now c.in_ok-living.living.items c.args.next_id are next same ids c.in_ok-living.ensures.ids c.in_ok-living.ensures.stored in
    let refused = rw c.in_default.is at c.in_ok-keyspaces.ensures.ok in
    absurd (refused (subst AreKeyspaces (sym state) are))

pub returns-then-not-are_equal-clause-whole : goal.returns-then-not-are_equal-clause-whole
returns-then-not-are_equal-clause-whole c = λ s are next same.
    let ids = are_ids c.deref.result.now c.in_ok-ids.ids.items c.args.entries.now c.deref.ensures.value c.in_ok-ids.ensures.ok in
    let state = same_state s c.deref.result.now c.args.entries.now c.in_ok-living.living.items c.args.next_id are next same ids c.in_ok-living.ensures.ids c.in_ok-living.ensures.stored in
    let read = rw c.in-Some.is at c.in_ok-keyspaces.ensures.ok in
    let equal : c.deref-2.result.now ≡ c.args.entries.now = c.deref-2.ensures.value ∙ c.in_ok-again.ensures.ok ∙ ap (λ (t : Keyspaces). entries_of t.living) (read ∙ state) ∙ same in
    let yes = c.are_equal.ensures.1 equal in
    absurd (cc (yes, c.if-not-are_equal.true))

pub returns-clause-whole : goal.returns-clause-whole
returns-clause-whole c = λ s are next same.
    let ids = are_ids c.deref.result.now c.in_ok-ids.ids.items c.args.entries.now c.deref.ensures.value c.in_ok-ids.ensures.ok in
    let state = same_state s c.deref.result.now c.args.entries.now c.in_ok-living.living.items c.args.next_id are next same ids c.in_ok-living.ensures.ids c.in_ok-living.ensures.stored in
    let read = rw c.in-Some.is at c.in_ok-keyspaces.ensures.ok in
    read ∙ state
