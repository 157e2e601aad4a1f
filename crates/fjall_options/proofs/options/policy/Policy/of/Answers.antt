use Rattle.std.proofs.Common.{◌≡◌, ◌∷◌, [], ◌∙◌, length, take}
use Rattle.std.proofs.lemmas.List.{flat_map_more, take_all}
use Rattle.fjall_options.specs.Policies.{policy_bytes}
use Rattle.fjall_base.proofs.Codecs.{each_more}
use Rattle.fjall_options.proofs.Spelled.{IsReadBack, taken, policy_back}
use Rattle.fjall_options.proofs.options.policy.Policy.of.Goals as goal

pub loop-entry-preserved : goal.loop-entry-preserved
loop-entry-preserved g c =
    let xs = c.args.entries.items in
    let x = c.entry-item.result in
    let same = c.deref-entry-items.ensures.value in
    let next = taken xs c.loop-entry.entry-index x (rw same at c.loop-entry-test.true) (rw same at c.entry-item.is) in
    record {
      so_far = rw (next, c.in_ok-encode_into.ensures.ok, c.loop-entry.invariant.so_far) (flat_map_more g.T.PolicyEntry.spelled (length xs ∷ []) (take c.loop-entry.entry-index xs) x);
      back = rw next (each_more (IsReadBack g.T.PolicyEntry.entry_at g.T.PolicyEntry.spelled) (take c.loop-entry.entry-index xs) x c.loop-entry.invariant.back (record { back = c.in_ok-encode_into.ensures.back }));
    }

pub invariant_of-result : goal.invariant_of-result
invariant_of-result g c =
    let xs = c.args.entries.items in
    let same = c.deref-entry-items.ensures.value in
    let all = take_all c.loop-entry.entry-index xs (rw same at c.loop-entry-test.false) in
    let text : c.in_ok-new.field-0 ≡ policy_bytes g.T.PolicyEntry.spelled xs = c.in_ok-new.ensures.value ∙ c.deref.ensures.value ∙ rw all at c.loop-entry.invariant.so_far in
    (c.requires.some, c.requires.few, text, λ rest. rw text (policy_back g.T.PolicyEntry.entry_at g.T.PolicyEntry.spelled xs rest c.requires.some (rw all at c.loop-entry.invariant.back)))
