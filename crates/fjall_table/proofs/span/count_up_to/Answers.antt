use Rattle.std.proofs.Common.{◌≡◌, false, ap, get_or, map, rules, tests, sym, ◌∙◌, arith}
use Rattle.std.specs.Ordering.{is_le}
use Rattle.std.proofs.lemmas.List.{length-map}
use Rattle.std.proofs.lemmas.List.Sorted.{IsPartitionPoint-from_clause}
use Rattle.fjall_base.specs.Pairs.{byte_order}
use Rattle.fjall_table.specs.Owned.{owned_handle}
use Rattle.fjall_table.specs.Tables.{Handle}
use Rattle.fjall_table.proofs.Lookups.{all_up_to, filter_len, point_is, filter_seen, falls_seen, falls_up_to, none_more, partitioned}
use Rattle.fjall_table.proofs.span.count_up_to.Goals as goal

pub returns-then-below-handles : goal.returns-then-below-handles
returns-then-below-handles c =
    let hs = map owned_handle c.args.handles.now in
    let key = c.args.sought.now.key.now in
    let more = all_up_to key hs in
    let len = filter_len (λ (h : Handle). is_le (byte_order h.first_key key)) hs in
    omega (arith, more, len, length-map c.args.handles.now owned_handle, c.requires.below, c.if-below-handles.true)

pub returns-then-not-is_at_most : goal.returns-then-not-is_at_most
returns-then-not-is_at_most c =
    let xs = c.args.handles.now in
    let key = c.args.sought.now.key.now in
    let at = c.index-handles-below.result in
    let falls = falls_seen owned_handle (λ (h : Handle). is_le (byte_order h.first_key key)) xs (falls_up_to key (map owned_handle xs) c.requires.ascend) in
    let miss : is_le (byte_order (owned_handle (get_or xs c.args.below at)).first_key key) ≡ false =
    ap (λ x. is_le (byte_order (owned_handle x).first_key key)) (sym c.index-handles-below.is) ∙ sym c.is_at_most.ensures ∙ c.if-not-is_at_most.true in
    let most = none_more (λ x. is_le (byte_order (owned_handle x).first_key key)) xs c.args.below at falls (omega (arith, c.if-below-handles.false)) miss in
    let same = filter_seen owned_handle (λ (h : Handle). is_le (byte_order h.first_key key)) xs in
    let more = all_up_to key (map owned_handle xs) in
    omega (arith, most, same, more, c.requires.below)

pub returns : goal.returns
returns c =
    let hs = c.args.handles.now in
    let key = c.args.sought.now.key.now in
    let falls = partitioned (λ h. is_le (byte_order (owned_handle h).first_key key)) hs (falls_seen owned_handle (λ (h : Handle). is_le (byte_order h.first_key key)) hs (falls_up_to key (map owned_handle hs) c.requires.ascend)) in
    let p = IsPartitionPoint-from_clause (λ h. is_le (byte_order (owned_handle h).first_key key)) _ _ c.partition_point.ensures.partitioned falls (λ a r f h. search (rules, tests)) in
    let at = point_is (λ h. is_le (byte_order (owned_handle h).first_key key)) hs c.partition_point.result c.partition_point.ensures.bound p in
    at ∙ filter_seen owned_handle (λ (h : Handle). is_le (byte_order h.first_key key)) hs
