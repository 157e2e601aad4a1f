use Rattle.std.proofs.Common.{map, rules, tests, ◌∙◌}
use Rattle.std.specs.Ordering.{is_lt}
use Rattle.std.proofs.lemmas.List.Sorted.{IsPartitionPoint-from_clause}
use Rattle.fjall_base.specs.Pairs.{byte_order}
use Rattle.fjall_table.specs.Owned.{owned_handle}
use Rattle.fjall_table.specs.Tables.{Handle}
use Rattle.fjall_table.proofs.Lookups.{point_is, filter_seen, falls_seen, falls_below, partitioned}
use Rattle.fjall_table.proofs.span.count_below.Goals as goal

pub returns : goal.returns
returns c =
    let hs = c.args.handles.now in
    let key = c.args.sought.now.key.now in
    let falls = partitioned (λ h. is_lt (byte_order (owned_handle h).first_key key)) hs (falls_seen owned_handle (λ (h : Handle). is_lt (byte_order h.first_key key)) hs (falls_below key (map owned_handle hs) c.requires)) in
    let p = IsPartitionPoint-from_clause (λ h. is_lt (byte_order (owned_handle h).first_key key)) _ _ c.partition_point.ensures.partitioned falls (λ a r f h. search (rules, tests)) in
    let at = point_is (λ h. is_lt (byte_order (owned_handle h).first_key key)) hs c.partition_point.result c.partition_point.ensures.bound p in
    at ∙ filter_seen owned_handle (λ (h : Handle). is_lt (byte_order h.first_key key)) hs
