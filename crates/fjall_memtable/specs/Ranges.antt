-- Where the versions between two bounds begin and end.
use Rattle.std.specs.Prelude.{ℕ, ◌-◌, ◌^◌, Bool, false}
use Rattle.std.specs.Ordering.{is_ge, is_gt}
use Rattle.std.specs.declared.ops.Bound.{Bound}
use Rattle.std.specs.declared.ops.Bound.TheVariants.{Included, Excluded, Unbounded}
use Rattle.std.specs.Range.Bound.{IsForward}
use Rattle.std.specs.BTreeMap.Range.{IsLeBy, IsLtBy}
use Rattle.fjall_base.specs.Pairs.{Bytes, KeyRange, byte_order}
use Rattle.fjall_memtable.specs.Stamps.{Stamp, stamp_cmp}

-- whether the end stands before the start, or at it where not both are included
abbrev pub is_reversed : KeyRange → Bool
is_reversed (Included start, Included end) = is_gt (byte_order start end)
is_reversed (Included start, Excluded end) = is_ge (byte_order start end)
is_reversed (Excluded start, Included end) = is_ge (byte_order start end)
is_reversed (Excluded start, Excluded end) = is_ge (byte_order start end)
is_reversed (Included start, Unbounded) = false
is_reversed (Excluded start, Unbounded) = false
is_reversed (Unbounded, end) = false

-- ---- in stamps

-- a bound on stamps, of one number where the bound on keys is included and of another where it isn't
abbrev pub stamp_bound : ℕ → ℕ → Bound Bytes → Bound Stamp
stamp_bound included excluded (Included key) = Included (record { key = key; number = included })
stamp_bound included excluded (Excluded key) = Excluded (record { key = key; number = excluded })
stamp_bound included excluded Unbounded = Unbounded

-- where the versions begin: the greatest number stands first
abbrev pub start_of : KeyRange → Bound Stamp
start_of range = stamp_bound (2 ^ 64 - 1) 0 range.0

-- where they end
abbrev pub end_of : KeyRange → Bound Stamp
end_of range = stamp_bound 0 (2 ^ 64 - 1) range.1

-- the start isn't past the end, and not at it where both are excluded
abbrev pub IsForwardBy : Bound Stamp → Bound Stamp → Type 0
IsForwardBy start end = IsForward (IsLeBy stamp_cmp) (IsLtBy stamp_cmp) start end
