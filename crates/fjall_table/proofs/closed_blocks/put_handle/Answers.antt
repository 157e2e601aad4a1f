use Rattle.std.proofs.Common.{◌≡◌, ℕ, List, ◌++◌, length, append_assoc}
use Rattle.byteorder.specs.Endian.{little_bytes}
use Rattle.fjall_table.specs.Tables.{handle_text}
use Rattle.fjall_table.proofs.closed_blocks.put_handle.Goals as goal

-- four pieces after what was there
added : (old r0 r1 r2 r3 r4 a b d key : List ℕ) (offset len : ℕ) → r0 ≡ old → r1 ≡ r0 ++ a → r2 ≡ r1 ++ b → r3 ≡ r2 ++ d → r4 ≡ r3 ++ key → a ≡ little_bytes 8 offset → b ≡ little_bytes 8 len → d ≡ little_bytes 2 (length key)
    → r4 ≡ old ++ handle_text (record { offset = offset; len = len; first_key = key })
unfolding handle_text
added old r0 r1 r2 r3 r4 a b d key offset len e0 e1 e2 e3 e4 ha hb hd = pieces ha hb hd
  where
    pieces : {x y z : List ℕ} → a ≡ x → b ≡ y → d ≡ z → r4 ≡ old ++ (x ++ (y ++ (z ++ key)))
    pieces ha hb hd = rw (← ha, ← hb, ← hd, e4, e3, e2, e1, e0) (simp append_assoc)

pub returns-clause-ok : goal.returns-clause-ok
returns-clause-ok c =
    added c.args.out.now.items c.reserve.new.self.items c.extend_from_slice.new.self.items c.extend_from_slice-2.new.self.items c.extend_from_slice-3.new.self.items c.extend_from_slice-4.new.self.items c.to_le_bytes.result c.to_le_bytes-2.result c.to_le_bytes-3.result c.args.first_key.now c.args.offset c.args.len
    c.in_ok-reserve.ensures.items c.in_ok-extend_from_slice.ensures.items c.in_ok-extend_from_slice-2.ensures.items c.in_ok-extend_from_slice-3.ensures.items c.in_ok-extend_from_slice-4.ensures.items c.to_le_bytes.ensures c.to_le_bytes-2.ensures c.to_le_bytes-3.ensures
