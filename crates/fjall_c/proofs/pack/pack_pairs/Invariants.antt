use Rattle.std.proofs.Common.{◌≡◌, ◌≤◌, ℕ, drop, length, take}
use Rattle.fjall_c.specs.Answers.{packed}
use Rattle.fjall_c.proofs.pack.pack_pairs.Given as goal

-- so far the pairs stand packed, and behind them what stood there
abbrev pub invariant-loop-key : goal.invariant-loop-key
invariant-loop-key l = record {
  count : l.page.count ≡ l.key-index;
  len : l.page.len ≡ length (packed (take l.key-index l.pairs));
  fits : l.page.len ≤ length l.room;
  front : take l.page.len l.room ≡ packed (take l.key-index l.pairs);
  behind : (n : ℕ) → l.page.len ≤ n → drop n l.room ≡ drop n l.initial.room;
}
