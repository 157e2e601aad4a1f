-- A part with one version or one clear more.
use Rattle.std.proofs.Common.{◌≡◌, ℕ, ◌+◌, ◌<◌, ◌≤◌, ◌^◌, max, List, [], ◌∷◌, ◌++◌, sym, subst, arith}
use Rattle.std.specs.List.{All}
use Rattle.std.specs.Ordering.{match_ordering}
use Rattle.std.specs.declared.cmp.Ordering.{Ordering}
use Rattle.std.specs.declared.cmp.Ordering.TheVariants.{Less, Equal, Greater}
use Rattle.std.proofs.lemmas.List.Elements.{All-nil, All-cons, All-head, All-tail, All-push, All-weaker}
use Rattle.fjall_table.specs.Blocks.{Entry, IsEntry}
use Rattle.fjall_memtable.specs.Stamps.{stamp_cmp}
use Rattle.fjall_memtable.specs.Entries.{inserted, stamp_of}
use Rattle.fjall_memtable.proofs.Sorting.{chain_of, inserted_chain, ordered_of}
use Rattle.fjall_memtable.specs.Parts.{Ascends, HeldPart, IsHeld, with_clear, with_version}

all_inserted : (P : Entry → Type 0) (e : Entry) (versions : List Entry) → P e → All P versions → All P (inserted e versions)
all_inserted P e [] here each = All-cons P e [] here each
all_inserted P e (v ∷ versions) here each = by (stamp_cmp (stamp_of e) (stamp_of v)) (all_inserted P e versions here (All-tail P v versions each))
  where
    by : (o : Ordering) → All P (inserted e versions) → All P (match_ordering o (e ∷ v ∷ versions) (e ∷ versions) (v ∷ inserted e versions))
    by Less more = All-cons P e (v ∷ versions) here each
    by Equal more = All-cons P e versions here (All-tail P v versions each)
    by Greater more = All-cons P v (inserted e versions) (All-head P v versions each) more

-- a number more, behind all others
ascends_push : (numbers : List ℕ) (n : ℕ) → All (λ m. m < n) numbers → Ascends numbers → Ascends (numbers ++ n ∷ [])
ascends_push [] n low up = (All-nil (λ (m : ℕ). n < m), tt)
ascends_push (x ∷ numbers) n low up = (
  All-push (λ (m : ℕ). x < m) numbers n up.0 (All-head (λ (m : ℕ). m < n) x numbers low),
  ascends_push numbers n (All-tail (λ (m : ℕ). m < n) x numbers low) up.1,
)

pub version_held : (e : Entry) (h : HeldPart) → IsEntry e → IsHeld h → h.from ≤ e.number → e.number < 2 ^ 63 → IsHeld (with_version e h)
version_held e h is held from small = record {
  each = all_inserted IsEntry e h.versions is held.each;
  ordered = ordered_of (inserted e h.versions) (inserted_chain e h.versions (chain_of h.versions held.ordered));
  bounds = omega arith;
  small = omega arith;
  low = all_inserted (λ (v : Entry). h.from ≤ v.number) e h.versions from held.low;
  high = all_inserted (λ (v : Entry). v.number < max h.until (e.number + 1)) e h.versions (omega arith)
      (All-weaker (λ (v : Entry). v.number < h.until) (λ (v : Entry). v.number < max h.until (e.number + 1)) (λ v k. omega arith) h.versions held.high);
  low_clears = held.low_clears;
  high_clears = All-weaker (λ (n : ℕ). n < h.until) (λ (n : ℕ). n < max h.until (e.number + 1)) (λ n k. omega arith) h.clears held.high_clears;
  ascend = held.ascend;
}

pub clear_held : (number : ℕ) (h : HeldPart) → IsHeld h → h.from ≤ number → number < 2 ^ 63 → All (λ n. n < number) h.clears → IsHeld (with_clear number h)
clear_held number h held from small last = record {
  each = held.each;
  ordered = held.ordered;
  bounds = omega arith;
  small = omega arith;
  low = held.low;
  high = All-weaker (λ (v : Entry). v.number < h.until) (λ (v : Entry). v.number < max h.until (number + 1)) (λ v k. omega arith) h.versions held.high;
  low_clears = All-push (λ (n : ℕ). h.from ≤ n) h.clears number held.low_clears from;
  high_clears = All-push (λ (n : ℕ). n < max h.until (number + 1)) h.clears number
      (All-weaker (λ (n : ℕ). n < h.until) (λ (n : ℕ). n < max h.until (number + 1)) (λ n k. omega arith) h.clears held.high_clears) (omega arith);
  ascend = ascends_push h.clears number last held.ascend;
}

-- the same of the number where it ends and of the list
pub version_put : (e : Entry) (h : HeldPart) (until : ℕ) (versions : List Entry) → until ≡ max h.until (e.number + 1) → versions ≡ inserted e h.versions
    → IsEntry e → IsHeld h → h.from ≤ e.number → e.number < 2 ^ 63 → IsHeld (record { from = h.from; until = until; versions = versions; clears = h.clears })
version_put e h until versions u v is held from small =
    subst (λ (n : ℕ). IsHeld (record { from = h.from; until = n; versions = versions; clears = h.clears })) (sym u)
    (subst (λ (vs : List Entry). IsHeld (record { from = h.from; until = max h.until (e.number + 1); versions = vs; clears = h.clears })) (sym v)
    (version_held e h is held from small))

pub clear_put : (number : ℕ) (h : HeldPart) (until : ℕ) (clears : List ℕ) → until ≡ max h.until (number + 1) → clears ≡ h.clears ++ number ∷ []
    → IsHeld h → h.from ≤ number → number < 2 ^ 63 → All (λ n. n < number) h.clears → IsHeld (record { from = h.from; until = until; versions = h.versions; clears = clears })
clear_put number h until clears u v held from small last =
    subst (λ (n : ℕ). IsHeld (record { from = h.from; until = n; versions = h.versions; clears = clears })) (sym u)
    (subst (λ (ns : List ℕ). IsHeld (record { from = h.from; until = max h.until (number + 1); versions = h.versions; clears = ns })) (sym v)
    (clear_held number h held from small last))
