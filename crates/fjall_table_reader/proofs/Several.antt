-- Lists of readers, one of which changes.
use Rattle.std.proofs.Common.{◌≡◌, ℕ, zero, suc, ◌+◌, ◌<◌, ◌≤◌, Bool, IsTrue, List, [], ◌∷◌, length, map, set, slice_get, get_or, Some, refl, sym, ap, subst, ◌∙◌, add-one, arith}
use Rattle.std.proofs.lemmas.List.Sums.{sum_by-cons}
use Rattle.fjall_base.specs.Disk.{Meaning}
use Rattle.fjall_base.proofs.Codecs.{some_is}
use Rattle.fjall_table.specs.Blocks.{Entry, IsOrdered}
use Rattle.fjall_table_reader.specs.Readers.{AreRead, AreSameTables, IsSameTable, LooksOn, Reader, Reads, aged, all_aged, all_unread, kept_size, kept_sizes, unread}
use Rattle.fjall_table_reader.proofs.Readers.{none_got, none_size, reads_on, same_again, same_none}

-- ---- the first ones changed alike

abbrev pub first_changed : (Reader → Reader) → ℕ → List Reader → List Reader
first_changed f zero ts = ts
first_changed f (suc n) [] = []
first_changed f (suc n) (t ∷ ts) = f t ∷ first_changed f n ts

-- one more
pub changed_more : (f : Reader → Reader) (n : ℕ) (ts : List Reader) (t u d : Reader) → n < length ts → t ≡ get_or (first_changed f n ts) n d → u ≡ f t → set (first_changed f n ts) n u ≡ first_changed f (n + 1) ts
changed_more f n ts t u d lt is e = next n ts lt is ∙ ap (λ (k : ℕ). first_changed f k ts) (sym (add-one n))
  where
    next : (n : ℕ) (ts : List Reader) → n < length ts → t ≡ get_or (first_changed f n ts) n d → set (first_changed f n ts) n u ≡ first_changed f (suc n) ts
    next n [] lt is = absurd (omega arith)
    next zero (x ∷ ts) lt is = ap (λ (y : Reader). y ∷ ts) (e ∙ ap f is)
    next (suc n) (x ∷ ts) lt is = ap (λ (ys : List Reader). f x ∷ ys) (next n ts (omega arith) is)

-- all of them
pub changed_all : (f : Reader → Reader) (n : ℕ) (ts : List Reader) → length ts ≤ n → first_changed f n ts ≡ map f ts
changed_all f zero [] le = refl
changed_all f zero (t ∷ ts) le = absurd (omega arith)
changed_all f (suc n) [] le = refl
changed_all f (suc n) (t ∷ ts) le = ap (λ (ys : List Reader). f t ∷ ys) (changed_all f n ts (omega arith))

-- ---- places

pub got : {A : Type 0} (xs : List A) (i : ℕ) (x d : A) → i < length xs → x ≡ get_or xs i d → slice_get xs i ≡ Some x
got [] i x d lt is = absurd (omega arith)
got (y ∷ xs) zero x d lt is = ap (λ z. Some z) (sym is)
got (y ∷ xs) (suc i) x d lt is = got xs i x d (omega arith) is

-- what the reader at a place reads
pub read_at : (disk : Meaning) (ts : List Reader) (ess : List (List Entry)) (at : ℕ) (t : Reader) → AreRead disk ts ess → slice_get ts at ≡ Some t
    → (es : List Entry) × (slice_get ess at ≡ Some es) × Reads disk t es
read_at disk [] ess at t r is = absurd cc
read_at disk (x ∷ ts) [] at t r is = absurd r
read_at disk (x ∷ ts) (es ∷ ess) zero t r is = (es, refl, subst (λ (u : Reader). Reads disk u es) (some_is x t is) r.0)
read_at disk (x ∷ ts) (es ∷ ess) (suc at) t r is = read_at disk ts ess at t r.1 is

-- and with another reader of the same entries there
pub read_set : (disk : Meaning) (ts : List Reader) (ess : List (List Entry)) (at : ℕ) (t : Reader) (es : List Entry) → AreRead disk ts ess → slice_get ess at ≡ Some es → Reads disk t es
    → AreRead disk (set ts at t) ess
read_set disk [] ess at t es r is new = r
read_set disk (x ∷ ts) [] at t es r is new = absurd r
read_set disk (x ∷ ts) (fs ∷ ess) zero t es r is new = (subst (λ (gs : List Entry). Reads disk t gs) (sym (some_is fs es is)) new, r.1)
read_set disk (x ∷ ts) (fs ∷ ess) (suc at) t es r is new = (r.0, read_set disk ts ess at t es r.1 is new)

-- there are as many readers as lists of entries
pub length_read : (disk : Meaning) (ts : List Reader) (ess : List (List Entry)) → AreRead disk ts ess → length ts ≡ length ess
length_read disk [] [] r = refl
length_read disk [] (es ∷ ess) r = absurd r
length_read disk (t ∷ ts) [] r = absurd r
length_read disk (t ∷ ts) (es ∷ ess) r = let e = length_read disk ts ess r.1 in omega arith

-- readers of a disk that was only looked at read the same
pub all_read_on : (honest : Bool) (old new : Meaning) (ts : List Reader) (ess : List (List Entry)) → LooksOn honest old new → IsTrue honest → AreRead old ts ess → AreRead new ts ess
all_read_on honest old new [] [] looks h r = tt
all_read_on honest old new [] (es ∷ ess) looks h r = r
all_read_on honest old new (t ∷ ts) [] looks h r = r
all_read_on honest old new (t ∷ ts) (es ∷ ess) looks h r = (
  record { blocks = r.0.blocks; all = r.0.all; reads = reads_on honest old new t r.0.blocks looks h r.0.reads },
  all_read_on honest old new ts ess looks h r.1,
)

-- the entries that a reader reads are in order
pub read_ordered : (disk : Meaning) (t : Reader) (es : List Entry) → Reads disk t es → IsOrdered es
read_ordered disk t es r = subst IsOrdered (sym r.all) r.reads.table.are.ordered

-- ---- the same tables

pub all_same_none : (ts : List Reader) → AreSameTables ts ts
all_same_none [] = tt
all_same_none (t ∷ ts) = (same_none t, all_same_none ts)

pub same_at : (old new : List Reader) (at : ℕ) (u : Reader) → AreSameTables old new → slice_get new at ≡ Some u → (t : Reader) × (slice_get old at ≡ Some t) × IsSameTable t u
same_at [] [] at u same is = absurd cc
same_at [] (y ∷ new) at u same is = absurd same
same_at (x ∷ old) [] at u same is = absurd same
same_at (x ∷ old) (y ∷ new) zero u same is = (x, refl, subst (λ (z : Reader). IsSameTable x z) (some_is y u is) same.0)
same_at (x ∷ old) (y ∷ new) (suc at) u same is = same_at old new at u same.1 is

pub same_set : (old new : List Reader) (at : ℕ) (u v : Reader) → AreSameTables old new → slice_get new at ≡ Some u → IsSameTable u v → AreSameTables old (set new at v)
same_set [] [] at u v same is next = tt
same_set [] (y ∷ new) at u v same is next = absurd same
same_set (x ∷ old) [] at u v same is next = absurd same
same_set (x ∷ old) (y ∷ new) zero u v same is next = (same_again x y v same.0 (subst (λ (z : Reader). IsSameTable z v) (sym (some_is y u is)) next), same.1)
same_set (x ∷ old) (y ∷ new) (suc at) u v same is next = (same.0, same_set old new at u v same.1 is next)

-- ---- readers that keep nothing

unread_reads : (disk : Meaning) (t : Reader) (es : List Entry) → Reads disk t es → Reads disk (unread t.name t.info t.handles) es
unread_reads disk t es r = record {
  blocks = r.blocks;
  all = r.all;
  reads = record { table = r.reads.table; index = r.reads.index; kept = (λ at vs e. absurd (none_got t.handles at vs e), λ at vs e. absurd (none_got t.handles at vs e)) };
}

-- read what they read before
pub all_unread_read : (disk : Meaning) (ts : List Reader) (ess : List (List Entry)) → AreRead disk ts ess → AreRead disk (all_unread ts) ess
all_unread_read disk [] [] r = tt
all_unread_read disk [] (es ∷ ess) r = r
all_unread_read disk (t ∷ ts) [] r = r
all_unread_read disk (t ∷ ts) (es ∷ ess) r = (unread_reads disk t es r.0, all_unread_read disk ts ess r.1)

-- are the same tables
pub all_unread_same : (old new : List Reader) → AreSameTables old new → AreSameTables old (all_unread new)
all_unread_same [] [] same = tt
all_unread_same [] (u ∷ new) same = same
all_unread_same (t ∷ old) [] same = same
all_unread_same (t ∷ old) (u ∷ new) same = (record { name = same.0.name; info = same.0.info; handles = same.0.handles }, all_unread_same old new same.1)

-- and count for nothing
pub all_unread_size : (ts : List Reader) → kept_sizes (all_unread ts) ≡ 0
all_unread_size [] = refl
all_unread_size (t ∷ ts) = omega (arith, sum_by-cons kept_size (unread t.name t.info t.handles) (all_unread ts), none_size t.handles, all_unread_size ts)

-- ---- readers whose older blocks go

-- they read what they read before
pub all_aged_read : (disk : Meaning) (ts : List Reader) (ess : List (List Entry)) → AreRead disk ts ess → AreRead disk (all_aged ts) ess
all_aged_read disk [] [] r = tt
all_aged_read disk [] (es ∷ ess) r = r
all_aged_read disk (t ∷ ts) [] r = r
all_aged_read disk (t ∷ ts) (es ∷ ess) r = (aged_reads t es r.0, all_aged_read disk ts ess r.1)
  where
    aged_reads : (t : Reader) (es : List Entry) → Reads disk t es → Reads disk (aged t) es
    aged_reads t es r = record {
      blocks = r.blocks;
      all = r.all;
      reads = record { table = r.reads.table; index = r.reads.index; kept = (λ at vs e. absurd (none_got t.handles at vs e), r.reads.kept.0) };
    }

-- and are the same tables
pub all_aged_same : (old new : List Reader) → AreSameTables old new → AreSameTables old (all_aged new)
all_aged_same [] [] same = tt
all_aged_same [] (u ∷ new) same = same
all_aged_same (t ∷ old) [] same = same
all_aged_same (t ∷ old) (u ∷ new) same = (record { name = same.0.name; info = same.0.info; handles = same.0.handles }, all_aged_same old new same.1)
