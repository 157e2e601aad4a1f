-- Tables of which some are taken away, and others put in.
use Rattle.std.proofs.Common.{◌≡◌, ℕ, zero, suc, List, [], ◌∷◌, ◌++◌, take, drop, refl, sym, ap, ◌∙◌, append_assoc}
use Rattle.std.specs.List.{All, list_any}
use Rattle.std.proofs.lemmas.List.Concat.{flat_map-append}
use Rattle.std.proofs.lemmas.Bool.{or_parts}
use Rattle.std.proofs.lemmas.List.Folds.{list_any-append}
use Rattle.fjall_base.specs.Disk.{Meaning}
use Rattle.fjall_table.specs.Blocks.{Entry, IsOrdered}
use Rattle.fjall_memtable.specs.Jobs.{OnceEach, Same, is_at}
use Rattle.fjall_memtable.proofs.Sameness.{all_among, among_has, is}
use Rattle.fjall_memtable.specs.Sorted.{flat}
use Rattle.fjall_memtable.proofs.Sorting.{chain_of}
use Rattle.fjall_table_reader.specs.Readers.{AreRead, Reader}
use Rattle.fjall_memtable.proofs.Onces.{chain_once}

-- ---- readers

pub read_both : (disk : Meaning) (ts us : List Reader) (ess fss : List (List Entry)) → AreRead disk ts ess → AreRead disk us fss → AreRead disk (ts ++ us) (ess ++ fss)
read_both disk [] us [] fss r s = s
read_both disk [] us (es ∷ ess) fss r s = absurd r
read_both disk (t ∷ ts) us [] fss r s = absurd r
read_both disk (t ∷ ts) us (es ∷ ess) fss r s = (r.0, read_both disk ts us ess fss r.1 s)

pub read_dropped : (disk : Meaning) (n : ℕ) (ts : List Reader) (ess : List (List Entry)) → AreRead disk ts ess → AreRead disk (drop n ts) (drop n ess)
read_dropped disk zero ts ess r = r
read_dropped disk (suc n) [] [] r = r
read_dropped disk (suc n) [] (es ∷ ess) r = absurd r
read_dropped disk (suc n) (t ∷ ts) [] r = absurd r
read_dropped disk (suc n) (t ∷ ts) (es ∷ ess) r = read_dropped disk n ts ess r.1

-- ---- versions

pub flat_both : (xss yss : List (List Entry)) → flat (xss ++ yss) ≡ flat xss ++ flat yss
flat_both xss yss = flat_map-append (λ (run : List Entry). run) xss yss

pub flat_parted : (n : ℕ) (xss : List (List Entry)) → flat xss ≡ flat (take n xss) ++ flat (drop n xss)
flat_parted zero xss = refl
flat_parted (suc n) [] = refl
flat_parted (suc n) (xs ∷ xss) = ap (λ (l : List Entry). xs ++ l) (flat_parted n xss) ∙ sym (append_assoc xs (flat (take n xss)) (flat (drop n xss)))

-- what holds of each of some versions holds of each of the same
pub all_same : (P : Entry → Type 0) (xs ys : List Entry) → Same xs ys → All P ys → All P xs
all_same P xs ys same all = all_among P xs (λ v here. among_has P ys v (sym (same (is v)) ∙ here) all)

-- and of those that are kept of them
pub ordered_once : (xs : List Entry) → IsOrdered xs → OnceEach xs
ordered_once xs up = chain_once xs (chain_of xs up)

pub once_behind : (xs ys : List Entry) → OnceEach (xs ++ ys) → OnceEach ys
once_behind [] ys once = once
once_behind (x ∷ xs) ys once = once_behind xs ys once.1

pub once_front : (xs ys : List Entry) → OnceEach (xs ++ ys) → OnceEach xs
once_front [] ys once = tt
once_front (x ∷ xs) ys once = ((or_parts (list_any (is_at x) xs) (list_any (is_at x) ys) (sym (list_any-append (is_at x) xs ys) ∙ once.0)).0, once_front xs ys once.1)
