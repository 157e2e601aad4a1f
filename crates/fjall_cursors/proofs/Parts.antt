-- Parts of tables that are gone through block by block.
use Rattle.std.proofs.Common.{◌≡◌, ℕ, zero, suc, ◌+◌, ◌-◌, ◌<◌, ◌≤◌, Bool, IsTrue, true, false, List, [], ◌∷◌, ◌++◌, length, take, drop, reverse, slice_get, Some, refl, sym, ap, subst, ◌∙◌, ◌⊎◌, inl, inr, arith}
use Rattle.std.proofs.lemmas.List.{length-reverse, length-take-le, reverse-append}
use Rattle.std.proofs.lemmas.Option.{slice_get_past}
use Rattle.std.proofs.lemmas.List.Elements.{filter-append}
use Rattle.std.proofs.lemmas.List.Concat.{flat_map-cons}
use Rattle.fjall_base.specs.Disk.{Meaning}
use Rattle.fjall_base.specs.Pairs.{KeyRange, is_within}
use Rattle.fjall_table.specs.Blocks.{Entry}
use Rattle.fjall_table.specs.Tables.{entries_of, entries_within}
use Rattle.fjall_table.proofs.TableBlocks.{entries_joined}
use Rattle.fjall_table_reader.specs.Readers.{IsSameTable, LooksOn, Reader, ReadsBlocks}
use Rattle.fjall_table_reader.proofs.Readers.{looks_again, same_again}
use Rattle.fjall_memtable.specs.Sorted.{in_turn}
use Rattle.fjall_cursors.specs.Parts.{Ahead, IsDryPart, TablePart, behind, blocks_ahead, held_in, next_block, still_to_come, without_next}

-- ---- one entry less

drop_more : {A : Type 0} (n : ℕ) (xs : List A) → drop (n + 1) xs ≡ drop 1 (drop n xs)
drop_more zero xs = refl
drop_more (suc n) [] = ap (λ (k : ℕ). drop k []) (plus n)
  where
    plus : (n : ℕ) → suc n + 1 ≡ suc (n + 1)
    plus n = omega arith
drop_more (suc n) (x ∷ xs) = ap (λ (k : ℕ). drop k (x ∷ xs)) (plus n) ∙ drop_more n xs
  where
    plus : (n : ℕ) → suc n + 1 ≡ suc (n + 1)
    plus n = omega arith

take_less : {A : Type 0} (m : ℕ) (xs : List A) → take m (drop 1 xs) ≡ drop 1 (take (suc m) xs)
take_less zero [] = refl
take_less (suc m) [] = refl
take_less m (x ∷ xs) = refl

-- the first entry is passed over
pub less_in_front : {A : Type 0} (es : List A) (start end : ℕ) → start < end → take (end - (start + 1)) (drop (start + 1) es) ≡ drop 1 (take (end - start) (drop start es))
less_in_front es start end lt =
    let m = end - (start + 1) in
    let e : end - start ≡ suc m = omega (arith, lt) in
    ap (take m) (drop_more start es) ∙ take_less m (drop start es) ∙ ap (λ (k : ℕ). drop 1 (take k (drop start es))) (sym e)

-- one more of a list
one_more : {A : Type 0} (m : ℕ) (xs : List A) → m < length xs → (x : A) × (take (suc m) xs ≡ take m xs ++ x ∷ [])
one_more m [] lt = absurd (omega (arith, lt))
one_more zero (x ∷ xs) lt = (x, refl)
one_more (suc m) (x ∷ xs) lt = let h = one_more m xs (omega (arith, lt)) in (h.0, ap (λ (ys : List _). x ∷ ys) h.1)

length_left : {A : Type 0} (n : ℕ) (xs : List A) → length (drop n xs) ≡ length xs - n
length_left zero xs = omega arith
length_left (suc n) [] = omega arith
length_left (suc n) (x ∷ xs) = let h = length_left n xs in omega (arith, h)

-- the last entry is passed over, from behind
pub less_behind : {A : Type 0} (es : List A) (start end : ℕ) → start < end → end ≤ length es → reverse (take (end - 1 - start) (drop start es)) ≡ drop 1 (reverse (take (end - start) (drop start es)))
less_behind es start end lt le =
    let m = end - 1 - start in
    let e : end - start ≡ suc m = omega (arith, lt) in
    let l = length_left start es in
    let h = one_more m (drop start es) (omega (arith, l, lt, le)) in
    sym (ap (λ (k : ℕ). drop 1 (reverse (take k (drop start es)))) e ∙ ap (λ (ys : List _). drop 1 (reverse ys)) h.1 ∙ ap (drop 1) (reverse-append (take m (drop start es)) (h.0 ∷ [])))

-- ---- one block more

-- the block at a place, and those behind it
got_here : {A : Type 0} (blocks : List A) (n : ℕ) (b : A) → slice_get blocks n ≡ Some b → drop n blocks ≡ b ∷ drop (n + 1) blocks
got_here [] n b e = absurd (cc e)
got_here (x ∷ xs) zero b e = let same : x ≡ b = cc e in ap (λ (y : _). y ∷ xs) same
got_here (x ∷ xs) (suc n) b e = got_here xs n b e ∙ ap (λ (k : ℕ). b ∷ drop k (x ∷ xs)) (plus n)
  where
    plus : (n : ℕ) → suc (n + 1) ≡ suc n + 1
    plus n = omega arith

first_block : {A : Type 0} (blocks : List A) (next last : ℕ) (b : A) → next < last → slice_get blocks next ≡ Some b → take (last - next) (drop next blocks) ≡ b ∷ take (last - (next + 1)) (drop (next + 1) blocks)
first_block blocks next last b lt here =
    let m = last - (next + 1) in
    let e : last - next ≡ suc m = omega (arith, lt) in
    ap (λ (k : ℕ). take k (drop next blocks)) e ∙ ap (take (suc m)) (got_here blocks next b here)

taken_here : {A : Type 0} (xs : List A) (m : ℕ) (b : A) → slice_get xs m ≡ Some b → take (suc m) xs ≡ take m xs ++ b ∷ []
taken_here [] m b e = absurd (cc e)
taken_here (x ∷ xs) zero b e = let same : x ≡ b = cc e in ap (λ (y : _). y ∷ []) same
taken_here (x ∷ xs) (suc m) b e = ap (λ (ys : List _). x ∷ ys) (taken_here xs m b e)

got_behind : {A : Type 0} (xs : List A) (n m : ℕ) → slice_get (drop n xs) m ≡ slice_get xs (n + m)
got_behind xs zero m = ap (slice_get xs) (zero_plus m)
  where
    zero_plus : (m : ℕ) → m ≡ 0 + m
    zero_plus m = omega arith
got_behind [] (suc n) m = slice_get_past [] m (omega arith) ∙ sym (slice_get_past [] (suc n + m) (omega arith))
got_behind (x ∷ xs) (suc n) m = got_behind xs n m ∙ ap (λ (k : ℕ). slice_get (x ∷ xs) k) (plus n m)
  where
    plus : (n m : ℕ) → suc (n + m) ≡ suc n + m
    plus n m = omega arith

last_block : {A : Type 0} (blocks : List A) (next last : ℕ) (b : A) → next < last → slice_get blocks (last - 1) ≡ Some b → take (last - next) (drop next blocks) ≡ take (last - 1 - next) (drop next blocks) ++ b ∷ []
last_block blocks next last b lt here =
    let m = last - 1 - next in
    let e : last - next ≡ suc m = omega (arith, lt) in
    let at : next + m ≡ last - 1 = omega (arith, lt) in
    ap (λ (k : ℕ). take k (drop next blocks)) e ∙ taken_here (drop next blocks) m b (got_behind blocks next m ∙ ap (slice_get blocks) at ∙ here)

-- what the next block has between the bounds, and what is behind it then
pub block_more : (range : KeyRange) (blocks : List (List Entry)) (a : Ahead) (b : List Entry) → a.next < a.last → slice_get blocks (next_block a) ≡ Some b
    → in_turn a.back (entries_within range b) ++ behind range blocks (without_next a) ≡ behind range blocks a
block_more range blocks a b lt = by a.back
  where
    by : (back : Bool) → slice_get blocks (next_block (record { next = a.next; last = a.last; back = back })) ≡ Some b
        → in_turn back (entries_within range b) ++ behind range blocks (without_next (record { next = a.next; last = a.last; back = back })) ≡ behind range blocks (record { next = a.next; last = a.last; back = back })
    by false here =
        let rest = take (a.last - (a.next + 1)) (drop (a.next + 1) blocks) in
        sym (ap (λ (bs : List (List Entry)). entries_within range (entries_of bs)) (first_block blocks a.next a.last b lt here)
        ∙ ap (entries_within range) (flat_map-cons (λ block. block) b rest)
        ∙ filter-append (λ e. is_within range e.key) b (entries_of rest))
    by true here =
        let rest = take (a.last - 1 - a.next) (drop a.next blocks) in
        sym (ap (λ (bs : List (List Entry)). reverse (entries_within range (entries_of bs))) (last_block blocks a.next a.last b lt here)
        ∙ ap (λ (es : List Entry). reverse (entries_within range es)) (entries_joined rest b)
        ∙ ap (λ (es : List Entry). reverse es) (filter-append (λ e. is_within range e.key) (entries_of rest) b)
        ∙ reverse-append (entries_within range (entries_of rest)) (entries_within range b))

-- ---- filling

-- The run stands for the same as at first, of the same table; and it went on where a block was read.
pub record Filling (honest : Bool) (old new : Meaning) (before after : Reader) (range : KeyRange) (first now : TablePart) : Type 0 where
  pub table : IsSameTable before after
  pub disk : LooksOn honest old new
  pub reads : IsTrue honest → (blocks : List (List Entry)) → ReadsBlocks old before blocks → ReadsBlocks new after blocks
  pub stands : IsTrue honest → (blocks : List (List Entry)) → ReadsBlocks old before blocks → still_to_come range blocks now ≡ still_to_come range blocks first
  pub back : now.ahead.back ≡ first.ahead.back
  pub end : now.ahead.last ≤ first.ahead.last
  pub moved : (now ≡ first) ⊎ (blocks_ahead now.ahead < blocks_ahead first.ahead)

-- with one block less to come there are fewer
fewer_by : (a : Ahead) → a.next < a.last → (blocks_ahead (without_next a) < blocks_ahead a) × ((without_next a).last ≤ a.last)
fewer_by a lt = by a.back
  where
    by : (back : Bool) → (blocks_ahead (without_next (record { next = a.next; last = a.last; back = back })) < a.last - a.next) × ((without_next (record { next = a.next; last = a.last; back = back })).last ≤ a.last)
    by false = (omega (arith, lt), omega arith)
    by true = (omega (arith, lt), omega arith)

nothing_turned : (back : Bool) (held : List Entry) → held ≡ [] → in_turn back held ≡ []
nothing_turned false held e = e
nothing_turned true held e = ap (λ (es : List Entry). reverse es) e

-- nothing stands between places that are the same, from either end, and something between others
length_turned : (back : Bool) (held : List Entry) → length (in_turn back held) ≡ length held
length_turned false held = refl
length_turned true held = length-reverse held

pub nothing_held : (back : Bool) (es : List Entry) (start end : ℕ) → start ≡ end → in_turn back (held_in es start end) ≡ []
nothing_held back es start end same =
    let none : end - start ≡ 0 = omega (arith, same) in
    nothing_turned back (held_in es start end) (ap (λ (n : ℕ). take n (drop start es)) none)

pub places_meet : (back : Bool) (es : List Entry) (start end : ℕ) → start ≤ end → end ≤ length es → in_turn back (held_in es start end) ≡ [] → start ≡ end
places_meet back es start end le within none =
    let left = length_left start es in
    let held = length-take-le (end - start) (drop start es) (omega (arith, left, within)) in
    let turned = length_turned back (held_in es start end) in
    let zero : length (in_turn back (held_in es start end)) ≡ 0 = ap (λ (xs : List Entry). length xs) none in
    omega (arith, held, turned, zero, le)

-- what was dry holds the next block's entries now
holds_more : (range : KeyRange) (blocks : List (List Entry)) (old new : TablePart) (b : List Entry) → IsDryPart old → slice_get blocks (next_block old.ahead) ≡ Some b
    → new.held ≡ entries_within range b → new.ahead ≡ without_next old.ahead → still_to_come range blocks new ≡ still_to_come range blocks old
holds_more range blocks old new b dry here held ahead =
    ap (λ (a : Ahead). in_turn a.back new.held ++ behind range blocks a) ahead
    ∙ ap (λ (es : List Entry). in_turn old.ahead.back es ++ behind range blocks (without_next old.ahead)) held
    ∙ block_more range blocks old.ahead b dry.1 here
    ∙ ap (λ (es : List Entry). es ++ behind range blocks old.ahead) (sym (nothing_turned old.ahead.back old.held dry.0))

pub filling_more : (honest : Bool) (old mid new : Meaning) (before mid_reader after : Reader) (range : KeyRange) (first part now : TablePart) (b : List Entry) → Filling honest old mid before mid_reader range first part
    → IsDryPart part → IsSameTable mid_reader after → LooksOn honest mid new
    → (IsTrue honest → (blocks : List (List Entry)) → ReadsBlocks mid mid_reader blocks → ReadsBlocks new after blocks)
    → (IsTrue honest → (blocks : List (List Entry)) → ReadsBlocks mid mid_reader blocks → slice_get blocks (next_block part.ahead) ≡ Some b)
    → now.held ≡ entries_within range b → now.ahead ≡ without_next part.ahead
    → Filling honest old new before after range first now
filling_more honest old mid new before mid_reader after range first part now b f dry same looks reads block held ahead =
    let few = fewer_by part.ahead dry.1 in
    let less : blocks_ahead now.ahead < blocks_ahead part.ahead = subst (λ (a : Ahead). blocks_ahead a < blocks_ahead part.ahead) (sym ahead) few.0 in
    let ends : now.ahead.last ≤ part.ahead.last = subst (λ (a : Ahead). a.last ≤ part.ahead.last) (sym ahead) few.1 in
    record {
      table = same_again before mid_reader after f.table same;
      disk = looks_again honest old mid new f.disk looks;
      reads = λ h blocks r. reads h blocks (f.reads h blocks r);
      stands = λ h blocks r. holds_more range blocks part now b dry (block h blocks (f.reads h blocks r)) held ahead ∙ f.stands h blocks r;
      back = ap (λ (a : Ahead). a.back) ahead ∙ f.back;
      end = let e = f.end in omega (arith, e, ends);
      moved = inr (elim f.moved [
        | inl same ↦ subst (λ (p : TablePart). blocks_ahead now.ahead < blocks_ahead p.ahead) same less
        | inr fewer ↦ omega (arith, less, fewer)
      ]);
    }

-- the next block is one of the table's
pub next_within : (a : Ahead) (end : ℕ) → a.next < a.last → a.last ≤ end → next_block a < end
next_within a end lt le = by a.back
  where
    by : (back : Bool) → next_block (record { next = a.next; last = a.last; back = back }) < end
    by false = omega (arith, lt, le)
    by true = omega (arith, lt, le)

-- ---- one entry less of a part

pub skipped_behind : (back : Bool) (es : List Entry) (start end : ℕ) → back ≡ true → start < end → end ≤ length es → in_turn back (held_in es start (end - 1)) ≡ drop 1 (in_turn back (held_in es start end))
skipped_behind true es start end e lt le = less_behind es start end lt le
skipped_behind false es start end e lt le = absurd (cc e)

pub skipped_in_front : (back : Bool) (es : List Entry) (start end : ℕ) → back ≡ false → start < end → in_turn back (held_in es (start + 1) end) ≡ drop 1 (in_turn back (held_in es start end))
skipped_in_front false es start end e lt = less_in_front es start end lt
skipped_in_front true es start end e lt = absurd (cc e)
