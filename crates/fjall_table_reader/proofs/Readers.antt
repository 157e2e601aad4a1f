-- Readers of tables: what they keep, and what they find.
use Rattle.std.proofs.Common.{◌≡◌, ℕ, zero, suc, ◌+◌, ◌-◌, ◌<◌, ◌≤◌, ◌^◌, min, Bool, IsTrue, List, [], ◌∷◌, ◌++◌, length, take, drop, map, set, slice_get, Option, Some, None, IfSome, refl, sym, ap, subst, ◌∙◌, arith, ◌⊎◌, inl, inr, ◌&&◌, true, false, get_or, replicate, nat_lt, unwrap_or}
use Rattle.std.specs.List.{sum_by}
use Rattle.std.proofs.lemmas.List.{append-nil, length-map, length-set}
use Rattle.std.proofs.lemmas.List.Sums.{sum_by-cons}
use Rattle.std.proofs.lemmas.List.Elements.{filter-append}
use Rattle.fjall_base.specs.Disk as disk
use Rattle.fjall_base.specs.Disk.{DiskState, IsFile, Meaning, Took, state_in}
use Rattle.fjall_base.proofs.Codecs.{just, some_is}
use Rattle.fjall_table.specs.declared.table_info.TableInfo.{TableInfo}
use Rattle.fjall_table.specs.Blocks.{Entry}
use Rattle.fjall_table.specs.Tables.{Handle, Ascend, HasIndex, entries_of, handles_of, versions_at}
use Rattle.fjall_table.specs.TableReading.{blocks_below, blocks_up_to}
use Rattle.fjall_table_reader.specs.Files.{HoldsBlock, HoldsNoBlock, HoldsTable, IsTableOf, bytes_in, entry_at}
use Rattle.std.specs.Option.{option_map}
use Rattle.std.specs.Str.{bytes_eq}
use Rattle.std.proofs.lemmas.Bool.{cases_Bool}
use Rattle.std.proofs.lemmas.Slice.Eq.{bytes_eq-Decides}
use Rattle.fjall_table.proofs.TableReading.{got, got_map}
use Rattle.fjall_table.proofs.Lookups.{fails, wanted}
use Rattle.fjall_table.proofs.TableBlocks.{blocks_in, entries_joined, more_taken, one_index, parts_of, read_is, some_at, stands_at, table_has}
use Rattle.fjall_table_reader.specs.Finds.{IsFound, entry_found}
use Rattle.fjall_table_reader.specs.declared.found.Found.{Found}
use Rattle.fjall_table_reader.specs.Readers.{AreOf, HoldsAWrongBlock, HoldsAWrongBlockFor, IsCountedReader, IsSameTable, IsTableBut, LooksOn, Reader, Reads, ReadsBlocks, SomeTableIsWrong, SomeTableIsWrongFor, aged, block_size, keeping, none_kept, renewing, size_at, unread}
use Rattle.fjall_table_reader.proofs.Spans.{block_of, versions_before, versions_behind}

-- ---- a table all of whose blocks are right

pub but_none : (entry : disk.DiskEntry) (info : TableInfo) (entries : List Entry) → IsFile entry → IsTableOf info (bytes_in entry) entries → (blocks : List (List Entry)) × (entries ≡ entries_of blocks) × IsTableBut entry info blocks
but_none entry info entries file is =
    let t = is.table in
    let bytes = bytes_in entry in
    let o = blocks_in bytes entries t in
    let count : info.entry_count ≡ length (entries_of t.blocks) = is.count ∙ ap length t.all in
    let index = table_has bytes t.blocks t.are t.text t.fits in (
      t.blocks,
      t.all,
      record {
        file = file;
        len = is.len;
        are = t.are;
        count = count;
        index = subst (λ (n : ℕ). HasIndex bytes (handles_of 0 t.blocks) n) (sym count) index;
        right = λ at h block vs hh hb holds. some_is vs block (sym (read_is bytes t.blocks at h vs o (stands_at bytes (handles_of 0 t.blocks) (length (entries_of t.blocks)) t.blocks at h index o hh) holds) ∙ hb);
      },
    )

-- ---- a call that only looks at a disk

pub still : (honest : Bool) (old new : Meaning) → LooksOn honest old new → IsTrue honest → state_in new ≡ state_in old
still honest old new looks t = (looks.same t).state

took_none : (old mid new : Meaning) → Took old mid [] → Took mid new [] → Took old new []
took_none old mid new a b = record { state = b.state ∙ a.state; steps = b.steps ∙ append-nil mid.steps ∙ a.steps }

pub looks_none : (honest : Bool) (old : Meaning) → LooksOn honest old old
looks_none honest old = record { same = λ t. record { state = refl; steps = sym (append-nil old.steps) }; served = λ t. refl; later = le_itself old.faults }
  where
    le_itself : (n : ℕ) → n ≤ n
    le_itself n = omega arith

pub looks_again : (honest : Bool) (old mid new : Meaning) → LooksOn honest old mid → LooksOn honest mid new → LooksOn honest old new
looks_again honest old mid new a b = record {
  same = λ t. took_none old mid new (a.same t) (b.same t);
  served = λ t. b.served t ∙ a.served t;
  later = let l = a.later in let m = b.later in omega arith;
}

pub same_none : (t : Reader) → IsSameTable t t
same_none t = record { name = refl; info = refl; handles = refl }

pub same_again : (s t u : Reader) → IsSameTable s t → IsSameTable t u → IsSameTable s u
same_again s t u a b = record { name = b.name ∙ a.name; info = b.info ∙ a.info; handles = b.handles ∙ a.handles }

-- ---- what a reader keeps

pub reads_later : (old new : Meaning) (t : Reader) (blocks : List (List Entry)) → state_in new ≡ state_in old → ReadsBlocks old t blocks → ReadsBlocks new t blocks
reads_later old new t blocks same r = record { table = subst (λ (s : DiskState). IsTableBut (s t.name).now t.info blocks) (sym same) r.table; index = r.index; kept = r.kept }

pub reads_on : (honest : Bool) (old new : Meaning) (t : Reader) (blocks : List (List Entry)) → LooksOn honest old new → IsTrue honest → ReadsBlocks old t blocks → ReadsBlocks new t blocks
reads_on honest old new t blocks looks honestly r = reads_later old new t blocks (still honest old new looks honestly) r

-- a right block is the table's
pub read_right : (disk : Meaning) (t : Reader) (blocks : List (List Entry)) (at : ℕ) (vs : List Entry) → ReadsBlocks disk t blocks → at < length t.handles → IfSome (slice_get t.handles at) (HoldsBlock (entry_at disk t.name) vs) → slice_get blocks at ≡ Some vs
read_right disk t blocks at vs r lt is =
    let g = some_at t.handles at lt in
    let here = ap (λ (hs : List Handle). slice_get hs at) (sym r.index) ∙ g.1 in
    let b = block_of 0 blocks at g.0 here in
    let holds = subst (λ (o : Option Handle). IfSome o (HoldsBlock (entry_at disk t.name) vs)) g.1 is in
    b.here ∙ ap (λ (v : List Entry). just v) (sym (r.table.right at g.0 b.block vs here b.here holds))

set_got : {A : Type 0} (xs : List A) (i : ℕ) (y : A) (j : ℕ) (z : A) → slice_get (set xs i y) j ≡ Some z → ((i ≡ j) × (y ≡ z)) ⊎ (slice_get xs j ≡ Some z)
set_got [] i y j z e = inr e
set_got (x ∷ xs) zero y zero z e = inl (refl, some_is y z e)
set_got (x ∷ xs) zero y (suc j) z e = inr e
set_got (x ∷ xs) (suc i) y zero z e = inr e
set_got (x ∷ xs) (suc i) y (suc j) z e = elim (set_got xs i y j z e) [ inl h ↦ inl (ap suc h.0, h.1) | inr h ↦ inr h ]

set_of : (blocks : List (List Entry)) (kept : List (Option (List Entry))) (at : ℕ) (o : Option (List Entry)) → AreOf blocks kept → ((vs : List Entry) → o ≡ Some vs → slice_get blocks at ≡ Some vs) → AreOf blocks (set kept at o)
set_of blocks kept at o are is j vs e = elim (set_got kept at o j (just vs) e) [
  | inl h ↦ ap (slice_get blocks) (sym h.0) ∙ is vs h.1
  | inr h ↦ are j vs h
]

-- a block of the table more
pub kept_too : (disk : Meaning) (t : Reader) (blocks : List (List Entry)) (at : ℕ) (block : List Entry) → ReadsBlocks disk t blocks → slice_get blocks at ≡ Some block → ReadsBlocks disk (keeping at block t) blocks
kept_too disk t blocks at block r here = record {
  table = r.table;
  index = r.index;
  kept = (set_of blocks t.recent at (just block) r.kept.0 (λ vs e. here ∙ ap (λ (v : List Entry). just v) (some_is block vs e)), r.kept.1);
}

older_here : (o : Option (Option (List Entry))) (vs : List Entry) → unwrap_or o None ≡ Some vs → o ≡ Some (Some vs)
older_here None vs e = absurd cc
older_here (Some o) vs e = ap (λ (p : Option (List Entry)). just p) e

-- an older one that is recent from then on
pub renewed_reads : (disk : Meaning) (t u : Reader) (blocks : List (List Entry)) (at : ℕ) → u ≡ renewing at t → ReadsBlocks disk t blocks → ReadsBlocks disk u blocks
renewed_reads disk t u blocks at is r = subst (λ (v : Reader). ReadsBlocks disk v blocks) (sym is) (record {
  table = r.table;
  index = r.index;
  kept = (
    set_of blocks t.recent at (unwrap_or (slice_get t.older at) None) r.kept.0 (λ vs e. r.kept.1 at vs (older_here (slice_get t.older at) vs e)),
    set_of blocks t.older at None r.kept.1 (λ vs e. absurd cc),
  );
})

pub renewed_same : (t u : Reader) (at : ℕ) → u ≡ renewing at t → IsSameTable t u
renewed_same t u at is = record { name = ap (λ (v : Reader). v.name) is; info = ap (λ (v : Reader). v.info) is; handles = ap (λ (v : Reader). v.handles) is }

-- ---- what a look-up goes through

-- A place from the first block on that may hold the key: the blocks before it hold no version of the key; and the reader reads
-- the table that it read at first.
pub record Finding (honest : Bool) (old new : Meaning) (before after : Reader) (key : List ℕ) (instant at : ℕ) : Type 0 where
  pub from : blocks_below key before.handles - 1 ≤ at
  pub table : IsSameTable before after
  pub disk : LooksOn honest old new
  pub reads : IsTrue honest → (blocks : List (List Entry)) → ReadsBlocks old before blocks → ReadsBlocks new after blocks
  pub none : IsTrue honest → (blocks : List (List Entry)) → ReadsBlocks old before blocks → versions_at key instant (entries_of (take at blocks)) ≡ []

pub finding_none : (honest : Bool) (old : Meaning) (t : Reader) (key : List ℕ) (instant at : ℕ) → Ascend t.handles → at ≡ blocks_below key t.handles - 1 → Finding honest old old t t key instant at
finding_none honest old t key instant at up e = record {
  from = omega (arith, e);
  table = same_none t;
  disk = looks_none honest old;
  reads = λ h blocks r. r;
  none = λ h blocks r. versions_before key instant t.handles at blocks r.table.are r.index up (omega arith);
}

-- the versions in some blocks and one more
one_more : (key : List ℕ) (instant at : ℕ) (blocks : List (List Entry)) (b : List Entry) → versions_at key instant (entries_of (take at blocks)) ≡ [] → slice_get blocks at ≡ Some b → versions_at key instant (entries_of (take (at + 1) blocks)) ≡ versions_at key instant b
one_more key instant at blocks b none here =
    ap (λ (bs : List (List Entry)). versions_at key instant (entries_of bs)) (more_taken blocks at b here)
    ∙ ap (versions_at key instant) (entries_joined (take at blocks) b)
    ∙ filter-append (wanted key instant) (entries_of (take at blocks)) b
    ∙ ap (λ (v : List Entry). v ++ versions_at key instant b) none

first_of : (vs ws : List Entry) (e : Entry) → slice_get vs 0 ≡ Some e → slice_get (vs ++ ws) 0 ≡ Some e
first_of [] ws e h = absurd cc
first_of (v ∷ vs) ws e h = h

none_first : (vs : List Entry) → slice_get vs 0 ≡ None → vs ≡ []
none_first [] h = refl
none_first (v ∷ vs) h = absurd cc

-- the block was read that stands there, and has no version
pub finding_more : (honest : Bool) (old mid new : Meaning) (before mid_reader after : Reader) (key : List ℕ) (instant at : ℕ) (b : List Entry) → Finding honest old mid before mid_reader key instant at
    → IsSameTable mid_reader after → LooksOn honest mid new
    → (IsTrue honest → (blocks : List (List Entry)) → ReadsBlocks mid mid_reader blocks → ReadsBlocks new after blocks)
    → (IsTrue honest → (blocks : List (List Entry)) → ReadsBlocks mid mid_reader blocks → slice_get blocks at ≡ Some b)
    → slice_get (versions_at key instant b) 0 ≡ None
    → Finding honest old new before after key instant (at + 1)
finding_more honest old mid new before mid_reader after key instant at b f same looks reads block miss = record {
  from = omega (arith, f.from);
  table = same_again before mid_reader after f.table same;
  disk = looks_again honest old mid new f.disk looks;
  reads = λ h blocks r. reads h blocks (f.reads h blocks r);
  none = λ h blocks r. one_more key instant at blocks b (f.none h blocks r) (block h blocks (f.reads h blocks r)) ∙ none_first (versions_at key instant b) miss;
}

-- the block has one
pub found_here : (key : List ℕ) (instant at : ℕ) (blocks : List (List Entry)) (b entries : List Entry) (e : Entry) → entries ≡ entries_of blocks → versions_at key instant (entries_of (take at blocks)) ≡ [] → slice_get blocks at ≡ Some b → slice_get (versions_at key instant b) 0 ≡ Some e → slice_get (versions_at key instant entries) 0 ≡ Some e
found_here key instant at blocks b entries e all none here hit =
    let more = entries_of (drop (at + 1) blocks) in
    ap (λ (v : List Entry). slice_get (versions_at key instant v) 0) (all ∙ parts_of blocks (at + 1))
    ∙ ap (λ (v : List Entry). slice_get v 0) (filter-append (wanted key instant) (entries_of (take (at + 1) blocks)) more ∙ ap (λ (v : List Entry). v ++ versions_at key instant more) (one_more key instant at blocks b none here))
    ∙ first_of (versions_at key instant b) (versions_at key instant more) e hit

-- no block has one
pub found_nowhere : (disk : Meaning) (t : Reader) (key : List ℕ) (instant at : ℕ) (blocks : List (List Entry)) (entries : List Entry) → Ascend t.handles → ReadsBlocks disk t blocks → entries ≡ entries_of blocks → versions_at key instant (entries_of (take at blocks)) ≡ [] → blocks_up_to key t.handles ≤ at → slice_get (versions_at key instant entries) 0 ≡ None
found_nowhere disk t key instant at blocks entries up r all none le =
    ap (λ (v : List Entry). slice_get (versions_at key instant v) 0) (all ∙ parts_of blocks at)
    ∙ ap (λ (v : List Entry). slice_get v 0) (filter-append (wanted key instant) (entries_of (take at blocks)) (entries_of (drop at blocks)) ∙ ap (λ (v : List Entry). v ++ versions_at key instant (entries_of (drop at blocks))) none ∙ versions_behind key instant t.handles at blocks r.table.are r.index up le)

-- a block that is wrong at a place
wrong_there : (old mid : Meaning) (before after : Reader) (at : ℕ) → state_in mid ≡ state_in old → IsSameTable before after → at < length after.handles
    → IfSome (slice_get after.handles at) (HoldsNoBlock (entry_at mid after.name)) → (h : Handle) × (slice_get before.handles at ≡ Some h) × HoldsNoBlock (entry_at old before.name) h
wrong_there old mid before after at same table lt none =
    let g = some_at after.handles at lt in
    let holds = subst (λ (o : Option Handle). IfSome o (HoldsNoBlock (entry_at mid after.name))) g.1 none in
    let there : entry_at mid after.name ≡ entry_at old before.name = ap (λ (s : DiskState). (s after.name).now) same ∙ ap (λ (n : disk.Name). entry_at old n) table.name in
    (g.0, ap (λ (hs : List Handle). slice_get hs at) (sym table.handles) ∙ g.1, subst (λ (e : disk.DiskEntry). HoldsNoBlock e g.0) there holds)

-- is one of the table's
pub wrong_at : (old mid : Meaning) (before after : Reader) (at : ℕ) → state_in mid ≡ state_in old → IsSameTable before after → at < length after.handles → IfSome (slice_get after.handles at) (HoldsNoBlock (entry_at mid after.name)) → HoldsAWrongBlock (entry_at old before.name) before.handles
wrong_at old mid before after at same table lt none = let wrong = wrong_there old mid before after at same table lt none in (at, wrong.0, wrong.1, wrong.2)

-- and one that may hold a key, where it stands among these
pub wrong_for : (old mid : Meaning) (before after : Reader) (key : List ℕ) (at : ℕ) → state_in mid ≡ state_in old → IsSameTable before after → at < length after.handles
    → blocks_below key before.handles - 1 ≤ at → at < blocks_up_to key before.handles
    → IfSome (slice_get after.handles at) (HoldsNoBlock (entry_at mid after.name)) → HoldsAWrongBlockFor key (entry_at old before.name) before.handles
wrong_for old mid before after key at same table lt from to none =
    let wrong = wrong_there old mid before after at same table lt none in
    record { at = at; handle = wrong.0; here = wrong.1; from = from; to = to; wrong = wrong.2 }

pub wrong_block : (key : List ℕ) (entry : disk.DiskEntry) (handles : List Handle) → HoldsAWrongBlockFor key entry handles → HoldsAWrongBlock entry handles
wrong_block key entry handles wrong = (wrong.at, wrong.handle, wrong.here, wrong.wrong)

pub wrong_tables : (key : List ℕ) (disk : Meaning) (tables : List Reader) → SomeTableIsWrongFor key disk tables → SomeTableIsWrong disk tables
wrong_tables key disk tables (at, t, here, wrong) = (at, t, here, wrong_block key (entry_at disk t.name) t.handles wrong)

-- ---- for how much the kept blocks count

pub none_size : (hs : List Handle) → sum_by size_at (none_kept hs) ≡ 0
none_size [] = refl
none_size (h ∷ hs) = (let none : Option (List Entry) = None in omega (arith, sum_by-cons size_at none (none_kept hs), none_size hs))

-- another at a place, where none was kept
set_size : (ks : List (Option (List Entry))) (at : ℕ) (o : Option (List Entry)) → slice_get ks at ≡ Some None → sum_by size_at (set ks at o) ≡ sum_by size_at ks + size_at o
set_size [] at o none = absurd cc
set_size (k ∷ ks) zero o none = omega (arith, sum_by-cons size_at o ks, sum_by-cons size_at k ks, ap size_at (some_is k None none))
set_size (k ∷ ks) (suc at) o none = omega (arith, sum_by-cons size_at k (set ks at o), sum_by-cons size_at k ks, set_size ks at o none)

-- none at a place any longer
unset_size : (ks : List (Option (List Entry))) (at : ℕ) → sum_by size_at (set ks at None) + size_at (unwrap_or (slice_get ks at) None) ≡ sum_by size_at ks
unset_size [] at = refl
unset_size (k ∷ ks) zero = (let none : Option (List Entry) = None in omega (arith, sum_by-cons size_at none ks, sum_by-cons size_at k ks))
unset_size (k ∷ ks) (suc at) = omega (arith, sum_by-cons size_at k (set ks at None), sum_by-cons size_at k ks, unset_size ks at)

pub counted_more : (recent_bytes kept_bytes recent total at : ℕ) (block : List Entry) (t : Reader) → IsCountedReader recent_bytes kept_bytes t → slice_get t.recent at ≡ Some None
    → recent ≡ min (recent_bytes + min (block_size block) (2 ^ 64 - 1)) (2 ^ 64 - 1) → total ≡ min (kept_bytes + min (block_size block) (2 ^ 64 - 1)) (2 ^ 64 - 1)
    → IsCountedReader recent total (keeping at block t)
counted_more recent_bytes kept_bytes recent total at block t is none r e = record {
  reader = record { recent = length-set t.recent at (just block) ∙ is.reader.recent; older = is.reader.older; ascend = is.reader.ascend };
  recent = omega (arith, is.recent, set_size t.recent at (just block) none, r);
  bytes = omega (arith, is.bytes, set_size t.recent at (just block) none, e);
}

pub counted_renewed : (recent_bytes kept_bytes recent at : ℕ) (t : Reader) → IsCountedReader recent_bytes kept_bytes t → slice_get t.recent at ≡ Some None
    → recent ≡ min (recent_bytes + min (size_at (unwrap_or (slice_get t.older at) None)) (2 ^ 64 - 1)) (2 ^ 64 - 1) → IsCountedReader recent kept_bytes (renewing at t)
counted_renewed recent_bytes kept_bytes recent at t is none r =
    let o = unwrap_or (slice_get t.older at) None in
    record {
      reader = record { recent = length-set t.recent at o ∙ is.reader.recent; older = length-set t.older at None ∙ is.reader.older; ascend = is.reader.ascend };
      recent = omega (arith, is.recent, set_size t.recent at o none, r);
      bytes = omega (arith, is.bytes, set_size t.recent at o none, unset_size t.older at);
    }

pub counted_aged : (recent_bytes kept_bytes : ℕ) (t : Reader) → IsCountedReader recent_bytes kept_bytes t → IsCountedReader 0 recent_bytes (aged t)
counted_aged recent_bytes kept_bytes t is = record {
  reader = record { recent = length-map t.handles (λ h. let o : Option (List Entry) = None in o); older = is.reader.recent; ascend = is.reader.ascend };
  recent = omega (arith, none_size t.handles);
  bytes = omega (arith, none_size t.handles, is.recent);
}

-- ---- what is kept at a place

pub kept_here : {A : Type 0} (f : A → List Entry) (ks : List (Option (List Entry))) (items : List (Option A)) (at : ℕ) (o : Option A) → map (option_map f) items ≡ ks → at < length ks → o ≡ get_or items at o → slice_get ks at ≡ Some (option_map f o)
kept_here f ks items at o view lt here =
    ap (λ (k : List (Option (List Entry))). slice_get k at) (sym view)
    ∙ got_map (option_map f) items at o (got items at o (omega (arith, lt, ap length view, length-map items (option_map f))) here)

pub set_there : {A : Type 0} (xs : List A) (at : ℕ) (x : A) → at < length xs → slice_get (set xs at x) at ≡ Some x
set_there [] at x lt = absurd (omega arith)
set_there (y ∷ xs) zero x lt = refl
set_there (y ∷ xs) (suc at) x lt = set_there xs at x (omega arith)

pub some_within : {A : Type 0} (xs : List A) (at : ℕ) (x : A) → slice_get xs at ≡ Some x → at < length xs
some_within [] at x e = absurd cc
some_within (y ∷ xs) zero x e = omega arith
some_within (y ∷ xs) (suc at) x e = (let lt = some_within xs at x e in omega arith)

pub none_is : {A : Type 0} (f : A → List Entry) (hs : List Handle) (n : ℕ) → n ≡ length hs → map (option_map f) (replicate n None) ≡ none_kept hs
none_is f hs n e = ap (λ (k : ℕ). map (option_map f) (replicate k None)) e ∙ go hs
  where
    go : (hs : List Handle) → map (option_map f) (replicate (length hs) None) ≡ none_kept hs
    go [] = refl
    go (h ∷ hs) = ap (λ (k : List (Option (List Entry))). None ∷ k) (go hs)

pub none_got : (hs : List Handle) (at : ℕ) (vs : List Entry) → slice_get (none_kept hs) at ≡ Some (Some vs) → ⊥
none_got [] at vs e = absurd cc
none_got (h ∷ hs) zero vs e = absurd cc
none_got (h ∷ hs) (suc at) vs e = none_got hs at vs e

-- a table that was opened is read
pub reads_new : (disk : Meaning) (t : Reader) (entries : List Entry) → t ≡ unread t.name t.info t.handles → HoldsTable (entry_at disk t.name) t.info t.handles → IsTableOf t.info (bytes_in (entry_at disk t.name)) entries → Reads disk t entries
reads_new disk t entries is holds table =
    let b = but_none (entry_at disk t.name) t.info entries holds.file table in
    record {
      blocks = b.0;
      all = b.1;
      reads = record {
        table = b.2;
        index = (one_index (bytes_in (entry_at disk t.name)) t.handles (handles_of 0 b.0) t.info.entry_count t.info.entry_count holds.is.index b.2.index).0;
        kept = (
          λ at vs e. absurd (none_got t.handles at vs (ap (λ (u : Reader). slice_get u.recent at) (sym is) ∙ e)),
          λ at vs e. absurd (none_got t.handles at vs (ap (λ (u : Reader). slice_get u.older at) (sym is) ∙ e)),
        );
      };
    }

-- the first version of a key has that key
pub key_found : (key : List ℕ) (instant : ℕ) (es : List Entry) (e : Entry) → slice_get (versions_at key instant es) 0 ≡ Some e → e.key ≡ key
key_found key instant [] e h = absurd cc
key_found key instant (x ∷ xs) e h =
    elim (cases_Bool (wanted key instant x)) [
      | inr f ↦ key_found key instant xs e (ap (λ (v : List Entry). slice_get v 0) (sym (fails (wanted key instant) x xs f)) ∙ h)
      | inl t ↦
          let head : versions_at key instant (x ∷ xs) ≡ x ∷ versions_at key instant xs = rw t refl in
          let same : x ≡ e = some_is x e (ap (λ (v : List Entry). slice_get v 0) (sym head) ∙ h) in
          ap (λ (y : Entry). y.key) (sym same) ∙ (bytes_eq-Decides x.key key).0 (left (bytes_eq x.key key) (nat_lt x.number instant) t)
    ]
  where
    left : (b c : Bool) → (b && c) ≡ true → b ≡ true
    left true c t = refl
    left false c t = absurd cc

-- what was found at the place of the first version of a key is that version
pub found_is : (key : List ℕ) (instant : ℕ) (es : List Entry) (at : ℕ) (f : Found) → slice_get (versions_at key instant es) 0 ≡ slice_get es at → at < length es
    → IfSome (slice_get es at) (λ e. entry_found e.key f ≡ e) → Some (entry_found key f) ≡ slice_get (versions_at key instant es) 0
found_is key instant es at f is lt found =
    let g = some_at es at lt in
    let first = is ∙ g.1 in
    ap (λ (k : List ℕ). just (entry_found k f)) (sym (key_found key instant es g.0 first)) ∙ ap (λ (e : Entry). just e) (subst (λ (o : Option Entry). IfSome o (λ e. entry_found e.key f ≡ e)) g.1 found) ∙ sym first

-- the entry that was found
pub found_entry : (key : List ℕ) (found : Option Found) (f : Found) (o : Option Entry) → IsFound key found o → found ≡ Some f → o ≡ Some (entry_found key f)
found_entry key found f o is e = sym is ∙ ap (option_map (entry_found key)) e

-- a reader that keeps nothing is one, and counts for nothing
pub unread_counted : (name : disk.Name) (info : TableInfo) (handles : List Handle) → Ascend handles → IsCountedReader 0 0 (unread name info handles)
unread_counted name info handles up =
    let len = length-map handles (λ h. let o : Option (List Entry) = None in o) in
    record { reader = record { recent = len; older = len; ascend = up }; recent = omega (arith, none_size handles); bytes = omega (arith, none_size handles) }
