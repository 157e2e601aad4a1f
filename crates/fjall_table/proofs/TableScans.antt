-- All blocks of a table, read one after another.
use Rattle.std.proofs.Common.{◌≡◌, ℕ, suc, ◌+◌, ◌-◌, ◌≤◌, Bool, true, false, IsTrue, ◌↔◌, List, [], ◌∷◌, ◌++◌, length, take, drop, map, slice_get, Option, Some, IfSome, refl, sym, ap, subst, ◌∙◌, append_assoc, arith}
use Rattle.std.specs.List.{AllByRecursion}
use Rattle.std.proofs.lemmas.List.{length-take, length-drop, length-append, append-nil, take_at, take-append-drop, take_all}
use Rattle.std.proofs.lemmas.List.Concat.{flat_map-cons}
use Rattle.std.proofs.lemmas.Grind.{flat_map-append}
use Rattle.fjall_base.specs.Lists.{last_of}
use Rattle.fjall_table.specs.Blocks.{Entry, payload_of, block_text, IsBefore, IsOrdered, IsBlock}
use Rattle.fjall_table.specs.Tables.{Handle, first_key, entries_of, handles_of, data_text, end_text, AreFull, IsTable, Cover, HasIndex}
use Rattle.fjall_table.specs.TableReading.{part_at, IsBlockFrom, IsNoTable}
use Rattle.fjall_base.proofs.Codecs.{just, some_is, each_more}
use Rattle.fjall_table.proofs.Frames.{length_framed}
use Rattle.fjall_table.proofs.BlockParts.{ordered_at}
use Rattle.fjall_table.proofs.Indexes.{cover_at, one_end}
use Rattle.fjall_table.proofs.TableBlocks.{IsOf, blocks_in, handles_are, handles_len, stands_at, read_is, table_has, one_index, more_taken, drop_got, cover_blocks, entries_joined}

-- the block has reached the size at which it is closed
abbrev pub IsFull : List Entry → Type 0
IsFull b = 4096 ≤ length (payload_of b)

-- what was read of the blocks so far
pub record Gathered (bytes : List ℕ) (hs : List Handle) (at : ℕ) (full : Bool) (es : List Entry) : Type 0 where
  pub bs : List (List Entry)
  pub all : es ≡ entries_of bs
  pub each : AllByRecursion IsBlock bs
  pub last : IsTrue full ↔ AllByRecursion IsFull bs
  pub are_full : AreFull bs
  pub ordered : IsOrdered es
  pub handles : take at hs ≡ handles_of 0 bs
  pub text : take (length (data_text bs)) bytes ≡ data_text bs
  pub same : (blocks : List (List Entry)) → IsOf bytes blocks → bs ≡ take at blocks

pub gathered_none : (bytes : List ℕ) (hs : List Handle) → Gathered bytes hs 0 true []
gathered_none bytes hs = record {
  bs = [];
  all = refl;
  each = tt;
  last = (λ t. tt, λ t. refl);
  are_full = tt;
  ordered = tt;
  handles = refl;
  text = refl;
  same = λ blocks t. refl;
}

full_more : (bs : List (List Entry)) (b : List Entry) → AllByRecursion IsFull bs → AreFull (bs ++ b ∷ [])
full_more [] b all = tt
full_more (a ∷ []) b all = (all.0, tt)
full_more (a ∷ c ∷ bs) b all = (all.0, full_more (c ∷ bs) b all.1)

full_before : (bs more : List (List Entry)) (b : List Entry) → AreFull (bs ++ b ∷ more) → AllByRecursion IsFull bs
full_before [] more b full = tt
full_before (a ∷ []) more b full = (full.0, tt)
full_before (a ∷ c ∷ bs) more b full = (full.0, full_before (c ∷ bs) more b full.1)

each_last : (bs : List (List Entry)) (b : List Entry) → AllByRecursion IsFull (bs ++ b ∷ []) → IsFull b
each_last [] b all = all.0
each_last (a ∷ bs) b all = each_last bs b all.1

handle : ℕ → ℕ → List ℕ → Handle
handle offset len key = record { offset = offset; len = len; first_key = key }

handles_more : (at : ℕ) (bs : List (List Entry)) (b : List Entry) → handles_of at (bs ++ b ∷ []) ≡ handles_of at bs ++ handle (at + length (data_text bs)) (length (block_text b)) (first_key b) ∷ []
unfolding handle
handles_more at [] b = ap (λ (n : ℕ). handle n (length (block_text b)) (first_key b) ∷ []) (plus_zero at)
  where
    plus_zero : (n : ℕ) → n ≡ n + 0
    plus_zero n = omega arith
handles_more at (a ∷ bs) b =
    let next = at + length (block_text a) in
    let sum : next + length (data_text bs) ≡ at + length (data_text (a ∷ bs)) = omega (arith, ap length (flat_map-cons block_text a bs), length-append (block_text a) (data_text bs)) in
    ap (λ (hs : List Handle). handle at (length (block_text a)) (first_key a) ∷ hs) (handles_more next bs b ∙ ap (λ (n : ℕ). handles_of next bs ++ handle n (length (block_text b)) (first_key b) ∷ []) sum)

data_more : (bs : List (List Entry)) (b : List Entry) → data_text (bs ++ b ∷ []) ≡ data_text bs ++ block_text b
data_more bs b = flat_map-append block_text bs (b ∷ []) ∙ ap (λ (v : List ℕ). data_text bs ++ v) (flat_map-cons block_text b [] ∙ append-nil (block_text b))

covered : (bs : List (List Entry)) → Cover 0 (length (data_text bs)) (handles_of 0 bs)
covered bs = subst (λ (n : ℕ). Cover 0 n (handles_of 0 bs)) (zero_plus (length (data_text bs))) (cover_blocks 0 bs)
  where
    zero_plus : (n : ℕ) → 0 + n ≡ n
    zero_plus n = omega arith

-- where the next block stands
record Next (bytes : List ℕ) (bs : List (List Entry)) (h : Handle) (vs : List Entry) : Type 0 where
  pub offset : h.offset ≡ length (data_text bs)
  pub len : h.len ≡ length (block_text vs)
  pub text : take (length (data_text (bs ++ vs ∷ []))) bytes ≡ data_text (bs ++ vs ∷ [])

parted_at : (hs : List Handle) (at : ℕ) (h : Handle) → slice_get hs at ≡ Some h → hs ≡ take at hs ++ h ∷ drop (suc at) hs
parted_at hs at h e = sym (take-append-drop at hs) ∙ ap (λ (v : List Handle). take at hs ++ v) (drop_got hs at h e)

next_is : (bytes : List ℕ) (hs : List Handle) (n at : ℕ) (full : Bool) (es vs : List Entry) (h : Handle) → HasIndex bytes hs n → slice_get hs at ≡ Some h → part_at h bytes ≡ block_text vs → (g : Gathered bytes hs at full es) → Next bytes g.bs h vs
next_is bytes hs n at full es vs h x e b g =
    let off = length (data_text g.bs) in
    let line : hs ≡ handles_of 0 g.bs ++ h ∷ drop (suc at) hs = parted_at hs at h e ∙ ap (λ (v : List Handle). v ++ h ∷ drop (suc at) hs) g.handles in
    let c = cover_at 0 off (length x.front) (handles_of 0 g.bs) (drop (suc at) hs) h (covered g.bs) (subst (λ (v : List Handle). Cover 0 (length x.front) v) line x.index.cover) in
    let more = end_text (length x.front) hs n in
    let within : off + h.len ≤ length bytes = omega (arith, c.1, ap length x.text, length-append x.front more) in
    let here : take h.len (drop off bytes) ≡ block_text vs = ap (λ (k : ℕ). take h.len (drop k bytes)) (sym c.0) ∙ b in
    let len : h.len ≡ length (block_text vs) = omega (arith, ap length here, length-take h.len (drop off bytes), length-drop off bytes) in
    let all : bytes ≡ data_text g.bs ++ (block_text vs ++ drop h.len (drop off bytes)) =
    sym (take-append-drop off bytes) ∙ ap (λ (v : List ℕ). v ++ drop off bytes) g.text ∙ ap (λ (v : List ℕ). data_text g.bs ++ v) (sym (take-append-drop h.len (drop off bytes)) ∙ ap (λ (v : List ℕ). v ++ drop h.len (drop off bytes)) here) in
    let front : bytes ≡ data_text (g.bs ++ vs ∷ []) ++ drop h.len (drop off bytes) = all ∙ sym (append_assoc (data_text g.bs) (block_text vs) (drop h.len (drop off bytes))) ∙ ap (λ (v : List ℕ). v ++ drop h.len (drop off bytes)) (sym (data_more g.bs vs)) in
    record {
      offset = c.0;
      len = len;
      text = ap (take (length (data_text (g.bs ++ vs ∷ [])))) front ∙ take_at (data_text (g.bs ++ vs ∷ [])) (drop h.len (drop off bytes)) (length (data_text (g.bs ++ vs ∷ []))) refl;
    }

handle_is : (h : Handle) (offset len : ℕ) (key : List ℕ) → h.offset ≡ offset → h.len ≡ len → h.first_key ≡ key → h ≡ handle offset len key
unfolding handle
handle_is h offset len key eo el ek = ap (λ (n : ℕ). handle n h.len h.first_key) eo ∙ ap (λ (n : ℕ). handle offset n h.first_key) el ∙ ap (λ (k : List ℕ). handle offset len k) ek

pub gathered_more : (bytes : List ℕ) (hs : List Handle) (n at : ℕ) (full now : Bool) (es vs : List Entry) (h : Handle) → HasIndex bytes hs n → slice_get hs at ≡ Some h → IsBlockFrom h.first_key (part_at h bytes) vs → IsTrue full → IsOrdered (es ++ vs) → IsTrue now ↔ 4112 ≤ h.len
    → Gathered bytes hs at full es → Gathered bytes hs (at + 1) now (es ++ vs)
gathered_more bytes hs n at full now es vs h x e b t up f g =
    let k = next_is bytes hs n at full es vs h x e b.text g in
    let len = length_framed 8 (payload_of vs) in
    let made : h ≡ handle (0 + length (data_text g.bs)) (length (block_text vs)) (first_key vs) = handle_is h (0 + length (data_text g.bs)) (length (block_text vs)) (first_key vs) (let o = k.offset in omega arith) k.len (sym b.key_is) in
    record {
      bs = g.bs ++ vs ∷ [];
      all = ap (λ (v : List Entry). v ++ vs) g.all ∙ sym (entries_joined g.bs vs);
      each = each_more IsBlock g.bs vs g.each b.is;
      last = (λ u. each_more IsFull g.bs vs (g.last.0 t) (let l = f.0 u in let m = k.len in omega arith), λ u. f.1 (let l = each_last g.bs vs u in let m = k.len in omega arith));
      are_full = full_more g.bs vs (g.last.0 t);
      ordered = up;
      handles = more_taken hs at h e ∙ ap (λ (v : List Handle). v ++ h ∷ []) g.handles ∙ ap (λ (v : Handle). handles_of 0 g.bs ++ v ∷ []) made ∙ sym (handles_more 0 g.bs vs);
      text = k.text;
      same = λ blocks o. ap (λ (v : List (List Entry)). v ++ vs ∷ []) (g.same blocks o) ∙ sym (more_taken blocks at vs (read_is bytes blocks at h vs o (stands_at bytes hs n blocks at h x o e) b));
    }

-- ---- what is no table

blocks_parted : (bytes : List ℕ) (hs : List Handle) (at : ℕ) (full : Bool) (es b : List Entry) (blocks : List (List Entry)) → (g : Gathered bytes hs at full es) → IsOf bytes blocks → slice_get blocks at ≡ Some b → blocks ≡ g.bs ++ b ∷ drop (suc at) blocks
blocks_parted bytes hs at full es b blocks g o e =
    sym (take-append-drop at blocks) ∙ ap (λ (v : List (List Entry)). take at blocks ++ v) (drop_got blocks at b e) ∙ ap (λ (v : List (List Entry)). v ++ b ∷ drop (suc at) blocks) (sym (g.same blocks o))

pub not_full : (bytes : List ℕ) (hs : List Handle) (n at : ℕ) (full : Bool) (es : List Entry) (h : Handle) → HasIndex bytes hs n → slice_get hs at ≡ Some h → full ≡ false → Gathered bytes hs at full es → IsNoTable bytes
not_full bytes hs n at full es h x e not g others t =
    let o = blocks_in bytes others t in
    let s = stands_at bytes hs n t.blocks at h x o e in
    let line = blocks_parted bytes hs at full es s.block t.blocks g o s.here in
    let is : IsTrue full = g.last.1 (full_before g.bs (drop (suc at) t.blocks) s.block (subst AreFull line t.are.full)) in
    absurd cc

ordered_front : (xs ys : List Entry) → IsOrdered (xs ++ ys) → IsOrdered xs
ordered_front [] ys up = tt
ordered_front (x ∷ []) ys up = tt
ordered_front (x ∷ y ∷ xs) ys up = (up.0, ordered_front (y ∷ xs) ys up.1)

pub not_in_order : (bytes : List ℕ) (hs : List Handle) (n at : ℕ) (full : Bool) (es vs : List Entry) (h : Handle) → HasIndex bytes hs n → slice_get hs at ≡ Some h → IsBlockFrom h.first_key (part_at h bytes) vs → (IsOrdered (es ++ vs) → ⊥) → Gathered bytes hs at full es → IsNoTable bytes
not_in_order bytes hs n at full es vs h x e b bad g others t =
    let o = blocks_in bytes others t in
    let here = read_is bytes t.blocks at h vs o (stands_at bytes hs n t.blocks at h x o e) b in
    let line = blocks_parted bytes hs at full es vs t.blocks g o here in
    let more = drop (suc at) t.blocks in
    let all : entries_of t.blocks ≡ (es ++ vs) ++ entries_of more =
    ap entries_of line ∙ flat_map-append (λ (v : List Entry). v) g.bs (vs ∷ more) ∙ ap (λ (v : List Entry). v ++ entries_of (vs ∷ more)) (sym g.all) ∙ ap (λ (v : List Entry). es ++ v) (flat_map-cons (λ (v : List Entry). v) vs more) ∙ sym (append_assoc es vs (entries_of more)) in
    bad (ordered_front (es ++ vs) (entries_of more) (subst IsOrdered all t.are.ordered))

pub other_count : (bytes : List ℕ) (hs : List Handle) (n at : ℕ) (full : Bool) (es : List Entry) → HasIndex bytes hs n → length hs ≤ at → (length es ≡ n → ⊥) → Gathered bytes hs at full es → IsNoTable bytes
other_count bytes hs n at full es x le bad g others t =
    let o = blocks_in bytes others t in
    let len : length hs ≡ length t.blocks = ap length (handles_are bytes hs n t.blocks x o) ∙ handles_len 0 t.blocks in
    let same : g.bs ≡ t.blocks = g.same t.blocks o ∙ take_all at t.blocks (omega arith) in
    let count = (one_index bytes hs (handles_of 0 t.blocks) n (length (entries_of t.blocks)) x (table_has bytes t.blocks o.are o.text o.fits)).1 in
    bad (ap length g.all ∙ ap (λ (v : List (List Entry)). length (entries_of v)) same ∙ sym count)

-- ---- what is one

pub is_table : (bytes : List ℕ) (hs : List Handle) (n at : ℕ) (full : Bool) (es : List Entry) → HasIndex bytes hs n → length hs ≤ at → length es ≡ n → Gathered bytes hs at full es → IsTable bytes es
is_table bytes hs n at full es x le count g =
    let same : hs ≡ handles_of 0 g.bs = sym (take_all at hs le) ∙ g.handles in
    let end : length (data_text g.bs) ≡ length x.front = one_end 0 (length (data_text g.bs)) (length x.front) (handles_of 0 g.bs) (covered g.bs) (subst (λ (v : List Handle). Cover 0 (length x.front) v) same x.index.cover) in
    let front : x.front ≡ data_text g.bs = sym (take_at x.front (end_text (length x.front) hs n) (length x.front) refl) ∙ ap (take (length x.front)) (sym x.text) ∙ ap (λ (k : ℕ). take k bytes) (sym end) ∙ g.text in
    let len : length hs ≡ length g.bs = ap length same ∙ handles_len 0 g.bs in
    record {
      blocks = g.bs;
      are = record { some = (let s = x.index.some in omega arith); each = g.each; full = g.are_full; ordered = subst IsOrdered g.all g.ordered };
      all = g.all;
      text = x.text ∙ ap (λ (v : List ℕ). v ++ end_text (length v) hs n) front ∙ ap (λ (v : List Handle). data_text g.bs ++ end_text (length (data_text g.bs)) v n) same ∙ ap (λ (m : ℕ). data_text g.bs ++ end_text (length (data_text g.bs)) (handles_of 0 g.bs) m) (sym count ∙ ap length g.all);
      fits = x.fits;
    }

-- ---- ordered entries behind others

ordered_join : (es more : List Entry) (f : Entry) → IsOrdered es → IsOrdered (f ∷ more) → IfSome (last_of es) (λ l. IsBefore l f) → IsOrdered (es ++ f ∷ more)
ordered_join [] more f up next after = next
ordered_join (e ∷ []) more f up next after = (after, next)
ordered_join (e ∷ g ∷ es) more f up next after = (up.0, ordered_join (g ∷ es) more f up.1 next after)

last_seen : {X : Type 0} (f : X → Entry) (vs : List X) (v : X) → Some v ≡ slice_get vs (length vs - 1) → last_of (map f vs) ≡ Some (f v)
last_seen f [] v e = absurd cc
last_seen f (w ∷ []) v e = ap (λ (x : _). just (f x)) (some_is w v (sym e))
last_seen f (w ∷ x ∷ vs) v e = last_seen f (x ∷ vs) v (e ∙ ap (slice_get (w ∷ x ∷ vs)) (one_less (length vs)))
  where
    one_less : (n : ℕ) → suc (suc n) - 1 ≡ suc (suc n - 1)
    one_less n = omega arith

pub goes_on_is : {X Y : Type 0} (s : X → Entry) (t : Y → Entry) (vs : List X) (ws : List Y) (l : X) (f : Y) → Some l ≡ slice_get vs (length vs - 1) → Some f ≡ slice_get ws 0 → IsOrdered (map s vs) → IsOrdered (map t ws) → IsBefore (s l) (t f) ↔ IsOrdered (map s vs ++ map t ws)
goes_on_is s t vs [] l f el ef up next = absurd cc
goes_on_is s t vs (w ∷ ws) l f el ef up next =
    let same : f ≡ w = some_is f w ef in
    let last = last_seen s vs l el in (
      λ before. ordered_join (map s vs) (map t ws) (t w) up next (subst (λ (o : Option Entry). IfSome o (λ x. IsBefore x (t w))) (sym last) (subst (λ (x : _). IsBefore (s l) (t x)) same before)),
      λ all. subst (λ (x : _). IsBefore (s l) (t x)) (sym same) (subst (λ (o : Option Entry). IfSome o (λ x. IsBefore x (t w))) last (ordered_at (map s vs) (map t ws) (t w) all)),
    )
