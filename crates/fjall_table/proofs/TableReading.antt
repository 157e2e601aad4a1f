-- Blocks and files of tables, as a reader meets them.
use Rattle.std.proofs.Common.{◌≡◌, ℕ, zero, suc, get_or, ◌+◌, ◌^◌, ◌<◌, ◌≤◌, List, [], ◌∷◌, ◌++◌, length, take, drop, map, slice_get, Some, None, refl, sym, ap, subst, ◌∙◌, append_assoc, arith}
use Rattle.std.specs.List.{flat_map, AllByRecursion}
use Rattle.std.proofs.lemmas.List.{length-append, append-nil, take_at, drop_at}
use Rattle.fjall_base.specs.declared.error.Error.{Error}
use Rattle.fjall_base.specs.declared.error.Error.TheVariants.{Storage}
use Rattle.fjall_base.specs.declared.error.StorageError.TheVariants.{TableDamaged}
use Rattle.fjall_table.specs.declared.index.BlockHandle.{BlockHandle}
use Rattle.fjall_table.specs.declared.table_entry.TableEntry.{TableEntry}
use Rattle.fjall_table.specs.declared.footer.Footer.{Footer}
use Rattle.fjall_base.specs.Check.{check}
use Rattle.fjall_table.specs.Frame.{framed}
use Rattle.fjall_table.specs.Reading.{DamagedWhere, frame_at}
use Rattle.fjall_table.specs.Blocks.{Entry, seen, entry_text, IsEntry, payload_of, block_text, IsBlock}
use Rattle.fjall_table.specs.Tables.{Handle, first_key, index_text, footer_text, end_text, IsIndex, HasIndex}
use Rattle.fjall_table.specs.TableReading.{handle_of, footer_at, IsNoFooter, IsNoIndex, IsNoBlockFrom}
use Rattle.fjall_base.proofs.Codecs.{just, some_is, one_text}
use Rattle.fjall_base.proofs.Checks.{check_len}
use Rattle.fjall_table.proofs.Frames.{frame8, length_framed}
use Rattle.fjall_table.proofs.Footers as Footers
use Rattle.fjall_table.proofs.Footers.{footer_codec, head, head_len, text}
use Rattle.fjall_table.proofs.Lists.{Apart, NoItem, same_lists}
use Rattle.fjall_table.proofs.BlockParts.{entries_apart}
use Rattle.fjall_table.proofs.Indexes.{is_index, covers}

-- ---- a block

nothing : {A : Type 0} (text : A → List ℕ) (Is : A → Type 0) → Apart text Is → NoItem text Is []
nothing text Is apart a more is e = let l = ap length e in let m = length-append (text a) more in let s = apart.some a in omega arith

-- one text is of one list
pub one_list : {A : Type 0} (text : A → List ℕ) (Is : A → Type 0) → Apart text Is → (xs ys : List A) → AllByRecursion Is xs → AllByRecursion Is ys → flat_map text xs ≡ flat_map text ys → xs ≡ ys
one_list text Is apart xs ys ex ey e =
    (same_lists text Is apart xs ys [] [] ex ey (nothing text Is apart) (nothing text Is apart) (append-nil (flat_map text xs) ∙ e ∙ sym (append-nil (flat_map text ys)))).0

pub one_payload : (p q : List ℕ) → length p < 2 ^ 64 → length q < 2 ^ 64 → framed 8 p ≡ framed 8 q → p ≡ q
one_payload p q lp lq e = (one_text (frame_at 8) (framed 8) (λ (v : List ℕ). length v < 2 ^ 64) frame8 p q [] [] lp lq (append-nil (framed 8 p) ∙ e ∙ sym (append-nil (framed 8 q)))).0

pub small : (bytes payload : List ℕ) → length bytes < 2 ^ 64 → bytes ≡ framed 8 payload → length payload < 2 ^ 64
small bytes payload lt e = let l = ap length e in let m = length_framed 8 payload in omega arith

-- one text is of one block
pub one_block : (bytes : List ℕ) (vs ws : List Entry) → length bytes < 2 ^ 64 → IsBlock vs → IsBlock ws → bytes ≡ block_text vs → bytes ≡ block_text ws → vs ≡ ws
one_block bytes vs ws lt iv iw ev ew = one_list entry_text IsEntry entries_apart vs ws iv.each iw.each (one_payload (payload_of vs) (payload_of ws) (small bytes (payload_of vs) lt ev) (small bytes (payload_of ws) lt ew) (sym ev ∙ ew))

pub other_key : (key bytes : List ℕ) (vs : List Entry) → length bytes < 2 ^ 64 → IsBlock vs → bytes ≡ block_text vs → (first_key vs ≡ key → ⊥) → IsNoBlockFrom key bytes
other_key key bytes vs lt is text bad ws b = bad (ap first_key (one_block bytes vs ws lt is b.is text b.text) ∙ b.key_is)

-- the first of some versions, and its key
pub first_seen : (vs : List TableEntry) (v : TableEntry) → Some v ≡ slice_get vs 0 → first_key (map seen vs) ≡ v.key.now
first_seen [] v e = absurd cc
first_seen (w ∷ vs) v e = ap (λ (x : TableEntry). x.key.now) (some_is w v (sym e))

pub none_seen : (vs : List TableEntry) → None ≡ slice_get vs 0 → IsBlock (map seen vs) → ⊥
none_seen [] e is = omega (arith, is.some)
none_seen (w ∷ vs) e is = absurd cc

-- ---- a file

pub footer_len : (offset len count : ℕ) → length (footer_text offset len count) ≡ 36
unfolding footer_text
footer_len offset len count = omega (arith, length-append (head offset len count) (check (head offset len count)), check_len (head offset len count), head_len offset len count)

-- two ways to part one list
pub parted : (a b c d : List ℕ) → a ++ b ≡ c ++ d → length b ≡ length d → (a ≡ c) × (b ≡ d)
parted a b c d e l =
    let same : length a ≡ length c = omega (arith, ap length e, length-append a b, length-append c d) in (
      sym (take_at a b (length a) refl) ∙ ap (take (length a)) e ∙ take_at c d (length a) (sym same),
      sym (drop_at a b (length a) refl) ∙ ap (drop (length a)) e ∙ drop_at c d (length a) (sym same),
    )

-- the two parts of a file with an index
pub record Ends (front end : List ℕ) (hs : List Handle) (count : ℕ) (blocks : List ℕ) : Type 0 where
  pub front_is : front ≡ blocks ++ index_text hs
  pub end_is : end ≡ footer_text (length blocks) (length (index_text hs)) count

pub ends : (bytes front end : List ℕ) (hs : List Handle) (count : ℕ) → bytes ≡ front ++ end → length end ≡ 36 → (h : HasIndex bytes hs count) → Ends front end hs count h.front
ends bytes front end hs count e l h =
    let footer = footer_text (length h.front) (length (index_text hs)) count in
    let p = parted front end (h.front ++ index_text hs) footer (sym e ∙ h.text ∙ sym (append_assoc h.front (index_text hs) footer)) (l ∙ sym (footer_len (length h.front) (length (index_text hs)) count)) in
    record { front_is = p.0; end_is = p.1 }

pub too_short : (bytes : List ℕ) (hs : List Handle) (count : ℕ) → length bytes < 36 → HasIndex bytes hs count → ⊥
too_short bytes hs count lt h =
    let footer = footer_text (length h.front) (length (index_text hs)) count in
    omega (arith, ap length h.text, length-append h.front (index_text hs ++ footer), length-append (index_text hs) footer, footer_len (length h.front) (length (index_text hs)) count)

-- the numbers of a file have room
pub record Room (front : List ℕ) (hs : List Handle) : Type 0 where
  pub before : length front < 2 ^ 64
  pub index : length (index_text hs) < 2 ^ 64

pub room : (bytes : List ℕ) (hs : List Handle) (count : ℕ) → (h : HasIndex bytes hs count) → Room h.front hs
room bytes hs count h =
    let footer = footer_text (length h.front) (length (index_text hs)) count in
    let l = ap length h.text in
    let m = length-append h.front (index_text hs ++ footer) in
    let n = length-append (index_text hs) footer in
    let f = h.fits in
    record { before = omega arith; index = omega arith }

pub no_end : (bytes front end : List ℕ) (hs : List Handle) (count : ℕ) → bytes ≡ front ++ end → length end ≡ 36 → IsNoFooter end → HasIndex bytes hs count → ⊥
no_end bytes front end hs count e l none h =
    let r = room bytes hs count h in
    none (length h.front) (length (index_text hs)) count r.before r.index h.number (ends bytes front end hs count e l h).end_is

pub record Same (a b : ℕ) (c d : ℕ) (e f : ℕ) : Type 0 where
  pub offset : a ≡ b
  pub len : c ≡ d
  pub count : e ≡ f

one_footer : (o l n a b c : ℕ) → o < 2 ^ 64 → l < 2 ^ 64 → n < 2 ^ 64 → a < 2 ^ 64 → b < 2 ^ 64 → c < 2 ^ 64 → footer_text o l n ≡ footer_text a b c → Same o a l b n c
one_footer o l n a b c fo fl fn fa fb fc e =
    let f : Footer = record { index_offset = o; index_len = l; entry_count = n } in
    let g : Footer = record { index_offset = a; index_len = b; entry_count = c } in
    let same : f ≡ g = (one_text footer_at text Footers.Room footer_codec f g [] [] (record { offset = fo; len = fl; count = fn }) (record { offset = fa; len = fb; count = fc }) (append-nil (footer_text o l n) ∙ e ∙ sym (append-nil (footer_text a b c)))).0 in
    record { offset = ap (λ (x : Footer). x.index_offset) same; len = ap (λ (x : Footer). x.index_len) same; count = ap (λ (x : Footer). x.entry_count) same }

pub same_footer : (bytes front end : List ℕ) (hs : List Handle) (count o l n : ℕ) → bytes ≡ front ++ end → length end ≡ 36 → end ≡ footer_text o l n → o < 2 ^ 64 → l < 2 ^ 64 → n < 2 ^ 64 → (h : HasIndex bytes hs count) → Same o (length h.front) l (length (index_text hs)) n count
same_footer bytes front end hs count o l n e len is fo fl fn h =
    let r = room bytes hs count h in
    one_footer o l n (length h.front) (length (index_text hs)) count fo fl fn r.before r.index h.number (sym is ∙ (ends bytes front end hs count e len h).end_is)

pub no_index : (bytes front end before framed : List ℕ) (hs : List Handle) (count o l n : ℕ) → bytes ≡ front ++ end → length end ≡ 36 → end ≡ footer_text o l n → o < 2 ^ 64 → l < 2 ^ 64 → n < 2 ^ 64 → front ≡ before ++ framed → length before ≡ o
    → IsNoIndex framed o → HasIndex bytes hs count → ⊥
no_index bytes front end before framed hs count o l n e len is fo fl fn f b none h =
    let s = same_footer bytes front end hs count o l n e len is fo fl fn h in
    let t = ends bytes front end hs count e len h in
    let p = parted before framed h.front (index_text hs) (sym f ∙ t.front_is) (omega (arith, ap length (sym f ∙ t.front_is), length-append before framed, length-append h.front (index_text hs), s.offset, b)) in
    none hs (subst (λ (d : ℕ). IsIndex hs d) (sym s.offset) h.index) p.1

-- an index that was read
pub record Opened (bytes : List ℕ) (hs : List Handle) (o n : ℕ) : Type 0 where
  pub has : HasIndex bytes hs n
  pub within : o ≤ length bytes
  pub ends : bytes ≡ take o bytes ++ end_text o hs n

pub opened : (bytes front end before framed : List ℕ) (hs : List Handle) (o l n : ℕ) → bytes ≡ front ++ end → end ≡ footer_text o l n → front ≡ before ++ framed → length before ≡ o → length framed ≡ l → framed ≡ index_text hs → IsIndex hs o → length bytes < 2 ^ 64 → n < 2 ^ 64 → Opened bytes hs o n
opened bytes front end before framed hs o l n e is f b len text index fits fn =
    let footer = footer_text o (length (index_text hs)) n in
    let end_is : end ≡ footer = is ∙ ap (λ (v : ℕ). footer_text o v n) (sym len ∙ ap length text) in
    let line : bytes ≡ before ++ end_text o hs n =
    e ∙ ap (λ (v : List ℕ). v ++ end) f ∙ append_assoc before framed end ∙ ap (λ (v : List ℕ). before ++ (v ++ end)) text ∙ ap (λ (v : List ℕ). before ++ (index_text hs ++ v)) end_is in
    let front_is : take o bytes ≡ before = ap (take o) line ∙ take_at before (end_text o hs n) o b in
    record {
      has = record { front = before; text = line ∙ ap (λ (v : ℕ). before ++ end_text v hs n) (sym b); index = subst (λ (d : ℕ). IsIndex hs d) (sym b) index; fits = fits; number = fn };
      within = omega (arith, ap length line, length-append before (end_text o hs n), b);
      ends = line ∙ ap (λ (v : List ℕ). v ++ end_text o hs n) (sym front_is);
    }

-- this error, for this reason
pub told : (e : Error) (P : Type 0) → e ≡ Storage TableDamaged → P → DamagedWhere TableDamaged P e
told e P is p = subst (λ (x : Error). DamagedWhere TableDamaged P x) (sym is) (refl, p)

-- the offset and the length that a footer tells are those of the index
pub offset_within : (bytes front end : List ℕ) (hs : List Handle) (count o l n : ℕ) → bytes ≡ front ++ end → length end ≡ 36 → end ≡ footer_text o l n → o < 2 ^ 64 → l < 2 ^ 64 → n < 2 ^ 64 → HasIndex bytes hs count → o ≤ length front
offset_within bytes front end hs count o l n e len is fo fl fn h =
    let s = same_footer bytes front end hs count o l n e len is fo fl fn h in
    let t = ends bytes front end hs count e len h in
    omega (arith, ap length t.front_is, length-append h.front (index_text hs), s.offset)

pub len_told : (bytes front end before framed : List ℕ) (hs : List Handle) (count o l n : ℕ) → bytes ≡ front ++ end → length end ≡ 36 → end ≡ footer_text o l n → o < 2 ^ 64 → l < 2 ^ 64 → n < 2 ^ 64 → front ≡ before ++ framed → length before ≡ o → HasIndex bytes hs count
    → length framed ≡ l
len_told bytes front end before framed hs count o l n e len is fo fl fn f b h =
    let s = same_footer bytes front end hs count o l n e len is fo fl fn h in
    let t = ends bytes front end hs count e len h in
    omega (arith, ap length t.front_is, length-append h.front (index_text hs), ap length f, length-append before framed, s.offset, s.len, b)

-- ---- what stands at an index

pub got : {A : Type 0} (xs : List A) (i : ℕ) (x : A) → i < length xs → x ≡ get_or xs i x → slice_get xs i ≡ Some x
got [] i x lt e = absurd (omega arith)
got (a ∷ xs) zero x lt e = ap just (sym e)
got (a ∷ xs) (suc i) x lt e = got xs i x (omega arith) e

pub got_map : {A B : Type 0} (f : A → B) (xs : List A) (i : ℕ) (x : A) → slice_get xs i ≡ Some x → slice_get (map f xs) i ≡ Some (f x)
got_map f [] i x e = absurd cc
got_map f (a ∷ xs) zero x e = ap just (ap f (some_is a x e))
got_map f (a ∷ xs) (suc i) x e = got_map f xs i x e

-- a handle names a part of its file
pub handle_within : (handles : List BlockHandle) (data_len len at : ℕ) (h : BlockHandle) → ∥ IsIndex (map handle_of handles) data_len ∥₁ → data_len ≤ len → slice_get handles at ≡ Some h → h.offset + h.len ≤ len
handle_within handles data_len len at h is within e =
    let x = is_index (map handle_of handles) data_len is in
    let l = covers 0 data_len at (map handle_of handles) (handle_of h) x.cover (sym (got_map handle_of handles at h e)) in
    omega (arith, l, within)
