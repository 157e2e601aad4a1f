-- A table's bytes and its entries determine each other, and its end is an index over its blocks.
use Rattle.std.proofs.Common.{◌≡◌, ◌≢◌, ℕ, ◌+◌, ◌^◌, ◌<◌, ◌≤◌, ◌⊎◌, inl, inr, List, [], ◌∷◌, ◌++◌, length, take, drop, refl, sym, ap, subst, ◌∙◌, append_assoc, arith}
use Rattle.std.specs.List.{AllByRecursion}
use Rattle.std.specs.declared.cmp.Ordering.{Ordering}
use Rattle.std.specs.declared.cmp.Ordering.TheVariants.{Less, Equal, Greater}
use Rattle.std.specs.Ordering.{ordering_reverse}
use Rattle.std.proofs.lemmas.Cmp.{nat_list_cmp_total}
use Rattle.std.proofs.lemmas.List.{length-append, append-nil, take_at, drop_at}
use Rattle.byteorder.specs.Endian.{little_bytes}
use Rattle.fjall_base.specs.Pairs.{byte_order}
use Rattle.fjall_base.specs.Check.{check}
use Rattle.fjall_base.specs.Fields.{number_at}
use Rattle.fjall_table.specs.Blocks.{Entry, IsEntry, payload_of, block_text, StandsBefore, IsBefore, IsOrdered, IsBlock}
use Rattle.fjall_table.specs.Tables.{Handle, first_key, entries_of, handles_of, data_text, index_text, footer_text, end_text, table_text, AreFull, AreBlocks, IsTable, Cover, Ascend, IsIndex, HasIndex}
use Rattle.fjall_table.specs.Writing.{block_at, IsBlockWritten}
use Rattle.fjall_base.proofs.Codecs.{some_is, one_text, u64_codec, length-little}
use Rattle.fjall_base.proofs.Checks.{check_len}
use Rattle.fjall_table.proofs.Frames.{length_framed}
use Rattle.fjall_table.proofs.Lists.{Apart, NoItem, same_lists}
use Rattle.fjall_table.proofs.TableWriting.{block_again, block_some, entries_within, ordered_back}

-- ---- blocks one behind another

pub blocks_stand_apart : (vs ws : List Entry) (x y : List ℕ) → IsBlock vs → IsBlock ws → length (payload_of vs) < 2 ^ 64 → length (payload_of ws) < 2 ^ 64 → block_text vs ++ x ≡ block_text ws ++ y → (vs ≡ ws) × (x ≡ y)
blocks_stand_apart vs ws x y iv iw sv sw e =
    let same = some_is (vs, x) (ws, y) (sym (block_again vs x (iv, sv)) ∙ ap block_at e ∙ block_again ws y (iw, sw)) in
    (ap (λ (p : List Entry × List ℕ). p.0) same, ap (λ (p : List Entry × List ℕ). p.1) same)

pub blocks_apart : Apart block_text IsBlockWritten
blocks_apart = record { one = λ vs ws x y iv iw e. blocks_stand_apart vs ws x y iv.0 iw.0 iv.1 iw.1 e; some = block_some }

pub written_each : (blocks : List (List Entry)) → AllByRecursion IsBlock blocks → length (data_text blocks) < 2 ^ 64 → AllByRecursion IsBlockWritten blocks
written_each [] each small = tt
written_each (b ∷ blocks) each small =
    let l = length-append (block_text b) (data_text blocks) in
    let f = length_framed 8 (payload_of b) in
    ((each.0, omega arith), written_each blocks each.1 (omega arith))

nothing_there : NoItem block_text IsBlockWritten []
nothing_there block more is e = let l = ap length e in let m = length-append (block_text block) more in let s = block_some block in omega arith

-- blocks with one text are the same
pub same_blocks : (bs cs : List (List Entry)) → AllByRecursion IsBlockWritten bs → AllByRecursion IsBlockWritten cs → data_text bs ≡ data_text cs → bs ≡ cs
same_blocks bs cs eb ec e = (same_lists block_text IsBlockWritten blocks_apart bs cs [] [] eb ec nothing_there nothing_there (ap (λ (t : List ℕ). t ++ []) e)).0

-- ---- the end of a table

-- two parts behind parts of one length
pub same_parts : {A : Type 0} (a b f g : List A) → length a ≡ length b → a ++ f ≡ b ++ g → (a ≡ b) × (f ≡ g)
same_parts a b f g len e =
    (sym (take_at a f (length a) refl) ∙ ap (take (length a)) e ∙ take_at b g (length a) (sym len), sym (drop_at a f (length a) refl) ∙ ap (drop (length a)) e ∙ drop_at b g (length a) (sym len))

footer_front : ℕ → ℕ → ℕ → List ℕ
footer_front offset len count = 70 ∷ 74 ∷ 84 ∷ 1 ∷ little_bytes 8 offset ++ (little_bytes 8 len ++ little_bytes 8 count)

footer_parts : (offset len count : ℕ) → footer_text offset len count ≡ 70 ∷ 74 ∷ 84 ∷ 1 ∷ (little_bytes 8 offset ++ (little_bytes 8 len ++ (little_bytes 8 count ++ check (footer_front offset len count))))
unfolding footer_text footer_front
footer_parts offset len count = parts (little_bytes 8 offset) (little_bytes 8 len) (little_bytes 8 count) (check (footer_front offset len count))
  where
    parts : (a b c d : List ℕ) → ((70 ∷ 74 ∷ 84 ∷ 1 ∷ a) ++ (b ++ c)) ++ d ≡ 70 ∷ 74 ∷ 84 ∷ 1 ∷ (a ++ (b ++ (c ++ d)))
    parts a b c d = simp append_assoc

pub length_footer : (offset len count : ℕ) → length (footer_text offset len count) ≡ 36
length_footer offset len count =
    let p = ap length (footer_parts offset len count) in
    let s = check_len (footer_front offset len count) in
    of (little_bytes 8 offset) (little_bytes 8 len) (little_bytes 8 count) (check (footer_front offset len count)) (length-little 8 offset) (length-little 8 len) (length-little 8 count) s p
  where
    of : (a b c d : List ℕ) → length a ≡ 8 → length b ≡ 8 → length c ≡ 8 → length d ≡ 8 → length (footer_text offset len count) ≡ length (70 ∷ 74 ∷ 84 ∷ 1 ∷ (a ++ (b ++ (c ++ d)))) → length (footer_text offset len count) ≡ 36
    of a b c d la lb lc ld e = let x = length-append a (b ++ (c ++ d)) in let y = length-append b (c ++ d) in let z = length-append c d in omega arith

one_number : (a b : ℕ) (x y : List ℕ) → a < 2 ^ 64 → b < 2 ^ 64 → little_bytes 8 a ++ x ≡ little_bytes 8 b ++ y → (a ≡ b) × (x ≡ y)
one_number a b x y la lb e = one_text (number_at 8) (little_bytes 8) (λ (n : ℕ). n < 2 ^ 64) u64_codec a b x y la lb e

without_start : (x y : List ℕ) → 70 ∷ 74 ∷ 84 ∷ 1 ∷ x ≡ 70 ∷ 74 ∷ 84 ∷ 1 ∷ y → x ≡ y
without_start x y e = ap (drop 4) e

pub one_footer : (o p l m n k : ℕ) → o < 2 ^ 64 → p < 2 ^ 64 → l < 2 ^ 64 → m < 2 ^ 64 → n < 2 ^ 64 → k < 2 ^ 64 → footer_text o l n ≡ footer_text p m k → (o ≡ p) × (l ≡ m) × (n ≡ k)
one_footer o p l m n k bo bp bl bm bn bk e =
    let numbers = without_start (little_bytes 8 o ++ (little_bytes 8 l ++ (little_bytes 8 n ++ check (footer_front o l n)))) (little_bytes 8 p ++ (little_bytes 8 m ++ (little_bytes 8 k ++ check (footer_front p m k)))) (sym (footer_parts o l n) ∙ e ∙ footer_parts p m k) in
    let first = one_number o p (little_bytes 8 l ++ (little_bytes 8 n ++ check (footer_front o l n))) (little_bytes 8 m ++ (little_bytes 8 k ++ check (footer_front p m k))) bo bp numbers in
    let second = one_number l m (little_bytes 8 n ++ check (footer_front o l n)) (little_bytes 8 k ++ check (footer_front p m k)) bl bm first.1 in
    let third = one_number n k (check (footer_front o l n)) (check (footer_front p m k)) bn bk second.1 in
    (first.0, second.0, third.0)

-- bytes end in one way with an index's text and a footer
pub one_end : (bytes a b i j : List ℕ) (n m : ℕ) → length bytes < 2 ^ 64 → n < 2 ^ 64 → m < 2 ^ 64 → bytes ≡ a ++ (i ++ footer_text (length a) (length i) n) → bytes ≡ b ++ (j ++ footer_text (length b) (length j) m) → (a ≡ b) × (i ≡ j) × (n ≡ m)
one_end bytes a b i j n m small sn sm ea eb =
    let fa = length_footer (length a) (length i) n in
    let fb = length_footer (length b) (length j) m in
    let la = ap length ea in
    let lb = ap length eb in
    let wa = length-append a (i ++ footer_text (length a) (length i) n) in
    let wb = length-append b (j ++ footer_text (length b) (length j) m) in
    let xa = length-append i (footer_text (length a) (length i) n) in
    let xb = length-append j (footer_text (length b) (length j) m) in
    let ya = length-append a i in
    let yb = length-append b j in
    let len : length (a ++ i) ≡ length (b ++ j) = omega arith in
    let halves = same_parts (a ++ i) (b ++ j) (footer_text (length a) (length i) n) (footer_text (length b) (length j) m) len (append_assoc a i (footer_text (length a) (length i) n) ∙ sym ea ∙ eb ∙ sym (append_assoc b j (footer_text (length b) (length j) m))) in
    let numbers = one_footer (length a) (length b) (length i) (length j) n m (omega arith) (omega arith) (omega arith) (omega arith) sn sm halves.1 in
    let front = same_parts a b i j numbers.0 halves.0 in
    (front.0, front.1, numbers.2)

-- ---- one list of entries

-- how much there is at most
pub sizes : (bytes : List ℕ) (blocks : List (List Entry)) (x : List ℕ) → length bytes < 2 ^ 64 → bytes ≡ data_text blocks ++ x → (length (data_text blocks) < 2 ^ 64) × (length (entries_of blocks) < 2 ^ 64)
sizes bytes blocks x small e = let l = ap length e in let m = length-append (data_text blocks) x in let w = entries_within blocks in (omega arith, omega arith)

pub one_list_of_entries : (bytes : List ℕ) (es fs : List Entry) → IsTable bytes es → IsTable bytes fs → es ≡ fs
one_list_of_entries bytes es fs t u =
    let s = sizes bytes t.blocks (end_text (length (data_text t.blocks)) (handles_of 0 t.blocks) (length (entries_of t.blocks))) t.fits t.text in
    let r = sizes bytes u.blocks (end_text (length (data_text u.blocks)) (handles_of 0 u.blocks) (length (entries_of u.blocks))) u.fits u.text in
    let end = one_end bytes (data_text t.blocks) (data_text u.blocks) (index_text (handles_of 0 t.blocks)) (index_text (handles_of 0 u.blocks)) (length (entries_of t.blocks)) (length (entries_of u.blocks)) t.fits s.1 r.1 t.text u.text in
    t.all ∙ ap entries_of (same_blocks t.blocks u.blocks (written_each t.blocks t.are.each s.0) (written_each u.blocks u.are.each r.0) end.0) ∙ sym u.all

-- ---- one text of entries

-- of two beginnings of a list one begins the other
beginnings : {A : Type 0} (b c x y : List A) → b ++ x ≡ c ++ y → ((d : List A) × (c ≡ b ++ d) × (x ≡ d ++ y)) ⊎ ((d : List A) × (b ≡ c ++ d) × (y ≡ d ++ x))
beginnings [] c x y e = inl (c, refl, e)
beginnings (a ∷ b) [] x y e = inr (a ∷ b, refl, sym e)
beginnings {A} (a ∷ b) (d ∷ c) x y e =
    let head : a ≡ d = cc in
    let tail : b ++ x ≡ c ++ y = cc in
    elim (beginnings b c x y tail) [
      | inl p ↦ inl (p.0, ap (λ (v : A). v ∷ c) (sym head) ∙ ap (λ (v : List A). a ∷ v) p.1, p.2)
      | inr p ↦ inr (p.0, ap (λ (v : A). v ∷ b) head ∙ ap (λ (v : List A). d ∷ v) p.1, p.2)
    ]

starts_somewhere : (b : List Entry) (bs : List (List Entry)) (d y : List Entry) → 0 < length d → entries_of bs ≡ d ++ y → AreFull (b ∷ bs) → 4096 ≤ length (payload_of b)
starts_somewhere b [] d y some e full = let l = ap length e in let m = length-append d y in absurd (omega arith)
starts_somewhere b (c ∷ bs) d y some e full = full.0

others_full : (b : List Entry) (bs : List (List Entry)) → AreFull (b ∷ bs) → AreFull bs
others_full b [] full = tt
others_full b (c ∷ bs) full = full.1

-- a block goes no further than another one that more entries stand behind
no_further : (b c d y : List Entry) (bs : List (List Entry)) → IsBlock c → AreFull (b ∷ bs) → c ≡ b ++ d → entries_of bs ≡ d ++ y → d ≡ []
no_further b c [] y bs is full e g = refl
no_further b c (v ∷ d) y bs is full e g =
    let small = is.closed b (v ∷ d) (omega arith) e in
    let big = starts_somewhere b bs (v ∷ d) y (omega arith) g full in
    absurd (omega arith)

nothing_parted : (b : List Entry) (bs : List (List Entry)) → IsBlock b → [] ≡ b ++ entries_of bs → ⊥
nothing_parted b bs is e = let l = ap length e in let m = length-append b (entries_of bs) in let s = is.some in omega arith

-- entries are parted into blocks in one way
pub one_parting : (bs cs : List (List Entry)) → AllByRecursion IsBlock bs → AllByRecursion IsBlock cs → AreFull bs → AreFull cs → entries_of bs ≡ entries_of cs → bs ≡ cs
one_parting [] [] eb ec fb fc e = refl
one_parting [] (c ∷ cs) eb ec fb fc e = absurd (nothing_parted c cs ec.0 e)
one_parting (b ∷ bs) [] eb ec fb fc e = absurd (nothing_parted b bs eb.0 (sym e))
one_parting (b ∷ bs) (c ∷ cs) eb ec fb fc e =
    let first : b ≡ c = elim (beginnings b c (entries_of bs) (entries_of cs) e) [
      | inl p ↦ sym (p.1 ∙ ap (λ (d : List Entry). b ++ d) (no_further b c p.0 (entries_of cs) bs ec.0 fb p.1 p.2) ∙ append-nil b)
      | inr p ↦ p.1 ∙ ap (λ (d : List Entry). c ++ d) (no_further c b p.0 (entries_of bs) cs eb.0 fc p.1 p.2) ∙ append-nil c
    ] in
    let others = (same_parts b c (entries_of bs) (entries_of cs) (ap length first) e).1 in
    ap (λ (v : List Entry). v ∷ bs) first ∙ ap (λ (vs : List (List Entry)). c ∷ vs) (one_parting bs cs eb.1 ec.1 (others_full b bs fb) (others_full c cs fc) others)

pub one_text_of_entries : (es : List Entry) (bytes other : List ℕ) → IsTable bytes es → IsTable other es → bytes ≡ other
one_text_of_entries es bytes other t u = t.text ∙ ap table_text (one_parting t.blocks u.blocks t.are.each u.are.each t.are.full u.are.full (sym t.all ∙ u.all)) ∙ sym u.text

-- ---- the index

-- what isn't above, and not above that
pub not_above : (x y z : List ℕ) → byte_order x y ≢ Greater → byte_order y z ≢ Greater → byte_order x z ≢ Greater
not_above x y z nxy nyz = of (byte_order x y) (byte_order y z) refl refl
  where
    of : (o p : Ordering) → byte_order x y ≡ o → byte_order y z ≡ p → byte_order x z ≢ Greater
    of Less Less e f = λ g. let t = nat_list_cmp_total.trans x y z e f in absurd cc
    of Less Equal e f = λ g.
        let back : byte_order z y ≡ Equal = nat_list_cmp_total.antisymm z y ∙ ap ordering_reverse f in
        let same : byte_order z x ≡ byte_order y x = nat_list_cmp_total.congr z y x back in
        let up : byte_order y x ≡ Greater = nat_list_cmp_total.antisymm y x ∙ ap ordering_reverse e in
        let down : byte_order z x ≡ Less = nat_list_cmp_total.antisymm z x ∙ ap ordering_reverse g in
        absurd cc
    of Less Greater e f = absurd (nyz f)
    of Equal p e f = λ g. nyz (sym (nat_list_cmp_total.congr x y z e) ∙ g)
    of Greater p e f = absurd (nxy e)

before_not_above : (v w : Entry) → IsBefore v w → byte_order v.key w.key ≢ Greater
before_not_above v w before e = subst (λ (o : Ordering). StandsBefore o v.number w.number) e before

-- of entries in order, the first isn't above a later one
first_not_above : (v w : Entry) (vs ws : List Entry) → IsOrdered ((v ∷ vs) ++ w ∷ ws) → byte_order v.key w.key ≢ Greater
first_not_above v w [] ws up = before_not_above v w up.0
first_not_above v w (x ∷ vs) ws up = not_above v.key x.key w.key (before_not_above v x up.0) (first_not_above x w vs ws up.1)

ascend : (at : ℕ) (blocks : List (List Entry)) → AllByRecursion IsBlock blocks → IsOrdered (entries_of blocks) → Ascend (handles_of at blocks)
ascend at [] each up = tt
ascend at (b ∷ []) each up = tt
ascend at ([] ∷ d ∷ blocks) each up = absurd (let s = each.0.some in omega arith)
ascend at ((v ∷ vs) ∷ [] ∷ blocks) each up = absurd (let s = each.1.0.some in omega arith)
ascend at ((v ∷ vs) ∷ (w ∷ ws) ∷ blocks) each up =
    (first_not_above v w vs (ws ++ entries_of blocks) up, ascend (at + length (block_text (v ∷ vs))) ((w ∷ ws) ∷ blocks) each.1 (ordered_back (v ∷ vs) ((w ∷ ws) ++ entries_of blocks) up))

cover : (at : ℕ) (blocks : List (List Entry)) → Cover at (at + length (data_text blocks)) (handles_of at blocks)
cover at [] = omega arith
cover at (b ∷ blocks) =
    let moved : (at + length (block_text b)) + length (data_text blocks) ≡ at + length (data_text (b ∷ blocks)) = let m = length-append (block_text b) (data_text blocks) in omega arith in
    (refl, subst (λ (end : ℕ). Cover (at + length (block_text b)) end (handles_of (at + length (block_text b)) blocks)) moved (cover (at + length (block_text b)) blocks))

keys : (at : ℕ) (blocks : List (List Entry)) → AllByRecursion IsBlock blocks → AllByRecursion (λ (h : Handle). (0 < length h.first_key) × (length h.first_key < 2 ^ 16)) (handles_of at blocks)
keys at [] each = tt
keys at (b ∷ blocks) each = (of b each.0.some each.0.each, keys (at + length (block_text b)) blocks each.1)
  where
    of : (b : List Entry) → 0 < length b → AllByRecursion IsEntry b → (0 < length (first_key b)) × (length (first_key b) < 2 ^ 16)
    of [] some each = absurd (omega arith)
    of (v ∷ vs) some each = (each.0.some, each.0.key)

handles_some : (at : ℕ) (blocks : List (List Entry)) → 0 < length blocks → 0 < length (handles_of at blocks)
handles_some at [] some = some
handles_some at (b ∷ blocks) some = omega arith

pub blocks_have_an_index : (blocks : List (List Entry)) → AreBlocks blocks → IsIndex (handles_of 0 blocks) (length (data_text blocks))
blocks_have_an_index blocks are = record {
  some = handles_some 0 blocks are.some;
  keys = keys 0 blocks are.each;
  cover = (let none : 0 + length (data_text blocks) ≡ length (data_text blocks) = omega arith in subst (λ (end : ℕ). Cover 0 end (handles_of 0 blocks)) none (cover 0 blocks));
  ascend = ascend 0 blocks are.each are.ordered;
}

pub tables_have_an_index : (bytes : List ℕ) (es : List Entry) → IsTable bytes es → (blocks : List (List Entry)) × AreBlocks blocks × (entries_of blocks ≡ es) × HasIndex bytes (handles_of 0 blocks) (length es)
tables_have_an_index bytes es t =
    let s = sizes bytes t.blocks (end_text (length (data_text t.blocks)) (handles_of 0 t.blocks) (length (entries_of t.blocks))) t.fits t.text in
    let has : HasIndex bytes (handles_of 0 t.blocks) (length (entries_of t.blocks)) = record { front = data_text t.blocks; text = t.text; index = blocks_have_an_index t.blocks t.are; fits = t.fits; number = s.1 } in
    (t.blocks, t.are, sym t.all, subst (λ (xs : List Entry). HasIndex bytes (handles_of 0 t.blocks) (length xs)) (sym t.all) has)
