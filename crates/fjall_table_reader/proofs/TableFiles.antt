-- Tables in files: their parts, their ends and their blocks.
use Rattle.std.proofs.Common.{◌≡◌, inl, inr, ℕ, ◌+◌, ◌<◌, ◌≤◌, ◌^◌, List, ◌++◌, length, take, drop, slice_get, Some, Result, Ok, Err, IfOk, IfErr, refl, sym, ap, subst, ◌∙◌, arith}
use Rattle.std.proofs.lemmas.Bool.{cases_lt}
use Rattle.std.proofs.lemmas.List.{length-append, length-drop, length-take, take-append-drop, take_all}
use Rattle.std.proofs.Math.Seq.{take-add}
use Rattle.fjall_base.specs.declared.error.Error.{Error}
use Rattle.fjall_base.specs.declared.error.Error.TheVariants.{Io, OutOfMemory, Storage}
use Rattle.fjall_base.specs.declared.error.StorageError.TheVariants.{TableDamaged}
use Rattle.fjall_base.specs.Disk as disk
use Rattle.fjall_base.specs.Disk.{IsFile}
use Rattle.fjall_base.specs.Errors.{Rose}
use Rattle.fjall_table.specs.declared.footer.Footer.{Footer}
use Rattle.fjall_table.specs.declared.table_info.TableInfo.{TableInfo}
use Rattle.fjall_table.specs.Reading.{DamagedWhere}
use Rattle.fjall_table.specs.Blocks.{Entry}
use Rattle.fjall_table.specs.Tables.{Handle, handles_of, footer_text, index_text, end_text, IsIndex, HasIndex}
use Rattle.fjall_table.specs.TableReading.{IsNoFooter, IsNoIndex}
use Rattle.fjall_table_reader.specs.Files.{EndsNoTable, HasFooter, HasNoPart, HasPart, HoldsNoTable, HoldsTable, IsIndexed, IsRefused, IsTableOf, bytes_in}
use Rattle.fjall_table.proofs.Indexes.{covers}
use Rattle.fjall_table.proofs.TableBlocks.{one_index}
use Rattle.fjall_table.proofs.TableLaws.{one_list_of_entries, tables_have_an_index}
use Rattle.fjall_table.proofs.TableReading.{ends, no_end, no_index, offset_within, opened, same_footer, too_short}

-- ---- a record's file

pub has_an_index : (info : TableInfo) (bytes : List ℕ) (es : List Entry) → IsTableOf info bytes es → (handles : List Handle) × IsIndexed info bytes handles
has_an_index info bytes es is =
    let found = tables_have_an_index bytes es is.table in
    (handles_of 0 found.0, record { len = is.len; index = subst (λ (n : ℕ). HasIndex bytes (handles_of 0 found.0) n) (sym is.count) found.3 })

pub one_index_of : (info : TableInfo) (bytes : List ℕ) (hs gs : List Handle) → IsIndexed info bytes hs → IsIndexed info bytes gs → hs ≡ gs
one_index_of info bytes hs gs h g = (one_index bytes hs gs info.entry_count info.entry_count h.index g.index).0

pub one_list_of : (info : TableInfo) (bytes : List ℕ) (es fs : List Entry) → IsTableOf info bytes es → IsTableOf info bytes fs → es ≡ fs
one_list_of info bytes es fs e f = one_list_of_entries bytes es fs e.table f.table

-- ---- refusals passed on

-- a fault behind others
rose_from : (before mid after : ℕ) → before ≤ mid → mid ≤ after → Rose mid after → Rose before after
rose_from before mid after le more (inl rose) = inl (omega (arith, le, rose))
rose_from before mid after le more (inr full) = elim (cases_lt before mid) [
  | inl less ↦ inl (omega (arith, less, more))
  | inr same ↦ inr (omega (arith, same, le, full))
]

-- a later call's refusal
pub refused_later : (P Q : Type 0) (before mid after : ℕ) (e : Error) → before ≤ mid → mid ≤ after → (P → Q) → IsRefused P mid after e → IsRefused Q before after e
refused_later P Q before mid after (Io kind) le more why is = rose_from before mid after le more is
refused_later P Q before mid after OutOfMemory le more why is = tt
refused_later P Q before mid after (Storage told) le more why is = (is.0, why is.1)
refused_later P Q before mid after _ le more why is = absurd is

-- the refusal of bytes that were read
pub refused_bytes : (P Q : Type 0) (before after : ℕ) (e : Error) → (P → Q) → DamagedWhere TableDamaged P e → IsRefused Q before after e
refused_bytes P Q before after OutOfMemory why is = tt
refused_bytes P Q before after (Storage told) why is = (is.0, why is.1)
refused_bytes P Q before after _ why is = absurd is

pub refused_if : {X : Type 0} (r : Result X Error) (P Q : Type 0) (before after : ℕ) → (P → Q) → IfErr r (DamagedWhere TableDamaged P) → IfErr r (IsRefused Q before after)
refused_if (Ok x) P Q before after why is = tt
refused_if (Err e) P Q before after why is = refused_bytes P Q before after e why is

-- ---- the end of a file

pub no_footer_told : (end : List ℕ) (index_end count : ℕ) → IsNoFooter end → EndsNoTable end index_end count
no_footer_told end index_end count none len front hs at h = no_end (front ++ end) front end hs count refl len none h

module _ (end : List ℕ) (index_end count o l n : ℕ) (text : end ≡ footer_text o l n) (fo : o < 2 ^ 64) (fl : l < 2 ^ 64) (fn : n < 2 ^ 64) where
  pub other_count : (n ≡ count → ⊥) → EndsNoTable end index_end count
  other_count bad len front hs at h = bad (same_footer (front ++ end) front end hs count o l n refl len text fo fl fn h).count

  pub beyond : index_end < o → EndsNoTable end index_end count
  beyond far len front hs at h = omega (arith, offset_within (front ++ end) front end hs count o l n refl len text fo fl fn h, far, at)

  pub ends_elsewhere : (o + l ≡ index_end → ⊥) → EndsNoTable end index_end count
  ends_elsewhere bad len front hs at h =
      let s = same_footer (front ++ end) front end hs count o l n refl len text fo fl fn h in
      let t = ends (front ++ end) front end hs count refl len h in
      bad (omega (arith, ap length t.front_is, length-append h.front (index_text hs), s.offset, s.len, at))

-- too short for a footer
pub no_room : (entry : disk.DiskEntry) (info : TableInfo) → info.file_len < 36 → HoldsNoTable entry info
no_room entry info lt hs h = too_short (bytes_in entry) hs info.entry_count (omega (arith, lt, h.is.len)) h.is.index

-- a file that has fewer bytes
pub shorter : (entry : disk.DiskEntry) (info : TableInfo) (at len : ℕ) → at + len ≡ info.file_len → HasNoPart entry at len → HoldsNoTable entry info
shorter entry info at len sum none hs h = omega (arith, none h.file, h.is.len, sum)

-- the last part of a file
part_is_end : (bytes : List ℕ) (at len : ℕ) → at + len ≡ length bytes → take len (drop at bytes) ≡ drop at bytes
part_is_end bytes at len sum = take_all len (drop at bytes) (omega (arith, length-drop at bytes, sum))

-- its last bytes were read, and it has no others
module _ (entry : disk.DiskEntry) (info : TableInfo) (end : List ℕ) (index_end : ℕ) (sum : index_end + 36 ≡ info.file_len) (fits : info.file_len < 2 ^ 64) (part : HasPart entry index_end 36 end) (no_more : length (bytes_in entry) ≤ info.file_len) where
  all : index_end + 36 ≡ length (bytes_in entry)
  all = omega (arith, sum, part.within, no_more)

  end_is : end ≡ drop index_end (bytes_in entry)
  end_is = part.is ∙ part_is_end (bytes_in entry) index_end 36 all

  pub footer_read : (r : Result Footer Error) → IfOk r (λ f. end ≡ footer_text f.index_offset f.index_len f.entry_count) → IfOk r (λ f. f.index_offset + f.index_len ≡ index_end) → IfOk r (λ f. f.entry_count ≡ info.entry_count) → IfOk r (HasFooter entry info)
  footer_read (Ok f) text whole count = record {
    file = part.file;
    len = sym all ∙ sum;
    fits = omega (arith, all, sum, fits);
    whole = ap (λ (n : ℕ). n + 36) whole ∙ sum;
    count = count;
    text = ap (λ (n : ℕ). drop n (bytes_in entry)) whole ∙ sym end_is ∙ text;
  }
  footer_read (Err e) text whole count = tt

  pub no_table_told : EndsNoTable end index_end info.entry_count → HoldsNoTable entry info
  no_table_told none hs h =
      let split : bytes_in entry ≡ take index_end (bytes_in entry) ++ end = sym (take-append-drop index_end (bytes_in entry)) ∙ ap (λ (t : List ℕ). take index_end (bytes_in entry) ++ t) (sym end_is) in
      none (omega (arith, ap length end_is, length-drop index_end (bytes_in entry), all)) (take index_end (bytes_in entry)) hs (omega (arith, length-take index_end (bytes_in entry), all))
      (subst (λ (b : List ℕ). HasIndex b hs info.entry_count) split h.is.index)

-- ---- the index of a file

module _ (entry : disk.DiskEntry) (info : TableInfo) (f : Footer) (has : HasFooter entry info f) where
  module _ (fo : f.index_offset < 2 ^ 64) (fl : f.index_len < 2 ^ 64) (fn : f.entry_count < 2 ^ 64) (framed : List ℕ) (part : HasPart entry f.index_offset f.index_len framed) where
    front : List ℕ
    front = take (f.index_offset + f.index_len) (bytes_in entry)

    end : List ℕ
    end = drop (f.index_offset + f.index_len) (bytes_in entry)

    line : bytes_in entry ≡ front ++ end
    unfolding front end
    line = sym (take-append-drop (f.index_offset + f.index_len) (bytes_in entry))

    front_is : front ≡ take f.index_offset (bytes_in entry) ++ framed
    unfolding front
    front_is = take-add f.index_offset f.index_len (bytes_in entry) ∙ ap (λ (t : List ℕ). take f.index_offset (bytes_in entry) ++ t) (sym part.is)

    end_len : length end ≡ 36
    unfolding end
    end_len = omega (arith, length-drop (f.index_offset + f.index_len) (bytes_in entry), has.len, has.whole)

    end_text_is : end ≡ footer_text f.index_offset f.index_len f.entry_count
    unfolding end
    end_text_is = has.text

    before_len : length (take f.index_offset (bytes_in entry)) ≡ f.index_offset
    before_len = omega (arith, length-take f.index_offset (bytes_in entry), has.len, has.whole)

    framed_len : length framed ≡ f.index_len
    framed_len = omega (arith, ap length part.is, length-take f.index_len (drop f.index_offset (bytes_in entry)), length-drop f.index_offset (bytes_in entry), has.len, has.whole)

    pub table_held : (hs : List Handle) → IsIndex hs f.index_offset → framed ≡ index_text hs → HoldsTable entry info hs
    table_held hs index text =
        let found = opened (bytes_in entry) front end (take f.index_offset (bytes_in entry)) framed hs f.index_offset f.index_len f.entry_count line end_text_is front_is before_len framed_len text index has.fits fn in
        record { file = has.file; is = record { len = has.len; index = subst (λ (n : ℕ). HasIndex (bytes_in entry) hs n) has.count found.has } }

    pub no_table_held : IsNoIndex framed f.index_offset → HoldsNoTable entry info
    no_table_held none hs h = no_index (bytes_in entry) front end (take f.index_offset (bytes_in entry)) framed hs info.entry_count f.index_offset f.index_len f.entry_count line end_len end_text_is fo fl fn front_is before_len none h.is.index

-- ---- a block of a file

-- the handles of a table name parts of its file
pub within_table : (entry : disk.DiskEntry) (info : TableInfo) (hs : List Handle) (at : ℕ) (h : Handle) → HoldsTable entry info hs → slice_get hs at ≡ Some h → HasNoPart entry h.offset h.len → ⊥
within_table entry info hs at h holds here none =
    let i = holds.is.index in
    let rest = end_text (length i.front) hs info.entry_count in
    omega (arith, none holds.file, covers 0 (length i.front) at hs h i.index.cover (sym here), ap length i.text, length-append i.front rest)
