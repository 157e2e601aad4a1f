-- An input is cut into lines, one after another, and its items are those of the lines.
use Rattle.std.proofs.Common.{◌≡◌, ◌==◌, ℕ, suc, ◌-◌, ◌<◌, List, [], ◌∷◌, ◌++◌, length, Bool, true, false, Option, Some, None, Result, Ok, refl, subst, sym, ap, ◌∙◌, append_assoc, arith, inl, inr, ◌⊎◌}
use Rattle.std.specs.Prelude.{IfSome, vec_items, Vec}
use Rattle.std.specs.List.{AllZip, onto_first}
use Rattle.std.specs.Io.BufRead.{DropsThrough, drop_through, ends_with_byte, first_piece, strip_last, take_through}
use Rattle.std.specs.Io.Iter.{YieldsKnownPiece}
use Rattle.std.specs.Io.KnownBytes.{Appends, IsAtEnd}
use Rattle.std.proofs.lemmas.Bool.{eqb-true, lt-ltb}
use Rattle.std.proofs.lemmas.List.{append-nil}
use Rattle.fjall_lines.specs.Lines.{lines_of}
use Rattle.fjall_reading.specs.Ingestions.{Ascending, IsIngestible, KeyOp}
use Rattle.fjall_tool.specs.Answers.{PrintsLoaded, loaded_line}
use Rattle.fjall_tool.specs.Pairs.{AddsPair, HasNoPair, IsNoPair, SpellItems, SpellsItem}

either : (v : Bool) → (v ≡ true) ⊎ (v ≡ false)
either true = inl refl
either false = inr refl

-- a first byte more changes nothing at the end
same_end : (b c : ℕ) (rest : List ℕ) → ends_with_byte 10 (b ∷ c ∷ rest) ≡ ends_with_byte 10 (c ∷ rest)
same_end b c rest =
    let long : length (b ∷ c ∷ rest) - 1 ≡ suc (length rest) = omega arith in
    let short : length (c ∷ rest) - 1 ≡ length rest = omega arith in
    rw (long, short, lt-ltb 0 (length (b ∷ c ∷ rest)) (omega arith), lt-ltb 0 (length (c ∷ rest)) (omega arith)) refl

strip_more : (b c : ℕ) (rest : List ℕ) → strip_last 10 (b ∷ c ∷ rest) ≡ b ∷ strip_last 10 (c ∷ rest)
strip_more b c rest =
    let long : length (b ∷ c ∷ rest) - 1 ≡ suc (length rest) = omega arith in
    let short : length (c ∷ rest) - 1 ≡ length rest = omega arith in
    elim (either (ends_with_byte 10 (c ∷ rest))) [
      | inl e ↦ rw (same_end b c rest ∙ e, e, long, short) refl
      | inr e ↦ rw (same_end b c rest ∙ e, e) refl
    ]

-- what is taken begins with the first byte
through_first : (c : ℕ) (rest : List ℕ) → (more : List ℕ) × (take_through 10 (c ∷ rest) ≡ c ∷ more)
through_first c rest = elim (either (c == 10)) [
  | inl e ↦ ([], rw e refl)
  | inr e ↦ (take_through 10 rest, rw e refl)
]

first_more : (b c : ℕ) (rest : List ℕ) → (b == 10) ≡ false → first_piece 10 (b ∷ c ∷ rest) ≡ b ∷ first_piece 10 (c ∷ rest)
first_more b c rest e =
    let taken = through_first c rest in
    rw (e, taken.1) (strip_more b c taken.0)

-- the first line is the first piece, and the others are those of what is left
next_line : (rest : List ℕ) → 0 < length rest → lines_of rest ≡ first_piece 10 rest ∷ lines_of (drop_through 10 rest)
next_line [] some = absurd (omega arith)
next_line (b ∷ []) some = elim (either (b == 10)) [
  | inl e ↦ let feed : b ≡ 10 = eqb-true b 10 e in rw feed refl
  | inr e ↦ rw e (rw e refl)
]
next_line (b ∷ c ∷ rest) some = elim (either (b == 10)) [
  | inl e ↦ let feed : b ≡ 10 = eqb-true b 10 e in rw feed refl
  | inr e ↦
      let ih = next_line (c ∷ rest) (omega arith) in
      let cut : lines_of (b ∷ c ∷ rest) ≡ (b ∷ first_piece 10 (c ∷ rest)) ∷ lines_of (drop_through 10 (c ∷ rest)) = rw e (ap (onto_first b) ih) in
      let left : drop_through 10 (b ∷ c ∷ rest) ≡ drop_through 10 (c ∷ rest) = rw e refl in
      cut ∙ ap (λ (p : List ℕ). p ∷ lines_of (drop_through 10 (c ∷ rest))) (sym (first_more b c rest e))
      ∙ ap (λ (l : List ℕ). first_piece 10 (b ∷ c ∷ rest) ∷ lines_of l) (sym left)
]

-- Of a text this is left, and its lines up to there spell these items.
pub record IsReadUpTo (text rest : List ℕ) (items : List KeyOp) : Type 0 where
  pub front : List (List ℕ)
  pub cut : lines_of text ≡ front ++ lines_of rest
  pub spelled : AllZip SpellsItem front items

-- Of a known input this is left.
abbrev pub IsReading : Option (List ℕ) → Option (List ℕ) → List KeyOp → Type 0
IsReading known left items = IfSome known (λ text. (rest : List ℕ) × (left ≡ Some rest) × IsReadUpTo text rest items)

pub begun : (known left : Option (List ℕ)) (items : List KeyOp) → left ≡ known → items ≡ [] → IsReading known left items
begun None left items same none = tt
begun (Some text) left items same none = (text, same, record { front = []; cut = refl; spelled = rw none tt })

-- What an item of the iterator says of a line.
abbrev IsFirst : List ℕ → Option (List ℕ) → Type 0
IsFirst line left = IfSome left (λ rest. (0 < length rest) × (line ≡ first_piece 10 rest))

pub piece_of : {A E : Type 0} (byte : ℕ) (left next : Option (List ℕ)) (r : Result (Vec ℕ A) E) (line : Vec ℕ A) → byte ≡ 10 → r ≡ Ok line
    → YieldsKnownPiece vec_items (first_piece byte) byte left (Some r) next → IsFirst (vec_items line) left × DropsThrough left next 10
piece_of {A} {E} byte left next r line feed is yields =
    subst (λ (b : ℕ). YieldsKnownPiece {X = Vec ℕ A} {E = E} vec_items (first_piece b) b left (Some (Ok line)) next) feed
    (subst (λ (x : Result (Vec ℕ A) E). YieldsKnownPiece vec_items (first_piece byte) byte left (Some x) next) is yields)

-- a first line, as the text is cut
cut_at : (line rest : List ℕ) → (0 < length rest) × (line ≡ first_piece 10 rest) → lines_of rest ≡ line ∷ lines_of (drop_through 10 rest)
cut_at line rest first = next_line rest first.0 ∙ ap (λ (p : List ℕ). p ∷ lines_of (drop_through 10 rest)) (sym first.1)

zip_more : (lines : List (List ℕ)) (items : List KeyOp) (line : List ℕ) (item : KeyOp) → AllZip SpellsItem lines items → SpellsItem line item → AllZip SpellsItem (lines ++ line ∷ []) (items ++ item ∷ [])
zip_more [] [] line item all s = (s, tt)
zip_more [] (i ∷ items) line item all s = absurd all
zip_more (l ∷ lines) [] line item all s = absurd all
zip_more (l ∷ lines) (i ∷ items) line item all s = (all.0, zip_more lines items line item all.1 s)

one_read : (known left next : Option (List ℕ)) (items : List KeyOp) (line : List ℕ) (item : KeyOp) → IsReading known left items → IsFirst line left → DropsThrough left next 10 → SpellsItem line item
    → IsReading known next (items ++ item ∷ [])
one_read None left next items line item reading first drops s = tt
one_read (Some text) left next items line item (rest, is, up) first drops s =
    let here = cut_at line rest (subst (IsFirst line) is first) in
    let after : next ≡ Some (drop_through 10 rest) = subst (λ (o : Option (List ℕ)). DropsThrough o next 10) is drops in (
      drop_through 10 rest,
      after,
      record {
        front = up.front ++ line ∷ [];
        cut = up.cut ∙ ap (λ (l : List (List ℕ)). up.front ++ l) here ∙ sym (append_assoc up.front (line ∷ []) (lines_of (drop_through 10 rest)));
        spelled = zip_more up.front items line item up.spelled s;
      },
    )

-- The same where a bulk write has one item more.
pub line_read : {H : Type 0} (known left next : Option (List ℕ)) (old new : Ascending H) (line read : List ℕ) → IsReading known left old.items → IsFirst line left → DropsThrough left next 10 → read ≡ line
    → AddsPair read old new → IsReading known next new.items
line_read {H} known left next old new line read reading first drops same (item, spells, more) =
    let items : new.items ≡ old.items ++ item ∷ [] = ap (λ (ingestion : Ascending H). ingestion.items) more in
    subst (IsReading known next) (sym items) (one_read known left next old.items line item reading first drops (subst (λ (l : List ℕ). SpellsItem l item) same spells))

pub bad_read : (known left : Option (List ℕ)) (items : List KeyOp) (line : List ℕ) → IsReading known left items → IsFirst line left → IsNoPair line → HasNoPair known
bad_read None left items line reading first none = tt
bad_read (Some text) left items line (rest, is, up) first none =
    let here = cut_at line rest (subst (IsFirst line) is first) in
    (up.front, lines_of (drop_through 10 rest), line, up.cut ∙ ap (λ (l : List (List ℕ)). up.front ++ l) here, none)

pub all_read : (known left : Option (List ℕ)) (items : List KeyOp) → IsReading known left items → IsAtEnd left → SpellItems known items
all_read None left items reading end = tt
all_read (Some text) left items (rest, is, up) end =
    let none : rest ≡ [] = subst IsAtEnd is end in
    let whole : lines_of text ≡ up.front = up.cut ∙ ap (λ (r : List ℕ). up.front ++ lines_of r) none ∙ append-nil up.front in
    subst (λ (lines : List (List ℕ)). AllZip SpellsItem lines items) (sym whole) up.spelled

pub printed : (known old new : Option (List ℕ)) (items : List KeyOp) (count : ℕ) → SpellItems known items → IsIngestible items → count ≡ length items → Appends old new (loaded_line count)
    → PrintsLoaded known old new
printed None old new items count spelled sound same appends = tt
printed (Some text) old new items count spelled sound same appends = (items, spelled, sound, subst (λ (n : ℕ). Appends old new (loaded_line n)) same appends)
