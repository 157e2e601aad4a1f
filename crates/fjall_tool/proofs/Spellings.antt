-- A pair is spelled as the one write of a batch is, without its first two words.
use Rattle.std.proofs.Common.{◌≡◌, ◌==◌, ℕ, List, [], ◌∷◌, ◌++◌, drop, length, Bool, true, false, Option, Some, None, Result, Ok, Err, refl, subst, sym, ap, ◌∙◌, arith, codes, inl, inr, ◌⊎◌}
use Rattle.std.specs.Prelude.{IfOk, IfSome}
use Rattle.std.proofs.lemmas.Bool.{eqb-true}
use Rattle.std.proofs.lemmas.Fmt.{decimal_digit}
use Rattle.std.proofs.lemmas.List.Elements.{All-cons, All-nil}
use Rattle.fjall_base.specs.Pairs.{Bytes}
use Rattle.fjall_journal.specs.declared.op.Op.TheVariants.{Put, Remove}
use Rattle.fjall_lines.specs.declared.command.Command.{Command}
use Rattle.fjall_lines.specs.declared.command.Command.TheVariants.{Ask}
use Rattle.fjall_lines.specs.declared.command.Request.TheVariants.{Batch}
use Rattle.fjall_lines.specs.Lines.{ReadsLine, IsWrite, Write, spelling}
use Rattle.fjall_reading.specs.Ingestions.{Ascending, with_item}
use Rattle.fjall_tool.specs.Pairs.{AddsPair, Pair, IsPair, SpellsPair, only_pair, pair_line, writes_of}

-- the line of the batch that is read in a pair's place
abbrev pub batch_line : List ℕ → List ℕ
batch_line line = codes "batch 0 " ++ line

abbrev batch_of : Pair → Command
batch_of pair = Ask (Batch ((0, pair.0, pair.1) ∷ []))

spelling_is : (pair : Pair) → spelling (batch_of pair) ≡ batch_line (pair_line pair)
spelling_is pair = ap (λ (id : List ℕ). codes "batch" ++ 32 ∷ (id ++ 32 ∷ pair_line pair)) (decimal_digit 0 (omega arith))

-- whatever pair a line spells, its batch is read
batch_read : (line : List ℕ) (found : Option Command) → ReadsLine (batch_line line) found
    → (pair : Pair) → IsPair pair → line ≡ pair_line pair → found ≡ Some (batch_of pair)
batch_read line found r pair is same =
    r.all_found (batch_of pair) ((λ none. absurd (cc none)), All-cons IsWrite (0, pair.0, pair.1) [] (omega arith, is.0, is.1) (All-nil IsWrite)) (ap batch_line same ∙ sym (spelling_is pair))

pub none_found : (line batch : List ℕ) (found : Option Command) → batch ≡ batch_line line → ReadsLine batch found → writes_of found ≡ None → SpellsPair line None
none_found line batch found is r none = record {
  spelled = tt;
  all_found = λ pair are same.
      let read = batch_read line found (subst (λ (b : List ℕ). ReadsLine b found) is r) pair are same in
      absurd (let no : None ≡ Some ((0, pair.0, pair.1) ∷ []) = sym none ∙ ap writes_of read in cc no);
}

either : (v : Bool) → (v ≡ true) ⊎ (v ≡ false)
either true = inl refl
either false = inr refl

some_more : (next : Write) (more : List Write) → (length (next ∷ more) == 0) ≡ false
some_more next more = elim (either (length (next ∷ more) == 0)) [
  | inl none ↦ absurd (let zero = eqb-true (length (next ∷ more)) 0 none in omega arith)
  | inr some ↦ some
]

-- what the one write of a batch spells
spelled_by : (line : List ℕ) (writes : List Write) → batch_line line ≡ spelling (Ask (Batch writes)) → IfSome (only_pair writes) (λ pair. line ≡ pair_line pair)
spelled_by line [] same = tt
spelled_by line (write ∷ []) same =
    elim (either (write.0 == 0)) [
      | inl zero ↦
          let pair : Pair = (write.1, write.2) in
          let is : write.0 ≡ 0 = eqb-true write.0 0 zero in
          let one : batch_line line ≡ batch_line (pair_line pair) = same ∙ ap (λ (id : ℕ). spelling (Ask (Batch ((id, write.1, write.2) ∷ [])))) is ∙ spelling_is pair in
          rw zero (ap (drop 8) one)
      | inr other ↦ rw other tt
    ]
spelled_by line (write ∷ next ∷ more) same =
    elim (either (write.0 == 0)) [
      | inl zero ↦ rw (zero, some_more next more) tt
      | inr other ↦ rw other tt
    ]

only_found : (line : List ℕ) (found : Option Command) (writes : List Write) → ReadsLine (batch_line line) found → found ≡ Some (Ask (Batch writes)) → SpellsPair line (only_pair writes)
only_found line found writes r batch = record {
  spelled = spelled_by line writes (subst (λ (c : Option Command). IfSome c (λ command. batch_line line ≡ spelling command)) batch r.spelled);
  all_found = λ pair are same.
      let read = batch_read line found r pair are same in
      let all : writes ≡ (0, pair.0, pair.1) ∷ [] = cc (sym batch ∙ read) in
      ap only_pair all;
}

pub pair_found : {E : Type 0} (line batch : List ℕ) (found : Option Command) (writes : List Write) (r : Result (Option Pair) E) → batch ≡ batch_line line → ReadsLine batch found → found ≡ Some (Ask (Batch writes))
    → IfOk r (λ one. one ≡ only_pair writes) → IfOk r (λ one. SpellsPair line one)
pair_found line batch found writes (Ok one) is reads all same = subst (SpellsPair line) (sym same) (only_found line found writes (subst (λ (b : List ℕ). ReadsLine b found) is reads) all)
pair_found line batch found writes (Err error) is reads all same = tt

-- a bulk write that has one item more, that of the pair that was found
pub value_added : {H : Type 0} (line : List ℕ) (found : Option Pair) (key value : Bytes) (new_value : Option Bytes) (old new : Ascending H) → SpellsPair line found → found ≡ Some (key, new_value) → new_value ≡ Some value
    → new ≡ with_item (key, Put value) old → AddsPair line old new
value_added line found key value new_value old new s is some more =
    let spelled : line ≡ pair_line (key, Some value) = subst (λ (o : Option Pair). IfSome o (λ pair. line ≡ pair_line pair)) (is ∙ ap (λ (v : Option Bytes). Some (key, v)) some) s.spelled in
    ((key, Put value), ((key, Some value), spelled, refl), more)

pub removal_added : {H : Type 0} (line : List ℕ) (found : Option Pair) (key : Bytes) (new_value : Option Bytes) (old new : Ascending H) → SpellsPair line found → found ≡ Some (key, new_value) → new_value ≡ None
    → new ≡ with_item (key, Remove) old → AddsPair line old new
removal_added line found key new_value old new s is none more =
    let spelled : line ≡ pair_line (key, None) = subst (λ (o : Option Pair). IfSome o (λ pair. line ≡ pair_line pair)) (is ∙ ap (λ (v : Option Bytes). Some (key, v)) none) s.spelled in
    ((key, Remove), ((key, None), spelled, refl), more)
