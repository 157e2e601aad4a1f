-- What a text holds whole: one list of batches, and one more where one more text is added.
use Rattle.std.proofs.Common.{subst, ◌≡◌, ℕ, ◌+◌, ◌≤◌, List, [], ◌∷◌, ◌++◌, length, take, drop, refl, sym, ap, ◌∙◌, append_assoc, arith}
use Rattle.std.specs.List.{flat_map, AllByRecursion}
use Rattle.std.proofs.lemmas.List.{take_at, drop_at, length-append, append-nil, take-append-drop, take_all, length-drop, append_cancel_left}
use Rattle.std.proofs.lemmas.List.Concat.{flat_map-cons}
use Rattle.std.proofs.lemmas.Grind.{flat_map-append}
use Rattle.std.proofs.Math.Seq.{take-append-add, drop-append-add}
use Rattle.fjall_journal.specs.declared.entry.Entry.{Entry}
use Rattle.fjall_journal.specs.declared.entry.Entry.TheVariants.{Start, Item, End, Clear}
use Rattle.fjall_journal.specs.Spelling.{spelling, HasSpelling}
use Rattle.fjall_journal.specs.Batches.{Written, IsChange, checked, batch_text, IsWritten, NoneAt, IsWhole}
use Rattle.fjall_base.specs.Check.{check}
use Rattle.fjall_journal.proofs.Entries.{one_spelling}
use Rattle.fjall_base.proofs.Codecs.{one_behind, each_more}
use Rattle.fjall_journal.proofs.Cuts.{none_at_nil}

-- the batches' text, and then no batch
whole_of : (bs : List Written) (rest : List ℕ) → AllByRecursion IsWritten bs → NoneAt rest → IsWhole (flat_map batch_text bs ++ rest) bs (length (flat_map batch_text bs))
whole_of bs rest each none = record {
  within = omega (arith, length-append (flat_map batch_text bs) rest);
  texts = take_at (flat_map batch_text bs) rest (length (flat_map batch_text bs)) refl;
  each = each;
  last = λ b more is at. none b more is (sym (drop_at (flat_map batch_text bs) rest (length (flat_map batch_text bs)) refl) ∙ at);
}

pub texts_are_whole : (bs : List Written) → AllByRecursion IsWritten bs → IsWhole (flat_map batch_text bs) bs (length (flat_map batch_text bs))
texts_are_whole bs each =
    subst (λ (text : List ℕ). IsWhole text bs (length (flat_map batch_text bs))) (append-nil (flat_map batch_text bs)) (whole_of bs [] each none_at_nil)

-- a text that is whole up to its end is its batches' text
whole_is : (text : List ℕ) (bs : List Written) → IsWhole text bs (length text) → text ≡ flat_map batch_text bs
whole_is text bs w = sym (take_all (length text) text (omega arith)) ∙ w.texts

pub whole_grows : (text : List ℕ) (bs : List Written) (b : Written) → IsWhole text bs (length text) → IsWritten b → IsWhole (text ++ batch_text b) (bs ++ b ∷ []) (length (text ++ batch_text b))
whole_grows text bs b w is =
    let more : flat_map batch_text (bs ++ b ∷ []) ≡ text ++ batch_text b =
    sym (append-nil (flat_map batch_text (bs ++ b ∷ []))) ∙ sym (one_behind batch_text bs b []) ∙ ap (λ (v : List ℕ). flat_map batch_text bs ++ v) (append-nil (batch_text b)) ∙ ap (λ (v : List ℕ). v ++ batch_text b) (sym (whole_is text bs w)) in
    subst (λ (v : List ℕ). IsWhole v (bs ++ b ∷ []) (length v)) more (texts_are_whole (bs ++ b ∷ []) (each_more IsWritten bs b w.each is))

-- batches before a whole text
pub whole_behind : (first bs : List Written) (text : List ℕ) (end : ℕ) → AllByRecursion IsWritten first → IsWhole text bs end → IsWhole (flat_map batch_text first ++ text) (first ++ bs) (length (flat_map batch_text first) + end)
whole_behind first bs text end each w =
    let front = flat_map batch_text first in
    let taken : take (length front + end) (front ++ text) ≡ front ++ take end text = take-append-add front text end in
    let left : drop (length front + end) (front ++ text) ≡ drop end text = drop-append-add front text end in
    record {
      within = let h = w.within in omega (arith, length-append front text);
      texts = taken ∙ ap (λ (v : List ℕ). front ++ v) w.texts ∙ sym (flat_map-append batch_text first bs);
      each = each_both first bs each w.each;
      last = λ b more is at. w.last b more is (sym left ∙ at);
    }
  where
    each_both : (first bs : List Written) → AllByRecursion IsWritten first → AllByRecursion IsWritten bs → AllByRecursion IsWritten (first ++ bs)
    each_both [] bs each others = others
    each_both (b ∷ first) bs each others = (each.0, each_both first bs each.1 others)

-- ---- one list of batches

first_of : {A : Type 0} (f : A → List ℕ) (a : A) (others : List A) (x : List ℕ) → flat_map f (a ∷ others) ++ x ≡ f a ++ (flat_map f others ++ x)
first_of f a others x = ap (λ (v : List ℕ). v ++ x) (flat_map-cons f a others) ∙ append_assoc (f a) (flat_map f others) x

is_entry : (change : Entry) → IsChange change → HasSpelling change
is_entry (Start count number) h = absurd h
is_entry (Item id key value kind compression) h = h
is_entry (End found) h = absurd h
is_entry (Clear id) h = h

same_changes : (cs ds : List Entry) (x y : List ℕ) → AllByRecursion IsChange cs → AllByRecursion IsChange ds → length cs ≡ length ds → flat_map spelling cs ++ x ≡ flat_map spelling ds ++ y → cs ≡ ds
same_changes [] [] x y c d len e = refl
same_changes [] (b ∷ ds) x y c d len e = absurd (omega arith)
same_changes (a ∷ cs) [] x y c d len e = absurd (omega arith)
same_changes (a ∷ cs) (b ∷ ds) x y c d len e =
    let first : spelling a ++ (flat_map spelling cs ++ x) ≡ spelling b ++ (flat_map spelling ds ++ y) = sym (first_of spelling a cs x) ∙ e ∙ first_of spelling b ds y in
    let same = one_spelling a b (spelling a) (spelling b) (flat_map spelling cs ++ x) (flat_map spelling ds ++ y) (is_entry a c.0, refl) (is_entry b d.0, refl) first in
    let others : flat_map spelling cs ++ x ≡ flat_map spelling ds ++ y = append_cancel_left (spelling b) _ _ (ap (λ (v : List ℕ). v ++ (flat_map spelling cs ++ x)) (sym same.1) ∙ first) in
    rw (same.0, same_changes cs ds x y c.1 d.1 (omega arith) others) refl

-- no batch's text begins another's
same_batch : (a b : Written) (x y : List ℕ) → IsWritten a → IsWritten b → batch_text a ++ x ≡ batch_text b ++ y → a ≡ b
same_batch a b x y ia ib e =
    let first : spelling (Start (length a.changes) a.number) ++ (flat_map spelling a.changes ++ (spelling (End (check (checked a))) ++ x)) ≡ spelling (Start (length b.changes) b.number) ++ (flat_map spelling b.changes ++ (spelling (End (check (checked b))) ++ y)) = sym (parts a x) ∙ e ∙ parts b y in
    let same = one_spelling (Start (length a.changes) a.number) (Start (length b.changes) b.number) _ _ _ _ ((ia.count, ia.number), refl) ((ib.count, ib.number), refl) first in
    let counts : length a.changes ≡ length b.changes = let s = same.0 in cc in
    let numbers : a.number ≡ b.number = let s = same.0 in cc in
    let others = append_cancel_left (spelling (Start (length b.changes) b.number)) _ _ (ap (λ (v : List ℕ). v ++ (flat_map spelling a.changes ++ (spelling (End (check (checked a))) ++ x))) (sym same.1) ∙ first) in
    let changes : a.changes ≡ b.changes = same_changes a.changes b.changes _ _ ia.each ib.each counts others in
    ap (λ (n : ℕ). record a { number = n }) numbers ∙ ap (λ (cs : List Entry). record b { changes = cs }) changes
  where
    parts : (a : Written) (x : List ℕ) → batch_text a ++ x ≡ spelling (Start (length a.changes) a.number) ++ (flat_map spelling a.changes ++ (spelling (End (check (checked a))) ++ x))
    parts a x = append_assoc (checked a) (spelling (End (check (checked a)))) x ∙ append_assoc (spelling (Start (length a.changes) a.number)) (flat_map spelling a.changes) (spelling (End (check (checked a))) ++ x)

same_batches : (ps bs : List Written) (x y : List ℕ) → AllByRecursion IsWritten ps → AllByRecursion IsWritten bs → NoneAt x → NoneAt y → flat_map batch_text ps ++ x ≡ flat_map batch_text bs ++ y → (ps ≡ bs) × (x ≡ y)
same_batches [] [] x y ea eb nx ny e = (refl, e)
same_batches (a ∷ ps) [] x y ea eb nx ny e = absurd (ny a (flat_map batch_text ps ++ x) ea.0 (sym e ∙ first_of batch_text a ps x))
same_batches [] (b ∷ bs) x y ea eb nx ny e = absurd (nx b (flat_map batch_text bs ++ y) eb.0 (e ∙ first_of batch_text b bs y))
same_batches (a ∷ ps) (b ∷ bs) x y ea eb nx ny e =
    let both : batch_text a ++ (flat_map batch_text ps ++ x) ≡ batch_text b ++ (flat_map batch_text bs ++ y) = sym (first_of batch_text a ps x) ∙ e ∙ first_of batch_text b bs y in
    let same = same_batch a b _ _ ea.0 eb.0 both in
    let behind = append_cancel_left (batch_text b) _ _ (ap (λ (v : Written). batch_text v ++ (flat_map batch_text ps ++ x)) (sym same) ∙ both) in
    let others = same_batches ps bs x y ea.1 eb.1 nx ny behind in
    (rw (same, others.0) refl, others.1)

pub one_reading : (text : List ℕ) (ps bs : List Written) (m n : ℕ) → IsWhole text ps m → IsWhole text bs n → (ps ≡ bs) × (m ≡ n)
one_reading text ps bs m n p q =
    let ea : flat_map batch_text ps ++ drop m text ≡ text = ap (λ (v : List ℕ). v ++ drop m text) (sym p.texts) ∙ take-append-drop m text in
    let eb : flat_map batch_text bs ++ drop n text ≡ text = ap (λ (v : List ℕ). v ++ drop n text) (sym q.texts) ∙ take-append-drop n text in
    let one = same_batches ps bs (drop m text) (drop n text) p.each q.each p.last q.last (ea ∙ sym eb) in
    (one.0, same_length m n p.within q.within (ap length one.1))
  where
    same_length : (m n : ℕ) → m ≤ length text → n ≤ length text → length (drop m text) ≡ length (drop n text) → m ≡ n
    same_length m n hm hn e = omega (arith, length-drop m text, length-drop n text)
