-- The raising of watermarks, one after another, as relations of look-ups.
use Rattle.std.proofs.Common.{◌≡◌, ◌≢◌, ℕ, ◌+◌, ◌<◌, arith, cond, max, get_or, length, take, List, [], ◌∷◌, ◌++◌, map, nat_eq, unwrap_or, refl, sym, ap, ◌∙◌, subst}
use Rattle.std.proofs.lemmas.List.{append-nil, append_assoc, map-append}
use Rattle.std.proofs.lemmas.List.Sums.{fold_more}
use Rattle.std.specs.Prelude.{Option, Some, None}
use Rattle.std.specs.declared.cmp.Ordering.{Ordering}
use Rattle.std.specs.declared.cmp.Ordering.TheVariants.{Equal, Greater}
use Rattle.std.specs.BTreeMap.{insert_entry}
use Rattle.fjall_journal.specs.Batches.{Shown, Written, clears_of, items_of, shown}
use Rattle.fjall_journal.specs.Changes.{Change, Emptied, Items, of_change}
use Rattle.std.specs.Ordering.{match_ordering, nat_cmp}
use Rattle.fjall_journal.specs.Ops.{BatchItem, entry_of_item}
use Rattle.fjall_files.specs.Marks.{IsRaised, JournalMarks, lsn_of}
use Rattle.fjall_files.specs.Places.{marked, raising, raising_all}
use Rattle.fjall_files.specs.Telling.{AreMarksOf, AreRaised, changed_by}
use Rattle.fjall_files.proofs.Raising.{by_order, raised_is, test_false, test_true}
use Rattle.fjall_files.proofs.Telling.{marks_more, raised_more}

abbrev put : ℕ → ℕ → ℕ × ℕ → JournalMarks → Ordering → JournalMarks
put id v mark marks r = match_ordering r ((id, v) ∷ mark ∷ marks) ((mark.0, v) ∷ marks) (mark ∷ insert_entry nat_cmp marks id v)

put_here : (id v : ℕ) (marks : JournalMarks) → lsn_of (insert_entry nat_cmp marks id v) id ≡ Some v
put_here id v [] = ap (λ b. cond b (Some v) None) (test_true id id refl)
put_here id v (mark ∷ marks) =
    by_order id mark.0 (λ r. lsn_of (put id v mark marks r) id ≡ Some v)
    (λ l. ap (λ b. cond b (Some v) (lsn_of (mark ∷ marks) id)) (test_true id id refl))
    (λ e. ap (λ b. cond b (Some v) (lsn_of marks id)) (test_true id mark.0 e))
    (λ g. ap (λ b. cond b (Some mark.1) (lsn_of (insert_entry nat_cmp marks id v) id)) (test_false id mark.0 (λ e. omega (arith, g, e))) ∙ put_here id v marks)

put_elsewhere : (id v : ℕ) (marks : JournalMarks) (q : ℕ) → q ≢ id → lsn_of (insert_entry nat_cmp marks id v) q ≡ lsn_of marks q
put_elsewhere id v [] q other = ap (λ b. cond b (Some v) None) (test_false q id other)
put_elsewhere id v (mark ∷ marks) q other =
    by_order id mark.0 (λ r. lsn_of (put id v mark marks r) q ≡ lsn_of (mark ∷ marks) q)
    (λ l. ap (λ b. cond b (Some v) (lsn_of (mark ∷ marks) q)) (test_false q id other))
    (λ e.
    let not_here = test_false q mark.0 (λ is. other (is ∙ sym e)) in
    ap (λ b. cond b (Some v) (lsn_of marks q)) not_here ∙ sym (ap (λ b. cond b (Some mark.1) (lsn_of marks q)) not_here))
    (λ g. ap (λ o. cond (nat_eq q mark.0) (Some mark.1) o) (put_elsewhere id v marks q other))

pub raising_raises : (lsn id : ℕ) (marks : JournalMarks) → IsRaised id lsn marks (raising lsn id marks)
raising_raises lsn id marks =
    let v = max (unwrap_or (lsn_of marks id) 0) lsn in
    record {
      here = put_here id v marks ∙ raised_is (lsn_of marks id) lsn;
      others = λ q other. put_elsewhere id v marks q other;
    }

-- ---- once more

same_order : (x y : ℕ) → x ≡ y → nat_cmp x y ≡ Equal
same_order x y e = by_order x y (λ r. r ≡ Equal) (λ l. absurd (omega (arith, l, e))) (λ _. refl) (λ g. absurd (omega (arith, g, e)))

behind : (x y : ℕ) → y < x → nat_cmp x y ≡ Greater
behind x y g = by_order x y (λ r. r ≡ Greater) (λ l. absurd (omega (arith, l, g))) (λ e. absurd (omega (arith, e, g))) (λ _. refl)

-- an entry that stands there already changes nothing
put_twice : (id v : ℕ) (marks : JournalMarks) → insert_entry nat_cmp (insert_entry nat_cmp marks id v) id v ≡ insert_entry nat_cmp marks id v
put_twice id v [] = ap (put id v (id, v) []) (same_order id id refl)
put_twice id v (mark ∷ marks) =
    by_order id mark.0 (λ r. insert_entry nat_cmp (put id v mark marks r) id v ≡ put id v mark marks r)
    (λ l. ap (put id v (id, v) (mark ∷ marks)) (same_order id id refl))
    (λ e. ap (put id v (mark.0, v) marks) (same_order id mark.0 e))
    (λ g. ap (put id v mark (insert_entry nat_cmp marks id v)) (behind id mark.0 g) ∙ ap (λ (ms : JournalMarks). mark ∷ ms) (put_twice id v marks))

-- to raise a watermark again by the same number changes nothing
raising_twice : (lsn id : ℕ) (marks : JournalMarks) → raising lsn id (raising lsn id marks) ≡ raising lsn id marks
raising_twice lsn id marks =
    let v = max (unwrap_or (lsn_of marks id) 0) lsn in
    let new = insert_entry nat_cmp marks id v in
    ap (λ (o : Option ℕ). insert_entry nat_cmp new id (max (unwrap_or o 0) lsn)) (put_here id v marks)
    ∙ ap (insert_entry nat_cmp new id) (omega arith)
    ∙ put_twice id v marks

-- one item more, whose watermark is raised
pub raised_next : (lsn : ℕ) (items : List BatchItem) (i : ℕ) (item : BatchItem) (old mid new : JournalMarks) → i < length items → item ≡ get_or items i item
    → mid ≡ raising_all lsn (take i items) old → new ≡ raising lsn item.0 mid → new ≡ raising_all lsn (take (i + 1) items) old
raised_next lsn items i item old mid new lt is so_far made =
    made ∙ ap (raising lsn item.0) so_far ∙ ap (λ (x : BatchItem). raising lsn x.0 (raising_all lsn (take i items) old)) is
    ∙ sym (fold_more (λ (m : JournalMarks) (x : BatchItem). raising lsn x.0 m) old items i item lt)

pub stays_raised : (lsn id : ℕ) (mid new : JournalMarks) → new ≡ raising lsn id mid → raising lsn id new ≡ new
stays_raised lsn id mid new made = ap (raising lsn id) made ∙ raising_twice lsn id mid ∙ sym made

abbrev ids_of : List BatchItem → List ℕ
ids_of items = map (λ item. item.0) items

goes_on : (lsn : ℕ) (old : JournalMarks) (seen items : List BatchItem) (mid : JournalMarks) → AreRaised (ids_of seen) lsn old mid → AreRaised (ids_of (seen ++ items)) lsn old (raising_all lsn items mid)
goes_on lsn old seen [] mid raised = subst (λ (l : List BatchItem). AreRaised (ids_of l) lsn old mid) (sym (append-nil seen)) raised
goes_on lsn old seen (item ∷ items) mid raised =
    let next = raising lsn item.0 mid in
    subst (λ (l : List BatchItem). AreRaised (ids_of l) lsn old (raising_all lsn items next)) (append_assoc seen (item ∷ []) items)
    (goes_on lsn old (seen ++ item ∷ []) items next
    (subst (λ (l : List ℕ). AreRaised l lsn old next) (sym (map-append (λ (i : BatchItem). i.0) seen (item ∷ [])))
    (raised_more (ids_of seen) item.0 lsn old mid next raised (raising_raises lsn item.0 mid))))

-- each of them in turn
pub all_raised : (lsn : ℕ) (items : List BatchItem) (marks : JournalMarks) → AreRaised (map (λ item. item.0) items) lsn marks (raising_all lsn items marks)
all_raised lsn items marks = goes_on lsn marks [] items marks (λ id. refl)

-- ---- the batch of a change

changed_items : (items : List BatchItem) → map (λ i. i.keyspace_id) (items_of (map entry_of_item items)) ++ clears_of (map entry_of_item items) ≡ ids_of items
changed_items [] = refl
changed_items (item ∷ items) = ap (λ (l : List ℕ). item.0 ∷ l) (changed_items items)

change_raises : (number : ℕ) (change : Change) (marks : JournalMarks) → AreRaised (changed_by (shown (of_change change number))) number marks (marked number change marks)
change_raises number (Items items) marks =
    subst (λ (l : List ℕ). AreRaised l number marks (raising_all number items marks)) (sym (changed_items items)) (all_raised number items marks)
change_raises number (Emptied id) marks = raised_more [] id number marks marks (raising number id marks) (λ q. refl) (raising_raises number id marks)

pub change_marks : (batches : List Written) (change : Change) (number : ℕ) (marks : JournalMarks) → AreMarksOf (map shown batches) marks
    → AreMarksOf (map shown (batches ++ of_change change number ∷ [])) (marked number change marks)
change_marks batches change number marks are =
    let batch = of_change change number in
    let new = marked number change marks in
    subst (λ (l : List Shown). AreMarksOf l new) (sym (map-append shown batches (batch ∷ []))) (marks_more (map shown batches) (shown batch) marks new (change_raises number change marks) are)
