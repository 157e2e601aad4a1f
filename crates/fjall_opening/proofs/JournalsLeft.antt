-- What journals leave in memory: batches that are told apart by watermarks are those of one journal after another.
use Rattle.std.proofs.Common.{◌≡◌, ◌⊎◌, inl, inr, ℕ, suc, ◌+◌, ◌<◌, ◌≤◌, ◌||◌, not, nat_le, nat_lt, nat_eq, Bool, true, false, cond, List, [], ◌∷◌, ◌++◌, length, get_or, map, drop, All, AllPairs, Option, None, Some, Result, Ok, Err, IfOk, refl, sym, ◌∙◌, ap, subst, arith}
use Rattle.std.specs.Prelude.{Any, Contains, slice_get}
use Rattle.std.specs.FinMap.{get}
use Rattle.std.specs.List.{list_any}
use Rattle.std.specs.List.Sorted.{IsStrictlyIncreasing}
use Rattle.std.proofs.lemmas.Bool.{or_right, true≢false}
use Rattle.std.proofs.lemmas.Bool.Decides.{nat_tests}
use Rattle.std.proofs.lemmas.List.{append-nil, drop_all, drop_more, get_or-map, length-map, map-append}
use Rattle.std.proofs.lemmas.List.Elements.{All-cons, All-head, All-map, All-nil, All-tail, All-weaker}
use Rattle.std.proofs.lemmas.List.Folds.{Any-from_list_any, list_any-from_Any, list_any_none}
use Rattle.std.proofs.lemmas.List.Kept.{AllPairs-from_increasing}
use Rattle.std.proofs.lemmas.Option.{get_or_from_slice_get, slice_get_cases, slice_get_within}
use Rattle.fjall_base.specs.Disk.{Image}
use Rattle.fjall_journal.specs.declared.batch.ReadBatchItem.{ReadBatchItem}
use Rattle.fjall_journal.specs.Batches.{Shown, Written, shown}
use Rattle.fjall_files.specs.Journals.{Sealed}
use Rattle.fjall_files.specs.Marks.{IsAscending, JournalMarks, lsn_of}
use Rattle.fjall_files.specs.Reaching.{reaches}
use Rattle.fjall_files.specs.Telling.{AreMarksOf, IsGreatest, changed_by}
use Rattle.fjall_files.proofs.Telling.{mark_is_greatest}
use Rattle.fjall_manifest.specs.declared.reading.LoadedHome.{LoadedHome}
use Rattle.fjall_meta.specs.Keyspaces.{Keyspaces}
use Rattle.fjall_meta.specs.Contents.{Stored}
use Rattle.fjall_meta.specs.Replays.{counts_unpersisted, fault_of, first_fault, least_after, reaches as is_up_to}
use Rattle.fjall_meta.specs.declared.recovery.Persisted.{Persisted}
use Rattle.fjall_meta.proofs.ContentFaults.{first_fault-append}
use Rattle.fjall_meta.proofs.Following.{before_least}
use Rattle.fjall_meta.proofs.Viewing.{no_fault, number_fits}
use Rattle.fjall_trees.specs.Forests.{Forest, Planted}
use Rattle.fjall_trees.specs.Sealing.{all_sealed}
use Rattle.fjall_recovery.specs.declared.folder.RecoveredFolder.{RecoveredFolder}
use Rattle.fjall_recovery.specs.Folders.{Contents, IsFinished, ShowsContents}
use Rattle.fjall_recovery.specs.Homes.{last_in}
use Rattle.fjall_recovery.specs.Journals.{WholeJournal, batches_in}
use Rattle.fjall_replay.specs.Opening.{opened}
use Rattle.fjall_replay.specs.Parted.{AreLeftBy, all_unwritten, counts_beyond_homes, with_journals}
use Rattle.fjall_replay.specs.Steps.{with_batch, with_batches, with_clears, with_items}
use Rattle.fjall_recovery.specs.Told.{TellOf, TellsOf}
use Rattle.fjall_replay.proofs.ReplayedStores.{told}
use Rattle.fjall_opening.specs.Readings.{persisted_of}
use Rattle.fjall_opening.specs.Replaying.{later_batches, made_of, own_batches, tell_up_to}
use Rattle.fjall_opening.proofs.Replayed.{told_last}

-- ---- which numbers watermarks tell of

number_less : (o : Option ℕ) (n m : ℕ) → n ≤ m → is_up_to o m ≡ true → is_up_to o n ≡ true
number_less None n m le up = up
number_less (Some lsn) n m le up = grind (arith, nat_tests, le, up)

-- where they don't tell of a number, they tell of no greater one
tell_no_more : (marks : JournalMarks) (n m : ℕ) → n ≤ m → tell_up_to marks n ≡ false → tell_up_to marks m ≡ false
tell_no_more marks n m le none = by (tell_up_to marks m) refl
  where
    by : (b : Bool) → tell_up_to marks m ≡ b → b ≡ false
    by true e =
        let (k, mark, lt, at, up) = Any-from_list_any (λ (mark : ℕ × ℕ). is_up_to (lsn_of marks mark.0) m) marks e in
        let here : tell_up_to marks n ≡ true = list_any-from_Any (λ (mark : ℕ × ℕ). is_up_to (lsn_of marks mark.0) n) marks (k, mark, lt, at, number_less (lsn_of marks mark.0) n m le up) in
        absurd (true≢false (sym here ∙ none))
    by false e = refl

-- the watermark of an id is among them
found_up_to : (marks whole : JournalMarks) (id lsn number : ℕ) → lsn_of marks id ≡ Some lsn → is_up_to (lsn_of whole id) number ≡ true
    → list_any (λ mark. is_up_to (lsn_of whole mark.0) number) marks ≡ true
found_up_to [] whole id lsn number at up = absurd (let no : ⊥ = cc in no)
found_up_to (mark ∷ marks) whole id lsn number at up = by (nat_eq id mark.0) refl at (found_up_to marks whole id lsn number)
  where
    rest : Bool
    rest = list_any (λ m. is_up_to (lsn_of whole m.0) number) marks

    by : (b : Bool) → nat_eq id mark.0 ≡ b → cond b (Some mark.1) (lsn_of marks id) ≡ Some lsn
        → (lsn_of marks id ≡ Some lsn → is_up_to (lsn_of whole id) number ≡ true → rest ≡ true) → (is_up_to (lsn_of whole mark.0) number || rest) ≡ true
    by true e here more =
        let same : id ≡ mark.0 = grind (arith, nat_tests, e) in
        ap (λ b. b || rest) (subst (λ (n : ℕ). is_up_to (lsn_of whole n) number ≡ true) same up)
    by false e there more = or_right (is_up_to (lsn_of whole mark.0) number) rest (more there up)

-- by ascending ids each keyspace stands there once
own_marks : (marks : JournalMarks) → IsAscending marks → All (λ mark. lsn_of marks mark.0 ≡ Some mark.1) marks
own_marks marks ascending = each marks (AllPairs-from_increasing (map (λ (m : ℕ × ℕ). m.0) marks) ascending)
  where
    each : (ms : JournalMarks) → AllPairs (λ x y. x < y) (map (λ m. m.0) ms) → All (λ mark. lsn_of ms mark.0 ≡ Some mark.1) ms
    each [] pairs = All-nil (λ (m : ℕ × ℕ). lsn_of [] m.0 ≡ Some m.1)
    each (mark ∷ ms) pairs =
        All-cons (λ (m : ℕ × ℕ). lsn_of (mark ∷ ms) m.0 ≡ Some m.1) mark ms
        (let same : nat_eq mark.0 mark.0 ≡ true = grind (arith, nat_tests) in ap (λ b. cond b (Some mark.1) (lsn_of ms mark.0)) same)
        (λ i d lt.
        let k : ℕ × ℕ = get_or ms i d in
        let l = length-map ms (λ (m : ℕ × ℕ). m.0) in
        let less : mark.0 < k.0 = subst (λ (n : ℕ). mark.0 < n) (get_or-map (λ (m : ℕ × ℕ). m.0) ms i d d.0 lt) (pairs 0 (suc i) d.0 (omega arith) (omega (arith, l, lt))) in
        let other : nat_eq k.0 mark.0 ≡ false = grind (arith, nat_tests, less) in
        ap (λ b. cond b (Some mark.1) (lsn_of ms k.0)) other
        ∙ each ms (λ m n e lt le. pairs (suc m) (suc n) e (omega (arith, lt)) (omega (arith, le))) i d lt)

-- so they reach what they tell of
pub reached_as : (marks : JournalMarks) (number : ℕ) → IsAscending marks → reaches marks number ≡ tell_up_to marks number
reached_as marks number ascending = same marks (own_marks marks ascending)
  where
    same : (ms : JournalMarks) → All (λ mark. lsn_of marks mark.0 ≡ Some mark.1) ms → list_any (λ mark. nat_le number mark.1) ms ≡ list_any (λ mark. is_up_to (lsn_of marks mark.0) number) ms
    same [] all = refl
    same (mark ∷ ms) all = λ i.
        sym (ap (λ o. is_up_to o number) (All-head (λ m. lsn_of marks m.0 ≡ Some m.1) mark ms all)) i
        || same ms (All-tail (λ m. lsn_of marks m.0 ≡ Some m.1) mark ms all) i

twice_not : (b : Bool) → b ≡ not (not b)
twice_not true = refl
twice_not false = refl

-- what the watermarks of the journal at a place reach they tell of
pub told_at : (journals : List Sealed) (place : ℕ) (here : Sealed) (marks : JournalMarks) (number : ℕ) (reached : Bool) → here ≡ get_or journals place here → marks ≡ here.watermarks
    → reached ≡ reaches marks number → IsAscending marks → (journal : Sealed) → slice_get journals place ≡ Some journal → tell_up_to journal.watermarks number ≡ not (not reached)
told_at journals place here marks number reached at marks_are is ascending journal has =
    let same : here ≡ journal = at ∙ get_or_from_slice_get journals place journal here has in
    ap (λ (m : JournalMarks). tell_up_to m number) (sym (marks_are ∙ ap (λ (s : Sealed). s.watermarks) same)) ∙ sym (reached_as marks number ascending) ∙ sym is ∙ twice_not reached

-- behind the last one there is none
pub none_at : (shown journals : List Sealed) (place : ℕ) (journal : Sealed) → shown ≡ journals → false ≡ nat_lt place (length shown) → slice_get journals place ≡ Some journal → ⊥
none_at shown journals place journal are over has =
    let lt = slice_get_within journals place journal has in
    let same = ap length are in
    let here : nat_lt place (length shown) ≡ true = grind (arith, nat_tests, lt, same) in
    true≢false (sym here ∙ sym over)

-- ---- what watermarks of a journal's batches tell

-- a batch of no change
abbrev IsNone : Shown → Type 0
IsNone b = (b.items ≡ []) × (b.clears ≡ [])

module _ (batches : List Shown) (marks : JournalMarks) (are : AreMarksOf batches marks) where
  -- of a greater number than all batches have they don't tell
  tell_none : (number : ℕ) → All (λ b. b.number < number) batches → tell_up_to marks number ≡ false
  tell_none number low =
      list_any_none (λ (mark : ℕ × ℕ). is_up_to (lsn_of marks mark.0) number) marks
      (λ i d lt. by (lsn_of marks (get_or marks i d).0) (get_or marks i d).0 (mark_is_greatest batches marks are (get_or marks i d).0))
    where
      by : (o : Option ℕ) (id : ℕ) → IsGreatest batches id o → is_up_to o number ≡ false
      by None id greatest = refl
      by (Some lsn) id (one, most) =
          let (k, b, lt, at, has) = one in
          let less : b.number < number = subst (λ (c : Shown). c.number < number) at (low k b lt) in
          let is = has.1 in
          grind (arith, nat_tests, less, is)

  -- of the number of a batch that changes something they do
  tell_change : (i : ℕ) (d : Shown) (id : ℕ) → i < length batches → Contains (changed_by (get_or batches i d)) id → tell_up_to marks (get_or batches i d).number ≡ true
  tell_change i d id lt has = by (lsn_of marks id) refl (mark_is_greatest batches marks are id)
    where
      by : (o : Option ℕ) → lsn_of marks id ≡ o → IsGreatest batches id o → tell_up_to marks (get_or batches i d).number ≡ true
      by None e none = absurd (none i d lt has)
      by (Some lsn) e (one, most) =
          let le : (get_or batches i d).number ≤ lsn = most i d lt has in
          found_up_to marks marks id lsn (get_or batches i d).number e
          (ap (λ o. is_up_to o (get_or batches i d).number) e ∙ (let up : nat_le (get_or batches i d).number lsn ≡ true = grind (arith, nat_tests, le) in up))

  tell_each : All (λ b. (tell_up_to marks b.number ≡ true) ⊎ IsNone b) batches
  tell_each i d lt = by (get_or batches i d).items (get_or batches i d).clears refl refl
    where
      b : Shown
      b = get_or batches i d

      by : (items : List ReadBatchItem) (clears : List ℕ) → b.items ≡ items → b.clears ≡ clears → (tell_up_to marks b.number ≡ true) ⊎ IsNone b
      by [] [] no_items no_clears = inr (no_items, no_clears)
      by [] (id ∷ clears) no_items has =
          inl (tell_change i d id lt (subst (λ (ids : List ℕ). Contains ids id) (sym (λ j. map (λ item. item.keyspace_id) (no_items j) ++ has j)) (0, omega arith, refl)))
      by (item ∷ items) clears has any =
          inl (tell_change i d item.keyspace_id lt
          (subst (λ (ids : List ℕ). Contains ids item.keyspace_id) (sym (λ j. map (λ item. item.keyspace_id) (has j) ++ any j)) (0, omega arith, refl)))

-- ---- step by step

-- a place of a list and all behind it
left_at : {X : Type 0} (xs : List X) (i : ℕ) (x : X) → slice_get xs i ≡ Some x → drop i xs ≡ x ∷ drop (i + 1) xs
left_at xs i x at = drop_more xs i x (slice_get_within xs i x at) ∙ ap (λ y. y ∷ drop (i + 1) xs) (get_or_from_slice_get xs i x x at)

-- the next number, where there is one, is this one or greater
abbrev IsFrom : ℕ → List Shown → Type 0
IsFrom n [] = Unit {0}
IsFrom n (b ∷ rest) = n ≤ b.number

-- the watermarks don't tell of the next number, where there is one
abbrev AreOver : JournalMarks → List Shown → Type 0
AreOver marks [] = Unit {0}
AreOver marks (b ∷ rest) = tell_up_to marks b.number ≡ false

-- They tell of each of a journal's batches that changes something, and of none behind those; numbers don't fall.
abbrev AreOwn : JournalMarks → List Shown → List Shown → Type 0
AreOwn marks rest [] = AreOver marks rest
AreOwn marks rest (b ∷ own) = ((tell_up_to marks b.number ≡ true) ⊎ (IsNone b × IsFrom b.number (own ++ rest))) × AreOwn marks rest own

module _ (counted : ℕ → ℕ → Bool) where
  -- a batch is the next journal's where that tells of its number
  taken_by : (j : Sealed) (journals : List Sealed) (b : Shown) (rest : List Shown) (trees : Forest) → tell_up_to j.watermarks b.number ≡ true
      → made_of counted (j ∷ journals) (b ∷ rest) trees ≡ made_of counted (j ∷ journals) rest (with_batch (counted b.number) b trees)
  taken_by j journals b rest trees told =
      ap (λ t. made_of counted journals (cond t (later_batches j rest) (b ∷ rest)) (all_sealed (with_batches counted (cond t (b ∷ own_batches j rest) []) trees))) told

  -- where it doesn't, all is sealed first
  sealed_by : (j : Sealed) (journals : List Sealed) (b : Shown) (rest : List Shown) (trees : Forest) → tell_up_to j.watermarks b.number ≡ false
      → made_of counted (j ∷ journals) (b ∷ rest) trees ≡ made_of counted journals (b ∷ rest) (all_sealed trees)
  sealed_by j journals b rest trees none =
      ap (λ t. made_of counted journals (cond t (later_batches j rest) (b ∷ rest)) (all_sealed (with_batches counted (cond t (b ∷ own_batches j rest) []) trees))) none

  pub seals_one : (journals : List Sealed) (place : ℕ) (j : Sealed) (b : Shown) (rest : List Shown) (trees : Forest) → slice_get journals place ≡ Some j → tell_up_to j.watermarks b.number ≡ false
      → made_of counted (drop (place + 1) journals) (b ∷ rest) (all_sealed trees) ≡ made_of counted (drop place journals) (b ∷ rest) trees
  seals_one journals place j b rest trees at none =
      sym (ap (λ (js : List Sealed). made_of counted js (b ∷ rest) trees) (left_at journals place j at) ∙ sealed_by j (drop (place + 1) journals) b rest trees none)

  pub takes_one : (journals : List Sealed) (place : ℕ) (b : Shown) (rest : List Shown) (trees : Forest) → ((j : Sealed) → slice_get journals place ≡ Some j → tell_up_to j.watermarks b.number ≡ true)
      → made_of counted (drop place journals) rest (with_batch (counted b.number) b trees) ≡ made_of counted (drop place journals) (b ∷ rest) trees
  takes_one journals place b rest trees told = by (slice_get_cases journals place).1
    where
      next : Forest
      next = with_batch (counted b.number) b trees

      by : ((j : Sealed) × (place < length journals) × (slice_get journals place ≡ Some j) × (get_or journals place j ≡ j)) ⊎ ((length journals ≤ place) × (slice_get journals place ≡ None))
          → made_of counted (drop place journals) rest next ≡ made_of counted (drop place journals) (b ∷ rest) trees
      by (inl one) =
          let left = left_at journals place one.0 one.2 in
          ap (λ (js : List Sealed). made_of counted js rest next) left ∙ sym (taken_by one.0 (drop (place + 1) journals) b rest trees (told one.0 one.2))
          ∙ sym (ap (λ (js : List Sealed). made_of counted js (b ∷ rest) trees) left)
      by (inr over) =
          let left = drop_all place journals over.0 in
          ap (λ (js : List Sealed). made_of counted js rest next) left ∙ sym (ap (λ (js : List Sealed). made_of counted js (b ∷ rest) trees) left)

  -- behind the last batch
  pub seals_rest : (journals : List Sealed) (place : ℕ) (trees : Forest) → place < length journals → made_of counted (drop (place + 1) journals) [] (all_sealed trees) ≡ made_of counted (drop place journals) [] trees
  seals_rest journals place trees lt = sym (ap (λ (js : List Sealed). made_of counted js [] trees) (drop_more journals place (record { id = 0; len = 0; watermarks = [] }) lt))

  pub none_left : (journals : List Sealed) (place : ℕ) (trees : Forest) → length journals ≤ place → trees ≡ made_of counted (drop place journals) [] trees
  none_left journals place trees le = sym (ap (λ (js : List Sealed). made_of counted js [] trees) (drop_all place journals le))

  -- ---- a batch of no change

  none_made : (b : Shown) (trees : Forest) → IsNone b → with_batch (counted b.number) b trees ≡ trees
  none_made b trees none =
      ap (λ (items : List ReadBatchItem). with_items (counted b.number) b.number items (with_clears (counted b.number) b.number b.clears trees)) none.0
      ∙ ap (λ (ids : List ℕ). with_clears (counted b.number) b.number ids trees) none.1

  -- where a journal doesn't tell of a number it tells of none behind
  sealed_early : (j : Sealed) (journals : List Sealed) (n : ℕ) (rest : List Shown) (trees : Forest) → IsFrom n rest → tell_up_to j.watermarks n ≡ false
      → made_of counted (j ∷ journals) rest trees ≡ made_of counted journals rest (all_sealed trees)
  sealed_early j journals n [] trees from none = refl
  sealed_early j journals n (b ∷ rest) trees from none = sealed_by j journals b rest trees (tell_no_more j.watermarks n b.number from none)

  -- it may be left out
  passed : (journals : List Sealed) (b : Shown) (rest : List Shown) (trees : Forest) → IsNone b → IsFrom b.number rest → made_of counted journals (b ∷ rest) trees ≡ made_of counted journals rest trees
  passed [] b rest trees none from = ap (with_batches counted rest) (none_made b trees none)
  passed (j ∷ journals) b rest trees none from = by (tell_up_to j.watermarks b.number) refl (passed journals b rest (all_sealed trees) none from)
    where
      by : (t : Bool) → tell_up_to j.watermarks b.number ≡ t → made_of counted journals (b ∷ rest) (all_sealed trees) ≡ made_of counted journals rest (all_sealed trees)
          → made_of counted (j ∷ journals) (b ∷ rest) trees ≡ made_of counted (j ∷ journals) rest trees
      by true e later = taken_by j journals b rest trees e ∙ ap (made_of counted (j ∷ journals) rest) (none_made b trees none)
      by false e later = sealed_by j journals b rest trees e ∙ later ∙ sym (sealed_early j journals b.number rest trees from e)

  -- ---- one journal

  own_made : (j : Sealed) (journals : List Sealed) (rest own : List Shown) (trees : Forest) → AreOwn j.watermarks rest own
      → made_of counted (j ∷ journals) (own ++ rest) trees ≡ made_of counted journals rest (all_sealed (with_batches counted own trees))
  own_made j journals [] [] trees are = refl
  own_made j journals (c ∷ rest) [] trees are = sealed_by j journals c rest trees are
  own_made j journals rest (b ∷ own) trees are = by are.0 (λ (t : Forest). own_made j journals rest own t are.1)
    where
      by : (tell_up_to j.watermarks b.number ≡ true) ⊎ (IsNone b × IsFrom b.number (own ++ rest))
          → ((t : Forest) → made_of counted (j ∷ journals) (own ++ rest) t ≡ made_of counted journals rest (all_sealed (with_batches counted own t)))
          → made_of counted (j ∷ journals) (b ∷ own ++ rest) trees ≡ made_of counted journals rest (all_sealed (with_batches counted own (with_batch (counted b.number) b trees)))
      by (inl told) more = taken_by j journals b (own ++ rest) trees told ∙ more (with_batch (counted b.number) b trees)
      by (inr (none, from)) more =
          passed (j ∷ journals) b (own ++ rest) trees none from ∙ more trees
          ∙ ap (λ (t : Forest). made_of counted journals rest (all_sealed (with_batches counted own t))) (sym (none_made b trees none))

next_from : (n : ℕ) (rest : List Shown) → first_fault (n + 1) rest ≡ None → IsFrom n rest
next_from n [] sound = tt
next_from n (b ∷ rest) sound = let fits = (number_fits (n + 1) b (no_fault (fault_of (n + 1) b) (first_fault (b.number + 1) rest) sound).0).0 in omega (arith, fits)

next_over : (batches : List Shown) (marks : JournalMarks) (least : ℕ) (rest : List Shown) → AreMarksOf batches marks → All (λ b. b.number < least) batches → first_fault least rest ≡ None → AreOver marks rest
next_over batches marks least [] are low sound = tt
next_over batches marks least (c ∷ rest) are low sound =
    let fits = (number_fits least c (no_fault (fault_of least c) (first_fault (c.number + 1) rest) sound).0).0 in
    tell_none batches marks are c.number (All-weaker (λ (b : Shown). b.number < least) (λ (b : Shown). b.number < c.number) (λ b less. omega (arith, less, fits)) batches low)

are_own : (marks : JournalMarks) (rest own : List Shown) (least : ℕ) → first_fault least (own ++ rest) ≡ None → All (λ b. (tell_up_to marks b.number ≡ true) ⊎ IsNone b) own → AreOver marks rest → AreOwn marks rest own
are_own marks rest [] least sound each over = over
are_own marks rest (b ∷ own) least sound each over =
    let parts = no_fault (fault_of least b) (first_fault (b.number + 1) (own ++ rest)) sound in (
      by parts.1 (All-head (λ (c : Shown). (tell_up_to marks c.number ≡ true) ⊎ IsNone c) b own each),
      are_own marks rest own (b.number + 1) parts.1 (All-tail (λ (c : Shown). (tell_up_to marks c.number ≡ true) ⊎ IsNone c) b own each) over,
    )
  where
    by : first_fault (b.number + 1) (own ++ rest) ≡ None → (tell_up_to marks b.number ≡ true) ⊎ IsNone b → (tell_up_to marks b.number ≡ true) ⊎ (IsNone b × IsFrom b.number (own ++ rest))
    by behind (inl told) = inl told
    by behind (inr none) = inr (none, next_from b.number (own ++ rest) behind)

-- ---- one journal after another

-- batches that are told apart by the watermarks of sealed journals are those of one journal after another
pub by_journals : (counted : ℕ → ℕ → Bool) (journals : List WholeJournal) (sealed : List Sealed) (marks : JournalMarks) (least : ℕ) (trees : Forest) → TellOf journals sealed marks
    → first_fault least (map shown (batches_in journals)) ≡ None → made_of counted sealed (map shown (batches_in journals)) trees ≡ with_journals counted journals trees
by_journals counted [] sealed marks least trees tell sound = ap (λ (js : List Sealed). made_of counted js [] trees) tell.0
by_journals counted (j ∷ []) sealed marks least trees tell sound =
    ap (λ (js : List Sealed). made_of counted js (map shown (j.batches ++ [])) trees) tell.0 ∙ ap (λ (bs : List Written). with_batches counted (map shown bs) trees) (append-nil j.batches)
by_journals counted (j ∷ k ∷ journals) [] marks least trees tell sound = absurd tell
by_journals counted (j ∷ k ∷ journals) (s ∷ sealed) marks least trees tell sound =
    let own : List Shown = map shown j.batches in
    let rest : List Shown = map shown (batches_in (k ∷ journals)) in
    let whole : map shown (batches_in (j ∷ k ∷ journals)) ≡ own ++ rest = map-append shown j.batches (batches_in (k ∷ journals)) in
    let all : first_fault least (own ++ rest) ≡ None = ap (first_fault least) (sym whole) ∙ sound in
    let parts = no_fault (first_fault least own) (first_fault (least_after least own) rest) (sym (first_fault-append least own rest) ∙ all) in
    let low = (before_least least own parts.0).1 in
    let are = are_own s.watermarks rest own least all (tell_each own s.watermarks tell.0.marks) (next_over own s.watermarks (least_after least own) rest tell.0.marks low parts.1) in
    ap (λ (bs : List Shown). made_of counted (s ∷ sealed) bs trees) whole ∙ own_made counted s sealed rest own trees are
    ∙ by_journals counted (k ∷ journals) sealed marks (least_after least own) (all_sealed (with_batches counted own trees)) tell.1 parts.1

-- ---- what was read

-- a tree that was opened has nothing in memory
opened_bare : (homes : List LoadedHome) → all_unwritten (map opened homes) ≡ map opened homes
opened_bare [] = refl
opened_bare (h ∷ homes) = ap (λ (trees : Forest). opened h ∷ trees) (opened_bare homes)

-- up to which number the keyspaces' homes hold them, and nothing else of them
abbrev persisted_by : Contents → ℕ → Stored
persisted_by c id = record { persisted = (last_in (get c.homes id)).persisted; versions = []; clears = [] }

-- over trees that were opened, with the persisted numbers that were read, the journals leave what they have beyond the homes
pub left_by : (image : Image) (found : RecoveredFolder) (c : Contents) (persisted : List Persisted) (loaded trees : Forest) → IsFinished image found → ShowsContents found c → persisted ≡ persisted_of found
    → loaded ≡ map opened found.homes.items → all_unwritten trees ≡ all_unwritten loaded → trees ≡ with_journals (counts_unpersisted found.catalog.keyspaces persisted) c.journals loaded
    → AreLeftBy c.keyspaces c.homes c.journals trees
left_by image found c persisted loaded trees read shows told_is loaded_is rest is =
    is ∙ ap (λ (l : List Persisted). with_journals (counts_unpersisted found.catalog.keyspaces l) c.journals loaded) told_is
    ∙ ap (λ (s : Keyspaces). with_journals (counts_unpersisted s (persisted_of found)) c.journals loaded) shows.keyspaces
    ∙ (λ i. with_journals (λ number id. told c.keyspaces (persisted_by c) (persisted_of found) (told_last image found c read shows) number id i) c.journals loaded)
    ∙ ap (with_journals (counts_beyond_homes c.keyspaces c.homes) c.journals)
    (loaded_is ∙ sym (opened_bare found.homes.items) ∙ ap all_unwritten (sym loaded_is) ∙ sym rest)
