-- The journals of a folder, replayed one after another: what the sealed ones have is sealed behind each of them.
use Rattle.std.proofs.Common.{◌≡◌, ◌⊎◌, inl, inr, ℕ, ◌+◌, ◌<◌, ◌≤◌, ◌||◌, not, Bool, true, false, nat_le, IsTrue, List, [], ◌∷◌, ◌++◌, length, get_or, map, take, drop, All, Option, Some, None, refl, append_assoc, sym, ◌∙◌, ap, subst, arith}
use Rattle.std.specs.Prelude.{slice_get}
use Rattle.std.specs.Option.{option_or}
use Rattle.std.proofs.lemmas.Bool.{or_from, or_right, true≢false}
use Rattle.std.proofs.lemmas.Bool.Decides.{nat_tests}
use Rattle.std.proofs.lemmas.List.{take_all}
use Rattle.std.proofs.lemmas.List.Elements.{All-cons, All-head, All-map, All-nil, All-weaker}
use Rattle.std.proofs.lemmas.List.Folds.{list_any_at, list_any_more}
use Rattle.std.proofs.lemmas.Option.{get_or_from_slice_get, slice_get_cases, slice_get_within}
use Rattle.fjall_base.specs.Disk.{Meaning}
use Rattle.fjall_journal.specs.declared.batch.Batch.{Batch}
use Rattle.fjall_journal.specs.Batches.{Shown, view}
use Rattle.fjall_manifest.specs.declared.reading.LoadedHome.{LoadedHome}
use Rattle.fjall_replay.specs.Opening.{opened}
use Rattle.fjall_files.specs.Journals.{Sealed}
use Rattle.fjall_files.specs.Marks.{JournalMarks}
use Rattle.fjall_files.specs.Reaching.{reaches, some_reaches}
use Rattle.fjall_meta.specs.Keyspaces.{Keyspaces}
use Rattle.fjall_meta.specs.Contents.{AreWithin, Stored}
use Rattle.fjall_memtable.specs.Parts.{HeldPart, holds_nothing}
use Rattle.fjall_replay.specs.Beside.{AreReplayedWith, all_at_rest}
use Rattle.fjall_replay.specs.Parted.{ActivesEmpty, ActivesPass, ArePartedBy, AreUnwritten, HasSealed, IsPartedBy, all_unwritten}
use Rattle.fjall_replay.specs.Replayed.{AreTold, ids_of}
use Rattle.fjall_replay.specs.Steps.{with_batch, with_batches}
use Rattle.fjall_replay.proofs.Parting.{empty_pass, same_unwritten, seals_all, sealed_unwritten, still_sealed, unwritten_empty, unwritten_sealed}
use Rattle.fjall_table.specs.Blocks.{Entry}
use Rattle.fjall_trees.specs.Forests.{AreBefore, Forest, Planted}
use Rattle.fjall_trees.specs.Sealing.{all_sealed}
use Rattle.fjall_trees.specs.Tables.{AreReadOn}
use Rattle.fjall_trees.specs.Views.{forest_of}
use Rattle.fjall_meta.specs.declared.recovery.Persisted.{Persisted}
use Rattle.fjall_meta.specs.Replays.{JournalFault, counts_unpersisted, fault_of, first_fault, least_after}
use Rattle.fjall_meta.proofs.ContentFaults.{first_fault-append, least_after-append}
use Rattle.fjall_meta.proofs.Viewing.{no_fault, number_fits}
use Rattle.fjall_opening.specs.declared.replaying.Progress.{Progress}
use Rattle.fjall_opening.specs.declared.replaying.Replay.{Replay}
use Rattle.fjall_opening.specs.Replaying.{AreAt, ArePast, IsReplayed, IsUnderway, counted_by, made_of, tell_up_to}
use Rattle.fjall_opening.proofs.JournalsLeft.{takes_one}

-- ---- which numbers watermarks reach

-- where watermarks reach a number they reach each lesser one
reaches_less : (marks : JournalMarks) (n m : ℕ) → n ≤ m → reaches marks m ≡ true → reaches marks n ≡ true
reaches_less [] n m le has = has
reaches_less (mark ∷ marks) n m le has = by (nat_le m mark.1) refl has (reaches_less marks n m le)
  where
    by : (b : Bool) → nat_le m mark.1 ≡ b → (b || reaches marks m) ≡ true → (reaches marks m ≡ true → reaches marks n ≡ true) → (nat_le n mark.1 || reaches marks n) ≡ true
    by true e has rest = let here : nat_le n mark.1 ≡ true = grind (arith, nat_tests, e, le) in ap (λ b. b || reaches marks n) here
    by false e has rest = or_right (nat_le n mark.1) (reaches marks n) (rest has)

-- and where they don't reach one, none that is greater
reaches_none : (marks : JournalMarks) (n m : ℕ) → n ≤ m → reaches marks n ≡ false → reaches marks m ≡ false
reaches_none marks n m le none = by (reaches marks m) refl
  where
    by : (b : Bool) → reaches marks m ≡ b → b ≡ false
    by true e = absurd (true≢false (sym (reaches_less marks n m le e) ∙ none))
    by false e = refl

-- a number is reached where the journal isn't found to end before it
pub reached_here : (number : ℕ) (j : Sealed) (b : Bool) → b ≡ false → (reaches j.watermarks number ≡ false → IsTrue b) → reaches j.watermarks number ≡ true
reached_here number j b left ends = by (reaches j.watermarks number) refl
  where
    by : (r : Bool) → reaches j.watermarks number ≡ r → r ≡ true
    by true e = refl
    by false e = absurd (true≢false (sym (ends e) ∙ left))

-- a test that weaker ones follow from
passes_more : (test other : ℕ → Bool) (trees : Forest) → ((n : ℕ) → test n ≡ true → other n ≡ true) → ActivesPass test trees → ActivesPass other trees
passes_more test other trees more all i d lt =
    let h : HeldPart = (get_or trees i d).shape.memory.active in
    let here = all i d lt in (
      All-weaker (λ (v : Entry). test v.number ≡ true) (λ (v : Entry). other v.number ≡ true) (λ v. more v.number) h.versions here.0,
      All-weaker (λ n. test n ≡ true) (λ n. other n ≡ true) more h.clears here.1,
    )

-- ---- replayed batches

-- What a replay of batches makes of trees.
pub record Replays (s : Keyspaces) (persisted : List Persisted) (own : List Shown) (old new : Forest) : Type 0 where
  pub ok : (entries : ℕ → List (List Entry)) (stored : ℕ → Stored) (before : List Shown) → AreTold s stored persisted → AreWithin s stored
      → (least : ℕ) → first_fault least (before ++ own) ≡ None → AreReplayedWith entries s stored before old → AreReplayedWith entries s stored (before ++ own) new
  pub reads : (disk : Meaning) (entries : ℕ → List (List Entry)) → AreReadOn disk old entries → AreReadOn disk new entries
  pub rest : all_at_rest new ≡ all_at_rest old
  pub ids : ids_of new ≡ ids_of old
  pub numbered : (test : ℕ → Bool) → ActivesPass test old → All (λ b. test b.number ≡ true) own → ActivesPass test new
  pub before : (bound : ℕ) → AreBefore bound old → All (λ b. b.number < bound) own → AreBefore bound new
  pub made : new ≡ with_batches (counts_unpersisted s persisted) own old

-- the same, as batches that were read
pub record ReplaysBatches (s : Keyspaces) (persisted : List Persisted) (own : List Batch) (old new : Forest) : Type 0 where
  pub ok : (entries : ℕ → List (List Entry)) (stored : ℕ → Stored) (before : List Shown) → AreTold s stored persisted → AreWithin s stored
      → (least : ℕ) → first_fault least (before ++ map view own) ≡ None → AreReplayedWith entries s stored before old → AreReplayedWith entries s stored (before ++ map view own) new
  pub reads : (disk : Meaning) (entries : ℕ → List (List Entry)) → AreReadOn disk old entries → AreReadOn disk new entries
  pub rest : all_at_rest new ≡ all_at_rest old
  pub ids : ids_of new ≡ ids_of old
  pub numbered : (test : ℕ → Bool) → ActivesPass test old → All (λ b. test b.seqno ≡ true) own → ActivesPass test new
  pub before : (bound : ℕ) → AreBefore bound old → All (λ b. b.seqno < bound) own → AreBefore bound new
  pub made : new ≡ with_batches (counts_unpersisted s persisted) (map view own) old

pub replays_one : (s : Keyspaces) (persisted : List Persisted) (b : Batch) (old new : Forest) → ReplaysBatches s persisted (b ∷ []) old new → Replays s persisted (view b ∷ []) old new
replays_one s persisted b old new made = record {
  ok = made.ok;
  reads = made.reads;
  rest = made.rest;
  ids = made.ids;
  numbered = λ test passes all. made.numbered test passes (All-cons (λ (c : Batch). test c.seqno ≡ true) b [] (All-head (λ (c : Shown). test c.number ≡ true) (view b) [] all) (All-nil (λ (c : Batch). test c.seqno ≡ true)));
  before = λ bound low all. made.before bound low (All-cons (λ (c : Batch). c.seqno < bound) b [] (All-head (λ (c : Shown). c.number < bound) (view b) [] all) (All-nil (λ (c : Batch). c.seqno < bound)));
  made = made.made;
}

-- What a sealing makes of them.
pub record Seals (old new : Forest) : Type 0 where
  pub all : new ≡ all_sealed old
  pub shows : (entries : ℕ → List (List Entry)) (s : Keyspaces) (stored : ℕ → Stored) (batches : List Shown) → AreReplayedWith entries s stored batches old
      → AreReplayedWith entries s stored batches new
  pub reads : (disk : Meaning) (entries : ℕ → List (List Entry)) → AreReadOn disk old entries → AreReadOn disk new entries
  pub ids : ids_of new ≡ ids_of old
  pub before : (bound : ℕ) → AreBefore bound old → AreBefore bound new
  pub empty : ActivesEmpty new

module _ (s : Keyspaces) (persisted : List Persisted) (loaded : Forest) where
  none_replayed : IsReplayed s persisted loaded [] loaded
  none_replayed = record { shown = λ entries stored told within shown. shown; reads = λ disk entries on. on; rest = refl; ids = refl }

  more_replayed : (front own : List Shown) (old new : Forest) → first_fault 0 (front ++ own) ≡ None → IsReplayed s persisted loaded front old → Replays s persisted own old new
      → IsReplayed s persisted loaded (front ++ own) new
  more_replayed front own old new sound is made = record {
    shown = λ entries stored told within shown. made.ok entries stored front told within 0 sound (is.shown entries stored told within shown);
    reads = λ disk entries on. made.reads disk entries (is.reads disk entries on);
    rest = same_unwritten old new made.rest ∙ is.rest;
    ids = made.ids ∙ is.ids;
  }

  sealed_replayed : (front : List Shown) (old new : Forest) → IsReplayed s persisted loaded front old → Seals old new → IsReplayed s persisted loaded front new
  sealed_replayed front old new is made = record {
    shown = λ entries stored told within shown. made.shows entries s stored front (is.shown entries stored told within shown);
    reads = λ disk entries on. made.reads disk entries (is.reads disk entries on);
    rest = ap all_unwritten made.all ∙ sealed_unwritten old ∙ is.rest;
    ids = made.ids ∙ is.ids;
  }

module _ (r : Replay) (loaded : Forest) where
  abbrev journals : List Sealed
  journals = r.sealed.now

  -- whether one of the sealed journals reaches a number, and whether none does
  abbrev some : ℕ → Bool
  some n = some_reaches journals n

  abbrev no : ℕ → Bool
  no n = not (some_reaches journals n)

  -- ---- the beginning

  pub first_at : AreUnwritten loaded → AreAt r loaded [] 0 loaded
  first_at unwritten = record {
    replayed = none_replayed r.keyspaces.now r.persisted.now loaded;
    before = λ low. low;
    sealed = unwritten_sealed some loaded unwritten;
    active = record {
      next = λ journal is. empty_pass (reaches journal.watermarks) loaded (unwritten_empty loaded unwritten);
      none = λ le. empty_pass no loaded (unwritten_empty loaded unwritten);
    };
  }

  -- nothing was taken
  pub nothing_taken : (p : Progress) → AreUnwritten loaded → p.place ≡ 0 → p.least ≡ 0 → forest_of p.trees ≡ loaded → IsUnderway r loaded [] p
  nothing_taken p unwritten start zero is = record {
    sound = refl;
    least_is = zero;
    trees = subst (λ (place : ℕ). AreAt r loaded [] place (forest_of p.trees)) (sym start) (subst (AreAt r loaded [] 0) (sym is) (first_at unwritten));
    past = λ n le. ap (λ (place : ℕ). some_reaches (take place journals) n) start;
    made = λ rest. ap (λ (place : ℕ). made_of (counted_by r) (drop place journals) rest (forest_of p.trees)) start ∙ ap (made_of (counted_by r) journals rest) is;
  }

  -- ---- one journal more is behind

  -- what stands in active memtables is numbered up to some watermark
  next_passes : (front : List Shown) (place : ℕ) (trees : Forest) → place < length journals → AreAt r loaded front place trees → ActivesPass some trees
  next_passes front place trees lt at = by (slice_get_cases journals place).1
    where
      by : ((j : Sealed) × (place < length journals) × (slice_get journals place ≡ Some j) × (get_or journals place j ≡ j)) ⊎ ((length journals ≤ place) × (slice_get journals place ≡ None)) → ActivesPass some trees
      by (inl one) =
          let j : Sealed = one.0 in
          passes_more (reaches j.watermarks) some trees
          (λ n has. list_any_at (λ (k : Sealed). reaches k.watermarks n) journals place j lt (subst (λ (k : Sealed). reaches k.watermarks n ≡ true) (sym one.3) has))
          (at.active.next j one.2)
      by (inr over) = absurd (omega (arith, over.0, lt))

  pub one_sealed : (front : List Shown) (place : ℕ) (old new : Forest) → place < length r.sealed.now → AreAt r loaded front place old → Seals old new → AreAt r loaded front (place + 1) new
  one_sealed front place old new lt at seals = record {
    replayed = sealed_replayed r.keyspaces.now r.persisted.now loaded front old new at.replayed seals;
    before = λ low. seals.before r.bound (at.before low);
    sealed = subst (All (λ (k : Planted). HasSealed some k.shape.memory)) (sym seals.all) (seals_all some old at.sealed (next_passes front place old lt at));
    active = record { next = λ journal is. empty_pass (reaches journal.watermarks) new seals.empty; none = λ le. empty_pass no new seals.empty };
  }

  -- where it ends before a number, those behind don't reach that number either
  pub past_one : (place number : ℕ) (j : Sealed) → ArePast r place number → slice_get r.sealed.now place ≡ Some j → reaches j.watermarks number ≡ false → ArePast r (place + 1) number
  past_one place number j past is none n le =
      let lt = slice_get_within journals place j is in
      list_any_more (λ (k : Sealed). reaches k.watermarks n) journals place j lt
      ∙ or_from (some_reaches (take place journals) n) (reaches (get_or journals place j).watermarks n) (past n le)
      (subst (λ (k : Sealed). reaches k.watermarks n ≡ false) (sym (get_or_from_slice_get journals place j j is)) (reaches_none j.watermarks number n le none))

  -- ---- one batch more

  module _ (front : List Shown) (p q : Progress) (b : Shown) (mid : Forest) (underway : IsUnderway r loaded front p) where
    whole_sound : first_fault p.least (b ∷ []) ≡ None → first_fault 0 (front ++ b ∷ []) ≡ None
    whole_sound sound = first_fault-append 0 front (b ∷ []) ∙ none_of (first_fault 0 front) underway.sound (ap (λ n. first_fault n (b ∷ [])) (sym underway.least_is) ∙ sound)
      where
        none_of : (a : Option JournalFault) → a ≡ None → first_fault (least_after 0 front) (b ∷ []) ≡ None → option_or a (first_fault (least_after 0 front) (b ∷ [])) ≡ None
        none_of a none rest = ap (λ x. option_or x (first_fault (least_after 0 front) (b ∷ []))) none ∙ rest

    -- its number is at least the least one
    pub number_from : first_fault p.least (b ∷ []) ≡ None → p.least ≤ b.number
    number_from sound = (number_fits p.least b (no_fault (fault_of p.least b) None sound).0).0

    pub past_from : first_fault p.least (b ∷ []) ≡ None → ArePast r p.place b.number
    past_from sound n le = let from = number_from sound in underway.past n (omega (arith, from, le))

    pub one_taken : first_fault p.least (b ∷ []) ≡ None → b.number < r.bound → AreAt r loaded front q.place mid → ArePast r q.place b.number
        → ((j : Sealed) → slice_get r.sealed.now q.place ≡ Some j → reaches j.watermarks b.number ≡ true) → Replays r.keyspaces.now r.persisted.now (b ∷ []) mid (forest_of q.trees)
        → q.least ≡ b.number + 1 → ((j : Sealed) → slice_get r.sealed.now q.place ≡ Some j → tell_up_to j.watermarks b.number ≡ true)
        → ((rest : List Shown) → made_of (counted_by r) (drop q.place r.sealed.now) (b ∷ rest) mid ≡ made_of (counted_by r) (drop p.place r.sealed.now) (b ∷ rest) (forest_of p.trees))
        → IsUnderway r loaded (front ++ b ∷ []) q
    one_taken sound below at past here made next told sealed = record {
      sound = whole_sound sound;
      least_is = next ∙ sym (least_after-append 0 front (b ∷ []));
      trees = record {
        replayed = more_replayed r.keyspaces.now r.persisted.now loaded front (b ∷ []) mid (forest_of q.trees) (whole_sound sound) at.replayed made;
        before = λ low. made.before r.bound (at.before low) (All-one (λ (c : Shown). c.number < r.bound) b below);
        sealed = still_sealed some mid (forest_of q.trees) made.rest at.sealed;
        active = record {
          next = λ j is. made.numbered (reaches j.watermarks) (at.active.next j is) (All-one (λ (c : Shown). reaches j.watermarks c.number ≡ true) b (here j is));
          none = λ le. made.numbered no (at.active.none le) (All-one (λ (c : Shown). no c.number ≡ true) b
              (ap not (subst (λ (js : List Sealed). some_reaches js b.number ≡ false) (take_all q.place journals le) (past b.number (omega arith)))));
        };
      };
      past = λ n le. past n (omega (arith, le, next));
      made = λ rest.
          ap (made_of (counted_by r) (drop q.place journals) rest) made.made ∙ takes_one (counted_by r) journals q.place b rest mid told ∙ sealed rest
          ∙ underway.made (b ∷ rest) ∙ ap (λ (l : List Shown). made_of (counted_by r) journals l loaded) (sym (append_assoc front (b ∷ []) rest));
    }
      where
        All-one : (P : Shown → Type 0) (c : Shown) → P c → All P (c ∷ [])
        All-one P c is = All-cons P c [] is (All-nil P)

  -- ---- the end

  pub all_parted : (front : List Shown) (place : ℕ) (trees : Forest) → length r.sealed.now ≤ place → AreAt r loaded front place trees → ArePartedBy (some_reaches r.sealed.now) trees
  all_parted front place trees le at i d lt =
      let has = at.sealed i d lt in
      record { some = has.some; sealed = has.pass; active = at.active.none le i d lt }

-- ---- where nothing was replayed yet

pub none_parted : (sealed : List Sealed) (trees : Forest) → trees ≡ [] → ArePartedBy (some_reaches sealed) trees
none_parted sealed trees none = subst (ArePartedBy (some_reaches sealed)) (sym none) (All-nil (λ (k : Planted). IsPartedBy (some_reaches sealed) k.shape.memory))

pub opened_unwritten : (homes : List LoadedHome) → AreUnwritten (map opened homes)
opened_unwritten homes = All-map (λ (k : Planted). (k.shape.memory.sealed ≡ []) × IsTrue (holds_nothing k.shape.memory.active)) opened homes (λ i d lt. (refl, refl))
