-- How calls go on over which an index is kept.
use Rattle.std.proofs.Common.{◌≡◌, ◌⊎◌, inl, inr, ◌≤◌, ◌+◌, ◌-◌, ℕ, zero, suc, Bool, true, false, cond, IsTrue, List, [], ◌∷◌, ◌++◌, Option, None, Some, length, take, unwrap_or, refl, sym, ◌∙◌, ap, subst, arith, append_assoc}
use Rattle.std.proofs.lemmas.List.{append-nil, length-append, take-map}
use Rattle.std.specs.Cmp.{nat_cmp_total}
use Rattle.std.specs.FinMap.{FinMap, empty, get, get-insert}
use Rattle.std.specs.Ordering.{eq_by_cmp, nat_cmp}
use Rattle.fjall_base.specs.Disk.{LeavesOnly}
use Rattle.fjall_base.specs.Pairs.{Pairs, altered}
use Rattle.fjall_base.specs.Store.{Command, Item, Store, Write, apply, fold, kept, map_at, written}
use Rattle.fjall_base.proofs.Moments.{runs_on, started, weaken}
use Rattle.fjall_recovery.specs.Amid.{StandsAmid}
use Rattle.fjall_history.specs.Histories.{Accepted, History, command_of, commands_of, grown, latest, number, plain, view}
use Rattle.fjall_history.specs.Moves.{MovesOn, NoMove, OneMove, Times}
use Rattle.fjall_history.specs.Serial.{ChangesByTransactions}
use Rattle.fjall_history.proofs.Views.{one_more, view_of_all, view_stays}
use Rattle.fjall_machine.specs.Machine.{is_living, present, times}
use Rattle.fjall_core.specs.Durables.{Durable, MakesPresent, Passes}
use Rattle.fjall_core.specs.Holding.{Held}
use Rattle.fjall_core.specs.CoreStanding.{ReadsOn, StandsOn, store_with_tables}
use Rattle.fjall_core.specs.Leaving.{LeavesStanding}
use Rattle.fjall_core.specs.Standing.{StandFor, CoreState, history_of}
use Rattle.fjall_core.specs.Transactions.{Kept}
use Rattle.fjall_index_entries.specs.Index.{FieldOf}
use Rattle.fjall_index_entries.specs.Keeping.{IsIndexed, IsIndexedAmid}
use Rattle.fjall_index_entries.proofs.Keeps.{change_indexed, kept_indexed, passes_indexed}
use Rattle.fjall_index.specs.Standing.{GoesOnIndexed, IsIndexedImage, StandsIndexed}

-- ---- what is told

-- the views of a history are those that are told
pub view_told : (t : CoreState) (instant : ℕ) → commands_of t.accepted ≡ commands_of t.state.history.accepted → view (history_of t) instant ≡ view t.state.history instant
view_told t instant same =
    let n = instant - t.state.history.base in
    ap (fold t.state.history.opened) (sym (take-map command_of n t.accepted) ∙ ap (take n) same ∙ take-map command_of n t.state.history.accepted)

-- and so is what it makes
pub latest_told : (t : CoreState) → commands_of t.accepted ≡ commands_of t.state.history.accepted → latest (history_of t) ≡ present t.state
latest_told t same = ap (fold t.state.history.opened) same

-- ---- maps

-- maps that have the same of each keyspace
abbrev AreAlike : FinMap nat_cmp Pairs → FinMap nat_cmp Pairs → Type 0
AreAlike m n = (j : ℕ) → map_at m j ≡ map_at n j

item_alike : (m n : FinMap nat_cmp Pairs) (item : Item) → AreAlike m n → AreAlike (written m (item ∷ [])) (written n (item ∷ []))
item_alike m n item same j =
    ap (λ (o : Option Pairs). unwrap_or o empty) (get-insert nat_cmp_total m item.id (altered (map_at m item.id) item.key item.value) j)
    ∙ by (eq_by_cmp nat_cmp j item.id)
    ∙ sym (ap (λ (o : Option Pairs). unwrap_or o empty) (get-insert nat_cmp_total n item.id (altered (map_at n item.id) item.key item.value) j))
  where
    by : (b : Bool) → unwrap_or (cond b (Some (altered (map_at m item.id) item.key item.value)) (get m j)) empty ≡ unwrap_or (cond b (Some (altered (map_at n item.id) item.key item.value)) (get n j)) empty
    by true = ap (λ (p : Pairs). altered p item.key item.value) (same item.id)
    by false = same j

-- have the same still once the same is written in both
pub items_alike : (items : List Item) (m n : FinMap nat_cmp Pairs) → AreAlike m n → AreAlike (written m items) (written n items)
items_alike [] m n same = same
items_alike (item ∷ items) m n same = items_alike items (written m (item ∷ [])) (written n (item ∷ [])) (item_alike m n item same)

-- ---- crashes

module _ (field : FieldOf) (main index since : ℕ) where
  pub amid_passed : (d e : Durable) (tried : List Command) → IsIndexedAmid field main index d.base (d.pending ++ tried) → Passes d tried e → IsIndexedAmid field main index e.base e.pending
  amid_passed d e tried amid passes = passes_indexed field main index d.base e.base passes.safe (d.pending ++ tried) e.pending amid passes.base passes.rest

  pub leaves_indexed : (d e : Durable) (tried : List Command) → IsIndexedAmid field main index d.base (d.pending ++ tried) → Passes d tried e → LeavesOnly d.meaning e.meaning (IsIndexedImage field main index)
  leaves_indexed d e tried amid passes =
      weaken d.meaning e.meaning (StandsAmid d.base [] (d.pending ++ tried)) (IsIndexedImage field main index) passes.leaves
      (λ image left. (kept (fold d.base left.front), left.stands, amid left.front left.within.0 left.within.1))

  -- where nothing was tried
  pub none_tried : (core : Held) (before : Kept) (t : CoreState) (d : Durable) → StandsIndexed field main index since core before t d → IsIndexedAmid field main index d.base (d.pending ++ [])
  none_tried core before t d all = subst (IsIndexedAmid field main index d.base) (sym (append-nil d.pending)) all.amid

  pub present_amid : (core : Held) (before : Kept) (t : CoreState) (d : Durable) → StandsIndexed field main index since core before t d → core.memory.poisoned ≡ false → kept (fold d.base d.pending) ≡ kept (present t.state)
  present_amid core before t d all well =
      let made : MakesPresent false d (store_with_tables t.state.parts.entries core) = subst (λ (b : Bool). MakesPresent b d (store_with_tables t.state.parts.entries core)) well all.on.present in
      made ∙ sym all.stands.machine.remembered.present

  -- where a command was, behind which the present is indexed
  pub one_tried : (core : Held) (before : Kept) (t : CoreState) (d : Durable) (items : List Item) → StandsIndexed field main index since core before t d → core.memory.poisoned ≡ false
      → IsIndexed field main index (apply (present t.state) (Write items)).maps → IsIndexedAmid field main index d.base (d.pending ++ Write items ∷ [])
  one_tried core before t d items all well indexed =
      change_indexed field main index d.base (present t.state) d.pending (Write items) all.amid (present_amid core before t d all well)
      (kept_indexed field main index (apply (present t.state) (Write items)) all.main_lives all.index_lives indexed)

  -- the present is a view
  pub now_indexed : (core : Held) (before : Kept) (t : CoreState) (d : Durable) → StandsIndexed field main index since core before t d → IsIndexed field main index (present t.state).maps
  now_indexed core before t d all =
      let n = number t.state.history in
      subst (λ (s : Store). IsIndexed field main index s.maps) (view_of_all t.state.history (since + n) (omega arith)) (all.views (since + n) (omega arith))

  -- ---- a call that accepts nothing

  pub rests : (old new : Held) (before after : Kept) (t next : CoreState) (d e : Durable) (tried : List Command) → StandsIndexed field main index since old before t d
      → next.state.history ≡ t.state.history → next.accepted ≡ t.accepted → MovesOn (times t.state) (times next.state) → StandFor new after next → ReadsOn new next.state
      → StandsOn new next.state.parts.entries e → IsIndexedAmid field main index d.base (d.pending ++ tried) → Passes d tried e → GoesOnIndexed field main index since [] t d next e new after
  rests old new before after t next d e tried all same list moves stands reads on amid passes = record {
    keeps = record {
      stands = stands;
      reads = reads;
      on = on;
      apart = all.apart;
      main_lives = subst (λ (h : History). is_living (latest h) main ≡ true) (sym same) all.main_lives;
      index_lives = subst (λ (h : History). is_living (latest h) index ≡ true) (sym same) all.index_lives;
      main_alone = subst (λ (l : List Accepted). ChangesByTransactions next.state.history.opened l main) (sym list) (subst (λ (h : History). ChangesByTransactions h.opened t.accepted main) (sym same) all.main_alone);
      index_alone = subst (λ (l : List Accepted). ChangesByTransactions next.state.history.opened l index) (sym list) (subst (λ (h : History). ChangesByTransactions h.opened t.accepted index) (sym same) all.index_alone);
      views = subst (λ (h : History). (instant : ℕ) → since ≤ instant → IsIndexed field main index (view h instant).maps) (sym same) all.views;
      amid = amid_passed d e tried amid passes;
    };
    moves = moves;
    more = [];
    grown = list ∙ sym (append-nil t.accepted);
    wrote = λ id. ap (λ (h : History). map_at (latest h).maps id) same;
    any_moment = leaves_indexed d e tried amid passes;
  }

  -- a call that does nothing
  pub still_goes : (core : Held) (before : Kept) (t : CoreState) (d : Durable) → StandsIndexed field main index since core before t d → GoesOnIndexed field main index since [] t d t d core before
  still_goes core before t d all = record {
    keeps = all;
    moves = NoMove (times t.state);
    more = [];
    grown = sym (append-nil t.accepted);
    wrote = λ id. refl;
    any_moment = started d.meaning (IsIndexedImage field main index) (λ image is. let left = all.on.rests image is in (kept (fold d.base left.front), left.stands, all.amid left.front left.within.0 left.within.1));
  }

  -- what was read
  pub reads_go : (honest : Bool) (old new : Held) (before : Kept) (t : CoreState) (d : Durable) → IsTrue honest → LeavesStanding honest old new → StandsIndexed field main index since old before t d
      → (e : Durable) × GoesOnIndexed field main index since [] t d t e new before
  reads_go honest old new before t d h left all =
      let (e, on, passes) = left.on h t.state d all.stands.machine all.reads all.on in
      let stay : StandFor new before t = record {
        machine = left.stands t.state all.stands.machine;
        same = all.stands.same;
        sound = all.stands.sound;
        checked = all.stands.checked;
        upto = all.stands.upto;
        passed = all.stands.passed;
        keeps = all.stands.keeps;
      } in
      (e, rests old new before before t t d e [] all refl refl (NoMove (times t.state)) stay (left.reads h t.state all.stands.machine all.reads) on (none_tried old before t d all) passes)

  -- the same of a core that was lent
  pub lent_goes : (honest : Bool) (old core left new : Held) (before : Kept) (t : CoreState) (d : Durable) → IsTrue honest → core ≡ old → new ≡ left → LeavesStanding honest core left
      → StandsIndexed field main index since old before t d → (e : Durable) × GoesOnIndexed field main index since [] t d t e new before
  lent_goes honest old core left new before t d h lent given stand all =
      reads_go honest old new before t d h (subst (λ (c : Held). LeavesStanding honest c new) lent (subst (LeavesStanding honest core) (sym given) stand)) all

  -- ---- a transaction that commits

  alone_more : (s : Store) (accepted : List Accepted) (one : Accepted) (id : ℕ) → (one.commit ≡ None → ⊥) → ChangesByTransactions s accepted id → ChangesByTransactions s (accepted ++ one ∷ []) id
  alone_more s [] one id some alone = ((λ none. absurd (some none)), tt)
  alone_more s (a ∷ accepted) one id some alone = (alone.0, alone_more (apply s a.command) accepted one id some alone.1)

  le_cases : (m n : ℕ) → (m ≤ n) ⊎ (suc n ≤ m)
  le_cases zero n = inl (omega arith)
  le_cases (suc m) zero = inr (omega arith)
  le_cases (suc m) (suc n) = elim (le_cases m n) [
    | inl le ↦ inl (omega (arith, le))
    | inr lt ↦ inr (omega (arith, lt))
  ]

  past_all : (h : History) (a : Accepted) (instant : ℕ) → suc (number h) ≤ instant → number (grown h a) ≤ instant
  past_all h a instant lt =
      let e : length (h.accepted ++ a ∷ []) ≡ length h.accepted + 1 = length-append h.accepted (a ∷ []) in
      omega (arith, lt, e)

  pub views_more : (h : History) (a : Accepted) → ((instant : ℕ) → since ≤ instant → IsIndexed field main index (view h instant).maps) → IsIndexed field main index (latest (grown h a)).maps
      → (instant : ℕ) → since ≤ instant → IsIndexed field main index (view (grown h a) instant).maps
  views_more h a views now instant le = elim (le_cases instant (number h)) [
    | inl early ↦ subst (λ (s : Store). IsIndexed field main index s.maps) (sym (view_stays h (a ∷ []) instant early)) (views instant le)
    | inr late ↦ subst (λ (s : Store). IsIndexed field main index s.maps) (sym (view_of_all (grown h a) instant (past_all h a instant late))) now
  ]

  pub grows : (old new : Held) (before after : Kept) (t next : CoreState) (d e : Durable) (items : List Item) (one : Accepted) → StandsIndexed field main index since old before t d
      → (one.commit ≡ None → ⊥) → next.state.history ≡ grown t.state.history (plain (Write items)) → next.accepted ≡ t.accepted ++ one ∷ []
      → MovesOn (times t.state) (times next.state) → StandFor new after next → ReadsOn new next.state → StandsOn new next.state.parts.entries e → old.memory.poisoned ≡ false
      → IsIndexed field main index (apply (present t.state) (Write items)).maps → Passes d (Write items ∷ []) e → GoesOnIndexed field main index since items t d next e new after
  grows old new before after t next d e items one all some same list moves stands reads on well indexed passes =
      let h = t.state.history in
      let a = plain (Write items) in
      let makes : latest (grown h a) ≡ apply (latest h) (Write items) = one_more h a in
      let now : IsIndexed field main index (latest (grown h a)).maps = subst (λ (s : Store). IsIndexed field main index s.maps) (sym makes) indexed in
      let amid = one_tried old before t d items all well indexed in
      let lives : (id : ℕ) → is_living (latest h) id ≡ true → is_living (present next.state) id ≡ true =
      λ id living. subst (λ (k : History). is_living (latest k) id ≡ true) (sym same) (subst (λ (s : Store). is_living s id ≡ true) (sym makes) living) in
      let alone : (id : ℕ) → ChangesByTransactions h.opened t.accepted id → ChangesByTransactions next.state.history.opened next.accepted id =
      λ id was. subst (λ (l : List Accepted). ChangesByTransactions next.state.history.opened l id) (sym list)
      (subst (λ (k : History). ChangesByTransactions k.opened (t.accepted ++ one ∷ []) id) (sym same) (alone_more h.opened t.accepted one id some was)) in
      record {
        keeps = record {
          stands = stands;
          reads = reads;
          on = on;
          apart = all.apart;
          main_lives = lives main all.main_lives;
          index_lives = lives index all.index_lives;
          main_alone = alone main all.main_alone;
          index_alone = alone index all.index_alone;
          views = subst (λ (k : History). (instant : ℕ) → since ≤ instant → IsIndexed field main index (view k instant).maps) (sym same) (views_more h a all.views now);
          amid = amid_passed d e (Write items ∷ []) amid passes;
        };
        moves = moves;
        more = one ∷ [];
        grown = list;
        wrote = λ id. ap (λ (k : History). map_at (latest k).maps id) same ∙ ap (λ (s : Store). map_at s.maps id) makes;
        any_moment = leaves_indexed d e (Write items ∷ []) amid passes;
      }

  -- ---- one call behind another

  pub moves_on : (a b c : Times) → MovesOn a b → MovesOn b c → MovesOn a c
  moves_on a b c (NoMove _) then = then
  moves_on a b c (OneMove _ mid _ first rest) then = OneMove a mid c first (moves_on mid b c rest then)

  -- the first of which writes nothing
  pub goes_then : (mid new : Held) (amid after : Kept) (t u next : CoreState) (d m e : Durable) (items : List Item) → GoesOnIndexed field main index since [] t d u m mid amid
      → GoesOnIndexed field main index since items u m next e new after → GoesOnIndexed field main index since items t d next e new after
  goes_then mid new amid after t u next d m e items first then = record {
    keeps = then.keeps;
    moves = moves_on (times t.state) (times u.state) (times next.state) first.moves then.moves;
    more = first.more ++ then.more;
    grown = then.grown ∙ ap (λ (l : List Accepted). l ++ then.more) first.grown ∙ append_assoc t.accepted first.more then.more;
    wrote = λ id. then.wrote id ∙ items_alike items (present u.state).maps (present t.state).maps first.wrote id;
    any_moment = runs_on d.meaning m.meaning e.meaning (IsIndexedImage field main index) first.any_moment then.any_moment;
  }

  -- which are told otherwise
  pub told_as : (core : Held) (kept : Kept) (t next : CoreState) (d e : Durable) (items others : List Item) → ((id : ℕ) → map_at (written (present t.state).maps items) id ≡ map_at (written (present t.state).maps others) id)
      → GoesOnIndexed field main index since items t d next e core kept → GoesOnIndexed field main index since others t d next e core kept
  told_as core kept t next d e items others same goes = record {
    keeps = goes.keeps;
    moves = goes.moves;
    more = goes.more;
    grown = goes.grown;
    wrote = λ id. goes.wrote id ∙ same id;
    any_moment = goes.any_moment;
  }
