-- Calls that leave both keyspaces alone: the index stays kept.
use Rattle.std.proofs.Common.{◌≡◌, ◌≢◌, ◌≤◌, ◌<◌, ℕ, All, Bool, true, false, cond, List, [], ◌∷◌, ◌++◌, Option, None, Some, is_some, drop, length, map, unwrap_or, refl, sym, ◌∙◌, ap, subst, arith}
use Rattle.std.proofs.lemmas.Bool.Decides.{nat_tests}
use Rattle.std.proofs.lemmas.List.Elements.{All-head, All-tail}
use Rattle.std.proofs.Math.Seq.{drop-append_seam}
use Rattle.std.specs.Cmp.{nat_cmp_total}
use Rattle.std.specs.FinMap.{FinMap, contains_key, empty, get, get-insert, get-remove, insert}
use Rattle.std.specs.Ordering.{eq_by_cmp, nat_cmp}
use Rattle.fjall_base.specs.Pairs.{Bytes, Pairs, altered}
use Rattle.fjall_base.specs.Store.{Clear, Command, Create, Delete, Item, Store, Write, apply, fold, map_at, written}
use Rattle.fjall_base.proofs.Moments.{runs_on}
use Rattle.fjall_history.specs.Histories.{Accepted, History, commands_of, grown, latest, plain, view}
use Rattle.fjall_history.specs.Moves.{NoMove, OneMove}
use Rattle.fjall_history.specs.Serial.{ChangesByTransactions}
use Rattle.fjall_history.specs.declared.reply.Reply.{Reply}
use Rattle.fjall_history.proofs.Views.{one_more}
use Rattle.fjall_machine.specs.Machine.{State, StepOf, is_living, present, times}
use Rattle.fjall_machine.specs.Shapes.{CallShape}
use Rattle.fjall_machine.proofs.Facts.{living_given}
use Rattle.fjall_machine.proofs.Moving.{shape_moves}
use Rattle.fjall_machine.proofs.Standing.{living_agree, next_agrees}
use Rattle.fjall_core.specs.Crashes.{attempt}
use Rattle.fjall_core.specs.Durables.{Durable, Passes}
use Rattle.fjall_core.specs.Holding.{Held}
use Rattle.fjall_core.specs.CoreStanding.{ReadsOn, StandsOn}
use Rattle.fjall_core.specs.Standing.{GoesOn, StandFor, CoreState, gone_on}
use Rattle.fjall_core.specs.Transactions.{Kept}
use Rattle.fjall_core.proofs.AttemptedCommands.{Moves, accepts, faults, stays, step_moves}
use Rattle.fjall_index_entries.specs.Index.{FieldOf, index_of}
use Rattle.fjall_index_entries.specs.Keeping.{IsIndexed, IsIndexedAmid}
use Rattle.fjall_index_entries.proofs.Keeps.{change_indexed, kept_indexed}
use Rattle.fjall_index.specs.OtherCalls.{LeavesAlone}
use Rattle.fjall_index.specs.Standing.{GoesOnIndexed, IsIndexedImage, StandsIndexed, StaysIndexed}
use Rattle.fjall_index.proofs.Beginning.{same_told}
use Rattle.fjall_index.proofs.Going.{amid_passed, leaves_indexed, moves_on, none_tried, now_indexed, present_amid, rests, views_more}

-- ---- another id

other_id : (id n : ℕ) → id < n → eq_by_cmp nat_cmp id n ≡ false
other_id id n lt = grind (arith, nat_tests, lt)

map_other : (maps : FinMap nat_cmp Pairs) (n id : ℕ) (x : Pairs) → id < n → map_at (insert maps n x) id ≡ map_at maps id
map_other maps n id x lt =
    ap (λ (o : Option Pairs). unwrap_or o empty) (get-insert nat_cmp_total maps n x id)
    ∙ ap (λ (b : Bool). unwrap_or (cond b (Some x) (get maps id)) empty) (other_id id n lt)

name_other : (names : FinMap nat_cmp Bytes) (n id : ℕ) (x : Bytes) → id < n → contains_key (insert names n x) id ≡ contains_key names id
name_other names n id x lt = ap is_some (get-insert nat_cmp_total names n x id ∙ ap (λ (b : Bool). cond b (Some x) (get names id)) (other_id id n lt))

apart_id : (id n : ℕ) → n ≢ id → eq_by_cmp nat_cmp id n ≡ false
apart_id id n apart = by (eq_by_cmp nat_cmp id n) refl
  where
    by : (b : Bool) → eq_by_cmp nat_cmp id n ≡ b → eq_by_cmp nat_cmp id n ≡ false
    by false e = e
    by true e = let same : n ≡ id = grind (arith, nat_tests, e) in absurd (apart same)

map_apart : (maps : FinMap nat_cmp Pairs) (n id : ℕ) (x : Pairs) → n ≢ id → map_at (insert maps n x) id ≡ map_at maps id
map_apart maps n id x apart =
    ap (λ (o : Option Pairs). unwrap_or o empty) (get-insert nat_cmp_total maps n x id)
    ∙ ap (λ (b : Bool). unwrap_or (cond b (Some x) (get maps id)) empty) (apart_id id n apart)

-- ---- a command

others_written : (items : List Item) (maps : FinMap nat_cmp Pairs) (id : ℕ) → All (λ (one : Item). one.id ≢ id) items → map_at (written maps items) id ≡ map_at maps id
others_written [] maps id all = refl
others_written (item ∷ items) maps id all =
    others_written items (insert maps item.id (altered (map_at maps item.id) item.key item.value)) id (All-tail (λ (one : Item). one.id ≢ id) item items all)
    ∙ map_apart maps item.id id (altered (map_at maps item.id) item.key item.value) (All-head (λ (one : Item). one.id ≢ id) item items all)

-- a keyspace that is left alone has its map
alone_map : (s : Store) (c : Command) (id : ℕ) → LeavesAlone id c → id < s.next → map_at (apply s c).maps id ≡ map_at s.maps id
alone_map s (Write items) id alone lt = others_written items s.maps id alone
alone_map s (Clear other) id alone lt = map_apart s.maps other id empty alone
alone_map s (Create name options) id alone lt = map_other s.maps s.next id empty lt
alone_map s (Delete other) id alone lt = refl

-- and lives, where it did
alone_lives : (s : Store) (c : Command) (id : ℕ) → LeavesAlone id c → id < s.next → contains_key (apply s c).names id ≡ contains_key s.names id
alone_lives s (Write items) id alone lt = refl
alone_lives s (Clear other) id alone lt = refl
alone_lives s (Create name options) id alone lt = name_other s.names s.next id name lt
alone_lives s (Delete other) id alone lt = ap is_some (get-remove nat_cmp_total s.names other id ∙ ap (λ (b : Bool). cond b None (get s.names id)) (apart_id id other alone))

told_more : (t : CoreState) (s : State) (c : Command) → s.history ≡ grown t.state.history (plain c) → (gone_on t s).accepted ≡ t.accepted ++ plain c ∷ []
told_more t s c e =
    ap (λ (l : List Accepted). t.accepted ++ map plain (commands_of l))
    (ap (λ (h : History). drop (length t.state.history.accepted) h.accepted) e ∙ drop-append_seam t.state.history.accepted (plain c ∷ []))

-- ---- from call to call

module _ (field : FieldOf) (main index since : ℕ) where
  pub stays_of : (core : Held) (before : Kept) (t next : CoreState) (d e : Durable) → GoesOnIndexed field main index since [] t d next e core before → StaysIndexed field main index since t d next e core before
  stays_of core before t next d e goes = record { keeps = goes.keeps; moves = goes.moves; any_moment = goes.any_moment }

  pub stays_then : (mid new : Held) (amid after : Kept) (t u next : CoreState) (d m e : Durable) → StaysIndexed field main index since t d u m mid amid → StaysIndexed field main index since u m next e new after
      → StaysIndexed field main index since t d next e new after
  stays_then mid new amid after t u next d m e first second = record {
    keeps = second.keeps;
    moves = moves_on field main index since (times t.state) (times u.state) (times next.state) first.moves second.moves;
    any_moment = runs_on d.meaning m.meaning e.meaning (IsIndexedImage field main index) first.any_moment second.any_moment;
  }

  below : (core : Held) (before : Kept) (t : CoreState) (d : Durable) → StandsIndexed field main index since core before t d → (id : ℕ) → is_living (present t.state) id ≡ true → id < (present t.state).next
  below core before t d all id lives =
      let r = all.stands.machine.remembered in
      subst (λ n. id < n) (sym (next_agrees core.memory core.catalog.next_table_id t.state r))
      (living_given core.memory.keyspaces r.lawful.keyspaces core.memory.trees id (sym (living_agree core.memory core.catalog.next_table_id t.state r id) ∙ lives))

  -- one command more, which leaves both keyspaces alone
  module _ (core : Held) (before : Kept) (t : CoreState) (d : Durable) (all : StandsIndexed field main index since core before t d) (c : Command) (main_alone : LeavesAlone main c) (index_alone : LeavesAlone index c) where
    main_stays : map_at (apply (present t.state) c).maps main ≡ map_at (present t.state).maps main
    main_stays = alone_map (present t.state) c main main_alone (below core before t d all main all.main_lives)

    index_stays : map_at (apply (present t.state) c).maps index ≡ map_at (present t.state).maps index
    index_stays = alone_map (present t.state) c index index_alone (below core before t d all index all.index_lives)

    main_lives_on : is_living (apply (present t.state) c) main ≡ true
    main_lives_on = alone_lives (present t.state) c main main_alone (below core before t d all main all.main_lives) ∙ all.main_lives

    index_lives_on : is_living (apply (present t.state) c) index ≡ true
    index_lives_on = alone_lives (present t.state) c index index_alone (below core before t d all index all.index_lives) ∙ all.index_lives

    made_indexed : IsIndexed field main index (apply (present t.state) c).maps
    made_indexed = index_stays ∙ now_indexed field main index since core before t d all ∙ ap (index_of field) (sym main_stays)

    made_amid : core.memory.poisoned ≡ false → IsIndexedAmid field main index d.base (d.pending ++ c ∷ [])
    made_amid well =
        change_indexed field main index d.base (present t.state) d.pending c all.amid (present_amid field main index since core before t d all well)
        (kept_indexed field main index (apply (present t.state) c) main_lives_on index_lives_on made_indexed)

  alone_too : (s : Store) (accepted : List Accepted) (c : Command) (id : ℕ) (now : Store) → now ≡ fold s (commands_of accepted)
      → map_at (apply now c).maps id ≡ map_at now.maps id → ChangesByTransactions s accepted id → ChangesByTransactions s (accepted ++ plain c ∷ []) id
  alone_too s [] c id now is same alone = ((λ none. subst (λ (x : Store). map_at (apply x c).maps id ≡ map_at x.maps id) is same), tt)
  alone_too s (a ∷ accepted) c id now is same alone = (alone.0, alone_too (apply s a.command) accepted c id now is same alone.1)

  made_stays : (old new : Held) (before after : Kept) (t : CoreState) (s : State) (d e : Durable) (c : Command) → (all : StandsIndexed field main index since old before t d) → LeavesAlone main c → LeavesAlone index c
      → s.history ≡ grown t.state.history (plain c) → StandFor new after (gone_on t s) → ReadsOn new s → StandsOn new s.parts.entries e → old.memory.poisoned ≡ false
      → Passes d (c ∷ []) e → (shape : CallShape) (reply : Reply) → StepOf t.state shape reply s → StaysIndexed field main index since t d (gone_on t s) e new after
  made_stays old new before after t s d e c all main_alone index_alone same stands reads on well passes shape reply step =
      let h = t.state.history in
      let makes : latest (grown h (plain c)) ≡ apply (latest h) c = one_more h (plain c) in
      let amid = made_amid old before t d all c main_alone index_alone well in
      let list = told_more t s c same in
      let lives : (id : ℕ) → is_living (apply (latest h) c) id ≡ true → is_living (present s) id ≡ true =
      λ id living. subst (λ (k : History). is_living (latest k) id ≡ true) (sym same) (subst (λ (x : Store). is_living x id ≡ true) (sym makes) living) in
      let alone : (id : ℕ) → map_at (apply (latest h) c).maps id ≡ map_at (latest h).maps id → ChangesByTransactions h.opened t.accepted id → ChangesByTransactions s.history.opened (gone_on t s).accepted id =
      λ id stays was. subst (λ (l : List Accepted). ChangesByTransactions s.history.opened l id) (sym list)
      (subst (λ (k : History). ChangesByTransactions k.opened (t.accepted ++ plain c ∷ []) id) (sym same)
      (alone_too h.opened t.accepted c id (latest h) (sym (ap (fold h.opened) all.stands.same)) stays was)) in
      record {
        keeps = record {
          stands = stands;
          reads = reads;
          on = on;
          apart = all.apart;
          main_lives = lives main (main_lives_on old before t d all c main_alone index_alone);
          index_lives = lives index (index_lives_on old before t d all c main_alone index_alone);
          main_alone = alone main (main_stays old before t d all c main_alone index_alone) all.main_alone;
          index_alone = alone index (index_stays old before t d all c main_alone index_alone) all.index_alone;
          views = subst (λ (k : History). (instant : ℕ) → since ≤ instant → IsIndexed field main index (view k instant).maps) (sym same)
              (views_more field main index since h (plain c) all.views (subst (λ (x : Store). IsIndexed field main index x.maps) (sym makes) (made_indexed old before t d all c main_alone index_alone)));
          amid = amid_passed field main index since d e (c ∷ []) amid passes;
        };
        moves = OneMove (times t.state) (times s) (times s) (shape_moves t.state s shape reply step) (NoMove (times s));
        any_moment = leaves_indexed field main index since d e (c ∷ []) amid passes;
      }

  -- whatever is called that tries no command but such ones
  pub another_call : (old new : Held) (before after : Kept) (t : CoreState) (d : Durable) (shape : CallShape) (reply : Reply) → StandsIndexed field main index since old before t d
      → All (LeavesAlone main) (attempt t.state shape reply) → All (LeavesAlone index) (attempt t.state shape reply)
      → (goes : GoesOn old t shape reply new after) → (e : Durable) × StaysIndexed field main index since t d (gone_on t goes.0) e new after
  another_call old new before after t d shape reply all main_alone index_alone (s, stands, reads, step, led) =
      let (e, on, passes) = led d all.on in
      (e, by e on passes.0 (step_moves t.state s shape reply step))
    where
      well_where : t.state.poisoned ≡ false → old.memory.poisoned ≡ false
      well_where well = sym all.stands.machine.remembered.poisoned ∙ well

      head : (P : Command → Type 0) (c : Command) → attempt t.state shape reply ≡ c ∷ [] → All P (attempt t.state shape reply) → P c
      head P c one each = All-head P c [] (subst (All P) one each)

      quiet : (e : Durable) (tried : List Command) → StandsOn new s.parts.entries e → s.history ≡ t.state.history → IsIndexedAmid field main index d.base (d.pending ++ tried) → Passes d tried e
          → StaysIndexed field main index since t d (gone_on t s) e new after
      quiet e tried on same amid passes =
          stays_of new after t (gone_on t s) d e
          (rests field main index since old new before after t (gone_on t s) d e tried all same (same_told t s same)
          (OneMove (times t.state) (times s) (times s) (shape_moves t.state s shape reply step) (NoMove (times s))) stands reads on amid passes)

      by : (e : Durable) → StandsOn new s.parts.entries e → Passes d (attempt t.state shape reply) e → Moves t.state (attempt t.state shape reply) s → StaysIndexed field main index since t d (gone_on t s) e new after
      by e on passes (stays nothing same flag) = quiet e [] on same (none_tried field main index since old before t d all) (subst (λ (l : List Command). Passes d l e) nothing passes)
      by e on passes (accepts c one same well) =
          made_stays old new before after t s d e c all (head (LeavesAlone main) c one main_alone) (head (LeavesAlone index) c one index_alone) same stands reads on (well_where well)
          (subst (λ (l : List Command). Passes d l e) one passes) shape reply step
      by e on passes (faults c one same flag well) =
          quiet e (c ∷ []) on same (made_amid old before t d all c (head (LeavesAlone main) c one main_alone) (head (LeavesAlone index) c one index_alone) (well_where well))
          (subst (λ (l : List Command). Passes d l e) one passes)
