-- A load of many pairs: what the changes that its transaction keeps make of the main keyspace, and how its calls go on.
use Rattle.std.proofs.Common.{◌≡◌, ◌≢◌, ℕ, Bool, true, false, true≢false, cond, List, [], ◌∷◌, ◌++◌, OnErr, OnOk, Option, Some, Result, Ok, Err, map, refl, sym, ◌∙◌, ap, subst, append_assoc}
use Rattle.std.proofs.lemmas.List.{append-nil, map-append}
use Rattle.std.proofs.lemmas.Map.Keys.{sorted_head, sorted_tail}
use Rattle.std.specs.BTreeMap.{insert_entry}
use Rattle.std.specs.Cmp.{tied_itself}
use Rattle.std.specs.Cmp.Lexicographic.{nat_list_cmp_total}
use Rattle.std.specs.FinMap.{FinMap, same_map}
use Rattle.std.specs.List.{AllByRecursion}
use Rattle.std.specs.List.Sorted.{IsStrictlySortedBy}
use Rattle.std.specs.Ordering.{eq_by_cmp, match_ordering, nat_cmp}
use Rattle.std.specs.Prelude.{Vec}
use Rattle.std.specs.Result.{IsErr}
use Rattle.std.specs.declared.alloc.Global.{Global}
use Rattle.std.specs.declared.cmp.Ordering.{Ordering}
use Rattle.std.specs.declared.cmp.Ordering.TheVariants.{Less, Equal, Greater}
use Rattle.fjall_base.specs.Pairs.{Bytes, Pairs, altered, byte_order, lookup}
use Rattle.fjall_base.specs.Store.{Item, map_at, written}
use Rattle.fjall_journal.specs.Ops.{BatchItem, item_in}
use Rattle.fjall_tx.proofs.Keys.{byte_tied}
use Rattle.fjall_tx.proofs.Merges.{lesser}
use Rattle.fjall_history.specs.declared.ticket.View.TheVariants.{At}
use Rattle.fjall_machine.specs.Machine.{maps_in, present}
use Rattle.fjall_core.specs.Durables.{Durable}
use Rattle.fjall_core.specs.Holding.{Held}
use Rattle.fjall_core.specs.Standing.{CoreState}
use Rattle.fjall_core.specs.Transactions.{Kept}
use Rattle.fjall_index_entries.specs.Index.{FieldOf}
use Rattle.fjall_index_entries.specs.declared.error.IndexError.{IndexError}
use Rattle.fjall_index_entries.proofs.Index.{get_altered}
use Rattle.fjall_index_entries.proofs.Keeps.{put_main, put_others, written_append}
use Rattle.fjall_index_entries.proofs.Standing.{eq_same, same_bytes}
use Rattle.fjall_index.specs.declared.indexed_tx.IndexedTx.{IndexedTx}
use Rattle.fjall_index.specs.Changes.{Change, IsIndexedTx, batch_of, items_in}
use Rattle.fjall_index.specs.KeptChanges.{KeepsChange}
use Rattle.fjall_index.specs.Loading.{IsOfItsKey, AreLoads, KeepsPairs, loaded}
use Rattle.fjall_index.specs.Standing.{GoesOnIndexed, KeepsIndexed, StandsIndexed, nothing}
use Rattle.fjall_index.proofs.Going.{goes_then, still_goes}

-- ---- a map, some keys of which become something else

cond_twice : {X : Type 0} (b : Bool) (x y z : X) → cond b x (cond b y z) ≡ cond b x z
cond_twice true x y z = refl
cond_twice false x y z = refl

-- of one key what it becomes last counts
altered_again : (m : Pairs) (key : Bytes) (first last : Option Bytes) → altered (altered m key first) key last ≡ altered m key last
altered_again m key first last = same_map nat_list_cmp_total same_bytes _ _ (λ q.
    get_altered (altered m key first) key last q
    ∙ ap (cond (eq_by_cmp byte_order q key) last) (get_altered m key first q)
    ∙ cond_twice (eq_by_cmp byte_order q key) last first (lookup m q)
    ∙ sym (get_altered m key last q))

-- and of two their order doesn't
altered_apart : (m : Pairs) (key other : Bytes) (value its : Option Bytes) → key ≢ other
    → altered (altered m key value) other its ≡ altered (altered m other its) key value
altered_apart m key other value its apart = same_map nat_list_cmp_total same_bytes _ _ (λ q.
    get_altered (altered m key value) other its q
    ∙ ap (cond (eq_by_cmp byte_order q other) its) (get_altered m key value q)
    ∙ by q (eq_by_cmp byte_order q other) (eq_by_cmp byte_order q key) refl refl
    ∙ sym (ap (cond (eq_by_cmp byte_order q key) value) (get_altered m other its q))
    ∙ sym (get_altered (altered m other its) key value q))
  where
    by : (q : Bytes) (b c : Bool) → eq_by_cmp byte_order q other ≡ b → eq_by_cmp byte_order q key ≡ c
        → cond b its (cond c value (lookup m q)) ≡ cond c value (cond b its (lookup m q))
    by q true true is also = absurd (apart (sym (eq_same q key also) ∙ eq_same q other is))
    by q true false is also = refl
    by q false true is also = refl
    by q false false is also = refl

-- ---- keys in their order

abbrev key_of : Change → Bytes
key_of change = change.0

abbrev IsBelow : Bytes → Bytes → Type 0
IsBelow key other = byte_order key other ≡ Less

below_all : (key first : Bytes) (keys : List Bytes) → IsBelow key first → AllByRecursion (IsBelow first) keys → AllByRecursion (IsBelow key) keys
below_all key first [] less all = tt
below_all key first (k ∷ keys) less all = (nat_list_cmp_total.trans key first k less all.0, below_all key first keys less all.1)

apart_from : (key : Bytes) (es : List Change) → AllByRecursion (IsBelow key) (map key_of es) → AllByRecursion (λ (e : Change). e.0 ≢ key) es
apart_from key [] below = tt
apart_from key (e ∷ es) below = (
  (λ same.
      let itself : Equal ≡ Less = sym (tied_itself nat_list_cmp_total key) ∙ subst (IsBelow key) same below.0 in
      let bad : ⊥ = cc in
      bad),
  apart_from key es below.1,
)

module _ (key : Bytes) (batch : Vec BatchItem Global) where
  -- what holds of all changes, and of one more, holds behind it
  all_more : (P : Change → Type 0) (es : List Change) → P (key, batch) → AllByRecursion P es → AllByRecursion P (insert_entry byte_order es key batch)
  all_more P [] here all = (here, tt)
  all_more P (e ∷ es) here all = by (byte_order key e.0) refl (all_more P es here all.1)
    where
      by : (o : Ordering) → byte_order key e.0 ≡ o → AllByRecursion P (insert_entry byte_order es key batch)
          → AllByRecursion P (match_ordering o ((key, batch) ∷ e ∷ es) ((e.0, batch) ∷ es) (e ∷ insert_entry byte_order es key batch))
      by Less is rest = (here, all)
      by Equal is rest = (subst (λ (k : Bytes). P (k, batch)) (byte_tied key e.0 is) here, all.1)
      by Greater is rest = (all.0, rest)

  below_more : (first : Bytes) (es : List Change) → IsBelow first key → AllByRecursion (IsBelow first) (map key_of es)
      → AllByRecursion (IsBelow first) (map key_of (insert_entry byte_order es key batch))
  below_more first [] here all = (here, tt)
  below_more first (e ∷ es) here all = by (byte_order key e.0) (below_more first es here all.1)
    where
      by : (o : Ordering) → AllByRecursion (IsBelow first) (map key_of (insert_entry byte_order es key batch))
          → AllByRecursion (IsBelow first) (map key_of (match_ordering o ((key, batch) ∷ e ∷ es) ((e.0, batch) ∷ es) (e ∷ insert_entry byte_order es key batch)))
      by Less rest = (here, all)
      by Equal rest = all
      by Greater rest = (all.0, rest)

  sorted_more : (es : List Change) → IsStrictlySortedBy byte_order (map key_of es)
      → IsStrictlySortedBy byte_order (map key_of (insert_entry byte_order es key batch))
  unfolding IsStrictlySortedBy
  sorted_more [] sorted = (tt, tt)
  sorted_more (e ∷ es) sorted = by (byte_order key e.0) refl (sorted_more es sorted.1)
    where
      by : (o : Ordering) → byte_order key e.0 ≡ o → IsStrictlySortedBy byte_order (map key_of (insert_entry byte_order es key batch))
          → IsStrictlySortedBy byte_order (map key_of (match_ordering o ((key, batch) ∷ e ∷ es) ((e.0, batch) ∷ es) (e ∷ insert_entry byte_order es key batch)))
      by Less is rest = ((is, below_all key e.0 (map key_of es) is sorted.0), sorted)
      by Equal is rest = sorted
      by Greater is rest = (below_more e.0 es (lesser byte_order nat_list_cmp_total key e.0 is) sorted.0, rest)

-- ---- the main keyspace

-- what a change writes comes ahead of what those behind it write
one_ahead : (maps : FinMap nat_cmp Pairs) (id : ℕ) (e : Change) (es : List Change)
    → map_at (written maps (items_in (e ∷ es))) id ≡ map_at (written (written maps (map item_in e.1.items)) (items_in es)) id
one_ahead maps id e es =
    ap (λ (l : List Item). map_at (written maps l) id) (map-append item_in e.1.items (batch_of es))
    ∙ ap (λ (n : FinMap nat_cmp Pairs). map_at n id) (written_append maps (map item_in e.1.items) (items_in es))

module _ (main index : ℕ) where
  -- other keyspaces stay
  pub others_spared : (es : List Change) → AllByRecursion (IsOfItsKey main index) es → (maps : FinMap nat_cmp Pairs) (id : ℕ) → id ≢ main → id ≢ index
      → map_at (written maps (items_in es)) id ≡ map_at maps id
  others_spared [] each maps id apart also = refl
  others_spared (e ∷ es) each maps id apart also = one_ahead maps id e es ∙ others_spared es each.1 (written maps (map item_in e.1.items)) id apart also ∙ each.0.spares maps id apart also

  module _ (key : Bytes) (value : Option Bytes) where
    -- a key that they don't change may become something else before or behind them
    change_apart : (es : List Change) → AllByRecursion (IsOfItsKey main index) es → AllByRecursion (λ (e : Change). e.0 ≢ key) es
        → (maps others : FinMap nat_cmp Pairs)
        → map_at others main ≡ altered (map_at maps main) key value
        → map_at (written others (items_in es)) main ≡ altered (map_at (written maps (items_in es)) main) key value
    change_apart [] each apart maps others is = is
    change_apart (e ∷ es) each apart maps others is =
        one_ahead others main e es
        ∙ change_apart es each.1 apart.1 (written maps (map item_in e.1.items)) (written others (map item_in e.1.items))
        (each.0.alters others
        ∙ ap (λ (p : Pairs). altered p e.0 each.0.value) is
        ∙ altered_apart (map_at maps main) key e.0 value each.0.value (λ same. apart.0 (sym same))
        ∙ ap (λ (p : Pairs). altered p key value) (sym (each.0.alters maps)))
        ∙ ap (λ (p : Pairs). altered p key value) (sym (one_ahead maps main e es))

    -- one change more, in its place, alters its key of what the others make
    one_more : (batch : Vec BatchItem Global) (es : List Change)
        → ((maps : FinMap nat_cmp Pairs) → map_at (written maps (map item_in batch.items)) main ≡ altered (map_at maps main) key value)
        → AllByRecursion (IsOfItsKey main index) es → IsStrictlySortedBy byte_order (map key_of es) → (maps : FinMap nat_cmp Pairs)
        → map_at (written maps (items_in (insert_entry byte_order es key batch))) main ≡ altered (map_at (written maps (items_in es)) main) key value
    one_more batch [] here each sorted maps = one_ahead maps main (key, batch) [] ∙ here maps
    one_more batch (e ∷ es) here each sorted maps = by (byte_order key e.0) refl (one_more batch es here each.1 (sorted_tail byte_order e.0 (map key_of es) sorted))
      where
        below : AllByRecursion (IsBelow e.0) (map key_of es)
        below = sorted_head byte_order e.0 (map key_of es) sorted

        own : FinMap nat_cmp Pairs
        own = written maps (map item_in e.1.items)

        new : FinMap nat_cmp Pairs
        new = written maps (map item_in batch.items)

        by : (o : Ordering) → byte_order key e.0 ≡ o
            → ((maps : FinMap nat_cmp Pairs) → map_at (written maps (items_in (insert_entry byte_order es key batch))) main ≡ altered (map_at (written maps (items_in es)) main) key value)
            → map_at (written maps (items_in (match_ordering o ((key, batch) ∷ e ∷ es) ((e.0, batch) ∷ es) (e ∷ insert_entry byte_order es key batch)))) main
            ≡ altered (map_at (written maps (items_in (e ∷ es))) main) key value
        by Less is rest =
            one_ahead maps main (key, batch) (e ∷ es)
            ∙ change_apart (e ∷ es) each (apart_from key (e ∷ es) (is, below_all key e.0 (map key_of es) is below)) maps new (here maps)
        by Equal is rest =
            let same : key ≡ e.0 = byte_tied key e.0 is in
            one_ahead maps main (e.0, batch) es
            ∙ change_apart es each.1 (apart_from key es (subst (λ (k : Bytes). AllByRecursion (IsBelow k) (map key_of es)) (sym same) below)) own new
            (here maps
            ∙ sym (altered_again (map_at maps main) key each.0.value value)
            ∙ ap (λ (k : Bytes). altered (altered (map_at maps main) k each.0.value) key value) same
            ∙ ap (λ (p : Pairs). altered p key value) (sym (each.0.alters maps)))
            ∙ ap (λ (p : Pairs). altered p key value) (sym (one_ahead maps main e es))
        by Greater is rest =
            one_ahead maps main e (insert_entry byte_order es key batch)
            ∙ rest own
            ∙ ap (λ (p : Pairs). altered p key value) (sym (one_ahead maps main e es))

-- ---- pairs, one behind another

loaded_more : (pairs : List (Bytes × Bytes)) (key value : Bytes) (m : Pairs) → loaded (pairs ++ (key, value) ∷ []) m ≡ altered (loaded pairs m) key (Some value)
loaded_more [] key value m = refl
loaded_more (pair ∷ pairs) key value m = loaded_more pairs key value (altered m pair.0 (Some pair.1))

-- no change makes what no pair does
pub no_loads : (main index : ℕ) → AreLoads main index [] []
unfolding IsStrictlySortedBy
no_loads main index = record { each = tt; sorted = tt; makes = λ maps. refl }

-- and one more what one more does
pub loads_more : (main index : ℕ) (es : List Change) (pairs : List (Bytes × Bytes)) (key value : Bytes) (batch : Vec BatchItem Global)
    → ((maps : FinMap nat_cmp Pairs) → map_at (written maps (map item_in batch.items)) main ≡ altered (map_at maps main) key (Some value))
    → ((maps : FinMap nat_cmp Pairs) (id : ℕ) → id ≢ main → id ≢ index → map_at (written maps (map item_in batch.items)) id ≡ map_at maps id)
    → AreLoads main index es pairs → AreLoads main index (insert_entry byte_order es key batch) (pairs ++ (key, value) ∷ [])
loads_more main index es pairs key value batch here spares loads = record {
  each = all_more key batch (IsOfItsKey main index) es (record { value = Some value; alters = here; spares = spares }) loads.each;
  sorted = sorted_more key batch es loads.sorted;
  makes = λ maps.
      one_more main index key (Some value) batch es here loads.each loads.sorted maps
      ∙ ap (λ (p : Pairs). altered p key (Some value)) (loads.makes maps)
      ∙ sym (loaded_more pairs key value (map_at maps main));
}

-- ---- from call to call

module _ (field : FieldOf) (main index : ℕ) where
  -- no pair yet
  pub none_put : (core : Held) (kept : Kept) (tx : IndexedTx) → KeepsPairs field main index [] tx (Ok tt) tx core kept core kept
  none_put core kept tx since t d all =
      (d, still_goes field main index since core kept t d all, (λ is. is), λ earlier loads. subst (AreLoads main index tx.changes.entries) (sym (append-nil earlier)) loads)

  -- one pair more
  pub one_put : (old mid new : Held) (before amid after : Kept) (tx half next : IndexedTx) (pairs : List (Bytes × Bytes)) (key value : Bytes)
      → KeepsPairs field main index pairs tx (Ok tt) half old before mid amid
      → KeepsChange field main index key (Some value) half (Ok tt) next mid amid new after
      → KeepsPairs field main index (pairs ++ (key, value) ∷ []) tx (Ok tt) next old before new after
  one_put old mid new before amid after tx half next pairs key value puts change since t d all =
      let (m, first, stays, loads) = puts since t d all in
      let (e, then, keeps, has) = change since t m first.keeps in
      let was : Option Bytes = lookup (map_at (maps_in t.state (At half.transaction.ticket)) main) key in
      let here : (maps : FinMap nat_cmp Pairs) → map_at (written maps (map item_in has.batch.items)) main ≡ altered (map_at maps main) key (Some value) =
      λ maps. ap (λ (l : List Item). map_at (written maps l) main) has.of ∙ put_main field main index maps key was (Some value) all.apart in
      let spares : (maps : FinMap nat_cmp Pairs) (id : ℕ) → id ≢ main → id ≢ index → map_at (written maps (map item_in has.batch.items)) id ≡ map_at maps id =
      λ maps id apart also. ap (λ (l : List Item). map_at (written maps l) id) has.of ∙ put_others field main index maps key was (Some value) id apart also in (
        e,
        goes_then field main index since mid new amid after t t t d m e [] first then,
        (λ is. keeps (stays is)),
        λ earlier ahead.
            subst (AreLoads main index next.changes.entries) (append_assoc earlier pairs ((key, value) ∷ []))
            (subst (λ (es : List Change). AreLoads main index es ((earlier ++ pairs) ++ (key, value) ∷ [])) (sym has.kept)
            (loads_more main index half.changes.entries (earlier ++ pairs) key value has.batch here spares (loads earlier ahead))),
      )

  -- one that is refused
  pub put_refused : (old mid new : Held) (before amid after : Kept) (tx half next : IndexedTx) (pairs whole : List (Bytes × Bytes)) (key value : Bytes) (done answer : Result Unit IndexError)
      → IsErr answer
      → KeepsPairs field main index pairs tx (Ok tt) half old before mid amid → KeepsChange field main index key (Some value) half done next mid amid new after
      → KeepsPairs field main index whole tx answer next old before new after
  put_refused old mid new before amid after tx half next pairs whole key value done (Ok _) fails puts change since t d all = absurd (true≢false (sym fails))
  put_refused old mid new before amid after tx half next pairs whole key value done (Err error) fails puts change since t d all =
      let (m, first, stays, loads) = puts since t d all in
      let (e, then, keeps, has) = change since t m first.keeps in
      (e, goes_then field main index since mid new amid after t t t d m e [] first then, (λ is. keeps (stays is)), tt)

module _ (field : FieldOf) (main index since : ℕ) where
  -- So a load goes on that is answered so: the main keyspace has what the pairs make, or nothing was written.
  abbrev pub Loads : CoreState → Durable → List (Bytes × Bytes) → Result Unit IndexError → Held → Kept → Type 0
  Loads t d pairs answer new after =
      (next : CoreState) × (e : Durable) × (items : List Item) × GoesOnIndexed field main index since items t d next e new after × OnErr answer (items ≡ [])
      × OnOk answer (map_at (present next.state).maps main ≡ loaded pairs (map_at (present t.state).maps main))
      × OnOk answer ((id : ℕ) → id ≢ main → id ≢ index → map_at (present next.state).maps id ≡ map_at (present t.state).maps id)

  -- it is refused
  pub not_loaded : (new : Held) (after : Kept) (t next : CoreState) (d e : Durable) (pairs : List (Bytes × Bytes)) (answer : Result Unit IndexError) → IsErr answer
      → GoesOnIndexed field main index since [] t d next e new after → Loads t d pairs answer new after
  not_loaded new after t next d e pairs (Ok _) fails goes = absurd (true≢false (sym fails))
  not_loaded new after t next d e pairs (Err error) fails goes = (next, e, [], goes, refl, tt, tt)

  module _ (mid low new : Held) (amid half after : Kept) (t u : CoreState) (d m : Durable) (tx next : IndexedTx) (pairs : List (Bytes × Bytes)) (first : GoesOnIndexed field main index since [] t d u m mid amid) where
    -- it is rolled back
    pub rolled_back : (done answer : Result Unit IndexError) → IsErr answer → KeepsPairs field main index pairs tx done next mid amid low half
        → KeepsIndexed field main index nothing low half new after → Loads t d pairs answer new after
    rolled_back done answer fails puts rolls =
        let (n, second, stays, loads) = puts since u m first.keeps in
        let (v, e, third) = rolls since u n second.keeps in
        not_loaded new after t v d e pairs answer fails
        (goes_then field main index since mid new amid after t u v d m e [] first (goes_then field main index since low new half after u u v m n e [] second third))

    -- it doesn't commit
    pub not_committed : (answer : Result Unit IndexError) → IsErr answer → IsIndexedTx field main index u tx
        → KeepsPairs field main index pairs tx (Ok tt) next mid amid low half
        → ((w : CoreState) (n : Durable) → StandsIndexed field main index since low half w n → IsIndexedTx field main index w next → (v : CoreState) × (e : Durable) × GoesOnIndexed field main index since [] w n v e new after)
        → Loads t d pairs answer new after
    not_committed answer fails is puts commits =
        let (n, second, stays, loads) = puts since u m first.keeps in
        let (v, e, third) = commits u n second.keeps (stays is) in
        not_loaded new after t v d e pairs answer fails
        (goes_then field main index since mid new amid after t u v d m e [] first (goes_then field main index since low new half after u u v m n e [] second third))

    -- it commits
    pub committed : IsIndexedTx field main index u tx → tx.changes.entries ≡ [] → KeepsPairs field main index pairs tx (Ok tt) next mid amid low half
        → ((w : CoreState) (n : Durable) → StandsIndexed field main index since low half w n → IsIndexedTx field main index w next
        → (v : CoreState) × (e : Durable) × GoesOnIndexed field main index since (items_in next.changes.entries) w n v e new after)
        → Loads t d pairs (Ok tt) new after
    committed is none puts commits =
        let (n, second, stays, loads) = puts since u m first.keeps in
        let (v, e, third) = commits u n second.keeps (stays is) in
        let items = items_in next.changes.entries in
        let goes = goes_then field main index since mid new amid after t u v d m e items first (goes_then field main index since low new half after u u v m n e items second third) in
        let load : AreLoads main index next.changes.entries pairs = loads [] (subst (λ (es : List Change). AreLoads main index es []) (sym none) (no_loads main index)) in (
          v,
          e,
          items,
          goes,
          tt,
          goes.wrote main ∙ load.makes (present t.state).maps,
          λ id apart also. goes.wrote id ∙ others_spared main index next.changes.entries load.each (present t.state).maps id apart also,
        )
