-- A transaction that is open, as an engine keeps it and as callers know it.
use Rattle.std.proofs.Common.{◌≡◌, ℕ, ◌≤◌, ◌<◌, Bool, List, [], ◌∷◌, ◌++◌, map, Option, None, Some, true, false, refl, sym, ap, subst, ◌∙◌, inl, inr, ⊎_elim, arith, length-append, append-nil}
use Rattle.std.specs.Prelude.{Contains, ◌⊎◌, if◌then◌else◌}
use Rattle.std.specs.FinMap.{empty, get, insert}
use Rattle.std.specs.FinSet as set
use Rattle.std.specs.Option.{option_eq, option_map}
use Rattle.std.specs.Str.{bytes_eq}
use Rattle.std.proofs.lemmas.List.Elements.{All-contains, Contains-append_cases, Contains-append_left, Contains-append_right, Contains-push, Contains-push_cases}
use Rattle.fjall_base.specs.Pairs.{Bytes}
use Rattle.fjall_base.specs.Store.{Command, Item, Store, map_at}
use Rattle.fjall_journal.specs.Ops.{value_in}
use Rattle.fjall_journal.specs.declared.op.Op.{Op}
use Rattle.fjall_journal.specs.declared.op.Op.TheVariants.{Put, Remove}
use Rattle.fjall_journal.specs.declared.persist_mode.PersistMode.{PersistMode}
use Rattle.fjall_journal.specs.declared.persist_mode.PersistMode.TheVariants.{Buffer}
use Rattle.fjall_tx.specs.Marks.{IsCovered, Mark, Marks, OfKey, with_read, with_write}
use Rattle.fjall_tx.specs.declared.oracle.Committed.{Committed}
use Rattle.fjall_tx.specs.Oracles.{Conflicts, commit_of}
use Rattle.fjall_tx.specs.Owns.{Own, key_of, own_written}
use Rattle.fjall_tx.specs.Places.{place, place_order}
use Rattle.fjall_tx.proofs.Growing.{writes_add_up}
use Rattle.fjall_history.specs.Histories.{Commit, History, commits, extended, grown, number, plain, view}
use Rattle.fjall_history.proofs.Growing.{commits_commit, commits_many, numbered}
use Rattle.fjall_history.proofs.Views.{view_stays}
use Rattle.fjall_calls.specs.declared.call.Kind.{Kind}
use Rattle.fjall_calls.specs.declared.call.Kind.TheVariants.{Optimistic, Single}
use Rattle.fjall_consistency.specs.Alike.{AreAlike}
use Rattle.fjall_consistency.specs.Consistency.{IsMet, Transaction, one, reading, seen, updating, value_at}
use Rattle.fjall_consistency.proofs.Alike.{IsOwn, keys_more, keys_of, own_alike, owns_more, owns_none}
use Rattle.fjall_consistency.proofs.Meeting.{met_by}

-- an optimistic transaction has marks, a single writer's none
abbrev pub IsOfKind : Kind → Option Marks → Type 0
IsOfKind Optimistic (Some marks) = Unit {0}
IsOfKind Single None = Unit {0}
IsOfKind kind marks = ⊥

-- where it marks, these are its marks of reads
abbrev pub ReadSo : Option Marks → List Mark → Type 0
ReadSo None reads = Unit {0}
ReadSo (Some marks) reads = marks.reads ≡ reads

-- the key is marked as written, or has an own write
abbrev pub IsWritten : Marks → Own → ℕ → Bytes → Type 0
IsWritten marks own id key = (set.contains marks.writes (place id key) ≡ true) ⊎ ((op : Op) × (get own (key_of id key) ≡ Some op))

-- where it marks, these are the keys that are written so
pub record WroteThese (marks : Marks) (own : Own) (writes : List (ℕ × Bytes)) : Type 0 where
  pub listed : (id : ℕ) (key : Bytes) → IsWritten marks own id key → Contains {X = ℕ × Bytes} writes (id, key)
  pub written : (id : ℕ) (key : Bytes) → Contains {X = ℕ × Bytes} writes (id, key) → IsWritten marks own id key

abbrev pub WroteSo : Option Marks → Own → List (ℕ × Bytes) → Type 0
WroteSo None own writes = Unit {0}
WroteSo (Some marks) own writes = WroteThese marks own writes

-- one of these that is numbered at or above the instant wrote the key
pub record IsLate (committed : List Committed) (instant id : ℕ) (key : Bytes) : Type 0 where
  pub commit : Committed
  pub among : Contains committed commit
  pub late : instant ≤ commit.number
  pub wrote : set.contains commit.writes (place id key) ≡ true

-- A transaction that reads at an instant of a history, with these own writes, marks and mode, is known as that one.
pub record IsSame (h : History) (instant : ℕ) (writes : Own) (marks : Option Marks) (persists : Option PersistMode) (tx : Transaction) : Type 0 where
  pub kind : IsOfKind tx.kind marks
  pub within : instant ≤ number h
  pub view : AreAlike (view h instant) tx.view
  pub own : IsOwn writes tx.own
  pub reads : ReadSo marks tx.reads
  pub wrote : WroteSo marks writes tx.writes
  pub late : (id : ℕ) (key : Bytes) → Contains {X = ℕ × Bytes} tx.since (id, key) → IsLate (commits h) instant id key
  pub since : (id : ℕ) (key : Bytes) → IsLate (commits h) instant id key → Contains {X = ℕ × Bytes} tx.since (id, key)
  pub mode : tx.mode ≡ persists

-- ---- it begins

abbrev pub first_of : Kind → Option Marks
first_of Optimistic = Some (record { reads = []; writes = set.empty })
first_of Single = None

abbrev pub new_transaction : Kind → Store → Transaction
new_transaction kind s = record { kind = kind; view = s; own = []; reads = []; writes = []; since = []; mode = Some Buffer }

-- it has marks as its kind has
kind_begun : (kind : Kind) → IsOfKind kind (first_of kind)
kind_begun Optimistic = tt
kind_begun Single = tt

-- none of reads
reads_begun : (kind : Kind) → ReadSo (first_of kind) []
reads_begun Optimistic = refl
reads_begun Single = tt

-- no key is written
unwritten : (id : ℕ) (key : Bytes) → IsWritten (record { reads = []; writes = set.empty }) empty id key → ⊥
unwritten id key (inl is) = let none = set.contains-empty place_order (place id key) in absurd cc
unwritten id key (inr is) = let has = owns_none.keyed id key is.0 is.1 in let lt = has.1 in absurd (omega arith)

wrote_begun : (kind : Kind) → WroteSo (first_of kind) empty []
wrote_begun Single = tt
wrote_begun Optimistic = record {
  listed = λ id key is. absurd (unwritten id key is);
  written = λ id key has. let lt = has.1 in absurd (omega arith);
}

-- no commit of a history is late at its number
none_late : (h : History) (id : ℕ) (key : Bytes) → IsLate (commits h) (number h) id key → ⊥
none_late h id key is =
    let early = All-contains (λ (c : Committed). (h.base ≤ c.number) × (c.number < number h)) (commits h) is.commit (numbered h) is.among in
    absurd (omega (arith, early.1, is.late))

pub same_begun : (h : History) (kind : Kind) (s : Store) → AreAlike (view h (number h)) s → IsSame h (number h) empty (first_of kind) (Some Buffer) (new_transaction kind s)
same_begun h kind s alike = record {
  kind = kind_begun kind;
  within = omega arith;
  view = alike;
  own = owns_none;
  reads = reads_begun kind;
  wrote = wrote_begun kind;
  late = λ id key has. let lt = has.1 in absurd (omega arith);
  since = λ id key is. absurd (none_late h id key is);
  mode = refl;
}

-- ---- others go on

-- commands behind which no optimistic transaction stands
pub same_plain : (h : History) (commands : List Command) (instant : ℕ) (own : Own) (marks : Option Marks) (mode : Option PersistMode) (tx : Transaction) → IsSame h instant own marks mode tx
    → IsSame (extended h (map plain commands)) instant own marks mode (met_by [] tx)
same_plain h commands instant own marks mode tx is = record {
  kind = is.kind;
  within = omega (arith, is.within, length-append h.accepted (map plain commands));
  view = subst (λ (s : Store). AreAlike s tx.view) (sym (view_stays h (map plain commands) instant is.within)) is.view;
  own = is.own;
  reads = is.reads;
  wrote = is.wrote;
  late = λ id key has.
      subst (λ (cs : List Committed). IsLate cs instant id key) (sym (commits_many h commands))
      (is.late id key (subst (λ (keys : List (ℕ × Bytes)). Contains {X = ℕ × Bytes} keys (id, key)) (append-nil tx.since) has));
  since = λ id key late.
      Contains-append_left tx.since [] (id, key) (is.since id key (subst (λ (cs : List Committed). IsLate cs instant id key) (commits_many h commands) late));
  mode = is.mode;
}

-- what is late among commits is late among more
late_before : (cs ds : List Committed) (instant id : ℕ) (key : Bytes) → IsLate cs instant id key → IsLate (cs ++ ds) instant id key
late_before cs ds instant id key is = record { commit = is.commit; among = Contains-append_left cs ds is.commit is.among; late = is.late; wrote = is.wrote }

-- a single writer's commit, or a commit of an optimistic one, which wrote these keys
pub same_met : (h : History) (command : Command) (c : Commit) (keys : List (ℕ × Bytes)) (instant : ℕ) (own : Own) (marks : Option Marks) (mode : Option PersistMode) (tx : Transaction) → IsSame h instant own marks mode tx
    → ((id : ℕ) (key : Bytes) → set.contains c.marks.writes (place id key) ≡ true → Contains {X = ℕ × Bytes} keys (id, key))
    → ((id : ℕ) (key : Bytes) → Contains {X = ℕ × Bytes} keys (id, key) → set.contains c.marks.writes (place id key) ≡ true)
    → IsSame (grown h (record { command = command; commit = Some c })) instant own marks mode (met_by keys tx)
same_met h command c keys instant own marks mode tx is listed written = record {
  kind = is.kind;
  within = omega (arith, is.within, length-append h.accepted (record { command = command; commit = Some c } ∷ []));
  view = subst (λ (s : Store). AreAlike s tx.view) (sym (view_stays h (record { command = command; commit = Some c } ∷ []) instant is.within)) is.view;
  own = is.own;
  reads = is.reads;
  wrote = is.wrote;
  late = λ id key has. subst (λ (cs : List Committed). IsLate cs instant id key) (sym (commits_commit h command c)) (late id key (Contains-append_cases tx.since keys (id, key) has));
  since = λ id key is_late. since id key (subst (λ (cs : List Committed). IsLate cs instant id key) (commits_commit h command c) is_late);
  mode = is.mode;
}
  where
    new : Committed
    new = commit_of (number h) c.marks.writes

    late : (id : ℕ) (key : Bytes) → Contains {X = ℕ × Bytes} tx.since (id, key) ⊎ Contains {X = ℕ × Bytes} keys (id, key) → IsLate (commits h ++ new ∷ []) instant id key
    late id key (inl before) = late_before (commits h) (new ∷ []) instant id key (is.late id key before)
    late id key (inr now) = record { commit = new; among = Contains-push (commits h) new; late = is.within; wrote = written id key now }

    since : (id : ℕ) (key : Bytes) → IsLate (commits h ++ new ∷ []) instant id key → Contains {X = ℕ × Bytes} (tx.since ++ keys) (id, key)
    since id key is_late = ⊎_elim
        (λ before. Contains-append_left tx.since keys (id, key) (is.since id key (record { commit = is_late.commit; among = before; late = is_late.late; wrote = is_late.wrote })))
        (λ same. Contains-append_right tx.since keys (id, key) (listed id key (subst (λ (d : Committed). set.contains d.writes (place id key) ≡ true) (sym same) is_late.wrote)))
        (Contains-push_cases (commits h) new is_late.commit is_late.among)

-- ---- it goes on

-- it keeps having marks as its kind has
kind_stays : (f : Marks → Marks) (kind : Kind) (marks : Option Marks) → IsOfKind kind marks → IsOfKind kind (option_map f marks)
kind_stays f Optimistic (Some marks) is = tt
kind_stays f Optimistic None is = absurd is
kind_stays f Single (Some marks) is = absurd is
kind_stays f Single None is = tt

-- one more mark of a read
reads_more : (marks : Option Marks) (reads : List Mark) (mark : Mark) → ReadSo marks reads → ReadSo (option_map (λ m. with_read m mark) marks) (reads ++ mark ∷ [])
reads_more None reads mark is = tt
reads_more (Some marks) reads mark is = ap (λ (l : List Mark). l ++ mark ∷ []) is

-- which leaves what it wrote
wrote_stays : (marks : Option Marks) (own : Own) (writes : List (ℕ × Bytes)) (mark : Mark) → WroteSo marks own writes → WroteSo (option_map (λ m. with_read m mark) marks) own writes
wrote_stays None own writes mark wrote = tt
wrote_stays (Some marks) own writes mark wrote = record { listed = wrote.listed; written = wrote.written }

pub same_read : (h : History) (instant : ℕ) (own : Own) (marks : Option Marks) (mode : Option PersistMode) (tx : Transaction) (mark : Mark) → IsSame h instant own marks mode tx
    → IsSame h instant own (option_map (λ m. with_read m mark) marks) mode (reading tx mark)
same_read h instant own marks mode tx mark is = record {
  kind = kind_stays (λ m. with_read m mark) tx.kind marks is.kind;
  within = is.within;
  view = is.view;
  own = is.own;
  reads = reads_more marks tx.reads mark is.reads;
  wrote = wrote_stays marks own tx.writes mark is.wrote;
  late = is.late;
  since = is.since;
  mode = is.mode;
}

-- one more write is of one more key
wrote_write : (marks : Option Marks) (own : Own) (items : List Item) (writes : List (ℕ × Bytes)) (id : ℕ) (key : Bytes) (op : Op) → IsOwn own items → WroteSo marks own writes
    → WroteSo marks (insert own (key_of id key) op) (writes ++ (id, key) ∷ [])
wrote_write None own items writes id key op is wrote = tt
wrote_write (Some marks) own items writes id key op is wrote = record { listed = listed; written = written }
  where
    is_more : IsOwn (insert own (key_of id key) op) (items ++ one id key (value_in op))
    is_more = owns_more own items id key op is

    at : (j : ℕ) (q : Bytes) → Contains {X = ℕ × Bytes} (keys_of items ++ (id, key) ∷ []) (j, q) → IsWritten marks (insert own (key_of id key) op) j q
    at j q has = inr (is_more.found j q (subst (λ (keys : List (ℕ × Bytes)). Contains {X = ℕ × Bytes} keys (j, q)) (sym (keys_more items id key (value_in op))) has))

    listed : (j : ℕ) (q : Bytes) → IsWritten marks (insert own (key_of id key) op) j q → Contains {X = ℕ × Bytes} (writes ++ (id, key) ∷ []) (j, q)
    listed j q (inl marked) = Contains-append_left writes ((id, key) ∷ []) (j, q) (wrote.listed j q (inl marked))
    listed j q (inr has) = ⊎_elim
        (λ before. Contains-append_left writes ((id, key) ∷ []) (j, q) (wrote.listed j q (inr (is.found j q before))))
        (λ same. subst (Contains {X = ℕ × Bytes} (writes ++ (id, key) ∷ [])) same (Contains-push writes (id, key)))
        (Contains-push_cases (keys_of items) (id, key) (j, q)
        (subst (λ (keys : List (ℕ × Bytes)). Contains {X = ℕ × Bytes} keys (j, q)) (keys_more items id key (value_in op)) (is_more.keyed j q has.0 has.1)))

    still : (j : ℕ) (q : Bytes) → IsWritten marks own j q → IsWritten marks (insert own (key_of id key) op) j q
    still j q (inl marked) = inl marked
    still j q (inr has) = at j q (Contains-append_left (keys_of items) ((id, key) ∷ []) (j, q) (is.keyed j q has.0 has.1))

    written : (j : ℕ) (q : Bytes) → Contains {X = ℕ × Bytes} (writes ++ (id, key) ∷ []) (j, q) → IsWritten marks (insert own (key_of id key) op) j q
    written j q has = ⊎_elim
        (λ before. still j q (wrote.written j q before))
        (λ same. at j q (subst (Contains {X = ℕ × Bytes} (keys_of items ++ (id, key) ∷ [])) same (Contains-push (keys_of items) (id, key))))
        (Contains-push_cases writes (id, key) (j, q) has)

pub same_write : (h : History) (instant : ℕ) (own : Own) (marks : Option Marks) (mode : Option PersistMode) (tx : Transaction) (id : ℕ) (key : Bytes) (op : Op) → IsSame h instant own marks mode tx
    → IsSame h instant (insert own (key_of id key) op) marks mode (record tx { own = tx.own ++ one id key (value_in op); writes = tx.writes ++ (id, key) ∷ [] })
same_write h instant own marks mode tx id key op is = record {
  kind = is.kind;
  within = is.within;
  view = is.view;
  own = owns_more own tx.own id key op is.own;
  reads = is.reads;
  wrote = wrote_write marks own tx.own tx.writes id key op is.own is.wrote;
  late = is.late;
  since = is.since;
  mode = is.mode;
}

-- a mark of a written key leaves the marks of reads
reads_stay : (marks : Option Marks) (reads : List Mark) (id : ℕ) (key : Bytes) → ReadSo marks reads → ReadSo (option_map (λ m. with_write m id key) marks) reads
reads_stay None reads id key is = tt
reads_stay (Some marks) reads id key is = is

-- and is of one more key
wrote_touch : (marks : Option Marks) (own : Own) (writes : List (ℕ × Bytes)) (id : ℕ) (key : Bytes) → WroteSo marks own writes
    → WroteSo (option_map (λ m. with_write m id key) marks) own (writes ++ (id, key) ∷ [])
wrote_touch None own writes id key wrote = tt
wrote_touch (Some marks) own writes id key wrote = record { listed = listed; written = written }
  where
    either : (j : ℕ) (q : Bytes) → (set.contains marks.writes (place j q) ≡ true) ⊎ ((j ≡ id) × (q ≡ key)) → Contains {X = ℕ × Bytes} (writes ++ (id, key) ∷ []) (j, q)
    either j q (inl marked) = Contains-append_left writes ((id, key) ∷ []) (j, q) (wrote.listed j q (inl marked))
    either j q (inr same) = subst (Contains {X = ℕ × Bytes} (writes ++ (id, key) ∷ [])) (λ i. (sym same.0 i, sym same.1 i)) (Contains-push writes (id, key))

    listed : (j : ℕ) (q : Bytes) → IsWritten (with_write marks id key) own j q → Contains {X = ℕ × Bytes} (writes ++ (id, key) ∷ []) (j, q)
    listed j q (inl marked) = either j q ((writes_add_up marks id j key q).0 marked)
    listed j q (inr has) = Contains-append_left writes ((id, key) ∷ []) (j, q) (wrote.listed j q (inr has))

    still : (j : ℕ) (q : Bytes) → IsWritten marks own j q → IsWritten (with_write marks id key) own j q
    still j q (inl marked) = inl ((writes_add_up marks id j key q).1 (inl marked))
    still j q (inr has) = inr has

    written : (j : ℕ) (q : Bytes) → Contains {X = ℕ × Bytes} (writes ++ (id, key) ∷ []) (j, q) → IsWritten (with_write marks id key) own j q
    written j q has = ⊎_elim
        (λ before. still j q (wrote.written j q before))
        (λ same. inl ((writes_add_up marks id j key q).1 (inr (ap (λ (p : ℕ × Bytes). p.0) (sym same), ap (λ (p : ℕ × Bytes). p.1) (sym same)))))
        (Contains-push_cases writes (id, key) (j, q) has)

-- a key that is marked as written without a write
pub same_touch : (h : History) (instant : ℕ) (own : Own) (marks : Option Marks) (mode : Option PersistMode) (tx : Transaction) (id : ℕ) (key : Bytes) → IsSame h instant own marks mode tx
    → IsSame h instant own (option_map (λ m. with_write m id key) marks) mode (record tx { writes = tx.writes ++ (id, key) ∷ [] })
same_touch h instant own marks mode tx id key is = record {
  kind = kind_stays (λ m. with_write m id key) tx.kind marks is.kind;
  within = is.within;
  view = is.view;
  own = is.own;
  reads = reads_stay marks tx.reads id key is.reads;
  wrote = wrote_touch marks own tx.writes id key is.wrote;
  late = is.late;
  since = is.since;
  mode = is.mode;
}

-- the write that gives a key this value, or none
abbrev pub op_for : Option Bytes → Op
op_for (Some value) = Put value
op_for None = Remove

-- it gives the key that
value_for : (new : Option Bytes) → value_in (op_for new) ≡ new
value_for (Some value) = refl
value_for None = refl

-- an update, where the key has this value
pub same_update_kept : (h : History) (instant : ℕ) (own : Own) (marks : Option Marks) (mode : Option PersistMode) (tx : Transaction) (id : ℕ) (key : Bytes) (found new : Option Bytes) → IsSame h instant own marks mode tx
    → found ≡ value_at (seen tx) id key → option_eq bytes_eq found new ≡ true
    → IsSame h instant own (option_map (λ m. with_write m id key) (option_map (λ m. with_read m (OfKey id key)) marks)) mode (updating tx id key new)
same_update_kept h instant own marks mode tx id key found new is finds same =
    subst
    (λ (items : List Item). IsSame h instant own (option_map (λ m. with_write m id key) (option_map (λ m. with_read m (OfKey id key)) marks)) mode
    (record (reading tx (OfKey id key)) { own = items; writes = tx.writes ++ (id, key) ∷ [] }))
    (sym (append-nil tx.own) ∙ ap (λ (b : Bool). tx.own ++ (if b then [] else one id key new)) (sym same ∙ ap (λ (o : Option Bytes). option_eq bytes_eq o new) finds))
    (same_touch h instant own (option_map (λ m. with_read m (OfKey id key)) marks) mode (reading tx (OfKey id key)) id key (same_read h instant own marks mode tx (OfKey id key) is))

-- and where it has another
pub same_update : (h : History) (instant : ℕ) (own : Own) (marks : Option Marks) (mode : Option PersistMode) (tx : Transaction) (id : ℕ) (key : Bytes) (found new : Option Bytes) → IsSame h instant own marks mode tx
    → found ≡ value_at (seen tx) id key → option_eq bytes_eq found new ≡ false
    → IsSame h instant (insert own (key_of id key) (op_for new)) (option_map (λ m. with_read m (OfKey id key)) marks) mode (updating tx id key new)
same_update h instant own marks mode tx id key found new is finds other =
    subst
    (λ (items : List Item). IsSame h instant (insert own (key_of id key) (op_for new)) (option_map (λ m. with_read m (OfKey id key)) marks) mode
    (record (reading tx (OfKey id key)) { own = items; writes = tx.writes ++ (id, key) ∷ [] }))
    (ap (λ (value : Option Bytes). tx.own ++ one id key value) (value_for new)
    ∙ ap (λ (b : Bool). tx.own ++ (if b then [] else one id key new)) (sym other ∙ ap (λ (o : Option Bytes). option_eq bytes_eq o new) finds))
    (same_write h instant own (option_map (λ m. with_read m (OfKey id key)) marks) mode (reading tx (OfKey id key)) id key (op_for new) (same_read h instant own marks mode tx (OfKey id key) is))

pub same_mode : (h : History) (instant : ℕ) (own : Own) (marks : Option Marks) (mode new : Option PersistMode) (tx : Transaction) → IsSame h instant own marks mode tx
    → IsSame h instant own marks new (record tx { mode = new })
same_mode h instant own marks mode new tx is = record {
  kind = is.kind;
  within = is.within;
  view = is.view;
  own = is.own;
  reads = is.reads;
  wrote = is.wrote;
  late = is.late;
  since = is.since;
  mode = refl;
}

-- ---- what it sees

-- the value that it is told of a key, and its maps
pub sees_same : (h : History) (instant : ℕ) (own : Own) (marks : Option Marks) (mode : Option PersistMode) (tx : Transaction) → IsSame h instant own marks mode tx
    → (id : ℕ) → map_at (seen tx).maps id ≡ map_at (own_written (view h instant).maps own) id
sees_same h instant own marks mode tx is id = (own_alike own tx.own is.own (view h instant) tx.view is.view).maps id

-- ---- it is met

-- what has marks is optimistic
optimistic : (kind : Kind) (marks : Marks) → IsOfKind kind (Some marks) → kind ≡ Optimistic
optimistic Optimistic marks is = refl
optimistic Single marks is = absurd is

pub met_is : (h : History) (instant : ℕ) (own : Own) (marks : Marks) (mode : Option PersistMode) (tx : Transaction) → IsSame h instant own (Some marks) mode tx → Conflicts instant marks.reads (commits h) → IsMet tx
met_is h instant own marks mode tx is conflicts =
    let meets = conflicts.meets in
    let has : Contains {X = ℕ × Bytes} tx.since (meets.id, meets.key) =
    is.since meets.id meets.key (record { commit = conflicts.commit; among = conflicts.is_committed; late = conflicts.is_late; wrote = meets.is_written }) in
    (optimistic tx.kind marks is.kind, (has.0, (meets.id, meets.key), has.1, has.2, subst (λ (reads : List Mark). IsCovered reads meets.id meets.key) is.reads meets.is_read))

pub is_met : (h : History) (instant : ℕ) (own : Own) (marks : Marks) (mode : Option PersistMode) (tx : Transaction) → IsSame h instant own (Some marks) mode tx → IsMet tx → Conflicts instant marks.reads (commits h)
is_met h instant own marks mode tx is met =
    let key = met.1.1 in
    let late = is.late key.0 key.1 (met.1.0, met.1.2, met.1.3) in
    record {
      commit = late.commit;
      is_committed = late.among;
      is_late = late.late;
      meets = record { id = key.0; key = key.1; is_written = late.wrote; is_read = subst (λ (reads : List Mark). IsCovered reads key.0 key.1) (sym is.reads) met.1.4 };
    }

pub single_unmet : (h : History) (instant : ℕ) (own : Own) (mode : Option PersistMode) (tx : Transaction) → IsSame h instant own None mode tx → IsMet tx → ⊥
single_unmet h instant own mode tx is met = absurd (subst (λ (kind : Kind). IsOfKind kind None) met.0 is.kind)
