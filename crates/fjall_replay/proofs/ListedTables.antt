-- Tables of a keyspace whose ids were given out, each once: while more ids are given out, and as new tables come in.
use Rattle.std.proofs.Common.{◌≡◌, ◌≢◌, ℕ, zero, suc, ◌+◌, ◌≤◌, ◌^◌, List, [], ◌∷◌, ◌++◌, length, take, drop, get_or, map, All, AllPairs, sym, subst, arith}
use Rattle.std.proofs.lemmas.List.{map-append}
use Rattle.std.proofs.lemmas.List.Elements.{All-append, All-cons, All-drop, All-head, All-map, All-nil, All-tail, All-weaker}
use Rattle.std.proofs.lemmas.List.Kept.{AllPairs-cons}
use Rattle.fjall_table_reader.specs.Readers.{Reader}
use Rattle.fjall_files.specs.Names.{table_name}
use Rattle.fjall_replay.specs.Known.{AreListed, IsGiven}

-- the ids of tables
abbrev ids : List Reader → List ℕ
ids tables = map (λ t. t.info.id) tables

-- these have the next ids, one after another from this one on
abbrev pub AreNext : ℕ → List Reader → Type 0
AreNext next [] = Unit {0}
AreNext next (t ∷ tables) = (t.info.id ≡ next) × AreNext (next + 1) tables

-- ---- numbers that are apart

-- no two of them are the same
abbrev AreApart : List ℕ → Type 0
AreApart numbers = AllPairs (λ a b. a ≢ b) numbers

-- none are so
apart_nil : AreApart []
apart_nil i j d less within = absurd (omega (arith, within))

-- the first is none of the others
apart_head : (n : ℕ) (numbers : List ℕ) → AreApart (n ∷ numbers) → All (λ m. n ≢ m) numbers
apart_head n numbers apart k d lt = apart 0 (suc k) d (omega arith) (omega (arith, lt))

-- and the others are so too
apart_tail : (n : ℕ) (numbers : List ℕ) → AreApart (n ∷ numbers) → AreApart numbers
apart_tail n numbers apart i j d less within = apart (suc i) (suc j) d (omega (arith, less)) (omega (arith, within))

-- two lists of such numbers, where none of the first is one of the second
apart_both : (numbers others : List ℕ) → AreApart numbers → AreApart others → All (λ n. All (λ m. n ≢ m) others) numbers → AreApart (numbers ++ others)
apart_both [] others apart apart_others none = apart_others
apart_both (n ∷ numbers) others apart apart_others none =
    AllPairs-cons (λ (a b : ℕ). a ≢ b) n (numbers ++ others)
    (All-append (λ (m : ℕ). n ≢ m) numbers others (apart_head n numbers apart) (All-head (λ (a : ℕ). All (λ m. a ≢ m) others) n numbers none))
    (apart_both numbers others (apart_tail n numbers apart) apart_others (All-tail (λ (a : ℕ). All (λ m. a ≢ m) others) n numbers none))

-- ---- tables whose ids are apart

-- what is so of each id is so of each table's
of_ids : (P : ℕ → Type 0) (tables : List Reader) → All P (ids tables) → All (λ t. P t.info.id) tables
of_ids P [] all = All-nil (λ (t : Reader). P t.info.id)
of_ids P (t ∷ tables) all = All-cons (λ (u : Reader). P u.info.id) t tables (All-head P t.info.id (ids tables) all) (of_ids P tables (All-tail P t.info.id (ids tables) all))

-- those behind the first ones are so too
apart_behind : (count : ℕ) (tables : List Reader) → AreApart (ids tables) → AreApart (ids (drop count tables))
apart_behind zero tables apart = apart
apart_behind (suc count) [] apart = apart
apart_behind (suc count) (t ∷ tables) apart = apart_behind count tables (apart_tail t.info.id (ids tables) apart)

-- and none of those has the id of one of the first ones
behind_apart : (count : ℕ) (tables : List Reader) → AreApart (ids tables) → All (λ t. All (λ u. u.info.id ≢ t.info.id) (take count tables)) (drop count tables)
behind_apart zero tables apart = λ k d lt. All-nil (λ (u : Reader). u.info.id ≢ (get_or tables k d).info.id)
behind_apart (suc count) [] apart = All-nil (λ (t : Reader). All (λ (u : Reader). u.info.id ≢ t.info.id) [])
behind_apart (suc count) (t ∷ tables) apart =
    let first = All-drop (λ (u : Reader). t.info.id ≢ u.info.id) count tables (of_ids (λ n. t.info.id ≢ n) tables (apart_head t.info.id (ids tables) apart)) in
    let others = behind_apart count tables (apart_tail t.info.id (ids tables) apart) in
    λ k d lt. All-cons (λ (u : Reader). u.info.id ≢ (get_or (drop count tables) k d).info.id) t (take count tables) (first k d lt) (others k d lt)

-- ---- new tables

-- they have ids from this one on
next_from : (next low : ℕ) (made : List Reader) → low ≤ next → AreNext next made → All (λ t. low ≤ t.info.id) made
next_from next low [] le are = All-nil (λ (t : Reader). low ≤ t.info.id)
next_from next low (t ∷ made) le are =
    let first : t.info.id ≡ next = are.0 in
    All-cons (λ (u : Reader). low ≤ u.info.id) t made (omega (arith, le, first)) (next_from (next + 1) low made (omega (arith, le)) are.1)

-- each its own
next_apart : (next : ℕ) (made : List Reader) → AreNext next made → AreApart (ids made)
next_apart next [] are = apart_nil
next_apart next (t ∷ made) are =
    let first : t.info.id ≡ next = are.0 in
    AllPairs-cons (λ (a b : ℕ). a ≢ b) t.info.id (ids made)
    (All-map (λ (n : ℕ). t.info.id ≢ n) (λ (u : Reader). u.info.id) made
    (All-weaker (λ (u : Reader). next + 1 ≤ u.info.id) (λ (u : Reader). t.info.id ≢ u.info.id) (λ u from same. omega (arith, from, same, first)) made
    (next_from (next + 1) (next + 1) made (omega arith) are.1)))
    (next_apart (next + 1) made are.1)

-- where these are given out
next_given : (id next end : ℕ) (made : List Reader) → AreNext next made → All (λ t. t.name ≡ table_name id t.info.id) made → next + length made ≤ end → end ≤ 2 ^ 64 → All (IsGiven id end) made
next_given id next end [] are named within small = All-nil (IsGiven id end)
next_given id next end (t ∷ made) are named within small =
    let first : t.info.id ≡ next = are.0 in
    All-cons (IsGiven id end) t made (omega (arith, first, within), omega (arith, first, within, small), All-head (λ (u : Reader). u.name ≡ table_name id u.info.id) t made named)
    (next_given id (next + 1) end made are.1 (All-tail (λ (u : Reader). u.name ≡ table_name id u.info.id) t made named) (omega (arith, within)) small)

-- ---- listed tables

-- what was given out stays so
given_later : (id next later : ℕ) (tables : List Reader) → next ≤ later → All (IsGiven id next) tables → All (IsGiven id later) tables
given_later id next later tables le given = All-weaker (IsGiven id next) (IsGiven id later) (λ t one. (let less = one.0 in omega (arith, less, le), one.1, one.2)) tables given

-- none is listed
pub none_listed : (id next : ℕ) → AreListed id next []
none_listed id next = record { given = All-nil (IsGiven id next); once = apart_nil }

-- tables whose ids are apart from another's are listed with those
both_listed : (id next : ℕ) (tables others : List Reader) → AreListed id next tables → AreListed id next others → All (λ t. All (λ u. t.info.id ≢ u.info.id) others) tables → AreListed id next (tables ++ others)
both_listed id next tables others listed listed_others none = record {
  given = All-append (IsGiven id next) tables others listed.given listed_others.given;
  once = subst AreApart (sym (map-append (λ (t : Reader). t.info.id) tables others))
      (apart_both (ids tables) (ids others) listed.once listed_others.once
      (All-map (λ (n : ℕ). All (λ m. n ≢ m) (ids others)) (λ (t : Reader). t.info.id) tables
      (All-weaker (λ (t : Reader). All (λ u. t.info.id ≢ u.info.id) others) (λ (t : Reader). All (λ m. t.info.id ≢ m) (ids others)) (λ t apart. All-map (λ (m : ℕ). t.info.id ≢ m) (λ (u : Reader). u.info.id) others apart) tables none)));
}

module _ (id next : ℕ) (tables : List Reader) (listed : AreListed id next tables) where
  -- they stay so while more ids are given out
  pub listed_later : (later : ℕ) → next ≤ later → AreListed id later tables
  listed_later later le = record { given = given_later id next later tables le listed.given; once = listed.once }

  -- so do those behind the first ones
  pub listed_rest : (count : ℕ) → AreListed id next (drop count tables)
  listed_rest count = record { given = All-drop (IsGiven id next) count tables listed.given; once = apart_behind count tables listed.once }

  -- and no table behind the first ones has the id of one of those
  pub given_apart : (count : ℕ) → All (λ t. All (λ u. u.info.id ≢ t.info.id) (take count tables)) (drop count tables)
  given_apart count = behind_apart count tables listed.once

-- new tables are listed, which have the next ids
made_listed : (id next : ℕ) (made : List Reader) → AreNext next made → All (λ t. t.name ≡ table_name id t.info.id) made → next + length made ≤ 2 ^ 64 → AreListed id (next + length made) made
made_listed id next made are named small = record { given = next_given id next (next + length made) made are named (omega arith) small; once = next_apart next made are }

module _ (id next : ℕ) (tables : List Reader) (listed : AreListed id next tables) (made : List Reader) (are : AreNext next made) (named : All (λ t. t.name ≡ table_name id t.info.id) made)
    (small : next + length made ≤ 2 ^ 64) where
  -- behind tables that are listed
  pub listed_behind : AreListed id (next + length made) (tables ++ made)
  listed_behind =
      both_listed id (next + length made) tables made (listed_later id next tables listed (next + length made) (omega arith)) (made_listed id next made are named small)
      (All-weaker (IsGiven id next) (λ (t : Reader). All (λ u. t.info.id ≢ u.info.id) made)
      (λ t given. All-weaker (λ (u : Reader). next ≤ u.info.id) (λ (u : Reader). t.info.id ≢ u.info.id) (λ u from same. let less = given.0 in omega (arith, less, from, same)) made (next_from next next made (omega arith) are))
      tables listed.given)

  -- and in the place of the first ones
  pub listed_in_place : (count : ℕ) → AreListed id (next + length made) (made ++ drop count tables)
  listed_in_place count =
      both_listed id (next + length made) made (drop count tables) (made_listed id next made are named small)
      (listed_later id next (drop count tables) (listed_rest id next tables listed count) (next + length made) (omega arith))
      (All-weaker (λ (u : Reader). next ≤ u.info.id) (λ (u : Reader). All (λ t. u.info.id ≢ t.info.id) (drop count tables))
      (λ u from. All-weaker (IsGiven id next) (λ (t : Reader). u.info.id ≢ t.info.id) (λ t given same. let less = given.0 in omega (arith, less, from, same)) (drop count tables) (listed_rest id next tables listed count).given)
      made (next_from next next made (omega arith) are))
