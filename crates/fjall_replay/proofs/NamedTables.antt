-- The tables of trees that an opening plants are their keyspaces' own, and their ids were given out, each once; the last records list them.
use Rattle.std.proofs.Common.{◌≡◌, ◌≢◌, ℕ, suc, ◌<◌, true, false, List, [], ◌∷◌, get_or, map, All, AllPairs, Option, Some, unwrap_or, refl, sym, ◌∙◌, ap, subst, arith}
use Rattle.std.specs.FinMap.{get}
use Rattle.std.specs.List.{AllByRecursion}
use Rattle.std.proofs.lemmas.Bool.{eq-eqb}
use Rattle.std.proofs.lemmas.Simd.{map-map}
use Rattle.std.proofs.lemmas.List.Elements.{All-cons, All-head, All-map, All-nil, All-tail}
use Rattle.fjall_base.specs.Disk.{Image}
use Rattle.fjall_table_reader.specs.Readers.{Reader}
use Rattle.fjall_manifest.specs.declared.reading.LoadedHome.{LoadedHome}
use Rattle.fjall_manifest.proofs.Resting as resting
use Rattle.fjall_meta.specs.declared.living.LivingKeyspace.{LivingKeyspace}
use Rattle.fjall_recovery.specs.Homes.{AreHomesRead, IsHomeRead, no_fields}
use Rattle.fjall_table.specs.declared.table_info.TableInfo.{TableInfo}
use Rattle.fjall_manifest.specs.Records.{Fields, view}
use Rattle.fjall_trees.specs.Forests.{Planted}
use Rattle.fjall_replay.specs.Known.{AreAtHome, AreListed, IsAtHome, IsGiven, LastFields}
use Rattle.fjall_replay.specs.Opening.{AreReadersIn, opened, reader_of, record_read}
use Rattle.fjall_replay.proofs.Opening.{its_readers, last_is_record, other_id, read_first, readers_infos}

-- ---- one home

readers_given : (image : Image) (id next : ℕ) (tables : List TableInfo) (readers : List Reader) → AreReadersIn image id tables readers → AllByRecursion (resting.IsGiven next) tables → All (IsGiven id next) readers
readers_given image id next [] [] are given = All-nil (IsGiven id next)
readers_given image id next [] (r ∷ readers) are given = absurd are
readers_given image id next (t ∷ tables) [] are given = absurd are
readers_given image id next (t ∷ tables) (r ∷ readers) are given =
    All-cons (IsGiven id next) r readers (subst (IsGiven id next) (sym are.0.is) (given.0.1, given.0.0, refl)) (readers_given image id next tables readers are.1 given.1)

-- readers have the ids that their record names
readers_ids : (image : Image) (id : ℕ) (tables : List TableInfo) (readers : List Reader) → AreReadersIn image id tables readers → map (λ (t : TableInfo). t.id) tables ≡ map (λ (r : Reader). r.info.id) readers
readers_ids image id tables readers are =
    ap (map (λ (t : TableInfo). t.id)) (sym (readers_infos image id tables readers are)) ∙ map-map (λ (t : TableInfo). t.id) (λ (r : Reader). r.info) readers

-- the tables of a home that was read are listed
readers_listed : (image : Image) (id : ℕ) (home : LoadedHome) → (read : IsHomeRead image id home) → AreListed id read.loaded.h.last.next_table_id (map reader_of home.tables.items)
readers_listed image id home read =
    let last = read.loaded.h.last in
    let is = last_is_record image id home read in
    let readers = map reader_of home.tables.items in
    let are = its_readers image id home read in
    record {
      given = readers_given image id last.next_table_id last.tables readers are (resting.all_given last is);
      once = subst (AllPairs (λ (a b : ℕ). a ≢ b)) (readers_ids image id last.tables readers are) is.consistent.once;
    }

-- ---- all of them

-- this is one of these homes, and the record that they tell of its id is its own
abbrev IsTold : Image → List LoadedHome → LoadedHome → Type 0
IsTold image homes home = (k : LivingKeyspace) × IsHomeRead image k.id home × (record_read homes home.id ≡ Some (view home.record))

above : (image : Image) (low : ℕ) (living : List LivingKeyspace) (homes : List LoadedHome) → All (λ k. low < k.id) living → AreHomesRead image living homes → All (λ home. low < home.id) homes
above image low [] [] up read = All-nil (λ (home : LoadedHome). low < home.id)
above image low [] (home ∷ homes) up read = absurd read
above image low (k ∷ living) [] up read = absurd read
above image low (k ∷ living) (home ∷ homes) up read =
    All-cons (λ (other : LoadedHome). low < other.id) home homes
    (subst (λ (n : ℕ). low < n) (sym read.0.loaded.named) (All-head (λ (j : LivingKeyspace). low < j.id) k living up))
    (above image low living homes (All-tail (λ (j : LivingKeyspace). low < j.id) k living up) read.1)

all_told : (image : Image) (living : List LivingKeyspace) (homes : List LoadedHome) → AllPairs (λ j k. j.id < k.id) living → AreHomesRead image living homes → All (IsTold image homes) homes
all_told image [] [] up read = All-nil (IsTold image [])
all_told image [] (home ∷ homes) up read = absurd read
all_told image (k ∷ living) [] up read = absurd read
all_told image (k ∷ living) (home ∷ homes) up read =
    let later = above image k.id living homes (λ i d lt. up 0 (suc i) d (omega arith) (omega (arith, lt))) read.1 in
    let rest = all_told image living homes (λ a b e less within. up (suc a) (suc b) e (omega (arith, less)) (omega (arith, within))) read.1 in
    All-cons (IsTold image (home ∷ homes)) home homes (k, read.0, read_first home homes home.id true (eq-eqb home.id home.id refl))
    (λ i d lt.
    let other = get_or homes i d in
    let one = rest i d lt in
    let less : home.id < other.id = subst (λ (n : ℕ). n < other.id) (sym read.0.loaded.named) (later i d lt) in
    (one.0, one.1, read_first home homes other.id false (other_id home.id other.id less) ∙ one.2))

pub all_named : (image : Image) (living : List LivingKeyspace) (homes : List LoadedHome) (records : LastFields) → AllPairs (λ j k. j.id < k.id) living → AreHomesRead image living homes
    → ((id : ℕ) → get records id ≡ record_read homes id) → AreAtHome records (map opened homes)
all_named image living homes records up read kept =
    All-map (λ (k : Planted). IsAtHome records k.id k.shape.tables) opened homes
    (λ i d lt.
    let home = get_or homes i d in
    let told = all_told image living homes up read i d lt in
    let last = told.1.loaded.h.last in
    let record_there : unwrap_or (get records home.id) no_fields ≡ last = ap (λ (o : Option Fields). unwrap_or o no_fields) (kept home.id ∙ told.2) ∙ told.1.loaded.record_is in (
      subst (λ (n : ℕ × ℕ). AreListed n.0 n.1 (map reader_of home.tables.items)) (λ i. (sym told.1.loaded.named i, (sym record_there i).next_table_id)) (readers_listed image told.0.id home told.1),
      readers_infos image told.0.id last.tables (map reader_of home.tables.items) (its_readers image told.0.id home told.1) ∙ ap (λ (f : Fields). f.tables) (sym record_there),
    ))
