use Rattle.std.proofs.Common.{rules, ◌≡◌, ◌∙◌, ◌⊎◌, ◌+◌, ◌<◌, ◌≤◌, ◌++◌, ◌∷◌, [], inl, inr, ℕ, List, All, AllPairs, Err, ap, arith, get_or, length, length-append, map, subst, sym, take, refl}
use Rattle.std.specs.FinMap.{get, get-empty}
use Rattle.std.specs.Ordering.{nat_cmp}
use Rattle.std.specs.Prelude.{IfErr, IsOkUnless}
use Rattle.std.proofs.lemmas.Iterator.Adapters.{YieldsList-from_vec}
use Rattle.std.proofs.lemmas.Iterator.Consumers.{YieldsList-end, YieldsList-turn}
use Rattle.std.proofs.lemmas.List.{length-map, take_all}
use Rattle.std.proofs.lemmas.List.Elements.{All-map}
use Rattle.fjall_base.specs.declared.error.Error.{Error}
use Rattle.fjall_base.specs.declared.error.Error.TheVariants.{OutOfMemory, Storage}
use Rattle.fjall_base.specs.declared.error.StorageError.TheVariants.{RecordDamaged}
use Rattle.fjall_meta.specs.declared.recovery.Persisted.{Persisted}
use Rattle.fjall_files.specs.Calls.{seen}
use Rattle.fjall_manifest.specs.declared.reading.LoadedHome.{LoadedHome}
use Rattle.fjall_meta.specs.declared.living.LivingKeyspace.{LivingKeyspace}
use Rattle.fjall_meta.specs.Keyspaces.{AreKeyspaces, Keyspaces}
use Rattle.fjall_recovery.specs.Homes.{AreHomesRead}
use Rattle.fjall_replay.specs.Beside.{AreEndedBy}
use Rattle.fjall_replay.specs.Replayed.{ids_of}
use Rattle.fjall_trees.specs.Forests.{AreBefore, Forest}
use Rattle.fjall_trees.specs.Views.{forest_of}
use Rattle.fjall_replay.specs.Opening.{IsOpenedOn, KnowsStored, MayOpen, MayOpenAll, ShowsEntries, opened, told_by}
use Rattle.fjall_replay.specs.Known.{AreAtHome, LastFields}
use Rattle.fjall_replay.proofs.Turns.{front_more, lower_ids, trees_below}
use Rattle.fjall_replay.proofs.Opening.{AreRecordsOf, all_recorded, as_many_homes, ids_ascend, may_at, may_more, none_recorded, opened_before, opened_ended, opened_ids, opened_more, read_all, records_more, told_below, told_more, turn_at}
use Rattle.fjall_replay.proofs.OpenedTables.{all_opened, knows_stored, shows_entries}
use Rattle.fjall_replay.proofs.NamedTables.{all_named}
use Rattle.fjall_replay.proofs.tables.open_homes.Goals as goal

-- where there are more or fewer homes than keyspaces, they aren't theirs
other_count : (living : List LivingKeyspace) (homes : List LoadedHome) → (length living ≡ length homes → ⊥) → MayOpenAll (map (λ k. k.id) living) homes → ⊥
other_count living homes differ may = differ (sym (length-map living (λ (k : LivingKeyspace). k.id)) ∙ as_many_homes (map (λ k. k.id) living) homes may)

pub returns-then-len-living-clause-cause : goal.returns-then-len-living-clause-cause
returns-then-len-living-clause-cause c =
    inr (refl, other_count c.args.keyspaces.now.living c.args.homes.items (λ same. c.if-len-living.true (c.len.ensures ∙ c.args.homes.ok.0 ∙ sym same ∙ ap length (sym c.living-living.ensures))))

pub returns-then-len-living-clause-only : goal.returns-then-len-living-clause-only
returns-then-len-living-clause-only c image read =
    absurd (other_count c.args.keyspaces.now.living c.args.homes.items (λ same. c.if-len-living.true (c.len.ensures ∙ c.args.homes.ok.0 ∙ sym same ∙ ap length (sym c.living-living.ensures)))
    (read_all image c.args.keyspaces.now.living c.args.homes.items read))

pub open_home-requires-clause-planted : goal.open_home-requires-clause-planted
open_home-requires-clause-planted c =
    let s = c.args.keyspaces.now in
    let homes = c.args.homes.items in
    let at = c.loop-home in
    let n = length at.yielded in
    let road = YieldsList-from_vec {s = c.into_iter-home-iterator.result} homes (search rules) (search rules) in
    let turn = YieldsList-turn road at.yielded at.home-iterator at.yielded_by c.next.result c.next.new.self c.in-Some.home c.in-Some.is c.next.ensures.steps in
    let many : length s.living ≡ length homes = ap length (sym c.living-living.ensures) ∙ sym c.if-len-living.false ∙ c.len.ensures ∙ c.args.homes.ok.0 in
    let lt : n < length s.living = omega (arith, turn.0, many) in
    let k : LivingKeyspace = get_or c.living-living.result.now at.place c.index-living-place.result in
    let here : k ≡ get_or s.living n k = turn_at s.living c.living-living.result.now at.place n c.index-living-place.result c.living-living.ensures at.invariant.place lt in
    trees_below s c.next_id.ensures.lawful n k k here lt (forest_of at.trees)
    (ap ids_of at.invariant.trees ∙ opened_ids (map (λ (j : LivingKeyspace). j.id) (take n s.living)) (take n homes) at.invariant.may)

pub open_home-requires-clause-above : goal.open_home-requires-clause-above
open_home-requires-clause-above c =
    let s = c.args.keyspaces.now in
    let homes = c.args.homes.items in
    let at = c.loop-home in
    let n = length at.yielded in
    let road = YieldsList-from_vec {s = c.into_iter-home-iterator.result} homes (search rules) (search rules) in
    let turn = YieldsList-turn road at.yielded at.home-iterator at.yielded_by c.next.result c.next.new.self c.in-Some.home c.in-Some.is c.next.ensures.steps in
    let many : length s.living ≡ length homes = ap length (sym c.living-living.ensures) ∙ sym c.if-len-living.false ∙ c.len.ensures ∙ c.args.homes.ok.0 in
    let lt : n < length s.living = omega (arith, turn.0, many) in
    let k : LivingKeyspace = get_or c.living-living.result.now at.place c.index-living-place.result in
    let here : k ≡ get_or s.living n k = turn_at s.living c.living-living.result.now at.place n c.index-living-place.result c.living-living.ensures at.invariant.place lt in
    subst (All (λ p. p.id < k.id)) (sym at.invariant.persisted) (told_below k.id (take n s.living) (take n homes) (lower_ids s c.next_id.ensures.lawful n k k here lt) at.invariant.may)

pub loop-home-init : goal.loop-home-init
loop-home-init c = record {
  place = refl;
  trees = c.new-trees.ensures.trees;
  persisted = c.new-persisted.ensures;
  records = λ id. ap (λ (m : LastFields). get m id) c.new-records.ensures ∙ get-empty nat_cmp id;
  may = tt;
}

pub loop-home-preserved : goal.loop-home-preserved
loop-home-preserved c =
    let s = c.args.keyspaces.now in
    let homes = c.args.homes.items in
    let at = c.loop-home in
    let n = length at.yielded in
    let home = c.in-Some.home in
    let road = YieldsList-from_vec {s = c.into_iter-home-iterator.result} homes (search rules) (search rules) in
    let turn = YieldsList-turn road at.yielded at.home-iterator at.yielded_by c.next.result c.next.new.self home c.in-Some.is c.next.ensures.steps in
    let many : length s.living ≡ length homes = ap length (sym c.living-living.ensures) ∙ sym c.if-len-living.false ∙ c.len.ensures ∙ c.args.homes.ok.0 in
    let lt : n < length s.living = omega (arith, turn.0, many) in
    let k : LivingKeyspace = get_or c.living-living.result.now at.place c.index-living-place.result in
    let here : k ≡ get_or s.living n k = turn_at s.living c.living-living.result.now at.place n c.index-living-place.result c.living-living.ensures at.invariant.place lt in
    let next : n + 1 ≡ length (at.yielded ++ home ∷ []) = sym (length-append at.yielded (home ∷ [])) in
    let front = front_more s c.next_id.ensures.lawful n k k here lt in
    record {
      place = ap (λ p. p + 1) at.invariant.place ∙ next;
      trees =
          opened_more s.living homes n (length (at.yielded ++ home ∷ [])) k home next front turn.0 turn.1 (forest_of at.trees) (forest_of c.open_home.new.trees) at.invariant.trees
          c.in_ok-open_home.ensures.ok;
      persisted =
          told_more s.living homes n (length (at.yielded ++ home ∷ [])) k home next front turn.0 turn.1 at.persisted c.open_home.new.persisted at.invariant.persisted
          c.in_ok-open_home.ensures.told;
      records =
          records_more s.living homes n (length (at.yielded ++ home ∷ [])) k home next front turn.0 turn.1 at.records c.open_home.new.records
          (lower_ids s c.next_id.ensures.lawful n k k here lt) at.invariant.may c.in_ok-open_home.ensures.may at.invariant.records c.in_ok-open_home.ensures.kept;
      may = may_more s.living homes n (length (at.yielded ++ home ∷ [])) k home next front turn.0 turn.1 at.invariant.may c.in_ok-open_home.ensures.may;
    }

-- the home at its turn is its keyspace's, where all are
theirs : (living now : List LivingKeyspace) (homes : List LoadedHome) (place n : ℕ) (d : LivingKeyspace) (home : LoadedHome) → now ≡ living → place ≡ n → n < length living → home ≡ get_or homes n home
    → MayOpenAll (map (λ k. k.id) living) homes → MayOpen (get_or now place d).id home
theirs living now homes place n d home is same lt at may =
    let k : LivingKeyspace = get_or now place d in
    let here : k ≡ get_or living n k = turn_at living now place n d is same lt in
    subst (λ (h : LoadedHome). MayOpen k.id h) (sym at) (subst (λ (j : LivingKeyspace). MayOpen j.id (get_or homes n home)) (sym here) (may_at living homes may n k home lt))

cause_of : (e : Error) (One All : Type 0) → (All → One) → (e ≡ OutOfMemory) ⊎ ((e ≡ Storage RecordDamaged) × (One → ⊥)) → (e ≡ OutOfMemory) ⊎ ((e ≡ Storage RecordDamaged) × (All → ⊥))
cause_of e One All so (inl memory) = inl memory
cause_of e One All so (inr (damaged, none)) = inr (damaged, λ all. none (so all))

memory_of : (e : Error) (One : Type 0) → One → (e ≡ OutOfMemory) ⊎ ((e ≡ Storage RecordDamaged) × (One → ⊥)) → e ≡ OutOfMemory
memory_of e One one (inl memory) = memory
memory_of e One one (inr (damaged, none)) = absurd (none one)

its : (c : goal.After-drop-trees) → MayOpenAll (map (λ k. k.id) c.args.keyspaces.now.living) c.args.homes.items
    → MayOpen (get_or c.living-living.result.now c.loop-home.place c.index-living-place.result).id c.in-Some.home
its c =
    let s = c.args.keyspaces.now in
    let homes = c.args.homes.items in
    let at = c.loop-home in
    let road = YieldsList-from_vec {s = c.into_iter-home-iterator.result} homes (search rules) (search rules) in
    let turn = YieldsList-turn road at.yielded at.home-iterator at.yielded_by c.next.result c.next.new.self c.in-Some.home c.in-Some.is c.next.ensures.steps in
    let many : length s.living ≡ length homes = ap length (sym c.living-living.ensures) ∙ sym c.if-len-living.false ∙ c.len.ensures ∙ c.args.homes.ok.0 in
    let lt : length at.yielded < length s.living = omega (arith, turn.0, many) in
    theirs s.living c.living-living.result.now homes at.place (length at.yielded) c.index-living-place.result c.in-Some.home c.living-living.ensures at.invariant.place lt turn.1

pub returns-in_err-open_home-clause-cause : goal.returns-in_err-open_home-clause-cause
returns-in_err-open_home-clause-cause c =
    let All_may : Type 0 = MayOpenAll (map (λ k. k.id) c.args.keyspaces.now.living) c.args.homes.items in
    let is : c.from_residual.result ≡ Err c.in_err-open_home.field-0.0 = search rules in
    subst (λ r. IfErr r (λ e. (e ≡ OutOfMemory) ⊎ ((e ≡ Storage RecordDamaged) × (All_may → ⊥)))) (sym is)
    (cause_of c.in_err-open_home.field-0.0 (MayOpen (get_or c.living-living.result.now c.loop-home.place c.index-living-place.result).id c.in-Some.home) All_may (its c)
    c.in_err-open_home.ensures.cause)

pub returns-in_err-open_home-clause-only : goal.returns-in_err-open_home-clause-only
returns-in_err-open_home-clause-only c image read =
    let is : c.from_residual.result ≡ Err c.in_err-open_home.field-0.0 = search rules in
    subst (λ r. IsOkUnless r OutOfMemory) (sym is)
    (memory_of c.in_err-open_home.field-0.0 (MayOpen (get_or c.living-living.result.now c.loop-home.place c.index-living-place.result).id c.in-Some.home)
    (its c (read_all image c.args.keyspaces.now.living c.args.homes.items read)) c.in_err-open_home.ensures.cause)

-- ---- at the end

record IsWhole (s : Keyspaces) (homes : List LoadedHome) (trees : Forest) (told : List Persisted) (kept : LastFields) : Type 0 where
  are : trees ≡ map opened homes
  persisted : told ≡ map told_by homes
  records : AreRecordsOf homes kept
  may : MayOpenAll (map (λ k. k.id) s.living) homes
  lawful : AreKeyspaces s

whole : (c : goal.After-drop-home-iterator-2) → IsWhole c.args.keyspaces.now c.args.homes.items (forest_of c.loop-home.trees) c.loop-home.persisted c.loop-home.records
whole c =
    let s = c.args.keyspaces.now in
    let homes = c.args.homes.items in
    let at = c.loop-home in
    let n = length at.yielded in
    let road = YieldsList-from_vec {s = c.into_iter-home-iterator.result} homes (search rules) (search rules) in
    let end = YieldsList-end road at.yielded at.home-iterator at.yielded_by c.next.result c.next.new.self c.in-None.is c.next.ensures.steps in
    let many : length s.living ≡ length homes = ap length (sym c.living-living.ensures) ∙ sym c.if-len-living.false ∙ c.len.ensures ∙ c.args.homes.ok.0 in
    let over : length homes ≤ n = omega (arith, end.1) in
    let past : length s.living ≤ n = omega (arith, end.1, many) in
    record {
      are = at.invariant.trees ∙ ap (map opened) (take_all n homes over);
      persisted = at.invariant.persisted ∙ ap (map told_by) (take_all n homes over);
      records = subst (λ (hs : List LoadedHome). AreRecordsOf hs at.records) (take_all n homes over) at.invariant.records;
      may = subst (λ (hs : List LoadedHome). MayOpenAll (map (λ (k : LivingKeyspace). k.id) s.living) hs) (take_all n homes over)
          (subst (λ (ks : List LivingKeyspace). MayOpenAll (map (λ (k : LivingKeyspace). k.id) ks) (take n homes)) (take_all n s.living past) at.invariant.may);
      lawful = c.next_id.ensures.lawful;
    }

pub returns-clause-live : goal.returns-clause-live
returns-clause-live c = let w = whole c in ap ids_of w.are ∙ opened_ids (map (λ (k : LivingKeyspace). k.id) c.args.keyspaces.now.living) c.args.homes.items w.may

pub returns-clause-theirs : goal.returns-clause-theirs
returns-clause-theirs c = (whole c).may

pub returns-clause-before : goal.returns-clause-before
returns-clause-before c bound low = subst (AreBefore bound) (sym (whole c).are) (opened_before bound c.args.homes.items low)

pub returns-clause-ended : goal.returns-clause-ended
returns-clause-ended c =
    let w = whole c in
    subst (AreEndedBy (map told_by c.args.homes.items) 0) (sym w.are)
    (opened_ended (map (λ (k : LivingKeyspace). k.id) c.args.keyspaces.now.living) c.args.homes.items (ids_ascend c.args.keyspaces.now.living w.lawful.ascending) w.may)

pub returns-clause-opened : goal.returns-clause-opened
returns-clause-opened c disk contents openable same read =
    subst (All (IsOpenedOn disk contents)) (sym (whole c).are)
    (all_opened disk contents openable c.args.homes.items (subst (λ (s : Keyspaces). AreHomesRead (seen disk) s.living c.args.homes.items) (sym same) read))

pub returns-clause-named : goal.returns-clause-named
returns-clause-named c image read =
    let w = whole c in
    subst (AreAtHome c.loop-home.records) (sym w.are) (all_named image c.args.keyspaces.now.living c.args.homes.items c.loop-home.records w.lawful.ascending read w.records)

pub returns-clause-persisted : goal.returns-clause-persisted
returns-clause-persisted c = (whole c).persisted

pub returns-clause-records : goal.returns-clause-records
returns-clause-records c = (whole c).records

pub returns-clause-recorded : goal.returns-clause-recorded
returns-clause-recorded c = let w = whole c in all_recorded c.args.keyspaces.now.living c.args.homes.items c.loop-home.records w.may w.records

pub returns-clause-kept : goal.returns-clause-kept
returns-clause-kept c =
    let w = whole c in
    let s = c.args.keyspaces.now in
    none_recorded s.next (map (λ (k : LivingKeyspace). k.id) s.living) c.args.homes.items c.loop-home.records
    (All-map (λ id. id < s.next) (λ (k : LivingKeyspace). k.id) s.living w.lawful.given) w.may w.records

pub returns-clause-sound : goal.returns-clause-sound
returns-clause-sound c disk contents openable same read versions have =
    let w = whole c in
    subst (KnowsStored disk contents versions c.loop-home.records) (sym w.are)
    (knows_stored disk contents openable c.args.homes.items (subst (λ (s : Keyspaces). AreHomesRead (seen disk) s.living c.args.homes.items) (sym same) read) versions have c.loop-home.records w.records
    (subst (λ (s : Keyspaces). AllPairs (λ (j k : LivingKeyspace). j.id < k.id) s.living) (sym same) w.lawful.ascending))

pub returns-clause-reads : goal.returns-clause-reads
returns-clause-reads c disk contents openable same read entries have =
    let w = whole c in
    subst (ShowsEntries disk contents entries) (sym w.are)
    (shows_entries disk contents openable c.args.homes.items (subst (λ (s : Keyspaces). AreHomesRead (seen disk) s.living c.args.homes.items) (sym same) read) entries have
    (subst (λ (s : Keyspaces). AllPairs (λ (j k : LivingKeyspace). j.id < k.id) s.living) (sym same) w.lawful.ascending))
