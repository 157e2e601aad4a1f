-- What engines one after another leave of a disk.
use Rattle.std.proofs.Common.{◌≡◌, inl, inr, true, false, List, [], ◌∷◌, ◌++◌, Option, Some, None, IsSome, Result, Ok, Err, refl, sym, ◌∙◌, ap, subst, append_assoc}
use Rattle.std.proofs.lemmas.List.{append-nil, append_cancel_left}
use Rattle.std.proofs.lemmas.Bool.{true≢false}
use Rattle.std.specs.List.{AllByRecursion}
use Rattle.fjall_base.specs.Store.{Command, Store, fold, kept}
use Rattle.fjall_base.specs.Crash.{IsHoused}
use Rattle.fjall_base.specs.Disk.{DiskState, DiskStep, Image, IsImage, IsImageBy, Leaves, LeavesBy, Meaning, Took, disk_of, state_in}
use Rattle.fjall_base.specs.declared.error.Error.{Error}
use Rattle.fjall_meta.proofs.Kept.{kept-fold, kept_along, kept_twice}
use Rattle.fjall_meta.proofs.Slots.{fold-append}
use Rattle.fjall_files.proofs.Made.{took_both}
use Rattle.fjall_files.specs.Tidy.{IsTidy, IsTidyStep, StaysTidy}
use Rattle.fjall_files.proofs.Tidying.{each_tidy, stays_by, tidy_on}
use Rattle.fjall_recovery.specs.Folders.{Contents, ImageStandsFor}
use Rattle.fjall_recovery.specs.Held.{IsOpenFolder}
use Rattle.fjall_recovery.proofs.Alone.{one_store}
use Rattle.fjall_recovery.specs.Amid.{HoldsAmid}
use Rattle.fjall_machine.specs.declared.call.Call.{Call}
use Rattle.fjall_history.specs.declared.reply.Reply.{Reply}
use Rattle.fjall_machine.specs.Machine as machine
use Rattle.fjall_machine.specs.Machine.{present}
use Rattle.fjall_history.specs.Histories.{commands_of, latest}
use Rattle.fjall_engine.specs.Holding.{Held}
use Rattle.fjall_engine.specs.Durables.{Durable, IsBeginning, Passes, StandsAmid}
use Rattle.fjall_engine.specs.Crashes.{BlamesEach, Settled, Tried, at_most_one}
use Rattle.fjall_engine.specs.Openings.{OpensAfterCrash, OpensAs}
use Rattle.fjall_engine.specs.Standing.{Closes, ClosesSafely, ReadsOn, StandsFor as StandsAs, StandsOn}
use Rattle.fjall_calls.specs.Lives.{AreChained, AreLeftOf, Closed, CutBehind, CutBehindSync, CutInCalls, CutInClosing, CutInOpening, Dropped, Ended, LifeGoesOn, HoldsFold, IsFoldOf, IsLeftOf, PastLife, LastSync, Lived, Lives, NoLife, NoSync, OneMore, Opened, Served, ShowedOnly, Unclosed, Unopened, UpTo, all_left, life_begun, start_of}
use Rattle.fjall_engine.proofs.CrashesInRuns.{no_more, run_blames, run_passes}
use Rattle.fjall_recovery.specs.Wild.{SurvivesUnforged}
use Rattle.fjall_recovery.proofs.Cutting.{left_itself}
use Rattle.fjall_recovery.proofs.Folders.{wild_amid}
use Rattle.fjall_engine.proofs.CrashedDisks.{crash_holds}
use Rattle.fjall_engine.proofs.Reopening.{a_core_holds_amid, holds_store_amid}
use Rattle.fjall_calls.proofs.WildTidying.{wild_tidy}

-- ---- what is left

-- of these commands this is left, a beginning with all of those that were synced, and the store is their fold
abbrev pub LeftOf : Store → List Command → List Command → Store → Type 0
LeftOf store tried synced s = (front : List Command) × IsBeginning synced front × IsBeginning front tried × (s ≡ kept (fold store front))

-- what an image stands for that stands amid these commands
of_amid : (image : Image) (store : Store) (synced tried : List Command) (left : Store) → StandsAmid store synced tried image → ImageStandsFor image left → LeftOf store tried synced left
of_amid image store synced tried left amid stands = (amid.front, amid.holds, amid.within, one_store image left (kept (fold store amid.front)) stands amid.stands)

-- what stands for a store is a folder that opens
opens_where : (image : Image) (store : Store) → ImageStandsFor image store → (folder : Option Contents) × IsOpenFolder image folder
opens_where image store (inl (contents, sound, same)) = (Some contents, sound.openable)
opens_where image store (inr (unfinished, same)) = (None, unfinished)

-- so it is of what a wild crash left, where each usual one leaves what stands amid these commands
of_wild : (state : DiskState) (steps : List DiskStep) (image : Image) (store : Store) (synced tried : List Command) (left : Store) → ((usual : Image) → Leaves state steps usual → StandsAmid store synced tried usual)
    → LeavesBy SurvivesUnforged state steps image → ImageStandsFor image left → StandsAmid store synced tried image
of_wild state steps image store synced tried left usual leaves stands =
    let opens = opens_where image left stands in
    wild_amid state steps store synced tried image opens.0 usual leaves opens.1

-- what is pending behind commands that are in the base
settled_left : (core : Held) (store : Store) (synced tried : List Command) (d : Durable) → Settled (life_begun core store) synced tried d → (front : List Command) → IsBeginning front d.pending → LeftOf store tried synced (kept (fold d.base front))
settled_left core store synced tried d s front begins = (
  s.safe ++ front,
  (s.has.0 ++ front, sym (append_assoc synced s.has.0 front) ∙ ap (λ (l : List Command). l ++ front) s.has.1),
  (begins.0, append_assoc s.safe front begins.0 ∙ ap (λ (l : List Command). s.safe ++ l) begins.1 ∙ s.rest),
  kept_along d.base (fold store s.safe) front s.base ∙ ap kept (sym (fold-append store s.safe front)),
)

-- what a disk holds, each of which is left of these commands
record EndsAt (store : Store) (tried synced : List Command) (state : DiskState) (next : Store) (waits : List Command) : Type 0 where
  pub amid : HoldsAmid state next waits
  pub each : (front : List Command) → IsBeginning front waits → LeftOf store tried synced (kept (fold next front))

-- a crash left one store
cut_ends : (state : DiskState) (steps : List DiskStep) (image : Image) (store : Store) (tried synced : List Command) (left : Store) → LeavesBy SurvivesUnforged state steps image → ImageStandsFor image left → LeftOf store tried synced left → EndsAt store tried synced (disk_of image) left []
cut_ends state steps image store tried synced left leaves stands of = record {
  amid = holds_store_amid (disk_of image) left (crash_holds (disk_of image) [] image left (left_itself state steps image leaves) stands);
  each = λ front begins. (of.0, of.1, of.2, ap (λ (l : List Command). kept (fold left l)) (no_more front begins.0 begins.1) ∙ ap kept of.3 ∙ kept_twice (fold store of.0));
}

-- ---- one life

-- the steps between two disks are one list
same_steps : (old new : Meaning) (one other : List DiskStep) → Took old new one → Took old new other → one ≡ other
same_steps old new one other took also = append_cancel_left old.steps one other (sym took.steps ∙ also.steps)

leaves_as : (old new : Meaning) (one other : List DiskStep) (image : Image) → Took old new one → Took old new other → Leaves (state_in old) one image → Leaves (state_in old) other image
leaves_as old new one other image took also left = subst (λ (l : List DiskStep). Leaves (state_in old) l image) (same_steps old new one other took also) left

first_of_both : (first more : List DiskStep) → AllByRecursion IsTidyStep (first ++ more) → AllByRecursion IsTidyStep first × AllByRecursion IsTidyStep more
first_of_both [] more all = (tt, all)
first_of_both (step ∷ first) more all = let rest = first_of_both first more all.1 in ((all.0, rest.0), rest.1)

-- a moment between is tidy, and so are the steps behind it
tidy_between : (old mid new : Meaning) (first late : List DiskStep) → IsTidy (state_in old) → StaysTidy old new → Took old mid first → Took mid new late → IsTidy (state_in mid) × AllByRecursion IsTidyStep late
tidy_between old mid new first late tidy kinds took then =
    let both = first_of_both first late (each_tidy old new (first ++ late) kinds (took_both old mid new first late took then)) in
    (tidy_on old mid (stays_by old mid first took both.0) tidy, both.1)

-- what was accepted since is the fold
all_present : (core : Held) (store : Store) (opens : OpensAs core store) (tried : List Command) (t : machine.State) → Tried (start_of core store opens) tried t → t.poisoned ≡ false → present t ≡ fold store tried
all_present core store opens tried t tries well = by tries.refused tries.all tries.fault
  where
    by : (refused : Option Command) → tried ≡ commands_of tries.accepted ++ at_most_one refused → (IsSome refused → t.poisoned ≡ true) → present t ≡ fold store tried
    by None all fault = ap latest tries.history ∙ ap (λ (l : List Command). fold store l) (sym (append-nil (commands_of tries.accepted)) ∙ sym all)
    by (Some command) all fault = absurd (true≢false (sym (fault refl) ∙ well))

-- what a sync followed is in the base at the end
settled_of : (core new : Held) (store : Store) (calls : List Call) (replies : List Reply) (opens : OpensAs core store) (run : Served core store opens calls replies new) (synced : List Command)
    → LastSync core new store calls replies opens run synced → Settled (life_begun core store) synced run.tried run.durable
settled_of core new store calls replies opens run synced (NoSync none) =
    let passed = run_passes (start_of core store opens) run.state (life_begun core store) run.durable calls replies run.tried opens.base.rests run.run in
    record { safe = passed.safe; has = (passed.safe, refl); base = passed.base; rest = passed.rest }
settled_of core new store calls replies opens run synced (UpTo i sync last) = (run.synced i sync).settled

-- the images of a closing
closing_amid : (new : Held) (s : machine.State) (d : Durable) (result : Result Unit Error) (disk : Meaning) (added : List DiskStep)
    → StandsOn new s.parts.entries d → Closes s d result disk → Took new.disk disk added → (image : Image) → Leaves (state_in new.disk) added image → StandsAmid d.base [] (d.pending ++ []) image
closing_amid new s d result disk added on closes took image left =
    let moments = closes.passes.leaves in
    let here : Took d.meaning disk moments.added = subst (λ (m : Meaning). Took d.meaning m moments.added) closes.same moments.took in
    let there : Took d.meaning disk added = subst (λ (m : Meaning). Took m disk added) (sym on.same) took in
    let left_there : Leaves (state_in d.meaning) added image = subst (λ (m : Meaning). Leaves (state_in m) added image) (sym on.same) left in
    moments.each image (leaves_as d.meaning disk added moments.added image there here left_there)

closing_kinds : (new : Held) (s : machine.State) (d : Durable) (result : Result Unit Error) (disk : Meaning) → StandsOn new s.parts.entries d → Closes s d result disk → StaysTidy new.disk disk
closing_kinds new s d result disk on closes = subst (λ (m : Meaning). StaysTidy m disk) on.same closes.kinds

-- what waits after a closing that was refused
unclosed_left : (core : Held) (store : Store) (synced tried : List Command) (d e : Durable) → Settled (life_begun core store) synced tried d → Passes d [] e → (front : List Command) → IsBeginning front e.pending → LeftOf store tried synced (kept (fold e.base front))
unclosed_left core store synced tried d e s passes front begins =
    let all : (passes.safe ++ front) ++ begins.0 ≡ d.pending =
    append_assoc passes.safe front begins.0 ∙ ap (λ (l : List Command). passes.safe ++ l) begins.1 ∙ passes.rest ∙ append-nil d.pending in
    let left = settled_left core store synced tried d s (passes.safe ++ front) (begins.0, all) in
    (left.0, left.1, left.2, kept_along e.base (fold d.base passes.safe) front passes.base ∙ ap kept (sym (fold-append d.base passes.safe front)) ∙ left.3)

ended : (core new : Held) (store : Store) (calls : List Call) (replies : List Reply) (opens : OpensAs core store) (run : Served core store opens calls replies new) (synced : List Command) (end : DiskState) (next : Store) (waits : List Command)
    → Ended core new store calls replies opens run synced end next waits → EndsAt store run.tried synced end next waits
ended core new store calls replies opens run synced end next waits (CutInCalls added image left took leaves stands) =
    let moments = run.any_moment in
    cut_ends (state_in core.disk) added image store run.tried [] left leaves stands
    (of_amid image store [] run.tried left (of_wild (state_in core.disk) added image store [] run.tried left (λ usual left_so. moments.each usual (leaves_as core.disk new.disk added moments.added usual took moments.took left_so)) leaves stands) stands)
ended core new store calls replies opens run synced end next waits (CutBehindSync i sync late image left took leaves stands) =
    let at = run.synced i sync in
    let moments = at.safe.since in
    cut_ends (state_in at.safe.moment) late image store run.tried at.before left leaves stands
    (of_amid image store at.before run.tried left (of_wild (state_in at.safe.moment) late image store at.before run.tried left (λ usual left_so. moments.each usual (leaves_as at.safe.moment new.disk late moments.added usual took moments.took left_so)) leaves stands) stands)
ended core new store calls replies opens run synced end next waits (CutBehind safe image left sync is stands) =
    let d = run.durable in
    let usual : (usual : Image) → IsImage (state_in new.disk) usual → StandsAmid d.base [] d.pending usual = λ usual left_so. run.on.rests usual (subst (λ (m : Meaning). IsImage (state_in m) usual) (sym run.on.same) left_so) in
    let amid = of_wild (state_in new.disk) [] image d.base [] d.pending left usual is stands in
    let of = settled_left core store synced run.tried d (settled_of core new store calls replies opens run synced sync) amid.front amid.within in
    cut_ends (state_in new.disk) [] image store run.tried synced left is stands (of.0, of.1, of.2, one_store image left (kept (fold d.base amid.front)) stands amid.stands ∙ of.3)
ended core new store calls replies opens run synced end next waits (CutInClosing safe result disk added image left sync safely took leaves stands) =
    let d = run.durable in
    let usual = closing_amid new run.state d result disk added run.on (safely run.state d run.stands run.reads run.on) took in
    let amid = of_wild (state_in new.disk) added image d.base [] (d.pending ++ []) left usual leaves stands in
    let of = settled_left core store synced run.tried d (settled_of core new store calls replies opens run synced sync) amid.front (amid.within.0, amid.within.1 ∙ append-nil d.pending) in
    cut_ends (state_in new.disk) added image store run.tried synced left leaves stands (of.0, of.1, of.2, one_store image left (kept (fold d.base amid.front)) stands amid.stands ∙ of.3)
ended core new store calls replies opens run synced end next waits (Dropped safe sync housed) =
    let d = run.durable in
    let there : IsHoused (state_in d.meaning) = subst (λ (m : Meaning). IsHoused (state_in m)) (sym run.on.same) housed in
    record {
      amid = subst (λ (m : Meaning). HoldsAmid (state_in m) d.base d.pending) run.on.same (a_core_holds_amid new run.state.parts.entries d run.on there);
      each = settled_left core store synced run.tried d (settled_of core new store calls replies opens run synced sync);
    }
ended core new store calls replies opens run synced end next waits (Unclosed safe error disk sync safely) =
    let d = run.durable in
    let closes = safely run.state d run.stands run.reads run.on in
    record { amid = closes.amid; each = unclosed_left core store synced run.tried d closes.after (settled_of core new store calls replies opens run synced sync) closes.passes }
ended core new store calls replies opens run synced end next waits (Closed disk owes safely) =
    let closes = safely run.state run.durable run.stands run.reads run.on in
    let well = run.stands.remembered.poisoned ∙ owes.0 in
    let is = all_present core store opens run.tried run.state run.accepted well in
    record {
      amid = holds_store_amid (state_in disk) (kept (present run.state)) closes.closed;
      each = λ front begins. (
        run.tried,
        ([], append-nil run.tried),
        ([], append-nil run.tried),
        ap (λ (l : List Command). kept (fold (kept (present run.state)) l)) (no_more front begins.0 begins.1) ∙ kept_twice (present run.state) ∙ ap kept is,
      );
    }

pub lived : (old : Meaning) (base : Store) (pending : List Command) (life : PastLife) (new : DiskState) (next : Store) (waits : List Command) → HoldsAmid (state_in old) base pending → Lived old base pending life new next waits → LifeGoesOn base pending life new next waits
lived old base pending life new next waits holds (Unopened after stays) = record {
  amid = stays.holds;
  each = λ front begins. (front, [], begins, tt, record { safe = ([], refl); within = ([], refl) }, ap (λ (l : List Command). kept (fold base l)) (sym (append-nil front)));
}
lived old base pending life new next waits holds (CutInOpening after added image left moments kinds took leaves stands) =
    let usual : (usual : Image) → Leaves (state_in old) added usual → StandsAmid base [] pending usual = λ usual left_so. moments.each usual (leaves_as old after added moments.added usual took moments.took left_so) in
    let amid = of_wild (state_in old) added image base [] pending left usual leaves stands in
    let cut = cut_ends (state_in old) added image base pending [] left leaves stands (of_amid image base [] pending left amid stands) in
    record {
      amid = cut.amid;
      each = λ front begins.
          let of = cut.each front begins in
          (of.0, [], of.2, tt, record { safe = ([], refl); within = ([], refl) }, of.3 ∙ ap (λ (l : List Command). kept (fold base l)) (sym (append-nil of.0)));
    }
lived old base pending life new next waits holds (Opened core after calls replies synced end then more opened run ends) =
    let store = kept (fold base opened.front) in
    let at = ended core after store calls replies opened.opens run synced end then more ends in
    record {
      amid = at.amid;
      each = λ front begins.
          let of = at.each front begins in (
            opened.front,
            of.0,
            opened.within,
            refl,
            record { safe = of.1; within = of.2 },
            of.3 ∙ kept_along store (fold base opened.front) of.0 (kept_twice (fold base opened.front)) ∙ ap kept (sym (fold-append base opened.front of.0)),
          );
    }

-- ---- one after another

-- one life more, at the end of a chain
chain_more : (first last next : Store) (lives : List PastLife) (fronts : List (List Command)) (life : PastLife) (front : List Command) → AreChained first lives fronts last → ShowedOnly life last → IsLeftOf life front → next ≡ kept (fold last front)
    → AreChained first (lives ++ life ∷ []) (fronts ++ front ∷ []) next
chain_more first last next [] [] life front chain shown left is = (subst (ShowedOnly life) chain shown, left, is ∙ ap (λ (s : Store). kept (fold s front)) chain)
chain_more first last next (l ∷ lives) (f ∷ fronts) life front chain shown left is = (chain.0, chain.1, chain_more (kept (fold first f)) last next lives fronts life front chain.2 shown left is)
chain_more first last next [] (f ∷ fronts) life front chain shown left is = absurd chain
chain_more first last next (l ∷ lives) [] life front chain shown left is = absurd chain

-- what is left of the lives of a chain
chain_left : (first last : Store) (lives : List PastLife) (fronts : List (List Command)) → AreChained first lives fronts last → AreLeftOf lives fronts
chain_left first last [] [] chain = tt
chain_left first last (l ∷ lives) (f ∷ fronts) chain = (chain.1, chain_left (kept (fold first f)) last lives fronts chain.2)
chain_left first last [] (f ∷ fronts) chain = absurd chain
chain_left first last (l ∷ lives) [] chain = absurd chain

-- its last store is the fold of all that
chain_folds : (start last : Store) (lives : List PastLife) (fronts : List (List Command)) → AreChained (kept start) lives fronts last → last ≡ kept (fold start (all_left fronts))
chain_folds start last [] [] chain = chain
chain_folds start last (l ∷ lives) (f ∷ fronts) chain =
    chain_folds (fold (kept start) f) last lives fronts chain.2 ∙ ap kept (sym (fold-append (kept start) f (all_left fronts))) ∙ kept-fold start (f ++ all_left fronts)
chain_folds start last [] (f ∷ fronts) chain = absurd chain
chain_folds start last (l ∷ lives) [] chain = absurd chain

fold_of : (start store : Store) (lives : List PastLife) (fronts : List (List Command)) → AreChained (kept start) lives fronts store → IsFoldOf start lives store
fold_of start store lives fronts chain = record {
  fronts = fronts;
  chain = chain;
  left = chain_left (kept start) store lives fronts chain;
  same = chain_folds start store lives fronts chain;
}

pub lives_hold : (first : DiskState) (start : Store) (lives : List PastLife) (new : DiskState) (base : Store) (pending : List Command) → HoldsAmid first start [] → Lives first start lives new base pending → HoldsFold start lives new base pending
lives_hold first start lives new base pending holds NoLife = record {
  amid = holds;
  each = λ front begins. fold_of start (kept (fold start front)) [] [] (ap (λ (l : List Command). kept (fold start l)) (no_more front begins.0 begins.1));
}
lives_hold first start lives new base pending holds (OneMore before life old mid waits to next more lived_before one) =
    let so_far = lives_hold first start before (state_in old) mid waits holds lived_before in
    let on = lived old mid waits life to next more so_far.amid one in
    record {
      amid = on.amid;
      each = λ front begins.
          let of = on.each front begins in
          let were = so_far.each of.0 of.2 in
          let goes_on : kept (fold next front) ≡ kept (fold (kept (fold mid of.0)) of.1) = of.5 ∙ ap kept (fold-append mid of.0 of.1) ∙ sym (kept-fold (fold mid of.0) of.1) in
          fold_of start (kept (fold next front)) (before ++ life ∷ []) (were.fronts ++ of.1 ∷ [])
          (chain_more (kept start) (kept (fold mid of.0)) (kept (fold next front)) before were.fronts life of.1 were.chain of.3 of.4 goes_on);
    }

-- what opens behind them
pub lives_open : (first : DiskState) (start : Store) (lives : List PastLife) (old : Meaning) (base : Store) (pending : List Command) (core : Held) → HoldsAmid first start [] → Lives first start lives (state_in old) base pending → (opened : OpensAfterCrash old core base pending)
    → (left : IsFoldOf start lives (kept (fold base opened.front))) × OpensAs core (kept (fold start (all_left left.fronts)))
lives_open first start lives old base pending core holds lived_before opened =
    let left = (lives_hold first start lives (state_in old) base pending holds lived_before).each opened.front opened.within in
    (left, subst (λ (s : Store). OpensAs core s) left.same opened.opens)

-- ---- closed and opened again

-- a core that closed left its store, and nothing is pending
pub closed_holds : (core : Held) (s : machine.State) (d : Durable) (disk : Meaning) → StandsAs core s → ReadsOn core s → StandsOn core s.parts.entries d → ClosesSafely core (Ok tt) disk → HoldsAmid (state_in disk) (kept (present s)) []
closed_holds core s d disk stands reads on safely = holds_store_amid (state_in disk) (kept (present s)) (safely s d stands reads on).closed

-- and opens as it
pub closed_opens : (disk : Meaning) (core : Held) (s : machine.State) → OpensAfterCrash disk core (kept (present s)) [] → OpensAs core (kept (present s))
closed_opens disk core s opened =
    subst (λ (store : Store). OpensAs core store) (ap (λ (l : List Command). kept (fold (kept (present s)) l)) (no_more opened.front opened.within.0 opened.within.1) ∙ kept_twice (present s)) opened.opens

-- ---- nothing stands in the way

ended_tidy : (core new : Held) (store : Store) (calls : List Call) (replies : List Reply) (opens : OpensAs core store) (run : Served core store opens calls replies new) (synced : List Command) (end : DiskState) (next : Store) (waits : List Command)
    → IsTidy (state_in core.disk) → Ended core new store calls replies opens run synced end next waits → IsTidy end
ended_tidy core new store calls replies opens run synced end next waits tidy (CutInCalls added image left took leaves stands) = wild_tidy added (state_in core.disk) image (each_tidy core.disk new.disk added run.kinds took) tidy leaves
ended_tidy core new store calls replies opens run synced end next waits tidy (CutBehindSync i sync late image left took leaves stands) =
    let at = run.synced i sync in
    let between = tidy_between core.disk at.safe.moment new.disk at.safe.added late tidy run.kinds at.safe.passed took in
    wild_tidy late (state_in at.safe.moment) image between.1 between.0 leaves
ended_tidy core new store calls replies opens run synced end next waits tidy (CutBehind safe image left sync is stands) = wild_tidy [] (state_in new.disk) image tt (tidy_on core.disk new.disk run.kinds tidy) is
ended_tidy core new store calls replies opens run synced end next waits tidy (CutInClosing safe result disk added image left sync safely took leaves stands) =
    let kinds = closing_kinds new run.state run.durable result disk run.on (safely run.state run.durable run.stands run.reads run.on) in
    wild_tidy added (state_in new.disk) image (each_tidy new.disk disk added kinds took) (tidy_on core.disk new.disk run.kinds tidy) leaves
ended_tidy core new store calls replies opens run synced end next waits tidy (Dropped safe sync housed) = tidy_on core.disk new.disk run.kinds tidy
ended_tidy core new store calls replies opens run synced end next waits tidy (Unclosed safe error disk sync safely) =
    tidy_on new.disk disk (closing_kinds new run.state run.durable (Err error) disk run.on (safely run.state run.durable run.stands run.reads run.on)) (tidy_on core.disk new.disk run.kinds tidy)
ended_tidy core new store calls replies opens run synced end next waits tidy (Closed disk owes safely) =
    tidy_on new.disk disk (closing_kinds new run.state run.durable (Ok tt) disk run.on (safely run.state run.durable run.stands run.reads run.on)) (tidy_on core.disk new.disk run.kinds tidy)

lived_tidy : (old : Meaning) (base : Store) (pending : List Command) (life : PastLife) (new : DiskState) (next : Store) (waits : List Command) → IsTidy (state_in old) → Lived old base pending life new next waits → IsTidy new
lived_tidy old base pending life new next waits tidy (Unopened after stays) = tidy_on old after stays.kinds tidy
lived_tidy old base pending life new next waits tidy (CutInOpening after added image left moments kinds took leaves stands) = wild_tidy added (state_in old) image (each_tidy old after added kinds took) tidy leaves
lived_tidy old base pending life new next waits tidy (Opened core after calls replies synced end then more opened run ends) =
    ended_tidy core after (kept (fold base opened.front)) calls replies opened.opens run synced end then more (tidy_on old core.disk opened.kinds tidy) ends

pub lives_stay_tidy : (first : DiskState) (start : Store) (lives : List PastLife) (new : DiskState) (base : Store) (pending : List Command) → IsTidy first → Lives first start lives new base pending → IsTidy new
lives_stay_tidy first start lives new base pending tidy NoLife = tidy
lives_stay_tidy first start lives new base pending tidy (OneMore before life old mid waits to next more lived_before one) = lived_tidy old mid waits life to next more (lives_stay_tidy first start before (state_in old) mid waits tidy lived_before) one

-- so each fault of a run behind them was the device's
pub lives_blame : (first : DiskState) (start : Store) (lives : List PastLife) (old : Meaning) (base : Store) (pending : List Command) (core new : Held) (calls : List Call) (replies : List Reply) → IsTidy first → Lives first start lives (state_in old) base pending
    → (opened : OpensAfterCrash old core base pending) (run : Served core (kept (fold base opened.front)) opened.opens calls replies new)
    → BlamesEach (start_of core (kept (fold base opened.front)) opened.opens) (life_begun core (kept (fold base opened.front))) calls replies run.tried run.state run.durable run.run
lives_blame first start lives old base pending core new calls replies tidy lived_before opened run =
    let store = kept (fold base opened.front) in
    run_blames (start_of core store opened.opens) run.state (life_begun core store) run.durable calls replies run.tried (tidy_on old core.disk opened.kinds (lives_stay_tidy first start lives (state_in old) base pending tidy lived_before)) run.run
