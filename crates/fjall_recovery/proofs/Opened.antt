-- A folder that stands for a store is refused for no cause that its parts could have.
use Rattle.std.proofs.Common.{◌≡◌, ◌⊎◌, inl, inr, ⊎_elim, ℕ, Bool, true, false, List, [], ◌∷◌, length, drop, map, Option, None, Some, refl, sym, ◌∙◌, ap, subst, arith}
use Rattle.std.proofs.lemmas.List.{map-append}
use Rattle.std.specs.List.{AllByRecursion}
use Rattle.std.specs.Option.{option_or}
use Rattle.fjall_base.specs.Disk.{Image}
use Rattle.fjall_base.specs.declared.error.Error.{Error}
use Rattle.fjall_base.specs.declared.error.Error.TheVariants.{Storage, Unrecoverable}
use Rattle.fjall_base.specs.declared.error.JournalRecoveryError.{JournalRecoveryError}
use Rattle.fjall_base.specs.declared.error.JournalRecoveryError.TheVariants.{InsufficientLength, TooManyItems, ChecksumMismatch, InvalidFileName, TornTail}
use Rattle.fjall_journal.specs.Spelling.{spelling}
use Rattle.fjall_journal.specs.declared.batch.Tail.{Tail}
use Rattle.fjall_journal.specs.declared.batch.Tail.TheVariants.{Clean, Torn, Damaged}
use Rattle.fjall_journal.specs.Batches.{Written, IsTail, shown}
use Rattle.fjall_journal.proofs.Wholes as Wholes
use Rattle.fjall_meta.specs.Replays.{JournalFault, first_fault, least_after, NamesFault}
use Rattle.fjall_manifest.specs.Homes.{Home}
use Rattle.fjall_manifest.proofs.Meanings.{one_home}
use Rattle.fjall_manifest.proofs.Openings.{openable_no_damage}
use Rattle.fjall_recovery.specs.Homes.{ClearsAreWithin, HasOpenableHome, HaveHomes, Homes}
use Rattle.fjall_recovery.specs.Journals.{WholeJournal, ReadsAs, AreJournalsRead, HoldsJournals, AreJournalIds, batches_in, journal_text}
use Rattle.fjall_recovery.specs.Refusals.{HomeRefuses, HomesRefuse, JournalsRefuse, TailRefuses}
use Rattle.fjall_recovery.proofs.Alone.{one_list_of_ids}
use Rattle.fjall_recovery.proofs.Housing.{IsHoused, all_housed, openable_of}
use Rattle.fjall_meta.proofs.ContentFaults.{first_fault-append}
use Rattle.fjall_meta.specs.declared.living.LivingKeyspace.{LivingKeyspace}

-- ---- tails

pub no_damage_in_nothing : (damage : JournalRecoveryError) → IsTail [] (Damaged damage) → ⊥
unfolding spelling
no_damage_in_nothing InsufficientLength bad = let l = ap length bad.text in absurd (omega (arith, l))
no_damage_in_nothing TooManyItems bad = let l = ap length bad.text in absurd (omega (arith, l))
no_damage_in_nothing ChecksumMismatch bad = let l = ap length bad.text in absurd (omega (arith, l))
no_damage_in_nothing InvalidFileName bad = bad
no_damage_in_nothing TornTail bad = bad

pub clean_has_no_damage : (bytes : List ℕ) (damage : JournalRecoveryError) → IsTail bytes Clean → IsTail bytes (Damaged damage) → ⊥
clean_has_no_damage bytes damage clean bad = no_damage_in_nothing damage (subst (λ (l : List ℕ). IsTail l (Damaged damage)) clean bad)

pub torn_has_no_damage : (bytes : List ℕ) (damage : JournalRecoveryError) → IsTail bytes Torn → IsTail bytes (Damaged damage) → ⊥
torn_has_no_damage bytes InsufficientLength torn bad = torn.1 bad
torn_has_no_damage bytes TooManyItems torn bad = torn.2 bad
torn_has_no_damage bytes ChecksumMismatch torn bad = torn.3 bad
torn_has_no_damage bytes InvalidFileName torn bad = bad
torn_has_no_damage bytes TornTail torn bad = bad

clean_is_kept : (bytes : List ℕ) (last : Bool) (tail : Tail) (error : Error) → IsTail bytes Clean → IsTail bytes tail → TailRefuses last tail error → ⊥
clean_is_kept bytes last (Damaged damage) error clean is refused = clean_has_no_damage bytes damage clean is
clean_is_kept bytes last Torn error clean is refused = is.0 clean
clean_is_kept bytes false Clean error clean is refused = refused
clean_is_kept bytes true Clean error clean is refused = refused

torn_is_kept : (bytes : List ℕ) (tail : Tail) (error : Error) → IsTail bytes Torn → IsTail bytes tail → TailRefuses true tail error → ⊥
torn_is_kept bytes (Damaged damage) error torn is refused = torn_has_no_damage bytes damage torn is
torn_is_kept bytes Torn error torn is refused = refused
torn_is_kept bytes Clean error torn is refused = torn.0 is

-- the batches of a text and where they end are the same in each reading
pub same_reading : (text : List ℕ) (batches others : List Written) (tail other : Tail) → (a : ReadsAs text batches tail) → (b : ReadsAs text others other) → (batches ≡ others) × IsTail (drop b.end text) tail
same_reading text batches others tail other a b =
    let one = Wholes.one_reading text batches others a.end b.end a.whole b.whole in
    (one.0, subst (λ n. IsTail (drop n text) tail) one.1 a.behind)

sealed_is_kept : (text : List ℕ) (batches others : List Written) (last : Bool) (tail : Tail) (error : Error) → ReadsAs text batches Clean → ReadsAs text others tail → TailRefuses last tail error → ⊥
sealed_is_kept text batches others last tail error a b refused = clean_is_kept (drop b.end text) last tail error (same_reading text batches others Clean tail a b).1 b.behind refused

active_is_kept : (text : List ℕ) (batches others : List Written) (tail : Tail) (error : Error) → ReadsAs text batches Clean ⊎ ReadsAs text batches Torn → ReadsAs text others tail → TailRefuses true tail error → ⊥
active_is_kept text batches others tail error (inl a) b refused = sealed_is_kept text batches others true tail error a b refused
active_is_kept text batches others tail error (inr a) b refused = torn_is_kept (drop b.end text) tail error (same_reading text batches others Torn tail a b).1 b.behind refused

-- ---- batches

pub none_of_two : (a b : Option JournalFault) → option_or a b ≡ None → (a ≡ None) × (b ≡ None)
none_of_two None b e = (refl, e)
none_of_two (Some fault) b e = let no : ⊥ = cc in absurd no

pub nothing_is_named : (fault : Option JournalFault) (error : Error) → fault ≡ None → NamesFault fault error → ⊥
nothing_is_named None error e named = named
nothing_is_named (Some fault) error e named = let no : ⊥ = cc in no

-- the first journal has no fault, and those behind it have none
faultless : (least : ℕ) (j : WholeJournal) (journals : List WholeJournal) → first_fault least (map shown (batches_in (j ∷ journals))) ≡ None
    → (first_fault least (map shown j.batches) ≡ None) × (first_fault (least_after least (map shown j.batches)) (map shown (batches_in journals)) ≡ None)
faultless least j journals sound =
    none_of_two (first_fault least (map shown j.batches)) (first_fault (least_after least (map shown j.batches)) (map shown (batches_in journals)))
    (sym (ap (first_fault least) (map-append shown j.batches (batches_in journals)) ∙ first_fault-append least (map shown j.batches) (map shown (batches_in journals))) ∙ sound)

-- ---- journals

module _ (image : Image) where
  batches_are : (j : WholeJournal) (journals : List WholeJournal) → AreJournalsRead image (j ∷ journals) → (others : List Written) (tail : Tail) → ReadsAs (journal_text image j.id) others tail → others ≡ j.batches
  batches_are j [] (inl a) others tail b = sym (same_reading (journal_text image j.id) j.batches others Clean tail a b).0
  batches_are j [] (inr a) others tail b = sym (same_reading (journal_text image j.id) j.batches others Torn tail a b).0
  batches_are j (k ∷ journals) (a, rest) others tail b = sym (same_reading (journal_text image j.id) j.batches others Clean tail a b).0

  pub journals_are_kept : (least : ℕ) (journals : List WholeJournal) (error : Error) → AreJournalsRead image journals → first_fault least (map shown (batches_in journals)) ≡ None
      → JournalsRefuse image least (map (λ (j : WholeJournal). j.id) journals) error → ⊥
  journals_are_kept least [] error read sound refused = refused
  journals_are_kept least (j ∷ []) error read sound (others, tail, reads, why) =
      let same : others ≡ j.batches = batches_are j [] read others tail reads in
      let none : first_fault least (map shown others) ≡ None = ap (λ (l : List Written). first_fault least (map shown l)) same ∙ (faultless least j [] sound).0 in
      ⊎_elim (λ named. nothing_is_named (first_fault least (map shown others)) error none named)
      (λ later. ⊎_elim (λ refused. active_is_kept (journal_text image j.id) j.batches others tail error read reads refused) (λ behind. behind.1) later.1) why
  journals_are_kept least (j ∷ k ∷ journals) error read sound (others, tail, reads, why) =
      let same : others ≡ j.batches = batches_are j (k ∷ journals) read others tail reads in
      let rest = faultless least j (k ∷ journals) sound in
      let none : first_fault least (map shown others) ≡ None = ap (λ (l : List Written). first_fault least (map shown l)) same ∙ rest.0 in
      ⊎_elim (λ named. nothing_is_named (first_fault least (map shown others)) error none named)
      (λ later. ⊎_elim (λ refused. sealed_is_kept (journal_text image j.id) j.batches others false tail error read.0 reads refused)
      (λ behind. journals_are_kept (least_after least (map shown j.batches)) (k ∷ journals) error read.1 rest.1
      (subst (λ (l : List Written). JournalsRefuse image (least_after least (map shown l)) (map (λ (i : WholeJournal). i.id) (k ∷ journals)) error) same behind.1)) later.1) why

  -- journals that an image holds aren't refused
  pub held_journals_are_kept : (journals : List WholeJournal) (ids : List ℕ) (error : Error) → HoldsJournals image journals → AreJournalIds image ids → JournalsRefuse image 0 ids error → ⊥
  held_journals_are_kept journals ids error holds are refused =
      journals_are_kept 0 journals error holds.read holds.sound (subst (λ (l : List ℕ). JournalsRefuse image 0 l error) (one_list_of_ids image ids (map (λ (j : WholeJournal). j.id) journals) are holds.ids) refused)

  -- ---- keyspaces

  pub home_is_kept : (id : ℕ) (h : Home) (error : Error) → HasOpenableHome image id h → HomeRefuses image id error → ⊥
  home_is_kept id h Unrecoverable has refused = refused has.home.folder
  home_is_kept id h (Storage cause) has (folder, inl bad) = openable_no_damage image id has.records h has.indexes cause (openable_of image id h has) bad
  home_is_kept id h (Storage cause) has (folder, inr (is, bad)) =
      let same : bad.h ≡ h = (one_home image id bad.records has.records bad.h h bad.openable.files has.home.files).1 in
      bad.beyond (subst (λ (x : Home). ClearsAreWithin x.last) (sym same) has.clears)
  home_is_kept id h error has refused = refused

  pub homes_are_kept : (living : List LivingKeyspace) (homes : Homes) (error : Error) → HaveHomes image living homes → HomesRefuse image living error → ⊥
  homes_are_kept living homes error have refused = of living (all_housed image living homes have) refused
    where
      of : (some : List LivingKeyspace) → AllByRecursion (λ k. IsHoused image homes k.id) some → HomesRefuse image some error → ⊥
      of [] each refused = refused
      of (k ∷ some) each refused = ⊎_elim (λ here. home_is_kept k.id each.0.0 error each.0.2 here) (λ behind. of some each.1 behind.1) refused
