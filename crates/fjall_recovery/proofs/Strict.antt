-- What a mode makes of refusals.
use Rattle.std.proofs.Common.{◌≡◌, inl, inr, ℕ, Bool, true, false, List, [], ◌∷◌, drop, Option, refl, sym, ◌∙◌, subst}
use Rattle.std.specs.Prelude.{Ok, Err}
use Rattle.fjall_base.specs.declared.error.Error.{Error}
use Rattle.fjall_base.specs.declared.error.Error.TheVariants.{JournalRecovery}
use Rattle.fjall_base.specs.declared.error.JournalRecoveryError.TheVariants.{InvalidFileName, TornTail}
use Rattle.fjall_base.specs.Disk.{Image}
use Rattle.fjall_files.specs.declared.marker.Marker.{Marker}
use Rattle.fjall_files.specs.declared.marker.Marker.TheVariants.{Whole, Unfinished}
use Rattle.fjall_files.specs.Marker.{marker_tells}
use Rattle.fjall_journal.specs.declared.recovery_mode.RecoveryMode.{RecoveryMode}
use Rattle.fjall_journal.specs.declared.recovery_mode.RecoveryMode.TheVariants.{RefuseTornTail, TolerateCorruptTail}
use Rattle.fjall_journal.proofs.Wholes as Wholes
use Rattle.fjall_recovery.specs.Folders.{Contents, marker_bytes}
use Rattle.fjall_recovery.specs.Held.{IsOpenFolder}
use Rattle.fjall_recovery.specs.Journals.{AreFound, AreJournalIds, EndsAt, HoldsJournals, WholeJournal, journal_text}
use Rattle.fjall_recovery.specs.Naming.{JournalsAreNamed}
use Rattle.fjall_recovery.specs.Refusals.{AreOne, FinishedRefuses, FinishedRefusesIn, FolderRefuses, FolderRefusesIn, HasTornEnd, HasTornTail, IsDue, IsTornTail, JournalsRefuse, RefusesBy}
use Rattle.fjall_recovery.proofs.Alone.{one_list_of_journals}
use Rattle.fjall_recovery.proofs.Causes.{alike, one_refusal}
use Rattle.fjall_recovery.proofs.Finishing.{due_as, finished_refuses}
use Rattle.fjall_recovery.proofs.Kept.{marker_is_kept, one_marker, open_folder_is_kept}
use Rattle.fjall_recovery.proofs.Opened.{held_journals_are_kept}

-- ---- causes

-- a cause that no torn tail comes with
pub in_mode : (mode : RecoveryMode) (IsTorn : Type 0) (P Refuses : Error → Type 0) (error : Error) → ((e : Error) → P e → Refuses e) → (mode ≡ RefuseTornTail → (e : Error) → P e → IsTorn → ⊥) → IsDue P error → IsDue (RefusesBy mode IsTorn Refuses) error
in_mode TolerateCorruptTail IsTorn P Refuses error into none due = due_as P Refuses error into due
in_mode RefuseTornTail IsTorn P Refuses error into none due = due_as P (RefusesBy RefuseTornTail IsTorn Refuses) error (λ e is. inr (none refl e is, into e is)) due

pub torn_in_mode : (mode : RecoveryMode) (IsTorn : Type 0) (Refuses : Error → Type 0) (error : Error) → mode ≡ RefuseTornTail → IsTorn → error ≡ JournalRecovery TornTail → IsDue (RefusesBy mode IsTorn Refuses) error
torn_in_mode TolerateCorruptTail IsTorn Refuses error on torn is = let no : ⊥ = cc in absurd no
torn_in_mode RefuseTornTail IsTorn Refuses error on torn is = subst (IsDue (RefusesBy RefuseTornTail IsTorn Refuses)) (sym is) (inl (torn, refl))

-- what nothing can refuse the mode may
pub spared_in_mode : (mode : RecoveryMode) (IsTorn : Type 0) (error : Error) → IsDue (λ e. ⊥) error → IsDue (IsTornTail mode IsTorn) error
spared_in_mode mode IsTorn error due = due_as (λ e. ⊥) (IsTornTail mode IsTorn) error (λ e none. absurd none) due

pub torn_spared : (mode : RecoveryMode) (IsTorn : Type 0) (error : Error) → mode ≡ RefuseTornTail → IsTorn → error ≡ JournalRecovery TornTail → IsDue (IsTornTail mode IsTorn) error
torn_spared mode IsTorn error on torn is = subst (IsDue (IsTornTail mode IsTorn)) (sym is) (on, torn, refl)

-- ---- what a reading of the journals tells

torn_or_clean : (image : Image) (journals : List WholeJournal) (end other : ℕ) → EndsAt image journals end true → EndsAt image journals other false → ⊥
torn_or_clean image [] end other torn clean = let no : true ≡ false = torn.1 in cc
torn_or_clean image (j ∷ []) end other torn clean =
    let same = (Wholes.one_reading (journal_text image j.id) j.batches j.batches end other torn.0 clean.0).1 in
    let nothing : drop end (journal_text image j.id) ≡ [] = subst (λ (n : ℕ). drop n (journal_text image j.id) ≡ []) (sym same) clean.1 in
    torn.1.0 nothing
torn_or_clean image (j ∷ k ∷ journals) end other torn clean = torn_or_clean image (k ∷ journals) end other torn clean

module _ (image : Image) (ids : List ℕ) (least end : ℕ) (torn : Bool) (are : AreJournalIds image ids) (found : AreFound image ids least end torn) where
  held : HoldsJournals image found.journals
  held = record { ids = subst (AreJournalIds image) (sym found.named) are; read = found.read; sound = found.gathers.sound }

  pub torn_found : torn ≡ true → HasTornEnd image
  torn_found is = record { journals = found.journals; holds = held; end = end; ends = subst (EndsAt image found.journals end) is found.ends }

  pub clean_found : torn ≡ false → HasTornEnd image → ⊥
  clean_found is has =
      let same = one_list_of_journals image has.journals found.journals has.holds held in
      torn_or_clean image found.journals has.end end (subst (λ (l : List WholeJournal). EndsAt image l has.end true) same has.ends) (subst (EndsAt image found.journals end) is found.ends)

-- journals that are refused
pub journals_refuse_in : (mode : RecoveryMode) (image : Image) (ids : List ℕ) (error : Error) → AreJournalIds image ids → IsDue (JournalsRefuse image 0 ids) error → IsDue (FinishedRefusesIn mode image) error
journals_refuse_in mode image ids error are due =
    in_mode mode (HasTornEnd image) (JournalsRefuse image 0 ids) (FinishedRefuses image) error (λ e refused. inl (ids, are, refused)) (λ on e refused torn. held_journals_are_kept image torn.journals ids e torn.holds are refused) due

-- what comes behind journals that were read
pub behind_in : (mode : RecoveryMode) (torn : Bool) (image : Image) (ids : List ℕ) (least end : ℕ) (error : Error) → AreJournalIds image ids → AreFound image ids least end torn → (mode ≡ RefuseTornTail → torn ≡ false) → IsDue (FinishedRefuses image) error
    → IsDue (FinishedRefusesIn mode image) error
behind_in mode torn image ids least end error are found untorn due =
    in_mode mode (HasTornEnd image) (FinishedRefuses image) (FinishedRefuses image) error (λ e is. is) (λ on e is has. clean_found image ids least end torn are found (untorn on) has) due

-- ---- the whole folder

pub marker_refuses_in : (mode : RecoveryMode) (image : Image) (error : Error) → IsDue (λ e. marker_tells (marker_bytes image) ≡ Err e) error → IsDue (FolderRefusesIn mode image) error
marker_refuses_in mode image error due =
    in_mode mode (HasTornTail image) (λ e. marker_tells (marker_bytes image) ≡ Err e) (FolderRefuses image) error (λ e is. inl is) (λ on e is torn. marker_is_kept (marker_tells (marker_bytes image)) Whole e torn.marker is) due

pub names_in_mode : (mode : RecoveryMode) (image other : Image) (marker : Marker) (error : Error) → other ≡ image → marker_tells (marker_bytes image) ≡ Ok marker → IsDue (λ e. (e ≡ JournalRecovery InvalidFileName) × (JournalsAreNamed other → ⊥)) error
    → IsDue (FolderRefusesIn mode image) error
names_in_mode mode image other marker error same tells due =
    in_mode mode (HasTornTail image) (λ e. (e ≡ JournalRecovery InvalidFileName) × (JournalsAreNamed other → ⊥)) (FolderRefuses image) error
    (λ e is. inr (marker, tells, inl (is.0, subst (λ i. JournalsAreNamed i → ⊥) same is.1))) (λ on e is torn. is.1 (subst JournalsAreNamed (sym same) torn.named)) due

torn_folder : (image other : Image) → other ≡ image → marker_tells (marker_bytes image) ≡ Ok Whole → JournalsAreNamed image → HasTornEnd other → HasTornTail image
torn_folder image other same tells named torn = record { marker = tells; named = named; torn = subst HasTornEnd same torn }

pub finished_refuses_in : (mode : RecoveryMode) (image other : Image) (error : Error) → other ≡ image → marker_tells (marker_bytes image) ≡ Ok Whole → JournalsAreNamed image → IsDue (FinishedRefusesIn mode other) error → IsDue (FolderRefusesIn mode image) error
finished_refuses_in TolerateCorruptTail image other error same tells named due = finished_refuses image other error same tells named due
finished_refuses_in RefuseTornTail image other error same tells named due =
    due_as (FinishedRefusesIn RefuseTornTail other) (FolderRefusesIn RefuseTornTail image) error
    (λ e is. elim is [
      | inl torn ↦ inl (torn_folder image other same tells named torn.0, torn.1)
      | inr refused ↦ inr ((λ has. refused.0 (subst HasTornEnd (sym same) has.torn)), inr (Whole, tells, inr (named, subst (λ i. FinishedRefuses i e) same refused.1)))
    ]) due

not_both : Whole ≡ Unfinished → ⊥
not_both e = cc

pub no_torn_tail : (image : Image) → marker_tells (marker_bytes image) ≡ Ok Unfinished → HasTornTail image → ⊥
no_torn_tail image tells torn = not_both (one_marker (marker_tells (marker_bytes image)) Whole Unfinished torn.marker tells)

pub unfinished_refuses_in : (mode : RecoveryMode) (image : Image) (error : Error) → marker_tells (marker_bytes image) ≡ Ok Unfinished → IsDue (FolderRefuses image) error → IsDue (FolderRefusesIn mode image) error
unfinished_refuses_in mode image error tells due =
    in_mode mode (HasTornTail image) (FolderRefuses image) (FolderRefuses image) error (λ e is. is) (λ on e is torn. no_torn_tail image tells torn) due

pub finished_spared_in : (mode : RecoveryMode) (image other : Image) (error : Error) → other ≡ image → marker_tells (marker_bytes image) ≡ Ok Whole → JournalsAreNamed image → IsDue (IsTornTail mode (HasTornEnd other)) error
    → IsDue (IsTornTail mode (HasTornTail image)) error
finished_spared_in mode image other error same tells named due =
    due_as (IsTornTail mode (HasTornEnd other)) (IsTornTail mode (HasTornTail image)) error (λ e is. (is.0, torn_folder image other same tells named is.1, is.2)) due

pub untorn_folder : (image other : Image) → other ≡ image → (HasTornEnd other → ⊥) → HasTornTail image → ⊥
untorn_folder image other same none torn = none (subst HasTornEnd (sym same) torn.torn)

-- ---- laws

-- in each mode a folder is refused for one error
pub one_refusal_in : (mode : RecoveryMode) (image : Image) (a b : Error) → FolderRefusesIn mode image a → FolderRefusesIn mode image b → AreOne a b
one_refusal_in TolerateCorruptTail image a b x y = one_refusal image a b x y
one_refusal_in RefuseTornTail image a b (inl x) (inl y) = alike a b (x.1 ∙ sym y.1)
one_refusal_in RefuseTornTail image a b (inl x) (inr y) = absurd (y.0 x.0)
one_refusal_in RefuseTornTail image a b (inr x) (inl y) = absurd (x.0 y.0)
one_refusal_in RefuseTornTail image a b (inr x) (inr y) = one_refusal image a b x.1 y.1

-- the first fault that is met is that one
pub due_once_in : (mode : RecoveryMode) (image : Image) (error other : Error) → FolderRefusesIn mode image error → IsDue (FolderRefusesIn mode image) other → IsDue (AreOne error) other
due_once_in mode image error other refused due = due_as (FolderRefusesIn mode image) (AreOne error) other (λ e is. one_refusal_in mode image error e refused is) due

-- and one in which an opening finds nothing wrong for a torn tail alone
pub torn_alone : (mode : RecoveryMode) (image : Image) (folder : Option Contents) (error : Error) → IsOpenFolder image folder → FolderRefusesIn mode image error → IsTornTail mode (HasTornTail image) error
torn_alone TolerateCorruptTail image folder error opens refused = absurd (open_folder_is_kept image folder error opens refused)
torn_alone RefuseTornTail image folder error opens (inl torn) = (refl, torn.0, torn.1)
torn_alone RefuseTornTail image folder error opens (inr other) = absurd (open_folder_is_kept image folder error opens other.1)

-- where there is none it isn't refused
pub opens_untorn : (mode : RecoveryMode) (image : Image) (folder : Option Contents) (error : Error) → IsOpenFolder image folder → (mode ≡ RefuseTornTail → HasTornTail image → ⊥) → FolderRefusesIn mode image error → ⊥
opens_untorn mode image folder error opens untorn refused = let torn = torn_alone mode image folder error opens refused in untorn torn.0 torn.1

-- a torn tail is refused in that mode
pub refuses_torn : (mode : RecoveryMode) (image : Image) → mode ≡ RefuseTornTail → HasTornTail image → FolderRefusesIn mode image (JournalRecovery TornTail)
refuses_torn TolerateCorruptTail image on torn = let no : ⊥ = cc in absurd no
refuses_torn RefuseTornTail image on torn = inl (torn, refl)

-- and by its name
pub named_torn : (error : Error) → IsDue (AreOne (JournalRecovery TornTail)) error → IsDue (λ e. e ≡ JournalRecovery TornTail) error
named_torn error due = due_as (AreOne (JournalRecovery TornTail)) (λ e. e ≡ JournalRecovery TornTail) error (λ e is. sym is) due
