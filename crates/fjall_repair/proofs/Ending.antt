-- A file is ended where all that counts in it ends.
use Rattle.std.proofs.Common.{◌≡◌, ◌≢◌, ◌⊎◌, inl, inr, ⊎_elim, ℕ, ◌≤◌, Bool, true, false, List, [], ◌++◌, length, take, Some, refl, sym, ◌∙◌, ap, subst, arith}
use Rattle.std.proofs.lemmas.List.{append-nil, take_all, length-take}
use Rattle.fjall_base.specs.Disk.{Name, DiskEntry, Missing, File, Folder, Place, DiskState, Image, IsImage, IsFile, all_synced, cut_to, standing}
use Rattle.fjall_files.specs.Texts.{text_in}
use Rattle.fjall_files.specs.Trims.{IsTrimmed, KeepsFront, ended, ended_place}
use Rattle.fjall_manifest.proofs.Currents as Currents
use Rattle.fjall_recovery.specs.Folders.{Contents}
use Rattle.fjall_recovery.specs.Journals.{WholeJournal}
use Rattle.fjall_recovery.specs.Places.{texts_of}
use Rattle.fjall_repair.specs.Steps.{End, EndsBatches, EndsRecords, IsEnded, IsRightEnd, IsSynced, Stays}
use Rattle.fjall_repair.proofs.Naming.{same_or_not, journal_current}
use Rattle.fjall_repair.proofs.Trimming.{Cuts, IsCut, trimmed}

-- ---- a file that is cut in an image

pub keeps_cut : (image other : Image) (f : Name) (len : ℕ) → KeepsFront len (image f) (other f) → ((q : Name) → q ≢ f → other q ≡ image q) → Cuts image other f len
keeps_cut image other f len keeps elsewhere q = ⊎_elim (λ same. at q same keeps) (λ not. inl (elsewhere q not)) (same_or_not q f)
  where
    at : (q : Name) → q ≡ f → KeepsFront len (image f) (other f) → (other q ≡ image q) ⊎ ((q ≡ f) × IsCut image other len q)
    at q same (inl alike) = inl (ap other same ∙ alike ∙ ap image (sym same))
    at q same (inr (bytes, k, le, entry, left)) =
        let was : image q ≡ File bytes [] = ap image same ∙ entry in
        let is : other q ≡ File (take k bytes) [] = ap other same ∙ left in
        inr (
          same,
          record {
            file = subst IsFile (sym was) tt;
            still = subst IsFile (sym is) tt;
            k = k;
            le = le;
            text = ap text_in is ∙ append-nil (take k bytes) ∙ ap (take k) (sym (append-nil bytes) ∙ sym (ap text_in was));
          },
        )

-- whatever a crash leaves while a file is ended stays as it was
pub moment_stays : (start state : DiskState) (c : Contents) (e : End) (image : Image) → IsRightEnd (standing start) c e → (start e.name).older ≡ [] → ((whole : Image) → IsImage state whole → Stays start c whole) → IsTrimmed state e.name e.len image → Stays start c image
moment_stays start state c e image right older all trim =
    trimmed start c trim.whole image e.name e.len (keeps_cut trim.whole image e.name e.len trim.here trim.elsewhere) (all trim.whole trim.is) older right.kind

-- a synced file is so still
pub synced_left : (cut : Bool) (len : ℕ) (entry : DiskEntry) → IsSynced entry → IsSynced (ended cut len entry)
synced_left true len entry (bytes, is) = (take len (bytes ++ []), ap (cut_to len) is)
synced_left false len entry (bytes, is) = (bytes ++ [], ap all_synced is)

-- ---- which files were ended

-- all that counts in the file ends there
abbrev pub Ends : Image → Contents → Name → ℕ → Type 0
Ends image c name len = EndsBatches c name len ⊎ EndsRecords image name len

-- it ends at one place
pub one_end : (image : Image) (c : Contents) (name : Name) (len other : ℕ) → Ends image c name len → Ends image c name other → len ≡ other
one_end image c name len other (inl a) (inl b) =
    let both : Some a.journal ≡ Some b.journal = sym a.last ∙ b.last in
    let same : a.journal ≡ b.journal = cc in
    a.is ∙ ap (λ (j : WholeJournal). length (texts_of j.batches)) same ∙ sym b.is
one_end image c name len other (inl a) (inr b) = absurd (journal_current a.journal.id b.id (sym a.named ∙ b.named))
one_end image c name len other (inr a) (inl b) = absurd (journal_current b.journal.id a.id (sym b.named ∙ a.named))
one_end image c name len other (inr a) (inr b) = (Currents.one_reading (text_in (image name)) a.records b.records len other a.whole b.whole).1

-- the file as it was, or ended
abbrev pub MayBeEnded : DiskState → Contents → DiskState → Name → Type 0
MayBeEnded start c state q =
    ((state q).now ≡ (start q).now)
    ⊎ ((len : ℕ) × Ends (standing start) c q len × ((state q).now ≡ File (take len (text_in (start q).now)) []))

cut_first : (cut : Bool) (len : ℕ) (entry : DiskEntry) → IsFile entry → (cut ≡ false → length (text_in entry) ≤ len) → ended cut len entry ≡ File (take len (text_in entry)) []
cut_first cut len Missing file uncut = absurd file
cut_first cut len Folder file uncut = absurd file
cut_first true len (File synced unsynced) file uncut = refl
cut_first false len (File synced unsynced) file uncut = ap (λ l. File l []) (sym (take_all len (synced ++ unsynced) (uncut refl)))

cut_again : (cut : Bool) (len : ℕ) (text : List ℕ) → ended cut len (File (take len text) []) ≡ File (take len text) []
cut_again true len text = ap (λ l. File l []) (ap (take len) (append-nil (take len text)) ∙ take_all len (take len text) (let l = length-take len text in omega (arith, l)))
cut_again false len text = ap (λ l. File l []) (append-nil (take len text))

pub ended_here : (start old new : DiskState) (c : Contents) (e : End) → IsRightEnd (standing start) c e → MayBeEnded start c old e.name → new e.name ≡ ended_place e.cut e.len (old e.name) → IsEnded start new e
ended_here start old new c e right (inl same) at = ap (λ (p : Place). p.now) at ∙ ap (ended e.cut e.len) same ∙ cut_first e.cut e.len (start e.name).now right.file right.uncut
ended_here start old new c e right (inr (len, ends, is)) at =
    let equal : len ≡ e.len = one_end (standing start) c e.name len e.len ends right.kind in
    let text = text_in (start e.name).now in
    ap (λ (p : Place). p.now) at ∙ ap (ended e.cut e.len) (is ∙ ap (λ (n : ℕ). File (take n text) []) equal) ∙ cut_again e.cut e.len text

pub may_be_ended : (start old new : DiskState) (c : Contents) (e : End) → IsRightEnd (standing start) c e → new e.name ≡ ended_place e.cut e.len (old e.name) → ((q : Name) → q ≢ e.name → new q ≡ old q)
    → ((q : Name) → MayBeEnded start c old q) → (q : Name) → MayBeEnded start c new q
may_be_ended start old new c e right at elsewhere may q =
    ⊎_elim (λ same. subst (MayBeEnded start c new) (sym same) (inr (e.len, right.kind, ended_here start old new c e right (may e.name) at)))
    (λ not. subst (λ (p : Place). (p.now ≡ (start q).now) ⊎ ((len : ℕ) × Ends (standing start) c q len × (p.now ≡ File (take len (text_in (start q).now)) []))) (sym (elsewhere q not)) (may q)) (same_or_not q e.name)

-- a file that was ended is so still
pub ended_still : (start old new : DiskState) (c : Contents) (e d : End) → IsRightEnd (standing start) c e → IsRightEnd (standing start) c d → ((q : Name) → MayBeEnded start c old q) → new e.name ≡ ended_place e.cut e.len (old e.name)
    → ((q : Name) → q ≢ e.name → new q ≡ old q) → IsEnded start old d → IsEnded start new d
ended_still start old new c e d right other may at elsewhere was =
    ⊎_elim
    (λ same.
    let equal : d.len ≡ e.len = one_end (standing start) c d.name d.len e.len other.kind (subst (λ (n : Name). Ends (standing start) c n e.len) (sym same) right.kind) in
    ap (λ (n : Name). (new n).now) same ∙ ended_here start old new c e right (may e.name) at ∙ ap (λ (n : Name). File (take e.len (text_in (start n).now)) []) (sym same)
    ∙ ap (λ (n : ℕ). File (take n (text_in (start d.name).now)) []) (sym equal))
    (λ not. ap (λ (p : Place). p.now) (elsewhere d.name not) ∙ was) (same_or_not d.name e.name)
