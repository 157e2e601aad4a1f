-- One turn of the loop that ends files.
use Rattle.std.proofs.Common.{◌≡◌, ◌≢◌, inl, inr, ℕ, ◌+◌, ◌<◌, List, [], length, take, get_or, All, string_bytes, sym, ◌∙◌, ap, subst}
use Rattle.std.proofs.lemmas.List.Elements.{All-take}
use Rattle.fjall_base.specs.Disk.{Name, LeavesOnly, Meaning, Place, DiskState, standing, state_in}
use Rattle.fjall_base.proofs.Moments.{at_end, runs_on, weaken}
use Rattle.fjall_files.specs.Trims.{IsTrimmed, ended_place}
use Rattle.fjall_recovery.specs.Folders.{Contents}
use Rattle.fjall_repair.specs.declared.mending.plan.FileEnd.{FileEnd}
use Rattle.fjall_repair.specs.Steps.{IsEnded, IsRightEnd, IsSynced, Stays, end_of}
use Rattle.fjall_repair.proofs.Ending.{MayBeEnded, ended_here, ended_still, may_be_ended, moment_stays, synced_left}
use Rattle.fjall_repair.proofs.Naming.{same_or_not}
use Rattle.fjall_repair.proofs.Items.{all_more, all_with, item_has}

abbrev pub AreRight : DiskState → Contents → List FileEnd → Type 0
AreRight start c ends = All (λ e. IsRightEnd (standing start) c (end_of e)) ends

abbrev pub AreSettled : DiskState → List FileEnd → Type 0
AreSettled start ends = All (λ e. (start (string_bytes e.name)).older ≡ []) ends

module _ (old mid new : Meaning) (ends : List FileEnd) (i : ℕ) (x : FileEnd) (at : x ≡ get_or ends i x) (lt : i < length ends) (file : Name) (is : file ≡ string_bytes x.name) where
  right : (c : Contents) → AreRight (state_in old) c ends → IsRightEnd (standing (state_in old)) c (end_of x)
  right c all = item_has (λ e. IsRightEnd (standing (state_in old)) c (end_of e)) ends i x at lt all

  settled : AreSettled (state_in old) ends → (state_in old (string_bytes x.name)).older ≡ []
  settled all = item_has (λ e. (state_in old (string_bytes e.name)).older ≡ []) ends i x at lt all

  pub turn_moment : (c : Contents) → AreRight (state_in old) c ends → AreSettled (state_in old) ends → LeavesOnly old mid (Stays (state_in old) c) → LeavesOnly mid new (IsTrimmed (state_in mid) file x.len) → LeavesOnly old new (Stays (state_in old) c)
  turn_moment c all older so_far run =
      let here = subst (λ (n : Name). LeavesOnly mid new (IsTrimmed (state_in mid) n x.len)) is run in
      runs_on old mid new (Stays (state_in old) c) so_far
      (weaken mid new (IsTrimmed (state_in mid) (string_bytes x.name) x.len) (Stays (state_in old) c) here
      (λ image trim. moment_stays (state_in old) (state_in mid) c (end_of x) image (right c all) (settled older) (at_end old mid (Stays (state_in old) c) so_far) trim))

  module _ (placed : state_in new file ≡ ended_place x.cut x.len (state_in mid file)) (outside : (q : Name) → q ≢ file → state_in new q ≡ state_in mid q) where
    here : state_in new (string_bytes x.name) ≡ ended_place x.cut x.len (state_in mid (string_bytes x.name))
    here = subst (λ (n : Name). state_in new n ≡ ended_place x.cut x.len (state_in mid n)) is placed

    elsewhere : (q : Name) → q ≢ string_bytes x.name → state_in new q ≡ state_in mid q
    elsewhere q not = outside q (λ same. not (same ∙ is))

    pub turn_synced : (q : Name) → IsSynced (state_in mid q).now → IsSynced (state_in new q).now
    turn_synced q was = elim (same_or_not q file) [
      | inl same ↦ subst (λ (n : Name). IsSynced (state_in new n).now) (sym same) (subst (λ (p : Place). IsSynced p.now) (sym placed) (synced_left x.cut x.len (state_in mid file).now (subst (λ (n : Name). IsSynced (state_in mid n).now) same was)))
      | inr not ↦ subst (λ (p : Place). IsSynced p.now) (sym (outside q not)) was
    ]

    pub turn_may : (c : Contents) → AreRight (state_in old) c ends → ((q : Name) → MayBeEnded (state_in old) c (state_in mid) q) → (q : Name) → MayBeEnded (state_in old) c (state_in new) q
    turn_may c all may = may_be_ended (state_in old) (state_in mid) (state_in new) c (end_of x) (right c all) here elsewhere may

    pub turn_ended : (c : Contents) → AreRight (state_in old) c ends → ((q : Name) → MayBeEnded (state_in old) c (state_in mid) q) → All (λ e. IsEnded (state_in old) (state_in mid) (end_of e)) (take i ends) → All (λ e. IsEnded (state_in old) (state_in new) (end_of e)) (take (i + 1) ends)
    turn_ended c all may so_far =
        let still = all_with (λ e. IsRightEnd (standing (state_in old)) c (end_of e)) (λ e. IsEnded (state_in old) (state_in mid) (end_of e)) (λ e. IsEnded (state_in old) (state_in new) (end_of e)) (take i ends)
        (λ d other was. ended_still (state_in old) (state_in mid) (state_in new) c (end_of x) (end_of d) (right c all) other may here elsewhere was) (All-take (λ e. IsRightEnd (standing (state_in old)) c (end_of e)) i ends all) so_far in
        all_more (λ e. IsEnded (state_in old) (state_in new) (end_of e)) ends i x at lt still (ended_here (state_in old) (state_in mid) (state_in new) c (end_of x) (right c all) (may (string_bytes x.name)) here)

    pub turn_older : ((q : Name) → (state_in mid q).older ≡ (state_in old q).older) → (q : Name) → (state_in new q).older ≡ (state_in old q).older
    turn_older so_far q = elim (same_or_not q file) [
      | inl same ↦ ap (λ (n : Name). (state_in new n).older) same ∙ ap (λ (p : Place). p.older) placed ∙ ap (λ (n : Name). (state_in mid n).older) (sym same) ∙ so_far q
      | inr not ↦ ap (λ (p : Place). p.older) (outside q not) ∙ so_far q
    ]

    pub turn_elsewhere : (q : Name) → All (λ (e : FileEnd). q ≢ string_bytes e.name) ends → state_in mid q ≡ state_in old q → state_in new q ≡ state_in old q
    turn_elsewhere q apart so_far = elsewhere q (item_has (λ (e : FileEnd). q ≢ string_bytes e.name) ends i x at lt apart) ∙ so_far
