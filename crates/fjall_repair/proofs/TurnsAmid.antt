-- One turn of the loop that ends files, where a crash may leave different stores, and what stands after it.
use Rattle.std.proofs.Common.{◌≡◌, ◌≢◌, ◌⊎◌, inl, inr, ⊎_elim, ℕ, ◌+◌, ◌<◌, Bool, true, false, List, [], ◌++◌, length, take, get_or, string_bytes, refl, sym, ◌∙◌, ap, subst, arith}
use Rattle.std.proofs.lemmas.List.{append-nil, take_all}
use Rattle.fjall_base.specs.Store.{Store, Command}
use Rattle.fjall_base.specs.Disk.{Name, DiskEntry, Missing, File, Folder, Image, IsFile, LeavesOnly, Meaning, Place, DiskState, standing, state_in}
use Rattle.fjall_base.proofs.Moments.{at_end, runs_on, weaken}
use Rattle.fjall_files.specs.Texts.{text_in}
use Rattle.fjall_files.specs.Trims.{IsTrimmed, ended, ended_place}
use Rattle.fjall_recovery.specs.Folders.{Contents, IsOpenable}
use Rattle.fjall_repair.specs.declared.mending.plan.FileEnd.{FileEnd}
use Rattle.fjall_repair.specs.Amids.{StaysAmid}
use Rattle.fjall_repair.specs.Steps.{IsRightEnd, Stays, end_of}
use Rattle.fjall_repair.proofs.Beginnings.{moment_amid}
use Rattle.fjall_repair.proofs.Items.{item_has}
use Rattle.fjall_repair.proofs.Naming.{same_or_not}
use Rattle.fjall_repair.proofs.Trimming.{Cuts, IsCut, trimmed}
use Rattle.fjall_repair.proofs.Turns.{AreRight, AreSettled}

-- ---- what stands where a file was ended

entry_cut : (cut : Bool) (len : ℕ) (image other : Image) (f : Name) (e : DiskEntry) → image f ≡ e → other f ≡ ended cut len e → (other f ≡ image f) ⊎ IsCut image other len f
entry_cut true len image other f Missing was is = inl (is ∙ sym was)
entry_cut false len image other f Missing was is = inl (is ∙ sym was)
entry_cut true len image other f Folder was is = inl (is ∙ sym was)
entry_cut false len image other f Folder was is = inl (is ∙ sym was)
entry_cut true len image other f (File synced unsynced) was is = inr (record {
  file = subst IsFile (sym was) tt;
  still = subst IsFile (sym is) tt;
  k = len;
  le = omega arith;
  text = ap text_in is ∙ append-nil (take len (synced ++ unsynced)) ∙ ap (λ (d : DiskEntry). take len (text_in d)) (sym was);
})
entry_cut false len image other f (File synced unsynced) was is = inr (record {
  file = subst IsFile (sym was) tt;
  still = subst IsFile (sym is) tt;
  k = len + length (synced ++ unsynced);
  le = omega arith;
  text = ap text_in is ∙ append-nil (synced ++ unsynced) ∙ sym (take_all (len + length (synced ++ unsynced)) (synced ++ unsynced) (omega arith)) ∙ ap (λ (d : DiskEntry). take (len + length (synced ++ unsynced)) (text_in d)) (sym was);
})

ended_cuts : (mid new : DiskState) (f : Name) (cut : Bool) (len : ℕ) → new f ≡ ended_place cut len (mid f) → ((q : Name) → q ≢ f → new q ≡ mid q) → Cuts (standing mid) (standing new) f len
ended_cuts mid new f cut len placed elsewhere q = ⊎_elim
    (λ same.
    let here = entry_cut cut len (standing mid) (standing new) f (mid f).now refl (ap (λ (p : Place). p.now) placed) in
    ⊎_elim (λ alike. inl (ap (standing new) same ∙ alike ∙ ap (standing mid) (sym same))) (λ part. inr (same, subst (IsCut (standing mid) (standing new) len) (sym same) part)) here)
    (λ not. inl (ap (λ (p : Place). p.now) (elsewhere q not))) (same_or_not q f)

-- at the start
pub stays_first : (start : DiskState) (c : Contents) → IsOpenable (standing start) c → Stays start c (standing start)
stays_first start c sound = record { sound = sound; parts = λ q older. (length (text_in (start q).now), sym (take_all (length (text_in (start q).now)) (text_in (start q).now) (omega arith))) }

module _ (old mid new : Meaning) (ends : List FileEnd) (i : ℕ) (x : FileEnd) (at : x ≡ get_or ends i x) (lt : i < length ends) (file : Name) (is : file ≡ string_bytes x.name) where
  right : (c : Contents) → AreRight (state_in old) c ends → IsRightEnd (standing (state_in old)) c (end_of x)
  right c all = item_has (λ e. IsRightEnd (standing (state_in old)) c (end_of e)) ends i x at lt all

  settled : AreSettled (state_in old) ends → (state_in old (string_bytes x.name)).older ≡ []
  settled all = item_has (λ e. (state_in old (string_bytes e.name)).older ≡ []) ends i x at lt all

  pub turn_amid : (c : Contents) → IsOpenable (standing (state_in old)) c → AreRight (state_in old) c ends → AreSettled (state_in old) ends → (base : Store) (pending : List Command) → LeavesOnly old mid (StaysAmid (state_in old) base pending)
      → LeavesOnly mid new (IsTrimmed (state_in mid) file x.len) → LeavesOnly old new (StaysAmid (state_in old) base pending)
  turn_amid c sound all older base pending so_far run =
      let here = subst (λ (n : Name). LeavesOnly mid new (IsTrimmed (state_in mid) n x.len)) is run in
      runs_on old mid new (StaysAmid (state_in old) base pending) so_far
      (weaken mid new (IsTrimmed (state_in mid) (string_bytes x.name) x.len) (StaysAmid (state_in old) base pending) here
      (λ image trim. moment_amid (state_in old) c sound base pending (state_in mid) (end_of x) image (right c all) (settled older) (at_end old mid (StaysAmid (state_in old) base pending) so_far) trim))

  pub turn_stands : state_in new file ≡ ended_place x.cut x.len (state_in mid file) → ((q : Name) → q ≢ file → state_in new q ≡ state_in mid q) → (c : Contents) → AreRight (state_in old) c ends → AreSettled (state_in old) ends
      → Stays (state_in old) c (standing (state_in mid)) → Stays (state_in old) c (standing (state_in new))
  turn_stands placed outside c all older so_far =
      trimmed (state_in old) c (standing (state_in mid)) (standing (state_in new)) (string_bytes x.name) x.len
      (subst (λ (n : Name). Cuts (standing (state_in mid)) (standing (state_in new)) n x.len) is (ended_cuts (state_in mid) (state_in new) file x.cut x.len placed outside)) so_far (settled older) (right c all).kind
