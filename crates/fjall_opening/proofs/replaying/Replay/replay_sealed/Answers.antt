use Rattle.std.proofs.Common.{◌≡◌, ◌≤◌, ◌+◌, ◌∙◌, ◌++◌, [], ℕ, List, ap, append_assoc, arith, drop, get_or, length, map, subst, sym, take}
use Rattle.std.proofs.lemmas.List.{length-map, take_all}
use Rattle.std.proofs.lemmas.Result.{err_from_is_err_and}
use Rattle.std.specs.List.{flat_map}
use Rattle.fjall_base.specs.Disk.{Image, standing, state_in}
use Rattle.fjall_journal.specs.Batches.{Shown, batch_text, shown}
use Rattle.fjall_journal.proofs.Writing.{took_none}
use Rattle.fjall_recovery.specs.Journals.{WholeJournal, batches_in, journal_text}
use Rattle.fjall_opening.specs.declared.replaying.Replay.{Replay}
use Rattle.fjall_opening.specs.Replaying.{IsUnderway, MayTake}
use Rattle.fjall_opening.proofs.JournalByJournal.{journal_at, least_taken, may_behind, may_front, sealed_at, taken_more, whole_at}
use Rattle.fjall_opening.proofs.replaying.Replay.replay_sealed.Goals as goal

pub returns-in_err-replay_file-clause-due : goal.returns-in_err-replay_file-clause-due
returns-in_err-replay_file-clause-due g c honest journals loaded front named sealed underway may =
    let p = err_from_is_err_and c.from_residual.result c.from_residual.ensures.1 in
    let image : Image = standing (state_in (g.D.Disk.meaning c.args.disk.now)) in
    let r : Replay = c.args.self.now in
    let ids : List ℕ = c.args.ids.now in
    let n = c.loop-id.id-index in
    let j : WholeJournal = journal_at image ids journals named sealed n c.loop-id-test.true in
    let same = ap standing (c.loop-id.invariant.same honest).state in
    let one = sealed_at image ids journals named sealed n c.loop-id-test.true in
    let taken : List Shown = map shown (batches_in (take n journals)) in
    let own : List Shown = map shown j.batches in
    let behind : List Shown = map shown (batches_in (drop (n + 1) journals)) in
    let next = least_taken r loaded front taken c.args.progress.now c.loop-id.progress underway (c.loop-id.invariant.ok honest journals named sealed loaded front underway) in
    let rest = may_behind r c.args.progress.now.least taken (own ++ behind) (subst (MayTake r c.args.progress.now.least) (whole_at image ids journals named sealed n c.loop-id-test.true) may) c.loop-id.progress.least next in
    rw (p.1, p.2)
    (c.in_err-replay_file.ensures.due honest j.batches one.0 (subst (λ (i : Image). journal_text i (get_or ids n 0) ≡ flat_map batch_text j.batches) (sym same) one.1)
    (may_front r c.loop-id.progress.least own behind rest))

pub loop-id-preserved : goal.loop-id-preserved
loop-id-preserved g c =
    let so_far = c.loop-id.invariant in
    let file = c.in_ok-replay_file.ensures in
    let r : Replay = c.args.self.now in
    let ids : List ℕ = c.args.ids.now in
    let n = c.loop-id.id-index in
    let faults = so_far.later in let more = file.later in
    record {
      ended = file.ended;
      some = λ loaded front underway.
          let first = so_far.some loaded front underway in
          let second = file.some loaded (front ++ first.0) first.1 in
          (first.0 ++ second.0, subst (λ (l : List Shown). IsUnderway r loaded l c.replay_file.new.progress) (append_assoc front first.0 second.0) second.1);
      ok = λ honest journals named sealed loaded front underway.
          let image : Image = standing (state_in (g.D.Disk.meaning c.args.disk.now)) in
          let j : WholeJournal = journal_at image ids journals named sealed n c.loop-id-test.true in
          let same = ap standing (so_far.same honest).state in
          let one = sealed_at image ids journals named sealed n c.loop-id-test.true in
          let taken : List Shown = map shown (batches_in (take n journals)) in
          subst (λ (l : List Shown). IsUnderway r loaded l c.replay_file.new.progress)
          (append_assoc front taken (map shown j.batches) ∙ ap (λ (l : List Shown). front ++ l) (sym (taken_more image ids journals named sealed n c.loop-id-test.true)))
          (file.ok honest j.batches loaded (front ++ taken) one.0 (subst (λ (i : Image). journal_text i (get_or ids n 0) ≡ flat_map batch_text j.batches) (sym same) one.1)
          (so_far.ok honest journals named sealed loaded front underway));
      same = λ honest. took_none _ _ _ [] (so_far.same honest) (file.same honest);
      served = λ honest. file.served honest ∙ so_far.served honest;
      later = omega (arith, faults, more);
    }

pub returns-clause-ok : goal.returns-clause-ok
returns-clause-ok g c honest journals loaded front named sealed underway =
    let l = length-map journals (λ (j : WholeJournal). j.id) in
    let m = ap length named in
    let over = c.loop-id-test.false in
    let all : length journals ≤ c.loop-id.id-index = omega (arith, l, m, over) in
    subst (λ (js : List WholeJournal). IsUnderway c.args.self.now loaded (front ++ map shown (batches_in js)) c.loop-id.progress) (take_all c.loop-id.id-index journals all)
    (c.loop-id.invariant.ok honest journals named sealed loaded front underway)
