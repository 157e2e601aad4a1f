use Rattle.std.proofs.Common.{◌≡◌, ◌∙◌, ◌++◌, [], List, ap, get_or, length, ◌-◌, map, refl, subst, sym, take}
use Rattle.std.proofs.lemmas.List.{append-nil}
use Rattle.std.proofs.lemmas.Result.{err_from_is_err_and}
use Rattle.std.specs.List.{flat_map}
use Rattle.fjall_base.specs.Disk.{Image, standing, state_in}
use Rattle.fjall_journal.specs.Batches.{Shown, batch_text, shown}
use Rattle.fjall_recovery.specs.Journals.{batches_in, journal_text}
use Rattle.fjall_trees.specs.Forests.{Forest}
use Rattle.fjall_trees.specs.Views.{forest_of}
use Rattle.fjall_opening.specs.declared.replaying.Progress.{Progress}
use Rattle.fjall_opening.specs.declared.replaying.Replay.{Replay}
use Rattle.fjall_opening.specs.Replaying.{IsUnderway, MayTake, counted_by, made_of}
use Rattle.fjall_opening.proofs.JournalByJournal.{least_taken, may_behind, may_front, none_held, now_before, now_is, some_front, split_of}
use Rattle.fjall_opening.proofs.JournalsLeft.{by_journals}
use Rattle.fjall_opening.proofs.Sealings.{nothing_taken}
use Rattle.fjall_opening.proofs.replaying.Replay.replay_journals.Goals as goal
use Rattle.fjall_opening.proofs.replaying.Replay.replay_journals.Goals.{in_default, in-len1-up+in_ok-replay_sealed+in_ok-replay_file}

pub returns-in_err-replay_sealed-clause-due : goal.returns-in_err-replay_sealed-clause-due
returns-in_err-replay_sealed-clause-due g c honest journals torn held may =
    let p = err_from_is_err_and c.from_residual.result c.from_residual.ensures.1 in
    let image : Image = standing (state_in (g.D.Disk.meaning c.args.disk.now)) in
    let r : Replay = c.args.self.now in
    let loaded : Forest = forest_of c.args.loaded in
    let start : Progress = record { trees = c.args.loaded; place = 0; least = 0 } in
    let begun : IsUnderway r loaded [] start = nothing_taken r loaded start c.requires.unwritten refl refl refl in
    let split = split_of image c.args.ids.now c.args.end torn journals c.in-len1-up.len_at_least held in
    rw (p.1, p.2)
    (c.in_err-replay_sealed.ensures.due honest split.sealed loaded [] split.named split.whole begun
    (may_front r 0 (map shown (batches_in split.sealed)) (map shown split.active.batches) (subst (MayTake r 0) split.batches may)))

pub returns-in_err-replay_file-clause-due : goal.returns-in_err-replay_file-clause-due
returns-in_err-replay_file-clause-due g c honest journals torn held may =
    let p = err_from_is_err_and c.from_residual-in_err-replay_file.result c.from_residual-in_err-replay_file.ensures.1 in
    let image : Image = standing (state_in (g.D.Disk.meaning c.args.disk.now)) in
    let r : Replay = c.args.self.now in
    let loaded : Forest = forest_of c.args.loaded in
    let start : Progress = record { trees = c.args.loaded; place = 0; least = 0 } in
    let begun : IsUnderway r loaded [] start = nothing_taken r loaded start c.requires.unwritten refl refl refl in
    let split = split_of image c.args.ids.now c.args.end torn journals c.in-len1-up.len_at_least held in
    let same = ap standing (c.in_ok-replay_sealed.ensures.same honest).state in
    let sealed : List Shown = map shown (batches_in split.sealed) in
    let next = least_taken r loaded [] sealed start c.replay_sealed.new.progress begun (c.in_ok-replay_sealed.ensures.ok honest split.sealed loaded [] split.named split.whole begun) in
    let text = ap (λ id. take c.args.end (journal_text image id)) (sym split.last) ∙ split.text in
    rw (p.1, p.2)
    (c.in_err-replay_file.ensures.due honest split.active.batches split.each
    (subst (λ (i : Image). take c.args.end (journal_text i (get_or c.args.ids.now (length c.args.ids.now - 1) 0)) ≡ flat_map batch_text split.active.batches) (sym same) text)
    (may_behind r 0 sealed (map shown split.active.batches) (subst (MayTake r 0) split.batches may) c.replay_sealed.new.progress.least next))

pub returns-clause-ok : goal.returns-clause-ok
returns-clause-ok g c honest journals torn held =
    let image : Image = standing (state_in (g.D.Disk.meaning c.args.disk.now)) in
    let r : Replay = c.args.self.now in
    let loaded : Forest = forest_of c.args.loaded in
    let start : Progress = record { trees = c.args.loaded; place = 0; least = 0 } in
    let begun : IsUnderway r loaded [] start = nothing_taken r loaded start c.requires.unwritten refl refl refl in
    let way : IsUnderway r loaded (map shown (batches_in journals)) c.if-ids-lt1.progress =
    elim c.if-ids-lt1.branch [
      | in_default w ↦
          subst (λ (l : List Shown). IsUnderway r loaded l c.if-ids-lt1.progress) (sym (none_held image c.args.ids.now c.args.end torn journals w.in_default.len_below held))
          (subst (IsUnderway r loaded []) (sym w.progress-is) begun)
      | in-len1-up+in_ok-replay_sealed+in_ok-replay_file w ↦
          let split = split_of image c.args.ids.now c.args.end torn journals w.in-len1-up.len_at_least held in
          let same = ap standing (w.in_ok-replay_sealed.ensures.same honest).state in
          let text = ap (λ id. take c.args.end (journal_text image id)) (sym split.last) ∙ split.text in
          let first = w.in_ok-replay_sealed.ensures.ok honest split.sealed loaded [] split.named split.whole begun in
          let second =
          w.in_ok-replay_file.ensures.ok honest split.active.batches loaded (map shown (batches_in split.sealed)) split.each
          (subst (λ (i : Image). take c.args.end (journal_text i (get_or c.args.ids.now (length c.args.ids.now - 1) 0)) ≡ flat_map batch_text split.active.batches) (sym same) text) first in
          subst (λ (l : List Shown). IsUnderway r loaded l c.if-ids-lt1.progress) (sym split.batches)
          (subst (IsUnderway r loaded (map shown (batches_in split.sealed) ++ map shown split.active.batches)) (sym w.progress-is) second)
    ] in
    c.finish.ensures.ok loaded (map shown (batches_in journals)) way.trees

pub returns-clause-made : goal.returns-clause-made
returns-clause-made g c honest journals torn marks held tell =
    let image : Image = standing (state_in (g.D.Disk.meaning c.args.disk.now)) in
    let r : Replay = c.args.self.now in
    let loaded : Forest = forest_of c.args.loaded in
    let start : Progress = record { trees = c.args.loaded; place = 0; least = 0 } in
    let begun : IsUnderway r loaded [] start = nothing_taken r loaded start c.requires.unwritten refl refl refl in
    let way : IsUnderway r loaded (map shown (batches_in journals)) c.if-ids-lt1.progress =
    elim c.if-ids-lt1.branch [
      | in_default w ↦
          subst (λ (l : List Shown). IsUnderway r loaded l c.if-ids-lt1.progress) (sym (none_held image c.args.ids.now c.args.end torn journals w.in_default.len_below held))
          (subst (IsUnderway r loaded []) (sym w.progress-is) begun)
      | in-len1-up+in_ok-replay_sealed+in_ok-replay_file w ↦
          let split = split_of image c.args.ids.now c.args.end torn journals w.in-len1-up.len_at_least held in
          let same = ap standing (w.in_ok-replay_sealed.ensures.same honest).state in
          let text = ap (λ id. take c.args.end (journal_text image id)) (sym split.last) ∙ split.text in
          let first = w.in_ok-replay_sealed.ensures.ok honest split.sealed loaded [] split.named split.whole begun in
          let second =
          w.in_ok-replay_file.ensures.ok honest split.active.batches loaded (map shown (batches_in split.sealed)) split.each
          (subst (λ (i : Image). take c.args.end (journal_text i (get_or c.args.ids.now (length c.args.ids.now - 1) 0)) ≡ flat_map batch_text split.active.batches) (sym same) text) first in
          subst (λ (l : List Shown). IsUnderway r loaded l c.if-ids-lt1.progress) (sym split.batches)
          (subst (IsUnderway r loaded (map shown (batches_in split.sealed) ++ map shown split.active.batches)) (sym w.progress-is) second)
    ] in
    let batches : List Shown = map shown (batches_in journals) in
    now_is c.finish.result _ _ (c.finish.ensures.made (counted_by r))
    (way.made [] ∙ ap (λ (l : List Shown). made_of (counted_by r) r.sealed.now l loaded) (append-nil batches) ∙ by_journals (counted_by r) journals r.sealed.now marks 0 loaded tell way.sound)

pub returns-clause-some : goal.returns-clause-some
returns-clause-some g c =
    let r : Replay = c.args.self.now in
    let loaded : Forest = forest_of c.args.loaded in
    let start : Progress = record { trees = c.args.loaded; place = 0; least = 0 } in
    let begun : IsUnderway r loaded [] start = nothing_taken r loaded start c.requires.unwritten refl refl refl in
    let way : (front : List Shown) × IsUnderway r loaded front c.if-ids-lt1.progress =
    elim c.if-ids-lt1.branch [
      | in_default w ↦ ([], subst (IsUnderway r loaded []) (sym w.progress-is) begun)
      | in-len1-up+in_ok-replay_sealed+in_ok-replay_file w ↦
          let first = w.in_ok-replay_sealed.ensures.some loaded [] begun in
          let second = w.in_ok-replay_file.ensures.some loaded ([] ++ first.0) first.1 in
          (([] ++ first.0) ++ second.0, subst (IsUnderway r loaded (([] ++ first.0) ++ second.0)) (sym w.progress-is) second.1)
    ] in
    some_front c.finish.result r.keyspaces.now r.persisted.now loaded way.0 (c.finish.ensures.ok loaded way.0 way.1.trees)

pub returns-clause-parted : goal.returns-clause-parted
returns-clause-parted g c =
    let r : Replay = c.args.self.now in
    let loaded : Forest = forest_of c.args.loaded in
    let start : Progress = record { trees = c.args.loaded; place = 0; least = 0 } in
    let begun : IsUnderway r loaded [] start = nothing_taken r loaded start c.requires.unwritten refl refl refl in
    let way : (front : List Shown) × IsUnderway r loaded front c.if-ids-lt1.progress =
    elim c.if-ids-lt1.branch [
      | in_default w ↦ ([], subst (IsUnderway r loaded []) (sym w.progress-is) begun)
      | in-len1-up+in_ok-replay_sealed+in_ok-replay_file w ↦
          let first = w.in_ok-replay_sealed.ensures.some loaded [] begun in
          let second = w.in_ok-replay_file.ensures.some loaded ([] ++ first.0) first.1 in
          (([] ++ first.0) ++ second.0, subst (IsUnderway r loaded (([] ++ first.0) ++ second.0)) (sym w.progress-is) second.1)
    ] in
    c.finish.ensures.parted loaded way.0 way.1.trees

pub returns-clause-below : goal.returns-clause-below
returns-clause-below g c low =
    let r : Replay = c.args.self.now in
    let loaded : Forest = forest_of c.args.loaded in
    let start : Progress = record { trees = c.args.loaded; place = 0; least = 0 } in
    let begun : IsUnderway r loaded [] start = nothing_taken r loaded start c.requires.unwritten refl refl refl in
    let way : (front : List Shown) × IsUnderway r loaded front c.if-ids-lt1.progress =
    elim c.if-ids-lt1.branch [
      | in_default w ↦ ([], subst (IsUnderway r loaded []) (sym w.progress-is) begun)
      | in-len1-up+in_ok-replay_sealed+in_ok-replay_file w ↦
          let first = w.in_ok-replay_sealed.ensures.some loaded [] begun in
          let second = w.in_ok-replay_file.ensures.some loaded ([] ++ first.0) first.1 in
          (([] ++ first.0) ++ second.0, subst (IsUnderway r loaded (([] ++ first.0) ++ second.0)) (sym w.progress-is) second.1)
    ] in
    now_before c.finish.result r.bound loaded (c.finish.ensures.before loaded way.0 way.1.trees) low
