use Rattle.std.proofs.Common.{◌≡◌, ◌∙◌, max, unwrap_or, ap, sym, subst}
use Rattle.std.specs.Prelude.{Some}
use Rattle.std.specs.BTreeMap.{is_at}
use Rattle.std.specs.Map.{set_value}
use Rattle.std.specs.Ordering.{nat_cmp}
use Rattle.fjall_files.specs.Places.{HasPlace, JournalPlaces, raising, told}
use Rattle.fjall_files.proofs.Placing.{lacking, told_raised}
use Rattle.fjall_files.specs.declared.active_watermarks.ActiveWatermarks.TheInside.{Inside}
use Rattle.fjall_files.proofs.active_watermarks.ActiveWatermarks.raise.Goals.{in-Some, in_default}
use Rattle.fjall_files.proofs.active_watermarks.ActiveWatermarks.raise.Goals as goal

pub returns-clause-raised : goal.returns-clause-raised
returns-clause-raised c =
    let id = c.args.keyspace_id in
    let places = c.self.inside.lsns.entries in
    elim c.match-get_mut.branch [
      | in-Some w ↦
          let old = w.in-Some.place.now in
          let value : w.max.result ≡ max (unwrap_or old 0) c.args.lsn = w.max.ensures ∙ ap (λ n. max n c.args.lsn) w.unwrap_or.ensures in
          ap (λ (i : Inside). told i.lsns.entries) w.self-inside-is
          ∙ ap told (c.get_mut.follows.holds (Some w.max.result)).0
          ∙ ap (λ n. told (set_value (is_at (nat_cmp id)) places (Some n))) value
          ∙ told_raised id c.args.lsn old places c.self.invariant (sym w.in-Some.ensures.value)
          ∙ ap (λ (l : JournalPlaces). raising c.args.lsn id (told l)) c.self.view_is
      | in_default w ↦ lacking _ w.in_default.ensures.value (subst (λ (l : JournalPlaces). HasPlace l id) (sym c.self.view_is) c.requires.place)
    ]
