use Rattle.std.proofs.Common.{◌≡◌, ◌⊎◌, ℕ, All, Option, [], refl, sym, ◌∙◌, ap, subst, get_or, arith}
use Rattle.std.specs.Prelude.{IfSome, IsSome, IsTrue}
use Rattle.std.proofs.lemmas.Bool.{true≢false}
use Rattle.fjall_base.specs.Disk.{DiskState, Meaning, Took, state_in}
use Rattle.fjall_journal.proofs.Writing.{took_none}
use Rattle.fjall_files.specs.declared.own.OwnFiles.{OwnFiles}
use Rattle.fjall_files.specs.Own.{AreOwnFiles, HoldsOnlyOwn}
use Rattle.fjall_repair.specs.Sweeps.{FindsHomes, HasAll, IsOwnHome, IsUnnamedHome, KeyspaceLives}
use Rattle.fjall_repair.proofs.Listings.{foreign_passed, home_found, home_unnamed, homes_all, named_passed}
use Rattle.fjall_repair.proofs.SweepServed.{has_all_of, have_all_more, own_home}
use Rattle.fjall_repair.proofs.plan.list_homes.Goals as goal
use Rattle.fjall_repair.proofs.plan.list_homes.Goals.{then-not-is_named+in_ok-home+in-Some+in_ok-push, then-not-is_named+in_ok-home+in_default, else-not-is_named}

pub loop-id-preserved : goal.loop-id-preserved
loop-id-preserved g c = elim c.if-not-is_named.branch [
  | then-not-is_named+in_ok-home+in-Some+in_ok-push w ↦
      let m : _ → Meaning = g.D.Disk.meaning in
      let state : DiskState = state_in (m c.args.disk.now) in
      let now : DiskState = state_in (m c.loop-id.disk) in
      let so_far = c.loop-id.invariant in
      let one = w.in_ok-home.ensures in
      let id : ℕ = get_or c.args.ids.now c.loop-id.id-index 0 in
      let home : OwnFiles = w.in-Some.home in
      let unnamed : (id ≡ 0) ⊎ KeyspaceLives c.args.living.now id → ⊥ = λ named. true≢false (sym (c.is_named.ensures.1 named) ∙ w.if-not-is_named.true) in
      let found : IsTrue g.D.Disk.honest → AreOwnFiles now id home = λ honest. subst (λ (o : Option OwnFiles). IfSome o (AreOwnFiles now id)) w.in-Some.is (one.own honest) in
      let holds : IsTrue g.D.Disk.honest → HoldsOnlyOwn now id = λ honest. (one.exact honest).0 (subst (λ (o : Option OwnFiles). IsSome o) (sym w.in-Some.is) refl) in
      let new_is = ap (λ v. v.items) w.homes-is ∙ w.in_ok-push.ensures.items in
      let faults = so_far.later in let more = one.cause.later in let disk_is = ap (λ d. (m d).faults) w.disk-is in
      record {
        unnamed = λ honest. home_unnamed state now (so_far.same honest).state c.args.living.now c.args.ids.now c.loop-id.id-index 0 id refl c.loop-id-test.true
            c.loop-id.homes.items c.if-not-is_named.homes.items home new_is unnamed one.fits (found honest) (so_far.unnamed honest);
        found = λ honest. home_found state now (so_far.same honest).state c.args.living.now c.args.ids.now c.loop-id.id-index 0 id refl c.loop-id-test.true
            c.loop-id.homes.items c.if-not-is_named.homes.items home new_is unnamed (found honest) (so_far.found honest);
        each = λ honest. have_all_more (HasAll state) c.loop-id.homes.items c.if-not-is_named.homes.items home new_is (has_all_of state now (so_far.same honest).state id home (found honest)) (so_far.each honest);
        spares = λ honest. have_all_more (IsOwnHome state) c.loop-id.homes.items c.if-not-is_named.homes.items home new_is (own_home state now (so_far.same honest).state id home (found honest) (holds honest)) (so_far.spares honest);
        same = λ honest. subst (λ d. Took (m c.args.disk.now) (m d) []) (sym w.disk-is) (took_none _ _ _ [] (so_far.same honest) (one.same honest));
        served = λ honest. ap (λ d. (m d).misuses) w.disk-is ∙ one.served honest ∙ so_far.served honest;
        later = omega (arith, faults, more, disk_is);
      }
  | then-not-is_named+in_ok-home+in_default w ↦
      let m : _ → Meaning = g.D.Disk.meaning in
      let state : DiskState = state_in (m c.args.disk.now) in
      let now : DiskState = state_in (m c.loop-id.disk) in
      let so_far = c.loop-id.invariant in
      let one = w.in_ok-home.ensures in
      let id : ℕ = get_or c.args.ids.now c.loop-id.id-index 0 in
      let foreign : IsTrue g.D.Disk.honest → HoldsOnlyOwn now id → ⊥ = λ honest holds. true≢false (sym (subst (λ (o : Option OwnFiles). IsSome o) w.in_default.is ((one.exact honest).1 holds))) in
      let homes_is = ap (λ v. v.items) w.homes-is in
      let faults = so_far.later in let more = one.cause.later in let disk_is = ap (λ d. (m d).faults) w.disk-is in
      record {
        unnamed = λ honest. subst (All (IsUnnamedHome c.args.living.now)) (sym homes_is) (so_far.unnamed honest);
        found = λ honest. subst (FindsHomes state c.args.living.now _) (sym homes_is) (foreign_passed state now (so_far.same honest).state c.args.living.now c.args.ids.now c.loop-id.id-index 0 id refl c.loop-id-test.true
            c.loop-id.homes.items (foreign honest) (so_far.found honest));
        each = λ honest. subst (All (HasAll state)) (sym homes_is) (so_far.each honest);
        spares = λ honest. subst (All (IsOwnHome state)) (sym homes_is) (so_far.spares honest);
        same = λ honest. subst (λ d. Took (m c.args.disk.now) (m d) []) (sym w.disk-is) (took_none _ _ _ [] (so_far.same honest) (one.same honest));
        served = λ honest. ap (λ d. (m d).misuses) w.disk-is ∙ one.served honest ∙ so_far.served honest;
        later = omega (arith, faults, more, disk_is);
      }
  | else-not-is_named w ↦
      let m : _ → Meaning = g.D.Disk.meaning in
      let state : DiskState = state_in (m c.args.disk.now) in
      let now : DiskState = state_in (m c.loop-id.disk) in
      let so_far = c.loop-id.invariant in
      let homes_is = ap (λ v. v.items) w.homes-is in
      let faults = so_far.later in let disk_is = ap (λ d. (m d).faults) w.disk-is in
      record {
        unnamed = λ honest. subst (All (IsUnnamedHome c.args.living.now)) (sym homes_is) (so_far.unnamed honest);
        found = λ honest. subst (FindsHomes state c.args.living.now _) (sym homes_is) (named_passed state now (so_far.same honest).state c.args.living.now c.args.ids.now c.loop-id.id-index 0 (get_or c.args.ids.now c.loop-id.id-index 0) refl c.loop-id-test.true
            c.loop-id.homes.items (c.is_named.ensures.0 w.if-not-is_named.false) (so_far.found honest));
        each = λ honest. subst (All (HasAll state)) (sym homes_is) (so_far.each honest);
        spares = λ honest. subst (All (IsOwnHome state)) (sym homes_is) (so_far.spares honest);
        same = λ honest. subst (λ d. Took (m c.args.disk.now) (m d) []) (sym w.disk-is) (so_far.same honest);
        served = λ honest. ap (λ d. (m d).misuses) w.disk-is ∙ so_far.served honest;
        later = omega (arith, faults, disk_is);
      }
]

pub returns-clause-found : goal.returns-clause-found
returns-clause-found g c honest =
    homes_all (state_in (g.D.Disk.meaning c.args.disk.now)) c.args.living.now c.args.ids.now c.loop-id.id-index _ c.loop-id-test.false (c.loop-id.invariant.found honest)
