use Rattle.std.proofs.Common.{IfOk, ℕ, [], refl, arith, subst, sym, ap, ◌≡◌}
use Rattle.fjall_base.specs.Pairs.{Pairs, lookup}
use Rattle.fjall_trees.specs.Tables.{AreReadOn, AreSameTrees, shape_in}
use Rattle.fjall_trees.specs.Views.{forest_of}
use Rattle.fjall_trees.proofs.Same.{same_trees}
use Rattle.fjall_trees.specs.Maps.{pairs_in}
use Rattle.fjall_trees.specs.MapTables.{pairs_with}
use Rattle.fjall_machine.specs.Remembered.{IsLawful, Remembered, instant_in, with_trees}
use Rattle.fjall_machine.proofs.Lawful.{alike, read_is_lawful}
use Rattle.fjall_machine.proofs.Showing.{a_value_shown, none_counted, read_pairs, value_with}
use Rattle.fjall_state.proofs.engine_state.EngineState.get.Goals as goal

pub returns-in-Some-clause-trees : goal.returns-in-Some-clause-trees
returns-in-Some-clause-trees g c = same_trees c.args.self.now.trees

pub returns-then-table_count-eq0-clause-trees : goal.returns-then-table_count-eq0-clause-trees
returns-then-table_count-eq0-clause-trees g c = same_trees c.args.self.now.trees

pub returns-then-table_count-eq0-clause-bare : goal.returns-then-table_count-eq0-clause-bare
returns-then-table_count-eq0-clause-bare g c = λ bare.
    let id = c.args.id in (
      refl,
      refl,
      subst (λ (m : Remembered). IfOk c.get_in_memory.result (λ found. found ≡ lookup (pairs_in id (instant_in c.args.self.now c.args.view) m.trees) c.args.key.now)) c.self.view_is
          (subst (λ (n : ℕ). IfOk c.get_in_memory.result (λ found. found ≡ lookup (pairs_in id n (forest_of c.self.inside.trees)) c.args.key.now)) c.instant_of-instant.ensures
          (a_value_shown id c.instant_of-instant.result (forest_of c.self.inside.trees) c.args.key.now c.get_in_memory.result c.get_in_memory.ensures.found)),
    )

pub returns-then-table_count-eq0-clause-found : goal.returns-then-table_count-eq0-clause-found
returns-then-table_count-eq0-clause-found g c = λ h entries read.
    let id = c.args.id in
    let trees = c.args.self.now.trees in
    let instant = instant_in c.args.self.now c.args.view in
    let count : c.table_count.result ≡ 0 = omega (arith, c.if-table_count-eq0.true) in
    let bare = none_counted (shape_in id (forest_of c.self.inside.trees)).tables c.table_count.result c.table_count.ensures count in
    let none = subst (λ (m : Remembered). (shape_in id m.trees).tables ≡ []) c.self.view_is bare in
    subst (λ (p : Pairs). IfOk c.get_in_memory.result (λ found. found ≡ lookup p c.args.key.now)) (read_pairs (g.D.Disk.meaning c.args.disk.now) entries id instant trees read none)
    (subst (λ (m : Remembered). IfOk c.get_in_memory.result (λ found. found ≡ lookup (pairs_in id instant m.trees) c.args.key.now)) c.self.view_is
    (subst (λ (n : ℕ). IfOk c.get_in_memory.result (λ found. found ≡ lookup (pairs_in id n (forest_of c.self.inside.trees)) c.args.key.now)) c.instant_of-instant.ensures
    (a_value_shown id c.instant_of-instant.result (forest_of c.self.inside.trees) c.args.key.now c.get_in_memory.result c.get_in_memory.ensures.found)))

pub invariant_of-self : goal.invariant_of-self
invariant_of-self g c =
    let old = c.args.self.now in
    let is = subst IsLawful c.self.view_is c.self.invariant in
    let same = subst (λ (m : Remembered). AreSameTrees m.trees (forest_of c.get.new.self)) c.self.view_is c.get.ensures.trees in
    alike (with_trees (forest_of c.get.new.self) old) _ (read_is_lawful (forest_of c.get.new.self) old same is) (ap (λ (m : Remembered). m.keyspaces) c.self.view_is) refl
    (ap (λ (m : Remembered). m.next) c.self.view_is) (ap (λ (m : Remembered). m.tickets) c.self.view_is) (ap (λ (m : Remembered). m.records) c.self.view_is) (ap (λ (m : Remembered). m.next_job) c.self.view_is)

pub returns-clause-found : goal.returns-clause-found
returns-clause-found g c = λ h entries read.
    let id = c.args.id in
    let disk = g.D.Disk.meaning c.args.disk.now in
    let here = subst (λ (m : Remembered). AreReadOn disk m.trees entries) (sym c.self.view_is) read in
    subst (λ (m : Remembered). IfOk c.get.result (λ found. found ≡ lookup (pairs_with entries id (instant_in c.args.self.now c.args.view) m.trees) c.args.key.now)) c.self.view_is
    (subst (λ (n : ℕ). IfOk c.get.result (λ found. found ≡ lookup (pairs_with entries id n (forest_of c.self.inside.trees)) c.args.key.now)) c.instant_of-instant.ensures
    (value_with entries id c.instant_of-instant.result (forest_of c.self.inside.trees) c.args.key.now c.get.result c.get.ensures.none (c.get.ensures.found h entries here)))

pub returns-clause-reads : goal.returns-clause-reads
returns-clause-reads g c = λ h entries read.
    c.get.ensures.reads h entries (subst (λ (m : Remembered). AreReadOn (g.D.Disk.meaning c.args.disk.now) m.trees entries) (sym c.self.view_is) read)
