-- proofs/engine/Engine/put_merge/Answers.antt
use Rattle.std.proofs.Common.{◌≡◌, IsTrue, Err, Ok, true, refl, subst, sym}
use Rattle.fjall_jobs.specs.Made.{merged_task}
use Rattle.fjall_tree.specs.Jobs.{is_merge_out}
use Rattle.fjall_trees.specs.Tables.{shape_in}
use Rattle.fjall_machine.specs.Machine.{is_living}
use Rattle.fjall_machine.specs.Merging.{keyspace_of}
use Rattle.fjall_engine.specs.Holding.{Held}
use Rattle.fjall_engine.specs.CallParts.{PutsMerge}
use Rattle.fjall_engine.specs.Standing.{store_in}
use Rattle.fjall_engine.proofs.PutMerges.{put_failed}
use Rattle.fjall_engine.proofs.engine.Engine.put_merge.Goals as goal

pub returns-in-Err : goal.returns-in-Err
returns-in-Err g c =
    let m = g.D.Disk.meaning in
    let made = c.args.made.now in
    let error = c.in-Err.error in
    let old : Held = record { disk = m c.self.inside.disk; journal = c.self.inside.journal; catalog = c.self.inside.catalog; memory = c.self.inside.memory } in
    let mid : Held = record { disk = m c.finish_merge.new.disk; journal = c.self.inside.journal; catalog = c.self.inside.catalog; memory = c.finish_merge.new.self } in
    let lives = subst (λ (h : Held). is_living (store_in h) (keyspace_of made) ≡ true) (sym c.self.view_is) c.requires.living in
    let out = subst (λ (h : Held). is_merge_out (merged_task made).id (shape_in (keyspace_of made) h.memory.trees).merge ≡ true) (sym c.self.view_is) c.requires.out in
    record {
      puts = subst (λ (h : Held). PutsMerge (IsTrue g.D.Disk.honest) h made (Err error) c.poison_by.new.self) c.self.view_is
          (put_failed (IsTrue g.D.Disk.honest) old mid c.poison_by.new.self made error
          (λ i. record { disk = mid.disk; journal = old.journal; catalog = old.catalog; memory = c.in-Err.ensures.unchanged i }) c.poison_by.ensures lives out c.in-Err.ensures.cause
          c.in-Err.ensures.untouched
          (λ h. record {
            within = c.in-Err.ensures.within h;
            leaves = c.in-Err.ensures.any_moment h;
            lies = λ e. let bad : ⊥ = cc in absurd bad;
            beside = c.in-Err.ensures.beside h;
            fits = λ e. let bad : ⊥ = cc in absurd bad;
            files = λ e. let bad : ⊥ = cc in absurd bad;
            served = c.in-Err.ensures.served h;
            kinds = c.in-Err.ensures.kinds h;
          }));
    }

pub returns-in-Ok : goal.returns-in-Ok
returns-in-Ok g c =
    let m = g.D.Disk.meaning in
    let made = c.args.made.now in
    let old : Held = record { disk = m c.self.inside.disk; journal = c.self.inside.journal; catalog = c.self.inside.catalog; memory = c.self.inside.memory } in
    let new : Held = record { disk = m c.finish_merge.new.disk; journal = c.self.inside.journal; catalog = c.self.inside.catalog; memory = c.finish_merge.new.self } in
    record {
      puts = subst (λ (h : Held). PutsMerge (IsTrue g.D.Disk.honest) h made (Ok c.in-Ok.taken) new) c.self.view_is (
        c.in-Ok.ensures.ok,
        record { memory_is = refl; catalog = refl; journal = refl; faults = c.in-Ok.ensures.later },
        c.in-Ok.ensures.taken,
        λ h. record {
          within = c.in-Ok.ensures.within h;
          leaves = c.in-Ok.ensures.any_moment h;
          lies = λ e. c.in-Ok.ensures.lies h;
          beside = c.in-Ok.ensures.beside h;
          fits = λ e. c.in-Ok.ensures.fits;
          files = λ e. c.in-Ok.ensures.files h;
          served = c.in-Ok.ensures.served h;
          kinds = c.in-Ok.ensures.kinds h;
        },
      );
    }
