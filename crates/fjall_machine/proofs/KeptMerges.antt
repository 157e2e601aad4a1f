-- What a step of the machine keeps of a merge that was begun with a task.
use Rattle.std.proofs.Common.{◌≡◌, ℕ, ◌<◌, ◌≤◌, ◌^◌, ◌==◌, ◌++◌, Bool, true, false, cond, if◌then◌else◌, List, [], ◌∷◌, drop, Option, None, Some, refl, sym, ap, subst, arith}
use Rattle.std.proofs.lemmas.Bool.{true≢false}
use Rattle.fjall_base.specs.Store.{Create, Delete}
use Rattle.fjall_base.specs.Pairs.{Bytes}
use Rattle.fjall_history.specs.Histories.{History, grown, latest, number, plain}
use Rattle.fjall_compaction.specs.Ingests.{ingestion}
use Rattle.fjall_jobs.specs.Tasks.{Task}
use Rattle.fjall_journal.specs.Changes.{Change, Emptied, Items, command_of}
use Rattle.fjall_tree.specs.Ingestions.{ingested}
use Rattle.fjall_tree.specs.Jobs.{IsMerging, flush_finished, merge_begun, merge_dropped, merge_finished}
use Rattle.fjall_tree.specs.Trees.{Flushing, Merging, Shape}
use Rattle.fjall_table.specs.Blocks.{Entry}
use Rattle.fjall_trees.specs.Forests.{Forest, IsForest, altered_at, without}
use Rattle.fjall_trees.specs.Tables.{entries_with, shape_in}
use Rattle.fjall_trees.proofs.Alike.{same_forest}
use Rattle.fjall_meta.specs.Replays.{option_pairs}
use Rattle.fjall_meta.proofs.Slots.{same_id}
use Rattle.fjall_reading.specs.Ingestions.{KeyOp}
use Rattle.fjall_machine.specs.Shapes.{Persistence}
use Rattle.fjall_machine.specs.Machine.{EvictsSome, Flushed, FlushesIn, Ingests, IsPoisoned, Merged, MergesIn, Parts, State, accepted, created, deleted, flush_gone, flush_out, is_last, is_long, journal_rotated, journal_synced, merge_gone, merge_out, options_in, present, released, rotated, target_size, with_sealed, parts_written_out}
use Rattle.fjall_machine.specs.Remembered.{MemoryStandsFor, Remembered}
use Rattle.fjall_machine.proofs.Lawful.{itself}
use Rattle.fjall_machine.proofs.MergesStayOut.{IsAsBegun, begun_behind, begun_beside_dropped, begun_beside_flush, begun_changed, begun_dropped, begun_planted, begun_rotated, begun_without, merging_flushed_at, merging_ingested_at}
use Rattle.fjall_machine.proofs.SameTrees.{back, memory_in}
use Rattle.fjall_machine.proofs.StoreSteps.{WentOn, after_growth, as_it_was, went_further}
use Rattle.fjall_machine.proofs.TakenIngestions.{ends_before}

-- No number of a job is given anew, the store went on, and the merge is out as it was begun, or it is out no more.
pub record Keeps (task : Task) (old new : State) : Type 0 where
  pub jobs : old.next_job ≤ new.next_job
  pub store : WentOn task.keyspace (present old) (present new)
  pub out : task.id < old.next_job → IsAsBegun task old.parts.trees (old.parts.entries task.keyspace) → IsAsBegun task new.parts.trees (new.parts.entries task.keyspace)

-- What of a state a step looks at that it ingests by: its trees are trees, and numbers end at 2^63, none below what memory holds.
pub record IsSound (s : State) : Type 0 where
  pub forest : IsForest s.parts.trees
  pub small : number s.history ≤ 2 ^ 63
  pub until : (id : ℕ) → (shape_in id s.parts.trees).memory.active.until ≤ number s.history

pub sound : (m : Remembered) (table : ℕ) (s : State) → MemoryStandsFor m table s → IsSound s
sound m table s stands =
    let most = stands.lawful.small in
    let n = stands.number in
    record {
      forest = same_forest m.trees s.parts.trees (back s.parts.trees m.trees stands.trees) stands.lawful.forest;
      small = omega (arith, most, n);
      until = λ id.
          let ends = ends_before id m.next m.trees stands.lawful.below in
          let same : (shape_in id m.trees).memory.active.until ≡ (shape_in id s.parts.trees).memory.active.until = λ i. (memory_in id s.parts.trees m.trees stands.trees i).active.until in
          omega (arith, ends, n, same);
    }

module _ (task : Task) where
  -- ---- what leaves the history, or lets it grow

  pub same : (s t : State) → t ≡ s → Keeps task s t
  same s t is = subst (Keeps task s) (sym is) (record { jobs = omega arith; store = as_it_was task.keyspace (present s); out = λ given begun. begun })

  pub further : (a b c : State) → Keeps task a b → Keeps task b c → Keeps task a c
  further a b c one two =
      let le = one.jobs in
      let more = two.jobs in
      record {
        jobs = omega (arith, le, more);
        store = went_further task.keyspace (present a) (present b) (present c) one.store two.store;
        out = λ given begun. two.out (omega (arith, given, le)) (one.out given begun);
      }

  -- where the trees, and what their tables hold, are the same
  pub alike : (s t : State) → t.history ≡ s.history → t.next_job ≡ s.next_job → t.parts.trees ≡ s.parts.trees → t.parts.entries ≡ s.parts.entries → Keeps task s t
  alike s t history job trees entries = record {
    jobs = omega (arith, job);
    store = subst (λ (h : History). WentOn task.keyspace (present s) (latest h)) (sym history) (as_it_was task.keyspace (present s));
    out = λ given begun. subst (λ (x : Forest × (ℕ → List (List Entry))). IsAsBegun task x.0 (x.1 task.keyspace)) (sym (λ i. (trees i, entries i))) begun;
  }

  pub poisoned : (s t : State) → IsPoisoned s t → Keeps task s t
  poisoned s t is = alike s t (ap (λ (u : State). u.history) is.is) (ap (λ (u : State). u.next_job) is.is) is.trees is.entries

  pub synced : (s : State) → Keeps task s (journal_synced s)
  synced s = by (is_long s.parts)
    where
      by : (b : Bool) → Keeps task s (if b then journal_rotated s else record s { parts = parts_written_out s.parts 0 })
      by true = alike s (journal_rotated s) refl refl refl refl
      by false = alike s (record s { parts = parts_written_out s.parts 0 }) refl refl refl refl

  pub some_gone : (s t : State) → EvictsSome s t → Keeps task s t
  some_gone s t (gone, left, all, may, is) = further s (with_sealed left s) t (alike s (with_sealed left s) refl refl refl refl) (same (with_sealed left s) t is)

  module _ (s : State) where
    unturned : WentOn task.keyspace (present s) (present s)
    unturned = as_it_was task.keyspace (present s)

    -- ---- changes, and what comes and goes

    pub changes : (change : Change) (how : Persistence) → Keeps task s (accepted s change how)
    changes (Items []) how = same s s refl
    changes (Items (item ∷ items)) how = record {
      jobs = omega arith;
      store = after_growth task.keyspace s.history (command_of (Items (item ∷ items)));
      out = λ given. begun_changed task s.parts.trees (s.parts.entries task.keyspace) (number s.history) (Items (item ∷ items));
    }
    changes (Emptied id) how = record {
      jobs = omega arith;
      store = after_growth task.keyspace s.history (command_of (Emptied id));
      out = λ given. begun_changed task s.parts.trees (s.parts.entries task.keyspace) (number s.history) (Emptied id);
    }

    pub creates : (name : Bytes) (options : List Bytes) → Keeps task s (created s name options)
    creates name options = record {
      jobs = omega arith;
      store = after_growth task.keyspace s.history (Create name (option_pairs options));
      out = λ given. begun_planted task s.parts.trees (s.parts.entries task.keyspace) (present s).next (number s.history);
    }

    pub deletes : (id : ℕ) (living : Bool) → Keeps task s (if living then deleted s id else s)
    deletes id true = record { jobs = omega arith; store = after_growth task.keyspace s.history (Delete id); out = λ given begun. begun }
    deletes id false = same s s refl

    pub releases : (id : ℕ) → Keeps task s (released s id)
    releases id = record { jobs = omega arith; store = unturned; out = λ given. by (is_last s id) }
      where
        by : (last : Bool) → IsAsBegun task s.parts.trees (s.parts.entries task.keyspace) → IsAsBegun task (if last then without id s.parts.trees else s.parts.trees) (s.parts.entries task.keyspace)
        by true begun = begun_dropped task s.parts.trees (s.parts.entries task.keyspace) id begun
        by false begun = begun

    pub rotates_one : (id : ℕ) (seals : Bool) → Keeps task s (if seals then rotated s id else s)
    rotates_one id true = record { jobs = omega arith; store = unturned; out = λ given. begun_rotated task s.parts.trees (s.parts.entries task.keyspace) id }
    rotates_one id false = same s s refl

    -- ---- jobs

    pub flush_begins : (id : ℕ) → Keeps task s (flush_out s id)
    flush_begins id = record {
      jobs = omega arith;
      store = unturned;
      out = λ given. begun_beside_flush task s.parts.trees (s.parts.entries task.keyspace) id s.next_job s.tickets.watermark;
    }

    pub flush_goes : (id : ℕ) → Keeps task s (flush_gone s id)
    flush_goes id = record { jobs = omega arith; store = unturned; out = λ given. begun_beside_dropped task s.parts.trees (s.parts.entries task.keyspace) id }

    -- one that begins now has another number
    pub merge_begins : (id : ℕ) → Keeps task s (merge_out s id)
    merge_begins id = record {
      jobs = omega arith;
      store = unturned;
      out = λ given. begun_without task s.parts.trees (s.parts.entries task.keyspace) id (merge_begun s.next_job s.tickets.watermark) (s.parts.entries task.keyspace) (λ other. refl)
          (λ shape out. let at : task.id ≡ s.next_job = same_id task.id s.next_job out in absurd (omega (arith, given, at)));
    }

    pub merge_goes : (id : ℕ) → Keeps task s (merge_gone s id)
    merge_goes id = record {
      jobs = omega arith;
      store = unturned;
      out = λ given. begun_without task s.parts.trees (s.parts.entries task.keyspace) id merge_dropped (s.parts.entries task.keyspace) (λ other. refl) (λ shape none. true≢false (sym none));
    }

    -- what one keyspace's tables hold is nothing to others
    others_hold : (id : ℕ) (new : List (List Entry)) → (task.keyspace == id) ≡ false → entries_with id new s.parts.entries task.keyspace ≡ s.parts.entries task.keyspace
    others_hold id new e = ap (λ (b : Bool). cond b new (s.parts.entries task.keyspace)) e

    pub merge_finishes : (id : ℕ) (parts : Parts) → Merged s id parts → (done : ℕ) → Keeps task s (record s { merges_done = done; parts = parts })
    merge_finishes id parts merged done = record { jobs = omega arith; store = unturned; out = λ given. by (shape_in id s.parts.trees).merge merged }
      where
        by : (o : Option Merging) → MergesIn o (target_size (options_in (present s) id)) s.parts id parts → IsAsBegun task s.parts.trees (s.parts.entries task.keyspace) → IsAsBegun task parts.trees (parts.entries task.keyspace)
        by None bad = absurd bad
        by (Some out) is =
            let lists = is.made.lists ++ drop out.tables (s.parts.entries id) in
            subst (λ (p : Parts). IsAsBegun task s.parts.trees (s.parts.entries task.keyspace) → IsAsBegun task p.trees (p.entries task.keyspace)) (sym is.is)
            (begun_without task s.parts.trees (s.parts.entries task.keyspace) id (merge_finished is.readers out) (entries_with id lists s.parts.entries task.keyspace) (others_hold id lists) (λ shape none. true≢false (sym none)))

    -- where what came in stands behind the tables of its keyspace
    comes_behind : (id : ℕ) (change : Shape → Shape) (more : List (List Entry)) → (IsMerging (shape_in id s.parts.trees) (s.parts.entries id) task → IsMerging (shape_in id (altered_at id change s.parts.trees)) (s.parts.entries id ++ more) task)
        → (task.keyspace == id) ≡ true → IsMerging (shape_in task.keyspace s.parts.trees) (s.parts.entries task.keyspace) task
        → IsMerging (shape_in task.keyspace (altered_at id change s.parts.trees)) (entries_with id (s.parts.entries id ++ more) s.parts.entries task.keyspace) task
    comes_behind id change more keeps e =
        subst (λ (q : ℕ). IsMerging (shape_in q s.parts.trees) (s.parts.entries q) task → IsMerging (shape_in q (altered_at id change s.parts.trees)) (entries_with id (s.parts.entries id ++ more) s.parts.entries q) task)
        (sym (same_id task.keyspace id e))
        (λ is. subst (λ (b : Bool). IsMerging (shape_in id (altered_at id change s.parts.trees)) (cond b (s.parts.entries id ++ more) (s.parts.entries id)) task) (sym (itself id)) (keeps is))

    pub flush_finishes : IsForest s.parts.trees → (id : ℕ) (parts : Parts) → Flushed s.parts id parts → Keeps task s (record s { parts = parts })
    flush_finishes forest id parts flushed = record { jobs = omega arith; store = unturned; out = λ given. by (shape_in id s.parts.trees).flush flushed }
      where
        by : (o : Option Flushing) → FlushesIn o s.parts id parts → IsAsBegun task s.parts.trees (s.parts.entries task.keyspace) → IsAsBegun task parts.trees (parts.entries task.keyspace)
        by None bad = absurd bad
        by (Some out) is =
            let lists = is.made.lists in
            subst (λ (p : Parts). IsAsBegun task s.parts.trees (s.parts.entries task.keyspace) → IsAsBegun task p.trees (p.entries task.keyspace)) (sym is.is)
            (begun_behind task s.parts.trees (s.parts.entries task.keyspace) id (flush_finished is.readers out) (entries_with id (s.parts.entries id ++ lists) s.parts.entries task.keyspace)
            (others_hold id (s.parts.entries id ++ lists)) (λ shape. refl)
            (comes_behind id (flush_finished is.readers out) lists (λ m. merging_flushed_at id s.parts.trees forest out is.tables _ is.made is.readers (s.parts.entries id) task m)))

    pub ingests : IsSound s → (id : ℕ) (items : List KeyOp) (t : State) → Ingests s id items t → Keeps task s t
    ingests may id items t is =
        let n = number s.history in
        let lists = is.makes.flushed.lists ++ is.makes.are.0 in
        let new : State = record s {
          history = grown s.history (plain (ingestion id items));
          parts = record s.parts { trees = altered_at id (ingested n is.readers) s.parts.trees; entries = entries_with id (s.parts.entries id ++ lists) s.parts.entries };
        } in
        let keeps : Keeps task s new = record {
          jobs = omega arith;
          store = after_growth task.keyspace s.history (ingestion id items);
          out = λ given. begun_behind task s.parts.trees (s.parts.entries task.keyspace) id (ingested n is.readers) (entries_with id (s.parts.entries id ++ lists) s.parts.entries task.keyspace)
              (others_hold id (s.parts.entries id ++ lists)) (λ shape. refl)
              (comes_behind id (ingested n is.readers) lists
              (λ m. merging_ingested_at id s.parts.trees may.forest s.tickets.watermark n may.small (may.until id) items (s.parts.records id) is.flushes is.made is.readers is.makes (s.parts.entries id) task m));
        } in
        further s new t keeps
        (alike new t (ap (λ (u : State). u.history) is.is) (ap (λ (u : State). u.next_job) is.is) (ap (λ (u : State). u.parts.trees) is.is) (ap (λ (u : State). u.parts.entries) is.is))
