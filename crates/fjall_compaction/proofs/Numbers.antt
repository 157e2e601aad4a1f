-- The greatest number of the folder is the ingestion's.
use Rattle.std.proofs.Common.{◌≡◌, ℕ, ◌+◌, ◌≤◌, ◌==◌, max, Bool, true, false, cond, List, [], ◌∷◌, ◌++◌, Option, Some, None, refl, sym, ◌∙◌, ap, subst, arith}
use Rattle.std.specs.FinMap.{get}
use Rattle.std.proofs.lemmas.Bool.{lt-ltb}
use Rattle.fjall_meta.specs.Contents.{is_beyond}
use Rattle.fjall_compaction.specs.Flushes.{raised}
use Rattle.fjall_compaction.proofs.SameNumber.{each_counts, past_after}
use Rattle.fjall_manifest.specs.Homes.{Home}
use Rattle.fjall_jobs.specs.declared.made_table.MadeTable.{MadeTable}
use Rattle.fjall_journal.specs.Batches.{Written}
use Rattle.fjall_meta.specs.declared.living.LivingKeyspace.{LivingKeyspace}
use Rattle.fjall_recovery.specs.Folders.{number_of_contents, past, past_record, past_records}
use Rattle.fjall_recovery.specs.Halves.{Tree}
use Rattle.fjall_recovery.specs.Homes.{last_in, lasts}
use Rattle.fjall_recovery.specs.Places.{Journaling, contents_with}
use Rattle.fjall_table.specs.Blocks.{Entry}
use Rattle.fjall_meta.proofs.Ids.{living_has}
use Rattle.fjall_meta.proofs.Slots.{get_put, same_id}
use Rattle.fjall_reading.specs.Ingestions.{KeyOp}
use Rattle.fjall_compaction.specs.Commands.{MayCome}
use Rattle.fjall_compaction.specs.Ingests.{as_flush, home_with, tree_with}
use Rattle.fjall_compaction.proofs.Silence.{itself}
use Rattle.fjall_compaction.proofs.Storing as Storing

module _ (j : Journaling) (t : Tree) (id number : ℕ) (items : List KeyOp) (tables : List MadeTable) (h : Home) (versions : List Entry) (may : MayCome j t id number h versions) where
  abbrev next : Tree
  next = tree_with id number items tables h versions t

  at_id : get next.homes id ≡ Some (home_with number tables h)
  at_id = get_put t.homes id (home_with number tables h) id ∙ ap (λ b. cond b (Some (home_with number tables h)) (get t.homes id)) (itself id)

  past_own : number + 1 ≤ past_record (last_in (get next.homes id))
  past_own = subst (λ (o : Option Home). number + 1 ≤ past_record (last_in o)) (sym at_id) (let is = past_after (as_flush number tables) h in omega (arith, is))

  past_each : (other : ℕ) → past_record (last_in (get next.homes other)) ≤ max (past_record (last_in (get t.homes other))) (number + 1)
  past_each other = subst (λ (o : Option Home). past_record (last_in o) ≤ max (past_record (last_in (get t.homes other))) (number + 1)) (sym (get_put t.homes id (home_with number tables h)
      other)) (by (other == id) refl)
    where
      by : (b : Bool) → (other == id) ≡ b → past_record (last_in (cond b (Some (home_with number tables h)) (get t.homes other))) ≤ max (past_record (last_in (get t.homes other))) (number + 1)
      by true is =
          subst (λ i. past_record (last_in (Some (home_with number tables h))) ≤ max (past_record (last_in (get t.homes i))) (number + 1)) (sym (same_id other id is))
          (subst (λ (o : Option Home). past_record (last_in (Some (home_with number tables h))) ≤ max (past_record (last_in o)) (number + 1)) (sym may.at.home)
          (let is = past_after (as_flush number tables) h in omega (arith, is)))
      by false is = omega arith

  past_all : (living : List LivingKeyspace) → past_records (lasts living next.homes) ≤ max (past_records (lasts living t.homes)) (number + 1)
  past_all [] = omega arith
  past_all (k ∷ living) =
      let here = past_each k.id in
      let rest = past_all living in
      omega (arith, here, rest)

  reached : number + 1 ≤ past_records (lasts t.keyspaces.living next.homes)
  reached =
      let lives = Storing.lives j t id number items tables h versions may in
      let counted = living_has (λ i. past_record (last_in (get next.homes i)) ≤ past_records (lasts t.keyspaces.living next.homes)) t.keyspaces.living id lives.0 lives.1
      (each_counts next.homes t.keyspaces.living) in
      let own = past_own in
      omega (arith, counted, own)

  pub own_number : (behind rest : List Written) → behind ++ rest ≡ j.later → number_of_contents (contents_with j next behind) ≡ number + 1
  own_number behind rest is =
      let least = Storing.least j t id number items tables h versions may behind rest is in
      let above = may.above in
      let most = past_all t.keyspaces.living in
      let some = reached in
      omega (arith, least, above, most, some)

-- ---- its record

raised_above : (other : Option ℕ) (number : ℕ) → past other ≤ number → Some (raised other number) ≡ Some number
raised_above None number above = refl
raised_above (Some n) number above = let same : max n number ≡ number = omega (arith, above) in ap (λ m. Some m) same

module _ (j : Journaling) (t : Tree) (id number : ℕ) (tables : List MadeTable) (h : Home) (versions : List Entry) (may : MayCome j t id number h versions) where
  -- no number of the record reaches the ingestion's
  was_below : past_record h.last ≤ number
  was_below =
      let lives = Storing.lives j t id number [] tables h versions may in
      let counted = living_has (λ i. past_record (last_in (get t.homes i)) ≤ past_records (lasts t.keyspaces.living t.homes)) t.keyspaces.living id lives.0 lives.1
      (each_counts t.homes t.keyspaces.living) in
      let own : past_record (last_in (Some h)) ≤ past_records (lasts t.keyspaces.living t.homes) =
      subst (λ (o : Option Home). past_record (last_in o) ≤ past_records (lasts t.keyspaces.living t.homes)) may.at.home counted in
      let above = may.above in
      omega (arith, own, above)

  pub both_numbers : (Some (raised h.last.persisted number) ≡ Some number) × (Some (raised h.last.highest number) ≡ Some number)
  both_numbers =
      let below = was_below in
      (raised_above h.last.persisted number (omega (arith, below)), raised_above h.last.highest number (omega (arith, below)))

  -- which is beyond the persisted one
  later : is_beyond h.last.persisted number ≡ true
  later = of h.last.persisted (let below = was_below in omega (arith, below))
    where
      of : (p : Option ℕ) → past p ≤ number → is_beyond p number ≡ true
      of None le = refl
      of (Some n) le = lt-ltb n number (omega (arith, le))

pub is_later : (j : Journaling) (t : Tree) (id number : ℕ) (h : Home) (versions : List Entry) → MayCome j t id number h versions → is_beyond h.last.persisted number ≡ true
is_later j t id number h versions may = later j t id number [] h versions may
