use Rattle.std.proofs.Common.{Bool, true, false, true≢false, List, Result, Ok, Err, Vec, Global}
use Rattle.std.specs.Prelude.{IfOk, IsFalse}
use Rattle.fjall_base.specs.Store.{Store}
use Rattle.fjall_base.specs.declared.error.Error.{Error}
use Rattle.fjall_consistency.specs.declared.life.Life.{Life}
use Rattle.fjall_consistency.specs.declared.life.Told.{Told}
use Rattle.fjall_consistency.specs.Consistency.{AreLives, RunsOut, no_store}
use Rattle.fjall_wrong_stories.specs.Stories as stories
use Rattle.fjall_wrong_stories.specs.Stories.{Never, Story}
use Rattle.fjall_wrong_stories.proofs.Refuted.{no_closed_life_loses, no_deleted_keyspace_returns, no_half_batch, no_later_call_alone, no_living_keyspace_is_unknown, no_opening_forgets}
use Rattle.fjall_wrong_stories.proofs.Refuted.{no_opening_is_refused, no_other_value, no_refused_call_is_found, no_refused_call_is_seen, no_snapshot_moves, no_sync_is_lost, no_value_from_nowhere}
use Rattle.fjall_wrong_stories.proofs.Refuted.{no_value_of_another_key, no_write_skew}
use Rattle.fjall_wrong_stories.proofs.AnyLife.{no_deleted_keyspace_is_written, no_fault_clears_a_deleted_keyspace, no_fault_ingests_out_of_order, no_let_go_life_closes, no_two_writers, no_unknown_keyspace_is_read, no_write_into_no_keyspace, no_write_without_a_key}
use Rattle.fjall_wrong_stories.proofs.Faults.{no_fault_shifts_ids, no_write_behind_a_fault}
use Rattle.fjall_wrong_stories.proofs.told.told_truly.Goals as goal

-- what is told by lives that begin with no store
abbrev AreTold : Bool → List Life → Result (Vec (Result Told Error) Global) Error → Type 0
AreTold wild lives result = IfOk result (λ told. (end : Store) × AreLives wild no_store lives told.items end)

-- no story that never is
none : (wild : Bool) (story : Story) → Never story → (lives : List Life) (result : Result (Vec (Result Told Error) Global) Error) → AreTold wild lives result → IfOk result (λ told. story lives told.items → ⊥)
none wild story never lives (Ok told) are = never wild lives told.items are.0 are.1
none wild story never lives (Err error) are = tt

-- and no refused opening, where crashes aren't wild
none_refused : (wild : Bool) (lives : List Life) (result : Result (Vec (Result Told Error) Global) Error) → AreTold wild lives result → IsFalse wild
    → IfOk result (λ told. (error : Error) → (RunsOut error → ⊥) → stories.AnOpeningIsRefused error lives told.items → ⊥)
none_refused false lives (Ok told) are tame = λ error never. no_opening_is_refused error never lives told.items are.0 are.1
none_refused false lives (Err error) are tame = tt
none_refused true lives result are tame = absurd (true≢false tame)

pub returns-clause-no_sync_is_lost : goal.returns-clause-no_sync_is_lost
returns-clause-no_sync_is_lost g c = λ h. none g.P.Power.wild stories.AnAcknowledgedSyncIsLost no_sync_is_lost c.args.lives.items c.live.result (c.live.ensures.lives h)

pub returns-clause-no_half_batch : goal.returns-clause-no_half_batch
returns-clause-no_half_batch g c = λ h. none g.P.Power.wild stories.HalfABatch no_half_batch c.args.lives.items c.live.result (c.live.ensures.lives h)

pub returns-clause-no_snapshot_moves : goal.returns-clause-no_snapshot_moves
returns-clause-no_snapshot_moves g c = λ h. none g.P.Power.wild stories.ASnapshotMoves no_snapshot_moves c.args.lives.items c.live.result (c.live.ensures.lives h)

pub returns-clause-no_other_value : goal.returns-clause-no_other_value
returns-clause-no_other_value g c = λ h. none g.P.Power.wild stories.AValueThatNobodyWrote no_other_value c.args.lives.items c.live.result (c.live.ensures.lives h)

pub returns-clause-no_value_of_another_key : goal.returns-clause-no_value_of_another_key
returns-clause-no_value_of_another_key g c = λ h. none g.P.Power.wild stories.AValueFromAnotherKey no_value_of_another_key c.args.lives.items c.live.result (c.live.ensures.lives h)

pub returns-clause-no_value_from_nowhere : goal.returns-clause-no_value_from_nowhere
returns-clause-no_value_from_nowhere g c = λ h. none g.P.Power.wild stories.AValueFromNowhere no_value_from_nowhere c.args.lives.items c.live.result (c.live.ensures.lives h)

pub returns-clause-no_opening_forgets : goal.returns-clause-no_opening_forgets
returns-clause-no_opening_forgets g c = λ h. none g.P.Power.wild stories.AnOpeningForgets no_opening_forgets c.args.lives.items c.live.result (c.live.ensures.lives h)

pub returns-clause-no_write_skew : goal.returns-clause-no_write_skew
returns-clause-no_write_skew g c = λ h. none g.P.Power.wild stories.AWriteSkew no_write_skew c.args.lives.items c.live.result (c.live.ensures.lives h)

pub returns-clause-no_refused_call_is_seen : goal.returns-clause-no_refused_call_is_seen
returns-clause-no_refused_call_is_seen g c = λ h. none g.P.Power.wild stories.ARefusedCallTakesEffect no_refused_call_is_seen c.args.lives.items c.live.result (c.live.ensures.lives h)

pub returns-clause-no_refused_call_is_found : goal.returns-clause-no_refused_call_is_found
returns-clause-no_refused_call_is_found g c = λ h. none g.P.Power.wild stories.ARefusedCallTakesEffectLater no_refused_call_is_found c.args.lives.items c.live.result (c.live.ensures.lives h)

pub returns-clause-no_later_call_alone : goal.returns-clause-no_later_call_alone
returns-clause-no_later_call_alone g c = λ h. none g.P.Power.wild stories.ALaterCallWithoutAnEarlierOne no_later_call_alone c.args.lives.items c.live.result (c.live.ensures.lives h)

pub returns-clause-no_living_keyspace_is_unknown : goal.returns-clause-no_living_keyspace_is_unknown
returns-clause-no_living_keyspace_is_unknown g c = λ h. none g.P.Power.wild stories.AnUnknownKeyspaceThatLives no_living_keyspace_is_unknown c.args.lives.items c.live.result (c.live.ensures.lives h)

pub returns-clause-no_closed_life_loses : goal.returns-clause-no_closed_life_loses
returns-clause-no_closed_life_loses g c = λ h. none g.P.Power.wild stories.AClosedLifeLostSomething no_closed_life_loses c.args.lives.items c.live.result (c.live.ensures.lives h)

pub returns-clause-no_opening_is_refused : goal.returns-clause-no_opening_is_refused
returns-clause-no_opening_is_refused g c = λ h tame. none_refused g.P.Power.wild c.args.lives.items c.live.result (c.live.ensures.lives h) tame

pub returns-clause-no_deleted_keyspace_returns : goal.returns-clause-no_deleted_keyspace_returns
returns-clause-no_deleted_keyspace_returns g c = λ h. none g.P.Power.wild stories.ADeletedKeyspaceComesBack no_deleted_keyspace_returns c.args.lives.items c.live.result (c.live.ensures.lives h)

pub returns-clause-no_two_writers : goal.returns-clause-no_two_writers
returns-clause-no_two_writers g c = λ h. none g.P.Power.wild stories.TwoSingleWriters no_two_writers c.args.lives.items c.live.result (c.live.ensures.lives h)

pub returns-clause-no_deleted_keyspace_is_written : goal.returns-clause-no_deleted_keyspace_is_written
returns-clause-no_deleted_keyspace_is_written g c = λ h. none g.P.Power.wild stories.ADeletedKeyspaceTakesWrites no_deleted_keyspace_is_written c.args.lives.items c.live.result (c.live.ensures.lives h)

pub returns-clause-no_write_without_a_key : goal.returns-clause-no_write_without_a_key
returns-clause-no_write_without_a_key g c = λ h. none g.P.Power.wild stories.AWriteWithoutAKey no_write_without_a_key c.args.lives.items c.live.result (c.live.ensures.lives h)

pub returns-clause-no_write_into_no_keyspace : goal.returns-clause-no_write_into_no_keyspace
returns-clause-no_write_into_no_keyspace g c = λ h. none g.P.Power.wild stories.AWriteIntoNoKeyspace no_write_into_no_keyspace c.args.lives.items c.live.result (c.live.ensures.lives h)

pub returns-clause-no_let_go_life_closes : goal.returns-clause-no_let_go_life_closes
returns-clause-no_let_go_life_closes g c = λ h. none g.P.Power.wild stories.ALifeThatWasLetGoClosed no_let_go_life_closes c.args.lives.items c.live.result (c.live.ensures.lives h)

pub returns-clause-no_unknown_keyspace_is_read : goal.returns-clause-no_unknown_keyspace_is_read
returns-clause-no_unknown_keyspace_is_read g c = λ h. none g.P.Power.wild stories.AnUnknownKeyspaceIsRead no_unknown_keyspace_is_read c.args.lives.items c.live.result (c.live.ensures.lives h)

pub returns-clause-no_fault_shifts_ids : goal.returns-clause-no_fault_shifts_ids
returns-clause-no_fault_shifts_ids g c = λ h. none g.P.Power.wild stories.AFaultShiftsTheIds no_fault_shifts_ids c.args.lives.items c.live.result (c.live.ensures.lives h)

pub returns-clause-no_write_behind_a_fault : goal.returns-clause-no_write_behind_a_fault
returns-clause-no_write_behind_a_fault g c = λ h. none g.P.Power.wild stories.AWriteBehindAFault no_write_behind_a_fault c.args.lives.items c.live.result (c.live.ensures.lives h)

pub returns-clause-no_fault_clears_a_deleted_keyspace : goal.returns-clause-no_fault_clears_a_deleted_keyspace
returns-clause-no_fault_clears_a_deleted_keyspace g c = λ h. none g.P.Power.wild stories.AFaultClearsADeletedKeyspace no_fault_clears_a_deleted_keyspace c.args.lives.items c.live.result (c.live.ensures.lives h)

pub returns-clause-no_fault_ingests_out_of_order : goal.returns-clause-no_fault_ingests_out_of_order
returns-clause-no_fault_ingests_out_of_order g c = λ h. none g.P.Power.wild stories.AFaultIngestsOutOfOrder no_fault_ingests_out_of_order c.args.lives.items c.live.result (c.live.ensures.lives h)
