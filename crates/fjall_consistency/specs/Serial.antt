-- Optimistic transactions that act one after another, told by what callers see alone.
use Rattle.std.specs.Prelude.{◌≡◌, ◌≢◌, ◌⊎◌, ⊤, ℕ, true, List, [], ◌∷◌, Some}
use Rattle.fjall_base.specs.Pairs.{Bytes}
use Rattle.fjall_base.specs.Store.{map_at}
use Rattle.fjall_tx.specs.Marks.{IsCovered}
use Rattle.fjall_history.specs.declared.reply.Reply.{Reply}
use Rattle.fjall_history.specs.declared.reply.Reply.TheVariants.{Flag}
use Rattle.fjall_calls.specs.declared.call.Kind.TheVariants.{Optimistic}
use Rattle.fjall_calls.specs.declared.call.TxCall.{TxCall}
use Rattle.fjall_calls.specs.declared.call.TxCall.TheVariants.{Commit}
use Rattle.fjall_consistency.specs.Consistency.{Known, Transaction, after, named, value_at}

-- a commit of an optimistic transaction
abbrev pub IsOptimistic : TxCall → Type 0
IsOptimistic (Commit Optimistic place) = ⊤
IsOptimistic call = ⊥

-- along these calls the map of the keyspace changes through commits of optimistic transactions alone
abbrev pub ChangesByCommits : ℕ → Known → List TxCall → List Reply → Type 0
ChangesByCommits id k (call ∷ calls) (reply ∷ replies) =
    (IsOptimistic call ⊎ (map_at (after k call reply).present.maps id ≡ map_at k.present.maps id)) × ChangesByCommits id (after k call reply) calls replies
ChangesByCommits id k calls replies = ⊤

-- Where an optimistic transaction commits that wrote something, each key of the keyspace that it read has in the store of now the value that it had as the
-- transaction began: so it acts behind those that committed before it, and ahead of those that commit behind it.
abbrev pub ActsNow : ℕ → Known → TxCall → Reply → Type 0
ActsNow id k (Commit Optimistic place) (Flag true) =
    (tx : Transaction) → named k place ≡ Some tx → tx.own ≢ [] → (key : Bytes) → IsCovered tx.reads id key → value_at tx.view id key ≡ value_at k.present id key
ActsNow id k call reply = ⊤

-- so it is of each of these calls
abbrev pub ActInOrder : ℕ → Known → List TxCall → List Reply → Type 0
ActInOrder id k (call ∷ calls) (reply ∷ replies) = ActsNow id k call reply × ActInOrder id (after k call reply) calls replies
ActInOrder id k calls replies = ⊤
