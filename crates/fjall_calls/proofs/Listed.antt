-- A call of a list beside the merges that are kept.
use Rattle.std.proofs.Common.{◌≡◌, Bool, IsTrue, false, List, [], ◌∷◌, refl}
use Rattle.fjall_history.specs.declared.reply.Reply.{Reply}
use Rattle.fjall_core.specs.CoreJob.{Job}
use Rattle.fjall_machine.specs.Places.{resolved}
use Rattle.fjall_machine.specs.Shapes.{shape_of}
use Rattle.fjall_machine.specs.declared.call.Call.{Call}
use Rattle.fjall_core.specs.Holding.{Held}
use Rattle.fjall_core.specs.Jobs.{KeepsMerges, KnowsMerges}
use Rattle.fjall_core.specs.CoreStanding.{Owes, ServesWhere}
use Rattle.fjall_core.specs.Transactions.{Kept}
use Rattle.fjall_core.proofs.Standing.{served_stands_where}
use Rattle.fjall_calls.specs.Steps.{OfCore}
use Rattle.fjall_calls.specs.Worlds.{along}
use Rattle.fjall_calls.specs.declared.call.TxCall.{TxCall}
use Rattle.fjall_calls.specs.declared.call.TxCall.TheVariants as calls
use Rattle.fjall_calls.specs.declared.named.Named.{Named}
use Rattle.fjall_calls.specs.Serving.{Itself, ServesListed, ServesTx}
use Rattle.fjall_calls.proofs.Chains.{makes_kept}
use Rattle.fjall_calls.proofs.Quiet.{is_of_core, quiet_step}

-- a call of the core's own
pub core_serves : (honest : Bool) (jobs later : List Job) (core left : Held) (kept : Kept) (listed : List Named) (before : List Reply) (call : Call) (reply : Reply)
    → (IsTrue honest → ServesWhere (λ s. KnowsMerges s jobs) core (shape_of (resolved before call)) reply left) → Owes core (shape_of (resolved before call)) reply left
    → (IsTrue honest → KeepsMerges core jobs (shape_of (resolved before call)) reply later)
    → ServesListed honest jobs later core kept listed before (calls.Core call) reply left kept listed
core_serves honest jobs later core left kept listed before call reply serves owes keeps = record {
  made = resolved before call ∷ [];
  told = reply ∷ [];
  makes = record { serves = λ h. (left, later, serves h, keeps h, (refl, refl)); owes = (left, owes, refl) };
  comes = Itself call reply;
  steps = λ h w stands reads known.
      let (s, stay, on, step) = served_stands_where core left kept w.told (λ t. KnowsMerges t jobs) (shape_of (resolved before call)) reply stands.told reads known (serves h) in
      (along w s, record { told = stay; writer = stands.writer; going = stands.going }, on, keeps h w.told.state stands.told.machine reads known s step, OfCore call reply s step);
}

-- a call of transactions leaves the merges that are kept alone
pub others_serve : (honest : Bool) (jobs : List Job) (core left : Held) (kept after : Kept) (listed rest : List Named) (before : List Reply) (call : TxCall) (reply : Reply) → is_of_core call ≡ false
    → ServesTx honest core kept listed before call reply left after rest → ServesListed honest jobs jobs core kept listed before call reply left after rest
others_serve honest jobs core left kept after listed rest before call reply other serves = record {
  made = serves.made;
  told = serves.told;
  makes = makes_kept honest jobs core left serves.made serves.told serves.makes;
  comes = serves.comes;
  steps = λ h w stands reads known.
      let (v, stay, on, step) = serves.steps h w stands reads in
      (v, stay, on, quiet_step jobs w v before call reply serves.made serves.told other step known, step);
}
