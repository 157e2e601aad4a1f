-- Lists of calls, one call more.
use Rattle.std.proofs.Common.{List, [], ◌∷◌, ◌++◌, sym, subst, append_assoc}
use Rattle.std.proofs.lemmas.List.{append-nil}
use Rattle.fjall_history.specs.declared.reply.Reply.{Reply}
use Rattle.fjall_machine.specs.declared.call.Call.{Call}
use Rattle.fjall_calls.specs.declared.call.TxCall.{TxCall}
use Rattle.fjall_calls.specs.Steps.{NoCall, OneCall, TxRun, TxStep}
use Rattle.fjall_calls.specs.Worlds.{World}
use Rattle.fjall_calls.specs.Serving.{AllCome, ComesTo, NoneComes, OneComes}

-- one step behind a run
pub run_more : (w mid v : World) (before : List Reply) (calls : List TxCall) (replies : List Reply) (made : List Call) (told : List Reply) (call : TxCall) (reply : Reply) (later : List Call) (heard : List Reply)
    → TxRun w before calls replies made told mid → TxStep mid (before ++ replies) call reply later heard v
    → TxRun w before (calls ++ call ∷ []) (replies ++ reply ∷ []) (made ++ later) (told ++ heard) v
run_more w _ v before _ _ _ _ call reply later heard (NoCall _ _) step =
    subst (λ cs. TxRun w before (call ∷ []) (reply ∷ []) cs heard v) (append-nil later) (subst (λ rs. TxRun w before (call ∷ []) (reply ∷ []) (later ++ []) rs v) (append-nil heard)
    (OneCall w v v before call reply later heard [] [] [] [] (subst (λ rs. TxStep w rs call reply later heard v) (append-nil before) step) (NoCall v (before ++ reply ∷ []))))
run_more w mid v before _ _ _ _ call reply later heard (OneCall _ next _ _ first told first_made first_told more replies made others step rest) last =
    let behind = run_more next mid v (before ++ told ∷ []) more replies made others call reply later heard rest
    (subst (λ rs. TxStep mid rs call reply later heard v) (sym (append_assoc before (told ∷ []) replies)) last) in
    subst (λ cs. TxRun w before (first ∷ more ++ call ∷ []) (told ∷ replies ++ reply ∷ []) cs ((first_told ++ others) ++ heard) v) (sym (append_assoc first_made made later))
    (subst (λ rs. TxRun w before (first ∷ more ++ call ∷ []) (told ∷ replies ++ reply ∷ []) (first_made ++ (made ++ later)) rs v) (sym (append_assoc first_told others heard))
    (OneCall w next v before first told first_made first_told (more ++ call ∷ []) (replies ++ reply ∷ []) (made ++ later) (others ++ heard) step behind))

-- one more call comes to its calls of the core
pub comes_more : (before : List Reply) (calls : List TxCall) (replies : List Reply) (made : List Call) (told : List Reply) (call : TxCall) (reply : Reply) (later : List Call) (heard : List Reply)
    → AllCome before calls replies made told → ComesTo (before ++ replies) call reply later heard
    → AllCome before (calls ++ call ∷ []) (replies ++ reply ∷ []) (made ++ later) (told ++ heard)
comes_more before _ _ _ _ call reply later heard (NoneComes _) last =
    subst (λ cs. AllCome before (call ∷ []) (reply ∷ []) cs heard) (append-nil later) (subst (λ rs. AllCome before (call ∷ []) (reply ∷ []) (later ++ []) rs) (append-nil heard)
    (OneComes before call reply later heard [] [] [] [] (subst (λ rs. ComesTo rs call reply later heard) (append-nil before) last) (NoneComes (before ++ reply ∷ []))))
comes_more before _ _ _ _ call reply later heard (OneComes _ first told first_made first_told more replies made others one rest) last =
    let behind = comes_more (before ++ told ∷ []) more replies made others call reply later heard rest
    (subst (λ rs. ComesTo rs call reply later heard) (sym (append_assoc before (told ∷ []) replies)) last) in
    subst (λ cs. AllCome before (first ∷ more ++ call ∷ []) (told ∷ replies ++ reply ∷ []) cs ((first_told ++ others) ++ heard)) (sym (append_assoc first_made made later))
    (subst (λ rs. AllCome before (first ∷ more ++ call ∷ []) (told ∷ replies ++ reply ∷ []) (first_made ++ (made ++ later)) rs) (sym (append_assoc first_told others heard))
    (OneComes before first told first_made first_told (more ++ call ∷ []) (replies ++ reply ∷ []) (made ++ later) (others ++ heard) one behind))
