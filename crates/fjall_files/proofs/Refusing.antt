-- Which entries have a list refused.
use Rattle.std.proofs.Common.{◌≡◌, ℕ, ◌<◌, List, length, get_or, Option, Some, None, Result, Ok, Err, ◌⊎◌, inr, sym, Any, IfErr}
use Rattle.fjall_base.specs.declared.disk.DirEntry.{DirEntry}
use Rattle.fjall_base.specs.declared.error.Error.{Error}
use Rattle.fjall_base.specs.declared.error.Error.TheVariants.{OutOfMemory}
use Rattle.fjall_files.specs.declared.lists.Sought.{Sought}
use Rattle.fjall_files.specs.Sought.{AnyRefuses, RefusesList}

-- the entry at that place is one of the list
pub refused_at : {T : Type 0} (sought : Sought) (listed : List DirEntry) (place : ℕ) (entry : DirEntry) (error : Error) (result : Result T Error) → place < length listed → entry ≡ get_or listed place entry → RefusesList sought entry error → result ≡ Err error → IfErr result (AnyRefuses sought listed)
refused_at sought listed place entry error result inside at refuses is = rw is (place, entry, inside, sym at, refuses)

pub refused_or_full : {T : Type 0} (sought : Sought) (listed : List DirEntry) (result : Result T Error) → IfErr result (AnyRefuses sought listed) → IfErr result (λ error. (error ≡ OutOfMemory) ⊎ AnyRefuses sought listed error)
refused_or_full sought listed (Ok x) h = tt
refused_or_full sought listed (Err error) h = inr h

pub any_as : (P Q : DirEntry → Type 0) (listed : List DirEntry) → ((entry : DirEntry) → P entry → Q entry) → Any P listed → Any Q listed
any_as P Q listed f h = (h.0, h.1, h.2, h.3, f h.1 h.4)

-- what a call found is what there is
pub found_one : {E : Type 0} (found : Option ℕ) (id other : ℕ) → found ≡ Some id → ◌≡◌ {A = Result (Option ℕ) E} (Ok found) (Ok (Some other)) → other ≡ id
found_one found id other is e = cc (is, e)

pub found_none : {E : Type 0} (found : Option ℕ) (other : ℕ) → found ≡ None → ◌≡◌ {A = Result (Option ℕ) E} (Ok found) (Ok (Some other)) → ⊥
found_none found other is e = cc (is, e)

pub error_same : {T : Type 0} (a b : Error) → ◌≡◌ {A = Result T Error} (Err a) (Err b) → a ≡ b
error_same a b e = cc e
