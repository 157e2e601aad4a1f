-- Reads within a transaction one after another: what each leaves, the next goes on from.
use Rattle.std.proofs.Common.{◌≡◌, ℕ, Bool, List, [], ◌++◌, Option, None, Some, refl, sym, ◌∙◌, ap}
use Rattle.std.proofs.lemmas.List.{append-nil, append_assoc}
use Rattle.std.specs.Option.{option_map}
use Rattle.std.specs.Borrow.{MutBor}
use Rattle.fjall_base.specs.declared.error.Error.{Error}
use Rattle.fjall_base.specs.declared.error.Error.TheVariants.{OutOfMemory}
use Rattle.fjall_history.specs.declared.ticket.View.{View}
use Rattle.fjall_engine.specs.Holding.{Held}
use Rattle.fjall_core.specs.ReadsGoing.{reads_go_on, reads_none, reads_short}
use Rattle.fjall_tx.specs.Marks.{Mark, Marks}
use Rattle.fjall_core.specs.Transactions.{Tx}
use Rattle.fjall_core.specs.Seeing.{HasReadOn, PagesWithin, ReadsWithin, having_reads}

none_more : (marks : Option Marks) → marks ≡ option_map (λ (m : Marks). record m { reads = m.reads ++ [] }) marks
none_more None = refl
none_more (Some m) = ap (λ (reads : List Mark). Some (record m { reads = reads })) (sym (append-nil m.reads))

more_on : (marks : Option Marks) (first then : List Mark) → option_map (λ (m : Marks). record m { reads = m.reads ++ then }) (option_map (λ (m : Marks). record m { reads = m.reads ++ first }) marks)
    ≡ option_map (λ (m : Marks). record m { reads = m.reads ++ (first ++ then) }) marks
more_on None first then = refl
more_on (Some m) first then = ap (λ (reads : List Mark). Some (record m { reads = reads })) (append_assoc m.reads first then)

-- a transaction that stays as it is has made no read mark more
pub no_more : (tx : Tx) → tx ≡ having_reads tx []
no_more tx = ap (λ (marks : Option Marks). record tx { marks = marks }) (none_more tx.marks)

read_on : (old mid new : Tx) → HasReadOn old mid → HasReadOn mid new → HasReadOn old new
read_on old mid new first then = record {
  more = first.more ++ then.more;
  is = then.is ∙ ap (λ (tx : Tx). having_reads tx then.more) first.is ∙ ap (λ (marks : Option Marks). record old { marks = marks }) (more_on old.marks first.more then.more);
}

-- ---- reads

pub within_none : (honest : Bool) (core : MutBor Held) (view : View) (tx : MutBor Tx) (id : ℕ) → ReadsWithin honest core view tx id None core view tx
within_none honest core view tx id = record { reads = reads_none honest core view id; grown = record { more = []; is = no_more tx.now }; lent = refl }

pub within_on : (honest : Bool) (old mid new : MutBor Held) (from amid to : View) (tx middle after : MutBor Tx) (first id : ℕ) (error : Option Error)
    → ReadsWithin honest old from tx first None mid amid middle → ReadsWithin honest mid amid middle id error new to after → ReadsWithin honest old from tx id error new to after
within_on honest old mid new from amid to tx middle after first id error before then = record {
  reads = reads_go_on honest old mid new from amid to first id error before.reads then.reads;
  grown = read_on tx.now middle.now after.now before.grown then.grown;
  lent = then.lent ∙ before.lent;
}

pub within_short : (honest : Bool) (old new : MutBor Held) (from to : View) (tx after : MutBor Tx) (id : ℕ)
    → ReadsWithin honest old from tx id None new to after → ReadsWithin honest old from tx id (Some OutOfMemory) new to after
within_short honest old new from to tx after id reads = record { reads = reads_short honest old new from to id reads.reads; grown = reads.grown; lent = reads.lent }

-- ---- pages

pub pages_none : (honest : Bool) (core : MutBor Held) (view : View) (tx : MutBor Tx) (id : ℕ) → PagesWithin honest core view tx id None core view tx
pages_none honest core view tx id = record { reads = reads_none honest core view id; unmarked = refl; lent = refl }

pub pages_on : (honest : Bool) (old mid new : MutBor Held) (from amid to : View) (tx middle after : MutBor Tx) (first id : ℕ) (error : Option Error)
    → PagesWithin honest old from tx first None mid amid middle → PagesWithin honest mid amid middle id error new to after → PagesWithin honest old from tx id error new to after
pages_on honest old mid new from amid to tx middle after first id error before then = record {
  reads = reads_go_on honest old mid new from amid to first id error before.reads then.reads;
  unmarked = then.unmarked ∙ before.unmarked;
  lent = then.lent ∙ before.lent;
}

pub pages_short : (honest : Bool) (old new : MutBor Held) (from to : View) (tx after : MutBor Tx) (id : ℕ)
    → PagesWithin honest old from tx id None new to after → PagesWithin honest old from tx id (Some OutOfMemory) new to after
pages_short honest old new from to tx after id pages = record { reads = reads_short honest old new from to id pages.reads; unmarked = pages.unmarked; lent = pages.lent }

-- pages are reads that mark nothing more
pub pages_within : (honest : Bool) (old new : MutBor Held) (from to : View) (tx after : MutBor Tx) (id : ℕ) (error : Option Error)
    → PagesWithin honest old from tx id error new to after → ReadsWithin honest old from tx id error new to after
pages_within honest old new from to tx after id error pages = record { reads = pages.reads; grown = record { more = []; is = pages.unmarked ∙ no_more tx.now }; lent = pages.lent }
