-- Keyspaces read back from their entries.
use Rattle.std.proofs.Common.{◌≡◌, ◌<◌, ℕ, List, map, All, AllPairs, refl, sym, ap, subst, ◌∙◌, arith, None, Result, Ok}
use Rattle.std.proofs.lemmas.List.{get_or-map, length-map}
use Rattle.std.proofs.lemmas.List.Elements.{All-weaker}
use Rattle.std.proofs.lemmas.List.Kept.{AllPairs-from_increasing}
use Rattle.fjall_base.specs.declared.error.Error.{Error}
use Rattle.fjall_base.specs.declared.error.Error.TheVariants as errors
use Rattle.fjall_base.specs.Results.{◌>>=◌}
use Rattle.fjall_base.proofs.Results.{bind_ok}
use Rattle.fjall_options.specs.Options.{AreOptions, stored_options, stored_values}
use Rattle.fjall_options.proofs.StoredPairs.{read_options}
use Rattle.fjall_meta.specs.declared.living.LivingKeyspace.{LivingKeyspace}
use Rattle.fjall_meta.specs.declared.entry.MetaEntry.{MetaEntry}
use Rattle.fjall_meta.specs.Entries.{entries_of}
use Rattle.fjall_meta.specs.Keyspaces.{Keyspaces, AreKeyspaces}
use Rattle.fjall_meta.specs.Reading.{AreIds, IsFirstFault, IsStored, first_fault, pairs_of, stored_name}
use Rattle.fjall_meta.proofs.States.{read_again, no_fault}

memory_alone : (error : Error) (found : List ℕ) (entries : List MetaEntry) → first_fault found (pairs_of entries) ≡ None → IsFirstFault found (pairs_of entries) error → error ≡ errors.OutOfMemory
memory_alone errors.OutOfMemory found entries none h = refl
memory_alone (errors.Storage cause) found entries none h = absurd cc
memory_alone error found entries none h = absurd h

-- the entries of keyspaces have no fault
pub full_memory : (error : Error) (found : List ℕ) (entries : List MetaEntry) (s : Keyspaces) → AreKeyspaces s → entries_of s.living ≡ entries → AreIds found entries → IsFirstFault found (pairs_of entries) error → error ≡ errors.OutOfMemory
full_memory error found entries s are same ids fault =
    let theirs : AreIds found (entries_of s.living) = subst (AreIds found) (sym same) ids in
    let none : first_fault found (pairs_of entries) ≡ None = ap (λ (es : List MetaEntry). first_fault found (pairs_of es)) (sym same) ∙ no_fault s found are theirs in
    memory_alone error found entries none fault

pub in_order : (found : List ℕ) (entries : List MetaEntry) (living : List LivingKeyspace) → AreIds found entries → map (λ k. k.id) living ≡ found → AllPairs (λ j k. j.id < k.id) living
in_order found entries living ids same = λ i j d below within.
    let rise : AllPairs (λ a b. a < b) (map (λ (k : LivingKeyspace). k.id) living) = subst (AllPairs (λ a b. a < b)) (sym same) (AllPairs-from_increasing found ids.ascending) in
    let long = length-map living (λ (k : LivingKeyspace). k.id) in
    let step = rise i j d.id below (omega arith) in
    let first = get_or-map (λ (k : LivingKeyspace). k.id) living i d d.id (omega arith) in
    let second = get_or-map (λ (k : LivingKeyspace). k.id) living j d d.id within in
    omega (arith, step, first, second)

ok_same : {A E : Type 0} (x y : A) → ◌≡◌ {A = Result A E} (Ok x) (Ok y) → x ≡ y
ok_same x y h = cc

one_whole : (entries : List MetaEntry) (k : LivingKeyspace) → IsStored entries k → AreOptions k.options
one_whole entries k stored =
    let pairs = pairs_of entries in
    let a = bind_ok (stored_name k.id pairs) (λ name. stored_values k.id pairs stored_options >>= λ options. Ok (name, options)) (k.name, k.options) stored.given in
    let b = bind_ok (stored_values k.id pairs stored_options) (λ options. Ok (a.0, options)) (k.name, k.options) a.2 in
    let same : b.0 ≡ k.options = ap (λ (p : List ℕ × List (List ℕ)). p.1) (ok_same (a.0, b.0) (k.name, k.options) b.2) in
    read_options k.id pairs k.options (b.1 ∙ ap (λ (vs : List (List ℕ)). Ok vs) same)

pub whole_options : (entries : List MetaEntry) (living : List LivingKeyspace) → All (IsStored entries) living → All (λ k. AreOptions k.options) living
whole_options entries living stored = All-weaker (IsStored entries) (λ k. AreOptions k.options) (one_whole entries) living stored

one_state : (living : List LivingKeyspace) (next : ℕ) (s : Keyspaces) → living ≡ s.living → s.next ≡ next → (let t : Keyspaces = record { living = living; next = next } in t ≡ s)
one_state living next s a b = rw (a, ← b) refl

-- what is read of the entries of keyspaces is these keyspaces
pub same_state : (s : Keyspaces) (found : List ℕ) (entries : List MetaEntry) (living : List LivingKeyspace) (next : ℕ) → AreKeyspaces s → s.next ≡ next → entries_of s.living ≡ entries → AreIds found entries → map (λ k. k.id) living ≡ found → All (IsStored entries) living
    → (let t : Keyspaces = record { living = living; next = next } in t ≡ s)
same_state s found entries living next are follows same ids listed stored =
    let again = read_again s found living are (subst (AreIds found) (sym same) ids) listed (subst (λ (es : List MetaEntry). All (IsStored es) living) (sym same) stored) in
    one_state living next s again follows
