-- Names of keyspaces: one that no creation told isn't taken.
use Rattle.std.proofs.Common.{◌≡◌, ◌≢◌, ◌⊎◌, ℕ, Bool, true, false, T, cond, ◌&&◌, ◌||◌, if◌then◌else◌, true≢false, List, [], ◌∷◌, map, Some, None, bytes_eq, refl, sym, ap, ap₂, subst, ◌∙◌, inl, inr}
use Rattle.std.specs.List.{list_any}
use Rattle.std.specs.Cmp.{nat_cmp_total}
use Rattle.std.specs.FinMap.{entries, entries_sorted, find, get, get-entries, get-insert, get-remove, is_sorted}
use Rattle.std.specs.FinMap.Entries.{below_all}
use Rattle.std.specs.Ordering.{nat_cmp, eq_by_cmp, is_lt}
use Rattle.std.proofs.lemmas.Cmp.{tied_itself}
use Rattle.fjall_base.specs.Pairs.{Bytes}
use Rattle.fjall_base.specs.Store.{Store, Options, Item, Create, Delete, apply, fold}
use Rattle.fjall_base.proofs.Names.{same, same_test}
use Rattle.fjall_history.specs.declared.reply.Reply.{Reply}
use Rattle.fjall_history.specs.declared.reply.Reply.TheVariants.{Flag, Number, Refused}
use Rattle.fjall_machine.specs.declared.call.Call.TheVariants as core
use Rattle.fjall_calls.specs.declared.call.TxCall.{TxCall}
use Rattle.fjall_calls.specs.declared.call.TxCall.TheVariants.{Commit, Core, Within}
use Rattle.fjall_consistency.specs.Consistency.{IsAnswer, Known, accepted, after, has_name, is_living, items_in, one_write}
use Rattle.fjall_wrong_stories.specs.Stories.{Step, keyspace}
use Rattle.fjall_wrong_stories.proofs.Values.{id_itself, same_id}

some_is : {x y : Bytes} → Some x ≡ Some y → x ≡ y
some_is e = cc

-- ---- names and ids

-- the name of a keyspace is taken
value_among : (es : List (ℕ × Bytes)) (id : ℕ) (name : Bytes) → find nat_cmp id es ≡ Some name → list_any (λ other. bytes_eq other name) (map (λ e. e.1) es) ≡ true
value_among [] id name e = cc
value_among (x ∷ es) id name e = by (eq_by_cmp nat_cmp id x.0) (value_among es id name) e
  where
    rest : Bool
    rest = list_any (λ other. bytes_eq other name) (map (λ y. y.1) es)

    last : (b : Bool) → (b || true) ≡ true
    last true = refl
    last false = refl

    by : (b : Bool) → (find nat_cmp id es ≡ Some name → rest ≡ true) → cond b (Some x.1) (find nat_cmp id es) ≡ Some name → (bytes_eq x.1 name || rest) ≡ true
    by true more here = ap (λ (other : Bytes). bytes_eq other name || rest) (some_is here) ∙ ap (λ (b : Bool). b || rest) (same_test name)
    by false more here = ap (λ (b : Bool). bytes_eq x.1 name || b) (more here) ∙ last (bytes_eq x.1 name)

pub taken : (s : Store) (id : ℕ) (name : Bytes) → get s.names id ≡ Some name → has_name s name ≡ true
taken s id name e = value_among (entries s.names) id name (sym (get-entries s.names id) ∙ e)

-- a name that is taken is that of a keyspace
first_part : (a b : Bool) → T (a && b) → T a
first_part true b h = tt
first_part false b h = h

last_part : (a b : Bool) → T (a && b) → T b
last_part true b h = h
last_part false b h = absurd h

not_below_itself : (id : ℕ) → T (is_lt (nat_cmp id id)) → ⊥
not_below_itself id h = subst (λ r. T (is_lt r)) (tied_itself nat_cmp_total id) h

above : (es : List (ℕ × Bytes)) (x id : ℕ) (name : Bytes) → T (below_all nat_cmp x es) → find nat_cmp id es ≡ Some name → T (is_lt (nat_cmp x id))
above [] x id name below found = cc
above (e ∷ es) x id name below found = by (same_id id e.0) (above es x id name (last_part _ _ below)) found
  where
    by : ((eq_by_cmp nat_cmp id e.0 ≡ true) × (id ≡ e.0)) ⊎ (eq_by_cmp nat_cmp id e.0 ≡ false) → (find nat_cmp id es ≡ Some name → T (is_lt (nat_cmp x id)))
        → cond (eq_by_cmp nat_cmp id e.0) (Some e.1) (find nat_cmp id es) ≡ Some name → T (is_lt (nat_cmp x id))
    by (inl here) more h = subst (λ (i : ℕ). T (is_lt (nat_cmp x i))) (sym here.1) (first_part _ _ below)
    by (inr other) more h = more (sym (ap (λ (b : Bool). cond b (Some e.1) (find nat_cmp id es)) other) ∙ h)

name_found : (es : List (ℕ × Bytes)) (name : Bytes) → T (is_sorted nat_cmp es) → list_any (λ other. bytes_eq other name) (map (λ e. e.1) es) ≡ true → (id : ℕ) × (find nat_cmp id es ≡ Some name)
name_found [] name sorted some = absurd (true≢false (sym some))
name_found (x ∷ es) name sorted some = by (bytes_eq x.1 name) refl (name_found es name (last_part _ _ sorted)) some
  where
    behind : (id : ℕ) → find nat_cmp id es ≡ Some name → ((eq_by_cmp nat_cmp id x.0 ≡ true) × (id ≡ x.0)) ⊎ (eq_by_cmp nat_cmp id x.0 ≡ false) → find nat_cmp id (x ∷ es) ≡ Some name
    behind id found (inl here) = absurd (not_below_itself x.0 (subst (λ (i : ℕ). T (is_lt (nat_cmp x.0 i))) here.1 (above es x.0 id name (first_part _ _ sorted) found)))
    behind id found (inr other) = ap (λ (b : Bool). cond b (Some x.1) (find nat_cmp id es)) other ∙ found

    by : (b : Bool) → bytes_eq x.1 name ≡ b → (list_any (λ other. bytes_eq other name) (map (λ e. e.1) es) ≡ true → (id : ℕ) × (find nat_cmp id es ≡ Some name))
        → (b || list_any (λ other. bytes_eq other name) (map (λ e. e.1) es)) ≡ true → (id : ℕ) × (find nat_cmp id (x ∷ es) ≡ Some name)
    by true e more is = (x.0, ap (λ (b : Bool). cond b (Some x.1) (find nat_cmp x.0 es)) (id_itself x.0) ∙ ap Some (same e))
    by false e more is = ((more is).0, behind (more is).0 (more is).1 (same_id (more is).0 x.0))

named_by : (s : Store) (name : Bytes) → has_name s name ≡ true → (id : ℕ) × (get s.names id ≡ Some name)
named_by s name is =
    let found = name_found (entries s.names) name (entries_sorted s.names) is in
    (found.0, get-entries s.names found.0 ∙ found.1)

-- one that no keyspace has isn't taken
not_taken : (s : Store) (name : Bytes) → ((id : ℕ) → get s.names id ≢ Some name) → has_name s name ≡ false
not_taken s name none = by (has_name s name) refl
  where
    by : (b : Bool) → has_name s name ≡ b → has_name s name ≡ false
    by true is = let at = named_by s name is in absurd (none at.0 at.1)
    by false is = is

-- ---- commands

-- a creation takes its own name alone
create_takes : (s : Store) (other name : Bytes) (options : Options) → other ≢ name → has_name s name ≡ false → has_name (apply s (Create other options)) name ≡ false
create_takes s other name options apart free = not_taken (apply s (Create other options)) name none
  where
    by : (id : ℕ) (b : Bool) → cond b (Some other) (get s.names id) ≡ Some name → ⊥
    by id true is = apart (some_is is)
    by id false is = true≢false (sym (taken s id name is) ∙ free)

    none : (id : ℕ) → get (apply s (Create other options)).names id ≢ Some name
    none id is = by id (eq_by_cmp nat_cmp id s.next) (sym (get-insert nat_cmp_total s.names s.next other id) ∙ is)

-- a deletion takes none
delete_takes : (s : Store) (gone : ℕ) (name : Bytes) → has_name s name ≡ false → has_name (apply s (Delete gone)) name ≡ false
delete_takes s gone name free = not_taken (apply s (Delete gone)) name none
  where
    by : (id : ℕ) (b : Bool) → cond b None (get s.names id) ≡ Some name → ⊥
    by id true is = cc
    by id false is = true≢false (sym (taken s id name is) ∙ free)

    none : (id : ℕ) → get (apply s (Delete gone)).names id ≢ Some name
    none id is = by id (eq_by_cmp nat_cmp id gone) (sym (get-remove nat_cmp_total s.names gone id) ∙ is)

-- ---- calls

creation_takes : (s : Store) (other name : Bytes) → other ≢ name → has_name s name ≡ false → has_name (fold s (if has_name s other then [] else (Create other [] ∷ []))) name ≡ false
creation_takes s other name apart free = by (has_name s other)
  where
    by : (b : Bool) → has_name (fold s (if b then [] else (Create other [] ∷ []))) name ≡ false
    by true = free
    by false = create_takes s other name [] apart free

deletion_takes : (s : Store) (gone : ℕ) (name : Bytes) → has_name s name ≡ false → has_name (fold s (if is_living s gone then (Delete gone ∷ []) else [])) name ≡ false
deletion_takes s gone name free = by (is_living s gone)
  where
    by : (b : Bool) → has_name (fold s (if b then (Delete gone ∷ []) else [])) name ≡ false
    by true = delete_takes s gone name free
    by false = free

writes_take : (s : Store) (items : List Item) (name : Bytes) → has_name (fold s (one_write items)) name ≡ has_name s name
writes_take s [] name = refl
writes_take s (item ∷ items) name = refl

-- a name that is free stays so at what is accepted of a call, unless the call tells that it made a keyspace of this name
accepted_takes : (k : Known) (call : TxCall) (reply : Reply) (name : Bytes) → IsAnswer k call reply
    → ((options : List Bytes) (id : ℕ) → call ≡ keyspace name options → reply ≡ Number id → ⊥)
    → has_name k.present name ≡ false → has_name (fold k.present (accepted k call reply)) name ≡ false
accepted_takes k call (Refused error) name is other free = free
accepted_takes k (Commit kind place) (Flag false) name is other free = free
accepted_takes k (Core (core.Keyspace made options)) reply name is other free = creation_takes k.present made name (λ e. other options is.0.0 (ap (λ (n : Bytes). keyspace n options) e) is.0.1) free
accepted_takes k (Core (core.DeleteKeyspace gone)) reply name is other free = deletion_takes k.present gone name free
accepted_takes k (Core (core.Clear id)) reply name is other free = free
accepted_takes k (Within place call) reply name is other free = free
accepted_takes k call reply name is other free = writes_take k.present (items_in k call) name ∙ free

-- a name that no creation tells stays free
pub unnamed : (name : Bytes) (k : Known) (step : Step) → IsAnswer k step.0 step.1 → ((options : List Bytes) (id : ℕ) → step ≢ (keyspace name options, Number id))
    → has_name k.present name ≡ false → has_name (after k step.0 step.1).present name ≡ false
unnamed name k step is other free = accepted_takes k step.0 step.1 name is (λ options id e g. other options id (ap₂ step_of e g)) free
  where
    step_of : TxCall → Reply → Step
    step_of call reply = (call, reply)
