-- What commands make of the store of keyspaces whose maps are given.
use Rattle.std.proofs.Common.{◌≡◌, ◌≢◌, ℕ, ◌==◌, Bool, true, false, cond, List, [], ◌∷◌, All, Option, Some, None, refl, sym, ap, ◌∙◌}
use Rattle.std.specs.Option.{is_some, option_map}
use Rattle.std.specs.FinMap.{empty, get}
use Rattle.std.proofs.lemmas.Bool.{eq-eqb, true≢false}
use Rattle.std.proofs.lemmas.List.Elements.{All-cons, All-nil, All-weaker}
use Rattle.fjall_base.specs.Pairs.{Bytes, Pairs}
use Rattle.fjall_base.specs.Store.{Clear, Create, Delete, apply, kept}
use Rattle.fjall_journal.specs.Ops.{BatchItem, write_of}
use Rattle.fjall_meta.specs.declared.living.LivingKeyspace.{LivingKeyspace}
use Rattle.fjall_meta.specs.Keyspaces.{AreKeyspaces, Keyspaces, keyspace_at, with_keyspace, without_keyspace}
use Rattle.fjall_meta.specs.Replays.{option_pairs}
use Rattle.fjall_meta.specs.Versions.{pairs_after}
use Rattle.fjall_meta.proofs.Creating as Creating
use Rattle.fjall_meta.proofs.Keeping as Keeping
use Rattle.fjall_meta.proofs.Keeping.{lives}
use Rattle.fjall_meta.proofs.Kept.{same_kept}
use Rattle.fjall_meta.proofs.LivingContents.{found_new, found_other, found_without}
use Rattle.fjall_meta.proofs.Slots.{get_put}
use Rattle.fjall_trees.specs.MapTables.{store_by}
use Rattle.fjall_trees.proofs.Items.{made, slot_made}
use Rattle.fjall_trees.proofs.Stores.{held_by, kept_by, living_by, same_by}

-- a write, where it makes this of the map of each living keyspace
pub written_by : (pairs new : ℕ → Pairs) (s : Keyspaces) (n : ℕ) (items : List BatchItem) → ((id : ℕ) → pairs_after (pairs id) id (made n items) ≡ new id)
    → kept (apply (store_by pairs s) (write_of items)) ≡ store_by new s
written_by pairs new s n items makes =
    same_kept (apply (store_by pairs s) (write_of items)) (store_by new s) refl (λ q alive. maps q (keyspace_at q s.living) refl (sym (lives s q) ∙ alive)) (λ q alive. refl) refl ∙ kept_by new s
  where
    maps : (q : ℕ) (found : Option LivingKeyspace) → keyspace_at q s.living ≡ found → is_some found ≡ true → get (apply (store_by pairs s) (write_of items)).maps q ≡ get (store_by new s).maps q
    maps q None here alive = absurd (true≢false (sym alive))
    maps q (Some k) here alive = slot_made (store_by pairs s) items n q (pairs q) (living_by pairs s q k here) ∙ ap Some (makes q) ∙ sym (living_by new s q k here)

-- a clear of one keyspace
pub cleared_by : (pairs new : ℕ → Pairs) (s : Keyspaces) (id : ℕ) → ((q : ℕ) → cond (q == id) empty (pairs q) ≡ new q) → kept (apply (store_by pairs s) (Clear id)) ≡ store_by new s
cleared_by pairs new s id makes =
    same_kept (apply (store_by pairs s) (Clear id)) (store_by new s) refl (λ q alive. maps q (keyspace_at q s.living) refl (sym (lives s q) ∙ alive)) (λ q alive. refl) refl ∙ kept_by new s
  where
    inside : (b : Bool) (p : Pairs) → cond b (Some empty) (Some p) ≡ Some (cond b empty p)
    inside true p = refl
    inside false p = refl

    maps : (q : ℕ) (found : Option LivingKeyspace) → keyspace_at q s.living ≡ found → is_some found ≡ true → get (apply (store_by pairs s) (Clear id)).maps q ≡ get (store_by new s).maps q
    maps q None here alive = absurd (true≢false (sym alive))
    maps q (Some k) here alive =
        get_put (store_by pairs s).maps id empty q ∙ ap (λ (o : Option Pairs). cond (q == id) (Some empty) o) (living_by pairs s q k here) ∙ inside (q == id) (pairs q) ∙ ap Some (makes q)
        ∙ sym (living_by new s q k here)

-- a keyspace more, with nothing in it
pub created_by : (pairs new : ℕ → Pairs) (name : Bytes) (options : List Bytes) (number : ℕ) (s : Keyspaces) → AreKeyspaces s → new s.next ≡ empty → ((id : ℕ) → new id ≡ pairs id)
    → store_by new (with_keyspace name options number s) ≡ apply (store_by pairs s) (Create name (option_pairs options))
created_by pairs new name options number s are begun stay =
    Creating.created name options number s are (store_by new more) (store_by pairs s) refl refl refl refl refl refl
    (held_by new more s.next ∙ ap (option_map (λ (k : LivingKeyspace). new s.next)) (found_new s.living last (Creating.fresh name options number s are)) ∙ ap Some begun)
    (λ id other.
    held_by new more id
    ∙ ap (option_map (λ (k : LivingKeyspace). new id)) (found_other s.living last id (Creating.turned name options number s are id other))
    ∙ ap (λ (p : Pairs). option_map (λ (k : LivingKeyspace). p) (keyspace_at id s.living)) (stay id)
    ∙ sym (held_by pairs s id))
  where
    more : Keyspaces
    more = with_keyspace name options number s

    last : LivingKeyspace
    last = record { id = s.next; number = number; name = name; options = options }

-- a keyspace less
pub deleted_by : (pairs : ℕ → Pairs) (id : ℕ) (s : Keyspaces) → kept (store_by pairs (without_keyspace id s)) ≡ kept (apply (store_by pairs s) (Delete id))
deleted_by pairs id s =
    Keeping.deleted id s (store_by pairs less) (store_by pairs s) refl refl refl refl refl refl
    (λ q other.
    held_by pairs less q
    ∙ ap (option_map (λ (k : LivingKeyspace). pairs q)) (found_without s.living id q ∙ ap (λ b. cond b None (keyspace_at q s.living)) other)
    ∙ sym (held_by pairs s q))
  where
    less : Keyspaces
    less = without_keyspace id s

-- where none of that id lives, each that lives has another
others_live : (id : ℕ) (living : List LivingKeyspace) → keyspace_at id living ≡ None → All (λ k. k.id ≢ id) living
others_live id [] none = All-nil (λ (k : LivingKeyspace). k.id ≢ id)
others_live id (k ∷ living) none = by (k.id == id) refl none (others_live id living)
  where
    by : (b : Bool) → (k.id == id) ≡ b → cond b (Some k) (keyspace_at id living) ≡ None → (keyspace_at id living ≡ None → All (λ j. j.id ≢ id) living) → All (λ j. j.id ≢ id) (k ∷ living)
    by true e found more = absurd cc
    by false e found more = All-cons (λ (j : LivingKeyspace). j.id ≢ id) k living (λ same. true≢false (sym (eq-eqb k.id id same) ∙ e)) (more found)

-- the map of a keyspace that doesn't live counts for nothing
pub dropped_by : (pairs new : ℕ → Pairs) (id : ℕ) (s : Keyspaces) → keyspace_at id s.living ≡ None → ((other : ℕ) → other ≢ id → new other ≡ pairs other) → store_by new s ≡ store_by pairs s
dropped_by pairs new id s none stay = same_by new pairs s (All-weaker (λ k. k.id ≢ id) (λ k. new k.id ≡ pairs k.id) (λ k differ. stay k.id differ) s.living (others_live id s.living none))
