-- What is kept of a store. What is dropped with deleted keyspaces never comes back.
use Rattle.std.proofs.Common.{◌≡◌, ℕ, ◌+◌, Bool, true, false, List, [], ◌∷◌, Option, None, Some, refl, sym, ◌∙◌, ap, cond, subst, unwrap_or, arith}
use Rattle.std.proofs.lemmas.Bool.Decides.{nat_tests}
use Rattle.std.proofs.lemmas.Bool.{true≢false}
use Rattle.std.specs.Option.{is_some}
use Rattle.std.specs.Ordering.{nat_cmp, eq_by_cmp}
use Rattle.std.specs.Cmp.{nat_cmp_total}
use Rattle.std.specs.FinMap.{FinMap, empty, get, insert, remove, retain_keys, contains_key, get-insert, get-remove, get-retain_keys, nat_cmp-IsAntisymmetric}
use Rattle.fjall_base.specs.Pairs.{Pairs, altered}
use Rattle.fjall_base.specs.Store.{Store, Item, Command, Write, Clear, Create, Delete, map_at, written, apply, fold, kept}
use Rattle.fjall_meta.proofs.Slots.{same_maps}

tied : (q k : ℕ) → eq_by_cmp nat_cmp q k ≡ true → q ≡ k
tied q k e = grind (arith, nat_tests)

-- the two maps have the same at each key that passes
abbrev pub Agree : {X : Type 0} → (ℕ → Bool) → FinMap nat_cmp X → FinMap nat_cmp X → Type 0
Agree p m n = (q : ℕ) → p q ≡ true → get m q ≡ get n q

at_retained : {X : Type 0} (p : ℕ → Bool) (m : FinMap nat_cmp X) (q : ℕ) → get (retain_keys m p) q ≡ cond (p q) (get m q) None
at_retained p m q = get-retain_keys m p q (λ x e. ap p (sym (nat_cmp-IsAntisymmetric q x e)))

retained : {X : Type 0} (p : ℕ → Bool) (m : FinMap nat_cmp X) → Agree p (retain_keys m p) m
retained p m q ok = at_retained p m q ∙ ap (λ b. cond b (get m q) None) ok

pub same_retained : {X : Type 0} (p : ℕ → Bool) (m n : FinMap nat_cmp X) → Agree p m n → retain_keys m p ≡ retain_keys n p
same_retained p m n same = same_maps _ _ (λ q. at_retained p m q ∙ either q (p q) refl ∙ sym (at_retained p n q))
  where
    either : (q : ℕ) (b : Bool) → p q ≡ b → cond (p q) (get m q) None ≡ cond (p q) (get n q) None
    either q true e = ap (λ x. cond (p q) x None) (same q e)
    either q false e = ap (λ b. cond b (get m q) None) e ∙ sym (ap (λ b. cond b (get n q) None) e)

agree_insert : {X : Type 0} (p : ℕ → Bool) (m n : FinMap nat_cmp X) (k : ℕ) (x y : X) → ((q : ℕ) → p q ≡ true → eq_by_cmp nat_cmp q k ≡ false → get m q ≡ get n q) → (p k ≡ true → x ≡ y) → Agree p (insert m k x) (insert n k y)
agree_insert p m n k x y same values q ok = get-insert nat_cmp_total m k x q ∙ either (eq_by_cmp nat_cmp q k) refl ∙ sym (get-insert nat_cmp_total n k y q)
  where
    either : (b : Bool) → eq_by_cmp nat_cmp q k ≡ b → cond (eq_by_cmp nat_cmp q k) (Some x) (get m q) ≡ cond (eq_by_cmp nat_cmp q k) (Some y) (get n q)
    either true e = ap (λ v. cond (eq_by_cmp nat_cmp q k) (Some v) (get m q)) (values (subst (λ z. p z ≡ true) (tied q k e) ok)) ∙ ap (λ b. cond b (Some y) (get m q)) e ∙ sym (ap (λ b. cond b (Some y) (get n q)) e)
    either false e = ap (λ b. cond b (Some x) (get m q)) e ∙ same q ok e ∙ sym (ap (λ b. cond b (Some y) (get n q)) e)

agree_written : (p : ℕ → Bool) (items : List Item) (m n : FinMap nat_cmp Pairs) → Agree p m n → Agree p (written m items) (written n items)
agree_written p [] m n same = same
agree_written p (item ∷ items) m n same =
    agree_written p items _ _ (agree_insert p m n item.id _ _ (λ q ok apart. same q ok) (λ ok. ap (λ o. altered (unwrap_or o empty) item.key item.value) (same item.id ok)))

-- a store kept, after a command, keeps what the store would
pub kept-apply : (s : Store) (c : Command) → kept (apply (kept s) c) ≡ kept (apply s c)
kept-apply s (Write items) =
    let p = contains_key s.names in
    let maps = same_retained p _ _ (agree_written p items _ _ (retained p s.maps)) in
    let options = same_retained p _ _ (retained p s.options) in
    λ i. record { names = s.names; maps = maps i; options = options i; next = s.next }
kept-apply s (Clear id) =
    let p = contains_key s.names in
    let maps = same_retained p _ _ (agree_insert p _ s.maps id empty empty (λ q ok apart. retained p s.maps q ok) (λ _. refl)) in
    let options = same_retained p _ _ (retained p s.options) in
    λ i. record { names = s.names; maps = maps i; options = options i; next = s.next }
kept-apply s (Create name settings) =
    let p = contains_key s.names in
    let names = insert s.names s.next name in
    let was : (q : ℕ) → contains_key names q ≡ true → eq_by_cmp nat_cmp q s.next ≡ false → p q ≡ true =
    λ q ok apart. sym (ap is_some (get-insert nat_cmp_total s.names s.next name q ∙ ap (λ b. cond b (Some name) (get s.names q)) apart)) ∙ ok in
    let maps = same_retained (contains_key names) _ _ (agree_insert (contains_key names) _ s.maps s.next empty empty (λ q ok apart. retained p s.maps q (was q ok apart)) (λ _. refl)) in
    let options = same_retained (contains_key names) _ _ (agree_insert (contains_key names) _ s.options s.next settings settings (λ q ok apart. retained p s.options q (was q ok apart)) (λ _. refl)) in
    λ i. record { names = names; maps = maps i; options = options i; next = s.next + 1 }
kept-apply s (Delete id) =
    let p = contains_key s.names in
    let names = remove s.names id in
    let was : (q : ℕ) → contains_key names q ≡ true → p q ≡ true = λ q ok. left_after q (eq_by_cmp nat_cmp q id) refl ok in
    let maps = same_retained (contains_key names) _ _ (λ q ok. retained p s.maps q (was q ok)) in
    let options = same_retained (contains_key names) _ _ (λ q ok. retained p s.options q (was q ok)) in
    λ i. record { names = names; maps = maps i; options = options i; next = s.next }
  where
    left_after : (q : ℕ) (b : Bool) → eq_by_cmp nat_cmp q id ≡ b → contains_key (remove s.names id) q ≡ true → contains_key s.names q ≡ true
    left_after q true e ok = absurd (true≢false (sym ok ∙ ap is_some (get-remove nat_cmp_total s.names id q ∙ ap (λ b. cond b None (get s.names q)) e)))
    left_after q false e ok = sym (ap is_some (get-remove nat_cmp_total s.names id q ∙ ap (λ b. cond b None (get s.names q)) e)) ∙ ok

pub kept_twice : (s : Store) → kept (kept s) ≡ kept s
kept_twice s =
    let p = contains_key s.names in
    let maps = same_retained p _ _ (retained p s.maps) in
    let options = same_retained p _ _ (retained p s.options) in
    λ i. record { names = s.names; maps = maps i; options = options i; next = s.next }

pub kept-fold : (s : Store) (cs : List Command) → kept (fold (kept s) cs) ≡ kept (fold s cs)
kept-fold s [] = kept_twice s
kept-fold s (c ∷ cs) = sym (kept-fold (apply (kept s) c) cs) ∙ ap (λ t. kept (fold t cs)) (kept-apply s c) ∙ kept-fold (apply s c) cs

-- stores that keep the same go on keeping the same
pub kept_along : (s t : Store) (cs : List Command) → kept s ≡ kept t → kept (fold s cs) ≡ kept (fold t cs)
kept_along s t cs same = sym (kept-fold s cs) ∙ ap (λ u. kept (fold u cs)) same ∙ kept-fold t cs

-- the map of a living keyspace is kept
pub kept_map : (s : Store) (id : ℕ) → contains_key s.names id ≡ true → map_at (kept s).maps id ≡ map_at s.maps id
kept_map s id living = ap (λ o. unwrap_or o empty) (retained (contains_key s.names) s.maps id living)

all_kept : {X : Type 0} (b : Bool) (x : Option X) → (b ≡ false → x ≡ None) → cond b x None ≡ x
all_kept true x none = refl
all_kept false x none = sym (none refl)

whole : {X : Type 0} (p : ℕ → Bool) (m : FinMap nat_cmp X) → ((q : ℕ) → p q ≡ false → get m q ≡ None) → retain_keys m p ≡ m
whole p m none = same_maps _ _ (λ q. at_retained p m q ∙ all_kept (p q) (get m q) (none q))

-- stores that agree at each living keyspace keep the same
pub same_kept : (a b : Store) → a.names ≡ b.names → ((q : ℕ) → contains_key b.names q ≡ true → get a.maps q ≡ get b.maps q) → ((q : ℕ) → contains_key b.names q ≡ true → get a.options q ≡ get b.options q) → a.next ≡ b.next → kept a ≡ kept b
same_kept a b names maps options next =
    let p = contains_key b.names in
    let kept_maps : retain_keys a.maps (contains_key a.names) ≡ retain_keys b.maps p = ap (λ n. retain_keys a.maps (contains_key n)) names ∙ same_retained p a.maps b.maps maps in
    let kept_options : retain_keys a.options (contains_key a.names) ≡ retain_keys b.options p = ap (λ n. retain_keys a.options (contains_key n)) names ∙ same_retained p a.options b.options options in
    λ i. record { names = names i; maps = kept_maps i; options = kept_options i; next = next i }

-- a store without maps and options of others keeps all
pub all_are_kept : (a : Store) → ((q : ℕ) → contains_key a.names q ≡ false → get a.maps q ≡ None) → ((q : ℕ) → contains_key a.names q ≡ false → get a.options q ≡ None) → kept a ≡ a
all_are_kept a maps options =
    let p = contains_key a.names in
    let kept_maps = whole p a.maps maps in
    let kept_options = whole p a.options options in
    λ i. record { names = a.names; maps = kept_maps i; options = kept_options i; next = a.next }
