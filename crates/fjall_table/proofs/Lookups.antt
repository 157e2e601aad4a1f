-- Binary search in an ordered list, and the tests that find the versions of a key.
use Rattle.std.proofs.Common.{if◌then◌else◌, ◌≡◌, ◌≢◌, ℕ, zero, suc, ◌<◌, ◌≤◌, Bool, true, false, not, ◌&&◌, nat_le, nat_lt, List, [], ◌∷◌, length, get_or, map, filter, IsTrue, refl, sym, ap, subst, ◌∙◌, arith, ◌⊎◌, inl, inr}
use Rattle.std.specs.List.Sorted.{IsPartitionedBy, IsPartitionPoint}
use Rattle.std.specs.Str.{bytes_eq}
use Rattle.std.specs.Ordering.{is_lt, is_le, is_gt}
use Rattle.std.specs.declared.cmp.Ordering.{Ordering}
use Rattle.std.specs.declared.cmp.Ordering.TheVariants.{Less, Equal, Greater}
use Rattle.std.specs.FinMap.{nat_cmp-IsAntisymmetric, slice_cmp-IsAntisymmetric}
use Rattle.std.specs.BTreeMap.Comparable.{le_lt_trans}
use Rattle.std.proofs.lemmas.Bool.{cases_Bool, cases_lt, leb-true, le-leb, lt-leb, lt-ltb, le-ltb}
use Rattle.std.proofs.lemmas.Slice.Eq.{bytes_eq-Decides}
use Rattle.std.proofs.lemmas.Cmp.{nat_list_cmp_total, upto, tied_itself}
use Rattle.fjall_base.specs.Pairs.{byte_order}
use Rattle.fjall_table.specs.Blocks.{Entry, StandsBefore, IsBefore, IsOrdered}
use Rattle.fjall_table.specs.Tables.{Handle, Ascend}
use Rattle.fjall_table.specs.TableReading.{is_ahead}

-- ---- a test that holds up to some place, and then no more

abbrev pub AllNot : {A : Type 0} → (A → Bool) → List A → Type 0
AllNot p [] = Unit {0}
AllNot p (x ∷ xs) = (p x ≡ false) × AllNot p xs

abbrev pub Falls : {A : Type 0} → (A → Bool) → List A → Type 0
Falls p [] = Unit {0}
Falls p (x ∷ xs) = (p x ≡ false → AllNot p xs) × Falls p xs

none_passes : {A : Type 0} (p : A → Bool) (xs : List A) → AllNot p xs → filter p xs ≡ []
none_passes p [] h = refl
none_passes p (x ∷ xs) h = rw h.0 (none_passes p xs h.1)

none_at : {A : Type 0} (p : A → Bool) (xs : List A) (i : ℕ) (d : A) → AllNot p xs → i < length xs → p (get_or xs i d) ≡ false
none_at p [] i d h lt = absurd (omega arith)
none_at p (x ∷ xs) zero d h lt = h.0
none_at p (x ∷ xs) (suc i) d h lt = none_at p xs i d h.1 (omega arith)

pub never_both : (b : Bool) → b ≡ true → b ≡ false → ⊥
never_both b t f = absurd cc

-- what binary search asks
pub partitioned : {A : Type 0} (p : A → Bool) (xs : List A) → Falls p xs → IsPartitionedBy p xs
partitioned p [] f i j d le lt t = absurd (omega arith)
partitioned p (x ∷ xs) f zero zero d le lt t = t
partitioned p (x ∷ xs) f zero (suc j) d le lt t =
    elim (cases_Bool (p x)) [
      | inl pass ↦ pass
      | inr miss ↦ absurd (never_both (p (get_or xs j d)) t (none_at p xs j d (f.0 miss) (omega arith)))
    ]
partitioned p (x ∷ xs) f (suc i) zero d le lt t = absurd (omega arith)
partitioned p (x ∷ xs) f (suc i) (suc j) d le lt t = partitioned p xs f.1 i j d (omega arith) (omega arith) t

-- where binary search ends
pub point_is : {A : Type 0} (p : A → Bool) (xs : List A) (i : ℕ) → i ≤ length xs → IsPartitionPoint (λ y. p y ≡ true) (λ y. p y ≡ false) xs i → i ≡ length (filter p xs)
point_is p [] i le h = omega arith
point_is p (x ∷ xs) zero le h =
    let miss : p x ≡ false = h.1 0 x (omega arith) (omega arith) in
    let more : 0 ≡ length (filter p xs) = point_is p xs 0 (omega arith) (λ k d low high. absurd (omega arith), λ k d low high. h.1 (suc k) d (omega arith) (omega arith)) in
    rw miss more
point_is p (x ∷ xs) (suc i) le h =
    let pass : p x ≡ true = h.0 0 x (omega arith) (omega arith) in
    let more : i ≡ length (filter p xs) = point_is p xs i (omega arith) (λ k d low high. h.0 (suc k) d (omega arith) (omega arith), λ k d low high. h.1 (suc k) d (omega arith) (omega arith)) in
    rw pass (omega arith)

pub filter_len : {A : Type 0} (p : A → Bool) (xs : List A) → length (filter p xs) ≤ length xs
filter_len p [] = omega arith
filter_len p (x ∷ xs) = let l = filter_len p xs in elim (cases_Bool (p x)) [ inl pass ↦ rw pass (omega arith) | inr miss ↦ rw miss (omega arith) ]

-- where the test fails, no more than those before pass
pub none_more : {A : Type 0} (p : A → Bool) (xs : List A) (i : ℕ) (d : A) → Falls p xs → i < length xs → p (get_or xs i d) ≡ false → length (filter p xs) ≤ i
none_more p [] i d f lt miss = absurd (omega arith)
none_more p (x ∷ xs) zero d f lt miss = let none = ap length (none_passes p (x ∷ xs) (miss, f.0 miss)) in omega (arith, none)
none_more p (x ∷ xs) (suc i) d f lt miss =
    let more = none_more p xs i d f.1 (omega arith) miss in
    elim (cases_Bool (p x)) [ inl pass ↦ rw pass (omega (arith, more)) | inr here ↦ rw here (omega (arith, more)) ]

-- a test of what is seen of each
pub filter_seen : {A B : Type 0} (f : A → B) (p : B → Bool) (xs : List A) → length (filter (λ x. p (f x)) xs) ≡ length (filter p (map f xs))
filter_seen f p [] = refl
filter_seen f p (x ∷ xs) = let l = filter_seen f p xs in elim (cases_Bool (p (f x))) [ inl pass ↦ rw pass (omega arith) | inr miss ↦ rw miss l ]

all_not_seen : {A B : Type 0} (f : A → B) (p : B → Bool) (xs : List A) → AllNot p (map f xs) → AllNot (λ x. p (f x)) xs
all_not_seen f p [] h = tt
all_not_seen f p (x ∷ xs) h = (h.0, all_not_seen f p xs h.1)

pub falls_seen : {A B : Type 0} (f : A → B) (p : B → Bool) (xs : List A) → Falls p (map f xs) → Falls (λ x. p (f x)) xs
falls_seen f p [] h = tt
falls_seen f p (x ∷ xs) h = (λ miss. all_not_seen f p xs (h.0 miss), falls_seen f p xs h.1)

-- ---- how many pass a test

pub none_but : {A : Type 0} (p q r : A → Bool) → ((x : A) → r x ≡ (q x && not (p x))) → (xs : List A) → AllNot q xs → filter r xs ≡ []
none_but p q r is [] h = refl
none_but p q r is (x ∷ xs) h = let miss : r x ≡ false = is x ∙ ap (λ (b : Bool). b && not (p x)) h.0 in rw miss (none_but p q r is xs h.1)

abbrev pub count : {A : Type 0} → (A → Bool) → List A → ℕ
count p xs = length (filter p xs)

pub counts : {A : Type 0} (p : A → Bool) (x : A) (xs : List A) → p x ≡ true → count p (x ∷ xs) ≡ suc (count p xs)
counts p x xs pass = rw pass refl

pub counts_not : {A : Type 0} (p : A → Bool) (x : A) (xs : List A) → p x ≡ false → count p (x ∷ xs) ≡ count p xs
counts_not p x xs miss = rw miss refl

pub fails : {A : Type 0} (r : A → Bool) (x : A) (xs : List A) → r x ≡ false → filter r (x ∷ xs) ≡ filter r xs
fails r x xs miss = rw miss refl

pub none_counted : {A : Type 0} (p : A → Bool) (xs : List A) → AllNot p xs → count p xs ≡ 0
none_counted p xs h = ap length (none_passes p xs h)

-- ---- keys

pub same_key : (a b : List ℕ) → byte_order a b ≡ Equal → a ≡ b
same_key a b e = slice_cmp-IsAntisymmetric nat_cmp-IsAntisymmetric a b e

le_from_not_above : (o : Ordering) → o ≢ Greater → IsTrue (is_le o)
le_from_not_above Less h = refl
le_from_not_above Equal h = refl
le_from_not_above Greater h = absurd (h refl)

lt_is : (o : Ordering) → is_lt o ≡ true → o ≡ Less
lt_is Less h = refl
lt_is Equal h = absurd cc
lt_is Greater h = absurd cc

not_gt : (o : Ordering) → is_le o ≡ true → is_gt o ≡ false
not_gt Less h = refl
not_gt Equal h = refl
not_gt Greater h = absurd cc

le_again : (o : Ordering) → is_gt o ≡ false → is_le o ≡ true
le_again Less h = refl
le_again Equal h = refl
le_again Greater h = absurd cc

pub not_above : (o : Ordering) → o ≢ Greater → is_gt o ≡ false
not_above Less h = refl
not_above Equal h = refl
not_above Greater h = absurd (h refl)

-- what is not above a key that is below another
pub below_too : (a b key : List ℕ) → byte_order a b ≢ Greater → is_lt (byte_order b key) ≡ true → is_lt (byte_order a key) ≡ true
below_too a b key le lt = ap is_lt (le_lt_trans nat_list_cmp_total a b key (le_from_not_above (byte_order a b) le) (lt_is (byte_order b key) lt))

pub up_to_too : (a b key : List ℕ) → byte_order a b ≢ Greater → is_le (byte_order b key) ≡ true → is_le (byte_order a key) ≡ true
up_to_too a b key le up = le_again (byte_order a key) (upto nat_list_cmp_total a b key (not_above (byte_order a b) le) (not_gt (byte_order b key) up))

-- ---- the order of an index and of entries

falls_more : {A : Type 0} (p : A → Bool) (x y : A) (xs : List A) → (p y ≡ true → p x ≡ true) → Falls p (y ∷ xs) → Falls p (x ∷ y ∷ xs)
falls_more p x y xs back f = (λ miss. (not_behind miss, f.0 (not_behind miss)), f)
  where
    not_behind : p x ≡ false → p y ≡ false
    not_behind miss = elim (cases_Bool (p y)) [ inl t ↦ absurd (never_both (p x) (back t) miss) | inr n ↦ n ]

pub ascend_falls : (p : Handle → Bool) → ((a b : Handle) → byte_order a.first_key b.first_key ≢ Greater → p b ≡ true → p a ≡ true) → (hs : List Handle) → Ascend hs → Falls p hs
ascend_falls p back [] up = tt
ascend_falls p back (a ∷ []) up = (λ miss. tt, tt)
ascend_falls p back (a ∷ b ∷ hs) up = falls_more p a b hs (back a b up.0) (ascend_falls p back (b ∷ hs) up.1)

pub ordered_falls : (p : Entry → Bool) → ((a b : Entry) → IsBefore a b → p b ≡ true → p a ≡ true) → (es : List Entry) → IsOrdered es → Falls p es
ordered_falls p back [] up = tt
ordered_falls p back (a ∷ []) up = (λ miss. tt, tt)
ordered_falls p back (a ∷ b ∷ es) up = falls_more p a b es (back a b up.0) (ordered_falls p back (b ∷ es) up.1)

pub falls_below : (key : List ℕ) (hs : List Handle) → Ascend hs → Falls (λ h. is_lt (byte_order h.first_key key)) hs
falls_below key hs up = ascend_falls (λ h. is_lt (byte_order h.first_key key)) (λ a b le t. below_too a.first_key b.first_key key le t) hs up

pub falls_up_to : (key : List ℕ) (hs : List Handle) → Ascend hs → Falls (λ h. is_le (byte_order h.first_key key)) hs
falls_up_to key hs up = ascend_falls (λ h. is_le (byte_order h.first_key key)) (λ a b le t. up_to_too a.first_key b.first_key key le t) hs up

-- ---- the versions of a key among entries

pub not_greater : (o : Ordering) (n m : ℕ) → StandsBefore o n m → o ≢ Greater
not_greater Less n m h e = absurd cc
not_greater Equal n m h e = absurd cc
not_greater Greater n m h e = h

ahead_up_to : (o : Ordering) (n instant : ℕ) → is_ahead o n instant ≡ true → is_le o ≡ true
ahead_up_to Less n instant h = refl
ahead_up_to Equal n instant h = refl
ahead_up_to Greater n instant h = absurd cc

-- a greater number stands no later
ahead_too : (o : Ordering) (n m instant : ℕ) → m < n → is_ahead o m instant ≡ true → is_ahead o n instant ≡ true
ahead_too Less n m instant lt h = refl
ahead_too Equal n m instant lt h = le-leb instant n (let l = leb-true instant m h in omega arith)
ahead_too Greater n m instant lt h = absurd cc

le_cases : (o : Ordering) → is_le o ≡ true → (o ≡ Less) ⊎ (o ≡ Equal)
le_cases Less h = inl refl
le_cases Equal h = inr refl
le_cases Greater h = absurd cc

lt_le : (a b key : List ℕ) → byte_order a b ≡ Less → is_le (byte_order b key) ≡ true → byte_order a key ≡ Less
lt_le a b key lt le =
    elim (le_cases (byte_order b key) le) [
      | inl less ↦ nat_list_cmp_total.trans a b key lt less
      | inr equal ↦ subst (λ (k : List ℕ). byte_order a k ≡ Less) (same_key b key equal) lt
    ]

ahead_before : (o : Ordering) (a b : Entry) (key : List ℕ) (instant : ℕ) → byte_order a.key b.key ≡ o → StandsBefore o a.number b.number → is_ahead (byte_order b.key key) b.number instant ≡ true → is_ahead (byte_order a.key key) a.number instant ≡ true
ahead_before Less a b key instant e h t = ap (λ (o : Ordering). is_ahead o a.number instant) (lt_le a.key b.key key e (ahead_up_to (byte_order b.key key) b.number instant t))
ahead_before Equal a b key instant e h t = ap (λ (k : List ℕ). is_ahead (byte_order k key) a.number instant) (same_key a.key b.key e) ∙ ahead_too (byte_order b.key key) a.number b.number instant h t
ahead_before Greater a b key instant e h t = absurd h

abbrev pub ahead_of : List ℕ → ℕ → Entry → Bool
ahead_of key instant e = is_ahead (byte_order e.key key) e.number instant

abbrev pub up_to : List ℕ → Entry → Bool
up_to key e = is_le (byte_order e.key key)

abbrev pub wanted : List ℕ → ℕ → Entry → Bool
wanted key instant e = bytes_eq e.key key && nat_lt e.number instant

pub falls_ahead : (key : List ℕ) (instant : ℕ) (es : List Entry) → IsOrdered es → Falls (ahead_of key instant) es
falls_ahead key instant es up = ordered_falls (ahead_of key instant) (λ a b h t. ahead_before (byte_order a.key b.key) a b key instant refl h t) es up

pub falls_entries : (key : List ℕ) (es : List Entry) → IsOrdered es → Falls (up_to key) es
falls_entries key es up = ordered_falls (up_to key) (λ a b h t. up_to_too a.key b.key key (not_greater (byte_order a.key b.key) a.number b.number h) t) es up

lt_is_not_le : (n m : ℕ) → nat_lt n m ≡ not (nat_le m n)
lt_is_not_le n m =
    elim (cases_lt n m) [
      | inl lt ↦ lt-ltb n m lt ∙ sym (ap not (lt-leb m n lt))
      | inr le ↦ le-ltb n m le ∙ sym (ap not (le-leb m n le))
    ]

test_is : (o : Ordering) (b : Bool) (n instant : ℕ) → (b ≡ true → o ≡ Equal) → (o ≡ Equal → b ≡ true) → (b && nat_lt n instant) ≡ (is_le o && not (is_ahead o n instant))
test_is Less b n instant to from = elim (cases_Bool b) [ inl t ↦ absurd (cc (to t)) | inr f ↦ ap (λ (c : Bool). c && nat_lt n instant) f ]
test_is Equal b n instant to from = ap (λ (c : Bool). c && nat_lt n instant) (from refl) ∙ lt_is_not_le n instant
test_is Greater b n instant to from = elim (cases_Bool b) [ inl t ↦ absurd (cc (to t)) | inr f ↦ ap (λ (c : Bool). c && nat_lt n instant) f ]

pub wanted_is : (key : List ℕ) (instant : ℕ) (e : Entry) → wanted key instant e ≡ (up_to key e && not (ahead_of key instant e))
wanted_is key instant e =
    test_is (byte_order e.key key) (bytes_eq e.key key) e.number instant
    (λ t. ap (λ (k : List ℕ). byte_order k key) ((bytes_eq-Decides e.key key).0 t) ∙ tied_itself nat_list_cmp_total key)
    (λ o. (bytes_eq-Decides e.key key).1 (same_key e.key key o))

-- blocks that begin below a key begin with one at most it
pub all_up_to : (key : List ℕ) (hs : List Handle) → length (filter (λ h. is_lt (byte_order h.first_key key)) hs) ≤ length (filter (λ h. is_le (byte_order h.first_key key)) hs)
all_up_to key [] = omega arith
all_up_to key (h ∷ hs) = by (byte_order h.first_key key) (all_up_to key hs)
  where
    by : (o : Ordering) → length (filter (λ h. is_lt (byte_order h.first_key key)) hs) ≤ length (filter (λ h. is_le (byte_order h.first_key key)) hs)
        → length (if is_lt o then h ∷ filter (λ h. is_lt (byte_order h.first_key key)) hs else filter (λ h. is_lt (byte_order h.first_key key)) hs)
        ≤ length (if is_le o then h ∷ filter (λ h. is_le (byte_order h.first_key key)) hs else filter (λ h. is_le (byte_order h.first_key key)) hs)
    by Less more = omega (arith, more)
    by Equal more = omega (arith, more)
    by Greater more = more
