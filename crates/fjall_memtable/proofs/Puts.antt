-- What an insertion leaves.
use Rattle.std.proofs.Common.{◌≡◌, ℕ, List, ◌++◌, map, Some, None, if◌then◌else◌, Result, Ok, Err, is_ok, IsOk, sym, subst, ◌∙◌, refl}
use Rattle.std.specs.BTreeMap.{insert_entry}
use Rattle.fjall_memtable.specs.declared.place.Place.{Place}
use Rattle.fjall_memtable.specs.Stamps.{Stamp, stamp_cmp}
use Rattle.fjall_memtable.specs.Places.{entry_at_place, AreAll}
use Rattle.fjall_memtable.specs.Entries.{inserted}
use Rattle.fjall_memtable.proofs.Orders.{Apart}
use Rattle.fjall_memtable.proofs.Texts.{IsNext, next_all, next_entries, next_marks, KeepsMarksOf}

pub when_ok : {X E : Type 0} (r : Result X E) (a b : List ℕ) → IsOk r → (if is_ok r then a else b) ≡ a
when_ok (Ok x) a b h = refl
when_ok (Err e) a b h = absurd cc

-- The text and the entries are those of one more.
pub record IsPut (t k v : List ℕ) (s : Stamp) (p : Place) (es : List (Stamp × Place)) (u : List ℕ) (fs : List (Stamp × Place)) : Type 0 where
  pub all : AreAll t es
  pub apart : Apart s es
  pub next : IsNext t k v s p
  pub text : u ≡ (t ++ k) ++ v
  pub entries : fs ≡ insert_entry stamp_cmp es s p

pub put_all : (t k v : List ℕ) (s : Stamp) (p : Place) (es : List (Stamp × Place)) (u : List ℕ) (fs : List (Stamp × Place)) → IsPut t k v s p es u fs → AreAll u fs
put_all t k v s p es u fs h = subst (λ (w : List ℕ). AreAll w fs) (sym h.text) (subst (AreAll ((t ++ k) ++ v)) (sym h.entries) (next_all t k v s p es h.all h.apart h.next))

pub put_entries : (t k v : List ℕ) (s : Stamp) (p : Place) (es : List (Stamp × Place)) (u : List ℕ) (fs : List (Stamp × Place)) → IsPut t k v s p es u fs
    → map (entry_at_place u) fs ≡ inserted (record { key = s.key; number = s.number; value = if p.is_value then Some v else None }) (map (entry_at_place t) es)
put_entries t k v s p es u fs h = (λ i. map (entry_at_place (h.text i)) (h.entries i)) ∙ next_entries t k v s p es h.all h.apart h.next

pub put_marks : (t k v : List ℕ) (s : Stamp) (p : Place) (es : List (Stamp × Place)) (u : List ℕ) (fs : List (Stamp × Place)) → IsPut t k v s p es u fs → KeepsMarksOf t es u fs
put_marks t k v s p es u fs h = subst (λ (w : List ℕ). KeepsMarksOf t es w fs) (sym h.text) (subst (λ (gs : List (Stamp × Place)). KeepsMarksOf t es ((t ++ k) ++ v) gs) (sym h.entries) (next_marks t k v s p es h.all h.apart h.next))
