-- Whether an entry has a key and a number.
use Rattle.std.proofs.Common.{◌≡◌, ◌≢◌, ℕ, ◌==◌, false, ◌&&◌, ◌||◌, not, is_some, List, [], ◌∷◌, map, None, refl, sym, ap, subst, ◌∙◌, inl, inr}
use Rattle.std.specs.List.{list_any}
use Rattle.std.specs.Map.{keys_of, lookup}
use Rattle.std.specs.BTreeMap.{is_at}
use Rattle.std.specs.Str.{bytes_eq}
use Rattle.std.specs.Cmp.{Equal-is}
use Rattle.std.specs.declared.cmp.Ordering.TheVariants.{Equal}
use Rattle.std.proofs.lemmas.Bool.{and_from, and_parts, cases_Bool, eq-eqb, eqb-true, false_from_ne_true, true≢false}
use Rattle.std.proofs.lemmas.Cmp.{tied_itself}
use Rattle.std.proofs.lemmas.List.Elements.{All-weaker}
use Rattle.std.proofs.lemmas.List.Folds.{list_any_none}
use Rattle.std.proofs.lemmas.Map.Entries.{lookup_head, lookup_tail}
use Rattle.std.proofs.lemmas.Map.Made.{is_some-lookup}
use Rattle.std.proofs.lemmas.Slice.Eq.{bytes_eq-Decides}
use Rattle.fjall_table.specs.Blocks.{Entry}
use Rattle.fjall_memtable.specs.declared.place.Place.{Place}
use Rattle.fjall_memtable.specs.Stamps.{Stamp, stamp_cmp, stamp_total}
use Rattle.fjall_memtable.specs.Places.{entry_at_place}
use Rattle.fjall_memtable.specs.Entries.{stamp_of, IsAbsent}
use Rattle.fjall_memtable.specs.Presence.{has_entry}
use Rattle.fjall_memtable.proofs.Orders.{Apart, same_stamp}

-- an entry has the stamp if the map finds it there
same_test : (s x : Stamp) → is_at (stamp_cmp s) x ≡ (bytes_eq x.key s.key && x.number == s.number)
same_test s x = elim (cases_Bool (bytes_eq x.key s.key && x.number == s.number)) [
  | inl t ↦
      let p = and_parts (bytes_eq x.key s.key) (x.number == s.number) t in
      let same : x ≡ s = λ i. record { key = (bytes_eq-Decides x.key s.key).0 p.0 i; number = eqb-true x.number s.number p.1 i } in
      (Equal-is (stamp_cmp s x)).1 (subst (λ (y : Stamp). stamp_cmp s y ≡ Equal) (sym same) (tied_itself stamp_total s)) ∙ sym t
  | inr f ↦
      false_from_ne_true (is_at (stamp_cmp s) x) (λ at. (
      let same = same_stamp s x ((Equal-is (stamp_cmp s x)).0 at) in
      true≢false (sym (and_from (bytes_eq x.key s.key) (x.number == s.number) ((bytes_eq-Decides x.key s.key).1 (ap (λ (y : Stamp). y.key) (sym same))) (eq-eqb x.number s.number (ap (λ (y : Stamp). y.number) (sym same)))) ∙ f))) ∙ sym f
]

found_there : (t : List ℕ) (s : Stamp) (es : List (Stamp × Place)) → list_any (is_at (stamp_cmp s)) (keys_of es) ≡ has_entry s.key s.number (map (entry_at_place t) es)
found_there t s [] = refl
found_there t s (e ∷ es) = λ i. same_test s e.0 i || found_there t s es i

-- it has none if the map finds no place
pub told_by : (t : List ℕ) (s : Stamp) (key : List ℕ) (number : ℕ) (es : List (Stamp × Place)) → s.key ≡ key → s.number ≡ number
    → not (is_some (lookup (is_at (stamp_cmp s)) es)) ≡ not (has_entry key number (map (entry_at_place t) es))
told_by t s key number es k n =
    ap not (is_some-lookup (is_at (stamp_cmp s)) es ∙ found_there t s es ∙ (λ i. has_entry (k i) (n i) (map (entry_at_place t) es)))

pub apart_unfound : (s : Stamp) (es : List (Stamp × Place)) → lookup (is_at (stamp_cmp s)) es ≡ None → Apart s es
apart_unfound s [] none = tt
apart_unfound s (e ∷ es) none = elim (cases_Bool (is_at (stamp_cmp s) e.0)) [
  | inl t ↦ let found = sym (lookup_head (is_at (stamp_cmp s)) e es t) ∙ none in absurd (cc found)
  | inr f ↦ (λ same. true≢false (sym ((Equal-is (stamp_cmp s e.0)).1 same) ∙ f), apart_unfound s es (sym (lookup_tail (is_at (stamp_cmp s)) e es f) ∙ none))
]

-- ---- entries

-- none has them where each has another key or number
pub absent_told : (key : List ℕ) (number : ℕ) (entries : List Entry) → IsAbsent key number entries → has_entry key number entries ≡ false
absent_told key number entries absent =
    list_any_none (λ (e : Entry). bytes_eq e.key key && e.number == number) entries
    (All-weaker (λ (e : Entry). stamp_of e ≢ record { key = key; number = number }) (λ (e : Entry). (bytes_eq e.key key && e.number == number) ≡ false)
    (λ e other. false_from_ne_true (bytes_eq e.key key && e.number == number) (λ at. (
    let p = and_parts (bytes_eq e.key key) (e.number == number) at in
    other (λ i. record { key = (bytes_eq-Decides e.key key).0 p.0 i; number = eqb-true e.number number p.1 i })))) entries absent)
