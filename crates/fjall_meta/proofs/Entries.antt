-- `==` of entries.
use Rattle.std.proofs.Common.{◌≡◌, ℕ, ◌&&◌, true, List, eqb, refl, subst}
use Rattle.std.proofs.lemmas.Slice.Eq.{bytes_eq-Decides}
use Rattle.std.proofs.lemmas.Bool.{and_parts}
use Rattle.std.proofs.lemmas.Bool.Decides.{Decides-eqb}
use Rattle.std.specs.Bool.{Decides}
use Rattle.std.specs.Str.{bytes_eq}
use Rattle.fjall_meta.specs.declared.entry.MetaEntry.{MetaEntry}
use Rattle.fjall_meta.specs.contracts.entry.MetaEntryPartialEq.TheImpl.{eq-value}

same_entry : (k l v w : List ℕ) (n m : ℕ) → k ≡ l → v ≡ w → n ≡ m → (let a : MetaEntry = record { key = k; value = v; number = n } in let b : MetaEntry = record { key = l; value = w; number = m } in a ≡ b)
same_entry k l v w n m key value number = rw (key, value, number) refl

itself : (a : MetaEntry) → eq-value.it a a ≡ true
itself a = rw ((bytes_eq-Decides a.key a.key).1 refl, (bytes_eq-Decides a.value a.value).1 refl, (Decides-eqb a.number a.number).1 refl) refl

-- `==` decides whether two entries are one
pub entry_eq : (a b : MetaEntry) → Decides (eq-value.it a b) (a ≡ b)
entry_eq a b = (
  λ same. (
      let keys = and_parts (bytes_eq a.key b.key) (bytes_eq a.value b.value && eqb a.number b.number) same in
      let values = and_parts (bytes_eq a.value b.value) (eqb a.number b.number) keys.1 in
      same_entry a.key b.key a.value b.value a.number b.number ((bytes_eq-Decides a.key b.key).0 keys.0) ((bytes_eq-Decides a.value b.value).0 values.0) ((Decides-eqb a.number b.number).0 values.1)
      ),
  λ same. subst (λ (e : MetaEntry). eq-value.it a e ≡ true) same (itself a),
)
