use Rattle.std.proofs.Common.{ℕ, ap, sym, ◌∙◌, length, List, ◌++◌, arith, rules, refl, not, is_some, Option, Some, None, if◌then◌else◌}
use Rattle.fjall_memtable.specs.declared.place.Place.{Place}
use Rattle.fjall_memtable.specs.Entries.{entries_kept, inserted}
use Rattle.fjall_memtable.proofs.Absents.{apart_unfound, told_by}
use Rattle.fjall_memtable.proofs.Texts.{IsNext}
use Rattle.fjall_memtable.proofs.Puts.{when_ok, IsPut, put_all, put_entries, put_marks}
use Rattle.fjall_memtable.proofs.memtable.Memtable.put.Goals as goal

pub returns-in-Occupied-clause-told : goal.returns-in-Occupied-clause-told
returns-in-Occupied-clause-told c =
    let m = c.args.self.now in
    let found = rw c.in-Occupied.is at c.in_ok-vacant.ensures.found in
    sym (ap not found.0) ∙ told_by m.text.items c.in_ok-version_key.version_key c.args.key.now c.args.number m.map.entries c.in_ok-version_key.ensures.key c.in_ok-version_key.ensures.number

pub returns-clause-told : goal.returns-clause-told
returns-clause-told c =
    let m = c.args.self.now in
    let none = rw c.in-Vacant.is at c.in_ok-vacant.ensures.found in
    sym (ap (λ (found : Option Place). not (is_some found)) none) ∙ told_by m.text.items c.in_ok-version_key.version_key c.args.key.now c.args.number m.map.entries c.in_ok-version_key.ensures.key c.in_ok-version_key.ensures.number

pub invariant_of-self-2 : goal.invariant_of-self-2
invariant_of-self-2 c =
    let m = c.args.self.now in
    let t = m.text.items in
    let es = m.map.entries in
    let s = c.in_ok-version_key.version_key in
    let p : Place = record { at = length c.as_slice.result.now; value_len = length c.args.bytes.now; key_len = length c.args.key.now; is_value = c.args.is_value } in
    let kept = c.in_ok-reserve.ensures.items in
    let number = c.in_ok-version_key.ensures.number in
    let fits = c.ranges.number.fits in
    let next : IsNext t c.args.key.now c.args.bytes.now s p = record { at = ap length (c.as_slice.ensures.value ∙ kept); key_len = refl; value_len = refl; key = c.in_ok-version_key.ensures.key; number = omega (arith, number, fits); some = c.requires.some; tombstone = c.requires.tombstone } in
    let first = c.in_ok-extend_from_slice.ensures.items ∙ ap (λ (x : List ℕ). x ++ c.args.key.now) kept in
    let put : IsPut t c.args.key.now c.args.bytes.now s p es c.extend_from_slice-2.new.self.items _ = record { all = m.all; apart = apart_unfound s es (rw c.in-Vacant.is at c.in_ok-vacant.ensures.found); next = next; text = c.extend_from_slice-2.ensures.items ∙ when_ok c.extend_from_slice-2.result (c.extend_from_slice.new.self.items ++ c.args.bytes.now) c.extend_from_slice.new.self.items (c.extend_from_slice-2.ensures.succeeds (let r = c.in_ok-reserve.ensures.ok in let l = c.in_ok-extend_from_slice.ensures.len in let k = c.in_ok-extend_from_slice.ensures.capacity in omega (arith, r, l, k))) ∙ ap (λ (x : List ℕ). x ++ c.args.bytes.now) first; entries = search rules } in
    record { all = put_all t c.args.key.now c.args.bytes.now s p es c.extend_from_slice-2.new.self.items _ put }

pub returns-clause-new : goal.returns-clause-new
returns-clause-new c = λ made.
    let m = c.args.self.now in
    let t = m.text.items in
    let es = m.map.entries in
    let s = c.in_ok-version_key.version_key in
    let p : Place = record { at = length c.as_slice.result.now; value_len = length c.args.bytes.now; key_len = length c.args.key.now; is_value = c.args.is_value } in
    let kept = c.in_ok-reserve.ensures.items in
    let number = c.in_ok-version_key.ensures.number in
    let fits = c.ranges.number.fits in
    let next : IsNext t c.args.key.now c.args.bytes.now s p = record { at = ap length (c.as_slice.ensures.value ∙ kept); key_len = refl; value_len = refl; key = c.in_ok-version_key.ensures.key; number = omega (arith, number, fits); some = c.requires.some; tombstone = c.requires.tombstone } in
    let first = c.in_ok-extend_from_slice.ensures.items ∙ ap (λ (x : List ℕ). x ++ c.args.key.now) kept in
    let put : IsPut t c.args.key.now c.args.bytes.now s p es c.extend_from_slice-2.new.self.items _ = record { all = m.all; apart = apart_unfound s es (rw c.in-Vacant.is at c.in_ok-vacant.ensures.found); next = next; text = c.in_ok-extend_from_slice-2.ensures.items ∙ ap (λ (x : List ℕ). x ++ c.args.bytes.now) first; entries = search rules } in
    put_entries t c.args.key.now c.args.bytes.now s p es c.extend_from_slice-2.new.self.items _ put
    ∙ (λ i. inserted (record { key = c.in_ok-version_key.ensures.key i; number = number i; value = if c.args.is_value then Some c.args.bytes.now else None }) (entries_kept m))

pub returns-clause-marks : goal.returns-clause-marks
returns-clause-marks c =
    let m = c.args.self.now in
    let t = m.text.items in
    let es = m.map.entries in
    let s = c.in_ok-version_key.version_key in
    let p : Place = record { at = length c.as_slice.result.now; value_len = length c.args.bytes.now; key_len = length c.args.key.now; is_value = c.args.is_value } in
    let kept = c.in_ok-reserve.ensures.items in
    let number = c.in_ok-version_key.ensures.number in
    let fits = c.ranges.number.fits in
    let next : IsNext t c.args.key.now c.args.bytes.now s p = record { at = ap length (c.as_slice.ensures.value ∙ kept); key_len = refl; value_len = refl; key = c.in_ok-version_key.ensures.key; number = omega (arith, number, fits); some = c.requires.some; tombstone = c.requires.tombstone } in
    let first = c.in_ok-extend_from_slice.ensures.items ∙ ap (λ (x : List ℕ). x ++ c.args.key.now) kept in
    let put : IsPut t c.args.key.now c.args.bytes.now s p es c.extend_from_slice-2.new.self.items _ = record { all = m.all; apart = apart_unfound s es (rw c.in-Vacant.is at c.in_ok-vacant.ensures.found); next = next; text = c.in_ok-extend_from_slice-2.ensures.items ∙ ap (λ (x : List ℕ). x ++ c.args.bytes.now) first; entries = search rules } in
    put_marks t c.args.key.now c.args.bytes.now s p es c.extend_from_slice-2.new.self.items _ put
