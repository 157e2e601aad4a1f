-- The ids in keys of the meta keyspace.
use Rattle.std.proofs.Common.{◌≡◌, ℕ, ◌<◌, ◌^◌, List, [], ◌++◌, length, nat_le, true, refl, ap, ◌∙◌, arith, Some}
use Rattle.std.proofs.Math.Nat.{mod-eq_of_lt}
use Rattle.std.proofs.lemmas.Bool.Decides.{nat_tests}
use Rattle.byteorder.specs.Endian.{big_bytes, big_number}
use Rattle.byteorder.specs.Numbers.{big_from-bytes}
use Rattle.fjall_options.specs.Options.{name_key, config_key}
use Rattle.fjall_meta.specs.Reading.{key_id}

-- eight bytes hold an id
id_read : (id : ℕ) (rest : List ℕ) → id < 2 ^ 64 → big_number 8 (big_bytes 8 id ++ rest) ≡ id
id_read id rest h =
    let size : 2 ^ 64 ≡ 256 ^ 8 = refl in
    let low : id < 256 ^ 8 = omega arith in
    big_from-bytes 8 id rest ∙ mod-eq_of_lt low

pub id_of_config_key : (id : ℕ) (name : List ℕ) → id < 2 ^ 64 → key_id (config_key id name) ≡ Some id
id_of_config_key id name h =
    let long : nat_le 9 (length (config_key id name)) ≡ true = grind (arith, nat_tests) in
    rw long (ap (λ n. Some n) (id_read id name h))

pub id_of_name_key : (id : ℕ) → id < 2 ^ 64 → key_id (name_key id) ≡ Some id
id_of_name_key id h = ap (λ n. Some n) (id_read id [] h)
