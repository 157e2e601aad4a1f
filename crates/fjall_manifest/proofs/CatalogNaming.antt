-- The names of tree 0's folder and of the file of its records.
use Rattle.std.proofs.Common.{◌≡◌, ℕ, ◌++◌, List, codes, ap, arith}
use Rattle.std.proofs.lemmas.Fmt.{decimal_digit}
use Rattle.fjall_files.specs.Names.{keyspace_folder, current_name}

pub folder_zero : keyspace_folder 0 ≡ codes "keyspaces/0"
folder_zero = ap (λ (d : List ℕ). codes "keyspaces/" ++ d) (decimal_digit 0 (omega arith))

pub current_zero : current_name 0 ≡ codes "keyspaces/0/current"
current_zero = ap (λ (f : List ℕ). f ++ codes "/current") folder_zero
