-- The names of the files and folders that the root holds.
use Rattle.std.specs.Prelude.{◌≡◌, ◌≢◌, ℕ, ◌<◌, ◌^◌, List, [], ◌∷◌, ◌++◌, map, codes, decimal, All}
use Rattle.std.specs.Char.{to_ascii_lowercase}
use Rattle.fjall_base.specs.Disk.{Name}

-- a journal's file: its id in decimal, and ".jnl"
abbrev pub journal_name : ℕ → Name
journal_name id = decimal id ++ codes ".jnl"

-- a keyspace's folder: its id in decimal, in "keyspaces"
abbrev pub keyspace_folder : ℕ → Name
keyspace_folder id = codes "keyspaces/" ++ decimal id

-- the file of a keyspace's records, in its folder
abbrev pub current_name : ℕ → Name
current_name id = keyspace_folder id ++ codes "/current"

-- a table's file in this folder: its id in decimal, and ".table"
abbrev pub name_in : Name → ℕ → Name
name_in folder table = folder ++ codes "/" ++ decimal table ++ codes ".table"

-- a table's file in the folder of its keyspace
abbrev pub table_name : ℕ → ℕ → Name
table_name id table = name_in (keyspace_folder id) table

-- the name is the one that such files have for this id, which has 64 bits
abbrev pub IsNameOf : (ℕ → Name) → Name → ℕ → Type 0
IsNameOf name_of name id = (id < 2 ^ 64) × (name ≡ name_of id)

-- the name of the journal of this id
abbrev pub IsJournalName : Name → ℕ → Type 0
IsJournalName = IsNameOf journal_name

-- the extension of a name: what follows its last dot, where something stands before that dot
pub record HasExtension (name : Name) (extension : List ℕ) : Type 0 where
  pub stem : List ℕ
  pub some : stem ≢ []
  pub parts : name ≡ stem ++ 46 ∷ extension
  pub last : All (λ b. b ≢ 46) extension

-- its extension is "jnl", whatever the case of the letters
abbrev pub LooksLikeJournal : Name → Type 0
LooksLikeJournal name = (extension : List ℕ) × HasExtension name extension × (map to_ascii_lowercase extension ≡ codes "jnl")

-- it is named nearly like a journal: it has that extension, and isn't the name of any
abbrev pub IsMisnamed : Name → Type 0
IsMisnamed name = LooksLikeJournal name × ((id : ℕ) → IsJournalName name id → ⊥)

-- the files and folders that the engine keeps, and the file that holds the lock
pub data KeptName : Type 0 where
  Lock : KeptName
  Version : KeptName
  Journal : ℕ → KeptName
  AllKeyspaces : KeptName
  Keyspace : ℕ → KeptName
  Current : ℕ → KeptName
  Table : ℕ → ℕ → KeptName

-- the name of each, from the root on
abbrev pub name_of : KeptName → Name
name_of Lock = codes "lock"
name_of Version = codes "version"
name_of (Journal id) = journal_name id
name_of AllKeyspaces = codes "keyspaces"
name_of (Keyspace id) = keyspace_folder id
name_of (Current id) = current_name id
name_of (Table id table) = table_name id table

-- its ids have 64 bits
abbrev pub HasIds : KeptName → Type 0
HasIds (Journal id) = id < 2 ^ 64
HasIds (Keyspace id) = id < 2 ^ 64
HasIds (Current id) = id < 2 ^ 64
HasIds (Table id table) = (id < 2 ^ 64) × (table < 2 ^ 64)
HasIds kept = Unit {0}
