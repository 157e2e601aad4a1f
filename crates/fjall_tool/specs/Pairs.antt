-- How a pair is spelled, and the item that a bulk write has for it.
use Rattle.std.specs.Prelude.{◌≡◌, ◌≢◌, ◌==◌, ℕ, List, [], ◌∷◌, ◌++◌, length, if◌then◌else◌, Option, IfSome, Some, None}
use Rattle.std.specs.List.{AllZip}
use Rattle.hex.specs.Hex.{IsBytes}
use Rattle.fjall_base.specs.Pairs.{Bytes}
use Rattle.fjall_journal.specs.declared.op.Op.TheVariants.{Put, Remove}
use Rattle.fjall_lines.specs.declared.command.Command.{Command}
use Rattle.fjall_lines.specs.declared.command.Command.TheVariants.{Ask}
use Rattle.fjall_lines.specs.declared.command.Request.TheVariants.{Batch}
use Rattle.fjall_lines.specs.Lines.{Write, hex_word, lines_of, value_word}
use Rattle.fjall_reading.specs.Ingestions.{Ascending, KeyOp, with_item}

-- a key, and its new value, or none where it is removed
abbrev pub Pair : Type 0
Pair = Bytes × Option Bytes

-- the key and the value, parted by one space
abbrev pub pair_line : Pair → List ℕ
pair_line pair = hex_word pair.0 ++ 32 ∷ value_word pair.1

-- keys and values are bytes
abbrev pub IsPair : Pair → Type 0
IsPair pair = IsBytes pair.0 × IfSome pair.1 IsBytes

-- the pair that a line spells, or none where it spells none
pub record SpellsPair (line : List ℕ) (found : Option Pair) : Type 0 where
  pub spelled : IfSome found (λ pair. line ≡ pair_line pair)
  pub all_found : (pair : Pair) → IsPair pair → line ≡ pair_line pair → found ≡ Some pair

-- the writes of a batch, where this is one
abbrev pub writes_of : Option Command → Option (List Write)
writes_of (Some (Ask (Batch writes))) = Some writes
writes_of found = None

-- the one write of a batch, where it is one to the keyspace of id 0
abbrev pub only_pair : List Write → Option Pair
only_pair [] = None
only_pair (write ∷ more) = if write.0 == 0 then (if length more == 0 then Some (write.1, write.2) else None) else None

-- the item of a pair
abbrev pub item_of : Pair → KeyOp
item_of (key, Some value) = (key, Put value)
item_of (key, None) = (key, Remove)

-- the line spells a pair, of which this is the item
abbrev pub SpellsItem : List ℕ → KeyOp → Type 0
SpellsItem line item = (pair : Pair) × (line ≡ pair_line pair) × (item ≡ item_of pair)

-- The line spells a pair, and the bulk write has its item behind those that it had.
abbrev pub AddsPair : {H : Type 0} → List ℕ → Ascending H → Ascending H → Type 0
AddsPair line old new = (item : KeyOp) × SpellsItem line item × (new ≡ with_item item old)

-- The line spells no pair.
abbrev pub IsNoPair : List ℕ → Type 0
IsNoPair line = (pair : Pair) → IsPair pair → line ≢ pair_line pair

-- Each line spells a pair, and these are their items, in order.
abbrev pub SpellItems : Option (List ℕ) → List KeyOp → Type 0
SpellItems known items = IfSome known (λ text. AllZip SpellsItem (lines_of text) items)

-- Some line spells no pair.
abbrev pub HasNoPair : Option (List ℕ) → Type 0
HasNoPair known = IfSome known (λ text. (front back : List (List ℕ)) × (line : List ℕ) × (lines_of text ≡ front ++ line ∷ back) × IsNoPair line)
