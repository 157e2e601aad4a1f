-- What is told of one thing after another.
use Rattle.std.proofs.Common.{◌≡◌, inl, inr, ℕ, ◌==◌, true, false, zero, suc, ◌+◌, ◌<◌, ◌≤◌, List, [], ◌∷◌, ◌++◌, length, take, map, get_or, slice_get, None, Vec, Global, Result, Ok, Err, add-one, refl, sym, ◌∙◌, ap, subst, append_assoc, arith}
use Rattle.std.specs.Prelude.{IfOk, IfSome}
use Rattle.std.proofs.lemmas.Bool.Decides.{nat_tests}
use Rattle.std.proofs.lemmas.List.{take_all}
use Rattle.std.proofs.Math.Seq.{take-suc}
use Rattle.fjall_base.specs.declared.error.Error.{Error}
use Rattle.fjall_base.specs.declared.error.Error.TheVariants.{Io, OutOfMemory, Storage}
use Rattle.fjall_base.specs.declared.error.StorageError.{StorageError}
use Rattle.fjall_base.specs.Disk.{Image, Name}
use Rattle.fjall_files.specs.Names.{table_name}
use Rattle.fjall_files.specs.Texts.{text_in}
use Rattle.fjall_table.specs.Reading.{DamagedWhere}
use Rattle.fjall_table.specs.declared.table_info.TableInfo.{TableInfo}
use Rattle.fjall_table.specs.Blocks.{Entry}
use Rattle.fjall_table.specs.Tables.{Handle, IsTable, handles_of}
use Rattle.fjall_table.specs.TableReading.{HasNoIndex, IsNoTable}
use Rattle.fjall_table.proofs.TableBlocks.{one_index}
use Rattle.fjall_table.proofs.TableLaws.{tables_have_an_index}
use Rattle.fjall_table_reader.specs.Files.{IsIndexed}
use Rattle.fjall_table_reader.proofs.TableFiles.{has_an_index, one_index_of}
use Rattle.fjall_manifest.specs.declared.reading.LoadedHome.{LoadedHome}
use Rattle.fjall_inspect.specs.declared.report.Fault.{Fault}
use Rattle.fjall_inspect.specs.Faults.{AreToldOf, BlockTells, FileTells, HomeTells, IsOneFault, IsSomeTable, TableTells, is_fault}

-- ---- errors

pub damage_is : (damage : StorageError) (P : Type 0) (error : Error) → is_fault error ≡ true → DamagedWhere damage P error → P
damage_is damage P OutOfMemory fault is = let no : false ≡ true = fault in cc
damage_is damage P (Io kind) fault is = absurd is
damage_is damage P (Storage told) fault is = is.1
damage_is damage P error fault is = absurd is

pub memory_ran_out : (damage : StorageError) (P : Type 0) (error : Error) → is_fault error ≡ false → DamagedWhere damage P error → error ≡ OutOfMemory
memory_ran_out damage P OutOfMemory fault is = refl
memory_ran_out damage P (Storage told) fault is = let no : true ≡ false = fault in cc
memory_ran_out damage P error fault is = absurd is

-- ---- lengths

pub none_of : (n : ℕ) (faults : List Fault) → n ≡ length faults → (n == 0) ≡ true → faults ≡ []
none_of n [] is test = refl
none_of n (f ∷ faults) is test = let no : n ≡ 0 = grind (arith, nat_tests) in absurd (omega (arith, is, no))

pub some_of : (n : ℕ) (faults : List Fault) → n ≡ length faults → (n == 0) ≡ false → faults ≡ [] → ⊥
some_of n faults is test empty = let zero_is : n ≡ 0 = is ∙ ap (λ (l : List Fault). length l) empty in let no : (0 == 0) ≡ false = sym (ap (λ m. m == 0) zero_is) ∙ test in let yes : true ≡ false = no in cc

-- ---- one after another

module _ {X : Type 0} (Tell : X → List Fault → Type 0) where
  one_more : (xs : List X) (x : X) (faults more : List Fault) → AreToldOf Tell xs faults → Tell x more → AreToldOf Tell (xs ++ x ∷ []) (faults ++ more)
  one_more [] x faults more told one = (more, [], ap (λ (l : List Fault). l ++ more) told ∙ sym (append_nil more), one, refl)
    where
      append_nil : (l : List Fault) → l ++ [] ≡ l
      append_nil [] = refl
      append_nil (f ∷ l) = ap (λ (r : List Fault). f ∷ r) (append_nil l)
  one_more (y ∷ xs) x faults more (here, behind, is, tells, rest) one =
      (here, behind ++ more, ap (λ (l : List Fault). l ++ more) is ∙ append_assoc here behind more, tells, one_more xs x behind more rest one)

  -- one more of a list was looked at
  pub told_more : (xs : List X) (n : ℕ) (d x : X) → n < length xs → x ≡ get_or xs n d → (faults more : List Fault) → AreToldOf Tell (take n xs) faults → Tell x more → AreToldOf Tell (take (n + 1) xs) (faults ++ more)
  told_more xs n d x lt at faults more told one =
      subst (λ (l : List X). AreToldOf Tell l (faults ++ more)) (sym (ap (λ (m : ℕ). take m xs) (add-one n) ∙ take-suc xs n d lt ∙ ap (λ (y : X). take n xs ++ y ∷ []) (sym at)))
      (one_more (take n xs) x faults more told one)

  there : (xs : List X) (n : ℕ) (P : X → Type 0) → n < length xs → IfSome (slice_get xs n) P → (x : X) × (x ≡ get_or xs n x) × P x
  there [] n P lt is = absurd (omega arith)
  there (x ∷ xs) zero P lt is = (x, refl, is)
  there (x ∷ xs) (suc n) P lt is = there xs n P (omega arith) is

  -- the same where it was found by its index
  pub told_more_at : (xs : List X) (n : ℕ) → n < length xs → (faults more : List Fault) → AreToldOf Tell (take n xs) faults → IfSome (slice_get xs n) (λ x. Tell x more) → AreToldOf Tell (take (n + 1) xs) (faults ++ more)
  told_more_at xs n lt faults more told one =
      let found = there xs n (λ x. Tell x more) lt one in
      told_more xs n found.0 found.0 lt found.1 faults more told found.2

  -- all of it was looked at
  pub told_all : (xs : List X) (n : ℕ) → length xs ≤ n → (faults : List Fault) → AreToldOf Tell (take n xs) faults → AreToldOf Tell xs faults
  told_all xs n over faults told = subst (λ (l : List X). AreToldOf Tell l faults) (take_all n xs over) told

-- the same of things that are seen as others
pub told_map : {X Y : Type 0} (f : X → Y) (Tell : Y → List Fault → Type 0) (xs : List X) (faults : List Fault) → AreToldOf (λ x. Tell (f x)) xs faults → AreToldOf Tell (map f xs) faults
told_map f Tell [] faults told = told
told_map f Tell (x ∷ xs) faults (here, behind, is, tells, rest) = (here, behind, is, tells, told_map f Tell xs behind rest)

-- ---- a table's file

module _ (name : Name) (info : TableInfo) (bytes : List ℕ) where
  -- its end is wrong
  pub end_told : (faults : List Fault) → HasNoIndex bytes info → IsOneFault name None faults → FileTells name info bytes faults
  end_told faults none one = inr (record {
    wrong = λ some. let found = has_an_index info bytes some.0 some.1 in none found.0 found.1.len found.1.index;
    some = λ empty. let no = sym one.only ∙ empty in absurd cc;
    blocks = λ handles is. absurd (none handles is.len is.index);
    end = λ no. one;
  })

  module _ (handles : List Handle) (is : IsIndexed info bytes handles) where
    pub right_told : (entries : List Entry) (faults : List Fault) → IsTable bytes entries → faults ≡ [] → FileTells name info bytes faults
    right_told entries faults table empty =
        let found = tables_have_an_index bytes entries table in
        inl ((entries, record { len = is.len; table = table; count = (one_index bytes handles (handles_of 0 found.0) info.entry_count (length entries) is.index found.3).1 }), empty)

    wrong_file : IsNoTable bytes → IsSomeTable info bytes → ⊥
    wrong_file none some = none some.0 some.1.table

    pub blocks_told : (faults : List Fault) → IsNoTable bytes → AreToldOf (BlockTells name bytes) handles faults → (faults ≡ [] → ⊥) → FileTells name info bytes faults
    blocks_told faults none told some = inr (record {
      wrong = wrong_file none;
      some = some;
      blocks = λ others same. inl (subst (λ (l : List Handle). AreToldOf (BlockTells name bytes) l faults) (one_index_of info bytes handles others is same) told);
      end = λ no. absurd (no handles is);
    })

    pub none_told : (told faults : List Fault) → IsNoTable bytes → AreToldOf (BlockTells name bytes) handles told → told ≡ [] → IsOneFault name None faults → FileTells name info bytes faults
    none_told told faults none are empty one = inr (record {
      wrong = wrong_file none;
      some = λ nothing. let no = sym one.only ∙ nothing in absurd cc;
      blocks = λ others same. inr (subst (λ (l : List Handle). AreToldOf (BlockTells name bytes) l []) (one_index_of info bytes handles others is same) (subst (λ (l : List Fault). AreToldOf (BlockTells name bytes) handles l) empty are), one);
      end = λ no. absurd (no handles is);
    })

-- ---- on a disk

-- what is told of a file that was read is told of its table
module _ (image : Image) (id : ℕ) (info : TableInfo) (name other : Name) (bytes : List ℕ) (named : name ≡ table_name id info.id) (read : other ≡ table_name id info.id) (is : bytes ≡ text_in (image other)) where
  pub table_told : (r : Result (Vec Fault Global) Error) → IfOk r (λ faults. FileTells name info bytes faults.items) → IfOk r (λ faults. TableTells image id info faults.items)
  table_told (Ok faults) told =
      subst (λ (n : Name). FileTells n info (text_in (image (table_name id info.id))) faults.items) named (subst (λ (b : List ℕ). FileTells name info b faults.items) (is ∙ ap (λ (n : Name). text_in (image n)) read) told)
  table_told (Err error) told = tt

module _ (image mid : Image) (same : mid ≡ image) where
  -- one table more was looked at
  pub table_more : (id : ℕ) (tables : List TableInfo) (n : ℕ) (d : TableInfo) → n < length tables → (faults more all : List Fault) → all ≡ faults ++ more
      → AreToldOf (TableTells image id) (take n tables) faults → TableTells mid id (get_or tables n d) more → AreToldOf (TableTells image id) (take (n + 1) tables) all
  table_more id tables n d lt faults more all is told one =
      let here = subst (λ (i : Image). TableTells i id (get_or tables n d) more) same one in
      subst (λ (l : List Fault). AreToldOf (TableTells image id) (take (n + 1) tables) l) (sym is) (told_more (TableTells image id) tables n d (get_or tables n d) lt refl faults more told here)

  -- one home more
  pub home_more : (homes : List LoadedHome) (n : ℕ) (d home : LoadedHome) → n < length homes → home ≡ get_or homes n d → (tables : List TableInfo) → tables ≡ home.record.tables.items
      → (faults more all : List Fault) → all ≡ faults ++ more → AreToldOf (HomeTells image) (take n homes) faults → AreToldOf (TableTells mid home.id) tables more → AreToldOf (HomeTells image) (take (n + 1) homes) all
  home_more homes n d home lt at tables are faults more all is told one =
      let here = subst (λ (l : List TableInfo). AreToldOf (TableTells image home.id) l more) are (subst (λ (i : Image). AreToldOf (TableTells i home.id) tables more) same one) in
      subst (λ (l : List Fault). AreToldOf (HomeTells image) (take (n + 1) homes) l) (sym is) (told_more (HomeTells image) homes n d home lt at faults more told here)
