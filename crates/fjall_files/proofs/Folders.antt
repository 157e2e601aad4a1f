-- What taking the parts off a name tells of tables.
use Rattle.std.proofs.Common.{◌≡◌, ℕ, List, ◌∷◌, ◌++◌, Option, Some, None, codes, decimal, sym, ap, ◌∙◌, lit<, append_assoc}
use Rattle.std.specs.Prelude.{IfSome}
use Rattle.std.specs.Str.Pattern.{FindsTextPrefix, FindsTextSuffix, FindsCharPrefix, StripsPrefix, StripsSuffix}
use Rattle.std.proofs.lemmas.List.{append_cancel_left}
use Rattle.std.proofs.lemmas.Str.Pattern.{drop_at_char, strip_prefix_char}
use Rattle.fjall_files.specs.Names.{IsNameOf, name_in}

behind_text : (prefix text rest : List ℕ) → StripsPrefix (FindsTextPrefix prefix) text rest → text ≡ prefix ++ rest
behind_text prefix text rest h = h.1.1 ∙ ap (λ l. prefix ++ l) (sym h.2)

behind_slash : (text rest : List ℕ) → StripsPrefix (FindsCharPrefix 47) text rest → text ≡ 47 ∷ rest
behind_slash text rest h = drop_at_char 47 text 0 h.0 h.1 (lit< tt) ∙ ap (λ l. 47 ∷ l) (sym h.2)

before_text : (suffix text front : List ℕ) → StripsSuffix (FindsTextSuffix suffix) text front → text ≡ front ++ suffix
before_text suffix text front h = h.1.1 ∙ ap (λ l. l ++ suffix) (sym h.2)

-- the parts of a table's name
pub name_parts : (folder : List ℕ) (table : ℕ) → name_in folder table ≡ folder ++ 47 ∷ (decimal table ++ codes ".table")
name_parts folder table = append_assoc (folder ++ codes "/") (decimal table) (codes ".table") ∙ append_assoc folder (codes "/") (decimal table ++ codes ".table")

-- a table's name has a slash behind the folder
pub no_slash : (folder name rest : List ℕ) (table : ℕ) → StripsPrefix (FindsTextPrefix folder) name rest → FindsCharPrefix 47 rest None → IsNameOf (name_in folder) name table → ⊥
no_slash folder name rest table front none is =
    let same = append_cancel_left folder rest (47 ∷ (decimal table ++ codes ".table")) (sym (behind_text folder name rest front) ∙ is.1 ∙ name_parts folder table) in
    strip_prefix_char 47 rest None none (lit< tt) (decimal table ++ codes ".table") same

-- the id between its folder and ".table"
pub table_of : (folder name rest file word : List ℕ) (found : Option ℕ) → StripsPrefix (FindsTextPrefix folder) name rest → StripsPrefix (FindsCharPrefix 47) rest file → StripsSuffix (FindsTextSuffix (codes ".table")) file word
    → IfSome found (IsNameOf decimal word) → IfSome found (IsNameOf (name_in folder) name)
table_of folder name rest file word None front slash end is = tt
table_of folder name rest file word (Some table) front slash end is =
    let front_is = behind_text folder name rest front in
    let slash_is = behind_slash rest file slash in
    let end_is = before_text (codes ".table") file word end in
    (is.0, rw (front_is, slash_is, end_is, is.1) (sym (name_parts folder table)))
