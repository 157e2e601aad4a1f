-- What parting a name at its last dot tells of journals.
use Rattle.std.proofs.Common.{◌≡◌, ℕ, List, [], ◌∷◌, length, Bool, true, false, ◌==◌, map, codes, decimal, refl, sym, ap, ◌∙◌, arith}
use Rattle.std.specs.Prelude.{◌≢◌, All}
use Rattle.std.specs.Char.{to_ascii_lowercase}
use Rattle.std.proofs.lemmas.Fmt.{decimal_nonempty}
use Rattle.std.proofs.lemmas.Bool.{eqb-true}
use Rattle.std.proofs.lemmas.List.Elements.{All-from_recursion, All-from_get_or}
use Rattle.fjall_files.specs.Names.{IsNameOf, IsJournalName, LooksLikeJournal, IsMisnamed}
use Rattle.fjall_files.proofs.Partings.{Without, Parted, stands, one_last}

jnl_all : All (λ b. b ≢ 46) (codes "jnl")
jnl_all = All-from_recursion (λ b. b ≢ 46) (codes "jnl") ((λ e. omega (arith, e)), ((λ e. omega (arith, e)), ((λ e. omega (arith, e)), tt)))

pub jnl_without : Without 46 (codes "jnl")
jnl_without i inside = jnl_all i 0 inside

-- a name with no dot
pub no_dot_no_journal : (name : List ℕ) (id : ℕ) → Without 46 name → IsJournalName name id → ⊥
no_dot_no_journal name id without is = stands 46 (decimal id) (codes "jnl") (rw is.1 at without)

pub no_dot_no_look : (name : List ℕ) → Without 46 name → LooksLikeJournal name → ⊥
no_dot_no_look name without looks = stands 46 looks.1.stem looks.0 (rw looks.1.parts at without)

-- the parts of a journal's name
pub journal_parts : (name stem extension : List ℕ) (id : ℕ) → Parted 46 name stem extension → IsJournalName name id → (stem ≡ decimal id) × (extension ≡ codes "jnl")
journal_parts name stem extension id parted is =
    one_last 46 stem extension (decimal id) (codes "jnl") (sym parted.parts ∙ is.1) parted.last jnl_without

pub journal_stem : (name stem extension : List ℕ) (id : ℕ) → Parted 46 name stem extension → IsJournalName name id → stem ≢ []
journal_stem name stem extension id parted is none =
    let e : decimal id ≡ [] = sym (journal_parts name stem extension id parted is).0 ∙ none in
    let n = ap length e in
    let some = decimal_nonempty id is.0 in
    omega (arith, n, some)

-- the extension of a name is what follows its last dot
pub look_parts : (name stem extension : List ℕ) → Parted 46 name stem extension → LooksLikeJournal name → (stem ≢ []) × (map to_ascii_lowercase extension ≡ codes "jnl")
look_parts name stem extension parted looks =
    let has = looks.1 in
    let same = one_last 46 stem extension has.stem looks.0 (sym parted.parts ∙ has.parts) parted.last (λ i inside. has.last i 0 inside) in
    (rw same.0 has.some, rw same.1 looks.2)

pub look_of : (name stem extension : List ℕ) → Parted 46 name stem extension → stem ≢ [] → map to_ascii_lowercase extension ≡ codes "jnl" → LooksLikeJournal name
look_of name stem extension parted some same =
    (extension, record { stem = stem; some = some; parts = parted.parts; last = All-from_get_or (λ b. b ≢ 46) extension 0 parted.last }, same)

pub empty_is : (text : List ℕ) (b : Bool) → b ≡ (length text == 0) → b ≡ true → text ≡ []
empty_is [] b h e = refl
empty_is (x ∷ xs) b h e = let none = eqb-true (length (x ∷ xs)) 0 (sym h ∙ e) in absurd (omega (arith, none))

-- another extension is no journal's
pub not_jnl_no_journal : (name stem extension : List ℕ) (id : ℕ) → Parted 46 name stem extension → IsJournalName name id
    → (false ≡ true → map to_ascii_lowercase extension ≡ codes "jnl") × (map to_ascii_lowercase extension ≡ codes "jnl" → false ≡ true) → ⊥
not_jnl_no_journal name stem extension id parted is test =
    let e = (journal_parts name stem extension id parted is).1 in
    let back = test.1 (rw e refl) in
    cc back

-- an id before the last dot, and "jnl" behind it
pub journal_of : (name stem extension : List ℕ) (id : ℕ) → Parted 46 name stem extension → IsNameOf decimal stem id → extension ≡ codes "jnl" → IsJournalName name id
journal_of name stem extension id parted is same = (is.0, rw (parted.parts, is.1, same) refl)

-- what has the extension and is no journal's
pub misnamed_of : (name stem extension : List ℕ) → Parted 46 name stem extension → stem ≢ [] → map to_ascii_lowercase extension ≡ codes "jnl" → ((id : ℕ) → IsNameOf decimal stem id → extension ≡ codes "jnl" → ⊥) → IsMisnamed name
misnamed_of name stem extension parted some same no_id =
    (look_of name stem extension parted some same, λ id is. let parts = journal_parts name stem extension id parted is in no_id id (is.0, parts.0) parts.1)

pub some_is : (text : List ℕ) (b : Bool) → b ≡ (length text == 0) → b ≡ false → text ≢ []
some_is text b h e none =
    let empty : (length text == 0) ≡ true = rw none refl in
    cc (h, e, empty)
