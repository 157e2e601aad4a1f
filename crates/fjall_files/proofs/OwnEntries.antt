-- Which of the entries of a folder are the engine's own files.
use Rattle.std.proofs.Common.{◌≡◌, ◌≢◌, inl, inr, ℕ, ◌<◌, Bool, List, ◌∷◌, ◌++◌, map, length, get_or, codes, decimal, All, None, lit<, refl, sym, ◌∙◌, ap, subst, append_assoc}
use Rattle.std.specs.Prelude.{IsFalse, String, string_bytes}
use Rattle.std.specs.Str.Pattern.{FindsTextPrefix, FindsCharPrefix, StripsPrefix}
use Rattle.std.specs.declared.alloc.Global.{Global}
use Rattle.std.specs.List.{Contains}
use Rattle.std.proofs.lemmas.List.{append_cancel_left, get_or-map, length-map}
use Rattle.std.proofs.lemmas.List.Elements.{All-map}
use Rattle.std.proofs.lemmas.Str.Pattern.{drop_at_char, strip_prefix_char}
use Rattle.fjall_base.specs.declared.disk.DirEntry.{DirEntry}
use Rattle.fjall_base.specs.Disk.{Name, DiskEntry, Missing, File, Folder, DiskState, IsNoFile, IsNoFolder, Lists, TellsEntry, folder_of}
use Rattle.fjall_files.specs.Names.{keyspace_folder, name_in}
use Rattle.fjall_files.specs.Own.{AreOwnFiles, HoldsOnlyOwn, IsOwn, IsOwnFile, IsOwnFileName, IsOwnIn}
use Rattle.fjall_files.specs.Regions.{HoldsOnly}
use Rattle.fjall_files.specs.declared.own.OwnFiles.{OwnFiles}

-- what stands at an index, by another name
pub contains_map : {A B : Type 0} (f : A → B) (xs : List A) (i : ℕ) (d : A) → i < length xs → Contains (map f xs) (f (get_or xs i d))
contains_map f xs i d lt = (i, subst (λ n. i < n) (sym (length-map xs f)) lt, get_or-map f xs i d (f (get_or xs i d)) lt)

-- ---- by its name

table_parts : (folder : Name) (n : ℕ) → name_in folder n ≡ folder ++ 47 ∷ (decimal n ++ codes ".table")
table_parts folder n = append_assoc (folder ++ codes "/") (decimal n) (codes ".table") ∙ append_assoc folder (codes "/") (decimal n ++ codes ".table")

-- what stands behind the folder in such a name
behind : (folder name inside : List ℕ) → name ≡ folder ++ inside → IsOwnIn folder name → (file : List ℕ) × (inside ≡ 47 ∷ file) × IsOwnFileName file
behind folder name inside at (inl is) = (codes "current", append_cancel_left folder inside (codes "/current") (sym at ∙ is), inl refl)
behind folder name inside at (inr (n, (small, is))) =
    (decimal n ++ codes ".table", append_cancel_left folder inside (47 ∷ (decimal n ++ codes ".table")) (sym at ∙ is ∙ table_parts folder n), inr (n, (small, refl)))

before : (folder name file : List ℕ) → name ≡ folder ++ 47 ∷ file → IsOwnFileName file → IsOwnIn folder name
before folder name file at (inl is) = inl (at ∙ ap (λ (l : List ℕ). folder ++ 47 ∷ l) is)
before folder name file at (inr (n, (small, is))) = inr (n, (small, at ∙ ap (λ (l : List ℕ). folder ++ 47 ∷ l) is ∙ sym (table_parts folder n)))

module _ (folder name inside : List ℕ) (front : StripsPrefix (FindsTextPrefix folder) name inside) where
  behind_folder : name ≡ folder ++ inside
  behind_folder = front.1.1 ∙ ap (λ l. folder ++ l) (sym front.2)

  pub no_slash : FindsCharPrefix 47 inside None → IsOwnIn folder name → ⊥
  no_slash none own = let (file, is, called) = behind folder name inside behind_folder own in strip_prefix_char 47 inside None none (lit< tt) file is

  module _ (file : List ℕ) (slash : StripsPrefix (FindsCharPrefix 47) inside file) where
    behind_slash : inside ≡ 47 ∷ file
    behind_slash = drop_at_char 47 inside 0 slash.0 slash.1 (lit< tt) ∙ ap (λ l. 47 ∷ l) (sym slash.2)

    pub own_if : IsOwnFileName file → IsOwnIn folder name
    own_if called = before folder name file (behind_folder ∙ ap (λ l. folder ++ l) behind_slash) called

    pub if_own : IsOwnIn folder name → IsOwnFileName file
    if_own own =
        let (other, is, called) = behind folder name inside behind_folder own in
        let same : other ≡ file = let e : 47 ∷ other ≡ 47 ∷ file = sym is ∙ behind_slash in cc in
        subst IsOwnFileName same called

-- ---- all that stands in a folder

abbrev Text : Type 0
Text = String Global

-- what isn't a folder is told as a file
told_file : (e : DiskEntry) (is_folder : Bool) → TellsEntry e is_folder → IsNoFolder e → IsFalse is_folder
told_file Missing is_folder tells kind = absurd tells
told_file (File synced unsynced) is_folder tells kind = tells
told_file Folder is_folder tells kind = absurd kind

-- what is told is there
told_there : (e : DiskEntry) (is_folder : Bool) → TellsEntry e is_folder → e ≢ Missing
told_there Missing is_folder tells none = absurd tells
told_there (File synced unsynced) is_folder tells none = cc
told_there Folder is_folder tells none = cc

module _ (state : DiskState) (id : ℕ) (listed : List DirEntry) (lists : Lists state (keyspace_folder id) listed) where
  pub own_entries : HoldsOnlyOwn state id → All (IsOwnFile (keyspace_folder id)) listed
  own_entries holds i d lt =
      let entry = get_or listed i d in
      let told = (lists.each i d lt).1 in
      let own = holds (string_bytes entry.name) (lists.each i d lt).0 (told_there (state (string_bytes entry.name)).now entry.is_folder told) in
      (told_file (state (string_bytes entry.name)).now entry.is_folder told own.1, own.0)

  module _ (files : List Text) (files_are : files ≡ map (λ entry. entry.name) listed) where
    pub files_inside : All (λ file. folder_of (string_bytes file) ≡ keyspace_folder id) files
    files_inside = subst (All (λ file. folder_of (string_bytes file) ≡ keyspace_folder id)) (sym files_are)
        (All-map (λ file. folder_of (string_bytes file) ≡ keyspace_folder id) (λ (e : DirEntry). e.name) listed (λ k d lt. (lists.each k d lt).0))

    pub files_whole : (name : Name) → folder_of name ≡ keyspace_folder id → (state name).now ≢ Missing → Contains (map string_bytes files) name
    files_whole name inside some =
        let (i, entry, lt, at, is) = lists.whole name inside some in
        let less : i < length (map (λ (e : DirEntry). e.name) listed) = subst (λ n. i < n) (sym (length-map listed (λ (e : DirEntry). e.name))) lt in
        let file = get_or-map (λ (e : DirEntry). e.name) listed i entry entry.name lt ∙ ap (λ (e : DirEntry). e.name) at in
        subst (λ l. Contains (map string_bytes l) name) (sym files_are)
        (subst (λ (n : Name). Contains (map string_bytes (map (λ (e : DirEntry). e.name) listed)) n) (ap (λ f. string_bytes f) file ∙ is)
        (contains_map string_bytes (map (λ (e : DirEntry). e.name) listed) i entry.name less))

    pub files_named : All (IsOwnFile (keyspace_folder id)) listed → All (λ file. IsOwn id (string_bytes file)) files
    files_named all = subst (All (λ file. IsOwn id (string_bytes file))) (sym files_are)
        (All-map (λ file. IsOwn id (string_bytes file)) (λ (e : DirEntry). e.name) listed (λ i d lt. (all i d lt).1))

-- ---- what is found

kind_of : (e : DiskEntry) → (e ≢ Missing → IsNoFolder e) → IsNoFolder e
kind_of Missing kind = tt
kind_of (File synced unsynced) kind = tt
kind_of Folder kind = kind (λ none. let no : ⊥ = cc in no)

-- such a folder holds these files and nothing else
pub holds_own : (state : DiskState) (id : ℕ) (own : OwnFiles) → AreOwnFiles state id own → HoldsOnlyOwn state id → IsNoFile (state (keyspace_folder id)).now
    → HoldsOnly state (keyspace_folder id) (map string_bytes own.files.items)
holds_own state id own are holds kind = record {
  kind = kind;
  each = All-map (λ (n : Name). IsNoFolder (state n).now) string_bytes own.files.items (λ i d lt.
      let file = get_or own.files.items i d in
      kind_of (state (string_bytes file)).now (λ some. (holds (string_bytes file) (are.inside i d lt) some).1));
  whole = λ q inside some. let (i, lt, at) = are.whole q inside some in (i, q, lt, at, refl);
}
