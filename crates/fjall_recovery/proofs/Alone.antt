-- An image holds one list of journals, and each keyspace's folder one home.
use Rattle.std.proofs.Common.{◌≡◌, ◌⊎◌, inl, inr, ⊎_elim, ℕ, zero, suc, ◌<◌, List, [], ◌∷◌, map, All, Option, Some, None, Result, Ok, refl, sym, ◌∙◌, ap, subst, arith}
use Rattle.std.specs.Prelude.{◌↔◌, Contains}
use Rattle.std.specs.List.Sorted.{IsStrictlyIncreasing}
use Rattle.std.proofs.lemmas.List.Kept.{AllPairs-from_increasing}
use Rattle.fjall_base.specs.declared.error.Error.{Error}
use Rattle.fjall_base.specs.Store.{Store}
use Rattle.fjall_base.specs.Disk.{Image}
use Rattle.fjall_journal.specs.Batches.{IsWhole}
use Rattle.fjall_journal.proofs.Wholes as Wholes
use Rattle.std.specs.FinMap.{get}
use Rattle.fjall_manifest.specs.Homes.{Home}
use Rattle.fjall_manifest.proofs.Meanings.{one_home}
use Rattle.fjall_meta.specs.Keyspaces.{Keyspaces, keyspace_at}
use Rattle.fjall_meta.specs.declared.living.LivingKeyspace.{LivingKeyspace}
use Rattle.fjall_meta.proofs.Rising.{Rises, from_pairs}
use Rattle.fjall_files.specs.declared.marker.Marker.{Marker}
use Rattle.fjall_files.specs.declared.marker.Marker.TheVariants.{Whole, Unfinished}
use Rattle.fjall_files.specs.Marker.{marker_tells}
use Rattle.fjall_meta.proofs.Slots.{same_maps}
use Rattle.fjall_manifest.proofs.CatalogMeanings.{one_catalog}
use Rattle.fjall_recovery.specs.Folders.{Contents, ImageStandsFor, IsOpenable, IsSound, marker_bytes, store_of_contents, with_versions}
use Rattle.fjall_recovery.specs.Homes.{HasHomeAt, HaveHomes, HaveVersions, Homes, Versions}
use Rattle.fjall_recovery.specs.Journals.{WholeJournal, AreJournalsRead, AreJournalIds, HoldsJournals, journal_text}
use Rattle.fjall_recovery.proofs.Storing.{one_map_of_versions}

-- ---- rising lists

abbrev pub AreAlike : List ℕ → List ℕ → Type 0
AreAlike xs ys = (n : ℕ) → Contains xs n ↔ Contains ys n

first : (x : ℕ) (xs : List ℕ) → Contains (x ∷ xs) x
first x xs = (0, omega arith, refl)

behind : (x n : ℕ) (xs : List ℕ) → Contains xs n → Contains (x ∷ xs) n
behind x n xs (k, lt, at) = (suc k, omega (arith, lt), at)

cases : (x n : ℕ) (xs : List ℕ) → Contains (x ∷ xs) n → (x ≡ n) ⊎ Contains xs n
cases x n xs (zero, lt, at) = inl at
cases x n xs (suc k, lt, at) = inr (k, omega (arith, lt), at)

above : (x n : ℕ) (xs : List ℕ) → All (λ y. x < y) xs → Contains xs n → x < n
above x n xs all (k, lt, at) = subst (λ m. x < m) at (all k n lt)

one_rising : (xs ys : List ℕ) → Rises (λ x y. x < y) xs → Rises (λ x y. x < y) ys → AreAlike xs ys → xs ≡ ys
one_rising [] [] up down same = refl
one_rising [] (y ∷ ys) up down same = let none : Contains [] y = (same y).1 (first y ys) in absurd (omega (arith, none.1))
one_rising (x ∷ xs) [] up down same = let none : Contains [] x = (same x).0 (first x xs) in absurd (omega (arith, none.1))
one_rising (x ∷ xs) (y ∷ ys) up down same =
    let least : x ≡ y = ⊎_elim (λ e. sym e) (λ later. ⊎_elim (λ e. e) (λ other. let a = above y x ys down.0 later in let b = above x y xs up.0 other in absurd (omega (arith, a, b))) (cases x y xs ((same y).1 (first y ys)))) (cases y x ys ((same x).0 (first x xs))) in
    let rest : AreAlike xs ys = λ n. (
      (λ has. ⊎_elim (λ e. let lt = above x n xs up.0 has in absurd (omega (arith, lt, least, e))) (λ there. there) (cases y n ys ((same n).0 (behind x n xs has)))),
      (λ has. ⊎_elim (λ e. let lt = above y n ys down.0 has in absurd (omega (arith, lt, least, e))) (λ there. there) (cases x n xs ((same n).1 (behind y n ys has)))),
    ) in
    ap (λ z. z ∷ xs) least ∙ ap (λ (l : List ℕ). y ∷ l) (one_rising xs ys up.1 down.1 rest)

-- two ascending lists of the same numbers are one
pub one_ascending : (xs ys : List ℕ) → IsStrictlyIncreasing xs → IsStrictlyIncreasing ys → AreAlike xs ys → xs ≡ ys
one_ascending xs ys up down same = one_rising xs ys (from_pairs (λ x y. x < y) xs (AllPairs-from_increasing xs up)) (from_pairs (λ x y. x < y) ys (AllPairs-from_increasing ys down)) same

pub one_list_of_ids : (image : Image) (ids others : List ℕ) → AreJournalIds image ids → AreJournalIds image others → ids ≡ others
one_list_of_ids image ids others a b =
    one_ascending ids others a.ascending b.ascending
    (λ n. ((λ has. (b.each n).1 ((a.each n).0 has)), (λ has. (a.each n).1 ((b.each n).0 has))))

-- ---- journals

some_end : (image : Image) (j : WholeJournal) (journals : List WholeJournal) → AreJournalsRead image (j ∷ journals) → (end : ℕ) × IsWhole (journal_text image j.id) j.batches end
some_end image j [] (inl clean) = (clean.end, clean.whole)
some_end image j [] (inr torn) = (torn.end, torn.whole)
some_end image j (k ∷ journals) read = (read.0.end, read.0.whole)

rest_read : (image : Image) (j : WholeJournal) (journals : List WholeJournal) → AreJournalsRead image (j ∷ journals) → AreJournalsRead image journals
rest_read image j [] read = tt
rest_read image j (k ∷ journals) read = read.1

same_journal : (j k : WholeJournal) → j.id ≡ k.id → j.batches ≡ k.batches → j ≡ k
same_journal j k ids batches = ap (λ i. let r : WholeJournal = record { id = i; batches = j.batches } in r) ids ∙ ap (λ bs. let r : WholeJournal = record { id = k.id; batches = bs } in r) batches

pub one_reading : (image : Image) (journals others : List WholeJournal) → map (λ (j : WholeJournal). j.id) journals ≡ map (λ (j : WholeJournal). j.id) others → AreJournalsRead image journals → AreJournalsRead image others → journals ≡ others
one_reading image [] [] same a b = refl
one_reading image [] (k ∷ others) same a b = let no : ⊥ = cc in absurd no
one_reading image (j ∷ journals) [] same a b = let no : ⊥ = cc in absurd no
one_reading image (j ∷ journals) (k ∷ others) same a b =
    let ids : j.id ≡ k.id = cc in
    let rest : map (λ (j : WholeJournal). j.id) journals ≡ map (λ (j : WholeJournal). j.id) others = cc in
    let mine = some_end image j journals a in
    let theirs = some_end image k others b in
    let batches : j.batches ≡ k.batches = (Wholes.one_reading (journal_text image k.id) j.batches k.batches mine.0 theirs.0 (subst (λ i. IsWhole (journal_text image i) j.batches mine.0) ids mine.1) theirs.1).0 in
    ap (λ (z : WholeJournal). z ∷ journals) (same_journal j k ids batches) ∙ ap (λ (l : List WholeJournal). k ∷ l) (one_reading image journals others rest (rest_read image j journals a) (rest_read image k others b))

pub one_list_of_journals : (image : Image) (journals others : List WholeJournal) → HoldsJournals image journals → HoldsJournals image others → journals ≡ others
one_list_of_journals image journals others a b = one_reading image journals others (one_list_of_ids image _ _ a.ids b.ids) a.read b.read

-- ---- keyspaces

one_at : (image : Image) (id : ℕ) (k : Option LivingKeyspace) (a b : Option Home) → HasHomeAt image id k a → HasHomeAt image id k b → a ≡ b
one_at image id (Some k) (Some x) (Some y) one two = ap Some (one_home image id one.records two.records x y one.home.files two.home.files).1
one_at image id (Some k) (Some x) None one two = absurd two
one_at image id (Some k) None b one two = absurd one
one_at image id None (Some x) b one two = absurd one
one_at image id None None (Some y) one two = absurd two
one_at image id None None None one two = refl

pub one_map_of_homes : (image : Image) (living : List LivingKeyspace) (homes others : Homes) → HaveHomes image living homes → HaveHomes image living others → homes ≡ others
one_map_of_homes image living homes others a b = same_maps homes others (λ id. one_at image id (keyspace_at id living) (get homes id) (get others id) (a id) (b id))

-- ---- the whole folder

same_contents : (c d : Contents) → c.journals ≡ d.journals → c.keyspaces ≡ d.keyspaces → c.last ≡ d.last → c.homes ≡ d.homes → c.versions ≡ d.versions → c ≡ d
same_contents c d journals keyspaces last homes versions = λ i. record { journals = journals i; keyspaces = keyspaces i; last = last i; homes = homes i; versions = versions i }

-- what an opening finds is one, but for the versions
pub one_openable : (image : Image) (c d : Contents) → IsOpenable image c → IsOpenable image d → with_versions d.versions c ≡ d
one_openable image c d a b =
    let catalog = one_catalog image a.records b.records c.last d.last c.keyspaces d.keyspaces a.catalog b.catalog in
    let homes = one_map_of_homes image d.keyspaces.living c.homes d.homes (subst (λ (s : Keyspaces). HaveHomes image s.living c.homes) catalog.2 a.homes) b.homes in
    same_contents (with_versions d.versions c) d (one_list_of_journals image c.journals d.journals a.journals b.journals) catalog.2 catalog.1 homes refl

pub one_contents : (image : Image) (c d : Contents) → IsSound image c → IsSound image d → c ≡ d
one_contents image c d a b =
    let same = one_openable image c d a.openable b.openable in
    let homes : c.homes ≡ d.homes = ap (λ (e : Contents). e.homes) same in
    let versions : c.versions ≡ d.versions = one_map_of_versions d.homes c.versions d.versions (subst (λ (h : Homes). HaveVersions h c.versions) homes a.versions) b.versions in
    ap (λ (v : Versions). with_versions v c) versions ∙ same

not_both : (told : Result Marker Error) → told ≡ Ok Whole → told ≡ Ok Unfinished → ⊥
not_both told whole unfinished = let no = sym whole ∙ unfinished in cc

pub one_store : (image : Image) (s t : Store) → ImageStandsFor image s → ImageStandsFor image t → s ≡ t
one_store image s t (inl (c, sound, is)) (inl (d, other, at)) = is ∙ ap store_of_contents (one_contents image c d sound other) ∙ sym at
one_store image s t (inl (c, sound, is)) (inr (begun, at)) = absurd (not_both (marker_tells (marker_bytes image)) sound.openable.marker begun.marker)
one_store image s t (inr (begun, is)) (inl (c, sound, at)) = absurd (not_both (marker_tells (marker_bytes image)) sound.openable.marker begun.marker)
one_store image s t (inr (begun, is)) (inr (other, at)) = is ∙ sym at
