-- The marker while it is written: whatever a crash leaves is a database without keyspaces, made or still to be gone on with.
use Rattle.std.proofs.Common.{◌≡◌, inl, inr, ⊎_elim, ℕ, Bool, true, false, not, List, [], ◌∷◌, ◌++◌, codes, Some, Result, Ok, Err, refl, sym, ◌∙◌, ap, subst, arith, length}
use Rattle.std.proofs.lemmas.List.{append_cancel_left, take_all}
use Rattle.std.proofs.lemmas.Bool.{true≢false}
use Rattle.std.specs.Prelude.{OnOk, OnErr}
use Rattle.std.specs.List.{AllByRecursion}
use Rattle.std.specs.Str.{bytes_eq}
use Rattle.fjall_base.specs.declared.error.Error.{Error}
use Rattle.fjall_base.specs.declared.error.FormatVersion.TheVariants.{V3}
use Rattle.fjall_base.specs.Disk.{Name, DiskEntry, Missing, File, Folder, Place, DiskState, Image, IsImage, Survives, DiskStep, SyncFolder, Meaning, Took, Leaves, LeavesOnly, change, folder_of, settle, state_in}
use Rattle.fjall_base.proofs.Covers.{LeftAt}
use Rattle.fjall_base.proofs.Moments.{stays, steps_on}
use Rattle.fjall_base.proofs.States.{settle-in, settle-out}
use Rattle.fjall_base.proofs.Names.{bool_cases, same}
use Rattle.fjall_files.specs.Regions.{IsImageIn}
use Rattle.fjall_files.proofs.Parts.{in_region, region_along, region_settle}
use Rattle.fjall_files.specs.declared.marker.Marker.TheVariants.{Unfinished}
use Rattle.fjall_files.specs.Marker.{header, marker_tells}
use Rattle.fjall_meta.specs.Keyspaces.{no_keyspaces}
use Rattle.fjall_manifest.specs.Homes.{only}
use Rattle.fjall_manifest.specs.Catalog.{fields, first_catalog}
use Rattle.fjall_meta.specs.Replays.{bare}
use Rattle.fjall_recovery.specs.Folders.{ImageStandsFor, file_bytes, store_of_contents}
use Rattle.fjall_recovery.specs.Places.{contents_with, LiesInRoot, RestsInTree}
use Rattle.fjall_recovery.proofs.Holding.{IsLeft, a_rest_holds, crash_left}
use Rattle.fjall_repair.specs.Begun.{IsBegunOn}
use Rattle.fjall_repair.specs.Making.{ChangesAt, IsKept, IsMaking, KeepsAllTables, MakingGoesOn, StaysAt}
use Rattle.fjall_repair.specs.Plans.{AwaitsMarker, empty_journals, first_tree, marked}
use Rattle.fjall_repair.proofs.Awaiting.{batches_none}
use Rattle.fjall_repair.proofs.Moments.{elsewhere, settle_carries, step_elsewhere, table_stays}
use Rattle.fjall_repair.proofs.Named.{marker_no_table}
use Rattle.fjall_repair.proofs.Standing.{kept_image, unfinished_of}

-- all names but the marker's
abbrev pub others : Name → Bool
others q = not (bytes_eq q (codes "version"))

other_test : (q : Name) → others q ≡ true → bytes_eq q (codes "version") ≡ false
other_test q is = elim (bool_cases (bytes_eq q (codes "version"))) [
  | inl at ↦ let no : false ≡ true = rw at at is in absurd (true≢false (sym no))
  | inr out ↦ out
]

other_of : (q : Name) → bytes_eq q (codes "version") ≡ false → others q ≡ true
other_of q out = rw out refl

-- what a crash leaves at any moment
pub record IsMarking (state : DiskState) (image : Image) : Type 0 where
  pub making : IsMaking true image
  pub elsewhere : IsImageIn Survives others state image
  pub left : IsLeft image

-- ---- the moments

-- steps at the marker are seen at no other name
seen : (old state : DiskState) (steps : List DiskStep) (image : Image) → AllByRecursion (ChangesAt (codes "version")) steps → ((q : Name) → others q ≡ true → state q ≡ old q) → Leaves state steps image → IsImageIn Survives others old image
seen old state [] image each agree left = region_along others old state image agree (in_region others state image left)
seen old state (step ∷ steps) image each agree (inl now) = region_along others old state image agree (in_region others state image now)
seen old state (step ∷ steps) image each agree (inr later) =
    seen old (change step state) steps image each.1 (λ q at. step_elsewhere (codes "version") q state step (other_test q at) each.0 ∙ agree q at) later

module _ (old : Meaning) (kept : IsKept true (state_in old)) where
  pub marking_moments : (new : Meaning) → MakingGoesOn true old new → StaysAt (codes "version") old new → LeavesOnly old new (IsMarking (state_in old))
  marking_moments new goes stays_at =
      let run = goes.moments kept in
      let steps : run.added ≡ stays_at.added = append_cancel_left old.steps run.added stays_at.added (sym run.took.steps ∙ stays_at.took.steps) in
      record {
        added = run.added;
        took = run.took;
        each = λ image left. record {
          making = run.each image left;
          elsewhere = seen (state_in old) (state_in old) stays_at.added image stays_at.each (λ q at. refl) (subst (λ (l : List DiskStep). Leaves (state_in old) l image) steps left);
          left = crash_left (state_in old) run.added image left;
        };
      }

  pub settled_moments : (mid new : Meaning) (result : Result Unit Error) → MakingGoesOn true old mid → StaysAt (codes "version") old mid → OnOk result (Took mid new (SyncFolder [] ∷ [])) → OnErr result (Took mid new []) → LeavesOnly old new (IsMarking (state_in old))
  settled_moments mid new (Err e) goes stays_at ok err = stays old mid new (IsMarking (state_in old)) (marking_moments mid goes stays_at) err
  settled_moments mid new (Ok done) goes stays_at ok err =
      steps_on old mid new (IsMarking (state_in old)) (SyncFolder []) (marking_moments mid goes stays_at) ok
      (λ image is. record {
        making = kept_image true (settle (state_in mid) []) image ((settle_carries true (state_in mid) []).kept (goes.kept kept)) is;
        elsewhere = region_along others (state_in old) (state_in mid) image (λ q at. elsewhere (codes "version") old mid q (other_test q at) stays_at)
            (region_settle others (state_in mid) [] image (in_region others (settle (state_in mid) []) image is));
        left = crash_left (settle (state_in mid) []) [] image is;
      })

-- ---- what such an image stands for

-- of a file that was left all bytes are synced
whole_file : (image : Image) → IsLeft image → (entry : DiskEntry) → image (codes "version") ≡ entry → file_bytes entry ≡ Some (header V3) → image (codes "version") ≡ File (header V3) []
whole_file image left Missing is bytes = cc
whole_file image left Folder is bytes = cc
whole_file image left (File synced unsynced) is bytes =
    let all : File (synced ++ unsynced) [] ≡ File synced unsynced =
    subst (λ (e : DiskEntry). (l : DiskEntry) → Survives e l → l ≡ e) is (left.rested (codes "version")) (File (synced ++ unsynced) [])
    (length unsynced, ap (λ (l : List ℕ). File (synced ++ l) []) (sym (take_all (length unsynced) unsynced (omega arith)))) in
    is ∙ sym all ∙ ap (λ (l : List ℕ). File l []) (some_is (synced ++ unsynced) (header V3) bytes)
  where
    some_is : (a b : List ℕ) → Some a ≡ Some b → a ≡ b
    some_is a b e = cc

module _ (state : DiskState) (image : Image) (marking : IsMarking state image) where
  -- with the whole marker it is one that the whole database may leave
  marked_image : image (codes "version") ≡ File (header V3) [] → IsImage (marked state) image
  marked_image whole = record {
    kept = λ q there. elim (bool_cases (bytes_eq q (codes "version"))) [
      | inl at ↦ subst (λ (n : Name). LeftAt Survives (marked state n) (image n)) (sym (same {q = q} {r = codes "version"} at)) (inl (0, whole))
      | inr out ↦ subst (λ (p : Place). LeftAt Survives p (image q)) (sym (unmarked q out)) (marking.elsewhere.kept q (other_of q out) there)
    ];
    lost = λ q gone. elim (bool_cases (bytes_eq q (codes "version"))) [
      | inl at ↦ absurd (gone (inl (ap (λ (n : Name). folder_of n) (same {q = q} {r = codes "version"} at))))
      | inr out ↦ marking.elsewhere.lost q (other_of q out) gone
    ];
  }
    where
      unmarked : (q : Name) → bytes_eq q (codes "version") ≡ false → marked state q ≡ state q
      unmarked q out = rw out refl

-- without it the making is still to be gone on with
unmarked_making : (image : Image) → IsMaking true image → marker_tells (file_bytes (image (codes "version"))) ≡ Ok Unfinished → IsMaking false image
unmarked_making image making cut name = record {
  marker = λ is. subst (λ (n : Name). marker_tells (file_bytes (image n)) ≡ Ok Unfinished) (sym is) cut;
  named = (making name).named;
  journal = (making name).journal;
  folder = (making name).folder;
  records = (making name).records;
}

store_none : (sealed : List ℕ) (active : ℕ) → bare no_keyspaces ≡ store_of_contents (contents_with (empty_journals sealed active) first_tree [])
store_none sealed active = refl

pub stands_for : (state : DiskState) (sealed : List ℕ) (active : ℕ) (image : Image) → AwaitsMarker state sealed active → IsMarking state image → ImageStandsFor image (bare no_keyspaces)
stands_for state sealed active image awaits marking = ⊎_elim
    (λ cut. inr (unfinished_of image (unmarked_making image marking.making cut), refl))
    (λ whole.
    let at = whole_file image marking.left (image (codes "version")) refl whole in
    let holds = a_rest_holds (marked state) (empty_journals sealed active) (fields first_catalog ∷ []) first_tree refl awaits.root awaits.tree in
    inl (contents_with (empty_journals sealed active) first_tree [], holds.crash image (marked_image state image marking at), store_none sealed active))
    ((marking.making (codes "version")).marker refl)

-- ---- at the end

pub stays_tables : (old new : Meaning) → StaysAt (codes "version") old new → KeepsAllTables (state_in old) (state_in new)
stays_tables old new stays_at = table_stays (state_in old) (state_in new) (codes "version") marker_no_table (λ q not. elsewhere (codes "version") old new q not stays_at)

pub tables_kept : (old mid new : Meaning) (result : Result Unit Error) → StaysAt (codes "version") old mid → OnOk result (Took mid new (SyncFolder [] ∷ [])) → OnErr result (Took mid new []) → KeepsAllTables (state_in old) (state_in new)
tables_kept old mid new (Ok done) stays_at ok err id n small small' =
    subst (λ (s : DiskState). KeepsAllTables (state_in mid) s) (sym ok.state) (settle_carries true (state_in mid) []).tables id n small small'
    ∙ stays_tables old mid stays_at id n small small'
tables_kept old mid new (Err e) stays_at ok err id n small small' =
    subst (λ (s : DiskState). KeepsAllTables (state_in mid) s) (sym err.state) (λ i k lt lt'. refl) id n small small' ∙ stays_tables old mid stays_at id n small small'

module _ (old mid new : Meaning) (sealed : List ℕ) (active : ℕ) (awaits : AwaitsMarker (state_in old) sealed active) (stays_at : StaysAt (codes "version") old mid) (filled : (state_in mid (codes "version")).now ≡ File (header V3) []) (took : Took mid new (SyncFolder [] ∷ [])) where
  at_marker : state_in new (codes "version") ≡ only (File (header V3) [])
  at_marker = ap (λ (s : DiskState). s (codes "version")) took.state ∙ settle-in (state_in mid) [] (codes "version") refl ∙ ap (λ (e : DiskEntry). only e) filled

  at_other : (q : Name) → bytes_eq q (codes "version") ≡ false → state_in new q ≡ state_in old q
  at_other q out =
      let was = elsewhere (codes "version") old mid q out stays_at in
      elim (bool_cases (bytes_eq (folder_of q) [])) [
        | inl root ↦
            let at : folder_of q ≡ [] = same root in
            ap (λ (s : DiskState). s q) took.state ∙ settle-in (state_in mid) [] q at ∙ ap (λ (p : Place). only p.now) was ∙ sym (rested (state_in old q) (awaits.settled q at))
        | inr inner ↦ ap (λ (s : DiskState). s q) took.state ∙ settle-out (state_in mid) [] q inner ∙ was
      ]
    where
      rested : (p : Place) → p.older ≡ [] → p ≡ only p.now
      rested p none = ap (λ (l : List DiskEntry). record { now = p.now; older = l }) none

  is_marked : marked (state_in old) ≡ state_in new
  is_marked = let each = at_each in λ i q. each q i
    where
      at_each : (q : Name) → marked (state_in old) q ≡ state_in new q
      at_each q = elim (bool_cases (bytes_eq q (codes "version"))) [
        | inl at ↦ rw at (sym (ap (λ (n : Name). state_in new n) (same {q = q} {r = codes "version"} at) ∙ at_marker))
        | inr out ↦ rw out (sym (at_other q out))
      ]

  pub begun : IsBegunOn (state_in new) sealed active
  begun = record {
    j = empty_journals sealed active;
    root = subst (λ (s : DiskState). LiesInRoot s (empty_journals sealed active)) is_marked awaits.root;
    journals = refl;
    active_is = refl;
    later = refl;
    batches = batches_none sealed active;
    tree = subst (λ (s : DiskState). RestsInTree s (fields first_catalog ∷ []) first_tree) is_marked awaits.tree;
  }
