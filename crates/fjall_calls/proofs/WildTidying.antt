-- Nothing stands in the way on what a wild crash left, where nothing did.
use Rattle.std.proofs.Common.{◌≡◌, ◌≢◌, List, refl, sym, ◌∙◌, subst}
use Rattle.std.specs.List.{AllByRecursion}
use Rattle.fjall_base.specs.Disk.{Name, DiskEntry, Missing, File, Folder, DiskState, DiskStep, Image, IsFile, IsNoFile, IsNoFolder, LeavesBy, disk_of}
use Rattle.fjall_files.specs.Names.{KeptName, Lock, Version, Journal, AllKeyspaces, Keyspace, Current, Table}
use Rattle.fjall_files.specs.Tidy.{FitsAt, IsOfKind, IsTidy, IsTidyStep}
use Rattle.fjall_files.proofs.Tidying.{left_tidy}
use Rattle.fjall_recovery.specs.Wild.{IsCutFrom, SurvivesUnforged}
use Rattle.fjall_recovery.proofs.Cutting.{cut_amid}

-- no file and no folder stands where none does in what was cut from it, and nothing where nothing does
abbrev IsLike : DiskEntry → DiskEntry → Type 0
IsLike cut shown = (IsNoFile cut → IsNoFile shown) × (IsNoFolder cut → IsNoFolder shown) × (shown ≢ Missing → cut ≢ Missing)

some_file : (entry : DiskEntry) → IsFile entry → entry ≢ Missing
some_file Missing file is = file
some_file (File synced unsynced) file is = let no : File synced unsynced ≡ Missing = is in cc
some_file Folder file is = file

no_file_there : (entry : DiskEntry) → IsFile entry → IsNoFile entry → ⊥
no_file_there Missing file none = file
no_file_there (File synced unsynced) file none = none
no_file_there Folder file none = file

like_cut : (shown cut : DiskEntry) → IsCutFrom shown cut → IsLike cut shown
like_cut Missing cut is = (λ no. tt, λ no. tt, λ there. absurd (there refl))
like_cut (File synced unsynced) cut is = (λ no. no_file_there cut (is.file.0 tt) no, λ no. tt, λ there. some_file cut (is.file.0 tt))
like_cut Folder cut is =
    let at : cut ≡ Folder = is.folder.0 refl in
    (λ no. tt, λ no. subst IsNoFolder at no, λ there gone. let no : Folder ≡ Missing = sym at ∙ gone in cc)

kind_like : (kept : KeptName) (cut shown : DiskEntry) → IsLike cut shown → IsOfKind kept cut → IsOfKind kept shown
kind_like AllKeyspaces cut shown like is = like.0 is
kind_like (Keyspace id) cut shown like is = like.0 is
kind_like Lock cut shown like is = like.1 is
kind_like Version cut shown like is = like.1 is
kind_like (Journal id) cut shown like is = like.1 is
kind_like (Current id) cut shown like is = like.1 is
kind_like (Table id n) cut shown like is = like.1 is

fits_like : (name : Name) (cut shown : DiskEntry) → IsLike cut shown → FitsAt name cut → FitsAt name shown
fits_like name cut shown like fits = record {
  kind = λ kept ids is. kind_like kept cut shown like (fits.kind kept ids is);
  home = λ id some small inside there. fits.home id some small inside (like.2 there);
}

-- at whichever moment of such steps
pub wild_tidy : (steps : List DiskStep) (state : DiskState) (wild : Image) → AllByRecursion IsTidyStep steps → IsTidy state → LeavesBy SurvivesUnforged state steps wild → IsTidy (disk_of wild)
wild_tidy steps state wild each tidy left =
    let cut = cut_amid state steps wild left in
    let usual : IsTidy (disk_of cut.0) = left_tidy steps state cut.0 each tidy cut.1 in
    λ name. (fits_like name (cut.0 name) (wild name) (like_cut (wild name) (cut.0 name) (cut.2 name)) (usual name).0, tt)
