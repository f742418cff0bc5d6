-- What a crash left of one run is where the next one may begin.
use Rattle.std.proofs.Common.{◌≤◌, ℕ, List, Option, Some, None, ◌∙◌, ap, arith}
use Rattle.std.specs.FinMap.{get}
use Rattle.cache_model.specs.Files.{Image}
use Rattle.cache_model.specs.Images.{IsSound}
use Rattle.cache_model.specs.Plain.{Plain, visible_at}
use Rattle.cache_model.specs.Numbers.{Opens}
use Rattle.cache_disk.specs.State.{HostState, SameFiles}
use Rattle.cache_disk.specs.Calls.{AllLeft}
use Rattle.soft_index.proofs.SingleEntries.{entry_is_single}
use Rattle.cache_cli.specs.Talk.{Course, HoldsAtTurn, FitsTalk}
use Rattle.cache_cli.specs.Composing.{ReadsOn}
use Rattle.cache_cli.proofs.Same.{records_same, opens_same, sound_same}

-- whatever holds at a turn, the image is undamaged
is_sound : (from to : HostState) (course : Course) (said : Option (List ℕ)) (image : Image) → HoldsAtTurn from to course said image → IsSound image
is_sound from to course None image holds = holds
is_sound from to course (Some said) image holds = holds.0

pub still_sound : (from to : HostState) (course : Course) (said : Option (List ℕ)) (image : Image) (next : HostState)
    → HoldsAtTurn from to course said image → AllLeft next (λ left. SameFiles image left) → AllLeft next (λ left. IsSound left)
still_sound from to course said image next holds same = λ left there. sound_same image left (same left there) (is_sound from to course said image holds)

pub opens_files : (image files : Image) (given : ℕ) (plain : Plain) → SameFiles image files → Opens files given plain → Opens image given plain
opens_files image files given plain same opens = opens_same image files (records_same image files same) given plain opens

-- the entries of a key in one image are one, so what the next run opens shows what the talk says of the image
pub reads_on : (again : ℕ) (course : Course) (to : HostState) (said : List ℕ) (image files : Image) (plain : Plain) (fits : FitsTalk course to said image)
    → SameFiles image files → Opens files again plain → (key : List ℕ) → ReadsOn course.synced fits.talk fits.left plain key
reads_on again course to said image files plain fits same opens key =
    let fit = fits.fits key in
    let opened : Opens image again plain = opens_files image files again plain same opens in
    let reached : opened.mark ≤ plain.moment = omega (arith, opened.moment) in
    let one = entry_is_single image key (get plain.entries key) fit.entry (opened.entries key) fit.read in
    record {
      count = fit.count;
      holds = fit.holds;
      within = fit.within;
      reads = ap (visible_at plain.moment) one ∙ fit.reads opened.mark plain.moment opened.marked reached;
    }
