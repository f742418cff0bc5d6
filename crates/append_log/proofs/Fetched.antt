-- A place that the log gave is read as the record that was written there.
use Rattle.std.proofs.Common.{◌≡◌, ⊎_elim, inl, inr, ℕ, Bool, true, List, [], ◌∷◌, ◌==◌, Option, Some, None, Contains, IsSome, length, take, refl, sym, ◌∙◌, ap, subst, arith}
use Rattle.std.proofs.lemmas.Bool.Decides.{nat_tests}
use Rattle.std.specs.Prelude.{Result, Ok, Err, ◌&&◌, if◌then◌else◌, unwrap_or}
use Rattle.std.proofs.lemmas.List.{append-nil, take_at}
use Rattle.cache_model.specs.declared.faults.BadKind.TheVariants.{Place as OtherPlace}
use Rattle.cache_model.specs.declared.faults.StoreFault.{StoreFault}
use Rattle.cache_model.specs.declared.files.FileName.{FileName}
use Rattle.cache_model.specs.declared.files.Place.{Place}
use Rattle.cache_model.specs.Files.{Image, file_in, bytes_in}
use Rattle.cache_model.specs.Items.{Item, put, removal, end, IsItem, IsRecord, spelling, Front, whole, front}
use Rattle.cache_model.specs.DataFiles.{Frame, file_spelling, placed_frames}
use Rattle.cache_model.proofs.Spelled.{front-spelling}
use Rattle.cache_disk.specs.State.{HostState}
use Rattle.data_file.specs.declared.appender.Appender.{Appender}
use Rattle.data_file.specs.Appending.{written}
use Rattle.data_file.proofs.Frame.{placed_of}
use Rattle.record_format.specs.declared.items.OwnItem.{OwnItem}
use Rattle.record_format.specs.Meaning.{own_item}
use Rattle.append_log.specs.declared.log_files.LogFiles.{LogFiles}
use Rattle.append_log.specs.Current.{data_name, IsFileOf, IsNamed}
use Rattle.append_log.specs.Standing.{Closed, Held, Stands, Wrote, IsClosedIn, IsGoneOr, AreClosedIn}
use Rattle.data_file.specs.Fetching.{bytes_at, is_record, wrong_with, Fetches}
use Rattle.append_log.specs.Fetching.{Gives}
use Rattle.append_log.proofs.Places.{SpellsAt, contains_first, in_file, in_written}

pub is_item : (item : Item) → IsRecord item → IsItem item
is_item (put seq until key value) is = is
is_item (removal seq key) is = is
is_item (end moment) is = absurd is

a_record : (item : Item) → IsRecord item → is_record item ≡ true
a_record (put seq until key value) is = refl
a_record (removal seq key) is = refl
a_record (end moment) is = absurd is

-- the file of a place has the record there
pub spelled_there : (name : FileName) (place : Place) (item : Item) (files : Image) → place.length ≡ length (spelling item) → SpellsAt (bytes_in files name) place.at item → bytes_at files name place ≡ spelling item
spelled_there name place item files long is =
    ap (λ (l : List ℕ). take place.length l) is.1 ∙ take_at (spelling item) is.0 place.length (sym long)

-- a fetch of what stands there gives it
pub gives : (name : FileName) (place : Place) (item : Item) (a b : HostState) (result : Result OwnItem StoreFault) → IsRecord item → place.length ≡ length (spelling item)
    → bytes_at a.files name place ≡ spelling item → Fetches name place a b result → Gives item result
gives name place item a b result is long there fetches = by_result result fetches
  where
    found : front (bytes_at a.files name place) ≡ whole item (length (spelling item))
    found = ap front (there ∙ sym (append-nil (spelling item))) ∙ front-spelling item (is_item item is) []

    same : (n m : ℕ) → n ≡ m → (n == m) ≡ true
    same n m equal = grind (arith, nat_tests)

    right : wrong_with place.length (front (bytes_at a.files name place)) ≡ None
    right =
        ap (λ (f : Front). wrong_with place.length f) found
        ∙ ap (λ (r : Bool). if r && length (spelling item) == place.length then None else Some OtherPlace) (a_record item is)
        ∙ ap (λ (r : Bool). if r then None else Some OtherPlace) (same (length (spelling item)) place.length (sym long))

    by_result : (r : Result OwnItem StoreFault) → Fetches name place a b r → Gives item r
    by_result (Ok given) ok = (let both : whole (own_item given) place.length ≡ whole item (length (spelling item)) = sym ok.given ∙ found in cc, λ d err. cc)
    by_result (Err f) bad = (tt, λ d err. let no : None ≡ Some d.kind = sym right ∙ (bad.damaged d err).2 in cc)

bytes_there : (files : Image) (name : FileName) (bytes : List ℕ) → file_in files name ≡ Some bytes → bytes_in files name ≡ bytes
bytes_there files name bytes is = ap (λ (found : Option (List ℕ)). unwrap_or found []) is

-- a closed file that is there
in_closed : (store : ℕ) (a : HostState) (files : List Closed) (file : Closed) → AreClosedIn store a files → Contains files file → IsClosedIn store a file
in_closed store a [] file all within = absurd (omega (arith, within.1))
in_closed store a (one ∷ files) file all within =
    ⊎_elim (λ is. subst (λ (f : Closed). IsClosedIn store a f) is all.0) (λ later. in_closed store a files file all.1 later) (contains_first one files file within)

closed_there : (frames : List Frame) (found : Option (List ℕ)) → IsGoneOr frames found → IsSome found → found ≡ Some (file_spelling frames)
closed_there frames None is there = cc
closed_there frames (Some bytes) (inl none) there = cc
closed_there frames (Some bytes) (inr is) there = is

-- the current file
in_current : (store : ℕ) (log : Option Appender) (file : ℕ) (a : HostState) (frames : List Frame) (records : List Item) (at : ℕ) (item : Item) → IsNamed store log file → IsFileOf store log file a frames records
    → Contains (placed_of frames records) (at, item) → SpellsAt (bytes_in a.files (data_name store file)) at item
in_current store None file a frames records at item named is within =
    let none = subst (λ (l : List Item). Contains (placed_of [] l) (at, item)) is.1 (subst (λ (l : List Frame). Contains (placed_of l records) (at, item)) is.0 within) in
    absurd (omega (arith, none.1))
in_current store (Some log) file a frames records at item named is within =
    subst (λ (l : List ℕ). SpellsAt l at item) (sym (bytes_there a.files (data_name store file) (written frames records) (ap (λ (name : FileName). file_in a.files name) (sym named) ∙ is.reads)))
    (in_written frames records at item within)

-- each file that the log wrote to, where it is there
pub spells_held : (S : LogFiles) (a : HostState) (held : Held) (place : Place) (item : Item) → IsNamed S.store S.log S.file → Stands S a held → Wrote held S.file place item → IsSome (file_in a.files (data_name S.store place.file))
    → bytes_at a.files (data_name S.store place.file) place ≡ spelling item
spells_held S a held place item named stands wrote there = spelled_there (data_name S.store place.file) place item a.files wrote.1 (⊎_elim current closed wrote.2)
  where
    current : (place.file ≡ S.file) × Contains (placed_of held.frames held.records) (place.at, item) → SpellsAt (bytes_in a.files (data_name S.store place.file)) place.at item
    current is =
        subst (λ (n : ℕ). SpellsAt (bytes_in a.files (data_name S.store n)) place.at item) (sym is.0)
        (in_current S.store S.log S.file a held.frames held.records place.at item named stands.current is.1)

    closed : (file : Closed) × Contains held.closed file × (place.file ≡ file.number) × Contains (placed_frames 2 file.frames) (place.at, item) → SpellsAt (bytes_in a.files (data_name S.store place.file)) place.at item
    closed is =
        let file = is.0 in
        let known = in_closed S.store a held.closed file stands.closed is.1 in
        let found : file_in a.files (data_name S.store place.file) ≡ Some (file_spelling file.frames) =
        closed_there file.frames (file_in a.files (data_name S.store place.file)) (subst (λ (n : ℕ). IsGoneOr file.frames (file_in a.files (data_name S.store n))) (sym is.2) known.reads) there
        in
        subst (λ (l : List ℕ). SpellsAt l place.at item) (append-nil (file_spelling file.frames) ∙ sym (bytes_there a.files (data_name S.store place.file) (file_spelling file.frames) found))
        (in_file file.frames [] place.at item is.3)
