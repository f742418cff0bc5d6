-- An image that is built with an eye on the turns to come is one that a crash may leave.
use Rattle.std.proofs.Common.{◌≡◌, ◌∙◌, sym, ap, subst, refl, ℕ, ◌⊎◌, inl, inr, Bool, true, false, ◌||◌, cond, List, [], ◌∷◌, ◌++◌, length, Option, Some, None, is_some, option_map, unwrap_or}
use Rattle.std.specs.Prelude.{Vec}
use Rattle.std.specs.declared.alloc.Global.{Global}
use Rattle.std.specs.Map.{set_value}
use Rattle.cache_model.specs.declared.files.FileName.{FileName}
use Rattle.cache_model.specs.Files.{Image, file_in, bytes_in, is_name}
use Rattle.cache_disk.specs.State.{SameBut}
use Rattle.cache_disk.specs.Calls.{Makes, Unmakes, Tears, Torn, IsTornFrom, Stays, Settles, HasNames}
use Rattle.host_memory.specs.declared.turns.Call.{Call}
use Rattle.host_memory.specs.declared.turns.Call.TheVariants.{Create, Write, Sync, Delete, SyncNames, Say}
use Rattle.host_memory.specs.declared.turns.Turn.{Turn}
use Rattle.host_memory.specs.Crashes.{names_settled_by, names_settle, settled_by, settles, Crashes}
use Rattle.host_memory.specs.Files.{made, written, written_over, without}
use Rattle.host_memory.specs.NamesDecide.{is_itself, same_name}
use Rattle.host_memory.specs.ReadsNow.{same_files, makes, unmakes, is_made, others_without, gone_without, tears, lookup_put, others_put}
use Rattle.host_memory.specs.Turns.{after, Steps, Syncs, replayed, Leads, MayBeLeft}
use Rattle.host_memory.proofs.OneMore.{replayed_more}

-- What a sync to come will promise is so already.
pub record Fit (files image : Image) (names_later : Bool) (bytes_later : FileName → Bool) : Type 0 where
  pub names : names_later ≡ true → (name : FileName) → is_some (file_in image name) ≡ is_some (file_in files name)
  pub bytes : (name : FileName) → bytes_later name ≡ true → (file_in image name ≡ None) ⊎ (file_in image name ≡ file_in files name)

-- either way
pub by_name : {P : Type 0} (same : Bool) → (same ≡ true → P) → (same ≡ false → P) → P
by_name true same differs = same refl
by_name false same differs = differs refl

-- other files are as they were in both
as_before : (old_image new_image old_files new_files : Image) (name : FileName) → file_in new_image name ≡ file_in old_image name → file_in new_files name ≡ file_in old_files name
    → (file_in old_image name ≡ None) ⊎ (file_in old_image name ≡ file_in old_files name) → (file_in new_image name ≡ None) ⊎ (file_in new_image name ≡ file_in new_files name)
as_before old_image new_image old_files new_files name image_is files_is (inl none) = inl (image_is ∙ none)
as_before old_image new_image old_files new_files name image_is files_is (inr same) = inr (image_is ∙ same ∙ sym files_is)

-- Fit before a call and after it: what the call itself settles is left out behind it.
FitBefore : Image → Image → List Turn → Call → Type 0
FitBefore files image turns call = Fit files image (names_settled_by call (names_settle turns)) (λ name. settled_by name call (settles name turns))

FitAfter : Image → Image → List Turn → Type 0
FitAfter files image turns = Fit files image (names_settle turns) (λ name. settles name turns)

-- a name that is made or deleted is settled by no sync to come
not_itself : (name : FileName) (later : Bool) {P : Type 0} → cond (is_name name name) false later ≡ true → P
not_itself name later settled = absurd (let e : false ≡ true = sym (ap (λ same. cond same false later) (is_itself name)) ∙ settled in cc)

other_later : (name other : FileName) (later : Bool) → is_name name other ≡ false → later ≡ true → cond (is_name name other) false later ≡ true
other_later name other later isnt settled = ap (λ same. cond same false later) isnt ∙ settled

-- a call that changes this name alone, and makes it the same in both or takes it away
renamed : (files image new_files new : Image) (name : FileName) (turns : List Turn)
    → (names_settle turns ≡ true → (other : FileName) → is_some (file_in image other) ≡ is_some (file_in files other))
    → ((other : FileName) → cond (is_name name other) false (settles other turns) ≡ true → (file_in image other ≡ None) ⊎ (file_in image other ≡ file_in files other))
    → SameBut name image new → SameBut name files new_files
    → (names_settle turns ≡ true → is_some (file_in new name) ≡ is_some (file_in new_files name))
    → (settles name turns ≡ true → (file_in new name ≡ None) ⊎ (file_in new name ≡ file_in new_files name))
    → FitAfter new_files new turns
unfolding FitAfter
renamed files image new_files new name turns names bytes others others_read here here_bytes = record {
  names = λ later other. by_name (is_name name other)
      (λ is. let P : FileName → Type 0 = λ third. is_some (file_in new third) ≡ is_some (file_in new_files third) in subst P (same_name name other is) (here later))
      (λ isnt. ap is_some (others other isnt) ∙ names later other ∙ sym (ap is_some (others_read other isnt)));
  bytes = λ other later. by_name (is_name name other)
      (λ is. let P : FileName → Type 0 = λ third. settles third turns ≡ true → (file_in new third ≡ None) ⊎ (file_in new third ≡ file_in new_files third) in subst P (same_name name other is) here_bytes later)
      (λ isnt. as_before image new files new_files other (others other isnt) (others_read other isnt) (bytes other (other_later name other (settles other turns) isnt later)));
}

-- making a file
fit_create : (files image new : Image) (name : FileName) (turns : List Turn) → FitBefore files image turns (Create name) → Crashes turns (Create name) image new
    → Steps files (Create name) image new × FitAfter (made name files) new turns
unfolding FitBefore
fit_create files image new name turns fit (inl is) =
    let M : Image → Type 0 = λ image_now. Makes name image image_now × FitAfter (made name files) image_now turns in
    subst M (sym is) (
      makes name image,
      renamed files image (made name files) (made name image) name turns fit.names fit.bytes
          (makes name image).others (makes name files).others
          (λ later. ap is_some (is_made name image) ∙ sym (ap is_some (is_made name files)))
          (λ later. inr (is_made name image ∙ sym (is_made name files))),
    )
fit_create files image new name turns fit (inr (unsettled, is)) =
    let M : Image → Type 0 = λ image_now. Makes name image image_now × FitAfter (made name files) image_now turns in
    subst M (sym is) (
      record { others = others_without name image; made = inl (gone_without name image) },
      renamed files image (made name files) (without name image) name turns fit.names fit.bytes
          (others_without name image) (makes name files).others
          (λ later. absurd (let e : false ≡ true = sym unsettled ∙ later in cc))
          (λ later. inl (gone_without name image)),
    )

-- deleting a file
fit_delete : (files image new : Image) (name : FileName) (turns : List Turn) → FitBefore files image turns (Delete name) → Crashes turns (Delete name) image new
    → Steps files (Delete name) image new × FitAfter (without name files) new turns
unfolding FitBefore
fit_delete files image new name turns fit (inl is) =
    let M : Image → Type 0 = λ image_now. Unmakes name image image_now × FitAfter (without name files) image_now turns in
    subst M (sym is) (
      unmakes name image,
      renamed files image (without name files) (without name image) name turns fit.names fit.bytes
          (others_without name image) (others_without name files)
          (λ later. ap is_some (gone_without name image) ∙ sym (ap is_some (gone_without name files)))
          (λ later. inl (gone_without name image)),
    )
fit_delete files image new name turns fit (inr (unsettled, unsettled_bytes, is)) =
    let M : Image → Type 0 = λ image_now. Unmakes name image image_now × FitAfter (without name files) image_now turns in
    subst M (sym is) (
      record { others = λ other isnt. refl; unmade = inl refl },
      renamed files image (without name files) image name turns fit.names fit.bytes
          (λ other isnt. refl) (others_without name files)
          (λ later. absurd (let e : false ≡ true = sym unsettled ∙ later in cc))
          (λ later. absurd (let e : false ≡ true = sym unsettled_bytes ∙ later in cc)),
    )

-- a file is there after a write where it was
still_there : (name : FileName) (files : Image) (w : List ℕ) (other : FileName) → is_some (file_in (set_value (is_name name) files w) other) ≡ is_some (file_in files other)
still_there name files w other = by_name (is_name name other)
    (λ is. let P : FileName → Type 0 = λ third. is_some (file_in (set_value (is_name name) files w) third) ≡ is_some (file_in files third) in
    subst P (same_name name other is) (ap is_some (lookup_put (is_name name) files w) ∙ some_put (file_in files name)))
    (λ isnt. ap is_some (others_put name files w other isnt))
  where
    some_put : (found : Option (List ℕ)) → is_some (option_map (λ _. w) found) ≡ is_some found
    some_put None = refl
    some_put (Some bytes) = refl

-- a torn file is there
tears_to : (name : FileName) (at n : ℕ) (files : Image) (w : List ℕ) → Torn at n (bytes_in files name) w → Tears name at n files (set_value (is_name name) files w)
tears_to name at n files w torn = record {
  others = others_put name files w;
  torn = rw lookup_put (by (file_in files name) refl);
}
  where
    by : (found : Option (List ℕ)) → file_in files name ≡ found → IsTornFrom at n (file_in files name) (option_map (λ _. w) (file_in files name))
    by None none = rw none refl
    by (Some old) there = rw there (w, refl, (let P : Option (List ℕ) → Type 0 = λ found. Torn at n (unwrap_or found []) w in subst P there torn))

-- writing to a file
fit_write : (files image new : Image) (name : FileName) (at : ℕ) (bytes : Vec ℕ Global) (turns : List Turn) → FitBefore files image turns (Write name at bytes) → Crashes turns (Write name at bytes) image new
    → Steps files (Write name at bytes) image new × FitAfter (written name at bytes.items files) new turns
unfolding FitBefore FitAfter
fit_write files image new name at bytes turns fit (inl is) =
    let M : Image → Type 0 = λ image_now. Tears name at (length bytes.items) image image_now × FitAfter (written name at bytes.items files) image_now turns in
    subst M (sym is) (
      tears name at bytes.items image,
      record {
        names = λ later other. still_there name image _ other ∙ fit.names later other ∙ sym (still_there name files _ other);
        bytes = λ other later. by_name (is_name name other)
            (λ same. let P : FileName → Type 0 = λ third. settles third turns ≡ true → (file_in (written name at bytes.items image) third ≡ None) ⊎ (file_in (written name at bytes.items image) third ≡ file_in (written name at bytes.items files) third) in
            subst P (same_name name other same) (λ here. both_written (fit.bytes name here)) later)
            (λ isnt. as_before image (written name at bytes.items image) files (written name at bytes.items files) other (others_put name image _ other isnt) (others_put name files _ other isnt) (fit.bytes other later));
      },
    )
  where
    both_written : (file_in image name ≡ None) ⊎ (file_in image name ≡ file_in files name) → (file_in (written name at bytes.items image) name ≡ None) ⊎ (file_in (written name at bytes.items image) name ≡ file_in (written name at bytes.items files) name)
    both_written (inl none) = inl (lookup_put (is_name name) image _ ∙ ap (option_map (λ _. written_over (bytes_in image name) at bytes.items)) none)
    both_written (inr same) = inr (lookup_put (is_name name) image _ ∙ ap (λ found. option_map (λ _. written_over (unwrap_or found []) at bytes.items) found) same ∙ sym (lookup_put (is_name name) files _))
fit_write files image new name at bytes turns fit (inr (unsettled, w, torn, is)) =
    let M : Image → Type 0 = λ image_now. Tears name at (length bytes.items) image image_now × FitAfter (written name at bytes.items files) image_now turns in
    subst M (sym is) (
      tears_to name at (length bytes.items) image w torn,
      record {
        names = λ later other. still_there name image w other ∙ fit.names later other ∙ sym (still_there name files _ other);
        bytes = λ other later. by_name (is_name name other)
            (λ same. let P : FileName → Type 0 = λ third. settles third turns ≡ true → (file_in (set_value (is_name name) image w) third ≡ None) ⊎ (file_in (set_value (is_name name) image w) third ≡ file_in (written name at bytes.items files) third) in
            subst P (same_name name other same) (λ here. absurd (let e : false ≡ true = sym unsettled ∙ here in cc)) later)
            (λ isnt. as_before image (set_value (is_name name) image w) files (written name at bytes.items files) other (others_put name image w other isnt) (others_put name files _ other isnt) (fit.bytes other later));
      },
    )

or_later : (ok later : Bool) → later ≡ true → (ok || later) ≡ true
or_later true later settled = refl
or_later false later settled = settled

sync_later : (ok same later : Bool) → later ≡ true → cond same (ok || later) later ≡ true
sync_later ok true later settled = or_later ok later settled
sync_later ok false later settled = settled

-- a sync of a file
fit_sync : (files image : Image) (name : FileName) (ok : Bool) (turns : List Turn) → FitBefore files image turns (Sync name ok) → Steps files (Sync name ok) image image × FitAfter files image turns
unfolding FitBefore FitAfter
fit_sync files image name ok turns fit = (promise ok fit.bytes, record { names = fit.names; bytes = λ other later. fit.bytes other (sync_later ok (is_name name other) (settles other turns) later) })
  where
    promise : (ok : Bool) → ((other : FileName) → cond (is_name name other) (ok || settles other turns) (settles other turns) ≡ true → (file_in image other ≡ None) ⊎ (file_in image other ≡ file_in files other)) → Syncs ok image (Settles files name) image
    promise true bytes = record { stays = same_files image; settled = bytes name (ap (λ same. cond same true (settles name turns)) (is_itself name)) }
    promise false bytes = same_files image

-- a sync of the names
fit_sync_names : (files image : Image) (ok : Bool) (turns : List Turn) → FitBefore files image turns (SyncNames ok) → Steps files (SyncNames ok) image image × FitAfter files image turns
unfolding FitBefore FitAfter
fit_sync_names files image ok turns fit = (promise ok fit.names, record { names = λ later. fit.names (or_later ok (names_settle turns) later); bytes = fit.bytes })
  where
    promise : (ok : Bool) → ((ok || names_settle turns) ≡ true → (name : FileName) → is_some (file_in image name) ≡ is_some (file_in files name)) → Syncs ok image (HasNames files) image
    promise true names = record { stays = same_files image; names = λ name. (λ there. sym (names refl name) ∙ there, λ there. names refl name ∙ there) }
    promise false names = same_files image

-- each call
fit_call : (files image new : Image) (call : Call) (turns : List Turn) → FitBefore files image turns call → Crashes turns call image new → Steps files call image new × FitAfter (after call files) new turns
unfolding FitBefore FitAfter
fit_call files image new (Create name) turns fit crashes = fit_create files image new name turns fit crashes
fit_call files image new (Write name at bytes) turns fit crashes = fit_write files image new name at bytes turns fit crashes
fit_call files image new (Sync name ok) turns fit is =
    let M : Image → Type 0 = λ image_now. Steps files (Sync name ok) image image_now × FitAfter files image_now turns in subst M (sym is) (fit_sync files image name ok turns fit)
fit_call files image new (Delete name) turns fit crashes = fit_delete files image new name turns fit crashes
fit_call files image new (SyncNames ok) turns fit is =
    let M : Image → Type 0 = λ image_now. Steps files (SyncNames ok) image image_now × FitAfter files image_now turns in subst M (sym is) (fit_sync_names files image ok turns fit)
fit_call files image new (Say bytes ok) turns fit is =
    let M : Image → Type 0 = λ image_now. Stays image image_now × FitAfter files image_now turns in subst M (sym is) (same_files image, fit)

-- An image that is built by the first turns, with an eye on the others.
pub record IsBuilt (files : Image) (turns more : List Turn) (image : Image) : Type 0 where
  pub leads : Leads files turns files image
  pub fit : Fit (replayed files turns) image (names_settle more) (λ name. settles name more)

-- before the first turn
pub built_first : (files : Image) (turns : List Turn) → IsBuilt files [] turns files
built_first files turns = record { leads = refl; fit = record { names = λ later name. refl; bytes = λ name later. inr refl } }

pub leads_more : (files : Image) (turns : List Turn) (turn : Turn) (from between to : Image) → Leads files turns from between → Steps (replayed files turns) turn.call between to → Leads files (turns ++ turn ∷ []) from to
leads_more files [] turn from between to is step = let P : Image → Type 0 = λ image. Steps files turn.call image to in (to, subst P is step, refl)
leads_more files (first ∷ turns) turn from between to (next, taken, leads) step = (next, taken, leads_more (after first.call files) turns turn next between to leads step)

-- one turn more
pub built_more : (files : Image) (turns : List Turn) (turn : Turn) (more : List Turn) (image new : Image) → IsBuilt files turns (turn ∷ more) image → Crashes more turn.call image new → IsBuilt files (turns ++ turn ∷ []) more new
unfolding FitBefore FitAfter
built_more files turns turn more image new built crashes =
    let step = fit_call (replayed files turns) image new turn.call more built.fit crashes in
    record {
      leads = leads_more files turns turn files image new built.leads step.0;
      fit = (let P : Image → Type 0 = λ read. Fit read new (names_settle more) (λ name. settles name more) in subst P (sym (replayed_more files turns turn)) step.1);
    }

-- all turns
pub built_left : (files : Image) (turns : List Turn) (image : Image) → IsBuilt files turns [] image → MayBeLeft files turns image
built_left files turns image built = (files, same_files files, built.leads)
