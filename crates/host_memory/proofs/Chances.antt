-- What a crash may do it may leave: names that were made or deleted are there or not.
use Rattle.std.proofs.Common.{◌≡◌, ◌∙◌, sym, ap, subst, refl, ℕ, ◌⊎◌, inl, inr, Bool, true, false, ◌||◌, cond, List, [], ◌∷◌, ◌++◌, length, Some, None, option_map, unwrap_or}
use Rattle.cache_model.specs.declared.files.FileName.{FileName}
use Rattle.cache_model.specs.Files.{Image, file_in, is_name}
use Rattle.cache_disk.specs.State.{SameBut}
use Rattle.cache_disk.specs.Calls.{Makes, Unmakes, IsTornFrom}
use Rattle.host_memory.specs.declared.turns.Call.{Call}
use Rattle.host_memory.specs.declared.turns.Call.TheVariants.{Create, Write, Sync, Delete, SyncNames, Say}
use Rattle.host_memory.specs.declared.turns.Turn.{Turn}
use Rattle.host_memory.specs.Crashes.{names_settled_by, names_settle, settled_by, settles}
use Rattle.host_memory.specs.Facts.{renames, KeepsName, KeepsBytes}
use Rattle.host_memory.specs.Files.{made, written, written_over, without}
use Rattle.host_memory.specs.NamesDecide.{same_name, is_name_equivalence}
use Rattle.host_memory.specs.ReadsNow.{same_files, makes, unmakes, is_made, others_without, gone_without, tears, lookup_put, others_put, leads_now}
use Rattle.host_memory.specs.Turns.{after, Steps, replayed, Leads, MayBeLeft}
use Rattle.host_memory.proofs.DiskFacts.{stays_read}
use Rattle.host_memory.proofs.Fitting.{by_name, leads_more}

pub steps_are_left : (files : Image) (turns : List Turn) (turn : Turn) (old new : Image) → MayBeLeft files turns old → Steps (replayed files turns) turn.call old new → MayBeLeft files (turns ++ turn ∷ []) new
steps_are_left files turns turn old new (first, same, leads) step = (first, same, leads_more files turns turn first old new leads step)

-- some turns and then others
leads_join : (files : Image) (turns more : List Turn) (from between to : Image) → Leads files turns from between → Leads (replayed files turns) more between to → Leads files (turns ++ more) from to
leads_join files [] more from between to is leads = let P : Image → Type 0 = λ image. Leads files more image to in subst P is leads
leads_join files (turn ∷ turns) more from between to (next, step, leads) later = (next, step, leads_join (after turn.call files) turns more next between to leads later)

-- where the files agree on a name they agree without another
agree : (name third : FileName) (old new : Image) → file_in new third ≡ file_in old third → file_in (without name new) third ≡ file_in (without name old) third
agree name third old new same = by_name (is_name name third)
    (λ is. let P : FileName → Type 0 = λ n. file_in (without name new) n ≡ file_in (without name old) n in subst P (same_name name third is) (gone_without name new ∙ sym (gone_without name old)))
    (λ isnt. others_without name new third isnt ∙ same ∙ sym (others_without name old third isnt))

flip : (one other : FileName) → is_name one other ≡ false → is_name other one ≡ false
flip one other h = is_name_equivalence.symm other one ∙ h

-- the files as they read, without this one
steps_without : (files : Image) (call : Call) (name : FileName) → renames name call ≡ false → names_settled_by call false ≡ false → Steps files call (without name files) (without name (after call files))
steps_without files (Create other) name keeps unsettled = record {
  others = λ third differs. agree name third files (made other files) ((makes other files).others third differs);
  made = inr (others_without name (made other files) other (flip other name keeps) ∙ is_made other files);
}
steps_without files (Write other at bytes) name keeps unsettled = record {
  others = λ third differs. agree name third files (written other at bytes.items files) (others_put other files _ third differs);
  torn = by_name (is_name name other)
      (λ is. let P : FileName → Type 0 = λ n. IsTornFrom at (length bytes.items) (file_in (without name files) n) (file_in (without name (written other at bytes.items files)) n) in
      subst P (same_name name other is) (rw (gone_without name files, gone_without name (written other at bytes.items files)) refl))
      (λ isnt. rw (others_without name files other isnt, others_without name (written other at bytes.items files) other isnt) (tears other at bytes.items files).torn);
}
steps_without files (Sync other true) name keeps unsettled = record {
  stays = same_files (without name files);
  settled = by_name (is_name name other)
      (λ is. let P : FileName → Type 0 = λ n. (file_in (without name files) n ≡ None) ⊎ (file_in (without name files) n ≡ file_in files n) in subst P (same_name name other is) (inl (gone_without name files)))
      (λ isnt. inr (others_without name files other isnt));
}
steps_without files (Sync other false) name keeps unsettled = same_files (without name files)
steps_without files (Delete other) name keeps unsettled = record {
  others = λ third differs. agree name third files (without other files) (others_without other files third differs);
  unmade = inr (others_without name (without other files) other (flip other name keeps) ∙ gone_without other files);
}
steps_without files (SyncNames true) name keeps unsettled = cc
steps_without files (SyncNames false) name keeps unsettled = same_files (without name files)
steps_without files (Say bytes ok) name keeps unsettled = same_files (without name files)

-- what isn't settled in some turns isn't settled by the first, nor by the others
unsettled_first : (call : Call) (later : Bool) → names_settled_by call later ≡ false → (names_settled_by call false ≡ false) × (later ≡ false)
unsettled_first (Create name) later h = (refl, h)
unsettled_first (Write name at bytes) later h = (refl, h)
unsettled_first (Sync name ok) later h = (refl, h)
unsettled_first (Delete name) later h = (refl, h)
unsettled_first (SyncNames true) later h = cc
unsettled_first (SyncNames false) later h = (refl, h)
unsettled_first (Say bytes ok) later h = (refl, h)

leads_without : (files : Image) (turns : List Turn) (name : FileName) → KeepsName name turns → names_settle turns ≡ false → Leads files turns (without name files) (without name (replayed files turns))
leads_without files [] name keeps unsettled = refl
leads_without files (turn ∷ turns) name keeps unsettled =
    let first = unsettled_first turn.call (names_settle turns) unsettled in
    (without name (after turn.call files), steps_without files turn.call name keeps.0 first.0, leads_without (after turn.call files) turns name keeps.1 first.1)

pub made_may_be_missing : (files : Image) (before since : List Turn) (asked : ℕ) (name : FileName) → KeepsName name since → names_settle since ≡ false
    → (image : Image) × MayBeLeft files (before ++ record { call = Create name; asked = asked } ∷ since) image × (file_in image name ≡ None)
made_may_be_missing files before since asked name keeps unsettled =
    let reads = replayed files before in
    let image = without name (replayed (made name reads) since) in
    let step : Makes name reads (without name (made name reads)) = record {
      others = λ third differs. others_without name (made name reads) third differs ∙ (makes name reads).others third differs;
      made = inl (gone_without name (made name reads));
    } in (
      image,
      (
        files,
        same_files files,
        leads_join files before (record { call = Create name; asked = asked } ∷ since) files reads image (leads_now files before)
            (without name (made name reads), step, leads_without (made name reads) since name keeps unsettled),
      ),
      gone_without name (replayed (made name reads) since),
    )

-- files that agree but on this name agree so after a call
after_agree : (name : FileName) (call : Call) (old new : Image) → SameBut name old new → SameBut name (after call old) (after call new)
after_agree name (Create other) old new same third differs = by_name (is_name other third)
    (λ is. let P : FileName → Type 0 = λ n. file_in (made other new) n ≡ file_in (made other old) n in subst P (same_name other third is) (is_made other new ∙ sym (is_made other old)))
    (λ isnt. (makes other new).others third isnt ∙ same third differs ∙ sym ((makes other old).others third isnt))
after_agree name (Write other at bytes) old new same third differs = by_name (is_name other third)
    (λ is. let P : FileName → Type 0 = λ n. file_in new n ≡ file_in old n → file_in (written other at bytes.items new) n ≡ file_in (written other at bytes.items old) n in
    subst P (same_name other third is) (λ here. lookup_put (is_name other) new _ ∙ ap (λ found. option_map (λ _. written_over (unwrap_or found []) at bytes.items) found) here ∙ sym (lookup_put (is_name other) old _)) (same third differs))
    (λ isnt. others_put other new _ third isnt ∙ same third differs ∙ sym (others_put other old _ third isnt))
after_agree name (Sync other ok) old new same third differs = same third differs
after_agree name (Delete other) old new same third differs = by_name (is_name other third)
    (λ is. let P : FileName → Type 0 = λ n. file_in (without other new) n ≡ file_in (without other old) n in subst P (same_name other third is) (gone_without other new ∙ sym (gone_without other old)))
    (λ isnt. others_without other new third isnt ∙ same third differs ∙ sym (others_without other old third isnt))
after_agree name (SyncNames ok) old new same third differs = same third differs
after_agree name (Say bytes ok) old new same third differs = same third differs

not_synced : (same later : Bool) → cond same (true || later) later ≡ false → same ≡ false
not_synced true later h = cc
not_synced false later h = refl

-- a call on an image that is as read but for this name, where it settles neither the names nor this file
steps_beside : (files image : Image) (call : Call) (name : FileName) (later : Bool) → SameBut name files image → names_settled_by call false ≡ false → settled_by name call later ≡ false → Steps files call image (after call image)
steps_beside files image (Create other) name later same unsettled unsynced = makes other image
steps_beside files image (Write other at bytes) name later same unsettled unsynced = tears other at bytes.items image
steps_beside files image (Sync other true) name later same unsettled unsynced = record {
  stays = same_files image;
  settled = inr (same other (flip other name (not_synced (is_name other name) later unsynced)));
}
steps_beside files image (Sync other false) name later same unsettled unsynced = same_files image
steps_beside files image (Delete other) name later same unsettled unsynced = unmakes other image
steps_beside files image (SyncNames true) name later same unsettled unsynced = cc
steps_beside files image (SyncNames false) name later same unsettled unsynced = same_files image
steps_beside files image (Say bytes ok) name later same unsettled unsynced = same_files image

unsynced_later : (name : FileName) (call : Call) (later : Bool) → renames name call ≡ false → settled_by name call later ≡ false → later ≡ false
unsynced_later name (Create other) later keeps h = sym (ap (λ same. cond same false later) keeps) ∙ h
unsynced_later name (Write other at bytes) later keeps h = h
unsynced_later name (Sync other true) later keeps h = sym (ap (λ same. cond same (true || later) later) (not_synced (is_name other name) later h)) ∙ h
unsynced_later name (Sync other false) later keeps h = either (is_name other name) h
  where
    either : (same : Bool) → cond same (false || later) later ≡ false → later ≡ false
    either true h = h
    either false h = h
unsynced_later name (Delete other) later keeps h = sym (ap (λ same. cond same false later) keeps) ∙ h
unsynced_later name (SyncNames ok) later keeps h = h
unsynced_later name (Say bytes ok) later keeps h = h

leads_beside : (files image : Image) (turns : List Turn) (name : FileName) → SameBut name files image → KeepsName name turns → names_settle turns ≡ false → settles name turns ≡ false → Leads files turns image (replayed image turns)
leads_beside files image [] name same keeps unsettled unsynced = refl
leads_beside files image (turn ∷ turns) name same keeps unsettled unsynced =
    let first = unsettled_first turn.call (names_settle turns) unsettled in (
      after turn.call image,
      steps_beside files image turn.call name (settles name turns) same first.0 unsynced,
      leads_beside (after turn.call files) (after turn.call image) turns name (after_agree name turn.call files image same) keeps.1 first.1 (unsynced_later name turn.call (settles name turns) keeps.0 unsynced),
    )

pub deleted_may_be_there : (files : Image) (before since : List Turn) (asked : ℕ) (name : FileName) (bytes : List ℕ) → file_in (replayed files before) name ≡ Some bytes → KeepsName name since → KeepsBytes name since
    → names_settle since ≡ false → settles name since ≡ false
    → (image : Image) × MayBeLeft files (before ++ record { call = Delete name; asked = asked } ∷ since) image × (file_in image name ≡ Some bytes)
deleted_may_be_there files before since asked name bytes there keeps unwritten unsettled unsynced =
    let reads = replayed files before in
    let image = replayed reads since in
    let step : Unmakes name reads reads = record { others = λ third differs. refl; unmade = inl refl } in
    let beside : SameBut name (without name reads) reads = λ third differs. sym (others_without name reads third differs) in (
      image,
      (
        files,
        same_files files,
        leads_join files before (record { call = Delete name; asked = asked } ∷ since) files reads image (leads_now files before)
            (reads, step, leads_beside (without name reads) reads since name beside keeps unsettled unsynced),
      ),
      stays_read reads since name reads image keeps unwritten (leads_now reads since) ∙ there,
    )
