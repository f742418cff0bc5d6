-- What each call of a host does.
use Rattle.std.specs.Prelude.{◌≡◌, ℕ, ◌+◌, ◌-◌, ◌<◌, ◌≤◌, ◌⊎◌, ◌↔◌, min, max, List, [], ◌++◌, take, drop, length, Option, Some, None, Result, option_map, IfOk, OnOk, OnErr, IsErrOf, IsSome, Contains, Vec}
use Rattle.std.specs.List.{IsDistinct}
use Rattle.std.specs.declared.alloc.Global.{Global}
use Rattle.cache_model.specs.declared.files.FileName.{FileName}
use Rattle.cache_model.specs.Files.{Image, file_in, bytes_in, is_name}
use Rattle.cache_disk.specs.State.{HostState, Rose, SameFiles, SameBut, GoesOn, Moves, Stands, Asks}
use Rattle.cache_model.specs.declared.faults.StoreFault.{StoreFault}
use Rattle.cache_model.specs.declared.faults.StoreFault.TheVariants as fault
use Rattle.cache_model.specs.declared.faults.Spent.{Spent}
use Rattle.cache_model.specs.declared.faults.Damage.{Damage}
use Rattle.cache_disk.specs.declared.host.HostFault.{HostFault}
use Rattle.cache_disk.specs.declared.host.HostFault.TheVariants.{Failed, Memory}

-- `Failed` comes only where this count rose, no other answer raises it, and the other count stays.
pub record HasCause {T : Type 0} (before after other_before other_after : ℕ) (result : Result T HostFault) : Type 0 where
  pub failed : IsErrOf result Failed → Rose before after
  pub ok : OnOk result (after ≡ before)
  pub memory : IsErrOf result Memory → after ≡ before
  pub later : before ≤ after
  pub other : other_after ≡ other_before

-- a call of the disk
abbrev pub DiskCause : {T : Type 0} → HostState → HostState → Result T HostFault → Type 0
DiskCause old new result = HasCause old.disk_faults new.disk_faults old.say_faults new.say_faults result

-- a call of `say`
abbrev pub SayCause : {T : Type 0} → HostState → HostState → Result T HostFault → Type 0
SayCause old new result = HasCause old.say_faults new.say_faults old.disk_faults new.disk_faults result

-- The call of `names` changed nothing, and gave each file once.
pub record Listed (old new : HostState) (result : Result (Vec FileName Global) HostFault) : Type 0 where
  pub stands : Stands old new
  pub asked : Asks old new 0
  pub short_reads : new.short_reads ≡ old.short_reads
  pub each : IfOk result (λ names. (name : FileName) → (Contains names.items name ↔ IsSome (file_in old.files name)))
  pub once : IfOk result (λ names. IsDistinct is_name names.items)

-- The call of `size` changed nothing, and gave the file's length, None where there is no such file.
pub record Sized (name : FileName) (old new : HostState) (result : Result (Option ℕ) HostFault) : Type 0 where
  pub stands : Stands old new
  pub asked : Asks old new 0
  pub short_reads : new.short_reads ≡ old.short_reads
  pub length : IfOk result (λ size. size ≡ option_map length (file_in old.files name))

-- The call of `read` changed no file, and put the file's bytes from that offset on into the front of the buffer:
-- some, where there are any and the buffer isn't empty.
pub record Read (name : FileName) (at : ℕ) (buf_old buf_new : List ℕ) (old new : HostState) (result : Result ℕ HostFault) : Type 0 where
  pub stands : Stands old new
  pub front : IfOk result (λ n. buf_new ≡ take n (drop at (bytes_in old.files name)) ++ drop n buf_old)
  pub within : IfOk result (λ n. n ≤ length (bytes_in old.files name) - at)
  pub some : IfOk result (λ n. 0 < length buf_old → at < length (bytes_in old.files name) → 0 < n)
  pub asked : OnOk result (Asks old new (length buf_old))
  pub asked_failed : IsErrOf result Failed → Asks old new (length buf_old)
  pub asked_memory : IsErrOf result Memory → Asks old new 0
  pub short : IfOk result (λ n. n < min (length buf_old) (length (bytes_in old.files name) - at) → Rose old.short_reads new.short_reads)
  pub whole : IfOk result (λ n. n ≡ min (length buf_old) (length (bytes_in old.files name) - at) → new.short_reads ≡ old.short_reads)
  pub not_read : OnErr result (new.short_reads ≡ old.short_reads)

-- A call that may change something took a turn. A failed one has the same effect on what a crash may leave as one
-- that succeeded; one that answered `Memory` changed nothing.
pub record TakesTurn {T : Type 0} (old new : HostState) (step : Image → Image → Type 0) (out : ℕ) (now_said : Option (List ℕ)) (result : Result T HostFault) : Type 0 where
  pub ok : OnOk result (old.turn < new.turn)
  pub failed : IsErrOf result Failed → old.turn < new.turn
  pub memory : IsErrOf result Memory → Stands old new
  pub images : Moves old new step
  pub said : GoesOn old.turn new.turn old.said new.said now_said
  pub put_out : GoesOn old.turn new.turn old.put_out new.put_out (old.put_out old.turn + out)
  pub asked : GoesOn old.turn new.turn old.asked new.asked (old.asked old.turn)
  pub short_reads : new.short_reads ≡ old.short_reads

-- other files stay as they are, and this one is not there or empty
pub record Makes (name : FileName) (old new : Image) : Type 0 where
  pub others : SameBut name old new
  pub made : (file_in new name ≡ None) ⊎ (file_in new name ≡ Some [])

-- other files stay as they are, and this one is as it was or not there
pub record Unmakes (name : FileName) (old new : Image) : Type 0 where
  pub others : SameBut name old new
  pub unmade : (file_in new name ≡ file_in old name) ⊎ (file_in new name ≡ None)

-- After a write of n bytes that a crash cuts short: any bytes in the range and past the old end, at any length from
-- the old one to the written one, and the same elsewhere.
pub record Torn (at n : ℕ) (old new : List ℕ) : Type 0 where
  pub before : take at new ≡ take at old
  pub after : drop (at + n) new ≡ drop (at + n) old
  pub no_shorter : length old ≤ length new
  pub no_longer : length new ≤ max (length old) (at + n)

-- a file that is there is torn there, and one that isn't there stays away
abbrev pub IsTornFrom : ℕ → ℕ → Option (List ℕ) → Option (List ℕ) → Type 0
IsTornFrom at n None new = new ≡ None
IsTornFrom at n (Some old) new = (bytes : List ℕ) × (new ≡ Some bytes) × Torn at n old bytes

-- other files stay as they are, and this one is torn
pub record Tears (name : FileName) (at n : ℕ) (old new : Image) : Type 0 where
  pub others : SameBut name old new
  pub torn : IsTornFrom at n (file_in old name) (file_in new name)

-- the image stays as it is
abbrev pub Stays : Image → Image → Type 0
Stays old new = SameFiles old new

-- the image stays as it is, and this file, where it is there, is as it reads
pub record Settles (files : Image) (name : FileName) (old new : Image) : Type 0 where
  pub stays : Stays old new
  pub settled : (file_in new name ≡ None) ⊎ (file_in new name ≡ file_in files name)

-- the image stays as it is, and has just the names that are read
pub record HasNames (files old new : Image) : Type 0 where
  pub stays : Stays old new
  pub names : (name : FileName) → (IsSome (file_in new name) ↔ IsSome (file_in files name))

-- The call of `create` made an empty file.
pub record Created (name : FileName) (old new : HostState) (result : Result (Unit {0}) HostFault) : Type 0 where
  pub turn : TakesTurn old new (Makes name) 0 (old.said old.turn) result
  pub files : Makes name old.files new.files
  pub made : OnOk result (file_in new.files name ≡ Some [])

-- new is old with these bytes at this offset
abbrev pub overwritten : List ℕ → ℕ → List ℕ → List ℕ
overwritten old at bytes = take at old ++ bytes ++ drop (at + length bytes) old

-- The call of `write` wrote all of the bytes.
pub record Wrote (name : FileName) (at : ℕ) (bytes : List ℕ) (old new : HostState) (result : Result (Unit {0}) HostFault) : Type 0 where
  pub turn : TakesTurn old new (Tears name at (length bytes)) (length bytes) (old.said old.turn) result
  pub files : Tears name at (length bytes) old.files new.files
  pub written : OnOk result (file_in new.files name ≡ Some (overwritten (bytes_in old.files name) at bytes))

-- The call of `sync` left the files as they read, and after Ok a crash leaves this one as it reads.
pub record Synced (name : FileName) (old new : HostState) (result : Result (Unit {0}) HostFault) : Type 0 where
  pub turn : TakesTurn old new Stays 0 (old.said old.turn) result
  pub files : SameFiles old.files new.files
  pub settled : OnOk result (Moves old new (Settles old.files name))

-- The call of `delete` took the file away.
pub record Deleted (name : FileName) (old new : HostState) (result : Result (Unit {0}) HostFault) : Type 0 where
  pub turn : TakesTurn old new (Unmakes name) 0 (old.said old.turn) result
  pub files : Unmakes name old.files new.files
  pub gone : OnOk result (file_in new.files name ≡ None)

-- The call of `sync_names` left the files as they read, and after Ok a crash leaves just the names that are read.
pub record SyncedNames (old new : HostState) (result : Result (Unit {0}) HostFault) : Type 0 where
  pub turn : TakesTurn old new Stays 0 (old.said old.turn) result
  pub files : SameFiles old.files new.files
  pub settled : OnOk result (Moves old new (HasNames old.files))

-- what was said, and then these bytes
abbrev pub and_then_said : Option (List ℕ) → List ℕ → Option (List ℕ)
and_then_said said bytes = option_map (λ before. before ++ bytes) said

-- The call of `say` left the files as they read. After Ok the bytes are said; after `Failed` nothing is told.
pub record Said (bytes : List ℕ) (old new : HostState) (result : Result (Unit {0}) HostFault) : Type 0 where
  pub ok : OnOk result (TakesTurn old new Stays 0 (and_then_said (old.said old.turn) bytes) result)
  pub failed : OnErr result (TakesTurn old new Stays 0 None result)
  pub files : SameFiles old.files new.files

-- For a call of a layer over the host: `Failed` comes only where the disk's count rose, no other answer raises it, and
-- the count of says stays.
pub record HasStoreCause {T : Type 0} (old new : HostState) (result : Result T StoreFault) : Type 0 where
  pub failed : IsErrOf result fault.Failed → Rose old.disk_faults new.disk_faults
  pub ok : OnOk result (new.disk_faults ≡ old.disk_faults)
  pub memory : IsErrOf result fault.Memory → new.disk_faults ≡ old.disk_faults
  pub spent : (s : Spent) → IsErrOf result (fault.Spent s) → new.disk_faults ≡ old.disk_faults
  pub damaged : (d : Damage) → IsErrOf result (fault.Damaged d) → new.disk_faults ≡ old.disk_faults
  pub later : old.disk_faults ≤ new.disk_faults
  pub says : new.say_faults ≡ old.say_faults

-- Other files stay as they are, and this one stays, where it was there, and has a property, where it is there.
pub record OnFile (name : FileName) (has : List ℕ → Type 0) (old new : Image) : Type 0 where
  pub others : SameBut name old new
  pub stays : IsSome (file_in old name) → IsSome (file_in new name)
  pub file : (bytes : List ℕ) → file_in new name ≡ Some bytes → has bytes

-- a property holds of every image that a crash may leave now
abbrev pub AllLeft : HostState → (Image → Type 0) → Type 0
AllLeft state has = (c : Image) → state.left state.turn c → has c

-- the image has this file, with a property
pub record HasFile (name : FileName) (has : List ℕ → Type 0) (image : Image) : Type 0 where
  pub bytes : List ℕ
  pub there : file_in image name ≡ Some bytes
  pub file : has bytes
