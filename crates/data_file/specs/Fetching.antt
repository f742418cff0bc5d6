-- What is read at a place.
use Rattle.std.specs.Prelude.{◌≡◌, ℕ, ◌+◌, ◌-◌, ◌^◌, ◌≤◌, ◌==◌, min, Bool, true, false, List, length, Option, Some, None, if◌then◌else◌, ◌&&◌, Result, IfOk, OnOk, IsErrOf, take, drop}
use Rattle.cache_model.specs.declared.faults.BadKind.{BadKind}
use Rattle.cache_model.specs.declared.faults.BadKind.TheVariants.{Cut, Place as OtherPlace}
use Rattle.cache_model.specs.declared.faults.StoreFault.{StoreFault}
use Rattle.cache_model.specs.declared.faults.StoreFault.TheVariants as fault
use Rattle.cache_model.specs.declared.faults.Damage.{Damage}
use Rattle.cache_model.specs.declared.files.FileName.{FileName}
use Rattle.cache_model.specs.declared.files.Place.{Place}
use Rattle.cache_model.specs.Files.{Image, bytes_in}
use Rattle.cache_model.specs.Items.{Item, put, removal, end, Front, whole, cut, bad, front}
use Rattle.cache_disk.specs.State.{HostState, Rose}
use Rattle.cache_disk.specs.State as disk
use Rattle.record_format.specs.declared.items.OwnItem.{OwnItem}
use Rattle.record_format.specs.Meaning.{own_item}

-- the bytes of a file at a place, fewer where the file ends before it does
abbrev pub bytes_at : Image → FileName → Place → List ℕ
bytes_at files name place = take place.length (drop place.at (bytes_in files name))

-- whether an item is a record
abbrev pub is_record : Item → Bool
is_record (put seq until key value) = true
is_record (removal seq key) = true
is_record (end moment) = false

-- what is wrong with what stands at a place of this length: no item, or not a record of the whole length
abbrev pub wrong_with : ℕ → Front → Option BadKind
wrong_with size (whole item n) = if is_record item && n == size then None else Some OtherPlace
wrong_with size cut = Some Cut
wrong_with size (bad kind) = Some kind

-- a count stays or rises, or it stands at its type's end
abbrev pub Lasts : ℕ → ℕ → Type 0
Lasts before after = min before (2 ^ 64 - 1) ≤ after

-- where a file has so many bytes from an offset on, and no read gave fewer than it could, no more bytes were asked for
abbrev pub AsksAtMost : FileName → ℕ → ℕ → HostState → HostState → Type 0
AsksAtMost name at size a b = at + size ≤ length (bytes_in a.files name) → (Rose a.short_reads b.short_reads → ⊥) → b.asked a.turn ≤ a.asked a.turn + size

-- What a fetch gives is the record that stands there, and what it finds damaged is damaged there. It changes nothing,
-- and asks for all bytes of the place.
pub record Fetches (name : FileName) (place : Place) (a b : HostState) (result : Result OwnItem StoreFault) : Type 0 where
  pub stands : disk.Stands a b
  pub asked : OnOk result (a.asked a.turn + place.length ≤ b.asked a.turn)
  pub most : AsksAtMost name place.at place.length a b
  pub short_reads : Lasts a.short_reads b.short_reads
  pub given : IfOk result (λ item. front (bytes_at a.files name place) ≡ whole (own_item item) place.length)
  pub sound : OnOk result (wrong_with place.length (front (bytes_at a.files name place)) ≡ None)
  pub damaged : (d : Damage) → IsErrOf result (fault.Damaged d) → (d.file ≡ name) × (d.at ≡ place.at) × (wrong_with place.length (front (bytes_at a.files name place)) ≡ Some d.kind)
