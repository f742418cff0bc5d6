-- Reading the bytes of a place, piece by piece.
use Rattle.std.proofs.Common.{◌≡◌, ◌⊎◌, ⊎_elim, inr, ℕ, zero, suc, ◌+◌, ◌-◌, ◌≤◌, ◌<◌, Bool, true, false, List, length, take, drop, ◌++◌, Option, [], sym, ap, ◌∙◌, arith, IsTrue, subst, refl}
use Rattle.std.proofs.lemmas.Bool.Decides.{nat_tests}
use Rattle.std.proofs.Math.Nat.{lt_of_not-le}
use Rattle.std.proofs.lemmas.List.{take_at, length-take-le, length-drop, drop-drop}
use Rattle.std.proofs.Math.Seq.{take-add}
use Rattle.std.specs.Prelude.{Result, Ok, Err, IfOk, min, nat_lt, unwrap_or}
use Rattle.cache_model.specs.declared.files.FileName.{FileName}
use Rattle.cache_model.specs.Files.{bytes_in}
use Rattle.cache_disk.specs.declared.host.HostFault.{HostFault}
use Rattle.cache_disk.specs.declared.host.HostFault.TheVariants.{Failed, Memory}
use Rattle.cache_disk.specs.State.{HostState, Stands, Rose, Asks}
use Rattle.cache_disk.specs.Calls.{Read, DiskCause}
use Rattle.cache_disk.proofs.Runs.{Stands-trans}
use Rattle.data_file.specs.Fetching.{AsksAtMost, Lasts}

-- all of a buffer was read by one read
abbrev IsAskedOnce : ℕ → ℕ → HostState → HostState → Type 0
IsAskedOnce size known old new = (known ≡ size) × (new.asked old.turn ≤ old.asked old.turn + size)

-- A buffer whose front was read for a while.
pub record Filling (name : FileName) (at known : ℕ) (first now : List ℕ) (tells : Bool) (old new : HostState) : Type 0 where
  pub within : known ≤ length first
  pub long : length now ≡ length first
  pub stands : IsTrue tells → Stands old new
  pub bytes : IsTrue tells → take known now ≡ take known (drop at (bytes_in old.files name))
  pub none : IsTrue tells → known ≡ 0 → new.asked old.turn ≡ old.asked old.turn
  pub some : IsTrue tells → 0 < known → old.asked old.turn + length first ≤ new.asked old.turn
  pub most : IsTrue tells → at + length first ≤ length (bytes_in old.files name) → (Rose old.short_reads new.short_reads → ⊥) → (known ≡ 0) ⊎ IsAskedOnce (length first) known old new
  pub short_reads : IsTrue tells → Lasts old.short_reads new.short_reads
  pub disk_faults : new.disk_faults ≡ old.disk_faults
  pub say_faults : new.say_faults ≡ old.say_faults

-- the bytes in front of a buffer, after a read behind them
bytes_more : (file before after : List ℕ) (at known count : ℕ)
    → take known before ≡ take known (drop at file)
    → take known after ≡ take known before
    → drop known after ≡ take count (drop (at + known) file) ++ drop count (drop known before)
    → count ≤ length file - (at + known)
    → take (known + count) after ≡ take (known + count) (drop at file)
bytes_more file before after at known count was front read within =
    let more : List ℕ = drop (at + known) file in
    let long : length (take count more) ≡ count = length-take-le count more (omega (arith, length-drop (at + known) file)) in
    take-add known count after
    ∙ ap (λ (l : List ℕ). l ++ take count (drop known after)) (front ∙ was)
    ∙ ap (λ (l : List ℕ). take known (drop at file) ++ take count l) read
    ∙ ap (λ (l : List ℕ). take known (drop at file) ++ l) (take_at (take count more) (drop count (drop known before)) count long)
    ∙ ap (λ (l : List ℕ). take known (drop at file) ++ take count l) (sym (drop-drop known at file))
    ∙ sym (take-add known count (drop at file))

-- what is asked for by a first read, or was by an earlier one
asked_more : (known all before after : ℕ) (start : ℕ) → (known ≡ 0 → before ≡ start) → (0 < known → start + all ≤ before) → after ≡ before + (all - known) → start + all ≤ after
asked_more zero all before after start none some is = omega (arith, is, none refl)
asked_more (suc k) all before after start none some is = omega (arith, is, some (omega arith))

-- a count that rose has risen since before, and rises on
rose_before : (a m b : HostState) → Lasts a.short_reads m.short_reads → Rose m.short_reads b.short_reads → Rose a.short_reads b.short_reads
rose_before a m b lasts rose = omega (arith, lasts, rose)

rose_since : (a m b : HostState) → Rose a.short_reads m.short_reads → Lasts m.short_reads b.short_reads → Rose a.short_reads b.short_reads
rose_since a m b rose lasts = omega (arith, rose, lasts)

lasts_on : (a m b : HostState) → Lasts a.short_reads m.short_reads → Lasts m.short_reads b.short_reads → Lasts a.short_reads b.short_reads
lasts_on a m b one two = omega (arith, one, two)

not_less : (n m : ℕ) → (n < m → ⊥) → m ≤ n
not_less n m none = omega (arith, lt_of_not-le {n = suc n} {m = m} none)

-- a read leaves the count of short reads or raises it
lasts_read : (name : FileName) (at : ℕ) (before after : List ℕ) (a b : HostState) (result : Result ℕ HostFault) → Read name at before after a b result → IfOk result (λ n. n ≤ length before) → Lasts a.short_reads b.short_reads
lasts_read name at before after a b (Err fault) read fits = omega (arith, read.not_read)
lasts_read name at before after a b (Ok n) read fits = by (nat_lt n all) refl
  where
    all : ℕ
    all = min (length before) (length (bytes_in a.files name) - at)

    by : (less : Bool) → nat_lt n all ≡ less → Lasts a.short_reads b.short_reads
    by true is = omega (arith, read.short (grind (arith, nat_tests, is)))
    by false is =
        let more : all ≤ n = grind (arith, nat_tests, is) in
        omega (arith, read.whole (omega (arith, more, fits, read.within)))

-- How much was asked for by one read more, where nothing was read yet or all.
asked_by : (name : FileName) (at known : ℕ) (first before after : List ℕ) (tells : Bool) (a m b : HostState) (result : Result ℕ HostFault)
    → Filling name at known first before tells a m → IsTrue tells
    → Read name (at + known) (drop known before) (drop known after) m b result
    → known ≡ 0 → b.asked a.turn ≤ a.asked a.turn + length first
asked_by name at known first before after tells a m b result was tell read is =
    let turn : m.turn ≡ a.turn = (was.stands tell).turn in
    let none : m.asked a.turn ≡ a.asked a.turn = was.none tell is in
    let long : length (drop known before) ≡ length first = length-drop known before ∙ omega (arith, is, was.long) in
    let at_most : (count : ℕ) → count ≤ length first → Asks m b count → b.asked a.turn ≤ a.asked a.turn + length first = λ count most asks.
    let now : b.asked a.turn ≡ m.asked a.turn + count = subst (λ (t : ℕ). b.asked t ≡ m.asked t + count) turn asks.now in omega (arith, now, none, most)
    in
    by result read long at_most
  where
    by : (r : Result ℕ HostFault) → Read name (at + known) (drop known before) (drop known after) m b r → length (drop known before) ≡ length first
        → ((count : ℕ) → count ≤ length first → Asks m b count → b.asked a.turn ≤ a.asked a.turn + length first) → b.asked a.turn ≤ a.asked a.turn + length first
    by (Ok n) read long at_most = at_most (length (drop known before)) (omega (arith, long)) read.asked
    by (Err Failed) read long at_most = at_most (length (drop known before)) (omega (arith, long)) (read.asked_failed refl)
    by (Err Memory) read long at_most = at_most 0 (omega arith) (read.asked_memory refl)

-- where less than all was read and no read gave fewer bytes than it could, nothing was read
none_yet : (name : FileName) (at known : ℕ) (first before : List ℕ) (tells : Bool) (a m : HostState)
    → Filling name at known first before tells a m → IsTrue tells → at + length first ≤ length (bytes_in a.files name)
    → (Rose a.short_reads m.short_reads → ⊥) → known < length before → known ≡ 0
none_yet name at known first before tells a m was tell fits unrisen room =
    ⊎_elim (λ none. none) (λ all. absurd (omega (arith, all.0, was.long, room))) (was.most tell fits unrisen)

-- what a last read asks for
pub asks_at_most : (name : FileName) (at known : ℕ) (first before after : List ℕ) (tells : Bool) (a m b : HostState) (result : Result ℕ HostFault)
    → Filling name at known first before tells a m → IsTrue tells
    → Read name (at + known) (drop known before) (drop known after) m b result → IfOk result (λ count. known + count ≤ length before)
    → known < length before → AsksAtMost name at (length first) a b
asks_at_most name at known first before after tells a m b result was tell read within room fits unrisen =
    asked_by name at known first before after tells a m b result was tell read
    (none_yet name at known first before tells a m was tell fits (λ rose. unrisen (rose_since a m b rose (lasts_read name (at + known) (drop known before) (drop known after) m b result read (fits_behind result within)))) room)
  where
    fits_behind : (r : Result ℕ HostFault) → IfOk r (λ count. known + count ≤ length before) → IfOk r (λ count. count ≤ length (drop known before))
    fits_behind (Ok count) le = omega (arith, le, length-drop known before)
    fits_behind (Err fault) le = tt

-- what all reads asked for
pub asked_whole : (name : FileName) (at known : ℕ) (first now : List ℕ) (tells : Bool) (a b : HostState)
    → Filling name at known first now tells a b → IsTrue tells → AsksAtMost name at (length first) a b
asked_whole name at known first now tells a b was tell fits unrisen =
    ⊎_elim (λ none. omega (arith, was.none tell none)) (λ all. all.1) (was.most tell fits unrisen)

pub lasts_last : (name : FileName) (at known : ℕ) (first before after : List ℕ) (tells : Bool) (a m b : HostState) (result : Result ℕ HostFault)
    → Filling name at known first before tells a m → IsTrue tells
    → Read name (at + known) (drop known before) (drop known after) m b result → IfOk result (λ count. known + count ≤ length before)
    → Lasts a.short_reads b.short_reads
lasts_last name at known first before after tells a m b result was tell read within =
    lasts_on a m b (was.short_reads tell) (lasts_read name (at + known) (drop known before) (drop known after) m b result read (behind result within))
  where
    behind : (r : Result ℕ HostFault) → IfOk r (λ count. known + count ≤ length before) → IfOk r (λ count. count ≤ length (drop known before))
    behind (Ok count) le = omega (arith, le, length-drop known before)
    behind (Err fault) le = tt

-- a first read that gave no fewer bytes than it could gave all
full_read : (name : FileName) (at known count : ℕ) (first before after : List ℕ) (a m b : HostState)
    → Lasts a.short_reads m.short_reads → Stands a m → length before ≡ length first
    → Read name (at + known) (drop known before) (drop known after) m b (Ok count)
    → known ≡ 0 → at + length first ≤ length (bytes_in a.files name) → (Rose a.short_reads b.short_reads → ⊥) → length first ≤ count
full_read name at known count first before after a m b lasts stands long read is fits unrisen =
    let same : bytes_in m.files name ≡ bytes_in a.files name = ap (λ (found : Option (List ℕ)). unwrap_or found []) (stands.files name) in
    let short : count < min (length (drop known before)) (length (bytes_in a.files name) - (at + known)) → Rose m.short_reads b.short_reads =
    subst (λ (l : List ℕ). count < min (length (drop known before)) (length l - (at + known)) → Rose m.short_reads b.short_reads) same read.short
    in
    let all : min (length (drop known before)) (length (bytes_in a.files name) - (at + known)) ≤ count =
    not_less count _ (λ less. unrisen (rose_before a m b lasts (short less))) in
    omega (arith, all, is, fits, long, length-drop known before)

pub filled_more : (name : FileName) (at known count : ℕ) (first before after : List ℕ) (tells : Bool) (a m b : HostState)
    → Filling name at known first before tells a m
    → (IsTrue tells → Read name (at + known) (drop known before) (drop known after) m b (Ok count))
    → known + count ≤ length before → length after ≡ length before → take known after ≡ take known before
    → DiskCause m b (Ok count)
    → known < length before
    → 0 < count
    → Filling name at (known + count) first after tells a b
filled_more name at known count first before after tells a m b was told within long front cause room some = record {
  within = omega (arith, within, was.long);
  long = long ∙ was.long;
  stands = λ tell. Stands-trans a m b (was.stands tell) (told tell).stands;
  bytes = λ tell.
      let read = told tell in
      let same : bytes_in m.files name ≡ bytes_in a.files name = ap (λ (found : Option (List ℕ)). unwrap_or found []) ((was.stands tell).files name) in
      bytes_more (bytes_in a.files name) before after at known count (was.bytes tell) front
      (read.front ∙ ap (λ (l : List ℕ). take count (drop (at + known) l) ++ drop count (drop known before)) same)
      (subst (λ (l : List ℕ). count ≤ length l - (at + known)) same read.within);
  none = λ tell is. absurd (omega (arith, is, some));
  some = λ tell more.
      let now : b.asked a.turn ≡ m.asked a.turn + length (drop known before) = subst (λ (t : ℕ). b.asked t ≡ m.asked t + length (drop known before)) (was.stands tell).turn (told tell).asked.now in
      asked_more known (length first) (m.asked a.turn) (b.asked a.turn) (a.asked a.turn) (was.none tell) (was.some tell) (now ∙ omega (arith, length-drop known before, was.long));
  most = λ tell fits unrisen.
      let read = told tell in
      let fits_behind : count ≤ length (drop known before) = omega (arith, within, length-drop known before) in
      let lasts = lasts_read name (at + known) (drop known before) (drop known after) m b (Ok count) read fits_behind in
      let is = none_yet name at known first before tells a m was tell fits (λ rose. unrisen (rose_since a m b rose lasts)) room in
      let full = full_read name at known count first before after a m b (was.short_reads tell) (was.stands tell) was.long read is fits unrisen in
      inr (omega (arith, is, full, within, was.long), asked_by name at known first before after tells a m b (Ok count) was tell read is);
  short_reads = λ tell. lasts_on a m b (was.short_reads tell) (lasts_read name (at + known) (drop known before) (drop known after) m b (Ok count) (told tell) (omega (arith, within, length-drop known before)));
  disk_faults = cause.ok ∙ was.disk_faults;
  say_faults = cause.other ∙ was.say_faults;
}
