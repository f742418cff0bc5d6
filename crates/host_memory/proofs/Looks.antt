-- The calls of the host that take no turn.
use Rattle.std.proofs.Common.{◌≡◌, ◌∙◌, sym, ap, subst, refl, ℕ, ◌+◌, ◌-◌, ◌≤◌, ◌<◌, min, Bool, true, false, List, ◌++◌, length, map, take, drop, Result, Ok, Err, if◌then◌else◌, IsSome, ◌↔◌, Contains, nat_lt, arith, length-drop}
use Rattle.std.specs.Prelude.{Vec}
use Rattle.std.specs.List.{IsDistinct}
use Rattle.std.specs.declared.alloc.Global.{Global}
use Rattle.cache_model.specs.declared.files.FileName.{FileName}
use Rattle.cache_model.specs.Files.{Image, file_in, bytes_in, is_name}
use Rattle.cache_disk.specs.State.{Rose}
use Rattle.cache_disk.specs.Calls.{Listed, Read}
use Rattle.cache_disk.specs.declared.host.HostFault.{HostFault}
use Rattle.cache_disk.specs.declared.host.HostFault.TheVariants.{Failed}
use Rattle.host_memory.specs.Files.{are_named_apart}
use Rattle.host_memory.specs.History.{History, memory_state, counted}
use Rattle.host_memory.specs.Turns.{replayed}
use Rattle.host_memory.proofs.Apart.{distinct, contains}
use Rattle.host_memory.proofs.OneMore.{Answers, Stood, stands, asks}

pub listed : (old new : History) (files : Image) (names : Vec FileName Global) → Stood old new → new.asked ≡ old.asked → new.short_reads ≡ old.short_reads
    → are_named_apart files ≡ true → files ≡ replayed old.initial old.turns → names.items ≡ map (λ file. file.0) files → Listed (memory_state old) (memory_state new) (Ok names)
listed old new files names stood asked short apart read are =
    let C : List FileName → Image → Type 0 = λ items files. (name : FileName) → Contains items name ↔ IsSome (file_in files name) in
    let D : List FileName → Type 0 = λ items. IsDistinct is_name items in
    record {
      stands = stands old new stood;
      asked = asks old new 0 stood (omega (arith, asked));
      short_reads = short;
      each = subst (C names.items) read (let E : List FileName → Type 0 = λ items. C items files in subst E (sym are) (contains files));
      once = subst D (sym are) (distinct files apart);
    }

-- a call that doesn't succeed answers `Failed`
pub is_failure : (ok : Bool) (fault : HostFault) (result : Result (Unit {0}) HostFault) → result ≡ Err fault → Answers ok result → fault ≡ Failed
is_failure true fault result is answers = cc
is_failure false fault result is answers = cc

pub read_failed : (name : FileName) (at : ℕ) (buf : List ℕ) (old new : History) (result : Result ℕ HostFault) → Stood old new → new.asked ≡ old.asked + length buf → new.short_reads ≡ old.short_reads
    → result ≡ Err Failed → Read name at buf buf (memory_state old) (memory_state new) result
read_failed name at buf old new result stood asked short is =
    let P : Result ℕ HostFault → Type 0 = λ answer. Read name at buf buf (memory_state old) (memory_state new) answer in
    subst P (sym is) (record {
      stands = stands old new stood;
      front = tt;
      within = tt;
      some = tt;
      asked = tt;
      asked_failed = λ _. asks old new (length buf) stood asked;
      asked_memory = λ memory. absurd (cc);
      short = tt;
      whole = tt;
      not_read = short;
    })

-- What a read gave: so many of the bytes from the offset on, some where there are some, and as counted.
pub record Gave (bytes buf buf_new : List ℕ) (n short_before short_after : ℕ) : Type 0 where
  pub front : buf_new ≡ take n bytes ++ drop n buf
  pub within : n ≤ min (length bytes) (length buf)
  pub some : 0 < min (length bytes) (length buf) → 0 < n
  pub counted : short_after ≡ (if nat_lt n (min (length bytes) (length buf)) then counted short_before else short_before)

pub read_ok : (name : FileName) (at : ℕ) (buf buf_new : List ℕ) (old new : History) (bytes : List ℕ) (n : ℕ) → Stood old new → new.asked ≡ old.asked + length buf
    → bytes ≡ drop at (bytes_in (memory_state old).files name) → Gave bytes buf buf_new n old.short_reads new.short_reads
    → Read name at buf buf_new (memory_state old) (memory_state new) (Ok n)
read_ok name at buf buf_new old new bytes n stood asked from gave =
    let file = bytes_in (memory_state old).files name in
    let long : length bytes ≡ length file - at = ap length from ∙ length-drop at file in
    record {
      stands = stands old new stood;
      front = gave.front ∙ ap (λ bytes. take n bytes ++ drop n buf) from;
      within = omega (arith, long, gave.within);
      some = λ room there. gave.some (omega (arith, long));
      asked = asks old new (length buf) stood asked;
      asked_failed = λ failed. absurd (cc);
      asked_memory = λ memory. absurd (cc);
      short = λ less. rose (nat_lt n (min (length bytes) (length buf))) refl (omega (arith, long)) gave.counted;
      whole = λ all. same (nat_lt n (min (length bytes) (length buf))) refl (omega (arith, long)) gave.counted;
      not_read = tt;
    }
  where
    rose : (less : Bool) → nat_lt n (min (length bytes) (length buf)) ≡ less → n < min (length bytes) (length buf) → new.short_reads ≡ (if less then counted old.short_reads else old.short_reads) → Rose old.short_reads new.short_reads
    rose true is below e = omega (arith, e)
    rose false isnt below e = absurd (grind arith)

    same : (less : Bool) → nat_lt n (min (length bytes) (length buf)) ≡ less → n ≡ min (length bytes) (length buf) → new.short_reads ≡ (if less then counted old.short_reads else old.short_reads) → new.short_reads ≡ old.short_reads
    same true is all e = absurd (grind arith)
    same false isnt all e = e
