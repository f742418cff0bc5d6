-- What ends a frame: the room that it needs, and what the current file is after it.
use Rattle.std.proofs.Common.{◌≡◌, ℕ, ◌+◌, ◌≤◌, Bool, true, false, Option, Some, None, is_some, refl, sym, ◌∙◌, ap, subst, arith}
use Rattle.std.specs.Prelude.{if◌then◌else◌}
use Rattle.data_file.specs.declared.appender.Appender.{Appender}
use Rattle.data_file.specs.Appending.{size_of}
use Rattle.append_log.specs.Current.{IsLogOf, IsNewLog, HasVersion, IsMarked, IsEnded, EndFits, HasEndRoom, closing, makes_file, most_file_size, next_file, tail_by}
use Rattle.append_log.specs.Calls.{ended_tail, sealed_tail, stamped_tail}

-- room

-- where something waits its frame can be ended
pub waiting_room : (store : ℕ) (log : Option Appender) (file : ℕ) (unsealed : Bool) → IsLogOf store log file unsealed → unsealed ≡ true → HasEndRoom log
waiting_room store None file unsealed is waiting = let no : true ≡ false = sym waiting ∙ is in cc
waiting_room store (Some log) file unsealed is waiting = subst (λ (u : Bool). size_of log + closing u ≤ most_file_size + 2) waiting is.3

pub fits_room : (log : Option Appender) (number : ℕ) → is_some log ≡ true → EndFits log number → HasEndRoom log
fits_room None number there fits = cc
fits_room (Some log) number there fits = fits

pub new_room : (log : Option Appender) → IsNewLog log → HasEndRoom log
new_room None is = absurd is
new_room (Some log) is = omega (arith, is.0)

-- a record more leaves the last frame
pub ended_more : (old new : Option Appender) (last : Option ℕ) (mark : ℕ) → IsEnded old last mark → HasVersion new → IsEnded new last mark
ended_more old None last mark ended begun = absurd begun
ended_more None (Some new) last mark ended begun = (begun, subst (λ (l : Option ℕ). IsMarked l mark) (sym ended) tt)
ended_more (Some old) (Some new) last mark ended begun = (begun, ended.1)

-- tails

pub tail_sealed : (store : ℕ) (log : Option Appender) (file : ℕ) (unsealed : Bool) → IsLogOf store log file unsealed → unsealed ≡ true → ended_tail log file ≡ sealed_tail (tail_by log file unsealed)
tail_sealed store None file unsealed is waiting = refl
tail_sealed store (Some log) file unsealed is waiting =
    ap (λ (n : ℕ). Some (file, n, false)) (omega (arith, is.4 waiting))
    ∙ ap (λ (u : Bool). Some (file, (if u then size_of log + 10 else size_of log), false)) (sym waiting)

pub tail_same : (log : Option Appender) (file : ℕ) (unsealed : Bool) (last : Option ℕ) (mark : ℕ) → is_some log ≡ true → IsEnded log last mark → ended_tail log file ≡ stamped_tail false false file (tail_by log file unsealed)
tail_same None file unsealed last mark there ended = cc
tail_same (Some log) file unsealed last mark there ended = ap (λ (n : ℕ). Some (file, n, false)) (omega (arith, ended.0))

pub tail_new : (old new : Option Appender) (file : ℕ) (unsealed : Bool) → is_some old ≡ false → IsNewLog new → ended_tail new file ≡ stamped_tail false false file (tail_by old file unsealed)
tail_new (Some old) new file unsealed none is = cc
tail_new None None file unsealed none is = absurd is
tail_new None (Some new) file unsealed none is = ap (λ (n : ℕ). Some (file, n, false)) (omega (arith, is.0, is.1))

pub tail_behind : (log : Option Appender) (file : ℕ) (unsealed : Bool) → is_some log ≡ true → stamped_tail false false (file + 1) None ≡ stamped_tail false true file (tail_by log file unsealed)
tail_behind None file unsealed there = cc
tail_behind (Some log) file unsealed there = refl

pub tail_idle : (log : Option Appender) (file : ℕ) (unsealed : Bool) → is_some log ≡ true → tail_by log file unsealed ≡ stamped_tail true false file (tail_by log file unsealed)
tail_idle None file unsealed there = cc
tail_idle (Some log) file unsealed there = refl

-- numbers of files

pub next_here : (log : Option Appender) (file : ℕ) → file + 1 ≡ (if makes_file log false then next_file log file + 1 else next_file log file)
next_here None file = refl
next_here (Some log) file = refl

pub next_behind : (log : Option Appender) (file : ℕ) → is_some log ≡ true → file + 1 + 1 ≡ (if makes_file log true then next_file log file + 1 else next_file log file)
next_behind None file there = cc
next_behind (Some log) file there = refl

pub next_idle : (log : Option Appender) (file : ℕ) → is_some log ≡ true → next_file log file ≡ (if makes_file log false then next_file log file + 1 else next_file log file)
next_idle None file there = cc
next_idle (Some log) file there = refl

-- no file is made for a frame that goes to the current one
pub makes_none : (log : Option Appender) → is_some log ≡ true → makes_file log false ≡ false
makes_none None there = cc
makes_none (Some log) there = refl
