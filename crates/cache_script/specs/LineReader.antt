-- What a reader of lines stands for.
use Rattle.std.specs.Prelude.{◌<◌, ◌≡◌, ℕ, ◌+◌, ◌-◌, ◌^◌, ◌≤◌, Bool, true, false, List, [], ◌∷◌, ◌++◌, length, take, drop, Result, IfOk, OnErr, OnOk, IsErrOf}
use Rattle.cache_model.specs.Lines.{Lacks, lines_of, units_of_length, content_of, content_meaning, meaning_of, refuses}
use Rattle.cache_model.specs.Replies.{long}
use Rattle.cache_disk.specs.declared.source.SourceFault.{SourceFault}
use Rattle.cache_disk.specs.State.{Rose}
use Rattle.cache_script.specs.declared.line_reader.LineReader.{LineReader}
use Rattle.cache_script.specs.declared.line_reader.Taken.{Taken}
use Rattle.cache_script.specs.declared.line_reader.Taken.TheVariants.{Line, Long, End, Spent}
use Rattle.cache_script.specs.declared.line_reader.ReadFault.{ReadFault}
use Rattle.cache_script.specs.declared.line_reader.ReadFault.TheVariants.{Failed, Memory}

-- the bytes that the source gave and that aren't taken yet
abbrev pub pending : LineReader → List ℕ
pending reader = take (reader.end - reader.at) (drop reader.at reader.buffer.items)

-- the input that isn't taken yet: what is pending, and what the source has left
abbrev pub unread : LineReader → List ℕ → List ℕ
unread reader rest = pending reader ++ rest

-- the line that was taken last, without its end
abbrev pub line_taken : LineReader → List ℕ
line_taken reader = reader.line.items

-- how many units the lines took that were taken so far
abbrev pub units_taken : LineReader → ℕ
units_taken reader = reader.units

-- a reader that has taken nothing
pub record IsNew (reader : LineReader) : Type 0 where
  pub nothing : pending reader ≡ []
  pub none : units_taken reader ≡ 0

-- as many units were taken as one run takes
abbrev pub IsSpent : LineReader → Type 0
IsSpent reader = 2 ^ 32 ≤ reader.units + units_of_length reader.taken

-- fewer units were taken than one run takes
abbrev pub HasUnits : LineReader → Type 0
HasUnits reader = reader.units + units_of_length reader.taken < 2 ^ 32

-- After a refill the bytes that were left are pending or still left, and where there were any, some are pending.
pub record Refilled (old new : LineReader) (rest_old rest_new : List ℕ) (result : Result ℕ SourceFault) : Type 0 where
  pub left : IfOk result (λ n. unread new rest_new ≡ rest_old)
  pub some : IfOk result (λ n. n ≡ 0 → (pending new ≡ []) × (rest_old ≡ []))
  pub same : OnErr result (rest_new ≡ rest_old)

-- What is unread stays so, and where nothing is pending there is nothing.
pub record Fetched (some : Bool) (old new : List ℕ) : Type 0 where
  pub same : new ≡ old
  pub none : some ≡ false → old ≡ []

-- So many of the pending bytes were taken as a part of the line.
pub record Keeps (count : ℕ) (old new : LineReader) : Type 0 where
  pub later : new.taken ≡ old.taken + count
  pub left : pending new ≡ drop count (pending old)
  pub more : new.at + length (pending new) ≡ new.end
  pub line : new.taken ≤ 1048577 → new.line.items ≡ old.line.items ++ take count (pending old)

-- A piece of a line was taken from what was pending: up to a line feed, which is taken too, or all of it.
pub record TakesPiece (ended : Bool) (old new : LineReader) : Type 0 where
  pub count : ℕ
  pub later : new.taken ≡ old.taken + count
  pub within : count ≤ length (pending old)
  pub lacks : Lacks 10 (take count (pending old))
  pub met : ended ≡ true → drop count (pending old) ≡ 10 ∷ pending new
  pub all : ended ≡ false → (count ≡ length (pending old)) × (new.at ≡ new.end)
  pub line : new.taken ≤ 1048577 → new.line.items ≡ old.line.items ++ take count (pending old)

-- A line was taken from some input, with its units.
pub record TakesLine (line : List ℕ) (old new : List ℕ) (units_old units_new : ℕ) : Type 0 where
  pub lines : lines_of old ≡ line ∷ lines_of new
  pub counted : units_new ≡ units_old + (1 + units_of_length (length line))
  pub within : units_new ≤ 2 ^ 32

-- So much of the next line was taken that as many units were taken as one run takes.
pub record Exhausts (old : List ℕ) (units : ℕ) : Type 0 where
  pub line : List ℕ
  pub rest : List ℕ
  pub front : old ≡ line ++ rest
  pub lacks : Lacks 10 line
  pub spent : 2 ^ 32 ≤ units + units_of_length (length line)

-- Nothing was taken from the buffer.
pub record SameBuffer (old new : LineReader) : Type 0 where
  pub waiting : pending new ≡ pending old
  pub line : new.line.items ≡ old.line.items
  pub taken : new.taken ≡ old.taken

-- A line was counted, and nothing was taken from the buffer.
pub record CountsLine (old new : LineReader) : Type 0 where
  pub waiting : pending new ≡ pending old
  pub units : new.units ≡ old.units + (1 + units_of_length old.taken)
  pub within : new.units ≤ 2 ^ 32

-- A line that was kept isn't long, and is kept without its end.
pub record KeepsContent (old new : LineReader) : Type 0 where
  pub kept : old.taken ≤ 1048577
  pub content : new.line.items ≡ content_of old.line.items
  pub short : length new.line.items ≤ 1048576

-- The end of a line was met: it is counted, and its content is kept where it isn't long, unless as many units were
-- taken as one run takes.
abbrev pub EndsLine : Taken → LineReader → LineReader → Type 0
EndsLine Line old new = CountsLine old new × KeepsContent old new
EndsLine Long old new = CountsLine old new × (old.taken ≤ 1048577 → 1048576 < length (content_of old.line.items))
EndsLine End old new = ⊥
EndsLine Spent old new = IsSpent old × SameBuffer old new × (new.units ≡ old.units)

-- The end of the input was met, which ends a line that has a byte.
abbrev pub EndsInput : Taken → LineReader → LineReader → Type 0
EndsInput Line old new = (0 < old.taken) × EndsLine Line old new
EndsInput Long old new = (0 < old.taken) × EndsLine Long old new
EndsInput End old new = (old.taken ≡ 0) × SameBuffer old new × (new.units ≡ old.units)
EndsInput Spent old new = (0 < old.taken) × EndsLine Spent old new

-- A line isn't long, and this is its content, which says what it means.
pub record HasContent (line text : List ℕ) : Type 0 where
  pub content : content_of line ≡ text
  pub short : length text ≤ 1048576
  pub means : meaning_of line ≡ content_meaning text

-- A line is long, and refused as such.
pub record IsLong (line : List ℕ) : Type 0 where
  pub above : 1048576 < length (content_of line)
  pub means : meaning_of line ≡ refuses long

-- What was taken from the input that was unread: its first line, or nothing at its end, or no line, where as many
-- units were taken as one run takes.
abbrev pub Takes : Taken → List ℕ → List ℕ → ℕ → LineReader → Type 0
Takes Line old new units reader = (line : List ℕ) × TakesLine line old new units (units_taken reader) × HasContent line (line_taken reader)
Takes Long old new units reader = (line : List ℕ) × TakesLine line old new units (units_taken reader) × IsLong line
Takes End old new units reader = (old ≡ []) × (new ≡ []) × (units_taken reader ≡ units) × (units < 2 ^ 32)
Takes Spent old new units reader = Exhausts old units

-- each line takes a unit at least
abbrev pub Advances : Taken → ℕ → ℕ → Type 0
Advances Line old new = (old < new) × (new ≤ 2 ^ 32)
Advances Long old new = (old < new) × (new ≤ 2 ^ 32)
Advances End old new = new ≡ old
Advances Spent old new = new ≡ old

-- `Failed` comes only where the source's faults rose, and no other answer raises them.
pub record ReadCause {T : Type 0} (before after : ℕ) (result : Result T ReadFault) : Type 0 where
  pub failed : IsErrOf result Failed → Rose before after
  pub ok : OnOk result (after ≡ before)
  pub memory : IsErrOf result Memory → after ≡ before
  pub later : before ≤ after
