-- How a record is copied to the current file.
use Rattle.std.specs.Prelude.{◌≡◌, ◌≤◌, ℕ, Bool, List, Ok}
use Rattle.cache_model.specs.declared.files.Place.{Place}
use Rattle.file_stats.specs.Figures.{Figures}
use Rattle.append_log.specs.declared.log_calls.Log.{Log}
use Rattle.append_log.specs.Current.{files_of, tail_of}
use Rattle.append_log.specs.Calls.{Goes, IsCopied}
use Rattle.compactor.specs.declared.parts.Parts.{Parts}
use Rattle.compactor.specs.Sizing.{CountsWritten}
use Rattle.compactor.specs.Stepping.{NotesCopy, Seats}

-- A record of a key, of so many bytes, was copied from a place to another one: there is room for the row of its file, the
-- key has a seat, the log wrote the copy, the sizes were brought up to it, and the index is to be told of its place.
pub record Copies (key : List ℕ) (from : Place) (gone : Bool) (size moment : ℕ) (old new : Parts) (to : Place) : Type 0 where
  pub reserved : Figures
  pub rows : reserved.rows ≡ old.stats.rows
  pub room : 1 ≤ reserved.spare
  pub seated : Parts
  pub log : Log
  pub figures : Figures
  pub seats : Seats key (record old { stats = reserved }) seated
  pub goes : Goes (files_of old.log) (files_of log) (Ok to)
  pub written : IsCopied size moment (files_of old.log) (files_of log) to
  pub counts : CountsWritten (tail_of (files_of old.log)) (tail_of (files_of log)) reserved figures
  pub notes : NotesCopy key from to gone (record seated { log = log; stats = figures }) new
