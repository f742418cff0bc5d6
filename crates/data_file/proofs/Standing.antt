-- What stands after the writes of an appender, and what they leave in every image meanwhile.
use Rattle.std.proofs.Common.{◌≡◌, ℕ, ◌+◌, ◌≤◌, Bool, true, false, List, [], ◌∷◌, ◌++◌, length, Option, Some, Ok, sym, ◌∙◌, ap, subst, arith, length-append, if◌then◌else◌}
use Rattle.std.proofs.lemmas.List.{append-nil}
use Rattle.std.proofs.lemmas.List.Elements.{All-push}
use Rattle.std.specs.Prelude.{unwrap_or}
use Rattle.cache_model.specs.declared.files.FileName.{FileName}
use Rattle.cache_model.specs.Files.{Image, file_in, bytes_in}
use Rattle.cache_model.specs.Items.{Item, IsRecord, spelling}
use Rattle.cache_model.specs.DataFiles.{Frame, file_spelling, CountsFrames}
use Rattle.cache_disk.specs.State.{HostState, Moves}
use Rattle.cache_disk.specs.Calls.{OnFile, AllLeft, HasFile, overwritten, Wrote}
use Rattle.cache_disk.proofs.Runs.{started, weaker_on_file, left_on_file}
use Rattle.data_file.specs.declared.appender.Appender.{Appender}
use Rattle.data_file.specs.Appending.{unsealed, written, next_place, due_bytes, StartsWith, StandsFor}
use Rattle.data_file.proofs.Bytes.{due_version, due-versioned, due-first, versioned-push, written-push, written-behind, length-due, next_place-is, counts-start}
use Rattle.data_file.proofs.Steps.{Answer, behind_goes_on}

pub bytes_in-some : (image : Image) (name : FileName) (bytes : List ℕ) → file_in image name ≡ Some bytes → bytes_in image name ≡ bytes
bytes_in-some image name bytes is = ap (λ (found : Option (List ℕ)). unwrap_or found []) is

-- a write past the end of a file with these bytes
pub file-behind : (name : FileName) (at : ℕ) (old bytes : List ℕ) (a b : HostState) → file_in a.files name ≡ Some old → at ≡ length old → file_in b.files name ≡ Some (overwritten (bytes_in a.files name) at bytes) → file_in b.files name ≡ Some (old ++ bytes)
file-behind name at old bytes a b reads end wrote =
    wrote ∙ ap (λ (l : List ℕ). Some (overwritten l at bytes)) (bytes_in-some a.files name old reads) ∙ ap (λ (l : List ℕ). Some l) (written-behind old bytes at end)

module _ (appender : Appender) (a : HostState) (frames : List Frame) (records : List Item) (stands : StandsFor appender a frames records) where
  pub front-within : length (file_spelling frames) ≤ appender.size
  front-within = omega (arith, stands.size, length-append (file_spelling frames) (unsealed frames records))

  -- the sealed frames stay counted while something is written behind them
  pub counts-behind : (b : HostState) → Moves a b (OnFile appender.name (StartsWith (file_spelling frames))) → Moves a b (OnFile appender.name (CountsFrames frames))
  counts-behind b run = weaker_on_file a b appender.name (StartsWith (file_spelling frames)) (CountsFrames frames) run (λ bytes starts. counts-start frames bytes stands.in_grammar starts)

  pub first-behind : (b : HostState) (bytes : List ℕ) (answer : Answer) → Wrote appender.name appender.size bytes a b answer → Moves a b (OnFile appender.name (StartsWith (file_spelling frames)))
  first-behind b bytes answer wrote =
      behind_goes_on appender.name (file_spelling frames) a stands.images a b appender.size bytes answer front-within (started a (OnFile appender.name (StartsWith (file_spelling frames)))) wrote

  -- the second write begins where the first one ended
  pub next-behind : (b c : HostState) (mid : Appender) (n : ℕ) (bytes : List ℕ) (answer : Answer) → mid ≡ record appender { size = appender.size + n }
      → Moves a b (OnFile appender.name (StartsWith (file_spelling frames))) → Wrote mid.name mid.size bytes b c answer → Moves a c (OnFile appender.name (StartsWith (file_spelling frames)))
  next-behind b c mid n bytes answer same run wrote =
      behind_goes_on appender.name (file_spelling frames) a stands.images b c mid.size bytes answer (omega (arith, front-within, ap (λ (x : Appender). x.size) same)) run
      (subst (λ (name : FileName). Wrote name mid.size bytes b c answer) (ap (λ (x : Appender). x.name) same) wrote)

  pub due_bytes-is : due_bytes appender ≡ length (due_version frames records)
  due_bytes-is = ap (λ (v : Bool). if v then 0 else 1) stands.versioned ∙ sym (length-due frames records)

  -- where the next item stands
  pub place-is : appender.size + due_bytes appender ≡ next_place frames records
  place-is = omega (arith, stands.size, due_bytes-is, next_place-is frames records, length-append (written frames records) (due_version frames records))

  -- one record more is written
  pub stands-more : (after : Appender) (b : HostState) (one : Item) (bytes : List ℕ) → IsRecord one → bytes ≡ spelling one
      → after.name ≡ appender.name
      → after.gate ≡ appender.gate
      → after.versioned ≡ true
      → after.size ≡ length ((written frames records ++ due_version frames records) ++ bytes)
      → file_in b.files appender.name ≡ Some ((written frames records ++ due_version frames records) ++ bytes)
      → Moves a b (OnFile appender.name (StartsWith (file_spelling frames)))
      → StandsFor after b frames (records ++ one ∷ [])
  stands-more after b one bytes is spelled name gate versioned size reads run =
      let whole : (written frames records ++ due_version frames records) ++ bytes ≡ written frames (records ++ one ∷ []) =
      ap (λ (l : List ℕ). (written frames records ++ due_version frames records) ++ l) spelled ∙ sym (written-push frames records one) in
      record {
        in_grammar = stands.in_grammar;
        are_records = All-push IsRecord records one stands.are_records is;
        reads = ap (λ (n : FileName). file_in b.files n) name ∙ reads ∙ ap (λ (l : List ℕ). Some l) whole;
        size = size ∙ ap length whole;
        gate = omega (arith, gate, stands.gate);
        versioned = versioned ∙ sym (versioned-push frames records one);
        images = subst (λ (n : FileName). AllLeft b (λ m. HasFile n (StartsWith (file_spelling frames)) m)) (sym name) (left_on_file a b appender.name (StartsWith (file_spelling frames)) run stands.images);
      }

  -- the version byte is in the file, so the record is written behind all that is there
  pub appended : (after : Appender) (b : HostState) (one : Item) (bytes : List ℕ) → IsRecord one → bytes ≡ spelling one
      → appender.versioned ≡ true
      → after ≡ record appender { size = appender.size + length bytes }
      → Wrote appender.name appender.size bytes a b (Ok tt)
      → StandsFor after b frames (records ++ one ∷ [])
  appended after b one bytes is spelled versioned same wrote =
      let none : due_version frames records ≡ [] = due-versioned frames records (sym stands.versioned ∙ versioned) in
      let whole : written frames records ++ bytes ≡ (written frames records ++ due_version frames records) ++ bytes =
      ap (λ (l : List ℕ). l ++ bytes) (sym (append-nil (written frames records)) ∙ ap (λ (l : List ℕ). written frames records ++ l) (sym none)) in
      let size : appender.size + length bytes ≡ length (written frames records ++ bytes) = omega (arith, stands.size, length-append (written frames records) bytes) in
      stands-more after b one bytes is spelled
      (ap (λ (x : Appender). x.name) same)
      (ap (λ (x : Appender). x.gate) same)
      (ap (λ (x : Appender). x.versioned) same ∙ versioned)
      (ap (λ (x : Appender). x.size) same ∙ size ∙ ap length whole)
      (file-behind appender.name appender.size (written frames records) bytes a b stands.reads stands.size wrote.written ∙ ap (λ (l : List ℕ). Some l) whole)
      (first-behind b bytes (Ok tt) wrote)

  -- the first record is written behind the version byte
  pub appended-first : (mid after : Appender) (b c : HostState) (one : Item) (bytes : List ℕ) → IsRecord one → bytes ≡ spelling one
      → appender.versioned ≡ false
      → mid ≡ record appender { size = appender.size + 1 }
      → after.name ≡ mid.name
      → after.gate ≡ mid.gate
      → after.versioned ≡ true
      → after.size ≡ mid.size + length bytes
      → Wrote appender.name appender.size (1 ∷ []) a b (Ok tt)
      → Wrote mid.name mid.size bytes b c (Ok tt)
      → StandsFor after c frames (records ++ one ∷ [])
  appended-first mid after b c one bytes is spelled versioned same after_name after_gate after_versioned after_size first second =
      let name : mid.name ≡ appender.name = ap (λ (x : Appender). x.name) same in
      let due : due_version frames records ≡ 1 ∷ [] = due-first frames records (sym stands.versioned ∙ versioned) in
      let begun : List ℕ = written frames records ++ 1 ∷ [] in
      let length-begun : mid.size ≡ length begun = ap (λ (x : Appender). x.size) same ∙ omega (arith, stands.size, length-append (written frames records) (1 ∷ [])) in
      let whole : begun ++ bytes ≡ (written frames records ++ due_version frames records) ++ bytes = ap (λ (l : List ℕ). (written frames records ++ l) ++ bytes) (sym due) in
      let at_first = file-behind appender.name appender.size (written frames records) (1 ∷ []) a b stands.reads stands.size first.written in
      let behind : Wrote appender.name mid.size bytes b c (Ok tt) = subst (λ (n : FileName). Wrote n mid.size bytes b c (Ok tt)) name second in
      stands-more after c one bytes is spelled
      (after_name ∙ name)
      (after_gate ∙ ap (λ (x : Appender). x.gate) same)
      after_versioned
      (after_size ∙ omega (arith, length-begun, length-append begun bytes) ∙ ap length whole)
      (file-behind appender.name mid.size begun bytes b c at_first length-begun behind.written ∙ ap (λ (l : List ℕ). Some l) whole)
      (next-behind b c mid 1 bytes (Ok tt) same (first-behind b (1 ∷ []) (Ok tt) first) second)
