-- Reading on: what a run of reads does to a window.
use Rattle.std.proofs.Common.{◌≡◌, ℕ, ◌+◌, ◌-◌, ◌≤◌, Bool, List, length, take, drop, ◌++◌, sym, ap, ◌∙◌, arith, IsTrue, subst}
use Rattle.std.proofs.lemmas.List.{take-take, take_at, length-take-le, length-drop, length-append, drop-drop, drop-append-le}
use Rattle.std.proofs.Math.Seq.{take-add}
use Rattle.std.specs.Prelude.{Ok}
use Rattle.cache_model.specs.declared.files.FileName.{FileName}
use Rattle.cache_model.specs.Files.{bytes_in}
use Rattle.cache_disk.specs.State.{HostState, Stands}
use Rattle.cache_disk.specs.Calls.{Read}
use Rattle.data_file.specs.declared.window.Window.{Window}
use Rattle.data_file.specs.Windows.{known_to, ShowsFile, AsksFor}

-- A window that was read on for a while.
pub record Filling (first now : Window) (tells : Bool) (old new : HostState) : Type 0 where
  pub named : now.name ≡ first.name
  pub sized : now.size ≡ first.size
  pub at : now.at ≡ first.at
  pub stands : IsTrue tells → Stands old new
  pub shows : IsTrue tells → ShowsFile now (bytes_in old.files first.name)
  pub reads : known_to first ≤ known_to now
  pub asked : IsTrue tells → AsksFor old new (known_to now - known_to first)
  pub disk_faults : new.disk_faults ≡ old.disk_faults
  pub say_faults : new.say_faults ≡ old.say_faults

-- what stands in front, once it was put there
pub front_of : (old front : List ℕ) (wanted : ℕ) → length front ≡ length (take wanted old) → wanted ≤ length old → take wanted (front ++ drop wanted old) ≡ front
front_of old front wanted long fits = take_at front (drop wanted old) wanted (long ∙ length-take-le wanted old fits)

-- The bytes of a file from an offset on, as far as they are shown, with those behind them that were read.
read_more : (file : List ℕ) (at known count : ℕ) (shown : List ℕ) → shown ≡ take (length shown) (drop at file)
    → known ≡ at + length shown → count ≤ length file - known
    → shown ++ take count (drop known file) ≡ take (length (shown ++ take count (drop known file))) (drop at file)
read_more file at known count shown is k within =
    let more : List ℕ = take count (drop known file) in
    let long : length more ≡ count = length-take-le count (drop known file) (omega (arith, length-drop known file)) in
    let behind : drop (length shown) (drop at file) ≡ drop known file = drop-drop (length shown) at file ∙ ap (λ n. drop n file) (sym k) in
    ap (λ xs. xs ++ more) is
    ∙ ap (λ xs. take (length shown) (drop at file) ++ take count xs) (sym behind)
    ∙ sym (take-add (length shown) count (drop at file))
    ∙ ap (λ n. take n (drop at file)) (ap (λ n. length shown + n) (sym long) ∙ sym (length-append shown more))

pub shows_more : (file : List ℕ) (at known wanted count : ℕ) (shown pulled items before after given : List ℕ)
    → shown ≡ take (length shown) (drop at file) → pulled ≡ shown → known ≡ at + length pulled
    → take wanted after ≡ take count (drop known file) ++ drop count (take wanted before)
    → count ≤ wanted → count ≤ length file - known
    → items ≡ pulled ++ take count given → given ≡ after
    → items ≡ take (length items) (drop at file)
shows_more file at known wanted count shown pulled items before after given is same k front fits within grown gives =
    let long : length (take count (drop known file)) ≡ count = length-take-le count (drop known file) (omega (arith, length-drop known file)) in
    let read : take count given ≡ take count (drop known file) =
    ap (take count) gives ∙ sym (take-take count wanted after fits) ∙ ap (take count) front ∙ take_at (take count (drop known file)) (drop count (take wanted before)) count long in
    let all : items ≡ shown ++ take count (drop known file) = grown ∙ ap (λ xs. xs ++ take count given) same ∙ ap (λ xs. shown ++ xs) read in
    all ∙ read_more file at known count shown is (k ∙ ap (λ xs. at + length xs) same) within ∙ ap (λ xs. take (length xs) (drop at file)) (sym all)

-- What a window shows after a read behind what it showed. In its room so many bytes lie before them, which are forgotten.
pub shows_read : (name roomy_name : FileName) (a b : HostState) (at roomy_at known wanted count forgotten : ℕ) (shown room items before after given : List ℕ)
    → roomy_name ≡ name → roomy_at ≡ at → shown ≡ take (length shown) (drop at (bytes_in a.files name)) → drop forgotten room ≡ shown → forgotten ≤ length room
    → known ≡ roomy_at + length (drop forgotten room)
    → Read roomy_name known (take wanted before) (take wanted after) a b (Ok count) → count ≤ wanted
    → items ≡ room ++ take count given → given ≡ after
    → drop forgotten items ≡ take (length (drop forgotten items)) (drop roomy_at (bytes_in a.files name))
shows_read name roomy_name a b at roomy_at known wanted count forgotten shown room items before after given named placed is same fits_room k told fits grown gives =
    let file : List ℕ = bytes_in a.files name in
    let front : take wanted after ≡ take count (drop known file) ++ drop count (take wanted before) =
    subst (λ (n : FileName). take wanted after ≡ take count (drop known (bytes_in a.files n)) ++ drop count (take wanted before)) named told.front in
    let within : count ≤ length file - known = subst (λ (n : FileName). count ≤ length (bytes_in a.files n) - known) named told.within in
    let shown_at : shown ≡ take (length shown) (drop roomy_at file) = subst (λ n. shown ≡ take (length shown) (drop n file)) (sym placed) is in
    let grown_behind : drop forgotten items ≡ drop forgotten room ++ take count given = ap (drop forgotten) grown ∙ drop-append-le forgotten room (take count given) fits_room in
    shows_more file roomy_at known wanted count shown (drop forgotten room) (drop forgotten items) before after given shown_at same k front fits within grown_behind gives
