-- Reading a file into a buffer, as far as it has come.
use Rattle.std.proofs.Common.{◌≡◌, ℕ, ◌+◌, ◌-◌, ◌≤◌, Bool, List, [], length, take, drop, ◌++◌, Option, append_assoc, ap, sym, ◌∙◌, arith, IsTrue, subst}
use Rattle.std.proofs.lemmas.List.{take_at, length-take-le, length-drop}
use Rattle.std.proofs.Math.Seq.{take-add, take-append-add}
use Rattle.std.specs.Prelude.{Ok, unwrap_or}
use borrow.Rule.Slice.PartMut.{put_mid, mid_of, post_of}
use Rattle.cache_model.specs.declared.files.FileName.{FileName}
use Rattle.cache_model.specs.Files.{bytes_in}
use Rattle.cache_disk.specs.State.{HostState}
use Rattle.cache_disk.specs.Calls.{Read}
use Rattle.cache_disk.proofs.Runs.{Stands-trans}
use Rattle.data_file.specs.Windows.{AsksFor}
use Rattle.cache_cli.specs.Causes.{Unfaulted}
use Rattle.cache_cli.specs.DirectorySettings.{IsFilled}

-- Nothing changed or failed, and the buffer begins with the bytes of a file.
pub record Filling (tells : Bool) (from now : HostState) (file buffer : List ℕ) (done : ℕ) : Type 0 where
  pub within : done ≤ length buffer
  pub filled : IsTrue tells → IsFilled from now file buffer done
  pub asked : IsTrue tells → length file ≡ length buffer → AsksFor from now done
  pub unfaulted : Unfaulted from now

-- the front of a list that a part was put into behind it
front_with : (before given behind piece rest : List ℕ) (done count : ℕ) → length before ≡ done → length piece ≡ count → given ≡ piece ++ rest
    → take (done + count) (before ++ (given ++ behind)) ≡ before ++ piece
front_with before given behind piece rest done count long short is =
    ap (λ n. take (n + count) (before ++ (given ++ behind))) (sym long)
    ∙ take-append-add before (given ++ behind) count
    ∙ ap (λ xs. before ++ take count (xs ++ behind)) is
    ∙ ap (λ xs. before ++ xs) (ap (take count) (append_assoc piece rest behind) ∙ take_at piece (rest ++ behind) count short)

-- the buffer begins with more bytes of the file after a read behind those that it began with
pub filled_more : (from now later : HostState) (name : FileName) (buffer given : List ℕ) (done count : ℕ) → done ≤ length buffer
    → IsFilled from now (bytes_in from.files name) buffer done → Read name done (mid_of done (length buffer - done) buffer) given now later (Ok count)
    → IsFilled from later (bytes_in from.files name) (put_mid done (length buffer - done) buffer given) (done + count)
filled_more from now later name buffer given done count inside filled told =
    let file : List ℕ = bytes_in from.files name in
    let room : List ℕ = mid_of done (length buffer - done) buffer in
    let same : bytes_in now.files name ≡ file = ap (λ (bytes : Option (List ℕ)). unwrap_or bytes []) (filled.stands.files name) in
    let few : count ≤ length file - done = subst (λ (f : List ℕ). count ≤ length f - done) same told.within in
    let front : given ≡ take count (drop done file) ++ drop count room = subst (λ (f : List ℕ). given ≡ take count (drop done f) ++ drop count room) same told.front in
    let long : length (take count (drop done file)) ≡ count = length-take-le count (drop done file) (omega (arith, length-drop done file)) in
    record {
      stands = Stands-trans from now later filled.stands told.stands;
      front =
          front_with (take done buffer) given (post_of done (length buffer - done) buffer) (take count (drop done file)) (drop count room) done count (length-take-le done buffer inside) long front
          ∙ ap (λ xs. xs ++ take count (drop done file)) filled.front
          ∙ sym (take-add done count file);
      within = omega (arith, filled.within);
    }
