-- A write that a crash cuts short.
use Rattle.std.proofs.Common.{◌≡◌, ◌∙◌, sym, ap, subst, ℕ, ◌+◌, ◌-◌, ◌≤◌, List, length, take, drop, get_or, set, Some, None, arith}
use Rattle.std.specs.List.{position}
use Rattle.std.specs.Map.{set_value}
use Rattle.std.proofs.lemmas.List.{drop-drop, length-take}
use Rattle.cache_model.specs.declared.files.FileName.{FileName}
use Rattle.cache_model.specs.Files.{Image, bytes_in, is_name}
use Rattle.cache_disk.specs.Calls.{Torn, overwritten}
use Rattle.host_memory.specs.ReadsNow.{torn_inside, untorn}
use Rattle.host_memory.proofs.Places.{place_puts, no_place, put_nowhere}
use Rattle.host_memory.proofs.Writes.{bytes_at}

drop_more : (m k : ℕ) (old new : List ℕ) → drop m new ≡ drop m old → drop (m + k) new ≡ drop (m + k) old
drop_more m k old new same = sym (drop-drop k m new) ∙ ap (drop k) same ∙ drop-drop k m old

-- what a shorter write may leave, a longer one may
longer : (at m n : ℕ) (old new : List ℕ) → m ≤ n → Torn at m old new → Torn at n old new
longer at m n old new le torn =
    let D : ℕ → Type 0 = λ k. drop k new ≡ drop k old in
    let e : at + m + (n - m) ≡ at + n = omega arith in
    record {
      before = torn.before;
      after = subst D e (drop_more (at + m) (n - m) old new torn.after);
      no_shorter = torn.no_shorter;
      no_longer = omega (arith, torn.no_longer);
    }

pub torn_short : (at n : ℕ) (old piece : List ℕ) → at ≤ length old → length piece ≤ n → Torn at n old (overwritten old at piece)
torn_short at n old piece room short = longer at (length piece) n old (overwritten old at piece) short (torn_inside at piece old room)

pub tore_at : (name : FileName) (files : Image) (i : ℕ) (d v : FileName × List ℕ) (at n : ℕ) → Some i ≡ position (λ (e : FileName × List ℕ). is_name name e.0) files → d ≡ get_or files i d
    → v.0 ≡ d.0 → Torn at n d.1 v.1 → (w : List ℕ) × Torn at n (bytes_in files name) w × (set files i v ≡ set_value (is_name name) files w)
tore_at name files i d v at n place is name_is torn =
    let P : List ℕ → Type 0 = λ old. Torn at n old v.1 in
    let puts = place_puts (is_name name) files i d v.1 (sym place) in
    (v.1, subst P (sym (bytes_at name files i d place is)) torn, ap (λ (n : FileName). set files i (n, v.1)) (name_is ∙ ap (λ (e : FileName × List ℕ). e.0) is) ∙ sym puts)

pub tore_nowhere : (name : FileName) (files : Image) (at n : ℕ) → None ≡ position (λ (e : FileName × List ℕ). is_name name e.0) files
    → (w : List ℕ) × Torn at n (bytes_in files name) w × (files ≡ set_value (is_name name) files w)
tore_nowhere name files at n none = (bytes_in files name, untorn at n (bytes_in files name), sym (put_nowhere (is_name name) files (bytes_in files name) (no_place (is_name name) files (sym none))))

pub torn_piece : (at n end : ℕ) (file new : FileName × List ℕ) (target : List ℕ) → at ≤ length file.1 → end ≤ at + n → ◌≡◌ {A = FileName × List ℕ} new (file.0, overwritten file.1 at (take (end - at) (drop at target))) → (new.0 ≡ file.0) × Torn at n file.1 new.1
torn_piece at n end file new target room short is =
    let few : length (take (end - at) (drop at target)) ≤ n = omega (arith, length-take (end - at) (drop at target)) in
    let P : List ℕ → Type 0 = λ bytes. Torn at n file.1 bytes in
    (ap (λ (file : FileName × List ℕ). file.0) is, subst P (sym (ap (λ (file : FileName × List ℕ). file.1) is)) (torn_short at n file.1 (take (end - at) (drop at target)) room few))
