-- What a scan has still to give, before and behind one item or gate.
use Rattle.std.proofs.Common.{◌≡◌, ℕ, ◌+◌, ◌-◌, ◌^◌, ◌<◌, ◌≤◌, ◌==◌, ◌↔◌, Bool, true, false, List, [], ◌∷◌, length, take, drop, get_or, refl, sym, ap, ◌∙◌, subst, arith, inl, inr, IsTrue}
use Rattle.std.proofs.lemmas.Bool.{cases_lt}
use Rattle.std.proofs.lemmas.Bool.Decides.{nat_tests}
use Rattle.std.proofs.lemmas.List.{take_all, drop-drop, drop-take, length-drop, get_or-take}
use Rattle.std.specs.Prelude.{Result, Ok, Err, IfOk, OnOk, OnErr, if◌then◌else◌}
use Rattle.cache_model.specs.declared.files.FileName.{FileName}
use Rattle.cache_model.specs.declared.faults.BadKind.{BadKind}
use Rattle.cache_model.specs.declared.faults.Damage.{Damage}
use Rattle.cache_model.specs.declared.faults.StoreFault.{StoreFault}
use Rattle.cache_model.specs.declared.faults.StoreFault.TheVariants.{Damaged, Memory}
use Rattle.cache_model.specs.Items.{Item, put, removal, end, Front, whole, front}
use Rattle.cache_model.specs.DataFiles.{Found, nothing, damaged, and_then, found_behind, found_in, found_at_version}
use Rattle.cache_model.proofs.Enough.{front-take}
use Rattle.cache_model.proofs.Grammar.{found_from-whole}
use Rattle.record_format.specs.Meaning.{own_item}
use Rattle.data_file.specs.declared.window.Window.{Window}
use Rattle.data_file.specs.declared.scan.Stage.TheVariants.{Front as DueFront, Item as DueItem, End}
use Rattle.data_file.specs.declared.scan.Scanned.{Scanned}
use Rattle.data_file.specs.declared.scan.Scan.{Scan}
use Rattle.data_file.specs.Windows.{shown_bytes, ShowsFile, IsFull}
use Rattle.data_file.specs.Scanning.{found_from, found_due, rest_of, stage_behind, IsScanOf, HasFound, HasPassed, NamesDamage}

-- a full window shows what stands at its offset
front-full : (window : Window) (file : List ℕ) → ShowsFile window file → IsFull window → front (shown_bytes window) ≡ front (drop window.at file)
front-full window file shows (inl many) = ap front shows.shown ∙ front-take (length (shown_bytes window)) (drop window.at file) many
front-full window file shows (inr all) =
    ap front (shows.shown ∙ take_all (length (shown_bytes window)) (drop window.at file) (omega (arith, length-drop window.at file, shows.sized, all)))

-- some bytes less in front
shows-forget : (file shown : List ℕ) (at count : ℕ) → count ≤ length shown → shown ≡ take (length shown) (drop at file)
    → drop count shown ≡ take (length (drop count shown)) (drop (at + count) file)
shows-forget file shown at count fits is =
    let long : length shown ≡ count + (length shown - count) = omega arith in
    ap (drop count) (is ∙ ap (λ n. take n (drop at file)) long)
    ∙ drop-take count (length shown - count) (drop at file)
    ∙ ap (take (length shown - count)) (drop-drop count at file)
    ∙ ap (λ n. take n (drop (at + count) file)) (sym (length-drop count shown))

found-behind : (item : Item) (at : ℕ) (file : List ℕ) → found_due (stage_behind item) at file ≡ found_behind (λ next rest. found_from next rest) item at (drop at file)
found-behind (put seq until key value) at file = refl
found-behind (removal seq key) at file = refl
found-behind (end moment) at file = refl

behind-not_front : (item : Item) → stage_behind item ≡ DueFront → ⊥
behind-not_front (put seq until key value) is = cc
behind-not_front (removal seq key) is = cc
behind-not_front (end moment) is = cc

-- a whole item at the offset, and then what stands behind it
pub whole-found : (old new : Scan) (window : Window) (file : List ℕ) (item : Item) (size : ℕ) (result : Result Scanned StoreFault)
    → old.stage ≡ DueItem → old.window.at < 2 ^ 32 → window.at ≡ old.window.at → ShowsFile window file → IsFull window
    → whole item (size - 0) ≡ front (shown_bytes window) → size ≤ length (shown_bytes window) → new.window.size ≡ window.size
    → OnOk result (new.window.at ≡ window.at + size) → OnOk result (shown_bytes new.window ≡ drop size (shown_bytes window))
    → IfOk result (λ one. one.place.at ≡ window.at) → IfOk result (λ one. own_item one.item ≡ item)
    → IfOk result (λ one. new.stage ≡ stage_behind (own_item one.item)) → OnErr result (result ≡ Err Memory)
    → HasFound old new file result
whole-found old new window file item size (Ok one) due below at shows full is fits sized moved shown placed given stage memory =
    let there : front (drop window.at file) ≡ whole item size = sym (front-full window file shows full) ∙ sym is ∙ ap (whole item) (omega arith) in
    let stage_is : new.stage ≡ stage_behind item = stage ∙ ap stage_behind given in
    let rest : rest_of new file ≡ found_behind (λ next more. found_from next more) item (window.at + size) (drop size (drop window.at file)) =
    ap (λ s. found_due s new.window.at file) stage_is ∙ ap (λ n. found_due (stage_behind item) n file) moved ∙ found-behind item (window.at + size) file
    ∙ ap (found_behind (λ next more. found_from next more) item (window.at + size)) (sym (drop-drop size window.at file)) in
    let before : rest_of old file ≡ found_from window.at (drop window.at file) =
    ap (λ s. found_due s old.window.at file) due ∙ ap (λ n. found_from n (drop n file)) (sym at) in
    record {
      scans = record {
        shows = record {
          sized = sized ∙ shows.sized;
          shown = shown ∙ shows-forget file (shown_bytes window) window.at size fits shows.shown ∙ ap (λ xs. take (length xs) (drop (window.at + size) file)) (sym shown) ∙ ap (λ n. take (length (shown_bytes new.window)) (drop n file)) (sym moved);
        };
        front = λ front_is. absurd (behind-not_front item (sym stage_is ∙ front_is));
      };
      given =
          before ∙ found_from-whole window.at (drop window.at file) item size (subst (λ n. n < 2 ^ 32) (sym at) below) there
          ∙ ap (and_then (window.at, item)) (sym rest)
          ∙ ap (λ n. and_then (n, item) (rest_of new file)) (sym placed)
          ∙ ap (λ i. and_then (one.place.at, i) (rest_of new file)) (sym given);
      damage = record { file = λ damage e. cc; first = λ damage e. cc };
    }
whole-found old new window file item size (Err fault) due below at shows full is fits sized moved shown placed given stage memory =
    record { scans = tt; given = tt; damage = record { file = λ damage e. cc; first = λ damage e. cc } }

-- a fault that names this damage, where it is the first that is left
names-damage : {T : Type 0} (name : FileName) (rest : Found) (at : ℕ) (kind : BadKind) (fault : StoreFault)
    → fault ≡ Damaged (record { file = name; at = at; kind = kind }) → rest ≡ damaged at kind → NamesDamage {T = T} name rest (Err fault)
names-damage name rest at kind fault is first = record {
  file = λ damage e. let same : record { file = name; at = at; kind = kind } ≡ damage = cc in ap (λ (d : Damage). d.file) (sym same);
  first = λ damage e. let same : record { file = name; at = at; kind = kind } ≡ damage = cc in first ∙ ap (λ (d : Damage). damaged d.at d.kind) same;
}

-- no whole item at the offset
pub damage-found : (old new : Scan) (window : Window) (file : List ℕ) (found : Front) (kind : BadKind) (fault : StoreFault)
    → old.stage ≡ DueItem → window.at ≡ old.window.at → window.name ≡ old.window.name → ShowsFile window file → IsFull window
    → found ≡ front (shown_bytes window) → (front (drop window.at file) ≡ found → found_from window.at (drop window.at file) ≡ damaged window.at kind)
    → fault ≡ Damaged (record { file = window.name; at = window.at; kind = kind })
    → HasFound old new file (Err fault)
damage-found old new window file found kind fault due at named shows full is gives names =
    let before : rest_of old file ≡ found_from window.at (drop window.at file) =
    ap (λ s. found_due s old.window.at file) due ∙ ap (λ n. found_from n (drop n file)) (sym at) in
    record {
      scans = tt;
      given = tt;
      damage = subst (λ (n : FileName). NamesDamage {T = Scanned} n (rest_of old file) (Err fault)) named (names-damage window.name (rest_of old file) window.at kind fault names (before ∙ gives (sym (front-full window file shows full) ∙ sym is)));
    }

found_in-short : (file : List ℕ) → length file < 2 → found_in file ≡ nothing
found_in-short [] short = refl
found_in-short (gate ∷ []) short = grind (arith, nat_tests)
found_in-short (gate ∷ (version ∷ rest)) short = absurd (omega arith)

found_in-closed : (file : List ℕ) → (get_or file 0 0 ≡ 1 → ⊥) → found_in file ≡ nothing
found_in-closed [] closed = refl
found_in-closed (gate ∷ rest) closed = let test : (gate == 1) ≡ false = grind (arith, nat_tests) in ap (λ b. if b then found_at_version rest else nothing) test

all-short : (window : Window) (file : List ℕ) → IsFull window → window.size ≡ length file → window.at ≡ 0 → length (shown_bytes window) < 2 → length file < 2
all-short window file (inl many) sized at few = absurd (omega arith)
all-short window file (inr all) sized at few = omega arith

-- no frame is counted in a file whose first gate isn't open with a byte behind it
pub front-closed : (old new : Scan) (window : Window) (file bytes : List ℕ) (opens : Bool)
    → (IsTrue opens ↔ ((2 ≤ length bytes) × (get_or bytes 0 0 ≡ 1))) → opens ≡ false → bytes ≡ shown_bytes window
    → old.stage ≡ DueFront → IsScanOf old file → window.at ≡ old.window.at → ShowsFile window file → IsFull window
    → new.window ≡ window → new.stage ≡ End → HasPassed old new file (Ok false)
front-closed old new window file bytes opens tells closed same due scans at shows full is_window is_end =
    let none : ((2 ≤ length bytes) × (get_or bytes 0 0 ≡ 1)) → ⊥ = λ both. let opened : opens ≡ true = tells.1 both in cc in
    let zero_at : window.at ≡ 0 = at ∙ scans.front due in
    let shown : bytes ≡ take (length bytes) file =
    same ∙ shows.shown ∙ ap (λ xs. take (length xs) (drop window.at file)) (sym same) ∙ ap (λ n. take (length bytes) (drop n file)) zero_at in
    let long : length bytes ≡ length (shown_bytes window) = ap length same in
    let whole_file : length bytes < 2 → length file < 2 = λ few. all-short window file full shows.sized (omega (arith, zero_at)) (omega arith) in
    let empty : found_in file ≡ nothing = elim (cases_lt (length bytes) 2) [
      | inl short ↦ found_in-short file (whole_file short)
      | inr many ↦ found_in-closed file (λ gate. none (many, ap (λ xs. get_or xs 0 0) shown ∙ get_or-take (length bytes) file 0 0 (omega arith) ∙ gate))
    ] in
    record {
      scans = record { shows = subst (λ w. ShowsFile w file) (sym is_window) shows; front = λ is. cc };
      rest = ap (λ s. found_due s new.window.at file) is_end ∙ sym empty ∙ ap (λ s. found_due s old.window.at file) (sym due);
      due = (λ is. cc, λ is. is_end);
      damage = record { file = λ damage e. cc; first = λ damage e. cc };
    }
