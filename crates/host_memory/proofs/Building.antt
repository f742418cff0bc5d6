-- The image after one turn more of those that are there.
use Rattle.std.proofs.Common.{◌≡◌, zero, suc, ◌∙◌, sym, ap, subst, ℕ, ◌+◌, ◌<◌, List, [], ◌∷◌, length, take, drop, get_or, IsTrue, inl, inr, ◌-◌, add-one, arith, length-drop}
use Rattle.std.proofs.Math.Seq.{drop-cons, take-length}
use Rattle.std.proofs.lemmas.List.{take_more}
use Rattle.cache_model.specs.Files.{Image, is_name}
use Rattle.host_memory.specs.declared.turns.Call.{Call}
use Rattle.host_memory.specs.declared.turns.Call.TheVariants.{Create, Write, Sync, Delete, SyncNames, Say}
use Rattle.host_memory.specs.declared.turns.Turn.{Turn}
use Rattle.host_memory.specs.Crashes.{Crashes, AreWellNamed, is_well_named}
use Rattle.host_memory.specs.Files.{are_named_apart, without}
use Rattle.host_memory.specs.ReadsNow.{gone_without}
use Rattle.host_memory.proofs.Apart.{apart_push, apart_without, apart_put, not_there}
use Rattle.host_memory.proofs.Fitting.{IsBuilt, built_more}

rest_is : (turns : List Turn) (i : ℕ) (d : Turn) → i < length turns → drop i turns ≡ get_or turns i d ∷ drop (i + 1) turns
rest_is turns i d below = drop-cons turns i d below ∙ ap (λ n. get_or turns i d ∷ drop n turns) (sym (add-one i))

pub built_step : (files image new : Image) (turns : List Turn) (i : ℕ) (d : Turn) → i < length turns
    → IsBuilt files (take i turns) (drop i turns) image → Crashes (drop (i + 1) turns) (get_or turns i d).call image new → IsBuilt files (take (i + 1) turns) (drop (i + 1) turns) new
built_step files image new turns i d below built crashes =
    let B : List Turn → Type 0 = λ more. IsBuilt files (take i turns) more image in
    let A : List Turn → Type 0 = λ front. IsBuilt files front (drop (i + 1) turns) new in
    subst A (sym (take_more turns i d below)) (built_more files (take i turns) (get_or turns i d) (drop (i + 1) turns) image new (subst B (rest_is turns i d below) built) crashes)

pub named_step : (turns : List Turn) (i : ℕ) (d : Turn) → i < length turns → AreWellNamed (drop i turns) → IsTrue (is_well_named (get_or turns i d).call) × AreWellNamed (drop (i + 1) turns)
named_step turns i d below named = subst AreWellNamed (rest_is turns i d below) named

-- the turns behind a place, as a slice
pub behind : (turns : List Turn) (i : ℕ) → take (length turns - i) (drop i turns) ≡ drop i turns
behind turns i = let e : length turns - i ≡ length (drop i turns) = omega (arith, length-drop i turns) in ap (λ n. take n (drop i turns)) e ∙ take-length (drop i turns)

-- the names stay apart
pub apart_crashes : (turns : List Turn) (call : Call) (old new : Image) → IsTrue (is_well_named call) → IsTrue (are_named_apart old) → Crashes turns call old new → IsTrue (are_named_apart new)
apart_crashes turns (Create name) old new named apart (inl is) = rw is (apart_push (without name old) (name, []) (apart_without name old apart) named (not_there (without name old) name (gone_without name old)))
apart_crashes turns (Create name) old new named apart (inr (unsettled, is)) = rw is (apart_without name old apart)
apart_crashes turns (Write name at bytes) old new named apart (inl is) = rw is (apart_put (is_name name) old _ apart)
apart_crashes turns (Write name at bytes) old new named apart (inr (unsettled, w, torn, is)) = rw is (apart_put (is_name name) old w apart)
apart_crashes turns (Sync name ok) old new named apart is = rw is apart
apart_crashes turns (Delete name) old new named apart (inl is) = rw is (apart_without name old apart)
apart_crashes turns (Delete name) old new named apart (inr (unsettled, unsettled_bytes, is)) = rw is apart
apart_crashes turns (SyncNames ok) old new named apart is = rw is apart
apart_crashes turns (Say bytes ok) old new named apart is = rw is apart

-- the first of some turns are named as all are
pub named_front : (turns : List Turn) (n : ℕ) → AreWellNamed turns → AreWellNamed (take n turns)
named_front turns zero named = tt
named_front [] (suc n) named = tt
named_front (turn ∷ turns) (suc n) named = (named.0, named_front turns n named.1)
