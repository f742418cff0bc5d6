-- Calls of a log, one behind another, where each fault spoils the store.
use Rattle.std.proofs.Common.{◌≡◌, ⊎_elim, inl, inr, ℕ, ◌≤◌, true, false, List, refl, ◌∙◌, arith}
use Rattle.std.specs.Prelude.{Result, Ok, Err, OnOk, IsErrOf}
use Rattle.cache_model.specs.declared.faults.StoreFault.{StoreFault}
use Rattle.cache_model.specs.declared.faults.StoreFault.TheVariants as fault
use Rattle.cache_model.specs.declared.faults.Spent.{Spent}
use Rattle.cache_model.specs.declared.faults.Spent.TheVariants.{Files, Sequence}
use Rattle.cache_model.specs.declared.faults.Damage.{Damage}
use Rattle.cache_model.specs.Items.{Item}
use Rattle.cache_model.specs.DataFiles.{Frame}
use Rattle.cache_disk.specs.State.{HostState}
use Rattle.cache_disk.specs.State as disk
use Rattle.cache_disk.proofs.Runs.{Stands-moves, Stands-silent}
use Rattle.data_file.proofs.Frame.{placed_of}
use Rattle.compactor.specs.Counting.{Kept}
use Rattle.compactor.specs.Figuring.{AreFigured}
use Rattle.compactor.specs.declared.parts.Parts.{Parts}
use Rattle.compactor.specs.Recounting.{IsRecounted}
use Rattle.compactor.specs.Stepping.{Empties, KeepsIndex}
use Rattle.store_trait.specs.Meaning.{Content, StoreFacts}
use Rattle.store_trait.specs.Keeping.{SameContent, SameStore}
use Rattle.store_trait.specs.Calls.{Acts, Plainly}
use Rattle.store_trait.proofs.Runs.{kept_same}
use Rattle.soft_index.specs.declared.log_store.LogStore.{LogStore}
use Rattle.soft_index.specs.Running.{ActsOr, IsStill, spoil}
use Rattle.soft_index.specs.Store.{Holds, LogStands, content_of, current_of, log_facts, log_means, number, writer}
use Rattle.soft_index.proofs.Changes.{still_leaves}
use Rattle.soft_index.proofs.Counted.{sizes_counted}
use Rattle.soft_index.proofs.Indexing.{acts_alike, fault_alike, indexed_content, indexed_stands}
use Rattle.soft_index.proofs.Images.{call_acts}
use Rattle.soft_index.proofs.Recounted.{recounted, rows_recounted}
use Rattle.soft_index.proofs.There.{there_by}
use Rattle.soft_index.proofs.Turning.{acts_both, acts_spoilt}

-- where each fault spoils the store
pub acts_or : {R : Type 0} (S T : LogStore) (a b : HostState) (moment : ℕ) (result : Result R StoreFault) → Acts (log_facts S) (log_facts T) (log_means S a) (log_means T b) a b moment (content_of S a.files) result → ActsOr S T a b moment result
acts_or S T a b moment (Ok x) acts = acts
acts_or {R} S T a b moment (Err f) acts = acts_spoilt {R = R} S T (spoil T) a b moment (content_of S a.files) (Err f) refl (λ s is. is) acts

-- a call behind one that answered Ok
pub acts_chain : {Q R : Type 0} (S M T : LogStore) (a b c : HostState) (moment : ℕ) (x : Q) (result : Result R StoreFault)
    → SameStore (log_facts S) (log_facts M) → SameContent (content_of S a.files) (content_of M b.files)
    → Acts {T = Q} (log_facts S) (log_facts M) (log_means S a) (log_means M b) a b moment (content_of S a.files) (Ok x)
    → ActsOr M T b c moment result → ActsOr S T a c moment result
acts_chain {Q} {R} S M T a b c moment x (Ok y) same content first second =
    acts_both {T = Q} {U = R} (log_facts S) (log_facts M) (log_facts T) (log_means S a) (log_means M b) (log_means T c) a b c moment (content_of S a.files) (content_of M b.files) (Ok x) (Ok y) same first second
    (kept_same (log_facts S) moment (content_of S a.files) (content_of M b.files) content) (λ err. cc) (λ err. cc)
acts_chain {Q} {R} S M T a b c moment x (Err f) same content first second =
    acts_both {T = Q} {U = R} (log_facts S) (log_facts M) (log_facts (spoil T)) (log_means S a) (log_means M b) (log_means (spoil T) c) a b c moment (content_of S a.files) (content_of M b.files) (Ok x) (Err f) same first second
    (kept_same (log_facts S) moment (content_of S a.files) (content_of M b.files) content) (λ err sound. let no : true ≡ false = sound in cc) (λ err sound. let no : true ≡ false = sound in cc)

-- contents go on through two calls
pub content_chain : {R : Type 0} (one two : Content) (three : Content) (result : Result R StoreFault) → SameContent one two → OnOk result (SameContent two three) → OnOk result (SameContent one three)
content_chain one two three (Ok x) first second = λ key. second key ∙ first key
content_chain one two three (Err f) first second = tt

-- a call that wrote nothing
pub still_acts_or : {R : Type 0} (S T : LogStore) (a b : HostState) (frames : List Frame) (records : List Item) (moment : ℕ) (result : Result R StoreFault)
    → LogStands S a frames records → S.parts.spoilt ≡ false → S.latest ≤ moment → T.latest ≡ moment → disk.Stands a b
    → OnOk result (LogStands T b frames records) → OnOk result (SameContent (content_of S a.files) (content_of T b.files))
    → ((d : Damage) → IsErrOf result (fault.Damaged d) → ⊥) → ((s : Spent) → IsErrOf result (fault.Spent s) → ⊥)
    → IsStill S T a b frames records moment result
still_acts_or {R} S T a b frames records moment (Ok x) stands sound late latest still now content damaged unspent = record {
  acts = call_acts S T a b frames records moment (content_of S a.files) (λ d c. ⊥) stands (Stands-moves a b (λ d c. ⊥) still) (λ d c left none. absurd none) sound late latest (λ unspoilt. inr content)
      {R = R} (Ok x) (still_leaves a b still) (Stands-silent a b still) (λ unspoilt. (frames, records, now)) (λ d err. cc) (λ s err. cc) (λ err. cc);
  content = content;
  kept = now;
}
still_acts_or {R} S T a b frames records moment (Err f) stands sound late latest still now content damaged unspent = record {
  acts = call_acts S (spoil T) a b frames records moment (content_of S a.files) (λ d c. ⊥) stands (Stands-moves a b (λ d c. ⊥) still) (λ d c left none. absurd none) sound late latest (λ unspoilt. let no : true ≡ false = unspoilt in cc)
      {R = R} (Err f) (still_leaves a b still) (Stands-silent a b still) (λ unspoilt. let no : true ≡ false = unspoilt in cc) damaged (λ s err. absurd (unspent s err)) (λ err unspoilt. let no : true ≡ false = unspoilt in cc);
  content = tt;
  kept = tt;
}

-- two calls that wrote nothing
pub still_chain : {Q R : Type 0} (S M T : LogStore) (a b c : HostState) (frames : List Frame) (records : List Item) (moment : ℕ) (x : Q) (result : Result R StoreFault)
    → SameStore (log_facts S) (log_facts M) → IsStill {R = Q} S M a b frames records moment (Ok x) → IsStill M T b c frames records moment result → IsStill S T a c frames records moment result
still_chain {Q} S M T a b c frames records moment x result same first second = record {
  acts = acts_chain {Q = Q} S M T a b c moment x result same first.content first.acts second.acts;
  content = content_chain (content_of S a.files) (content_of M b.files) (content_of T c.files) result first.content second.content;
  kept = second.kept;
}

-- requests were applied to the index until none waits
pub emptied_still : (S T : LogStore) (a b : HostState) (frames : List Frame) (records : List Item) (moment : ℕ) (result : Result (Unit {0}) StoreFault)
    → (stands : LogStands S a frames records) → S.parts.spoilt ≡ false → S.latest ≤ moment → T.latest ≡ moment → disk.Stands a b
    → Empties S.parts T.parts result
    → KeepsIndex (Holds (number S) (placed_of frames records) a.files) T.parts result
    → (T.parts.spoilt ≡ false → AreFigured (record { number = number S; items = placed_of frames records; files = a.files }) T.parts)
    → ((s : Spent) → IsErrOf result (fault.Spent s) → ⊥)
    → IsStill S T a b frames records moment result
emptied_still S T a b frames records moment (Ok done) stands sound late latest still empties keeps figures unspent =
    let unspoilt = empties.unspoilt in
    let kept : Kept = record { number = number S; items = placed_of frames records; files = a.files } in
    let counted = sizes_counted kept S.parts T.parts (empties.sizes unspoilt) stands.counted (figures unspoilt) in
    let now = indexed_stands S T a b frames records stands (empties.log unspoilt) (λ is there. keeps.indexed unspoilt) counted still (omega (arith, late, latest)) in
    still_acts_or S T a b frames records moment (Ok done) stands sound late latest still now (indexed_content S T a b frames records stands now (empties.log unspoilt) still) (λ d err. cc) (λ s err. cc)
emptied_still S T a b frames records moment (Err f) stands sound late latest still empties keeps figures unspent =
    still_acts_or {R = Unit {0}} S T a b frames records moment (Err f) stands sound late latest still tt tt keeps.undamaged unspent

-- and then the rows are those of a recount
pub emptied_rows : (S : LogStore) (new : Parts) (a : HostState) (frames : List Frame) (records : List Item) (result : Result (Unit {0}) StoreFault)
    → (stands : LogStands S a frames records) → Empties S.parts new result
    → KeepsIndex (Holds (number S) (placed_of frames records) a.files) new result
    → (new.spoilt ≡ false → AreFigured (record { number = number S; items = placed_of frames records; files = a.files }) new)
    → OnOk result (IsRecounted a.files (current_of (writer S) (number S)) new.stats.rows)
emptied_rows S new a frames records (Err f) stands empties keeps figures = tt
emptied_rows S new a frames records (Ok done) stands empties keeps figures =
    let unspoilt = empties.unspoilt in
    let kept : Kept = record { number = number S; items = placed_of frames records; files = a.files } in
    let there = there_by S a frames records stands.log stands.named in
    recounted S a frames records new.stats.rows stands
    (rows_recounted kept a.files new.table new.tree new.requests.waiting (keeps.indexed unspoilt) there empties.emptied new refl (sizes_counted kept S.parts new (empties.sizes unspoilt) stands.counted (figures unspoilt)))

-- what a call says whatever the host tells, with another answer
pub plain_ok : {T U : Type 0} (f g : StoreFacts) (moment : ℕ) (x : T) (y : U) → Plainly {T = T} f g moment (Ok x) → Plainly {T = U} f g moment (Ok y)
plain_ok f g moment x y plain = record { same = plain.same; usable = plain.usable; unspoilt = plain.unspoilt; spoilt = tt; late = plain.late; sequence = λ n err. cc; files = λ n err. cc }

pub plain_err : {T U : Type 0} (f g : StoreFacts) (moment : ℕ) (e : StoreFault) → Plainly {T = T} f g moment (Err e) → Plainly {T = U} f g moment (Err e)
plain_err {T} {U} f g moment e plain = record {
  same = plain.same;
  usable = plain.usable;
  unspoilt = tt;
  spoilt = ⊎_elim (λ is. inl is) (λ err. inr (fault_alike {T = T} {U = U} e fault.Memory err)) plain.spoilt;
  late = plain.late;
  sequence = λ n err. plain.sequence n (fault_alike {T = U} {U = T} e (fault.Spent (Sequence n)) err);
  files = λ n err. plain.files n (fault_alike {T = U} {U = T} e (fault.Spent (Files n)) err);
}

-- and what it is to the store
pub acts_ok : {Q R : Type 0} (S T : LogStore) (a b : HostState) (moment : ℕ) (x : Q) (y : R) → ActsOr {R = Q} S T a b moment (Ok x) → ActsOr {R = R} S T a b moment (Ok y)
acts_ok {Q} {R} S T a b moment x y acts = acts_alike {T = Q} {U = R} (log_facts S) (log_facts T) (log_means S a) (log_means T b) a b moment (content_of S a.files) (Ok x) (Ok y) (λ e err. cc) acts

pub acts_err : {Q R : Type 0} (S T : LogStore) (a b : HostState) (moment : ℕ) (f : StoreFault) → ActsOr {R = Q} S T a b moment (Err f) → ActsOr {R = R} S T a b moment (Err f)
acts_err {Q} {R} S T a b moment f acts =
    acts_alike {T = Q} {U = R} (log_facts S) (log_facts (spoil T)) (log_means S a) (log_means (spoil T) b) a b moment (content_of S a.files) (Err f) (Err f) (λ e err. fault_alike {T = R} {U = Q} f e err) acts
