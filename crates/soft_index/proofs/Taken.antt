-- What the taking away of a closed data file leaves, and what it says to the store.
use Rattle.std.proofs.Common.{◌≡◌, ◌⊎◌, ⊎_elim, inl, inr, ℕ, ◌≤◌, true, false, List, [], Some, None, refl, sym, ◌∙◌, ap, subst, arith}
use Rattle.std.specs.Prelude.{Result, Ok, Err}
use Rattle.cache_model.specs.declared.faults.StoreFault.{StoreFault}
use Rattle.cache_model.specs.Files.{Image, file_in}
use Rattle.cache_model.specs.Items.{Item, end}
use Rattle.cache_model.specs.DataFiles.{Frame}
use Rattle.cache_model.specs.Images.{IsCounted, IsMark, IsNoNewer, key_of, log_name, sequence_of}
use Rattle.cache_model.proofs.Existing.{through}
use Rattle.cache_disk.specs.State.{HostState, SameBut}
use Rattle.cache_disk.specs.Calls.{Unmakes}
use Rattle.cache_disk.proofs.Runs.{weaker}
use Rattle.data_file.specs.Appending.{IsHostly}
use Rattle.data_file.proofs.Frame.{placed_of}
use Rattle.append_log.proofs.Steps.{hostly_damaged, hostly_spent}
use Rattle.file_stats.specs.Figures.{Figures, without}
use Rattle.compactor.specs.Counting.{HasReading}
use Rattle.store_trait.specs.Meaning.{Reading}
use Rattle.store_trait.specs.Keeping.{Leaves, SameWhere}
use Rattle.soft_index.specs.declared.log_store.LogStore.{LogStore}
use Rattle.soft_index.specs.Store.{Holds, LogStands, content_of, number, owns_file}
use Rattle.soft_index.specs.Taken.{IsOutdoneBy, IsTakenIn, MayBeTaken, TakesAway}
use Rattle.soft_index.specs.Laws.{cases_file}
use Rattle.soft_index.proofs.Images.{IsAsBefore, IsNewImage, call_acts, counts_before, foreign_name, left_sealed, other_name, sealed_left}
use Rattle.soft_index.proofs.Without.{content_without, stands_without}

-- images

-- An image without the file reads and is marked as it does with it, where what is sealed says so.
module _ (S : LogStore) (a : HostState) (frames : List Frame) (records : List Item) (file : ℕ)
    (stands : LogStands S a frames records)
    (may : MayBeTaken S a.files frames records file)
    (d c : Image) (left : a.left a.turn d) (others : SameBut (log_name file) d c) where
  other_in : (n : ℕ) → (n ≡ file → ⊥) → file_in c (log_name n) ≡ file_in d (log_name n)
  other_in n apart = others (log_name n) (other_name file n apart)

  kept : (n at : ℕ) (item : Item) → (n ≡ file → ⊥) → IsCounted d n at item → IsCounted c n at item
  kept n at item apart counted = record { bytes = counted.bytes; there = other_in n apart ∙ counted.there; counted = counted.counted }

  -- where the file stays
  as_it_was : file_in c (log_name file) ≡ file_in d (log_name file) → IsAsBefore a c
  as_it_was same = counts_before a d c left (record {
    sound = λ sound n bytes is. sound n bytes (sym (all n) ∙ is);
    kept = λ n at item counted. record { bytes = counted.bytes; there = all n ∙ counted.there; counted = counted.counted };
    only = λ n at item counted. record { bytes = counted.bytes; there = sym (all n) ∙ counted.there; counted = counted.counted };
  })
    where
      all : (n : ℕ) → file_in c (log_name n) ≡ file_in d (log_name n)
      all n = ⊎_elim
          (λ is. ap (λ (k : ℕ). file_in c (log_name k)) is ∙ same ∙ ap (λ (k : ℕ). file_in d (log_name k)) (sym is))
          (λ apart. other_in n apart)
          (cases_file n file)

  -- where it is gone
  module _ (gone : file_in c (log_name file) ≡ None) where
    no_bytes : (n : ℕ) (bytes : List ℕ) → file_in c (log_name n) ≡ Some bytes → n ≡ file → ⊥
    no_bytes n bytes there is = let no : None ≡ Some bytes = sym gone ∙ ap (λ (k : ℕ). file_in c (log_name k)) (sym is) ∙ there in cc

    only : (n at : ℕ) (item : Item) → IsCounted c n at item → IsCounted d n at item
    only n at item counted = record { bytes = counted.bytes; there = sym (other_in n (no_bytes n counted.bytes counted.there)) ∙ counted.there; counted = counted.counted }

    -- a record of the file is outdone by one that counts still
    outdone : (key : List ℕ) (n at : ℕ) (item : Item) → n ≡ file → IsCounted d n at item → key_of item ≡ Some key → IsOutdoneBy (Holds (number S) (placed_of frames []) a.files) key file at item
    outdone key n at item is counted of_key = may.outdone key at item (left_sealed S a frames records stands d left file at item (subst (λ (k : ℕ). IsCounted d k at item) is counted)) of_key

    still : (n at : ℕ) (item : Item) → (n ≡ file → ⊥) → Holds (number S) (placed_of frames []) a.files n at item → IsCounted c n at item
    still n at item apart holds = kept n at item apart (sealed_left S a frames records stands d left n at item holds)

    reads : (key : List ℕ) (r : Reading) → HasReading (IsCounted c) key r → HasReading (IsCounted d) key r
    reads key r (inl none) =
        inl (
          λ n at item counted of_key. ⊎_elim
              (λ is. let by = outdone key n at item is counted of_key in none.0 by.n by.a by.other (still by.n by.a by.other by.elsewhere by.counted) by.of_key)
              (λ apart. none.0 n at item (kept n at item apart counted) of_key)
              (cases_file n file),
          none.1,
        )
    reads key r (inr some) =
        inr (
          some.0,
          some.1,
          some.2,
          record {
            counted = only some.0 some.1 some.2 some.3.counted;
            of_key = some.3.of_key;
            newest = λ n at other counted of_key. ⊎_elim
                (λ is.
                let by = outdone key n at other is counted of_key in
                subst (λ (k : ℕ). IsNoNewer (sequence_of other, k, at) (sequence_of some.2, some.0, some.1)) (sym is)
                (through (sequence_of other, file, at) (sequence_of by.other, by.n, by.a) (sequence_of some.2, some.0, some.1) by.newer
                (some.3.newest by.n by.a by.other (still by.n by.a by.other by.elsewhere by.counted) by.of_key)))
                (λ apart. some.3.newest n at other (kept n at other apart counted) of_key)
                (cases_file n file);
          },
          some.4,
        )

    bound : (m : ℕ) → IsMark c m → (n at k : ℕ) → IsCounted d n at (end k) → k ≤ m
    bound m mark n at k counted = ⊎_elim
        (λ is.
        let last = may.stamped in
        let most = last.latest at k (left_sealed S a frames records stands d left file at (end k) (subst (λ (f : ℕ). IsCounted d f at (end k)) is counted)) in
        let below = mark.bound last.n last.a last.moment (still last.n last.a (end last.moment) last.elsewhere last.counted) in
        omega (arith, most, below))
        (λ apart. mark.bound n at k (kept n at (end k) apart counted))
        (cases_file n file)

    as_without : IsAsBefore a c
    as_without = record {
      before = d;
      left = left;
      sound = λ sound n bytes is. sound n bytes (sym (other_in n (no_bytes n bytes is)) ∙ is);
      reads = reads;
      marks = λ m mark. record {
        bound = bound m mark;
        reached = ⊎_elim (λ none. inl none) (λ some. inr (some.0, some.1, only some.0 some.1 (end m) some.2)) mark.reached;
      };
    }

-- each image of the call reads and is marked as one that a crash may leave before it
pub since_taken : (S : LogStore) (a : HostState) (frames : List Frame) (records : List Item) (file moment : ℕ) → LogStands S a frames records → MayBeTaken S a.files frames records file
    → (d c : Image) → a.left a.turn d → Unmakes (log_name file) d c → IsAsBefore a c ⊎ IsNewImage (content_of S a.files) moment c
since_taken S a frames records file moment stands may d c left step =
    inl (⊎_elim (as_it_was S a frames records file stands may d c left step.others) (as_without S a frames records file stands may d c left step.others) step.unmade)

taken_leaves : {R : Type 0} (file : ℕ) (a b : HostState) (result : Result R StoreFault) → TakesAway (log_name file) a b result → Leaves owns_file false a b
taken_leaves file a b result away = record {
  files = λ q other. away.files q (foreign_name file q other);
  images = weaker a b (Unmakes (log_name file)) (SameWhere owns_file false) away.images (λ d m left step q other. step.others q (foreign_name file q other));
}

-- the call

module _ (S : LogStore) (a b : HostState) (frames : List Frame) (records : List Item) (file moment : ℕ)
    (stands : LogStands S a frames records)
    (may : MayBeTaken S a.files frames records file)
    (sound : S.parts.spoilt ≡ false) (late : S.latest ≤ moment) where
  pub taken_told : (figures : Figures) → S.parts.requests.waiting ≡ [] → figures.rows ≡ without file S.parts.stats.rows → TakesAway {R = Unit {0}} (log_name file) a b (Ok tt)
      → IsTakenIn {R = Unit {0}} S (record S { parts = record S.parts { stats = figures }; latest = moment }) a b frames records file moment (Ok tt)
  taken_told figures empty rows away =
      let now = stands_without S figures a b frames records file moment stands may away empty rows late in
      let content = content_without S figures a b frames records file moment stands may away empty rows late in
      let T : LogStore = record S { parts = record S.parts { stats = figures }; latest = moment } in
      record {
        acts = call_acts S T a b frames records moment (content_of S a.files) (Unmakes (log_name file)) stands away.images (since_taken S a frames records file moment stands may) sound late refl (λ unspoilt. inl content)
            {R = Unit {0}} (Ok tt) (taken_leaves file a b (Ok tt) away) away.silent (λ unspoilt. (frames, records, now)) (λ d err. cc) (λ s err. cc) (λ err. cc);
        content = content;
        taken = now;
        gone = away.gone;
        others = away.files;
        current = refl;
      }

  pub untaken_told : (f : StoreFault) → IsHostly f → TakesAway {R = Unit {0}} (log_name file) a b (Err f)
      → IsTakenIn {R = Unit {0}} S (record S { parts = record S.parts { spoilt = true }; latest = moment }) a b frames records file moment (Err f)
  untaken_told f hostly away =
      let T : LogStore = record S { parts = record S.parts { spoilt = true }; latest = moment } in
      record {
        acts = call_acts S T a b frames records moment (content_of S a.files) (Unmakes (log_name file)) stands away.images (since_taken S a frames records file moment stands may) sound late refl
            (λ unspoilt. let no : true ≡ false = unspoilt in cc)
            {R = Unit {0}} (Err f) (taken_leaves file a b (Err f) away) away.silent (λ unspoilt. let no : true ≡ false = unspoilt in cc)
            (λ d err. hostly_damaged {R = Unit {0}} f hostly d err) (λ s err. absurd (hostly_spent {R = Unit {0}} f hostly s err)) (λ err unspoilt. let no : true ≡ false = unspoilt in cc);
        content = tt;
        taken = tt;
        gone = tt;
        others = away.files;
        current = refl;
      }
