-- What a store wrote and sealed goes on over its calls.
use Rattle.std.proofs.Common.{◌≡◌, ⊎_elim, inl, inr, ℕ, ◌+◌, ◌≤◌, Bool, true, false, List, [], ◌∷◌, ◌++◌, Option, Some, None, Contains, IsSome, sym, ◌∙◌, ap, subst, arith}
use Rattle.std.proofs.lemmas.List.{append-nil}
use Rattle.std.proofs.lemmas.List.Elements.{Contains-append_left}
use Rattle.cache_model.specs.Files.{Image, file_in}
use Rattle.cache_model.specs.Items.{Item, end}
use Rattle.cache_model.specs.DataFiles.{Frame, placed_frames, placed_items}
use Rattle.cache_model.specs.Images.{log_name, key_of}
use Rattle.cache_disk.specs.State.{HostState}
use Rattle.cache_disk.specs.State as disk
use Rattle.data_file.specs.Appending.{frame_start, next_place, sealed}
use Rattle.data_file.proofs.Frame.{placed_of, placed-push, placed-sealed}
use Rattle.append_log.specs.Current.{number_of}
use Rattle.append_log.proofs.Holding.{next_most}
use Rattle.soft_index.specs.declared.log_store.LogStore.{LogStore}
use Rattle.soft_index.specs.Growing.{Grows, GrowsTo, HasGrown}
use Rattle.soft_index.proofs.Changes.{IsAsWas, still_stands}
use Rattle.soft_index.specs.Store.{Holds, LogStands, SameOthers, closed_frames, number, writer}

-- what is sealed was written
pub sealed_within : (frames : List Frame) (records : List Item) (at : ℕ) (item : Item) → Contains (placed_of frames []) (at, item) → Contains (placed_of frames records) (at, item)
sealed_within frames records at item within =
    Contains-append_left (placed_frames 2 frames) (placed_items (frame_start frames) records) (at, item)
    (subst (λ (l : List (ℕ × Item)). Contains l (at, item)) (append-nil (placed_frames 2 frames)) within)

-- what is written stays within once what waits is sealed
pub closed_within : (u : Bool) (frames : List Frame) (records : List Item) (moment : ℕ) (at : ℕ) (item : Item) → Contains (placed_of frames []) (at, item) → Contains (placed_of (closed_frames u frames records moment) []) (at, item)
closed_within true frames records moment at item within =
    subst (λ (l : List (ℕ × Item)). Contains l (at, item)) (sym (append-nil (placed_frames 2 (sealed frames records moment)) ∙ placed-sealed frames records moment))
    (Contains-append_left (placed_of frames records) ((next_place frames records, end moment) ∷ []) (at, item) (sealed_within frames records at item within))
closed_within false frames records moment at item within = within

pub pushed_within : (frames : List Frame) (records : List Item) (one : Item) (at : ℕ) (item : Item) → Contains (placed_of frames records) (at, item) → Contains (placed_of frames (records ++ one ∷ [])) (at, item)
pushed_within frames records one at item within =
    subst (λ (l : List (ℕ × Item)). Contains l (at, item)) (sym (placed-push frames records one))
    (Contains-append_left (placed_of frames records) ((next_place frames records, one) ∷ []) (at, item) within)

-- a call that writes the current file alone
module _ (S T : LogStore) (before after : Image) (file : number T ≡ number S) (same : SameOthers (number S) before after) where
  pub held_here : (items more : List (ℕ × Item)) → ((at : ℕ) (item : Item) → Contains items (at, item) → Contains more (at, item)) → (n at : ℕ) (item : Item) → Holds (number S) items before n at item → Holds (number T) more after n at item
  held_here items more all n at item (inl here) = inl (here.0 ∙ sym file, all at item here.1)
  held_here items more all n at item (inr other) =
      inr (λ is. other.0 (is ∙ file), record { bytes = other.1.bytes; there = same n other.0 ∙ other.1.there; counted = other.1.counted })

  pub grows_here : (frames fs : List Frame) (records rs : List Item)
      → file_in after (log_name 0) ≡ file_in before (log_name 0)
      → ((n at : ℕ) (item : Item) (key : List ℕ) → Holds (number S) (placed_of frames records) before n at item → key_of item ≡ Some key → Holds (number T) (placed_of fs rs) after n at item)
      → ((at : ℕ) (item : Item) → Contains (placed_of frames []) (at, item) → Contains (placed_of fs []) (at, item))
      → GrowsTo S T before after frames fs records rs
  grows_here frames fs records rs zero written sealed_in = record {
    closed = λ n other there. (λ is. other (is ∙ file), same n other);
    written = written;
    zero = λ none. zero ∙ none;
    later = omega (arith, file);
    below = λ n less. same n (λ is. omega (arith, is, less));
    sealed = held_here (placed_of frames []) (placed_of fs []) sealed_in;
  }

-- the current file isn't the one with the number 0
pub zero_same : (S : LogStore) (before after : Image) → 1 ≤ number S → SameOthers (number S) before after → file_in after (log_name 0) ≡ file_in before (log_name 0)
zero_same S before after some same = same 0 (λ is. omega (arith, is, some))

-- a call that writes nothing
abbrev pub grows_still : (S T : LogStore) (a b : HostState) (frames : List Frame) (records : List Item) → number T ≡ number S → disk.Stands a b → LogStands T b frames records → HasGrown S T a.files b frames records
grows_still S T a b frames records file still holds =
    let same : SameOthers (number S) a.files b.files = λ n other. still.files (log_name n) in
    record {
      fs = frames;
      rs = records;
      holds = holds;
      grows = grows_here S T a.files b.files file same frames frames records records (still.files (log_name 0)) (λ n at item key is of_key. held_here S T a.files b.files file same (placed_of frames records) (placed_of frames records) (λ at item within. within) n at item is) (λ at item within. within);
    }

-- a call that changed nothing
pub grows_as_was : (S T : LogStore) (a b : HostState) → IsAsWas S T a.files b.files → S.latest ≤ T.latest → disk.Stands a b → Grows S T a b
grows_as_was S T a b kept late still frames records stands = grows_still S T a b frames records (ap number_of kept.files) still (still_stands S T a b frames records stands kept late still)

-- a call that closes the current file, after which other ones read as before
pub grows_closed_to : (S T : LogStore) (a b : HostState) (frames fs : List Frame) (records rs : List Item) → LogStands S a frames records → 1 ≤ number S → number T ≡ number S + 1
    → ((n : ℕ) → (n ≡ number S → ⊥) → (n ≡ number T → ⊥) → file_in b.files (log_name n) ≡ file_in a.files (log_name n))
    → ((n at : ℕ) (item : Item) → Holds (number S) (placed_of frames records) a.files n at item → Holds (number T) (placed_of [] []) b.files n at item)
    → GrowsTo S T a.files b.files frames fs records rs
grows_closed_to S T a b frames fs records rs stands some file same kept = record {
  closed = λ n other there. (apart n there, same n other (apart n there));
  zero = λ none. same 0 (λ is. omega (arith, is, some)) (λ is. omega (arith, is, file)) ∙ none;
  later = omega (arith, file);
  below = λ n less. same n (λ is. omega (arith, is, less)) (λ is. omega (arith, is, less, file));
  written = λ n at item key is of_key. onward rs n at item (kept n at item is);
  sealed = λ n at item is. onward [] n at item (kept n at item (⊎_elim (λ here. inl (here.0, sealed_within frames records at item here.1)) (λ other. inr other) is));
}
  where
    -- no file had the next number
    apart : (n : ℕ) → IsSome (file_in a.files (log_name n)) → n ≡ number T → ⊥
    apart n there is =
        let none : file_in a.files (log_name n) ≡ None = stands.log.1.beyond n (omega (arith, is, file, next_most (writer S) (number S))) in
        let no : false ≡ true = subst (λ (found : Option (List ℕ)). IsSome found) none there in
        cc

    -- and nothing in it counts
    onward : (items : List Item) (n at : ℕ) (item : Item) → Holds (number T) (placed_of [] []) b.files n at item → Holds (number T) (placed_of fs items) b.files n at item
    onward items n at item (inl here) = absurd (omega (arith, here.1.1))
    onward items n at item (inr other) = inr other

-- the next one holds records alone
pub grows_closed : (S T : LogStore) (a b : HostState) (frames : List Frame) (records rs : List Item) → LogStands S a frames records → 1 ≤ number S → number T ≡ number S + 1
    → ((n : ℕ) → (n ≡ number S → ⊥) → (n ≡ number T → ⊥) → file_in b.files (log_name n) ≡ file_in a.files (log_name n))
    → ((n at : ℕ) (item : Item) → Holds (number S) (placed_of frames records) a.files n at item → Holds (number T) (placed_of [] []) b.files n at item)
    → GrowsTo S T a.files b.files frames [] records rs
grows_closed S T a b frames records rs stands some file same kept = grows_closed_to S T a b frames [] records rs stands some file same kept

-- two calls, one behind the other
abbrev pub grows_both : (S T U : LogStore) (a b c : HostState) (frames : List Frame) (records : List Item) (one : HasGrown S T a.files b frames records) → (two : HasGrown T U b.files c one.fs one.rs) → HasGrown S U a.files c frames records
grows_both S T U a b c frames records one two = record {
  fs = two.fs;
  rs = two.rs;
  holds = two.holds;
  grows = record {
    closed = λ n other there.
        let first = one.grows.closed n other there in
        let second = two.grows.closed n first.0 (subst (λ (found : Option (List ℕ)). IsSome found) (sym first.1) there) in
        (second.0, second.1 ∙ first.1);
    written = λ n at item key is of_key. two.grows.written n at item key (one.grows.written n at item key is of_key) of_key;
    zero = λ none. two.grows.zero (one.grows.zero none);
    later = omega (arith, one.grows.later, two.grows.later);
    below = λ n less. two.grows.below n (omega (arith, less, one.grows.later)) ∙ one.grows.below n less;
    sealed = λ n at item is. two.grows.sealed n at item (one.grows.sealed n at item is);
  };
}

pub grows_then : (S T U : LogStore) (a b c : HostState) (frames : List Frame) (records : List Item) → HasGrown S T a.files b frames records → Grows T U b c → HasGrown S U a.files c frames records
grows_then S T U a b c frames records one two = grows_both S T U a b c frames records one (two one.fs one.rs one.holds)
