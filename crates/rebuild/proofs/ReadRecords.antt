-- What is read of the records that entries stand for.
use Rattle.std.proofs.Common.{◌≡◌, ℕ, ◌+◌, ◌<◌, Bool, true, false, cond, List, [], length, take, drop, get_or, Option, Some, None, All, refl, sym, ap, subst, ◌∙◌}
use Rattle.std.specs.Prelude.{unwrap_or, IsErrOf, Err}
use Rattle.cache_model.specs.declared.faults.StoreFault.{StoreFault}
use Rattle.std.specs.Str.{bytes_eq}
use Rattle.std.proofs.lemmas.Slice.Eq.{bytes_eq-Decides}
use Rattle.std.proofs.lemmas.Option.{same_Some}
use Rattle.std.proofs.lemmas.List.Elements.{All-contains, All-more}
use Rattle.cache_model.specs.declared.files.FileName.{FileName}
use Rattle.cache_model.specs.declared.index.IndexKey.{IndexKey}
use Rattle.cache_model.specs.declared.index.IndexValue.{IndexValue}
use Rattle.cache_model.specs.Files.{Image, bytes_in}
use Rattle.cache_model.specs.Items.{Item, put, removal, end, whole, front}
use Rattle.cache_model.specs.Images.{key_of, log_name}
use Rattle.cache_model.proofs.Members.{all-among}
use Rattle.cache_disk.specs.State.{SameFiles}
use Rattle.tree_index.specs.Index.{AreOrdered, Entries, entries_of}
use Rattle.rebuild.specs.Listing.{IsNumber}
use Rattle.rebuild.specs.Rebuilt.{AreNumbered}
use Rattle.rebuild.specs.Reading.{AreRecords, IsAmongThese, IsEntry, IsHeldAmong, IsHeldOf, StandsAt, sequence_for}
use Rattle.rebuild.specs.declared.newest.Held.{Held}
use Rattle.rebuild.proofs.Lookups.{entry-held, held-entry, of-hash, with-hash}

abbrev pub Row : Type 0
Row = IndexKey × IndexValue

-- a fault is the same one in another answer
pub same-err : {T U : Type 0} (one other : StoreFault) → IsErrOf {T = T} (Err one) other → IsErrOf {T = U} (Err one) other
same-err one other err = let same : one ≡ other = cc in ap (λ (f : StoreFault). Err f) same

pub bytes-same : (a b : Image) (name : FileName) → SameFiles a b → bytes_in b name ≡ bytes_in a name
bytes-same a b name same = ap (λ found. unwrap_or found []) (same name)

-- what stands at a place stands there where the files are the same
pub stands-there : (a b : Image) (place : IndexKey) (size : ℕ) (item : Item) → SameFiles a b → StandsAt a place size item → StandsAt b place size item
stands-there a b place size item same stands = record {
  found = subst (λ (bytes : List ℕ). front (take size (drop place.at bytes)) ≡ whole item size) (sym (bytes-same a b (log_name place.file) same)) stands.found;
  is_one = stands.is_one;
}

-- whether an item of some sequence number is a record of a key
sequence-none : (seq : ℕ) (other key : List ℕ) (b : Bool) → bytes_eq other key ≡ b → None ≡ cond b (Some seq) None → other ≡ key → ⊥
sequence-none seq other key true test is same = cc
sequence-none seq other key false test is same = let no : true ≡ false = sym ((bytes_eq-Decides other key).1 same) ∙ test in cc

pub not-of-key : (key : List ℕ) (item : Item) → None ≡ sequence_for key item → key_of item ≡ Some key → ⊥
not-of-key key (put seq until other value) is of_key = sequence-none seq other key (bytes_eq other key) refl is (same_Some other key of_key)
not-of-key key (removal seq other) is of_key = sequence-none seq other key (bytes_eq other key) refl is (same_Some other key of_key)
not-of-key key (end moment) is of_key = cc

-- one row more stands for no record of the key
pub none-more : (files : Image) (found : List Row) (index : ℕ) (d : Row) (key : List ℕ) → index < length found
    → ((item : Item) → StandsAt files (get_or found index d).0 (get_or found index d).1.length item → None ≡ sequence_for key item)
    → IsHeldAmong files (take index found) key None → IsHeldAmong files (take (index + 1) found) key None
none-more files found index d key within read none =
    All-more (λ (row : Row). (item : Item) → StandsAt files row.0 row.1.length item → key_of item ≡ Some key → ⊥) found index d within none (λ item stands of_key. not-of-key key item (read item stands) of_key)

-- each entry of a hash is one of the index
pub hash-numbers : (hash : ℕ) (entries : Entries) → AreOrdered entries → AreNumbered entries → All (λ (row : Row). IsNumber row.0.file) (entries_of hash entries)
hash-numbers hash entries ordered numbered = all-among (λ (row : Row). IsNumber row.0.file) (entries_of hash entries)
    (λ row among. numbered row.0 row.1 (entry-held entries row.0 row.1 ordered (of-hash hash entries row among).0))

pub hash-records : (files : Image) (hash : ℕ) (entries : Entries) → AreOrdered entries → AreRecords files entries → All (λ (row : Row). (item : Item) × StandsAt files row.0 row.1.length item) (entries_of hash entries)
hash-records files hash entries ordered records = all-among (λ (row : Row). (item : Item) × StandsAt files row.0 row.1.length item) (entries_of hash entries)
    (λ row among. records row.0 row.1 (entry-held entries row.0 row.1 ordered (of-hash hash entries row among).0))

-- what is held by one of them is held by the index
pub among-index : (hash : ℕ) (entries : Entries) (held : Option Held) → AreOrdered entries → IsAmongThese (entries_of hash entries) held → IsEntry entries held
among-index hash entries None ordered among = tt
among-index hash entries (Some held) ordered among = entry-held entries held.place held.value ordered (of-hash hash entries _ among).0

pub held-of : (files : Image) (hash : ℕ) (entries : Entries) (key : List ℕ) (held : Option Held) → IsHeldAmong files (entries_of hash entries) key held → IsHeldOf files entries hash key held
held-of files hash entries key None none = λ place value item held hashed. All-contains (λ (row : Row). (item : Item) → StandsAt files row.0 row.1.length item → key_of item ≡ Some key → ⊥) (entries_of hash entries) (place, value) none (with-hash hash entries (place, value) (held-entry entries place value held) hashed) item
held-of files hash entries key (Some held) is = is
