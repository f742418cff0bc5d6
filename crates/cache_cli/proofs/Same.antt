-- What the same files say.
use Rattle.std.proofs.Common.{inl, inr, ⊎_elim, ℕ, ◌-◌, List, Option, sym, ◌∙◌, subst}
use Rattle.std.specs.Prelude.{IsSome}
use Rattle.std.specs.FinMap.{get}
use Rattle.cache_model.specs.declared.entries.Entry.{Entry}
use Rattle.cache_model.specs.declared.faults.Damage.{Damage}
use Rattle.cache_model.specs.Files.{Image}
use Rattle.cache_model.specs.Items.{Item, end}
use Rattle.cache_model.specs.Images.{log_name, IsCounted, IsSound, HasEntry, IsMark, SameRecords}
use Rattle.cache_model.specs.Numbers.{Opens, IsNextSequence, IsNextFile}
use Rattle.cache_model.specs.Plain.{Plain}
use Rattle.cache_disk.specs.State.{SameFiles}
use Rattle.rebuild.specs.Listing.{IsFirstDamageOf}

pub same_back : (a b : Image) → SameFiles a b → SameFiles b a
same_back a b same name = sym (same name)

pub same_then : (a b c : Image) → SameFiles a b → SameFiles b c → SameFiles a c
same_then a b c first second name = second name ∙ first name

counted_on : (a b : Image) → SameFiles a b → (n at : ℕ) (item : Item) → IsCounted a n at item → IsCounted b n at item
counted_on a b same n at item counted = record { bytes = counted.bytes; there = same (log_name n) ∙ counted.there; counted = counted.counted }

pub records_same : (a b : Image) → SameFiles a b → SameRecords a b
records_same a b same n at item = (counted_on b a (same_back a b same) n at item, counted_on a b same n at item)

pub sound_same : (a b : Image) → SameFiles a b → IsSound a → IsSound b
sound_same a b same sound n bytes there = sound n bytes (sym (same (log_name n)) ∙ there)

-- what the same records say

module _ (a b : Image) (same : SameRecords a b) where
  entry_same : (key : List ℕ) (entry : Option Entry) → HasEntry b key entry → HasEntry a key entry
  entry_same key entry = ⊎_elim
      (λ none. inl (λ n at item counted of_key. none.0 n at item ((same n at item).1 counted) of_key, none.1))
      (λ some. inr (
        some.0,
        some.1,
        some.2,
        record {
          counted = (same some.0 some.1 some.2).0 some.3.counted;
          of_key = some.3.of_key;
          newest = λ n at other counted of_key. some.3.newest n at other ((same n at other).1 counted) of_key;
        },
        some.4,
      ))

  pub mark_same : (mark : ℕ) → IsMark b mark → IsMark a mark
  mark_same mark is = record {
    bound = λ n at m counted. is.bound n at m ((same n at (end m)).1 counted);
    reached = ⊎_elim (λ none. inl none) (λ some. inr (some.0, some.1, (same some.0 some.1 (end mark)).0 some.2)) is.reached;
  }

  pub opens_same : (given : ℕ) (plain : Plain) → Opens b given plain → Opens a given plain
  opens_same given plain opens = record {
    entries = λ key. entry_same key (get plain.entries key) (opens.entries key);
    mark = opens.mark;
    marked = mark_same opens.mark opens.marked;
    moment = opens.moment;
  }

  pub next_sequence_same : (next : ℕ) → IsNextSequence b next → IsNextSequence a next
  next_sequence_same next is = record {
    above = λ n at item key counted of_key. is.above n at item key ((same n at item).1 counted) of_key;
    reached = ⊎_elim (λ one. inl one) (λ some. inr (some.0, some.1, some.2, some.3, (same some.0 some.1 some.2).0 some.4, some.5, some.6)) is.reached;
  }

pub next_file_same : (a b : Image) → SameFiles a b → (number : ℕ) → IsNextFile b number → IsNextFile a number
next_file_same a b same number is = record {
  above = λ n there. is.above n (subst (λ (o : Option (List ℕ)). IsSome o) (sym (same (log_name n))) there);
  reached = ⊎_elim (λ one. inl one) (λ there. inr (subst (λ (o : Option (List ℕ)). IsSome o) (same (log_name (number - 1))) there)) is.reached;
}

pub damage_same : (a b : Image) → SameFiles a b → (damage : Damage) → IsFirstDamageOf b damage → IsFirstDamageOf a damage
damage_same a b same damage is = (
  is.0,
  record {
    bytes = is.1.bytes;
    there = sym (same (log_name damage.file.id)) ∙ is.1.there;
    damage = is.1.damage;
    first = λ n other less there. is.1.first n other less (same (log_name n) ∙ there);
  },
)
