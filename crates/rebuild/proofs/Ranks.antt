-- Which of two records is newer, and which items are records of a key.
use Rattle.std.proofs.Common.{◌≡◌, ◌⊎◌, inl, inr, ℕ, ◌<◌, ◌≤◌, Bool, true, false, List, Some, refl, sym, ap, ◌∙◌, arith}
use Rattle.std.specs.Str.{bytes_eq}
use Rattle.std.proofs.lemmas.Option.{same_Some}
use Rattle.std.proofs.lemmas.Slice.Eq.{bytes_eq-Decides}
use Rattle.cache_model.specs.Items.{Item, put, removal, end}
use Rattle.cache_model.specs.Images.{IsNoNewer, key_of}
use Rattle.rebuild.specs.Rebuilt.{is_of}

-- two of which none is newer stand at the same place
pub same-rank : (one other : ℕ × ℕ × ℕ) → IsNoNewer one other → IsNoNewer other one → (one.1 ≡ other.1) × (one.2 ≡ other.2)
same-rank one other (inl a) (inl b) = absurd (omega (arith, a, b))
same-rank one other (inl a) (inr b) = absurd (omega (arith, a, b.0))
same-rank one other (inr a) (inl b) = absurd (omega (arith, a.0, b))
same-rank one other (inr a) (inr b) = by a.1 b.1
  where
    by : (one.1 < other.1) ⊎ ((one.1 ≡ other.1) × (one.2 ≤ other.2)) → (other.1 < one.1) ⊎ ((other.1 ≡ one.1) × (other.2 ≤ one.2)) → (one.1 ≡ other.1) × (one.2 ≡ other.2)
    by (inl c) (inl d) = absurd (omega (arith, c, d))
    by (inl c) (inr d) = absurd (omega (arith, c, d.0))
    by (inr c) (inl d) = absurd (omega (arith, c.0, d))
    by (inr c) (inr d) = (c.0, omega (arith, c.1, d.1))

-- what is tested as a record of a key is one
pub is_of-key : (key : List ℕ) (item : Item) → is_of key item ≡ true → key_of item ≡ Some key
is_of-key key (put seq until other value) is = ap (λ (k : List ℕ). Some k) ((bytes_eq-Decides other key).0 is)
is_of-key key (removal seq other) is = ap (λ (k : List ℕ). Some k) ((bytes_eq-Decides other key).0 is)
is_of-key key (end moment) is = cc

-- and one is tested so
pub key-is_of : (key : List ℕ) (item : Item) → key_of item ≡ Some key → is_of key item ≡ true
key-is_of key (put seq until other value) is = (bytes_eq-Decides other key).1 (same_Some other key is)
key-is_of key (removal seq other) is = (bytes_eq-Decides other key).1 (same_Some other key is)
key-is_of key (end moment) is = cc

-- an item is a record of a key or isn't
pub cases-of : (key : List ℕ) (item : Item) → (key_of item ≡ Some key) ⊎ ((key_of item ≡ Some key → ⊥) × (is_of key item ≡ false))
cases-of key item = by (is_of key item) refl
  where
    by : (b : Bool) → is_of key item ≡ b → (key_of item ≡ Some key) ⊎ ((key_of item ≡ Some key → ⊥) × (is_of key item ≡ false))
    by true is = inl (is_of-key key item is)
    by false is = inr (λ of_key. let no : true ≡ false = sym (key-is_of key item of_key) ∙ is in cc, is)

-- two keys are the same or not
pub cases-text : (one other : List ℕ) → (one ≡ other) ⊎ (one ≡ other → ⊥)
cases-text one other = by (bytes_eq one other) refl
  where
    by : (b : Bool) → bytes_eq one other ≡ b → (one ≡ other) ⊎ (one ≡ other → ⊥)
    by true is = inl ((bytes_eq-Decides one other).0 is)
    by false is = inr (λ same. let no : true ≡ false = sym ((bytes_eq-Decides one other).1 same) ∙ is in cc)
