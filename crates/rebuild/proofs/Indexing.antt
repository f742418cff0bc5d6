-- An index of some items takes one record more.
use Rattle.std.proofs.Common.{◌≡◌, ◌⊎◌, inl, inr, ⊎_elim, ℕ, ◌+◌, ◌-◌, ◌^◌, Bool, true, false, cond, List, [], ◌∷◌, ◌++◌, length, min, Some, Contains, refl, sym, ap, subst, ◌∙◌, arith}
use Rattle.std.specs.Prelude.{count_by}
use Rattle.std.proofs.lemmas.Option.{same_Some}
use Rattle.std.proofs.lemmas.List.Elements.{Contains-append_left, Contains-push, Contains-push_cases}
use Rattle.std.proofs.lemmas.List.Sums.{sum_by-cons, sum_by_push}
use Rattle.cache_model.specs.declared.index.IndexKey.{IndexKey}
use Rattle.cache_model.specs.declared.index.IndexValue.{IndexValue}
use Rattle.cache_model.specs.Hash.{hash}
use Rattle.cache_model.specs.Items.{spelling}
use Rattle.cache_model.specs.Images.{IsNoNewer, key_of, sequence_of}
use Rattle.cache_model.proofs.Existing.{itself}
use Rattle.cache_model.proofs.Members.{among-none, among-here, among-later, among-cases}
use Rattle.rebuild.specs.Rebuilt.{is_of, is_removal}
use Rattle.rebuild.specs.Reading.{raised}
use Rattle.rebuild.specs.Taking.{AreApart, Counted, IsEntryAmong, IsInFrontOf, IsSamePlace}
use Rattle.rebuild.proofs.Ranks.{cases-of, key-is_of, same-rank}

-- items that stand at the same place are the same
pub same-item : (counted : List Counted) → AreApart counted → (one other : Counted) → Contains counted one → Contains counted other → IsSamePlace one other → one ≡ other
same-item [] apart one other here there same = absurd (among-none one here)
same-item (first ∷ counted) apart one other here there same = by (among-cases first one counted here) (among-cases first other counted there) (λ a b. same-item counted apart.1 one other a b same)
  where
    by : (first ≡ one) ⊎ Contains counted one → (first ≡ other) ⊎ Contains counted other → (Contains counted one → Contains counted other → one ≡ other) → one ≡ other
    by (inl a) (inl b) rest = sym a ∙ b
    by (inl a) (inr b) rest = absurd (apart.0 other b (ap (λ (c : Counted). c.number) a ∙ same.0, ap (λ (c : Counted). c.at) a ∙ same.1))
    by (inr a) (inl b) rest = absurd (apart.0 one a (ap (λ (c : Counted). c.number) b ∙ sym same.0, ap (λ (c : Counted). c.at) b ∙ sym same.1))
    by (inr a) (inr b) rest = rest a b

-- an item behind all of these is apart from them
pub apart-push : (counted : List Counted) (one : Counted) → AreApart counted → ((other : Counted) → Contains counted other → IsSamePlace other one → ⊥) → AreApart (counted ++ one ∷ [])
apart-push [] one apart fresh = (λ other among. absurd (among-none other among), tt)
apart-push (first ∷ counted) one apart fresh = (
  λ other among same. ⊎_elim
      (λ before. apart.0 other before same)
      (λ (is : one ≡ other). fresh first (among-here first counted) (same.0 ∙ sym (ap (λ (c : Counted). c.number) is), same.1 ∙ sym (ap (λ (c : Counted). c.at) is)))
      (Contains-push_cases counted one other among),
  apart-push counted one apart.1 (λ other among. fresh other (among-later first other counted among)),
)

-- what stands in front of an item doesn't stand at its place
pub in-front-apart : (one other : Counted) → IsInFrontOf one other → IsSamePlace one other → ⊥
in-front-apart one other (inl lower) same = omega (arith, lower, same.0)
in-front-apart one other (inr lower) same = omega (arith, lower.1, same.1)

-- how many records of a key are among these and one item more
count-push : (key : List ℕ) (counted : List Counted) (one : Counted) (b : Bool) → is_of key one.item ≡ b → count_by (λ (c : Counted). is_of key c.item) (counted ++ one ∷ []) ≡ count_by (λ (c : Counted). is_of key c.item) counted + cond b 1 0
count-push key counted one b is = sum_by_push (λ (c : Counted). cond (is_of key c.item) 1 0) counted one ∙ ap (λ t. count_by (λ (c : Counted). is_of key c.item) counted + cond t 1 0) is

-- where none of the items is a record of the key the count is 0
pub count-none : (key : List ℕ) (counted : List Counted) → ((other : Counted) → Contains counted other → key_of other.item ≡ Some key → ⊥) → count_by (λ (c : Counted). is_of key c.item) counted ≡ 0
count-none key [] none = refl
count-none key (first ∷ counted) none =
    sum_by-cons (λ (c : Counted). cond (is_of key c.item) 1 0) first counted
    ∙ ⊎_elim
    (λ of_key. absurd (none first (among-here first counted) of_key))
    (λ differs. ap (λ b. cond b 1 0 + count_by (λ (c : Counted). is_of key c.item) counted) differs.1 ∙ ap (λ n. 0 + n) (count-none key counted (λ other among. none other (among-later first other counted among))) ∙ omega arith)
    (cases-of key first.item)

-- where a record of a key has its entry
abbrev pub place_of : ℕ → List ℕ → Counted → IndexKey
place_of bits key one = record { hash = hash bits key; file = one.number; at = one.at }

module _ (counted : List Counted) (one : Counted) (bits : ℕ) where
  abbrev more : List Counted
  more = counted ++ one ∷ []

  -- an item that is no record of a key leaves its entry
  pub entry-kept : (key : List ℕ) (place : IndexKey) (value : IndexValue) → (key_of one.item ≡ Some key → ⊥) → IsEntryAmong counted bits key place value → IsEntryAmong more bits key place value
  entry-kept key place value apart entry = record {
    item = entry.item;
    among = Contains-append_left counted (one ∷ []) _ entry.among;
    of_key = entry.of_key;
    newest = λ other among of_key. ⊎_elim (λ before. entry.newest other before of_key) (λ (is : one ≡ other). absurd (apart (ap (λ (c : Counted). key_of c.item) is ∙ of_key))) (Contains-push_cases counted one other among);
    hashed = entry.hashed;
    long = entry.long;
    gone = entry.gone;
    many = entry.many ∙ ap (λ n. min n (2 ^ 64 - 1)) (sym (⊎_elim (λ of_key. absurd (apart of_key)) (λ differs. count-push key counted one false differs.1 ∙ omega arith) (cases-of key one.item)));
  }

  -- an older record is counted by the entry of its key
  pub entry-raised : (key : List ℕ) (place : IndexKey) (value : IndexValue) → key_of one.item ≡ Some key → (entry : IsEntryAmong counted bits key place value) → IsNoNewer (sequence_of one.item, one.number, one.at) (sequence_of entry.item, place.file, place.at)
      → IsEntryAmong more bits key place (raised value)
  entry-raised key place value of_key entry older = record {
    item = entry.item;
    among = Contains-append_left counted (one ∷ []) _ entry.among;
    of_key = entry.of_key;
    newest = λ other among other_key. ⊎_elim
        (λ before. entry.newest other before other_key)
        (λ (is : one ≡ other). subst (λ (c : Counted). IsNoNewer (sequence_of c.item, c.number, c.at) (sequence_of entry.item, place.file, place.at)) is older)
        (Contains-push_cases counted one other among);
    hashed = entry.hashed;
    long = entry.long;
    gone = entry.gone;
    many = omega (arith, entry.many, count-push key counted one true (key-is_of key one.item of_key));
  }

  -- a record that no other one of its key is newer than has the entry
  pub entry-new : (key : List ℕ) (value : IndexValue) → key_of one.item ≡ Some key
      → ((other : Counted) → Contains counted other → key_of other.item ≡ Some key → IsNoNewer (sequence_of other.item, other.number, other.at) (sequence_of one.item, one.number, one.at))
      → value.length ≡ length (spelling one.item)
      → value.gone ≡ is_removal one.item
      → value.count ≡ min (count_by (λ (c : Counted). is_of key c.item) counted + 1) (2 ^ 64 - 1)
      → IsEntryAmong more bits key (place_of bits key one) value
  entry-new key value of_key older long gone many = record {
    item = one.item;
    among = Contains-push counted one;
    of_key = of_key;
    newest = λ other among other_key. ⊎_elim
        (λ before. older other before other_key)
        (λ (is : one ≡ other). subst (λ (c : Counted). IsNoNewer (sequence_of c.item, c.number, c.at) (sequence_of one.item, one.number, one.at)) is (itself (sequence_of one.item, one.number, one.at)))
        (Contains-push_cases counted one other among);
    hashed = refl;
    long = long;
    gone = gone;
    many = many ∙ ap (λ n. min n (2 ^ 64 - 1)) (sym (count-push key counted one true (key-is_of key one.item of_key)));
  }

-- two entries of one key are the same
pub single-entry : (counted : List Counted) (bits : ℕ) (key : List ℕ) (one other : IndexKey) (v w : IndexValue) → IsEntryAmong counted bits key one v → IsEntryAmong counted bits key other w → one ≡ other
single-entry counted bits key one other v w a b =
    let same = same-rank (sequence_of a.item, one.file, one.at) (sequence_of b.item, other.file, other.at)
    (b.newest (record { number = one.file; at = one.at; item = a.item }) a.among a.of_key) (a.newest (record { number = other.file; at = other.at; item = b.item }) b.among b.of_key) in
    ap (λ n. named n one.file one.at) (a.hashed ∙ sym b.hashed) ∙ ap (λ n. named other.hash n one.at) same.0 ∙ ap (λ n. named other.hash other.file n) same.1
  where
    named : ℕ → ℕ → ℕ → IndexKey
    named hash file at = record { hash = hash; file = file; at = at }

-- entries at one place are of one key
pub one-key : (counted : List Counted) (bits : ℕ) (one other : List ℕ) (place : IndexKey) (v w : IndexValue) → AreApart counted → IsEntryAmong counted bits one place v → IsEntryAmong counted bits other place w → one ≡ other
one-key counted bits one other place v w apart a b =
    let same = same-item counted apart _ _ a.among b.among (refl, refl) in
    same_Some one other (sym a.of_key ∙ ap (λ (c : Counted). key_of c.item) same ∙ b.of_key)
