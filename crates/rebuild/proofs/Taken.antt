-- What an index and figures stand for goes on by one item more.
use Rattle.std.proofs.Common.{◌≡◌, ◌⊎◌, inl, inr, ⊎_elim, ℕ, ◌+◌, ◌<◌, ◌≤◌, Bool, true, false, List, [], ◌∷◌, ◌++◌, length, take, drop, max, Option, Some, None, All, Contains, refl, sym, ap, subst, ◌∙◌, arith}
use Rattle.std.specs.Prelude.{MatchBool, nat_le}
use Rattle.std.proofs.lemmas.Bool.{cases_lt}
use Rattle.std.proofs.lemmas.Bool.Decides.{nat_tests}
use Rattle.std.proofs.lemmas.Option.{same_Some}
use Rattle.std.proofs.lemmas.List.Elements.{Contains-append_left, Contains-push, Contains-push_cases}
use Rattle.cache_model.specs.declared.files.FileCount.{FileCount}
use Rattle.cache_model.specs.declared.index.IndexKey.{IndexKey}
use Rattle.cache_model.specs.declared.index.IndexValue.{IndexValue}
use Rattle.cache_model.specs.Files.{Image, bytes_in}
use Rattle.cache_model.specs.Hash.{hash}
use Rattle.cache_model.specs.Items.{Item, put, removal, end, spelling, whole, front}
use Rattle.cache_model.specs.Images.{IsNoNewer, key_of, log_name, sequence_of}
use Rattle.data_file.specs.Fetching.{is_record}
use Rattle.data_file.proofs.Within.{counted_front, front_within}
use Rattle.tree_index.specs.Index.{Entries, Index, value_at}
use Rattle.rebuild.specs.declared.figures.Figures.{Figures}
use Rattle.rebuild.specs.declared.newest.Held.{Held}
use Rattle.rebuild.specs.declared.newest.Record.{Record}
use Rattle.rebuild.specs.Reading.{AreRecords, Begins, IsEntry, IsHeldOf, Keeps, Raises, Replaces, StandsAt, Takes, one_more, raised, value_by}
use Rattle.rebuild.specs.Taking.{AreFiguresOf, AreIn, Counted, IsEntryAmong, IsIndexAmong, IsNextItem, IsReachedBy, IsRecordOf, IsRowAmong, StandsForItems, bytes_of, counted_by, live_of}
use Rattle.rebuild.proofs.IndexSteps.{index-end, index-first, index-raised, index-replaced}
use Rattle.rebuild.proofs.LiveBytes.{live-end, live-first, live-raised, live-replaced, part_of}
use Rattle.rebuild.proofs.RowSteps.{rows-grown, rows-moved, rows-same}

-- an item with a key is a record
record-of : (item : Item) (key : List ℕ) → key_of item ≡ Some key → is_record item ≡ true
record-of (put seq until k value) key is = refl
record-of (removal seq k) key is = refl
record-of (end moment) key is = cc

-- an entry stands for a record that its file has
pub entry-stands : (files : Image) (counted : List Counted) (bits : ℕ) (key : List ℕ) (place : IndexKey) (value : IndexValue) → AreIn files counted → (entry : IsEntryAmong counted bits key place value) → StandsAt files place value.length entry.item
entry-stands files counted bits key place value within entry =
    let bytes : List ℕ = bytes_in files (log_name place.file) in
    let there = counted_front bytes place.at entry.item (within _ entry.among) in
    record {
      found = subst (λ n. front (take n (drop place.at bytes)) ≡ whole entry.item n) (sym entry.long) (front_within (drop place.at bytes) entry.item (length (spelling entry.item)) there);
      is_one = record-of entry.item key entry.of_key;
    }

-- so each entry can be read
pub records-in : (files : Image) (bits : ℕ) (entries : Entries) (counted : List Counted) → AreIn files counted → IsIndexAmong counted bits entries → AreRecords files entries
records-in files bits entries counted within index place value held = let entry = index.newest place value held in (entry.1.item, entry-stands files counted bits entry.0 place value within entry.1)

-- the greatest number is one of both
max-either : (a b : ℕ) → (max a b ≡ a) ⊎ (max a b ≡ b)
max-either a b = ⊎_elim (λ lt. inr (omega (arith, lt))) (λ le. inl (omega (arith, le))) (cases_lt a b)

-- the figures of no item
pub figures-none : (next mark : ℕ) → next ≡ 1 → mark ≡ 0 → AreFiguresOf [] next mark
figures-none next mark one zero = record {
  above = λ other key among. absurd (omega (arith, among.1));
  reached_next = inl one;
  bound = λ n a m among. absurd (omega (arith, among.1));
  reached = inl zero;
}

-- of one record more
figures-record : (counted : List Counted) (one : Counted) (key : List ℕ) (next mark later : ℕ) → key_of one.item ≡ Some key → AreFiguresOf counted next mark → later ≡ max next (sequence_of one.item + 1) → AreFiguresOf (counted ++ one ∷ []) later mark
figures-record counted one key next mark later of_key are is = record {
  above = λ other k among of. ⊎_elim
      (λ before. let less = are.above other k before of in omega (arith, less, is))
      (λ (same : one ≡ other). subst (λ (c : Counted). sequence_of c.item < later) same (omega (arith, is)))
      (Contains-push_cases counted one other among);
  reached_next = ⊎_elim
      (λ kept. before (is ∙ kept) are.reached_next)
      (λ now. inr (one, key, Contains-push counted one, of_key, is ∙ now))
      (max-either next (sequence_of one.item + 1));
  bound = λ n a m among. ⊎_elim
      (λ before. are.bound n a m before)
      (λ (same : one ≡ record { number = n; at = a; item = end m }). let no : None ≡ Some key = sym (ap (λ (c : Counted). key_of c.item) same) ∙ of_key in cc)
      (Contains-push_cases counted one _ among);
  reached = ⊎_elim (λ none. inl none) (λ some. inr (some.0, some.1, Contains-append_left counted (one ∷ []) _ some.2)) are.reached;
}
  where
    before : later ≡ next → IsReachedBy counted next → IsReachedBy (counted ++ one ∷ []) later
    before same (inl first) = inl (same ∙ first)
    before same (inr some) = inr (some.0, some.1, Contains-append_left counted (one ∷ []) some.0 some.2, some.3, same ∙ some.4)

-- of one end more
figures-end : (counted : List Counted) (one : Counted) (moment next mark later : ℕ) → one.item ≡ end moment → AreFiguresOf counted next mark → later ≡ max mark moment → AreFiguresOf (counted ++ one ∷ []) next later
figures-end counted one moment next mark later ends are is = record {
  above = λ other k among of. ⊎_elim
      (λ before. are.above other k before of)
      (λ (same : one ≡ other). let no : None ≡ Some k = ap key_of (sym ends) ∙ ap (λ (c : Counted). key_of c.item) same ∙ of in cc)
      (Contains-push_cases counted one other among);
  reached_next = ⊎_elim (λ first. inl first) (λ some. inr (some.0, some.1, Contains-append_left counted (one ∷ []) some.0 some.2, some.3, some.4)) are.reached_next;
  bound = λ n a m among. ⊎_elim
      (λ before. let le = are.bound n a m before in omega (arith, le, is))
      (λ (same : one ≡ record { number = n; at = a; item = end m }). let this : end moment ≡ end m = sym ends ∙ ap (λ (c : Counted). c.item) same in let m_is : moment ≡ m = cc in omega (arith, is, m_is))
      (Contains-push_cases counted one _ among);
  reached = ⊎_elim (λ kept. before (is ∙ kept) are.reached) (λ now. inr (one.number, one.at, subst (λ (c : Counted). Contains (counted ++ one ∷ []) c) (here (is ∙ now)) (Contains-push counted one))) (max-either mark moment);
}
  where
    before : later ≡ mark → (mark ≡ 0) ⊎ ((n : ℕ) × (a : ℕ) × Contains counted (record { number = n; at = a; item = end mark })) → (later ≡ 0) ⊎ ((n : ℕ) × (a : ℕ) × Contains (counted ++ one ∷ []) (record { number = n; at = a; item = end later }))
    before same (inl zero) = inl (same ∙ zero)
    before same (inr some) = inr (some.0, some.1, Contains-append_left counted (one ∷ []) _ (subst (λ m. Contains counted (record { number = some.0; at = some.1; item = end m })) (sym same) some.2))

    here : later ≡ moment → one ≡ record { number = one.number; at = one.at; item = end later }
    here same = ap (λ i. record { number = one.number; at = one.at; item = i }) (ends ∙ ap end (sym same))

module _ (files : Image) (bits : ℕ) (old new : Index) (before after : Figures) (counted : List Counted) (stands : StandsForItems files bits old.entries before counted) where
  -- an end is taken
  pub takes-end : (one : Counted) (moment : ℕ) → IsNextItem files counted one → one.item ≡ end moment → new ≡ old → after.rows ≡ before.rows → after.next_seq ≡ before.next_seq → after.mark ≡ max before.mark moment
      → StandsForItems files bits new.entries after (counted ++ one ∷ [])
  takes-end one moment next ends same rows seq mark =
      let more : List Counted = counted ++ one ∷ [] in
      let live = λ (n : ℕ). ap (λ (t : Index). live_of bits t.entries n more) same ∙ live-end counted one bits old stands.index next.behind (ap key_of ends) n in
      record {
        index = subst (λ (t : Index). IsIndexAmong more bits t.entries) (sym same) (index-end counted one bits old stands.index next.behind (λ key of_key. let no : None ≡ Some key = ap key_of (sym ends) ∙ of_key in cc));
        rows = subst (λ (rs : List FileCount). All (IsRowAmong files bits new.entries more) rs) (sym rows) (rows-same files bits old.entries new.entries counted more before.rows live stands.rows);
        others = subst (λ n. AreFiguresOf more n after.mark) (sym seq) (figures-end counted one moment before.next_seq before.mark after.mark ends stands.others mark);
      }

  module _ (r : Record) (item : Item) (is : IsRecordOf r item) (next : IsNextItem files counted (counted_by r item)) (seq : after.next_seq ≡ max before.next_seq (r.seq + 1)) (mark : after.mark ≡ before.mark) where
    abbrev one : Counted
    one = counted_by r item

    abbrev more : List Counted
    more = counted ++ one ∷ []

    others : AreFiguresOf more after.next_seq after.mark
    others = subst (AreFiguresOf more after.next_seq) (sym mark) (figures-record counted one r.key before.next_seq before.mark after.next_seq is.of_key stands.others (seq ∙ ap (λ s. max before.next_seq (s + 1)) is.seq))

    -- the file of the record has room for it
    fits : bytes_of r.place.file counted + r.place.length ≤ length (bytes_in files (log_name r.place.file))
    fits = subst (λ n. bytes_of r.place.file counted + n ≤ length (bytes_in files (log_name r.place.file))) (sym is.long) next.fits

    -- it is the first of its key
    first : IsHeldOf files old.entries (hash bits r.key) r.key None → Begins (hash bits r.key) r old new before.rows after.rows → StandsForItems files bits new.entries after more
    first none begins = record {
      index = index-first counted one bits old stands.index next.behind r.key is.of_key new (value_by r 1)
          (λ place v held entry. none place v entry.item held entry.hashed (entry-stands files counted bits r.key place v next.within entry) entry.of_key)
          begins.index is.long is.gone refl;
      rows = subst (λ (rs : List FileCount). All (IsRowAmong files bits new.entries more) rs) (sym begins.rows)
          (rows-grown files bits old.entries new.entries counted more r.place.file r.place.length before.rows fits
          (λ n. live-first counted one bits old stands.index next.behind r.key is.of_key new (value_by r 1) begins.index n ∙ ap (λ l. live_of bits old.entries n counted + part_of r.place.file l n) (sym is.long))
          stands.rows);
      others = others;
    }

    module _ (h : Held) (held : value_at old.entries h.place ≡ Some h.value) (entry : IsEntryAmong counted bits r.key h.place h.value) (number : sequence_of entry.item ≡ h.seq) where
      -- an older record of its key is held
      newer : h.seq ≤ r.seq → Replaces h (hash bits r.key) r old new before.rows after.rows → StandsForItems files bits new.entries after more
      newer le replaces = record {
        index = index-replaced counted one bits old stands.index next.behind r.key is.of_key h.place h.value held entry replaces.between new (value_by r (one_more h.value.count)) rank replaces.puts replaces.takes is.long is.gone refl;
        rows = subst (λ (rs : List FileCount). All (IsRowAmong files bits new.entries more) rs) (sym replaces.rows)
            (rows-moved files bits old.entries new.entries counted more r.place.file r.place.length h.place.file h.value.length before.rows fits
            (λ n. live-replaced counted one bits old stands.index next.behind r.key is.of_key h.place h.value held entry replaces.between new (value_by r (one_more h.value.count)) replaces.puts replaces.takes n
            ∙ ap (λ l. live_of bits old.entries n counted + part_of r.place.file l n) (sym is.long))
            stands.rows);
        others = others;
      }
        where
          -- of two with one number the one that stands further behind is the newer
          rank : IsNoNewer (sequence_of entry.item, h.place.file, h.place.at) (sequence_of item, r.place.file, r.place.at)
          rank = ⊎_elim
              (λ less. inl (omega (arith, less, number, is.seq)))
              (λ same. inr (omega (arith, le, same, number, is.seq), ⊎_elim (λ lower. inl lower) (λ lower. inr (lower.0, omega (arith, lower.1))) (next.behind _ entry.among)))
              (cases_lt h.seq r.seq)

      -- a newer record of its key is held
      older : r.seq < h.seq → Raises h old new before.rows after.rows → StandsForItems files bits new.entries after more
      older less raises = record {
        index = index-raised counted one bits old stands.index next.behind r.key is.of_key h.place h.value held entry new (inl (omega (arith, less, number, is.seq))) raises.index;
        rows = subst (λ (rs : List FileCount). All (IsRowAmong files bits new.entries more) rs) (sym raises.rows)
            (rows-same files bits old.entries new.entries counted more before.rows (live-raised counted one bits old stands.index next.behind r.key is.of_key h.place h.value held entry new (raised h.value) raises.index) stands.rows);
        others = others;
      }

      by_number : (b : Bool) → nat_le h.seq r.seq ≡ b → MatchBool b (Replaces h (hash bits r.key) r old new before.rows after.rows) (Raises h old new before.rows after.rows) → StandsForItems files bits new.entries after more
      by_number true test replaces = newer (grind (arith, nat_tests)) replaces
      by_number false test raises = older (grind (arith, nat_tests)) raises

    -- what is held of its key is the entry of its key
    held_entry : (h : Held) → value_at old.entries h.place ≡ Some h.value → IsHeldOf files old.entries (hash bits r.key) r.key (Some h) → (entry : IsEntryAmong counted bits r.key h.place h.value) × (sequence_of entry.item ≡ h.seq)
    held_entry h held of_key =
        let found = stands.index.newest h.place h.value held in
        let its_key = of_key found.1.item (entry-stands files counted bits found.0 h.place h.value next.within found.1) in
        let same : found.0 ≡ r.key = same_Some found.0 r.key (sym found.1.of_key ∙ its_key.0) in
        let entry = subst (λ k. IsEntryAmong counted bits k h.place h.value) same found.1 in
        (entry, (of_key entry.item (entry-stands files counted bits r.key h.place h.value next.within entry)).1)

    by_held : (held : Option Held) → IsEntry old.entries held → IsHeldOf files old.entries (hash bits r.key) r.key held → Keeps held (hash bits r.key) r old new before.rows after.rows → StandsForItems files bits new.entries after more
    by_held None there of_key keeps = first of_key keeps
    by_held (Some h) there of_key keeps = let entry = held_entry h there of_key in by_number h there entry.0 entry.1 (nat_le h.seq r.seq) refl keeps

    -- a record is taken
    pub takes-record : Takes files bits r old new before.rows after.rows → StandsForItems files bits new.entries after more
    takes-record takes = by_held takes.held takes.entry takes.of_key takes.keeps
