-- A key's new place waits for the index, and the parts stand for its record too.
use Rattle.std.proofs.Common.{arith, length, length-append, ◌<◌, ◌≡◌, ◌⊎◌, inl, inr, ⊎_elim, ℕ, ◌≤◌, Bool, true, false, List, [], ◌∷◌, ◌++◌, Some, None, refl, sym, ◌∙◌, ap, subst}
use Rattle.std.specs.Prelude.{cond, All, Option, option_map}
use Rattle.std.specs.Option.{option_or}
use Rattle.std.specs.Str.{bytes_eq}
use Rattle.std.proofs.lemmas.List.Elements.{All-push, All-weaker, All-nil, All-head, All-tail}
use Rattle.std.proofs.lemmas.Slice.Eq.{bytes_eq-Decides}
use Rattle.cache_model.specs.declared.files.Place.{Place}
use Rattle.cache_model.specs.declared.index.IndexKey.{IndexKey}
use Rattle.cache_model.specs.declared.index.IndexValue.{IndexValue}
use Rattle.cache_model.specs.Items.{Item}
use Rattle.cache_model.specs.Images.{key_of}
use Rattle.cache_model.proofs.Members.{all-among}
use Rattle.temporary_table.specs.declared.requests.Request.{Request}
use Rattle.temporary_table.specs.declared.requests.Request.TheVariants.{Set, Swap, Drop, Less}
use Rattle.temporary_table.specs.Queue.{Queue, pushed}
use Rattle.temporary_table.specs.Queue as queue
use Rattle.temporary_table.specs.Places.{Places, Seat, placed, seat_of, place_of, Reseats}
use Rattle.append_log.specs.declared.log_calls.Log.{Log}
use Rattle.append_log.specs.Current.{IsUsable, files_of, store_of}
use Rattle.tree_index.specs.Index.{Index, AreOrdered, value_at}
use Rattle.compactor.specs.declared.parts.Parts.{Parts}
use Rattle.compactor.specs.Counting.{Counts, IsNewestBy, Adds, IsFileNumber}
use Rattle.compactor.specs.Indexing.{IsCopied, IsPlaced, puts_to, put_by, last_put, IsPut, ArePutApart, AreApart, IsEntryOf, IsNewestEntry, IsIndexed, IsPutToFile, AreUsable, StandsAt}
use Rattle.compactor.specs.Stepping.{IsPlaceOf, Queues, Seats}
use Rattle.compactor.proofs.Passed.{put_nowhere}
use Rattle.compactor.proofs.Rows.{newest_place}
use Rattle.compactor.proofs.Stepped.{put_named}

same_seat : (one other : Place × Bool) → Some one ≡ Some other → one ≡ other
same_seat one other same = cc

or_none : (last : Option Place) → option_or None last ≡ option_or last None
or_none None = refl
or_none (Some at) = refl

or_assoc : (one two three : Option Place) → option_or (option_or one two) three ≡ option_or one (option_or two three)
or_assoc None two three = refl
or_assoc (Some at) two three = refl

-- the last place of a key where one more request waits
last_put-push : (key : List ℕ) (waiting : List Request) (request : Request) → last_put key (waiting ++ request ∷ []) ≡ option_or (put_by key request) (last_put key waiting)
last_put-push key [] request = or_none (put_by key request)
last_put-push key (one ∷ waiting) request =
    ap (λ (last : Option Place). option_or last (put_by key one)) (last_put-push key waiting request) ∙ or_assoc (put_by key request) (last_put key waiting) (put_by key one)

-- one more place that is none of those that are put
AreApart-push : (waiting : List Request) (request : Request) → AreApart waiting → All (λ one. ArePutApart one request) waiting → AreApart (waiting ++ request ∷ [])
AreApart-push [] request apart new = (All-nil (ArePutApart request), tt)
AreApart-push (one ∷ waiting) request apart new = (
  All-push (ArePutApart one) waiting request apart.0 (All-head (λ one. ArePutApart one request) one waiting new),
  AreApart-push waiting request apart.1 (All-tail (λ one. ArePutApart one request) one waiting new),
)

-- a request among those that wait and one more is one of them, or that one
pub push-split : (waiting before after : List Request) (request one : Request) → waiting ++ request ∷ [] ≡ before ++ one ∷ after → ((rest : List Request) × (waiting ≡ before ++ one ∷ rest)) ⊎ ((before ≡ waiting) × (request ≡ one))
push-split [] [] after request one is = let same : request ≡ one = cc in inr (refl, same)
push-split [] (b ∷ []) after request one is = let none : [] ≡ one ∷ after = cc in cc
push-split [] (b ∷ c ∷ before) after request one is = let none : [] ≡ c ∷ (before ++ one ∷ after) = cc in cc
push-split (w ∷ waiting) [] after request one is = let same : w ≡ one = cc in inl (waiting, ap (λ (r : Request). r ∷ waiting) same)
push-split (w ∷ waiting) (b ∷ before) after request one is =
    let first : w ≡ b = cc in
    let behind : waiting ++ request ∷ [] ≡ before ++ one ∷ after = cc in
    ⊎_elim
    (λ within. inl (within.0, ap (λ (l : List Request). w ∷ l) within.1 ∙ ap (λ (r : Request). r ∷ (before ++ one ∷ within.0)) first))
    (λ last. inr (ap (λ (r : Request). r ∷ before) (sym first) ∙ ap (λ (l : List Request). w ∷ l) last.0, last.1))
    (push-split waiting before after request one behind)

module _ (counts more : Counts) (key : List ℕ) (place : Place) (gone : Bool) (item : Item) (adds : Adds counts more key place.file place.at item) (is : IsPlaceOf item place gone) where
  -- what a place puts stays put
  abbrev placed_still : (other : List ℕ) (at : Place) (removed : Bool) → IsPlaced counts other at removed → IsPlaced more other at removed
  placed_still other at removed p = record { item = p.item; counted = adds.kept at.file at.at p.item other p.counted p.of_key; of_key = p.of_key; long = p.long; gone_is = p.gone_is }

  -- the new record stands at its place
  abbrev pub placed_new : IsPlaced more key place gone
  placed_new = record { item = item; counted = adds.newest.counted; of_key = adds.newest.of_key; long = is.long; gone_is = is.gone_is }

  -- and is a copy of one that counted
  pub copied_new : (from : Place) → counts from.file from.at item → IsCopied more key from place
  copied_new from was = record { item = item; was = adds.kept from.file from.at item key was adds.newest.of_key; counted = adds.newest.counted; of_key = adds.newest.of_key; long = is.long }

  -- no place that a record had is the new one
  elsewhere : (other : List ℕ) (at : Place) (one : Item) → counts at.file at.at one → key_of one ≡ Some other → at ≡ place → ⊥
  elsewhere other at one counted of_key same = adds.fresh one other (subst (λ (q : Place). counts q.file q.at one) same counted) of_key

  other_key : (other : List ℕ) (one : Item) → one ≡ item → key_of one ≡ Some other → key ≡ other
  other_key other one same of_key = let both : Some key ≡ Some other = sym adds.newest.of_key ∙ ap key_of (sym same) ∙ of_key in cc

  -- the newest record of another key stays its newest
  newest_still : (other : List ℕ) (n a : ℕ) (one : Item) → (key ≡ other → ⊥) → IsNewestBy counts other n a one → IsNewestBy more other n a one
  newest_still other n a one apart newest = record {
    counted = adds.kept n a one other newest.counted newest.of_key;
    of_key = newest.of_key;
    newest = λ m b it counted of_key. ⊎_elim (λ old. newest.newest m b it old of_key) (λ one_more. absurd (apart (other_key other it one_more.2 of_key))) (adds.only m b it other counted of_key);
  }

  put_still : (request : Request) → IsPut counts request → IsPut more request
  put_still (Set other to removed) p = placed_still other to removed p
  put_still (Swap other from to) p = record { item = p.item; was = adds.kept from.file from.at p.item other p.was p.of_key; counted = adds.kept to.file to.at p.item other p.counted p.of_key; of_key = p.of_key; long = p.long }
  put_still (Drop other from) p = p
  put_still (Less other) p = p

  -- no request that waits puts a key there
  put_elsewhere : (request : Request) → IsPut counts request → puts_to request ≡ Some place → ⊥
  put_elsewhere (Set other to removed) p put = elsewhere other to p.item p.counted p.of_key (let same : to ≡ place = cc in same)
  put_elsewhere (Swap other from to) p put = elsewhere other to p.item p.counted p.of_key (let same : to ≡ place = cc in same)
  put_elsewhere (Drop other from) p put = cc
  put_elsewhere (Less other) p put = cc

  -- the entries of the index stay
  abbrev entry_still : (bits : ℕ) (other : List ℕ) (at : IndexKey) (value : IndexValue) → IsEntryOf counts bits other at value → IsEntryOf more bits other at value
  entry_still bits other at value entry = record { hash_is = entry.hash_is; placed = placed_still other (record { file = at.file; at = at.at; length = value.length }) value.gone entry.placed; some = entry.some }

  module _ (request : Request) (named : queue.key_of request ≡ key) (put : puts_to request ≡ Some place) (put_new : IsPut more request) (old new : Places) (index : Index) (waiting : List Request) (indexed : IsIndexed counts old index waiting)
      (reseats : Reseats old key (Some (Some (place, gone))) new) (finds : (k : List ℕ) (from to : Place) → request ≡ Swap k from to → StandsAt counts index k (last_put k waiting) from) where
    abbrev waits : List Request
    waits = waiting ++ request ∷ []

    place_by : (other : List ℕ) (same : Bool) → bytes_eq key other ≡ same → place_of new other ≡ cond same (Some (place, gone)) (place_of old other)
    place_by other same is-same = ap placed (reseats.seats other) ∙ by same is-same
      where
        by : (b : Bool) → bytes_eq key other ≡ b → placed (cond (bytes_eq key other) (Some (Some (place, gone))) (seat_of old other)) ≡ cond b (Some (place, gone)) (place_of old other)
        by true same_name = ap (λ (b : Bool). placed (cond b (Some (Some (place, gone))) (seat_of old other))) same_name
        by false unlike = ap (λ (b : Bool). placed (cond b (Some (Some (place, gone))) (seat_of old other))) unlike

    queued : (other : List ℕ) → option_map (λ (s : Place × Bool). s.0) (place_of new other) ≡ last_put other waits
    queued other =
        ap (λ (s : Seat). option_map (λ (s : Place × Bool). s.0) s) (place_by other (bytes_eq key other) refl)
        ∙ by (bytes_eq key other)
        ∙ ap (λ (last : Option Place). option_or (cond (bytes_eq key other) (Some place) None) last) (indexed.queued other)
        ∙ ap (λ (p : Option Place). option_or p (last_put other waiting)) (sym (put_named key place request named put other (bytes_eq key other) refl))
        ∙ sym (last_put-push other waiting request)
      where
        by : (b : Bool) → option_map (λ (s : Place × Bool). s.0) (cond b (Some (place, gone)) (place_of old other)) ≡ option_or (cond b (Some place) None) (option_map (λ (s : Place × Bool). s.0) (place_of old other))
        by true = refl
        by false = refl

    -- a key other than the new one
    others : (other : List ℕ) → bytes_eq key other ≡ false → key ≡ other → ⊥
    others other unlike same = let yes : bytes_eq key other ≡ true = (bytes_eq-Decides key other).1 same in cc

    placed_all : (other : List ℕ) (at : Place) (removed : Bool) → place_of new other ≡ Some (at, removed) → (p : IsPlaced more other at removed) × IsNewestBy more other at.file at.at p.item
    placed_all other at removed there = by (bytes_eq key other) refl
      where
        by : (b : Bool) → bytes_eq key other ≡ b → (p : IsPlaced more other at removed) × IsNewestBy more other at.file at.at p.item
        by true same_name =
            let here : (place, gone) ≡ (at, removed) = same_seat (place, gone) (at, removed) (sym (place_by other true same_name) ∙ there) in
            let same_place : place ≡ at = ap (λ (p : Place × Bool). p.0) here in
            let same_gone : gone ≡ removed = ap (λ (p : Place × Bool). p.1) here in
            let same_key : key ≡ other = (bytes_eq-Decides key other).0 same_name in
            subst (λ (k : List ℕ). (p : IsPlaced more k at removed) × IsNewestBy more k at.file at.at p.item) same_key
            (subst (λ (b : Bool). (p : IsPlaced more key at b) × IsNewestBy more key at.file at.at p.item) same_gone
            (subst (λ (q : Place). (p : IsPlaced more key q gone) × IsNewestBy more key q.file q.at p.item) same_place (placed_new, adds.newest)))
        by false unlike =
            let old_place = indexed.placed other at removed (sym (place_by other false unlike) ∙ there) in
            (placed_still other at removed old_place.0, newest_still other at.file at.at old_place.0.item (others other unlike) old_place.1)

    -- what stands in the index counted before
    entry_was : (other : List ℕ) (at : IndexKey) (value : IndexValue) → value_at index.entries at ≡ Some value → IsEntryOf more index.bits other at value → IsEntryOf counts index.bits other at value
    entry_was other at value there entry = ⊎_elim
        (λ counted. record { hash_is = entry.hash_is; placed = record { item = entry.placed.item; counted = counted; of_key = entry.placed.of_key; long = entry.placed.long; gone_is = entry.placed.gone_is }; some = entry.some })
        (λ fresh.
        let was = indexed.indexed at value there in
        absurd (adds.fresh was.1.placed.item was.0 (subst (λ (n : ℕ). counts n place.at was.1.placed.item) fresh.0 (subst (λ (n : ℕ). counts at.file n was.1.placed.item) fresh.1 was.1.placed.counted)) was.1.placed.of_key))
        (adds.only at.file at.at entry.placed.item other entry.placed.counted entry.placed.of_key)

    newest_all : (other : List ℕ) → place_of new other ≡ None → (n a : ℕ) (one : Item) → more n a one → key_of one ≡ Some other → (at : IndexKey) × (value : IndexValue) × IsNewestEntry more index other at value
    newest_all other none n a one counted of_key = by (bytes_eq key other) refl
      where
        same_key : one ≡ item → key ≡ other
        same_key same = other_key other one same of_key

        by : (b : Bool) → bytes_eq key other ≡ b → (at : IndexKey) × (value : IndexValue) × IsNewestEntry more index other at value
        by true same_name = absurd (let here : Some (place, gone) ≡ None = sym (place_by other true same_name) ∙ none in cc)
        by false unlike =
            let was : counts n a one = ⊎_elim (λ old. old) (λ one_more. absurd (others other unlike (same_key one_more.2))) (adds.only n a one other counted of_key) in
            let found = indexed.newest other (sym (place_by other false unlike) ∙ none) n a one was of_key in
            (found.0, found.1, record { there = found.2.there; entry = entry_still index.bits other found.0 found.1 found.2.entry; newest = newest_still other found.0.file found.0.at found.2.entry.placed.item (others other unlike) found.2.newest })

    -- where a key stands it does still
    stands_still : (k : List ℕ) (last : Option Place) (from : Place) → StandsAt counts index k last from → StandsAt more index k last from
    stands_still k None from stands = record { at = stands.at; value = stands.value; there = stands.there; entry = entry_still index.bits k stands.at stands.value stands.entry; file_is = stands.file_is; at_is = stands.at_is }
    stands_still k (Some last) from stands = stands

    swaps : (k : List ℕ) (from to : Place) (before after : List Request) → waits ≡ before ++ Swap k from to ∷ after → StandsAt more index k (last_put k before) from
    swaps k from to before after split = stands_still k (last_put k before) from (⊎_elim
        (λ within. indexed.swaps k from to before within.0 within.1)
        (λ last. subst (λ (l : List Request). StandsAt counts index k (last_put k l) from) (sym last.0) (finds k from to last.1))
        (push-split waiting before after request (Swap k from to) split))

    pub noted : IsIndexed more new index waits
    noted = record {
      queued = queued;
      requested = All-push (IsPut more) waiting request (All-weaker (IsPut counts) (IsPut more) put_still waiting indexed.requested) put_new;
      apart = AreApart-push waiting request indexed.apart (All-weaker (IsPut counts) (λ one. ArePutApart one request)
          (λ one p at there here. put_elsewhere one p (there ∙ sym here ∙ put)) waiting indexed.requested);
      swaps = swaps;
      placed = placed_all;
      indexed = λ at value there. let was = indexed.indexed at value there in (was.0, entry_still index.bits was.0 at value was.1);
      single = λ one other v w k there here first second. indexed.single one other v w k there here (entry_was k one v there first) (entry_was k other w here second);
      newest = newest_all;
    }

-- where a key's newest record stands, the key does, once what waits is applied
pub newest_stands : (counts : Counts) (places : Places) (index : Index) (waiting : List Request) (key : List ℕ) (from : Place) (item : Item) → IsIndexed counts places index waiting → IsNewestBy counts key from.file from.at item
    → StandsAt counts index key (last_put key waiting) from
newest_stands counts places index waiting key from item is newest = by (place_of places key) refl (last_put key waiting) (sym (is.queued key))
  where
    by : (seat : Seat) → place_of places key ≡ seat → (last : Option Place) → last ≡ option_map (λ (s : Place × Bool). s.0) (place_of places key) → StandsAt counts index key last from
    by None unplaced last last_is =
        let found = is.newest key unplaced from.file from.at item newest.counted newest.of_key in
        let same = newest_place counts key found.0.file from.file found.0.at from.at found.2.entry.placed.item item found.2.newest newest in
        let none : last ≡ None = last_is ∙ ap (λ (s : Seat). option_map (λ (s : Place × Bool). s.0) s) unplaced in
        subst (λ (o : Option Place). StandsAt counts index key o from) (sym none) (record { at = found.0; value = found.1; there = found.2.there; entry = found.2.entry; file_is = same.0; at_is = same.1 })
    by (Some seat) there last last_is =
        let placed = is.placed key seat.0 seat.1 there in
        let same = newest_place counts key seat.0.file from.file seat.0.at from.at placed.0.item item placed.1 newest in
        let some : last ≡ Some seat.0 = last_is ∙ ap (λ (s : Seat). option_map (λ (s : Place × Bool). s.0) s) there in
        subst (λ (o : Option Place). StandsAt counts index key o from) (sym some) same

-- a request that puts no key anywhere waits
pub noted_nowhere : (counts : Counts) (places : Places) (index : Index) (waiting : List Request) (request : Request) → puts_to request ≡ None → IsPut counts request → IsIndexed counts places index waiting → IsIndexed counts places index (waiting ++ request ∷ [])
noted_nowhere counts places index waiting request nowhere put is = record {
  queued = λ key. is.queued key ∙ sym (last_put-push key waiting request ∙ ap (λ (o : Option Place). option_or o (last_put key waiting)) (put_nowhere request nowhere key));
  requested = All-push (IsPut counts) waiting request is.requested put;
  apart = AreApart-push waiting request is.apart (all-among (λ one. ArePutApart one request) waiting (λ one among at there here. let no : None ≡ Some at = sym nowhere ∙ here in cc));
  swaps = λ key from to before after split. ⊎_elim
      (λ within. is.swaps key from to before within.0 within.1)
      (λ last. let no : None ≡ Some to = sym nowhere ∙ ap puts_to last.1 in cc)
      (push-split waiting before after request (Swap key from to) split);
  placed = is.placed;
  indexed = is.indexed;
  single = is.single;
  newest = is.newest;
}

-- the parts may be used after it as before
pub usable_queued : (old new : Parts) (request : Request) → Queues request old new → new.table.bits ≡ old.table.bits → ((key : List ℕ) (place : Place) (gone : Bool) → place_of new.table key ≡ Some (place, gone) → IsFileNumber place.file)
    → length old.requests.waiting < old.requests.limit → AreUsable old → IsPutToFile request → AreUsable new
usable_queued old new request queues bits placed room usable to_file = record {
  unspoilt = queues.spoilt ∙ usable.unspoilt;
  log = subst (λ (l : Log). IsUsable (files_of l)) (sym queues.log) usable.log;
  main = subst (λ (l : Log). store_of (files_of l) ≡ 0) (sym queues.log) usable.main;
  bits = subst (λ (i : Index). i.bits ≤ 32) (sym queues.tree) usable.bits;
  same_bits = bits ∙ usable.same_bits ∙ sym (ap (λ (i : Index). i.bits) queues.tree);
  some = subst (λ (q : Queue). 1 ≤ q.limit) (sym queues.queued) usable.some;
  within = omega (arith, room, ap (λ (q : Queue). q.limit) queues.queued, ap (λ (q : Queue). length q.waiting) queues.queued, length-append old.requests.waiting (request ∷ []));
  ordered = subst (λ (i : Index). AreOrdered i.entries) (sym queues.tree) usable.ordered;
  indexed = λ at value here. usable.indexed at value (ap (λ (i : Index). value_at i.entries at) (sym queues.tree) ∙ here);
  placed = placed;
  requested = subst (λ (q : Queue). All IsPutToFile q.waiting) (sym queues.queued) (All-push IsPutToFile old.requests.waiting request usable.requested to_file);
}

-- where a key got a place
pub placed_numbered : (old new : Places) (key : List ℕ) (place : Place) (gone : Bool) → Reseats old key (Some (Some (place, gone))) new → IsFileNumber place.file
    → ((other : List ℕ) (at : Place) (removed : Bool) → place_of old other ≡ Some (at, removed) → IsFileNumber at.file)
    → (other : List ℕ) (at : Place) (removed : Bool) → place_of new other ≡ Some (at, removed) → IsFileNumber at.file
placed_numbered old new key place gone reseats number before other at removed there = by (bytes_eq key other) (sym (ap placed (reseats.seats other)) ∙ there)
  where
    by : (b : Bool) → placed (cond b (Some (Some (place, gone))) (seat_of old other)) ≡ Some (at, removed) → IsFileNumber at.file
    by true here = subst (λ (p : Place × Bool). IsFileNumber p.0.file) (same_seat (place, gone) (at, removed) here) number
    by false here = before other at removed here

-- and where a key was seated or unseated
pub usable_seated : (old new : Parts) (key : List ℕ) → Seats key old new → AreUsable old → AreUsable new
usable_seated old new key seats usable = record {
  unspoilt = seats.spoilt ∙ usable.unspoilt;
  log = subst (λ (l : Log). IsUsable (files_of l)) (sym seats.log) usable.log;
  main = subst (λ (l : Log). store_of (files_of l) ≡ 0) (sym seats.log) usable.main;
  bits = subst (λ (i : Index). i.bits ≤ 32) (sym seats.tree) usable.bits;
  same_bits = seats.bits ∙ usable.same_bits ∙ sym (ap (λ (i : Index). i.bits) seats.tree);
  some = subst (λ (q : Queue). 1 ≤ q.limit) (sym seats.requests) usable.some;
  within = subst (λ (q : Queue). length q.waiting ≤ q.limit) (sym seats.requests) usable.within;
  ordered = subst (λ (i : Index). AreOrdered i.entries) (sym seats.tree) usable.ordered;
  indexed = λ at value here. usable.indexed at value (ap (λ (i : Index). value_at i.entries at) (sym seats.tree) ∙ here);
  placed = λ other place gone there. usable.placed other place gone (sym (seats.places other) ∙ there);
  requested = subst (λ (q : Queue). All IsPutToFile q.waiting) (sym seats.requests) usable.requested;
}
