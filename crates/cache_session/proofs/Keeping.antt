-- What calls on one store do together, by their changes.
use Rattle.std.proofs.Common.{◌≡◌, ◌⊎◌, inl, inr, ⊎_elim, ℕ, zero, suc, ◌+◌, ◌≤◌, Bool, true, false, List, [], ◌∷◌, ◌++◌, take, length, refl, sym, ◌∙◌, ap, subst, arith, length-append}
use Rattle.std.specs.Prelude.{Result, Ok, Err, IsErrOf, OnOk, if◌then◌else◌}
use Rattle.std.specs.Str.{bytes_eq}
use Rattle.std.proofs.lemmas.Bool.{cases_lt}
use Rattle.std.proofs.lemmas.List.{take-append-le}
use Rattle.std.proofs.Math.Seq.{take-append-add, take-length}
use Rattle.std.proofs.lemmas.Slice.Eq.{bytes_eq-Decides}
use Rattle.cache_model.specs.declared.entries.Change.{Change}
use Rattle.cache_model.specs.declared.faults.StoreFault.{StoreFault}
use Rattle.cache_model.specs.declared.faults.StoreFault.TheVariants as fault
use Rattle.cache_disk.specs.State.{HostState}
use Rattle.cache_disk.proofs.Runs.{Silent-trans}
use Rattle.store_trait.specs.Meaning.{Reading, Content, read_in, key_of, entry_of, changed, IsAlike, Row, StoreFacts, StoreState}
use Rattle.store_trait.specs.Keeping.{Leaves, IsOld, IsNew, IsOldWhole, IsNewWhole, Keeps, IsKept, SameContent, SameStore, IsOnly}
use Rattle.store_trait.specs.Calls.{Acts, Written, Plainly, IsReady, DrawsNone, DrawsOne, IsNumbered}
use Rattle.cache_disk.specs.Calls.{HasStoreCause}
use Rattle.store_trait.proofs.Alike.{alike_trans, alike_later, alike_weaker, alike_sym}
use Rattle.store_trait.proofs.Runs.{new_weaker, new_of, new_whole_weaker, new_whole_of, leaves_then, opens_then}
use Rattle.cache_session.specs.Changing.{after_all, of_key, has_some}
use Rattle.cache_session.specs.Turns.{IsNewBy, IsNewWholeBy, KeepsBy, IsContentAfter, IsUnchanged, Way, by_changes, MovesBy, PartsBy, MakesBy, IsRoom, Did}
use Rattle.cache_session.proofs.Numbers.{numbered_then, draws_then, numbered_by}
use Rattle.cache_session.proofs.Changing.{after_all-append, of_key-append, after_alike, reads_still, has_earlier}

-- a call that keeps each key up to the content made no change
pub keeps_none : (f : StoreFacts) (from to moment : ℕ) (a b : StoreState) → Keeps f from to moment a b a.content → KeepsBy f from to moment a b []
keeps_none f from to moment a b ab = record {
  past = ab.past;
  since = λ t key r m after before may. ⊎_elim (λ old. inl old) (λ new. inr record { count = 0; within = omega arith; new = new }) (ab.since t key r m after before may);
  past_whole = ab.past_whole;
  since_whole = λ ordered t c m after before may. ⊎_elim (λ old. inl old) (λ new. inr record { count = 0; within = omega arith; new = new }) (ab.since_whole ordered t c m after before may);
}

-- and one that keeps it up to a change of the content made that
pub keeps_one : (f : StoreFacts) (from to moment : ℕ) (a b : StoreState) (change : Change) → Keeps f from to moment a b (changed change a.content) → KeepsBy f from to moment a b (change ∷ [])
keeps_one f from to moment a b change ab = record {
  past = ab.past;
  since = λ t key r m after before may. ⊎_elim (λ old. inl old) (λ new. inr record { count = 1; within = omega arith; new = new }) (ab.since t key r m after before may);
  past_whole = ab.past_whole;
  since_whole = λ ordered t c m after before may. ⊎_elim (λ old. inl old) (λ new. inr record { count = 1; within = omega arith; new = new }) (ab.since_whole ordered t c m after before may);
}

-- what is new of an equal wanted reading
new_same : (f : Type 0) (moment : ℕ) (wanted other r : Reading) (m : ℕ) → wanted ≡ other → IsNew f moment wanted r m → IsNew f moment other r m
new_same f moment wanted other r m same new = subst (λ (w : Reading). IsNew f moment w r m) same new

-- the first changes of some, with some behind them
front : (xs ys : List Change) (n : ℕ) (c : Content) (key : List ℕ) → n ≤ length xs → read_in (after_all (take n xs) c) key ≡ read_in (after_all (take n (xs ++ ys)) c) key
front xs ys n c key le = ap (λ (l : List Change). read_in (after_all l c) key) (sym (take-append-le n xs ys le))

-- the first changes of some, behind all of others
pub behind : (f : Type 0) (m : ℕ) (xs ys : List Change) (n : ℕ) (c d : Content) (key : List ℕ) → IsAlike f m (read_in d key) (read_in (after_all xs c) key)
    → IsAlike f m (read_in (after_all (take n ys) d) key) (read_in (after_all (take (length xs + n) (xs ++ ys)) c) key)
behind f m xs ys n c d key alike =
    subst (λ (r : Reading). IsAlike f m (read_in (after_all (take n ys) d) key) r)
    (ap (λ (e : Content). read_in e key) (sym (after_all-append xs (take n ys) c)) ∙ ap (λ (l : List Change). read_in (after_all l c) key) (sym (take-append-add xs ys n)))
    (after_alike f m (take n ys) (after_all xs c) d key alike)

-- changes that are made, and then more
pub keeps_by_then : (f g : StoreFacts) (from mid to moment : ℕ) (a b c : StoreState) (xs ys : List Change)
    → SameStore f g
    → from ≤ mid
    → KeepsBy f from mid moment a b xs
    → IsKept f moment (after_all xs a.content) b.content
    → KeepsBy g mid to moment b c ys
    → KeepsBy f from to moment a c (xs ++ ys)
keeps_by_then f g from mid to moment a b c xs ys same le ab content bc = record {
  past = λ t key r m before may. ab.past t key r m before (bc.past t key r m (omega (arith, before, le)) may);
  since = λ t key r m after before may.
      ⊎_elim
      (λ early. first t key r m after (omega (arith, early)) (bc.past t key r m early may))
      (λ late. ⊎_elim
      (λ old. then_old key r m old)
      (λ new. inr record {
        count = length xs + new.count;
        within = omega (arith, new.within, length-append xs ys);
        new = new_of (f.forgets key) moment (read_in (after_all (take new.count ys) b.content) key) (read_in (after_all (take (length xs + new.count) (xs ++ ys)) a.content) key) r m
            (new_weaker (g.forgets key) (f.forgets key) moment (read_in (after_all (take new.count ys) b.content) key) r m ((same.forgets key).0) new.new)
            (behind (f.forgets key) moment xs ys new.count a.content b.content key (content key));
      })
      (bc.since t key r m late before may))
      (cases_lt t mid);
  past_whole = λ t d m before may. ab.past_whole t d m before (bc.past_whole t d m (omega (arith, before, le)) may);
  since_whole = λ ordered t d m after before may.
      ⊎_elim
      (λ early. first_whole ordered t d m after (omega (arith, early)) (bc.past_whole t d m early may))
      (λ late. ⊎_elim
      (λ old. then_old_whole ordered d m old)
      (λ new. inr record {
        count = length xs + new.count;
        within = omega (arith, new.within, length-append xs ys);
        new = new_whole_of f.forgets moment (after_all (take new.count ys) b.content) (after_all (take (length xs + new.count) (xs ++ ys)) a.content) d m
            (new_whole_weaker g.forgets f.forgets moment (after_all (take new.count ys) b.content) d m (λ key. (same.forgets key).0) new.new)
            (λ key. behind (f.forgets key) moment xs ys new.count a.content b.content key (content key));
      })
      (bc.since_whole (same.ordered ∙ ordered) t d m late before may))
      (cases_lt t mid);
}
  where
    first : (t : ℕ) (key : List ℕ) (r : Reading) (m : ℕ) → from ≤ t → t ≤ mid → b.may t key r m → IsOld (f.forgets key) (a.may from key) r m ⊎ IsNewBy (f.forgets key) moment (xs ++ ys) a.content key r m
    first t key r m after before may =
        ⊎_elim
        (λ old. inl old)
        (λ new. inr record {
          count = new.count;
          within = omega (arith, new.within, length-append xs ys);
          new = new_same (f.forgets key) moment (read_in (after_all (take new.count xs) a.content) key) (read_in (after_all (take new.count (xs ++ ys)) a.content) key) r m (front xs ys new.count a.content key new.within) new.new;
        })
        (ab.since t key r m after before may)

    then_old : (key : List ℕ) (r : Reading) (m : ℕ) → IsOld (g.forgets key) (b.may mid key) r m → IsOld (f.forgets key) (a.may from key) r m ⊎ IsNewBy (f.forgets key) moment (xs ++ ys) a.content key r m
    then_old key r m old =
        let like : IsAlike (f.forgets key) m r old.before = alike_weaker (g.forgets key) (f.forgets key) m r old.before ((same.forgets key).0) old.alike in
        ⊎_elim
        (λ x. inl record {
          before = x.before;
          least = x.least;
          possible = x.possible;
          no_later = omega (arith, x.no_later, old.no_later);
          alike = alike_trans (f.forgets key) m r old.before x.before like (alike_later (f.forgets key) old.least m old.before x.before old.no_later x.alike);
        })
        (λ x. inr record {
          count = x.count;
          within = x.within;
          new = record {
            late = omega (arith, x.new.late, old.no_later);
            alike = alike_trans (f.forgets key) m r old.before (read_in (after_all (take x.count (xs ++ ys)) a.content) key) like
                (alike_later (f.forgets key) old.least m old.before (read_in (after_all (take x.count (xs ++ ys)) a.content) key) old.no_later x.new.alike);
          };
        })
        (first mid key old.before old.least le (omega arith) old.possible)

    first_whole : f.ordered ≡ true → (t : ℕ) (d : Content) (m : ℕ) → from ≤ t → t ≤ mid → b.whole t d m → IsOldWhole f.forgets (a.whole from) d m ⊎ IsNewWholeBy f.forgets moment (xs ++ ys) a.content d m
    first_whole ordered t d m after before may =
        ⊎_elim
        (λ old. inl old)
        (λ new. inr record {
          count = new.count;
          within = omega (arith, new.within, length-append xs ys);
          new = record {
            late = new.new.late;
            alike = λ key. subst (λ (w : Reading). IsAlike (f.forgets key) m (read_in d key) w) (front xs ys new.count a.content key new.within) (new.new.alike key);
          };
        })
        (ab.since_whole ordered t d m after before may)

    then_old_whole : f.ordered ≡ true → (d : Content) (m : ℕ) → IsOldWhole g.forgets (b.whole mid) d m → IsOldWhole f.forgets (a.whole from) d m ⊎ IsNewWholeBy f.forgets moment (xs ++ ys) a.content d m
    then_old_whole ordered d m old =
        let like : (key : List ℕ) → IsAlike (f.forgets key) m (read_in d key) (read_in old.before key) = λ key. alike_weaker (g.forgets key) (f.forgets key) m (read_in d key) (read_in old.before key) ((same.forgets key).0) (old.alike key) in
        ⊎_elim
        (λ x. inl record {
          before = x.before;
          least = x.least;
          possible = x.possible;
          no_later = omega (arith, x.no_later, old.no_later);
          alike = λ key. alike_trans (f.forgets key) m (read_in d key) (read_in old.before key) (read_in x.before key) (like key) (alike_later (f.forgets key) old.least m (read_in old.before key) (read_in x.before key) old.no_later (x.alike key));
        })
        (λ x. inr record {
          count = x.count;
          within = x.within;
          new = record {
            late = omega (arith, x.new.late, old.no_later);
            alike = λ key. alike_trans (f.forgets key) m (read_in d key) (read_in old.before key) (read_in (after_all (take x.count (xs ++ ys)) a.content) key) (like key)
                (alike_later (f.forgets key) old.least m (read_in old.before key) (read_in (after_all (take x.count (xs ++ ys)) a.content) key) old.no_later (x.new.alike key));
          };
        })
        (first_whole ordered mid old.before old.least le (omega arith) old.possible)

-- where only the content was possible of a key, and the key has no change, it stays so
pub only_kept : (f g : StoreFacts) (from to moment : ℕ) (a b : StoreState) (xs : List Change) (key : List ℕ)
    → SameStore f g
    → from ≤ to
    → KeepsBy f from to moment a b xs
    → IsContentAfter f moment to xs a b
    → has_some (of_key key xs) ≡ false
    → IsOnly f a from key
    → IsOnly g b to key
only_kept f g from to moment a b xs key same le ab content still only r m may =
    alike_weaker (f.forgets key) (g.forgets key) m r (read_in b.content key) ((same.forgets key).1)
    (alike_trans (f.forgets key) m r (read_in a.content key) (read_in b.content key)
    (⊎_elim
    (λ old. alike_trans (f.forgets key) m r old.before (read_in a.content key) old.alike (alike_later (f.forgets key) old.least m old.before (read_in a.content key) old.no_later (only old.before old.least old.possible)))
    (λ new. subst (λ (w : Reading). IsAlike (f.forgets key) m r w) (reads_still key xs new.count a.content still) new.new.alike)
    (ab.since to key r m le (omega arith) may))
    (alike_sym (f.forgets key) m (read_in b.content key) (read_in a.content key)
    (subst (λ (w : Reading). IsAlike (f.forgets key) m (read_in b.content key) w) all (content.at_marks key r m may))))
  where
    all : read_in (after_all xs a.content) key ≡ read_in a.content key
    all = ap (λ (l : List Change). read_in (after_all l a.content) key) (sym (take-length xs)) ∙ reads_still key xs (length xs) a.content still

-- the same content is one after no change, or after these
pub content_same : (f : StoreFacts) (moment turn : ℕ) (changes : List Change) (a b : StoreState) → SameContent (after_all changes a.content) b.content → IsContentAfter f moment turn changes a b
content_same f moment turn changes a b same = record { kept = λ key. inl (same key); at_marks = λ key r m may. inl (same key) }

-- changes, and then more
pub content_then : (f g : StoreFacts) (from to moment : ℕ) (a b c : StoreState) (xs ys : List Change)
    → SameStore f g
    → from ≤ to
    → IsContentAfter f moment from xs a b
    → KeepsBy g from to moment b c ys
    → IsContentAfter g moment to ys b c
    → IsContentAfter f moment to (xs ++ ys) a c
content_then f g from to moment a b c xs ys same le ab keeps bc = record {
  kept = λ key. both key moment (bc.kept key) (ab.kept key);
  at_marks = λ key r m may. both key m (bc.at_marks key r m may)
      (⊎_elim
      (λ old. alike_later (f.forgets key) old.least m (read_in b.content key) (read_in (after_all xs a.content) key) old.no_later (ab.at_marks key old.before old.least old.possible))
      (λ new. alike_later (f.forgets key) moment m (read_in b.content key) (read_in (after_all xs a.content) key) new.new.late (ab.kept key))
      (keeps.since to key r m le (omega arith) may));
}
  where
    both : (key : List ℕ) (m : ℕ) → IsAlike (g.forgets key) m (read_in c.content key) (read_in (after_all ys b.content) key) → IsAlike (f.forgets key) m (read_in b.content key) (read_in (after_all xs a.content) key)
        → IsAlike (f.forgets key) m (read_in c.content key) (read_in (after_all (xs ++ ys) a.content) key)
    both key m second first =
        alike_trans (f.forgets key) m (read_in c.content key) (read_in (after_all ys b.content) key) (read_in (after_all (xs ++ ys) a.content) key)
        (alike_weaker (g.forgets key) (f.forgets key) m (read_in c.content key) (read_in (after_all ys b.content) key) ((same.forgets key).0) second)
        (subst (λ (d : Content). IsAlike (f.forgets key) m (read_in (after_all ys b.content) key) (read_in d key)) (sym (after_all-append xs ys a.content))
        (after_alike (f.forgets key) m ys (after_all xs a.content) b.content key first))

-- one call, by what the store says of it

never : false ≡ true → ⊥
never h = cc

not_false : true ≡ false → ⊥
not_false h = cc

pub ok_map : {T : Type 0} (X Y : Type 0) (r : Result T StoreFault) → (X → Y) → OnOk r X → OnOk r Y
ok_map X Y (Ok x) h = h
ok_map X Y (Err e) h = λ _. tt

pub always : {T : Type 0} {X : Type 0} (r : Result T StoreFault) → X → OnOk r X
always (Ok x) h = h
always (Err e) h = tt

-- a call that made no change, answered with the same fault
pub acts_did : {T U : Type 0} (way : Way) (f g : StoreFacts) (s t : StoreState) (a b : HostState) (moment : ℕ) (one : Result T StoreFault) (two : Result U StoreFault)
    → ((e : StoreFault) → IsErrOf two e → IsErrOf one e)
    → Acts f g s t a b moment s.content one
    → (OnOk two (SameContent s.content t.content))
    → (IsErrOf two fault.Memory → g.spoilt ≡ false → SameContent s.content t.content)
    → DrawsNone f g
    → MakesBy way f g a b 0
    → OnOk two (PartsBy way f [] f.parts g.parts)
    → Did way f g g.spoilt s t a b moment [] two
acts_did way f g s t a b moment one two faults acts content unchanged draws made parts = record {
  stands = acts.stands;
  others = acts.others;
  silent = acts.silent;
  keeps = keeps_none f a.turn b.turn moment s t acts.keeps;
  opens = acts.opens;
  sound = acts.sound;
  undamaged = λ is d of. acts.undamaged is d (faults (fault.Damaged d) of);
  spent = λ n of. acts.spent n (faults (fault.Spent n) of);
  content = ok_map (SameContent s.content t.content) (IsContentAfter f moment b.turn [] s t) two (content_same f moment b.turn [] s t) content;
  refused = λ of unspoilt. record { keeps = keeps_none f a.turn b.turn moment s t acts.keeps; content = content_same f moment b.turn [] s t (unchanged of unspoilt); numbers = draws; parts = inr (acts.room (faults fault.Memory of) unspoilt) };
  firm = λ firm key has. absurd (never has);
  drawn = omega (arith, draws.drawn);
  made = made;
  numbers = always two draws.numbers;
  parts = parts;
}

pub same_fault : {T U : Type 0} (x e : StoreFault) → IsErrOf {T = T} (Err x) e → IsErrOf {T = U} (Err x) e
same_fault x e is = let same : x ≡ e = cc in ap (λ (y : StoreFault). Err y) same

-- one that was answered with a fault
pub acts_err : {T U : Type 0} (f g : StoreFacts) (s t : StoreState) (a b : HostState) (moment : ℕ) (x : StoreFault)
    → Acts {T = T} f g s t a b moment s.content (Err x)
    → SameContent s.content t.content
    → DrawsNone f g
    → Did {T = U} by_changes f g g.spoilt s t a b moment [] (Err x)
acts_err {T} {U} f g s t a b moment x acts content draws = acts_did by_changes f g s t a b moment (Err x) (Err x) (λ e is. same_fault x e is) acts tt (λ of unspoilt. content) draws (omega (arith, draws.made)) tt

-- a call that made one change
pub written_did : (change : Change) (f g : StoreFacts) (s t : StoreState) (a b : HostState) (moment : ℕ) (result : Result (Unit {0}) StoreFault)
    → Written change f g s t a b moment result
    → DrawsOne f g result
    → Did by_changes f g g.spoilt s t a b moment (change ∷ []) result
written_did change f g s t a b moment result did draws = record {
  stands = did.acts.stands;
  others = did.acts.others;
  silent = did.acts.silent;
  keeps = keeps_one f a.turn b.turn moment s t change did.acts.keeps;
  opens = did.acts.opens;
  sound = did.acts.sound;
  undamaged = did.acts.undamaged;
  spent = did.acts.spent;
  content = ok_map (SameContent (changed change s.content) t.content) (IsContentAfter f moment b.turn (change ∷ []) s t) result (content_same f moment b.turn (change ∷ []) s t) did.content;
  refused = λ of unspoilt. record {
    keeps = keeps_none f a.turn b.turn moment s t (did.kept of unspoilt);
    content = content_same f moment b.turn [] s t (did.unchanged of unspoilt);
    numbers = draws.refused of unspoilt;
    parts = inr (did.acts.room of unspoilt);
  };
  firm = λ firm key has. by firm key (bytes_eq (key_of change) key) refl has;
  drawn = draws.drawn;
  made = omega (arith, draws.made);
  numbers = draws.numbers;
  parts = ok_map (f.moves change f.parts g.parts) (MovesBy f.moves (change ∷ []) f.parts g.parts) result (λ moved. (g.parts, moved, refl)) did.parts;
}
  where
    same : (key : List ℕ) → bytes_eq (key_of change) key ≡ true → key_of change ≡ key
    same key is = (bytes_eq-Decides (key_of change) key).0 is

    by : f.firm ≡ true → (key : List ℕ) (is_same : Bool) → bytes_eq (key_of change) key ≡ is_same → has_some (if is_same then entry_of change ∷ [] else []) ≡ true → OnOk result (IsOnly g t b.turn key)
    by firm key true is has = subst (λ (k : List ℕ). OnOk result (IsOnly g t b.turn k)) (same key is) (did.firm firm)
    by firm key false is has = cc

-- more

pub did_ok : {T U : Type 0} {way : Way} (f g : StoreFacts) (p : Bool) (s t : StoreState) (a b : HostState) (m : ℕ) (xs : List Change) (x : T) (y : U)
    → Did {T = T} way f g p s t a b m xs (Ok x) → Did {T = U} way f g p s t a b m xs (Ok y)
did_ok f g p s t a b m xs x y did = record {
  stands = did.stands;
  others = did.others;
  silent = did.silent;
  keeps = did.keeps;
  opens = did.opens;
  sound = did.sound;
  undamaged = λ is d of. cc;
  spent = λ n of. cc;
  content = did.content;
  refused = λ of unspoilt. cc;
  firm = did.firm;
  drawn = did.drawn;
  made = did.made;
  numbers = did.numbers;
  parts = did.parts;
}

pub did_err : {T U : Type 0} {way : Way} (f g : StoreFacts) (p : Bool) (s t : StoreState) (a b : HostState) (m : ℕ) (xs : List Change) (e : StoreFault)
    → Did {T = T} way f g p s t a b m xs (Err e) → Did {T = U} way f g p s t a b m xs (Err e)
did_err f g p s t a b m xs e did = record {
  stands = did.stands;
  others = did.others;
  silent = did.silent;
  keeps = did.keeps;
  opens = did.opens;
  sound = did.sound;
  undamaged = λ is d of. did.undamaged is d (same_fault e (fault.Damaged d) of);
  spent = λ n of. did.spent n (same_fault e (fault.Spent n) of);
  content = tt;
  refused = λ of unspoilt. did.refused (same_fault e fault.Memory of) unspoilt;
  firm = λ firm key has. tt;
  drawn = did.drawn;
  made = did.made;
  numbers = tt;
  parts = tt;
}

-- the parts are moved by the same changes where each moves them alike
moves_alike : (f g : Change → List Row → List Row → Type 0) → ((change : Change) (a b : List Row) → g change a b → f change a b)
    → (xs : List Change) (a b : List Row) → MovesBy g xs a b → MovesBy f xs a b
moves_alike f g alike [] a b moved = moved
moves_alike f g alike (change ∷ xs) a b moved = (moved.0, alike change a moved.0 moved.1, moves_alike f g alike xs moved.0 b moved.2)

-- and by some changes, and then by more
moves_then : (f g : Change → List Row → List Row → Type 0) → ((change : Change) (a b : List Row) → g change a b → f change a b)
    → (xs ys : List Change) (a b c : List Row) → MovesBy f xs a b → MovesBy g ys b c → MovesBy f (xs ++ ys) a c
moves_then f g alike [] ys a b c first second = moves_alike f g alike ys a c (subst (λ (n : List Row). MovesBy g ys n c) first second)
moves_then f g alike (change ∷ xs) ys a b c first second = (first.0, first.1, moves_then f g alike xs ys first.0 b c first.2 second)

-- changes that were made, and then more
pub did_more : {U : Type 0} (f g h : StoreFacts) (p q : Bool) (s t u : StoreState) (a b c : HostState) (m : ℕ) (xs ys : List Change) (two : Result U StoreFault)
    → SameStore f g
    → {T : Type 0} (x : T)
    → Did {T = T} by_changes f g p s t a b m xs (Ok x)
    → SameStore g h
    → Did {T = U} by_changes g h q t u b c m ys two
    → (IsErrOf two fault.Memory → q ≡ false → IsUnchanged f h a.turn c.turn m s u)
    → Did {T = U} by_changes f h q s u a c m (xs ++ ys) two
did_more f g h p q s t u a b c m xs ys two same x first same2 second refused = record {
  stands = second.stands;
  others = leaves_then f.owns false a b c first.others (subst (λ (owns : _). Leaves owns false b c) same.owns second.others);
  silent = Silent-trans a b c first.others.images.later second.others.images.later first.silent second.silent;
  keeps = keeps_by_then f g a.turn b.turn c.turn m s t u xs ys same first.others.images.later first.keeps first.content.kept second.keeps;
  opens = opens_then a.turn b.turn c.turn s t u first.others.images.later first.sound first.opens second.opens;
  sound = λ is. second.sound (first.sound is);
  undamaged = λ is. second.undamaged (first.sound is);
  spent = second.spent;
  content = ok_map (IsContentAfter g m c.turn ys t u) (IsContentAfter f m c.turn (xs ++ ys) s u) two
      (content_then f g b.turn c.turn m s t u xs ys same second.others.images.later first.content second.keeps)
      second.content;
  refused = refused;
  firm = λ firm key has. by firm key (has_some (of_key key ys)) refl has;
  drawn = omega (arith, first.drawn, second.drawn, length-append xs ys);
  made = omega (arith, first.made, second.made, length-append xs ys);
  numbers = ok_map (IsNumbered (length ys) g.numbers h.numbers) (IsNumbered (length (xs ++ ys)) f.numbers h.numbers) two
      (λ more. numbered_by (length xs + length ys) (length (xs ++ ys)) f.numbers h.numbers (sym (length-append xs ys)) (numbered_then (length xs) (length ys) f.numbers g.numbers h.numbers first.numbers more))
      second.numbers;
  parts = ok_map (MovesBy g.moves ys g.parts h.parts) (MovesBy f.moves (xs ++ ys) f.parts h.parts) two
      (moves_then f.moves g.moves (λ change n o moved. (same.moves change n o).0 moved) xs ys f.parts g.parts h.parts first.parts) second.parts;
}
  where
    earlier : (key : List ℕ) → has_some (of_key key (xs ++ ys)) ≡ true → has_some (of_key key ys) ≡ false → has_some (of_key key xs) ≡ true
    earlier key has none = has_earlier (of_key key xs) (of_key key ys) (ap has_some (sym (of_key-append key xs ys)) ∙ has) none

    by : f.firm ≡ true → (key : List ℕ) (is : Bool) → has_some (of_key key ys) ≡ is → has_some (of_key key (xs ++ ys)) ≡ true → OnOk two (IsOnly h u c.turn key)
    by firm key true is has = second.firm (same.firm ∙ firm) key is
    by firm key false is has =
        ok_map (IsContentAfter g m c.turn ys t u) (IsOnly h u c.turn key) two
        (λ content. only_kept g h b.turn c.turn m t u ys key same2 second.others.images.later second.keeps content is (first.firm firm key (earlier key has is)))
        second.content

-- the parts stayed, and then room was made in them
room_then : (f g h : StoreFacts) → SameStore f g → g.parts ≡ f.parts → IsRoom g g.parts h.parts → IsRoom f f.parts h.parts
room_then f g h same stays (inl still) = inl (still ∙ stays)
room_then f g h same stays (inr made) = inr (subst (λ (a : List Row). f.room a h.parts) stays ((same.room g.parts h.parts).0 made))

-- no change, and then some
pub did_then : {U : Type 0} (f g h : StoreFacts) (p q : Bool) (s t u : StoreState) (a b c : HostState) (m : ℕ) (ys : List Change) (two : Result U StoreFault)
    → SameStore f g
    → {T : Type 0} (x : T)
    → Did {T = T} by_changes f g p s t a b m [] (Ok x)
    → SameStore g h
    → Did {T = U} by_changes g h q t u b c m ys two
    → Did {T = U} by_changes f h q s u a c m ys two
did_then f g h p q s t u a b c m ys two same x first same2 second =
    did_more f g h p q s t u a b c m [] ys two same x first same2 second
    (λ of unspoilt.
    let left = second.refused of unspoilt in
    record {
      keeps = keeps_by_then f g a.turn b.turn c.turn m s t u [] [] same first.others.images.later first.keeps first.content.kept left.keeps;
      content = content_then f g b.turn c.turn m s t u [] [] same second.others.images.later first.content left.keeps left.content;
      numbers = draws_then f g h (record { drawn = omega (arith, first.drawn); made = omega (arith, first.made); numbers = first.numbers }) left.numbers;
      parts = room_then f g h same first.parts left.parts;
    })

take_none : (n : ℕ) → take {A = Change} n [] ≡ []
take_none zero = refl
take_none (suc n) = refl

-- a fault before the first change is one before all of them
pub none_err : {T U : Type 0} (f g : StoreFacts) (p : Bool) (s t : StoreState) (a b : HostState) (m : ℕ) (ys : List Change) (e : StoreFault)
    → Did {T = T} by_changes f g p s t a b m [] (Err e) → Did {T = U} by_changes f g p s t a b m ys (Err e)
none_err f g p s t a b m ys e did = record {
  stands = did.stands;
  others = did.others;
  silent = did.silent;
  keeps = record {
    past = did.keeps.past;
    since = λ n key r k after before may. ⊎_elim (λ old. inl old) (λ new. inr (at_none key r k new)) (did.keeps.since n key r k after before may);
    past_whole = did.keeps.past_whole;
    since_whole = λ ordered n c k after before may. ⊎_elim (λ old. inl old) (λ new. inr (whole_at_none c k new)) (did.keeps.since_whole ordered n c k after before may);
  };
  opens = did.opens;
  sound = did.sound;
  undamaged = λ is d of. did.undamaged is d (same_fault e (fault.Damaged d) of);
  spent = λ n of. did.spent n (same_fault e (fault.Spent n) of);
  content = tt;
  refused = λ of unspoilt. did.refused (same_fault e fault.Memory of) unspoilt;
  firm = λ firm key has. tt;
  drawn = omega (arith, did.drawn);
  made = omega (arith, did.made);
  numbers = tt;
  parts = tt;
}
  where
    at_none : (key : List ℕ) (r : Reading) (k : ℕ) → IsNewBy (f.forgets key) m [] s.content key r k → IsNewBy (f.forgets key) m ys s.content key r k
    at_none key r k new = record { count = 0; within = omega arith; new = subst (λ (l : List Change). IsNew (f.forgets key) m (read_in (after_all l s.content) key) r k) (take_none new.count) new.new }

    whole_at_none : (c : Content) (k : ℕ) → IsNewWholeBy f.forgets m [] s.content c k → IsNewWholeBy f.forgets m ys s.content c k
    whole_at_none c k new = record { count = 0; within = omega arith; new = subst (λ (l : List Change). IsNewWhole f.forgets m (after_all l s.content) c k) (take_none new.count) new.new }

-- the first of some changes are those of more
pub keeps_more : (f : StoreFacts) (from to moment : ℕ) (a b : StoreState) (xs ys : List Change) → KeepsBy f from to moment a b xs → KeepsBy f from to moment a b (xs ++ ys)
keeps_more f from to moment a b xs ys ab = record {
  past = ab.past;
  since = λ t key r m after before may. ⊎_elim (λ old. inl old)
      (λ new. inr record {
        count = new.count;
        within = omega (arith, new.within, length-append xs ys);
        new = new_same (f.forgets key) moment (read_in (after_all (take new.count xs) a.content) key) (read_in (after_all (take new.count (xs ++ ys)) a.content) key) r m (front xs ys new.count a.content key new.within) new.new;
      })
      (ab.since t key r m after before may);
  past_whole = ab.past_whole;
  since_whole = λ ordered t d m after before may. ⊎_elim (λ old. inl old)
      (λ new. inr record {
        count = new.count;
        within = omega (arith, new.within, length-append xs ys);
        new = record {
          late = new.new.late;
          alike = λ key. subst (λ (w : Reading). IsAlike (f.forgets key) m (read_in d key) w) (front xs ys new.count a.content key new.within) (new.new.alike key);
        };
      })
      (ab.since_whole ordered t d m after before may);
}

-- a fault behind the first of some changes, in an object that is spoilt then
pub did_broken : {T U : Type 0} (f g : StoreFacts) (p : Bool) (s t : StoreState) (a b : HostState) (m : ℕ) (xs ys : List Change) (e : StoreFault)
    → Did {T = T} by_changes f g p s t a b m xs (Err e) → Did {T = U} by_changes f g true s t a b m (xs ++ ys) (Err e)
did_broken f g p s t a b m xs ys e did = record {
  stands = λ h. absurd (not_false h);
  others = did.others;
  silent = did.silent;
  keeps = keeps_more f a.turn b.turn m s t xs ys did.keeps;
  opens = did.opens;
  sound = did.sound;
  undamaged = λ is d of. did.undamaged is d (same_fault e (fault.Damaged d) of);
  spent = λ n of. did.spent n (same_fault e (fault.Spent n) of);
  content = tt;
  refused = λ of h. absurd (not_false h);
  firm = λ firm key has. tt;
  drawn = omega (arith, did.drawn, length-append xs ys);
  made = omega (arith, did.made, length-append xs ys);
  numbers = tt;
  parts = tt;
}

-- and want of memory behind some changes that were made
pub did_gave_up : {T U : Type 0} (f g : StoreFacts) (p : Bool) (s t : StoreState) (a b : HostState) (m : ℕ) (xs ys : List Change) (x : T)
    → Did {T = T} by_changes f g p s t a b m xs (Ok x) → Did {T = U} by_changes f g true s t a b m (xs ++ ys) (Err fault.Memory)
did_gave_up f g p s t a b m xs ys x did = record {
  stands = λ h. absurd (not_false h);
  others = did.others;
  silent = did.silent;
  keeps = keeps_more f a.turn b.turn m s t xs ys did.keeps;
  opens = did.opens;
  sound = did.sound;
  undamaged = λ is d of. cc;
  spent = λ n of. cc;
  content = tt;
  refused = λ of h. absurd (not_false h);
  firm = λ firm key has. tt;
  drawn = omega (arith, did.drawn, length-append xs ys);
  made = omega (arith, did.made, length-append xs ys);
  numbers = tt;
  parts = tt;
}

-- want of memory behind a call that made no change
pub did_refused : {T U : Type 0} (f g : StoreFacts) (p : Bool) (s t : StoreState) (a b : HostState) (m : ℕ) (x : T)
    → Did {T = T} by_changes f g p s t a b m [] (Ok x) → Did {T = U} by_changes f g p s t a b m [] (Err fault.Memory)
did_refused f g p s t a b m x did = record {
  stands = did.stands;
  others = did.others;
  silent = did.silent;
  keeps = did.keeps;
  opens = did.opens;
  sound = did.sound;
  undamaged = λ is d of. cc;
  spent = λ n of. cc;
  content = tt;
  refused = λ of unspoilt. record { keeps = did.keeps; content = did.content; numbers = record { drawn = omega (arith, did.drawn); made = omega (arith, did.made); numbers = did.numbers }; parts = inl did.parts };
  firm = λ firm key has. tt;
  drawn = did.drawn;
  made = did.made;
  numbers = tt;
  parts = tt;
}

-- under another word for whether it is spoilt
pub did_spoilt : {T : Type 0} (f g : StoreFacts) (p q : Bool) (s t : StoreState) (a b : HostState) (m : ℕ) (xs : List Change) (r : Result T StoreFault)
    → q ≡ p → Did {T = T} by_changes f g p s t a b m xs r → Did {T = T} by_changes f g q s t a b m xs r
did_spoilt f g p q s t a b m xs r same did = subst (λ (x : Bool). Did by_changes f g x s t a b m xs r) (sym same) did

pub ok_no_fault : {T : Type 0} (x : T) (e : StoreFault) → IsErrOf {T = T} (Ok x) e → ⊥
ok_no_fault x e h = cc

-- a fault in an object that is spoilt then
pub spoilt_err : {T : Type 0} (f g : StoreFacts) (p : Bool) (s t : StoreState) (a b : HostState) (m : ℕ) (xs : List Change) (e : StoreFault)
    → Did {T = T} by_changes f g p s t a b m xs (Err e) → Did {T = T} by_changes f g true s t a b m xs (Err e)
spoilt_err f g p s t a b m xs e did = record {
  stands = λ h. absurd (not_false h);
  others = did.others;
  silent = did.silent;
  keeps = did.keeps;
  opens = did.opens;
  sound = did.sound;
  undamaged = did.undamaged;
  spent = did.spent;
  content = tt;
  refused = λ of h. absurd (not_false h);
  firm = λ firm key has. tt;
  drawn = did.drawn;
  made = did.made;
  numbers = tt;
  parts = tt;
}

-- whatever the host tells

pub ready_again : {T : Type 0} (f g : StoreFacts) (m : ℕ) (x : T) → IsReady f m → Plainly {T = T} f g m (Ok x) → IsReady g m
ready_again f g m x ready plain = record { unspoilt = plain.unspoilt; usable = plain.usable plain.unspoilt; late = plain.late; moment_fits = ready.moment_fits }

pub cause_ok : {T U V : Type 0} (a b c : HostState) (x : T) (y : U) (z : V) → HasStoreCause {T = T} a b (Ok x) → HasStoreCause {T = U} b c (Ok y) → HasStoreCause {T = V} a c (Ok z)
cause_ok a b c x y z first second = record {
  failed = λ of. absurd (ok_no_fault z fault.Failed of);
  ok = second.ok ∙ first.ok;
  memory = λ of. absurd (ok_no_fault z fault.Memory of);
  spent = λ s of. absurd (ok_no_fault z (fault.Spent s) of);
  damaged = λ d of. absurd (ok_no_fault z (fault.Damaged d) of);
  later = omega (arith, first.later, second.later);
  says = second.says ∙ first.says;
}
