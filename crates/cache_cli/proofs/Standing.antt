-- A run between two commands: what may be left fits its log.
use Rattle.std.proofs.Common.{◌≡◌, ⊎_elim, ℕ, ◌+◌, ◌≤◌, Bool, true, false, List, [], ◌∷◌, ◌++◌, take, drop, length, Some, None, refl, sym, ◌∙◌, ap, subst, arith, length-append}
use Rattle.std.specs.Prelude.{if◌then◌else◌, ◌||◌, ◌&&◌, nat_lt}
use Rattle.std.specs.FinMap.{get}
use Rattle.std.proofs.lemmas.Bool.Decides.{nat_tests}
use Rattle.std.proofs.lemmas.List.{append-nil, take-append-drop, take-append-le}
use Rattle.std.proofs.Math.Seq.{take-append-add, take-length}
use Rattle.cache_model.specs.declared.entries.Change.{Change}
use Rattle.cache_model.specs.declared.commands.Command.{Command}
use Rattle.cache_model.specs.declared.commands.Command.TheVariants.{At, Put, PutAbsent, Replace, ReplaceIf, Get, Has, Remove, RemoveIf, Size, Keys, Clear, Step, Evict, Sync, CompactAll, CompactFile, Stats, Export, Stop, Halt}
use Rattle.cache_model.specs.Plain.{Plain, visible_at, effect_of, plain_after_all, moment_after}
use Rattle.cache_model.specs.Changes.{KeyChange, changes_by, entry_after}
use Rattle.cache_model.proofs.Prefixes.{plain_after_all-append}
use Rattle.store_trait.specs.Meaning.{Reading, Content, read_in, seen, IsAlike, StoreFacts, StoreState}
use Rattle.store_trait.specs.Keeping.{SameStore, IsOnly, Carries}
use Rattle.store_trait.proofs.Alike.{alike_sym, alike_trans, alike_later, alike_weaker, alike_seen}
use Rattle.cache_session.specs.Changing.{after_all, of_key, IsOrder, Shows, has_some}
use Rattle.cache_session.specs.Turns.{KeepsBy, IsContentAfter, promises, is_settling}
use Rattle.cache_session.proofs.Changing.{read_after, after_all-append, of_key-append, reads_still, after_alike}
use Rattle.cache_session.proofs.Keeping.{behind}
use Rattle.cache_session.proofs.Shown.{last_seen}
use Rattle.cache_cli.specs.Fitting.{promised_of, IsLog, ReadsPrefix, ReadsCut, IsOpening, entry_of_reading}
use Rattle.cache_cli.specs.Standing.{Fit, FitAll, Standing}
use Rattle.cache_cli.specs.Run.{IsDone}
use Rattle.cache_cli.proofs.Logs.{log_snoc, log_of_key, promised_made, promised_more, entry_after-front}

-- more changes behind a log
front_of : (xs ys : List Change) (n : ℕ) → n ≤ length xs → take n xs ≡ take n (xs ++ ys)
front_of xs ys n le = sym (take-append-le n xs ys le)

pub fit_more : (promised : List ℕ → ℕ) (log more : List Change) (base : Content) (key : List ℕ) (r : Reading) (mark : ℕ) → Fit promised log base key r mark → Fit promised (log ++ more) base key r mark
fit_more promised log more base key r mark fit = record {
  count = fit.count;
  within = omega (arith, fit.within, length-append log more);
  holds = subst (λ (l : List Change). promised key ≤ length (of_key key l)) (front_of log more fit.count fit.within) fit.holds;
  alike = subst (λ (l : List Change). IsAlike (Unit {0}) mark r (read_in (after_all l base) key)) (front_of log more fit.count fit.within) fit.alike;
}

pub fit_all_more : (promised : List ℕ → ℕ) (log more : List Change) (base c : Content) (mark : ℕ) → FitAll promised log base c mark → FitAll promised (log ++ more) base c mark
fit_all_more promised log more base c mark fit = record {
  count = fit.count;
  within = omega (arith, fit.within, length-append log more);
  holds = λ key. subst (λ (l : List Change). promised key ≤ length (of_key key l)) (front_of log more fit.count fit.within) (fit.holds key);
  alike = λ key. subst (λ (l : List Change). IsAlike (Unit {0}) mark (read_in c key) (read_in (after_all l base) key)) (front_of log more fit.count fit.within) (fit.alike key);
}

-- what is promised is among all of a log, and among all of it and some more
within_log : (synced : Bool) (plain : Plain) (done : List Command) (log changes : List Change) (n : ℕ) (key : List ℕ) → IsLog plain done log → promised_of synced plain done key ≤ length (of_key key (take (length log + n) (log ++ changes)))
within_log synced plain done log changes n key is =
    let all : length (of_key key (take (length log + n) (log ++ changes))) ≡ length (of_key key log) + length (of_key key (take n changes)) =
    ap (λ (l : List Change). length (of_key key l)) (take-append-add log changes n)
    ∙ ap (λ (l : List KeyChange). length l) (of_key-append key log (take n changes)) ∙ length-append (of_key key log) (of_key key (take n changes)) in
    omega (arith, all, promised_made synced plain done key, ap (λ (l : List KeyChange). length l) (log_of_key plain done log key is))

-- the content is alike to the log's at each later moment
kept_later : (plain : Plain) (done : List Command) (synced orderly : Bool) (g : StoreFacts) (base : Content) (s : StoreState) (turn : ℕ)
    → (so : Standing plain done synced orderly g base s turn)
    → (key : List ℕ) (mark : ℕ) → (plain_after_all plain done).moment ≤ mark → IsAlike (Unit {0}) mark (read_in s.content key) (read_in (after_all so.log base) key)
kept_later plain done synced orderly g base s turn so key mark late =
    alike_later (Unit {0}) (plain_after_all plain done).moment mark (read_in s.content key) (read_in (after_all so.log base) key) late (so.kept key)

-- within a turn: each pair fits the log with the changes of the command in hand
pub in_turn : (plain : Plain) (done : List Command) (synced orderly : Bool) (g : StoreFacts) (base : Content) (s t : StoreState) (from to moment : ℕ) (changes : List Change)
    → (so : Standing plain done synced orderly g base s from)
    → moment ≡ (plain_after_all plain done).moment
    → KeepsBy g from to moment s t changes
    → (n : ℕ) (key : List ℕ) (r : Reading) (mark : ℕ) → from ≤ n → n ≤ to → t.may n key r mark → Fit (promised_of synced plain done) (so.log ++ changes) base key r mark
in_turn plain done synced orderly g base s t from to moment changes so at keeps n key r mark after before may =
    ⊎_elim
    (λ old.
    let fit = so.each key old.before old.least old.possible in
    let later : Fit (promised_of synced plain done) so.log base key r mark = record {
      count = fit.count;
      within = fit.within;
      holds = fit.holds;
      alike = alike_trans (Unit {0}) mark r old.before (read_in (after_all (take fit.count so.log) base) key)
          (alike_weaker (g.forgets key) (Unit {0}) mark r old.before (λ _. tt) old.alike)
          (alike_later (Unit {0}) old.least mark old.before (read_in (after_all (take fit.count so.log) base) key) old.no_later fit.alike);
    } in
    fit_more (promised_of synced plain done) so.log changes base key r mark later)
    (λ new. record {
      count = length so.log + new.count;
      within = omega (arith, new.within, length-append so.log changes);
      holds = within_log synced plain done so.log changes new.count key so.is_log;
      alike = alike_trans (Unit {0}) mark r (read_in (after_all (take new.count changes) s.content) key) (read_in (after_all (take (length so.log + new.count) (so.log ++ changes)) base) key)
          (alike_weaker (g.forgets key) (Unit {0}) mark r (read_in (after_all (take new.count changes) s.content) key) (λ _. tt) new.new.alike)
          (behind (Unit {0}) mark so.log changes new.count base s.content key (kept_later plain done synced orderly g base s from so key mark (omega (arith, new.new.late, at))));
    })
    (keeps.since n key r mark after before may)

pub in_turn_whole : (plain : Plain) (done : List Command) (synced orderly : Bool) (g : StoreFacts) (base : Content) (s t : StoreState) (from to moment : ℕ) (changes : List Change)
    → (so : Standing plain done synced orderly g base s from)
    → moment ≡ (plain_after_all plain done).moment
    → KeepsBy g from to moment s t changes
    → orderly ≡ true
    → (n : ℕ) (c : Content) (mark : ℕ) → from ≤ n → n ≤ to → t.whole n c mark → FitAll (promised_of synced plain done) (so.log ++ changes) base c mark
in_turn_whole plain done synced orderly g base s t from to moment changes so at keeps ordered n c mark after before may =
    ⊎_elim
    (λ old.
    let fit = so.whole ordered old.before old.least old.possible in
    let later : FitAll (promised_of synced plain done) so.log base c mark = record {
      count = fit.count;
      within = fit.within;
      holds = fit.holds;
      alike = λ key. alike_trans (Unit {0}) mark (read_in c key) (read_in old.before key) (read_in (after_all (take fit.count so.log) base) key)
          (alike_weaker (g.forgets key) (Unit {0}) mark (read_in c key) (read_in old.before key) (λ _. tt) (old.alike key))
          (alike_later (Unit {0}) old.least mark (read_in old.before key) (read_in (after_all (take fit.count so.log) base) key) old.no_later (fit.alike key));
    } in
    fit_all_more (promised_of synced plain done) so.log changes base c mark later)
    (λ new. record {
      count = length so.log + new.count;
      within = omega (arith, new.within, length-append so.log changes);
      holds = λ key. within_log synced plain done so.log changes new.count key so.is_log;
      alike = λ key. alike_trans (Unit {0}) mark (read_in c key) (read_in (after_all (take new.count changes) s.content) key) (read_in (after_all (take (length so.log + new.count) (so.log ++ changes)) base) key)
          (alike_weaker (g.forgets key) (Unit {0}) mark (read_in c key) (read_in (after_all (take new.count changes) s.content) key) (λ _. tt) (new.new.alike key))
          (behind (Unit {0}) mark so.log changes new.count base s.content key (kept_later plain done synced orderly g base s from so key mark (omega (arith, new.new.late, at))));
    })
    (keeps.since_whole (so.is_ordered ∙ ordered) n c mark after before may)

-- a reading that is as the content fits the whole log
fit_end : (promised : List ℕ → ℕ) (log : List Change) (base content : Content) (key : List ℕ) (r : Reading) (mark : ℕ)
    → promised key ≤ length (of_key key log) → IsAlike (Unit {0}) mark (read_in content key) (read_in (after_all log base) key) → IsAlike (Unit {0}) mark r (read_in content key) → Fit promised log base key r mark
fit_end promised log base content key r mark holds same alike = record {
  count = length log;
  within = omega arith;
  holds = subst (λ (l : List Change). promised key ≤ length (of_key key l)) (sym (take-length log)) holds;
  alike = subst (λ (l : List Change). IsAlike (Unit {0}) mark r (read_in (after_all l base) key)) (sym (take-length log)) (alike_trans (Unit {0}) mark r (read_in content key) (read_in (after_all log base) key) alike same);
}

-- no command lets the moment fall
pub moment_later : (moment : ℕ) (command : Command) → moment ≤ moment_after moment command
moment_later moment (At wanted) = by (nat_lt wanted moment) refl
  where
    by : (b : Bool) → nat_lt wanted moment ≡ b → moment ≤ (if b then moment else wanted)
    by true is = omega arith
    by false is = grind (arith, nat_tests)
moment_later moment (Put key value lifespan) = omega arith
moment_later moment (PutAbsent key value lifespan) = omega arith
moment_later moment (Replace key value lifespan) = omega arith
moment_later moment (ReplaceIf key old value lifespan) = omega arith
moment_later moment (Get key) = omega arith
moment_later moment (Has key) = omega arith
moment_later moment (Remove key) = omega arith
moment_later moment (RemoveIf key old) = omega arith
moment_later moment Size = omega arith
moment_later moment Keys = omega arith
moment_later moment Clear = omega arith
moment_later moment (Step kind) = omega arith
moment_later moment (Evict key) = omega arith
moment_later moment Sync = omega arith
moment_later moment CompactAll = omega arith
moment_later moment (CompactFile number) = omega arith
moment_later moment Stats = omega arith
moment_later moment Export = omega arith
moment_later moment Stop = omega arith
moment_later moment Halt = omega arith

-- the content after the changes of a call

module _ (plain : Plain) (done : List Command) (synced orderly : Bool) (g : StoreFacts) (base : Content) (s t : StoreState) (from to : ℕ) (changes : List Change)
    (so : Standing plain done synced orderly g base s from) (le : from ≤ to)
    (keeps : KeepsBy g from to (plain_after_all plain done).moment s t changes) (content : IsContentAfter g (plain_after_all plain done).moment to changes s t) where
  abbrev pub m : ℕ
  m = (plain_after_all plain done).moment

  all_same : (key : List ℕ) → read_in (after_all changes (after_all so.log base)) key ≡ read_in (after_all (so.log ++ changes) base) key
  all_same key = ap (λ (c : Content). read_in c key) (sym (after_all-append so.log changes base))

  pub kept_on : (key : List ℕ) → IsAlike (Unit {0}) m (read_in t.content key) (read_in (after_all (so.log ++ changes) base) key)
  kept_on key = subst (λ (w : Reading). IsAlike (Unit {0}) m (read_in t.content key) w) (all_same key)
      (alike_trans (Unit {0}) m (read_in t.content key) (read_in (after_all changes s.content) key) (read_in (after_all changes (after_all so.log base)) key)
      (alike_weaker (g.forgets key) (Unit {0}) m (read_in t.content key) (read_in (after_all changes s.content) key) (λ _. tt) (content.kept key))
      (after_alike (Unit {0}) m changes (after_all so.log base) s.content key (so.kept key)))

  -- at the mark of each pair that may be left now the content before the call was alike to the log's
  was_at : (key : List ℕ) (r : Reading) (mark : ℕ) → t.may to key r mark → IsAlike (Unit {0}) mark (read_in s.content key) (read_in (after_all so.log base) key)
  was_at key r mark may = ⊎_elim
      (λ old. alike_later (Unit {0}) old.least mark (read_in s.content key) (read_in (after_all so.log base) key) old.no_later (so.at_marks key old.before old.least old.possible))
      (λ new. kept_later plain done synced orderly g base s from so key mark new.new.late)
      (keeps.since to key r mark le (omega arith) may)

  pub at_marks_on : (key : List ℕ) (r : Reading) (mark : ℕ) → t.may to key r mark → IsAlike (Unit {0}) mark (read_in t.content key) (read_in (after_all (so.log ++ changes) base) key)
  at_marks_on key r mark may = subst (λ (w : Reading). IsAlike (Unit {0}) mark (read_in t.content key) w) (all_same key)
      (alike_trans (Unit {0}) mark (read_in t.content key) (read_in (after_all changes s.content) key) (read_in (after_all changes (after_all so.log base)) key)
      (alike_weaker (g.forgets key) (Unit {0}) mark (read_in t.content key) (read_in (after_all changes s.content) key) (λ _. tt) (content.at_marks key r mark may))
      (after_alike (Unit {0}) mark changes (after_all so.log base) s.content key (was_at key r mark may)))

  -- a key that isn't changed, of which only the content was possible
  pub only_on : (h : StoreFacts) → SameStore g h → (key : List ℕ) → has_some (of_key key changes) ≡ false → IsOnly g s from key → IsOnly h t to key
  only_on h same key still only r mark may =
      alike_weaker (g.forgets key) (h.forgets key) mark r (read_in t.content key) (same.forgets key).1
      (alike_trans (g.forgets key) mark r (read_in s.content key) (read_in t.content key)
      (⊎_elim
      (λ old. alike_trans (g.forgets key) mark r old.before (read_in s.content key) old.alike (alike_later (g.forgets key) old.least mark old.before (read_in s.content key) old.no_later (only old.before old.least old.possible)))
      (λ new. subst (λ (w : Reading). IsAlike (g.forgets key) mark r w) (reads_still key changes new.count s.content still) new.new.alike)
      (keeps.since to key r mark le (omega arith) may))
      (alike_sym (g.forgets key) mark (read_in t.content key) (read_in s.content key)
      (subst (λ (w : Reading). IsAlike (g.forgets key) mark (read_in t.content key) w) unmoved (content.at_marks key r mark may))))
    where
      unmoved : read_in (after_all changes s.content) key ≡ read_in s.content key
      unmoved = ap (λ (l : List Change). read_in (after_all l s.content) key) (sym (take-length changes)) ∙ reads_still key changes (length changes) s.content still

-- a command was done
pub done_one : (plain : Plain) (done : List Command) (command : Command) (synced orderly : Bool) (g h : StoreFacts) (base : Content) (s t : StoreState) (from to : ℕ) (changes : List Change)
    → (so : Standing plain done synced orderly g base s from)
    → SameStore g h
    → from ≤ to
    → KeepsBy g from to (plain_after_all plain done).moment s t changes
    → IsOrder (effect_of (plain_after_all plain done) command) changes
    → IsDone (plain_after_all plain done) command changes g h s t to
    → ((c : Content) (mark : ℕ) → t.whole to c mark → (key : List ℕ) → t.may to key (read_in c key) mark)
    → (next : Standing plain (done ++ command ∷ []) synced orderly h base t to) × (next.log ≡ so.log ++ changes)
done_one plain done command synced orderly g h base s t from to changes so same le keeps order did fits = (
  record {
    log = log;
    is_log = is_log;
    kept = λ key. subst (λ (n : ℕ). IsAlike (Unit {0}) n (read_in t.content key) (read_in (after_all log base) key)) (sym moment_is)
        (alike_later (Unit {0}) now.moment (moment_after now.moment command) (read_in t.content key) (read_in (after_all log base) key) (moment_later now.moment command) (kept_on plain done synced orderly g base s t from to changes so le keeps did.content key));
    at_marks = at_marks;
    shows = subst (λ (p : Plain). Shows p t.content) (sym (plain_after_all-append plain done (command ∷ []))) did.shows;
    each = λ key r mark may. by key r mark may (promises synced now command key) refl;
    whole = λ ordered c mark may. by_whole ordered c mark may (is_settling command) refl synced refl;
    settled = λ firm key. settled firm key (promises synced now command key) refl;
    firm = same.firm ∙ so.firm;
    is_ordered = same.ordered ∙ so.is_ordered;
  },
  refl,
)
  where
    now : Plain
    now = plain_after_all plain done

    all : List Command
    all = done ++ command ∷ []

    log : List Change
    log = so.log ++ changes

    moment_is : (plain_after_all plain all).moment ≡ moment_after now.moment command
    moment_is = ap (λ (p : Plain). p.moment) (plain_after_all-append plain done (command ∷ []))

    is_log : IsLog plain all log
    is_log = log_snoc plain done command so.log changes so.is_log order

    at_marks : (key : List ℕ) (r : Reading) (mark : ℕ) → t.may to key r mark → IsAlike (Unit {0}) mark (read_in t.content key) (read_in (after_all log base) key)
    at_marks = at_marks_on plain done synced orderly g base s t from to changes so le keeps did.content

    made : (key : List ℕ) → promised_of synced plain all key ≤ length (of_key key log)
    made key = omega (arith, promised_made synced plain all key, ap (λ (l : List KeyChange). length l) (log_of_key plain all log key is_log))

    promised : (key : List ℕ) → promises synced now command key ≡ true → IsOnly h t to key
    promised key is = did.promised key (ap (λ (b : Bool). promises b now command key) so.firm ∙ is)

    at_end : (key : List ℕ) (r : Reading) (mark : ℕ) → IsOnly h t to key → t.may to key r mark → Fit (promised_of synced plain all) log base key r mark
    at_end key r mark only may = fit_end (promised_of synced plain all) log base t.content key r mark (made key) (at_marks key r mark may) (alike_weaker (h.forgets key) (Unit {0}) mark r (read_in t.content key) (λ _. tt) (only r mark may))

    by : (key : List ℕ) (r : Reading) (mark : ℕ) → t.may to key r mark → (b : Bool) → promises synced now command key ≡ b → Fit (promised_of synced plain all) log base key r mark
    by key r mark may true is = at_end key r mark (promised key is) may
    by key r mark may false is =
        let fit = in_turn plain done synced orderly g base s t from to now.moment changes so refl keeps to key r mark le (omega arith) may in
        record { count = fit.count; within = fit.within; holds = subst (λ (n : ℕ). n ≤ length (of_key key (take fit.count log))) (sym (promised_more synced plain done command key false is)) fit.holds; alike = fit.alike }

    settled : synced ≡ true → (key : List ℕ) (b : Bool) → promises synced now command key ≡ b → IsOnly h t to key
    settled firm key true is = promised key is
    settled firm key false is =
        only_on plain done synced orderly g base s t from to changes so le keeps did.content h same key (ap has_some (order key) ∙ unchanged (is_settling command) synced (has_some (changes_by (effect_of now command) key)) firm is) (so.settled firm key)
      where
        unchanged : (a b c : Bool) → b ≡ true → (a || (b && c)) ≡ false → c ≡ false
        unchanged false true c x h = h
        unchanged true b c x h = cc
        unchanged false false c x h = cc

    whole_end : ((key : List ℕ) → IsOnly h t to key) → (c : Content) (mark : ℕ) → t.whole to c mark → FitAll (promised_of synced plain all) log base c mark
    whole_end only c mark may = record {
      count = length log;
      within = omega arith;
      holds = λ key. subst (λ (l : List Change). promised_of synced plain all key ≤ length (of_key key l)) (sym (take-length log)) (made key);
      alike = λ key. subst (λ (l : List Change). IsAlike (Unit {0}) mark (read_in c key) (read_in (after_all l base) key)) (sym (take-length log))
          (alike_trans (Unit {0}) mark (read_in c key) (read_in t.content key) (read_in (after_all log base) key)
          (alike_weaker (h.forgets key) (Unit {0}) mark (read_in c key) (read_in t.content key) (λ _. tt) (only key (read_in c key) mark (fits c mark may key)))
          (at_marks key (read_in c key) mark (fits c mark may key)));
    }

    by_whole : orderly ≡ true → (c : Content) (mark : ℕ) → t.whole to c mark → (a : Bool) → is_settling command ≡ a → (b : Bool) → synced ≡ b → FitAll (promised_of synced plain all) log base c mark
    by_whole ordered c mark may true settling b firm = whole_end (λ key. promised key (ap (λ (x : Bool). x || (synced && has_some (changes_by (effect_of now command) key))) settling)) c mark may
    by_whole ordered c mark may false calm true firm = whole_end (λ key. settled firm key (promises synced now command key) refl) c mark may
    by_whole ordered c mark may false calm false loose =
        let fit = in_turn_whole plain done synced orderly g base s t from to now.moment changes so refl keeps ordered to c mark le (omega arith) may in
        let none : (key : List ℕ) → promises synced now command key ≡ false = λ key.
        ap (λ (x : Bool). x || (synced && has_some (changes_by (effect_of now command) key))) calm ∙ ap (λ (x : Bool). x && has_some (changes_by (effect_of now command) key)) loose in
        record {
          count = fit.count;
          within = fit.within;
          holds = λ key. subst (λ (n : ℕ). n ≤ length (of_key key (take fit.count log))) (sym (promised_more synced plain done command key false (none key))) (fit.holds key);
          alike = fit.alike;
        }

-- nothing was changed
pub kept_one : (plain : Plain) (done : List Command) (synced orderly : Bool) (g h : StoreFacts) (base : Content) (s t : StoreState) (from to : ℕ)
    → (so : Standing plain done synced orderly g base s from)
    → SameStore g h
    → from ≤ to
    → KeepsBy g from to (plain_after_all plain done).moment s t []
    → IsContentAfter g (plain_after_all plain done).moment to [] s t
    → (next : Standing plain done synced orderly h base t to) × (next.log ≡ so.log)
kept_one plain done synced orderly g h base s t from to so same le keeps content = (
  record {
    log = so.log;
    is_log = so.is_log;
    kept = λ key. same_log (λ (l : List Change). IsAlike (Unit {0}) m (read_in t.content key) (read_in (after_all l base) key)) (kept_on plain done synced orderly g base s t from to [] so le keeps content key);
    at_marks = λ key r mark may. same_log (λ (l : List Change). IsAlike (Unit {0}) mark (read_in t.content key) (read_in (after_all l base) key)) (at_marks_on plain done synced orderly g base s t from to [] so le keeps content key r mark may);
    shows = λ key. alike_seen (g.forgets key) m (read_in t.content key) (read_in s.content key) (content.kept key) ∙ so.shows key;
    each = λ key r mark may. same_log (λ (l : List Change). Fit (promised_of synced plain done) l base key r mark) (in_turn plain done synced orderly g base s t from to m [] so refl keeps to key r mark le (omega arith) may);
    whole = λ ordered c mark may. same_log (λ (l : List Change). FitAll (promised_of synced plain done) l base c mark) (in_turn_whole plain done synced orderly g base s t from to m [] so refl keeps ordered to c mark le (omega arith) may);
    settled = λ firm key. only_on plain done synced orderly g base s t from to [] so le keeps content h same key refl (so.settled firm key);
    firm = same.firm ∙ so.firm;
    is_ordered = same.ordered ∙ so.is_ordered;
  },
  refl,
)
  where
    m : ℕ
    m = (plain_after_all plain done).moment

    same_log : (P : List Change → Type 0) → P (so.log ++ []) → P so.log
    same_log P h = subst P (append-nil so.log) h

-- calls that leave the store's files alone leave it standing so
pub carried : (plain : Plain) (done : List Command) (synced orderly : Bool) (g : StoreFacts) (base : Content) (s t : StoreState) (from to : ℕ) → from ≤ to → Carries from to s t
    → (so : Standing plain done synced orderly g base s from) → (next : Standing plain done synced orderly g base t to) × (next.log ≡ so.log)
carried plain done synced orderly g base s t from to le carries so = (
  record {
    log = so.log;
    is_log = so.is_log;
    kept = λ key. subst (λ (w : Reading). IsAlike (Unit {0}) (plain_after_all plain done).moment w (read_in (after_all so.log base) key)) (sym (carries.content key)) (so.kept key);
    at_marks = λ key r mark may. subst (λ (w : Reading). IsAlike (Unit {0}) mark w (read_in (after_all so.log base) key)) (sym (carries.content key)) (so.at_marks key r mark (carries.since to key r mark le (omega arith) may));
    shows = λ key. ap (seen (plain_after_all plain done).moment) (carries.content key) ∙ so.shows key;
    each = λ key r mark may. so.each key r mark (carries.since to key r mark le (omega arith) may);
    whole = λ ordered c mark may. so.whole ordered c mark (carries.since_whole to c mark le (omega arith) may);
    settled = λ firm key r mark may. subst (λ (w : Reading). IsAlike (g.forgets key) mark r w) (sym (carries.content key)) (so.settled firm key r mark (carries.since to key r mark le (omega arith) may));
    firm = so.firm;
    is_ordered = so.is_ordered;
  },
  refl,
)

-- in the plain map's words

pub opening_same : (plain : Plain) (base : Content) (key : List ℕ) (m : ℕ) → IsOpening plain base → seen m (read_in base key) ≡ visible_at m (get plain.entries key)
opening_same plain base key m opening = by (read_in base key) (opening key)
  where
    by : (r : Reading) → entry_of_reading r ≡ get plain.entries key → seen m r ≡ visible_at m (get plain.entries key)
    by None is = ap (visible_at m) is
    by (Some entry) is = ap (visible_at m) is

reads_as : (plain : Plain) (log : List Change) (base : Content) (key : List ℕ) (r : Reading) (mark n m : ℕ)
    → IsOpening plain base
    → IsAlike (Unit {0}) mark r (read_in (after_all (take n log) base) key)
    → mark ≤ m
    → seen m r ≡ visible_at m (entry_after (get plain.entries key) (of_key key log) (length (of_key key (take n log))))
reads_as plain log base key r mark n m opening alike le =
    let front = of_key key (take n log) in
    let split : of_key key log ≡ front ++ of_key key (drop n log) = ap (of_key key) (sym (take-append-drop n log)) ∙ of_key-append key (take n log) (drop n log) in
    alike_seen (Unit {0}) m r (read_in (after_all (take n log) base) key) (alike_later (Unit {0}) mark m r (read_in (after_all (take n log) base) key) le alike)
    ∙ ap (seen m) (read_after (take n log) base key)
    ∙ last_seen m front (read_in base key) (get plain.entries key) (opening_same plain base key m opening)
    ∙ ap (visible_at m) (sym (ap (λ (l : List KeyChange). entry_after (get plain.entries key) l (length front)) split ∙ entry_after-front (get plain.entries key) front (of_key key (drop n log))))

pub front_within : (key : List ℕ) (log : List Change) (n : ℕ) → length (of_key key (take n log)) ≤ length (of_key key log)
front_within key log n = omega (arith, ap (λ (l : List KeyChange). length l) (ap (of_key key) (sym (take-append-drop n log)) ∙ of_key-append key (take n log) (drop n log)), length-append (of_key key (take n log)) (of_key key (drop n log)))

pub to_prefix : (synced : Bool) (plain : Plain) (done hand : List Command) (log : List Change) (base : Content) (key : List ℕ) (r : Reading) (mark : ℕ)
    → IsOpening plain base → IsLog plain (done ++ hand) log
    → Fit (promised_of synced plain done) log base key r mark
    → ReadsPrefix synced plain done hand key r mark
to_prefix synced plain done hand log base key r mark opening is fit = record {
  count = length (of_key key (take fit.count log));
  holds = fit.holds;
  within = omega (arith, front_within key log fit.count, ap (λ (l : List KeyChange). length l) (log_of_key plain (done ++ hand) log key is));
  reads = λ m le. reads_as plain log base key r mark fit.count m opening fit.alike le
      ∙ ap (λ (l : List KeyChange). visible_at m (entry_after (get plain.entries key) l (length (of_key key (take fit.count log))))) (log_of_key plain (done ++ hand) log key is);
}

pub to_cut : (synced : Bool) (plain : Plain) (done hand : List Command) (log : List Change) (base c : Content) (mark : ℕ)
    → IsOpening plain base → IsLog plain (done ++ hand) log
    → FitAll (promised_of synced plain done) log base c mark
    → ReadsCut synced plain done hand c mark
to_cut synced plain done hand log base c mark opening is fit = record {
  log = log;
  is_log = is;
  count = fit.count;
  within = fit.within;
  holds = fit.holds;
  reads = λ key m le. reads_as plain log base key (read_in c key) mark fit.count m opening (fit.alike key) le;
}
