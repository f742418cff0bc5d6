use Rattle.std.proofs.Common.{inl, inr, ◌≡◌, ◌∙◌, refl, ap, sym, subst, Err, Ok, ℕ, ◌+◌, List, [], ◌∷◌, ◌++◌, false}
use Rattle.std.specs.Prelude.{IsTrue, Result, if◌then◌else◌}
use Rattle.cache_model.specs.declared.faults.StoreFault.{StoreFault}
use Rattle.cache_model.specs.declared.faults.StoreFault.TheVariants as fault
use Rattle.cache_model.specs.declared.files.Place.{Place}
use Rattle.cache_model.specs.Items.{Item}
use Rattle.cache_model.specs.DataFiles.{Frame}
use Rattle.data_file.specs.Appending.{next_place}
use Rattle.data_file.proofs.Frame.{placed_of}
use Rattle.cache_disk.proofs.Runs.{Stands-same}
use Rattle.append_log.specs.declared.log_calls.Log.{Log}
use Rattle.append_log.specs.Current.{files_of, record_size, tail_of}
use Rattle.append_log.specs.Current as append
use Rattle.temporary_table.specs.Queue.{Queue}
use Rattle.append_log.specs.Calls.{CountsIf, Goes, IsPut, IsSpentBy, Puts, PutsBy}
use Rattle.append_log.specs.Standing.{Held, Stands}
use Rattle.compactor.specs.declared.parts.Parts.{Parts}
use Rattle.compactor.specs.Counting.{Kept, counts_in}
use Rattle.compactor.specs.Stepping.{Notes, Seats}
use Rattle.store_trait.specs.Meaning.{changed, key_of}
use Rattle.file_stats.specs.Figures.{Figures}
use Rattle.soft_index.specs.declared.log_store.LogStore.{LogStore}
use Rattle.soft_index.specs.Counted.{CountsWritten}
use Rattle.soft_index.specs.Store.{Holds, closed_frames, closes, content_of, item_by, next_of, number, waiting}
use Rattle.soft_index.proofs.Images.{call_acts, item_key}
use Rattle.soft_index.proofs.Changes.{IsAsWas, as_was, parts_counted, same_rows, still_acts, still_keeps, still_stands}
use Rattle.soft_index.proofs.Entering.{Entered, above_after, change_newer, entered_counts, entered_indexed, entered_plain, entered_rows, entered_tree, next_at, put_content, seated_was, seats_indexed, was_by}
use Rattle.soft_index.proofs.Putting.{number_after, put_in, put_leaves, put_records, record_counted, record_grows, since_put, spent_number}
use Rattle.soft_index.proofs.Growing.{grows_as_was}
use Rattle.soft_index.proofs.Turning.{from_main}
use Rattle.soft_index.proofs.writing.put.Given as given
use Rattle.soft_index.proofs.writing.put.Goals as goal

pub returns-in_default-clause-told : goal.returns-in_default-clause-told
returns-in_default-clause-told g c told =
    let old = c.args.store.now in
    let new : LogStore = record old { latest = c.args.moment } in
    let a = g.H.Host.state c.args.host.now in
    let stands = c.requires.stands told in
    still_acts {R = Unit {0}} old new a a c.args.moment (changed c.args.change.now (content_of old a.files)) stands.0 stands.1 (Err fault.Memory) stands.2 c.requires.ready.unspoilt c.requires.ready.late refl (as_was old new a.files a.files refl (refl, refl, refl) refl (λ n. refl)) (Stands-same a)
    (λ d err. cc) (λ s err. cc) (λ err unspoilt. refl)

pub returns-in_default-clause-kept : goal.returns-in_default-clause-kept
returns-in_default-clause-kept g c told err unspoilt =
    let old = c.args.store.now in
    let new : LogStore = record old { latest = c.args.moment } in
    let a = g.H.Host.state c.args.host.now in
    let stands = c.requires.stands told in
    still_keeps old new a a c.args.moment stands.0 stands.1 stands.2 c.requires.ready.unspoilt c.requires.ready.late refl (as_was old new a.files a.files refl (refl, refl, refl) refl (λ n. refl)) (Stands-same a)

pub returns-in_default-copy-clause-told : goal.returns-in_default-copy-clause-told
returns-in_default-copy-clause-told g c told =
    let old = c.args.store.now in
    let new : LogStore = record old { latest = c.args.moment } in
    let a = g.H.Host.state c.args.host.now in
    let stands = c.requires.stands told in
    still_acts {R = Unit {0}} old new a a c.args.moment (changed c.args.change.now (content_of old a.files)) stands.0 stands.1 (Err fault.Memory) stands.2 c.requires.ready.unspoilt c.requires.ready.late refl (as_was old new a.files a.files refl (refl, refl, refl) refl (λ n. refl)) (Stands-same a)
    (λ d err. cc) (λ s err. cc) (λ err unspoilt. refl)

pub returns-in_default-copy-clause-kept : goal.returns-in_default-copy-clause-kept
returns-in_default-copy-clause-kept g c told err unspoilt =
    let old = c.args.store.now in
    let new : LogStore = record old { latest = c.args.moment } in
    let a = g.H.Host.state c.args.host.now in
    let stands = c.requires.stands told in
    still_keeps old new a a c.args.moment stands.0 stands.1 stands.2 c.requires.ready.unspoilt c.requires.ready.late refl (as_was old new a.files a.files refl (refl, refl, refl) refl (λ n. refl)) (Stands-same a)

pub returns-in_default-reserve-clause-told : goal.returns-in_default-reserve-clause-told
returns-in_default-reserve-clause-told g c told =
    let old = c.args.store.now in
    let new : LogStore = record old { parts = record old.parts { stats = c.reserve.new.self }; latest = c.args.moment } in
    let a = g.H.Host.state c.args.host.now in
    let stands = c.requires.stands told in
    still_acts {R = Unit {0}} old new a a c.args.moment (changed c.args.change.now (content_of old a.files)) stands.0 stands.1 (Err fault.Memory) stands.2 c.requires.ready.unspoilt c.requires.ready.late refl (as_was old new a.files a.files refl (refl, refl, refl) c.reserve.ensures.rows (λ n. refl)) (Stands-same a)
    (λ d err. cc) (λ s err. cc) (λ err unspoilt. refl)

pub returns-in_default-reserve-clause-kept : goal.returns-in_default-reserve-clause-kept
returns-in_default-reserve-clause-kept g c told err unspoilt =
    let old = c.args.store.now in
    let new : LogStore = record old { parts = record old.parts { stats = c.reserve.new.self }; latest = c.args.moment } in
    let a = g.H.Host.state c.args.host.now in
    let stands = c.requires.stands told in
    still_keeps old new a a c.args.moment stands.0 stands.1 stands.2 c.requires.ready.unspoilt c.requires.ready.late refl (as_was old new a.files a.files refl (refl, refl, refl) c.reserve.ensures.rows (λ n. refl)) (Stands-same a)

pub returns-in-Err-clause-told : goal.returns-in-Err-clause-told
returns-in-Err-clause-told g c told =
    let old = c.args.store.now in
    let new : LogStore = record old { parts = c.seat.new.self; latest = c.args.moment } in
    let a = g.H.Host.state c.args.host.now in
    let stands = c.requires.stands told in
    let memory : c.in-Err.fault ≡ fault.Memory = c.in-Err.ensures.memory in
    still_acts {R = Unit {0}} old new a a c.args.moment (changed c.args.change.now (content_of old a.files)) stands.0 stands.1 (Err c.in-Err.fault) stands.2 c.requires.ready.unspoilt c.requires.ready.late refl (seated_was c.in-Ok-copy.seated old new a stands.0 stands.1 c.reserve.new.self stands.2 c.reserve.ensures.rows c.seat.ensures.seats c.requires.ready.late) (Stands-same a)
    (λ d err. cc) (λ s err. cc) (λ err unspoilt. ap (λ q. q.waiting) c.seat.ensures.seats.requests)

pub returns-in-Err-clause-unchanged : goal.returns-in-Err-clause-unchanged
returns-in-Err-clause-unchanged g c told err unspoilt =
    let old = c.args.store.now in
    let new : LogStore = record old { parts = c.seat.new.self; latest = c.args.moment } in
    let a = g.H.Host.state c.args.host.now in
    let stands = c.requires.stands told in
    (seated_was c.in-Ok-copy.seated old new a stands.0 stands.1 c.reserve.new.self stands.2 c.reserve.ensures.rows c.seat.ensures.seats c.requires.ready.late).content

pub returns-in-Err-clause-kept : goal.returns-in-Err-clause-kept
returns-in-Err-clause-kept g c told err unspoilt =
    let old = c.args.store.now in
    let new : LogStore = record old { parts = c.seat.new.self; latest = c.args.moment } in
    let a = g.H.Host.state c.args.host.now in
    let stands = c.requires.stands told in
    still_keeps old new a a c.args.moment stands.0 stands.1 stands.2 c.requires.ready.unspoilt c.requires.ready.late refl (seated_was c.in-Ok-copy.seated old new a stands.0 stands.1 c.reserve.new.self stands.2 c.reserve.ensures.rows c.seat.ensures.seats c.requires.ready.late) (Stands-same a)

-- where the record was written

-- each record of a change is a proper one
abbrev any_record : Kept → Item → Type 0
any_record kept item = Unit {0}

entered : (g : given.Over) (c : goal.After-note g) → Entered (key_of c.args.change.now) c.in-Ok-put_change.place c.is_gone.result any_record c.args.store.now (record c.args.store.now { parts = c.note.new.self; latest = c.args.moment })
entered g c =
    let old = c.args.store.now in
    let change = c.args.change.now in
    let place = c.in-Ok-put_change.place in
    let new : LogStore = record old { parts = c.note.new.self; latest = c.args.moment } in
    let named : c.in-Ok.key ≡ key_of change = c.in-Ok.ensures.equal ∙ c.key_of.ensures in
    let seated : c.in-Ok-copy.seated ≡ key_of change = c.in-Ok-copy.ensures.equal ∙ c.key_of-2.ensures in
    let figures : Figures = c.count_written.new.stats in
    let notes = subst (λ (k : List ℕ). Notes k place c.is_gone.result (record c.seat.new.self { log = c.put_change.new.self; stats = figures }) new.parts) named c.note.ensures.notes in
    record {
      reserved = c.reserve.new.self;
      rows = c.reserve.ensures.rows;
      room = c.in-Ok-reserve.ensures.room;
      seated = c.seat.new.self;
      log = c.put_change.new.self;
      figures = figures;
      seats = subst (λ (k : List ℕ). Seats k (record old.parts { stats = c.reserve.new.self }) c.seat.new.self) seated c.seat.ensures.seats;
      counts = subst (λ (f : Figures). CountsWritten (tail_of (files_of old.parts.log)) (tail_of (files_of c.put_change.new.self)) f figures) c.seat.ensures.seats.stats
          (subst (λ (l : Log). CountsWritten (tail_of (files_of l)) (tail_of (files_of c.put_change.new.self)) c.seat.new.self.stats figures) c.seat.ensures.seats.log
          (subst (λ t. CountsWritten t (tail_of (files_of c.put_change.new.self)) c.seat.new.self.stats figures) c.tail-before.ensures
          (subst (λ t. CountsWritten c.tail-before.result t c.seat.new.self.stats figures) c.tail.ensures c.count_written.ensures)));
      noted = record { tree = notes.tree; stats = notes.stats; log = notes.log; spoilt = notes.spoilt; limit = notes.limit; queued = notes.queued };
      usable = notes.usable;
      indexed = λ kept more item is proper adds place_is. notes.indexed kept more item is adds place_is;
      latest = c.requires.ready.late;
    }

goes : (g : given.Over) (c : goal.After-note g) → Goes (files_of c.args.store.now.parts.log) (files_of c.note.new.self.log) (Ok c.in-Ok-put_change.place)
goes g c =
    let result : Result Place StoreFault = Ok c.in-Ok-put_change.place in
    subst (λ (l : Log). Goes (files_of c.args.store.now.parts.log) (files_of l) result) (sym c.note.ensures.notes.log)
    (subst (λ (l : Log). Goes (files_of l) (files_of c.put_change.new.self) result) c.seat.ensures.seats.log c.in-Ok-put_change.ensures.goes)

put_is : (g : given.Over) (c : goal.After-note g) → IsPut c.args.change.now c.args.moment (files_of c.args.store.now.parts.log) (files_of c.note.new.self.log) c.in-Ok-put_change.place
put_is g c =
    let change = c.args.change.now in
    subst (λ (l : Log). IsPut change c.args.moment (files_of c.args.store.now.parts.log) (files_of l) c.in-Ok-put_change.place) (sym c.note.ensures.notes.log)
    (subst (λ (l : Log). IsPut change c.args.moment (files_of l) (files_of c.put_change.new.self) c.in-Ok-put_change.place) c.seat.ensures.seats.log c.in-Ok-put_change.ensures.put)

puts_is : (g : given.Over) (c : goal.After-note g) → IsTrue g.H.Host.tells → (held : Held) → Stands (record c.args.store.now.parts.log.files { store = 0 }) (g.H.Host.state c.args.host.now) held
    → PutsBy (closes c.args.store.now c.args.change.now) (item_by (next_of c.args.store.now) c.args.change.now) c.args.moment held (record c.args.store.now.parts.log.files { store = 0 }) (files_of c.note.new.self.log) (g.H.Host.state c.args.host.now) (g.H.Host.state c.put_change.new.host) (Ok c.in-Ok-put_change.place)
puts_is g c told held stands =
    let old = c.args.store.now in
    let change = c.args.change.now in
    let F = old.parts.log.files in
    let a = g.H.Host.state c.args.host.now in
    let b = g.H.Host.state c.put_change.new.host in
    let result : Result Place StoreFault = Ok c.in-Ok-put_change.place in
    let main = c.requires.ready.usable.main in
    subst (λ (s : ℕ). PutsBy (closes old change) (item_by F.next change) c.args.moment held (record F { store = s }) (files_of c.note.new.self.log) a b result) main
    (subst (λ (l : Log). Puts change c.args.moment held F (files_of l) a b result) (sym c.note.ensures.notes.log)
    (subst (λ (l : Log). (h : Held) → Stands (files_of l) a h → Puts change c.args.moment h (files_of l) (files_of c.put_change.new.self) a b result) c.seat.ensures.seats.log (c.in-Ok-put_change.ensures.told told) held
    (from_main F a held main stands)))

pub returns-in-Ok-put_change-clause-plain : goal.returns-in-Ok-put_change-clause-plain
returns-in-Ok-put_change-clause-plain g c =
    let old = c.args.store.now in
    let new : LogStore = record old { parts = c.note.new.self; latest = c.args.moment } in
    entered_plain (key_of c.args.change.now) c.in-Ok-put_change.place c.is_gone.result any_record old new c.args.moment (entered g c) (goes g c) (put_is g c).tail c.requires.ready.usable c.requires.ready.unspoilt refl refl

pub returns-in-Ok-put_change-clause-queued : goal.returns-in-Ok-put_change-clause-queued
returns-in-Ok-put_change-clause-queued g c =
    let old = c.args.store.now in
    let new : LogStore = record old { parts = c.note.new.self; latest = c.args.moment } in
    entered_rows (key_of c.args.change.now) c.in-Ok-put_change.place c.is_gone.result any_record old new c.args.moment (entered g c) (goes g c) (put_is g c).tail c.requires.ready.usable c.requires.room

pub returns-in-Ok-put_change-clause-wrote : goal.returns-in-Ok-put_change-clause-wrote
returns-in-Ok-put_change-clause-wrote g c told frames records stands =
    let old = c.args.store.now in
    let new : LogStore = record old { parts = c.note.new.self; latest = c.args.moment } in
    let change = c.args.change.now in
    let place = c.in-Ok-put_change.place in
    let a = g.H.Host.state c.args.host.now in
    let b = g.H.Host.state c.put_change.new.host in
    let over = closes old change in
    let usable = c.requires.ready.usable in
    let puts = puts_is g c told (record { closed = stands.log.0; frames = frames; records = records }) stands.log.1 in
    let put = put_is g c in
    let file = number_after old new over (next_of old + 1) (record_size old.parts.log.files change) c.args.moment place refl put in
    let main = (goes g c).store ∙ usable.main in
    let one : Item = item_by (next_of old) change in
    let fs : List Frame = if over then [] else frames in
    let rs : List Item = if over then [] else records in
    let same = put_records over c.args.moment one old new a b frames records place stands main file puts in
    let at = next_at over frames records place puts.at in
    let is_in = entered g c in
    let indexed =
    entered_indexed (key_of change) place c.is_gone.result any_record old new c.args.moment is_in (goes g c) put.tail usable one a b frames records over stands
    (record { long = put.length_is; gone_is = c.is_gone.ensures (next_of old) }) (item_key (next_of old) change) tt same
    (change_newer (Holds (number new) (placed_of fs rs) b.files) (number new) (next_place fs rs) (next_of old) change (above_after old a frames records (Holds (number new) (placed_of fs rs) b.files) stands same)) at
    in
    let log = (goes g c).usable (goes g c).ok in
    let counted =
    record_counted over one (record_size old.parts.log.files change) c.args.moment old new a b frames records place is_in.reserved stands refl usable.log log main put.tail file puts is_in.rows is_in.room
    (entered_tree (key_of change) place c.is_gone.result any_record old new c.args.moment is_in (goes g c) put.tail usable) (entered_counts (key_of change) place c.is_gone.result any_record old new c.args.moment is_in (goes g c) put.tail usable)
    in
    put_in over change c.args.moment old new a b frames records place stands refl c.requires.ready.late refl log main put.next_seq file puts indexed counted

pub returns-in-Ok-put_change-clause-content : goal.returns-in-Ok-put_change-clause-content
returns-in-Ok-put_change-clause-content g c told =
    let old = c.args.store.now in
    let new : LogStore = record old { parts = c.note.new.self; latest = c.args.moment } in
    let change = c.args.change.now in
    let place = c.in-Ok-put_change.place in
    let a = g.H.Host.state c.args.host.now in
    let b = g.H.Host.state c.put_change.new.host in
    let over = closes old change in
    let stands = c.requires.stands told in
    let puts = puts_is g c told (record { closed = stands.2.log.0; frames = stands.0; records = stands.1 }) stands.2.log.1 in
    let same = put_records over c.args.moment (item_by (next_of old) change) old new a b stands.0 stands.1 place stands.2 ((goes g c).store ∙ c.requires.ready.usable.main) (number_after old new over (next_of old + 1) (record_size old.parts.log.files change) c.args.moment place refl (put_is g c)) puts in
    let now = returns-in-Ok-put_change-clause-wrote g c told stands.0 stands.1 stands.2 in
    put_content old new a b stands.0 (if over then [] else stands.0) stands.1 (if over then [] else stands.1) change stands.2 now.holds same

pub returns-in-Ok-put_change-clause-told : goal.returns-in-Ok-put_change-clause-told
returns-in-Ok-put_change-clause-told g c told =
    let old = c.args.store.now in
    let new : LogStore = record old { parts = c.note.new.self; latest = c.args.moment } in
    let a = g.H.Host.state c.args.host.now in
    let b = g.H.Host.state c.put_change.new.host in
    let change = c.args.change.now in
    let stands = c.requires.stands told in
    let over = closes old change in
    let puts = puts_is g c told (record { closed = stands.2.log.0; frames = stands.0; records = stands.1 }) stands.2.log.1 in
    let counts = CountsIf over stands.0 (closed_frames (waiting old) stands.0 stands.1 c.args.moment) in
    let content = returns-in-Ok-put_change-clause-content g c told in
    let now = returns-in-Ok-put_change-clause-wrote g c told stands.0 stands.1 stands.2 in
    call_acts old new a b stands.0 stands.1 c.args.moment (changed change (content_of old a.files)) _ stands.2 puts.images (since_put over old a stands.0 stands.1 c.args.moment stands.2) c.requires.ready.unspoilt c.requires.ready.late refl (λ unspoilt. inl content)
    {R = Unit {0}} (Ok tt) (put_leaves over old a b counts puts.files puts.images) puts.silent (λ unspoilt. (_, _, now.holds)) (λ d err. cc) (λ s err. cc) (λ err. cc)

-- where the log refused it

goes_refused : (g : given.Over) (c : goal.After-drop-key-inside-in-Err-put_change g) → Goes {R = Place} (files_of c.args.store.now.parts.log) (files_of c.unseat.new.self.log) (Err c.in-Err-put_change.fault)
goes_refused g c =
    let result : Result Place StoreFault = Err c.in-Err-put_change.fault in
    subst (λ (l : Log). Goes (files_of c.args.store.now.parts.log) (files_of l) result) (sym c.unseat.ensures.seats.log)
    (subst (λ (l : Log). Goes (files_of l) (files_of c.put_change.new.self) result) c.seat.ensures.seats.log c.in-Err-put_change.ensures.goes)

puts_refused : (g : given.Over) (c : goal.After-drop-key-inside-in-Err-put_change g) → IsTrue g.H.Host.tells → (held : Held) → Stands (record c.args.store.now.parts.log.files { store = 0 }) (g.H.Host.state c.args.host.now) held
    → PutsBy (closes c.args.store.now c.args.change.now) (item_by (next_of c.args.store.now) c.args.change.now) c.args.moment held (record c.args.store.now.parts.log.files { store = 0 }) (files_of c.unseat.new.self.log) (g.H.Host.state c.args.host.now) (g.H.Host.state c.put_change.new.host) (Err c.in-Err-put_change.fault)
puts_refused g c told held stands =
    let old = c.args.store.now in
    let change = c.args.change.now in
    let F = old.parts.log.files in
    let a = g.H.Host.state c.args.host.now in
    let b = g.H.Host.state c.put_change.new.host in
    let result : Result Place StoreFault = Err c.in-Err-put_change.fault in
    let main = c.requires.ready.usable.main in
    subst (λ (s : ℕ). PutsBy (closes old change) (item_by F.next change) c.args.moment held (record F { store = s }) (files_of c.unseat.new.self.log) a b result) main
    (subst (λ (l : Log). Puts change c.args.moment held F (files_of l) a b result) (sym c.unseat.ensures.seats.log)
    (subst (λ (l : Log). (h : Held) → Stands (files_of l) a h → Puts change c.args.moment h (files_of l) (files_of c.put_change.new.self) a b result) c.seat.ensures.seats.log (c.in-Err-put_change.ensures.told told) held
    (from_main F a held main stands)))

refused_was : (g : given.Over) (c : goal.After-drop-key-inside-in-Err-put_change g) → IsTrue g.H.Host.tells → c.is_spoilt-store.result ≡ false
    → IsAsWas c.args.store.now (record c.args.store.now { parts = record c.unseat.new.self { spoilt = c.is_spoilt-store.result }; latest = c.args.moment }) (g.H.Host.state c.args.host.now).files (g.H.Host.state c.put_change.new.host).files
refused_was g c told unspoilt =
    let old = c.args.store.now in
    let new : LogStore = record old { parts = record c.unseat.new.self { spoilt = c.is_spoilt-store.result }; latest = c.args.moment } in
    let a = g.H.Host.state c.args.host.now in
    let b = g.H.Host.state c.put_change.new.host in
    let stands = c.requires.stands told in
    let sound = sym c.is_spoilt-store.ensures ∙ unspoilt in
    let logged : Parts = record c.seat.new.self { log = c.put_change.new.self } in
    was_by old new a b stands.0 stands.1 stands.2 ((goes_refused g c).refused sound).1
    (λ kept is. seats_indexed c.in-Ok.key logged c.unseat.new.self (counts_in kept) c.unseat.ensures.seats (seats_indexed c.in-Ok-copy.seated (record old.parts { stats = c.reserve.new.self }) c.seat.new.self (counts_in kept) c.seat.ensures.seats is))
    (parts_counted old.parts new.parts (ap (λ (f : Figures). f.rows) (c.unseat.ensures.seats.stats ∙ c.seat.ensures.seats.stats) ∙ c.reserve.ensures.rows) (c.unseat.ensures.seats.tree ∙ c.seat.ensures.seats.tree))
    ((puts_refused g c told (record { closed = stands.2.log.0; frames = stands.0; records = stands.1 }) stands.2.log.1).refused sound) c.requires.ready.late

refused_waits : (g : given.Over) (c : goal.After-drop-key-inside-in-Err-put_change g) → c.unseat.new.self.requests ≡ c.args.store.now.parts.requests
refused_waits g c = c.unseat.ensures.seats.requests ∙ c.seat.ensures.seats.requests

pub returns-in-Err-put_change-clause-told : goal.returns-in-Err-put_change-clause-told
returns-in-Err-put_change-clause-told g c told =
    let old = c.args.store.now in
    let new : LogStore = record old { parts = record c.unseat.new.self { spoilt = c.is_spoilt-store.result }; latest = c.args.moment } in
    let a = g.H.Host.state c.args.host.now in
    let b = g.H.Host.state c.put_change.new.host in
    let change = c.args.change.now in
    let stands = c.requires.stands told in
    let over = closes old change in
    let puts = puts_refused g c told (record { closed = stands.2.log.0; frames = stands.0; records = stands.1 }) stands.2.log.1 in
    let counts = CountsIf over stands.0 (closed_frames (waiting old) stands.0 stands.1 c.args.moment) in
    let spent = subst (λ (l : Log). IsSpentBy {R = Place} (append.spent_by (files_of l) change) (Err c.in-Err-put_change.fault)) c.seat.ensures.seats.log c.in-Err-put_change.ensures.spent in
    call_acts old new a b stands.0 stands.1 c.args.moment (changed change (content_of old a.files)) _ stands.2 puts.images (since_put over old a stands.0 stands.1 c.args.moment stands.2) c.requires.ready.unspoilt c.requires.ready.late refl
    (λ unspoilt. inr (refused_was g c told unspoilt).content)
    {R = Unit {0}} (Err c.in-Err-put_change.fault) (put_leaves over old a b counts puts.files puts.images) puts.silent
    (λ unspoilt. (stands.0, stands.1, still_stands old new a b stands.0 stands.1 stands.2 (refused_was g c told unspoilt) c.requires.ready.late (puts.refused (sym c.is_spoilt-store.ensures ∙ unspoilt))))
    (λ d err. absurd ((goes_refused g c).damaged d cc))
    (λ s err. spent_number old new change s (spent.only s cc) ((goes_refused g c).spent s cc))
    (λ err unspoilt. ((refused_was g c told unspoilt).content, inl (same_rows old new (refused_was g c told unspoilt).files (ap (λ (q : Queue). q.waiting) (refused_waits g c)))))

pub returns-in-Err-put_change-clause-unchanged : goal.returns-in-Err-put_change-clause-unchanged
returns-in-Err-put_change-clause-unchanged g c told err unspoilt = (refused_was g c told unspoilt).content

pub returns-in-Err-put_change-clause-kept : goal.returns-in-Err-put_change-clause-kept
returns-in-Err-put_change-clause-kept g c told err unspoilt =
    let old = c.args.store.now in
    let new : LogStore = record old { parts = record c.unseat.new.self { spoilt = c.is_spoilt-store.result }; latest = c.args.moment } in
    let a = g.H.Host.state c.args.host.now in
    let b = g.H.Host.state c.put_change.new.host in
    let stands = c.requires.stands told in
    let puts = puts_refused g c told (record { closed = stands.2.log.0; frames = stands.0; records = stands.1 }) stands.2.log.1 in
    still_keeps old new a b c.args.moment stands.0 stands.1 stands.2 c.requires.ready.unspoilt c.requires.ready.late refl (refused_was g c told unspoilt) (puts.refused (sym c.is_spoilt-store.ensures ∙ unspoilt))

-- what it held goes on

pub returns-in_default-clause-grows : goal.returns-in_default-clause-grows
returns-in_default-clause-grows g c told unspoilt frames records stands =
    let old = c.args.store.now in
    let new : LogStore = record old { latest = c.args.moment } in
    let a = g.H.Host.state c.args.host.now in
    grows_as_was old new a a (as_was old new a.files a.files refl (refl, refl, refl) refl (λ n. refl)) c.requires.ready.late (Stands-same a) frames records stands

pub returns-in_default-copy-clause-grows : goal.returns-in_default-copy-clause-grows
returns-in_default-copy-clause-grows g c told unspoilt frames records stands =
    let old = c.args.store.now in
    let new : LogStore = record old { latest = c.args.moment } in
    let a = g.H.Host.state c.args.host.now in
    grows_as_was old new a a (as_was old new a.files a.files refl (refl, refl, refl) refl (λ n. refl)) c.requires.ready.late (Stands-same a) frames records stands

pub returns-in_default-reserve-clause-grows : goal.returns-in_default-reserve-clause-grows
returns-in_default-reserve-clause-grows g c told unspoilt frames records stands =
    let old = c.args.store.now in
    let new : LogStore = record old { parts = record old.parts { stats = c.reserve.new.self }; latest = c.args.moment } in
    let a = g.H.Host.state c.args.host.now in
    grows_as_was old new a a (as_was old new a.files a.files refl (refl, refl, refl) c.reserve.ensures.rows (λ n. refl)) c.requires.ready.late (Stands-same a) frames records stands

pub returns-in-Err-clause-grows : goal.returns-in-Err-clause-grows
returns-in-Err-clause-grows g c told unspoilt frames records stands =
    let old = c.args.store.now in
    let new : LogStore = record old { parts = c.seat.new.self; latest = c.args.moment } in
    let a = g.H.Host.state c.args.host.now in
    grows_as_was old new a a (seated_was c.in-Ok-copy.seated old new a frames records c.reserve.new.self stands c.reserve.ensures.rows c.seat.ensures.seats c.requires.ready.late) c.requires.ready.late (Stands-same a) frames records stands

pub returns-in-Ok-put_change-clause-grows : goal.returns-in-Ok-put_change-clause-grows
returns-in-Ok-put_change-clause-grows g c told unspoilt frames records stands =
    let old = c.args.store.now in
    let new : LogStore = record old { parts = c.note.new.self; latest = c.args.moment } in
    let change = c.args.change.now in
    let place = c.in-Ok-put_change.place in
    let a = g.H.Host.state c.args.host.now in
    let b = g.H.Host.state c.put_change.new.host in
    let over = closes old change in
    let puts = puts_is g c told (record { closed = stands.log.0; frames = frames; records = records }) stands.log.1 in
    let file = number_after old new over (next_of old + 1) (record_size old.parts.log.files change) c.args.moment place refl (put_is g c) in
    let main = (goes g c).store ∙ c.requires.ready.usable.main in
    record {
      fs = if over then [] else frames;
      rs = (if over then [] else records) ++ item_by (next_of old) change ∷ [];
      holds = (returns-in-Ok-put_change-clause-wrote g c told frames records stands).holds;
      grows = record_grows over c.args.moment (item_by (next_of old) change) old new a b frames records place stands c.requires.ready.usable.log.some main file puts;
    }

pub returns-in-Err-put_change-clause-grows : goal.returns-in-Err-put_change-clause-grows
returns-in-Err-put_change-clause-grows g c told unspoilt frames records stands =
    let old = c.args.store.now in
    let new : LogStore = record old { parts = record c.unseat.new.self { spoilt = c.is_spoilt-store.result }; latest = c.args.moment } in
    let a = g.H.Host.state c.args.host.now in
    let b = g.H.Host.state c.put_change.new.host in
    let puts = puts_refused g c told (record { closed = stands.log.0; frames = frames; records = records }) stands.log.1 in
    grows_as_was old new a b (refused_was g c told unspoilt) c.requires.ready.late (puts.refused (sym c.is_spoilt-store.ensures ∙ unspoilt)) frames records stands
