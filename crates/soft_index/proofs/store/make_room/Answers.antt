use Rattle.std.proofs.Common.{◌≡◌, ◌≤◌, inl, Ok, Err, refl, arith, ℕ, length}
use Rattle.cache_model.specs.declared.replies.Turned.{Turned}
use Rattle.cache_disk.proofs.Runs.{Stands-same}
use Rattle.soft_index.specs.declared.log_store.LogStore.{LogStore}
use Rattle.soft_index.specs.Store.{log_facts, log_means}
use Rattle.soft_index.proofs.Changes.{as_was, same_rows, still_acts, still_stands}
use Rattle.soft_index.proofs.Indexing.{acts_alike, fault_alike, indexed_content, popped_room, room_rows}
use Rattle.soft_index.proofs.store.make_room.Goals as goal

pub returns-then-not-is_full-clause-kept : goal.returns-then-not-is_full-clause-kept
returns-then-not-is_full-clause-kept g c told unspoilt frames records stands =
    let old = c.args.store.now in
    let new : LogStore = record old { latest = c.args.moment } in
    let a = g.H.Host.state c.args.host.now in
    still_stands old new a a frames records stands (as_was old new a.files a.files refl (refl, refl, refl) refl (λ n. refl)) c.requires.ready.late (Stands-same a)

pub returns-then-not-is_full-clause-told : goal.returns-then-not-is_full-clause-told
returns-then-not-is_full-clause-told g c told wanted =
    let old = c.args.store.now in
    let new : LogStore = record old { latest = c.args.moment } in
    let a = g.H.Host.state c.args.host.now in
    let stands = c.requires.stands told in
    still_acts {R = Unit {0}} old new a a c.args.moment wanted stands.0 stands.1 (Ok tt) stands.2 c.requires.ready.unspoilt c.requires.ready.late refl (as_was old new a.files a.files refl (refl, refl, refl) refl (λ n. refl)) (Stands-same a)
    (λ d err. cc) (λ s err. cc) (λ err. cc)

full : (limit waiting : ℕ) → waiting ≤ limit → limit ≤ waiting → waiting ≡ limit
full limit waiting within most = omega (arith, within, most)

pub returns-in-Ok-clause-room : goal.returns-in-Ok-clause-room
returns-in-Ok-clause-room g c =
    let usable = c.requires.ready.usable in
    let limit : c.index.new.store.parts.requests.limit ≡ c.args.store.now.parts.requests.limit = c.index.ensures.limit in
    let room = popped_room c.in-Ok.field-0 c.args.store.now.parts.requests.limit c.args.store.now.parts.requests.waiting c.index.new.store.parts.requests.waiting usable.some usable.within (c.is_full.ensures.full.0 c.if-not-is_full.false) c.in-Ok.ensures.popped in
    omega (arith, room, limit)

pub returns-in-Ok-clause-rows : goal.returns-in-Ok-clause-rows
returns-in-Ok-clause-rows g c unspoilt =
    let usable = c.requires.ready.usable in
    let old = c.args.store.now in
    room_rows c.in-Ok.field-0 old c.index.new.store (c.index.ensures.log unspoilt) usable.some (full old.parts.requests.limit (length old.parts.requests.waiting) usable.within (c.is_full.ensures.full.0 c.if-not-is_full.false)) c.in-Ok.ensures.popped

pub returns-in-Ok-clause-told : goal.returns-in-Ok-clause-told
returns-in-Ok-clause-told g c told wanted =
    let old = c.args.store.now in
    let new = c.index.new.store in
    let a = g.H.Host.state c.args.host.now in
    let b = g.H.Host.state c.index.new.host in
    acts_alike {T = Turned} {U = Unit {0}} (log_facts old) (log_facts new) (log_means old a) (log_means new b) a b c.args.moment wanted (Ok c.in-Ok.field-0) (Ok tt) (λ e err. cc) (c.in-Ok.ensures.acts told wanted)

pub returns-in-Err-clause-rows : goal.returns-in-Err-clause-rows
returns-in-Err-clause-rows g c unspoilt =
    inl (same_rows c.args.store.now c.index.new.store (c.index.ensures.log unspoilt) (c.in-Err.ensures.waits unspoilt))

pub returns-in-Err-clause-told : goal.returns-in-Err-clause-told
returns-in-Err-clause-told g c told wanted =
    let old = c.args.store.now in
    let new = c.index.new.store in
    let a = g.H.Host.state c.args.host.now in
    let b = g.H.Host.state c.index.new.host in
    acts_alike {T = Turned} {U = Unit {0}} (log_facts old) (log_facts new) (log_means old a) (log_means new b) a b c.args.moment wanted (Err c.in-Err.fault) (Err c.in-Err.fault) (λ e err. fault_alike {T = Unit {0}} {U = Turned} c.in-Err.fault e err) (c.in-Err.ensures.acts told wanted)

pub returns-in-Ok-clause-content : goal.returns-in-Ok-clause-content
returns-in-Ok-clause-content g c told unspoilt =
    let old = c.args.store.now in
    let new = c.index.new.store in
    let a = g.H.Host.state c.args.host.now in
    let b = g.H.Host.state c.index.new.host in
    let stands = c.requires.stands told in
    indexed_content old new a b stands.0 stands.1 stands.2 (c.index.ensures.kept told unspoilt stands.0 stands.1 stands.2) (c.index.ensures.log unspoilt) (c.index.ensures.still told)

pub returns-in-Err-clause-content : goal.returns-in-Err-clause-content
returns-in-Err-clause-content g c told unspoilt =
    let old = c.args.store.now in
    let new = c.index.new.store in
    let a = g.H.Host.state c.args.host.now in
    let b = g.H.Host.state c.index.new.host in
    let stands = c.requires.stands told in
    indexed_content old new a b stands.0 stands.1 stands.2 (c.index.ensures.kept told unspoilt stands.0 stands.1 stands.2) (c.index.ensures.log unspoilt) (c.index.ensures.still told)
