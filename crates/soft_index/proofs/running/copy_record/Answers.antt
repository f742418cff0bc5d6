use Rattle.std.proofs.Common.{◌≡◌, ◌++◌, ◌∙◌, Err, List, Ok, ap, refl, ℕ}
use Rattle.cache_model.specs.declared.files.Place.{Place}
use Rattle.cache_model.specs.Items.{Item, spelling}
use Rattle.record_format.specs.Meaning.{own_item}
use Rattle.append_log.specs.Current as append
use Rattle.soft_index.specs.declared.log_store.LogStore.{LogStore}
use Rattle.soft_index.specs.Store.{content_of, log_facts, number}
use Rattle.soft_index.proofs.Chaining.{acts_or, plain_err, plain_ok}
use Rattle.soft_index.proofs.LookedAt.{looked_behind, looked_copied, looked_err, looked_failed, looked_memory, looked_ok, newest_of}
use Rattle.soft_index.proofs.Turning.{plainly_then}
use Rattle.soft_index.proofs.running.copy_record.Goals as goal

pub returns-in_default-clause-told : goal.returns-in_default-clause-told
returns-in_default-clause-told g c told frames records stands closed newest =
    let old = c.args.store.now in
    let new : LogStore = record old { latest = c.args.moment } in
    looked_memory old new (g.H.Host.state c.args.host.now) frames records c.args.moment c.args.one.now.place.file c.args.one.now.place.at (own_item c.args.one.now.item) stands c.requires.ready.unspoilt c.requires.ready.late refl

pub returns-in_default-encode-clause-told : goal.returns-in_default-encode-clause-told
returns-in_default-encode-clause-told g c told frames records stands closed newest =
    let old = c.args.store.now in
    let new : LogStore = record old { latest = c.args.moment } in
    looked_memory old new (g.H.Host.state c.args.host.now) frames records c.args.moment c.args.one.now.place.file c.args.one.now.place.at (own_item c.args.one.now.item) stands c.requires.ready.unspoilt c.requires.ready.late refl

-- where no room was made
pub returns-in-Err-clause-told : goal.returns-in-Err-clause-told
returns-in-Err-clause-told g c told frames records stands closed newest =
    let old = c.args.store.now in
    let new = c.make_room.new.store in
    let a = g.H.Host.state c.args.host.now in
    let b = g.H.Host.state c.make_room.new.host in
    looked_failed {R = Unit {0}} old new a b frames records c.args.moment c.args.one.now.place.file c.args.one.now.place.at (own_item c.args.one.now.item) c.in-Err.fault
    (acts_or {R = Unit {0}} old new a b c.args.moment (Err c.in-Err.fault) (c.in-Err.ensures.told told (content_of old a.files)))

pub copy-requires-2-clause-stands : goal.copy-requires-2-clause-stands
copy-requires-2-clause-stands g c told =
    let stands = c.requires.stands told in
    (stands.0, stands.1, c.make_room.ensures.kept told c.in_default-make_room.ensures.plain.unspoilt stands.0 stands.1 stands.2)

pub returns-in-Ok-copy-clause-plain : goal.returns-in-Ok-copy-clause-plain
returns-in-Ok-copy-clause-plain g c =
    let f = log_facts c.args.store.now in
    let h = log_facts c.copy-2.new.store in
    plain_ok {T = Place} {U = Unit {0}} f h c.args.moment c.in-Ok-copy.field-0 tt
    (plainly_then {T = Unit {0}} {U = Place} f (log_facts c.make_room.new.store) h c.args.moment c.make_room.result (Ok c.in-Ok-copy.field-0) c.make_room.ensures.plain c.in-Ok-copy.ensures.plain)

pub returns-clause-plain : goal.returns-clause-plain
returns-clause-plain g c =
    let f = log_facts c.args.store.now in
    let h = log_facts c.copy-2.new.store in
    plain_err {T = Place} {U = Unit {0}} f h c.args.moment c.in-Err-copy.fault
    (plainly_then {T = Unit {0}} {U = Place} f (log_facts c.make_room.new.store) h c.args.moment c.make_room.result (Err c.in-Err-copy.fault) c.make_room.ensures.plain c.in-Err-copy.ensures.plain)

pub returns-in-Ok-copy-clause-told : goal.returns-in-Ok-copy-clause-told
returns-in-Ok-copy-clause-told g c told frames records stands closed newest =
    let old = c.args.store.now in
    let mid = c.make_room.new.store in
    let new = c.copy-2.new.store in
    let a = g.H.Host.state c.args.host.now in
    let b = g.H.Host.state c.make_room.new.host in
    let d = g.H.Host.state c.copy-2.new.host in
    let item : Item = own_item c.args.one.now.item in
    let sound = c.in_default-make_room.ensures.plain.unspoilt in
    let ens = c.make_room.ensures in
    let spelled = c.deref.ensures.value ∙ c.in-Ok-encode.ensures.spelled ∙ ap (λ (l : List ℕ). l ++ spelling item) c.new-spelled.ensures.items in
    let is = newest_of old mid a b frames records c.args.key.now c.in-Ok.key c.args.one.now.place c.is_removal-gone.result c.deref.result.now item (ens.log sound) (ens.still told) (ens.kept told sound frames records stands) c.in-Ok.ensures.equal c.requires.item c.requires.of_key spelled c.is_removal-gone.ensures newest in
    let closed_there : c.args.one.now.place.file ≡ number mid → ⊥ = (λ here. closed (here ∙ ap append.number_of (ens.log sound))) in
    let copied = looked_copied {R = Place} mid new b d frames records c.args.moment c.args.one.now.place.file c.args.one.now.place.at item (Ok c.in-Ok-copy.field-0) is.newest.counted closed_there (c.in-Ok-copy.ensures.told told frames records item is) in
    looked_behind {Q = Unit {0}} {R = Unit {0}} old mid new a b d frames records c.args.moment c.args.one.now.place.file c.args.one.now.place.at item tt (Ok tt) ens.plain.same (ens.log sound) (ens.still told) is.stands (ens.content told sound)
    (c.in_default-make_room.ensures.told told (content_of old a.files))
    (looked_ok {Q = Place} {R = Unit {0}} mid new b d frames records c.args.moment c.args.one.now.place.file c.args.one.now.place.at item c.in-Ok-copy.field-0 tt copied)

pub returns-clause-told : goal.returns-clause-told
returns-clause-told g c told frames records stands closed newest =
    let old = c.args.store.now in
    let mid = c.make_room.new.store in
    let new = c.copy-2.new.store in
    let a = g.H.Host.state c.args.host.now in
    let b = g.H.Host.state c.make_room.new.host in
    let d = g.H.Host.state c.copy-2.new.host in
    let item : Item = own_item c.args.one.now.item in
    let sound = c.in_default-make_room.ensures.plain.unspoilt in
    let ens = c.make_room.ensures in
    let spelled = c.deref.ensures.value ∙ c.in-Ok-encode.ensures.spelled ∙ ap (λ (l : List ℕ). l ++ spelling item) c.new-spelled.ensures.items in
    let is = newest_of old mid a b frames records c.args.key.now c.in-Ok.key c.args.one.now.place c.is_removal-gone.result c.deref.result.now item (ens.log sound) (ens.still told) (ens.kept told sound frames records stands) c.in-Ok.ensures.equal c.requires.item c.requires.of_key spelled c.is_removal-gone.ensures newest in
    let closed_there : c.args.one.now.place.file ≡ number mid → ⊥ = (λ here. closed (here ∙ ap append.number_of (ens.log sound))) in
    let copied = looked_copied {R = Place} mid new b d frames records c.args.moment c.args.one.now.place.file c.args.one.now.place.at item (Err c.in-Err-copy.fault) is.newest.counted closed_there (c.in-Err-copy.ensures.told told frames records item is) in
    looked_behind {Q = Unit {0}} {R = Unit {0}} old mid new a b d frames records c.args.moment c.args.one.now.place.file c.args.one.now.place.at item tt (Err c.in-Err-copy.fault) ens.plain.same (ens.log sound) (ens.still told) is.stands (ens.content told sound)
    (c.in_default-make_room.ensures.told told (content_of old a.files))
    (looked_err {Q = Place} {R = Unit {0}} mid new b d frames records c.args.moment c.args.one.now.place.file c.args.one.now.place.at item c.in-Err-copy.fault copied)
