use Rattle.std.proofs.Common.{◌≡◌, ℕ, ◌+◌, ◌∙◌, List, length, ap, sym, arith}
use Rattle.std.proofs.lemmas.List.{with_items_is}
use Rattle.data_file.specs.Windows.{shown_bytes}
use Rattle.data_file.proofs.Reading.{shows_read}
use Rattle.data_file.proofs.window.Window.read_on.Goals as goal

pub returns-in-Ok-clause-shows : goal.returns-in-Ok-clause-shows
returns-in-Ok-clause-shows g c = λ tells.
    let shows = c.requires.shows tells in
    let roomy = c.make_room.new.self in
    let given : c.deref.result.now ≡ c.read_into.new.buffer = c.deref.ensures.value ∙ with_items_is roomy.buffer c.read_into.new.buffer (c.read_into.auto.buffer ∙ c.deref_mut.ensures.len) in
    let known = ap (λ (xs : List ℕ). c.args.self.now.at + length xs) (c.bytes.ensures ∙ sym c.make_room.ensures.same) ∙ ap (λ n. n + length (shown_bytes roomy)) (sym c.make_room.ensures.at) in
    record {
      sized = c.make_room.ensures.sized ∙ shows.sized;
      shown =
          shows_read c.args.self.now.name roomy.name (g.H.Host.state c.args.host.now) (g.H.Host.state c.read_into.new.host)
          c.args.self.now.at roomy.at _ c.min-wanted.result c.in_ok-count.count roomy.forgotten
          _ roomy.bytes.items c.extend_from_slice.new.self.items c.deref_mut.result.now c.read_into.new.buffer c.deref.result.now
          c.make_room.ensures.named c.make_room.ensures.at shows.shown c.make_room.ensures.same (omega (arith, roomy.used)) known
          (c.in_ok-count.ensures.told tells) c.in_ok-count.ensures.within c.in-Ok.ensures.items given;
    }
