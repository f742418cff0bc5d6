use Rattle.std.proofs.Common.{◌≡◌, ◌≤◌, ◌-◌, ℕ, List, length, drop, sym, subst, arith}
use Rattle.cache_model.specs.Files.{bytes_in}
use Rattle.cache_model.specs.Items.{IsItem, whole, cut, bad, front}
use Rattle.cache_model.specs.declared.faults.BadKind.TheVariants.{Cut}
use Rattle.cache_model.proofs.Spelling.{whole-size, spelling-most}
use Rattle.cache_model.proofs.Grammar.{found_from-cut, found_from-bad}
use Rattle.record_format.specs.Meaning.{item_in}
use Rattle.data_file.specs.Windows.{shown_bytes}
use Rattle.data_file.proofs.Giving.{whole-found, damage-found}
use Rattle.data_file.proofs.scan.Scan.item.Goals as goal

pub give-requires-clause-sized : goal.give-requires-clause-sized
give-requires-clause-sized g c =
    let shown : List ℕ = shown_bytes c.fill.new.self in
    let is : whole (item_in shown c.in-Whole.item) (c.in-Whole.size - 0) ≡ front shown = subst (λ xs. whole (item_in xs c.in-Whole.item) (c.in-Whole.size - 0) ≡ front xs) c.bytes.ensures c.in-Whole.ensures.found in
    omega (arith, whole-size shown (item_in shown c.in-Whole.item) (c.in-Whole.size - 0) (sym is))

pub give-requires-clause-small : goal.give-requires-clause-small
give-requires-clause-small g c =
    let shown : List ℕ = shown_bytes c.fill.new.self in
    let is : whole (item_in shown c.in-Whole.item) (c.in-Whole.size - 0) ≡ front shown = subst (λ xs. whole (item_in xs c.in-Whole.item) (c.in-Whole.size - 0) ≡ front xs) c.bytes.ensures c.in-Whole.ensures.found in
    let limits : IsItem (item_in shown c.in-Whole.item) = subst (λ xs. IsItem (item_in xs c.in-Whole.item)) c.bytes.ensures c.in-Whole.ensures.limits in
    omega (arith, whole-size shown (item_in shown c.in-Whole.item) (c.in-Whole.size - 0) (sym is), spelling-most (item_in shown c.in-Whole.item) limits)

pub returns-in-Whole-clause-told : goal.returns-in-Whole-clause-told
returns-in-Whole-clause-told g c = λ tells.
    let file : List ℕ = bytes_in (g.H.Host.state c.args.host.now).files c.args.self.now.window.name in
    let shown : List ℕ = shown_bytes c.fill.new.self in
    let is : whole (item_in shown c.in-Whole.item) (c.in-Whole.size - 0) ≡ front shown = subst (λ xs. whole (item_in xs c.in-Whole.item) (c.in-Whole.size - 0) ≡ front xs) c.bytes.ensures c.in-Whole.ensures.found in
    let fits : c.in-Whole.size ≤ length shown = subst (λ xs. c.in-Whole.size ≤ length xs) c.bytes.ensures c.in-Whole.ensures.within.1 in
    whole-found c.args.self.now c.give.new.self c.fill.new.self file (item_in shown c.in-Whole.item) c.in-Whole.size c.give.result
    (c.requires.due tells) c.if-self-ge-PLACE_LIMIT.false c.in_ok-fill.ensures.at (c.in_ok-fill.ensures.shows tells) (c.in_ok-fill.ensures.full tells)
    is fits c.give.ensures.sized c.give.ensures.at c.give.ensures.shown c.give.ensures.placed c.give.ensures.given c.give.ensures.stage c.give.ensures.memory

pub returns-in-Cut-clause-told : goal.returns-in-Cut-clause-told
returns-in-Cut-clause-told g c = λ tells.
    let file : List ℕ = bytes_in (g.H.Host.state c.args.host.now).files c.args.self.now.window.name in
    let is : cut ≡ front (shown_bytes c.fill.new.self) = subst (λ xs. cut ≡ front xs) c.bytes.ensures c.in-Cut.ensures.found in
    damage-found c.args.self.now _ c.fill.new.self file cut Cut c.damage-in-Cut.result
    (c.requires.due tells) c.in_ok-fill.ensures.at c.in_ok-fill.ensures.named (c.in_ok-fill.ensures.shows tells) (c.in_ok-fill.ensures.full tells)
    is (λ stands. found_from-cut c.fill.new.self.at (drop c.fill.new.self.at file) (omega (arith, c.in_ok-fill.ensures.at)) stands) c.damage-in-Cut.ensures

pub returns-in-Bad-clause-told : goal.returns-in-Bad-clause-told
returns-in-Bad-clause-told g c = λ tells.
    let file : List ℕ = bytes_in (g.H.Host.state c.args.host.now).files c.args.self.now.window.name in
    let is : bad c.in-Bad.kind ≡ front (shown_bytes c.fill.new.self) = subst (λ xs. bad c.in-Bad.kind ≡ front xs) c.bytes.ensures c.in-Bad.ensures.found in
    damage-found c.args.self.now _ c.fill.new.self file (bad c.in-Bad.kind) c.in-Bad.kind c.damage-in-Bad.result
    (c.requires.due tells) c.in_ok-fill.ensures.at c.in_ok-fill.ensures.named (c.in_ok-fill.ensures.shows tells) (c.in_ok-fill.ensures.full tells)
    is (λ stands. found_from-bad c.fill.new.self.at (drop c.fill.new.self.at file) c.in-Bad.kind (omega (arith, c.in_ok-fill.ensures.at)) stands) c.damage-in-Bad.ensures
