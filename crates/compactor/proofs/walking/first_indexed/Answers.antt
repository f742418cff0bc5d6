use Rattle.std.proofs.Common.{◌≡◌, Bor, List, ℕ, Option, sym, ◌∙◌, ap, subst}
use Rattle.std.specs.Prelude.{option_map}
use Rattle.cache_model.specs.Hash.{hash}
use Rattle.tree_index.specs.Index.{Index}
use Rattle.compactor.proofs.NextEntry.{SeeksBeyond, SeeksBehind, seeks_beside, beside_fails, seeks_behind}
use Rattle.compactor.proofs.walking.first_indexed.Goals as goal

abbrev key_of : Option (Bor (List ℕ)) → Option (List ℕ)
key_of after = option_map (λ key. key.now) after

pub returns-in-Ok-Some-clause-seeks : goal.returns-in-Ok-Some-clause-seeks
returns-in-Ok-Some-clause-seeks g c told hashed =
    let tree = c.args.tree.now in
    let is : c.hash-hash.result ≡ hash tree.bits c.in-Some.after.now = c.hash-hash.ensures.hash ∙ ap (λ (b : ℕ). hash b c.in-Some.after.now) c.hash_bits.ensures in
    seeks_beside tree.bits tree.entries c.in-Some.after.now (key_of c.args.after) (ap key_of c.in-Some.is) (g.H.Host.state c.args.host.now).files c.requires.ordered hashed c.hash-hash.result is c.in-Ok-Some.item
    (rw c.in-Ok-Some.field-0-is at (c.in-Ok-Some.ensures.seeks told))

pub returns-in-Ok-None-clause-seeks : goal.returns-in-Ok-None-clause-seeks
returns-in-Ok-None-clause-seeks g c told hashed =
    let tree = c.args.tree.now in
    let now = (g.H.Host.state c.first_beside.new.host).files in
    let is : c.hash-hash.result ≡ hash tree.bits c.in-Some.after.now = c.hash-hash.ensures.hash ∙ ap (λ (b : ℕ). hash b c.in-Some.after.now) c.hash_bits.ensures in
    seeks_behind tree.bits tree.entries c.in-Some.after.now (key_of c.args.after) (ap key_of c.in-Some.is) (g.H.Host.state c.args.host.now).files c.requires.ordered hashed c.hash-hash.result is now c.first_beyond.result
    (c.in-Ok-None.ensures.stands told).files (rw c.in-Ok-None.field-0-is at (c.in-Ok-None.ensures.seeks told))
    (subst (λ (i : Index). SeeksBeyond i.bits i.entries now c.hash-hash.result c.first_beyond.result) c.in-Ok-None.ensures.tree (c.first_beyond.ensures.seeks told))

pub returns-in-Err-clause-seeks : goal.returns-in-Err-clause-seeks
returns-in-Err-clause-seeks g c told hashed =
    let tree = c.args.tree.now in
    let is : c.hash-hash.result ≡ hash tree.bits c.in-Some.after.now = c.hash-hash.ensures.hash ∙ ap (λ (b : ℕ). hash b c.in-Some.after.now) c.hash_bits.ensures in
    beside_fails tree.bits tree.entries c.in-Some.after.now (key_of c.args.after) (ap key_of c.in-Some.is) (g.H.Host.state c.args.host.now).files c.requires.ordered hashed c.hash-hash.result is c.in-Err.fault (c.in-Err.ensures.seeks told)

pub returns-in-None-clause-seeks : goal.returns-in-None-clause-seeks
returns-in-None-clause-seeks g c told hashed =
    subst (λ (key : Option (List ℕ)). SeeksBehind c.args.tree.now.bits c.args.tree.now.entries key (g.H.Host.state c.args.host.now).files c.first_beyond-in-None.result) (sym (ap key_of c.in-None.is)) (c.first_beyond-in-None.ensures.seeks told hashed)
