-- The first leaf whose class is below a limit.
use Rattle.std.proofs.Common.{◌≡◌, ℕ, zero, suc, ◌+◌, ◌-◌, ◌*◌, ◌/◌, ◌%◌, ◌^◌, ◌<◌, ◌≤◌, List, length, get_or, drop, replicate, set, sym, ap, ◌∙◌, ⊎_elim, subst, arith, length-drop, length-set}
use Rattle.std.proofs.Math.Nat.{add-mul, mod-eq_of_lt, mul_assoc, mul_comm, pow-suc, le-mul_of_pos_right, mul-le-mul_right}
use Rattle.std.proofs.lemmas.Bool.{cases_lt}
use Rattle.std.proofs.lemmas.List.{drop-set-add, get_or-drop, get_or-replicate, get_or_default, length-replicate}
use Rattle.std.proofs.lemmas.Grind.{same_number_lists}
use Rattle.std.proofs.lemmas.Nat.{pow-add, pow_below, pow_pos}
use Rattle.file_stats.specs.Classes.{IsFirst, IsSettledFrom, IsTree, SameLeaves}

-- where the leaves below the two children of a node begin and end, of which each child has p
pub record AreHalves (node p : ℕ) : Type 0 where
  pub low : 2 * node * p ≡ node * (p * 2)
  pub middle : (2 * node + 1) * p ≡ node * (p * 2) + p
  pub high : (2 * node + 1 + 1) * p ≡ (node + 1) * (p * 2)
  pub sum : (node + 1) * (p * 2) ≡ node * (p * 2) + p + p
  pub count : 2 * node + 2 ≤ (node + 1) * (p * 2)

halves : (node p : ℕ) → 1 ≤ p → AreHalves node p
halves node p some =
    let one = mul_assoc node p 2 in
    let two = mul_assoc 2 node p in
    let three = add-mul (2 * node) 1 p in
    let four = add-mul (2 * node + 1) 1 p in
    let five = add-mul node 1 (p * 2) in
    let six : node ≤ node * p = le-mul_of_pos_right node some in
    record {
      low = omega (arith, one, two);
      middle = omega (arith, one, two, three);
      high = omega (arith, one, two, three, four, five);
      sum = omega (arith, five);
      count = omega (arith, one, five, six);
    }

-- a node has no greater class than each leaf so many levels below it
pub least-under : (nodes : List ℕ) → IsSettledFrom 1 nodes → (levels node : ℕ) → 1 ≤ node → (node + 1) * 2 ^ levels ≤ length nodes → (k : ℕ) → node * 2 ^ levels ≤ k → k < (node + 1) * 2 ^ levels → get_or nodes node 0 ≤ get_or nodes k 0
least-under nodes settled zero node some within k low high =
    let same : node ≡ k = omega (arith, low, high) in
    subst (λ (n : ℕ). get_or nodes node 0 ≤ get_or nodes n 0) same (omega arith)
least-under nodes settled (suc levels) node some within k low high =
    let twice : 2 ^ suc levels ≡ 2 ^ levels * 2 = pow-suc 2 levels in
    let are = halves node (2 ^ levels) (pow_pos levels) in
    let within' : (node + 1) * (2 ^ levels * 2) ≤ length nodes = rw twice at within in
    let low' : node * (2 ^ levels * 2) ≤ k = rw twice at low in
    let high' : k < (node + 1) * (2 ^ levels * 2) = rw twice at high in
    let lesser = settled node some (omega (arith, are.count, within')) in
    ⊎_elim
    (λ left. let deeper = least-under nodes settled levels (2 * node) (omega arith) (omega (arith, are.middle, are.sum, within')) k (omega (arith, are.low, low')) left in omega (arith, lesser, deeper))
    (λ right. let deeper = least-under nodes settled levels (2 * node + 1) (omega arith) (omega (arith, are.high, within')) k right (omega (arith, are.high, high')) in omega (arith, lesser, deeper))
    (cases_lt k ((2 * node + 1) * 2 ^ levels))

-- The way down has come to a node below the limit, and each leaf from the start on before those below it isn't.
pub record IsWay (nodes : List ℕ) (limit from to levels at : ℕ) : Type 0 where
  pub some : 1 ≤ at
  pub low : from ≤ at * 2 ^ levels
  pub high : (at + 1) * 2 ^ levels ≤ to
  pub below : get_or nodes at 0 < limit
  pub passed : (k : ℕ) → from ≤ k → k < at * 2 ^ levels → limit ≤ get_or nodes k 0

way-within : (nodes : List ℕ) (limit from to levels at : ℕ) → IsWay nodes limit from to (levels + 1) at → to ≤ length nodes → 2 * at + 1 < length nodes
way-within nodes limit from to levels at way within =
    let are = halves at (2 ^ levels) (pow_pos levels) in
    let high : (at + 1) * (2 ^ levels * 2) ≤ to = rw (pow-add 2 levels 1) at way.high in
    omega (arith, are.count, high)

-- it goes on to the left child, where that is below the limit
way-left : (nodes : List ℕ) (limit from to levels at : ℕ) → IsWay nodes limit from to (levels + 1) at → get_or nodes (2 * at) 0 < limit → IsWay nodes limit from to levels (2 * at)
way-left nodes limit from to levels at way below =
    let twice : 2 ^ (levels + 1) ≡ 2 ^ levels * 2 = pow-add 2 levels 1 in
    let are = halves at (2 ^ levels) (pow_pos levels) in
    let low : from ≤ at * (2 ^ levels * 2) = rw twice at way.low in
    let high : (at + 1) * (2 ^ levels * 2) ≤ to = rw twice at way.high in
    record {
      some = omega (arith, way.some);
      low = omega (arith, are.low, low);
      high = omega (arith, are.middle, are.sum, high);
      below = below;
      passed = λ k over under. way.passed k over (rw twice (omega (arith, are.low, under)));
    }

-- else to the right child
way-right : (nodes : List ℕ) (limit from to levels at : ℕ) → IsSettledFrom 1 nodes → to ≤ length nodes → IsWay nodes limit from to (levels + 1) at → limit ≤ get_or nodes (2 * at) 0 → IsWay nodes limit from to levels (2 * at + 1)
way-right nodes limit from to levels at settled within way above =
    let twice : 2 ^ (levels + 1) ≡ 2 ^ levels * 2 = pow-add 2 levels 1 in
    let are = halves at (2 ^ levels) (pow_pos levels) in
    let low : from ≤ at * (2 ^ levels * 2) = rw twice at way.low in
    let high : (at + 1) * (2 ^ levels * 2) ≤ to = rw twice at way.high in
    let lesser = settled at way.some (way-within nodes limit from to levels at way within) in
    record {
      some = omega arith;
      low = omega (arith, are.middle, low);
      high = omega (arith, are.high, high);
      below = omega (arith, lesser, way.below, above);
      passed = λ k over under.
          ⊎_elim
          (λ before. way.passed k over before)
          (λ behind. let least = least-under nodes settled levels (2 * at) (omega (arith, way.some)) (omega (arith, are.middle, are.sum, high, within)) k (omega (arith, are.low, rw twice at behind)) under in omega (arith, least, above))
          (cases_lt k (at * 2 ^ (levels + 1)));
    }

-- where a step is left, one level more is below
pub way-more : (nodes : List ℕ) (limit from to levels step at : ℕ) → step < levels → IsWay nodes limit from to (levels - step) at → IsWay nodes limit from to (levels - (step + 1) + 1) at
way-more nodes limit from to levels step at left way =
    let one : levels - step ≡ levels - (step + 1) + 1 = omega arith in
    subst (λ (n : ℕ). IsWay nodes limit from to n at) one way

-- so it goes on to the one child or the other
pub way-on-left : (nodes : List ℕ) (limit from to levels step at next : ℕ) → step < levels → IsWay nodes limit from to (levels - step) at → next ≡ at * 2 → get_or nodes (at * 2) 0 < limit → IsWay nodes limit from to (levels - (step + 1)) next
way-on-left nodes limit from to levels step at next left way is below =
    let same : 2 * at ≡ next = omega (arith, is) in
    subst (λ (n : ℕ). IsWay nodes limit from to (levels - (step + 1)) n) same
    (way-left nodes limit from to (levels - (step + 1)) at (way-more nodes limit from to levels step at left way) (subst (λ (n : ℕ). get_or nodes n 0 < limit) (omega arith) below))

pub way-on-right : (nodes : List ℕ) (limit from to levels step at next : ℕ) → IsSettledFrom 1 nodes → to ≤ length nodes → step < levels → IsWay nodes limit from to (levels - step) at → next ≡ at * 2 + 1 → limit ≤ get_or nodes (at * 2) 0 → IsWay nodes limit from to (levels - (step + 1)) next
way-on-right nodes limit from to levels step at next settled within left way is above =
    let same : 2 * at + 1 ≡ next = omega (arith, is) in
    subst (λ (n : ℕ). IsWay nodes limit from to (levels - (step + 1)) n) same
    (way-right nodes limit from to (levels - (step + 1)) at settled within (way-more nodes limit from to levels step at left way) (subst (λ (n : ℕ). limit ≤ get_or nodes n 0) (omega arith) above))

pub child-within : (nodes : List ℕ) (limit from to levels step at : ℕ) → step < levels → IsWay nodes limit from to (levels - step) at → to ≤ length nodes → 2 * at + 1 < length nodes
child-within nodes limit from to levels step at left way = way-within nodes limit from to (levels - (step + 1)) at (way-more nodes limit from to levels step at left way)

-- and ends at the first leaf
pub way-end : (nodes : List ℕ) (limit from to levels step at : ℕ) → levels ≤ step → IsWay nodes limit from to (levels - step) at → IsFirst limit from to nodes at
way-end nodes limit from to levels step at done way =
    let none : levels - step ≡ 0 = omega arith in
    let way' = subst (λ (n : ℕ). IsWay nodes limit from to n at) none way in
    record {
      low = omega (arith, way'.low);
      high = omega (arith, way'.high);
      below = way.below;
      first = λ k over under. way'.passed k over (omega (arith, under));
    }

-- The way up from a leaf has come to a node, and each leaf behind the first one up to those below the node isn't below
-- the limit.
pub record IsClimb (nodes : List ℕ) (limit leaf left level at : ℕ) : Type 0 where
  pub some : 2 ^ left ≤ at
  pub high : at < 2 ^ (left + 1)
  pub within : at < length nodes
  pub over : leaf < (at + 1) * 2 ^ level
  pub passed : (k : ℕ) → leaf < k → k < (at + 1) * 2 ^ level → limit ≤ get_or nodes k 0

pub climb-start : (nodes : List ℕ) (limit leaf height : ℕ) → length nodes ≡ 2 ^ (height + 1) → 2 ^ height ≤ leaf → leaf < length nodes → IsClimb nodes limit leaf height 0 leaf
climb-start nodes limit leaf height count low high = record {
  some = low;
  high = omega (arith, count, high);
  within = high;
  over = omega arith;
  passed = λ k over under. absurd (omega (arith, over, under));
}

-- the neighbour of a left child has all its leaves in the tree
pub neighbour-within : (nodes : List ℕ) (limit leaf height left level at : ℕ) → length nodes ≡ 2 ^ (height + 1) → left + level ≡ height → IsClimb nodes limit leaf left level at → at % 2 ≡ 0 → (at + 1 + 1) * 2 ^ level ≤ length nodes
neighbour-within nodes limit leaf height left level at count levels climb even =
    let twice : 2 ^ (left + 1) ≡ 2 ^ left * 2 = pow-add 2 left 1 in
    let two : at + 1 + 1 ≤ 2 ^ (left + 1) = omega (arith, twice, climb.high, even) in
    let product : 2 ^ (left + 1 + level) ≡ 2 ^ (left + 1) * 2 ^ level = pow-add 2 (left + 1) level in
    let same : left + 1 + level ≡ height + 1 = omega arith in
    let all : length nodes ≡ 2 ^ (left + 1) * 2 ^ level = count ∙ ap (λ n. 2 ^ n) (sym same) ∙ product in
    rw all (mul-le-mul_right (2 ^ level) two)

-- the neighbour on the right is below the limit: the first leaf below it is the first behind the leaf
pub climb-found : (nodes : List ℕ) (limit leaf height left level at found : ℕ) → length nodes ≡ 2 ^ (height + 1) → left + level ≡ height → IsClimb nodes limit leaf left level at → at % 2 ≡ 0 → IsFirst limit ((at + 1) * 2 ^ level) ((at + 1 + 1) * 2 ^ level) nodes found → IsFirst limit (leaf + 1) (length nodes) nodes found
climb-found nodes limit leaf height left level at found count levels climb even is =
    let within = neighbour-within nodes limit leaf height left level at count levels climb even in
    record {
      low = omega (arith, climb.over, is.low);
      high = omega (arith, is.high, within);
      below = is.below;
      first = λ k over under. ⊎_elim (λ (before : k < (at + 1) * 2 ^ level). climb.passed k (omega arith) before) (λ (behind : (at + 1) * 2 ^ level ≤ k). is.first k behind under) (cases_lt k ((at + 1) * 2 ^ level));
    }

-- from a left child whose neighbour isn't below the limit the way goes on to the parent
climb-left : (nodes : List ℕ) (limit leaf height left level at : ℕ) → IsSettledFrom 1 nodes → length nodes ≡ 2 ^ (height + 1) → left + 1 + level ≡ height → at % 2 ≡ 0 → limit ≤ get_or nodes (at + 1) 0 → IsClimb nodes limit leaf (left + 1) level at → IsClimb nodes limit leaf left (level + 1) (at / 2)
climb-left nodes limit leaf height left level at settled count levels even above climb =
    let twice : 2 ^ (level + 1) ≡ 2 ^ level * 2 = pow-add 2 level 1 in
    let double : 2 ^ (left + 1) ≡ 2 ^ left * 2 = pow-add 2 left 1 in
    let fourfold : 2 ^ (left + 1 + 1) ≡ 2 ^ (left + 1) * 2 = pow-add 2 (left + 1) 1 in
    let are = halves (at / 2) (2 ^ level) (pow_pos level) in
    let node : at ≡ 2 * (at / 2) = omega (arith, even) in
    let one : (at + 1) * 2 ^ level ≡ (2 * (at / 2) + 1) * 2 ^ level = ap (λ n. (n + 1) * 2 ^ level) node in
    let two : (at + 1 + 1) * 2 ^ level ≡ (at / 2 + 1) * (2 ^ level * 2) = ap (λ n. (n + 1 + 1) * 2 ^ level) node ∙ are.high in
    let inside = neighbour-within nodes limit leaf height (left + 1) level at count levels climb even in
    record {
      some = omega (arith, double, climb.some);
      high = omega (arith, fourfold, climb.high);
      within = omega (arith, climb.within);
      over = rw twice (omega (arith, climb.over, one, are.middle, are.sum));
      passed = λ k over under.
          ⊎_elim
          (λ (before : k < (at + 1) * 2 ^ level). climb.passed k over before)
          (λ (behind : (at + 1) * 2 ^ level ≤ k).
          let under' : k < (at / 2 + 1) * (2 ^ level * 2) = rw twice at under in
          let least = least-under nodes settled level (at + 1) (omega arith) inside k behind (omega (arith, two, under')) in
          omega (arith, least, above))
          (cases_lt k ((at + 1) * 2 ^ level));
    }

-- and from a right child too
climb-right : (nodes : List ℕ) (limit leaf left level at : ℕ) → at % 2 ≡ 1 → IsClimb nodes limit leaf (left + 1) level at → IsClimb nodes limit leaf left (level + 1) (at / 2)
climb-right nodes limit leaf left level at odd climb =
    let twice : 2 ^ (level + 1) ≡ 2 ^ level * 2 = pow-add 2 level 1 in
    let double : 2 ^ (left + 1) ≡ 2 ^ left * 2 = pow-add 2 left 1 in
    let fourfold : 2 ^ (left + 1 + 1) ≡ 2 ^ (left + 1) * 2 = pow-add 2 (left + 1) 1 in
    let are = halves (at / 2) (2 ^ level) (pow_pos level) in
    let node : at + 1 ≡ 2 * (at / 2) + 1 + 1 = omega (arith, odd) in
    let one : (at + 1) * 2 ^ level ≡ (at / 2 + 1) * (2 ^ level * 2) = ap (λ n. n * 2 ^ level) node ∙ are.high in
    record {
      some = omega (arith, double, climb.some);
      high = omega (arith, fourfold, climb.high);
      within = omega (arith, climb.within);
      over = rw twice (omega (arith, climb.over, one));
      passed = λ k over under. let under' : k < (at / 2 + 1) * (2 ^ level * 2) = rw twice at under in climb.passed k over (omega (arith, one, under'));
    }

-- where the node is no left child whose neighbour is below the limit, the way goes on to the parent
pub climb-next : (nodes : List ℕ) (limit leaf height left level at : ℕ) → IsSettledFrom 1 nodes → length nodes ≡ 2 ^ (height + 1) → left + 1 + level ≡ height → ((at % 2 ≡ 0) × (get_or nodes (at + 1) 0 < limit) → ⊥) → IsClimb nodes limit leaf (left + 1) level at → IsClimb nodes limit leaf left (level + 1) (at / 2)
climb-next nodes limit leaf height left level at settled count levels not climb =
    ⊎_elim
    (λ (even : at % 2 < 1). climb-left nodes limit leaf height left level at settled count levels (omega arith)
    (⊎_elim (λ (below : get_or nodes (at + 1) 0 < limit). absurd (not (omega arith, below))) (λ above. above) (cases_lt (get_or nodes (at + 1) 0) limit)) climb)
    (λ (odd : 1 ≤ at % 2). climb-right nodes limit leaf left level at (omega arith) climb)
    (cases_lt (at % 2) 1)

-- at the root no leaf is left
pub climb-end : (nodes : List ℕ) (limit leaf height at : ℕ) → length nodes ≡ 2 ^ (height + 1) → IsClimb nodes limit leaf 0 height at → (k : ℕ) → leaf + 1 ≤ k → k < length nodes → limit ≤ get_or nodes k 0
climb-end nodes limit leaf height at count climb k over under =
    let root : at ≡ 1 = omega (arith, climb.some, climb.high) in
    let twice : 2 ^ (height + 1) ≡ 2 ^ height * 2 = pow-add 2 height 1 in
    let all : (at + 1) * 2 ^ height ≡ 2 * 2 ^ height = ap (λ n. (n + 1) * 2 ^ height) root in
    climb.passed k (omega arith) (omega (arith, all, twice, count, under))

-- a leaf of a tree as a place in the list of its leaves
pub leaf-first : (nodes : List ℕ) (half from limit leaf : ℕ) → half ≤ length nodes → IsFirst limit (half + from) (length nodes) nodes leaf → IsFirst limit from (length (drop half nodes)) (drop half nodes) (leaf - half)
leaf-first nodes half from limit leaf within is =
    let same : half + (leaf - half) ≡ leaf = omega (arith, is.low) in
    record {
      low = omega (arith, is.low);
      high = omega (arith, is.low, is.high, length-drop half nodes);
      below = rw (get_or-drop half nodes (leaf - half) 0, same) is.below;
      first = λ k over under. rw (get_or-drop half nodes k 0) (is.first (half + k) (omega arith) (omega arith));
    }

pub leaves-none : (nodes : List ℕ) (half from limit : ℕ) → ((k : ℕ) → half + from ≤ k → k < length nodes → limit ≤ get_or nodes k 0) → (k : ℕ) → from ≤ k → k < length (drop half nodes) → limit ≤ get_or (drop half nodes) k 0
leaves-none nodes half from limit none k over under = rw (get_or-drop half nodes k 0) (none (half + k) (omega arith) (omega (arith, length-drop half nodes)))

-- where the root isn't below the limit, no leaf is
pub root-none : (height : ℕ) (nodes : List ℕ) (limit root : ℕ) → IsTree height nodes → root ≡ get_or nodes 1 root → limit ≤ root → (k : ℕ) → 2 ^ height + 0 ≤ k → k < length nodes → limit ≤ get_or nodes k 0
root-none height nodes limit root tree is above k over under =
    let twice : 2 ^ (height + 1) ≡ 2 ^ height * 2 = pow-add 2 height 1 in
    let some = pow_pos height in
    let first = is ∙ get_or_default nodes 1 root 0 (omega (arith, tree.count, twice, some)) in
    let least = least-under nodes tree.settled height 1 (omega arith) (omega (arith, tree.count, twice)) k (omega arith) (omega (arith, tree.count, twice, under)) in
    omega (arith, least, first, above)

-- a leaf is written: one place in the list of the leaves
pub leaves-set : (height : ℕ) (nodes new : List ℕ) (leaf place class : ℕ) → IsTree height nodes → leaf ≡ 2 ^ height + place → length new ≡ length nodes → SameLeaves (set nodes leaf class) new → drop (2 ^ height) new ≡ set (drop (2 ^ height) nodes) place class
leaves-set height nodes new leaf place class tree is count same =
    same_number_lists (drop (2 ^ height) new) (drop (2 ^ height) (set nodes leaf class)) (length-drop (2 ^ height) new ∙ ap (λ n. n - 2 ^ height) (count ∙ sym (length-set nodes leaf class)) ∙ sym (length-drop (2 ^ height) (set nodes leaf class)))
    (λ k within. get_or-drop (2 ^ height) new k 0 ∙ same (2 ^ height + k) (upper k) ∙ sym (get_or-drop (2 ^ height) (set nodes leaf class) k 0))
    ∙ ap (λ n. drop (2 ^ height) (set nodes n class)) is ∙ drop-set-add (2 ^ height) nodes place class
  where
    upper : (k : ℕ) → length (set nodes leaf class) ≤ 2 * (2 ^ height + k)
    upper k = let twice : 2 ^ (height + 1) ≡ 2 ^ height * 2 = pow-add 2 height 1 in omega (arith, length-set nodes leaf class, tree.count, twice)

-- a tree of one number
pub tree-of : (height count class : ℕ) (nodes : List ℕ) → height < 60 → count ≡ 2 * 2 ^ height % 2 ^ 64 → nodes ≡ replicate count class → IsTree height nodes
tree-of height count class nodes low is same = record {
  count = all ∙ sym (pow-add 2 height 1 ∙ mul_comm (2 ^ height) 2);
  settled = λ i first within.
      let at : (k : ℕ) → k < length nodes → get_or nodes k 0 ≡ class = λ k inside. ap (λ (ns : List ℕ). get_or ns k 0) same ∙ get_or-replicate count k class 0 (omega (arith, inside, length-replicate count class, ap length same)) in
      omega (arith, at i (omega arith), at (2 * i) (omega arith), at (2 * i + 1) within);
}
  where
    all : length nodes ≡ 2 * 2 ^ height
    all =
        let most = pow_below height 60 low in
        ap length same ∙ length-replicate count class ∙ is ∙ mod-eq_of_lt (omega (arith, most))
