-- Runs of calls: what a run so far and one call more do together. Each lemma stands over plain states.
use Rattle.std.proofs.Common.{◌≡◌, ⊎_elim, ℕ, ◌<◌, ◌≤◌, List, Option, Some, None, Result, Ok, Err, IsSome, refl, sym, ◌∙◌, subst, arith}
use Rattle.std.proofs.Math.Nat.{eq-or-lt_of_le}
use Rattle.std.proofs.lemmas.Bool.{cases_lt}
use Rattle.cache_model.specs.declared.files.FileName.{FileName}
use Rattle.cache_model.specs.Files.{Image, file_in}
use Rattle.cache_disk.specs.declared.host.HostFault.{HostFault}
use Rattle.cache_disk.specs.State.{HostState, SameFiles, SameBut, GoesOn, Silent, Moves, Stands}
use Rattle.cache_disk.specs.Calls.{OnFile, AllLeft, HasFile, Said}

-- images

pub SameFiles-same : (a : Image) → SameFiles a a
SameFiles-same a name = refl

pub SameFiles-trans : (a b c : Image) → SameFiles a b → SameFiles b c → SameFiles a c
SameFiles-trans a b c ab bc name = bc name ∙ ab name

pub SameBut-same : (name : FileName) (a : Image) → SameBut name a a
SameBut-same name a other apart = refl

pub SameBut-trans : (name : FileName) (a b c : Image) → SameBut name a b → SameBut name b c → SameBut name a c
SameBut-trans name a b c ab bc other apart = bc other apart ∙ ab other apart

-- where no file differs, none but this one does
pub SameBut-files : (name : FileName) (a b : Image) → SameFiles a b → SameBut name a b
SameBut-files name a b ab other apart = ab other

-- an image that has the property already
pub OnFile-same : (name : FileName) (P : List ℕ → Type 0) (a : Image) → ((bytes : List ℕ) → file_in a name ≡ Some bytes → P bytes) → OnFile name P a a
OnFile-same name P a has = record { others = SameBut-same name a; stays = λ there. there; file = has }

-- an image that differs in no file from one that has the property
pub OnFile-files : (name : FileName) (P : List ℕ → Type 0) (a b : Image) → ((bytes : List ℕ) → file_in a name ≡ Some bytes → P bytes) → SameFiles a b → OnFile name P a b
OnFile-files name P a b has ab = record {
  others = SameBut-files name a b ab;
  stays = λ there. subst (λ (found : Option (List ℕ)). IsSome found) (sym (ab name)) there;
  file = λ bytes is. has bytes (sym (ab name) ∙ is);
}

-- what the later step says of the file stands
pub OnFile-trans : (name : FileName) (P Q : List ℕ → Type 0) (a b c : Image) → OnFile name P a b → OnFile name Q b c → OnFile name Q a c
OnFile-trans name P Q a b c ab bc = record {
  others = SameBut-trans name a b c ab.others bc.others;
  stays = λ there. bc.stays (ab.stays there);
  file = bc.file;
}

pub OnFile-weaker : (name : FileName) (P Q : List ℕ → Type 0) (a b : Image) → OnFile name P a b → ((bytes : List ℕ) → P bytes → Q bytes) → OnFile name Q a b
OnFile-weaker name P Q a b ab weaker = record { others = ab.others; stays = ab.stays; file = λ bytes is. weaker bytes (ab.file bytes is) }

-- states that stand

pub Stands-same : (a : HostState) → Stands a a
Stands-same a = record {
  turn = refl;
  files = SameFiles-same a.files;
  past = λ t c le left. left;
  kept = λ t c le left. left;
  said = λ t le. refl;
  put_out = λ t le. refl;
}

pub Stands-trans : (a b c : HostState) → Stands a b → Stands b c → Stands a c
Stands-trans a b c ab bc = record {
  turn = bc.turn ∙ ab.turn;
  files = SameFiles-trans a.files b.files c.files ab.files bc.files;
  past = λ t m le left. ab.past t m le (bc.past t m (omega (arith, ab.turn)) left);
  kept = λ t m le left. bc.kept t m (omega (arith, ab.turn)) (ab.kept t m le left);
  said = λ t le. bc.said t (omega (arith, ab.turn)) ∙ ab.said t le;
  put_out = λ t le. bc.put_out t (omega (arith, ab.turn)) ∙ ab.put_out t le;
}

-- a state that stands has moved by any step
pub Stands-moves : (a b : HostState) (R : Image → Image → Type 0) → Stands a b → Moves a b R
Stands-moves a b R stands = record {
  later = omega (arith, stands.turn);
  past = stands.past;
  kept = stands.kept;
  now = λ t c after before left. absurd (omega (arith, stands.turn, after, before));
}

pub Stands-silent : (a b : HostState) → Stands a b → Silent a b
Stands-silent a b stands = record { stays = stands.said; since = λ t after before. absurd (omega (arith, stands.turn, after, before)) }

pub Stands-left : (a b : HostState) (P : Image → Type 0) → Stands a b → AllLeft a P → AllLeft b P
Stands-left a b P stands all c left =
    let at : b.left a.turn c = subst (λ t. b.left t c) stands.turn left in
    all c (stands.past a.turn c (omega arith) at)

-- histories

pub GoesOn-same : {A : Type 0} (t : ℕ) (history : ℕ → A) (x : A) → GoesOn t t history history x
GoesOn-same t history x = record { stays = λ at le. refl; since = λ at after before. absurd (omega (arith, after, before)) }

pub GoesOn-trans : {A : Type 0} (from mid to : ℕ) (a b c : ℕ → A) (x : A) → from ≤ mid → mid ≤ to → GoesOn from mid a b x → GoesOn mid to b c x → GoesOn from to a c x
GoesOn-trans from mid to a b c x first second ab bc = record {
  stays = λ t le. bc.stays t (omega (arith, le, first)) ∙ ab.stays t le;
  since = λ t after before. ⊎_elim (λ later. bc.since t later before) (λ le. bc.stays t le ∙ ab.since t after le) (cases_lt mid t);
}

-- what a history is at the end
pub GoesOn-at : {A : Type 0} (from to : ℕ) (a b : ℕ → A) → from ≤ to → GoesOn from to a b (a from) → b to ≡ a from
GoesOn-at from to a b le ab = ⊎_elim (λ same. subst (λ t. b t ≡ a from) same (ab.stays from (omega arith))) (λ after. ab.since to after (omega arith)) (eq-or-lt_of_le le)

-- a history that stood still in each of two calls
pub GoesOn-still : {A : Type 0} (from mid to : ℕ) (a b c : ℕ → A) → from ≤ mid → mid ≤ to → GoesOn from mid a b (a from) → GoesOn mid to b c (b mid) → GoesOn from to a c (a from)
GoesOn-still from mid to a b c first second ab bc =
    GoesOn-trans from mid to a b c (a from) first second ab (subst (λ x. GoesOn mid to b c x) (GoesOn-at from mid a b first ab) bc)

pub Silent-same : (a : HostState) → Silent a a
Silent-same a = GoesOn-same a.turn a.said (a.said a.turn)

pub Silent-trans : (a b c : HostState) → a.turn ≤ b.turn → b.turn ≤ c.turn → Silent a b → Silent b c → Silent a c
Silent-trans a b c first second ab bc = GoesOn-still a.turn b.turn c.turn a.said b.said c.said first second ab bc

-- after a silent run the same is said as before
pub Silent-at : (a b : HostState) → a.turn ≤ b.turn → Silent a b → b.said b.turn ≡ a.said a.turn
Silent-at a b later ab = GoesOn-at a.turn b.turn a.said b.said later ab

-- runs

-- before the first call
pub started : (a : HostState) (R : Image → Image → Type 0) → Moves a a R
started a R = Stands-moves a a R (Stands-same a)

-- A run goes on by one call. An image comes either by both steps, or by the later one alone from the start.
pub goes_on : (a b c : HostState) (R S T : Image → Image → Type 0)
    → Moves a b R
    → Moves b c S
    → ((d m : Image) → a.left a.turn d → R d m → T d m)
    → ((d e m : Image) → a.left a.turn d → R d e → b.left b.turn e → S e m → T d m)
    → ((e m : Image) → a.left a.turn e → b.left b.turn e → S e m → T e m)
    → Moves a c T
goes_on a b c R S T ab bc earlier both alone = record {
  later = omega (arith, ab.later, bc.later);
  past = λ t m le left. ab.past t m le (bc.past t m (omega (arith, le, ab.later)) left);
  kept = λ t m le left. bc.kept t m (omega (arith, le, ab.later)) (ab.kept t m le left);
  now = now;
}
  where
    from_both : (e m : Image) → b.left b.turn e → S e m → (d : Image) × a.left a.turn d × T d m
    from_both e m left step =
        ⊎_elim
        (λ same. let was : a.left a.turn e = ab.past a.turn e (omega arith) (subst (λ t. b.left t e) (sym same) left) in (e, was, alone e m was left step))
        (λ after. let d = ab.now b.turn e after (omega arith) left in (d.0, d.1, both d.0 e m d.1 d.2 left step))
        (eq-or-lt_of_le ab.later)

    from_earlier : (t : ℕ) (m : Image) → a.turn < t → t ≤ b.turn → b.left t m → (d : Image) × a.left a.turn d × T d m
    from_earlier t m after before left = let d = ab.now t m after before left in (d.0, d.1, earlier d.0 m d.1 d.2)

    now : (t : ℕ) (m : Image) → a.turn < t → t ≤ c.turn → c.left t m → (d : Image) × a.left a.turn d × T d m
    now t m after before left =
        ⊎_elim
        (λ later. let e = bc.now t m later before left in from_both e.0 m e.1 e.2)
        (λ le. from_earlier t m after le (bc.past t m le left))
        (cases_lt b.turn t)

-- less is said of each step
pub weaker : (a b : HostState) (R T : Image → Image → Type 0) → Moves a b R → ((d m : Image) → a.left a.turn d → R d m → T d m) → Moves a b T
weaker a b R T ab less = record {
  later = ab.later;
  past = ab.past;
  kept = ab.kept;
  now = λ t m after before left. let d = ab.now t m after before left in (d.0, d.1, less d.0 m d.1 d.2);
}

-- A run that keeps to one file goes on by a call that keeps to it too.
pub goes_on_file : (a b c : HostState) (name : FileName) (P : List ℕ → Type 0) (S : Image → Image → Type 0)
    → Moves a b (OnFile name P)
    → Moves b c S
    → ((e m : Image) → b.left b.turn e → S e m → OnFile name P e m)
    → Moves a c (OnFile name P)
goes_on_file a b c name P S ab bc keeps =
    goes_on a b c (OnFile name P) S (OnFile name P) ab bc
    (λ d m left step. step)
    (λ d e m start first left step. OnFile-trans name P P d e m first (keeps e m left step))
    (λ e m start left step. keeps e m left step)

-- the first call of such a run
pub first_on_file : (a b : HostState) (name : FileName) (P : List ℕ → Type 0) (S : Image → Image → Type 0)
    → Moves a b S
    → ((d m : Image) → a.left a.turn d → S d m → OnFile name P d m)
    → Moves a b (OnFile name P)
first_on_file a b name P S ab keeps = weaker a b S (OnFile name P) ab keeps

pub weaker_on_file : (a b : HostState) (name : FileName) (P Q : List ℕ → Type 0) → Moves a b (OnFile name P) → ((bytes : List ℕ) → P bytes → Q bytes) → Moves a b (OnFile name Q)
weaker_on_file a b name P Q ab less = weaker a b (OnFile name P) (OnFile name Q) ab (λ d m left step. OnFile-weaker name P Q d m step less)

-- what holds of every image now

-- after a call that took a turn each image comes by its step
pub left_after : (a b : HostState) (R : Image → Image → Type 0) (P Q : Image → Type 0)
    → a.turn < b.turn
    → Moves a b R
    → AllLeft a P
    → ((d m : Image) → P d → R d m → Q m)
    → AllLeft b Q
left_after a b R P Q after ab all step m left =
    let d = ab.now b.turn m after (omega arith) left in
    step d.0 m (all d.0 d.1) d.2

-- what a step keeps is kept by any call
pub left_still : (a b : HostState) (R : Image → Image → Type 0) (P : Image → Type 0) → Moves a b R → AllLeft a P → ((d m : Image) → P d → R d m → P m) → AllLeft b P
left_still a b R P ab all step m left =
    ⊎_elim
    (λ same. all m (ab.past a.turn m (omega arith) (subst (λ t. b.left t m) (sym same) left)))
    (λ after. left_after a b R P P after ab all step m left)
    (eq-or-lt_of_le ab.later)

pub left_weaker : (a : HostState) (P Q : Image → Type 0) → AllLeft a P → ((m : Image) → P m → Q m) → AllLeft a Q
left_weaker a P Q all less m left = less m (all m left)

-- what an image has of a file

pub HasFile-weaker : (name : FileName) (P Q : List ℕ → Type 0) (m : Image) → HasFile name P m → ((bytes : List ℕ) → P bytes → Q bytes) → HasFile name Q m
HasFile-weaker name P Q m has less = record { bytes = has.bytes; there = has.there; file = less has.bytes has.file }

-- the file is found with these bytes, so they have the property
pub HasFile-bytes : (name : FileName) (P : List ℕ → Type 0) (m : Image) (bytes : List ℕ) → HasFile name P m → file_in m name ≡ Some bytes → P bytes
HasFile-bytes name P m bytes has is =
    let same : Some has.bytes ≡ Some bytes = sym has.there ∙ is in
    let same_bytes : has.bytes ≡ bytes = cc in
    subst P same_bytes has.file

pub HasFile-files : (name : FileName) (P : List ℕ → Type 0) (a b : Image) → HasFile name P a → SameFiles a b → HasFile name P b
HasFile-files name P a b has ab = record { bytes = has.bytes; there = ab name ∙ has.there; file = has.file }

pub HasFile-there : (name : FileName) (P : List ℕ → Type 0) (m : Image) → HasFile name P m → IsSome (file_in m name)
HasFile-there name P m has = subst (λ (found : Option (List ℕ)). IsSome found) (sym has.there) refl

-- a step that keeps to the file, from an image that has it
pub HasFile-step : (name : FileName) (P Q : List ℕ → Type 0) (a b : Image) → HasFile name P a → OnFile name Q a b → HasFile name Q b
HasFile-step name P Q a b has step = from_some (file_in b name) refl (step.stays (HasFile-there name P a has))
  where
    from_some : (found : Option (List ℕ)) → file_in b name ≡ found → IsSome found → HasFile name Q b
    from_some None is there = cc
    from_some (Some bytes) is there = record { bytes = bytes; there = is; file = step.file bytes is }

-- a run that keeps to the file, from a state whose images have it
pub left_on_file : (a b : HostState) (name : FileName) (P : List ℕ → Type 0) → Moves a b (OnFile name P) → AllLeft a (λ m. HasFile name P m) → AllLeft b (λ m. HasFile name P m)
left_on_file a b name P ab all = left_still a b (OnFile name P) (λ m. HasFile name P m) ab all (λ d m has step. HasFile-step name P P d m has step)

-- a say leaves every image as it is, whatever it answers
pub Said-moves : (bytes : List ℕ) (a b : HostState) (answer : Result (Unit {0}) HostFault) → Said bytes a b answer → Moves a b SameFiles
Said-moves bytes a b (Ok done) said = said.ok.images
Said-moves bytes a b (Err fault) said = said.failed.images
