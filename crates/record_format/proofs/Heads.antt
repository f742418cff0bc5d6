-- The parts of an item's spelling, put one behind another.
use Rattle.std.proofs.Common.{◌≡◌, ◌++◌, ◌∷◌, [], List, ℕ, length, append_assoc, append-nil, sym, ap, ◌∙◌, subst}
use Rattle.std.specs.Prelude.{Result, OnOk, Ok, Err}
use Rattle.std.specs.Int.{to_be_bytes, w16, w32, w64}
use Rattle.cache_model.specs.declared.entries.Until.{Until}
use Rattle.cache_model.specs.Items.{put, removal, end, spelling, until_number}
use Rattle.record_format.specs.declared.items.OwnItem.{OwnItem}
use Rattle.record_format.specs.declared.items.OwnItem.TheVariants.{Put, Removal, End}
use Rattle.record_format.specs.Meaning.{own_item}

-- what holds after Ok
ok-then : {T E : Type 0} (result : Result T E) (P Q : Type 0) → (P → Q) → OnOk result P → OnOk result Q
ok-then (Ok x) P Q go p = go p
ok-then (Err e) P Q go p = p

put-spelling : (out new : List ℕ) (seq : ℕ) (until : Until) (key value : List ℕ) (head_bytes key_bytes value_bytes : List ℕ)
    → head_bytes ≡ (1 ∷ []) ++ to_be_bytes w64 seq ++ to_be_bytes w64 (until_number until) ++ to_be_bytes w16 (length key_bytes) ++ to_be_bytes w32 (length value_bytes)
    → key_bytes ≡ key → value_bytes ≡ value
    → new ≡ out ++ head_bytes ++ key_bytes ++ value_bytes
    → new ≡ out ++ spelling (put seq until key value)
unfolding spelling
put-spelling out new seq until key value head_bytes key_bytes value_bytes h k v is =
    let head_of : List ℕ → List ℕ → List ℕ = λ a b. (1 ∷ []) ++ to_be_bytes w64 seq ++ to_be_bytes w64 (until_number until) ++ to_be_bytes w16 (length a) ++ to_be_bytes w32 (length b) in
    is
    ∙ ap (λ xs. out ++ xs ++ key_bytes ++ value_bytes) h
    ∙ ap (λ xs. out ++ head_of xs value_bytes ++ xs ++ value_bytes) k
    ∙ ap (λ xs. out ++ head_of key xs ++ key ++ xs) v
    ∙ ap (λ xs. xs ++ value) (append_assoc out (head_of key value) key)
    ∙ append_assoc out (head_of key value ++ key) value

pub put-appended : {T E : Type 0} (result : Result T E) (out new : List ℕ) (seq : ℕ) (until : Until) (key value : List ℕ) (head_bytes key_bytes value_bytes : List ℕ)
    → head_bytes ≡ (1 ∷ []) ++ to_be_bytes w64 seq ++ to_be_bytes w64 (until_number until) ++ to_be_bytes w16 (length key_bytes) ++ to_be_bytes w32 (length value_bytes)
    → key_bytes ≡ key → value_bytes ≡ value
    → OnOk result (new ≡ out ++ head_bytes ++ key_bytes ++ value_bytes)
    → (item : OwnItem) → item ≡ Put seq until key value
    → OnOk result (new ≡ out ++ spelling (own_item item))
put-appended result out new seq until key value head_bytes key_bytes value_bytes h k v appended item is =
    subst (λ i. OnOk result (new ≡ out ++ spelling (own_item i))) (sym is)
    (ok-then result _ _ (put-spelling out new seq until key value head_bytes key_bytes value_bytes h k v) appended)

removal-spelling : (out new : List ℕ) (seq : ℕ) (key head_bytes key_bytes : List ℕ)
    → head_bytes ≡ (2 ∷ []) ++ to_be_bytes w64 seq ++ to_be_bytes w16 (length key_bytes)
    → key_bytes ≡ key → new ≡ out ++ head_bytes ++ key_bytes ++ []
    → new ≡ out ++ spelling (removal seq key)
unfolding spelling
removal-spelling out new seq key head_bytes key_bytes h k is =
    let head_of : List ℕ → List ℕ = λ a. (2 ∷ []) ++ to_be_bytes w64 seq ++ to_be_bytes w16 (length a) in
    is
    ∙ append-nil (out ++ head_bytes ++ key_bytes)
    ∙ ap (λ xs. out ++ xs ++ key_bytes) h
    ∙ ap (λ xs. out ++ head_of xs ++ xs) k
    ∙ append_assoc out (head_of key) key

pub removal-appended : {T E : Type 0} (result : Result T E) (out new : List ℕ) (seq : ℕ) (key head_bytes key_bytes : List ℕ)
    → head_bytes ≡ (2 ∷ []) ++ to_be_bytes w64 seq ++ to_be_bytes w16 (length key_bytes)
    → key_bytes ≡ key → OnOk result (new ≡ out ++ head_bytes ++ key_bytes ++ [])
    → (item : OwnItem) → item ≡ Removal seq key
    → OnOk result (new ≡ out ++ spelling (own_item item))
removal-appended result out new seq key head_bytes key_bytes h k appended item is =
    subst (λ i. OnOk result (new ≡ out ++ spelling (own_item i))) (sym is)
    (ok-then result _ _ (removal-spelling out new seq key head_bytes key_bytes h k) appended)

end-spelling : (out new : List ℕ) (moment : ℕ) (bytes : List ℕ) → bytes ≡ (0 ∷ []) ++ to_be_bytes w64 moment → new ≡ out ++ bytes ++ [] ++ [] → new ≡ out ++ spelling (end moment)
unfolding spelling
end-spelling out new moment bytes b is = is ∙ append-nil (out ++ bytes ++ []) ∙ append-nil (out ++ bytes) ∙ ap (λ xs. out ++ xs) b

pub end-appended : {T E : Type 0} (result : Result T E) (out new : List ℕ) (moment : ℕ) (bytes : List ℕ)
    → bytes ≡ (0 ∷ []) ++ to_be_bytes w64 moment → OnOk result (new ≡ out ++ bytes ++ [] ++ [])
    → (item : OwnItem) → item ≡ End moment
    → OnOk result (new ≡ out ++ spelling (own_item item))
end-appended result out new moment bytes b appended item is =
    subst (λ i. OnOk result (new ≡ out ++ spelling (own_item i))) (sym is) (ok-then result _ _ (end-spelling out new moment bytes b) appended)
