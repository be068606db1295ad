-- Two good values have the same word exactly when they are the same value. Assumes nothing.
use mathlib.Core.Path.{◌≡◌, refl, sym, ap, ◌∙◌}
use mathlib.Core.Bool.{true}
use mathlib.Core.List.{List, [], ◌∷◌}
use Prim.Native.Nat.{ℕ, zero, suc, ◌≤◌, ◌<◌}
use native.Mathlib.Omega.{arith}
use borrow.Author.Tests.{le-leb, eqb-true, eq-eqb}
use lib.IntN.{pos, negsuc}
use lib.Dec.{eqb}
use Rattle.meaning.specs.Limits.{heap_words}
use Rattle.meaning.specs.Values.{Value, int, nil, ref, last_place, word_of, has_word}
use Rattle.meaning.specs.SimpleList.{Born, words, in_use, place, the, same_value}
use Rattle.meaning.proofs.Deciding.{same_test}
use Rattle.meaning.proofs.ValueWords.{word_one}
use Rattle.meaning.proofs.Births.{value_word, Good, place-below}

-- a value with a birth number sent to a place
abbrev placed : (ℕ → ℕ) → Value → Value
placed f (int z) = int z
placed f nil = nil
placed f (ref i) = ref (f i)

word-placed : (f : ℕ → ℕ) (v : Value) → value_word f v ≡ word_of (placed f v)
unfolding word_of
word-placed f (int z) = refl
word-placed f nil = refl
word-placed f (ref i) = refl

good_has : (os : List Born) (v : Value) → in_use os ≤ heap_words → Good os v → has_word (placed (place os) v) ≡ true
good_has os (int z) small h = h
good_has os nil small h = refl
good_has os (ref i) small h = let b = place-below os i 0 h in le-leb (place os i) last_place (omega arith)

-- objects that stand lie at different places
place_one : (os : List Born) (i j : ℕ) → 0 < words (the os i) → 0 < words (the os j) → place os i ≡ place os j → i ≡ j
place_one [] i j h k e = absurd (omega arith)
place_one (o ∷ os) zero zero h k e = refl
place_one (o ∷ os) zero (suc j) h k e = absurd (omega arith)
place_one (o ∷ os) (suc i) zero h k e = absurd (omega arith)
place_one (o ∷ os) (suc i) (suc j) h k e = ap suc (place_one os i j h k (omega arith))

placed_one : (os : List Born) (v u : Value) → Good os v → Good os u → placed (place os) v ≡ placed (place os) u → v ≡ u
placed_one os (int z) (int y) h k e = e
placed_one os (int z) nil h k e = e
placed_one os (int z) (ref j) h k e = absurd (let x : ◌≡◌ {A = ℕ} 0 1 = cc in omega arith)
placed_one os nil (int y) h k e = e
placed_one os nil nil h k e = e
placed_one os nil (ref j) h k e = absurd (let x : ◌≡◌ {A = ℕ} 0 1 = cc in omega arith)
placed_one os (ref i) (int y) h k e = absurd (let x : ◌≡◌ {A = ℕ} 0 1 = cc in omega arith)
placed_one os (ref i) nil h k e = absurd (let x : ◌≡◌ {A = ℕ} 0 1 = cc in omega arith)
placed_one os (ref i) (ref j) h k e = ap ref (place_one os i j h k (let q : place os i ≡ place os j = cc in q))

same_self : (v : Value) → same_value v v ≡ true
same_self (int (pos n)) = eq-eqb n n refl
same_self (int (negsuc n)) = eq-eqb n n refl
same_self nil = refl
same_self (ref i) = eq-eqb i i refl

same_is : (v u : Value) → same_value v u ≡ true → v ≡ u
same_is (int (pos x)) (int (pos y)) e = ap (λ (n : ℕ). int (pos n)) (eqb-true x y e)
same_is (int (pos x)) (int (negsuc y)) e = cc
same_is (int (negsuc x)) (int (pos y)) e = cc
same_is (int (negsuc x)) (int (negsuc y)) e = ap (λ (n : ℕ). int (negsuc n)) (eqb-true x y e)
same_is (int x) nil e = cc
same_is (int x) (ref j) e = cc
same_is nil (int y) e = cc
same_is nil nil e = refl
same_is nil (ref j) e = cc
same_is (ref i) (int y) e = cc
same_is (ref i) nil e = cc
same_is (ref i) (ref j) e = ap ref (eqb-true i j e)

pub same_word : (os : List Born) → in_use os ≤ heap_words → (v u : Value) → Good os v → Good os u
    → eqb (value_word (place os) v) (value_word (place os) u) ≡ same_value v u
same_word os small v u h k =
    let f = place os in
    same_test true (eqb (value_word f v) (value_word f u)) (same_value v u)
    (λ e.
    let w : word_of (placed f v) ≡ word_of (placed f u) = sym (word-placed f v) ∙ (eqb-true _ _ e ∙ word-placed f u) in
    let x : v ≡ u = placed_one os v u h k (word_one _ _ (good_has os v small h) (good_has os u small k) w) in
    rw x (same_self u))
    (λ e. eq-eqb _ _ (ap (value_word f) (same_is v u e)))
