-- Words put into a list one by one. Assumes nothing.
use mathlib.Core.Path.{◌≡◌, refl, sym, ap, ◌∙◌}
use mathlib.Core.List.{List, [], ◌∷◌, ◌++◌, append_assoc}
use Prim.Native.Nat.{ℕ, zero, suc, ◌+◌, ◌<◌}
use native.Mathlib.Nat.{add-zero}
use native.Mathlib.Omega.{arith}
use native.Mathlib.Numerals.{add-one}
use lib.ListN.{length, get_or, take, drop, set, replicate, length-append, length-take, length-replicate, take-append-drop}
use lib.Seq.{drop-cons, set_at, append_snoc, take-suc-set, drop-set-lt}
use Rattle.births.specs.Births.{put}

pub put_none : (h : List ℕ) (at w : ℕ) → h ≡ put h at (replicate 0 w)
put_none h at w = rw add-zero (sym (take-append-drop at h))

replicate_snoc : (i w : ℕ) → replicate i w ++ (w ∷ []) ≡ w ∷ replicate i w
replicate_snoc zero w = refl
replicate_snoc (suc i) w = ap (λ (l : List ℕ). w ∷ l) (replicate_snoc i w)

shift : (a b d : List ℕ) (w : ℕ) → b ++ (w ∷ []) ≡ w ∷ b → (a ++ b) ++ (w ∷ d) ≡ a ++ ((w ∷ b) ++ d)
shift a b d w s = append_assoc a b (w ∷ d) ∙ ap (λ (l : List ℕ). a ++ l) (sym (append_assoc b (w ∷ []) d) ∙ ap (λ (l : List ℕ). l ++ d) s)

-- one more of the same word
pub put_more : (h : List ℕ) (at i w : ℕ) → at + i < length h → set (put h at (replicate i w)) (at + i) w ≡ put h at (replicate (suc i) w)
put_more h at i w e =
    let lp : length (take at h ++ replicate i w) ≡ at + i = simp (length-append, length-take, length-replicate) (omega arith) in
    let q : at + suc i ≡ suc (at + i) = omega arith in
    rw (length-replicate i w, drop-cons h (at + i) 0, q, ← append_assoc (take at h) (replicate i w) (get_or h (at + i) 0 ∷ drop (suc (at + i)) h))
    (set_at (take at h ++ replicate i w) (get_or h (at + i) 0) (drop (suc (at + i)) h) w (at + i) lp ∙ shift (take at h) (replicate i w) (drop (suc (at + i)) h) w (replicate_snoc i w))

-- a first word, and the others behind it
pub put_head : (h : List ℕ) (at x : ℕ) (ws : List ℕ) → at < length h → put (set h at x) (at + 1) ws ≡ put h at (x ∷ ws)
put_head h at x ws e =
    let q : at + 1 + length ws ≡ at + suc (length ws) = omega arith in
    rw (q, drop-set-lt (at + suc (length ws)) h at x (omega arith), add-one at, take-suc-set h at x e, append_snoc (take at h) x (ws ++ drop (at + suc (length ws)) h))
