-- Texts placed in a buffer: one, and one after another. Assumes nothing.
use Prim.Native.Nat.{ℕ, ◌+◌, ◌-◌, ◌≤◌}
use mathlib.Core.Path.{◌≡◌, refl, ap, sym, ◌∙◌}
use mathlib.Core.List.{List, [], ◌++◌, append_assoc, append-nil}
use native.Mathlib.Omega.{arith}
use lib.ListN.{length, take, drop, length-append}
use lib.Seq.{drop-drop}
use borrow.Rule.Slice.PartMut.{put_mid}
use Rattle.std.proofs.lemmas.Slice.{take-put_mid, drop-put_mid}
use Rattle.text.specs.Placed.{Placed, Puts}
use Rattle.text.specs.declared.Line.{Line}

-- what agrees from p on agrees from q on
drop_more : (l l' : List ℕ) (p q : ℕ) → p ≤ q → drop p l' ≡ drop p l → drop q l' ≡ drop q l
drop_more l l' p q h e =
    let g : q ≡ p + (q - p) = omega arith in
    let f : (x : List ℕ) → drop q x ≡ drop (q - p) (drop p x) = λ x. ap (λ (j : ℕ). drop j x) g ∙ sym (drop-drop (q - p) p x) in
    f l' ∙ ap (drop (q - p)) e ∙ sym (f l)

-- a part written
pub placed_part : (l part text : List ℕ) (at k r : ℕ) → part ≡ text → k ≡ length text → r ≡ at + k → r ≤ length l → Placed l (put_mid at k l part) at text (length text) r
placed_part l part text at k r e same end inside =
    let n : length part ≡ length text = ap length e in
    record {
      ends = omega arith;
      within = omega arith;
      written = rw (← e) (take-put_mid at k l part r (omega arith) (omega arith));
      rest = drop-put_mid at k l part r (omega arith) (omega arith) (omega arith);
    }

-- a higher bound holds too
pub placed-within : {l l' w : List ℕ} {at r most most' : ℕ} → most ≤ most' → Placed l l' at w most r → Placed l l' at w most' r
placed-within more p =
    record { ends = p.ends; within = omega (arith, p.within); written = p.written; rest = p.rest }

-- one text after another
placed-then :
    {l l' l'' : List ℕ} {at p r most most' : ℕ} {v w : List ℕ}
    → Placed l l' at v most p → Placed l' l'' p w most' r → Placed l l'' at (v ++ w) (most + most') r
placed-then {l} {l'} {at = at} {p} {r} {v = v} {w} first second = record {
  ends = omega (arith, length-append v w, first.ends, second.ends);
  within = omega (arith, first.within, second.within);
  written = (second.written ∙ ap (λ (x : List ℕ). x ++ w) first.written) ∙ append_assoc (take at l) v w;
  rest = second.rest ∙ drop_more l l' p r (omega (arith, second.ends)) first.rest;
}

pub puts-then : {a b c : Line} {v w : List ℕ} {most most' : ℕ} → Puts a b v most → Puts b c w most' → Puts a c (v ++ w) (most + most')
puts-then first second = record {
  same_buffer = second.same_buffer ∙ first.same_buffer;
  same_size = second.same_size ∙ first.same_size;
  placed = placed-then first.placed second.placed;
}

pub puts-within : {a b : Line} {w : List ℕ} {most most' : ℕ} → most ≤ most' → Puts a b w most → Puts a b w most'
puts-within more p = record { same_buffer = p.same_buffer; same_size = p.same_size; placed = placed-within more p.placed }

-- the buffer at the end is the line's, which is still the one lent
pub puts-end : {a b : Line} {w after : List ℕ} {most most' : ℕ} → most ≤ most' → Puts a b w most → (a.out.ghost_name ≡ b.out.ghost_name → after ≡ b.out.now) → Placed a.out.now after a.at w most' b.at
puts-end more p same = rw (same (sym p.same_buffer)) (placed-within more p.placed)

pub puts-none : (a : Line) → Puts a a [] 0
puts-none a = record {
  same_buffer = refl;
  same_size = refl;
  placed = record { ends = omega arith; within = omega arith; written = sym (append-nil _); rest = refl };
}
