-- A bitmap of which only the marks that pass a test are kept, word by word. Assumes nothing.
use mathlib.Core.Path.{◌≡◌, refl, sym, ap, ◌∙◌}
use mathlib.Core.Logic.{⊎_elim, ◌≢◌}
use mathlib.Core.Bool.{Bool, false, ◌&&◌}
use mathlib.Core.List.{List}
use Prim.Native.Nat.{ℕ, ◌+◌, ◌*◌, ◌/◌, ◌%◌, ◌≤◌, ◌<◌}
use native.Mathlib.Omega.{arith}
use lib.ListN.{length, get_or, set, length-set}
use lib.Seq.{get_or-set_same, get_or-set_other}
use Rattle.meaning.specs.Limits.{block_words}
use Rattle.meaning.specs.Places.{bit_set, marked}
use Rattle.meaning.proofs.Deciding.{le_or_lt, eq_or_ne}
use Rattle.meaning.proofs.Bitmaps.{marked-block, marked_out}

-- a word stored elsewhere
set_other : (m : List ℕ) (b w q : ℕ) → q / block_words ≢ b → marked (set m b w) q ≡ marked m q
unfolding marked
set_other m b w q ne = ap (λ (x : ℕ). bit_set x (q % block_words)) (get_or-set_other m b (q / block_words) w 0 ne)

module _ (t : ℕ → Bool) (before : List ℕ) where
  -- the first b words are done, the others as before
  pub record Keeping (now : List ℕ) (b : ℕ) : Type 0 where
    pub same_length : length now ≡ length before
    pub done : (q : ℕ) → q < block_words * b → marked now q ≡ marked before q && t q
    pub rest : (q : ℕ) → block_words * b ≤ q → marked now q ≡ marked before q

  pub keeping_start : Keeping before 0
  keeping_start = record { same_length = refl; done = λ q h. absurd (omega arith); rest = λ q h. refl }

  module _ (now : List ℕ) (b : ℕ) (k : Keeping now b) where
    pub word-left : (i : ℕ) → i < block_words → bit_set (get_or now b 0) i ≡ marked before (block_words * b + i)
    word-left i h = sym (marked-block now b i h) ∙ k.rest (block_words * b + i) (omega arith)

    pub keeping-next : (w : ℕ) → b < length now → ((i : ℕ) → bit_set w i ≡ bit_set (get_or now b 0) i && t (block_words * b + i)) → Keeping (set now b w) (b + 1)
    keeping-next w h a = record {
      same_length = length-set now b w ∙ k.same_length;
      done = λ q l. ⊎_elim
          (λ (e : q / block_words ≡ b).
          let p : block_words * b + q % block_words ≡ q = omega arith in
          rw (← p) (marked-block (set now b w) b (q % block_words) (omega arith) ∙ ap (λ (x : ℕ). bit_set x (q % block_words)) (get_or-set_same now b w 0 h) ∙ a (q % block_words)
          ∙ ap (λ (x : Bool). x && t (block_words * b + q % block_words)) (word-left (q % block_words) (omega arith))))
          (λ (ne : q / block_words ≢ b). set_other now b w q ne ∙ k.done q (omega (arith, ne)))
          (eq_or_ne (q / block_words) b);
      rest = λ q l. set_other now b w q (λ e. omega arith) ∙ k.rest q (omega arith);
    }

    pub keeping-end : length now ≤ b → (q : ℕ) → marked now q ≡ marked before q && t q
    keeping-end h q = ⊎_elim
        (λ (l : block_words * b ≤ q).
        let gone : marked before q ≡ false = marked_out before q (omega (arith, k.same_length)) in
        k.rest q l ∙ gone ∙ sym (ap (λ (x : Bool). x && t q) gone))
        (λ (l : q < block_words * b). k.done q l)
        (le_or_lt (block_words * b) q)
