-- The walk over the objects, as its loop takes it: those passed are sound and noted. Assumes nothing.
use mathlib.Core.Path.{◌≡◌, sym, ap, ◌∙◌}
use mathlib.Core.Logic.{⊎_elim}
use mathlib.Core.Bool.{Bool, true, false, ◌&&◌, ◌||◌, and-true, and-false, or-false}
use mathlib.Core.List.{List}
use Prim.Native.Nat.{ℕ, suc, ◌+◌, ◌-◌, ◌/◌, ◌%◌, ◌≤◌, ◌<◌}
use native.Mathlib.Omega.{arith}
use lib.Dec.{leb, ltb, eqb}
use lib.ListN.{get_or}
use borrow.Author.Tests.{lt-ltb, le-ltb, lt-leb}
use Rattle.meaning.specs.Places.{marked}
use Rattle.meaning.specs.Objects.{bad, legal_header, parse}
use Rattle.meaning.specs.Words.{starts, live, field}
use Rattle.meaning.proofs.Deciding.{le_or_lt, eq_or_ne, true_or_false}
use Rattle.meaning.proofs.ByWords.{starts-here, starts_in, live_owned, field-test}
use Rattle.meaning.proofs.Walking.{Walking, walking_start, walking-next, walking_end}
use Rattle.bits.specs.Ranges.{end_of, between, set_range}
use Rattle.bits.proofs.Ranges.{between_in, gains_range}
use Rattle.walk.specs.Survey.{Noted, GainsIf, Notes, Blank, Walked}

-- ## One object noted

pub gains_off : (on : Bool) (m : List ℕ) (from to : ℕ) → on ≡ false → GainsIf on m m from to
gains_off on m from to e q = rw e (sym (or-false (marked m q)))

pub gains_on : (on : Bool) (m after : List ℕ) (from to : ℕ) → on ≡ true → to ≤ end_of m → after ≡ set_range m from to → GainsIf on m after from to
gains_on on m after from to e h s q = rw (e, s) (gains_range m from to h q)

-- ## The object at p, of k payload words

module _ {heap : List ℕ} {top p : ℕ} (w : Walking heap top p) {k : ℕ} (long : get_or heap p 0 / 4 ≡ k) where
  is_first : (q : ℕ) → p ≤ q → q < p + 1 + k → starts heap q ≡ between p (p + 1) q
  is_first q h l = ⊎_elim
      (λ (e : q ≡ p). rw e (starts-here heap p w.start ∙ sym (between_in p (p + 1) p (omega arith) (omega arith))))
      (λ ne. let s : suc (p + (q - suc p)) ≡ q = omega arith in
      (rw s at (starts_in heap p k w.start long (q - suc p) (omega arith))) ∙ sym (rw (le-ltb q (p + 1) (omega arith)) (and-false (leb p q))))
      (eq_or_ne q p)

  module _ (m : ℕ → Bool) where
    is-kept : (q : ℕ) → p ≤ q → q < p + 1 + k → live heap m q ≡ m p && between p (p + 1 + k) q
    is-kept q h l =
        let s : p + (q - p) ≡ q = omega arith in
        (rw s at (live_owned heap m p k w.start long (q - p) (omega arith))) ∙ sym (rw (between_in p (p + 1 + k) q h l) (and-true (m p)))

    is-payload : (q : ℕ) → p ≤ q → q < p + 1 + k → live heap m q && field heap q ≡ (m p && eqb (get_or heap p 0 % 4) 0) && between (p + 1) (p + 1 + k) q
    unfolding field
    is-payload q h l = ⊎_elim
        (λ (e : q ≡ p).
        rw (e, starts-here heap p w.start, lt-leb (p + 1) p (omega arith), and-false (live heap m p), and-false (m p && eqb (get_or heap p 0 % 4) 0)))
        (λ ne. let s : suc (p + (q - suc p)) ≡ q = omega arith in
        rw (between_in (p + 1) (p + 1 + k) q (omega arith) l, and-true (m p && eqb (get_or heap p 0 % 4) 0)) (⊎_elim
        (λ (e : m p ≡ true). rw e (rw s at (field-test heap m p k w.start long e (q - suc p) (omega arith))))
        (λ (e : m p ≡ false). rw (e, is-kept q h l, e))
        (true_or_false (m p))))
        (eq_or_ne q p)

-- ## The loop

-- a bitmap of the places below p that pass, grown to those below next
grown : (t : ℕ → Bool) (on : Bool) (from to : ℕ) (before after : List ℕ) {p next : ℕ} → p ≤ from → (p ≤ next) × (to ≤ next)
    → ((q : ℕ) → p ≤ q → q < next → t q ≡ on && between from to q)
    → ((q : ℕ) → marked before q ≡ ltb q p && t q) → GainsIf on before after from to → (q : ℕ) → marked after q ≡ ltb q next && t q
grown t on from to before after {p} {next} h l new old g q =
    g q ∙ ap (λ (b : Bool). b || on && between from to q) (old q)
    ∙ ⊎_elim
    (λ (i : p ≤ q). rw (le-ltb q p i) (⊎_elim
    (λ (j : next ≤ q). rw (le-ltb q next j, le-ltb q to (omega arith), and-false (leb from q)) (and-false on))
    (λ (j : q < next). rw (lt-ltb q next j) (sym (new q i j)))
    (le_or_lt next q)))
    (λ (i : q < p). rw (lt-ltb q p i, lt-ltb q next (omega arith), lt-leb from q (omega arith), and-false on) (or-false (t q)))
    (le_or_lt p q)

-- the objects before p are sound, and noted
pub record Passing (heap : List ℕ) (top : ℕ) (m : ℕ → Bool) (p : ℕ) (headers words fields : List ℕ) : Type 0 where
  pub walking : Walking heap top p
  pub noted : Noted heap m p headers words fields

pub passing_start : {heap : List ℕ} {top : ℕ} {m : ℕ → Bool} {headers words fields : List ℕ} → Blank heap top headers words fields
    → Passing heap top m 0 headers words fields
passing_start {heap} {top} b =
    record {
      walking = walking_start heap top b.room;
      noted = record { is_header = λ q. none q _ _ (b.no_header q); is_live = λ q. none q _ _ (b.no_word q); is_field = λ q. none q _ _ (b.no_field q) };
    }
  where
    none : (q : ℕ) (noted t : Bool) → noted ≡ false → noted ≡ ltb q 0 && t
    none q noted t e = rw (le-ltb q 0 (omega arith)) e

module _ {heap : List ℕ} {top : ℕ} {m : ℕ → Bool} {p : ℕ} {headers words fields : List ℕ} (s : Passing heap top m p headers words fields) where
  pub passing_next : (k : ℕ) (headers' words' fields' : List ℕ) → p < top → k ≡ get_or heap p 0 / 4 → legal_header (get_or heap p 0) ≡ true → p + 1 + k ≤ top
      → Notes p (p + 1 + k) (m p) (eqb (get_or heap p 0 % 4) 0) headers words fields headers' words' fields' → Passing heap top m (p + 1 + k) headers' words' fields'
  passing_next k headers' words' fields' here e legal fits n =
      let w = s.walking in
      record {
        walking = walking-next w here k e legal fits;
        noted = record {
          is_header = grown (starts heap) true p (p + 1) headers headers' (omega arith) (omega arith) (is_first w (sym e)) s.noted.is_header n.header_gained;
          is_live = grown (live heap m) (m p) p (p + 1 + k) words words' (omega arith) (omega arith) (is-kept w (sym e) m) s.noted.is_live n.words_gained;
          is_field = grown (λ q. live heap m q && field heap q) (m p && eqb (get_or heap p 0 % 4) 0) (p + 1) (p + 1 + k) fields fields' (omega arith) (omega arith) (is-payload w (sym e) m) s.noted.is_field n.fields_gained;
        };
      }

  pub passing_stop : p < top → parse heap top ≡ bad p → Walked heap top m headers words fields p
  passing_stop here e = record { low = omega arith; stopped = λ l. e; through = λ z. absurd (omega arith) }

  pub passing_end : p ≡ top → Walked heap top m headers words fields p
  passing_end e =
      record {
        low = omega arith;
        stopped = λ l. absurd (omega arith);
        through = λ z. ((s.walking.objects, walking_end s.walking e), rw e at s.noted);
      }
