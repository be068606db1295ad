-- Each function's promise settles its answer, and reading and making undo each other. Assumes nothing.
use mathlib.Core.Path.{◌≡◌, refl, sym, ap, ◌∙◌}
use mathlib.Core.Bool.{Bool}
use Prim.Native.Nat.{ℕ, ◌<◌}
use Rattle.std.proofs.Common.{Result, Ok}
use lib.IntN.{ℤ}
use Rattle.meaning.specs.Answers.{gives}
use Rattle.meaning.specs.Values.{Value, int, nil, ref, nil_word, place_of, word_of, make}
use Rattle.meaning.proofs.ValueWords.{ref-value, value-ref, place_half, make-read, read-make}
use Rattle.refusals.specs.declared.Refusal.{Refusal}
use Rattle.refusals.proofs.OneToOne.{answer_one}
use Rattle.words.specs.Paper.{shown_value, made_word}
use Rattle.words.specs.declared.Word.{Word}
use Rattle.words.specs.declared.Place.{Place}
use Rattle.words.specs.declared.Shown.{Shown}
use Rattle.words.specs.declared.Shown.TheVariants.{Int, Nil, Ref}
use Rattle.words.proofs.Place.at.Reads as at
use Rattle.words.proofs.Place.number.Reads as number
use Rattle.words.proofs.Word.from_bits.Reads as from_bits
use Rattle.words.proofs.Word.bits.Reads as bits
use Rattle.words.proofs.Word.shown.Reads as shown
use Rattle.words.proofs.Word.is_ref.Reads as is_ref
use Rattle.words.proofs.Word.ref_bit.Reads as ref-bit
use Rattle.words.proofs.Word.target.Reads as target
use Rattle.words.proofs.Word.of_int.Reads as of-int
use Rattle.words.proofs.Word.of_place.Reads as of-place

-- ## One to one
abbrev place : ℕ → Place
place n = record { 0 = n }

abbrev word : ℕ → Word
word n = record { 0 = n }

abbrev value_shown : Value → Shown
value_shown (int v) = Int v
value_shown nil = Nil
value_shown (ref p) = Ref (place p)

shown_back : (r : Shown) → value_shown (shown_value r) ≡ r
shown_back (Int v) = refl
shown_back Nil = refl
shown_back (Ref p) = refl

pub shown_value_one : (r s : Shown) → shown_value r ≡ shown_value s → r ≡ s
shown_value_one r s e = cc (ap value_shown e, shown_back r, shown_back s)

pub made_word_one : (m n : Result Word Refusal) → made_word m ≡ made_word n → m ≡ n
made_word_one = answer_one (λ w. w.0) word (λ w. refl)

-- ## What each function promises of its argument and its answer
abbrev pub At : ℕ → Place → Type 0
At n r = at.Post tt (n, tt) r (n, tt)

abbrev pub Number : Place → ℕ → Type 0
Number p r = number.Post tt (p, tt) r (p, tt)

abbrev pub FromBits : ℕ → Word → Type 0
FromBits n r = from_bits.Post tt (n, tt) r (n, tt)

abbrev pub Bits : Word → ℕ → Type 0
Bits w r = bits.Post tt (w, tt) r (w, tt)

abbrev pub Shows : Word → Shown → Type 0
Shows w r = shown.Post tt (w, tt) r (w, tt)

abbrev pub IsRef : Word → Bool → Type 0
IsRef w r = is_ref.Post tt (w, tt) r (w, tt)

abbrev pub RefBit : Word → ℕ → Type 0
RefBit w r = ref-bit.Post tt (w, tt) r (w, tt)

abbrev pub Target : Word → Place → Type 0
Target w r = target.Post tt (w, tt) r (w, tt)

abbrev pub OfInt : ℤ → Result Word Refusal → Type 0
OfInt v r = of-int.Post tt (v, tt) r (v, tt)

abbrev pub OfPlace : Place → Result Word Refusal → Type 0
OfPlace p r = of-place.Post tt (p, tt) r (p, tt)

-- ## Two answers that meet a promise are equal
abbrev pub Settles : {A B : Type 0} → (A → B → Type 0) → Type 0
Settles {A} {B} Promise = (a : A) (r s : B) → Promise a r → Promise a s → r ≡ s

pub at_settled : Settles At
at_settled n r s p q = ap place (p ∙ sym q)

pub number_settled : Settles Number
number_settled n r s p q = p ∙ sym q

pub from_bits_settled : Settles FromBits
from_bits_settled n r s p q = ap word (p ∙ sym q)

pub bits_settled : Settles Bits
bits_settled w r s p q = p ∙ sym q

pub shown_settled : Settles Shows
shown_settled w r s p q = shown_value_one r s (p ∙ sym q)

pub is_ref_settled : Settles IsRef
is_ref_settled w r s p q = p ∙ sym q

pub ref_bit_settled : Settles RefBit
ref_bit_settled w r s p q = p ∙ sym q

pub target_settled : Settles Target
target_settled w r s p q = ap place (p ∙ sym q)

pub of_int_settled : Settles OfInt
of_int_settled v r s p q = made_word_one r s (p ∙ sym q)

pub of_place_settled : Settles OfPlace
of_place_settled n r s p q = made_word_one r s (p ∙ sym q)

-- ## What is made is read back
made_shown : (v : Shown) (w : Word) (r : Shown) → make (shown_value v) ≡ gives w.0 → Shows w r → r ≡ v
made_shown v w r m s = shown_value_one r v (s ∙ read-make (shown_value v) w.0 m)

pub of_int-shown : (v : ℤ) (w : Word) (r : Shown) → OfInt v (Ok w) → Shows w r → r ≡ Int v
of_int-shown v w r m s = made_shown (Int v) w r (sym m) s

pub of_place-shown : (p : Place) (w : Word) (r : Shown) → OfPlace p (Ok w) → Shows w r → r ≡ Ref p
of_place-shown p w r m s = made_shown (Ref p) w r (sym m) s

pub nil-shown : (w : Word) (r : Shown) → w.0 ≡ nil_word → Shows w r → r ≡ Nil
unfolding make word_of
nil-shown w r m s = made_shown Nil w r (ap gives (sym m)) s

-- ## What is read is made again
shown_made : (w : Word) (r : Shown) → w.0 < 4294967296 → Shows w r → make (shown_value r) ≡ gives w.0
shown_made w r h s = rw s (make-read w.0 h)

pub shown-of_int : (w : Word) (v : ℤ) (m : Result Word Refusal) → w.0 < 4294967296 → Shows w (Int v) → OfInt v m → m ≡ Ok w
shown-of_int w v m h s o = made_word_one m (Ok w) (o ∙ shown_made w (Int v) h s)

pub shown-of_place : (w : Word) (p : Place) (m : Result Word Refusal) → w.0 < 4294967296 → Shows w (Ref p) → OfPlace p m → m ≡ Ok w
shown-of_place w p m h s o = made_word_one m (Ok w) (o ∙ shown_made w (Ref p) h s)

pub shown-nil : (w : Word) → w.0 < 4294967296 → Shows w Nil → w.0 ≡ nil_word
unfolding make word_of
shown-nil w h s = cc (shown_made w Nil h s)

-- ## The target of a reference is the place that it shows
pub target-shown : (w : Word) (p r : Place) → Shows w (Ref p) → Target w r → r ≡ p
target-shown w p r s t =
    let is = value-ref w.0 p.0 (sym s) in
    let same : place_of w.0 ≡ p.0 = cc (ref-value w.0 is) in
    ap place (t ∙ sym (place_half w.0 is) ∙ same)
